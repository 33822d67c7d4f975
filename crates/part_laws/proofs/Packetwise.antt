-- What a trace gives a key is what its packets give it in sequence.
use Rattle.part_laws.proofs.Words.{◌≡◌, ℕ, suc, List, [], ◌∷◌, ◌++◌, map, flat_map, Option, Some, None, refl, sym, ap, ◌∙◌, slice_get, Key}
use Rattle.part_laws.proofs.Words.{ArgRow, key_eq, by_test, TypedQuery, Taking, takings, values_at, use_of, taken_by, uses, row_at}
use Rattle.part_laws.proofs.Words.{all_rows, tuple_of, tuples, stream_rows, rows_used}
use Rattle.stage_plan.proofs.StreamRows.{Row}

-- what one packet gives the key
abbrev pub rows_of_one : TypedQuery → ℕ → Key → List ℕ → List ArgRow
rows_of_one q i key words = rows_used key (uses q i (words ∷ []))

pub same_each : {A B : Type 0} (f h : A → List B) (xs : List A) → ((x : A) → f x ≡ h x) → flat_map f xs ≡ flat_map h xs
same_each f h [] e = refl
same_each f h (x ∷ xs) e = ap (λ ys. ys ++ flat_map f xs) (e x) ∙ ap (λ ys. h x ++ ys) (same_each f h xs e)

module _ (t : Taking) (f : List ℕ → Row) (key : Key) where
  -- the rows of packets that have numbers from this one on
  abbrev along : ℕ → List (List ℕ) → List ArgRow
  along n packets = rows_used key (map (use_of t) (tuples f n packets))

  one_more : (n : ℕ) (words : List ℕ) (packets : List (List ℕ)) → along n (words ∷ packets) ≡ along 1 (words ∷ []) ++ along (suc n) packets
  one_more n words packets = go _
    where
      go : (o : Row) → rows_used key (map (use_of t) (tuple_of n o ++ tuples f (suc n) packets)) ≡ rows_used key
          (map (use_of t) (tuple_of 1 o ++ [])) ++ along (suc n) packets
      go None = refl
      go (Some row) = by_test (key_eq (values_at row t.keys) key) (λ e. rw e refl) (λ e. rw e refl)

  each_alone : (n : ℕ) (packets : List (List ℕ)) → along n packets ≡ flat_map (λ words. along 1 (words ∷ [])) packets
  each_alone n [] = refl
  each_alone n (words ∷ packets) = one_more n words packets ∙ ap (λ rows. along 1 (words ∷ []) ++ rows) (each_alone _ packets)

none_taken : (packets : List (List ℕ)) → let none : List ArgRow = [] in none ≡ flat_map (λ words. none) packets
none_taken [] = refl
none_taken (words ∷ packets) = none_taken packets

-- the rows of a trace are those of its packets
pub rows_packetwise : (q : TypedQuery) (i : ℕ) (key : Key) (packets : List (List ℕ))
    → rows_used key (uses q i packets) ≡ flat_map (rows_of_one q i key) packets
rows_packetwise q i key packets = go (slice_get (takings q.streams) i)
  where
    go : (o : Option Taking) → rows_used key (taken_by q packets o) ≡ flat_map (λ words. rows_used key (taken_by q (words ∷ []) o)) packets
    go None = none_taken packets
    go (Some t) =
        let f : List ℕ → Row = λ words. row_at (all_rows q words) t.input in
        ap (λ tuples. rows_used key (map (use_of t) tuples)) (stream_rows q t.input _)
        ∙ (each_alone t f key 1 packets
        ∙ same_each _
        _ packets
        (λ words. ap (λ tuples. rows_used key (map (use_of t) tuples)) (sym (stream_rows q t.input (words ∷ [])))))
