-- The parts of a splitting are numbered from 0 on.
use Rattle.std.proofs.Common.{◌≡◌, ◌≢◌, ℕ, zero, suc, ◌+◌, ◌<◌, ◌≤◌, ◌==◌, Bool, true, false, cond, ◌||◌, List, [], ◌∷◌, map, refl, ap}
use Rattle.std.{proofs.{Common.{subst, ◌∙◌, arith}, lemmas.List.Elements.{All-nil, All-cons}}, specs.{Prelude.All, List.range_with_len}}
use Rattle.epoch_model.{proofs.{KeyLists.by_test, MachineSteps.bucket_of-lt}, specs.{Keys.Key, Tables.group_rows, declared.tables.Row.Row}}
use Rattle.marple_base.specs.declared.field.{Field.Field, Packet.Packet}
use Rattle.stage_plan.specs.Uses.{uses}
use Rattle.additive_laws.{proofs.Counts.{not_number, same_number}, specs.TraceLaws.{AreApart, has_number}}
use Rattle.part_laws.{proofs.FinalRows.same_members, specs.{FinalParts.{AreOfParts, ExactTablesInOrder, by_key}, PartLaws.but_for_epochs}}
use Rattle.part_laws.specs.Parts.{AreTheParts, KeepsKeys, part_at}
use Rattle.part_texts.specs.Texts.{packets_of_part, part_by_hash, field_words}
use Rattle.split_fields.specs.SplitLaws.{ByHashKeepsKeys}
use Rattle.trace_drive.specs.Drives.{words_of}
use Rattle.split_laws.specs.SplitTables.{SplitTablesAreInOrder}

-- ---- these numbers, each once

has_in : (a n k : ℕ) → a ≤ k → k < a + n → has_number k (range_with_len a n) ≡ true
has_in a zero k from below = absurd (omega arith)
has_in a (suc n) k from below = by_test (a == k) (λ e. ap (λ t. t || has_number k (range_with_len (a + 1) n)) e)
    (λ e.
    let other : a ≢ k = not_number a k e in
    ap (λ t. t || has_number k (range_with_len (a + 1) n)) e ∙ has_in (a + 1) n k (omega (arith, other)) (omega arith))

has_none : (a n k : ℕ) → k < a → has_number k (range_with_len a n) ≡ false
has_none a zero k below = refl
has_none a (suc n) k below = by_test (a == k)
    (λ e. let same : a ≡ k = same_number a k e in absurd (omega (arith, same)))
    (λ e. ap (λ t. t || has_number k (range_with_len (a + 1) n)) e ∙ has_none (a + 1) n k (omega arith))

pub are_apart : (a n : ℕ) → AreApart (range_with_len a n)
are_apart a zero = tt
are_apart a (suc n) = (has_none (a + 1) n a (omega arith), are_apart (a + 1) n)

-- ---- the parts of a splitting

module _ (fields : List Field) (salt parts : ℕ) (some : 0 < parts) where
  abbrev partition : List ℕ → ℕ
  partition = part_by_hash fields salt parts

  each_below : (packets : List (List ℕ)) → All (λ words. has_number (partition words) (range_with_len 0 parts) ≡ true) packets
  each_below [] = All-nil (λ words. has_number (partition words) (range_with_len 0 parts) ≡ true)
  each_below (words ∷ packets) =
      All-cons (λ some_words. has_number (partition some_words) (range_with_len 0 parts) ≡ true) words packets
      (has_in 0 parts (partition words) (omega arith) (omega (arith, bucket_of-lt parts (salt ∷ field_words fields words) some)))
      (each_below packets)

  pub are_the_parts : (packets : List (List ℕ)) → AreTheParts partition packets (range_with_len 0 parts)
  are_the_parts packets = record { apart = are_apart 0 parts; each = each_below packets }

  -- the words of a part's packets are those of the part
  pub words_at_part : (n : ℕ) (packets : List Packet) → part_at partition n (words_of packets) ≡ words_of
      (packets_of_part partition n packets)
  words_at_part n [] = refl
  words_at_part n (packet ∷ packets) = by (partition packet.words == n) (words_at_part n packets)
    where
      by : (b : Bool) → part_at partition n (words_of packets) ≡ words_of (packets_of_part partition n packets)
          → cond b (packet.words ∷ part_at partition n (words_of packets)) (part_at partition n (words_of packets))
          ≡ words_of (cond b (packet ∷ packets_of_part partition n packets) (packets_of_part partition n packets))
      by true rest = ap (λ (ws : List (List ℕ)). packet.words ∷ ws) rest
      by false rest = rest

-- the same rows of each part
of_same : (part_of : Key → ℕ) (parts : List ℕ) (whole : List Row) (rows others : ℕ → List Row) → ((n : ℕ) → rows n ≡ others n)
    → AreOfParts part_of parts whole rows → AreOfParts part_of parts whole others
of_same part_of parts whole rows others same are = record {
  all = are.all ∙ ap by_key (same_members rows others parts (λ n is. same n));
  placed = λ n. subst (All (λ (row : Row). part_of row.key ≡ n)) (same n) (are.placed n);
}

pub split_tables_lem : ByHashKeepsKeys → ExactTablesInOrder → SplitTablesAreInOrder
split_tables_lem keep exact text q i fields salt parts packets is within may some whole =
    let partition = part_by_hash fields salt parts in
    let kept : KeepsKeys partition q i = keep text q i fields salt parts is within may in (
      kept,
      λ f g caches one_row.
          let found = exact partition q i kept (words_of packets) (range_with_len 0 parts) whole
          (are_the_parts fields salt parts some (words_of packets)) f g caches one_row in
          let table : ℕ → List (List ℕ) → List Row = λ n words. map but_for_epochs (group_rows f (caches n) (uses q i words)) in
          let same : (n : ℕ) → table n (part_at partition n (words_of packets)) ≡ table n (words_of (packets_of_part partition n packets)) =
          λ n. ap (table n) (words_at_part fields salt parts some n packets) in
          of_same kept.part_of (range_with_len 0 parts) (map but_for_epochs (group_rows f g (uses q i (words_of packets))))
          (λ n. table n (part_at partition n (words_of packets))) (λ n. table n (words_of (packets_of_part partition n packets))) same
          found,
    )
