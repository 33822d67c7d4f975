-- The table rows of a key in its part, and tables of parts together.
use Rattle.part_laws.proofs.Words.{◌≡◌, ℕ, Bool, true, false, ◌||◌, List, [], ◌∷◌, ◌++◌, length, map, flat_map, refl, sym, ap, ◌∙◌, arith}
use Rattle.part_laws.proofs.Words.{append-nil, sum_by, map-append, Row, Key, ArgRow, key_eq, has, ascending, Folding, epoch_rows, exact_row}
use Rattle.part_laws.proofs.Words.{key_rows, keys_used, ascending-ascends, has-ascending, same_ascending, some, TypedQuery, uses, rows_used}
use Rattle.part_laws.proofs.{Words.{Partition, part_at, AreTheParts}, Packetwise.{rows_of_one, rows_packetwise, same_each}}
use Rattle.part_laws.{proofs.{Keeping.{parts_have_rows, key_has_rows}, Sums.{same_sums, sum_of_parts}}, specs.PartLaws.but_for_epochs}
use Rattle.part_laws.specs.PartLaws.{valid_row, ExactRowsAreTheParts, ValidRowsFoldTheWhole, KeysAreOfAllParts, ExactTablesJoin}
use Rattle.std.proofs.lemmas.List.Concat.{length-flat_map}
use Rattle.epoch_model.{specs.Epochs.{Use, Geometry, epochs}, proofs.Cuts.epochs_cut_the_rows_lem}
use Rattle.additive_laws.proofs.StoreTables.{same_some}

pub exact_rows : ExactRowsAreTheParts
exact_rows partition q i kept packets key whole f g h one =
    rw one (ap (λ rows. but_for_epochs (exact_row f key 0 rows) ∷ []) (parts_have_rows partition q i kept packets key whole))

one_piece : (f : Folding) (key : Key) (pieces : List (List ArgRow)) → length pieces ≡ 1
    → epoch_rows f key (length pieces) 1 pieces ≡ valid_row f key (flat_map (λ rows. rows) pieces) ∷ []
one_piece f key (rows ∷ []) e = ap (λ rs. valid_row f key rs ∷ []) (sym (append-nil rows))
one_piece f key _ e = absurd (omega arith)

-- the row of a key with one epoch
pub one_epoch : (f : Folding) (g : Geometry) (us : List Use) (key : Key) → f.row_per_epoch ≡ true → length (epochs g us key) ≡ 1
    → key_rows f g us key ≡ valid_row f key (rows_used key us) ∷ []
one_epoch f g us key each one = rw each (one_piece f _ _ one ∙ ap (λ rows. valid_row f key rows ∷ []) (epochs_cut_the_rows_lem g us key).0)

pub valid_rows : ValidRowsFoldTheWhole
valid_rows partition q i kept packets key whole f g each one =
    one_epoch f g _ _ each one
    ∙ ap (λ rows. valid_row f key rows ∷ []) (sym (parts_have_rows partition q i kept packets key whole))

-- ---- whole tables

pub has_joined : (key : Key) (xs ys : List Key) → has key (xs ++ ys) ≡ (has key xs || has key ys)
has_joined key [] ys = refl
has_joined key (x ∷ xs) ys = ap (λ b. key_eq x key || b) (has_joined _ xs ys) ∙ turn (key_eq x key) (has key xs) (has key ys)
  where
    turn : (a b c : Bool) → (a || (b || c)) ≡ ((a || b) || c)
    turn true b c = refl
    turn false b c = refl

some_joined : {A : Type 0} (xs ys : List A) → some (xs ++ ys) ≡ (some xs || some ys)
some_joined [] ys = refl
some_joined (x ∷ xs) ys = refl

-- a key is among those of several lists of uses exactly where one of them gives it a row
pub has_of_lists : {X : Type 0} (key : Key) (us : X → List Use) (parts : List X)
    → has key (flat_map (λ n. keys_used (us n)) parts) ≡ some (flat_map (λ n. rows_used key (us n)) parts)
has_of_lists key us [] = refl
has_of_lists key us (n ∷ parts) =
    has_joined key (keys_used (us n)) (flat_map (λ k. keys_used (us k)) parts)
    ∙ (ap (λ b. b || has key (flat_map (λ k. keys_used (us k)) parts)) (key_has_rows key (us n))
    ∙ (ap (λ b. some (rows_used key (us n)) || b) (has_of_lists _ _ parts)
    ∙ sym (some_joined (rows_used key (us n)) (flat_map (λ k. rows_used key (us k)) parts))))

module _ (partition : Partition) (q : TypedQuery) (i : ℕ) (packets : List (List ℕ)) (parts : List ℕ)
    (the : AreTheParts partition packets parts) where
  abbrev part : ℕ → List Use
  part n = uses q i (part_at partition n packets)

  -- all parts give a key as many rows as the whole trace
  as_many : (key : Key) → length (rows_used key (uses q i packets)) ≡ length (flat_map (λ n. rows_used key (part n)) parts)
  as_many key =
      long _
      ∙ (sum_of_parts partition _ _ the.apart _ the.each
      ∙ (same_sums _
      _ parts
      (λ n. sym (long (part_at _ n _)))
      ∙ sym (length-flat_map _ parts)))
    where
      long : (list : List (List ℕ)) → length (rows_used key (uses q i list)) ≡ sum_by (λ words. length (rows_of_one q i key words)) list
      long list = ap length (rows_packetwise q i _ _) ∙ length-flat_map _ list

  keys_of_all : keys_used (uses q i packets) ≡ ascending (flat_map (λ n. keys_used (part n)) parts)
  keys_of_all = same_ascending _ _ (ascending-ascends (map (λ u. u.key) (uses q i packets)))
      (ascending-ascends (flat_map (λ n. keys_used (part n)) parts)) (λ key. key_has_rows key _
      ∙ (same_some _ _ (as_many _) ∙ (sym (has_of_lists key part parts)
      ∙ sym (has-ascending key (flat_map (λ n. keys_used (part n)) parts)))))

pub keys_of_all_parts : KeysAreOfAllParts
keys_of_all_parts partition q i packets parts the = keys_of_all partition q i packets parts the

pub map_joined : {A B C : Type 0} (h : B → C) (f : A → List B) (xs : List A) → map h (flat_map f xs) ≡ flat_map (λ x. map h (f x)) xs
map_joined h f [] = refl
map_joined h f (x ∷ xs) = map-append h (f x) (flat_map f xs) ∙ ap (λ ys. map h (f x) ++ ys) (map_joined h f xs)

pub tables_join : ExactTablesJoin
tables_join partition q i kept packets parts whole the f g caches one =
    map_joined but_for_epochs (key_rows f g (uses q i packets)) (keys_used (uses q i packets))
    ∙ (same_each (λ key. map but_for_epochs (key_rows f g (uses q i packets) key)) own (keys_used (uses q i packets))
    (λ key. exact_rows partition q i kept packets key whole f g (caches (kept.part_of key)) one)
    ∙ ap (flat_map own) (keys_of_all_parts partition q i packets parts the))
  where
    own : Key → List Row
    own key = map but_for_epochs (key_rows f (caches (kept.part_of key)) (uses q i (part_at partition (kept.part_of key) packets)) key)
