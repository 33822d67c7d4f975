-- Whole tables have the rows of the parts' tables in the order of keys.
use Rattle.part_laws.proofs.Words.{◌≡◌, ℕ, Bool, true, false, cond, ◌||◌, ◌==◌, List, [], ◌∷◌, ◌++◌, map, filter, flat_map, refl, sym, ap}
use Rattle.part_laws.proofs.Words.{◌∙◌, subst, false≢true, All-nil, All-cons, All-head, All-tail, Row, Key, key_eq, has, ascending, Folding}
use Rattle.part_laws.proofs.Words.{exact_row, key_rows, keys_used, group_rows, by_test, key_eq-refl, ascending-ascends, has-ascending}
use Rattle.part_laws.proofs.Words.{flat_map-single, TypedQuery, AreWhole, is_of_key, rows_used, has_number, own_number, Partition}
use Rattle.part_laws.proofs.{Words.{AreTheParts, KeepsKeys, part_uses}, Packetwise.same_each, Keeping.{has_contained, keys_of_no_other}}
use Rattle.part_laws.proofs.{Tables.{has_joined, map_joined, tables_join}, Ordered.{keys_of, at_key, filter_joined}}
use Rattle.part_laws.{proofs.FinalRows.{only_part, none_elsewhere}, specs.PartLaws.but_for_epochs}
use Rattle.part_laws.specs.FinalParts.{AreInTheirParts, ExactTablesInOrder}
use Rattle.std.proofs.Common.{All}
use Rattle.epoch_model.specs.Epochs.{Use, Geometry}

or_true : (b : Bool) → (b || true) ≡ true
or_true true = refl
or_true false = refl

-- ---- one table

-- a row for each key, which has the key
module _ (h : Key → Row) (own : (key : Key) → (h key).key ≡ key) where
  keys_of_rows : (keys : List Key) → keys_of (map h keys) ≡ keys
  keys_of_rows [] = refl
  keys_of_rows (key ∷ keys) = ap (λ k. k ∷ keys_of _) (own key) ∙ ap (λ ks. key ∷ ks) (keys_of_rows _)

  row_of_key : (k : Key) (keys : List Key) → filter (is_of_key k) (map h keys) ≡ flat_map (λ key. cond (key_eq key k) (h key ∷ []) []) keys
  row_of_key k [] = refl
  row_of_key k (key ∷ keys) = by_test _ (λ e. let here : key_eq (h key).key k ≡ true = ap (λ x. key_eq x k) (own key) ∙ e in
      rw e (rw here (ap (λ rows. h key ∷ rows) (row_of_key k keys))))
      (λ e. let here : key_eq (h key).key k ≡ false = ap (λ x. key_eq x k) (own key) ∙ e in
      rw e (rw here (row_of_key k keys)))

-- the row of a key that has one row, but for the number of epochs
abbrev bare_row : Folding → List Use → Key → Row
bare_row f us key = but_for_epochs (exact_row f key 0 (rows_used key us))

one_row : (f : Folding) (g : Geometry) (us : List Use) (key : Key) → f.row_per_epoch ≡ false
    → map but_for_epochs (key_rows f g us key) ≡ bare_row f us key ∷ []
one_row f g us key one = rw one refl

bare_table : (f : Folding) (g : Geometry) (us : List Use) → f.row_per_epoch ≡ false
    → map but_for_epochs (group_rows f g us) ≡ map (bare_row f us) (keys_used us)
bare_table f g us one =
    map_joined but_for_epochs (key_rows f g us) (keys_used us)
    ∙ flat_map-single _ _ _ (λ key. one_row f g _ _ one)

-- ---- tables of parts

all_has : (P : Key → Type 0) (keys : List Key) → ((k : Key) → has k keys ≡ true → P k) → All P keys
all_has P [] h = All-nil P
all_has P (key ∷ keys) h =
    All-cons P key keys (h key (ap (λ b. b || has key keys) (key_eq-refl _)))
    (all_has P keys (λ k e. h k (ap (λ b. key_eq key k || b) e ∙ or_true (key_eq key k))))

all_of_map : (P : Key → Type 0) (h : Key → Row) (own : (key : Key) → (h key).key ≡ key) (keys : List Key) → All P keys
    → All (λ row. P row.key) (map h keys)
all_of_map P h own [] all = All-nil _
all_of_map P h own (key ∷ keys) all =
    All-cons (λ (row : Row). P row.key) (h key) (map h keys) (subst P (sym (own key)) (All-head P _ keys all))
    (all_of_map P h own keys (All-tail P key keys all))

has_in : (key : Key) (keys : ℕ → List Key) (n : ℕ) (parts : List ℕ) → ((m : ℕ) → has key (keys m) ≡ true → m ≡ n)
    → has key (flat_map keys parts) ≡ true → (has_number n parts ≡ true) × (has key (keys n) ≡ true)
has_in key keys n [] only e = absurd (false≢true e)
has_in key keys n (m ∷ parts) only e = by_test (has key (keys m)) (λ t. let same : m ≡ n = only m t in (
  ap (λ x. (x == n) || has_number n parts) same ∙ ap (λ b. b || has_number n parts) (own_number n),
  ap (λ x. has key (keys x)) (sym same) ∙ t,
))
    (λ t. let more = has_in key keys n parts only (sym (has_joined key (keys m) (flat_map keys parts)
    ∙ ap (λ b. b || has key (flat_map keys parts)) t) ∙ e) in
    (ap (λ b. (m == n) || b) more.0 ∙ or_true (m == n), more.1))

same_keys : (f h : Key → List Row) (keys : List Key) → ((k : Key) → has k keys ≡ true → f k ≡ h k) → flat_map f keys ≡ flat_map h keys
same_keys f h [] e = refl
same_keys f h (key ∷ keys) e =
    ap (λ rows. rows ++ flat_map f keys) (e key (ap (λ b. b || has key keys) (key_eq-refl key)))
    ∙ ap (λ rows. h key ++ rows) (same_keys f h keys (λ k t. e k (ap (λ b. key_eq key k || b) t ∙ or_true _)))

module _ (partition : Partition) (q : TypedQuery) (i : ℕ) (kept : KeepsKeys partition q i) (packets : List (List ℕ)) (parts : List ℕ)
    (whole : AreWhole packets) (the : AreTheParts partition packets parts) (f : Folding) (caches : ℕ → Geometry)
    (one : f.row_per_epoch ≡ false) where
  abbrev own_part : ℕ → List Use
  own_part n = part_uses partition q i packets n

  abbrev tables : ℕ → List Row
  tables n = map but_for_epochs (group_rows f (caches n) (own_part n))

  abbrev all_keys : List Key
  all_keys = flat_map (λ n. keys_used (own_part n)) parts

  no_other : (key : Key) (m : ℕ) → has key (keys_used (own_part m)) ≡ true → m ≡ kept.part_of key
  no_other key m e = keys_of_no_other partition q i kept packets key whole m (has_contained _ _ e)

  pub in_their_parts : AreInTheirParts kept.part_of tables
  in_their_parts n =
      subst (All (λ (row : Row). kept.part_of row.key ≡ n)) (sym (bare_table f (caches n) (own_part n) one))
      (all_of_map (λ key. kept.part_of key ≡ n) (bare_row f (own_part n)) (λ key. refl) _
      (all_has _ _ (λ key e. sym (no_other _ n e))))

  keys_of_tables : keys_of (flat_map tables parts) ≡ all_keys
  keys_of_tables =
      map_joined (λ row. row.key) tables parts
      ∙ same_each _ _ _
      (λ n. ap keys_of (bare_table f (caches n) (own_part n) one) ∙ keys_of_rows (bare_row f (own_part n)) (λ key. refl)
      (keys_used (own_part n)))

  -- the rows of a key in all tables are those of its part's table
  own_rows : (key : Key) → has key all_keys ≡ true → map but_for_epochs
      (key_rows f (caches (kept.part_of key)) (own_part (kept.part_of key)) key) ≡ filter (is_of_key key) (flat_map tables parts)
  own_rows key e =
      let n = kept.part_of key in
      let us : List Use = own_part _ in
      let there = has_in _ _ _ parts (no_other _) e in
      one_row f _ _ _ one
      ∙ sym (filter_joined (is_of_key key) tables parts
      ∙ (only_part _ _ _ the.apart there.0
      (λ m other. none_elsewhere kept.part_of tables parts the.apart in_their_parts key m other)
      ∙ (ap (filter (is_of_key key)) (bare_table f (caches (kept.part_of _)) us one)
      ∙ (row_of_key (bare_row f us) (λ k. refl) key (keys_used us)
      ∙ (at_key _ _ _ (ascending-ascends (map (λ u. u.key) us))
      ∙ ap (λ b. cond b (bare_row f us key ∷ []) []) there.1)))))

pub exact_in_order : ExactTablesInOrder
exact_in_order partition q i kept packets parts whole the f g caches one =
    let own : Key → List Row = λ key. map but_for_epochs (key_rows f (caches (kept.part_of key))
    (part_uses partition q i packets (kept.part_of key)) key) in
    let all = tables partition q i kept packets parts whole the f caches one in
    let keys : List Key = all_keys _ q i kept packets parts whole the f caches one in
    record {
      all = tables_join partition q i kept packets parts whole the f g caches one
          ∙ (same_keys _ _ (ascending keys) (λ key e. own_rows _ q i kept _ _ whole the f caches one key (sym (has-ascending _ _) ∙ e))
          ∙ ap (λ ks. flat_map (λ key. filter (is_of_key key) (flat_map all parts)) (ascending ks))
          (sym (keys_of_tables partition q i kept packets parts whole the f caches one)));
      placed = in_their_parts partition q i kept packets parts whole the f caches one;
    }
