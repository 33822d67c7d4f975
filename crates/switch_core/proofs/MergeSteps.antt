-- A front whose oldest record was merged represents the machine after the merge, and the store holds the merged epoch.
use Rattle.std.proofs.Common.{◌≡◌, ℕ, zero, suc, ◌+◌, ◌<◌, ◌≤◌, List, [], ◌∷◌, ◌++◌, length, take, drop, get_or, refl, sym, ap, ◌∙◌, subst}
use Rattle.std.proofs.{Common.{arith, append-nil, length-drop}, lemmas.Bool.{lt-ltb, le-ltb, Decides.nat_tests}, Math.Seq.drop-length}
use Rattle.std.specs.Prelude.{nat_lt}
use Rattle.epoch_model.specs.{Machine.{Epoch, Machine, merge}, Tables.Folding}
use Rattle.bucket_cache.specs.Caches.{Cache}
use Rattle.evict_pipe.specs.Pipes.{Pipe}
use Rattle.backing_store.specs.{Store.Store, Merged.StoreHolds}
use Rattle.switch_core.specs.{Lanes.{Standing, RecordStands, RecordsStand, FrontStands}, FrontEvents.next_merged}
use Rattle.switch_core.proofs.Standing.{by_test}

pub records_none : (stands : Standing) (kw : ℕ) (records : List (List ℕ)) (epochs : List Epoch) → RecordsStand stands kw records epochs
    → length records ≡ 0 → epochs ≡ []
records_none stands kw [] [] s e = refl
records_none stands kw [] (x ∷ epochs) s e = absurd s
records_none stands kw (r ∷ records) epochs s e = absurd (omega arith)

all_merged : (m : Machine) → m.merged ≤ length m.closed → drop m.merged m.closed ≡ [] → m.merged ≡ length m.closed
all_merged m few e = let l = length-drop m.merged m.closed in let z = ap length e in omega arith

-- of no records none is dropped
pub none_dropped : (records : List (List ℕ)) → length records ≡ 0 → records ≡ drop 1 records
none_dropped [] e = refl
none_dropped (r ∷ records) e = absurd (omega arith)

-- With no record in the pipe every closed epoch is merged.
pub none_piped : (stands : Standing) (cache : Cache) (pipe : Pipe) (m : Machine) → FrontStands stands cache pipe m → length pipe.records ≡ 0
    → m.merged ≡ length m.closed
none_piped stands cache pipe m s e = all_merged m s.few (records_none stands _ _ _ s.piped
    e)

pub merge_none : (m : Machine) → m.merged ≡ length m.closed → merge m ≡ m
merge_none m e = let shut = le-ltb m.merged (length m.closed) (omega arith) in rw shut

-- the first record represents the first epoch
records_first : (stands : Standing) (kw : ℕ) (records : List (List ℕ)) (epochs : List Epoch) → RecordsStand stands kw records epochs
    → 0 < length records
    → (e : Epoch) × (es : List Epoch) × (epochs ≡ e ∷ es) × RecordStands stands kw (get_or records 0 []) e
    × RecordsStand stands kw (drop 1 records) es
records_first stands kw [] epochs s h = absurd (omega arith)
records_first stands kw (r ∷ records) [] s h = absurd s
records_first stands kw (r ∷ records) (e ∷ es) s h = (e, es, refl, s.0, s.1)

-- one epoch more on the way through a list
one_on : (n : ℕ) (xs : List Epoch) (e : Epoch) (es : List Epoch) → drop n xs ≡ e ∷ es → (take (suc n) xs ≡ take n xs ++ e ∷ [])
    × (drop (suc n) xs ≡ es) × (n < length xs)
one_on zero [] e es h = absurd (nothing h)
  where
    nothing : [] ≡ e ∷ es → ⊥
    nothing h = cc
one_on zero (x ∷ xs) e es h = let a : x ≡ e = cc in let b : xs ≡ es = cc in (ap (λ y. y ∷ []) a, b, omega arith)
one_on (suc n) [] e es h = absurd (nothing h)
  where
    nothing : [] ≡ e ∷ es → ⊥
    nothing h = cc
one_on (suc n) (x ∷ xs) e es h = let rest = one_on n _ e _ h in (ap (λ ys. x ∷ ys) rest.0, rest.1, let l = rest.2 in omega arith)

-- the pipe's first record is dropped
pub front_merged : (stands : Standing) (cache : Cache) (old new : Pipe) (m : Machine) → 0 < length old.records
    → new.records ≡ drop 1 old.records → FrontStands stands cache old m → FrontStands stands cache new (merge m)
front_merged stands cache old new m some dropped s =
    let first = records_first stands _ _ _ s.piped some in
    let on = one_on m.merged _ first.0 _ first.2 in
    let next : m.merged + 1 ≡ suc m.merged = omega arith in
    let is = lt-ltb m.merged (length m.closed) on.2 in
    let n : Machine = record { recent = m.recent; closed = m.closed; merged = m.merged + 1 } in
    let merged : merge m ≡ n = rw is in
    subst (FrontStands stands cache new) (sym merged) record {
      cached = record { buckets = s.cached.buckets; each = s.cached.each };
      piped = rw dropped (subst (RecordsStand stands cache.key_words (drop 1 old.records)) (sym (ap (λ k. drop k m.closed) next ∙ on.1))
          first.4);
      few = let l = on.2 in omega arith;
    }

-- the first record represents the oldest epoch that isn't merged
pub next_held : (stands : Standing) (f : Folding) (cache : Cache) (pipe : Pipe) (before after : Store) (m : Machine) (epochs : List Epoch)
    → 0 < length pipe.records
    → ((epoch : Epoch) → RecordStands stands cache.key_words (get_or pipe.records 0 []) epoch → StoreHolds f before epochs
    → StoreHolds f after (epochs ++ epoch ∷ []))
    → FrontStands stands cache pipe m → StoreHolds f before epochs → StoreHolds f after (epochs ++ next_merged m)
next_held stands f cache pipe before after m epochs some held s kept =
    let first = records_first stands cache.key_words pipe.records (drop m.merged m.closed) s.piped some in
    subst (λ es. StoreHolds f after (epochs ++ es)) (sym (ap (take 1) first.2)) (held first.0 first.3 kept)

-- with nothing in the pipe nothing is merged
pub none_next : (m : Machine) → m.merged ≡ length m.closed → next_merged m ≡ []
none_next m e = ap (λ n. take 1 (drop n m.closed)) e ∙ rw (drop-length m.closed) refl

-- after a merge the oldest unmerged epoch is the latest merged one
pub merged_next : (m : Machine) → m.merged ≤ length m.closed → take (merge m).merged (merge m).closed ≡ take m.merged m.closed
    ++ next_merged m
merged_next m few = by_test (nat_lt m.merged (length m.closed))
    (λ t. rw t (ap (λ k. take k m.closed) (let q : m.merged + 1 ≡ suc m.merged = omega arith in q) ∙ next m.merged m.closed))
    (λ t. let end : m.merged ≡ length m.closed = grind (arith, nat_tests) in rw t
    (sym (ap (λ es. take m.merged m.closed ++ es) (none_next m end) ∙ append-nil _)))
  where
    next : (n : ℕ) (xs : List Epoch) → take (suc n) xs ≡ take n xs ++ take 1 (drop n xs)
    next zero xs = refl
    next (suc n) [] = refl
    next (suc n) (x ∷ xs) = ap (λ ys. x ∷ ys) (next n xs)
