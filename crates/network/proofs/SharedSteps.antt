-- Fronts side by side, and the store that they share.
use Rattle.std.proofs.Common.{◌≡◌, ℕ, zero, suc, ◌+◌, Bool, true, false, List, [], ◌∷◌, map, set, Some, refl, sym, ◌∙◌, arith}
use Rattle.std.specs.{Prelude.{slice_get, flat_map}, List.list_all}
use Rattle.epoch_model.{specs.{Keys.ArgRow, Machine.Epoch, Tables.{Folding, folded}}, proofs.KeyLists.by_test}
use Rattle.epoch_entry.specs.Kinds.{Sizes}
use Rattle.backing_store.specs.{Store.Store, Merged.{StoreHolds, stored}}
use Rattle.final_queries.specs.FinalLaws.{AreAlike}
use Rattle.switch_core.{specs.{FrontParts.{FrontOf, FitsStore}, Rows.{Each, EachFrom}}, proofs.SideBySide.each_at}
use Rattle.network.specs.Shared.{AllShare, FrontKept, StoreKept}

-- alike foldings mean the same of a store

stored_alike : (f h : Folding) → AreAlike f h → (lists : List (List ArgRow)) → stored f lists ≡ stored h lists
stored_alike f h a lists = by_test f.row_per_epoch
    (λ t. let u : h.row_per_epoch ≡ true = sym a.row_per_epoch ∙ t in rw (t, u) (each lists))
    (λ t. let u : h.row_per_epoch ≡ false = sym a.row_per_epoch ∙ t in rw (t, u) (whole lists))
  where
    each : (lists : List (List ArgRow)) → map (folded f) lists ≡ map (folded h) lists
    each [] = refl
    each (rows ∷ lists) = rw (a.states rows, each lists)

    whole : (lists : List (List ArgRow)) → stored (record f { row_per_epoch = false }) lists ≡ stored (record h { row_per_epoch = false })
        lists
    whole [] = refl
    whole (rows ∷ lists) = rw (a.states (flat_map (λ rs. rs) (rows ∷ lists)))

pub holds_alike : (f h : Folding) (store : Store) (epochs : List Epoch) → AreAlike f h → StoreHolds f store epochs
    → StoreHolds h store epochs
holds_alike f h _ _ a s = record { count = s.count; rows = λ key. s.rows key ∙ stored_alike f h a _ }

pub alike_back : (f h : Folding) → AreAlike f h → AreAlike h f
alike_back f h a = record { row_per_epoch = sym a.row_per_epoch; states = λ rows. sym (a.states rows) }

-- what keeps its kind and sizes

pub kept_on : {K : Type 0} (a b c : FrontOf K) → FrontKept a b → FrontKept b c → FrontKept a c
kept_on a b c k l = record {
  kind = l.kind ∙ k.kind;
  buckets = l.buckets ∙ k.buckets;
  key_words = l.key_words ∙ k.key_words;
  entry_words = l.entry_words ∙ k.entry_words;
  places = l.places ∙ k.places;
}

pub kept_start : {K : Type 0} (a : FrontOf K) → FrontKept a a
kept_start a = record { kind = refl; buckets = refl; key_words = refl; entry_words = refl; places = refl }

pub store_on : (a b c : Store) → StoreKept a b → StoreKept b c → StoreKept a c
store_on a b c k l = record { key_words = l.key_words ∙ k.key_words; state_words = l.state_words ∙ k.state_words }

-- a store still fits a front
pub fits_on : {K : Type 0} (sizes : K → Sizes) (a b : FrontOf K) (s t : Store) → FrontKept a b → StoreKept s t
    → FitsStore (sizes a.kind) a.cache s → FitsStore (sizes b.kind) b.cache t
fits_on sizes a b s t k l fits = record {
  key = rw (l.key_words, fits.key, k.key_words);
  state = rw (l.state_words, fits.state, k.kind);
}

pub fronts_same : {K : Type 0} (k : ℕ) (fronts : List (FrontOf K)) → EachFrom (λ n. FrontKept) k fronts fronts
fronts_same k [] = tt
fronts_same k (x ∷ fronts) = (kept_start x, fronts_same (suc k) fronts)

-- one front is another one with its kind and sizes
pub one_kept : {K : Type 0} (k i : ℕ) (fronts : List (FrontOf K)) (was now : FrontOf K) → slice_get fronts i ≡ Some was
    → FrontKept was now → EachFrom (λ n. FrontKept) k fronts (set fronts i now)
one_kept k i [] _ _ _ _ = tt
one_kept k zero (x ∷ fronts) was now here kept = let same : was ≡ x = cc in
    (rw (← same) kept, fronts_same (suc k) fronts)
one_kept k (suc i) (x ∷ fronts) was now here kept = (kept_start x, one_kept (suc k) i fronts was now here kept)

-- places in lists

-- the last of two items that are written at one place stays
pub set_set : {X : Type 0} (xs : List X) (i : ℕ) (x y : X) → set (set xs i x) i y ≡ set xs i y
set_set [] i x y = refl
set_set (z ∷ _) zero x y = refl
set_set (z ∷ xs) (suc i) x y = rw (set_set xs i x y)

-- what is said of items and what was made of them, and then of what was made of those
pub each_on : {A B C : Type 0} (R : ℕ → A → B → Type 0) (S : ℕ → B → C → Type 0) (T : ℕ → A → C → Type 0) (k : ℕ) (xs : List A)
    (ys : List B)
    (zs : List C) → ((n : ℕ) (a : A) (b : B) (c : C) → R n a b → S n b c → T n a c) → EachFrom R k xs ys → EachFrom S k ys zs
    → EachFrom T k xs zs
each_on R S T k [] [] [] h p q = tt
each_on R S T k [] [] (z ∷ _) h p q = absurd q
each_on R S T k [] (y ∷ _) _ h p q = absurd p
each_on R S T k (x ∷ _) [] _ h p q = absurd p
each_on R S T k (x ∷ _) (y ∷ _) [] h p q = absurd q
each_on R S T k (x ∷ xs) (y ∷ ys) (z ∷ zs) h p q = (h k x y z p.0 q.0, each_on R S T (suc k) xs ys zs h p.1 q.1)

-- it is said of what was made and the items as well
pub each_flip : {A B : Type 0} (R : ℕ → A → B → Type 0) (k : ℕ) (xs : List A) (ys : List B) → EachFrom R k xs ys
    → EachFrom (λ n y x. R n x y) k ys xs
each_flip R k [] [] p = tt
each_flip R k [] (y ∷ _) p = absurd p
each_flip R k (x ∷ _) [] p = absurd p
each_flip R k (x ∷ xs) (y ∷ ys) p = (p.0, each_flip R (suc k) xs ys p.1)

-- the item before, of which this one was made
pub each_back : {A B : Type 0} (R : ℕ → A → B → Type 0) (k : ℕ) (olds : List A) (news : List B) (s : ℕ) (now : B) → EachFrom R k olds news
    → slice_get news s ≡ Some now
    → (was : A) × (slice_get olds s ≡ Some was) × ((n : ℕ) → n ≡ k + s → R n was now)
each_back R k olds news s now p = each_at _ k s news olds now (each_flip R k olds news p)

-- fronts that kept their kinds and sizes can still share
pub still_share : {K : Type 0} (sizes : K → Sizes) (folding : K → Folding) (f : Folding) (args : ℕ) (olds news : List (FrontOf K))
    (before after : Store)
    → Each FrontKept olds news → StoreKept before after → AllShare sizes folding f args olds before
    → AllShare sizes folding f args news after
still_share {K = K} sizes folding f args olds news before after kept store share s now e =
    let was = each_back _ 0 olds news s _ kept e in
    let one = was.2 s (omega arith) in
    let old = share s was.0 was.1 in
    record {
      alike = rw one.kind old.alike;
      fits = fits_on sizes _ _ _ _ one store old.fits;
      args = rw (one.kind, old.args);
    }

-- a test that each item passes
pub all_pass : {X : Type 0} (p : X → Bool) (xs : List X) → ((s : ℕ) (x : X) → slice_get xs s ≡ Some x → p x ≡ true) → list_all p xs ≡ true
all_pass p [] h = refl
all_pass p (x ∷ xs) h = let t = h 0 x refl in rw t (all_pass p xs (λ s. h (suc s)))
