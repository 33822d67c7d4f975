-- Keys zipped with what is kept for each.
use Rattle.std.proofs.Common.{◌≡◌, ◌≢◌, ℕ, zero, suc, ◌<◌, List, [], ◌∷◌, ◌++◌, length, map, set, slice_get, None, Some, refl, sym, ap}
use Rattle.std.{proofs.{Common.arith, lemmas.Option.same_Some}, specs.{List.zip, Map.{lookup, values_of}}}
use Rattle.epoch_model.{specs.Keys.{Key, key_eq}, proofs.KeyLists.{by_test, key_eq-refl, key_eq-true}}
use Rattle.backing_store.specs.{Store.{AreOnce, number_of, epochs_of}, StoreView.stored, declared.store.Merged.Merged}
pub use Rattle.backing_store.proofs.StoreFacts.{length-stored}
use Rattle.backing_store.proofs.StoreFacts.{FirstAt, set_value_at}

pub length-zip : (keys : List Key) (merged : List Merged) → length merged ≡ length keys → length (zip keys merged) ≡ length keys
length-zip [] [] same = refl
length-zip [] (m ∷ merged) same = absurd (omega (arith, same))
length-zip (k ∷ keys) [] same = absurd (omega (arith, same))
length-zip (k ∷ keys) (m ∷ merged) same = ap suc (length-zip keys merged (omega (arith, same)))

pub zip-push : (keys : List Key) (merged : List Merged) (key : Key) (m : Merged) → length merged ≡ length keys
    → zip (keys ++ key ∷ []) (merged ++ m ∷ []) ≡ zip keys merged ++ (key, m) ∷ []
zip-push [] [] key m same = refl
zip-push [] (n ∷ merged) key m same = absurd (omega (arith, same))
zip-push (k ∷ keys) [] key m same = absurd (omega (arith, same))
zip-push (k ∷ keys) (n ∷ merged) key m same = ap (λ rest. (k, n) ∷ rest) (zip-push keys merged key m (omega (arith, same)))

pub zip-set : (keys : List Key) (merged : List Merged) (at : ℕ) (m : Merged) → length merged ≡ length keys
    → zip keys (set merged at m) ≡ set_value_at (zip keys merged) at m
zip-set [] [] at m same = refl
zip-set [] (n ∷ merged) at m same = absurd (omega (arith, same))
zip-set (k ∷ keys) [] at m same = absurd (omega (arith, same))
zip-set (k ∷ keys) (n ∷ merged) zero m same = refl
zip-set (k ∷ keys) (n ∷ merged) (suc at) m same = ap (λ rest. (k, n) ∷ rest) (zip-set keys merged at m (omega (arith, same)))

pub zip-value : (keys : List Key) (merged : List Merged) (at : ℕ) (m : Merged) → length merged ≡ length keys → slice_get merged at ≡ Some m
    → slice_get (values_of (zip keys merged)) at ≡ Some m
zip-value [] [] at m same here = cc here
zip-value [] (n ∷ merged) at m same here = absurd (omega (arith, same))
zip-value (k ∷ keys) [] at m same here = absurd (omega (arith, same))
zip-value (k ∷ keys) (n ∷ merged) zero m same here = here
zip-value (k ∷ keys) (n ∷ merged) (suc at) m same here = zip-value keys merged at m (omega (arith, same)) here

-- a key at a place has a number
has_number : (keys : List Key) (merged : List Merged) (at : ℕ) (key : Key) → length merged ≡ length keys → slice_get keys at ≡ Some key
    → number_of (map stored (zip keys merged)) key < length (map stored (zip keys merged))
has_number [] [] at key same here = cc here
has_number [] (m ∷ merged) at key same here = absurd (omega (arith, same))
has_number (k ∷ keys) [] at key same here = absurd (omega (arith, same))
has_number (k ∷ keys) (m ∷ merged) zero key same here = rw (same_Some _ _ here, key_eq-refl key) (omega arith)
has_number (k ∷ keys) (m ∷ merged) (suc at) key same here = by_test (key_eq key k)
    (λ alike. rw alike (omega arith))
    (λ other. rw other (omega (arith, has_number keys merged at key (omega (arith, same)) here)))

-- and is the first such, where keys are there once
pub first_of_once : (keys : List Key) (merged : List Merged) (at : ℕ) (key : Key) → length merged ≡ length keys
    → AreOnce (map stored (zip keys merged)) → slice_get keys at ≡ Some key
    → FirstAt key (zip keys merged) at
first_of_once [] [] at key same once here = cc here
first_of_once [] (m ∷ merged) at key same once here = absurd (omega (arith, same))
first_of_once (k ∷ keys) [] at key same once here = absurd (omega (arith, same))
first_of_once (k ∷ keys) (m ∷ merged) zero key same once here = rw (same_Some _ _ here) (key_eq-refl key)
first_of_once (k ∷ keys) (m ∷ merged) (suc at) key same once here = by_test (key_eq key k)
    (λ alike. absurd (omega (
      arith,
      once.0,
      ap (λ x. number_of (map stored (zip keys merged)) x) (key_eq-true key k alike),
      has_number keys
          merged at key (omega (arith, same)) here,
    )))
    (λ other. (other, first_of_once keys merged at key (omega (arith, same)) once.1 here))

pub none_of_absent : (keys : List Key) (merged : List Merged) (key : Key) → ((at : ℕ) → slice_get keys at ≢ Some key)
    → lookup (λ k. key_eq key k) (zip keys merged) ≡ None
none_of_absent [] merged key absent = refl
none_of_absent (k ∷ keys) [] key absent = refl
none_of_absent (k ∷ keys) (m ∷ merged) key absent = by_test (key_eq key k)
    (λ alike. absurd (absent 0 (ap Some (sym (key_eq-true key k alike)))))
    (λ other. rw other (none_of_absent keys merged key (λ at. absent (suc at))))

-- the epochs of a key
pub epochs_at : (key : Key) (es : List (List ℕ × Merged)) (i : ℕ) (m : Merged) → FirstAt key es i → slice_get (values_of es) i ≡ Some m
    → epochs_of (map stored es) key ≡ m.epochs
epochs_at key [] i m first here = absurd first
epochs_at key (e ∷ es) zero m first here = rw (first, same_Some _ _ here) refl
epochs_at key (e ∷ es) (suc i) m first here = rw first.0 (epochs_at key es i m first.1 here)

pub epochs_none : (key : Key) (es : List (List ℕ × Merged)) → lookup (λ k. key_eq key k) es ≡ None → epochs_of (map stored es) key ≡ 0
epochs_none key [] none = refl
epochs_none key (e ∷ es) none = by_test (key_eq key e.0)
    (λ alike. cc (rw alike at none))
    (λ other. rw other (epochs_none key es (rw other at none)))

-- a key and its number of epochs, by their places
pub zip-stored : (keys : List Key) (merged : List Merged) (at : ℕ) (key : Key) (m : Merged) → slice_get keys at ≡ Some key
    → slice_get merged at ≡ Some m
    → slice_get (map stored (zip keys merged)) at ≡ Some (record { key = key; epochs = m.epochs })
zip-stored [] merged at key m first second = cc first
zip-stored (k ∷ keys) [] at key m first second = cc second
zip-stored (k ∷ keys) (n ∷ merged) zero key m first second = rw (same_Some _ _ first, same_Some _ _ second) refl
zip-stored (k ∷ keys) (n ∷ merged) (suc at) key m first second = zip-stored keys merged at key m first second
