-- The order of keys, and ascending lists of keys.
use Rattle.std.proofs.{Common.{◌≡◌, Bool, true, false, ◌||◌, List, [], ◌∷◌, refl, sym, ap, ◌∙◌, subst}, lemmas.Bool.true≢false}
use Rattle.std.{proofs.lemmas.{Cmp.{nat_list_cmp_total, tied_itself}, Map.Lookups.exact_bytes}, specs.declared.cmp.Ordering.Ordering}
use Rattle.std.specs.{Ordering.{is_lt, ordering_reverse}, declared.cmp.Ordering.TheVariants.{Less, Equal, Greater}}
use Rattle.epoch_model.specs.{Keys.{Key, key_eq, key_cmp, has, with_key, ascending, AreAbove, IsAscending}, TableLaws.KeysAscend}
use Rattle.epoch_model.proofs.KeyLists.{by_test, key_eq-true, key_eq-refl}

-- three cases, by an order
by_order : {P : Type 0} {o : Ordering} → (o ≡ Less → P) → (o ≡ Equal → P) → (o ≡ Greater → P) → P
by_order {o = Less} less _ _ = less refl
by_order {o = Equal} _ equal _ = equal refl
by_order {o = Greater} _ _ greater = greater refl

key_cmp-equal : {a b : Key} → key_cmp a b ≡ Equal → a ≡ b
unfolding key_cmp
key_cmp-equal {a} {b} e = exact_bytes a b e

key_cmp-itself : (a : Key) → key_cmp a a ≡ Equal
unfolding key_cmp
key_cmp-itself a = tied_itself nat_list_cmp_total a

key_cmp-less : (a b c : Key) → key_cmp a b ≡ Less → key_cmp b c ≡ Less → key_cmp a c ≡ Less
unfolding key_cmp
key_cmp-less a b c = nat_list_cmp_total.trans a b c

key_cmp-greater : (a b : Key) → key_cmp a b ≡ Greater → key_cmp b a ≡ Less
unfolding key_cmp
key_cmp-greater a b e = nat_list_cmp_total.antisymm b a ∙ ap ordering_reverse e

-- keys of which neither is smaller are equal
pub equal_keys : (a b : Key) → is_lt (key_cmp a b) ≡ false → is_lt (key_cmp b a) ≡ false → a ≡ b
equal_keys a b first second = by_order (λ e. absurd (true≢false (rw e at first))) (λ e. key_cmp-equal e)
    (λ e. absurd (true≢false (rw (key_cmp-greater a b e) at second)))

above_less : (a b : Key) (keys : List Key) → key_cmp a b ≡ Less → AreAbove b keys → AreAbove a keys
above_less a b [] h above = tt
above_less a b (key ∷ keys) h above = (key_cmp-less a b key h above.0, above_less a b keys h above.1)

above-with_key : (low key : Key) (keys : List Key) → key_cmp low key ≡ Less → AreAbove low keys → AreAbove low (with_key key keys)
above-with_key low key [] h above = (h, tt)
above-with_key low key (first ∷ keys) h above = by_order {o = key_cmp key first} (λ e. rw e (h, above)) (λ e. rw e above)
    (λ e. rw e (above.0, above-with_key low key keys h above.1))

with_key-ascends : (key : Key) (keys : List Key) → IsAscending keys → IsAscending (with_key key keys)
with_key-ascends key [] s = (tt, tt)
with_key-ascends key (first ∷ keys) s = by_order {o = key_cmp key first} (λ e. rw e ((e, above_less key first keys e s.0), s)) (λ e. rw e s)
    (λ e. rw e (above-with_key first key keys (key_cmp-greater key first e) s.0, with_key-ascends key keys s.1))

-- a disjunct that occurs twice, and two disjuncts the other way round
or_twice : (a b : Bool) → (a || b) ≡ (a || (a || b))
or_twice true b = refl
or_twice false b = refl

or_swap : (a b c : Bool) → (a || (b || c)) ≡ (b || (a || c))
or_swap true true c = refl
or_swap true false c = refl
or_swap false true c = refl
or_swap false false c = refl

has-with_key : (k key : Key) (keys : List Key) → has k (with_key key keys) ≡ (key_eq key k || has k keys)
has-with_key k key [] = refl
has-with_key k key (first ∷ keys) = by_order (λ e. rw e refl)
    (λ e. let same : key_eq key k ≡ key_eq first k = ap (λ x. key_eq x k) (key_cmp-equal e) in
    rw e (or_twice (key_eq first k) (has k keys) ∙ ap (λ t. t || (key_eq first k || has k keys)) (sym same)))
    (λ e. rw e (ap (λ t. key_eq first k || t) (has-with_key k key keys) ∙ or_swap (key_eq first k) (key_eq key k) (has k keys)))

pub ascending-ascends : (keys : List Key) → IsAscending (ascending keys)
ascending-ascends [] = tt
ascending-ascends (key ∷ keys) = with_key-ascends key (ascending keys) (ascending-ascends keys)

pub has-ascending : (k : Key) (keys : List Key) → has k (ascending keys) ≡ has k keys
has-ascending k [] = refl
has-ascending k (key ∷ keys) = has-with_key k key (ascending keys) ∙ ap (λ t. key_eq key k || t) (has-ascending k keys)

above-absent : (key : Key) (keys : List Key) → AreAbove key keys → has key keys ≡ false
above-absent key [] above = refl
above-absent key (first ∷ keys) above = by_test (key_eq first key)
    (λ e. absurd (less_not_equal (sym above.0 ∙ (ap (λ x. key_cmp key x) (key_eq-true first key e) ∙ key_cmp-itself key))))
    (λ e. rw e (above-absent key keys above.1))
  where
    less_not_equal : Less ≡ Equal → ⊥
    less_not_equal e = cc

-- a key that is below the first of ascending keys isn't among them
below-absent : (key first : Key) (keys : List Key) → IsAscending (first ∷ keys) → key_cmp key first ≡ Less → has key (first ∷ keys) ≡ false
below-absent key first keys s e = above-absent key (first ∷ keys) (e, above_less key first keys e s.0)

has_first : (key : Key) (keys : List Key) → has key (key ∷ keys) ≡ true
has_first key keys = ap (λ t. t || has key keys) (key_eq-refl _)

-- ascending lists with the same keys are the same list
pub same_ascending : (xs ys : List Key) → IsAscending xs → IsAscending ys → ((k : Key) → has k xs ≡ has k ys) → xs ≡ ys
same_ascending [] [] s t h = refl
same_ascending [] (y ∷ ys) s t h = absurd (true≢false (sym (has_first y _) ∙ sym (h y)))
same_ascending (x ∷ xs) [] s t h = absurd (true≢false (sym (has_first x _) ∙ h x))
same_ascending (x ∷ xs) (y ∷ ys) s t h = by_order (λ e. absurd (true≢false (sym (has_first x xs) ∙ (h x ∙ below-absent x y ys t e))))
    (λ e. let same = key_cmp-equal e in
    subst (λ z. x ∷ xs ≡ z ∷ ys) same
    (ap (λ zs. x ∷ zs) (same_ascending xs ys s.1 t.1 (tails_alike x xs ys s.0 (subst (λ z. AreAbove z ys) (sym same) t.0)
    (λ k. h k ∙ ap (λ z. key_eq z k || has k ys) (sym same))))))
    (λ e. absurd (true≢false (sym (has_first y ys) ∙ (sym (h y) ∙ below-absent y x xs s (key_cmp-greater x y e)))))
  where
    tails_alike : (x : Key) (xs ys : List Key) → AreAbove x xs → AreAbove x ys → ((k : Key) → has k (x ∷ xs) ≡ has k (x ∷ ys)) → (k : Key)
        → has k xs ≡ has k ys
    tails_alike x xs ys s t h k = by_test (key_eq x k) (λ e. let same = key_eq-true x k e in
        subst (λ z. has z xs ≡ has z ys) same (above-absent x xs s ∙ sym (above-absent x ys t)))
        (λ e. sym (ap (λ t. t || has k xs) e) ∙ (h k ∙ ap (λ t. t || has k ys) e))

pub keys_ascend_lem : KeysAscend
keys_ascend_lem keys = (ascending-ascends keys, λ k. has-ascending k keys)
