-- The order of keys.
use Rattle.std.proofs.{Common.{◌≡◌, true, false, List, [], ◌∷◌, refl, ap, ◌∙◌}, lemmas.Cmp.{nat_list_cmp_total, tied_itself}}
use Rattle.std.{proofs.lemmas.Map.Lookups.exact_bytes, specs.declared.cmp.Ordering.{Ordering, TheVariants.{Less, Equal, Greater}}}
use Rattle.std.specs.Ordering.{is_lt, ordering_reverse}
use Rattle.epoch_model.{specs.Keys.{Key, key_eq, key_cmp, AreAbove}, proofs.KeyLists.{by_test, key_eq-true, key_eq-refl}}

-- three cases, by an order
pub by_order : {P : Type 0} (o : Ordering) → (o ≡ Less → P) → (o ≡ Equal → P) → (o ≡ Greater → P) → P
by_order Less less equal greater = less refl
by_order Equal less equal greater = equal refl
by_order Greater less equal greater = greater refl

pub key_cmp-equal : (a b : Key) → key_cmp a b ≡ Equal → a ≡ b
unfolding key_cmp
key_cmp-equal a b e = exact_bytes a b e

pub key_cmp-itself : (a : Key) → key_cmp a a ≡ Equal
unfolding key_cmp
key_cmp-itself a = tied_itself nat_list_cmp_total a

pub key_cmp-less : (a b c : Key) → key_cmp a b ≡ Less → key_cmp b c ≡ Less → key_cmp a c ≡ Less
unfolding key_cmp
key_cmp-less a b c = nat_list_cmp_total.trans a b c

pub key_cmp-greater : (a b : Key) → key_cmp a b ≡ Greater → key_cmp b a ≡ Less
unfolding key_cmp
key_cmp-greater a b e = nat_list_cmp_total.antisymm b a ∙ ap ordering_reverse e

pub key_cmp-back : (a b : Key) → key_cmp a b ≡ Less → key_cmp b a ≡ Greater
unfolding key_cmp
key_cmp-back a b e = nat_list_cmp_total.antisymm b a ∙ ap ordering_reverse e

pub less_is : (a b : Key) → is_lt (key_cmp a b) ≡ true → key_cmp a b ≡ Less
less_is a b t = by_order (key_cmp a b)
    (λ e. e)
    (λ e. let no = rw e at t in cc)
    (λ e. let no = rw e at t in cc)

pub less_apart : (a b : Key) → key_cmp a b ≡ Less → key_eq a b ≡ false
less_apart a b e = by_test (key_eq a b)
    (λ t. let no = rw (key_eq-true a b t, key_cmp-itself) at e in cc)
    (λ t. t)

pub not_less : (a b : Key) → is_lt (key_cmp a b) ≡ false → key_eq a b ≡ false → key_cmp b a ≡ Less
not_less a b t n = by_order (key_cmp a b)
    (λ e. let no = rw e at t in cc)
    (λ e. let no = rw (key_cmp-equal a b e, key_eq-refl) at n in cc)
    (λ e. key_cmp-greater a b e)

pub above_less : (a b : Key) (keys : List Key) → key_cmp a b ≡ Less → AreAbove b keys → AreAbove a keys
above_less a b [] h above = tt
above_less a b (key ∷ keys) h above = (key_cmp-less a b key h above.0, above_less a b keys h above.1)
