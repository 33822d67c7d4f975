-- Where a key's rows are cut, with the uses in the order of the trace.
use Rattle.std.proofs.Common.{◌≡◌, ℕ, suc, ◌+◌, Bool, true, false, cond, not, ◌&&◌, ◌||◌, List, [], ◌∷◌, ◌++◌, Some, None, length, map}
use Rattle.std.proofs.Common.{filter, reverse, refl, sym, ap, ap₂, ◌∙◌, subst, arith, append-nil, append_assoc, length-append}
use Rattle.std.{proofs.lemmas.List.{reverse-append, map-append, Elements.filter-append}, specs.Prelude.nat_lt}
use Rattle.epoch_model.specs.{Keys.{Key, key_eq, others, distinct, has}, Epochs.{Use, Geometry, refresh_between, is_rival, rivals}}
use Rattle.epoch_model.specs.Epochs.{in_one_epoch, is_use_of, last_use, since_last_use, goes_on_after, goes_on, onto_last, epochs_back}
use Rattle.epoch_model.{specs.{Epochs.epochs, Laws.{NotUsed, EpochsAreCutBetweenUses}}, proofs.KeyLists.{by_test, key_eq-true, key_eq-refl}}
use Rattle.epoch_model.proofs.KeyLists.{key_eq-sym_false, IsDistinct, others_absent, distinct-distinct, has-distinct}

-- 1 for a key that is there
abbrev counted : Bool → ℕ
counted true = 1
counted false = 0

others-append : (k : Key) (xs ys : List Key) → others k (xs ++ ys) ≡ others k xs ++ others k ys
others-append k xs ys = filter-append (λ other. not (key_eq other k)) xs ys

key_eq-sym_true : (a b : Key) → key_eq a b ≡ true → key_eq b a ≡ true
key_eq-sym_true a b e = subst (λ x. key_eq x a ≡ true) (key_eq-true a b e) (key_eq-refl a)

-- a key at the end is new where it isn't there
distinct-snoc : (xs : List Key) (k : Key) → distinct (xs ++ k ∷ []) ≡ distinct xs ++ cond (has k xs) [] (k ∷ [])
distinct-snoc [] k = refl
distinct-snoc (x ∷ xs) k = ap (λ ks. x ∷ others x ks) (distinct-snoc xs k)
    ∙ (ap (λ ks. x ∷ ks) (others-append x (distinct xs) (cond (has k xs) [] (k ∷ []))) ∙ by_test (has k xs)
    (λ h. by_test (key_eq x k) (λ e. rw (h, e) refl) (λ e. rw (h, e) refl)) (λ h. by_test (key_eq x k)
    (λ e. rw (h, e, key_eq-sym_true x k e) refl) (λ e. rw (h, e, key_eq-sym_false x k e) refl)))

-- without a key there is one fewer where it is there
length-others : (k : Key) (xs : List Key) → IsDistinct xs → length (others k xs) + counted (has k xs) ≡ length xs
length-others k [] d = omega arith
length-others k (x ∷ xs) d = by_test (key_eq x k)
    (λ e. let gone : has k xs ≡ false = subst (λ j. has j xs ≡ false) (key_eq-true x k e) d.0 in
    let same = ap length (others_absent k xs gone) in
    rw e (let n : length (others k xs) + 1 ≡ suc (length xs) = omega arith in n)) (λ e. let rest = length-others k xs d.1 in
    rw e (let n : suc (length (others k xs)) + counted (has k xs) ≡ suc (length xs) = omega arith in n))

has-append : (k : Key) (xs ys : List Key) → has k (xs ++ ys) ≡ (has k xs || has k ys)
has-append k [] ys = refl
has-append k (x ∷ xs) ys = by_test (key_eq x k) (λ e. rw e refl) (λ e. rw e (has-append k xs ys))

reverse-cons : {A : Type 0} (x : A) (xs : List A) → reverse (x ∷ xs) ≡ reverse xs ++ x ∷ []
reverse-cons x xs = reverse-append (x ∷ []) xs

has-reverse : (k : Key) (xs : List Key) → has k (reverse xs) ≡ has k xs
has-reverse k [] = refl
has-reverse k (x ∷ xs) = ap (has k) (reverse-cons x xs) ∙ (has-append k (reverse xs) (x ∷ [])
    ∙ (ap (λ t. t || (key_eq x k || false)) (has-reverse k xs)
    ∙ by_test (has k xs) (λ h. by_test (key_eq x k) (λ e. rw (h, e) refl) (λ e. rw (h, e) refl))
    (λ h. by_test (key_eq x k) (λ e. rw (h, e) refl) (λ e. rw (h, e) refl))))

-- how many keys there are doesn't depend on the order
distinct-reverse : (xs : List Key) → length (distinct (reverse xs)) ≡ length (distinct xs)
distinct-reverse [] = refl
distinct-reverse (x ∷ xs) =
    let rest = distinct-reverse xs in
    let without = length-others x (distinct xs) (distinct-distinct xs) in
    let there : has x (distinct xs) ≡ has x xs = has-distinct x xs in
    let back : has x (reverse xs) ≡ has x xs = has-reverse x xs in
    ap (λ ys. length (distinct ys)) (reverse-cons x xs) ∙ (ap length (distinct-snoc (reverse xs) x)
    ∙ (length-append (distinct (reverse xs)) (cond (has x (reverse xs)) [] (x ∷ [])) ∙ by_test (has x xs)
    (λ h. let one : has x (distinct xs) ≡ true = there ∙ h in
    let n : length (others x (distinct xs)) + 1 ≡ length (distinct xs) = rw one at without in
    rw (back, h) (let m : length (distinct (reverse xs)) + 0 ≡ suc (length (others x (distinct xs))) = omega arith in m))
    (λ h. let none : has x (distinct xs) ≡ false = there ∙ h in
    let n : length (others x (distinct xs)) + 0 ≡ length (distinct xs) = rw none at without in
    rw (back, h) (let m : length (distinct (reverse xs)) + 1 ≡ suc (length (others x (distinct xs))) = omega arith in m))))

map-reverse : (uses : List Use) → map (λ u. u.key) (reverse uses) ≡ reverse (map (λ u. u.key) uses)
map-reverse [] = refl
map-reverse (u ∷ uses) = ap (map (λ (x : Use). x.key)) (reverse-cons u uses) ∙ (map-append (λ (x : Use). x.key) (reverse uses) (u ∷ [])
    ∙ (ap (λ ks. ks ++ u.key ∷ []) (map-reverse uses) ∙ sym (reverse-cons u.key (map (λ x. x.key) uses))))

filter-reverse : (p : Key → Bool) (xs : List Key) → filter p (reverse xs) ≡ reverse (filter p xs)
filter-reverse p [] = refl
filter-reverse p (x ∷ xs) = ap (filter p) (reverse-cons x xs) ∙ (filter-append p (reverse xs) (x ∷ [])
    ∙ (ap (λ ys. ys ++ filter p (x ∷ [])) (filter-reverse p xs)
    ∙ by_test (p x) (λ e. rw e (sym (reverse-cons x (filter p xs)))) (λ e. rw e (append-nil (reverse (filter p xs))))))

rivals-reverse : (g : Geometry) (key : Key) (uses : List Use) → length (rivals g key (reverse uses)) ≡ length (rivals g key uses)
rivals-reverse g key uses = ap (λ ks. length (distinct (filter (is_rival g key) ks))) (map-reverse uses)
    ∙ (ap (λ ks. length (distinct ks)) (filter-reverse (is_rival g key) (map (λ u. u.key) uses))
    ∙ distinct-reverse (filter (is_rival g key) (map (λ u. u.key) uses)))

NotUsed-append : (key : Key) (xs ys : List Use) → NotUsed key xs → NotUsed key ys → NotUsed key (xs ++ ys)
NotUsed-append key [] ys a b = b
NotUsed-append key (x ∷ xs) ys a b = (a.0, NotUsed-append key xs ys a.1 b)

NotUsed-reverse : (key : Key) (xs : List Use) → NotUsed key xs → NotUsed key (reverse xs)
NotUsed-reverse key [] a = tt
NotUsed-reverse key (x ∷ xs) a = subst (NotUsed key) (sym (reverse-cons x xs))
    (NotUsed-append key (reverse xs) (x ∷ []) (NotUsed-reverse key xs a.1) (a.0, tt))

last-none : (key : Key) (uses : List Use) → NotUsed key uses → last_use key uses ≡ None
last-none key [] a = refl
last-none key (u ∷ uses) a = rw a.0 (last-none key uses a.1)

last-skip : (key : Key) (xs ys : List Use) {one : Use} → NotUsed key xs → is_use_of key one ≡ true
    → last_use key (xs ++ one ∷ ys) ≡ Some one
last-skip key [] ys a e = rw e refl
last-skip key (x ∷ xs) ys a e = rw a.0 (last-skip key xs ys a.1 e)

since-skip : (key : Key) (xs ys : List Use) (one : Use) → NotUsed key xs → is_use_of key one ≡ true
    → since_last_use key (xs ++ one ∷ ys) ≡ xs
since-skip key [] ys one a e = rw e refl
since-skip key (x ∷ xs) ys one a e = rw a.0 (ap (λ us. x ∷ us) (since-skip _ _ _ _ a.1 e))

-- the uses from the latest one back: those after a use, the use, and those before it
back : (before between : List Use) (one : Use) → reverse (before ++ one ∷ between) ≡ reverse between ++ one ∷ reverse before
back before between one = reverse-append before (one ∷ between) ∙ (ap (λ us. us ++ reverse before) (reverse-cons one between)
    ∙ append_assoc (reverse between) (one ∷ []) (reverse before))

goes_on-is : (g : Geometry) (before between : List Use) (one two : Use) → is_use_of two.key one ≡ true → NotUsed two.key between
    → goes_on g (reverse (before ++ one ∷ between)) two ≡ in_one_epoch g one between two
goes_on-is g before between one two e n =
    let n' = NotUsed-reverse two.key between n in
    ap (λ us. goes_on g us two) (back before between one)
    ∙ (ap₂ (λ last us. goes_on_after g last us two) (last-skip two.key (reverse between) (reverse before) n' e)
    (since-skip two.key (reverse between) (reverse before) one n' e)
    ∙ ap (λ n. nat_lt n g.ways && not (refresh_between g.refresh one.packet two.packet)) (rivals-reverse g two.key between))

-- the latest use of the trace comes first
latest : (g : Geometry) (uses : List Use) (u : Use) (key : Key) → epochs g (uses ++ u ∷ []) key ≡ epochs_back g (u ∷ reverse uses) key
unfolding epochs
latest g uses u key = ap (λ us. epochs_back g us key) (reverse-append uses (u ∷ []))

pub epochs_are_cut_between_uses_lem : EpochsAreCutBetweenUses
unfolding epochs
epochs_are_cut_between_uses_lem g = record {
  start = λ key. refl;
  other = λ uses u key e. latest g uses u key ∙ rw e refl;
  first = λ uses u n.
      let fresh : goes_on g (reverse uses) u ≡ false = ap (λ last. goes_on_after g last (since_last_use u.key (reverse uses)) u)
      (last-none u.key (reverse uses) (NotUsed-reverse u.key uses n)) in
      let own : key_eq u.key u.key ≡ true = key_eq-refl u.key in
      latest g uses u u.key ∙ rw (own, fresh) refl;
  next = λ before between one two e n.
      let prior = before ++ one ∷ between in
      let own : key_eq two.key two.key ≡ true = key_eq-refl two.key in
      let on : goes_on g (reverse prior) two ≡ in_one_epoch g one between two = goes_on-is g before between one two e n in
      latest g prior two two.key ∙ rw own (ap (λ t. cond t (onto_last two.row (epochs g prior two.key))
      (epochs g prior two.key ++ (two.row ∷ []) ∷ [])) on);
}
