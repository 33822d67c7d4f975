-- The row lists of a key in a view.
use Rattle.std.proofs.Common.{◌≡◌, ◌≤◌, ℕ, true, List, [], ◌∷◌, ◌++◌, length, map, filter, reverse, refl, sym, ap, subst, ◌∙◌, arith}
use Rattle.std.{proofs.lemmas.List.{map-append, Elements.{All-head, All-tail, filter-append}}, specs.Prelude.{All, not}}
use Rattle.std.specs.Cmp.Lexicographic.{bytes_decides}
use Rattle.epoch_model.specs.{Epochs.Geometry, Keys.{Key, key_eq, bucket_of, others, distinct}, Laws.IsWellFormed}
use Rattle.epoch_model.specs.Machine.{Epoch, Machine, open_in, is_of, lists_of, row_lists}
use Rattle.live_view.{specs.Views.{open_epochs, all_epochs}, proofs.Lists.{by_test, one_passes, few_pass, all_pass}}

same_key : (a b : Key) → key_eq a b ≡ true → a ≡ b
unfolding key_eq
same_key a b = (bytes_decides a b).0

-- epochs of another bucket's keys aren't the key's
strangers : (buckets bucket : ℕ) (key : Key) (epochs : List Epoch) → All (λ epoch. bucket_of buckets epoch.key ≡ bucket) epochs
    → (bucket ≡ bucket_of buckets key → ⊥)
    → filter (is_of key) epochs ≡ []
strangers buckets bucket key [] home apart = refl
strangers buckets bucket key (epoch ∷ epochs) home apart =
    let P = λ (e : Epoch). bucket_of buckets e.key ≡ bucket in
    by_test (is_of key epoch)
    (λ h. absurd (apart (sym (All-head P epoch epochs home) ∙ ap (bucket_of buckets) (same_key epoch.key key h))))
    (λ h. rw h (strangers buckets bucket key epochs (All-tail P epoch epochs home) apart))

few_distinct : (keys : List Key) → length (distinct keys) ≤ length keys
few_distinct [] = omega arith
few_distinct (key ∷ keys) = let few = few_pass (λ other. not (key_eq other key)) (distinct keys) in let rest =
    few_distinct keys in omega arith

-- the first of distinct keys isn't among the others, which are distinct
first_apart : (key : Key) (keys : List Key) → distinct (key ∷ keys) ≡ key ∷ keys → (distinct keys ≡ keys) × (others key keys ≡ keys)
first_apart key keys once =
    let rest : others key (distinct keys) ≡ keys = cc in
    let long = ap length rest in
    let few = few_distinct keys in
    let all : others key (distinct keys) ≡ distinct keys = all_pass (λ other. not (key_eq other key)) (distinct keys) (omega arith) in
    let same : distinct keys ≡ keys = sym all ∙ rest in
    (same, ap (others key) (sym same) ∙ rest)

-- where no key is this one, no epoch is of it
none_of : (key : Key) (epochs : List Epoch) → others key (map (λ epoch. epoch.key) epochs) ≡ map (λ epoch. epoch.key) epochs
    → filter (is_of key) epochs ≡ []
none_of key [] h = refl
none_of key (epoch ∷ epochs) h = by_test (key_eq epoch.key key)
    (λ e. let shorter : others key (map (λ (x : Epoch). x.key) epochs) ≡ epoch.key ∷ map (λ x. x.key) epochs = rw e at h in
    let few = few_pass (λ other. not (key_eq other key)) (map (λ (x : Epoch). x.key) epochs) in
    let long = ap length shorter in absurd (omega arith))
    (λ e. let rest : others key (map (λ (x : Epoch). x.key) epochs) ≡ map (λ x. x.key) epochs = let q : epoch.key
    ∷ others key (map (λ (x : Epoch). x.key) epochs) ≡ epoch.key ∷ map (λ x. x.key) epochs = rw e at h in cc in
    rw e (none_of key epochs rest))

-- of epochs with distinct keys one at most is of the key
one_at_most : (key : Key) (epochs : List Epoch) → distinct (map (λ epoch. epoch.key) epochs) ≡ map (λ epoch. epoch.key) epochs
    → reverse (filter (is_of key) epochs) ≡ filter (is_of key) epochs
one_at_most key [] once = refl
one_at_most key (epoch ∷ epochs) once =
    let parts = first_apart epoch.key (map (λ (x : Epoch). x.key) epochs) once in
    by_test (is_of key epoch)
    (λ e. let same = same_key epoch.key key e in
    let none : filter (is_of key) epochs ≡ [] = none_of key epochs (subst
    (λ k. others k (map (λ (x : Epoch). x.key) epochs) ≡ map (λ x. x.key) epochs) same parts.1) in
    rw (e, none) refl)
    (λ e. rw e (one_at_most key epochs parts.0))

pub lists_seen : (g : Geometry) (m : Machine) (key : Key) → IsWellFormed g m → lists_of key (all_epochs m) ≡ row_lists g m key
unfolding row_lists
lists_seen g m key formed =
    let own = bucket_of g.buckets key in
    let only : filter (is_of key) (open_epochs m) ≡ filter (is_of key) (open_in m own) =
    one_passes (is_of key) own m.recent (λ i apart. strangers g.buckets i key (open_in m i) (formed.home i) apart)
    (one_at_most key (open_in m own) (formed.once own)) in
    ap (map (λ epoch. epoch.rows)) (filter-append (is_of key) m.closed (open_epochs m) ∙ ap (λ es. filter (is_of key) m.closed ++ es) only)
    ∙ map-append (λ epoch. epoch.rows) (filter (is_of key) m.closed) (filter (is_of key) (open_in m own))
