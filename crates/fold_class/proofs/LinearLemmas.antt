-- The walk from the kinds at the start says whether a variable is Other at the end.
use Rattle.std.proofs.Common.{◌≡◌, ◌≢◌, ℕ, ◌+◌, ◌<◌, Bool, true, false, ◌==◌, nat_lt, if◌then◌else◌, List, length, set, refl, sym, ap, ◌∙◌}
use Rattle.std.proofs.{Common.{subst, arith, get_or-set_same, get_or-set_other}, lemmas.Bool.Decides.nat_tests}
use mathlib.Core.Path.{fun_ext}
use Rattle.query_lang.specs.{declared.fold.{Op.Op, TypedFold.TypedFold, TypedStmt.TypedStmt}, Blocks.block_of}
use Rattle.query_lang.specs.Folds.{fold_states, fold_block}
use Rattle.fold_class.specs.{declared.class.Kind.{Kind, TheVariants.{Pure, Affine}}, Tables.all_below}
use Rattle.fold_class.specs.{Kinds.{Role, kinds_after, is_no_other, has_no_other}, Walk.kinds_in}

-- what is fixed counts for the fold's variables alone
pub same_fixed : (roles : Op → Role) (f : TypedFold) (fixed other : ℕ → Bool) → ((v : ℕ) → v < fold_states f → fixed v ≡ other v)
    → has_no_other roles fixed f ≡ has_no_other roles other f
same_fixed roles f fixed other h = ap (λ z. all_below (fold_states f) (λ v. is_no_other (kinds_after roles (fold_block f) z v)))
    (fun_ext (λ s. at s (nat_lt s (fold_states f)) refl))
  where
    at : (s : ℕ) (b : Bool) → nat_lt s (fold_states f) ≡ b → (if b then (if fixed s then Pure else Affine) else Pure)
        ≡ (if b then (if other s then Pure else Affine) else Pure)
    at s true e = let lt : s < fold_states f = grind (arith, nat_tests) in ap (λ z. if z then Pure else Affine) (h s lt)
    at s false e = refl

pub kept_from : (roles : Op → Role) (f : TypedFold) (fixed : ℕ → Bool) (n : ℕ) (block : List TypedStmt) (start walked : List Kind)
    (b : Bool) → n ≡ fold_states f → block ≡ f.body →
    ((s : ℕ) → kinds_in start s ≡ (if nat_lt s n then (if fixed s then Pure else Affine) else Pure))
    → kinds_in walked ≡ kinds_after roles (block_of block) (kinds_in start) →
    b ≡ all_below n (λ v. is_no_other (kinds_in walked v)) → b ≡ has_no_other roles fixed f
kept_from roles f fixed n _ start walked b en eb es ew e =
    let first = fun_ext (λ s. es s ∙ ap (λ m. if nat_lt s m then (if fixed s then Pure else Affine) else Pure) en) in
    e ∙ ap (λ m. all_below m (λ v. is_no_other (kinds_in walked v))) en
    ∙ ap (λ z. all_below (fold_states f) (λ v. is_no_other (z v))) (ew ∙ ap (λ l. kinds_after roles (block_of l) (kinds_in start)) eb
    ∙ ap (kinds_after roles (fold_block f)) first)

-- one more variable has its kind
pub kind_step : (kinds : List Kind) (g : ℕ → Kind) (v : ℕ) (k : Kind) → v < length kinds → k ≡ g v
    → ((s : ℕ) → kinds_in kinds s ≡ (if nat_lt s v then g s else Pure)) →
    (s : ℕ) → kinds_in (set kinds v k) s ≡ (if nat_lt s (v + 1) then g s else Pure)
kind_step kinds g v k h e old s = at (s == v) refl
  where
    at : (b : Bool) → (s == v) ≡ b → kinds_in (set kinds v k) s ≡ (if nat_lt s (v + 1) then g s else Pure)
    at true t =
        let same : v ≡ s = grind (arith, nat_tests) in
        let in_now : nat_lt s (v + 1) ≡ true = grind (arith, nat_tests) in
        subst (λ j. kinds_in (set kinds v k) j ≡ g j) same (get_or-set_same kinds v k Pure h ∙ e)
        ∙ sym (ap (λ b. if b then g s else Pure) in_now)
    at false t =
        let off : s ≢ v = grind (arith, nat_tests) in
        get_or-set_other kinds v s k Pure off ∙ old s ∙ ap (λ b. if b then g s else Pure) (same_test (nat_lt s v) refl off)
      where
        same_test : (b : Bool) → nat_lt s v ≡ b → s ≢ v → nat_lt s v ≡ nat_lt s (v + 1)
        same_test true u _ = let next : nat_lt s (v + 1) ≡ true = grind (arith, nat_tests) in u ∙ sym next
        same_test false u _ = let next : nat_lt s (v + 1) ≡ false = grind (arith, nat_tests) in u ∙ sym next
