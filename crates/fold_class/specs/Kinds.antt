-- The kinds of expressions and variables, and the class of a fold.
use Rattle.std.specs.Prelude.{ℕ, Bool, true, false, ◌||◌, nat_lt, if◌then◌else◌}
use Rattle.query_lang.specs.declared.fold.Op.{Op, TheVariants.{Mul, Add, Sub, Max, Sadd}}
use Rattle.query_lang.specs.{Terms.{Term, Literal, Read, Negation, Operation}, declared.fold.TypedFold.TypedFold}
use Rattle.query_lang.specs.{Blocks.{Block, End, Set, Fork}, Folds.{fold_states, fold_block}, declared.typed.Class.Class}
use Rattle.query_lang.specs.declared.typed.Class.TheVariants.{Linear}
use Rattle.fold_class.specs.declared.class.{Algebra.{Algebra, TheVariants.{Sums, Maxima}}, Kind.{Kind, TheVariants.{Pure, Affine}}}
pub use Rattle.fold_class.specs.declared.class.Role.{Role}
pub use Rattle.fold_class.specs.declared.class.Role.TheVariants.{Sum, Difference, Product, Outside}
use Rattle.fold_class.specs.{Tables.{update, all_below}, Depth.is_history}

-- the role of an operator in an algebra
abbrev pub role : Algebra → Op → Role
role Sums Add = Sum
role Sums Sub = Difference
role Sums Mul = Product
role Maxima Max = Sum
role Maxima Sadd = Product
role _ _ = Outside

-- the greater kind
abbrev pub greater : Kind → Kind → Kind
greater Pure k = k
greater Affine Pure = Affine
greater Affine k = k
greater Kind.Other k = Kind.Other

abbrev pub product_kind : Kind → Kind → Kind
product_kind Pure k = k
product_kind Affine Pure = Affine
product_kind _ _ = Kind.Other

abbrev pub outside_kind : Kind → Kind → Kind
outside_kind Pure Pure = Pure
outside_kind _ _ = Kind.Other

abbrev pub role_kind : Role → Kind → Kind → Kind
role_kind Sum k l = greater k l
role_kind Difference k l = greater k l
role_kind Product k l = product_kind k l
role_kind Outside k l = outside_kind k l

-- the kind of an expression, where a table has the kinds of the slots and `roles` says what each operator is
abbrev pub expr_kind : (Op → Role) → Term → (ℕ → Kind) → Kind
expr_kind roles (Literal n) kinds = Pure
expr_kind roles (Read s) kinds = kinds s
expr_kind roles (Negation e) kinds = outside_kind Pure (expr_kind roles e kinds)
expr_kind roles (Operation op a b) kinds = role_kind (roles op) (expr_kind roles a kinds) (expr_kind roles b kinds)

-- the table where each variable that the block assigns is Other
abbrev pub marked : Block → (ℕ → Kind) → ℕ → Kind
marked End kinds = kinds
marked (Set v e rest) kinds = marked rest (update kinds v Kind.Other)
marked (Fork c a b rest) kinds = marked rest (marked b (marked a kinds))

abbrev pub chosen_kinds : Kind → (ℕ → Kind) → (ℕ → Kind) → (ℕ → Kind) → ℕ → Kind
chosen_kinds Pure a b other = λ v. greater (a v) (b v)
chosen_kinds _ a b other = other

-- the kinds after a block
abbrev pub kinds_after : (Op → Role) → Block → (ℕ → Kind) → ℕ → Kind
kinds_after roles End kinds = kinds
kinds_after roles (Set v e rest) kinds = kinds_after roles rest (update kinds v (expr_kind roles e kinds))
kinds_after roles (Fork c a b rest) kinds =
    kinds_after roles rest (chosen_kinds (expr_kind roles c kinds) (kinds_after roles a kinds) (kinds_after roles b kinds)
    (marked b (marked a kinds)))

-- at the start fixed variables and arguments are Pure, and other variables Affine
abbrev pub kinds_from : (ℕ → Bool) → TypedFold → ℕ → Kind
kinds_from fixed f s = if nat_lt s (fold_states f) then (if fixed s then Pure else Affine) else Pure

-- the kinds at the end of the body
abbrev pub end_kinds : (Op → Role) → (ℕ → Bool) → TypedFold → ℕ → Kind
end_kinds roles fixed f = kinds_after roles (fold_block f) (kinds_from fixed f)

abbrev pub is_no_other : Kind → Bool
is_no_other Kind.Other = false
is_no_other _ = true

-- no variable is Other at the end of the body
abbrev pub has_no_other : (Op → Role) → (ℕ → Bool) → TypedFold → Bool
has_no_other roles fixed f = all_below (fold_states f) (λ v. is_no_other (end_kinds roles fixed f v))

-- what a fold's variables are taken for at the beginning, if its history variables are fixed
abbrev pub kinds_first : TypedFold → ℕ → Kind
kinds_first f = kinds_from (is_history f) f

abbrev pub fold_kinds : Algebra → TypedFold → ℕ → Kind
fold_kinds algebra f = end_kinds (role algebra) (is_history f) f

abbrev pub is_linear_by : Algebra → TypedFold → Bool
is_linear_by algebra f = has_no_other (role algebra) (is_history f) f

abbrev pub class_of : TypedFold → Class
class_of f = if is_linear_by Sums f || is_linear_by Maxima f then Linear else Class.Other

abbrev pub algebra_of : TypedFold → Algebra
algebra_of f = if is_linear_by Sums f then Sums else (if is_linear_by Maxima f then Maxima else Sums)
