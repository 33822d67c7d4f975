-- What operators make of the order of states, and which folds are monotone.
-- A value of kind Pure is the same from every state, one of kind Affine no less from a greater state, and of one of kind Other
-- nothing is known.
use Rattle.std.specs.Prelude.{ℕ, Bool, false}
use Rattle.query_lang.specs.declared.fold.{Op.{Op, TheVariants.{Div, Shr, Max, Min, Sadd, Decay}}, TypedFold.TypedFold}
use Rattle.fold_class.specs.{declared.class.Role.{Role, TheVariants.{Sum, Product, Outside}}, Kinds.has_no_other}

-- an operator that rises with both operands is a sum, and one that rises with its left operand, where the right one is always a
-- number, a product
abbrev pub role : Op → Role
role Max = Sum
role Min = Sum
role Sadd = Sum
role Decay = Product
role Shr = Product
role Div = Product
role _ = Outside

-- each variable may begin greater
abbrev pub none_fixed : ℕ → Bool
none_fixed v = false

-- no variable is Other at the end of the body
abbrev pub is_monotone : TypedFold → Bool
is_monotone f = has_no_other role none_fixed f
