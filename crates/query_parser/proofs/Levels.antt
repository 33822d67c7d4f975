-- What the levels, the brackets and the expressions are made of.
use Rattle.std.proofs.Common.{◌≡◌, ℕ, zero, suc, ◌-◌, ◌<◌, List, refl, ap, arith}
use Rattle.query_lang.specs.declared.token.Token.{Token}
use Rattle.query_grammar.specs.{declared.stop.Counts.Counts, Parser.Limited, Reading.{parens, listed_by, expr_starts, expr_at}}
use Rattle.query_parser.specs.Reads.{operands_of, level_of, bracket_at, arguments_at, primary_at}
use Rattle.query_parser.specs.declared.operators.Level.TheVariants as levels

pub expr_is : (e : ℕ) (c : Counts) (ts : List Token) → expr_at Limited e c ts ≡ level_of levels.Either (primary_at e) c ts
unfolding expr_at operands_of
expr_is zero c ts = refl
expr_is (suc e) c ts = refl

pub bracket_more : (e : ℕ) (c : Counts) (ts : List Token) → 0 < e → bracket_at e c ts ≡ parens Limited (expr_at Limited (e - 1)) c ts
bracket_more zero c ts h = grind (arith, h)
bracket_more (suc e) c ts h = let k : e ≡ suc e - 1 = omega arith in ap (λ (n : ℕ). parens Limited (expr_at Limited n) c ts) k

pub arguments_more : (e : ℕ) (c : Counts) (ts : List Token) → 0 < e → arguments_at e c ts ≡ parens Limited
    (listed_by Limited expr_starts (expr_at Limited (e - 1))) c ts
arguments_more zero c ts h = grind (arith, h)
arguments_more (suc e) c ts h = let k : e ≡ suc e - 1 = omega arith in ap
    (λ (n : ℕ). parens Limited (listed_by Limited expr_starts (expr_at Limited n)) c ts) k
