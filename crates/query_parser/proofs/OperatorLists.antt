-- Operators of a list, by the kind of the token.
use Rattle.std.proofs.Common.{◌≡◌, ◌-◌, ◌≤◌, Bool, true, false, List, [], ◌∷◌, Option, Some, None, length, take, drop, slice_index_or}
use Rattle.std.{proofs.{Common.{refl, sym, ap, ◌∙◌, arith}, lemmas.List.take_rest}, specs.{Option.is_some, Prelude.nat_eq}}
use Rattle.query_lang.specs.declared.{fold.Op.Op, token.Token.Token}
use Rattle.query_grammar.specs.{Kinds.{among, kind_number, kinds_of, operator}, Grammar.Operators, declared.stop.Counts.Counts}
use Rattle.query_grammar.specs.{Language.Node, Parser.{Limited, Done, charge, next_is, taken, word}}
use Rattle.query_parser.specs.Reads.{op_among, next_op, is_op, op_with}

pub operator_is : (ops : Operators) (t : Token) → operator ops t ≡ op_with t.span (op_among ops t.kind)
operator_is [] t = refl
operator_is (o ∷ others) t = go (nat_eq (kind_number t.kind) (kind_number o.0)) refl (operator_is others t)
  where
    go : (b : Bool) → nat_eq (kind_number t.kind) (kind_number o.0) ≡ b → operator others t ≡ op_with t.span (op_among others t.kind)
        → operator (o ∷ others) t ≡ op_with t.span (op_among (o ∷ others) t.kind)
    go true e h = rw e refl
    go false e h = rw e h

-- an operator is read as the one that comes next
pub word_is : (ops : Operators) (c : Counts) (t : Token) (ts : List Token)
    → word Limited Node (operator ops) c (t ∷ ts) ≡ taken Limited Node c (op_with t.span (next_op ops (t ∷ ts))) t ts
word_is ops c t ts = rw (operator_is ops t) refl

-- the operator that comes next is read
pub counted_is : (ops : Operators) (found : Option Op) (op : Op) (c d : Counts) (ts : List Token) (none : Token) → 1 ≤ length ts
    → found ≡ next_op ops ts → found ≡ Some op → charge Limited Node c ≡ Some d
    → word Limited Node (operator ops) c ts ≡ Done (op, (slice_index_or ts 0 none).span) d (take (length ts - 1) (drop 1 ts))
counted_is ops found op c d [] none h is some paid = absurd (omega (arith, h))
counted_is ops found op c d (t ∷ ts) none h is some paid =
    let k : op_among ops t.kind ≡ Some op = sym is ∙ some in
    rw (operator_is ops t, k, paid, take_rest (t ∷ ts) 1) refl

kind_is_op : (ops : Operators) (t : Token) → among (kinds_of ops) t ≡ is_op (op_among ops t.kind)
kind_is_op [] t = refl
kind_is_op (o ∷ others) t = go (nat_eq (kind_number t.kind) (kind_number o.0)) refl (kind_is_op others t)
  where
    go : (b : Bool) → nat_eq (kind_number t.kind) (kind_number o.0) ≡ b → among (kinds_of others) t ≡ is_op (op_among others t.kind)
        → among (kinds_of (o ∷ others)) t ≡ is_op (op_among (o ∷ others) t.kind)
    go true e h = rw e refl
    go false e h = rw e h

next_is_op : (ops : Operators) (ts : List Token) → next_is (among (kinds_of ops)) ts ≡ is_op (next_op ops ts)
next_is_op ops [] = refl
next_is_op ops (t ∷ ts) = kind_is_op ops t

-- whether one comes next
pub comes_next : (ops : Operators) (ts : List Token) (found : Option Op) → found ≡ next_op ops ts
    → is_some found ≡ next_is (among (kinds_of ops)) ts
comes_next ops ts None e = sym (next_is_op ops ts ∙ ap is_op (sym e))
comes_next ops ts (Some op) e = sym (next_is_op ops ts ∙ ap is_op (sym e))
