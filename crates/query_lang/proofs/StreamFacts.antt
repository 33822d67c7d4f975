-- The examples of streams.
use Rattle.std.{proofs.Common.{◌≡◌, ℕ, List, [], ◌∷◌, Option, Some, refl, subst, ap, sym, ◌∙◌}, specs.Prelude.{filter, map, fold, ◌++◌}}
use Rattle.query_lang.specs.declared.{fold.{Op.TheVariants.Lt, TypedExpr.TypedExpr, TypedFold.TypedFold}, typed.TypedOp.TypedOp}
use Rattle.query_lang.specs.{declared.typed.{TypedOp.TheVariants.Group, TypedStream.TypedStream}, Words.{holds, op_value}}
use Rattle.query_lang.specs.{Terms.{Term, Literal, Read, Operation}, Folds.term_value}
use Rattle.query_lang.specs.Streams.{Tuple, numbered, values_at, holds_at, filter_stream, made_of, tuples_at}
use Rattle.query_lang.specs.StreamExamples.{three_packets, tuple, FilterExample, MapExample, ZipExample, GroupExample}

pub filter_example : FilterExample
unfolding op_value
filter_example condition e =
    let P : Term → Type 0 = λ t. filter (λ one. holds (term_value t one.row)) (numbered 1 three_packets) ≡ tuple 1 (5 ∷ 1 ∷ [])
    ∷ tuple 3 (5 ∷ 3 ∷ []) ∷ [] in
    subst P (sym e) refl

pub map_example : MapExample
unfolding op_value
map_example sum e =
    let P : Term → Type 0 = λ t.
    map (λ one. tuple one.packet (one.row ++ term_value t one.row ∷ [])) (numbered 1 three_packets)
    ≡ tuple 1 (5 ∷ 1 ∷ 6 ∷ []) ∷ tuple 2 (7 ∷ 0 ∷ 7 ∷ []) ∷ tuple 3 (5 ∷ 3 ∷ 8 ∷ []) ∷ [] in
    subst P (sym e) refl

pub zip_example : ZipExample
zip_example = refl

pub group_example : GroupExample
unfolding op_value
group_example q f first second emit below parts emits starts groups filters emit_is below_is =
    let packets = numbered 1 three_packets in
    let whole : List TypedFold → List TypedStream → List Tuple = λ folds streams.
    tuples_at (fold (λ made one. made ++ made_of folds made one.op ∷ []) (packets ∷ []) streams) 2 in
    let two : TypedOp → TypedOp → List Tuple = λ a b.
    made_of (f ∷ []) (packets ∷ made_of (f ∷ []) (packets ∷ []) a ∷ []) b in
    let keys : Option TypedExpr → List ℕ → List Tuple = λ o start.
    map (λ one. tuple one.packet (values_at one.row (0 ∷ []))) (filter (λ one. holds_at o (start ++ values_at one.row (1 ∷ []))) packets) in
    let emitted : Term → List Tuple = λ t.
    map (λ one. tuple one.packet (values_at one.row (0 ∷ []))) (filter (λ one. holds (term_value t (9 ∷ values_at one.row (1 ∷ []))))
    packets) in
    let kept : List Tuple → Term → List Tuple = λ input t. filter (λ one. holds (term_value t one.row)) input in
    ap (λ folds. whole folds q.streams) parts.0
    ∙ ap (λ streams. whole (f ∷ []) streams) parts.1
    ∙ ap (λ op. two op second.op) groups
    ∙ ap (λ op. two (Group 0 (0 ∷ []) 0 (1 ∷ [])) op) filters
    ∙ ap (λ o. filter_stream below (keys o f.initial)) emits
    ∙ ap (λ start. filter_stream below (keys (Some emit) start)) starts
    ∙ ap (λ t. filter_stream below (emitted t)) emit_is
    ∙ ap (λ t. kept (emitted (Operation Lt (Literal 0) (Read 1))) t) below_is
