-- The examples of uses.
use Rattle.std.proofs.Common.{◌≡◌, ℕ, List, [], ◌∷◌, Option, Some, None, refl, ap, ◌∙◌}
use Rattle.std.specs.Prelude.{filter, filter_map, map, fold, ◌++◌, slice_get}
use Rattle.epoch_model.specs.Epochs.{Use}
use Rattle.query_lang.specs.declared.{fold.{TypedExpr.TypedExpr, TypedFold.TypedFold}, typed.{TypedOp.TypedOp, TypedQuery.TypedQuery}}
use Rattle.query_lang.specs.{declared.typed.TypedStream.TypedStream, Words.{holds, op_value}, Terms.Term, Folds.term_value}
use Rattle.query_lang.specs.declared.typed.TypedOp.TheVariants.{Filter, Map, Zip, Group}
use Rattle.query_lang.specs.Streams.{Tuple, Taking, numbered, values_at, holds_at, made_of, tuples_at, taking_of}
use Rattle.query_lang.specs.StreamExamples.{three_packets, tuple, HasParts}
use Rattle.stage_plan.specs.{Uses.{use_of, taken_by, uses}, UseExamples.{use_at, FilteredUses, MappedUses, ZippedUses, FedUses}}

abbrev taken : List (List Tuple) → Option Taking → List Use
taken streams None = []
taken streams (Some t) = map (use_of t) (tuples_at streams t.input)

-- the uses by the operators alone
abbrev by_ops : List TypedFold → List TypedOp → ℕ → List Use
by_ops folds ops number = taken (fold (λ made op. made ++ made_of folds made op ∷ []) (numbered 1 three_packets ∷ []) ops)
    (slice_get (filter_map taking_of ops) number)

abbrev by_streams : List TypedFold → List TypedStream → ℕ → List Use
by_streams folds streams number =
    taken (fold (λ made one. made ++ made_of folds made one.op ∷ []) (numbered 1 three_packets ∷ []) streams)
    (slice_get (filter_map (λ one. taking_of one.op) streams) number)

by_parts : (q : TypedQuery) (t : Option Taking) → (let streams : List (List Tuple) =
    fold (λ made one. made ++ made_of q.folds made one.op ∷ []) (numbered 1 three_packets ∷ []) q.streams in
    taken_by q three_packets t ≡ taken streams t)
by_parts q None = refl
by_parts q (Some t) = refl

of_two : (q : TypedQuery) (f : TypedFold) (first second : TypedStream) (number : ℕ) (a b : TypedOp) → HasParts first second q f
    → first.op ≡ a → second.op ≡ b
    → uses q number three_packets ≡ by_ops (f ∷ []) (a ∷ b ∷ []) number
of_two q f first second number a b parts one two =
    by_parts q (slice_get (filter_map (λ one. taking_of one.op) q.streams) number)
    ∙ ap (λ folds. by_streams folds q.streams number) parts.0
    ∙ ap (λ streams. by_streams (f ∷ []) streams number) parts.1
    ∙ ap (λ op. by_ops (f ∷ []) (op ∷ second.op ∷ []) number) one
    ∙ ap (λ op. by_ops (f ∷ []) (a ∷ op ∷ []) number) two

abbrev by_key : List ℕ → List ℕ → Tuple → Use
by_key keys args one = use_at one.packet (values_at one.row keys) (values_at one.row args)

pub filtered_uses : FilteredUses
unfolding op_value
filtered_uses q f first second condition parts one two is =
    of_two q f first second 0 (Filter 0 condition) (Group 1 (0 ∷ []) 0 (1 ∷ [])) parts one two
    ∙ ap (λ (t : Term). map (by_key (0 ∷ []) (1 ∷ [])) (filter (λ one. holds (term_value t one.row)) (numbered 1 three_packets))) is

pub mapped_uses : MappedUses
unfolding op_value
mapped_uses q f first second sum parts one two is =
    of_two q f first second 0 (Map 0 (sum ∷ [])) (Group 1 (0 ∷ []) 0 (2 ∷ [])) parts one two
    ∙ ap (λ (t : Term). map (by_key (0 ∷ []) (2 ∷ [])) (map (λ one. tuple one.packet (one.row ++ term_value t one.row ∷ []))
    (numbered 1 three_packets))) is

pub zipped_uses : ZippedUses
zipped_uses q f first second parts one two = of_two q f first second 0 (Zip 0 0 []) (Group 1 (0 ∷ 1 ∷ []) 0 []) parts one two

pub fed_uses : FedUses
unfolding op_value
fed_uses q f first second emit parts emits starts one two is =
    let packets = numbered 1 three_packets in
    let keys : Option TypedExpr → List ℕ → List Tuple = λ o start.
    map (λ one. tuple one.packet (values_at one.row (0 ∷ []))) (filter (λ one. holds_at o (start ++ values_at one.row (1 ∷ []))) packets) in
    let emitted : Term → List Tuple = λ t.
    map (λ one. tuple one.packet (values_at one.row (0 ∷ []))) (filter (λ one. holds (term_value t (9 ∷ values_at one.row (1 ∷ []))))
    packets) in
    of_two q f first second 1 (Group 0 (0 ∷ []) 0 (1 ∷ [])) (Group 1 (0 ∷ []) 0 (0 ∷ [])) parts one two
    ∙ ap (λ o. map (by_key (0 ∷ []) (0 ∷ [])) (keys o f.initial)) emits
    ∙ ap (λ start. map (by_key (0 ∷ []) (0 ∷ [])) (keys (Some emit) start)) starts
    ∙ ap (λ t. map (by_key (0 ∷ []) (0 ∷ [])) (emitted t)) is
