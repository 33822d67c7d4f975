-- Each field adds one column more whose origin is a field.
use Rattle.std.proofs.Common.{◌≡◌, ◌∙◌, ℕ, zero, suc, ◌+◌, ◌<◌, List, [], ◌∷◌, ◌++◌, length, map, take, refl, ap, sym, add-one}
use Rattle.std.proofs.Common.{append_assoc, arith}
use Rattle.marple_base.specs.declared.field.Field.{Field}
use Rattle.query_lang.specs.declared.typing.Origin.{Origin}
use Rattle.query_lang.specs.declared.typing.Origin.TheVariants as origin
use Rattle.query_facts.proofs.columns.push_fields.Goals as goal

-- one field more
one_more : (fields : List Field) (i : ℕ) → i < length fields
    → map (λ _. origin.Field) (take (suc i) fields) ≡ map (λ _. origin.Field) (take i fields) ++ origin.Field ∷ []
one_more [] i within = absurd (omega arith)
one_more (field ∷ fields) zero within = refl
one_more (field ∷ fields) (suc i) within = ap (λ (l : List Origin). origin.Field ∷ l) (one_more fields i (omega arith))

pub loop-field-preserved : goal.loop-field-preserved
loop-field-preserved c =
    let i = c.loop-field._field-index in
    let before : List Origin = map (λ _. origin.Field) (take i c.args.fields.now) in
    let more = one_more c.args.fields.now i c.loop-field-test.true in
    let pushed : (c.args.into.now ++ before) ++ origin.Field ∷ [] ≡ c.args.into.now ++ (before ++ origin.Field ∷ []) =
    append_assoc c.args.into.now before (origin.Field ∷ []) in
    rw (add-one i, more) (c.in_ok-push.ensures.ok ∙ ap (λ (l : List Origin). l ++ origin.Field ∷ []) c.loop-field.invariant ∙ pushed)
