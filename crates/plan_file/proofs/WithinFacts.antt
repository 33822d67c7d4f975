-- What holds of all that lines make.
use Rattle.std.{proofs.Common.{ℕ, ◌<◌, List, [], ◌∷◌, ◌++◌, length, Option, sym, subst, arith, length-append}, specs.Prelude.IfSome}
use Rattle.marple_base.specs.declared.field.Field.{Field}
use Rattle.query_lang.specs.{Blocks.Block, declared.fault.TheConstants.{MAX_ARGS, MAX_GROUPBYS, MAX_STATES}}
use Rattle.stage_plan.specs.declared.op.PlanOp.{PlanOp}
use Rattle.plan_file.specs.declared.{lexemes.Lexeme.Lexeme, line_word.LineWord.LineWord}
use Rattle.plan_file.specs.declared.line_word.LineWord.TheVariants as words
use Rattle.plan_file.specs.{declared.made.Group.Group, Bodies.IsBody}
use Rattle.plan_file.specs.Groups.{IsInGroup, IsKeyLine, IsArgLine, IsStateLine, IsGroupBody, group_with}
use Rattle.plan_file.specs.Lines.{IsLine, IsFirst, IsReads, IsOp, IsGroup, IsPart, IsFold, IsPrint, IsWithin, IsGroupWithin}
use Rattle.plan_file.proofs.KeptFacts.{Keeps, line_keeps}

abbrev HasBody : Group → Type 0
HasBody g = IfSome g.body (λ tokens. (body : Block) × IsBody (length g.initial) (length g.args) tokens body)

key_within : (fields : List Field) (ops : List PlanOp) (g : Group) (line : List ℕ) (n : Group) → IsKeyLine fields ops g line n
    → IsGroupWithin g → IsGroupWithin n
key_within fields ops g line n p w = subst IsGroupWithin (sym p.made) (record { states = w.states; args = w.args; body = w.body })

arg_within : (fields : List Field) (ops : List PlanOp) (g : Group) (line : List ℕ) (n : Group) → IsArgLine fields ops g line n
    → IsGroupWithin g → IsGroupWithin n
arg_within fields ops g line n p w =
    let room : length g.args < MAX_ARGS = p.room in
    let B = λ (o : Option (List Lexeme)). IfSome o (λ tokens. (body : Block)
    × IsBody (length g.initial) (length (g.args ++ p.value ∷ [])) tokens body) in
    subst IsGroupWithin (sym p.made) (record {
      states = w.states;
      args = omega (arith, length-append g.args (p.value ∷ []), room);
      body = subst B (sym p.body) tt;
    })

state_within : (g : Group) (line : List ℕ) (n : Group) → IsStateLine g line n → IsGroupWithin g → IsGroupWithin n
state_within g line n p w =
    let room : length g.initial < MAX_STATES = p.room in
    let B = λ (o : Option (List Lexeme)). IfSome o (λ tokens. (body : Block)
    × IsBody (length (g.initial ++ p.value ∷ [])) (length g.args) tokens body) in
    subst IsGroupWithin (sym p.made) (record {
      states = omega (arith, length-append g.initial (p.value ∷ []), room);
      args = w.args;
      body = subst B (sym p.body) tt;
    })

body_within : (g : Group) (line : List ℕ) (n : Group) → IsGroupBody g line n → IsGroupWithin g → IsGroupWithin n
body_within g line n p w = subst IsGroupWithin (sym p.made) (record {
  states = w.states;
  args = w.args;
  body = (p.valid.body, p.valid.is_body);
})

group_within : (word : LineWord) (fields : List Field) (ops : List PlanOp) (g : Group) (line : List ℕ) (n : Group)
    → IsInGroup word fields ops g line n → IsGroupWithin g → IsGroupWithin n
group_within words.Key fields ops g line n p w = key_within fields ops g line n p w
group_within words.Arg fields ops g line n p w = arg_within fields ops g line n p w
group_within words.State fields ops g line n p w = state_within g line n p w
group_within words.Body fields ops g line n p w = body_within g line n p w
group_within _ fields ops g line n p w = absurd p

first_within : Keeps IsWithin IsFirst
first_within b line a p w = subst IsWithin (sym p.made) (record { ops = w.ops; groups = w.groups; room = w.room; current = w.current })

reads_within : Keeps IsWithin IsReads
reads_within b line a p w = subst IsWithin (sym p.made) (record { ops = w.ops; groups = w.groups; room = w.room; current = w.current })

op_within : Keeps IsWithin IsOp
op_within b line a p w =
    let room : length b.ops < 32768 = p.valid.allowed.staged.room in
    subst IsWithin (sym p.made) (record {
      ops = omega (arith, length-append b.ops (p.op ∷ []), room);
      groups = w.groups;
      room = w.room;
      current = w.current;
    })

begun_within : Keeps IsWithin IsGroup
begun_within b line a p w =
    let new : IsGroupWithin (group_with p.group.name p.group.present) = record { states = omega arith; args = omega arith; body = tt } in
    subst IsWithin (sym p.made) (record {
      ops = w.ops;
      groups = w.groups;
      room = p.valid.room;
      current = subst IsGroupWithin (sym p.valid.made) new;
    })

part_within : (word : LineWord) → Keeps IsWithin (IsPart word)
part_within word b line a p w =
    let room = subst (λ o. IfSome o (λ group. length b.groups < MAX_GROUPBYS)) p.current w.room in
    let old = subst (λ o. IfSome o IsGroupWithin) p.current w.current in
    subst IsWithin (sym p.made) (record {
      ops = w.ops;
      groups = w.groups;
      room = room;
      current = group_within word p.fields b.ops p.group line p.next p.valid old;
    })

fold_within : Keeps IsWithin IsFold
fold_within b line a p w =
    let room : length b.groups < MAX_GROUPBYS = subst (λ o. IfSome o (λ group. length b.groups < MAX_GROUPBYS)) p.current w.room in
    subst IsWithin (sym p.made) (record {
      ops = w.ops;
      groups = omega (arith, length-append b.groups (p.folded ∷ []), room);
      room = tt;
      current = tt;
    })

print_within : Keeps IsWithin IsPrint
print_within b line a p w = subst IsWithin (sym p.made) (record { ops = w.ops; groups = w.groups; room = w.room; current = w.current })

-- what one more line makes is within the limits too
pub line_within : Keeps IsWithin IsLine
line_within =
    line_keeps IsWithin first_within reads_within op_within begun_within part_within fold_within print_within
