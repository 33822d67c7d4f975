-- What the lines of a valid text make is sound.
use Rattle.std.proofs.Common.{◌≡◌, ℕ, ◌+◌, ◌<◌, ◌≤◌, Bool, true, List, [], ◌∷◌, ◌++◌, length, Option, Some, None, refl, sym, subst, arith}
use Rattle.std.{proofs.lemmas.List.{length_push, Elements.{All-nil, All-push, All-weaker}}, specs.Prelude.{IfSome, All}}
use Rattle.marple_base.specs.declared.field.{Field.Field, TheConstants.FIELDS}
use Rattle.query_lang.specs.declared.fault.TheConstants.{MAX_ARGS, MAX_GROUPBYS, MAX_KEYS, MAX_STATES}
use Rattle.stage_plan.specs.{declared.op.{Operand.Operand, PlanOp.PlanOp}, Sound.{AreSoundOps, IsWithin}}
use Rattle.plan_file.specs.declared.{lexemes.Lexeme.Lexeme, line_word.LineWord.LineWord}
use Rattle.plan_file.specs.declared.line_word.LineWord.TheVariants as words
use Rattle.plan_file.specs.{declared.made.{Folded.Folded, Group.Group, Made.Made}, FoldLines.{IsFoldLine, IsFoldOf}}
use Rattle.plan_file.specs.{Groups.{IsInGroup, IsKeyLine, IsArgLine, IsStateLine, IsGroupBody, group_with}, Lexis.lines}
use Rattle.plan_file.specs.Lines.{nothing, IsLine, IsFirst, IsReads, IsOp, IsGroup, IsPart, IsFold, IsPrint}
use Rattle.plan_file.proofs.KeptFacts.{Keeps, line_keeps}
use Rattle.plan_file.specs.Texts.{Make, Says}
use Rattle.plan_loader.{specs.Parts.{IsSoundFolded, IsSoundMade}, proofs.SoundOps.{known_within, ops_more}}

-- the keys, the arguments and the state variables of a group, where there are this many registers
record AreKeys (registers : ℕ) (names : List (List ℕ)) (keys : List Operand) : Type 0 where
  most : length keys ≤ MAX_KEYS
  named : length names ≡ length keys
  within : All (IsWithin registers) keys

record AreArgs (registers : ℕ) (args : List Operand) : Type 0 where
  most : length args ≤ MAX_ARGS
  within : All (IsWithin registers) args

record AreStates (names : List (List ℕ)) (initial : List ℕ) : Type 0 where
  most : length initial ≤ MAX_STATES
  named : length names ≡ length initial

-- a group while its lines are read
record IsBegun (registers : ℕ) (group : Group) : Type 0 where
  keys : AreKeys registers group.key_names group.keys
  args : AreArgs registers group.args
  states : AreStates group.state_names group.initial
  present : IsWithin registers group.present
  after_keys : IfSome group.body (λ words. 0 < length group.keys)

-- what lines make while they are read
record IsSoundSoFar (made : Made) : Type 0 where
  ops : AreSoundOps made.ops
  most_groups : length made.groups ≤ MAX_GROUPBYS
  groups : All (IsSoundFolded (FIELDS + length made.ops)) made.groups
  current : IfSome made.current (λ group. IsBegun (FIELDS + length made.ops) group × (length made.groups < MAX_GROUPBYS))
  prints : All (λ number. number < length made.groups) made.prints

nothing_some : {X : Type 0} (x : X) → None ≡ Some x → ⊥
nothing_some x e = cc

no_ops : AreSoundOps []
no_ops = record {
  each = λ i one e. absurd (nothing_some one e);
  ordered = λ i j one other lt e f. absurd (nothing_some one e);
  most = omega arith;
}

first_sound : IsSoundSoFar nothing
first_sound = record {
  ops = no_ops;
  most_groups = omega arith;
  groups = All-nil (IsSoundFolded (FIELDS + length nothing.ops));
  current = tt;
  prints = All-nil (λ number. number < length nothing.groups);
}

key_begun : (fs : List Field) (ops : List PlanOp) (g : Group) (line : List ℕ) (n : Group) → IsKeyLine fs ops g line n
    → IsBegun (FIELDS + length ops) g → IsBegun (FIELDS + length ops) n
key_begun fs ops g line n p b =
    let registers = FIELDS + length ops in
    let names = b.keys.named in
    let B = λ (o : Option (List Lexeme)). IfSome o (λ words. 0 < length (g.keys ++ p.value ∷ [])) in
    subst (IsBegun registers) (sym p.made) (record {
      keys = record {
        most = omega (arith, p.room, length_push g.keys p.value);
        named = omega (arith, names, length_push g.keys p.value, length_push g.key_names p.name);
        within = All-push (IsWithin registers) g.keys p.value b.keys.within (known_within fs ops p.value p.valid.known);
      };
      args = b.args;
      states = b.states;
      present = b.present;
      after_keys = subst B (sym p.body) tt;
    })

arg_begun : (fs : List Field) (ops : List PlanOp) (g : Group) (line : List ℕ) (n : Group) → IsArgLine fs ops g line n
    → IsBegun (FIELDS + length ops) g → IsBegun (FIELDS + length ops) n
arg_begun fs ops g line n p b =
    let registers = FIELDS + length ops in
    subst (IsBegun registers) (sym p.made) (record {
      keys = b.keys;
      args = record {
        most = omega (arith, p.room, length_push g.args p.value);
        within = All-push (IsWithin registers) g.args p.value b.args.within (known_within fs ops p.value p.valid.known);
      };
      states = b.states;
      present = b.present;
      after_keys = b.after_keys;
    })

state_begun : (registers : ℕ) (g : Group) (line : List ℕ) (n : Group) → IsStateLine g line n → IsBegun registers g → IsBegun registers n
state_begun registers g line n p b =
    let names = b.states.named in
    subst (IsBegun registers) (sym p.made) (record {
      keys = b.keys;
      args = b.args;
      states = record {
        most = omega (arith, p.room, length_push g.initial p.value);
        named = omega (arith, names, length_push g.initial p.value, length_push g.state_names p.name);
      };
      present = b.present;
      after_keys = b.after_keys;
    })

body_begun : (registers : ℕ) (g : Group) (line : List ℕ) (n : Group) → IsGroupBody g line n → IsBegun registers g → IsBegun registers n
body_begun registers g line n p b = subst (IsBegun registers) (sym p.made)
    (record { keys = b.keys; args = b.args; states = b.states; present = b.present; after_keys = p.keys })

group_begun : (word : LineWord) (fs : List Field) (ops : List PlanOp) (g : Group) (line : List ℕ) (n : Group)
    → IsInGroup word fs ops g line n → IsBegun (FIELDS + length ops) g → IsBegun (FIELDS + length ops) n
group_begun words.Key fs ops g line n p b = key_begun fs ops g line n p b
group_begun words.Arg fs ops g line n p b = arg_begun fs ops g line n p b
group_begun words.State fs ops g line n p b = state_begun (FIELDS + length ops) g line n p b
group_begun words.Body fs ops g line n p b = body_begun (FIELDS + length ops) g line n p b
group_begun _ fs ops g line n p b = absurd p

folded_sound : (registers : ℕ) (g : Group) (line : List ℕ) (after : Folded) → IsFoldLine g line after → IsBegun registers g
    → IsSoundFolded registers after
folded_sound registers g line after p b =
    let keys : 0 < length g.keys = subst (λ o. IfSome o (λ words. 0 < length g.keys)) p.is_fold.has_body b.after_keys in
    let group = sym p.made in
    record {
      some_keys = subst (λ (x : Group). 0 < length x.keys) group keys;
      most_keys = subst (λ (x : Group). length x.keys ≤ MAX_KEYS) group b.keys.most;
      key_names = subst (λ (x : Group). length x.key_names ≡ length x.keys) group b.keys.named;
      most_args = subst (λ (x : Group). length x.args ≤ MAX_ARGS) group b.args.most;
      most_states = subst (λ (x : Group). length x.initial ≤ MAX_STATES) group b.states.most;
      state_names = subst (λ (x : Group). length x.state_names ≡ length x.initial) group b.states.named;
      present = subst (λ (x : Group). IsWithin registers x.present) group b.present;
      key_registers = subst (λ (x : Group). All (IsWithin registers) x.keys) group b.keys.within;
      arg_registers = subst (λ (x : Group). All (IsWithin registers) x.args) group b.args.within;
      fold = p.fold;
      is_fold = subst (λ (x : Group). IsFoldOf x p.fold) group p.is_fold;
      class = p.class;
      depth = p.depth;
      bounds = p.bounds;
    }

-- neither the operations nor the groups are others
made_with : (b : Made) (begun : Bool) (reads : Option (List Field)) (prints : List ℕ) → IsSoundSoFar b
    → All (λ number. number < length b.groups) prints → IsSoundSoFar (record b { begun = begun; reads = reads; prints = prints })
made_with b begun reads prints s there = record {
  ops = s.ops;
  most_groups = s.most_groups;
  groups = s.groups;
  current = s.current;
  prints = there;
}

first_more : Keeps IsSoundSoFar IsFirst
first_more b line a p s = subst IsSoundSoFar (sym p.made) (made_with b true b.reads b.prints s s.prints)

reads_more : Keeps IsSoundSoFar IsReads
reads_more b line a p s = subst IsSoundSoFar (sym p.made) (made_with b b.begun (Some p.fields) b.prints s s.prints)

op_more : Keeps IsSoundSoFar IsOp
op_more b line a p s =
    let registers = FIELDS + length (b.ops ++ p.op ∷ []) in
    let C = λ (o : Option Group). IfSome o (λ group. IsBegun registers group × (length b.groups < MAX_GROUPBYS)) in
    subst IsSoundSoFar (sym p.made) (record {
      ops = ops_more p.fields b.ops p.op s.ops p.valid.allowed;
      most_groups = s.most_groups;
      groups = subst (λ gs. All (IsSoundFolded registers) gs) (sym p.groups) (All-nil (IsSoundFolded registers));
      current = subst C (sym p.current) tt;
      prints = s.prints;
    })

begun_more : Keeps IsSoundSoFar IsGroup
begun_more b line a p s =
    let registers = FIELDS + length b.ops in
    let new : IsBegun registers (group_with p.group.name p.group.present) = record {
      keys = record { most = omega arith; named = refl; within = All-nil (IsWithin registers) };
      args = record { most = omega arith; within = All-nil (IsWithin registers) };
      states = record { most = omega arith; named = refl };
      present = known_within p.fields b.ops p.group.present p.valid.valid.known;
      after_keys = tt;
    } in
    subst IsSoundSoFar (sym p.made) (record {
      ops = s.ops;
      most_groups = s.most_groups;
      groups = s.groups;
      current = (subst (IsBegun registers) (sym p.valid.made) new, p.valid.room);
      prints = s.prints;
    })

part_more : (word : LineWord) → Keeps IsSoundSoFar (IsPart word)
part_more word b line a p s =
    let registers = FIELDS + length b.ops in
    let old = subst (λ (o : Option Group). IfSome o (λ group. IsBegun registers group × (length b.groups < MAX_GROUPBYS))) p.current
    s.current in
    subst IsSoundSoFar (sym p.made) (record {
      ops = s.ops;
      most_groups = s.most_groups;
      groups = s.groups;
      current = (group_begun word p.fields b.ops p.group line p.next p.valid old.0, old.1);
      prints = s.prints;
    })

fold_more : Keeps IsSoundSoFar IsFold
fold_more b line a p s =
    let registers = FIELDS + length b.ops in
    let old = subst (λ (o : Option Group). IfSome o (λ group. IsBegun registers group × (length b.groups < MAX_GROUPBYS))) p.current
    s.current in
    let room : length b.groups < MAX_GROUPBYS = old.1 in
    let long = length_push b.groups p.folded in
    subst IsSoundSoFar (sym p.made) (record {
      ops = s.ops;
      most_groups = omega (arith, room, long);
      groups = All-push (IsSoundFolded registers) b.groups p.folded s.groups (folded_sound registers p.group line p.folded p.valid old.0);
      current = tt;
      prints = All-weaker (λ number. number < length b.groups) (λ number. number < length (b.groups ++ p.folded ∷ []))
          (λ number lt. omega (arith, lt, long)) b.prints s.prints;
    })

print_more : Keeps IsSoundSoFar IsPrint
print_more b line a p s = subst IsSoundSoFar (sym p.made) (made_with b b.begun b.reads (b.prints ++ p.group ∷ []) s
    (All-push (λ number. number < length b.groups) b.prints p.group s.prints p.there))

line_more : Keeps IsSoundSoFar IsLine
line_more = line_keeps IsSoundSoFar first_more reads_more op_more begun_more part_more fold_more print_more

make_sound : (ls : List (List ℕ)) (b a : Made) → Make ls b a → IsSoundSoFar b → IsSoundSoFar a
make_sound [] b a p s = subst IsSoundSoFar (sym p) s
make_sound (line ∷ ls) b a p s = make_sound ls p.0 a p.2 (line_more b line p.0 p.1 s)

-- what a valid text says
pub says_sound : (text : List ℕ) (made : Made) → Says text made → IsSoundMade made
says_sound text made says =
    let s = make_sound (lines text) nothing made says.valid first_sound in
    record { ops = s.ops; most_groups = s.most_groups; groups = s.groups; prints = s.prints }
