-- The lines of a group, from `group` to `body`.
use Rattle.std.specs.Prelude.{◌≡◌, ℕ, ◌<◌, List, [], ◌∷◌, ◌++◌, length, map, codes, Some, None, Contains}
use Rattle.marple_base.specs.declared.field.Field.{Field}
use Rattle.query_lang.specs.declared.fault.TheConstants.{MAX_ARGS, MAX_GROUPBYS, MAX_KEYS, MAX_STATES}
use Rattle.stage_plan.specs.declared.op.{Operand.Operand, PlanOp.PlanOp}
use Rattle.plan_file.specs.declared.{lexemes.Lexeme.Lexeme, line_word.LineWord.LineWord}
use Rattle.plan_file.specs.declared.line_word.LineWord.TheVariants as words
use Rattle.plan_file.specs.{declared.made.{Group.Group, Folded.Folded}, Named.{IsNamedOperand, IsNamedNumber, IsOneOperand}}
use Rattle.plan_file.specs.Bodies.{IsBodyLine}

-- the names of groups
abbrev pub names_of : List Folded → List (List ℕ)
names_of groups = map (λ one. one.group.name) groups

-- a group with only a name and the operand that decides whether it takes a use
abbrev pub group_with : List ℕ → Operand → Group
group_with name present = record {
  name = name;
  present = present;
  key_names = [];
  keys = [];
  args = [];
  state_names = [];
  initial = [];
  body = None;
}

-- `group NAME P`, with a new name; there are at most MAX_GROUPBYS
pub record IsGroupLine (fields : List Field) (ops : List PlanOp) (groups : List Folded) (line : List ℕ) (after : Group) : Type 0 where
  pub room : length groups < MAX_GROUPBYS
  pub valid : IsNamedOperand fields ops (codes "group") line after.name after.present
  pub no_stream : after.name ≡ codes "pktstream" → ⊥
  pub new : Contains (names_of groups) after.name → ⊥
  pub made : after ≡ group_with after.name after.present

-- a name that no key and no state variable of a group has
pub record IsNewIn (group : Group) (name : List ℕ) : Type 0 where
  pub no_key : Contains group.key_names name → ⊥
  pub no_state : Contains group.state_names name → ⊥

-- `key NAME A`, before the group's other lines; there are at most MAX_KEYS
pub record IsKeyLine (fields : List Field) (ops : List PlanOp) (before : Group) (line : List ℕ) (after : Group) : Type 0 where
  pub args : before.args ≡ []
  pub states : before.state_names ≡ []
  pub body : before.body ≡ None
  pub room : length before.keys < MAX_KEYS
  pub name : List ℕ
  pub value : Operand
  pub valid : IsNamedOperand fields ops (codes "key") line name value
  pub new : IsNewIn before name
  pub made : after ≡ record before { key_names = before.key_names ++ name ∷ []; keys = before.keys ++ value ∷ [] }

-- `arg A`, after a key; there are at most MAX_ARGS
pub record IsArgLine (fields : List Field) (ops : List PlanOp) (before : Group) (line : List ℕ) (after : Group) : Type 0 where
  pub keys : 0 < length before.keys
  pub states : before.state_names ≡ []
  pub body : before.body ≡ None
  pub room : length before.args < MAX_ARGS
  pub value : Operand
  pub valid : IsOneOperand fields ops (codes "arg") line value
  pub made : after ≡ record before { args = before.args ++ value ∷ [] }

-- `state NAME NUMBER`, after a key; there are at most MAX_STATES
pub record IsStateLine (before : Group) (line : List ℕ) (after : Group) : Type 0 where
  pub keys : 0 < length before.keys
  pub body : before.body ≡ None
  pub room : length before.initial < MAX_STATES
  pub name : List ℕ
  pub value : ℕ
  pub valid : IsNamedNumber (codes "state") line name value
  pub new : IsNewIn before name
  pub made : after ≡ record before { state_names = before.state_names ++ name ∷ []; initial = before.initial ++ value ∷ [] }

-- `body` and statements, after a key, once
pub record IsGroupBody (before : Group) (line : List ℕ) (after : Group) : Type 0 where
  pub keys : 0 < length before.keys
  pub once : before.body ≡ None
  pub words : List Lexeme
  pub valid : IsBodyLine (length before.initial) (length before.args) line words
  pub made : after ≡ record before { body = Some words }

-- a line inside a group, by its first word
abbrev pub IsInGroup : LineWord → List Field → List PlanOp → Group → List ℕ → Group → Type 0
IsInGroup words.Key fields ops before line after = IsKeyLine fields ops before line after
IsInGroup words.Arg fields ops before line after = IsArgLine fields ops before line after
IsInGroup words.State fields ops before line after = IsStateLine before line after
IsInGroup words.Body fields ops before line after = IsGroupBody before line after
IsInGroup _ fields ops before line after = ⊥
