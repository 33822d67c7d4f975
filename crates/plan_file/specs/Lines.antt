-- Which line is valid after the lines before it, and what is made with it.
use Rattle.std.specs.Prelude.{◌≡◌, ℕ, ◌<◌, ◌≤◌, true, false, List, [], ◌∷◌, ◌++◌, length, codes, Some, None, Contains, IfSome}
use Rattle.marple_base.specs.declared.field.Field.{Field}
use Rattle.query_lang.specs.{Blocks.Block, declared.fault.TheConstants.{MAX_ARGS, MAX_GROUPBYS, MAX_STATES}}
use Rattle.stage_plan.specs.declared.op.PlanOp.{PlanOp}
use Rattle.plan_file.specs.declared.line_word.LineWord.{LineWord}
use Rattle.plan_file.specs.declared.line_word.LineWord.TheVariants as words
use Rattle.plan_file.specs.{declared.made.{Group.Group, Folded.Folded, Made.Made}, Lexis.tokens, LineWords.line_word}
use Rattle.plan_file.specs.{Operations.{IsReadsLine, IsOpLine}, Named.IsOneNumber, Bodies.IsBody, Groups.{IsGroupLine, IsInGroup}}
use Rattle.plan_file.specs.FoldLines.{IsFoldLine}

abbrev pub nothing : Made
nothing = record { begun = false; reads = None; ops = []; groups = []; current = None; prints = [] }

-- `marple-plan 1`, the first line
pub record IsFirst (before : Made) (line : List ℕ) (after : Made) : Type 0 where
  pub first : before.begun ≡ false
  pub words : tokens line ≡ codes "marple-plan" ∷ codes "1" ∷ []
  pub made : after ≡ record before { begun = true }

-- `reads` and names of fields, the second line
pub record IsReads (before : Made) (line : List ℕ) (after : Made) : Type 0 where
  pub begun : before.begun ≡ true
  pub second : before.reads ≡ None
  pub fields : List Field
  pub valid : IsReadsLine line fields
  pub made : after ≡ record before { reads = Some fields }

-- `op STAGE FN A B`, before any group
pub record IsOp (before : Made) (line : List ℕ) (after : Made) : Type 0 where
  pub fields : List Field
  pub reads : before.reads ≡ Some fields
  pub groups : before.groups ≡ []
  pub current : before.current ≡ None
  pub op : PlanOp
  pub valid : IsOpLine fields before.ops line op
  pub made : after ≡ record before { ops = before.ops ++ op ∷ [] }

-- `group NAME P`, where no group's lines are being read and nothing is printed
pub record IsGroup (before : Made) (line : List ℕ) (after : Made) : Type 0 where
  pub fields : List Field
  pub reads : before.reads ≡ Some fields
  pub current : before.current ≡ None
  pub prints : before.prints ≡ []
  pub group : Group
  pub valid : IsGroupLine fields before.ops before.groups line group
  pub made : after ≡ record before { current = Some group }

-- a line of the group whose lines are being read, with this first word
pub record IsPart (word : LineWord) (before : Made) (line : List ℕ) (after : Made) : Type 0 where
  pub fields : List Field
  pub reads : before.reads ≡ Some fields
  pub group : Group
  pub current : before.current ≡ Some group
  pub next : Group
  pub valid : IsInGroup word fields before.ops group line next
  pub made : after ≡ record before { current = Some next }

-- `fold CLASS K n s`, which ends the group
pub record IsFold (before : Made) (line : List ℕ) (after : Made) : Type 0 where
  pub group : Group
  pub current : before.current ≡ Some group
  pub folded : Folded
  pub valid : IsFoldLine group line folded
  pub made : after ≡ record before { groups = before.groups ++ folded ∷ []; current = None }

-- `print I`, where no group's lines are being read: the number of a group that isn't printed yet
pub record IsPrint (before : Made) (line : List ℕ) (after : Made) : Type 0 where
  pub current : before.current ≡ None
  pub group : ℕ
  pub valid : IsOneNumber (codes "print") line group
  pub there : group < length before.groups
  pub new : Contains before.prints group → ⊥
  pub made : after ≡ record before { prints = before.prints ++ group ∷ [] }

-- the rule for a line with this first word
abbrev pub IsLineOf : LineWord → Made → List ℕ → Made → Type 0
IsLineOf words.Plan before line after = IsFirst before line after
IsLineOf words.Reads before line after = IsReads before line after
IsLineOf words.Op before line after = IsOp before line after
IsLineOf words.Group before line after = IsGroup before line after
IsLineOf words.Key before line after = IsPart words.Key before line after
IsLineOf words.Arg before line after = IsPart words.Arg before line after
IsLineOf words.State before line after = IsPart words.State before line after
IsLineOf words.Body before line after = IsPart words.Body before line after
IsLineOf words.Fold before line after = IsFold before line after
IsLineOf words.Print before line after = IsPrint before line after
IsLineOf words.Other before line after = ⊥

-- a line is valid after what the lines before it made, and this is made with it
abbrev pub IsLine : Made → List ℕ → Made → Type 0
IsLine before line after = IsLineOf (line_word line) before line after

abbrev pub IsValidAfter : Made → List ℕ → Type 0
IsValidAfter before line = (after : Made) × IsLine before line after

-- what holds of each group while its lines are read
pub record IsGroupWithin (group : Group) : Type 0 where
  pub states : length group.initial ≤ MAX_STATES
  pub args : length group.args ≤ MAX_ARGS
  pub body : IfSome group.body (λ tokens. (body : Block) × IsBody (length group.initial) (length group.args) tokens body)

-- what holds of all that lines make
pub record IsWithin (made : Made) : Type 0 where
  pub ops : length made.ops ≤ 32768
  pub groups : length made.groups ≤ MAX_GROUPBYS
  pub room : IfSome made.current (λ group. length made.groups < MAX_GROUPBYS)
  pub current : IfSome made.current IsGroupWithin
