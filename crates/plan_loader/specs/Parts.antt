-- The plan that a text makes, and what holds of all that the lines of a valid text make.
use Rattle.std.specs.{Prelude.{◌≡◌, ℕ, ◌+◌, ◌<◌, ◌≤◌, List, length, map, All}, List.AllZip}
use Rattle.marple_base.specs.declared.field.TheConstants.{FIELDS}
use Rattle.query_lang.specs.declared.{fold.TypedFold.TypedFold, fault.TheConstants.{MAX_ARGS, MAX_GROUPBYS, MAX_KEYS, MAX_STATES}}
use Rattle.fold_class.specs.{Depth.IsDepth, Kinds.class_of, Program.IsProgramOf}
use Rattle.stage_plan.specs.{declared.group.GroupPlan.GroupPlan, Sound.{PlanParts, AreSoundOps, IsWithin}}
use Rattle.plan_file.specs.{declared.made.{Folded.Folded, Made.Made}, FoldLines.{IsFoldOf, AreBounds}}
use Rattle.plan_loader.specs.Meaning.{reads_in, wiring_in}

-- a fold of a group with the bounds that its `fold` line gives
pub record IsFoldIn (one : Folded) (fold : TypedFold) : Type 0 where
  pub is_fold : IsFoldOf one.group fold
  pub nodes : fold.nodes ≡ one.nodes
  pub statements : fold.statements ≡ one.statements

-- a groupby of a plan has the names of a group of the text, and a program of its fold
pub record IsGroupFrom (one : Folded) (group : GroupPlan) : Type 0 where
  pub name : group.name ≡ one.group.name
  pub key_names : group.key_names ≡ one.group.key_names
  pub state_names : group.state_names ≡ one.group.state_names
  pub fold : TypedFold
  pub is_fold : IsFoldIn one fold
  pub program : IsProgramOf fold group.program

-- the groupbys of a plan are the groups of the text, in order
abbrev pub AreGroupsFrom : List Folded → List GroupPlan → Type 0
AreGroupsFrom groups plans = AllZip IsGroupFrom groups plans

-- The plan of what a text's lines make: it reads the fields that they name, has their operations and groups, and takes
-- what the groups take.
pub record IsPlanFrom (made : Made) (plan : PlanParts) : Type 0 where
  pub reads : plan.reads ≡ reads_in made
  pub ops : plan.ops ≡ made.ops
  pub groups : AreGroupsFrom made.groups plan.groups
  pub wiring : plan.wiring ≡ map wiring_in made.groups

-- a group with all its lines, where there are this many registers
pub record IsSoundFolded (registers : ℕ) (one : Folded) : Type 0 where
  pub some_keys : 0 < length one.group.keys
  pub most_keys : length one.group.keys ≤ MAX_KEYS
  pub key_names : length one.group.key_names ≡ length one.group.keys
  pub most_args : length one.group.args ≤ MAX_ARGS
  pub most_states : length one.group.initial ≤ MAX_STATES
  pub state_names : length one.group.state_names ≡ length one.group.initial
  pub present : IsWithin registers one.group.present
  pub key_registers : All (IsWithin registers) one.group.keys
  pub arg_registers : All (IsWithin registers) one.group.args
  pub fold : TypedFold
  pub is_fold : IsFoldOf one.group fold
  pub class : one.class ≡ class_of fold
  pub depth : IsDepth fold one.depth
  pub bounds : AreBounds fold one.nodes one.statements

-- a group with all its lines
pub record IsWhole (one : Folded) : Type 0 where
  pub registers : ℕ
  pub sound : IsSoundFolded registers one

-- what a text's lines make
pub record IsSoundMade (made : Made) : Type 0 where
  pub ops : AreSoundOps made.ops
  pub most_groups : length made.groups ≤ MAX_GROUPBYS
  pub groups : All (IsSoundFolded (FIELDS + length made.ops)) made.groups
  pub prints : All (λ number. number < length made.groups) made.prints
