-- The facts of a query.
use Rattle.std.specs.Prelude.{◌≡◌, ℕ, List, map, Ok, Err}
use Rattle.query_lang.specs.declared.{fault.QueryFault.QueryFault, typed.TypedQuery.TypedQuery}
use Rattle.stage_plan.specs.Fields.{reads_of}
use Rattle.accepted_query.specs.Accepted.{accepted}
use Rattle.net_wide.specs.Combining.{net_fault}
use Rattle.enclosure_folds.specs.Check.{enclose_fault}
use Rattle.plan_writer.specs.PlanText.{final_fault}
use Rattle.query_facts.specs.declared.{commands.Commands.Commands, answer.{AcceptedFacts.AcceptedFacts, RefusedFacts.RefusedFacts}}
use Rattle.query_facts.specs.declared.answer.Facts as answers
use Rattle.query_facts.specs.{declared.answer.Facts.TheVariants.{Accepted, Refused}, Columns.all_origins, Expected.expected_of}
use Rattle.query_facts.specs.{Folds.fold_facts, Needs.{needed_groupbys, needed_tables}, Parts.parts_of}

-- what each command refuses of an accepted query
abbrev pub command_faults : TypedQuery → Commands
command_faults q = record { net = net_fault q; enclose = enclose_fault q; compile = final_fault q }

-- These are the facts of a typed query.
pub record AreFactsOf (q : TypedQuery) (facts : AcceptedFacts) : Type 0 where
  pub folds : facts.folds ≡ map fold_facts q.folds
  pub origins : facts.origins ≡ all_origins q
  pub needed : facts.needed ≡ needed_groupbys (needed_tables q) q.streams
  pub reads : facts.reads ≡ reads_of q
  pub commands : facts.commands ≡ command_faults q
  pub parts : facts.parts ≡ parts_of q

-- And of an accepted text.
pub record AreAccepted (text : List ℕ) (found : AcceptedFacts) : Type 0 where
  pub typed : accepted text ≡ Ok found.typed
  pub facts : AreFactsOf found.typed found

-- And of a refused one: its first fault, and the tokens that may stand there.
pub record AreRefused (text : List ℕ) (found : RefusedFacts) : Type 0 where
  pub fault : accepted text ≡ Err found.fault
  pub expected : found.expected ≡ expected_of text found.fault

-- The facts of a text.
abbrev pub AreOfText : List ℕ → answers.Facts → Type 0
AreOfText text (Accepted facts) = AreAccepted text facts
AreOfText text (Refused facts) = AreRefused text facts
