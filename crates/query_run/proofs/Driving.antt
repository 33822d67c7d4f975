-- A run with the setting of a command line.
use Rattle.std.proofs.Common.{◌≡◌, ℕ, List, Option, ap, sym, ◌∙◌, subst}
use Rattle.command_line.specs.{Command.ways_number, declared.setting.Setting.Setting}
use Rattle.epoch_model.specs.Epochs.{Geometry}
use Rattle.stage_plan.specs.Sound.{PlanParts}
use Rattle.trace_drive.specs.{Answers.BreaksOff, Drives.geometry_for, declared.{answer.RunError.RunError, schedule.Schedule.Schedule}}
use Rattle.trace_reader.specs.declared.fault.TraceFault.{TraceFault}
use Rattle.query_run.specs.{Driven.geometry_of, Reports.Prints, Views.views_text, declared.report.Report.Report}

-- the caches of a schedule with the setting's ways are those of the setting
pub geometry_is : (setting : Setting) (schedule : Schedule) (ways : ℕ) → ways_number setting.ways ≡ ways
    → schedule ≡ record { buckets = setting.buckets; pipe = setting.pipe; lag = setting.lag; refresh = setting.refresh }
    → geometry_for ways schedule ≡ geometry_of setting
geometry_is setting schedule ways is same =
    ap (geometry_for ways) same ∙ ap (λ (n : ℕ). record { buckets = setting.buckets; ways = n; refresh = setting.refresh }) (sym is)

module _ {O : Type 0} (taken : O → Option (List ℕ)) (faults : O → ℕ) (report : Report) (plan : PlanParts) (every : ℕ)
    (packets : List (List ℕ)) (fault : Option TraceFault) (old new : O) where
  -- a run broke off with this answer, whichever text its report prints of the plan
  abbrev pub Breaks : Geometry → RunError → Type 0
  Breaks g answer = (text : Geometry → List (List ℕ) → List ℕ) → Prints report plan text
      → BreaksOff taken faults (views_text (text g) every packets) fault old new answer

  -- with the same caches it broke off with the same answer
  pub broken_as : (g found : Geometry) (answer : RunError) → g ≡ found → Breaks g answer → Breaks found answer
  broken_as g found answer same broke = subst (λ (g : Geometry). Breaks g answer) same broke
