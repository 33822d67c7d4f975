-- A command over a trace ends as its phases do: its query or plan is read and accepted, and then its report is made over the
-- trace. Each other command ends as the function that performs it does, and one that takes no input loses nothing of either.
use Rattle.std.proofs.{Common.{◌≡◌, IfSome, le_refl, refl, Some, subst}, lemmas.Bool.true≢false}
use Rattle.marple_base.specs.{declared.inputs.Which.TheVariants.Query, Inputs.Input}
use Rattle.command_line.specs.declared.command.Command.TheVariants.{Compile, Enclose, Gen, Net, Plan, Run, RunPlan}
use Rattle.query_lang.specs.declared.error.QueryError.TheVariants.{Refused}
use Rattle.accepted_query.specs.Accepted.{query_fault}
use Rattle.query_run.specs.Driven.{geometry_of, pipeline_in}
use Rattle.query_tables.specs.Tables.{query_text}
use Rattle.enclosed_query.specs.EnclosedTables.{enclose_text}
use Rattle.plan_file.specs.Texts.{IsRefused}
use Rattle.plan_loader.specs.Meaning.{plan_output}
use Rattle.switch_core.specs.{PlanLanes.PipelineStands, Ends.end_machines}
use Rattle.trace_drive.specs.Drives.{words_of}
use Rattle.trace_reader.specs.Traces.{contents}
use Rattle.command_answers.specs.OwnChecks.{bounds_fault, fault_with}
use Rattle.marple_cli.proofs.Ending.{driven_kept, handed_on, operand_ended, operand_not_ok, query_ended, run_leaves}
use Rattle.marple_cli.proofs.{Plans.{plan_leaves, plan_over, refuses_plan}, Taken.{both_lost, none_lost, query_lost, query_taken, undriven}}
use Rattle.marple_cli.proofs.{Texts.{enclose_over, run_over}, Traced.{ends_by, is_not_ok, written_by}}
use Rattle.marple_cli.proofs.perform.perform.Goals as goal

-- a query over the packets of a trace

pub report_over-requires-clause-may_print : goal.report_over-requires-clause-may_print
report_over-requires-clause-may_print g c =
    (c.of_query-report.ensures.reports _ c.in_ok-query-in-Run.ensures.plan).may_print

pub returns-in_err-query-in-Run-clause-ends : goal.returns-in_err-query-in-Run-clause-ends
returns-in_err-query-in-Run-clause-ends g c =
    rw c.in-Run.is (handed_on g.O.Sink.taken g.O.Sink.faults (Run c.in-Run.setting c.in-Run.every) (g.I.Inputs.input c.args.inputs.now)
    (g.I.Inputs.input c.read_query.new.inputs) c.args.out.now c.args.out.now _ _ c.from_residual.ensures.1 (query_ended _ _ _ _ _
    query_fault (λ query. refl) _ refl c.in_err-query-in-Run.ensures.trace_kept _ c.in_err-query-in-Run.ensures.err))

pub returns-in_err-query-in-Run-clause-driven : goal.returns-in_err-query-in-Run-clause-driven
returns-in_err-query-in-Run-clause-driven g c =
    rw c.in-Run.is (driven_kept (Run c.in-Run.setting c.in-Run.every) (g.I.Inputs.input c.args.inputs.now) c.args.driven.now
    c.args.driven.now refl _ _ c.from_residual.ensures.1 (operand_not_ok (λ text found. query_fault text ≡ Some found)
    (g.I.Inputs.input c.args.inputs.now Query) (g.I.Inputs.input c.read_query.new.inputs Query) c.in_err-query-in-Run.field-0.0
    c.in_err-query-in-Run.ensures.err))

pub returns-in_err-query-in-Run-clause-lost : goal.returns-in_err-query-in-Run-clause-lost
returns-in_err-query-in-Run-clause-lost g c =
    rw c.in-Run.is (query_lost (Some (Run c.in-Run.setting c.in-Run.every)) (g.I.Inputs.input c.args.inputs.now)
    (g.I.Inputs.input c.read_query.new.inputs) c.read_query.ensures.lost c.read_query.ensures.trace_kept)

pub returns-in_err-ran-in-Run-clause-ends : goal.returns-in_err-ran-in-Run-clause-ends
returns-in_err-ran-in-Run-clause-ends g c =
    let q = c.in_ok-query-in-Run.query.typed in
    let done = c.in_ok-query-in-Run.ensures in
    rw c.in-Run.is (handed_on g.O.Sink.taken g.O.Sink.faults (Run c.in-Run.setting c.in-Run.every) (g.I.Inputs.input c.args.inputs.now)
    (g.I.Inputs.input c.report_over.new.inputs) c.args.out.now c.report_over.new.out _ _ c.from_residual-in_err-ran-in-Run.ensures.1 (ends_by _ _ _
    (run_over (g.I.Inputs.input c.args.inputs.now) q done.ok (g.I.Inputs.input c.read_query.new.inputs) done.trace_kept c.in-Run.setting _
    done.plan.reads c.in-Run.every) _ _ _ (c.in_err-ran-in-Run.ensures.err (query_text q) (c.of_query-report.ensures.reports _ done.plan).prints)))

pub returns-in_err-ran-in-Run-clause-driven : goal.returns-in_err-ran-in-Run-clause-driven
returns-in_err-ran-in-Run-clause-driven g c =
    let q = c.in_ok-query-in-Run.query.typed in
    let done = c.in_ok-query-in-Run.ensures in
    rw c.in-Run.is (driven_kept (Run c.in-Run.setting c.in-Run.every) (g.I.Inputs.input c.args.inputs.now) c.args.driven.now
    c.args.driven.now refl _ _ c.from_residual-in_err-ran-in-Run.ensures.1 (is_not_ok g.O.Sink.taken g.O.Sink.faults
    (g.I.Inputs.input c.report_over.new.inputs) (run_over (g.I.Inputs.input c.args.inputs.now) q done.ok
    (g.I.Inputs.input c.read_query.new.inputs) done.trace_kept c.in-Run.setting _ done.plan.reads c.in-Run.every) c.args.out.now
    c.report_over.new.out c.in_err-ran-in-Run.field-0.0 (c.in_err-ran-in-Run.ensures.err (query_text q) (c.of_query-report.ensures.reports _
    done.plan).prints)))

pub returns-in_err-ran-in-Run-clause-lost : goal.returns-in_err-ran-in-Run-clause-lost
returns-in_err-ran-in-Run-clause-lost g c =
    rw c.in-Run.is (both_lost (Some (Run c.in-Run.setting c.in-Run.every)) (g.I.Inputs.input c.args.inputs.now)
    (g.I.Inputs.input c.report_over.new.inputs) (g.I.Inputs.input c.read_query.new.inputs) c.read_query.ensures.lost
    c.read_query.ensures.trace_kept c.report_over.ensures.lost c.report_over.ensures.query_kept)

pub returns-in_ok-ran-in-Run-clause-ends : goal.returns-in_ok-ran-in-Run-clause-ends
returns-in_ok-ran-in-Run-clause-ends g c =
    let q = c.in_ok-query-in-Run.query.typed in
    let done = c.in_ok-query-in-Run.ensures in
    rw c.in-Run.is (written_by g.O.Sink.taken g.O.Sink.faults (g.I.Inputs.input c.report_over.new.inputs) (run_over
    (g.I.Inputs.input c.args.inputs.now) q done.ok (g.I.Inputs.input c.read_query.new.inputs) done.trace_kept c.in-Run.setting _
    done.plan.reads c.in-Run.every) c.args.out.now c.report_over.new.out c.in_ok-ran-in-Run.ensures.accepted (c.in_ok-ran-in-Run.ensures.written
    (query_text q) (c.of_query-report.ensures.reports _ done.plan).prints))

pub returns-in_ok-ran-in-Run-clause-driven : goal.returns-in_ok-ran-in-Run-clause-driven
returns-in_ok-ran-in-Run-clause-driven g c =
    let q = c.in_ok-query-in-Run.query in
    let stands = λ (input : Input). IfSome input.left (λ bytes. PipelineStands (pipeline_in c.in_ok-ran-in-Run.ran) (end_machines q.plan
    (geometry_of c.in-Run.setting) (words_of (contents bytes q.plan.reads).packets))) in
    rw c.in-Run.is (run_leaves c.in-Run.setting c.in-Run.every (g.I.Inputs.input c.args.inputs.now) q.typed c.in_ok-query-in-Run.ensures.ok q.plan
    c.in_ok-query-in-Run.ensures.plan c.args.driven.now c.in_ok-ran-in-Run.ran (rw c.of_query-report.ensures.is at c.in_ok-ran-in-Run.ensures.left)
    c.in_ok-ran-in-Run.ensures.plan (subst stands c.in_ok-query-in-Run.ensures.trace_kept c.in_ok-ran-in-Run.ensures.stands))

pub returns-in_ok-ran-in-Run-clause-lost : goal.returns-in_ok-ran-in-Run-clause-lost
returns-in_ok-ran-in-Run-clause-lost g c =
    rw c.in-Run.is (both_lost (Some (Run c.in-Run.setting c.in-Run.every)) (g.I.Inputs.input c.args.inputs.now)
    (g.I.Inputs.input c.report_over.new.inputs) (g.I.Inputs.input c.read_query.new.inputs) c.read_query.ensures.lost
    c.read_query.ensures.trace_kept c.report_over.ensures.lost c.report_over.ensures.query_kept)

-- bounds of the folds of a query

pub returns-in_err-checked-in-Enclose-clause-ends : goal.returns-in_err-checked-in-Enclose-clause-ends
returns-in_err-checked-in-Enclose-clause-ends g c =
    rw c.in-Enclose.is (handed_on g.O.Sink.taken g.O.Sink.faults (Enclose c.in-Enclose.setting) (g.I.Inputs.input c.args.inputs.now)
    (g.I.Inputs.input c.query_for.new.inputs) c.args.out.now c.args.out.now _ _ c.from_residual-in_err-checked-in-Enclose.ensures.1 (query_ended _ _ _
    _ _ (fault_with bounds_fault) (λ query. refl) _ refl c.in_err-checked-in-Enclose.ensures.trace_kept _ c.in_err-checked-in-Enclose.ensures.err))

pub returns-in_err-checked-in-Enclose-clause-lost : goal.returns-in_err-checked-in-Enclose-clause-lost
returns-in_err-checked-in-Enclose-clause-lost g c =
    rw c.in-Enclose.is (query_lost (Some (Enclose c.in-Enclose.setting)) (g.I.Inputs.input c.args.inputs.now)
    (g.I.Inputs.input c.query_for.new.inputs) c.query_for.ensures.lost c.query_for.ensures.trace_kept)

pub returns-in_err-bounded-in-Enclose-clause-ends : goal.returns-in_err-bounded-in-Enclose-clause-ends
returns-in_err-bounded-in-Enclose-clause-ends g c =
    let q = c.in_ok-checked-in-Enclose.checked.typed in
    let done = c.in_ok-checked-in-Enclose.ensures in
    rw c.in-Enclose.is (handed_on g.O.Sink.taken g.O.Sink.faults (Enclose c.in-Enclose.setting) (g.I.Inputs.input c.args.inputs.now)
    (g.I.Inputs.input c.report_over-in-Enclose.new.inputs) c.args.out.now c.report_over-in-Enclose.new.out _ _
    c.from_residual-in_err-bounded-in-Enclose.ensures.1 (ends_by _ _ _ (enclose_over (g.I.Inputs.input c.args.inputs.now) q done.ok
    (g.I.Inputs.input c.query_for.new.inputs) done.trace_kept c.in-Enclose.setting _ done.plan.reads done.fits) _ _ _
    (c.in_err-bounded-in-Enclose.ensures.err (enclose_text q) (c.of_bounds-report.ensures.reports _ done.plan).prints)))

pub returns-in_err-bounded-in-Enclose-clause-lost : goal.returns-in_err-bounded-in-Enclose-clause-lost
returns-in_err-bounded-in-Enclose-clause-lost g c =
    rw c.in-Enclose.is (both_lost (Some (Enclose c.in-Enclose.setting)) (g.I.Inputs.input c.args.inputs.now)
    (g.I.Inputs.input c.report_over-in-Enclose.new.inputs) (g.I.Inputs.input c.query_for.new.inputs) c.query_for.ensures.lost
    c.query_for.ensures.trace_kept c.report_over-in-Enclose.ensures.lost c.report_over-in-Enclose.ensures.query_kept)

pub returns-in_ok-bounded-in-Enclose-clause-ends : goal.returns-in_ok-bounded-in-Enclose-clause-ends
returns-in_ok-bounded-in-Enclose-clause-ends g c =
    let q = c.in_ok-checked-in-Enclose.checked.typed in
    let done = c.in_ok-checked-in-Enclose.ensures in
    rw c.in-Enclose.is (written_by g.O.Sink.taken g.O.Sink.faults (g.I.Inputs.input c.report_over-in-Enclose.new.inputs) (enclose_over
    (g.I.Inputs.input c.args.inputs.now) q done.ok (g.I.Inputs.input c.query_for.new.inputs) done.trace_kept c.in-Enclose.setting _
    done.plan.reads done.fits) c.args.out.now c.report_over-in-Enclose.new.out c.in_ok-bounded-in-Enclose.ensures.accepted
    (c.in_ok-bounded-in-Enclose.ensures.written (enclose_text q) (c.of_bounds-report.ensures.reports _ done.plan).prints))

pub returns-in_ok-bounded-in-Enclose-clause-lost : goal.returns-in_ok-bounded-in-Enclose-clause-lost
returns-in_ok-bounded-in-Enclose-clause-lost g c =
    rw c.in-Enclose.is (both_lost (Some (Enclose c.in-Enclose.setting)) (g.I.Inputs.input c.args.inputs.now)
    (g.I.Inputs.input c.report_over-in-Enclose.new.inputs) (g.I.Inputs.input c.query_for.new.inputs) c.query_for.ensures.lost
    c.query_for.ensures.trace_kept c.report_over-in-Enclose.ensures.lost c.report_over-in-Enclose.ensures.query_kept)

-- a plan that is read from its text

pub returns-in_err-loaded-in-RunPlan-clause-ends : goal.returns-in_err-loaded-in-RunPlan-clause-ends
returns-in_err-loaded-in-RunPlan-clause-ends g c =
    rw c.in-RunPlan.is (handed_on g.O.Sink.taken g.O.Sink.faults (RunPlan c.in-RunPlan.setting) (g.I.Inputs.input c.args.inputs.now)
    (g.I.Inputs.input c.read_plan_text.new.inputs) c.args.out.now c.args.out.now _ _ c.from_residual-in_err-loaded-in-RunPlan.ensures.1 (operand_ended
    _ _ _ _ _ (λ text found. IsRefused text (Refused found)) (refuses_plan c.in-RunPlan.setting) _ refl c.in_err-loaded-in-RunPlan.ensures.trace_kept _
    c.in_err-loaded-in-RunPlan.ensures.err))

pub returns-in_err-loaded-in-RunPlan-clause-driven : goal.returns-in_err-loaded-in-RunPlan-clause-driven
returns-in_err-loaded-in-RunPlan-clause-driven g c =
    rw c.in-RunPlan.is (driven_kept (RunPlan c.in-RunPlan.setting) (g.I.Inputs.input c.args.inputs.now) c.args.driven.now c.args.driven.now
    refl _ _ c.from_residual-in_err-loaded-in-RunPlan.ensures.1 (operand_not_ok (λ text found. IsRefused text (Refused found))
    (g.I.Inputs.input c.args.inputs.now Query) (g.I.Inputs.input c.read_plan_text.new.inputs Query) c.in_err-loaded-in-RunPlan.field-0.0
    c.in_err-loaded-in-RunPlan.ensures.err))

pub returns-in_err-loaded-in-RunPlan-clause-lost : goal.returns-in_err-loaded-in-RunPlan-clause-lost
returns-in_err-loaded-in-RunPlan-clause-lost g c =
    rw c.in-RunPlan.is (query_lost (Some (RunPlan c.in-RunPlan.setting)) (g.I.Inputs.input c.args.inputs.now)
    (g.I.Inputs.input c.read_plan_text.new.inputs) c.read_plan_text.ensures.lost c.read_plan_text.ensures.trace_kept)

pub returns-in_err-left-in-RunPlan-clause-ends : goal.returns-in_err-left-in-RunPlan-clause-ends
returns-in_err-left-in-RunPlan-clause-ends g c =
    let is = c.in_ok-loaded-in-RunPlan.ensures.ok in
    rw c.in-RunPlan.is (handed_on g.O.Sink.taken g.O.Sink.faults (RunPlan c.in-RunPlan.setting) (g.I.Inputs.input c.args.inputs.now)
    (g.I.Inputs.input c.report_over-in-RunPlan.new.inputs) c.args.out.now c.report_over-in-RunPlan.new.out _ _
    c.from_residual-in_err-left-in-RunPlan.ensures.1 (ends_by _ _ _ (plan_over c.in-RunPlan.setting (g.I.Inputs.input c.args.inputs.now)
    c.in_ok-loaded-in-RunPlan.loaded is (g.I.Inputs.input c.read_plan_text.new.inputs) c.in_ok-loaded-in-RunPlan.ensures.trace_kept) _ _ _
    (c.in_err-left-in-RunPlan.ensures.err (plan_output is.made) (c.of_plan-report.ensures.reports is.made _ is.from.sound is.from.plan
    is.from.prints).prints)))

pub returns-in_err-left-in-RunPlan-clause-driven : goal.returns-in_err-left-in-RunPlan-clause-driven
returns-in_err-left-in-RunPlan-clause-driven g c =
    let is = c.in_ok-loaded-in-RunPlan.ensures.ok in
    rw c.in-RunPlan.is (driven_kept (RunPlan c.in-RunPlan.setting) (g.I.Inputs.input c.args.inputs.now) c.args.driven.now c.args.driven.now
    refl _ _ c.from_residual-in_err-left-in-RunPlan.ensures.1 (is_not_ok g.O.Sink.taken g.O.Sink.faults
    (g.I.Inputs.input c.report_over-in-RunPlan.new.inputs) (plan_over c.in-RunPlan.setting (g.I.Inputs.input c.args.inputs.now)
    c.in_ok-loaded-in-RunPlan.loaded is (g.I.Inputs.input c.read_plan_text.new.inputs) c.in_ok-loaded-in-RunPlan.ensures.trace_kept) c.args.out.now
    c.report_over-in-RunPlan.new.out c.in_err-left-in-RunPlan.field-0.0 (c.in_err-left-in-RunPlan.ensures.err (plan_output is.made)
    (c.of_plan-report.ensures.reports is.made _ is.from.sound is.from.plan is.from.prints).prints)))

pub returns-in_err-left-in-RunPlan-clause-lost : goal.returns-in_err-left-in-RunPlan-clause-lost
returns-in_err-left-in-RunPlan-clause-lost g c =
    rw c.in-RunPlan.is (both_lost (Some (RunPlan c.in-RunPlan.setting)) (g.I.Inputs.input c.args.inputs.now)
    (g.I.Inputs.input c.report_over-in-RunPlan.new.inputs) (g.I.Inputs.input c.read_plan_text.new.inputs) c.read_plan_text.ensures.lost
    c.read_plan_text.ensures.trace_kept c.report_over-in-RunPlan.ensures.lost c.report_over-in-RunPlan.ensures.query_kept)

pub returns-in_ok-left-in-RunPlan-clause-ends : goal.returns-in_ok-left-in-RunPlan-clause-ends
returns-in_ok-left-in-RunPlan-clause-ends g c =
    let is = c.in_ok-loaded-in-RunPlan.ensures.ok in
    rw c.in-RunPlan.is (written_by g.O.Sink.taken g.O.Sink.faults (g.I.Inputs.input c.report_over-in-RunPlan.new.inputs) (plan_over
    c.in-RunPlan.setting (g.I.Inputs.input c.args.inputs.now) c.in_ok-loaded-in-RunPlan.loaded is (g.I.Inputs.input c.read_plan_text.new.inputs)
    c.in_ok-loaded-in-RunPlan.ensures.trace_kept) c.args.out.now c.report_over-in-RunPlan.new.out c.in_ok-left-in-RunPlan.ensures.accepted
    (c.in_ok-left-in-RunPlan.ensures.written (plan_output is.made) (c.of_plan-report.ensures.reports is.made _ is.from.sound is.from.plan
    is.from.prints).prints))

pub returns-in_ok-left-in-RunPlan-clause-driven : goal.returns-in_ok-left-in-RunPlan-clause-driven
returns-in_ok-left-in-RunPlan-clause-driven g c =
    let loaded = c.in_ok-loaded-in-RunPlan.loaded in
    let stands = λ (input : Input). IfSome input.left (λ bytes. PipelineStands (pipeline_in c.in_ok-left-in-RunPlan.left) (end_machines loaded.plan
    (geometry_of c.in-RunPlan.setting) (words_of (contents bytes loaded.plan.reads).packets))) in
    rw c.in-RunPlan.is (plan_leaves c.in-RunPlan.setting (g.I.Inputs.input c.args.inputs.now) loaded c.in_ok-loaded-in-RunPlan.ensures.ok
    c.args.driven.now c.in_ok-left-in-RunPlan.left (rw c.of_plan-report.ensures.is at c.in_ok-left-in-RunPlan.ensures.left) c.in_ok-left-in-RunPlan.ensures.plan (subst
    stands c.in_ok-loaded-in-RunPlan.ensures.trace_kept c.in_ok-left-in-RunPlan.ensures.stands))

pub returns-in_ok-left-in-RunPlan-clause-lost : goal.returns-in_ok-left-in-RunPlan-clause-lost
returns-in_ok-left-in-RunPlan-clause-lost g c =
    rw c.in-RunPlan.is (both_lost (Some (RunPlan c.in-RunPlan.setting)) (g.I.Inputs.input c.args.inputs.now)
    (g.I.Inputs.input c.report_over-in-RunPlan.new.inputs) (g.I.Inputs.input c.read_plan_text.new.inputs) c.read_plan_text.ensures.lost
    c.read_plan_text.ensures.trace_kept c.report_over-in-RunPlan.ensures.lost c.report_over-in-RunPlan.ensures.query_kept)

-- the commands that a function performs

pub returns-in-Plan : goal.returns-in-Plan
returns-in-Plan g c =
    let e = c.write_stages.ensures in record {
      ends = rw c.in-Plan.is e.ends;
      kept = rw c.in-Plan.is (query_taken (Plan c.in-Plan.ways) _ _ refl e.trace_kept);
      driven = rw c.in-Plan.is (undriven (Plan c.in-Plan.ways) (g.I.Inputs.input c.args.inputs.now) _ _ refl);
      lost = rw c.in-Plan.is (query_lost (Some (Plan c.in-Plan.ways)) (g.I.Inputs.input c.args.inputs.now)
          (g.I.Inputs.input c.write_stages.new.inputs) e.lost e.trace_kept);
      query_later = e.query_later;
      trace_later = rw e.trace_kept (le_refl _);
      out_later = e.out_later;
      steps = le_refl _;
    }

pub returns-in-Gen : goal.returns-in-Gen
returns-in-Gen g c = record {
  ends = rw c.in-Gen.is (c.generate.ensures.ends (g.I.Inputs.input c.args.inputs.now));
  kept = λ which untaken. refl;
  driven = rw c.in-Gen.is (undriven (Gen c.in-Gen.generation) (g.I.Inputs.input c.args.inputs.now) _ _ refl);
  lost = none_lost (Some c.args.command) (g.I.Inputs.input c.args.inputs.now) (g.I.Inputs.input c.args.inputs.now) (λ which. refl);
  query_later = le_refl _;
  trace_later = le_refl _;
  out_later = c.generate.ensures.out_later;
  steps = le_refl _;
}

pub returns-in-Trial : goal.returns-in-Trial
returns-in-Trial g c = record {
  ends = rw c.in-Trial.is (c.trial.ensures.ends (g.I.Inputs.input c.args.inputs.now));
  kept = λ which untaken. refl;
  driven = rw c.in-Trial.is (c.trial.ensures.driven (g.I.Inputs.input c.args.inputs.now));
  lost = none_lost (Some c.args.command) (g.I.Inputs.input c.args.inputs.now) (g.I.Inputs.input c.args.inputs.now) (λ which. refl);
  query_later = le_refl _;
  trace_later = le_refl _;
  out_later = c.trial.ensures.out_later;
  steps = c.trial.ensures.steps;
}

pub returns-in-Net : goal.returns-in-Net
returns-in-Net g c =
    let e = c.run_network.ensures in record {
      ends = rw c.in-Net.is e.ends;
      kept = rw c.in-Net.is (λ which untaken. absurd (true≢false untaken));
      driven = rw c.in-Net.is (undriven (Net c.in-Net.setting) (g.I.Inputs.input c.args.inputs.now) _ _ refl);
      lost = rw c.in-Net.is e.lost;
      query_later = e.query_later;
      trace_later = e.trace_later;
      out_later = e.out_later;
      steps = e.steps;
    }

pub returns-in-Compile : goal.returns-in-Compile
returns-in-Compile g c =
    let e = c.compile.ensures in record {
      ends = rw c.in-Compile.is e.ends;
      kept = rw c.in-Compile.is (query_taken Compile _ _ refl e.trace_kept);
      driven = rw c.in-Compile.is (undriven Compile (g.I.Inputs.input c.args.inputs.now) _ _ refl);
      lost = rw c.in-Compile.is (query_lost (Some Compile) (g.I.Inputs.input c.args.inputs.now)
          (g.I.Inputs.input c.compile.new.inputs) e.lost e.trace_kept);
      query_later = e.query_later;
      trace_later = rw e.trace_kept (le_refl _);
      out_later = e.out_later;
      steps = le_refl _;
    }
