-- The text of a plan as the first operand.
use Rattle.std.proofs.Common.{◌≡◌, ℕ, List, [], Option, None, Some, IfSome, Ok, Err, ap, refl, sym, ◌∙◌, subst}
use Rattle.marple_base.specs.{Inputs.Input, declared.inputs.Which.{Which, TheVariants.{Query, Trace}}}
use Rattle.query_lang.specs.{Checks.Checked, declared.fault.QueryFault.QueryFault}
use Rattle.switch_core.specs.{PlanLanes.PipelineStands, Ends.end_machines}
use Rattle.trace_drive.specs.Drives.{words_of}
use Rattle.trace_reader.specs.Traces.{contents, packets}
use Rattle.trace_reader.specs.Traces as traces
use Rattle.command_line.specs.declared.{command.Command.TheVariants.RunPlan, setting.Setting.Setting}
use Rattle.query_run.specs.{Driven.{IsLeftBy, geometry_of, pipeline_in}, Views.views_text, declared.driven.Driven.Driven}
use Rattle.query_run.proofs.ViewTexts.{tables_alone}
use Rattle.plan_file.{specs.{Texts.{IsRefused, Says}, declared.made.Made.Made}, proofs.AnswerFacts.{nowhere, only_answer}}
use Rattle.plan_file.proofs.{LineLaws.makes_one, TextLaws.says_one}
use Rattle.query_lang.specs.declared.error.QueryError.TheVariants.{Refused}
use Rattle.plan_loader.specs.{Meaning.{plan_output, reads_in}, Parts.IsPlanFrom, declared.loaded.LoadedPlan.LoadedPlan}
use Rattle.marple_cli.specs.{Driven.{Leaves, StandsForPlan}, Output.{SaysPlan, Source, of_accepted, plan_tables_text, refusal}}
use Rattle.marple_cli.proofs.{Ending.told, Traced.IsOver}
use Rattle.command_answers.specs.{Phases.IsReadFrom, OwnChecks.fault_after}

-- a fault is given by its parts
same_fault : (one other : QueryFault) → one.kind ≡ other.kind → one.span.start ≡ other.span.start → one.span.end ≡ other.span.end
    → one ≡ other
same_fault one other kind start end =
    ap (λ k. record { kind = k; span = one.span }) kind
    ∙ ap (λ n. record { kind = other.kind; span = record { start = n; end = one.span.end } }) start
    ∙ ap (λ n. record { kind = other.kind; span = record { start = other.span.start; end = n } }) end

-- a text that says something says nothing else, and is refused nowhere
pub says_alone : (text : List ℕ) (made : Made) (plan : Checked Made) → Says text made → SaysPlan text plan → plan ≡ Ok made
says_alone text made (Ok other) says read = ap Ok (says_one makes_one text other made read says)
says_alone text made (Err fault) says refused = absurd (nowhere text made says fault.span.start refused.1)

-- a text that is refused says nothing, and is refused for this fault alone
pub refused_alone : (text : List ℕ) (fault : QueryFault) (plan : Checked Made) → IsRefused text (Refused fault) → SaysPlan text plan
    → plan ≡ Err fault
refused_alone text fault (Ok made) refused says = absurd (nowhere text made says fault.span.start refused.1)
refused_alone text fault (Err other) refused read =
    let start = (only_answer text (Refused fault) refused).1 other.span.start read.1 in
    ap Err (same_fault other fault (read.0 ∙ sym refused.0) start (read.2 ∙ start ∙ sym refused.2))

-- the command refuses a text for this fault
pub refuses_plan : (setting : Setting) (query : Source) (fault : QueryFault) → SaysPlan query.text query.plan
    → IsRefused query.text (Refused fault) → refusal (RunPlan setting) query ≡ Some fault
refuses_plan setting query fault read refused = ap (fault_after (λ (made : Made). None))
    (refused_alone query.text fault query.plan refused read)

-- a run of a plan that was read
module _ (setting : Setting) (before : Which → Input) (loaded : LoadedPlan) (is : IsReadFrom (before Query) loaded) where
  says : (query : Source) → (before Query).left ≡ Some query.text → SaysPlan query.text query.plan → query.plan ≡ Ok is.made
  says query left read = says_alone query.text is.made query.plan (told (λ text. Says text is.made) (before Query).left query.text is.says
      left) read

  pub plan_over : (middle : Which → Input) → middle Trace ≡ before Trace → IsOver (RunPlan setting) before middle loaded.plan.reads
      (λ trace. trace.fault) (λ trace. views_text (plan_output is.made (geometry_of setting)) 0 (words_of trace.packets))
  plan_over middle kept = record {
    accepts = λ query has left read. ap (fault_after (λ (made : Made). None)) (says query left read);
    has_query = refl;
    has_trace = refl;
    same = λ query trace holds.
        let plan = says query (holds.of_query refl) holds.read in
        let reads = sym is.from.plan.reads in (
          ap (of_accepted None (λ made. traces.trace_fault trace (reads_in made))) plan ∙ ap (traces.trace_fault trace) reads,
          ap (of_accepted [] (plan_tables_text setting trace)) plan
              ∙ ap (λ fields. plan_output is.made (geometry_of setting) (words_of (packets trace fields))) reads
              ∙ sym (tables_alone (plan_output is.made (geometry_of setting)) (words_of (packets trace loaded.plan.reads))),
        );
    kept = kept;
  }

  pub plan_leaves : (old : Option Driven) (driven : Driven) → IsLeftBy setting driven → (pipeline_in driven).plan ≡ loaded.plan
      → IfSome (before Trace).left (λ trace. PipelineStands (pipeline_in driven)
      (end_machines loaded.plan (geometry_of setting) (words_of (contents trace loaded.plan.reads).packets)))
      → Leaves (RunPlan setting) before old (Some driven)
  plan_leaves old driven left plan stands = (
    left,
    λ query trace holds.
        let stood = told (λ trace. PipelineStands (pipeline_in driven)
        (end_machines loaded.plan (geometry_of setting) (words_of (contents trace loaded.plan.reads).packets))) (before Trace).left
        trace stands (holds.of_trace refl) in
        subst (λ one. StandsForPlan setting one trace (pipeline_in driven)) (sym (says query (holds.of_query refl) holds.read)) (
          subst (IsPlanFrom is.made) (sym plan) is.from.plan,
          subst (λ one. PipelineStands (pipeline_in driven) (end_machines one (geometry_of setting)
              (words_of (packets trace (reads_in is.made))))) (sym plan)
              (subst (λ fields. PipelineStands (pipeline_in driven) (end_machines loaded.plan (geometry_of setting)
              (words_of (packets trace fields)))) is.from.plan.reads stood),
        ),
  )
