-- a trial ends as its phases do: its query is accepted, packets are made, and then its tables are written
use Rattle.command_line.specs.declared.{command.{Command.TheVariants.Trial, Generation.Generation}, setting.Setting.Setting}
use Rattle.std.{proofs.Common.{◌≡◌, List, None, Ok, refl, sym, ap, ◌∙◌, subst, Err}, specs.Io.KnownBytes.Appends}
use Rattle.marple_base.specs.declared.field.Packet.{Packet}
use Rattle.query_lang.specs.declared.typed.TypedQuery.{TypedQuery}
use Rattle.stage_plan.specs.Packets.{AreWhole}
use Rattle.accepted_query.specs.{Accepted.accepted, TrialQuery.trial_query}
use Rattle.query_run.{specs.Driven.{geometry_of, pipeline_in}, proofs.MadePackets.simulated_whole}
use Rattle.query_tables.specs.Tables.{query_text}
use Rattle.switch_core.specs.{PlanLanes.PipelineStands, Ends.end_machines}
use Rattle.trace_drive.specs.{Answers.BreaksOff, Drives.words_of}
use Rattle.marple_cli.{specs.{Driven.StandsForEnd, Output.{made_packets, tables_text}}, proofs.Ending.{all_written, answer_not_ok}}
use Rattle.marple_cli.proofs.Ending.{driven_kept, handed_on, query_stands, memory_ended, writing_ended, trial_is_text, trial_text}
use Rattle.command_answers.{specs.{Phases.status_for, declared.status.Status.TheVariants.Memory}, proofs.Limits.made_ends}
use Rattle.marple_cli.proofs.trial.trial.Goals as goal

-- the tables of the trial's query over the packets that were made are its text
text_is : (generation : Generation) (setting : Setting) (made : List Packet) (q : TypedQuery) → made ≡ made_packets generation
    → accepted trial_query ≡ Ok q → query_text q (geometry_of setting) (words_of made) ≡ trial_text generation setting
text_is generation setting made q same is =
    ap (λ made. query_text q (geometry_of setting) (words_of made)) same
    ∙ sym (ap (λ one. tables_text setting one (λ q. made_packets generation)) is)

pub run_over_made-ran-requires-clause-may_print : goal.run_over_made-ran-requires-clause-may_print
run_over_made-ran-requires-clause-may_print g c = (c.of_query-report.ensures.reports _ c.in_ok-query.ensures.plan).may_print

pub run_over_made-ran-requires-clause-whole : goal.run_over_made-ran-requires-clause-whole
run_over_made-ran-requires-clause-whole g c = subst (λ made. AreWhole (words_of made)) (sym c.in-Ok.ensures) (simulated_whole _ _ _)

pub returns-in_err-query-clause-ends : goal.returns-in_err-query-clause-ends
returns-in_err-query-clause-ends g c inputs =
    handed_on g.O.Sink.taken g.O.Sink.faults (Trial c.args.generation c.args.setting) inputs inputs c.args.out.now c.args.out.now _ _
    c.from_residual.ensures.1 (memory_ended _ _ _ _ _ _ refl)

pub returns-in_err-query-clause-driven : goal.returns-in_err-query-clause-driven
returns-in_err-query-clause-driven g c inputs =
    driven_kept (Trial c.args.generation c.args.setting) inputs c.args.driven.now c.args.driven.now refl _ _ c.from_residual.ensures.1
    (λ e. cc)

pub returns-in-Err-clause-ends : goal.returns-in-Err-clause-ends
returns-in-Err-clause-ends g c inputs =
    (memory_ended g.O.Sink.taken g.O.Sink.faults (Trial c.args.generation c.args.setting) inputs inputs c.args.out.now refl).ends

pub returns-in-Err-clause-driven : goal.returns-in-Err-clause-driven
returns-in-Err-clause-driven g c inputs =
    driven_kept (Trial c.args.generation c.args.setting) inputs c.args.driven.now c.args.driven.now refl (Err Memory) Memory refl (λ e. cc)

pub returns-in_err-left-clause-ends : goal.returns-in_err-left-clause-ends
returns-in_err-left-clause-ends g c inputs =
    let text = trial_text c.args.generation c.args.setting in
    let answer = c.in_err-left.field-0.0 in
    handed_on g.O.Sink.taken g.O.Sink.faults (Trial c.args.generation c.args.setting) inputs inputs c.args.out.now
    c.run_over_made-ran.new.out _ _ c.from_residual-in_err-left.ensures.1 (writing_ended _ _ _ _ _ _ _ (λ query takes left read. refl) text
    (trial_is_text c.args.generation c.args.setting inputs) (status_for answer)
    (made_ends g.O.Sink.taken g.O.Sink.faults text c.args.out.now c.run_over_made-ran.new.out answer
    (subst (λ text. BreaksOff g.O.Sink.taken g.O.Sink.faults text None c.args.out.now c.run_over_made-ran.new.out answer)
    (text_is c.args.generation c.args.setting c.in-Ok.made c.in_ok-query.query.typed c.in-Ok.ensures c.in_ok-query.ensures.ok)
    (c.in_err-left.ensures.breaks_off (query_text c.in_ok-query.query.typed)
    (c.of_query-report.ensures.reports _ c.in_ok-query.ensures.plan).prints))))

pub returns-in_err-left-clause-driven : goal.returns-in_err-left-clause-driven
returns-in_err-left-clause-driven g c inputs =
    driven_kept (Trial c.args.generation c.args.setting) inputs c.args.driven.now c.args.driven.now refl _ _
    c.from_residual-in_err-left.ensures.1 (answer_not_ok c.in_err-left.field-0.0)

pub returns-clause-ends : goal.returns-clause-ends
returns-clause-ends g c inputs =
    let text = trial_text c.args.generation c.args.setting in
    all_written g.O.Sink.taken g.O.Sink.faults (Trial c.args.generation c.args.setting) inputs inputs c.args.out.now
    c.run_over_made-ran.new.out (λ query takes left read. refl) text (trial_is_text c.args.generation c.args.setting inputs)
    (subst (Appends (g.O.Sink.taken c.args.out.now) (g.O.Sink.taken c.run_over_made-ran.new.out))
    (text_is c.args.generation c.args.setting c.in-Ok.made c.in_ok-query.query.typed c.in-Ok.ensures c.in_ok-query.ensures.ok)
    (c.in_ok-left.ensures.written (query_text c.in_ok-query.query.typed)
    (c.of_query-report.ensures.reports _ c.in_ok-query.ensures.plan).prints))

pub returns-clause-driven : goal.returns-clause-driven
returns-clause-driven g c inputs =
    let p = pipeline_in c.in_ok-left.left in
    let q = c.in_ok-query.query.typed in
    let plan = c.in_ok-query.query.plan in
    let made = made_packets c.args.generation in (
      rw c.of_query-report.ensures.is at c.in_ok-left.ensures.left,
      subst (λ one. StandsForEnd c.args.setting one (λ q. made) p) (sym c.in_ok-query.ensures.ok)
          (query_stands c.args.setting q plan c.in_ok-query.ensures.plan p c.in_ok-left.ensures.plan (words_of made)
          (simulated_whole c.args.generation.packets c.args.generation.start 16)
          (subst (λ made. PipelineStands p (end_machines plan (geometry_of c.args.setting) (words_of made))) c.in-Ok.ensures
          c.in_ok-left.ensures.stands)),
    )
