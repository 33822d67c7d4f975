-- The plans that `compile` writes run as their queries.
use Rattle.marple_laws.proofs.Words
use Words.{Checked, IsAsTheQuery, IsReadingOf, List, Made, NoViewsWithoutNumber, None, Setting, TypedQuery, [], accepted, ap, compiled_text}
use Words.{fault_after, fault_in, final_fault, geometry_of, made_of, plan_output, reads_in, reads_of, refl, subst, sym}
use Rattle.marple_laws.proofs.{Accepted.accepted_load, OneReading.read_once}
use Rattle.marple_laws.{proofs.Words.{words_of, ℕ, ◌∙◌, ◌≡◌}, specs.Compiled.CompiledPlansRunAsQueries}
use Rattle.std.specs.Prelude.{Err, Ok}
use Rattle.command_line.specs.declared.command.Command.TheVariants.{RunPlan}
use Rattle.trace_drive.specs.ReadPackets.{ReadPacketsAreWhole}
use Rattle.trace_reader.specs.Traces as traces
use Rattle.marple_cli.specs.Output.{IsRead, Source, fault_for, of_accepted, plan_tables_text, read_packets, run_text}

module _ (alone : NoViewsWithoutNumber) (whole : ReadPacketsAreWhole) (setting : Setting) (trace : List ℕ) where
  -- runs of a query and of a plan by what their texts are read to
  record AreAlike (found : Checked TypedQuery) (read : Checked Made) : Type 0 where
    query_accepted : fault_in found ≡ None
    plan_accepted : fault_after (λ (made : Made). None) read ≡ None
    trace_refused : of_accepted None (λ made. traces.trace_fault trace (reads_in made)) read ≡ fault_for found trace
    written : of_accepted [] (plan_tables_text setting trace) read ≡ run_text setting 0 found (read_packets trace)

  same_run : (q : TypedQuery) (made : Made) → IsAsTheQuery q made → AreAlike (Ok q) (Ok made)
  same_run q made is = record {
    query_accepted = refl;
    plan_accepted = refl;
    trace_refused = ap (traces.trace_fault trace) is.reads;
    written =
        let packets : List (List ℕ) = words_of (traces.packets trace (reads_of q)) in
        ap (λ reads. plan_output made (geometry_of setting) (words_of (traces.packets trace reads))) is.reads
        ∙ is.prints (geometry_of setting) packets (whole trace (reads_of q))
        ∙ sym (alone _ packets);
  }

  alike : (text : List ℕ) (plan : Source) (found : Checked TypedQuery) → accepted text ≡ found → fault_after final_fault found ≡ None
      → plan.text ≡ of_accepted [] compiled_text found → IsRead (RunPlan setting) plan → AreAlike found plan.plan
  alike text plan (Err fault) e accepted written read = cc
  alike text plan (Ok q) e accepted written read =
      let loads = accepted_load text q e accepted in
      let same : plan.plan ≡ Ok (made_of q) =
      read_once (compiled_text q) plan.plan (Ok (made_of q)) (subst (λ t. IsReadingOf t plan.plan) written read) loads.valid
      in
      subst (AreAlike (Ok q)) (sym same) (same_run q _ (loads.only (made_of q) loads.valid))

pub run_alike : NoViewsWithoutNumber → ReadPacketsAreWhole → CompiledPlansRunAsQueries
run_alike alone whole query plan setting trace compiled read =
    let runs = alike alone whole setting trace query.text plan (accepted query.text) refl compiled.accepted compiled.written read in
    record {
      query_accepted = runs.query_accepted;
      plan_accepted = runs.plan_accepted;
      trace_refused = runs.trace_refused;
      written = runs.written;
    }
