-- A trial writes what a run writes over the generated text.
use Rattle.marple_laws.proofs.Words
use Words.{◌≡◌, ℕ, List, Ok, ap, sym, ◌∙◌, accepted, fault_in, trial_query, Packet, TypedQuery, Checked, geometry_of, NoViewsWithoutNumber}
use Words.{trace_text, words_of, TrialsRunOverTexts}
use Rattle.marple_laws.specs.Trials.{TrialsAreRuns}
use Rattle.marple_cli.specs.Output.{fault_for, made_packets, read_packets, run_text, tables_text}

pub trials_are_runs : TrialsRunOverTexts → NoViewsWithoutNumber → (q : TypedQuery) × (accepted trial_query ≡ Ok q) → TrialsAreRuns
trials_are_runs runs alone typed generation setting query is text =
    let q : TypedQuery = typed.0 in
    let made : List Packet = made_packets _ in
    let trace : List ℕ = trace_text (made_packets _) in
    let found : accepted query.text ≡ Ok q = ap accepted text ∙ typed.1 in
    let over = runs q _ generation.start 16 typed.1 is.packets_limit in
    record {
      query_accepted = ap fault_in found;
      trace_accepted = ap (λ (r : Checked TypedQuery). fault_for r trace) found ∙ over.accepted;
      written =
          ap (λ (r : Checked TypedQuery). run_text setting 0 r (read_packets trace)) found
          ∙ alone _ (words_of (read_packets trace q))
          ∙ over.written (geometry_of setting)
          ∙ sym (ap (λ (r : Checked TypedQuery). tables_text setting r (λ one. made)) typed.1);
    }
