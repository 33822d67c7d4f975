-- What commands write of a query that they accepted, and for which faults they refuse the trace.
use Rattle.std.proofs.Common.{◌≡◌, ℕ, List, [], None, Some, IfSome, Ok, refl, sym, ap, ◌∙◌}
use Rattle.marple_base.specs.{Inputs.Input, declared.{field.FieldSet.FieldSet, inputs.Which.{Which, TheVariants.{Query, Trace}}}}
use Rattle.query_lang.specs.declared.typed.TypedQuery.{TypedQuery}
use Rattle.stage_plan.specs.Fields.{reads_of}
use Rattle.trace_reader.specs.Traces as traces
use Rattle.accepted_query.specs.Accepted.{accepted}
use Rattle.command_line.specs.{Command.ways_number, declared.command.Command.TheVariants.{Run, Net, Enclose, Compile}}
use Rattle.command_line.specs.declared.setting.{NetSetting.NetSetting, Setting.Setting}
use Rattle.driven_net.specs.NetTraces.{net_fault_in, net_reads, net_trace_fault}
use Rattle.net_wide.specs.{Combining.net_fault, NetTables.net_text}
use Rattle.query_tables.specs.Tables.{query_text}
use Rattle.enclosed_query.specs.EnclosedTables.{enclose_text}
use Rattle.query_run.{specs.{Driven.geometry_of, Views.views_text}, proofs.ViewTexts.tables_alone}
use Rattle.trace_drive.specs.Drives.{words_of}
use Rattle.plan_writer.specs.PlanText.{compiled_text, final_fault}
use Rattle.command_answers.specs.OwnChecks.{bounds_fault, fault_after}
use Rattle.marple_cli.specs.Output.{Source, enclosures_text, fault_for, network_text, of_accepted, read_packets, run_text}
use Rattle.marple_cli.proofs.{Ending.{IsText, query_fits, query_told, told}, Traced.IsOver}

module _ (before : Which → Input) (found : TypedQuery) (known : IfSome (before Query).left (λ query. accepted query ≡ Ok found)) where
  read : (query : Source) → (before Query).left ≡ Some query.text → accepted query.text ≡ Ok found
  read query is = told (λ text. accepted text ≡ Ok found) (before Query).left query.text known is

  -- the trace wasn't touched yet
  module _ (middle : Which → Input) (kept : middle Trace ≡ before Trace) where
    pub net_over : (setting : NetSetting) → net_fault found ≡ None → IsOver (Net setting) before middle (net_reads found) net_fault_in
        (λ trace. net_text found setting.buckets (ways_number setting.ways) (words_of trace.packets))
    net_over setting combines = record {
      accepts = query_fits (Net setting) net_fault before found (λ query. refl) known combines;
      has_query = refl;
      has_trace = refl;
      same = λ query trace holds. (
        ap (of_accepted None (net_trace_fault trace)) (read query (holds.of_query refl)),
        ap (of_accepted [] (network_text setting trace)) (read query (holds.of_query refl)),
      );
      kept = kept;
    }

    -- a plan reads these fields
    module _ (setting : Setting) (reads : FieldSet) (same : reads ≡ reads_of found) where
      pub run_over : (every : ℕ) → IsOver (Run setting every) before middle reads (λ trace. trace.fault)
          (λ trace. views_text (query_text found (geometry_of setting)) every (words_of trace.packets))
      run_over every = record {
        accepts = query_told (Run setting every) before found (λ query. refl) known;
        has_query = refl;
        has_trace = refl;
        same = λ query trace holds. (
          ap (λ one. fault_for one trace) (read query (holds.of_query refl)) ∙ ap (traces.trace_fault trace) (sym same),
          ap (λ one. run_text setting every one (read_packets trace)) (read query (holds.of_query refl)) ∙ ap (λ reads.
              views_text (query_text found (geometry_of setting)) every (words_of (traces.packets trace reads))) (sym same),
        );
        kept = kept;
      }

      pub enclose_over : bounds_fault found ≡ None → IsOver (Enclose setting) before middle reads (λ trace. trace.fault)
          (λ trace. views_text (enclose_text found (geometry_of setting)) 0 (words_of trace.packets))
      enclose_over bounded = record {
        accepts = query_fits (Enclose setting) bounds_fault before found (λ query. refl) known bounded;
        has_query = refl;
        has_trace = refl;
        same = λ query trace holds. (
          ap (λ one. fault_for one trace) (read query (holds.of_query refl)) ∙ ap (traces.trace_fault trace) (sym same),
          ap (of_accepted [] (enclosures_text setting trace)) (read query (holds.of_query refl))
              ∙ ap (λ reads. enclose_text found (geometry_of setting) (words_of (traces.packets trace reads))) (sym same)
              ∙ sym (tables_alone (enclose_text found (geometry_of setting)) (words_of (traces.packets trace reads))),
        );
        kept = kept;
      }

  pub compiled_is : (text : List ℕ) → final_fault found ≡ None → text ≡ compiled_text found → IsText Compile before text
  compiled_is text none is query trace holds =
      let accepts = read query (holds.of_query refl) in (
        record { by_query = ap (fault_after final_fault) accepts ∙ none; by_trace = refl },
        is ∙ sym (ap (of_accepted [] compiled_text) accepts),
      )
