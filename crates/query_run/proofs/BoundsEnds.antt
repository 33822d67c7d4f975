-- What is shown of the tables at the end of packets, where bounds are asked for, is what the query prints.
use Rattle.std.proofs.Common.{◌≡◌, ℕ, List, [], ◌∷◌, map, refl, sym, ap, ◌∙◌, subst}
use Rattle.std.{proofs.lemmas.List.Elements.{All-nil, All-cons, All-head, All-tail}, specs.List.All}
use Rattle.query_lang.specs.{declared.typed.{Class.TheVariants.{Linear, Other}, TypedQuery.TypedQuery}, TypedQueries.IsValidQuery}
use Rattle.epoch_entry.specs.declared.purpose.Entries.TheVariants.{Bounds}
use Rattle.epoch_model.specs.{Epochs.Geometry, Laws.HasRoom}
use Rattle.final_queries.specs.declared.table.{Table.Table, TableKind.{TableKind, TheVariants.{Group, Final}}}
use Rattle.final_queries.specs.Finals.{IsTable, table_shape}
use Rattle.enclosure_folds.specs.{KeyBounds.TriplesGiveWholeTables, Shown.{MayBeShown, MayBeShownBy, shown, shown_by}}
use Rattle.enclosed_query.specs.EnclosedTables.{EndsGiveEnclosedTables, enclose_text, enclosed_print, enclosed_tables, table_read}
use Rattle.enclosed_query.specs.Reading.{EnclosedTablesAreRead, IsWhole}
use Rattle.stage_plan.specs.{Packets.AreWhole, Planned.IsPlanOf, Sound.{IsSoundPlan, PlanParts}}
use Rattle.switch_core.specs.PlanLanes.{AreLanesOf, LaneView}
use Rattle.query_run.specs.{BoundsReports.AreBoundsTables, EndTables.end_tables, Reports.Reports}
use Rattle.query_run.specs.declared.report.Report.TheVariants as reports

-- the tables of bounds that are shown have the words that their names say
one_whole : TriplesGiveWholeTables → (kind : TableKind) (t : Table) → MayBeShownBy kind t → IsWhole (shown_by kind t)
one_whole law (Group Linear depth epochs) t may = tt
one_whole law (Group Other depth epochs) t may = law t may.triples may.some_keys may.most_keys
one_whole law Final t may = tt

all_whole : TriplesGiveWholeTables → (tables : List Table) → All MayBeShown tables → All IsWhole (map shown tables)
all_whole law [] may = All-nil IsWhole
all_whole law (t ∷ tables) may =
    All-cons IsWhole (shown t) (map shown tables) (one_whole law t.kind t (All-head MayBeShown t tables may))
    (all_whole law tables (All-tail MayBeShown t tables may))

module _ (ends : EndsGiveEnclosedTables) (read : EnclosedTablesAreRead) (triples : TriplesGiveWholeTables) (q : TypedQuery)
    (plan : PlanParts) (valid : IsValidQuery q) (p : IsPlanOf q plan) where
  are_bounds_tables : (buckets : ℕ) (lanes : List LaneView) (g : Geometry) (packets : List (List ℕ)) → IsSoundPlan plan
      → AreLanesOf Bounds plan buckets lanes → HasRoom g → AreWhole packets → AreBoundsTables q (end_tables plan lanes g packets)
  are_bounds_tables buckets lanes g packets planned each room whole =
      let tables = end_tables plan lanes g packets in
      let same = ends.tables q plan buckets lanes g packets valid p planned each room whole in
      let may = ends.may q plan buckets lanes g packets valid p planned each room whole in
      let words = all_whole triples tables may in
      record {
        valid = valid;
        may = may;
        whole = words;
        read = subst (λ shown. All IsTable (map table_read shown)) (sym same)
            (read.read q g packets valid (subst (All IsWhole) same words));
        shapes = ap (λ shown. map table_shape (map table_read shown)) same ∙ read.shapes q g packets valid;
      }

  text_is : (g : Geometry) (packets : List (List ℕ)) → enclosed_print q (enclosed_tables q g packets) ≡ enclose_text q g packets
  unfolding enclose_text
  text_is g packets = refl

  pub bounds_reports : Reports (reports.Bounds q) plan (enclose_text q)
  bounds_reports = record {
    may_print = are_bounds_tables;
    prints = record {
      at_ends = λ buckets lanes g packets planned each room whole.
          ap (enclosed_print q) (ends.tables q plan buckets lanes g packets valid p planned each room whole) ∙ text_is g packets;
    };
  }
