-- What is shown of a query where bounds are asked for, and what it prints.
use Rattle.std.specs.Prelude.{◌≡◌, ℕ, suc, List, [], ◌∷◌, ◌++◌, All, length, map, drop, flat_map, slice_get, Option, Some, None, unwrap_or}
use Rattle.query_lang.specs.{declared.{fold.TypedFold.TypedFold, typed.TypedQuery.TypedQuery}, Streams.takings, TypedFinals.table_number}
use Rattle.query_lang.specs.TypedQueries.{IsValidQuery}
use Rattle.stage_plan.specs.Uses.{uses}
use Rattle.epoch_model.specs.{Epochs.Geometry, Laws.HasRoom}
use Rattle.epoch_entry.specs.declared.purpose.Entries.TheVariants.{Bounds}
use Rattle.stage_plan.specs.{Packets.AreWhole, Planned.{IsPlanOf, fold_at}, Shape.{GroupShape, query_groups}}
use Rattle.stage_plan.specs.Sound.{PlanParts, IsSoundPlan}
use Rattle.final_queries.specs.{declared.table.Table.Table, Finals.with_finals}
use Rattle.table_printer.specs.TableText.{table_text}
use Rattle.query_tables.specs.Tables.{heading_of_shape}
use Rattle.switch_core.specs.{Pipelines.tables_of, PlanLanes.{LaneView, PipelineView, AreLanesOf, PipelineStands, folding_at}}
use Rattle.switch_core.specs.Ends.{end_machines}
use Rattle.enclosure_folds.specs.declared.table.Enclosed.{Enclosed}
use Rattle.enclosure_folds.specs.declared.table.Enclosed.TheVariants as enclosed
use Rattle.enclosure_folds.specs.{BoundsTables.{bounds_text, exact_table}, KeyBounds.enclosed_table, Shown.{MayBeShown, shown}}

-- what is shown of a groupby with this number; one whose fold isn't there shows nothing, and each groupby of a valid query has a fold
abbrev pub enclosed_if : TypedQuery → Geometry → List (List ℕ) → ℕ → GroupShape → Option TypedFold → List Enclosed
enclosed_if q g packets i shape None = []
enclosed_if q g packets i shape (Some f) = enclosed_table (heading_of_shape shape) f g (uses q i packets) ∷ []

-- of groupbys in order, where the first has this number
abbrev pub enclosed_from : TypedQuery → Geometry → List (List ℕ) → ℕ → List GroupShape → List Enclosed
enclosed_from q g packets i [] = []
enclosed_from q g packets i (shape ∷ shapes) = enclosed_if q g packets i shape (fold_at q i) ++ enclosed_from q g packets (suc i) shapes

-- What is shown of a query's groupbys over these packets, each with a word for each field.
unfoldable pub enclosed_tables : TypedQuery → Geometry → List (List ℕ) → List Enclosed
enclosed_tables q g packets = enclosed_from q g packets 0 (query_groups q)

-- the pipeline is that of a valid query's plan, and it represents the machines of its groupbys at the end of these packets
pub record EndsAt (q : TypedQuery) (g : Geometry) (packets : List (List ℕ)) (pipeline : PipelineView) : Type 0 where
  pub valid : IsValidQuery q
  pub plan : IsPlanOf q pipeline.plan
  pub room : HasRoom g
  pub whole : AreWhole packets
  pub stands : PipelineStands pipeline (end_machines pipeline.plan g packets)

-- What finals read instead of what is shown of a groupby: of a table of bounds the rows whose bounds are equal.
abbrev pub table_read : Enclosed → Table
table_read (enclosed.Linear t) = t
table_read (enclosed.Bounds t) = exact_table t

abbrev pub shown_text : Enclosed → List ℕ
shown_text (enclosed.Linear t) = table_text t
shown_text (enclosed.Bounds t) = bounds_text t

-- the texts of what is shown of the groupbys, and of the tables that finals make of what they read of them
abbrev pub all_texts : TypedQuery → List Enclosed → List (List ℕ)
all_texts q groups = map shown_text groups
    ++ map table_text (drop (length groups) (with_finals q.names q.folds (map table_read groups) q.finals))

-- what a query prints of what is shown of its groupbys: the tables that it names, in the order of its prints
abbrev pub enclosed_print : TypedQuery → List Enclosed → List ℕ
enclosed_print q groups = flat_map
    (λ one. unwrap_or (slice_get (all_texts q groups) (table_number (length (takings q.streams)) one)) []) q.prints

-- What a query prints over these packets where bounds are asked for.
unfoldable pub enclose_text : TypedQuery → Geometry → List (List ℕ) → List ℕ
enclose_text q g packets = enclosed_print q (enclosed_tables q g packets)

-- The tables of a plan's lanes for bounds at the end of a trace may be shown, and give what is shown of the query's groupbys.
pub record EndsGiveEnclosedTables : Type 0 where
  pub may : (q : TypedQuery) (plan : PlanParts) (buckets : ℕ) (lanes : List LaneView) (g : Geometry)
      (packets : List (List ℕ)) → IsValidQuery q → IsPlanOf q plan → IsSoundPlan plan
      → AreLanesOf Bounds plan buckets lanes → HasRoom g → AreWhole packets
      → All MayBeShown (tables_of plan.groups (map folding_at lanes) (end_machines plan g packets))
  pub tables : (q : TypedQuery) (plan : PlanParts) (buckets : ℕ) (lanes : List LaneView) (g : Geometry)
      (packets : List (List ℕ)) → IsValidQuery q → IsPlanOf q plan → IsSoundPlan plan
      → AreLanesOf Bounds plan buckets lanes → HasRoom g → AreWhole packets
      → map shown (tables_of plan.groups (map folding_at lanes) (end_machines plan g packets)) ≡ enclosed_tables q g packets
