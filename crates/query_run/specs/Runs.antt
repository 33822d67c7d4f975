-- What a query makes of a trace.
use Rattle.std.specs.Prelude.{◌≡◌, ℕ, suc, List, [], ◌∷◌, length, map}
use Rattle.query_lang.specs.{declared.typed.TypedQuery.TypedQuery, Streams.{Taking, takings}, TypedQueries.IsValidQuery}
use Rattle.stage_plan.specs.Uses.{uses}
use Rattle.epoch_entry.specs.declared.purpose.Entries.TheVariants.{Folds}
use Rattle.epoch_model.specs.{Epochs.Geometry, Machine.{Machine, end_of}, Laws.HasRoom}
use Rattle.stage_plan.specs.{Packets.AreWhole, Planned.IsPlanOf, Sound.PlanParts}
use Rattle.switch_core.specs.{Pipelines.tables_of, PlanLanes.{LaneView, AreLanesOf, folding_at}, Ends.end_machines}
use Rattle.query_tables.specs.Tables.{group_tables}

-- the machines of groupbys, which are numbered from this number on
abbrev pub ends_of : TypedQuery → Geometry → List (List ℕ) → ℕ → List Taking → List Machine
ends_of q g packets i [] = []
ends_of q g packets i (t ∷ rest) = end_of g (uses q i packets) (length packets) ∷ ends_of q g packets (suc i) rest

-- The machine of each groupby of a query at the end of these packets.
unfoldable pub query_ends : TypedQuery → Geometry → List (List ℕ) → List Machine
query_ends q g packets = ends_of q g packets 0 (takings q.streams)

-- The plan's machines at the end of a trace are the query's, and their closed epochs give the tables of the query's groupbys.
pub record EndsAreTheQuerys : Type 0 where
  pub machines : (q : TypedQuery) (plan : PlanParts) (g : Geometry) (packets : List (List ℕ)) → IsPlanOf q plan
      → AreWhole packets → end_machines plan g packets ≡ query_ends q g packets
  pub tables : (q : TypedQuery) (plan : PlanParts) (buckets : ℕ) (lanes : List LaneView) (g : Geometry)
      (packets : List (List ℕ)) → IsValidQuery q → IsPlanOf q plan → AreLanesOf Folds plan buckets lanes → HasRoom g → AreWhole packets
      → tables_of plan.groups (map folding_at lanes) (end_machines plan g packets) ≡ group_tables q g packets
