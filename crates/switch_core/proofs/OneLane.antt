-- A lane of a pipeline that is another one now, and the pipeline with it.
use Rattle.std.{proofs.Common.{◌≡◌, ℕ, ◌<◌, Some, length, get_or, set, refl, sym, ap, ◌∙◌, subst}, specs.Prelude.slice_get}
use Rattle.epoch_model.specs.Machine.{Event}
use Rattle.epoch_entry.specs.contracts.any.AnyEpochsEpochKind.TheImpl.{ghosts}
use Rattle.switch_core.specs.{LaneEvents.Makes, Pipelines.event_at, Rows.Each}
use Rattle.switch_core.specs.PlanLanes.{AreLanesOf, IsMadeFor, LaneView, PipelineView, parts_of}
use Rattle.switch_core.proofs.{LaneFacts.{make_one, set_same}, PipelineSteps.{AreKeptLanes, LanesAfter, lanes_after, lanes_many}}
use Rattle.switch_core.{specs.declared.pipeline.Pipeline.TheInside.Inside, proofs.SideBySide.{got_here, same_some}}

-- a pipeline by its parts
abbrev pub view_of : {ways : ℕ} → Inside ways → PipelineView
view_of p = record { plan = p.plan; entries = p.entries; buckets = p.buckets; lanes = p.lanes.items }

-- a pipeline of these parts has this lane
pub record IsLane (view p : PipelineView) (at : ℕ) (lane : LaneView) : Type 0 where
  pub kept : AreKeptLanes view.entries view.plan view.buckets view.lanes
  pub same : view ≡ p
  pub here : slice_get view.lanes at ≡ Some lane

pub lane_found : {view p : PipelineView} {at : ℕ} {lane : LaneView} → AreLanesOf view.entries view.plan view.buckets view.lanes
    → Each IsMadeFor view.lanes view.plan.groups → view ≡ p → at < length p.lanes → lane ≡ get_or view.lanes at lane → IsLane view p at lane
lane_found {view} {p} {at} {lane} lanes made same within value = record {
  kept = record { lanes = lanes; made = made };
  same = same;
  here = got_here view.lanes at lane (subst (λ (v : PipelineView). at < length v.lanes) (sym same) within)
      ∙ ap (λ (x : LaneView). Some x) (sym value);
}

module _ {view p : PipelineView} {at : ℕ} {lane : LaneView} (l : IsLane view p at lane) where
  -- the lane that contracts speak of
  pub lane_is : {x : LaneView} → slice_get p.lanes at ≡ Some x → lane ≡ x
  lane_is {x} e = same_some lane x (sym l.here ∙ (ap (λ (v : PipelineView). slice_get v.lanes at) l.same ∙ e))

  pub lane_buckets : length lane.cache.lists ≡ p.buckets
  lane_buckets = lanes_many view.entries view.plan view.buckets 0 view.lanes view.plan.groups l.kept.lanes at lane l.here
      ∙ ap (λ (v : PipelineView). v.buckets) l.same

  -- another one stands there, which made an event
  pub event_made : (ways : ℕ) (event : Event) (new : LaneView) → new.kind ≡ lane.kind
      → Makes (ghosts.stands lane.kind) (ghosts.folding lane.kind) ways event (parts_of lane) (parts_of new)
      → LanesAfter ways (event_at at event) view.entries view.plan view.buckets view.lanes (set view.lanes at new)
  event_made ways event new kind made = lanes_after ways (event_at at event) view.entries view.plan view.buckets view.lanes _
      (make_one ways at event view.lanes lane new l.here (record { kind = kind; made = (parts_of new, made, refl) }))
      l.kept.lanes l.kept.made

  -- it is as it was
  pub lanes_same : (new : LaneView) → new.kind ≡ lane.kind → new.cache ≡ lane.cache → (new.pipe ≡ lane.pipe) × (new.store ≡ lane.store)
      → set view.lanes at new ≡ view.lanes
  lanes_same new kind cache rest =
      let same : new ≡ lane = rw (kind, cache, rest.0, rest.1) refl in
      ap (set view.lanes at) same ∙ set_same view.lanes at lane l.here
