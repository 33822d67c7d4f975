-- A lane of the pipeline was made for its groupby in the plan, so its entries are of the kind of that one's fold.
use Rattle.std.{proofs.Common.{◌≡◌, ◌∙◌, Some, length, sym, ap, subst, arith}, specs.Prelude.slice_get}
use Rattle.epoch_entry.specs.{Purposes.IsKindFor, contracts.any.AnyEpochsEpochKind.TheImpl.ghosts}
use Rattle.switch_core.{specs.PlanLanes.{LaneView, PipelineView}, proofs.{PipelineSteps.{kind_at, made_at}, SideBySide.got_here}}
use Rattle.switch_core.proofs.pipeline.Pipeline.lane.Goals as goal

pub returns : goal.returns
returns g c =
    let p = c.self.inside in
    let lane : LaneView = c.index.result.now in
    let view : PipelineView = record { plan = p.plan; entries = p.entries; buckets = p.buckets; lanes = p.lanes.items } in
    let long = ap (λ (v : PipelineView). length v.lanes) c.self.view_is in
    let here = got_here p.lanes.items c.args.lane c.index.result.now (let within = c.requires in omega arith)
    ∙ ap Some (sym c.index.ensures) in
    record {
      lane = subst (λ (v : PipelineView). slice_get v.lanes c.args.lane ≡ Some lane) c.self.view_is here;
      kind = λ group f at is.
          let own = kind_at view c.args.lane lane group f c.self.invariant.lanes here
          (subst (λ (v : PipelineView). slice_get v.plan.groups c.args.lane ≡ Some group) (sym c.self.view_is) at) is in
          subst (λ (v : PipelineView). IsKindFor v.entries f (ghosts.sizes lane.kind) (ghosts.folding lane.kind)
          (ghosts.open_bound lane.kind) (ghosts.absorb_bound lane.kind)) c.self.view_is own;
      made = λ group at. made_at view c.args.lane lane group c.self.invariant.made here
          (subst (λ (v : PipelineView). slice_get v.plan.groups c.args.lane ≡ Some group) (sym c.self.view_is) at);
    }
