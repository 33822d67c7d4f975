-- The tables of a view are those of the packets so far.
use Rattle.std.proofs.Common.{◌≡◌, ℕ, suc, ◌≤◌, List, [], ◌∷◌, length, map, take, refl, sym, ap, ap₂, ◌∙◌, subst, arith}
use Rattle.std.proofs.lemmas.List.{length-map, length-take-le, take-map, Elements.All-take}
use Rattle.marple_base.specs.declared.field.TheConstants.{FIELDS}
use Rattle.final_queries.specs.declared.table.Table.{Table}
use Rattle.epoch_entry.specs.declared.purpose.Entries.{Entries}
use Rattle.epoch_model.specs.{Driving.uses_taken, Epochs.Geometry, Laws.{HasRoom, SameEpochs}, Machine.{Machine, after_packets, end_of}}
use Rattle.live_view.specs.{Laws.ViewsEndTheTrace, Views.{all_closed, tables_seen}}
use Rattle.query_run.specs.{EndTables.{AtEnds, end_tables}, Views.IsAsFarAs}
use Rattle.stage_plan.specs.{Packets.AreWhole, declared.group.GroupPlan.GroupPlan, Planned.taken, Sound.{IsSoundPlan, PlanParts}}
use Rattle.switch_core.specs.{Pipelines.tables_of, PlanLanes.{AreLanesOf, PipelineStands, PipelineView, StandsFor, folding_at}}
use Rattle.switch_core.specs.Ends.{ends_from, uses_by}
use Rattle.trace_drive.{specs.Follows.AlikeFrom, proofs.Ending.{each_long, lanes_long}}

-- a machine that is as far as the first packets has in a view what it has at the end of a trace of these packets alone
one_end : ViewsEndTheTrace → (plan : PlanParts) (g : Geometry) (packets : List (List ℕ)) (number i : ℕ) (m : Machine)
    → number ≤ length packets → SameEpochs m (after_packets g (uses_by plan i packets) number)
    → all_closed m ≡ end_of g (uses_by plan i (take number packets)) (length (take number packets))
one_end law plan g packets number i m within same =
    let long : number ≤ length (map (taken plan i) packets) = omega (arith, length-map packets (taken plan i)) in
    law g (map (taken plan i) packets) number m long same
    ∙ (ap (λ given. end_of g (uses_taken 1 given) number) (take-map (taken plan i) number packets)
    ∙ ap (end_of g (uses_by plan i (take number packets))) (sym (length-take-le number packets within)))

ends_seen : ViewsEndTheTrace → (plan : PlanParts) (g : Geometry) (packets : List (List ℕ)) (number : ℕ) → number ≤ length packets
    → (i : ℕ) (groups : List GroupPlan) (machines : List Machine)
    → length machines ≡ length groups → AlikeFrom (λ j. after_packets g (uses_by plan j packets) number) i machines
    → map all_closed machines ≡ ends_from plan g (take number packets) i groups
ends_seen law plan g packets number within i [] [] long alike = refl
ends_seen law plan g packets number within i [] (m ∷ machines) long alike = absurd (omega arith)
ends_seen law plan g packets number within i (group ∷ groups) [] long alike = absurd (omega arith)
ends_seen law plan g packets number within i (group ∷ groups) (m ∷ machines) long alike =
    ap₂ (λ x xs. x ∷ xs) (one_end law plan g packets number i m within alike.0)
    (ends_seen law plan g packets number within (suc i) groups machines (omega arith) alike.1)

-- the tables of a view are those at the end of a trace of the packets so far
pub seen_tables : ViewsEndTheTrace → (entries : Entries) (g : Geometry) (packets : List (List ℕ)) (number : ℕ) (p : PipelineView)
    (tables : List Table) → AreLanesOf entries p.plan p.buckets p.lanes
    → ((machines : List Machine) → PipelineStands p machines → tables ≡ tables_seen p.plan.groups (map folding_at p.lanes) machines)
    → IsAsFarAs g packets number p → tables ≡ end_tables p.plan p.lanes g (take number packets)
seen_tables law entries g packets number p tables lanes shown far =
    let f = far.follows in
    let long = sym (each_long (λ n. StandsFor) 0 p.lanes f.machines f.stands) ∙ lanes_long entries p.plan p.buckets p.lanes lanes in
    let closed = ends_seen law p.plan g packets number far.within 0 p.plan.groups f.machines long f.alike in
    shown f.machines f.stands ∙ ap (tables_of p.plan.groups (map folding_at p.lanes)) closed

-- the packets so far have the words of all fields
pub seen_whole : (g : Geometry) (packets : List (List ℕ)) (number : ℕ) (p : PipelineView) → IsAsFarAs g packets number p
    → AreWhole (take number packets)
seen_whole g packets number p far = All-take (λ (words : List ℕ). length words ≡ FIELDS) number packets far.whole

-- what is said of lanes of a sound plan at the end of packets, of a pipeline's lanes
pub at_an_end : (P : Geometry → List (List ℕ) → List Table → Type 0) (entries found : Entries) (plan : PlanParts) (p : PipelineView)
    (g : Geometry) (packets : List (List ℕ)) → IsSoundPlan plan → plan ≡ p.plan → AreLanesOf found p.plan p.buckets p.lanes
    → found ≡ entries → AtEnds entries p.plan P → HasRoom g → AreWhole packets → P g packets (end_tables p.plan p.lanes g packets)
at_an_end P entries found plan p g packets sound same lanes is at = at p.buckets p.lanes g packets (subst IsSoundPlan same sound)
    (subst (λ e. AreLanesOf e p.plan p.buckets p.lanes) is lanes)
