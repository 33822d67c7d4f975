-- The tables of a network at the end of a trace.
use Rattle.std.{proofs.Common.{◌≡◌, ℕ, true, List, [], ◌++◌, None, refl, sym, ap, ◌∙◌, subst, append-nil}, specs.List.list_all}
use Rattle.query_lang.specs.{declared.typed.TypedQuery.TypedQuery, TypedQueries.IsValidQuery}
use Rattle.final_queries.specs.{declared.table.Table.Table, Finals.with_finals}
use Rattle.stage_plan.specs.{Packets.AreWhole, Planned.IsPlanOf}
use Rattle.query_tables.specs.Tables.{printed}
use Rattle.net_wide.specs.{Combining.net_fault, NetTables.{caches_of, net_tables, net_text}, NetLaws.TellsSwitches, Numbering.place_among}
use Rattle.net_wide.specs.NetEnds.{IsSeen}
use Rattle.network.specs.{Ends.{CombineOver, EvictsLast, packets_taken}, Groups.group_is_drained, Networks.NetworkView}
use Rattle.network.specs.Running.{NetworkEvent, NetworkStands, RunsFollowEvents, RunsWithMerges, all_evictions}
use Rattle.network.proofs.{EventLists.{evictions_take_none, taken_on, taken_unmerged, theirs_none, theirs_on}, Runs.merging_kept}
use Rattle.driven_net.{specs.Follows.NetFollows, proofs.Known.numbered}

-- what is printed of those tables is the text of the definition
pub text_is : (q : TypedQuery) (buckets ways : ℕ) (packets : List (List ℕ)) (tables : List Table) (text : List ℕ)
    → tables ≡ net_tables q (caches_of buckets ways) packets
    → text ≡ printed q (with_finals q.names q.folds tables q.finals) → text ≡ net_text q buckets ways packets
unfolding net_text
text_is q buckets ways packets tables text same is = is ∙ ap (λ ts. printed q (with_finals q.names q.folds ts q.finals)) same

-- a network that was drained and closed gives the tables of the definition
pub tables_are : RunsFollowEvents → (ways : ℕ) (q : TypedQuery) (known : List ℕ) (packets : List (List ℕ)) (old new : NetworkView)
    (tables : List Table)
    → IsValidQuery q → net_fault q ≡ None → TellsSwitches q → IsPlanOf q old.plan → AreWhole packets → NetFollows ways known packets old
    → RunsWithMerges ways (all_evictions old) old new → list_all group_is_drained new.groups ≡ true
    → ((query : TypedQuery) (number : ℕ → ℕ) (events : List NetworkEvent) → CombineOver query new.plan number events
    → NetworkStands ways new events → list_all group_is_drained new.groups ≡ true
    → EvictsLast events → tables ≡ net_tables query (caches_of new.buckets ways) (packets_taken events))
    → tables ≡ net_tables q (caches_of old.buckets ways) packets
tables_are law ways q known packets old new tables valid none tells p whole f ran drained closed =
    let kept = merging_kept ways (all_evictions old) old new ran in
    let all : List NetworkEvent = f.events ++ ran.0 in
    let no_more : packets_taken ran.0 ≡ [] = taken_unmerged ran.0 ∙ (ap packets_taken ran.1 ∙ evictions_take_none old) in
    let taken : packets_taken all ≡ packets = taken_on f.events ran.0 ∙ (ap (λ ps. packets_taken f.events ++ ps) no_more
    ∙ (append-nil (packets_taken f.events) ∙ f.takes)) in
    let over : CombineOver q new.plan (place_among known) all = record {
      valid = valid;
      combine = none;
      tells = tells;
      planned = subst (IsPlanOf q) (sym kept.keeps.plan) p;
      whole = subst AreWhole (sym taken) whole;
      numbered = numbered known (packets_taken all) (λ s seen. f.all_known s (subst (IsSeen s) taken seen));
      switches = theirs_on (place_among known) f.events ran.0 f.theirs (theirs_none (place_among known) ran.0 no_more);
    } in
    closed q (place_among known) all over (law ways ran.0 f.events old new ran.2 f.stands) drained
    (record { first = f.events; rest = ran.0; parts = refl; before = f.none; after = no_more })
    ∙ (ap (λ b. net_tables q (caches_of b ways) (packets_taken all)) kept.keeps.buckets
    ∙ ap (net_tables q (caches_of old.buckets ways)) taken)
