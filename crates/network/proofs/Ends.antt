-- The tables of a network that is drained.
use Rattle.std.proofs.Common.{◌≡◌, ℕ, suc, ◌+◌, ◌<◌, ◌==◌, true, List, [], ◌∷◌, ◌++◌, Option, Some, None, map, drop, refl, sym, ap}
use Rattle.std.{proofs.Common.{◌∙◌, subst, arith, append-nil}, specs.{List.list_all, Prelude.slice_get}}
use Rattle.query_lang.specs.declared.{fold.TypedFold.TypedFold, typed.TypedQuery.TypedQuery}
use Rattle.epoch_model.specs.{Keys.{ArgRow, Key}, Machine.{Epoch, Event, Evict, Merge}, Laws.HasRoom, Timeline.NoPacket}
use Rattle.epoch_model.{specs.Driving.{Taken, event_of}, proofs.KeyLists.by_test}
use Rattle.epoch_entry.specs.Foldings.{folding_of}
use Rattle.backing_store.specs.Merged.{StoreHolds}
use Rattle.final_queries.specs.{declared.table.Table.Table, GroupTable.closed_table, FinalLaws.{AreAlike, AlikeFoldingsMakeOneTable}}
use Rattle.stage_plan.specs.{declared.group.GroupPlan.GroupPlan, Planned.{fold_at, taken, wiring_at}, Shape.group_shape, Sound.PlanParts}
use Rattle.switch_core.{specs.{Pipelines.{event_at, heading_of}, Rows.EachFrom}, proofs.{GroupFolds.fold_there, LaneFacts.all_at}}
use Rattle.switch_core.proofs.SideBySide.{each_long, got_below, got_some}
use Rattle.additive_laws.specs.Network.{SwitchEvent, SwitchEpoch, all_epochs, all_events, AllMerged}
use Rattle.additive_laws.specs.Traces.{HasPackets, IsRun, from_switch, given, packets_among, without_switch_merges}
use Rattle.net_wide.specs.NetTables.{caches_of, net_pieces, net_table, net_table_if, net_tables, net_tables_from, tables_of_pieces}
use Rattle.net_wide.specs.NetEnds.{MergedMakeTheTable, PiecesAreTheEpochs, net_steps}
use Rattle.net_wide.proofs.{PieceTables.pieces_same, Places.first_at}
use Rattle.network.specs.Ends.{AreAtTheirSwitches, CombineOver, EvictsLast, NoEviction, packets_taken, pieces_closed}
use Rattle.network.specs.Groups.{GroupView, IsGroup, StoresHold, folding_in, group_is_drained, shared_tables}
use Rattle.network.specs.Networks.{IsNetwork, NetworkView}
use Rattle.network.specs.Running.{Evicts, Merges, NetworkEvent, NetworkStands, Takes, all_given, merged_after}
use Rattle.network.proofs.{EventLists.{first_theirs, taken_on}, MakeSteps.all_merged, Representing.given_on}

-- ---- what a groupby is given of the events

module _ (plan : PlanParts) (n : ℕ) where
  packets_more : (at : ℕ) (t : Option Taken) (more : List SwitchEvent)
      → packets_among (from_switch at (event_of t) ++ more) ≡ from_switch at (event_of t) ++ packets_among more
  packets_more at None _ = refl
  packets_more at (Some t) _ = refl

  unmerged_more : (at : ℕ) (t : Option Taken) (more : List SwitchEvent)
      → without_switch_merges (from_switch at (event_of t) ++ more) ≡ from_switch at (event_of t) ++ without_switch_merges more
  unmerged_more at None _ = refl
  unmerged_more at (Some t) _ = refl

  no_packet_more : (event : Event) (at lane : ℕ) (more : List SwitchEvent)
      → packets_among (record { switch = at; event = event } ∷ more) ≡ packets_among more
      → packets_among (from_switch at (event_at lane event n) ++ more) ≡ packets_among more
  no_packet_more _ at lane _ none = by_test (n == lane) (λ t. rw t none) (λ t. rw t)

  merged_more : (at lane : ℕ) (more : List SwitchEvent) → without_switch_merges (from_switch at (event_at lane Merge n) ++ more)
      ≡ without_switch_merges
      more
  merged_more at lane _ = by_test (n == lane) (λ t. rw t) (λ t. rw t)

  pub has_packets : (number : ℕ → ℕ) (events : List NetworkEvent) → AreAtTheirSwitches number events
      → HasPackets (net_steps number (taken plan n) (packets_taken events)) (all_given plan n events)
  has_packets _ [] at = refl
  has_packets number (Takes switch words ∷ events) at =
      let t = taken plan n words in
      rw (packets_more switch t (all_given plan n events), has_packets number events at.1, at.0)
  has_packets number (Evicts switch lane bucket ∷ events) at = no_packet_more (Evict bucket) switch lane (all_given plan n events) refl
      ∙ has_packets number events at
  has_packets number (Merges switch lane ∷ events) at = no_packet_more Merge switch lane (all_given plan n events) refl
      ∙ has_packets number events at

  first_given : (number : ℕ → ℕ) (events : List NetworkEvent) → NoEviction events → AreAtTheirSwitches number events
      → without_switch_merges (all_given plan n events) ≡ given (net_steps number (taken plan n) (packets_taken events))
  first_given _ [] _ at = refl
  first_given number (Takes switch words ∷ events) none at =
      let t = taken plan n words in
      rw (unmerged_more switch t (all_given plan n events), first_given number events none at.1, at.0)
  first_given _ (Evicts _ _ _ ∷ _) none at = absurd none
  first_given number (Merges switch lane ∷ events) none at = merged_more switch lane (all_given plan n events)
      ∙ first_given number events none at

  rest_given : (events : List NetworkEvent) → packets_taken events ≡ [] → NoPacket (all_events (all_given plan n events))
  rest_given [] _ = tt
  rest_given (Takes switch words ∷ events) none = cc
  rest_given (Evicts _ lane _ ∷ events) none = by_test (n == lane) (λ t. rw t (rest_given events none))
      (λ t. rw t (rest_given events none))
  rest_given (Merges _ lane ∷ events) none = by_test (n == lane) (λ t. rw t (rest_given events none))
      (λ t. rw t (rest_given events none))

is_run : (plan : PlanParts) (n : ℕ) (number : ℕ → ℕ) (events : List NetworkEvent) → EvictsLast events → AreAtTheirSwitches number events
    → IsRun (net_steps number (taken plan n) (packets_taken events)) (all_given plan n events)
is_run plan n number events last at =
    let all =
    ap packets_taken last.parts ∙ (taken_on last.first last.rest ∙ (ap (λ ps. packets_taken last.first ++ ps) last.after
    ∙ append-nil (packets_taken last.first))) in
    record {
      first = all_given plan n last.first;
      rest = all_given plan n last.rest;
      parts = rw (last.parts, given_on plan n last.first last.rest);
      packets =
          rw (
            first_given plan n number last.first last.before (first_theirs number last.first last.rest
                (subst (AreAtTheirSwitches number) last.parts at)),
            all,
          );
      ending = rest_given plan n last.rest last.after;
    }

-- ---- the tables from one groupby on, of the epochs that the stores hold

record TablesFrom (q : TypedQuery) (packets : List (List ℕ)) (pieces : ℕ → Key → List (List ArgRow)) (i : ℕ) (parts : List GroupPlan)
    (groups : List GroupView) : Type 0 where
  epochs : List (List Epoch)
  hold : EachFrom (λ n group. StoreHolds (folding_in group) group.store) i groups epochs
  same : shared_tables parts groups epochs ≡ net_tables_from q packets pieces i (map group_shape parts)

module _ (law : AlikeFoldingsMakeOneTable) (make : MergedMakeTheTable) (ways : ℕ) (net : NetworkView) (q : TypedQuery) (number : ℕ → ℕ)
    (events : List NetworkEvent) (is : IsNetwork ways net)
    (over : CombineOver q net.plan number events) (stands : NetworkStands ways net events)
    (drained : list_all group_is_drained net.groups ≡ true) where
  abbrev packets : List (List ℕ)
  packets = packets_taken events

  abbrev pieces : ℕ → Key → List (List ArgRow)
  pieces = pieces_closed number ways net events

  room : HasRoom (caches_of net.buckets ways)
  room = (is.sizes.some_buckets, is.sizes.some_ways)

  abbrev merged : ℕ → List SwitchEpoch
  merged i = merged_after ways net.buckets [] (all_given net.plan i events)

  pub is_merged : (i : ℕ) (group : GroupView) → slice_get net.groups i ≡ Some group
      → AllMerged (caches_of net.buckets ways) (all_given net.plan i events) (merged i)
  is_merged i group here =
      all_merged ways group (all_at group_is_drained net.groups i group drained here) net.buckets (all_given net.plan i events) (merged i)
      (stands i group here)

  one_table : (i : ℕ) (part : GroupPlan) (group : GroupView) (f : TypedFold) → slice_get net.groups i ≡ Some group
      → IsGroup net.switches part (wiring_at net.plan i) group
      → slice_get net.plan.groups i ≡ Some part → fold_at q i ≡ Some f
      → closed_table (heading_of part) (folding_in group) (all_epochs (merged i)) ≡ net_table q packets (pieces i) i (group_shape part) f
  one_table i part group f here own at has =
      let kind = own.kind f (over.planned.programs i f part has at) in
      let alike : AreAlike (folding_in group) (folding_of f) = record {
        row_per_epoch = kind.row_per_epoch;
        states =
            λ rows. kind.folded rows;
      } in
      rw (
        law.by_closed (heading_of part) (folding_in group) (folding_of f) (all_epochs (merged i)) alike,
        make q net.plan net.buckets ways
            packets number over.valid over.combine over.tells over.planned room over.whole over.numbered i (group_shape part) f
            (all_given net.plan i events) (merged i) (got_below net.plan.groups i part at) has
            (has_packets net.plan i number events over.switches) (is_merged i group here),
      )

  tables_from : (i : ℕ) (parts : List GroupPlan) (groups : List GroupView) → drop i net.plan.groups ≡ parts
      → EachFrom (λ n group part. IsGroup net.switches part (wiring_at net.plan n) group) i groups parts
      → ((j n : ℕ) (group : GroupView) → n ≡ i + j → slice_get groups j ≡ Some group → slice_get net.groups n ≡ Some group)
      → TablesFrom q packets pieces i parts groups
  tables_from i [] [] e _ _ = record { epochs = []; hold = tt; same = refl }
  tables_from i [] (_ ∷ _) e are _ = absurd are
  tables_from i (_ ∷ _) [] e are _ = absurd are
  tables_from i (part ∷ parts) (group ∷ groups) e are there =
      let at = first_at net.plan.groups i part parts e in
      let within = got_below net.plan.groups i part at.0 in
      let f = fold_there q i over.valid (subst (λ n. i < n) over.planned.groups within) in
      let here = there 0 i group (omega arith) refl in
      let one = one_table i part group f.0 here are.0 at.0 f.1 in
      let more = tables_from (suc i) parts groups at.1 are.1 (λ j n x s g. there (suc j) n x (omega arith) g) in
      let has : net_table_if q packets (pieces i) i (group_shape part) (fold_at q i) ≡ net_table q packets (pieces i) i (group_shape part)
      f.0 ∷ [] =
      ap (net_table_if q packets (pieces i) i (group_shape part)) f.1 in
      record {
        epochs = all_epochs (merged i) ∷ more.epochs;
        hold = ((stands i group here).store, more.hold);
        same =
            ap (λ t. t ∷ shared_tables parts groups more.epochs) one
            ∙ (ap (λ ts. net_table q packets (pieces i) i (group_shape part) f.0 ∷ ts) more.same
            ∙ ap (λ ts. ts ++ net_tables_from q packets pieces (suc i) (map group_shape parts)) (sym has));
      }

  pub tables_closed : (tables : List Table) → ((epochs : List (List Epoch)) → StoresHold net.groups epochs
      → tables ≡ shared_tables net.plan.groups net.groups epochs)
      → tables ≡ tables_of_pieces q packets pieces
  unfolding tables_of_pieces
  tables_closed tables closed =
      let from = tables_from 0 net.plan.groups net.groups refl is.groups
      (λ j n x s e. (let same : n ≡ j = omega arith in ap (slice_get net.groups) same ∙ e)) in
      closed from.epochs from.hold ∙ (from.same ∙ ap (net_tables_from q packets pieces 0) (ap (λ shape. shape.groups) over.planned.shape))

  pub tables_defined : PiecesAreTheEpochs → EvictsLast events → (tables : List Table) → tables ≡ tables_of_pieces q packets pieces
      → tables ≡ net_tables q (caches_of net.buckets ways) packets
  tables_defined epochs last _ same =
      rw (
        same,
        pieces_same q packets net.plan pieces (net_pieces q (caches_of net.buckets ways) packets) over.planned
            (λ i key less. let group = got_some net.groups i (subst (λ n. i < n) (sym (each_long _ 0 net.groups net.plan.groups is.groups))
            less) in epochs q net.plan net.buckets ways packets number over.planned room over.whole over.numbered i
            (all_given net.plan i events) (merged i) key less (is_run net.plan i number events last over.switches)
            (is_merged i group.0 group.1)),
      )
