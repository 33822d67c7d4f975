-- A switch's merged epochs are those of its own packets.
use Rattle.std.{proofs.Common.{◌≡◌, ℕ, List, [], ◌++◌, Option, refl, ap, ◌∙◌}, specs.Prelude.slice_index_or}
use Rattle.epoch_model.specs.{Keys.{Key, bucket_of}, Epochs.{Geometry, epochs}, Driving.Taken}
use Rattle.epoch_model.specs.Machine.{Machine, Event, run, empty_machine, lists_of, open_in, row_lists}
use Rattle.epoch_model.{specs.Laws.{HasRoom, SameEpochs, unmerged}, proofs.{Merges.merges_decide_nothing_lem, TableRows.closed-lists}}
use Rattle.epoch_model.proofs.Turns.{row_lists_are_epochs_lem}
use Rattle.epoch_model.specs.Timeline as timeline
use Rattle.additive_laws.specs.Network.{SwitchEvent, SwitchEpoch, events_at, epochs_at, machine_at, AllMerged}
use Rattle.additive_laws.{specs.{Traces.{Step, IsRun, own_uses, taken_of, unrefreshed}, TraceLaws.OwnEpochs}, proofs.Runs.events_append}
use Rattle.additive_laws.proofs.Runs.{no_packet_at, unmerged_at, unmerged_append, unmerged_none, turns, given_events, are_turns, turn_uses}

-- machines with the same epochs have the same row lists
same_lists : (g : Geometry) {m n : Machine} (key : Key) → SameEpochs m n → row_lists g m key ≡ row_lists g n key
unfolding row_lists
same_lists g {m} {n} key e = ap (λ c. lists_of key c ++ lists_of key (open_in m (bucket_of g.buckets key))) e.closed
    ∙ ap (λ r. lists_of key n.closed ++ lists_of key (slice_index_or r (bucket_of g.buckets key) [])) e.recent

module _ (buckets ways : ℕ) (steps : List Step) (events : List SwitchEvent) (s : ℕ) (r : IsRun steps events) where
  abbrev g : Geometry
  g = unrefreshed buckets ways

  abbrev front : List Event
  front = events_at s r.first

  abbrev back : List Event
  back = events_at s r.rest

  abbrev taken : List (Option Taken)
  taken = taken_of s steps

  turned : unmerged front ≡ timeline.all_events (turns taken)
  turned = unmerged_at s r.first ∙ (ap (events_at s) r.packets ∙ given_events s steps)

  own_lists : {merged : List SwitchEpoch} (key : Key) → HasRoom g → AllMerged g events merged
      → lists_of key (epochs_at s merged) ≡ epochs g (own_uses s steps) key
  own_lists key room all = ap (lists_of key) (all.epochs s) ∙ (closed-lists g (machine_at g s events) key (all.swept s)
      ∙ (ap (λ es. row_lists g (run g es (empty_machine g)) key) (ap (events_at s) r.parts ∙ events_append s r.first r.rest)
      ∙ (same_lists g key
      (merges_decide_nothing_lem g (front ++ back) (empty_machine g) (empty_machine g) (record { recent = refl; closed = refl }))
      ∙ (ap (λ es. row_lists g (run g es (empty_machine g)) key) (unmerged_append front back ∙ ap (λ es. es ++ unmerged back) turned)
      ∙ (row_lists_are_epochs_lem g (turns taken) (unmerged back) key room (are_turns buckets ways 1 (empty_machine g) taken)
      (unmerged_none back (no_packet_at s r.rest r.ending)) ∙ ap (λ us. epochs g us key) (turn_uses 1 taken))))))

pub own : OwnEpochs
own buckets ways steps events merged key s room r all = own_lists buckets ways steps events s r key room all
