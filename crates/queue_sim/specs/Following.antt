-- How the generator holds what its packets so far decide.
use Rattle.std.specs.{Prelude.{ℕ, suc, ◌≡◌, ◌*◌, ◌<◌, length, slice_get, List, [], ◌∷◌, ⊤, Some}, List.slice_index_or}
use Rattle.marple_base.specs.declared.field.Packet.{Packet}
use Rattle.queue_sim.specs.Generator.{arrival_by, arrivals, drawn_after, last_time, next_number, generated_packet, state_after, touts_at}
use Rattle.queue_sim.specs.{Queue.Holds, declared.{generator.Generator.Generator, queue.Queue.Queue}}

-- nothing has come to the queues
abbrev pub AreEmpty : List Queue → Type 0
AreEmpty [] = ⊤
AreEmpty (queue ∷ queues) = Holds queue [] 0 × AreEmpty queues

pub record Follows (g : Generator) : Type 0 where
  pub draws : g.draws.state ≡ state_after g.start (4 * g.number)
  pub time : g.time ≡ last_time (arrivals g.start g.capacity g.number)
  pub size : length g.flows ≡ 64
  pub switches : length g.queues.items ≡ 4
  pub flows : (flow : ℕ) → flow < 64 → slice_index_or g.flows flow 0 ≡ next_number flow (arrivals g.start g.capacity g.number)
  pub queues : (switch : ℕ) (queue : Queue) → slice_get g.queues.items switch ≡ Some queue
      → Holds queue (touts_at switch (arrivals g.start g.capacity g.number)) g.time

-- the packet after the first n
abbrev pub nth_packet : ℕ → ℕ → ℕ → Packet
nth_packet start capacity n = generated_packet (suc n) (arrival_by (drawn_after start (4 * n)) capacity (arrivals start capacity n))
