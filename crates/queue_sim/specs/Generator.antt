-- The packets of the generator: each is decided by its draws and by the packets before it.
use Rattle.std.specs.Prelude.{ℕ, suc, zero, ◌+◌, ◌-◌, ◌*◌, ◌/◌, ◌%◌, ◌^◌, ◌==◌, nat_lt, if◌then◌else◌, List, [], ◌∷◌, ◌++◌, filter, length}
use Rattle.std.specs.Prelude.{max, Option, Some, None, unwrap_or}
use Rattle.marple_base.specs.declared.field.Packet.{Packet}

-- the state of the draws after n of them
abbrev pub next_state : ℕ → ℕ
next_state x = (x * 1103515245 + 12345) % 2 ^ 31

unfoldable pub state_after : ℕ → ℕ → ℕ
state_after start zero = start
state_after start (suc n) = next_state (state_after start n)

-- the nth draw, from 1
abbrev pub draw : ℕ → ℕ → ℕ
draw start n = state_after start n / 2 ^ 16

-- what four consecutive draws say of a packet
pub record Drawn : Type 0 where
  pub gap : ℕ  -- the time since the packet before it
  pub flow : ℕ  -- its flow, of 64
  pub payload : ℕ  -- the bytes that it carries
  pub skipped : ℕ  -- how many numbers of its flow it leaves out

-- what is drawn after that many draws
abbrev pub drawn_after : ℕ → ℕ → Drawn
drawn_after start draws = record {
  gap = draw start (draws + 1) % 50;
  flow = draw start (draws + 2) % 64;
  payload = draw start (draws + 3) % 1461;
  skipped = if draw start (draws + 4) % 16 == 0 then 1 else 0;
}

-- a packet as it comes to its switch
pub record Arrival : Type 0 where
  pub time : ℕ
  pub flow : ℕ
  pub payload : ℕ
  pub seq : ℕ  -- the number of its first byte in its flow
  pub qsize : ℕ  -- how many packets it finds in the queue
  pub tout : Option ℕ  -- when it leaves the queue; none where it is dropped

-- the switch of a flow, from 0
abbrev pub switch_of : ℕ → ℕ
switch_of flow = flow % 4

-- the length of a packet with this payload
abbrev pub packet_length : ℕ → ℕ
packet_length payload = payload + 40

-- the time of the last of the packets, which are listed with the last one first
abbrev pub last_time : List Arrival → ℕ
last_time [] = 0
last_time (arrival ∷ earlier) = arrival.time

-- the number at which a flow goes on: after the last byte of its last packet
abbrev pub next_number : ℕ → List Arrival → ℕ
next_number flow [] = 0
next_number flow (arrival ∷ earlier) = if arrival.flow == flow then arrival.seq + arrival.payload else next_number flow earlier

abbrev pub with_some : Option ℕ → List ℕ → List ℕ
with_some None xs = xs
with_some (Some x) xs = x ∷ xs

-- when the accepted packets of a switch leave, the last one first
abbrev pub touts_at : ℕ → List Arrival → List ℕ
touts_at switch [] = []
touts_at switch (arrival ∷ earlier) = if switch_of arrival.flow == switch then with_some arrival.tout
    (touts_at switch earlier) else touts_at switch earlier

-- the first number, or 0
abbrev pub first_or_0 : List ℕ → ℕ
first_or_0 [] = 0
first_or_0 (x ∷ xs) = x

-- how many leave later than this
abbrev pub still_there : ℕ → List ℕ → ℕ
still_there time touts = length (filter (nat_lt time) touts)

-- when a packet leaves that is accepted at this time: its length is sent after what was accepted before it
abbrev pub leaves : ℕ → ℕ → List ℕ → ℕ
leaves time payload touts = max time (first_or_0 touts) + packet_length payload / 8

-- the next packet, by its draws, the capacity of a queue, and the packets before it
abbrev pub arrival_by : Drawn → ℕ → List Arrival → Arrival
arrival_by drawn capacity earlier =
    let time = last_time earlier + drawn.gap in
    let touts = touts_at (switch_of drawn.flow) earlier in
    let qsize = still_there time touts in
    record {
      time = time;
      flow = drawn.flow;
      payload = drawn.payload;
      seq = next_number drawn.flow earlier + drawn.skipped;
      qsize = qsize;
      tout = if nat_lt qsize capacity then Some (leaves time drawn.payload touts) else None;
    }

-- the first n packets, the last one first
unfoldable pub arrivals : ℕ → ℕ → ℕ → List Arrival
arrivals start capacity zero = []
arrivals start capacity (suc n) = arrival_by (drawn_after start (4 * n)) capacity (arrivals start capacity n) ∷ arrivals start capacity n

-- the words of a packet, which is the nth
abbrev pub generated_packet : ℕ → Arrival → Packet
generated_packet n a = record {
  words =
      (1 + switch_of a.flow) ∷ 0 ∷ n
      ∷ (167772160 + a.flow) ∷ (167837696 + a.flow % 8) ∷ (1024 + a.flow) ∷ 80 ∷ 6
      ∷ packet_length a.payload ∷ a.payload ∷ a.seq
      ∷ a.time ∷ unwrap_or a.tout (2 ^ 64 - 1) ∷ a.qsize ∷ [];
}

-- these packets in the order in which they come, numbered up to n
abbrev pub packets_from : List Arrival → List Packet
packets_from [] = []
packets_from (arrival ∷ earlier) = packets_from earlier ++ generated_packet (length (arrival ∷ earlier)) arrival ∷ []

-- The first n packets of the generator.
abbrev pub simulated : ℕ → ℕ → ℕ → List Packet
simulated n start capacity = packets_from (arrivals start capacity n)
