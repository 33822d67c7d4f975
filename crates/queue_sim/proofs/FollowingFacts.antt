-- How the generator goes on from packet to packet.
use Rattle.std.proofs.Common.{◌≡◌, ℕ, suc, zero, ◌+◌, ◌*◌, ◌/◌, ◌<◌, ◌≤◌, List, [], ◌∷◌, ◌++◌, length, get_or, set, slice_get, replicate}
use Rattle.std.proofs.{Common.{Option, Some, None, refl, sym, ap, ◌∙◌, inl, inr, arith, add-one, max}, lemmas.Bool.Decides.eqb_tells}
use Rattle.std.{proofs.lemmas.{List.{get_or-set_other, get_or-set_same}, Option.same_Some}, specs.Prelude.{if◌then◌else◌, nat_lt}}
use Rattle.queue_sim.specs.{Draws.IsDrawn, Following.{AreEmpty, nth_packet}}
use Rattle.queue_sim.specs.Generator as Generator
use Rattle.queue_sim.specs.Generator.{Arrival, arrival_by, arrivals, drawn_after, first_or_0, last_time, next_number, simulated}
use Rattle.queue_sim.specs.{Generator.{still_there, switch_of, touts_at, with_some}, declared.draws.Drawn.Drawn, Queue.Holds}
use Rattle.queue_sim.specs.declared.queue.Queue.{Queue}

pub empty_push : (queues : List Queue) (queue : Queue) → AreEmpty queues → Holds queue [] 0 → AreEmpty (queues ++ queue ∷ [])
empty_push [] queue empty new = (new, tt)
empty_push (first ∷ queues) queue empty new = (empty.0, empty_push queues queue empty.1 new)

pub empty_at : (queues : List Queue) (at : ℕ) (queue : Queue) → AreEmpty queues → slice_get queues at ≡ Some queue → Holds queue [] 0
empty_at [] at queue empty here = cc here
empty_at (first ∷ queues) zero queue empty here = rw (← same_Some _ _ here) empty.0
empty_at (first ∷ queues) (suc at) queue empty here = empty_at queues at queue empty.1 here

pub no_number : (n flow : ℕ) → get_or (replicate {A = ℕ} n 0) flow 0 ≡ 0
no_number zero flow = refl
no_number (suc n) zero = refl
no_number (suc n) (suc flow) = no_number n flow

-- the numbers at which flows go on, after one more packet
pub flows_next : (flows : List ℕ) (earlier : List Arrival) (a : Arrival) (w : ℕ) → length flows ≡ 64 → a.flow < 64 → w ≡ a.seq + a.payload
    → ((flow : ℕ) → flow < 64 → get_or flows flow 0 ≡ next_number flow earlier)
    → (flow : ℕ) → flow < 64 → get_or (set flows a.flow w) flow 0 ≡ next_number flow (a ∷ earlier)
flows_next flows earlier a w size small is so_far flow within = elim (eqb_tells a.flow flow) [
  | inl same ↦ rw (same.0, same.1, get_or-set_same flows flow w 0 (omega arith)) is
  | inr differs ↦ rw (differs.0, get_or-set_other flows a.flow flow w 0 (λ e. differs.1 (sym e))) (so_far flow within)
]

set_here : {A : Type 0} (xs : List A) (k : ℕ) (x y : A) → slice_get (set xs k x) k ≡ Some y → x ≡ y
set_here [] k x y here = cc here
set_here (z ∷ xs) zero x y here = same_Some _ _ here
set_here (z ∷ xs) (suc k) x y here = set_here xs k x y here

set_there : {A : Type 0} (xs : List A) (k i : ℕ) (x : A) → (k ≡ i → ⊥) → slice_get (set xs k x) i ≡ slice_get xs i
set_there [] k i x differs = refl
set_there (z ∷ xs) zero zero x differs = absurd (differs refl)
set_there (z ∷ xs) zero (suc i) x differs = refl
set_there (z ∷ xs) (suc k) zero x differs = refl
set_there (z ∷ xs) (suc k) (suc i) x differs = set_there xs k i x (λ e. differs (ap suc e))

holds_later : (queue : Queue) (touts : List ℕ) (before now : ℕ) → before ≤ now → Holds queue touts before → Holds queue touts now
holds_later queue touts before now from holds =
    record { waiting = λ later after. holds.waiting later (omega (arith, from, after)); last = holds.last; climbs = holds.climbs }

-- the queues, after one more packet
pub queues_next : (queues : List Queue) (queue : Queue) (earlier : List Arrival) (a : Arrival) (before : ℕ) → before ≤ a.time
    → ((switch : ℕ) (q : Queue) → slice_get queues switch ≡ Some q → Holds q (touts_at switch earlier) before)
    → Holds queue (with_some a.tout (touts_at (switch_of a.flow) earlier)) a.time
    → (switch : ℕ) (q : Queue) → slice_get (set queues (switch_of a.flow) queue) switch ≡ Some q
    → Holds q (touts_at switch (a ∷ earlier)) a.time
queues_next queues queue earlier a before from so_far new switch q here = elim (eqb_tells (switch_of a.flow) switch) [
  | inl same ↦
      let at : slice_get (set queues (switch_of a.flow) queue) (switch_of a.flow) ≡ Some q = rw (← same.1) at here in
      rw (same.0, ← set_here queues (switch_of a.flow) queue q at) (rw same.1 at new)
  | inr differs ↦
      let at : slice_get queues switch ≡ Some q = sym (set_there queues (switch_of a.flow) switch queue differs.1) ∙ here in
      rw differs.0 (holds_later q (touts_at switch earlier) before a.time from (so_far switch q at))
]

-- a packet as the code has it is the one that the draws and the earlier packets say
pub arrived : (earlier : List Arrival) (capacity : ℕ) (d : Drawn) (meant : Generator.Drawn) (time seq qsize last : ℕ) (tout : Option ℕ)
    → IsDrawn d meant
    → time ≡ last_time earlier + d.gap → seq ≡ next_number d.flow earlier + d.skipped
    → qsize ≡ still_there time (touts_at (switch_of d.flow) earlier)
    → tout ≡ (if nat_lt qsize capacity then Some (max time last + (d.payload + 40) / 8) else None)
    → last ≡ first_or_0 (touts_at (switch_of d.flow) earlier)
    → record { time = time; flow = d.flow; payload = d.payload; seq = seq; qsize = qsize; tout = tout } ≡ arrival_by meant capacity earlier
arrived earlier capacity d meant time seq qsize last tout is at numbered waiting leaves after =
    rw (leaves, waiting, numbered, at, after, is.gap, is.flow, is.payload, is.skipped) refl

pub arrivals_more : (start capacity n : ℕ) → arrivals start capacity (n + 1) ≡ arrival_by (drawn_after start (4 * n)) capacity
    (arrivals start capacity n) ∷ arrivals start capacity n
unfolding arrivals
arrivals_more start capacity n = rw (add-one n) refl

length-arrivals : (start capacity n : ℕ) → length (arrivals start capacity n) ≡ n
unfolding arrivals
length-arrivals start capacity zero = refl
length-arrivals start capacity (suc n) = ap suc (length-arrivals start capacity n)

pub simulated_more : (start capacity n : ℕ) → simulated (n + 1) start capacity ≡ simulated n start capacity ++ nth_packet start capacity n
    ∷ []
simulated_more start capacity n = rw (arrivals_more start capacity n, length-arrivals start capacity n) refl

pub simulated_none : (start capacity : ℕ) → simulated 0 start capacity ≡ []
unfolding arrivals
simulated_none start capacity = refl
