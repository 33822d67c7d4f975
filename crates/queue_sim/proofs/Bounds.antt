-- No number of the generator is large.
use Rattle.std.{proofs.Common.{ℕ, suc, zero, ◌+◌, ◌*◌, ◌%◌, ◌<◌, ◌≤◌, arith}, specs.Prelude.{◌==◌, nat_lt}}
use Rattle.queue_sim.specs.Generator.{arrivals, drawn_after, draw, first_or_0, last_time, next_number, switch_of, still_there, touts_at}
use Rattle.queue_sim.proofs.QueueFacts.{by_test}

-- what a packet draws
pub drawn_small : (start draws : ℕ) → ((drawn_after start draws).gap ≤ 49) × ((drawn_after start draws).flow < 64)
    × ((drawn_after start draws).payload ≤ 1460) × ((drawn_after start draws).skipped ≤ 1)
drawn_small start draws = (
  omega arith,
  omega arith,
  omega arith,
  by_test (draw start (draws + 4) % 16 == 0) (λ z. rw z (omega arith))
      (λ z. rw z (omega arith)),
)

pub time_small : (start capacity n : ℕ) → last_time (arrivals start capacity n) ≤ 49 * n
unfolding arrivals
time_small start capacity zero = omega arith
time_small start capacity (suc n) = omega (arith, time_small start capacity n, (drawn_small start (4 * n)).0)

pub number_small : (start capacity n flow : ℕ) → next_number flow (arrivals start capacity n) ≤ 1461 * n
unfolding arrivals
number_small start capacity zero flow = omega arith
number_small start capacity (suc n) flow =
    let drawn = drawn_after start (4 * n) in
    by_test (drawn.flow == flow)
    (λ same. rw same (omega (
      arith,
      number_small start capacity n drawn.flow,
      (drawn_small start (4 * n)).2,
      (drawn_small start (4 * n)).3,
    )))
    (λ other. rw other (omega (arith, number_small start capacity n flow)))

pub tout_small : (start capacity n switch : ℕ) → first_or_0 (touts_at switch (arrivals start capacity n)) ≤ 236 * n
unfolding arrivals
tout_small start capacity zero switch = omega arith
tout_small start capacity (suc n) switch =
    let drawn = drawn_after start (4 * n) in
    let earlier = arrivals start capacity n in
    let before = tout_small start capacity n switch in
    let touts = touts_at (switch_of drawn.flow) earlier in
    by_test (switch_of drawn.flow == switch)
    (λ here. by_test (nat_lt (still_there (last_time earlier + drawn.gap) touts) capacity)
    (λ sent. rw (here, sent) (omega (
      arith,
      tout_small start capacity n (switch_of drawn.flow),
      time_small start capacity n,
      (drawn_small start (4 * n)).0,
      (drawn_small start (4 * n)).2,
    )))
    (λ dropped. rw (here, dropped) (omega (arith, before))))
    (λ there. rw there (omega (arith, before)))
