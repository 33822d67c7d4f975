-- A queue: when the packets leave that wait in it.
use Rattle.std.specs.Prelude.{ℕ, ◌≡◌, ◌≤◌, ⊤, List, [], ◌∷◌}
use Rattle.queue_sim.specs.{Generator.{first_or_0, still_there}, declared.queue.Queue.Queue}

-- the first of some numbers, or the last bound where there is none
abbrev pub next_of : List ℕ → ℕ → ℕ
next_of [] top = top
next_of (x ∷ xs) top = x

-- the numbers don't descend, and none is above `top`
abbrev pub Climbs : List ℕ → ℕ → Type 0
Climbs [] top = ⊤
Climbs (x ∷ xs) top = (x ≤ next_of xs top) × Climbs xs top

-- The queue has taken packets that leave at `touts`, the last one first, and still has those that leave after `now`.
pub record Holds (queue : Queue) (touts : List ℕ) (now : ℕ) : Type 0 where
  pub waiting : (later : ℕ) → now ≤ later → still_there later queue.waiting.items ≡ still_there later touts
  pub last : queue.last ≡ first_or_0 touts
  pub climbs : Climbs queue.waiting.items queue.last
