-- What a lent row of states leaves.
use Rattle.std.specs.{Prelude.{ℕ, List}, Borrow.{Array, Fml, Lends, MutBor, u64}}
use Rattle.backing_store.specs.{States.StateList, StoreLending.with_words_at, contracts.states.States.the_row}

abbrev pub LendsState : MutBor StateList → ℕ → MutBor (List ℕ) → Fml
LendsState states at result = Lends the_row (Array u64 0) states result (λ w. record { width = states.now.width; rows = with_words_at states.now.rows at w })
