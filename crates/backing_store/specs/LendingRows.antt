-- What a lent row of a store leaves.
use Rattle.std.specs.{Prelude.{ℕ, List}, Borrow.{Array, Fml, Lends, MutBor, u64}}
use Rattle.backing_store.specs.{Store.Store, StoreLending.with_words_at, contracts.store.BackingStore.the_row}

abbrev pub LendsRow : MutBor Store → ℕ → MutBor (List ℕ) → Fml
LendsRow store at words = Lends the_row (Array u64 0) store words (λ w. record store.now { rows = with_words_at store.now.rows at w })
