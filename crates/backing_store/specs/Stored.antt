-- A key with what is kept for it.
use Rattle.std.specs.Prelude.{ℕ, List}
use Rattle.backing_store.specs.{Store.StoredKey, declared.store.Merged.Merged}

abbrev pub stored : List ℕ × Merged → StoredKey
stored e = record { key = e.0; epochs = e.1.epochs }
