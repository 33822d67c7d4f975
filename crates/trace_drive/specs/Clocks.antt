-- A clock that counts packets.
use Rattle.std.specs.Prelude.{◌≡◌, ◌<◌, ◌%◌, ℕ}
use Rattle.trace_drive.specs.declared.clock.Clock.{Clock}

-- the clock has counted this many packets: it knows how many came since it was last due. One that is never due keeps no count, so this
-- holds of it for every number
abbrev pub HasCounted : ℕ → Clock → Type 0
HasCounted number clock = 0 < clock.every → clock.since ≡ number % clock.every
