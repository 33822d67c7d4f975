-- What the groupbys of a typed query take from the packets.
use Rattle.std.specs.Prelude.{ℕ, List, [], map, slice_get, Option, Some, None}
use Rattle.epoch_model.specs.Epochs.{Use}
use Rattle.query_lang.specs.{declared.typed.TypedQuery.TypedQuery, Streams.{Tuple, Taking, stream, takings, values_at}}

-- one packet's use: its number, the key and the argument row
abbrev pub use_of : Taking → Tuple → Use
use_of t one = record { packet = one.packet; key = values_at one.row t.keys; row = values_at one.row t.args }

abbrev pub taken_by : TypedQuery → List (List ℕ) → Option Taking → List Use
taken_by q packets None = []
taken_by q packets (Some t) = map (use_of t) (stream q t.input packets)

-- The uses of the groupby with this number, counted from 0, in order, where each packet is the list of its fields' words.
abbrev pub uses : TypedQuery → ℕ → List (List ℕ) → List Use
uses q number packets = taken_by q packets (slice_get (takings q.streams) number)
