-- Where a trace is between two records that come after its header.
use Rattle.std.specs.Prelude.{ℕ, ◌==◌, ◌&&◌, Bool, true, false, not, List, fold, if◌then◌else◌}
use Rattle.csv.specs.{Machine.ends_at_end, declared.parser.State.State}
use Rattle.csv.specs.declared.parser.State.TheVariants as st
use Rattle.trace_pieces.specs.{Machine.{next_state, state_of}, declared.scan.Place.Place}
use Rattle.trace_pieces.specs.declared.scan.Place.TheVariants as place
use Rattle.trace_ranges.specs.declared.spot.Spot.{Spot}
use Rattle.trace_ranges.specs.declared.spot.Spot.TheVariants as spot

-- the place of a state of the reader of CSV, which has no comments and no escapes
abbrev pub place_of : State → Place
place_of st.StartRecord = place.Between
place_of st.AfterCr = place.AfterReturn
place_of st.StartField = place.FieldStart
place_of st.InField = place.InField
place_of st.InQuoted = place.InQuotes
place_of st.AfterQuote = place.AfterQuote
place_of st.InEscape = place.Between
place_of st.InComment = place.Between

abbrev pub place_after : Place → ℕ → Place
place_after at byte = place_of (next_state (state_of at) byte)

-- the place after these bytes
abbrev pub place_over : Place → List ℕ → Place
place_over at bytes = fold place_after at bytes

abbrev pub is_between : Place → Bool
is_between at = not (ends_at_end (state_of at))

-- a quote may go on
abbrev pub is_quoted : Place → Bool
is_quoted place.InQuotes = true
is_quoted place.AfterQuote = true
is_quoted at = false

-- the spot after a byte that is no part of a byte order mark: the byte that leads out of the first record ends the header
abbrev pub in_header : Place → ℕ → Spot
in_header at byte =
    if is_between (place_after at byte) && not (is_between at)
    then spot.Records (place_after at byte) else spot.Header (place_after at byte)

-- the spot after this byte
abbrev pub spot_after : Spot → ℕ → Spot
spot_after spot.Start byte = if byte == 239 then spot.MarkBegun else in_header place.Between byte
spot_after spot.MarkBegun byte = if byte == 187 then spot.MarkGoesOn else in_header place.InField byte
spot_after spot.MarkGoesOn byte = if byte == 191 then spot.Header place.Between else in_header place.InField byte
spot_after (spot.Header at) byte = in_header at byte
spot_after (spot.Records at) byte = spot.Records (place_after at byte)

-- between two records, or after the header
abbrev pub is_cut : Spot → Bool
is_cut (spot.Records at) = is_between at
is_cut at = false
