-- The packets of the generator have the words of all fields.
use Rattle.std.proofs.{Common.{◌≡◌, ℕ, List, [], ◌∷◌, length, refl, sym, subst}, lemmas.List.map-append}
use Rattle.std.proofs.lemmas.List.Elements.{All-append, All-nil, All-cons}
use Rattle.marple_base.specs.declared.field.{Packet.Packet, TheConstants.FIELDS}
use Rattle.queue_sim.specs.Generator.{Arrival, arrivals, generated_packet, packets_from, simulated}
use Rattle.stage_plan.specs.Packets.{AreWhole}
use Rattle.trace_drive.specs.Drives.{words_of}

abbrev IsWhole : List ℕ → Type 0
IsWhole words = length words ≡ FIELDS

from_whole : (coming : List Arrival) → AreWhole (words_of (packets_from coming))
from_whole [] = All-nil IsWhole
from_whole (arrival ∷ earlier) =
    let last = generated_packet (length (arrival ∷ earlier)) arrival in
    subst AreWhole (sym (map-append (λ (packet : Packet). packet.words) (packets_from earlier) (last ∷ [])))
    (All-append IsWhole (words_of (packets_from earlier)) (last.words ∷ []) (from_whole earlier)
    (All-cons IsWhole last.words [] refl (All-nil IsWhole)))

pub simulated_whole : (packets start capacity : ℕ) → AreWhole (words_of (simulated packets start capacity))
simulated_whole packets start capacity = from_whole (arrivals start capacity packets)
