-- The parts of pieces.
use Rattle.std.{proofs.Common.{◌≡◌, ℕ, List, [], ◌∷◌, ◌++◌, refl, ap, ◌∙◌}, specs.Prelude.flat_map}
use Rattle.marple_base.specs.declared.field.Packet.{Packet}
use Rattle.part_texts.{specs.Texts.packets_of_part, proofs.TextFacts.packets_append}
use Rattle.split_fields.specs.SplitLaws.{SplitsAreOfPackets}

pub splits_are_of_packets_lem : SplitsAreOfPackets
splits_are_of_packets_lem partition n [] = refl
splits_are_of_packets_lem partition n (piece ∷ pieces) =
    packets_append partition n piece (flat_map (λ (p : List Packet). p) pieces)
    ∙ ap (λ (rest : List Packet). packets_of_part partition n piece ++ rest) (splits_are_of_packets_lem partition n pieces)
