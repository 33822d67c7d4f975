-- Pieces that are cut after ends of lines.
use Rattle.std.proofs.Common.{◌≡◌, ℕ, ◌+◌, List, [], ◌∷◌, ◌++◌, None, length, refl, sym, ap, ◌∙◌, subst, append_assoc, arith}
use Rattle.std.proofs.lemmas.List.{take_all, Elements.{All-head, All-tail}}
use Rattle.trace_pieces.{proofs.{ContentFacts.{after_after, after_none, piece_sent}, CutFacts.cut_after}, specs.Machine.EndsBetween}
use Rattle.trace_pieces.specs.Wholes.{all_contents, all_packets, first_fault}
use Rattle.split_laws.specs.Lines.{AreLines, LinesMayBeCut, after_packets, joined_text, packets_of_pieces}

-- such lines end between two records
ends_between : (text : List ℕ) → AreLines text → EndsBetween text
ends_between [] lines = refl
ends_between (byte ∷ rest) lines =
    let text : List ℕ = byte ∷ rest in
    let last : ℕ = length rest in
    let cut = cut_after (byte ∷ rest) (length rest) lines.plain (omega arith) (lines.ended (length rest) (omega arith)) in
    subst EndsBetween (take_all (length rest + 1) (byte ∷ rest) (omega arith)) cut.between

pub lines_may_be_cut_lem : LinesMayBeCut
lines_may_be_cut_lem header [] rest reads head lines none = sym (after_none (all_contents (header ++ rest) reads))
lines_may_be_cut_lem header (piece ∷ pieces) rest reads head lines none =
    let N : List ℕ → Type 0 = λ one. first_fault (header ++ one) reads ≡ None in
    ap (λ text. all_contents (header ++ text) reads) (append_assoc piece (joined_text pieces) rest)
    ∙ (piece_sent header piece (joined_text pieces ++ rest) reads head (ends_between piece (All-head AreLines piece pieces lines))
    (All-head N piece pieces none)
    ∙ (ap (after_packets (all_packets (header ++ piece) reads))
    (lines_may_be_cut_lem header pieces rest reads head (All-tail AreLines piece pieces lines) (All-tail N piece pieces none))
    ∙ after_after (all_packets (header ++ piece) reads) (packets_of_pieces header pieces reads) (all_contents (header ++ rest) reads)))
