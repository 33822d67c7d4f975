-- Each packet of the piece is added to its part, and its end or its fault is that of the piece.
use Rattle.std.proofs.Common.{◌≡◌, ◌++◌, ◌∷◌, ◌∙◌, [], Err, Ok, Some, ap, append-nil, append_assoc, arith, length, subst, sym}
use Rattle.trace_reader.specs.{Traces.{packets, trace_fault}, Upcoming.IsAtFault, declared.fault.TraceFault.TraceFault}
use Rattle.trace_split.specs.{PartTexts.HoldsPackets, Pieces.IfPieceRefused}
use Rattle.trace_split.proofs.RestFacts.{no_output_fault, piece_refusal, rose_from, unwritten_is_no_refusal, written_failed}
use Rattle.trace_split.proofs.SendFacts.{Adds, so_far_all, so_far_broke, so_far_fronts, so_far_more, so_far_none}
use Rattle.trace_split.proofs.SettingFacts.{fronts_of, same_refl, same_trans, setting_same}
use Rattle.trace_split.proofs.piece.split_piece.Goals as goal

-- ---- the piece wasn't opened

pub returns-in-Err-clause-same : goal.returns-in-Err-clause-same
returns-in-Err-clause-same g c = same_refl c.args.texts.now

pub returns-in-Err-clause-refused : goal.returns-in-Err-clause-refused
returns-in-Err-clause-refused g c =
    let is : TraceFault → Type 0 = λ found. trace_fault c.args.piece.now c.args.reads ≡ Some found in
    subst (λ e. IfPieceRefused e is) (sym c.error_of.ensures) (piece_refusal c.in-Err.answer is is (λ _ holds. holds)
    c.in-Err.ensures.refused)

pub returns-in-Err-clause-fronts : goal.returns-in-Err-clause-fronts
returns-in-Err-clause-fronts g c first before holds =
    let texts = c.args.texts.now in
    fronts_of texts texts first (g.P.Parts.taken c.args.parts.now) before (packets c.args.piece.now c.args.reads) (same_refl texts)
    c.requires holds

pub returns-in-Err-clause-failed : goal.returns-in-Err-clause-failed
returns-in-Err-clause-failed g c failed = absurd (no_output_fault c.in-Err.answer (cc (c.error_of.ensures, failed)))

-- ---- packet by packet

pub packets-init : goal.packets-init
packets-init g c =
    let texts = c.args.texts.now in
    let now = g.P.Parts.taken c.args.parts.now in
    record {
      setting = c.requires;
      same = same_refl texts;
      so_far = so_far_none c.args.piece.now c.args.reads c.in-Ok.trace (Adds now texts now texts) c.in-Ok.ensures.opened
          (λ first before holds. subst (HoldsPackets first now texts) (sym (append-nil before)) holds);
      later = omega arith;
      steps = omega arith;
    }

pub add-requires : goal.add-requires
add-requires g c = c.packets.invariant.setting

pub packets-preserved : goal.packets-preserved
packets-preserved g c =
    let taken = g.P.Parts.taken in
    let start = c.args.texts.now in
    let texts = c.packets.texts in
    let new = c.add.new.self in
    let first_taken = taken c.args.parts.now in
    let now = taken c.packets.parts in
    let then = taken c.add.new.parts in
    let packet = c.next_into.new.packet in
    let before_it = c.packets.invariant in
    let added = c.in-Ok-add.ensures in
    record {
      setting = setting_same texts new added.same before_it.setting;
      same = same_trans start texts new before_it.same added.same;
      so_far = so_far_more c.args.piece.now c.args.reads c.packets.trace c.next_into.new.self c.packets.count packet
          (Adds first_taken start now texts) (Adds first_taken start then new) before_it.so_far
          (c.in-Ok-true.ensures.packet (ap Ok c.in-Ok-true.field-0-test))
          (λ given holds first before held. subst (HoldsPackets first then new) (append_assoc before given (packet ∷ []))
          (added.ok first (before ++ given) (holds first before held)));
      later = omega (arith, before_it.later, added.later);
      steps = omega (arith, before_it.steps, added.steps);
    }

-- ---- a packet wasn't added

pub returns-in-Err-add-clause-same : goal.returns-in-Err-add-clause-same
returns-in-Err-add-clause-same g c =
    same_trans c.args.texts.now c.packets.texts c.add.new.self c.packets.invariant.same c.in-Err-add.ensures.same

pub returns-in-Err-add-clause-refused : goal.returns-in-Err-add-clause-refused
returns-in-Err-add-clause-refused g c =
    let is : TraceFault → Type 0 = λ found. trace_fault c.args.piece.now c.args.reads ≡ Some found in
    subst (λ e. IfPieceRefused e is) (sym c.unwritten.ensures) (unwritten_is_no_refusal c.in-Err-add.error is)

pub returns-in-Err-add-clause-fronts : goal.returns-in-Err-add-clause-fronts
returns-in-Err-add-clause-fronts g c first before holds =
    let taken = g.P.Parts.taken in
    let now = c.packets.invariant in
    so_far_broke c.args.piece.now c.args.reads c.packets.trace c.packets.count c.args.texts.now c.packets.texts (taken c.args.parts.now)
    (taken c.packets.parts)
    now.so_far now.same first before (taken c.add.new.parts)
    (c.in-Err-add.ensures.err first (before ++ now.so_far.given) (now.so_far.holds first before holds))

pub returns-in-Err-add-clause-failed : goal.returns-in-Err-add-clause-failed
returns-in-Err-add-clause-failed g c failed =
    let faults = g.P.Parts.faults in
    rose_from (faults c.args.parts.now) (faults c.packets.parts) (faults c.add.new.parts) c.packets.invariant.later
    (c.in-Err-add.ensures.failed (ap Err (written_failed c.in-Err-add.error (cc (c.unwritten.ensures, failed)))))

-- ---- the end

pub returns-in-Ok-false-clause-whole : goal.returns-in-Ok-false-clause-whole
returns-in-Ok-false-clause-whole g c =
    let end = c.in-Ok-false.ensures.end (ap Ok c.in-Ok-false.field-0-test) in
    sym c.packets.invariant.so_far.fault ∙ end.0.fault

pub returns-in-Ok-false-clause-count : goal.returns-in-Ok-false-clause-count
returns-in-Ok-false-clause-count g c =
    let taken = g.P.Parts.taken in
    let end = c.in-Ok-false.ensures.end (ap Ok c.in-Ok-false.field-0-test) in
    let now = c.packets.invariant.so_far in
    let all = so_far_all c.args.piece.now c.args.reads c.packets.trace c.packets.count
    (Adds (taken c.args.parts.now) c.args.texts.now (taken c.packets.parts) c.packets.texts) now end.0.packets in
    sym (ap length all ∙ now.size)

pub returns-in-Ok-false-clause-sent : goal.returns-in-Ok-false-clause-sent
returns-in-Ok-false-clause-sent g c first before holds =
    let taken = g.P.Parts.taken in
    let end = c.in-Ok-false.ensures.end (ap Ok c.in-Ok-false.field-0-test) in
    let now = c.packets.invariant.so_far in
    let all = so_far_all c.args.piece.now c.args.reads c.packets.trace c.packets.count
    (Adds (taken c.args.parts.now) c.args.texts.now (taken c.packets.parts) c.packets.texts) now end.0.packets in
    subst (λ ps. HoldsPackets first (taken c.packets.parts) c.packets.texts (before ++ ps)) (sym all) (now.holds first before holds)

-- ---- a fault

pub returns-in-Err-next_into-clause-refused : goal.returns-in-Err-next_into-clause-refused
returns-in-Err-next_into-clause-refused g c =
    let is : TraceFault → Type 0 = λ found. trace_fault c.args.piece.now c.args.reads ≡ Some found in
    let now = c.packets.invariant.so_far in
    subst (λ e. IfPieceRefused e is) (sym c.error_of-in-Err-next_into.ensures)
    (piece_refusal c.in-Err-next_into.answer (λ found. IsAtFault c.packets.trace found × IsAtFault c.next_into.new.self found) is
    (λ found both. sym now.fault ∙ both.0.fault) c.in-Err-next_into.ensures.refused)

pub returns-in-Err-next_into-clause-fronts : goal.returns-in-Err-next_into-clause-fronts
returns-in-Err-next_into-clause-fronts g c first before holds =
    let taken = g.P.Parts.taken in
    let now = c.packets.invariant in
    so_far_fronts c.args.piece.now c.args.reads c.packets.trace c.packets.count c.args.texts.now c.packets.texts (taken c.args.parts.now)
    (taken c.packets.parts)
    now.so_far now.same first before now.setting holds

pub returns-in-Err-next_into-clause-failed : goal.returns-in-Err-next_into-clause-failed
returns-in-Err-next_into-clause-failed g c failed =
    absurd (no_output_fault c.in-Err-next_into.answer (cc (c.error_of-in-Err-next_into.ensures, failed)))

pub returns-clause-fronts : goal.returns-clause-fronts
returns-clause-fronts g c first before holds =
    let taken = g.P.Parts.taken in
    let now = c.packets.invariant in
    so_far_fronts c.args.piece.now c.args.reads c.packets.trace c.packets.count c.args.texts.now c.packets.texts (taken c.args.parts.now)
    (taken c.packets.parts)
    now.so_far now.same first before now.setting holds
