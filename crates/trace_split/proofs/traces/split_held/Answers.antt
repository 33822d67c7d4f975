-- The parts take fronts of their texts whichever call fails, and whole ones where all traces are sent.
use Rattle.std.proofs.Common.{◌≡◌, ℕ, List, Some}
use Rattle.part_texts.specs.Texts.{part_text}
use Rattle.marple_base.proofs.Pieces.{none_taken, on_err}
use Rattle.trace_pieces.specs.{Faults.trace_fault_of, declared.fault.WholeFault.WholeFault}
use Rattle.trace_split.specs.{Faults.error_for, Hashes.by_hash, Traces.{AreLeft, fault_of_all, packets_of_all}}
use Rattle.trace_split.proofs.{RestFacts.{refused_by, unwritten_refuses}, SettingFacts.{fronts_taken, same_refl, setting_same, texts_taken}}
use Rattle.trace_split.proofs.traces.split_held.Goals as goal

-- ---- nothing was written

pub returns-in_err-texts-clause-fronts : goal.returns-in_err-texts-clause-fronts
returns-in_err-texts-clause-fronts g c =
    on_err c.from_residual.result _ (λ all is n within. none_taken (g.P.Parts.taken c.args.parts.now n)
    (part_text c.args.reads (by_hash c.args.splitting.now) n (packets_of_all all c.args.reads)))

pub send_traces-requires-clause-setting : goal.send_traces-requires-clause-setting
send_traces-requires-clause-setting g c = c.in_ok-texts.ensures.of.setting

-- ---- the traces

pub returns-in_err-send_traces-clause-fronts : goal.returns-in_err-send_traces-clause-fronts
returns-in_err-send_traces-clause-fronts g c =
    let first = g.P.Parts.taken c.args.parts.now in
    let start = c.in_ok-texts.texts in
    on_err c.from_residual-in_err-send_traces.result _ (λ all is.
    fronts_taken c.args.reads c.args.splitting.now start start c.in_ok-texts.ensures.of (same_refl start) first
    (g.P.Parts.taken c.send_traces.new.parts)
    (packets_of_all all c.args.reads) (c.in_err-send_traces.ensures.fronts all first is
    (c.in_ok-texts.ensures.none first)))

pub finish-requires : goal.finish-requires
finish-requires g c =
    setting_same c.in_ok-texts.texts c.send_traces.new.texts c.in_ok-send_traces.ensures.same c.in_ok-texts.ensures.of.setting

-- ---- the end of the texts

pub returns-in_err-finish-clause-refused : goal.returns-in_err-finish-clause-refused
returns-in_err-finish-clause-refused g c =
    let is : WholeFault → Type 0 = λ found. (all : List (List ℕ)) → AreLeft g.I.Inputs.input c.args.traces.now all
    → fault_of_all all c.args.reads ≡ Some (trace_fault_of found) in
    refused_by c.from_residual-in_err-finish.result (error_for c.in_err-finish.field-0.0) is c.from_residual-in_err-finish.ensures.1
    (unwritten_refuses c.in_err-finish.field-0.0 is)

pub returns-in_err-finish-clause-fronts : goal.returns-in_err-finish-clause-fronts
returns-in_err-finish-clause-fronts g c =
    on_err c.from_residual-in_err-finish.result _ (λ all is.
    let first = g.P.Parts.taken c.args.parts.now in
    let sent = packets_of_all all c.args.reads in
    let holds = c.in_ok-send_traces.ensures.sent all first is (c.in_ok-texts.ensures.none first) in
    fronts_taken c.args.reads c.args.splitting.now c.in_ok-texts.texts c.send_traces.new.texts c.in_ok-texts.ensures.of
    c.in_ok-send_traces.ensures.same first
    (g.P.Parts.taken c.finish.new.parts) sent (c.in_err-finish.ensures.err first sent holds))

pub returns-clause-whole : goal.returns-clause-whole
returns-clause-whole g c all is = c.in_ok-send_traces.ensures.whole all is

pub returns-clause-ok : goal.returns-clause-ok
returns-clause-ok g c all is =
    let first = g.P.Parts.taken c.args.parts.now in
    let sent = packets_of_all all c.args.reads in
    let holds = c.in_ok-send_traces.ensures.sent all first is (c.in_ok-texts.ensures.none first) in
    texts_taken c.args.reads c.args.splitting.now c.in_ok-texts.texts c.send_traces.new.texts c.in_ok-texts.ensures.of
    c.in_ok-send_traces.ensures.same first
    (g.P.Parts.taken c.finish.new.parts) sent (c.in_ok-finish.ensures.ok first sent holds)
