-- A piece without a fault holds all its packets, and a fault in it is one after the packets given before.
use Rattle.std.proofs.Common.{◌+◌, ◌++◌, ◌∙◌, [], ap, append-nil, length, subst, sym}
use Rattle.trace_reader.specs.Traces.{Contents, packets}
use Rattle.trace_split.specs.{Holding.TakeFronts, PartTexts.{HoldsPackets, parts_of, texts_of}}
use Rattle.trace_split.proofs.{RunFacts.{refused_piece, whole_piece}, SettingFacts.{fronts_of, fronts_of_run, setting_same}}
use Rattle.trace_split.proofs.split.send.Goals as goal

pub returns-in-Some-clause-whole : goal.returns-in-Some-clause-whole
returns-in-Some-clause-whole g c =
    let whole = c.in-Ok.ensures.whole in
    ap (λ (x : Contents). x.fault) (whole_piece c.args.piece.now c.args.reads whole) ∙ whole

pub returns-in-Some-clause-count : goal.returns-in-Some-clause-count
returns-in-Some-clause-count g c =
    let all = whole_piece c.args.piece.now c.args.reads c.in-Ok.ensures.whole in
    let size = ap (λ (x : Contents). length x.packets) all in
    c.in-Some.ensures.1 ∙ ap (λ n. c.args.given + n) (c.in-Ok.ensures.count ∙ sym size)

pub returns-in-Some-clause-sent : goal.returns-in-Some-clause-sent
returns-in-Some-clause-sent g c first before holds =
    let all = ap (λ (x : Contents). x.packets) (whole_piece c.args.piece.now c.args.reads c.in-Ok.ensures.whole) in
    subst (λ ps. HoldsPackets first (g.P.Parts.taken c.split_piece.new.parts) c.split_piece.new.texts (before ++ ps)) (sym all)
    (c.in-Ok.ensures.sent first before holds)

pub returns-in-None-clause-fronts : goal.returns-in-None-clause-fronts
returns-in-None-clause-fronts g c first before holds =
    let start = c.args.texts.now in
    let new = c.split_piece.new.texts in
    let now = g.P.Parts.taken c.split_piece.new.parts in
    let own = packets c.args.piece.now c.args.reads in
    let same = c.in-Ok.ensures.same in
    fronts_of_run start first now before c.args.piece.now c.args.reads
    (subst (λ ps. TakeFronts (parts_of start) first now (texts_of start ps)) (append-nil (before ++ own))
    (fronts_of start new first now (before ++ own) [] same (setting_same start new same c.requires)
    (c.in-Ok.ensures.sent first before holds)))

pub returns-in-Err-OutputFault-clause-fronts : goal.returns-in-Err-OutputFault-clause-fronts
returns-in-Err-OutputFault-clause-fronts g c first before holds =
    fronts_of_run c.args.texts.now first (g.P.Parts.taken c.split_piece.new.parts) before c.args.piece.now c.args.reads
    (c.in-Err-OutputFault.ensures.fronts first before holds)

pub returns-in-Err-Memory-clause-fronts : goal.returns-in-Err-Memory-clause-fronts
returns-in-Err-Memory-clause-fronts g c first before holds =
    fronts_of_run c.args.texts.now first (g.P.Parts.taken c.split_piece.new.parts) before c.args.piece.now c.args.reads
    (c.in-Err-Memory.ensures.fronts first before holds)

pub returns-in-Some-fault_after-clause-refused : goal.returns-in-Some-fault_after-clause-refused
returns-in-Some-fault_after-clause-refused g c =
    let refused = rw c.in-Err-Refused.field-0-is at c.in-Err-Refused.ensures.refused in
    refused_piece c.args.piece.now c.args.reads c.args.given c.in-Some-fault_after.found c.in-Err-Refused.fault refused
    c.in-Some-fault_after.ensures

pub returns-in-Some-fault_after-clause-fronts : goal.returns-in-Some-fault_after-clause-fronts
returns-in-Some-fault_after-clause-fronts g c first before holds =
    fronts_of_run c.args.texts.now first (g.P.Parts.taken c.split_piece.new.parts) before c.args.piece.now c.args.reads
    (c.in-Err-Refused.ensures.fronts first before holds)

pub returns-in-None-fault_after-clause-fronts : goal.returns-in-None-fault_after-clause-fronts
returns-in-None-fault_after-clause-fronts g c first before holds =
    fronts_of_run c.args.texts.now first (g.P.Parts.taken c.split_piece.new.parts) before c.args.piece.now c.args.reads
    (c.in-Err-Refused.ensures.fronts first before holds)
