-- A trace that is opened has the bytes that it had, and one that isn't leaves the texts as they were.
use Rattle.std.proofs.Common.{◌≡◌, ◌∙◌, ◌++◌, ℕ, List, None, Some}
use Rattle.marple_base.specs.declared.{field.Packet.Packet, inputs.Which.TheVariants.Trace}
use Rattle.trace_pieces.specs.{Faults.trace_fault_of, Wholes.{all_packets, first_fault}, declared.fault.WholeFault.WholeFault}
use Rattle.trace_split.{specs.{Holding.{TakeFronts, Taken}, PartTexts.{HoldsPackets, parts_of, texts_of}}, proofs.AddFacts.{on_err, on_ok}}
use Rattle.trace_split.proofs.{RestFacts.err_refused, SettingFacts.{fronts_of, same_refl}}
use Rattle.trace_split.proofs.traces.send_trace.Goals as goal

-- ---- it wasn't opened

pub returns-then-is_err-clause-same : goal.returns-then-is_err-clause-same
returns-then-is_err-clause-same g c = same_refl c.args.texts.now

pub returns-then-is_err-clause-fronts : goal.returns-then-is_err-clause-fronts
returns-then-is_err-clause-fronts g c bytes first before is holds =
    let texts = c.args.texts.now in
    fronts_of texts texts first (g.P.Parts.taken c.args.parts.now) before (all_packets bytes c.args.reads) (same_refl texts)
    c.requires.setting holds

-- ---- opened, it has the same bytes

pub returns-clause-whole : goal.returns-clause-whole
returns-clause-whole g c =
    let left = (g.I.Inputs.input c.args.trace.now Trace).left in
    let opened = (g.I.Inputs.input c.open.new.self Trace).left in
    on_ok c.send_all.result ((bytes : List ℕ) → opened ≡ Some bytes → first_fault bytes c.args.reads ≡ None)
    ((bytes : List ℕ) → left ≡ Some bytes → first_fault bytes c.args.reads ≡ None)
    (λ whole bytes is. whole bytes (c.open.ensures.left ∙ is)) c.send_all.ensures.whole

pub returns-clause-sent : goal.returns-clause-sent
returns-clause-sent g c =
    let left = (g.I.Inputs.input c.args.trace.now Trace).left in
    let opened = (g.I.Inputs.input c.open.new.self Trace).left in
    let old = g.P.Parts.taken c.args.parts.now in
    let now = g.P.Parts.taken c.send_all.new.parts in
    let texts = c.args.texts.now in
    let new = c.send_all.new.texts in
    on_ok c.send_all.result
    ((bytes : List ℕ) (first : Taken) (before : List Packet) → opened ≡ Some bytes → HoldsPackets first old texts before
    → HoldsPackets first now new (before ++ all_packets bytes c.args.reads))
    ((bytes : List ℕ) (first : Taken) (before : List Packet) → left ≡ Some bytes → HoldsPackets first old texts before
    → HoldsPackets first now new (before ++ all_packets bytes c.args.reads))
    (λ sent bytes first before is holds. sent bytes first before (c.open.ensures.left ∙ is) holds) c.send_all.ensures.sent

pub returns-clause-refused : goal.returns-clause-refused
returns-clause-refused g c =
    let left = (g.I.Inputs.input c.args.trace.now Trace).left in
    let opened = (g.I.Inputs.input c.open.new.self Trace).left in
    err_refused c.send_all.result
    (λ (found : WholeFault). (bytes : List ℕ) → opened ≡ Some bytes → first_fault bytes c.args.reads ≡ Some (trace_fault_of found))
    (λ (found : WholeFault). (bytes : List ℕ) → left ≡ Some bytes → first_fault bytes c.args.reads ≡ Some (trace_fault_of found))
    (λ found refused bytes is. refused bytes (c.open.ensures.left ∙ is)) c.send_all.ensures.refused

pub returns-clause-fronts : goal.returns-clause-fronts
returns-clause-fronts g c =
    let left = (g.I.Inputs.input c.args.trace.now Trace).left in
    let opened = (g.I.Inputs.input c.open.new.self Trace).left in
    let old = g.P.Parts.taken c.args.parts.now in
    let now = g.P.Parts.taken c.send_all.new.parts in
    let texts = c.args.texts.now in
    on_err c.send_all.result
    ((bytes : List ℕ) (first : Taken) (before : List Packet) → opened ≡ Some bytes → HoldsPackets first old texts before
    → TakeFronts (parts_of texts) first now (texts_of texts (before ++ all_packets bytes c.args.reads)))
    ((bytes : List ℕ) (first : Taken) (before : List Packet) → left ≡ Some bytes → HoldsPackets first old texts before
    → TakeFronts (parts_of texts) first now (texts_of texts (before ++ all_packets bytes c.args.reads)))
    (λ fronts bytes first before is holds. fronts bytes first before (c.open.ensures.left ∙ is) holds) c.send_all.ensures.fronts
