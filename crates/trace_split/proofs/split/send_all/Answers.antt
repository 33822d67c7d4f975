-- With all of the trace read, one piece is sent, and else the rest after its header, of the same bytes.
use Rattle.std.{proofs.Common.{◌≡◌, ◌++◌, ◌∙◌, ℕ, List, [], None, Ok, Some, ap, subst, sym}, specs.Prelude.option_map}
use Rattle.marple_base.{specs.declared.{inputs.Which.TheVariants.Trace, field.Packet.Packet}, proofs.Pieces.{on_err as if_err}}
use Rattle.trace_reader.specs.Traces.{Contents}
use Rattle.trace_pieces.specs.{Faults.{after_records, trace_fault_of}, Reads.Goes, Wholes.{all_contents, all_packets, first_fault}}
use Rattle.trace_pieces.{specs.declared.fault.WholeFault.WholeFault, proofs.ContentFacts.after_none}
use Rattle.trace_split.{specs.{Holding.{TakeFronts, Taken}, PartTexts.{HoldsPackets, parts_of, texts_of}}, proofs.AddFacts.{on_err, on_ok}}
use Rattle.trace_split.proofs.RestFacts.{err_refused, goes_all, goes_end, none_refuses, refused_by, refused_so}
use Rattle.trace_split.proofs.SettingFacts.{fronts_of, same_refl}
use Rattle.trace_split.proofs.split.send_all.Goals as goal

-- ---- the header wasn't read

pub returns-in_err-head-clause-same : goal.returns-in_err-head-clause-same
returns-in_err-head-clause-same g c = same_refl c.args.texts.now

pub returns-in_err-head-clause-refused : goal.returns-in_err-head-clause-refused
returns-in_err-head-clause-refused g c =
    let left = (g.I.Inputs.input c.args.inputs.now Trace).left in
    let is : WholeFault → Type 0 = λ found. (trace : List ℕ) → left ≡ Some trace
    → first_fault trace c.args.reads ≡ Some (trace_fault_of found) in
    refused_by c.from_residual.result c.in_err-head.field-0.0 is c.from_residual.ensures.1
    (none_refuses c.in_err-head.field-0.0 is c.in_err-head.ensures.no_refusal)

pub returns-in_err-head-clause-fronts : goal.returns-in_err-head-clause-fronts
returns-in_err-head-clause-fronts g c =
    let texts = c.args.texts.now in
    if_err c.from_residual.result _ (λ trace first before is holds.
    fronts_of texts texts first (g.P.Parts.taken c.args.parts.now) before (all_packets trace c.args.reads) (same_refl texts)
    c.requires.setting holds)

-- ---- a header, and the rest

pub send_rest-requires-clause-within : goal.send_rest-requires-clause-within
send_rest-requires-clause-within g c = rw c.in-Some.is at c.in_ok-head.ensures.within

pub send_rest-requires-clause-head : goal.send_rest-requires-clause-head
send_rest-requires-clause-head g c = rw c.in-Some.is at c.in_ok-head.ensures.head

pub returns-in-Some-clause-whole : goal.returns-in-Some-clause-whole
returns-in-Some-clause-whole g c =
    let left = (g.I.Inputs.input c.args.inputs.now Trace).left in
    let later = (g.I.Inputs.input c.read_head.new.inputs Trace).left in
    let bytes = c.read_head.new.bytes.items in
    let reads = c.args.reads in
    let goes : Goes left later [] bytes = subst (λ (b : List ℕ). Goes left later b bytes) c.new-bytes.ensures.items
    c.in_ok-head.ensures.goes in
    on_ok c.send_rest.result ((rest : List ℕ) → later ≡ Some rest → first_fault (bytes ++ rest) reads ≡ None)
    ((trace : List ℕ) → left ≡ Some trace → first_fault trace reads ≡ None)
    (λ whole trace is.
    let all = goes_all left later bytes trace goes is in subst (λ t. first_fault t reads ≡ None) all.2 (whole all.0 all.1))
    c.send_rest.ensures.whole

pub returns-in-Some-clause-sent : goal.returns-in-Some-clause-sent
returns-in-Some-clause-sent g c =
    let left = (g.I.Inputs.input c.args.inputs.now Trace).left in
    let later = (g.I.Inputs.input c.read_head.new.inputs Trace).left in
    let bytes = c.read_head.new.bytes.items in
    let reads = c.args.reads in
    let texts = c.args.texts.now in
    let new = c.send_rest.new.texts in
    let old = g.P.Parts.taken c.args.parts.now in
    let now = g.P.Parts.taken c.send_rest.new.parts in
    let goes : Goes left later [] bytes = subst (λ (b : List ℕ). Goes left later b bytes) c.new-bytes.ensures.items
    c.in_ok-head.ensures.goes in
    on_ok c.send_rest.result
    ((rest : List ℕ) (first : Taken) (before : List Packet) → later ≡ Some rest → HoldsPackets first old texts before
    → HoldsPackets first now new (before ++ all_packets (bytes ++ rest) reads))
    ((trace : List ℕ) (first : Taken) (before : List Packet) → left ≡ Some trace → HoldsPackets first old texts before
    → HoldsPackets first now new (before ++ all_packets trace reads))
    (λ sent trace first before is holds.
    let all = goes_all left later bytes trace goes is in
    subst (λ t. HoldsPackets first now new (before ++ all_packets t reads)) all.2 (sent all.0 first before all.1 holds))
    c.send_rest.ensures.sent

pub returns-in-Some-clause-refused : goal.returns-in-Some-clause-refused
returns-in-Some-clause-refused g c =
    let left = (g.I.Inputs.input c.args.inputs.now Trace).left in
    let later = (g.I.Inputs.input c.read_head.new.inputs Trace).left in
    let bytes = c.read_head.new.bytes.items in
    let reads = c.args.reads in
    let goes : Goes left later [] bytes = subst (λ (b : List ℕ). Goes left later b bytes) c.new-bytes.ensures.items
    c.in_ok-head.ensures.goes in
    err_refused c.send_rest.result
    (λ (found : WholeFault). (rest : List ℕ) → later ≡ Some rest → first_fault (bytes ++ rest) reads ≡ Some (trace_fault_of found))
    (λ (found : WholeFault). (trace : List ℕ) → left ≡ Some trace → first_fault trace reads ≡ Some (trace_fault_of found))
    (λ found refused trace is.
    let all = goes_all left later bytes trace goes is in
    subst (λ t. first_fault t reads ≡ Some (trace_fault_of found)) all.2 (refused all.0 all.1))
    c.send_rest.ensures.refused

pub returns-in-Some-clause-fronts : goal.returns-in-Some-clause-fronts
returns-in-Some-clause-fronts g c =
    let left = (g.I.Inputs.input c.args.inputs.now Trace).left in
    let later = (g.I.Inputs.input c.read_head.new.inputs Trace).left in
    let bytes = c.read_head.new.bytes.items in
    let reads = c.args.reads in
    let texts = c.args.texts.now in
    let old = g.P.Parts.taken c.args.parts.now in
    let now = g.P.Parts.taken c.send_rest.new.parts in
    let goes : Goes left later [] bytes = subst (λ (b : List ℕ). Goes left later b bytes) c.new-bytes.ensures.items
    c.in_ok-head.ensures.goes in
    on_err c.send_rest.result
    ((rest : List ℕ) (first : Taken) (before : List Packet) → later ≡ Some rest → HoldsPackets first old texts before
    → TakeFronts (parts_of texts) first now (texts_of texts (before ++ all_packets (bytes ++ rest) reads)))
    ((trace : List ℕ) (first : Taken) (before : List Packet) → left ≡ Some trace → HoldsPackets first old texts before
    → TakeFronts (parts_of texts) first now (texts_of texts (before ++ all_packets trace reads)))
    (λ fronts trace first before is holds.
    let all = goes_all left later bytes trace goes is in
    subst (λ t. TakeFronts (parts_of texts) first now (texts_of texts (before ++ all_packets t reads))) all.2
    (fronts all.0 first before all.1 holds))
    c.send_rest.ensures.fronts

-- ---- all of it was read

pub returns-in_err-send-in-None-clause-refused : goal.returns-in_err-send-in-None-clause-refused
returns-in_err-send-in-None-clause-refused g c =
    let left = (g.I.Inputs.input c.args.inputs.now Trace).left in
    let later = (g.I.Inputs.input c.read_head.new.inputs Trace).left in
    let bytes = c.read_head.new.bytes.items in
    let goes : Goes left later [] bytes = subst (λ (b : List ℕ). Goes left later b bytes) c.new-bytes.ensures.items
    c.in_ok-head.ensures.goes in
    let reads = c.args.reads in
    let whole = all_contents c.as_slice.result.now reads in
    refused_by c.from_residual-in_err-send-in-None.result c.in_err-send-in-None.field-0.0
    (λ (found : WholeFault). (trace : List ℕ) → left ≡ Some trace → first_fault trace reads ≡ Some (trace_fault_of found))
    c.from_residual-in_err-send-in-None.ensures.1
    (refused_so c.in_err-send-in-None.field-0.0
    (λ (found : WholeFault). option_map (after_records 0) whole.fault ≡ Some (trace_fault_of found))
    (λ (found : WholeFault). (trace : List ℕ) → left ≡ Some trace → first_fault trace reads ≡ Some (trace_fault_of found))
    (λ found refused trace is.
    let piece : c.as_slice.result.now ≡ trace =
    c.as_slice.ensures.value ∙ goes_end left later bytes trace goes is (c.in_ok-head.ensures.all (ap Ok c.in-None.is)) in
    subst (λ t. first_fault t reads ≡ Some (trace_fault_of found)) piece
    (sym (ap (λ (x : Contents). x.fault) (after_none whole)) ∙ refused))
    c.in_err-send-in-None.ensures.refused)

pub returns-in_err-send-in-None-clause-fronts : goal.returns-in_err-send-in-None-clause-fronts
returns-in_err-send-in-None-clause-fronts g c = if_err c.from_residual-in_err-send-in-None.result _ (λ trace first before is holds.
    let left = (g.I.Inputs.input c.args.inputs.now Trace).left in
    let later = (g.I.Inputs.input c.read_head.new.inputs Trace).left in
    let bytes = c.read_head.new.bytes.items in
    let goes : Goes left later [] bytes = subst (λ (b : List ℕ). Goes left later b bytes) c.new-bytes.ensures.items
    c.in_ok-head.ensures.goes in
    let piece : c.as_slice.result.now ≡ trace =
    c.as_slice.ensures.value ∙ goes_end left later bytes trace goes is (c.in_ok-head.ensures.all (ap Ok c.in-None.is)) in
    let texts = c.args.texts.now in
    let now = g.P.Parts.taken c.send.new.parts in
    subst (λ t. TakeFronts (parts_of texts) first now (texts_of texts (before ++ all_packets t c.args.reads))) piece
    (c.in_err-send-in-None.ensures.fronts first before holds))

pub returns-in_ok-send-in-None-clause-whole : goal.returns-in_ok-send-in-None-clause-whole
returns-in_ok-send-in-None-clause-whole g c trace is =
    let left = (g.I.Inputs.input c.args.inputs.now Trace).left in
    let later = (g.I.Inputs.input c.read_head.new.inputs Trace).left in
    let bytes = c.read_head.new.bytes.items in
    let goes : Goes left later [] bytes = subst (λ (b : List ℕ). Goes left later b bytes) c.new-bytes.ensures.items
    c.in_ok-head.ensures.goes in
    let piece : c.as_slice.result.now ≡ trace =
    c.as_slice.ensures.value ∙ goes_end left later bytes trace goes is (c.in_ok-head.ensures.all (ap Ok c.in-None.is)) in
    subst (λ t. first_fault t c.args.reads ≡ None) piece c.in_ok-send-in-None.ensures.whole

pub returns-in_ok-send-in-None-clause-sent : goal.returns-in_ok-send-in-None-clause-sent
returns-in_ok-send-in-None-clause-sent g c trace first before is holds =
    let left = (g.I.Inputs.input c.args.inputs.now Trace).left in
    let later = (g.I.Inputs.input c.read_head.new.inputs Trace).left in
    let bytes = c.read_head.new.bytes.items in
    let goes : Goes left later [] bytes = subst (λ (b : List ℕ). Goes left later b bytes) c.new-bytes.ensures.items
    c.in_ok-head.ensures.goes in
    let piece : c.as_slice.result.now ≡ trace =
    c.as_slice.ensures.value ∙ goes_end left later bytes trace goes is (c.in_ok-head.ensures.all (ap Ok c.in-None.is)) in
    subst (λ t. HoldsPackets first (g.P.Parts.taken c.send.new.parts) c.send.new.texts (before ++ all_packets t c.args.reads)) piece
    (c.in_ok-send-in-None.ensures.sent first before holds)
