-- Each trace sent adds its packets to those of the traces before it, and the first fault is that of all.
use Rattle.std.proofs.Common.{◌≡◌, ◌<◌, ◌+◌, ◌++◌, ◌∙◌, ℕ, List, [], None, Some, ap, arith, drop, get_or, length, refl, subst, sym, take}
use Rattle.std.proofs.lemmas.List.{length-set, Elements.All-get_or}
use Rattle.marple_base.{specs.{Inputs.IsClosed, declared.inputs.Which.TheVariants.Trace}, proofs.Pieces.on_err}
use Rattle.trace_pieces.specs.{Faults.trace_fault_of, Wholes.{all_packets, first_fault}, declared.fault.WholeFault.WholeFault}
use Rattle.trace_split.specs.{Holding.TakeFronts, PartTexts.{HoldsPackets, parts_of, texts_of}}
use Rattle.trace_split.{specs.Traces.{AreLeft, fault_of_all, packets_of_all}, proofs.CountFacts.{at_same, none_fell, one_rose, rest_same}}
use Rattle.trace_split.proofs.{RestFacts.{err_is, refused_by, refused_so}, SettingFacts.{fronts_grow, same_refl, same_trans, setting_same}}
use Rattle.trace_split.proofs.TraceFacts.{all_taken, as_many, fault_at, none_more, one_left, packets_more, packets_on}
use Rattle.trace_split.proofs.traces.send_traces.Goals as goal

pub loop-i-init : goal.loop-i-init
loop-i-init g c = record {
  size = refl;
  rest = refl;
  setting = c.requires.setting;
  same = same_refl c.args.texts.now;
  none = λ all is. refl;
  sent = λ all first is holds. holds;
  input_later = λ i. omega arith;
  output_later = omega arith;
  steps = omega arith;
}

-- ---- the trace at this place, which is as it was

pub send_trace-requires-clause-closed : goal.send_trace-requires-clause-closed
send_trace-requires-clause-closed g c =
    let traces = c.args.traces.now in
    let trace = c.index-traces-i.result in
    subst (λ one. IsClosed (g.I.Inputs.input one Trace)) (sym (at_same c.loop-i.i c.loop-i.traces traces trace c.loop-i.invariant.rest))
    (All-get_or (λ one. IsClosed (g.I.Inputs.input one Trace)) traces c.loop-i.i trace c.loop-i-test.true c.requires.closed)

pub send_trace-requires-clause-setting : goal.send_trace-requires-clause-setting
send_trace-requires-clause-setting g c = c.loop-i.invariant.setting

-- ---- it is refused, or a call failed

pub returns-in_err-send_trace-clause-same : goal.returns-in_err-send_trace-clause-same
returns-in_err-send_trace-clause-same g c =
    same_trans c.args.texts.now c.loop-i.texts c.send_trace.new.texts c.loop-i.invariant.same c.in_err-send_trace.ensures.same

pub returns-in_err-send_trace-clause-refused : goal.returns-in_err-send_trace-clause-refused
returns-in_err-send_trace-clause-refused g c =
    let input = g.I.Inputs.input in
    let traces = c.args.traces.now in
    let trace = c.index-traces-i.result in
    let i = c.loop-i.i in
    let now = c.loop-i.invariant in
    let reads = c.args.reads in
    let within = c.loop-i-test.true in
    let is : (all : List (List ℕ)) → AreLeft input traces all
    → (input (get_or c.loop-i.traces i trace) Trace).left ≡ Some (get_or all i []) =
    λ all are. ap (λ one. (input one Trace).left) (at_same i c.loop-i.traces traces trace now.rest)
    ∙ one_left input traces all are i trace within in
    refused_by c.from_residual.result c.in_err-send_trace.field-0.0
    (λ (found : WholeFault). (all : List (List ℕ)) → AreLeft input traces all → fault_of_all all reads ≡ Some (trace_fault_of found))
    c.from_residual.ensures.1
    (refused_so c.in_err-send_trace.field-0.0
    (λ (found : WholeFault). (bytes : List ℕ) → (input (get_or c.loop-i.traces i trace) Trace).left ≡ Some bytes
    → first_fault bytes reads ≡ Some (trace_fault_of found))
    (λ (found : WholeFault). (all : List (List ℕ)) → AreLeft input traces all → fault_of_all all reads ≡ Some (trace_fault_of found))
    (λ found refused all are.
    fault_at reads all i (trace_fault_of found) (omega (arith, within, as_many input traces all are)) (now.none all are)
    (refused (get_or all i []) (is all are)))
    c.in_err-send_trace.ensures.refused)

pub returns-in_err-send_trace-clause-fronts : goal.returns-in_err-send_trace-clause-fronts
returns-in_err-send_trace-clause-fronts g c = on_err c.from_residual.result _ (λ all first are holds.
    let input = g.I.Inputs.input in
    let traces = c.args.traces.now in
    let trace = c.index-traces-i.result in
    let i = c.loop-i.i in
    let now = c.loop-i.invariant in
    let reads = c.args.reads in
    let start = c.args.texts.now in
    let within = c.loop-i-test.true in
    let is : (all : List (List ℕ)) → AreLeft input traces all
    → (input (get_or c.loop-i.traces i trace) Trace).left ≡ Some (get_or all i []) =
    λ all are. ap (λ one. (input one Trace).left) (at_same i c.loop-i.traces traces trace now.rest)
    ∙ one_left input traces all are i trace within in
    let in_all : i < length all = omega (arith, within, as_many input traces all are) in
    let sent = packets_of_all (take i all) reads in
    let fronts = c.in_err-send_trace.ensures.fronts (get_or all i []) first sent (is all are)
    (now.sent all first are holds) in
    let after_it = g.P.Parts.taken c.send_trace.new.parts in
    let more = packets_of_all (drop (i + 1) all) reads in
    let whole : (sent ++ all_packets (get_or all i []) reads) ++ more ≡ packets_of_all all reads =
    ap (λ ps. ps ++ more) (sym (packets_more reads all i in_all)) ∙ sym (packets_on reads all (i + 1)) in
    subst (λ ps. TakeFronts (parts_of start) first after_it (texts_of start ps)) whole
    (fronts_grow start c.loop-i.texts first after_it (sent ++ all_packets (get_or all i []) reads) more now.same fronts))

pub returns-in_err-send_trace-clause-input_failed : goal.returns-in_err-send_trace-clause-input_failed
returns-in_err-send_trace-clause-input_failed g c failed =
    one_rose g.I.Inputs.input c.args.traces.now c.loop-i.traces c.loop-i.i c.index-traces-i.result c.send_trace.new.trace
    (omega (arith, c.loop-i-test.true, c.loop-i.invariant.size)) c.loop-i.invariant.input_later
    (c.in_err-send_trace.ensures.input_failed
    (err_is c.from_residual.result c.in_err-send_trace.field-0.0 _ c.from_residual.ensures.1 failed))

pub returns-in_err-send_trace-clause-input_later : goal.returns-in_err-send_trace-clause-input_later
returns-in_err-send_trace-clause-input_later g c =
    none_fell g.I.Inputs.input c.args.traces.now c.loop-i.traces c.loop-i.i c.index-traces-i.result c.send_trace.new.trace
    (omega (arith, c.loop-i-test.true, c.loop-i.invariant.size)) c.loop-i.invariant.input_later
    c.in_err-send_trace.ensures.input_later

-- ---- its packets are in their parts

pub loop-i-preserved : goal.loop-i-preserved
loop-i-preserved g c =
    let input = g.I.Inputs.input in
    let traces = c.args.traces.now in
    let trace = c.index-traces-i.result in
    let i = c.loop-i.i in
    let now = c.loop-i.invariant in
    let reads = c.args.reads in
    let new = c.send_trace.new.texts in
    let its = c.in_ok-send_trace.ensures in
    let within = c.loop-i-test.true in
    let is : (all : List (List ℕ)) → AreLeft input traces all
    → (input (get_or c.loop-i.traces i trace) Trace).left ≡ Some (get_or all i []) =
    λ all are. ap (λ one. (input one Trace).left) (at_same i c.loop-i.traces traces trace now.rest)
    ∙ one_left input traces all are i trace within in
    record {
      size = length-set c.loop-i.traces i c.send_trace.new.trace ∙ now.size;
      rest = rest_same i c.loop-i.traces traces c.send_trace.new.trace now.rest;
      setting = setting_same c.loop-i.texts new its.same now.setting;
      same = same_trans c.args.texts.now c.loop-i.texts new now.same its.same;
      none = λ all are.
          none_more reads all i (omega (arith, within, as_many input traces all are)) (now.none all are)
          (its.whole (get_or all i []) (is all are));
      sent = λ all first are holds.
          subst (HoldsPackets first (g.P.Parts.taken c.send_trace.new.parts) new)
          (sym (packets_more reads all i (omega (arith, within, as_many input traces all are))))
          (its.sent (get_or all i []) first (packets_of_all (take i all) reads) (is all are)
          (now.sent all first are holds));
      input_later =
          none_fell input traces c.loop-i.traces i trace c.send_trace.new.trace (omega (arith, within, now.size)) now.input_later
          its.input_later;
      output_later = omega (arith, now.output_later, its.output_later);
      steps = omega (arith, now.steps, its.steps);
    }

-- ---- all of them are

pub returns-clause-same : goal.returns-clause-same
returns-clause-same g c = c.loop-i.invariant.same

pub returns-clause-whole : goal.returns-clause-whole
returns-clause-whole g c all are =
    subst (λ some. fault_of_all some c.args.reads ≡ None) (all_taken g.I.Inputs.input c.args.traces.now all are c.loop-i.i
    (omega (arith, c.loop-i.invariant.size))) (c.loop-i.invariant.none all are)

pub returns-clause-sent : goal.returns-clause-sent
returns-clause-sent g c all first are holds =
    subst (λ some. HoldsPackets first (g.P.Parts.taken c.loop-i.parts) c.loop-i.texts (packets_of_all some c.args.reads))
    (all_taken g.I.Inputs.input c.args.traces.now all are c.loop-i.i (omega (arith, c.loop-i.invariant.size)))
    (c.loop-i.invariant.sent all first are holds)
