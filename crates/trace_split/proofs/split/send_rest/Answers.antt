-- A piece is cut between records and sent under the header, so its packets and those of the rest are the trace's.
use Rattle.std.proofs.Common.{◌≡◌, ◌+◌, ◌≤◌, ◌++◌, ◌∙◌, ℕ, List, None, Some, ap, arith, drop, length, length-append, refl, subst, sym, take}
use Rattle.std.{proofs.lemmas.List.length-take-le, specs.{Prelude.option_map, Io.KnownBytes.IsAtEnd}}
use Rattle.marple_base.{specs.declared.inputs.Which.TheVariants.Trace, proofs.Pieces.on_err}
use Rattle.trace_pieces.specs.{Faults.{after_records, trace_fault_of}, Machine.IsHead, Wholes.{all_contents, all_packets, first_fault}}
use Rattle.trace_pieces.specs.declared.fault.WholeFault.{WholeFault}
use Rattle.trace_split.specs.{Faults.error_at, Holding.TakeFronts, PartTexts.{HoldsPackets, parts_of, texts_of}}
use Rattle.trace_split.proofs.CutFacts.{cut_broke, cut_ended, cut_reached, cut_refused, take_front}
use Rattle.trace_split.proofs.{ReachFacts.{Reached, head_kept, reached_none, reached_read}, RestFacts.{adds_none, end_after, end_refused}}
use Rattle.trace_split.proofs.{RestFacts.{end_whole, reached_fronts, refused_by, refused_so, unread_refuses}, SendFacts.Adds}
use Rattle.trace_split.proofs.SettingFacts.{fronts_same, same_refl, same_trans, setting_same}
use Rattle.trace_split.proofs.split.send_rest.Goals as goal

pub pieces-init : goal.pieces-init
pieces-init g c =
    let texts = c.args.texts.now in
    let now = g.P.Parts.taken c.args.parts.now in
    record {
      opened = c.requires.opened;
      within = c.requires.within;
      head = c.requires.head;
      setting = c.requires.setting;
      same = same_refl texts;
      reached = λ rest is. reached_none c.args.reads (g.I.Inputs.input c.args.inputs.now Trace).left c.args.bytes.items rest
          (Adds now texts now texts) is (adds_none now texts);
      input_later = omega arith;
      output_later = omega arith;
      query = refl;
      steps = omega arith;
    }

pub fill-requires : goal.fill-requires
fill-requires g c = c.pieces.invariant.opened

-- ---- nothing more was read

pub returns-in_err-fill-clause-same : goal.returns-in_err-fill-clause-same
returns-in_err-fill-clause-same g c = c.pieces.invariant.same

pub returns-in_err-fill-clause-refused : goal.returns-in_err-fill-clause-refused
returns-in_err-fill-clause-refused g c =
    let first_left = (g.I.Inputs.input c.args.inputs.now Trace).left in
    let is : WholeFault → Type 0 = λ found. (rest : List ℕ) → first_left ≡ Some rest
    → first_fault (c.args.bytes.items ++ rest) c.args.reads ≡ Some (trace_fault_of found) in
    refused_by c.from_residual.result (error_at c.in_err-fill.field-0.0) is c.from_residual.ensures.1
    (unread_refuses c.in_err-fill.field-0.0 is)

pub returns-in_err-fill-clause-fronts : goal.returns-in_err-fill-clause-fronts
returns-in_err-fill-clause-fronts g c = on_err c.from_residual.result _ (λ rest first earlier is holds.
    let taken = g.P.Parts.taken in
    let now = c.pieces.invariant in
    let left = (g.I.Inputs.input c.pieces.inputs Trace).left in
    reached_fronts (all_contents (c.args.bytes.items ++ rest) c.args.reads) c.args.reads left c.pieces.bytes.items c.pieces.given
    c.args.texts.now c.pieces.texts
    (taken c.args.parts.now) (taken c.pieces.parts) first earlier (now.reached rest is) now.same now.setting holds)

-- ---- the last piece

pub send-requires : goal.send-requires
send-requires g c = c.pieces.invariant.setting

pub returns-in_err-send-clause-same : goal.returns-in_err-send-clause-same
returns-in_err-send-clause-same g c = same_trans c.args.texts.now c.pieces.texts c.send.new.texts c.pieces.invariant.same
    c.in_err-send.ensures.same

pub returns-in_err-send-clause-refused : goal.returns-in_err-send-clause-refused
returns-in_err-send-clause-refused g c =
    let taken = g.P.Parts.taken in
    let reads = c.args.reads in
    let start = c.args.texts.now in
    let now = c.pieces.invariant in
    let before = (g.I.Inputs.input c.pieces.inputs Trace).left in
    let left = (g.I.Inputs.input c.fill.new.inputs Trace).left in
    let bytes = c.fill.new.bytes.items in
    let goes = c.in_ok-fill.ensures.fills.goes in
    let P = Adds (taken c.args.parts.now) start (taken c.pieces.parts) c.pieces.texts in
    let first_left = (g.I.Inputs.input c.args.inputs.now Trace).left in
    let end : IsAtEnd left = c.in_ok-fill.ensures.fills.at_end c.if-branch.true in
    refused_by c.from_residual-in_err-send.result c.in_err-send.field-0.0
    (λ (found : WholeFault). (rest : List ℕ) → first_left ≡ Some rest → first_fault (c.args.bytes.items ++ rest) reads ≡ Some
    (trace_fault_of found))
    c.from_residual-in_err-send.ensures.1
    (refused_so c.in_err-send.field-0.0
    (λ (found : WholeFault). option_map (after_records c.pieces.given) (first_fault c.as_slice.result.now reads) ≡ Some
    (trace_fault_of found))
    (λ (found : WholeFault). (rest : List ℕ) → first_left ≡ Some rest → first_fault (c.args.bytes.items ++ rest) reads ≡ Some
    (trace_fault_of found))
    (λ found refused rest is.
    let all = all_contents (c.args.bytes.items ++ rest) reads in
    let r : Reached all reads left bytes c.pieces.given P = reached_read all reads before left c.pieces.bytes.items bytes c.pieces.given P
    goes (now.reached rest is) in
    end_refused all reads left bytes c.pieces.given P end r (trace_fault_of found)
    (subst (λ t. option_map (after_records c.pieces.given) (first_fault t reads) ≡ Some (trace_fault_of found)) c.as_slice.ensures.value
    refused))
    c.in_err-send.ensures.refused)

pub returns-in_err-send-clause-fronts : goal.returns-in_err-send-clause-fronts
returns-in_err-send-clause-fronts g c = on_err c.from_residual-in_err-send.result _ (λ rest first earlier is holds.
    let taken = g.P.Parts.taken in
    let reads = c.args.reads in
    let start = c.args.texts.now in
    let now = c.pieces.invariant in
    let before = (g.I.Inputs.input c.pieces.inputs Trace).left in
    let left = (g.I.Inputs.input c.fill.new.inputs Trace).left in
    let bytes = c.fill.new.bytes.items in
    let goes = c.in_ok-fill.ensures.fills.goes in
    let P = Adds (taken c.args.parts.now) start (taken c.pieces.parts) c.pieces.texts in
    let all = all_contents (c.args.bytes.items ++ rest) reads in
    let r : Reached all reads left bytes c.pieces.given P = reached_read all reads before left c.pieces.bytes.items bytes c.pieces.given P
    goes (now.reached rest is) in
    let end : IsAtEnd left = c.in_ok-fill.ensures.fills.at_end c.if-branch.true in
    let after_it = taken c.send.new.parts in
    let whole : (earlier ++ r.sent) ++ all_packets c.as_slice.result.now reads ≡ earlier ++ all.packets =
    end_after all reads left bytes c.pieces.given P end r earlier c.as_slice.result.now c.as_slice.ensures.value in
    subst (λ ps. TakeFronts (parts_of start) first after_it (texts_of start ps)) whole
    (fronts_same start c.pieces.texts first after_it ((earlier ++ r.sent) ++ all_packets c.as_slice.result.now reads) now.same
    (c.in_err-send.ensures.fronts first (earlier ++ r.sent) (r.holds first earlier holds))))

pub returns-then-branch-clause-same : goal.returns-then-branch-clause-same
returns-then-branch-clause-same g c = same_trans c.args.texts.now c.pieces.texts c.send.new.texts c.pieces.invariant.same
    c.in_ok-send.ensures.same

pub returns-then-branch-clause-whole : goal.returns-then-branch-clause-whole
returns-then-branch-clause-whole g c rest is =
    let taken = g.P.Parts.taken in
    let reads = c.args.reads in
    let start = c.args.texts.now in
    let now = c.pieces.invariant in
    let before = (g.I.Inputs.input c.pieces.inputs Trace).left in
    let left = (g.I.Inputs.input c.fill.new.inputs Trace).left in
    let bytes = c.fill.new.bytes.items in
    let goes = c.in_ok-fill.ensures.fills.goes in
    let P = Adds (taken c.args.parts.now) start (taken c.pieces.parts) c.pieces.texts in
    let all = all_contents (c.args.bytes.items ++ rest) reads in
    let r : Reached all reads left bytes c.pieces.given P = reached_read all reads before left c.pieces.bytes.items bytes c.pieces.given P
    goes (now.reached rest is) in
    let end : IsAtEnd left = c.in_ok-fill.ensures.fills.at_end c.if-branch.true in
    end_whole all reads left bytes c.pieces.given P end r (subst (λ t. first_fault t reads ≡ None) c.as_slice.ensures.value
    c.in_ok-send.ensures.whole)

pub returns-then-branch-clause-sent : goal.returns-then-branch-clause-sent
returns-then-branch-clause-sent g c rest first earlier is holds =
    let taken = g.P.Parts.taken in
    let reads = c.args.reads in
    let start = c.args.texts.now in
    let now = c.pieces.invariant in
    let before = (g.I.Inputs.input c.pieces.inputs Trace).left in
    let left = (g.I.Inputs.input c.fill.new.inputs Trace).left in
    let bytes = c.fill.new.bytes.items in
    let goes = c.in_ok-fill.ensures.fills.goes in
    let P = Adds (taken c.args.parts.now) start (taken c.pieces.parts) c.pieces.texts in
    let all = all_contents (c.args.bytes.items ++ rest) reads in
    let r : Reached all reads left bytes c.pieces.given P = reached_read all reads before left c.pieces.bytes.items bytes c.pieces.given P
    goes (now.reached rest is) in
    let end : IsAtEnd left = c.in_ok-fill.ensures.fills.at_end c.if-branch.true in
    let whole : (earlier ++ r.sent) ++ all_packets c.as_slice.result.now reads ≡ earlier ++ all.packets =
    end_after all reads left bytes c.pieces.given P end r earlier c.as_slice.result.now c.as_slice.ensures.value in
    subst (HoldsPackets first (taken c.send.new.parts) c.send.new.texts) whole
    (c.in_ok-send.ensures.sent first (earlier ++ r.sent) (r.holds first earlier holds))

-- ---- no piece ends yet

pub pieces-preserved-then-cut-eq0 : goal.pieces-preserved-then-cut-eq0
pieces-preserved-then-cut-eq0 g c =
    let taken = g.P.Parts.taken in
    let reads = c.args.reads in
    let start = c.args.texts.now in
    let now = c.pieces.invariant in
    let before = (g.I.Inputs.input c.pieces.inputs Trace).left in
    let left = (g.I.Inputs.input c.fill.new.inputs Trace).left in
    let bytes = c.fill.new.bytes.items in
    let goes = c.in_ok-fill.ensures.fills.goes in
    let P = Adds (taken c.args.parts.now) start (taken c.pieces.parts) c.pieces.texts in
    let room : length c.pieces.bytes.items ≤ length bytes = omega (
      arith,
      ap length goes.bytes,
      length-append c.pieces.bytes.items
          goes.more,
    ) in
    record {
      opened = c.in_ok-fill.ensures.opened;
      within = omega (arith, now.within, room);
      head = head_kept c.pieces.bytes.items bytes goes.more c.args.head goes.bytes now.within now.head;
      setting = now.setting;
      same = now.same;
      reached = λ rest is.
          let all = all_contents (c.args.bytes.items ++ rest) reads in
          reached_read all reads before left c.pieces.bytes.items bytes c.pieces.given P goes (now.reached rest is);
      input_later = omega (arith, now.input_later, c.in_ok-fill.ensures.later);
      output_later = now.output_later;
      query = c.in_ok-fill.ensures.query_kept ∙ now.query;
      steps = now.steps;
    }

-- ---- a piece

pub send-requires-in-pieces : goal.send-requires-in-pieces
send-requires-in-pieces g c = c.pieces.invariant.setting

pub returns-in_err-given-clause-same : goal.returns-in_err-given-clause-same
returns-in_err-given-clause-same g c =
    same_trans c.args.texts.now c.pieces.texts c.send-in-pieces.new.texts c.pieces.invariant.same c.in_err-given.ensures.same

pub returns-in_err-given-clause-refused : goal.returns-in_err-given-clause-refused
returns-in_err-given-clause-refused g c =
    let taken = g.P.Parts.taken in
    let reads = c.args.reads in
    let start = c.args.texts.now in
    let now = c.pieces.invariant in
    let before = (g.I.Inputs.input c.pieces.inputs Trace).left in
    let left = (g.I.Inputs.input c.fill.new.inputs Trace).left in
    let bytes = c.fill.new.bytes.items in
    let goes = c.in_ok-fill.ensures.fills.goes in
    let P = Adds (taken c.args.parts.now) start (taken c.pieces.parts) c.pieces.texts in
    let head = c.args.head in
    let first_left = (g.I.Inputs.input c.args.inputs.now Trace).left in
    let piece = take (head + c.last_cut-cut.result) c.as_slice-own.result.now in
    refused_by c.from_residual-in_err-given.result c.in_err-given.field-0.0
    (λ (found : WholeFault). (rest : List ℕ) → first_left ≡ Some rest → first_fault (c.args.bytes.items ++ rest) reads ≡ Some
    (trace_fault_of found))
    c.from_residual-in_err-given.ensures.1
    (refused_so c.in_err-given.field-0.0
    (λ (found : WholeFault). option_map (after_records c.pieces.given) (first_fault piece reads) ≡ Some (trace_fault_of found))
    (λ (found : WholeFault). (rest : List ℕ) → first_left ≡ Some rest → first_fault (c.args.bytes.items ++ rest) reads ≡ Some
    (trace_fault_of found))
    (λ found refused rest is.
    let all = all_contents (c.args.bytes.items ++ rest) reads in
    let r : Reached all reads left bytes c.pieces.given P = reached_read all reads before left c.pieces.bytes.items bytes c.pieces.given P
    goes (now.reached rest is) in
    let s = c.as_slice-own.result.now in
    let own : s ≡ bytes = c.as_slice-own.ensures.value in
    let r' : Reached all reads left s c.pieces.given P = subst (λ b. Reached all reads left b c.pieces.given P) (sym own) r in
    let room : length c.pieces.bytes.items ≤ length bytes = omega (
      arith,
      ap length goes.bytes,
      length-append c.pieces.bytes.items
          goes.more,
    ) in
    let within : head ≤ length s = omega (arith, now.within, room, ap length own) in
    let is_head : IsHead (take head s) = subst (λ b. IsHead (take head b)) (sym own)
    (head_kept c.pieces.bytes.items bytes goes.more head goes.bytes now.within now.head) in
    cut_refused all reads left s c.pieces.given head c.last_cut-cut.result start c.pieces.texts (taken c.args.parts.now)
    (taken c.pieces.parts) r' within is_head c.last_cut-cut.ensures (trace_fault_of found) refused)
    c.in_err-given.ensures.refused)

pub returns-in_err-given-clause-fronts : goal.returns-in_err-given-clause-fronts
returns-in_err-given-clause-fronts g c = on_err c.from_residual-in_err-given.result _ (λ rest first earlier is holds.
    let taken = g.P.Parts.taken in
    let reads = c.args.reads in
    let start = c.args.texts.now in
    let now = c.pieces.invariant in
    let before = (g.I.Inputs.input c.pieces.inputs Trace).left in
    let left = (g.I.Inputs.input c.fill.new.inputs Trace).left in
    let bytes = c.fill.new.bytes.items in
    let goes = c.in_ok-fill.ensures.fills.goes in
    let P = Adds (taken c.args.parts.now) start (taken c.pieces.parts) c.pieces.texts in
    let head = c.args.head in
    let all = all_contents (c.args.bytes.items ++ rest) reads in
    let r : Reached all reads left bytes c.pieces.given P = reached_read all reads before left c.pieces.bytes.items bytes c.pieces.given P
    goes (now.reached rest is) in
    let s = c.as_slice-own.result.now in
    let own : s ≡ bytes = c.as_slice-own.ensures.value in
    let r' : Reached all reads left s c.pieces.given P = subst (λ b. Reached all reads left b c.pieces.given P) (sym own) r in
    let room : length c.pieces.bytes.items ≤ length bytes = omega (
      arith,
      ap length goes.bytes,
      length-append c.pieces.bytes.items
          goes.more,
    ) in
    let within : head ≤ length s = omega (arith, now.within, room, ap length own) in
    let is_head : IsHead (take head s) = subst (λ b. IsHead (take head b)) (sym own)
    (head_kept c.pieces.bytes.items bytes goes.more head goes.bytes now.within now.head) in
    cut_broke all reads left s c.pieces.given head c.last_cut-cut.result start c.pieces.texts (taken c.args.parts.now)
    (taken c.pieces.parts) r' within is_head c.last_cut-cut.ensures (taken c.send-in-pieces.new.parts) first earlier now.same holds
    c.in_err-given.ensures.fronts)

pub returns-in_err-cut_out-clause-same : goal.returns-in_err-cut_out-clause-same
returns-in_err-cut_out-clause-same g c =
    same_trans c.args.texts.now c.pieces.texts c.send-in-pieces.new.texts c.pieces.invariant.same c.in_ok-given.ensures.same

pub returns-in_err-cut_out-clause-fronts : goal.returns-in_err-cut_out-clause-fronts
returns-in_err-cut_out-clause-fronts g c = on_err c.from_residual-in_err-cut_out.result _ (λ rest first earlier is holds.
    let taken = g.P.Parts.taken in
    let reads = c.args.reads in
    let start = c.args.texts.now in
    let now = c.pieces.invariant in
    let before = (g.I.Inputs.input c.pieces.inputs Trace).left in
    let left = (g.I.Inputs.input c.fill.new.inputs Trace).left in
    let bytes = c.fill.new.bytes.items in
    let goes = c.in_ok-fill.ensures.fills.goes in
    let P = Adds (taken c.args.parts.now) start (taken c.pieces.parts) c.pieces.texts in
    let head = c.args.head in
    let new = c.send-in-pieces.new.texts in
    let same = c.in_ok-given.ensures.same in
    let all = all_contents (c.args.bytes.items ++ rest) reads in
    let r : Reached all reads left bytes c.pieces.given P = reached_read all reads before left c.pieces.bytes.items bytes c.pieces.given P
    goes (now.reached rest is) in
    let s = c.as_slice-own.result.now in
    let own : s ≡ bytes = c.as_slice-own.ensures.value in
    let r' : Reached all reads left s c.pieces.given P = subst (λ b. Reached all reads left b c.pieces.given P) (sym own) r in
    let room : length c.pieces.bytes.items ≤ length bytes = omega (
      arith,
      ap length goes.bytes,
      length-append c.pieces.bytes.items
          goes.more,
    ) in
    let within : head ≤ length s = omega (arith, now.within, room, ap length own) in
    let is_head : IsHead (take head s) = subst (λ b. IsHead (take head b)) (sym own)
    (head_kept c.pieces.bytes.items bytes goes.more head goes.bytes now.within now.head) in
    cut_ended all reads left s c.pieces.given head c.last_cut-cut.result start c.pieces.texts (taken c.args.parts.now)
    (taken c.pieces.parts) r' within is_head c.last_cut-cut.ensures new (taken c.send-in-pieces.new.parts) first earlier
    (same_trans start c.pieces.texts new now.same same) (setting_same c.pieces.texts new same now.setting) holds c.in_ok-given.ensures.sent)

pub pieces-preserved : goal.pieces-preserved
pieces-preserved g c =
    let taken = g.P.Parts.taken in
    let reads = c.args.reads in
    let start = c.args.texts.now in
    let now = c.pieces.invariant in
    let before = (g.I.Inputs.input c.pieces.inputs Trace).left in
    let left = (g.I.Inputs.input c.fill.new.inputs Trace).left in
    let bytes = c.fill.new.bytes.items in
    let goes = c.in_ok-fill.ensures.fills.goes in
    let P = Adds (taken c.args.parts.now) start (taken c.pieces.parts) c.pieces.texts in
    let head = c.args.head in
    let new = c.send-in-pieces.new.texts in
    let sent = c.in_ok-given.ensures in
    let kept = c.cut_out.new.bytes.items in
    let whole : kept ≡ take head bytes ++ drop (head + c.last_cut-cut.result) bytes = c.in_ok-cut_out.ensures in
    let room : length c.pieces.bytes.items ≤ length bytes = omega (
      arith,
      ap length goes.bytes,
      length-append c.pieces.bytes.items
          goes.more,
    ) in
    let size : length (take head bytes) ≡ head = length-take-le head bytes (omega (arith, now.within, room)) in
    record {
      opened = c.in_ok-fill.ensures.opened;
      within = omega (arith, ap length whole, length-append (take head bytes) (drop (head + c.last_cut-cut.result) bytes), size);
      head = subst IsHead (sym (ap (take head) whole ∙ take_front head (take head bytes) (drop (head + c.last_cut-cut.result) bytes) size))
          (head_kept c.pieces.bytes.items bytes goes.more head goes.bytes now.within now.head);
      setting = setting_same c.pieces.texts new sent.same now.setting;
      same = same_trans start c.pieces.texts new now.same sent.same;
      reached = λ rest is.
          let all = all_contents (c.args.bytes.items ++ rest) reads in
          let r : Reached all reads left bytes c.pieces.given P = reached_read all reads before left c.pieces.bytes.items bytes
          c.pieces.given P goes (now.reached rest is) in
          let s = c.as_slice-own.result.now in
          let own : s ≡ bytes = c.as_slice-own.ensures.value in
          let r' : Reached all reads left s c.pieces.given P = subst (λ b. Reached all reads left b c.pieces.given P) (sym own) r in
          let room : length c.pieces.bytes.items ≤ length bytes = omega
          (arith, ap length goes.bytes, length-append c.pieces.bytes.items goes.more) in
          let within : head ≤ length s = omega (arith, now.within, room, ap length own) in
          let is_head : IsHead (take head s) = subst (λ b. IsHead (take head b)) (sym own)
          (head_kept c.pieces.bytes.items bytes goes.more head goes.bytes now.within now.head) in
          cut_reached all reads left s c.pieces.given head c.last_cut-cut.result start c.pieces.texts (taken c.args.parts.now)
          (taken c.pieces.parts) r' within is_head c.last_cut-cut.ensures new (taken c.send-in-pieces.new.parts) kept
          c.in_ok-given.given
          (whole ∙ ap (λ (b : List ℕ). take head b ++ drop (head + c.last_cut-cut.result) b) (sym own)) sent.count sent.whole sent.sent;
      input_later = omega (arith, now.input_later, c.in_ok-fill.ensures.later);
      output_later = omega (arith, now.output_later, sent.later);
      query = c.in_ok-fill.ensures.query_kept ∙ now.query;
      steps = omega (arith, now.steps, sent.steps);
    }

-- ---- more pieces than there are

pub returns-clause-same : goal.returns-clause-same
returns-clause-same g c = c.pieces.invariant.same

pub returns-clause-fronts : goal.returns-clause-fronts
returns-clause-fronts g c rest first earlier is holds =
    let taken = g.P.Parts.taken in
    let now = c.pieces.invariant in
    let left = (g.I.Inputs.input c.pieces.inputs Trace).left in
    reached_fronts (all_contents (c.args.bytes.items ++ rest) c.args.reads) c.args.reads left c.pieces.bytes.items c.pieces.given
    c.args.texts.now c.pieces.texts
    (taken c.args.parts.now) (taken c.pieces.parts) first earlier (now.reached rest is) now.same now.setting holds
