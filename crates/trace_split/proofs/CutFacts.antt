-- A piece that was cut out of the bytes that are held.
use Rattle.std.proofs.Common.{◌≡◌, ℕ, ◌+◌, ◌-◌, ◌≤◌, List, [], ◌++◌, length, take, drop, Option, None, Some, sym, ap, subst, ◌∙◌, arith}
use Rattle.std.{proofs.{Common.append_assoc, lemmas.List.{take-append-le, take_all}}, specs.Prelude.option_map}
use Rattle.marple_base.{proofs.Bytes.range_from, specs.declared.field.{FieldSet.FieldSet, Packet.Packet}}
use Rattle.trace_reader.specs.{Traces.Contents, declared.fault.TraceFault.TraceFault}
use Rattle.trace_pieces.specs.{Faults.after_records, Machine.{EndsBetween, IsCut, IsHead}, Wholes.{all_contents, all_packets, first_fault}}
use Rattle.trace_split.specs.{Holding.{TakeFronts, Taken}, PartTexts.{HoldsPackets, SameSetting, is_setting, parts_of, texts_of}}
use Rattle.trace_split.specs.declared.texts.PartTexts.{PartTexts}
use Rattle.trace_split.proofs.{ReachFacts.{IsPiece, Reached, packets_in_cut, piece_of, reached_cut, refused_in_cut}, RestFacts.cut_fronts}
use Rattle.trace_split.proofs.{SendFacts.Adds, SettingFacts.fronts_of}

module _ (all : Contents) (reads : FieldSet) (left : Option (List ℕ)) (s : List ℕ) (given head cut : ℕ) (start texts : PartTexts)
    (old mid : Taken)
    (r : Reached all reads left s given (Adds old start mid texts)) (within : head ≤ length s) (is_head : IsHead (take head s))
    (is_cut : IsCut (take (length s - head) (drop head s)) cut) where
  abbrev h : List ℕ
  h = take head s

  abbrev c : List ℕ
  c = take cut (drop head s)

  abbrev p : List ℕ
  p = drop (head + cut) s

  parts : IsPiece s head cut h c p
  parts = piece_of s head cut

  between : EndsBetween c
  between = subst (λ t. EndsBetween (take cut t)) (range_from head s within) is_cut.between

  abbrev piece : List ℕ
  piece = take (head + cut) s

  -- its packets were sent
  pub cut_reached : (new : PartTexts) (now : Taken) (kept : List ℕ) (count : ℕ) → kept ≡ take head s ++ drop (head + cut) s
      → count ≡ given + length (all_packets piece reads) → first_fault piece reads ≡ None
      → ((first : Taken) (before : List Packet) → HoldsPackets first mid texts before
      → HoldsPackets first now new (before ++ all_packets piece reads))
      → Reached all reads left kept count (Adds old start now new)
  cut_reached new now kept count is counted none sent =
      let one : all_contents piece reads ≡ all_contents (h ++ c) reads = ap (λ t. all_contents t reads) parts.piece in
      reached_cut all reads left s given (Adds old start mid texts) r h c p parts.whole is_head between kept count
      (Adds old start now new) is
      (counted ∙ ap (λ (x : Contents). given + length x.packets) one) (sym (ap (λ (x : Contents). x.fault) one) ∙ none)
      (λ given_it holds first before held.
      let whole : (before ++ given_it) ++ all_packets piece reads ≡ before ++ (given_it ++ (all_contents (h ++ c) reads).packets) =
      append_assoc before given_it (all_packets piece reads)
      ∙ ap (λ (x : Contents). before ++ (given_it ++ x.packets)) one in
      subst (HoldsPackets first now new) whole (sent first (before ++ given_it) (holds first before held)))

  -- it has a fault
  pub cut_refused : (found : TraceFault) → option_map (after_records given) (first_fault piece reads) ≡ Some found → all.fault ≡ Some found
  cut_refused found is =
      let one : all_contents piece reads ≡ all_contents (h ++ c) reads = ap (λ t. all_contents t reads) parts.piece in
      refused_in_cut all reads left s given (Adds old start mid texts) r h c p parts.whole is_head between found
      (sym (ap (λ (x : Contents). option_map (after_records given) x.fault) one) ∙ is)

  -- some of it was sent
  pub cut_broke : (now first : Taken) (before : List Packet) → SameSetting start texts → HoldsPackets first old start before
      → ((first_taken : Taken) (earlier : List Packet) → HoldsPackets first_taken mid texts earlier
      → TakeFronts (parts_of texts) first_taken now (texts_of texts (earlier ++ all_packets piece reads)))
      → TakeFronts (parts_of start) first now (texts_of start (before ++ all.packets))
  cut_broke now first before same holds fronts =
      let whole : (before ++ r.sent) ++ all_packets piece reads ≡ before ++ (r.sent ++ (all_contents (h ++ c) reads).packets) =
      append_assoc before r.sent (all_packets piece reads) ∙ ap (λ t. before ++ (r.sent ++ all_packets t reads)) parts.piece in
      cut_fronts all reads left s given (Adds old start mid texts) r h c p parts.whole is_head between start texts first now before same
      (subst (λ ps. TakeFronts (parts_of texts) first now (texts_of texts ps)) whole
      (fronts first (before ++ r.sent) (r.holds first before holds)))

  -- its packets were sent, and it is where that ended
  pub cut_ended : (new : PartTexts) (now first : Taken) (before : List Packet) → SameSetting start new → is_setting new
      → HoldsPackets first old start before
      → ((first_taken : Taken) (earlier : List Packet) → HoldsPackets first_taken mid texts earlier
      → HoldsPackets first_taken now new (earlier ++ all_packets piece reads))
      → TakeFronts (parts_of start) first now (texts_of start (before ++ all.packets))
  cut_ended new now first before same setting holds sent =
      let one : all_packets piece reads ≡ (all_contents (h ++ c) reads).packets = ap (λ t. all_packets t reads) parts.piece in
      let more = packets_in_cut all reads left s given (Adds old start mid texts) r h c p parts.whole is_head between in
      let its = all_packets piece reads in
      let whole : ((before ++ r.sent) ++ its) ++ more.0 ≡ before ++ all.packets =
      ap (λ (ps : List Packet). ps ++ more.0) (append_assoc before r.sent its) ∙ append_assoc before (r.sent ++ its) more.0
      ∙ ap (λ (ps : List Packet). before ++ ps) (ap (λ ps. (r.sent ++ ps) ++ more.0) one ∙ sym more.1) in
      subst (λ ps. TakeFronts (parts_of start) first now (texts_of start ps)) whole
      (fronts_of start new first now ((before ++ r.sent) ++ its) more.0 same setting
      (sent first (before ++ r.sent) (r.holds first before holds)))

-- ---- the first bytes

pub take_front : (n : ℕ) (xs more : List ℕ) → length xs ≡ n → take n (xs ++ more) ≡ xs
take_front n xs more size = take-append-le n xs more (omega (arith, size)) ∙ take_all n xs (omega (arith, size))
