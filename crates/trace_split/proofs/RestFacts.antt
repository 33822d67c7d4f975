-- What the parts have taken, however far a trace is split.
use Rattle.std.proofs.Common.{◌≡◌, ℕ, ◌≤◌, List, [], ◌++◌, length, Option, None, Some, refl, sym, ap, subst, ◌∙◌, append-nil, inl, inr}
use Rattle.std.{proofs.Common.{arith, append_assoc, Result, Ok, Err}, specs.{Prelude.{IfErr, IsErrAnd, option_map}, Result.IsErrOf}}
use Rattle.std.specs.Io.KnownBytes.{Consumes, IsAtEnd}
use Rattle.marple_base.specs.{Faults.Rose, declared.{field.{FieldSet.FieldSet, Packet.Packet}, reading.ReadAnswer.ReadAnswer}}
use Rattle.marple_base.specs.declared.reading.ReadAnswer.TheVariants as read
use Rattle.marple_base.specs.declared.write_error.WriteError.{WriteError}
use Rattle.marple_base.specs.declared.write_error.WriteError.TheVariants as write
use Rattle.trace_reader.specs.Faults as reader
use Rattle.trace_reader.specs.{Traces.Contents, declared.fault.TraceAnswer.TraceAnswer}
use Rattle.trace_reader.specs.declared.fault.TraceAnswer.TheVariants as answers
use Rattle.trace_reader.specs.declared.fault.TraceFault.{TraceFault}
use Rattle.trace_pieces.specs.{Faults.after_records, Machine.{EndsBetween, IsHead}, Reads.Goes, Wholes.{all_contents, all_packets}}
use Rattle.trace_pieces.specs.declared.fault.WholeFault.{WholeFault}
use Rattle.trace_split.specs.{Faults.{IfSplitRefused, error_at, error_for}, Holding.{TakeFronts, Taken}}
use Rattle.trace_split.specs.PartTexts.{HoldsPackets, SameSetting, is_setting, parts_of, texts_of}
use Rattle.trace_split.specs.{Pieces.{IfPieceRefused, error_of, write_error_of}, declared.fault.SplitError.SplitError}
use Rattle.trace_split.specs.declared.fault.SplitError.TheVariants as error
use Rattle.trace_split.specs.declared.piece.PieceError.TheVariants as piece
use Rattle.trace_split.{specs.declared.texts.PartTexts.PartTexts, proofs.ReachFacts.{Reached, packets_in_cut, reached_end, read_on}}
use Rattle.trace_split.proofs.{SendFacts.Adds, SettingFacts.{fronts_grow, fronts_of}}

-- what was taken so far is a front of the text of all packets
pub reached_fronts : (all : Contents) (reads : FieldSet) (left : Option (List ℕ)) (bytes : List ℕ) (given : ℕ) (start new : PartTexts)
    (old now first : Taken) (before : List Packet)
    → Reached all reads left bytes given (Adds old start now new) → SameSetting start new → is_setting new
    → HoldsPackets first old start before
    → TakeFronts (parts_of start) first now (texts_of start (before ++ all.packets))
reached_fronts all reads left bytes given start new old now first before h same setting holds =
    let more = (all_contents (bytes ++ h.rest) reads).packets in
    let whole : (before ++ h.sent) ++ more ≡ before ++ all.packets =
    append_assoc before h.sent more ∙ ap (λ (ps : List Packet). before ++ ps) (sym (ap (λ (x : Contents). x.packets) h.contains)) in
    subst (λ ps. TakeFronts (parts_of start) first now (texts_of start ps)) whole
    (fronts_of start new first now (before ++ h.sent) more same setting (h.holds first before holds))

-- none was added
pub adds_none : (now : Taken) (texts : PartTexts) → Adds now texts now texts []
adds_none now texts first before holds = subst (HoldsPackets first now texts) (sym (append-nil before)) holds

-- ---- the last piece

module _ (all : Contents) (reads : FieldSet) (left : Option (List ℕ)) (bytes : List ℕ) (given : ℕ) (P : List Packet → Type 0)
    (end : IsAtEnd left)
    (h : Reached all reads left bytes given P) where
  -- its packets are the last
  pub end_after : (before : List Packet) (piece : List ℕ) → piece ≡ bytes
      → (before ++ h.sent) ++ all_packets piece reads ≡ before ++ all.packets
  end_after before piece is =
      append_assoc before h.sent (all_packets piece reads)
      ∙ ap (λ (ps : List Packet). before ++ ps) (ap (λ t. h.sent ++ all_packets t reads) is
      ∙ sym (ap (λ (x : Contents). x.packets) (reached_end all reads left bytes given P end h)))

  pub end_whole : (all_contents bytes reads).fault ≡ None → all.fault ≡ None
  end_whole none =
      ap (λ (x : Contents). x.fault) (reached_end all reads left bytes given P end h) ∙ ap (option_map (after_records (length h.sent))) none

  pub end_refused : (found : TraceFault) → option_map (after_records given) (all_contents bytes reads).fault ≡ Some found
      → all.fault ≡ Some found
  end_refused found is =
      ap (λ (x : Contents). x.fault) (reached_end all reads left bytes given P end h)
      ∙ ap (λ k. option_map (after_records k) (all_contents bytes reads).fault) h.size ∙ is

-- ---- a piece that broke off

pub cut_fronts : (all : Contents) (reads : FieldSet) (left : Option (List ℕ)) (bytes : List ℕ) (given : ℕ) (P : List Packet → Type 0)
    (r : Reached all reads left bytes given P) (h c p : List ℕ) → bytes ≡ h ++ (c ++ p) → IsHead h → EndsBetween c
    → (start new : PartTexts) (first now : Taken) (before : List Packet) → SameSetting start new
    → TakeFronts (parts_of new) first now (texts_of new (before ++ (r.sent ++ (all_contents (h ++ c) reads).packets)))
    → TakeFronts (parts_of start) first now (texts_of start (before ++ all.packets))
cut_fronts all reads left bytes given P r h c p whole head between start new first now before same fronts =
    let more = packets_in_cut all reads left bytes given P r h c p whole head between in
    let sent = r.sent ++ (all_contents (h ++ c) reads).packets in
    let goes_on : (before ++ sent) ++ more.0 ≡ before ++ all.packets =
    append_assoc before sent more.0 ∙ ap (λ (ps : List Packet). before ++ ps) (sym more.1) in
    subst (λ ps. TakeFronts (parts_of start) first now (texts_of start ps)) goes_on
    (fronts_grow start new first now (before ++ sent) more.0 same fronts)

-- ---- answers

-- what wasn't read or written is no refusal
pub unread_refuses : (answer : ReadAnswer) (P : WholeFault → Type 0) → IfSplitRefused (error_at answer) P
unread_refuses read.Failed P = tt
unread_refuses read.Memory P = tt

pub unwritten_refuses : (answer : WriteError) (P : WholeFault → Type 0) → IfSplitRefused (error_for answer) P
unwritten_refuses write.Failed P = tt
unwritten_refuses write.Memory P = tt

pub unwritten_is_no_refusal : (answer : WriteError) (P : TraceFault → Type 0) → IfPieceRefused (write_error_of answer) P
unwritten_is_no_refusal write.Failed P = tt
unwritten_is_no_refusal write.Memory P = tt

pub written_failed : (answer : WriteError) → write_error_of answer ≡ piece.OutputFault → answer ≡ write.Failed
written_failed write.Failed e = refl
written_failed write.Memory e = absurd (cc e)

-- what is a refusal of the piece is one of the trace in it
pub piece_refusal : (answer : TraceAnswer) (P Q : TraceFault → Type 0) → ((found : TraceFault) → P found → Q found)
    → reader.IfRefused answer P
    → IfPieceRefused (error_of answer) Q
piece_refusal (answers.Refused found) P Q so holds = so found holds
piece_refusal answers.Memory P Q so holds = tt

pub no_output_fault : (answer : TraceAnswer) → error_of answer ≡ piece.OutputFault → ⊥
no_output_fault (answers.Refused found) e = absurd (cc e)
no_output_fault answers.Memory e = absurd (cc e)

-- ---- the whole trace

-- what was read of a trace from its beginning, and what is left of it
pub goes_all : (left later : Option (List ℕ)) (bytes trace : List ℕ) → Goes left later [] bytes → left ≡ Some trace
    → (rest : List ℕ) × (later ≡ Some rest) × (bytes ++ rest ≡ trace)
goes_all left later bytes trace goes is =
    let on = read_on trace goes.more later (subst (λ (l : Option (List ℕ)). Consumes l later goes.more) is goes.consumed) in
    (on.0, on.1, ap (λ b. b ++ on.0) goes.bytes ∙ sym on.2)

pub goes_end : (left later : Option (List ℕ)) (bytes trace : List ℕ) → Goes left later [] bytes → left ≡ Some trace → IsAtEnd later
    → bytes ≡ trace
goes_end left later bytes trace goes is end =
    let all = goes_all left later bytes trace goes is in
    let none : all.0 ≡ [] = subst IsAtEnd all.1 end in
    sym (append-nil bytes) ∙ ap (λ r. bytes ++ r) (sym none) ∙ all.2

-- a count that rose after it hadn't fallen
pub rose_from : (first before now : ℕ) → first ≤ before → Rose before now → Rose first now
rose_from first before now later rose = elim rose [
  | inl less ↦ inl (omega (arith, later, less))
  | inr last ↦ inr last
]

-- what is no refusal is a refusal for any reason
pub none_refuses : (answer : SplitError) (P : WholeFault → Type 0) → IfSplitRefused answer (λ _. ⊥) → IfSplitRefused answer P
none_refuses (error.Refused found) P never = absurd never
none_refuses error.InputFault P never = tt
none_refuses error.OutputFault P never = tt
none_refuses error.Memory P never = tt

pub refused_so : (answer : SplitError) (P Q : WholeFault → Type 0) → ((found : WholeFault) → P found → Q found) → IfSplitRefused answer P
    → IfSplitRefused answer Q
refused_so (error.Refused found) P Q so holds = so found holds
refused_so error.InputFault P Q so holds = tt
refused_so error.OutputFault P Q so holds = tt
refused_so error.Memory P Q so holds = tt

pub err_refused : {A : Type 0} (result : Result A SplitError) (P Q : WholeFault → Type 0) → ((found : WholeFault) → P found → Q found)
    → IfErr result (λ fault. IfSplitRefused fault P) → IfErr result (λ fault. IfSplitRefused fault Q)
err_refused (Ok done) P Q so holds = tt
err_refused (Err fault) P Q so holds = refused_so fault P Q so holds

-- what follows of a result from what is known of its error
pub refused_by : {A : Type 0} (result : Result A SplitError) (answer : SplitError) (P : WholeFault → Type 0)
    → IsErrAnd result (λ found. found ≡ answer)
    → IfSplitRefused answer P → IfErr result (λ fault. IfSplitRefused fault P)
refused_by (Ok done) answer P is known = tt
refused_by (Err fault) answer P is known = subst (λ e. IfSplitRefused e P) (sym is) known

-- the error that a result has is the one that it was made of
pub err_is : {A B : Type 0} (result : Result A SplitError) (answer found : SplitError) → IsErrAnd result (λ fault. fault ≡ answer)
    → IsErrOf result found → IsErrOf {T = B} {E = SplitError} (Err answer) found
err_is (Ok done) answer found is of = absurd is
err_is {A} {B} (Err fault) answer found is of =
    let same : answer ≡ found = cc (is, of) in
    subst (λ (e : SplitError). IsErrOf {T = B} {E = SplitError} (Err answer) e) same refl
