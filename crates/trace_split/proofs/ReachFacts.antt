-- How far a trace is split.
use Rattle.std.proofs.Common.{◌≡◌, ℕ, ◌+◌, ◌≤◌, List, [], ◌++◌, length, take, drop, Option, None, Some, refl, sym, ap, subst, ◌∙◌}
use Rattle.std.proofs.{Common.{append_assoc, append-nil, length-append, arith}, Math.Seq.take-add}
use Rattle.std.{proofs.lemmas.List.{take-append-drop, take-append-le}, specs.{Prelude.option_map, Io.KnownBytes.{Consumes, IsAtEnd}}}
use Rattle.marple_base.specs.declared.field.{FieldSet.FieldSet, Packet.Packet}
use Rattle.trace_reader.specs.{Traces.Contents, declared.fault.TraceFault.TraceFault}
use Rattle.trace_pieces.specs.{Faults.after_records, Machine.{EndsBetween, IsHead}, Reads.Goes, Wholes.all_contents}
use Rattle.trace_pieces.proofs.ContentFacts.{after, after_after, after_none, piece_refused, piece_sent}

-- The contents of the trace are these packets that were sent and, after them, those of the bytes that are held and of the bytes
-- that are left; and P holds of the packets that were sent.
pub record Reached (all : Contents) (reads : FieldSet) (left : Option (List ℕ)) (bytes : List ℕ) (given : ℕ)
    (P : List Packet → Type 0) : Type 0 where
  pub rest : List ℕ
  pub is_left : left ≡ Some rest
  pub sent : List Packet
  pub size : length sent ≡ given
  pub contains : all ≡ after sent (all_contents (bytes ++ rest) reads)
  pub holds : P sent

pub reached_none : (reads : FieldSet) (left : Option (List ℕ)) (bytes rest : List ℕ) (P : List Packet → Type 0) → left ≡ Some rest → P []
    → Reached (all_contents (bytes ++ rest) reads) reads left bytes 0 P
reached_none reads left bytes rest P is holds = record {
  rest = rest;
  is_left = is;
  sent = [];
  size = refl;
  contains = sym (after_none (all_contents (bytes ++ rest) reads));
  holds = holds;
}

-- what is left after some of it was read
pub read_on : (rest more : List ℕ) (after_it : Option (List ℕ)) → Consumes (Some rest) after_it more → (later : List ℕ)
    × (after_it ≡ Some later) × (rest ≡ more ++ later)
read_on rest more None reads = absurd reads
read_on rest more (Some later) reads = (later, refl, reads)

-- some more was read
pub reached_read : (all : Contents) (reads : FieldSet) (left later : Option (List ℕ)) (bytes held : List ℕ) (given : ℕ)
    (P : List Packet → Type 0)
    → Goes left later bytes held → Reached all reads left bytes given P → Reached all reads later held given P
reached_read all reads left later bytes held given P goes h =
    let on = read_on h.rest goes.more later (subst (λ (l : Option (List ℕ)). Consumes l later goes.more) h.is_left goes.consumed) in
    let whole : bytes ++ h.rest ≡ held ++ on.0 =
    ap (λ r. bytes ++ r) on.2 ∙ sym (append_assoc bytes goes.more on.0) ∙ ap (λ b. b ++ on.0) (sym goes.bytes) in
    record {
      rest = on.0;
      is_left = on.1;
      sent = h.sent;
      size = h.size;
      contains = h.contains ∙ ap (λ t. after h.sent (all_contents t reads)) whole;
      holds = h.holds;
    }

-- P of more
pub reached_so : (all : Contents) (reads : FieldSet) (left : Option (List ℕ)) (bytes : List ℕ) (given : ℕ) (P Q : List Packet → Type 0)
    → ((sent : List Packet) → P sent → Q sent) → Reached all reads left bytes given P → Reached all reads left bytes given Q
reached_so all reads left bytes given P Q so h = record {
  rest = h.rest;
  is_left = h.is_left;
  sent = h.sent;
  size = h.size;
  contains = h.contains;
  holds = so h.sent h.holds;
}

-- at the end of the input the bytes that are held are the rest of the trace
pub reached_end : (all : Contents) (reads : FieldSet) (left : Option (List ℕ)) (bytes : List ℕ) (given : ℕ) (P : List Packet → Type 0)
    → IsAtEnd left
    → (h : Reached all reads left bytes given P) → all ≡ after h.sent (all_contents bytes reads)
reached_end all reads left bytes given P end h =
    let none : h.rest ≡ [] = subst IsAtEnd h.is_left end in
    h.contains ∙ ap (λ t. after h.sent (all_contents t reads)) (ap (λ r. bytes ++ r) none ∙ append-nil bytes)

-- ---- a piece

-- bytes with a head, cut after it
pub record IsPiece (bytes : List ℕ) (head cut : ℕ) (h c p : List ℕ) : Type 0 where
  pub whole : bytes ≡ h ++ (c ++ p)
  pub piece : take (head + cut) bytes ≡ h ++ c
  pub kept : take head bytes ++ drop (head + cut) bytes ≡ h ++ p

pub piece_of : (bytes : List ℕ) (head cut : ℕ) → IsPiece bytes head cut (take head bytes) (take cut (drop head bytes))
    (drop (head + cut) bytes)
piece_of bytes head cut =
    let piece = take-add head cut bytes in
    record {
      whole =
          sym (take-append-drop (head + cut) bytes) ∙ ap (λ t. t ++ drop (head + cut) bytes) piece
          ∙ append_assoc (take head bytes) (take cut (drop head bytes)) (drop (head + cut) bytes);
      piece = piece;
      kept = refl;
    }

whole_rest : (bytes h c p rest : List ℕ) → bytes ≡ h ++ (c ++ p) → bytes ++ rest ≡ h ++ (c ++ (p ++ rest))
whole_rest bytes h c p rest is =
    ap (λ b. b ++ rest) is ∙ append_assoc h (c ++ p) rest ∙ ap (λ t. h ++ t) (append_assoc c p rest)

module _ (all : Contents) (reads : FieldSet) (left : Option (List ℕ)) (bytes : List ℕ) (given : ℕ) (P : List Packet → Type 0)
    (r : Reached all reads left bytes given P) (h c p : List ℕ) (is_whole : bytes ≡ h ++ (c ++ p)) (head : IsHead h)
    (between : EndsBetween c) where
  abbrev one : Contents
  one = all_contents (h ++ c) reads

  in_pieces : all ≡ after r.sent (all_contents (h ++ (c ++ (p ++ r.rest))) reads)
  in_pieces = r.contains ∙ ap (λ t. after r.sent (all_contents t reads)) (whole_rest bytes h c p r.rest is_whole)

  -- its packets were sent
  pub reached_cut : (kept : List ℕ) (count : ℕ) (Q : List Packet → Type 0) → kept ≡ h ++ p → count ≡ given + length one.packets
      → one.fault ≡ None
      → ((sent : List Packet) → P sent → Q (sent ++ one.packets)) → Reached all reads left kept count Q
  reached_cut kept count Q is counted none so = record {
    rest = r.rest;
    is_left = r.is_left;
    sent = r.sent ++ one.packets;
    size = omega (arith, length-append r.sent one.packets, r.size, counted);
    contains =
        in_pieces ∙ ap (after r.sent) (piece_sent h c (p ++ r.rest) reads head between none)
        ∙ after_after r.sent one.packets (all_contents (h ++ (p ++ r.rest)) reads)
        ∙ ap (λ t. after (r.sent ++ one.packets) (all_contents t reads)) (sym (append_assoc h p r.rest) ∙ ap (λ k. k ++ r.rest) (sym is));
    holds = so r.sent r.holds;
  }

  -- it has a fault
  cut_refused : (found : TraceFault) → one.fault ≡ Some found → all ≡ after r.sent one
  cut_refused found is = in_pieces ∙ ap (after r.sent) (piece_refused h c (p ++ r.rest) reads found head between is)

  pub refused_in_cut : (found : TraceFault) → option_map (after_records given) one.fault ≡ Some found → all.fault ≡ Some found
  refused_in_cut found is = by one.fault refl is
    where
      by : (o : Option TraceFault) → one.fault ≡ o → option_map (after_records given) o ≡ Some found → all.fault ≡ Some found
      by None e none = absurd (cc none)
      by (Some bad) e some =
          ap (λ (x : Contents). x.fault) (cut_refused bad e) ∙ ap (λ k. option_map (after_records k) one.fault) r.size
          ∙ ap (option_map (after_records given)) e ∙ some

  -- whether or not it has a fault, the trace goes on with its packets
  pub packets_in_cut : (more : List Packet) × (all.packets ≡ (r.sent ++ one.packets) ++ more)
  packets_in_cut = by one.fault refl
    where
      by : (o : Option TraceFault) → one.fault ≡ o → (more : List Packet) × (all.packets ≡ (r.sent ++ one.packets) ++ more)
      by None e = (
        (all_contents (h ++ (p ++ r.rest)) reads).packets,
        ap (λ (x : Contents). x.packets) (in_pieces ∙ ap (after r.sent) (piece_sent h c (p ++ r.rest) reads head between e))
            ∙ sym (append_assoc r.sent one.packets (all_contents (h ++ (p ++ r.rest)) reads).packets),
      )
      by (Some bad) e = ([], ap (λ (x : Contents). x.packets) (cut_refused bad e) ∙ sym (append-nil (r.sent ++ one.packets)))

-- the head stays as more is read
pub head_kept : (bytes held more : List ℕ) (head : ℕ) → held ≡ bytes ++ more → head ≤ length bytes → IsHead (take head bytes)
    → IsHead (take head held)
head_kept bytes held more head is within h = subst IsHead (sym (ap (take head) is ∙ take-append-le head bytes more within)) h
