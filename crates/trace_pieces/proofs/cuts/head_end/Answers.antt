-- The first byte that leads out of a record to between two ends the head, and no record ends before it.
use Rattle.std.proofs.Common.{◌≡◌, ℕ, List, ◌+◌, ◌-◌, ◌∙◌, false, true, ap, arith, drop, get_or, length, rules, subst, sym, take}
use Rattle.std.proofs.lemmas.List.{take_more}
use Rattle.csv.specs.Machine.{ends_at_end, is_end}
use Rattle.marple_base.proofs.Bytes.{range_from}
use Rattle.trace_pieces.specs.Machine.{IsHead, mark_len, state_of}
use Rattle.trace_pieces.proofs.HeadFacts.{Inside, head_here, in_record, inside_more, inside_start, none_between, none_inside}
use Rattle.trace_reader.proofs.RowFacts.{does}
use Rattle.trace_pieces.proofs.cuts.head_end.Goals as goal
use Rattle.trace_pieces.proofs.cuts.head_end.Goals.{else-is_between-via-then-is_between+else-not-is_between}
use Rattle.trace_pieces.proofs.cuts.head_end.Goals.{else-is_between-via-else-is_between}

pub loop-i-init : goal.loop-i-init
loop-i-init c = inside_start

pub returns-then-not-is_between-clause-head : goal.returns-then-not-is_between-clause-head
returns-then-not-is_between-clause-head c =
    let text = c.args.text.now in
    let mark = c.mark_len-mark.result in
    let i = c.loop-i.i in
    let rest = take (length text - mark) (drop mark text) in
    let is : rest ≡ drop (mark_len text) text =
    range_from mark text (omega (arith, c.mark_len-mark.ensures.within, c.requires)) ∙ ap (λ m. drop m text) c.mark_len-mark.ensures.len in
    let out : c.is_between-then-is_between.result ≡ false = search rules in
    let inside = in_record c.is_between-then-is_between.result (ends_at_end (state_of c.loop-i.place)) c.is_between-then-is_between.ensures
    out in
    let between : ends_at_end (does (state_of c.loop-i.place) (get_or rest i 0)).0 ≡ false =
    ap ends_at_end (sym c.after-next.ensures) ∙ c.is_between.ensures.0 (search rules) in
    subst (λ m. IsHead (take (m + i + 1) text)) (sym c.mark_len-mark.ensures.len)
    (head_here text rest i (state_of c.loop-i.place) c.requires is c.loop-i-test.true c.loop-i.invariant inside between)

pub loop-i-preserved : goal.loop-i-preserved
loop-i-preserved c =
    let text = c.args.text.now in
    let mark = c.mark_len-mark.result in
    let i = c.loop-i.i in
    let rest = take (length text - mark) (drop mark text) in
    let s = state_of c.loop-i.place in
    let byte = get_or rest i 0 in
    let goes : is_end (does s byte).1 ≡ false = elim c.else-is_between.branch [
      | else-is_between-via-then-is_between+else-not-is_between w ↦
          let here : w.is_between-then-is_between.result ≡ true = search rules in
          none_between s byte (w.is_between-then-is_between.ensures.0 here)
      | else-is_between-via-else-is_between w ↦
          let out : c.is_between.result ≡ false = search rules in
          none_inside s byte (ap ends_at_end (sym c.after-next.ensures)
          ∙ in_record c.is_between.result (ends_at_end (state_of c.after-next.result)) c.is_between.ensures out)
    ] in
    let more = inside_more (take i rest) s byte c.loop-i.invariant goes in
    let taken : Inside (take (i + 1) rest) (does s byte).0 = subst (λ (t : List ℕ). Inside t (does s byte).0)
    (sym (take_more rest i 0 c.loop-i-test.true)) more in
    subst (Inside (take (i + 1) rest)) (sym c.after-next.ensures) taken
