-- The texts of the parts before this one have ended, and a part that fails has a front of its own.
use Rattle.std.{proofs.{Common.{◌≡◌, ◌∙◌, [], arith, get_or, subst}, lemmas.List.get_or_read}, specs.Io.KnownBytes.Appends}
use Rattle.marple_base.{specs.Sink.TakesFront, proofs.Pieces.on_err}
use Rattle.trace_split.{specs.PartTexts.texts_of, proofs.HoldFacts.{ended_all, ended_front, ended_more, ended_none}}
use Rattle.trace_split.proofs.texts.PartTexts.finish.Goals as goal

pub loop-part-init : goal.loop-part-init
loop-part-init g c = record { ended = ended_none (g.P.Parts.taken c.args.parts.now) c.args.self.now.waiting.items; later = omega arith }

pub loop-part-preserved : goal.loop-part-preserved
loop-part-preserved g c =
    let taken = g.P.Parts.taken in
    let waiting = c.args.self.now.waiting.items in
    let part = c.loop-part.part in
    let now = taken c.loop-part.parts in
    let new = taken c.write_part.new.parts in
    let bytes = c.index.result.now in
    let is : bytes ≡ get_or waiting part [] = get_or_read waiting part bytes (omega (arith, c.requires.buffers, c.loop-part-test.true))
    c.index.ensures [] in
    let wrote : Appends (now part) (new part) (get_or waiting part []) =
    subst (Appends (now part) (new part)) (c.as_slice.ensures ∙ is) c.in_ok-write_part.ensures.ok in
    record {
      ended = ended_more (taken c.args.parts.now) now new waiting part c.loop-part.invariant.ended wrote c.in_ok-write_part.ensures.others;
      later = omega (arith, c.loop-part.invariant.later, c.in_ok-write_part.ensures.cause.later);
    }

pub returns-in_err-write_part-clause-err : goal.returns-in_err-write_part-clause-err
returns-in_err-write_part-clause-err g c =
    let taken = g.P.Parts.taken in
    let texts = c.args.self.now in
    let waiting = texts.waiting.items in
    let part = c.loop-part.part in
    let now = taken c.loop-part.parts in
    let new = taken c.write_part.new.parts in
    let bytes = c.index.result.now in
    let is : bytes ≡ get_or waiting part [] = get_or_read waiting part bytes (omega (arith, c.requires.buffers, c.loop-part-test.true))
    c.index.ensures [] in
    let front : TakesFront (now part) (new part) (get_or waiting part []) =
    subst (TakesFront (now part) (new part)) (c.as_slice.ensures ∙ is) c.in_err-write_part.ensures.front in
    on_err c.from_residual.result _ (λ first sent holds.
    ended_front first (taken c.args.parts.now) now new waiting (texts_of texts sent) texts.parts part c.requires.buffers
    c.loop-part-test.true holds
    c.loop-part.invariant.ended front c.in_err-write_part.ensures.others)

pub returns-clause-ok : goal.returns-clause-ok
returns-clause-ok g c first sent holds =
    let taken = g.P.Parts.taken in
    let texts = c.args.self.now in
    ended_all first (taken c.args.parts.now) (taken c.loop-part.parts) texts.waiting.items (texts_of texts sent) texts.parts
    c.loop-part.part c.requires.buffers
    c.loop-part-test.false holds c.loop-part.invariant.ended
