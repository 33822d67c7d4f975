-- Bytes that wait with room made beside them wait with the line after them, and the other parts stay.
use Rattle.std.proofs.Common.{◌++◌, subst, sym}
use Rattle.marple_base.{specs.Pieces.TakesAllBut, proofs.Pieces.{front_is_taken, more_waits, on_err}}
use Rattle.trace_split.proofs.parts.add_line.Goals as goal

pub returns-clause-ok : goal.returns-clause-ok
returns-clause-ok g c =
    let taken = g.P.Parts.taken in
    let part = c.args.part in
    let old = taken c.args.parts.now part in
    let new = taken c.make_room.new.parts part in
    let text = c.args.waiting.now ++ c.args.line.now in
    subst (λ w. TakesAllBut old new w text) (sym c.in_ok-push_slice.ensures.ok)
    (more_waits old new c.make_room.new.waiting c.args.waiting.now c.args.line.now c.in_ok-make_room.ensures.ok)

pub returns-in_err-push_slice-clause-err : goal.returns-in_err-push_slice-clause-err
returns-in_err-push_slice-clause-err g c =
    let taken = g.P.Parts.taken in
    let part = c.args.part in
    on_err c.from_residual-in_err-push_slice.result _
    (front_is_taken (taken c.args.parts.now part) (taken c.make_room.new.parts part) c.make_room.new.waiting c.args.waiting.now
    c.in_ok-make_room.ensures.ok)
