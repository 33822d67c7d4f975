-- The code of a fold, its algebra and the places of its variables are sound rows, and those of the fold.
use Rattle.std.proofs.Common.{sym, subst}
use Rattle.fold_class.{specs.{Rows.rows_from, Program.IsRowsOf}, proofs.ProgramLemmas.{sound_rows, rows_are}}
use Rattle.fold_class.proofs.classifier.rows_of.Goals as goal

pub new-requires : goal.new-requires
new-requires c =
    let p = c.in_ok-places.places in
    let rows = rows_from c.in_ok-code.code c.args.algebra p.origins p.linear p.history in
    sound_rows c.args.f.now rows c.requires.valid c.in_ok-code.ensures.meaning c.in_ok-code.ensures.instrs c.requires.algebra
    c.in_ok-places.ensures.origins c.in_ok-places.ensures.linear c.in_ok-places.ensures.history

pub returns : goal.returns
returns c =
    let p = c.in_ok-places.places in
    let rows = rows_from c.in_ok-code.code c.args.algebra p.origins p.linear p.history in
    subst (IsRowsOf c.args.f.now) (sym c.new.ensures)
    (rows_are c.args.f.now rows c.requires.valid c.in_ok-code.ensures.meaning c.in_ok-code.ensures.instrs c.requires.algebra
    c.in_ok-places.ensures.origins c.in_ok-places.ensures.linear c.in_ok-places.ensures.history)
