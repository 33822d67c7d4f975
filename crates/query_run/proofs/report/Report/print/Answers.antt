-- Each report is written by the call for its variant. What is shown of the tables is what the bounds print of them, and without
-- memory for it nothing is written.
use Rattle.std.proofs.Common.{◌++◌, OnErr, OnOk, subst}
use Rattle.marple_base.{specs.{Sink.TakesFront, Pieces.TakesAllBut}, proofs.Pieces.{none_taken, on_err}}
use Rattle.enclosed_query.specs.EnclosedTables.{enclosed_print}
use Rattle.query_run.specs.Reports.{printed_by}
use Rattle.query_run.proofs.report.Report.print.Goals as goal

pub returns-in_err-groups-in-Bounds-clause-err : goal.returns-in_err-groups-in-Bounds-clause-err
returns-in_err-groups-in-Bounds-clause-err g c = on_err c.from_residual.result _
    (none_taken (g.O.Sink.taken c.args.out.now) (c.args.text.now ++ printed_by c.args.self.now c.args.tables))

pub returns-in_ok-groups-in-Bounds-clause-ok : goal.returns-in_ok-groups-in-Bounds-clause-ok
returns-in_ok-groups-in-Bounds-clause-ok g c =
    rw c.in-Bounds.is (subst (λ groups. OnOk c.write_enclosed.result (TakesAllBut (g.O.Sink.taken c.args.out.now)
    (g.O.Sink.taken c.write_enclosed.new.out) c.write_enclosed.new.text (c.args.text.now ++ enclosed_print c.in-Bounds.typed groups)))
    c.in_ok-groups-in-Bounds.ensures.made c.write_enclosed.ensures.ok)

pub returns-in_ok-groups-in-Bounds-clause-err : goal.returns-in_ok-groups-in-Bounds-clause-err
returns-in_ok-groups-in-Bounds-clause-err g c =
    rw c.in-Bounds.is (subst (λ groups. OnErr c.write_enclosed.result (TakesFront (g.O.Sink.taken c.args.out.now)
    (g.O.Sink.taken c.write_enclosed.new.out) (c.args.text.now ++ enclosed_print c.in-Bounds.typed groups)))
    c.in_ok-groups-in-Bounds.ensures.made c.write_enclosed.ensures.err)
