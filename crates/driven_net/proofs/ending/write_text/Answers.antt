-- Whether writing the tables or the last bytes fails, the sink has some first bytes of what the query prints.
use Rattle.std.proofs.Common.{ℕ, List, Err, None, ◌++◌, ap, refl, subst}
use Rattle.marple_base.{specs.{Sink.TakesFront, Pieces.TakesAllBut}, proofs.Pieces.{front_taken, rest_taken}}
use Rattle.query_lang.specs.declared.typed.TypedQuery.{TypedQuery}
use Rattle.final_queries.specs.{declared.table.Table.Table, Finals.with_finals}
use Rattle.query_tables.specs.Tables.{printed}
use Rattle.trace_drive.specs.{Answers.answer_of, declared.answer.RunError.TheVariants.Failed}
use Rattle.trace_drive.proofs.Breaking.{err_is, rose_since, unwritten}
use Rattle.driven_net.proofs.ending.write_text.Goals as goal

-- what the query prints, where these are the tables of its groupbys
abbrev text_of : TypedQuery → List Table → List ℕ
text_of q tables = printed q (with_finals q.names q.folds tables q.finals)

pub returns-in_err-write_tables-clause-breaks_off : goal.returns-in_err-write_tables-clause-breaks_off
returns-in_err-write_tables-clause-breaks_off g c =
    let whole = text_of c.args.typed.now c.args.tables in
    let old = c.args.out.now in
    let new = c.write_tables.new.out in
    let answer = c.in_err-write_tables.field-0.0 in
    err_is _ _ (answer_of answer) c.from_residual.ensures.1
    (unwritten g.O.Sink.taken g.O.Sink.faults whole None old new refl answer (λ is. c.in_err-write_tables.ensures.failed (ap Err is))
    (subst (λ first. TakesFront (g.O.Sink.taken old) (g.O.Sink.taken new) (first ++ whole)) c.new-text.ensures
    c.in_err-write_tables.ensures.err))

pub returns-in_err-write_rest-clause-breaks_off : goal.returns-in_err-write_rest-clause-breaks_off
returns-in_err-write_rest-clause-breaks_off g c =
    let whole = text_of c.args.typed.now c.args.tables in
    let old = c.args.out.now in
    let mid = c.write_tables.new.out in
    let new = c.write_rest.new.out in
    let waits = c.write_tables.new.text in
    err_is _ _ Failed c.from_residual-in_err-write_rest.ensures.1 (
      refl,
      rose_since (g.O.Sink.faults old) (g.O.Sink.faults mid) (g.O.Sink.faults new) c.write_tables.ensures.out_later
          c.in_err-write_rest.ensures.cause.failed,
      front_taken (g.O.Sink.taken old) (g.O.Sink.taken mid) (g.O.Sink.taken new) waits whole
          (subst (λ first. TakesAllBut (g.O.Sink.taken old) (g.O.Sink.taken mid) waits (first ++ whole)) c.new-text.ensures
          c.in_ok-write_tables.ensures.ok) c.in_err-write_rest.ensures.front,
    )

pub returns-clause-written : goal.returns-clause-written
returns-clause-written g c =
    let whole = text_of c.args.typed.now c.args.tables in
    let old = g.O.Sink.taken c.args.out.now in
    let mid = g.O.Sink.taken c.write_tables.new.out in
    let waits = c.write_tables.new.text in
    rest_taken old mid (g.O.Sink.taken c.write_rest.new.out) waits whole
    (subst (λ first. TakesAllBut old mid waits (first ++ whole)) c.new-text.ensures c.in_ok-write_tables.ensures.ok)
    c.in_ok-write_rest.ensures.ok
