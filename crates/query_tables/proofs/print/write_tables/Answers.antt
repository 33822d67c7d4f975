-- With as many groupbys as the query takes, the numbered tables are those that it prints.
use Rattle.std.{proofs.{Common.{refl, ◌≡◌, ℕ, List, ap, length, map, ◌∙◌, sym}, lemmas.List.length-map}, specs.List.flat_map}
use Rattle.query_lang.specs.{declared.typed.{PrintOf.PrintOf, TypedQuery.TypedQuery}, Streams.takings, TypedFinals.table_number}
use Rattle.query_lang.specs.TypedQueries.{group_shape}
use Rattle.final_queries.specs.{declared.table.Table.Table, Finals.{table_shape, with_finals}}
use Rattle.query_tables.specs.Tables.{printed, table_text_at}
use Rattle.marple_base.proofs.Pieces.{none_taken, on_err}
use Rattle.query_tables.proofs.print.write_tables.Goals as goal

texts_are : (q : TypedQuery) (groups : List Table) (count : ℕ) (tables : List Table) (prints : List PrintOf) → count ≡ length groups
    → map table_shape groups ≡ map (group_shape q.folds) (takings q.streams) → tables ≡ with_finals q.names q.folds groups q.finals
    → prints ≡ q.prints
    → flat_map (λ one. table_text_at tables (table_number count one)) prints ≡ printed q (with_finals q.names q.folds groups q.finals)
texts_are q groups count tables prints count_is shapes tables_are all =
    let taken : count ≡ length (takings q.streams) =
    count_is ∙ sym (length-map groups table_shape) ∙ ap length shapes ∙ length-map (takings q.streams) (group_shape q.folds) in
    rw (taken, tables_are, all) refl

pub returns-in_err-tables-clause-err : goal.returns-in_err-tables-clause-err
returns-in_err-tables-clause-err g c = on_err c.from_residual.result _ (none_taken (g.O.Sink.taken c.args.out.now) _)

pub returns-clause-ok : goal.returns-clause-ok
returns-clause-ok g c =
    let same = texts_are c.args.q.now c.args.groups _ _ _ c.len-count.ensures c.requires.shapes c.in_ok-tables.ensures.tables
    c.as_slice.ensures in
    rw (← same) c.write_printed.ensures.ok

pub returns-clause-err : goal.returns-clause-err
returns-clause-err g c =
    let same = texts_are c.args.q.now c.args.groups _ _ _ c.len-count.ensures c.requires.shapes c.in_ok-tables.ensures.tables
    c.as_slice.ensures in
    rw (← same) c.write_printed.ensures.err
