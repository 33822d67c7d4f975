use Rattle.std.proofs.Common.{◌≡◌, rules, sym, subst}
use Rattle.final_queries.specs.{declared.table.Table.Table, Finals.IsTable}
use Rattle.final_queries.proofs.run.run_final.Goals as goal

same_table : (made table : Table) → made ≡ table → IsTable table → IsTable made
same_table made table e is = subst IsTable (sym e) is

pub returns-clause-read : goal.returns-clause-read
returns-clause-read g c =
    let law = c.final_tables_are_read.ensures c.args.names.now c.args.folds.now c.args.tables.now c.args.op.now c.requires.folds
    c.requires.valid c.requires.tables in
    same_table _ _ (search rules) law.0
