use Rattle.std.{proofs.Common.{sym, subst}, specs.List.All}
use Rattle.enclosed_query.{specs.Reading.IsWhole, proofs.ReadTables.all_whole}
use Rattle.enclosed_query.proofs.tables.shown_of.Goals as goal

pub returns-clause-whole : goal.returns-clause-whole
returns-clause-whole c = subst (All IsWhole) (sym c.in_ok-made.ensures)
    (all_whole c.triples_give_whole_tables.ensures c.args.tables c.requires)
