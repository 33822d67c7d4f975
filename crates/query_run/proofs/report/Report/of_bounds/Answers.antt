use Rattle.trace_drive.specs.Drives.{words_of}
use Rattle.trace_reader.specs.Traces.{packets}
use Rattle.query_run.proofs.BoundsEnds.{bounds_reports}
use Rattle.query_run.proofs.report.Report.of_bounds.Goals as goal

pub returns-clause-reports : goal.returns-clause-reports
returns-clause-reports c plan of_query =
    bounds_reports c.ends_give_enclosed_tables.ensures c.enclosed_tables_are_read.ensures c.triples_give_whole_tables.ensures c.args.typed
    plan c.requires.valid of_query

pub returns-clause-holds : goal.returns-clause-holds
returns-clause-holds c g bytes reads =
    c.shown_tables_hold.ensures c.args.typed g (words_of (packets bytes reads)) c.requires.valid c.requires.bounded c.starts_known.ensures
    (c.read_packets_are_words.ensures bytes reads)
