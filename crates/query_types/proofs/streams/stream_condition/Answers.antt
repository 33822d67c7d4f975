-- The names are those of the stream's columns.
use Rattle.std.proofs.Common.{◌≡◌, ap, ◌∙◌}
use Rattle.query_lang.specs.{TypedExprs.condition_of, TypedStreams.column_names}
use Rattle.query_types.proofs.CheckLemmas.{same_checked}
use Rattle.query_types.proofs.streams.stream_condition.Goals as goal

pub returns-clause-given : goal.returns-clause-given
returns-clause-given c =
    let names : c.as_slice-2.result.now ≡ column_names c.args.source.now.columns = c.as_slice-2.ensures ∙ c.in_ok-names.ensures
    ∙ ap column_names c.as_slice.ensures in
    same_checked c.check_condition.result (λ columns. condition_of columns c.args.source.now.hidden c.args.e.now) c.as_slice-2.result.now
    (column_names c.args.source.now.columns) names
    (same_checked c.check_condition.result (λ hidden. condition_of c.as_slice-2.result.now hidden c.args.e.now) c.as_slice-3.result.now
    c.args.source.now.hidden c.as_slice-3.ensures c.check_condition.ensures.given)
