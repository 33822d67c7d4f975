-- The words of a span are its key's and then its values', cut where the key ends.
use Rattle.std.proofs.{Common.{◌≡◌, ◌∙◌, ◌+◌, ◌-◌, ap, ap₂, take, drop, arith}, lemmas.List.{take-take, drop-take, drop-drop}}
use Rattle.table_rows.proofs.SpanFacts.{row_with}
use Rattle.table_rows.proofs.span.row_in.Goals as goal

pub returns : goal.returns
returns c =
    let span = c.args.span.now in
    let words = c.args.words.now in
    let start = span.start in
    let keys = span.key_words in
    let values = span.value_words in
    let long : start + keys + values - start ≡ keys + values = omega arith in
    let columns = ap (λ n. take n (drop start words)) long in
    ap₂ (row_with span)
    (c.split_at.ensures.front ∙ (ap (take keys) columns ∙ take-take keys (keys + values) (drop start words) (omega arith)))
    (c.split_at.ensures.back ∙ (ap (drop keys) columns ∙ (drop-take keys values (drop start words)
    ∙ ap (take values) (drop-drop keys start words))))
