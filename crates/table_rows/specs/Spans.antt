-- The row of a span.
use Rattle.std.specs.Prelude.{ℕ, List, ◌+◌, ◌≤◌, length, map, take, drop, All}
use Rattle.epoch_model.specs.declared.tables.Row.{Row}
use Rattle.table_rows.specs.declared.span.Span.{Span}

-- A row's words, from its start on: the key, and then the values.
abbrev pub key_in : List ℕ → Span → List ℕ
key_in words span = take span.key_words (drop span.start words)

abbrev pub values_in : List ℕ → Span → List ℕ
values_in words span = take span.value_words (drop (span.start + span.key_words) words)

abbrev pub row_in : List ℕ → Span → Row
row_in words span = record {
  key = key_in words span;
  mark = span.mark;
  epoch = span.epoch;
  epochs = span.epochs;
  values = values_in words span;
}

abbrev pub rows_in : List ℕ → List Span → List Row
rows_in words spans = map (row_in words) spans

-- the words are long enough for the span
abbrev pub EndsWithin : List ℕ → Span → Type 0
EndsWithin words span = span.start + span.key_words + span.value_words ≤ length words

abbrev pub AllWithin : List ℕ → List Span → Type 0
AllWithin words spans = All (EndsWithin words) spans
