-- The rows of spans, where words are appended.
use Rattle.std.proofs.Common.{◌≡◌, ℕ, slice_get, Some, ◌+◌, ◌<◌, ◌≤◌, get_or, List, [], ◌∷◌, ◌++◌, length, take, drop, refl, sym, ap, ap₂}
use Rattle.std.proofs.Common.{◌∙◌, arith, set, length-append, length-drop, drop-drop, append_assoc, append-nil, ◌-◌}
use Rattle.std.proofs.lemmas.List.{take-append-le, drop-append-le, take_at, drop_at, length-map, map-append, map-set}
use Rattle.std.proofs.lemmas.{Option.{same_Some, slice_get-map, slice_get_read}, List.Elements.{All-head, All-push, All-tail, All-weaker}}
use Rattle.epoch_model.specs.declared.tables.Row.{Row}
use Rattle.table_rows.specs.{declared.span.Span.Span, Spans.{key_in, values_in, row_in, rows_in, EndsWithin, AllWithin}}

-- the row of a span with these words
abbrev pub row_with : Span → List ℕ → List ℕ → Row
row_with span key values = record { key = key; mark = span.mark; epoch = span.epoch; epochs = span.epochs; values = values }

-- a part of the words stays where more words follow
part-append : (words more : List ℕ) (start count : ℕ) → start + count ≤ length words
    → take count (drop start (words ++ more)) ≡ take count (drop start words)
part-append words more start count within =
    let rest : length (drop start words) ≡ length words - start = length-drop start words in
    ap (take count) (drop-append-le start words more (omega arith))
    ∙ take-append-le count (drop start words) more (omega arith)

EndsWithin-append : (words more : List ℕ) (span : Span) → EndsWithin words span → EndsWithin (words ++ more) span
EndsWithin-append words more span within = omega (arith, within, length-append words more)

row_in-append : (words more : List ℕ) (span : Span) → EndsWithin words span → row_in (words ++ more) span ≡ row_in words span
row_in-append words more span within =
    ap₂ (row_with span) (part-append words more span.start span.key_words (omega (arith, within)))
    (part-append words more (span.start + span.key_words) span.value_words within)

pub rows_in-append : (words more : List ℕ) (spans : List Span) → AllWithin words spans → rows_in (words ++ more) spans ≡ rows_in words spans
rows_in-append words more [] within = refl
rows_in-append words more (span ∷ spans) within =
    ap₂ (λ (row : Row) (rows : List Row). row ∷ rows) (row_in-append words more span (All-head (EndsWithin words) span spans within))
    (rows_in-append words more spans (All-tail (EndsWithin words) span spans within))

-- a new row, whose words are the last
key_new : (words key values : List ℕ) (span : Span) → span.start ≡ length words → span.key_words ≡ length key
    → key_in (words ++ (key ++ values)) span ≡ key
key_new words key values span start size = rw (size, drop_at words (key ++ values) span.start (sym start))
    (take_at key values (length key) refl)

values_new : (words key values : List ℕ) (span : Span) → span.start ≡ length words → span.key_words ≡ length key
    → span.value_words ≡ length values → values_in (words ++ (key ++ values)) span ≡ values
values_new words key values span start size count =
    let all : values ++ [] ≡ values = simp append-nil in
    rw (
      size,
      count,
      ← drop-drop (length key) span.start (words ++ (key ++ values)),
      drop_at words (key ++ values) span.start (sym start),
      drop_at key values (length key) refl,
    ) (ap (take (length values)) (sym all) ∙ take_at values [] (length values) refl)

pub rows_pushed : (words key values : List ℕ) (spans : List Span) (span : Span) → AllWithin words spans → span.start ≡ length words
    → span.key_words ≡ length key → span.value_words ≡ length values
    → rows_in ((words ++ key) ++ values) (spans ++ span ∷ []) ≡ rows_in words spans ++ row_with span key values ∷ []
rows_pushed words key values spans span within start size count =
    rw (append_assoc words key values)
    (map-append (row_in (words ++ (key ++ values))) spans (span ∷ [])
    ∙ ap₂ (λ (rows : List Row) (new : Row). rows ++ new ∷ []) (rows_in-append words (key ++ values) spans within)
    (ap₂ (row_with span) (key_new words key values span start size) (values_new words key values span start size count)))

pub within_pushed : (words key values : List ℕ) (spans : List Span) (span : Span) → AllWithin words spans → span.start ≡ length words
    → span.key_words ≡ length key → span.value_words ≡ length values → AllWithin ((words ++ key) ++ values) (spans ++ span ∷ [])
within_pushed words key values spans span within start size count =
    let all = words ++ (key ++ values) in
    rw (append_assoc words key values)
    (All-push (EndsWithin all) spans span (All-weaker (EndsWithin words) (EndsWithin all) (EndsWithin-append words (key ++ values))
    spans within)
    (omega (arith, start, size, count, length-append words (key ++ values), length-append key values)))

-- the row that stands at a place is that of the span there
row_there : (words : List ℕ) (spans : List Span) (rows : List Row) (at : ℕ) (span : Span) (row : Row) → rows_in words spans ≡ rows
    → at < length rows → span ≡ get_or spans at span → slice_get rows at ≡ Some row → row ≡ row_in words span
row_there words spans rows at span row shown within stands here =
    let inside : at < length spans = omega (arith, within, ap length shown, length-map spans (row_in words)) in
    let first = slice_get_read spans (length spans) at span refl inside stands in
    same_Some _ _ (sym here ∙ rw (← shown, slice_get-map, first) refl)

-- a span that is changed changes its row
pub row_changed : (words : List ℕ) (spans : List Span) (rows : List Row) (at : ℕ) (span changed : Span) (row : Row) (change : Row → Row)
    → rows_in words spans ≡ rows → at < length rows → span ≡ get_or spans at span → slice_get rows at ≡ Some row
    → row_in words changed ≡ change (row_in words span) → rows_in words (set spans at changed) ≡ set rows at (change row)
row_changed words spans rows at span changed row change shown within stands here is =
    rw (row_there words spans rows at span row shown within stands here, ← shown, ← is) (map-set (row_in words) spans at changed)
