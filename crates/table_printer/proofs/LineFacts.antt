-- The lines of rows: the first one and the others, and those up to a place and from it on.
use Rattle.std.proofs.Common.{◌≡◌, ◌≤◌, ◌+◌, ◌-◌, ◌++◌, ◌∙◌, ℕ, suc, List, Some, ap, arith, drop, drop-drop, refl, slice_get, sym, take}
use Rattle.std.proofs.{Common.take-append-drop, lemmas.List.Concat.flat_map-append}
use Rattle.epoch_model.specs.declared.tables.Row.{Row}
use Rattle.final_queries.specs.declared.table.TableKind.{TableKind}
use Rattle.table_rows.proofs.LentFacts.{rows_from}
use Rattle.table_printer.specs.TableText.{lines_of, row_parts, table_line}

pub first_line : (kind : TableKind) (rows : List Row) (at count : ℕ) (row : Row) → slice_get rows at ≡ Some row
    → lines_of kind (take (count + 1) (drop at rows)) ≡ table_line (row_parts kind row) ++ lines_of kind (take count (drop (at + 1) rows))
first_line kind rows at count row here =
    let more : count + 1 ≡ suc count = omega arith in
    rw (rows_from rows at row here, more) refl

pub lines_split : (kind : TableKind) (rows : List Row) (from until : ℕ) → from ≤ until
    → lines_of kind (drop from rows) ≡ lines_of kind (take (until - from) (drop from rows)) ++ lines_of kind (drop until rows)
lines_split kind rows from until within =
    let whole : from + (until - from) ≡ until = omega arith in
    let rest = drop from rows in
    let split = take-append-drop (until - from) rest in
    ap (lines_of kind) (sym split)
    ∙ (flat_map-append (λ (row : Row). table_line (row_parts kind row)) (take (until - from) rest) (drop (until - from) rest)
    ∙ ap (λ (later : List Row). lines_of kind (take (until - from) rest) ++ lines_of kind later)
    (drop-drop (until - from) from rows ∙ ap (λ n. drop n rows) whole))
