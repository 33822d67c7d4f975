-- The rows of finals, and what finals read of a table whose rows all are read.
use Rattle.std.proofs.Common.{◌≡◌, ℕ, true, List, [], ◌∷◌, ◌++◌, Option, Some, None, map, filter, refl, sym, ap, ◌∙◌, subst}
use Rattle.std.proofs.lemmas.List.Elements.{All-nil, All-cons, All-head, All-tail, All-map}
use Rattle.std.specs.{Prelude.{All, find, option_map, unwrap_or}, List.cons_option}
use Rattle.epoch_model.specs.declared.tables.Row.{Row}
use Rattle.final_queries.specs.Finals.{filtered_rows, is_of_key, is_read, joined_rows, mapped_row, mapped_rows, plain_row, rows_read}
use Rattle.final_queries.specs.{Finals.top_rows, declared.table.Table.Table}
use Rattle.query_lang.specs.declared.fold.TypedExpr.{TypedExpr}
use Rattle.part_laws.specs.PartLaws.{but_for_epochs}
use Rattle.split_laws.specs.Merging.{rows_in, rows_of}

-- a row that finals read, and a row that a final made
abbrev pub IsRead : Row → Type 0
IsRead row = is_read row.mark ≡ true

abbrev pub IsPlain : Row → Type 0
IsPlain row = row ≡ plain_row row.key row.values

pub read_plain : (rows : List Row) → All IsPlain rows → All IsRead rows
read_plain rows all k d lt = ap (λ (row : Row). is_read row.mark) (all k d lt)

pub bare_plain : (rows : List Row) → All IsPlain rows → map but_for_epochs rows ≡ rows
bare_plain [] all = refl
bare_plain (row ∷ rows) all =
    let here : row ≡ plain_row row.key row.values = All-head IsPlain row rows all in
    ap (λ r. r ∷ map but_for_epochs rows) (ap but_for_epochs here ∙ sym here)
    ∙ ap (λ rs. row ∷ rs) (bare_plain rows (All-tail IsPlain row rows all))

pub filtered_plain : (condition : TypedExpr) (rows : List Row) → All IsPlain (filtered_rows condition rows)
filtered_plain condition rows = All-map IsPlain (λ (row : Row). plain_row row.key row.values) _ (λ k d lt. refl)

pub mapped_plain : (values : List TypedExpr) (rows : List Row) → All IsPlain (mapped_rows values rows)
unfolding mapped_row
mapped_plain values rows = All-map IsPlain (mapped_row values) rows (λ k d lt. refl)

pub top_plain : (column kept : ℕ) (rows : List Row) → All IsPlain (top_rows column kept rows)
top_plain column kept rows = All-map IsPlain (λ (row : Row). plain_row row.key row.values) _ (λ k d lt. refl)

pub joined_plain : (left right : List Row) → All IsPlain (joined_rows left right)
joined_plain [] right = All-nil IsPlain
joined_plain (row ∷ left) right = by (find (is_of_key row.key) right) (joined_plain left right)
  where
    by : (o : Option Row) → All IsPlain (joined_rows left right)
        → All IsPlain
        (cons_option (option_map (λ (other : Row). plain_row row.key (row.values ++ other.values)) o) (joined_rows left right))
    by None more = more
    by (Some other) more = All-cons IsPlain (plain_row row.key (row.values ++ other.values)) (joined_rows left right) refl more

filter_all : (rows : List Row) → All IsRead rows → filter (λ (row : Row). is_read row.mark) rows ≡ rows
filter_all [] all = refl
filter_all (row ∷ rows) all =
    let here : is_read row.mark ≡ true = All-head IsRead row rows all in
    rw here (ap (λ rs. row ∷ rs) (filter_all rows (All-tail IsRead row rows all)))

-- what finals read of a table
abbrev pub read_of : Option Table → List Row
read_of table = unwrap_or (option_map rows_read table) []

pub all_read : (table : Option Table) → All IsRead (rows_of table) → read_of table ≡ rows_of table
all_read None all = refl
all_read (Some t) all = filter_all t.rows all

-- ---- what a final makes of one table, or of two

module _ (F : List Row → List Row) (no_epochs : (rows : List Row) → F (map but_for_epochs rows) ≡ F rows)
    (plain : (rows : List Row) → All IsPlain (F rows)) (table made : Option Table) (is : rows_of made ≡ F (read_of table)) where
  pub made_read : All IsRead (rows_of made)
  made_read = subst (All IsRead) (sym is) (read_plain (F (read_of table)) (plain (read_of table)))

  pub made_bare : All IsRead (rows_of table) → rows_in made ≡ F (rows_in table)
  made_bare all =
      ap (map but_for_epochs) is ∙ (bare_plain (F (read_of table)) (plain (read_of table))
      ∙ (ap F (all_read table all) ∙ sym (no_epochs (rows_of table))))

module _ (F : List Row → List Row → List Row)
    (no_epochs : (left right : List Row) → F (map but_for_epochs left) (map but_for_epochs right) ≡ F left right)
    (plain : (left right : List Row) → All IsPlain (F left right)) (left right made : Option Table)
    (is : rows_of made ≡ F (read_of left) (read_of right)) where
  pub both_read : All IsRead (rows_of made)
  both_read = subst (All IsRead) (sym is) (read_plain (F (read_of left) (read_of right)) (plain (read_of left) (read_of right)))

  pub both_bare : All IsRead (rows_of left) → All IsRead (rows_of right) → rows_in made ≡ F (rows_in left) (rows_in right)
  both_bare lefts rights =
      ap (map but_for_epochs) is ∙ (bare_plain (F (read_of left) (read_of right)) (plain (read_of left) (read_of right))
      ∙ (ap (λ rows. F rows (read_of right)) (all_read left lefts) ∙ (ap (F (rows_of left)) (all_read right rights)
      ∙ sym (no_epochs (rows_of left) (rows_of right)))))
