-- The tables of a query have the same headings over all packets.
use Rattle.std.proofs.{Common.{◌≡◌, ℕ, suc, List, [], ◌∷◌, ◌++◌, Option, Some, None, map, refl, sym, ap, ◌∙◌}, lemmas.List.map-append}
use Rattle.epoch_model.specs.{Epochs.Geometry, declared.tables.Row.Row}
use Rattle.final_queries.specs.{Finals.{final_table, with_finals}, declared.table.Table.Table}
use Rattle.query_lang.specs.declared.{fold.TypedFold.TypedFold, typed.{TypedFinal.TypedFinal, TypedQuery.TypedQuery}}
use Rattle.query_tables.specs.Tables.{group_tables, query_table, query_tables, table_if, tables_from}
use Rattle.stage_plan.specs.{Planned.fold_at, Shape.{GroupShape, query_groups}}
use Rattle.split_laws.specs.Merging.{with_rows}

-- a table without its rows
abbrev pub heading : Table → Table
heading t = with_rows t []

-- tables of one heading are the same with the same rows
pub headed_alike : (t other : Table) (rows : List Row) → heading t ≡ heading other → with_rows t rows ≡ with_rows other rows
headed_alike t other rows e =
    ap (λ (h : Table). record { name = h.name; columns = h.columns; keys = h.keys; kind = h.kind; rows = rows }) e

groups_headed : (q : TypedQuery) (g h : Geometry) (packets others : List (List ℕ)) (i : ℕ) (shapes : List GroupShape)
    → map heading (tables_from q g packets i shapes) ≡ map heading (tables_from q h others i shapes)
groups_headed q g h packets others i [] = refl
groups_headed q g h packets others i (shape ∷ shapes) = by (fold_at q i) (groups_headed q g h packets others (suc i) shapes)
  where
    by : (o : Option TypedFold) → map heading (tables_from q g packets (suc i) shapes) ≡ map heading (tables_from q h others (suc i) shapes)
        → map heading (table_if q g packets i shape o ++ tables_from q g packets (suc i) shapes) ≡ map heading
        (table_if q h others i shape o ++ tables_from q h others (suc i) shapes)
    by None more = more
    by (Some f) more = ap (λ hs. heading (query_table q g packets i shape f) ∷ hs) more

finals_headed : (names : List (List ℕ)) (folds : List TypedFold) (finals : List TypedFinal) (tables others : List Table)
    → map heading tables ≡ map heading others
    → map heading (with_finals names folds tables finals) ≡ map heading (with_finals names folds others finals)
finals_headed names folds [] tables others e = e
finals_headed names folds (one ∷ finals) tables others e =
    finals_headed names folds finals (tables ++ final_table names folds tables one ∷ [])
    (others ++ final_table names folds others one ∷ [])
    (map-append heading tables (final_table names folds tables one ∷ [])
    ∙ (ap (λ hs. hs ++ heading (final_table names folds tables one) ∷ []) e
    ∙ sym (map-append heading others (final_table names folds others one ∷ []))))

pub tables_headed : (q : TypedQuery) (g h : Geometry) (packets others : List (List ℕ))
    → map heading (query_tables q g packets) ≡ map heading (query_tables q h others)
unfolding group_tables
tables_headed q g h packets others =
    finals_headed q.names q.folds q.finals (group_tables q g packets) (group_tables q h others)
    (groups_headed q g h packets others 0 (query_groups q))
