-- The texts of tables in two parts are those of what is shown.
use Rattle.std.proofs.Common.{◌≡◌, ℕ, zero, suc, List, [], ◌∷◌, ◌++◌, Option, None, Some, length, map, drop, refl, sym, ap, ap₂, ◌∙◌}
use Rattle.std.proofs.Common.{◌<◌, OnErr, OnOk, Result, subst, append-nil, append_assoc, arith, option_and_then}
use Rattle.std.proofs.{Math.Seq.drop-append_seam, lemmas.List.length-map}
use Rattle.std.proofs.lemmas.{List.Elements.{All-nil, All-cons, All-head, All-tail}, Option.{slice_get-get_or, slice_get-map}}
use Rattle.std.specs.{Prelude.{option_map, unwrap_or}, List.{All, flat_map, slice_get}}
use Rattle.marple_base.specs.{Sink.TakesFront, Pieces.TakesAllBut}
use Rattle.query_lang.specs.declared.{fold.TypedFold.TypedFold, typed.{TypedFinal.TypedFinal, PrintOf.PrintOf, TypedQuery.TypedQuery}}
use Rattle.query_lang.specs.{Streams.takings, TypedFinals.table_number, TypedQueries.group_shape}
use Rattle.final_queries.specs.{declared.table.Table.Table, Finals.{final_table, table_shape, with_finals}}
use Rattle.table_printer.specs.TableText.{table_text}
use Rattle.enclosure_folds.specs.declared.table.{BoundsTable.BoundsTable, Enclosed.{Enclosed, TheVariants.{Linear, Bounds}}}
use Rattle.enclosure_folds.specs.BoundsTables.{bounds_text}
use Rattle.enclosed_query.specs.EnclosedTables.{all_texts, enclosed_print, shown_text, table_read}
use Rattle.enclosed_query.specs.{Parts.{IsWholeIfThere, bounds_at, bounds_shown, text_at, text_shown}, Reading.IsWhole}

-- a table that has no bounds
pub table_text_at : (bounds : List (Option BoundsTable)) (tables : List Table) (n : ℕ) (t : Table) → slice_get tables n ≡ Some t
    → bounds_at bounds n ≡ None → text_at bounds tables n ≡ table_text t
table_text_at bounds tables n t is none = ap₂ (λ b t. unwrap_or (option_map (text_shown b) t) []) none is

-- and one that has some
pub bounds_text_at : (bounds : List (Option BoundsTable)) (tables : List Table) (n : ℕ) (t : BoundsTable) → n < length tables
    → slice_get bounds n ≡ Some (Some t) → text_at bounds tables n ≡ bounds_text t
bounds_text_at bounds [] n t inside is = absurd (omega arith)
bounds_text_at bounds (one ∷ tables) n t inside is = ap₂ (λ b o. unwrap_or (option_map (text_shown b) o) [])
    (ap (option_and_then (λ one. one)) is) (slice_get-get_or (one ∷ tables) n one inside)

-- what was done with a text was done with one that is the same
pub of_same : {A E : Type 0} (result : Result A E) (old new : Option (List ℕ)) (waiting before text other : List ℕ) → text ≡ other
    → OnOk result (TakesAllBut old new waiting (before ++ text)) × OnErr result (TakesFront old new (before ++ text))
    → OnOk result (TakesAllBut old new waiting (before ++ other)) × OnErr result (TakesFront old new (before ++ other))
of_same result old new waiting before text other same done =
    subst (λ t. OnOk result (TakesAllBut old new waiting (before ++ t)) × OnErr result (TakesFront old new (before ++ t))) same done

-- the text of the table with this number, by what is shown of groupbys and other tables after these

abbrev text_in : List Enclosed → List Table → ℕ → List ℕ
text_in groups rest n = unwrap_or (slice_get (map shown_text groups ++ map table_text rest) n) []

parts_at : (groups : List Enclosed) (rest : List Table) (n : ℕ) → text_at (map bounds_shown groups) (map table_read groups ++ rest) n
    ≡ text_in groups rest n
parts_at [] rest n = ap (λ o. unwrap_or o []) (sym (slice_get-map table_text rest n))
parts_at (Linear t ∷ groups) rest zero = refl
parts_at (Bounds t ∷ groups) rest zero = refl
parts_at (one ∷ groups) rest (suc n) = parts_at groups rest n

-- finals leave the tables before them unchanged

others_after : (names : List (List ℕ)) (folds : List TypedFold) (tables : List Table) (finals : List TypedFinal) → (rest : List Table)
    × (with_finals names folds tables finals ≡ tables ++ rest)
others_after names folds tables [] = ([], sym (append-nil tables))
others_after names folds tables (one ∷ finals) =
    let made = final_table names folds tables one in
    let later = others_after names folds (tables ++ made ∷ []) finals in
    (made ∷ later.0, later.1 ∙ append_assoc tables (made ∷ []) later.0)

after_are : (names : List (List ℕ)) (folds : List TypedFold) (tables : List Table) (finals : List TypedFinal)
    → with_finals names folds tables finals ≡ tables ++ drop (length tables) (with_finals names folds tables finals)
after_are names folds tables finals =
    let others = others_after names folds _ finals in
    others.1 ∙ ap (λ rest. tables ++ rest) (sym (drop-append_seam tables _) ∙ ap (drop (length tables)) (sym others.1))

-- all of what a query prints
module _ (q : TypedQuery) (groups : List Enclosed) where
  abbrev all_tables : List Table
  all_tables = with_finals q.names q.folds (map table_read groups) q.finals

  one_text : (n : ℕ) → text_at (map bounds_shown groups) all_tables n ≡ unwrap_or (slice_get (all_texts q groups) n) []
  one_text n =
      ap (λ ts. text_at (map bounds_shown groups) ts n) (after_are q.names q.folds (map table_read groups) q.finals)
      ∙ (parts_at _ (drop (length (map table_read groups)) _) n
      ∙ ap (λ k. unwrap_or (slice_get (map shown_text groups ++ map table_text (drop k all_tables)) n) []) (length-map groups table_read))

  all_prints : (prints : List PrintOf) → flat_map (λ one. text_at (map bounds_shown groups) all_tables
      (table_number (length (takings q.streams)) one)) prints
      ≡ flat_map (λ one. unwrap_or (slice_get (all_texts q groups) (table_number (length (takings q.streams)) one)) []) prints
  all_prints [] = refl
  all_prints (one ∷ prints) =
      let number = table_number (length (takings q.streams)) one in
      ap (λ text. text ++ flat_map (λ (p : PrintOf). text_at (map bounds_shown groups) all_tables
      (table_number (length (takings q.streams)) p)) prints) (one_text _)
      ∙ ap (λ texts. unwrap_or (slice_get (all_texts q groups) number) [] ++ texts) (all_prints prints)

  prints_are : flat_map (λ one. text_at (map bounds_shown groups) all_tables (table_number (length (takings q.streams)) one)) q.prints
      ≡ enclosed_print q groups
  prints_are = all_prints _

-- by the parts of what is shown, and the finals after them
pub texts_are : (q : TypedQuery) (groups : List Enclosed) (count : ℕ) (bounds : List (Option BoundsTable)) (read tables : List Table)
    (prints : List PrintOf) → count ≡ length groups → map table_shape (map table_read groups) ≡ map (group_shape q.folds)
    (takings q.streams) → bounds ≡ map bounds_shown groups → read ≡ map table_read groups
    → tables ≡ with_finals q.names q.folds read q.finals → prints ≡ q.prints
    → flat_map (λ one. text_at bounds tables (table_number count one)) prints ≡ enclosed_print q groups
texts_are q groups count bounds read tables prints count_is shapes bounds_are read_are tables_are all =
    let taken : count ≡ length (takings q.streams) =
    count_is ∙ (sym (length-map _ _) ∙ (sym (length-map _ _)
    ∙ (ap (λ ss. length ss) shapes ∙ length-map _ _))) in
    ap (λ n. flat_map (λ one. text_at bounds tables (table_number n one)) prints) taken
    ∙ (ap (λ bs. flat_map (λ one. text_at bs tables (table_number (length (takings q.streams)) one)) prints) bounds_are
    ∙ (ap (λ ts. flat_map (λ one. text_at (map bounds_shown groups) ts (table_number (length (takings q.streams)) one)) prints)
    (tables_are ∙ ap (λ ts. with_finals q.names q.folds ts q.finals) read_are)
    ∙ (ap (flat_map (λ one. text_at (map bounds_shown groups) (with_finals q.names q.folds (map table_read groups) q.finals)
    (table_number (length (takings q.streams)) one))) all
    ∙ prints_are q groups)))

-- the bounds that are shown are whole
pub whole_parts : (groups : List Enclosed) → All IsWhole groups → All IsWholeIfThere (map bounds_shown groups)
whole_parts [] whole = All-nil IsWholeIfThere
whole_parts (one ∷ groups) whole =
    All-cons IsWholeIfThere (bounds_shown one) (map bounds_shown groups) (by_one one (All-head IsWhole one groups whole))
    (whole_parts groups (All-tail IsWhole one groups whole))
  where
    by_one : (one : Enclosed) → IsWhole one → IsWholeIfThere (bounds_shown one)
    by_one (Linear t) w = tt
    by_one (Bounds t) w = w
