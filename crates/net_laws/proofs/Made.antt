-- Each stream that the rules make of streams that give a packet's word of one field gives it.
use Rattle.std.proofs.Common.{◌≡◌, ℕ, zero, suc, ◌-◌, ◌<◌, true, false, List, [], ◌∷◌, ◌++◌, length, drop, map, slice_index, None, refl}
use Rattle.std.proofs.{Common.{sym, ap, subst, ◌∙◌, inl, inr, arith}, lemmas.List.{length-append, length-map, get_or-map}}
use Rattle.std.specs.Prelude.{slice_get}
use Rattle.marple_base.specs.declared.field.Field.{Field}
use Rattle.query_lang.specs.declared.{fold.{TypedExpr.TypedExpr, TypedFold.TypedFold}, query.{Column.Column, Expr.Expr, Key.Key, Name.Name}}
use Rattle.query_lang.specs.declared.query.StreamOp.{StreamOp}
use Rattle.query_lang.specs.declared.query.StreamOp.TheVariants as ops
use Rattle.query_lang.specs.declared.typed.TypedOp.{TypedOp}
use Rattle.query_lang.specs.declared.typed.TypedOp.TheVariants as typed
use Rattle.query_lang.specs.declared.typing.{Known.Known, MadeStream.MadeStream, Meaning.Meaning}
use Rattle.query_lang.specs.declared.typing.Meaning.TheVariants as meaning
use Rattle.query_lang.specs.declared.typing.Origin.{Origin}
use Rattle.query_lang.specs.declared.typing.Origin.TheVariants as origin
use Rattle.query_lang.specs.{declared.typing.StreamColumn.StreamColumn, TypedStreams.{column_names, others_from}}
use Rattle.query_laws.specs.{Context.NameStandsFor, StreamRules.{HasTypedColumns, new_names, OfFilter, OfMap, OfZip, OfGroup, HasStream}}
use Rattle.query_laws.proofs.{StreamLaws.{zip_is, group_is}, Views.{AreBelow, others_below}}
use Rattle.stage_plan.proofs.StreamRows.{Row, row_at, row_made, at_earlier}
use Rattle.net_wide.specs.Combining.{columns_made}
use Rattle.net_laws.specs.Fields.{is_named, names_field}
use Rattle.net_laws.proofs.Columns.{picked_names, names_long, names_of_both, slots_below, rest_after}
use Rattle.net_laws.proofs.Rows.{RowTells, SlotTells, filter_tells, map_tells, zip_tells, group_tells, slot_tells}

-- the keys of a groupby that have the field's name are the packet's word of it, in the row of its input; its columns are its keys
abbrev pub KeysTell : Field → List (List ℕ) → ℕ → List Row → List ℕ → TypedOp → Type 0
KeysTell field names value rows columns (typed.Filter input condition) = Unit {0}
KeysTell field names value rows columns (typed.Map input values) = Unit {0}
KeysTell field names value rows columns (typed.Zip left right slots) = Unit {0}
KeysTell field names value rows columns (typed.Group input keys f args) =
    (input < length rows)
    × ((j : ℕ) → j < length keys → is_named field names (slice_index columns j) ≡ true
    → SlotTells value (slice_index keys j) (row_at rows input))
    × (length columns ≡ length keys)

-- a name of a stream: the stream is there, and its row gives the word
abbrev pub MeaningTells : Field → List (List ℕ) → ℕ → List Row → Meaning → Type 0
MeaningTells field names value rows (meaning.Stream s) =
    (s.number < length rows) × RowTells field names value (column_names s.columns) (row_at rows s.number)
MeaningTells field names value rows (meaning.Fold f) = Unit {0}
MeaningTells field names value rows (meaning.Final t) = Unit {0}

abbrev pub AllTell : Field → List (List ℕ) → ℕ → List Row → List Known → Type 0
AllTell field names value rows [] = Unit {0}
AllTell field names value rows (one ∷ known) = MeaningTells field names value rows one.meaning × AllTell field names value rows known

-- the columns that an operator makes new have other names
abbrev pub MakesOthers : Field → List (List ℕ) → MadeStream → Type 0
MakesOthers field names made = names_field field names (columns_made (column_names made.columns) made.op) ≡ false

pub names_of_new : (o : Origin) (ids : List ℕ)
    → column_names (map (λ id. let column : StreamColumn = record { name = id; origin = o } in column) ids) ≡ ids
names_of_new o [] = refl
names_of_new o (id ∷ ids) = cc (names_of_new o ids)

new_long : (columns taken : List ℕ) (new : List Column) (values : List TypedExpr) → HasTypedColumns columns taken new values
    → length (new_names new) ≡ length values
new_long columns taken [] [] h = refl
new_long columns taken (c ∷ new) (v ∷ values) h = ap suc (new_long _ _ new _ h.2)
new_long columns taken _ _ h = absurd h

below_at : (n : ℕ) (slots : List ℕ) (j : ℕ) → AreBelow n slots → j < length slots → slice_index slots j < n
below_at n [] j h lt = absurd (omega arith)
below_at n (slot ∷ slots) zero h lt = h.0
below_at n (slot ∷ slots) (suc j) h lt = below_at n slots j h.1 (omega arith)

module _ (field : Field) (names : List (List ℕ)) (value : ℕ) where
  -- ---- names and what they mean

  pub all_last : (rows : List Row) (known : List Known) (one : Known) → AllTell field names value rows known
      → MeaningTells field names value rows one.meaning → AllTell field names value rows (known ++ one ∷ [])
  all_last rows [] one h k = (k, tt)
  all_last rows (first ∷ known) one h k = (h.0, all_last _ known _ h.1 k)

  meaning_more : (rows : List Row) (r : Row) (m : Meaning) → MeaningTells field names value rows m
      → MeaningTells field names value (rows ++ r ∷ []) m
  meaning_more rows r (meaning.Stream s) h = (omega (arith, length-append rows (r ∷ [])), rw (at_earlier rows r None s.number h.0) h.1)
  meaning_more rows r _ h = tt

  pub all_more : (rows : List Row) (r : Row) (known : List Known) → AllTell field names value rows known
      → AllTell field names value (rows ++ r ∷ []) known
  all_more rows r [] h = tt
  all_more rows r (one ∷ known) h = (meaning_more _ r _ h.0, all_more _ r known h.1)

  tells_of : (rows : List Row) (known : List Known) (id : ℕ) (m : Meaning) → AllTell field names value rows known → NameStandsFor known id m
      → MeaningTells field names value rows m
  tells_of rows [] id m h s = absurd s
  tells_of rows (one ∷ known) id m h (inl p) = rw p.1 at h.0
  tells_of rows (one ∷ known) id m h (inr p) = tells_of _ known _ m h.1 p.1

  pub keys_more : (rows : List Row) (r : Row) (columns : List ℕ) (op : TypedOp) → KeysTell field names value rows columns op
      → KeysTell field names value (rows ++ r ∷ []) columns op
  keys_more rows r columns (typed.Group input keys f args) h = (
    omega (arith, length-append rows (r ∷ [])),
    λ j lt is. rw (at_earlier rows r None input h.0) (h.1 j lt is),
    h.2,
  )
  keys_more rows r columns _ h = tt

  -- ---- operators

  module _ (folds : List TypedFold) (rows : List Row) where
    abbrev pub MadeTells : MadeStream → Type 0
    MadeTells made = RowTells field names value (column_names made.columns) (row_made folds rows made.op)
        × KeysTell field names value rows (column_names made.columns) made.op

    of_filter : (known : List Known) (input : Name) (e : Expr) (made : MadeStream) → AllTell field names value rows known
        → OfFilter known input e made → MadeTells made
    of_filter known input e made all h =
        let source = tells_of _ _ _ _ all h.stream in
        subst MadeTells (sym h.is)
        (filter_tells _ _ _ _ _ _ source.1, tt)

    of_map : (known : List Known) (number : ℕ) (input : Name) (new : List Column) (made : MadeStream) → AllTell field names value rows known
        → OfMap known number input new made → MakesOthers field names made → MadeTells made
    of_map known number input new made all h none = subst (λ m. MakesOthers field names m → MadeTells m) (sym h.is) tells none
      where
        before : List ℕ
        before = column_names h.source.columns

        columns : List StreamColumn
        columns = h.source.columns ++ map (λ name. assumption (origin.Map number)) (new_names new)

        same : column_names columns ≡ before ++ new_names new
        same = names_of_both _ _ ∙ ap (λ l. before ++ l) (names_of_new (origin.Map number) (new_names new))

        long : length (new_names new) ≡ length h.values
        long = new_long _ _ _ _ h.typed

        last : drop (length (column_names columns) - length h.values) (column_names columns) ≡ new_names new
        last = cc (
          same,
          rest_after before (new_names new) (length (before ++ new_names new) - length h.values)
              (omega (arith, long, length-append before (new_names new))),
        )

        tells : names_field field names (drop (length (column_names columns) - length h.values) (column_names columns)) ≡ false
            → RowTells field names value (column_names columns) (row_made folds rows (typed.Map h.source.number h.values)) × Unit {0}
        tells none =
            let source = tells_of rows known input.id (meaning.Stream h.source) all h.stream in
            let row = row_at rows h.source.number in
            let others : names_field field names (new_names new) ≡ false = ap (names_field field names) (sym last) ∙ none in (
              rw same (map_tells field names value h.values before (new_names new) row others long source.1),
              tt,
            )

    of_zip : (known : List Known) (first second : Name) (made : MadeStream) → AllTell field names value rows known
        → OfZip known first second made → MadeTells made
    of_zip known first second made all h =
        let left = tells_of _ _ _ _ all h.one in
        let right = tells_of _ _ _ _ all h.other in
        let before = column_names _ in
        let others = column_names _ in
        let slots = others_from 0 _ h.right.columns in
        let below = others_below before _ in
        let same =
        names_of_both _ _
        ∙ ap (λ l. before ++ l) (picked_names h.right.columns slots below) in
        let within : AreBelow (length others) slots = subst (λ n. AreBelow n slots) (sym (names_long h.right.columns)) below in
        subst MadeTells (sym (zip_is first second made h)) (
          subst (λ l. RowTells field names value l (row_made folds rows (typed.Zip h.left.number h.right.number slots))) (sym same)
              (zip_tells field names value slots before others (row_at rows h.left.number) (row_at rows h.right.number) within left.1
              right.1),
          tt,
        )

    of_group : (five : List ℕ) (known : List Known) (groups : ℕ) (input : Name) (keys : List Key) (fold_name : Name) (made : MadeStream)
        → AllTell field names value rows known → OfGroup five known groups input keys fold_name made → MadeTells made
    of_group five known groups input keys fold_name made all h =
        let source = tells_of _ _ _ _ all h.stream in
        let before = column_names _ in
        let row = row_at rows _ in
        let within = slots_below _ _ _ h.picked.places in
        let below = rw (names_long h.source.columns) at within in
        let same =
        picked_names _ _ below in
        subst MadeTells (sym (group_is _ _ _ _ h)) (
          rw same (group_tells field names value (slice_get folds h.f.number) h.slots h.arguments before row within source.1),
          (
            source.0,
            λ j lt is. slot_tells _ _ _ _ _ _ source.1 (below_at (length before) h.slots j within lt)
                (ap (is_named field names) (sym (get_or-map (λ slot. slice_index before slot) h.slots j 0 0 lt))
                ∙ ap (λ l. is_named field names (slice_index l j)) (sym same) ∙ is),
            ap length same ∙ length-map h.slots (λ slot. slice_index before slot),
          ),
        )

    pub stream_tells : (five : List ℕ) (known : List Known) (number groups : ℕ) (op : StreamOp) (made : MadeStream)
        → AllTell field names value rows known → HasStream five known number groups op made → MakesOthers field names made → MadeTells made
    stream_tells five known number groups (ops.Filter input e) made all h none = of_filter _ _ e _ all h
    stream_tells five known number groups (ops.Map input new) made all h none = of_map _ _ _ _ _ all h none
    stream_tells five known number groups (ops.Zip first second) made all h none = of_zip _ _ _ _ all h
    stream_tells five known number groups (ops.Group input keys fold_name) made all h none = of_group _ _ _ _ _ _ _ all h
