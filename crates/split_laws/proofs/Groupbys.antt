-- The groupbys of a valid query, by their numbers.
use Rattle.std.proofs.Common.{◌≡◌, ℕ, zero, suc, ◌+◌, ◌||◌, Bool, true, false, cond, not, List, [], ◌∷◌, ◌++◌, Option, Some, None, length}
use Rattle.std.proofs.{Common.{map, filter, refl, sym, ap, ◌∙◌, subst, arith}, lemmas.Bool.and_parts}
use Rattle.std.proofs.lemmas.{List.Elements.{All-nil, All-cons, All-head, All-tail}, Option.same_Some}
use Rattle.std.specs.Prelude.{All, get_or, is_some, slice_get, slice_index, option_and_then, option_map}
use Rattle.std.specs.{List.{cons_option, filter_map, list_all, list_any}, Str.bytes_eq}
use mathlib.Core.Path.{fun_ext}
use Rattle.epoch_model.specs.{Epochs.Geometry, Keys.Key}
use Rattle.marple_base.specs.{Field.field_name, declared.field.Field.Field}
use Rattle.net_laws.specs.Fields.{is_named, makes_field, names_field}
use Rattle.query_lang.specs.declared.{fold.TypedFold.TypedFold, typed.TypedOp.{TypedOp, TheVariants.{Filter, Map, Zip, Group}}}
use Rattle.query_lang.specs.{declared.typed.{TypedQuery.TypedQuery, TypedStream.TypedStream}, Folds.fold_args}
use Rattle.query_lang.specs.{Streams.{Taking, taking_of, takings}, TypedQueries.{AreValidStreams, IsValidOp, IsValidQuery}}
use Rattle.query_tables.specs.Tables.{query_table, table_if, tables_from}
use Rattle.stage_plan.specs.{Planned.fold_at, Shape.{GroupShape, query_groups, shape_made, shape_with, text_at}}
use Rattle.part_laws.specs.Parts.{HasFieldKey, first_named, groupbys, part_by}
use Rattle.split_fields.specs.Splits.{all_keyed, is_keyed, may_split}
use Rattle.split_laws.specs.Merging.{has_keys}

-- ---- a groupby by its number

-- a groupby of the query with its fold, and its shape
pub record IsGroupby (q : TypedQuery) (k : ℕ) (shape : GroupShape) : Type 0 where
  pub one : TypedStream
  pub f : TypedFold
  pub args : ℕ
  pub at : slice_get (groupbys q) k ≡ Some one
  pub fold : fold_at q k ≡ Some f
  pub is : shape ≡ shape_with q.names one.name.id one.columns args f

abbrev groupbys_of : List TypedStream → List TypedStream
groupbys_of streams = filter (λ (one : TypedStream). is_some (taking_of one.op)) streams

module _ (q : TypedQuery) where
  abbrev shapes_of : List TypedStream → List GroupShape
  shapes_of streams = filter_map (λ (one : TypedStream). shape_made q.names q.folds one one.op) streams

  -- what is found of a groupby with this shape
  pub record Found (at : Option TypedStream) (taking : Option Taking) (shape : GroupShape) : Type 0 where
    pub one : TypedStream
    pub t : Taking
    pub f : TypedFold
    pub args : ℕ
    pub found : at ≡ Some one
    pub taken : taking ≡ Some t
    pub fold : slice_get q.folds t.fold_number ≡ Some f
    pub is : shape ≡ shape_with q.names one.name.id one.columns args f

  abbrev FindsAll : List TypedStream → List Taking → List GroupShape → Type 0
  FindsAll streams ts shapes = (k : ℕ) (shape : GroupShape) → slice_get shapes k ≡ Some shape
      → Found (slice_get streams k) (slice_get ts k) shape

  with_fold : (one : TypedStream) (t : Taking) (args : ℕ) (streams : List TypedStream) (ts : List Taking) (shapes : List GroupShape)
      → FindsAll streams ts shapes → (o : Option TypedFold) → slice_get q.folds t.fold_number ≡ o → option_map fold_args o ≡ Some args
      → FindsAll (one ∷ streams) (t ∷ ts) (cons_option (option_map (shape_with q.names one.name.id one.columns args) o) shapes)
  with_fold one t args streams ts shapes more None at there k shape e = absurd (cc there)
  with_fold one t args streams ts shapes more (Some f) at there zero shape e = record {
    one = one;
    t = t;
    f = f;
    args = args;
    found = refl;
    taken = refl;
    fold = at;
    is = sym (same_Some (shape_with q.names one.name.id one.columns args f) shape e);
  }
  with_fold one t args streams ts shapes more (Some f) at there (suc k) shape e = more k shape e

  by_op : (before : List TypedStream) (one : TypedStream) (op : TypedOp) (streams : List TypedStream) (ts : List Taking)
      (shapes : List GroupShape) → IsValidOp q.folds before (length one.columns) op → FindsAll streams ts shapes
      → FindsAll (cond (is_some (taking_of op)) (one ∷ streams) streams) (cons_option (taking_of op) ts)
      (cons_option (shape_made q.names q.folds one op) shapes)
  by_op before one (Filter input condition) streams ts shapes valid more = more
  by_op before one (Map input values) streams ts shapes valid more = more
  by_op before one (Zip left right slots) streams ts shapes valid more = more
  by_op before one (Group input keys f args) streams ts shapes valid more =
      with_fold one (record { input = input; keys = keys; fold_number = f; args = args }) (length args) streams ts shapes more
      (slice_get q.folds f) refl valid.1.all_args

  finds_all : (before rest : List TypedStream) → AreValidStreams (length q.names) q.folds before rest
      → FindsAll (groupbys_of rest) (takings rest) (shapes_of rest)
  finds_all before [] valid k shape e = absurd (cc e)
  finds_all before (one ∷ rest) valid k shape e =
      by_op before one one.op (groupbys_of rest) (takings rest) (shapes_of rest) valid.0.operator
      (finds_all (before ++ one ∷ []) rest valid.1) k shape e

  pub groupby_at : IsValidQuery q → (k : ℕ) (shape : GroupShape) → slice_get (query_groups q) k ≡ Some shape → IsGroupby q k shape
  groupby_at valid k shape e =
      let found = finds_all [] q.streams valid.streams k shape e in
      record {
        one = found.one;
        f = found.f;
        args = found.args;
        at = found.found;
        fold = ap (option_and_then (λ (t : Taking). slice_get q.folds t.fold_number)) found.taken ∙ found.fold;
        is = found.is;
      }

  -- each groupby has a shape

  fold_long : (f : Option TypedFold) (args : ℕ) (shape : TypedFold → GroupShape) (shapes : List GroupShape)
      → option_map fold_args f ≡ Some args → length (cons_option (option_map shape f) shapes) ≡ suc (length shapes)
  fold_long None args shape shapes e = absurd (cc e)
  fold_long (Some f) args shape shapes e = refl

  op_long : (before : List TypedStream) (one : TypedStream) (op : TypedOp) (streams : List TypedStream) (shapes : List GroupShape)
      → IsValidOp q.folds before (length one.columns) op → length shapes ≡ length streams
      → length (cons_option (shape_made q.names q.folds one op) shapes) ≡ length (cond (is_some (taking_of op)) (one ∷ streams) streams)
  op_long before one (Filter input condition) streams shapes valid more = more
  op_long before one (Map input values) streams shapes valid more = more
  op_long before one (Zip left right slots) streams shapes valid more = more
  op_long before one (Group input keys f args) streams shapes valid more =
      fold_long (slice_get q.folds f) (length args) (shape_with q.names one.name.id one.columns (length args)) shapes valid.1.all_args
      ∙ ap suc more

  all_long : (before rest : List TypedStream) → AreValidStreams (length q.names) q.folds before rest
      → length (shapes_of rest) ≡ length (groupbys_of rest)
  all_long before [] valid = refl
  all_long before (one ∷ rest) valid =
      op_long before one one.op (groupbys_of rest) (shapes_of rest) valid.0.operator (all_long (before ++ one ∷ []) rest valid.1)

  pub shapes_long : IsValidQuery q → length (query_groups q) ≡ length (groupbys q)
  shapes_long valid = all_long [] q.streams valid.streams

  -- ---- its table

  module _ (g : Geometry) (packets : List (List ℕ)) where
    -- each of these shapes has its fold
    abbrev HaveFolds : ℕ → List GroupShape → Type 0
    HaveFolds i shapes = (k : ℕ) (shape : GroupShape) → slice_get shapes k ≡ Some shape → (f : TypedFold) × (fold_at q (i + k) ≡ Some f)

    first_fold : (i : ℕ) (shape : GroupShape) (shapes : List GroupShape) → HaveFolds i (shape ∷ shapes)
        → (f : TypedFold) × (fold_at q i ≡ Some f)
    first_fold i shape shapes have = let at = have 0 shape refl in let same : i + 0 ≡ i = omega arith in
        (at.0, ap (fold_at q) (sym same) ∙ at.1)

    later_folds : (i : ℕ) (shape : GroupShape) (shapes : List GroupShape) → HaveFolds i (shape ∷ shapes) → HaveFolds (suc i) shapes
    later_folds i shape shapes have k one e =
        let at = have (suc k) one e in let same : suc i + k ≡ i + suc k = omega arith in
        (at.0, ap (fold_at q) same ∙ at.1)

    pub tables_long : (i : ℕ) (shapes : List GroupShape) → HaveFolds i shapes → length (tables_from q g packets i shapes) ≡ length shapes
    tables_long i [] have = refl
    tables_long i (shape ∷ shapes) have =
        let f = first_fold i shape shapes have in
        ap (λ (o : Option TypedFold). length (table_if q g packets i shape o ++ tables_from q g packets (suc i) shapes)) f.1
        ∙ ap suc (tables_long (suc i) shapes (later_folds i shape shapes have))

    pub table_at : (i : ℕ) (shapes : List GroupShape) → HaveFolds i shapes → (k : ℕ) (shape : GroupShape) (f : TypedFold)
        → slice_get shapes k ≡ Some shape → fold_at q (i + k) ≡ Some f
        → slice_get (tables_from q g packets i shapes) k ≡ Some (query_table q g packets (i + k) shape f)
    table_at i [] have k shape f e is = absurd (cc e)
    table_at i (first ∷ shapes) have zero shape f e is =
        let same : i + 0 ≡ i = omega arith in
        ap (λ (o : Option TypedFold). slice_get (table_if q g packets i first o ++ tables_from q g packets (suc i) shapes) 0)
        (ap (fold_at q) (sym same) ∙ is)
        ∙ (ap (λ n. Some (query_table q g packets n first f)) (sym same)
        ∙ ap (λ s. Some (query_table q g packets (i + 0) s f)) (same_Some first shape e))
    table_at i (first ∷ shapes) have (suc k) shape f e is =
        let same : i + suc k ≡ suc i + k = omega arith in
        let here = first_fold i first shapes have in
        ap (λ (o : Option TypedFold). slice_get (table_if q g packets i first o ++ tables_from q g packets (suc i) shapes) (suc k)) here.1
        ∙ (table_at (suc i) shapes (later_folds i first shapes have) k shape f e (ap (fold_at q) (sym same) ∙ is)
        ∙ ap (λ n. Some (query_table q g packets n shape f)) (sym same))

-- ---- the fields that decide the part are its keys

takes : (field : Field) (names : List (List ℕ)) (columns : List ℕ) (op : TypedOp) → is_some (taking_of op) ≡ true
    → is_keyed field names columns op ≡ true
    → names_field field names columns ≡ true
takes field names columns (Filter input condition) is keyed = absurd (cc is)
takes field names columns (Map input values) is keyed = absurd (cc is)
takes field names columns (Zip left right slots) is keyed = absurd (cc is)
takes field names columns (Group input keys f args) is keyed = keyed

keyed : (field : Field) (names : List (List ℕ)) (streams : List TypedStream) (k : ℕ) (one : TypedStream)
    → all_keyed field names streams ≡ true → slice_get (groupbys_of streams) k ≡ Some one → names_field field names one.columns ≡ true
keyed field names [] k one all e = absurd (cc e)
keyed field names (s ∷ streams) k one all e =
    let both = and_parts (is_keyed field names s.columns s.op) (all_keyed field names streams) all in
    by (is_some (taking_of s.op)) refl k e both.0 (λ j at. keyed field names streams j one both.1 at)
  where
    by : (b : Bool) → is_some (taking_of s.op) ≡ b → (k : ℕ)
        → slice_get (cond b (s ∷ groupbys_of streams) (groupbys_of streams)) k ≡ Some one
        → is_keyed field names s.columns s.op ≡ true
        → ((j : ℕ) → slice_get (groupbys_of streams) j ≡ Some one → names_field field names one.columns ≡ true)
        → names_field field names one.columns ≡ true
    by true is zero e own more =
        subst (λ (z : TypedStream). names_field field names z.columns ≡ true) (same_Some s one e) (takes field names s.columns s.op is own)
    by true is (suc k) e own more = more k e
    by false is k e own more = more k e

not_false : (b : Bool) → not b ≡ true → b ≡ false
not_false true e = absurd (cc e)
not_false false e = refl

named_same : (field : Field) (names : List (List ℕ)) (columns : List ℕ)
    → list_any (bytes_eq (field_name field)) (map (text_at names) columns) ≡ names_field field names columns
named_same field names [] = refl
named_same field names (id ∷ columns) = ap (λ b. is_named field names id || b) (named_same field names columns)

all_hold : {A : Type 0} (test : A → Bool) (xs : List A) → list_all test xs ≡ true → All (λ x. test x ≡ true) xs
all_hold test [] e = All-nil (λ x. test x ≡ true)
all_hold test (x ∷ xs) e =
    let both = and_parts (test x) (list_all test xs) e in
    All-cons (λ y. test y ≡ true) x xs both.0 (all_hold test xs both.1)

list_holds : {A : Type 0} (test : A → Bool) (xs : List A) → All (λ x. test x ≡ true) xs → list_all test xs ≡ true
list_holds test [] all = refl
list_holds test (x ∷ xs) all =
    let here : test x ≡ true = All-head (λ y. test y ≡ true) x xs all in
    rw here (list_holds test xs (All-tail (λ y. test y ≡ true) x xs all))

-- a groupby that has these fields as keys
pub field_keys : (q : TypedQuery) (k : ℕ) (shape : GroupShape) (is : IsGroupby q k shape) (fields : List Field)
    → has_keys fields shape.key_names ≡ true → All (λ field. makes_field field q.names q.streams ≡ false) fields
    → All (HasFieldKey q k) fields
field_keys q k shape is fields named unmade j d lt =
    let field : Field = get_or fields j d in
    let all = all_hold (λ f. list_any (bytes_eq (field_name f)) shape.key_names) fields named j d lt in
    record {
      one = is.one;
      groupby = is.at;
      key = sym (named_same (get_or fields j d) q.names is.one.columns)
          ∙ (ap (λ (s : GroupShape). list_any (bytes_eq (field_name (get_or fields j d))) s.key_names) (sym is.is) ∙ all);
      unmade = unmade j d lt;
    }

-- fields by which traces may be split are keys of each groupby
pub split_keys : (q : TypedQuery) → IsValidQuery q → (fields : List Field) → All (λ field. may_split q field ≡ true) fields
    → (k : ℕ) (shape : GroupShape) → slice_get (query_groups q) k ≡ Some shape → has_keys fields shape.key_names ≡ true
split_keys q valid fields may k shape e =
    let is = groupby_at q valid k shape e in
    list_holds (λ f. list_any (bytes_eq (field_name f)) shape.key_names) fields
    (λ j d lt. ap (λ (s : GroupShape). list_any (bytes_eq (field_name (get_or fields j d))) s.key_names) is.is
    ∙ (named_same (get_or fields j d) q.names is.one.columns
    ∙ keyed (get_or fields j d) q.names q.streams k is.one
    (and_parts (all_keyed (get_or fields j d) q.names q.streams) (not (makes_field (get_or fields j d) q.names q.streams)) (may j d lt)).0
    is.at))

pub split_unmade : (q : TypedQuery) (fields : List Field) → All (λ field. may_split q field ≡ true) fields
    → All (λ field. makes_field field q.names q.streams ≡ false) fields
split_unmade q fields may j d lt =
    not_false (makes_field (get_or fields j d) q.names q.streams)
    (and_parts (all_keyed (get_or fields j d) q.names q.streams) (not (makes_field (get_or fields j d) q.names q.streams)) (may j d lt)).1

-- ---- the part of a key, by the names of its words

-- the place of the first of these names that is the field's
abbrev pub first_of : Field → List (List ℕ) → ℕ
first_of field [] = 0
first_of field (name ∷ names) = cond (bytes_eq (field_name field) name) 0 (suc (first_of field names))

abbrev pub part_named : List Field → (List ℕ → ℕ) → List (List ℕ) → Key → ℕ
part_named fields choose names key = choose (map (λ field. slice_index key (first_of field names)) fields)

first_same : (field : Field) (names : List (List ℕ)) (columns : List ℕ)
    → first_named field names columns ≡ first_of field (map (text_at names) columns)
first_same field names [] = refl
first_same field names (id ∷ columns) = ap (λ n. cond (is_named field names id) 0 (suc n)) (first_same field names columns)

pub same_part : (names : List (List ℕ)) (columns : List ℕ) (fields : List Field) (choose : List ℕ → ℕ)
    → part_by names columns fields choose ≡ part_named fields choose (map (text_at names) columns)
same_part names columns fields choose = fun_ext (λ key. ap (λ (h : Field → ℕ). choose (map h fields))
    (fun_ext (λ field. ap (λ n. slice_index key n) (first_same field names columns))))
