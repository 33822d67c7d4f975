-- The tables of finals over the tables of parts, final by final.
use Rattle.std.proofs.Common.{◌≡◌, ℕ, zero, suc, ◌<◌, List, [], ◌∷◌, ◌++◌, Option, Some, None, length, map, refl, sym, ap, ◌∙◌, subst}
use Rattle.std.proofs.{Common.{arith, length-append, inl, inr}, lemmas.List.Elements.{All-head, All-tail}}
use Rattle.std.{proofs.lemmas.Option.{same_Some, slice_get_within}, specs.Prelude.{◌⊎◌, ⊤, All, slice_get, unwrap_or}}
use mathlib.Core.Path.{fun_ext}
use Rattle.epoch_model.specs.{declared.tables.Row.Row, Keys.Key}
use Rattle.final_queries.specs.Finals.{filtered_rows, final_rows, final_table, joined_rows, mapped_rows, top_rows, with_finals}
use Rattle.final_queries.specs.declared.table.Table.{Table}
use Rattle.query_lang.specs.declared.{fold.TypedFold.TypedFold, typed.{TypedFinal.TypedFinal, TypedFinalOp.TypedFinalOp}}
use Rattle.query_lang.specs.declared.typed.TypedFinalOp.TheVariants.{Filter, Map, Group, Join, Top}
use Rattle.additive_laws.specs.TraceLaws.{AreApart}
use Rattle.part_laws.specs.{FinalParts.{AreOfParts, rows_of_all}, PartLaws.but_for_epochs}
use Rattle.part_laws.proofs.{Composing.{filters_stay, maps_stay, joins_stay}, NoEpochs.{filters_bare, maps_bare, joins_bare, tops_bare}}
use Rattle.part_laws.proofs.TopRows.{tops_are_of_tops}
use Rattle.split_laws.specs.Merging.{Merge, InOrder, TopAgain, NotMerged, final_merge, joined, merge_at, merges_with, rows_in, rows_of}
use Rattle.split_laws.{specs.Merging.{still_in_order, top_of}, proofs.PlainRows.{IsPlain, IsRead, filtered_plain, mapped_plain}}
use Rattle.split_laws.proofs.PlainRows.{joined_plain, top_plain, made_bare, made_read, both_bare, both_read, read_of}

-- ---- one more at the end of a list

pub before_push : {A : Type 0} (xs : List A) (x : A) (k : ℕ) → k < length xs → slice_get (xs ++ x ∷ []) k ≡ slice_get xs k
before_push [] x k less = absurd (omega arith)
before_push (y ∷ xs) x zero less = refl
before_push (y ∷ xs) x (suc k) less = before_push xs x k (omega arith)

pub here_push : {A : Type 0} (xs : List A) (x : A) (k : ℕ) → length xs ≡ k → slice_get (xs ++ x ∷ []) k ≡ Some x
here_push [] x zero e = refl
here_push [] x (suc k) e = absurd (omega (arith, e))
here_push (y ∷ xs) x zero e = absurd (omega (arith, e))
here_push (y ∷ xs) x (suc k) e = here_push xs x k (omega (arith, e))

pub at_push : {A : Type 0} (xs : List A) (x : A) (k : ℕ) (y : A) → slice_get (xs ++ x ∷ []) k ≡ Some y
    → (slice_get xs k ≡ Some y) ⊎ ((length xs ≡ k) × (x ≡ y))
at_push [] x zero y e = inr (refl, same_Some x y e)
at_push [] x (suc k) y e = absurd (cc e)
at_push (z ∷ xs) x zero y e = inl e
at_push (z ∷ xs) x (suc k) y e = elim (at_push xs x k y e) [
  | inl found ↦ inl found
  | inr last ↦ inr (ap suc last.0, last.1)
]

pub merge_there : (known : List Merge) (k : ℕ) (keys : List (List ℕ)) → merge_at known k ≡ InOrder keys
    → slice_get known k ≡ Some (InOrder keys)
merge_there known k keys e = by (slice_get known k) e
  where
    by : (o : Option Merge) → unwrap_or o NotMerged ≡ InOrder keys → o ≡ Some (InOrder keys)
    by None e = absurd (cc e)
    by (Some how) e = ap Some e

-- two tables that are joined have the same keys
abbrev pub JoinsMatch : List Merge → TypedFinalOp → Type 0
JoinsMatch known (Filter input condition) = ⊤
JoinsMatch known (Map input values) = ⊤
JoinsMatch known (Group input keys f args) = ⊤
JoinsMatch known (Join left right) = (keys others : List (List ℕ)) → merge_at known left ≡ InOrder keys
    → merge_at known right ≡ InOrder others → keys ≡ others
JoinsMatch known (Top input column kept) = ⊤

-- what is known of a table stays known
pub merges_kept : (finals : List TypedFinal) (known : List Merge) (k : ℕ) (how : Merge) → slice_get known k ≡ Some how
    → slice_get (merges_with known finals) k ≡ Some how
merges_kept [] known k how e = e
merges_kept (one ∷ finals) known k how e =
    merges_kept finals (known ++ final_merge known one.op ∷ []) k how
    (before_push known (final_merge known one.op) k (slice_get_within known k how e) ∙ e)

pub merge_kept : (known : List Merge) (finals : List TypedFinal) (k : ℕ) (keys : List (List ℕ)) → merge_at known k ≡ InOrder keys
    → merge_at (merges_with known finals) k ≡ InOrder keys
merge_kept known finals k keys e =
    ap (λ (o : Option Merge). unwrap_or o NotMerged) (merges_kept finals known k (InOrder keys) (merge_there known k keys e))

match_before : (known : List Merge) (finals : List TypedFinal) (op : TypedFinalOp) → JoinsMatch (merges_with known finals) op
    → JoinsMatch known op
match_before known finals (Filter input condition) match = tt
match_before known finals (Map input values) match = tt
match_before known finals (Group input keys f args) match = tt
match_before known finals (Join left right) match = λ keys others e h.
    match keys others (merge_kept known finals left keys e) (merge_kept known finals right others h)
match_before known finals (Top input column kept) match = tt

longer : {A B : Type 0} (xs : List A) (ys : List B) (x : A) (y : B) → length xs ≡ length ys
    → length (xs ++ x ∷ []) ≡ length (ys ++ y ∷ [])
longer xs ys x y e = omega (arith, e, length-append xs (x ∷ []), length-append ys (y ∷ []))

module _ (part_of : List (List ℕ) → Key → ℕ) (parts : List ℕ) (apart : AreApart parts) where
  -- the table has the rows of the parts' tables in the order of their keys, and finals read all of them
  pub record InParts (keys : List (List ℕ)) (whole : Option Table) (tables : ℕ → Option Table) : Type 0 where
    pub are : AreOfParts (part_of keys) parts (rows_in whole) (λ n. rows_in (tables n))
    pub read : All IsRead (rows_of whole)
    pub each : (n : ℕ) → All IsRead (rows_of (tables n))

  -- the table is what is merged of the parts' tables
  abbrev pub IsMerged : Merge → Option Table → (ℕ → Option Table) → Type 0
  IsMerged (InOrder keys) whole tables = InParts keys whole tables
  IsMerged (TopAgain column kept) whole tables = rows_in whole ≡ top_rows column kept (rows_of_all (λ n. rows_in (tables n)) parts)
  IsMerged NotMerged whole tables = ⊤

  of_same_rows : (keys : List (List ℕ)) (whole other : List Row) (rows others : ℕ → List Row) → whole ≡ other
      → ((n : ℕ) → rows n ≡ others n) → AreOfParts (part_of keys) parts whole rows → AreOfParts (part_of keys) parts other others
  of_same_rows keys whole other rows others same each are =
      subst (AreOfParts (part_of keys) parts other) (fun_ext each)
      (subst (λ w. AreOfParts (part_of keys) parts w rows) same are)

  -- ---- a final of one table, whose rows are these

  module _ (F : List Row → List Row) (no_epochs : (rows : List Row) → F (map but_for_epochs rows) ≡ F rows)
      (plain : (rows : List Row) → All IsPlain (F rows)) (table : Option Table) (tables : ℕ → Option Table) (made : Option Table)
      (makes : ℕ → Option Table) (is : rows_of made ≡ F (read_of table))
      (each : (n : ℕ) → rows_of (makes n) ≡ F (read_of (tables n))) where
    one_in_parts : (keys : List (List ℕ)) → InParts keys table tables
        → AreOfParts (part_of keys) parts (F (rows_in table)) (λ n. F (rows_in (tables n))) → InParts keys made makes
    one_in_parts keys here stays = record {
      are = of_same_rows keys (F (rows_in table)) (rows_in made) (λ n. F (rows_in (tables n))) (λ n. rows_in (makes n))
          (sym (made_bare F no_epochs plain table made is here.read))
          (λ n. sym (made_bare F no_epochs plain (tables n) (makes n) (each n) (here.each n))) stays;
      read = made_read F no_epochs plain table made is;
      each = λ n. made_read F no_epochs plain (tables n) (makes n) (each n);
    }

    top_in_parts : (keys : List (List ℕ)) → InParts keys table tables
        → F (rows_of_all (λ n. rows_in (tables n)) parts) ≡ F (rows_of_all (λ n. F (rows_in (tables n))) parts)
        → rows_in made ≡ F (rows_of_all (λ n. rows_in (makes n)) parts)
    top_in_parts keys here again =
        let same : (λ n. F (rows_in (tables n))) ≡ (λ n. rows_in (makes n)) =
        fun_ext (λ n. sym (made_bare F no_epochs plain (tables n) (makes n) (each n) (here.each n))) in
        made_bare F no_epochs plain table made is here.read
        ∙ (ap F here.are.all ∙ (again ∙ ap (λ rows. F (rows_of_all rows parts)) same))

  module _ (names : List (List ℕ)) (folds : List TypedFold) where
    -- the tables before a final, and their merges
    pub record Stands (known : List Merge) (whole : List Table) (tables : ℕ → List Table) : Type 0 where
      pub long : length whole ≡ length known
      pub longs : (n : ℕ) → length (tables n) ≡ length known
      pub each : (k : ℕ) (how : Merge) → slice_get known k ≡ Some how → IsMerged how (slice_get whole k) (λ n. slice_get (tables n) k)

    moved : (how : Merge) (whole other : Option Table) (tables others : ℕ → Option Table) → whole ≡ other
        → ((n : ℕ) → tables n ≡ others n) → IsMerged how whole tables → IsMerged how other others
    moved how whole other tables others same each is =
        subst (λ ts. IsMerged how other ts) (fun_ext each) (subst (λ w. IsMerged how w tables) same is)

    module _ (known : List Merge) (whole : List Table) (tables : ℕ → List Table) (stands : Stands known whole tables)
        (one : TypedFinal) where
      abbrev made : Option Table
      made = Some (final_table names folds whole one)

      abbrev makes : ℕ → Option Table
      makes n = Some (final_table names folds (tables n) one)

      by_one : (F : List Row → List Row) (input : ℕ) → ((rows : List Row) → F (map but_for_epochs rows) ≡ F rows)
          → ((rows : List Row) → All IsPlain (F rows))
          → ((some : List Table) → final_rows folds some one.op ≡ F (read_of (slice_get some input)))
          → ((keys : List (List ℕ)) (w : List Row) (rows : ℕ → List Row) → AreOfParts (part_of keys) parts w rows
          → AreOfParts (part_of keys) parts (F w) (λ n. F (rows n)))
          → IsMerged (still_in_order (merge_at known input)) made makes
      by_one F input no_epochs plain is stays = by (merge_at known input) refl
        where
          by : (how : Merge) → merge_at known input ≡ how → IsMerged (still_in_order how) made makes
          by NotMerged e = tt
          by (TopAgain column kept) e = tt
          by (InOrder keys) e =
              let here = stands.each input (InOrder keys) (merge_there known input keys e) in
              one_in_parts F no_epochs plain (slice_get whole input) (λ n. slice_get (tables n) input) made makes (is whole)
              (λ n. is (tables n)) keys here
              (stays keys (rows_in (slice_get whole input)) (λ n. rows_in (slice_get (tables n) input)) here.are)

      by_top : (column kept input : ℕ)
          → ((some : List Table) → final_rows folds some one.op ≡ top_rows column kept (read_of (slice_get some input)))
          → IsMerged (top_of column kept (merge_at known input)) made makes
      by_top column kept input is = by (merge_at known input) refl
        where
          by : (how : Merge) → merge_at known input ≡ how → IsMerged (top_of column kept how) made makes
          by NotMerged e = tt
          by (TopAgain of_top few) e = tt
          by (InOrder keys) e =
              let here = stands.each input (InOrder keys) (merge_there known input keys e) in
              top_in_parts (top_rows column kept) (tops_bare column kept) (top_plain column kept) (slice_get whole input)
              (λ n. slice_get (tables n) input) made makes (is whole) (λ n. is (tables n)) keys here
              (tops_are_of_tops column kept (λ n. rows_in (slice_get (tables n) input)) parts)

      by_two : (left right : ℕ) → ((some : List Table) → final_rows folds some one.op ≡ joined_rows (read_of (slice_get some left))
          (read_of (slice_get some right)))
          → JoinsMatch known (Join left right)
          → IsMerged (joined (merge_at known left) (merge_at known right)) made makes
      by_two left right is match = by (merge_at known left) (merge_at known right) refl refl
        where
          both : (keys : List (List ℕ)) → InParts keys (slice_get whole left) (λ n. slice_get (tables n) left)
              → InParts keys (slice_get whole right) (λ n. slice_get (tables n) right) → InParts keys made makes
          both keys lefts rights = record {
            are = of_same_rows keys (joined_rows (rows_in (slice_get whole left)) (rows_in (slice_get whole right))) (rows_in made)
                (λ n. joined_rows (rows_in (slice_get (tables n) left)) (rows_in (slice_get (tables n) right))) (λ n. rows_in (makes n))
                (sym (both_bare joined_rows joins_bare joined_plain (slice_get whole left) (slice_get whole right) made
                (is whole) lefts.read rights.read))
                (λ n. sym (both_bare joined_rows joins_bare joined_plain (slice_get (tables n) left)
                (slice_get (tables n) right) (makes n) (is (tables n)) (lefts.each n) (rights.each n)))
                (joins_stay (part_of keys) parts (rows_in (slice_get whole left)) (rows_in (slice_get whole right))
                (λ n. rows_in (slice_get (tables n) left)) (λ n. rows_in (slice_get (tables n) right)) apart lefts.are rights.are);
            read = both_read joined_rows joins_bare joined_plain (slice_get whole left) (slice_get whole right) made (is whole);
            each = λ n. both_read joined_rows joins_bare joined_plain (slice_get (tables n) left)
                (slice_get (tables n) right) (makes n) (is (tables n));
          }

          by : (how other : Merge) → merge_at known left ≡ how → merge_at known right ≡ other → IsMerged (joined how other) made makes
          by NotMerged other e h = tt
          by (TopAgain column kept) other e h = tt
          by (InOrder keys) NotMerged e h = tt
          by (InOrder keys) (TopAgain column kept) e h = tt
          by (InOrder keys) (InOrder others) e h =
              let same : keys ≡ others = match keys others e h in
              let lefts = stands.each left (InOrder keys) (merge_there known left keys e) in
              both others (subst (λ ks. InParts ks (slice_get whole left) (λ n. slice_get (tables n) left)) same lefts)
              (stands.each right (InOrder others) (merge_there known right others h))

      by_op : (op : TypedFinalOp) → one.op ≡ op → JoinsMatch known op → IsMerged (final_merge known op) made makes
      by_op (Filter input condition) e match =
          by_one (filtered_rows condition) input (filters_bare condition) (filtered_plain condition) (λ some. ap (final_rows folds some) e)
          (λ keys w rows are. filters_stay (part_of keys) parts condition w rows are)
      by_op (Map input values) e match =
          by_one (mapped_rows values) input (maps_bare values) (mapped_plain values) (λ some. ap (final_rows folds some) e)
          (λ keys w rows are. maps_stay (part_of keys) parts values w rows are)
      by_op (Group input keys f args) e match = tt
      by_op (Join left right) e match = by_two left right (λ some. ap (final_rows folds some) e) match
      by_op (Top input column kept) e match = by_top column kept input (λ some. ap (final_rows folds some) e)

      one_more : JoinsMatch known one.op → Stands (known ++ final_merge known one.op ∷ []) (whole ++ final_table names folds whole one ∷ [])
          (λ n. tables n ++ final_table names folds (tables n) one ∷ [])
      one_more match =
          let how : Merge = final_merge known one.op in
          record {
            long = longer whole known (final_table names folds whole one) how stands.long;
            longs = λ n. longer (tables n) known (final_table names folds (tables n) one) how (stands.longs n);
            each = λ k some e. elim (at_push known how k some e) [
              | inl found ↦ let less = slice_get_within known k some found in
                  moved some (slice_get whole k) (slice_get (whole ++ final_table names folds whole one ∷ []) k)
                  (λ n. slice_get (tables n) k) (λ n. slice_get (tables n ++ final_table names folds (tables n) one ∷ []) k)
                  (sym (before_push whole (final_table names folds whole one) k (omega (arith, less, stands.long))))
                  (λ n. let long = stands.longs n in
                  sym (before_push (tables n) (final_table names folds (tables n) one) k (omega (arith, less, long))))
                  (stands.each k some found)
              | inr last ↦ subst (λ h. IsMerged h (slice_get (whole ++ final_table names folds whole one ∷ []) k)
                  (λ n. slice_get (tables n ++ final_table names folds (tables n) one ∷ []) k)) last.1
                  (moved how made (slice_get (whole ++ final_table names folds whole one ∷ []) k) makes
                  (λ n. slice_get (tables n ++ final_table names folds (tables n) one ∷ []) k)
                  (sym (here_push whole (final_table names folds whole one) k (stands.long ∙ last.0)))
                  (λ n. sym (here_push (tables n) (final_table names folds (tables n) one) k (stands.longs n ∙ last.0)))
                  (by_op one.op refl match))
            ];
          }

    -- the tables of these finals, after those before them
    pub walk : (finals : List TypedFinal) (known : List Merge) (whole : List Table) (tables : ℕ → List Table)
        → Stands known whole tables → All (λ one. JoinsMatch (merges_with known finals) one.op) finals
        → Stands (merges_with known finals) (with_finals names folds whole finals) (λ n. with_finals names folds (tables n) finals)
    walk [] known whole tables stands match = stands
    walk (one ∷ finals) known whole tables stands match =
        let more = known ++ final_merge known one.op ∷ [] in
        let J : TypedFinal → Type 0 = λ final. JoinsMatch (merges_with more finals) final.op in
        walk finals more (whole ++ final_table names folds whole one ∷ []) (λ n. tables n ++ final_table names folds (tables n) one ∷ [])
        (one_more known whole tables stands one (match_before known (one ∷ finals) one.op (All-head J one finals match)))
        (All-tail J one finals match)
