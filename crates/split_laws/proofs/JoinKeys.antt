-- Two tables that are joined in a typed query have the same keys.
use Rattle.std.proofs.Common.{◌≡◌, ℕ, zero, suc, ◌+◌, ◌≤◌, true, List, [], ◌∷◌, ◌++◌, Option, Some, None, length, map, take, filter, refl}
use Rattle.std.proofs.{Common.{sym, ap, ◌∙◌, subst, inl, inr, arith, length-append}, lemmas.List.map-append}
use Rattle.std.proofs.lemmas.{List.Elements.{All-head, All-tail, filter-append}, Option.same_Some}
use Rattle.std.specs.Prelude.{⊤, All, is_some, slice_get}
use Rattle.query_lang.specs.declared.query.FinalOp.{FinalOp}
use Rattle.query_lang.specs.declared.query.FinalOp.TheVariants as final
use Rattle.query_lang.specs.declared.query.StreamOp.{StreamOp}
use Rattle.query_lang.specs.declared.query.StreamOp.TheVariants as ops
use Rattle.query_lang.specs.declared.typed.PrintOf.TheVariants as place
use Rattle.query_lang.specs.declared.typed.{TypedFinal.TypedFinal, TypedFinalOp.TypedFinalOp}
use Rattle.query_lang.specs.declared.typed.TypedFinalOp.TheVariants as typed
use Rattle.query_lang.specs.declared.{typed.TypedStream.TypedStream, typing.{Given.Given, Known.Known, MadeFinal.MadeFinal}}
use Rattle.query_lang.specs.declared.typing.{MadeStream.MadeStream, Meaning.Meaning}
use Rattle.query_lang.specs.declared.typing.Meaning.TheVariants as meaning
use Rattle.query_lang.specs.{declared.typing.{StreamColumn.StreamColumn, TableView.TableView}, Streams.taking_of}
use Rattle.query_lang.specs.{TypedFinals.{five_fields, key_columns, other_columns, table_number}, TypedStreams.column_names}
use Rattle.query_laws.specs.{Context.{IsTable, NameStandsFor}, ExprRules.StandsAt, FinalRules.HasFinal}
use Rattle.query_laws.specs.StreamRules.{AreAt, HasSlots, HasStream, key_ids, new_names}
use Rattle.stage_plan.specs.Shape.{text_at}
use Rattle.split_laws.{specs.Merging.{Merge, InOrder, merge_at}, proofs.FinalWalk.JoinsMatch}

-- ---- the columns of a groupby's stream are its keys

column_at : (columns : List StreamColumn) (slot id : ℕ) (column : StreamColumn) → StandsAt (column_names columns) slot id
    → slice_get columns slot ≡ Some column → column.name ≡ id
column_at [] slot id column stands e = absurd (cc e)
column_at (first ∷ columns) zero id column stands e = ap (λ (c : StreamColumn). c.name) (sym (same_Some first column e)) ∙ stands
column_at (first ∷ columns) (suc slot) id column stands e = column_at columns slot id column stands.1 e

keys_are_columns : (columns : List StreamColumn) (ids slots : List ℕ) (picked : List StreamColumn)
    → HasSlots (column_names columns) ids slots → AreAt columns slots picked → column_names picked ≡ ids
keys_are_columns columns [] [] [] places at = refl
keys_are_columns columns [] [] (one ∷ picked) places at = absurd at
keys_are_columns columns [] (slot ∷ slots) picked places at = absurd places
keys_are_columns columns (id ∷ ids) [] picked places at = absurd places
keys_are_columns columns (id ∷ ids) (slot ∷ slots) [] places at = absurd at
keys_are_columns columns (id ∷ ids) (slot ∷ slots) (one ∷ picked) places at =
    ap (λ name. name ∷ column_names picked) (column_at columns slot id one places.0 at.0)
    ∙ ap (λ rest. id ∷ rest) (keys_are_columns columns ids slots picked places.1 at.1)

-- ---- lists

take_front : (xs ys : List ℕ) (n : ℕ) → n ≤ length xs → take n (xs ++ ys) ≡ take n xs
take_front xs ys zero less = refl
take_front [] ys (suc n) less = absurd (omega (arith, less))
take_front (x ∷ xs) ys (suc n) less = ap (λ rest. x ∷ rest) (take_front xs ys n (omega (arith, less)))

take_whole : (xs ys : List ℕ) → take (length xs) (xs ++ ys) ≡ xs
take_whole [] ys = refl
take_whole (x ∷ xs) ys = ap (λ rest. x ∷ rest) (take_whole xs ys)

pub next_of : {A : Type 0} (xs : List A) (x : A) (ys : List A) → slice_get ((xs ++ x ∷ []) ++ ys) (length xs) ≡ Some x
next_of [] x ys = refl
next_of (y ∷ xs) x ys = next_of xs x ys

-- ---- what is known of tables

-- the columns that are keys of the groupbys of these streams
abbrev pub group_keys : List TypedStream → List (List ℕ)
group_keys streams = map (λ (one : TypedStream). one.columns) (filter (λ (one : TypedStream). is_some (taking_of one.op)) streams)

pub group_keys-append : (xs ys : List TypedStream) → group_keys (xs ++ ys) ≡ group_keys xs ++ group_keys ys
group_keys-append xs ys =
    ap (map (λ (one : TypedStream). one.columns)) (filter-append (λ (one : TypedStream). is_some (taking_of one.op)) xs ys)
    ∙ map-append (λ (one : TypedStream). one.columns) (filter (λ (one : TypedStream). is_some (taking_of one.op)) xs)
    (filter (λ (one : TypedStream). is_some (taking_of one.op)) ys)

-- how the merge of a final's table in order came about
abbrev pub IsMadeOf : List Merge → List (List ℕ) → TypedFinalOp → Type 0
IsMadeOf known keys (typed.Filter input condition) = merge_at known input ≡ InOrder keys
IsMadeOf known keys (typed.Map input values) = merge_at known input ≡ InOrder keys
IsMadeOf known keys (typed.Group input slots f args) = ⊥
IsMadeOf known keys (typed.Join left right) = merge_at known right ≡ InOrder keys
IsMadeOf known keys (typed.Top input column kept) = ⊥

module _ (names : List (List ℕ)) (groups : ℕ) (merges : List Merge) (streams : List TypedStream) (finals : List TypedFinal)
    (of_group : (j : ℕ) (columns : List ℕ) (keys : List (List ℕ)) → slice_get (group_keys streams) j ≡ Some columns
    → merge_at merges j ≡ InOrder keys → keys ≡ map (text_at names) columns)
    (of_final : (j : ℕ) (one : TypedFinal) (keys : List (List ℕ)) → slice_get finals j ≡ Some one
    → merge_at merges (groups + j) ≡ InOrder keys → IsMadeOf merges keys one.op) where
  -- a table in order has the names of its keys
  pub record IsNamed (table : TableView) : Type 0 where
    pub fits : table.keys ≤ length table.columns
    pub named : (keys : List (List ℕ)) → merge_at merges (table_number groups table.place) ≡ InOrder keys
        → keys ≡ map (text_at names) (key_columns table)

  abbrev IfTable : Option TableView → Type 0
  IfTable None = ⊤
  IfTable (Some table) = IsNamed table

  abbrev MeansNamed : Meaning → Type 0
  MeansNamed (meaning.Fold f) = ⊤
  MeansNamed (meaning.Stream stream) = IfTable stream.table
  MeansNamed (meaning.Final table) = IsNamed table

  abbrev pub OneNamed : Known → Type 0
  OneNamed one = MeansNamed one.meaning

  stands_named : (known : List Known) (id : ℕ) (m : Meaning) → NameStandsFor known id m → All OneNamed known → MeansNamed m
  stands_named [] id m stands all = absurd stands
  stands_named (one ∷ known) id m stands all = elim stands [
    | inl here ↦ subst MeansNamed here.1 (All-head OneNamed one known all)
    | inr later ↦ stands_named known id m later.1 (All-tail OneNamed one known all)
  ]

  table_named : (known : List Known) (id : ℕ) (table : TableView) → IsTable known id table → All OneNamed known → IsNamed table
  table_named known id table stands all = elim stands [
    | inl final ↦ stands_named known id (meaning.Final table) final all
    | inr group ↦ subst IfTable group.2 (stands_named known id (meaning.Stream group.0) group.1 all)
  ]

  -- ---- items

  pub made_stream : (five : List ℕ) (known : List Known) (number before : ℕ) (op : StreamOp) (made : MadeStream)
      → HasStream five known number before op made
      → ((columns : List ℕ) → columns ≡ column_names made.columns → is_some (taking_of made.op) ≡ true
      → slice_get (group_keys streams) before ≡ Some columns)
      → IfTable made.table
  made_stream five known number before (ops.Filter input e) made h at =
      subst (λ (m : MadeStream). IfTable m.table) (sym h.is) tt
  made_stream five known number before (ops.Map input columns) made h at =
      subst (λ (m : MadeStream). IfTable m.table) (sym h.is) tt
  made_stream five known number before (ops.Zip first second) made h at =
      subst (λ (m : MadeStream). IfTable m.table) (sym h.is) tt
  made_stream five known number before (ops.Group input keys fold_name) made h at =
      let ids : List ℕ = key_ids five keys in
      let same : column_names h.columns ≡ ids = keys_are_columns h.source.columns ids h.slots h.columns h.picked.places h.there in
      let columns : ids ≡ column_names made.columns = sym same ∙ ap (λ (m : MadeStream). column_names m.columns) (sym h.is) in
      let there = at ids columns (ap (λ (m : MadeStream). is_some (taking_of m.op)) h.is) in
      let whole : take (length ids) (ids ++ h.f.states) ≡ ids = take_whole ids h.f.states in
      subst (λ (m : MadeStream). IfTable m.table) (sym h.is) (record {
        fits = omega (arith, length-append ids h.f.states);
        named = λ found e. of_group before ids found there e ∙ ap (map (text_at names)) (sym whole);
      })

  pub made_final : (given : Given) (known : List Known) (op : FinalOp) (made : MadeFinal) (j : ℕ) → given.groups ≡ groups
      → HasFinal given known op made → All OneNamed known
      → ((keys : List (List ℕ)) → merge_at merges (groups + j) ≡ InOrder keys → IsMadeOf merges keys made.op)
      → IsNamed (record { place = place.Final j; columns = made.columns; keys = made.keys }) × JoinsMatch merges made.op
  made_final given known (final.Filter input e) made j same h all how =
      let source = table_named known input.id h.source h.table all in
      let n : groups ≡ given.groups = sym same in
      subst (λ (m : MadeFinal). IsNamed (record { place = place.Final j; columns = m.columns; keys = m.keys }) × JoinsMatch merges m.op)
      (sym h.is) (
        record {
          fits = source.fits;
          named = λ keys e. source.named keys (ap (λ k. merge_at merges (table_number k h.source.place)) n
              ∙ subst (λ (m : MadeFinal). IsMadeOf merges keys m.op) h.is (how keys e));
        },
        tt,
      )
  made_final given known (final.Map input columns) made j same h all how =
      let source = table_named known input.id h.source h.table all in
      let n : groups ≡ given.groups = sym same in
      subst (λ (m : MadeFinal). IsNamed (record { place = place.Final j; columns = m.columns; keys = m.keys }) × JoinsMatch merges m.op)
      (sym h.is) (
        record {
          fits = omega (arith, source.fits, length-append h.source.columns (new_names columns));
          named = λ keys e. source.named keys (ap (λ k. merge_at merges (table_number k h.source.place)) n
              ∙ subst (λ (m : MadeFinal). IsMadeOf merges keys m.op) h.is (how keys e))
              ∙ ap (map (text_at names)) (sym (take_front h.source.columns (new_names columns) h.source.keys source.fits));
        },
        tt,
      )
  made_final given known (final.Group input keys fold_name) made j same h all how =
      subst (λ (m : MadeFinal). IsNamed (record { place = place.Final j; columns = m.columns; keys = m.keys }) × JoinsMatch merges m.op)
      (sym h.is) (
        record {
          fits = omega (arith, length-append (key_ids (five_fields given.fields) keys) h.f.states);
          named = λ found e. absurd (subst (λ (m : MadeFinal). IsMadeOf merges found m.op) h.is (how found e));
        },
        tt,
      )
  made_final given known (final.Join first second) made j same h all how =
      let left = table_named known first.id h.left h.one all in
      let right = table_named known second.id h.right h.other all in
      let n : groups ≡ given.groups = sym same in
      subst (λ (m : MadeFinal). IsNamed (record { place = place.Final j; columns = m.columns; keys = m.keys }) × JoinsMatch merges m.op)
      (sym h.is) (
        record {
          fits = omega (arith, left.fits, length-append h.left.columns (other_columns h.right));
          named = λ keys e. right.named keys (ap (λ k. merge_at merges (table_number k h.right.place)) n
              ∙ subst (λ (m : MadeFinal). IsMadeOf merges keys m.op) h.is (how keys e))
              ∙ (ap (map (text_at names)) (sym h.keys)
              ∙ ap (map (text_at names)) (sym (take_front h.left.columns (other_columns h.right) h.left.keys left.fits)));
        },
        λ keys others e f. left.named keys (ap (λ k. merge_at merges (table_number k h.left.place)) n ∙ e)
            ∙ (ap (map (text_at names)) h.keys
            ∙ sym (right.named others (ap (λ k. merge_at merges (table_number k h.right.place)) n ∙ f))),
      )
  made_final given known (final.Top input column kept span) made j same h all how =
      let source = table_named known input.id h.source h.table all in
      subst (λ (m : MadeFinal). IsNamed (record { place = place.Final j; columns = m.columns; keys = m.keys }) × JoinsMatch merges m.op)
      (sym h.is) (
        record {
          fits = source.fits;
          named = λ found e. absurd (subst (λ (m : MadeFinal). IsMadeOf merges found m.op) h.is (how found e));
        },
        tt,
      )
