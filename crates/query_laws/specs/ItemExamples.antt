-- Small items after others, typed and refused by the rules: names that are taken, a 33rd binding, a table printed twice.
use Rattle.std.specs.Prelude.{◌≡◌, ℕ, zero, suc, ◌+◌, List, [], ◌∷◌, map, codes, None, Some}
use Rattle.query_lang.specs.declared.fold.Op.TheVariants.{Lt}
use Rattle.query_lang.specs.declared.fold.TypedExpr.TheVariants as typed
use Rattle.query_lang.specs.declared.{fold.TypedFold.TypedFold, query.{Expr.{Expr, TheVariants.{Number, Binary}}, FinalDef.FinalDef}}
use Rattle.query_lang.specs.declared.query.{FoldDef.FoldDef, Item.Item}
use Rattle.query_lang.specs.declared.query.Item.TheVariants as item
use Rattle.query_lang.specs.declared.query.{StreamDef.StreamDef, StreamOp.TheVariants.Filter}
use Rattle.query_lang.specs.declared.typed.PrintOf.TheVariants as place
use Rattle.query_lang.specs.declared.typed.TypedFinalOp.TheVariants as final_made_by
use Rattle.query_lang.specs.declared.typed.TypedOp.TheVariants as made_by
use Rattle.query_lang.specs.declared.typing.{MadeFinal.MadeFinal, MadeStream.MadeStream}
use Rattle.query_lang.specs.declared.typing.Origin.TheVariants as origin
use Rattle.query_lang.specs.{declared.typing.StreamColumn.StreamColumn, Typing.field_numbers}
use Rattle.query_laws.specs.{Context.{Entry, AFold, AStream, AFinal, APrint}, QueryRules.HasItem, TypingExamples.{here, called, a_field}}

-- the query's names: `pktstream` is number 0
abbrev pub names : List (List ℕ)
names = codes "pktstream" ∷ []

abbrev pub HasEntry : List Entry → Item → Entry → Type 0
HasEntry items i one = HasItem (record { fields = []; groups = 1 }) names items i one

abbrev pub HasNoEntry : List Entry → Item → Type 0
HasNoEntry items i = (one : Entry) → HasEntry items i one → ⊥

-- ---- a fold, a groupby by the key 1 and a final over it, of which the groupby is printed

abbrev pub a_count : TypedFold
a_count = record {
  name = called 10;
  state_names = 3 ∷ [];
  initial = 0 ∷ [];
  arg_names = [];
  body = [];
  emit = None;
  nodes = 0;
  statements = 0;
}

abbrev pub a_groupby : MadeStream
a_groupby = record {
  op = made_by.Group 0 (0 ∷ []) 0 [];
  columns = a_field 1 ∷ [];
  hidden = 3 ∷ [];
  table = Some (record { place = place.Group 0; columns = 1 ∷ 3 ∷ []; keys = 1 });
}

abbrev pub a_final : MadeFinal
a_final = record { op = final_made_by.Top 0 1 5; columns = 1 ∷ 3 ∷ []; keys = 1 }

-- the last one first
abbrev pub one_of_each : List Entry
one_of_each = APrint (called 11) (place.Group 0) ∷ AFinal (called 12) a_final ∷ AStream (called 11) a_groupby ∷ AFold a_count ∷ []

-- no fold, no stream and no final after these has this name
pub record IsTaken (id : ℕ) : Type 0 where
  pub by_no_fold : (d : FoldDef) → d.name ≡ called id → HasNoEntry one_of_each (item.Fold d)
  pub by_no_stream : (d : StreamDef) → d.name ≡ called id → HasNoEntry one_of_each (item.Stream d)
  pub by_no_final : (d : FinalDef) → d.name ≡ called id → HasNoEntry one_of_each (item.Final d)

-- ---- many streams

-- 0 is less than 1
abbrev pub always : Expr
always = Binary Lt here (Number 0 here) (Number 1 here)

abbrev pub columns_of_packets : List StreamColumn
columns_of_packets = map (λ id. record { name = id; origin = origin.Field }) (field_numbers names)

abbrev pub every_packet : MadeStream
every_packet = record {
  op = made_by.Filter 0 (typed.Binary Lt (typed.Number 0) (typed.Number 1));
  columns = columns_of_packets;
  hidden = [];
  table = None;
}

-- a filter of all packets, under this name
abbrev pub filter_named : ℕ → StreamDef
filter_named id = record { name = called id; op = Filter (called 0) always }

abbrev pub filters : ℕ → List Entry
filters zero = []
filters (suc n) = AStream (called (100 + n)) every_packet ∷ filters n

pub record ItemExamples : Type 0 where
  pub packets_name : IsTaken 0
  pub folds_name : IsTaken 10
  pub streams_name : IsTaken 11
  pub finals_name : IsTaken 12
  -- each table is printed once
  pub second_table : HasEntry one_of_each (item.Print (called 12)) (APrint (called 12) (place.Final 0))
  pub printed_twice : HasNoEntry one_of_each (item.Print (called 11))
  -- a fold has no table
  pub printed_fold : HasNoEntry one_of_each (item.Print (called 10))
  -- there are at most 32 streams and finals
  pub binding_32 : HasEntry (filters 31) (item.Stream (filter_named 50)) (AStream (called 50) every_packet)
  pub binding_33 : HasNoEntry (filters 32) (item.Stream (filter_named 50))
