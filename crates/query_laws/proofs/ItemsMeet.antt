-- What items ask is so where they are typed.
use Rattle.std.proofs.Common.{◌≡◌, ℕ, List, ◌++◌, sym, subst, ◌∙◌, append-nil}
use Rattle.query_laws.proofs.Terms.{FinalOp, Item, Name, StreamOp, FoldView, Given, Known, MadeFinal, MadeStream, StreamView, TableView}
use Rattle.query_laws.proofs.Terms.{five_fields, key_columns, other_columns, column_names, Entry, known_in, IsStream, IsFold, IsTable}
use Rattle.query_laws.proofs.Terms.{Demand, Holds, Condition, StandsAt, HasKind, HasItem, HasTypedColumns, HasKeys, HasArguments, AreApart}
use Rattle.query_laws.proofs.Terms.{AreSame, key_ids, HasStream}
use Rattle.query_laws.specs.Asked.{StreamAsks, FinalAsks, ItemAsks}
use Rattle.query_laws.specs.Asked as asks
use Rattle.query_laws.specs.FinalRules.{HasFinal}
use Rattle.query_laws.proofs.{FoldsMeet.fold_meets, Steps.same_ok, Meets.{expr_meets, columns_meet, keys_meet, arguments_meet}}
use Rattle.query_laws.proofs.NameLaws.{stream_complete, fold_name_complete, table_complete}

-- a name stands for one thing

one_stream : (known : List Known) (x : Name) {s r : StreamView} → IsStream known x.id s → IsStream known x.id r → s ≡ r
one_stream _ x {s} {r} p q = same_ok s r (sym (stream_complete _ x p) ∙ stream_complete _ x q)

one_fold : (known : List Known) (x : Name) {f g : FoldView} → IsFold known x.id f → IsFold known x.id g → f ≡ g
one_fold _ x {f} {g} p q = same_ok f g (sym (fold_name_complete _ x p) ∙ fold_name_complete _ x q)

one_table : (known : List Known) (x : Name) {s r : TableView} → IsTable known x.id s → IsTable known x.id r → s ≡ r
one_table _ x {s} {r} p q = same_ok s r (sym (table_complete _ x p) ∙ table_complete _ x q)

pub stream_meets : {five : List ℕ} {known : List Known} (number : ℕ) {groups : ℕ} {name : Name} {op : StreamOp} (made : MadeStream)
    {d : Demand}
    → HasStream five known number groups op made → StreamAsks five known groups name op d → Holds known d
stream_meets _ _ h asks.of_filtered = (h.source, h.stream)
stream_meets {known} _ _ h (asks.of_condition {input} {e} _ is asked) =
    expr_meets known (
      h.condition,
      subst (λ (z : StreamView). HasKind (column_names z.columns) Condition e h.condition)
          (one_stream known input h.stream is) h.typed,
    ) asked
stream_meets _ _ h asks.of_mapped = (h.source, h.stream)
stream_meets {known} _ _ h (asks.of_columns {input} {new} _ is asked) =
    columns_meet known h.values (subst (λ (z : StreamView). HasTypedColumns (column_names z.columns) (column_names z.columns ++ z.hidden)
    new h.values) (one_stream known input h.stream is) h.typed) asked
stream_meets _ _ h asks.of_first = (h.left, h.one)
stream_meets _ _ h asks.of_second = (h.right, h.other)
stream_meets {known} _ _ h (asks.of_both first second left _ p q) =
    subst (λ (z : StreamView). AreSame left.columns z.columns) (one_stream known second h.other q)
    (subst (λ (z : StreamView). AreSame z.columns h.right.columns) (one_stream known first h.one p) h.same)
stream_meets _ _ h asks.of_limit = h.few
stream_meets _ _ h asks.of_grouped = (h.source, h.stream)
stream_meets {five} {known} _ _ h (asks.of_keys {input} {keys} _ is asked) =
    keys_meet known (subst (λ (z : StreamView). HasKeys (column_names z.columns) (key_ids five keys) h.slots)
    (one_stream known input h.stream is) h.picked) asked
stream_meets _ _ h (asks.of_fold _ _ _) = (h.f, h.fold)
stream_meets {five} {known} _ _ h (asks.of_arguments {input} {keys} {fold_name} source is there asked) =
    arguments_meet known (subst (λ z. HasArguments (column_names source.columns) (key_ids five keys) z h.arguments)
    (one_fold known fold_name h.fold there) (subst (λ (z : StreamView). HasArguments (column_names z.columns) (key_ids five keys) h.f
    h.arguments) (one_stream known input h.stream is) h.taken)) asked

pub final_meets : (given : Given) {known : List Known} {op : FinalOp} (made : MadeFinal) {d : Demand}
    → HasFinal given known op made → FinalAsks (five_fields given.fields) known op d → Holds known d
final_meets _ _ h asks.of_filtered = (h.source, h.table)
final_meets _ {known} _ h (asks.of_condition {input} {e} _ is asked) =
    expr_meets known (
      h.condition,
      subst (λ (z : TableView). HasKind z.columns Condition e h.condition) (one_table known input h.table is)
          h.typed,
    ) asked
final_meets _ _ h asks.of_mapped = (h.source, h.table)
final_meets _ {known} _ h (asks.of_columns {input} {new} source is asked) =
    columns_meet known h.values (subst (λ z. HasTypedColumns source.columns z new h.values) (sym (append-nil source.columns))
    (subst (λ (z : TableView). HasTypedColumns z.columns z.columns new h.values) (one_table known input h.table is) h.typed)) asked
final_meets _ _ h asks.of_grouped = (h.source, h.table)
final_meets given {known} _ h (asks.of_keys {input} {keys} _ is asked) =
    let five = five_fields given.fields in
    keys_meet known (subst (λ (z : TableView). HasKeys z.columns (key_ids five keys) h.slots) (one_table known input h.table is) h.picked)
    asked
final_meets _ _ h (asks.of_fold _ _ _) = (h.f, h.fold, h.quiet)
final_meets given {known} _ h (asks.of_arguments {input} {keys} {fold_name} source is there asked) =
    let five = five_fields given.fields in
    arguments_meet known (subst (λ z. HasArguments source.columns (key_ids five keys) z h.arguments) (one_fold known fold_name h.fold there)
    (subst (λ (z : TableView). HasArguments z.columns (key_ids five keys) h.f h.arguments) (one_table known input h.table is) h.taken))
    asked
final_meets _ _ h asks.of_first = (h.left, h.one)
final_meets _ _ h asks.of_second = (h.right, h.other)
final_meets _ {known} _ h (asks.of_both first second left _ p q) =
    subst (λ z. key_columns left ≡ key_columns z) (one_table known second h.other q)
    (subst (λ z. key_columns z ≡ key_columns h.right) (one_table known first h.one p) h.keys)
final_meets _ {known} _ h (asks.of_others {first} {second} left _ p q) =
    subst (λ z. AreApart (other_columns z) left.columns) (one_table known second h.other q)
    (subst (λ (z : TableView). AreApart (other_columns h.right) z.columns) (one_table known first h.one p) h.apart)
final_meets _ _ h asks.of_ranked = (h.source, h.table)
final_meets _ {known} _ h (asks.of_column {input} {column} _ _ is) =
    (h.slot, subst (λ (z : TableView). StandsAt z.columns h.slot column.id) (one_table known input h.table is) h.stands)
final_meets _ _ h asks.of_rows = (h.some, h.few)

pub item_meets : (given : Given) {names : List (List ℕ)} {items : List Entry} {i : Item} (one : Entry) {d : Demand}
    → HasItem given names items i one → ItemAsks (five_fields given.fields) names items i d → Holds (known_in names items) d
item_meets _ _ h asks.of_fold_name = h.free
item_meets _ {names} {items} _ h (asks.of_fold d q asked) = fold_meets (known_in names items) h.typed asked
item_meets _ _ h asks.of_stream_name = h.binding.free
item_meets _ _ h asks.of_one_stream = h.binding.few
item_meets _ _ h (asks.of_stream asked) = stream_meets _ _ h.typed asked
item_meets _ _ h asks.of_final_name = h.binding.free
item_meets _ _ h asks.of_one_final = h.binding.few
item_meets given _ h (asks.of_final asked) = final_meets given h.made h.typed asked
item_meets _ _ h asks.of_print = (h.table, h.stands)
item_meets _ _ h asks.of_once = h.once
