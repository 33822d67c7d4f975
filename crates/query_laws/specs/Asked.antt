-- What each part of a query asks, after the items before it.
use Rattle.std.specs.Prelude.{◌≡◌, ℕ, ◌+◌, List, [], ◌∷◌, ◌++◌, length, map, flat_map}
use Rattle.query_lang.specs.declared.fault.Limit.TheVariants as limits
use Rattle.query_lang.specs.declared.{fault.Span.Span, fold.Op.Op, query.{Column.Column, Expr.Expr}}
use Rattle.query_lang.specs.declared.query.Expr.TheVariants as expr
use Rattle.query_lang.specs.declared.query.{FinalDef.FinalDef, FinalOp.FinalOp}
use Rattle.query_lang.specs.declared.query.FinalOp.TheVariants as final
use Rattle.query_lang.specs.declared.query.{FoldDef.FoldDef, Item.Item}
use Rattle.query_lang.specs.declared.query.Item.TheVariants as item
use Rattle.query_lang.specs.declared.query.{Key.Key, Name.Name, StateVar.StateVar, Stmt.Stmt}
use Rattle.query_lang.specs.declared.query.Stmt.TheVariants as stmt
use Rattle.query_lang.specs.declared.query.{StreamDef.StreamDef, StreamOp.StreamOp}
use Rattle.query_lang.specs.declared.query.StreamOp.TheVariants as stream
use Rattle.query_lang.specs.declared.typing.{FoldView.FoldView, Known.Known, StreamView.StreamView, TableView.TableView}
use Rattle.query_lang.specs.{TypedFinals.other_columns, TypedStreams.{column_names, key_names}}
use Rattle.query_laws.specs.Context.{Entry, streams_in, finals_in, printed_in, groups_in, known_in, IsStream, IsFold, IsTable}
use Rattle.query_laws.specs.Demands.{IsOneOf, HasPart, StandsIn, AStream, ATable, AFold, AQuietFold, Demand, Free, Stands, AColumn, New}
use Rattle.query_laws.specs.Demands.{Target, Typed, Two, Constant, Kept, Fewer, Same, Apart, SameKeys, ReadsNone, OneEmit}
use Rattle.query_laws.specs.{ExprRules.{Kind, Word, Condition}, FoldRules.{state_names_of, arg_names_of}, StreamRules.{new_names, key_ids}}

abbrev pub ids_of : List Name → List ℕ
ids_of names = map (λ name. name.id) names

-- an expression that has to be of this kind, over these columns beside these hidden states
pub data ExprAsks (columns hidden : List ℕ) (k : Kind) (e : Expr) : Demand → Type 0 where
  of_part : {l : Kind} {part : Expr} → HasPart k e l part → ExprAsks columns hidden k e (Typed columns l part)
  of_name : {l : Kind} (x : Name) → HasPart k e l (expr.Named x) → ExprAsks columns hidden k e (AColumn columns hidden x.id x.span)
  of_call : {l : Kind} (op : Op) {span : Span} {arguments : List Expr} → HasPart k e l (expr.Call op span arguments)
      → ExprAsks columns hidden k e (Two arguments span)
  of_right : {l : Kind} {op : Op} (span : Span) (a : Expr) {b : Expr} → HasPart k e l (expr.Binary op span a b)
      → ExprAsks columns hidden k e (Constant op b)
  of_second : {l : Kind} {op : Op} (span : Span) (a : Expr) {b : Expr} → HasPart k e l (expr.Call op span (a ∷ b ∷ []))
      → ExprAsks columns hidden k e (Constant op b)

-- a statement inside these conditions, the innermost first, of a fold with these state variables and arguments
pub data StmtAsks (states args : List ℕ) (around : List Expr) : Stmt → Demand → Type 0 where
  of_target : {x : Name} (e : Expr) → StmtAsks states args around (stmt.Assign x e) (Target states args x)
  of_value : (x : Name) {e : Expr} {demand : Demand} → ExprAsks (states ++ args) [] Word e demand
      → StmtAsks states args around (stmt.Assign x e) demand
  of_condition : {c : Expr} (a b : List Stmt) {demand : Demand} → ExprAsks (states ++ args) [] Condition c demand
      → StmtAsks states args around (stmt.If c a b) demand
  of_emit : (span : Span) {c : Expr} → IsOneOf c around → StmtAsks states args around (stmt.Emit span) (ReadsNone states c)

pub data FoldAsks (d : FoldDef) : Demand → Type 0 where
  of_state : (front : List StateVar) (state : StateVar) (back : List StateVar) → d.states ≡ front ++ state ∷ back
      → FoldAsks d (New (map (λ other. other.name.id) front) state.name.id state.name.span)
  of_states : (front : List StateVar) (state : StateVar) (back : List StateVar) → d.states ≡ front ++ state ∷ back
      → FoldAsks d (Fewer limits.States (length front) state.name.span)
  of_arg : (front : List Name) (arg : Name) (back : List Name) → d.args ≡ front ++ arg ∷ back
      → FoldAsks d (New (state_names_of d ++ ids_of front) arg.id arg.span)
  of_args : (front : List Name) (arg : Name) (back : List Name) → d.args ≡ front ++ arg ∷ back
      → FoldAsks d (Fewer limits.Args (length front) arg.span)
  of_statement : {around : List Expr} {s : Stmt} {demand : Demand} → StandsIn [] d.body around s
      → StmtAsks (state_names_of d) (arg_names_of d) around s demand → FoldAsks d demand
  of_emits : FoldAsks d (OneEmit d.body)

-- the new columns of a `map` over these columns
pub data ColumnsAsk (columns hidden : List ℕ) (new : List Column) : Demand → Type 0 where
  of_name : (front : List Column) (column : Column) (back : List Column) → new ≡ front ++ column ∷ back
      → ColumnsAsk columns hidden new (New (columns ++ (hidden ++ new_names front)) column.name.id column.name.span)
  of_value : (front : List Column) (column : Column) (back : List Column) {demand : Demand} → new ≡ front ++ column ∷ back
      → ExprAsks columns hidden Word column.value demand → ColumnsAsk columns hidden new demand

-- keys among these columns
pub data KeysAsk (columns hidden : List ℕ) (keys : List Name) : Demand → Type 0 where
  of_key : (front : List Name) (key : Name) (back : List Name) → keys ≡ front ++ key ∷ back
      → KeysAsk columns hidden keys (AColumn columns hidden key.id key.span)
  of_new : (front : List Name) (key : Name) (back : List Name) → keys ≡ front ++ key ∷ back
      → KeysAsk columns hidden keys (New (ids_of front) key.id key.span)
  of_limit : (front : List Name) (key : Name) (back : List Name) → keys ≡ front ++ key ∷ back
      → KeysAsk columns hidden keys (Fewer limits.Keys (length front) key.span)

-- a fold over these columns by these keys, whose name is here
pub data ArgumentsAsk (columns hidden keys : List ℕ) (f : FoldView) (span : Span) : Demand → Type 0 where
  of_argument : (front : List ℕ) (id : ℕ) (back : List ℕ) → f.args ≡ front ++ id ∷ back
      → ArgumentsAsk columns hidden keys f span (AColumn columns hidden id span)
  of_states : ArgumentsAsk columns hidden keys f span (Apart f.states keys span)

-- the stream with this name, after that many groupbys
pub data StreamAsks (five : List ℕ) (known : List Known) (groups : ℕ) (name : Name) : StreamOp → Demand → Type 0 where
  of_filtered : {input : Name} {e : Expr} → StreamAsks five known groups name (stream.Filter input e) (Stands AStream input)
  of_condition : {input : Name} {e : Expr} (source : StreamView) {demand : Demand} → IsStream known input.id source
      → ExprAsks (column_names source.columns) source.hidden Condition e demand
      → StreamAsks five known groups name (stream.Filter input e) demand
  of_mapped : {input : Name} {new : List Column} → StreamAsks five known groups name (stream.Map input new) (Stands AStream input)
  of_columns : {input : Name} {new : List Column} (source : StreamView) {demand : Demand} → IsStream known input.id source
      → ColumnsAsk (column_names source.columns) source.hidden new demand → StreamAsks five known groups name (stream.Map input new) demand
  of_first : {first second : Name} → StreamAsks five known groups name (stream.Zip first second) (Stands AStream first)
  of_second : {first second : Name} → StreamAsks five known groups name (stream.Zip first second) (Stands AStream second)
  of_both : (first second : Name) (left right : StreamView) → IsStream known first.id left → IsStream known second.id right
      → StreamAsks five known groups name (stream.Zip first second) (Same left.columns right.columns second.span)
  of_limit : {input : Name} {keys : List Key} {fold_name : Name}
      → StreamAsks five known groups name (stream.Group input keys fold_name) (Fewer limits.Groupbys groups name.span)
  of_grouped : {input : Name} {keys : List Key} {fold_name : Name}
      → StreamAsks five known groups name (stream.Group input keys fold_name) (Stands AStream input)
  of_keys : {input : Name} {keys : List Key} {fold_name : Name} (source : StreamView) {demand : Demand} → IsStream known input.id source
      → KeysAsk (column_names source.columns) source.hidden (flat_map (key_names five) keys) demand
      → StreamAsks five known groups name (stream.Group input keys fold_name) demand
  of_fold : (input : Name) (keys : List Key) (fold_name : Name)
      → StreamAsks five known groups name (stream.Group input keys fold_name) (Stands AFold fold_name)
  of_arguments : {input : Name} {keys : List Key} {fold_name : Name} (source : StreamView) {f : FoldView} {demand : Demand}
      → IsStream known input.id source → IsFold known fold_name.id f
      → ArgumentsAsk (column_names source.columns) source.hidden (key_ids five keys) f fold_name.span demand
      → StreamAsks five known groups name (stream.Group input keys fold_name) demand

pub data FinalAsks (five : List ℕ) (known : List Known) : FinalOp → Demand → Type 0 where
  of_filtered : {input : Name} {e : Expr} → FinalAsks five known (final.Filter input e) (Stands ATable input)
  of_condition : {input : Name} {e : Expr} (source : TableView) {demand : Demand} → IsTable known input.id source
      → ExprAsks source.columns [] Condition e demand → FinalAsks five known (final.Filter input e) demand
  of_mapped : {input : Name} {new : List Column} → FinalAsks five known (final.Map input new) (Stands ATable input)
  of_columns : {input : Name} {new : List Column} (source : TableView) {demand : Demand} → IsTable known input.id source
      → ColumnsAsk source.columns [] new demand → FinalAsks five known (final.Map input new) demand
  of_grouped : {input : Name} {keys : List Key} {fold_name : Name}
      → FinalAsks five known (final.Group input keys fold_name) (Stands ATable input)
  of_keys : {input : Name} {keys : List Key} {fold_name : Name} (source : TableView) {demand : Demand} → IsTable known input.id source
      → KeysAsk source.columns [] (flat_map (key_names five) keys) demand → FinalAsks five known (final.Group input keys fold_name) demand
  of_fold : (input : Name) (keys : List Key) (fold_name : Name)
      → FinalAsks five known (final.Group input keys fold_name) (Stands AQuietFold fold_name)
  of_arguments : {input : Name} {keys : List Key} {fold_name : Name} (source : TableView) {f : FoldView} {demand : Demand}
      → IsTable known input.id source → IsFold known fold_name.id f
      → ArgumentsAsk source.columns [] (key_ids five keys) f fold_name.span demand
      → FinalAsks five known (final.Group input keys fold_name) demand
  of_first : {first second : Name} → FinalAsks five known (final.Join first second) (Stands ATable first)
  of_second : {first second : Name} → FinalAsks five known (final.Join first second) (Stands ATable second)
  of_both : (first second : Name) (left right : TableView) → IsTable known first.id left → IsTable known second.id right
      → FinalAsks five known (final.Join first second) (SameKeys left right second.span)
  of_others : {first second : Name} (left right : TableView) → IsTable known first.id left → IsTable known second.id right
      → FinalAsks five known (final.Join first second) (Apart (other_columns right) left.columns second.span)
  of_ranked : {input column : Name} {rows : ℕ} {span : Span} → FinalAsks five known (final.Top input column rows span) (Stands ATable input)
  of_column : {input column : Name} {rows : ℕ} (span : Span) (source : TableView) → IsTable known input.id source
      → FinalAsks five known (final.Top input column rows span) (AColumn source.columns [] column.id column.span)
  of_rows : {input column : Name} {rows : ℕ} {span : Span} → FinalAsks five known (final.Top input column rows span) (Kept rows span)

-- What an item asks after these.
pub data ItemAsks (five : List ℕ) (names : List (List ℕ)) (items : List Entry) : Item → Demand → Type 0 where
  of_fold_name : {d : FoldDef} → ItemAsks five names items (item.Fold d) (Free d.name)
  of_fold : (d : FoldDef) (demand : Demand) → FoldAsks d demand → ItemAsks five names items (item.Fold d) demand
  of_stream_name : {d : StreamDef} → ItemAsks five names items (item.Stream d) (Free d.name)
  of_one_stream : {d : StreamDef} → ItemAsks five names items (item.Stream d)
      (Fewer limits.Bindings (length (streams_in items) + length (finals_in items)) d.name.span)
  of_stream : {d : StreamDef} {demand : Demand} → StreamAsks five (known_in names items) (groups_in items) d.name d.op demand
      → ItemAsks five names items (item.Stream d) demand
  of_final_name : {d : FinalDef} → ItemAsks five names items (item.Final d) (Free d.name)
  of_one_final : {d : FinalDef} → ItemAsks five names items (item.Final d)
      (Fewer limits.Bindings (length (streams_in items) + length (finals_in items)) d.name.span)
  of_final : {d : FinalDef} {demand : Demand} → FinalAsks five (known_in names items) d.op demand
      → ItemAsks five names items (item.Final d) demand
  of_print : {name : Name} → ItemAsks five names items (item.Print name) (Stands ATable name)
  of_once : {name : Name} → ItemAsks five names items (item.Print name) (New (printed_in items) name.id name.span)
