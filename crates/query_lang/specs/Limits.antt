-- What holds of each query that is read from a text: its items keep the limits of the grammar, groupbys have keys, and its names have
-- numbers, of which there are so few that each number of a column or a fold fits 16 bits.
use Rattle.std.specs.Prelude.{ℕ, ◌<◌, ◌≤◌, List, length, sum_by, All}
use Rattle.query_lang.specs.declared.query.{Column.Column, FinalOp.FinalOp}
use Rattle.query_lang.specs.declared.query.FinalOp.TheVariants as final
use Rattle.query_lang.specs.declared.query.Item.{Item}
use Rattle.query_lang.specs.declared.query.Item.TheVariants as item
use Rattle.query_lang.specs.declared.query.{Query.Query, StreamOp.StreamOp}
use Rattle.query_lang.specs.declared.query.StreamOp.TheVariants as stream
use Rattle.query_lang.specs.{TypedFolds.{expr_nodes, fold_nodes, fold_statements}, declared.fault.TheConstants.{MAX_NODES, MAX_STATEMENTS}}

abbrev pub columns_nodes : List Column → ℕ
columns_nodes columns = sum_by (λ column. expr_nodes column.value) columns

abbrev pub stream_nodes : StreamOp → ℕ
stream_nodes (stream.Filter input e) = expr_nodes e
stream_nodes (stream.Map input columns) = columns_nodes columns
stream_nodes (stream.Zip left right) = 0
stream_nodes (stream.Group input keys f) = 0

abbrev pub final_nodes : FinalOp → ℕ
final_nodes (final.Filter input e) = expr_nodes e
final_nodes (final.Map input columns) = columns_nodes columns
final_nodes (final.Group input keys f) = 0
final_nodes (final.Join left right) = 0
final_nodes (final.Top input column kept span) = 0

-- an item has at most MAX_NODES nodes, and a fold at most MAX_STATEMENTS statements
abbrev pub KeepsLimits : Item → Type 0
KeepsLimits (item.Fold d) = (fold_nodes d ≤ MAX_NODES) × (fold_statements d ≤ MAX_STATEMENTS)
KeepsLimits (item.Stream d) = stream_nodes d.op ≤ MAX_NODES
KeepsLimits (item.Final d) = final_nodes d.op ≤ MAX_NODES
KeepsLimits (item.Print name) = Unit {0}

abbrev pub AreNumbered : ℕ → List Column → Type 0
AreNumbered names columns = All (λ column. column.name.id < names) columns

abbrev pub IsNumberedStream : ℕ → StreamOp → Type 0
IsNumberedStream names (stream.Map input columns) = AreNumbered names columns
IsNumberedStream names _ = Unit {0}

abbrev pub IsNumberedFinal : ℕ → FinalOp → Type 0
IsNumberedFinal names (final.Map input columns) = AreNumbered names columns
IsNumberedFinal names _ = Unit {0}

-- the names that an item gives are among this many
abbrev pub IsNumbered : ℕ → Item → Type 0
IsNumbered names (item.Fold d) = (d.name.id < names) × All (λ state. state.name.id < names) d.states
    × All (λ arg. arg.id < names) d.args
IsNumbered names (item.Stream d) = (d.name.id < names) × IsNumberedStream names d.op
IsNumbered names (item.Final d) = (d.name.id < names) × IsNumberedFinal names d.op
IsNumbered names (item.Print name) = Unit {0}

-- a groupby on a stream has a key
abbrev pub HasStreamKeys : StreamOp → Type 0
HasStreamKeys (stream.Group input keys f) = 0 < length keys
HasStreamKeys _ = Unit {0}

-- a groupby on a table has a key
abbrev pub HasFinalKeys : FinalOp → Type 0
HasFinalKeys (final.Group input keys f) = 0 < length keys
HasFinalKeys _ = Unit {0}

-- where an item is a groupby it has a key
abbrev pub HasKeys : Item → Type 0
HasKeys (item.Stream d) = HasStreamKeys d.op
HasKeys (item.Final d) = HasFinalKeys d.op
HasKeys _ = Unit {0}

pub record IsReadable (q : Query) : Type 0 where
  pub limits : All KeepsLimits q.items
  pub names : All (IsNumbered (length q.names)) q.items
  -- between two names of a text is at least one byte, and a text has at most 65,536
  pub few : length q.names ≤ 32768
  pub keys : All HasKeys q.items
