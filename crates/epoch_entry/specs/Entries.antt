-- The words of an entry, by the program of a fold, and what they represent.
use Rattle.std.specs.Prelude.{◌≡◌, ℕ, ◌+◌, ◌*◌, ◌<◌, ◌≤◌, max, false, true, List, length, take, drop, slice_index, All}
use Rattle.query_lang.specs.{declared.fold.TypedFold.TypedFold, Words.{IsWord, AreWords}}
use Rattle.epoch_model.specs.{Keys.ArgRow, Tables.Folding}
use Rattle.coeff_algebra.specs.{Elements.Elements, Maps.{map_apply, table_of, stored_at}}
use Rattle.fold_code.specs.Meaning.{code_step, code_steps, code_scratch}
use Rattle.fold_class.specs.{declared.program.FoldProgram.FoldProgram, Entries.{LinearEntry, LinearStandsFor, OtherStandsFor}}
use Rattle.fold_class.specs.{Program.{IsProgramOf, WritesElements}, Rows.{element_size, rows_steps, rows_scratch}, Parts.IsAlgebraOf}
use Rattle.fold_class.specs.Step.{list_of, dimension}
use Rattle.epoch_entry.specs.{Kinds.Sizes, Identity.unit_at}

-- an argument row with this number of words
pub record IsRow (args : ℕ) (row : ArgRow) : Type 0 where
  pub long : length row ≡ args
  pub words : AreWords row

-- Of any fold: the entry is the state.

abbrev pub other_sizes : FoldProgram → Sizes
other_sizes p = record {
  args = p.layout.args;
  entry = length p.layout.initial;
  state = length p.layout.initial;
  scratch = code_scratch p.code;
}

abbrev pub other_folding : FoldProgram → Folding
other_folding p = record { step = code_step p.code; initial = p.layout.initial; row_per_epoch = true }

abbrev pub OtherStands : FoldProgram → List ℕ → List ArgRow → Type 0
OtherStands p words rows = (f : TypedFold) → IsProgramOf f p → OtherStandsFor f words rows

abbrev pub other_open : FoldProgram → ℕ
other_open p = length p.layout.initial

abbrev pub other_absorb : FoldProgram → ℕ
other_absorb p = code_steps p.code

abbrev pub other_merge : FoldProgram → ℕ
other_merge p = length p.layout.initial

-- Of a linear fold: the number of logged rows, a log, the history, and the map of the rows after the log, whose
-- elements have this many words.

-- how many linear variables there are
abbrev pub linear_rank : FoldProgram → ℕ
linear_rank p = length p.layout.linear

abbrev pub log_words : FoldProgram → ℕ
log_words p = p.depth * p.layout.args

abbrev pub history_words : FoldProgram → ℕ
history_words p = length p.layout.history

abbrev pub map_words : ℕ → FoldProgram → ℕ
map_words size p = linear_rank p * (linear_rank p + 1) * size

abbrev pub entry_words : ℕ → FoldProgram → ℕ
entry_words size p = 1 + log_words p + history_words p + map_words size p

-- room for two maps, for a run of the rows, for a run of the code, and for a state
abbrev pub scratch_words : ℕ → FoldProgram → ℕ
scratch_words size p = map_words size p + map_words size p + rows_scratch p.rows + code_scratch p.code + length p.layout.initial

abbrev pub linear_sizes : ℕ → FoldProgram → Sizes
linear_sizes size p = record {
  args = p.layout.args;
  entry = entry_words size p;
  state = length p.layout.initial;
  scratch = scratch_words size p;
}

abbrev pub linear_folding : FoldProgram → Folding
linear_folding p = record { step = code_step p.code; initial = p.layout.initial; row_per_epoch = false }

-- the parts of an entry's words
abbrev pub count_of : List ℕ → ℕ
count_of words = slice_index words 0

abbrev pub log_of : FoldProgram → List ℕ → List ℕ
log_of p words = take (log_words p) (drop 1 words)

abbrev pub history_of : FoldProgram → List ℕ → List ℕ
history_of p words = take (history_words p) (drop (log_words p) (drop 1 words))

abbrev pub map_of : FoldProgram → List ℕ → List ℕ
map_of p words = drop (history_words p) (drop (log_words p) (drop 1 words))

-- the first rows of a log, each of this many words
abbrev pub logged_rows : ℕ → ℕ → List ℕ → List ArgRow
logged_rows args count log = list_of count (stored_at args log)

module _ {C : Type 0} (k : Elements C) (from_words : List ℕ → C) (size : ℕ) where
  abbrev pub linear_entry : FoldProgram → ℕ → List ℕ → List ℕ → List ℕ → LinearEntry C
  linear_entry p count log history map' = record {
    log = logged_rows p.layout.args count log;
    history = history;
    table = table_of from_words size (linear_rank p) map';
  }

  -- the parts represent a list of argument rows. Where all of these are logged, the map keeps each word; and that of a translation has
  -- the identity beside its last column
  pub record PartsStand (p : FoldProgram) (count : ℕ) (log history map' : List ℕ) (rows : List ArgRow) : Type 0 where
    pub fit : All (IsRow p.layout.args) rows
    pub stands : (f : TypedFold) → IsProgramOf f p → LinearStandsFor k f p.depth (linear_entry p count log history map') rows
    pub kept : (f : TypedFold) → IsProgramOf f p → length rows ≤ p.depth → (x : ℕ → ℕ)
        → ((j : ℕ) → IsWord (x j)) → (i : ℕ)
        → i < dimension f →
        k.to_word (map_apply k (dimension f) (table_of from_words size (linear_rank p) map') (λ j. k.embed (x j)) i) ≡ x i
    pub unit : p.moves ≡ true → (i j : ℕ) → i < linear_rank p → j < linear_rank p
        → table_of from_words size (linear_rank p) map' i j ≡ unit_at k i j

  -- the words of an entry do
  abbrev pub LinearStands : FoldProgram → List ℕ → List ArgRow → Type 0
  LinearStands p words rows = ∥ PartsStand p (count_of words) (log_of p words) (history_of p words) (map_of p words) rows ∥₁

  -- the sums and products of these are those of the program's algebra, and the program's rows write them
  pub record WritesInto (p : FoldProgram) : Type 0 where
    pub algebra : IsAlgebraOf p.algebra k
    pub zero_word : k.to_word k.zero ≡ 0
    pub sized : element_size p.rows.algebra ≡ size
    pub writes : (f : TypedFold) → IsProgramOf f p → WritesElements k from_words size f p.rows

-- the count, the history and the map are written
abbrev pub linear_open : ℕ → FoldProgram → ℕ
linear_open size p = 1 + history_words p + map_words size p

-- a row by the map of its step, which is composed
abbrev pub composed_steps : ℕ → FoldProgram → ℕ
composed_steps size p = rows_steps p.rows + (linear_rank p * ((linear_rank p + 1) * linear_rank p) + map_words size p)

-- a row by a run of the code on a state, whose words come from the history and a column and go there, or into the log
abbrev pub run_steps : ℕ → FoldProgram → ℕ
run_steps size p = 2 * history_words p + code_steps p.code + (linear_rank p + linear_rank p * size) + (1 + log_words p)

abbrev pub linear_absorb : ℕ → FoldProgram → ℕ
linear_absorb size p = max (composed_steps size p) (run_steps size p)

-- the map is applied to the linear variables, which are read before and written back, and the history is written
abbrev pub carry_steps : FoldProgram → ℕ
carry_steps p = linear_rank p * linear_rank p + 3 * linear_rank p + history_words p

-- an entry is merged by a run of the code for each logged row, and then by the map
abbrev pub linear_merge : FoldProgram → ℕ
linear_merge p = p.depth * code_steps p.code + carry_steps p
