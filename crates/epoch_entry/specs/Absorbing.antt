-- What becomes of an entry as it takes a row.
use Rattle.std.specs.Prelude.{◌≡◌, ◌≢◌, ℕ, ◌+◌, ◌<◌, ◌≤◌, List, length, slice_index}
use Rattle.epoch_model.specs.Keys.{ArgRow}
use Rattle.coeff_algebra.specs.{Elements.Elements, Maps.{map_apply, map_compose, table_of, stored_at}}
use Rattle.fold_code.specs.Meaning.{code_step}
use Rattle.fold_class.specs.{declared.program.FoldProgram.FoldProgram, Rows.LeavesRows, Step.words_at}
use Rattle.epoch_entry.specs.Entries.{linear_rank}

-- a state of the fold whose history variables have these words
pub record HasHistory (p : FoldProgram) (history state : List ℕ) : Type 0 where
  pub long : length state ≡ length p.layout.initial
  pub remembered : words_at state p.layout.history ≡ history

-- the history is the one after a run of the code on some state that has it
abbrev pub Remembers : FoldProgram → ArgRow → List ℕ → List ℕ → Type 0
Remembers p args history history' =
    (state : List ℕ) × HasHistory p history state × (history' ≡ words_at (code_step p.code state args) p.layout.history)

-- the row is logged, the history takes it, and the map stays
pub record IsLogged (p : FoldProgram) (args : ArgRow) (count : ℕ) (log history map' : List ℕ) (count' : ℕ)
    (log' history' map'' : List ℕ) : Type 0 where
  pub counted : count' ≡ count + 1
  pub here : stored_at p.layout.args log' count ≡ args
  pub others : (other : ℕ) → other ≢ count → stored_at p.layout.args log' other ≡ stored_at p.layout.args log other
  pub remembers : Remembers p args history history'
  pub same : map'' ≡ map'

module _ {C : Type 0} (k : Elements C) (from_words : List ℕ → C) (size : ℕ) (p : FoldProgram) where
  -- the map of the row's step is composed onto the map
  pub record IsComposed (args : ArgRow) (history map' history' map'' step : List ℕ) : Type 0 where
    pub leaves : LeavesRows p.rows history args step history'
    pub composed : (i j : ℕ) → i < linear_rank p → j ≤ linear_rank p →
        table_of from_words size (linear_rank p) map'' i j
        ≡ map_compose k (linear_rank p) (table_of from_words size (linear_rank p) step)
        (table_of from_words size (linear_rank p) map') i j

  abbrev pub Composes : ArgRow → List ℕ → List ℕ → List ℕ → List ℕ → Type 0
  Composes args history map' history' map'' = (step : List ℕ) × IsComposed args history map' history' map'' step

  -- the words of a state's linear variables are those of the map's last column
  abbrev pub HasColumn : List ℕ → List ℕ → Type 0
  HasColumn map' state = (i : ℕ) → i < linear_rank p →
      k.to_word (table_of from_words size (linear_rank p) map' i (linear_rank p)) ≡ slice_index (words_at state p.layout.linear) i

  -- a state that has the history and the map's last column becomes one that has the new ones by a run of the code, and the other
  -- columns stay
  pub record IsMoved (args : ArgRow) (history map' history' map'' state : List ℕ) : Type 0 where
    pub before : HasHistory p history state
    pub column : HasColumn map' state
    pub remembered : history' ≡ words_at (code_step p.code state args) p.layout.history
    pub moved : HasColumn map'' (code_step p.code state args)
    pub others : (i j : ℕ) → i < linear_rank p → j < linear_rank p →
        table_of from_words size (linear_rank p) map'' i j ≡ table_of from_words size (linear_rank p) map' i j

  abbrev pub Moves : ArgRow → List ℕ → List ℕ → List ℕ → List ℕ → Type 0
  Moves args history map' history' map'' = (state : List ℕ) × IsMoved args history map' history' map'' state

  -- the map is applied to the linear variables of a state, and the history is written
  pub record IsCarried (history map' state state' : List ℕ) : Type 0 where
    pub linear : (i : ℕ) → i < linear_rank p → slice_index state' (slice_index p.layout.linear i) ≡
        k.to_word (map_apply k (linear_rank p) (table_of from_words size (linear_rank p) map')
        (λ j. k.embed (slice_index (words_at state p.layout.linear) j)) i)
    pub remembered : (i : ℕ) → i < length p.layout.history
        → slice_index state' (slice_index p.layout.history i) ≡ slice_index history i
