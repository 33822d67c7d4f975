-- Entries of three states of a fold, run side by side from its initial state, the least and the greatest, and what they are folded to.
use Rattle.std.specs.Prelude.{◌≡◌, ℕ, ◌+◌, ◌-◌, ◌*◌, ◌^◌, ◌≤◌, true, List, length, fold, replicate}
use Rattle.query_lang.specs.{declared.fold.TypedFold.TypedFold, Folds.{body, folded, fold_states, fold_args, initial_state}}
use Rattle.epoch_model.specs.{Keys.ArgRow, Tables.Folding}
use Rattle.fold_code.specs.Meaning.{code_step, code_steps, code_scratch}
use Rattle.fold_class.specs.declared.program.FoldProgram.{FoldProgram}
use Rattle.epoch_entry.specs.{Kinds.Sizes, Triples.{beside, step_beside, start_beside}}

-- by the definition of a fold

-- the state of zeros
abbrev pub least_state : TypedFold → List ℕ
least_state f = replicate (fold_states f) 0

-- the state whose words are all 2^64 - 1
abbrev pub greatest_state : TypedFold → List ℕ
greatest_state f = replicate (fold_states f) (2 ^ 64 - 1)

-- the folding of a fold's bounds: the fold over three states side by side, with a row for each epoch
abbrev pub bounds_folding_of : TypedFold → Folding
bounds_folding_of f = record {
  step = step_beside (body f) (fold_states f);
  initial = beside (initial_state f) (least_state f) (greatest_state f);
  row_per_epoch = true;
}

-- what rows are folded to from the three states
abbrev pub bounds_after : TypedFold → List ArgRow → List ℕ
bounds_after f rows = beside (folded f (initial_state f) rows) (folded f (least_state f) rows) (folded f (greatest_state f) rows)

-- by its program

abbrev pub bounds_words : FoldProgram → ℕ
bounds_words p = length p.layout.initial * 3

abbrev pub bounds_sizes : FoldProgram → Sizes
bounds_sizes p = record { args = p.layout.args; entry = bounds_words p; state = bounds_words p; scratch = code_scratch p.code }

abbrev pub bounds_folding : FoldProgram → Folding
bounds_folding p = record {
  step = step_beside (code_step p.code) (length p.layout.initial);
  initial = start_beside (length p.layout.initial) p.layout.initial;
  row_per_epoch = true;
}

-- the entry is what its rows are folded to
abbrev pub BoundsStand : FoldProgram → List ℕ → List ArgRow → Type 0
BoundsStand p words rows = words ≡ fold (bounds_folding p).step (bounds_folding p).initial rows

abbrev pub bounds_open : FoldProgram → ℕ
bounds_open p = 3 * length p.layout.initial

abbrev pub bounds_absorb : FoldProgram → ℕ
bounds_absorb p = 3 * code_steps p.code

abbrev pub bounds_merge : FoldProgram → ℕ
bounds_merge p = bounds_words p

-- A kind of entries is that of a fold's bounds: its sizes, what its entries are folded to, and its bounds on steps.
pub record IsBoundsKindOf (f : TypedFold) (sizes : Sizes) (folding : Folding) (opening absorbing : ℕ) : Type 0 where
  pub args : sizes.args ≡ fold_args f
  pub state : sizes.state ≡ 3 * fold_states f
  pub entry : sizes.entry ≡ 3 * fold_states f
  pub initial : folding.initial ≡ (bounds_folding_of f).initial
  pub row_per_epoch : folding.row_per_epoch ≡ true
  pub step : (state row : List ℕ) → length state ≡ 3 * fold_states f
      → folding.step state row ≡ (bounds_folding_of f).step state row
  pub folded : (rows : List ArgRow) → fold folding.step folding.initial rows ≡ bounds_after f rows
  pub «open» : opening ≤ 3 * fold_states f
  pub absorb : absorbing ≤ 3 * (f.nodes + 4 * f.statements + 1)
