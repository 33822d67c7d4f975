-- The store holds the rows before this one that are read, each as an epoch of its key.
use Rattle.std.proofs.Common.{◌≡◌, ◌≤◌, length, take}
use Rattle.fold_code.specs.Meaning.{IsCodeOf, code_scratch}
use Rattle.backing_store.specs.Merged.{StoreHolds}
use Rattle.query_lang.specs.{declared.fold.TypedFold.TypedFold, Folds.initial_state}
use Rattle.final_queries.specs.{Grouped.{whole_folding, row_epochs}, Joining.reads}
use Rattle.final_queries.proofs.grouped.fold_rows.Given as goal

-- the store holds the rows so far
abbrev pub invariant-loop-at : goal.invariant-loop-at
invariant-loop-at g l = record {
  holds : (f : TypedFold) → IsCodeOf f l.code → initial_state f ≡ l.start
      → StoreHolds (whole_folding f) l.store (row_epochs l.keys l.args (reads (take l.at l.rows)));
  key_words : length l.keys ≡ l.store.key_words;
  state_words : length l.start ≡ l.store.state_words;
  scratch : length l.scratch.items ≡ code_scratch l.code;
  steps : l.fn.steps ≤ l.steps;
}
