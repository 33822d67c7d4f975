-- A trace cut into pieces by place, as a file may be cut anywhere between two records: each piece runs by itself.
use Rattle.std.specs.Prelude.{◌≡◌, ℕ, ◌+◌, ◌-◌, ◌%◌, ◌^◌, ◌<◌, false, List, map, flat_map, fold, slice_index, sum_by}
use Rattle.epoch_model.specs.{Keys.{Key, ascending}, Epochs.Geometry, Tables.{Folding, keys_used, group_rows}}
use Rattle.query_lang.specs.{declared.{fold.TypedFold.TypedFold, typed.TypedQuery.TypedQuery}, Folds.{fold_states, body, folded}}
use Rattle.stage_plan.specs.Uses.{uses}
use Rattle.additive_laws.specs.{Amounts.{plus, zeros}, Laws.IsAdditiveFrom}
use Rattle.part_laws.specs.{Parts.whole_rows, PartLaws.{added, but_for_epochs, row_of_state}}

-- the packets of all pieces, one piece after another
abbrev pub in_sequence : List (List (List ℕ)) → List (List ℕ)
in_sequence pieces = flat_map (λ piece. piece) pieces

-- The argument rows that the whole trace gives a key are those that its pieces give it, piece after piece.
abbrev pub PiecesHaveTheRows : Type 0
PiecesHaveTheRows = (q : TypedQuery) (i : ℕ) (pieces : List (List (List ℕ))) (key : Key)
    → whole_rows q i key (in_sequence pieces) ≡ flat_map (whole_rows q i key) pieces

-- The keys of the whole table are those of the pieces' tables.
abbrev pub KeysAreOfAllPieces : Type 0
KeysAreOfAllPieces = (q : TypedQuery) (i : ℕ) (pieces : List (List (List ℕ)))
    → keys_used (uses q i (in_sequence pieces)) ≡ ascending (flat_map (λ piece. keys_used (uses q i piece)) pieces)

-- this holds of each additive fold, and of any pieces
abbrev pub WhereTheFoldAddsPieces : (TypedFold → List ℕ → TypedQuery → ℕ → List (List (List ℕ)) → Key → Type 0) → Type 0
WhereTheFoldAddsPieces P = (f : TypedFold) (state : List ℕ) (q : TypedQuery) (i : ℕ) (pieces : List (List (List ℕ))) (key : Key)
    → IsAdditiveFrom f state → P f state q i pieces key

-- A state variable of a key over the whole trace is its start and the sum of what each piece's rows add to it.
abbrev pub AdditivePiecesAdd : Type 0
AdditivePiecesAdd = WhereTheFoldAddsPieces (λ f state q i pieces key. (v : ℕ) → v < fold_states f
    → slice_index (folded f state (whole_rows q i key (in_sequence pieces))) v
    ≡ (slice_index state v + sum_by (λ piece. added f v (whole_rows q i key piece)) pieces) % 2 ^ 64)

-- So the state is the start and, piece after piece, the state to which the piece's rows lead from zeros.
abbrev pub StatesOfPiecesAdd : Type 0
StatesOfPiecesAdd = WhereTheFoldAddsPieces (λ f state q i pieces key.
    folded f state (whole_rows q i key (in_sequence pieces))
    ≡ fold plus state (map (λ piece. folded f (zeros f) (whole_rows q i key piece)) pieces))

-- And by what the tables of the pieces show: each piece's own word, less the start, is added to the start.
abbrev pub PieceWordsAdd : Type 0
PieceWordsAdd = WhereTheFoldAddsPieces (λ f state q i pieces key. (v : ℕ) → v < fold_states f
    → slice_index (folded f state (whole_rows q i key (in_sequence pieces))) v
    ≡ (slice_index state v
    + sum_by (λ piece. slice_index (folded f state (whole_rows q i key piece)) v + (2 ^ 64 - slice_index state v)) pieces)
    % 2 ^ 64)

-- So the table of the whole trace has, for each key of the pieces' tables in ascending order, the row of that state.
abbrev pub AdditivePiecesJoin : Type 0
AdditivePiecesJoin = (f : TypedFold) (folding : Folding) (g : Geometry) (q : TypedQuery) (i : ℕ) (pieces : List (List (List ℕ)))
    → folding.step ≡ body f → folding.row_per_epoch ≡ false → IsAdditiveFrom f folding.initial
    → map but_for_epochs (group_rows folding g (uses q i (in_sequence pieces)))
    ≡ map (λ key.
    row_of_state key (fold plus folding.initial (map (λ piece. folded f (zeros f) (whole_rows q i key piece)) pieces)))
    (ascending (flat_map (λ piece. keys_used (uses q i piece)) pieces))
