-- What the pieces of a trace give in sequence.
use Rattle.part_laws.proofs.Words.{◌≡◌, ℕ, List, map, flat_map, fold, sym, ap, ◌∙◌, sum_by, Key, keys_used, ascending-ascends}
use Rattle.part_laws.proofs.Words.{has-ascending, same_ascending, some, TypedFold, TypedQuery, folded, uses, amount, plus, zeros, rows_used}
use Rattle.part_laws.proofs.{Words.whole_rows, Adding.one_row_each, AddingLists.{variables_add, states_add, words_add}}
use Rattle.part_laws.proofs.{Keeping.key_has_rows, Ordered.flat_joined, Packetwise.{rows_of_one, rows_packetwise, same_each}}
use Rattle.part_laws.{proofs.{Sums.sum_joined, Tables.has_of_lists}, specs.{PartLaws.{added, row_of_state}, Pieces.in_sequence}}
use Rattle.part_laws.specs.Pieces.{PiecesHaveTheRows, KeysAreOfAllPieces, AdditivePiecesAdd, StatesOfPiecesAdd, PieceWordsAdd}
use Rattle.part_laws.specs.Pieces.{AdditivePiecesJoin}
use Rattle.std.proofs.Common.{slice_index}

pub pieces_have_rows : PiecesHaveTheRows
pieces_have_rows q i pieces key =
    rows_packetwise q i _ _
    ∙ (flat_joined (rows_of_one q i _) (λ piece. piece) pieces
    ∙ same_each _ _ _ (λ piece. sym (rows_packetwise q i _ _)))

pub keys_of_pieces : KeysAreOfAllPieces
keys_of_pieces q i pieces = same_ascending _ _ (ascending-ascends (map (λ u. u.key) (uses q i (in_sequence pieces))))
    (ascending-ascends all_keys) (λ key. key_has_rows key _ ∙ (ap some (pieces_have_rows q i pieces key)
    ∙ (sym (has_of_lists key (uses q i) pieces) ∙ sym (has-ascending key all_keys))))
  where
    all_keys : List Key
    all_keys = flat_map (λ piece. keys_used (uses q i piece)) pieces

added_by_pieces : (f : TypedFold) (q : TypedQuery) (i : ℕ) (pieces : List (List (List ℕ))) (key : Key) (v : ℕ)
    → added f v (whole_rows q i key (in_sequence pieces)) ≡ sum_by (λ piece. added f v (whole_rows q i key piece)) pieces
added_by_pieces f q i pieces key v =
    ap (added f v) (pieces_have_rows q i pieces key) ∙ sum_joined (λ row. slice_index (amount f row) v) (whole_rows q i key) pieces

pub pieces_add : AdditivePiecesAdd
pieces_add f state q i pieces key h =
    variables_add f state h (whole_rows q i key (in_sequence pieces)) (whole_rows q i key) pieces (added_by_pieces f q i pieces key)

pub states_of_pieces_add : StatesOfPiecesAdd
states_of_pieces_add f state q i pieces key h =
    states_add f state h (whole_rows q i key (in_sequence pieces)) (whole_rows q i key) pieces (added_by_pieces f q i pieces key)

pub words_of_pieces_add : PieceWordsAdd
words_of_pieces_add f state q i pieces key h =
    words_add f state h (whole_rows q i key (in_sequence pieces)) (whole_rows q i key) pieces (added_by_pieces f q i pieces key)

pub pieces_join : AdditivePiecesJoin
pieces_join f folding g q i pieces step one h =
    one_row_each folding g (uses q i (in_sequence pieces)) state one
    (λ key. ap (λ st. fold st folding.initial (rows_used key (uses q i (in_sequence pieces)))) step
    ∙ states_of_pieces_add f folding.initial q i pieces key h)
    ∙ ap (map (λ key. row_of_state key (state key))) (keys_of_pieces q i pieces)
  where
    state : Key → List ℕ
    state key = fold plus folding.initial (map (λ piece. folded f (zeros f) (whole_rows q i key piece)) pieces)
