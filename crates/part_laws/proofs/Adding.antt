-- What parts add to the state of an additive fold.
use Rattle.part_laws.proofs.Words.{◌≡◌, ℕ, false, List, [], ◌∷◌, map, fold, sym, ap, ◌∙◌, sum_by, Row, Key, Folding, group_rows, key_rows}
use Rattle.part_laws.proofs.Words.{keys_used, flat_map-single, TypedFold, TypedQuery, folded, uses, amount, plus, zeros, rows_used}
use Rattle.part_laws.proofs.Words.{Partition, part_at, AreTheParts, whole_rows, part_rows}
use Rattle.part_laws.proofs.{AddingLists.{variables_add, states_add, words_add}, Packetwise.{rows_of_one, rows_packetwise}}
use Rattle.part_laws.{proofs.{Sums.{same_sums, sum_of_parts, sum_joined}, Tables.{keys_of_all_parts, map_joined}}, specs.PartLaws.added}
use Rattle.part_laws.specs.PartLaws.{but_for_epochs, row_of_state, AdditivePartsAdd, StatesFromZerosAdd, PartWordsAdd, AdditiveTablesJoin}
use Rattle.std.proofs.Common.{slice_index}
use Rattle.epoch_model.specs.Epochs.{Geometry, Use}

-- a table in which each key has one row, by the states of the keys
pub one_row_each : (folding : Folding) (g : Geometry) (given : List Use) (state : Key → List ℕ) → folding.row_per_epoch ≡ false
    → ((key : Key) → fold folding.step folding.initial (rows_used key given) ≡ state key)
    → map but_for_epochs (group_rows folding g given) ≡ map (λ key. row_of_state key (state key)) (keys_used given)
one_row_each folding g given state one is =
    map_joined but_for_epochs (key_rows folding g given) (keys_used given)
    ∙ flat_map-single _ _ _ each
  where
    own : Key → Row
    own key = row_of_state key (state key)

    each : (key : Key) → map but_for_epochs (key_rows folding g given key) ≡ own key ∷ []
    each key = rw one (ap (λ words. row_of_state key words ∷ []) (is key))

-- what one packet adds
abbrev packet_adds : TypedFold → TypedQuery → ℕ → Key → ℕ → List ℕ → ℕ
packet_adds f q i key v words = added f v (rows_of_one q i key words)

pub added_along : (f : TypedFold) (q : TypedQuery) (i : ℕ) (key : Key) (v : ℕ) (packets : List (List ℕ))
    → added f v (whole_rows q i key packets) ≡ sum_by (packet_adds f q i key v) packets
added_along f q i key v packets =
    ap (added f v) (rows_packetwise q i _ _) ∙ sum_joined (λ row. slice_index (amount f row) v) (rows_of_one q i _) packets

added_by_parts : (f : TypedFold) (partition : Partition) (q : TypedQuery) (i : ℕ) (packets : List (List ℕ)) (parts : List ℕ) (key : Key)
    → AreTheParts partition packets parts → (v : ℕ)
    → added f v (whole_rows q i key packets) ≡ sum_by (λ n. added f v (part_rows partition q i key packets n)) parts
added_by_parts f partition q i packets parts key the v =
    let adds : List ℕ → ℕ = packet_adds f q i key v in
    added_along f q i _ v _
    ∙ (sum_of_parts partition _ _ the.apart _ the.each
    ∙ same_sums _ _ parts
    (λ n. sym (added_along f q i key v (part_at _ n _))))

pub parts_add : AdditivePartsAdd
parts_add f state partition q i packets parts key h the = variables_add f state h (whole_rows q i key packets)
    (part_rows partition q i key packets) parts (added_by_parts f _ q i _ _ _ the)

pub states_of_parts_add : StatesFromZerosAdd
states_of_parts_add f state partition q i packets parts key h the = states_add f state h (whole_rows q i key packets)
    (part_rows partition q i key packets) parts (added_by_parts f _ q i _ _ _ the)

pub words_of_parts_add : PartWordsAdd
words_of_parts_add f state partition q i packets parts key h the = words_add f state h (whole_rows q i key packets)
    (part_rows partition q i key packets) parts (added_by_parts f _ q i _ _ _ the)

-- ---- whole tables

pub additive_tables : AdditiveTablesJoin
additive_tables f folding g partition q i packets parts step one h the =
    one_row_each folding g (uses q i packets) state one
    (λ key. ap (λ st. fold st folding.initial (rows_used key (uses q i packets))) step
    ∙ states_of_parts_add f folding.initial partition q i packets parts key h the)
    ∙ ap (map (λ key. row_of_state key (state key))) (keys_of_all_parts partition q i packets parts the)
  where
    state : Key → List ℕ
    state key = fold plus folding.initial (map (λ n. folded f (zeros f) (part_rows partition q i key packets n)) parts)
