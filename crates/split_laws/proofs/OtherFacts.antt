-- Folds with a row for each epoch, over parts, and folds that only add, over pieces.
use Rattle.std.proofs.Common.{◌≡◌, ℕ, ◌<◌, true, false, ◌==◌, List, [], ◌∷◌, ◌++◌, Some, length, map, flat_map, fold, refl, sym, ap, ◌∙◌}
use Rattle.std.proofs.{Common.{subst, arith}, lemmas.List.map-append}
use Rattle.std.{proofs.lemmas.Option.{get_or_from_slice_get, option_and_then_some, slice_get_within}, specs.Prelude.{All, slice_get}}
use Rattle.additive_laws.{proofs.Counts.{not_number, same_number}, specs.{Amounts.{plus, zeros}, Laws.IsAdditiveFrom, TraceLaws.rows_used}}
use Rattle.epoch_entry.specs.Foldings.{folding_of, per_epoch}
use Rattle.epoch_model.proofs.{Cuts.{epochs-pieces, epochs_cut_the_rows_lem}, KeyLists.by_test, TableRows.{joined-some, some}}
use Rattle.epoch_model.specs.{Epochs.{Geometry, Use, epochs}, Keys.{ArgRow, Key, ascending, bucket_of}}
use Rattle.epoch_model.specs.Tables.{group_rows, key_rows, keys_used}
use Rattle.fold_class.{proofs.LawLemmas.additive_class, specs.Kinds.class_of}
use Rattle.marple_base.specs.declared.field.Packet.{Packet}
use Rattle.part_laws.proofs.{InSequence.pieces_join, Keeping.others_have_none}
use mathlib.Core.Path.{fun_ext}
use Rattle.part_laws.{proofs.Tables.valid_rows, specs.PartLaws.{but_for_epochs, row_of_state, valid_row}}
use Rattle.part_laws.specs.{Parts.{HasFieldKey, KeepsKeys, part_uses, whole_rows}, Pieces.in_sequence, AcceptedParts.AcceptedFieldsKeepKeys}
use Rattle.part_texts.specs.Texts.{part_by_hash}
use Rattle.query_lang.specs.{declared.{fold.TypedFold.TypedFold, typed.TypedQuery.TypedQuery}, Folds.{IsValidFold, folded}}
use Rattle.query_lang.specs.{Streams.{Taking, takings}, Words.AreWords}
use Rattle.query_laws.specs.ValidLaws.{AcceptedAreValid, AcceptedStartAsWords}
use Rattle.stage_plan.specs.Uses.{uses}
use Rattle.split_laws.proofs.{Groupbys.{field_keys, groupby_at, split_keys, split_unmade}, PartNumbers.words_at_part}
use Rattle.split_laws.{proofs.WholeFacts.{all_whole, part_read}, specs.WholeRuns.{EachFits, Split, SplitFieldsAreKeys, SumsAreOfPieces}}
use Rattle.split_laws.specs.WholeRuns.{ValidRowsAreOfTheWhole, packets_for, uses_of_part, uses_of_whole}
use Rattle.stage_plan.specs.{Shape.query_groups, Planned.fold_at}
use Rattle.std.{specs.Prelude.get_or, proofs.lemmas.Option.slice_get-get_or}
use Rattle.trace_drive.specs.Drives.{words_of}

-- ---- a groupby that has a fold

fold_there : (q : TypedQuery) (number : ℕ) (f : TypedFold) (P : TypedFold → Type 0) → All P q.folds → fold_at q number ≡ Some f → P f
fold_there q number f P all e =
    option_and_then_some (λ (t : Taking). slice_get q.folds t.fold_number) (slice_get (takings q.streams) number) f e
    (λ t at is. subst P (get_or_from_slice_get q.folds t.fold_number f f is)
    (all t.fold_number f (slice_get_within q.folds t.fold_number f is)))

-- ---- a row for each epoch

-- a key without rows has no epoch
no_epochs : (g : Geometry) (us : List Use) (key : Key) → rows_used key us ≡ [] → length (epochs g us key) ≡ 1 → ⊥
no_epochs g us key none one =
    by (epochs g us key) (sym (joined-some (epochs g us key) (epochs-pieces g us key))
    ∙ (ap some (epochs_cut_the_rows_lem g us key).0 ∙ ap some none)) one
  where
    by : (lists : List (List ArgRow)) → some lists ≡ false → length lists ≡ 1 → ⊥
    by [] e one = omega (arith, one)
    by (rows ∷ lists) e one = cc e

module _ (keep : AcceptedFieldsKeepKeys) (s : Split) (fits : EachFits s) (number n : ℕ) (f : TypedFold) (g : Geometry) (key : Key)
    (less : n < s.parts) (keyed : All (HasFieldKey s.q number) s.fields) (other : per_epoch (class_of f) ≡ true)
    (one : length (epochs g (uses_of_part s number n) key) ≡ 1) where
  abbrev partition : List ℕ → ℕ
  partition = part_by_hash s.fields s.salt s.parts

  abbrev all_words : List (List ℕ)
  all_words = words_of (packets_for s.q s.traces)

  kept : KeepsKeys (part_by_hash s.fields s.salt s.parts) s.q number
  kept = keep s.text s.q number s.fields (λ words. bucket_of s.parts (s.salt ∷ words)) s.is_accepted keyed

  -- what the run over the part takes is what the part's packets give
  same_uses : uses_of_part s number n ≡ part_uses (part_by_hash s.fields s.salt s.parts) s.q number (words_of (packets_for s.q s.traces)) n
  same_uses = ap (uses s.q number)
      (part_read s n (fits n less) ∙ sym (words_at_part s.fields s.salt s.parts s.some n (packets_for s.q s.traces)))

  its_part : n ≡ kept.part_of key
  its_part = by_test (n == kept.part_of key)
      (λ e. same_number n (kept.part_of key) e)
      (λ e. absurd (no_epochs g (part_uses partition s.q number all_words n) key
      (others_have_none partition s.q number kept all_words key (all_whole s) n (not_number n (kept.part_of key) e))
      (ap (λ us. length (epochs g us key)) (sym same_uses) ∙ one)))

  valid_there : key_rows (folding_of f) g (uses_of_part s number n) key
      ≡ valid_row (folding_of f) key (rows_used key (uses_of_whole s number)) ∷ []
  valid_there =
      let own : uses_of_part s number n ≡ part_uses partition s.q number all_words (kept.part_of key) =
      same_uses ∙ ap (part_uses partition s.q number all_words) its_part in
      ap (λ us. key_rows (folding_of f) g us key) own
      ∙ valid_rows partition s.q number kept all_words key (all_whole s) (folding_of f) g other
      (ap (λ us. length (epochs g us key)) (sym own) ∙ one)

pub valid_rows_of_parts : AcceptedFieldsKeepKeys → AcceptedAreValid → ValidRowsAreOfTheWhole
valid_rows_of_parts keep valid s fits number n shape f g key less at named is other one =
    let group = groupby_at s.q (valid s.text s.q s.is_accepted) number shape at in
    valid_there keep s fits number n f g key less (field_keys s.q number shape group s.fields named s.unmade) (ap per_epoch other) one

pub split_fields_are_keys : AcceptedAreValid → SplitFieldsAreKeys
split_fields_are_keys valid text q fields e may = (
  split_unmade q fields may,
  λ k d lt. split_keys q (valid text q e) fields may k (get_or (query_groups q) k d) (slice_get-get_or (query_groups q) k d lt),
)

-- ---- sums

words_in_sequence : (pieces : List (List Packet)) → words_of (flat_map (λ piece. piece) pieces) ≡ in_sequence (map words_of pieces)
words_in_sequence [] = refl
words_in_sequence (piece ∷ pieces) =
    map-append (λ (packet : Packet). packet.words) piece (flat_map (λ p. p) pieces)
    ∙ ap (λ words. words_of piece ++ words) (words_in_sequence pieces)

flat_of_map : {A B C : Type 0} (h : B → List C) (f : A → B) (xs : List A) → flat_map h (map f xs) ≡ flat_map (λ x. h (f x)) xs
flat_of_map h f [] = refl
flat_of_map h f (x ∷ xs) = ap (λ ys. h (f x) ++ ys) (flat_of_map h f xs)

map_of_map : {A B C : Type 0} (h : B → C) (f : A → B) (xs : List A) → map h (map f xs) ≡ map (λ x. h (f x)) xs
map_of_map h f [] = refl
map_of_map h f (x ∷ xs) = ap (λ ys. h (f x) ∷ ys) (map_of_map h f xs)

pub sums_of_pieces : AcceptedAreValid → AcceptedStartAsWords → SumsAreOfPieces
sums_of_pieces valid starts text q number f g all pieces e at adds is =
    let fold_valid : IsValidFold f = fold_there q number f IsValidFold (valid text q e).folds at in
    let words : AreWords f.initial = fold_there q number f (λ z. AreWords z.initial) (starts text q e) at in
    let from : IsAdditiveFrom f f.initial = record { valid = fold_valid; additive = adds; size = fold_valid.starts; words = words } in
    let one : per_epoch (class_of f) ≡ false = ap per_epoch (additive_class f fold_valid adds) in
    let listed : List (List (List ℕ)) = map words_of pieces in
    let state : Key → List ℕ = λ key. fold plus f.initial
    (map (λ piece. folded f (zeros f) (whole_rows q number key piece)) (map words_of pieces)) in
    ap (λ words. map but_for_epochs (group_rows (folding_of f) g (uses q number words))) (ap words_of is ∙ words_in_sequence pieces)
    ∙ (pieces_join f (folding_of f) g q number (map words_of pieces) refl one from
    ∙ (ap (λ h. map (λ key. row_of_state key (h key))
    (ascending (flat_map (λ piece. keys_used (uses q number piece)) (map words_of pieces))))
    (fun_ext (λ key. ap (fold plus f.initial)
    (map_of_map (λ piece. folded f (zeros f) (whole_rows q number key piece)) words_of pieces)))
    ∙ ap (λ keys. map (λ key. row_of_state key (fold plus f.initial
    (map (λ piece. folded f (zeros f) (rows_used key (uses q number (words_of piece)))) pieces))) (ascending keys))
    (flat_of_map (λ piece. keys_used (uses q number piece)) words_of pieces)))
