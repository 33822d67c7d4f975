-- The table of a store that merged the epochs of several switches.
use Rattle.std.proofs.Common.{◌≡◌, ℕ, true, false, ◌==◌, List, [], ◌∷◌, length, map, flat_map, fold, refl, sym, ap, ◌∙◌, subst, arith}
use Rattle.std.{proofs.lemmas.{List.Sorted.length_permutation, Bool.Decides.nat_tests}, specs.List.AllByRecursion}
use Rattle.epoch_model.specs.{declared.tables.Mark.TheVariants.Exact, Keys.{Key, ascending}, Epochs.Geometry, Laws.{HasRoom, rows_given}}
use Rattle.epoch_model.specs.{TableLaws.keys_given, Machine.{Epoch, lists_of, empty_machine, is_of}}
use Rattle.epoch_model.{specs.Tables.{Folding, exact_row, epochs_shown, closed_rows, closed_key_rows, closed_keys}, proofs.KeyLists.by_test}
use Rattle.epoch_model.proofs.{Following.{starts-tidy, starts-lists}, Cuts.IsPiece}
use Rattle.epoch_model.proofs.TableRows.{some, given-some, joined-some, same_keys, flat_map-single, pieces_kept, closed-lists}
use Rattle.query_lang.specs.{declared.fold.TypedFold.TypedFold, Folds.body}
use Rattle.additive_laws.specs.Pieces.{rows_joined, all_rows, lists_merged}
use Rattle.additive_laws.specs.Network.{SwitchEvent, SwitchEpoch, all_events, events_at, all_epochs, epochs_at, machine_at, AllMerged}
use Rattle.additive_laws.{specs.Laws.IsAdditiveFrom, proofs.Orders.interleaved_rows}
use Rattle.additive_laws.proofs.Stores.{given_at, pieces_at, given_rows, lists_all, events_interleave, store_folds}

pub same_some : {A : Type 0} (xs ys : List A) → length xs ≡ length ys → some xs ≡ some ys
same_some [] [] e = refl
same_some [] (y ∷ ys) e = absurd (omega (arith, e))
same_some (x ∷ xs) [] e = absurd (omega (arith, e))
same_some (x ∷ xs) (y ∷ ys) e = refl

-- what holds of each switch's row lists holds of all
gathered : (k : Key) (merged : List SwitchEpoch) → ((s : ℕ) → AllByRecursion IsPiece (lists_of k (epochs_at s merged)))
    → AllByRecursion IsPiece (lists_of k (all_epochs merged))
gathered k [] h = tt
gathered k (e ∷ merged) h = by_test (is_of k e.epoch) (λ t. rw t (first t, gathered k merged rest)) (λ t. rw t (gathered k merged rest))
  where
    own_switch : (e.switch == e.switch) ≡ true
    own_switch = grind (arith, nat_tests)

    first : is_of k e.epoch ≡ true → IsPiece e.epoch.rows
    first t = (rw t at (rw own_switch at (h e.switch))).0

    rest : (s : ℕ) → AllByRecursion IsPiece (lists_of k (epochs_at s merged))
    rest s = by_test (e.switch == s) (λ u. by_test (is_of k e.epoch) (λ t. (rw t at (rw u at (h s))).1) (λ t. rw t at (rw u at (h s))))
        (λ u. rw u at (h s))

module _ (g : Geometry) (events : List SwitchEvent) (merged : List SwitchEpoch) (room : HasRoom g) (all : AllMerged g events merged)
    (key : Key) where
  pub pieces : AllByRecursion IsPiece (lists_of key (all_epochs merged))
  pieces = gathered key merged (λ s. subst (λ es. AllByRecursion IsPiece (lists_of key es)) (sym (all.epochs s))
      (subst (AllByRecursion IsPiece) (sym (closed-lists g (machine_at g s events) key (all.swept s)))
      (pieces_kept g (events_at s events) (empty_machine g) key room (starts-tidy g)
      (subst (AllByRecursion IsPiece) (sym (starts-lists g key)) tt))))

  -- a key has as many rows as the merged epochs have of it
  pub as_many : length (rows_given key (all_events events)) ≡ length (rows_joined (lists_of key (all_epochs merged)))
  as_many = ap length (sym (given_rows key events))
      ∙ (length_permutation (rows_joined (lists_merged (pieces_at key merged))) (all_rows (given_at key events))
      (interleaved_rows (given_at key events) (pieces_at key merged) (events_interleave key room all))
      ∙ ap (λ ls. length (rows_joined ls)) (lists_all key merged))

pub store_table : (f : TypedFold) (folding : Folding) (g : Geometry) (events : List SwitchEvent) (merged : List SwitchEpoch)
    → folding.step ≡ body f → folding.row_per_epoch ≡ false → IsAdditiveFrom f folding.initial → HasRoom g → AllMerged g events merged
    → closed_rows folding (all_epochs merged)
    ≡ map (λ key. exact_row folding key (length (lists_of key (all_epochs merged))) (rows_given key (all_events events)))
    (ascending (keys_given (all_events events)))
store_table f folding g events merged step one h room a = ap (flat_map (closed_key_rows folding epochs)) keys
    ∙ flat_map-single (closed_key_rows folding epochs) (λ key. exact_row folding key (length (lists_of key epochs))
    (rows_given key (all_events events))) (ascending (keys_given (all_events events)))
    (λ key. rw one (ap (λ s. record { key = key; mark = Exact; epoch = 0; epochs = epochs_shown (length (lists_of key epochs)); values = s }
    ∷ []) (state key)))
  where
    epochs : List Epoch
    epochs = all_epochs merged

    state : (key : Key) → fold folding.step folding.initial (rows_joined (lists_of key (all_epochs merged))) ≡ fold folding.step
        folding.initial (rows_given key (all_events events))
    state key = ap (λ st. fold st folding.initial (rows_joined (lists_of key (all_epochs merged)))) step
        ∙ store_folds f folding.initial g events merged key h room a
        ∙ ap (λ st. fold st folding.initial (rows_given key (all_events events))) (sym step)

    keys : closed_keys (all_epochs merged) ≡ ascending (keys_given (all_events events))
    keys = same_keys (all_epochs merged) (keys_given (all_events events))
        (λ k. given-some k (all_events events) ∙ same_some (rows_given k (all_events events)) (rows_joined (lists_of k (all_epochs merged)))
        (as_many g events merged room a k) ∙ joined-some (lists_of k (all_epochs merged)) (pieces g events merged room a k))
