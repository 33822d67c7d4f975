-- A key that only one switch has packets of: the epochs of other switches are of other keys.
use Rattle.std.proofs.Common.{◌≡◌, ◌≢◌, ℕ, true, false, ◌==◌, List, [], ◌∷◌, refl, sym, ap, ◌∙◌, subst, arith}
use Rattle.std.{proofs.lemmas.Bool.Decides.nat_tests, specs.List.AllByRecursion}
use Rattle.epoch_model.specs.{Keys.{Key, ArgRow}, Epochs.Geometry, Machine.{lists_of, is_of, empty_machine}, Laws.{HasRoom, rows_given}}
use Rattle.epoch_model.proofs.{KeyLists.by_test, Following.{starts-tidy, starts-lists}, Cuts.IsPiece, Rows.no_row_is_lost_lem}
use Rattle.epoch_model.proofs.TableRows.{pieces_kept, closed-lists}
use Rattle.additive_laws.specs.Pieces.{rows_joined}
use Rattle.additive_laws.specs.Network.{SwitchEvent, SwitchEpoch, events_at, all_epochs, epochs_at, machine_at, AllMerged}
use Rattle.net_wide.specs.NetLaws.{KeysOfOneSwitch}

no_pieces : (lists : List (List ArgRow)) → AllByRecursion IsPiece lists → rows_joined lists ≡ [] → lists ≡ []
no_pieces [] a e = refl
no_pieces ([] ∷ lists) a e = absurd (omega (arith, a.0))
no_pieces ((row ∷ rows) ∷ lists) a e = cc

module _ (key : Key) (s : ℕ) where
  -- the lists of all epochs are those of the switch, where no other switch has one
  of_one : (merged : List SwitchEpoch) → ((k : ℕ) → k ≢ s → lists_of key (epochs_at k merged) ≡ [])
      → lists_of key (all_epochs merged) ≡ lists_of key (epochs_at s merged)
  of_one [] h = refl
  of_one (e ∷ merged) h = by_test (e.switch == s)
      (λ u. by_test (is_of key e.epoch)
      (λ t. rw u (rw t (rw (of_one merged rest))))
      (λ t. rw u (rw t (of_one merged rest))))
      (λ u. by_test (is_of key e.epoch)
      (λ t. absurd (other u t))
      (λ t. rw u (rw t (of_one merged rest))))
    where
      own : (e.switch == e.switch) ≡ true
      own = grind (arith, nat_tests)

      other : (e.switch == s) ≡ false → is_of key e.epoch ≡ true → ⊥
      other u t =
          let apart : e.switch ≢ s = λ same. (let yes : (e.switch == s) ≡ true = grind (arith, nat_tests) in let wrong =
          sym yes ∙ u in cc) in
          let some = rw t at (rw own at (h e.switch apart)) in cc

      rest : (k : ℕ) → k ≢ s → lists_of key (epochs_at k merged) ≡ []
      rest k d = by_test (e.switch == k)
          (λ v. by_test (is_of key e.epoch) (λ t. let some = rw t at (rw v at (h k d)) in cc) (λ t. rw t at (rw v at (h k d))))
          (λ v. rw v at (h k d))

  module _ (g : Geometry) (events : List SwitchEvent) (merged : List SwitchEpoch) (room : HasRoom g) (all : AllMerged g events merged) where
    -- a switch that gives the key no row closes no epoch of it
    pub none_closed : (k : ℕ) → rows_given key (events_at k events) ≡ [] → lists_of key (machine_at g k events).closed ≡ []
    none_closed k none =
        no_pieces (lists_of key (machine_at g k events).closed)
        (rw (closed-lists g (machine_at g k events) key (all.swept k))
        (pieces_kept g (events_at k events) (empty_machine g) key room (starts-tidy g)
        (subst (AllByRecursion IsPiece) (sym (starts-lists g key)) tt)))
        (rw (closed-lists g (machine_at g k events) key (all.swept k), no_row_is_lost_lem g (events_at k events) key room, none))

    lists_are : ((k : ℕ) → k ≢ s → rows_given key (events_at k events) ≡ [])
        → lists_of key (all_epochs merged) ≡ lists_of key (machine_at g s events).closed
    lists_are none =
        rw (of_one merged (λ k d. ap (lists_of key) (all.epochs k) ∙ none_closed k (none k d)), all.epochs s)

pub one_switch : KeysOfOneSwitch
one_switch f g events merged key s room all none =
    rw (lists_are key s g events merged room all none)
