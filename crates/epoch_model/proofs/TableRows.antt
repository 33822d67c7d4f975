-- Closed epochs give the table: the same keys, and of each key the same rows.
use Rattle.std.proofs.Common.{◌≡◌, ℕ, Bool, true, false, List, [], ◌∷◌, ◌++◌, length, map, filter, flat_map, fold, refl, sym, ap, ◌∙◌}
use Rattle.std.{proofs.Common.{subst, arith, append-nil}, specs.{Prelude.{sum_by, ◌+◌}, List.AllByRecursion}}
use Rattle.epoch_model.specs.{Keys.{Key, ArgRow, key_eq, bucket_of, has, ascending}, Epochs.{Use, Geometry, is_use_of, epochs}}
use Rattle.epoch_model.specs.Machine.{Epoch, Machine, Event, Packet, Evict, Merge, run, lists_of, row_lists, end_of, empty_machine, open_in}
use Rattle.epoch_model.specs.{Machine.{is_open, packet, evict, merge}, Timeline.IsSwept, Laws.{HasRoom, rows_given}}
use Rattle.epoch_model.specs.Tables.{Folding, epoch_rows, exact_row, epochs_shown, key_rows, keys_used, closed_key_rows, closed_keys}
use Rattle.epoch_model.{specs.TableLaws.{ClosedGiveTheTable, ExactRowsFoldAllPackets, keys_given}, proofs.KeyLists.{by_test, key_eq-true}}
use Rattle.epoch_model.proofs.{EpochLists.keys_of, Following.{starts-tidy, starts-lists}, Rows.{joined, no_row_is_lost_lem}}
use Rattle.epoch_model.proofs.{EndOfTrace.closed_are_epochs_lem, KeyOrder.{ascending-ascends, has-ascending, same_ascending}}
use Rattle.epoch_model.proofs.MachineSteps.{IsTidy, evict-tidy, evict-lists, merge-tidy, merge-lists}
use Rattle.epoch_model.proofs.PacketSteps.{own, packet-tidy, packet-lists_other, packet-lists_open, packet-lists_new}
use Rattle.epoch_model.proofs.Cuts.{IsPiece, onto_last-pieces, more_pieces, epochs-pieces, epochs_cut_the_rows_lem}

-- whether the list has an element
abbrev pub some : {A : Type 0} → List A → Bool
some [] = false
some (x ∷ xs) = true

pub has-some : (k : Key) (epochs : List Epoch) → has k (keys_of epochs) ≡ some (lists_of k epochs)
has-some k [] = refl
has-some k (e ∷ es) = by_test (key_eq e.key k) (λ h. rw h refl) (λ h. rw h (has-some k es))

used-some : (k : Key) (uses : List Use) → has k (map (λ u. u.key) uses) ≡ some (map (λ u. u.row) (filter (is_use_of k) uses))
used-some k [] = refl
used-some k (u ∷ uses) = by_test (key_eq u.key k) (λ h. rw h refl) (λ h. rw h (used-some k uses))

pub given-some : (k : Key) (events : List Event) → has k (keys_given events) ≡ some (rows_given k events)
given-some k [] = refl
given-some k (Packet key row ∷ events) = by_test (key_eq key k) (λ h. rw h refl) (λ h. rw h (given-some k events))
given-some k (Evict bucket ∷ events) = given-some k events
given-some k (Merge ∷ events) = given-some k events

pub joined-some : (pieces : List (List ArgRow)) → AllByRecursion IsPiece pieces → some (joined pieces) ≡ some pieces
joined-some [] a = refl
joined-some ([] ∷ pieces) a = absurd (omega (arith, a.0))
joined-some ((row ∷ rows) ∷ pieces) a = refl

-- of closed epochs and of a list of keys the ascending keys are the same, where a key is in the list exactly where it has a row list
pub same_keys : (closed : List Epoch) (keys : List Key) → ((k : Key) → has k keys ≡ some (lists_of k closed))
    → closed_keys closed ≡ ascending keys
same_keys closed keys h = same_ascending (closed_keys closed) (ascending keys) (ascending-ascends (keys_of closed)) (ascending-ascends keys)
    (λ k. has-ascending k (keys_of closed) ∙ (has-some k closed ∙ (sym (h k) ∙ sym (has-ascending k keys))))

flat_map-same : {A B : Type 0} {f h : A → List B} (xs : List A) → ((x : A) → f x ≡ h x) → flat_map f xs ≡ flat_map h xs
flat_map-same [] e = refl
flat_map-same {f} {h} (x ∷ xs) e = ap (λ ys. ys ++ flat_map f xs) (e x) ∙ ap (λ ys. h x ++ ys) (flat_map-same xs e)

pub flat_map-single : {A B : Type 0} (f : A → List B) (h : A → B) (xs : List A) → ((x : A) → f x ≡ h x ∷ []) → flat_map f xs ≡ map h xs
flat_map-single f h [] e = refl
flat_map-single f h (x ∷ xs) e = ap (λ ys. ys ++ flat_map f xs) (e x) ∙ ap (λ ys. h x ∷ ys) (flat_map-single f h xs e)

sum_from-same : {A : Type 0} {f h : A → ℕ} (start : ℕ) (xs : List A) → ((x : A) → f x ≡ h x)
    → fold (λ a x. a + f x) start xs ≡ fold (λ a x. a + h x) start xs
sum_from-same start [] e = refl
sum_from-same {f} {h} start (x ∷ xs) e = ap (λ n. fold (λ a y. a + f y) (start + n) xs) (e x)
    ∙ sum_from-same {f = f} {h = h} (start + h x) xs e

rows_agree : (f : Folding) (g : Geometry) (uses : List Use) (closed : List Epoch) (key : Key) → lists_of key closed ≡ epochs g uses key
    → closed_key_rows f closed key ≡ key_rows f g uses key
rows_agree f g uses closed key same =
    let rows = (epochs_cut_the_rows_lem g uses key).0 in
    by_test f.row_per_epoch (λ h. rw h (ap (λ ls. epoch_rows f key (length ls) 1 ls) same))
    (λ h. rw h (ap (λ ls. exact_row f key (length ls) (joined ls) ∷ []) same
    ∙ ap (λ rs. exact_row f key (length (epochs g uses key)) rs ∷ []) rows))

pub closed_give_the_table_lem : ClosedGiveTheTable
closed_give_the_table_lem f g uses packets room t =
    let closed = (end_of g uses packets).closed in
    let same : (key : Key) → lists_of key closed ≡ epochs g uses key = λ key. closed_are_epochs_lem g uses packets key room t in
    let cut : (key : Key) → some (map (λ u. u.row) (filter (is_use_of key) uses)) ≡ some (epochs g uses key) =
    λ key. let c = epochs_cut_the_rows_lem g uses key in ap some (sym c.0) ∙ joined-some (epochs g uses key) (epochs-pieces g uses key) in
    let keys : closed_keys closed ≡ keys_used uses = same_keys closed (map (λ u. u.key) uses)
    (λ key. used-some key uses ∙ (cut key ∙ ap some (sym (same key)))) in (
      ap (flat_map (closed_key_rows f closed)) keys ∙ flat_map-same (keys_used uses) (λ key. rows_agree f g uses closed key (same key)),
      ap epochs_shown (ap (sum_by (λ key. length (lists_of key closed))) keys ∙ sum_from-same 0 (keys_used uses)
          (λ key. ap length (same key))),
    )

-- no row list is empty after any events
pub pieces_kept : (g : Geometry) (events : List Event) (m : Machine) (k : Key) → HasRoom g → IsTidy g m
    → AllByRecursion IsPiece (row_lists g m k) → AllByRecursion IsPiece (row_lists g (run g events m) k)
pieces_kept g [] m k room t a = a
pieces_kept g (Packet j row ∷ events) m k room t a =
    pieces_kept g events (packet g m j row) k room (packet-tidy j row t room.0) (by_test (key_eq j k) (λ e. let same = key_eq-true j k e in
    subst (λ x. AllByRecursion IsPiece (row_lists g (packet g m x row) k)) (sym same) (by_test (is_open k (open_in m (own g k)))
    (λ h. subst (AllByRecursion IsPiece) (sym (packet-lists_open k row t room.0 h)) (onto_last-pieces row (row_lists g m k) a))
    (λ h. subst (AllByRecursion IsPiece) (sym (packet-lists_new k row t room.0 h)) (more_pieces row (row_lists g m k) a))))
    (λ e. subst (AllByRecursion IsPiece) (sym (packet-lists_other j k row t room.0 e)) a))
pieces_kept g (Evict bucket ∷ events) m k room t a = pieces_kept g events (evict m bucket) k room (evict-tidy bucket t)
    (subst (AllByRecursion IsPiece) (sym (evict-lists bucket k t)) a)
pieces_kept g (Merge ∷ events) m k room t a =
    pieces_kept g events (merge m) k room (merge-tidy t) (subst (AllByRecursion IsPiece) (sym (merge-lists g m k)) a)

pub closed-lists : (g : Geometry) (m : Machine) (k : Key) → IsSwept m → lists_of k m.closed ≡ row_lists g m k
unfolding row_lists
closed-lists g m k swept = sym (append-nil (lists_of k m.closed)) ∙ ap (λ es. lists_of k m.closed ++ lists_of k es)
    (sym (swept (bucket_of g.buckets k)))

pub exact_rows_fold_all_packets_lem : ExactRowsFoldAllPackets
exact_rows_fold_all_packets_lem f g events room one swept =
    let m = run g events (empty_machine g) in
    let lists : (k : Key) → lists_of k m.closed ≡ row_lists g m k = λ k. closed-lists g m k swept in
    let rows : (k : Key) → joined (lists_of k m.closed) ≡ rows_given k events = λ k. ap joined (lists k)
    ∙ no_row_is_lost_lem g events k room in
    let pieces : (k : Key) → AllByRecursion IsPiece (lists_of k m.closed) =
    λ k. subst (AllByRecursion IsPiece) (sym (lists k)) (pieces_kept g events (empty_machine g) k room (starts-tidy g)
    (subst (AllByRecursion IsPiece) (sym (starts-lists g k)) tt)) in
    let keys : closed_keys m.closed ≡ ascending (keys_given events) =
    same_keys m.closed (keys_given events) (λ k. given-some k events ∙ (ap some (sym (rows k))
    ∙ joined-some (lists_of k m.closed) (pieces k))) in
    ap (flat_map (closed_key_rows f m.closed)) keys
    ∙ flat_map-single (closed_key_rows f m.closed) (λ key. exact_row f key (length (lists_of key m.closed)) (rows_given key events))
    (ascending (keys_given events)) (λ key. rw one (ap (λ rs. exact_row f key (length (lists_of key m.closed)) rs ∷ []) (rows key)))
