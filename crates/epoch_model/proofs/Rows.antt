-- No row is lost: the row lists of a key, joined, are the rows of its packets.
use Rattle.std.proofs.Common.{◌≡◌, List, [], ◌∷◌, ◌++◌, sym, ap, ◌∙◌, subst, append-nil, append_assoc, flat_map}
use Rattle.std.proofs.lemmas.List.Concat.{flat_map-append}
use Rattle.epoch_model.specs.{Keys.{Key, ArgRow, key_eq}, Epochs.{Geometry, onto_last}, Machine.{Machine, Event, Packet, Evict, Merge}}
use Rattle.epoch_model.specs.Machine.{empty_machine, open_in, is_open, evict, packet, merge, run, lists_of, row_lists, rows_in_epochs}
use Rattle.epoch_model.{specs.Laws.{HasRoom, rows_given, NoRowIsLost}, proofs.KeyLists.{by_test, key_eq-true}}
use Rattle.epoch_model.proofs.{EpochLists.onto_last-append, Following.{starts-tidy, starts-lists}}
use Rattle.epoch_model.proofs.MachineSteps.{IsTidy, evict-tidy, evict-lists, merge-tidy, merge-lists}
use Rattle.epoch_model.proofs.PacketSteps.{own, packet-tidy, packet-lists_other, packet-lists_open, packet-lists_new, row_lists-open}

abbrev pub joined : List (List ArgRow) → List ArgRow
joined lists = flat_map (λ rows. rows) lists

pub joined-append : (xs ys : List (List ArgRow)) → joined (xs ++ ys) ≡ joined xs ++ joined ys
joined-append xs ys = flat_map-append (λ (rows : List ArgRow). rows) xs ys

joined-onto_last : (row : ArgRow) (xs : List (List ArgRow)) (rows : List ArgRow)
    → joined (onto_last row (xs ++ rows ∷ [])) ≡ joined (xs ++ rows ∷ []) ++ row ∷ []
joined-onto_last row xs rows = ap joined (onto_last-append row xs rows) ∙ (joined-append xs ((rows ++ row ∷ []) ∷ [])
    ∙ (ap (λ ls. joined xs ++ ls) (append-nil (rows ++ row ∷ [])) ∙ (sym (append_assoc (joined xs) rows (row ∷ []))
    ∙ ap (λ ls. ls ++ row ∷ []) (ap (λ ls. joined xs ++ ls) (sym (append-nil rows)) ∙ sym (joined-append xs (rows ∷ []))))))

packet-joined : {g : Geometry} {m : Machine} (k : Key) (row : ArgRow) → HasRoom g → IsTidy g m
    → joined (row_lists g (packet g m k row) k) ≡ joined (row_lists g m k) ++ row ∷ []
packet-joined {g} {m} k row room t = by_test (is_open k (open_in m (own g k))) (λ h. let e = row_lists-open k t h in
    ap joined (packet-lists_open k row t room.0 h ∙ ap (onto_last row) e)
    ∙ (joined-onto_last row (lists_of k m.closed) (rows_in_epochs k (open_in m (own g k))) ∙ ap (λ ls. joined ls ++ row ∷ []) (sym e)))
    (λ h. ap joined (packet-lists_new k row t room.0 h) ∙ joined-append (row_lists g m k) ((row ∷ []) ∷ []))

rows_kept : {g : Geometry} (events : List Event) {m : Machine} (k : Key) → HasRoom g → IsTidy g m
    → joined (row_lists g (run g events m) k) ≡ joined (row_lists g m k) ++ rows_given k events
rows_kept {g} [] {m} k room t = sym (append-nil (joined (row_lists g m k)))
rows_kept {g} (Packet j row ∷ events) {m} k room t =
    let t' = packet-tidy j row t room.0 in
    by_test (key_eq j k) (λ e. rw e (rows_kept events k room t'
    ∙ (ap (λ ls. ls ++ rows_given k events) (subst (λ x. joined (row_lists g (packet g m j row) x) ≡ joined (row_lists g m x) ++ row ∷ [])
    (key_eq-true j k e) (packet-joined j row room t)) ∙ append_assoc (joined (row_lists g m k)) (row ∷ []) (rows_given k events))))
    (λ e. rw e (rows_kept events k room t' ∙ ap (λ ls. joined ls ++ rows_given k events) (packet-lists_other j k row t room.0 e)))
rows_kept (Evict bucket ∷ events) k room t = rows_kept events k room (evict-tidy bucket t)
    ∙ ap (λ ls. joined ls ++ rows_given k events) (evict-lists bucket k t)
rows_kept {g} (Merge ∷ events) {m} k room t =
    rows_kept events k room (merge-tidy t) ∙ ap (λ ls. joined ls ++ rows_given k events) (merge-lists g m k)

pub no_row_is_lost_lem : NoRowIsLost
no_row_is_lost_lem g events key room = rows_kept events key room (starts-tidy g)
    ∙ ap (λ ls. joined ls ++ rows_given key events) (starts-lists g key)
