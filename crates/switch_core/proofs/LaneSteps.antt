-- What a lane's events leave of its merged epochs, and what an empty lane represents.
use Rattle.std.proofs.Common.{◌≡◌, ◌≤◌, ℕ, zero, suc, [], length, take, replicate, get_or, refl, sym, ap, ◌∙◌, subst, arith, length-append}
use Rattle.std.{proofs.lemmas.List.{take-append-le, length-replicate}, specs.Prelude.nat_lt}
use Rattle.epoch_model.specs.{Keys.{Key, ArgRow, bucket_of}, Epochs.Geometry}
use Rattle.epoch_model.specs.{Machine.{Machine, open_in, evict, packet, is_open, empty_machine, last_alone}, Tables.Folding}
use Rattle.bucket_cache.specs.Caches.{Cache, empty_cache}
use Rattle.evict_pipe.specs.Pipes.{Pipe}
use Rattle.backing_store.specs.{Store.{Store, epochs_of, states_at, number_of}, Merged.StoreHolds}
use Rattle.switch_core.{specs.Lanes.{Standing, PairStands, PairsStand, FrontStands, geometry}, proofs.Standing.by_test}

-- the merged epochs are unchanged
abbrev pub SameMerged : Machine → Machine → Type 0
SameMerged m n = (take n.merged n.closed ≡ take m.merged m.closed) × (n.merged ≤ length n.closed)

pub evict_merged_same : (m : Machine) (bucket : ℕ) → m.merged ≤ length m.closed → SameMerged m (evict m bucket)
evict_merged_same m bucket few = by_test (nat_lt 0 (length (open_in m bucket)))
    (λ t. let longer = length-append m.closed (last_alone (open_in m bucket)) in rw t
    (take-append-le m.merged m.closed (last_alone (open_in m bucket)) few, omega arith))
    (λ t. rw t (refl, few))

pub packet_merged_same : (g : Geometry) (m : Machine) (key : Key) (row : ArgRow) → m.merged ≤ length m.closed
    → SameMerged m (packet g m key row)
packet_merged_same g m key row few =
    let bucket = bucket_of g.buckets key in
    by_test (is_open key (open_in m bucket))
    (λ t. rw t (refl, few))
    (λ t. by_test (nat_lt (length (open_in m bucket)) g.ways)
    (λ l. rw (t, l) (refl, few))
    (λ l. rw (t, l) (evict_merged_same m bucket few)))

-- empty parts represent the machine without epochs

none_at : {X : Type 0} (n i : ℕ) (d : X) → get_or (replicate n d) i d ≡ d
none_at zero i d = refl
none_at (suc n) zero d = refl
none_at (suc n) (suc i) d = none_at n i d

pub front_empty : (stands : Standing) (ways buckets kw ew : ℕ) (cache : Cache) (pipe : Pipe) → cache ≡ empty_cache buckets ways kw ew
    → pipe.records ≡ [] → FrontStands stands cache pipe (empty_machine (geometry ways cache))
front_empty stands ways buckets kw ew cache pipe c p = record {
  cached = record {
    buckets = sym (length-replicate (length cache.lists) []);
    each = λ b.
        rw (ap (λ x. get_or x.lists b []) c ∙ none_at buckets b []) (subst (λ es. PairsStand (PairStands stands cache) [] es)
        (sym (none_at (length cache.lists) b [])) tt);
  };
  piped = rw p tt;
  few = omega arith;
}

pub store_empty : (f : Folding) (store : Store) → store.keys ≡ [] → store.rows ≡ [] → StoreHolds f store []
store_empty f store k r = record {
  count = λ key. ap (λ ks. epochs_of ks key) k;
  rows = λ key. ap (λ rs. states_at rs (number_of store.keys key)) r ∙ by_test f.row_per_epoch (λ t. rw t) (λ t. rw t);
}
