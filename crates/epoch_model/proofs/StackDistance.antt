-- A key is among the last few distinct keys of its bucket exactly where its next use goes on with its epoch.
use Rattle.std.proofs.Common.{◌≡◌, ℕ, zero, suc, ◌≤◌, Bool, true, false, cond, not, ◌&&◌, ◌||◌, List, [], ◌∷◌, Option, Some, None, length}
use Rattle.std.proofs.Common.{take, map, filter, refl, sym, ap, ◌∙◌, arith}
use Rattle.std.proofs.lemmas.Bool.{true≢false, false≢true, le-leb, leb-true, eq-eqb, and_parts, or_right, or_left, and_from}
use Rattle.std.specs.Prelude.{nat_lt, nat_le, ◌==◌}
use Rattle.epoch_model.specs.{Keys.{Key, ArgRow, key_eq, bucket_of, distinct, has}, Epochs.{Use, Geometry, is_refresh, refresh_between}}
use Rattle.epoch_model.specs.Epochs.{is_rival, rivals, last_use, since_last_use, goes_on_after, goes_on}
use Rattle.epoch_model.proofs.KeyLists.{by_test, key_eq-true, before, has-take, has-distinct, before-distinct}

-- no refresh lies between the use and this packet
abbrev pub is_fresh : Geometry → ℕ → Use → Bool
is_fresh g now u = not (refresh_between g.refresh u.packet now)

-- the keys of the bucket's uses since the last refresh, the latest first
abbrev pub fresh_keys : Geometry → ℕ → ℕ → List Use → List Key
fresh_keys g now bucket [] = []
fresh_keys g now bucket (u ∷ earlier) = cond (is_fresh g now u && (bucket_of g.buckets u.key == bucket))
    (u.key ∷ fresh_keys g now bucket earlier) (fresh_keys g now bucket earlier)

-- the keys that the bucket's list has
abbrev pub recent_keys : Geometry → ℕ → ℕ → List Use → List Key
recent_keys g now bucket earlier = take g.ways (distinct (fresh_keys g now bucket earlier))

abbrev pub AtMost : ℕ → List Use → Type 0
AtMost n [] = Unit {0}
AtMost n (u ∷ uses) = (u.packet ≤ n) × AtMost n uses

-- the latest first
abbrev pub IsDescending : List Use → Type 0
IsDescending [] = Unit {0}
IsDescending (u ∷ earlier) = AtMost u.packet earlier × IsDescending earlier

-- what lies between a packet and now lies between an earlier one and now
pub refresh_between-earlier : (refresh : ℕ) {p earlier : ℕ} (now : ℕ) → earlier ≤ p → refresh_between refresh p now ≡ true
    → refresh_between refresh earlier now ≡ true
refresh_between-earlier refresh zero l h = h
refresh_between-earlier refresh {p} {earlier} (suc n) l h = by_test _ (λ e. let parts = and_parts (nat_le p n) (is_refresh refresh n) e in
    let below = leb-true p n parts.0 in
    or_left (nat_le earlier n && is_refresh refresh n) (refresh_between refresh earlier n)
    (and_from (nat_le earlier n) (is_refresh refresh n) (le-leb earlier n (omega arith)) parts.1))
    (λ e. or_right (nat_le earlier n && is_refresh refresh n) (refresh_between refresh earlier n)
    (refresh_between-earlier _ n l (sym (ap (λ t. t || refresh_between refresh p n) e) ∙ h)))

-- before a use that is before the last refresh, no use is after that refresh
pub fresh_keys-stale : (g : Geometry) (now bucket p : ℕ) (earlier : List Use) → AtMost p earlier → refresh_between g.refresh p now ≡ true
    → fresh_keys g now bucket earlier ≡ []
fresh_keys-stale g now bucket p [] a h = refl
fresh_keys-stale g now bucket p (u ∷ earlier) a h =
    let stale : refresh_between g.refresh u.packet now ≡ true = refresh_between-earlier g.refresh now a.0 h in
    rw stale (fresh_keys-stale g now bucket p earlier a.1 h)

abbrev pub is_fresh_last : Geometry → ℕ → Option Use → Bool
is_fresh_last g now None = false
is_fresh_last g now (Some u) = is_fresh g now u

same_bucket : (g : Geometry) (a b : Key) → key_eq a b ≡ true → (bucket_of g.buckets a == bucket_of g.buckets b) ≡ true
same_bucket g a b e = eq-eqb (bucket_of g.buckets a) (bucket_of g.buckets b) (ap (bucket_of g.buckets) (key_eq-true a b e))

not_fresh : (t : Bool) → not t ≡ false → t ≡ true
not_fresh true h = refl
not_fresh false h = absurd (true≢false h)

pub has-fresh_keys : (g : Geometry) (now : ℕ) (k : Key) (earlier : List Use) → IsDescending earlier
    → has k (fresh_keys g now (bucket_of g.buckets k) earlier) ≡ is_fresh_last g now (last_use k earlier)
has-fresh_keys g now k [] d = refl
has-fresh_keys g now k (u ∷ earlier) d = by_test (key_eq u.key k)
    (λ e. let b : (bucket_of g.buckets u.key == bucket_of g.buckets k) ≡ true = same_bucket g u.key k e in
    by_test (is_fresh g now u) (λ f. rw (e, f, b, e) refl)
    (λ f. rw (e, f) (ap (has k) (fresh_keys-stale g now (bucket_of g.buckets k) u.packet earlier d.0
    (not_fresh (refresh_between g.refresh u.packet now) f)))))
    (λ e. by_test (is_fresh g now u && (bucket_of g.buckets u.key == bucket_of g.buckets k))
    (λ f. rw (e, f, e) (has-fresh_keys g now k earlier d.1)) (λ f. rw (e, f) (has-fresh_keys g now k earlier d.1)))

pub before-fresh_keys : (g : Geometry) (now : ℕ) (k : Key) (earlier : List Use) → IsDescending earlier
    → is_fresh_last g now (last_use k earlier) ≡ true
    → before k (fresh_keys g now (bucket_of g.buckets k) earlier) ≡ filter (is_rival g k) (map (λ u. u.key) (since_last_use k earlier))
before-fresh_keys g now k [] d h = absurd (false≢true h)
before-fresh_keys g now k (u ∷ earlier) d h = by_test (key_eq u.key k)
    (λ e. let b : (bucket_of g.buckets u.key == bucket_of g.buckets k) ≡ true = same_bucket g u.key k e in
    let f : is_fresh g now u ≡ true = rw e at h in
    rw (e, f, b, e) refl) (λ e. let h' : is_fresh_last g now (last_use k earlier) ≡ true = rw e at h in
    by_test (is_fresh g now u) (λ f. by_test (bucket_of g.buckets u.key == bucket_of g.buckets k)
    (λ b. rw (e, f, b, e) (ap (λ ks. u.key ∷ ks) (before-fresh_keys g now k earlier d.1 h')))
    (λ b. rw (e, f, b, e) (before-fresh_keys g now k earlier d.1 h')))
    (λ f. let none = fresh_keys-stale g now (bucket_of g.buckets k) u.packet earlier d.0
    (not_fresh (refresh_between g.refresh u.packet now) f) in
    absurd (false≢true (sym (ap (has k) none) ∙ (has-fresh_keys g now k earlier d.1 ∙ h')))))

hit_by : (g : Geometry) (now : ℕ) (k : Key) (row : ArgRow) (last : Option Use) (between : List Use) {there : Bool} {n : ℕ}
    → there ≡ is_fresh_last g now last → (is_fresh_last g now last ≡ true → n ≡ length (rivals g k between))
    → (there && nat_lt n g.ways) ≡ goes_on_after g last between (record { packet = now; key = k; row = row })
hit_by g now k row None between e h = rw e refl
hit_by g now k row (Some u) between e h = by_test (is_fresh g now u)
    (λ f. rw (e, f, h f) (by_test (nat_lt (length (rivals g k between)) g.ways) (λ t. rw t refl) (λ t. rw t refl)))
    (λ f. rw (e, f) (by_test (nat_lt (length (rivals g k between)) g.ways) (λ t. rw t refl) (λ t. rw t refl)))

-- the key is in its bucket's list exactly where its next use goes on with its epoch
pub hit-goes_on : (g : Geometry) (now : ℕ) (k : Key) (row : ArgRow) (earlier : List Use) → IsDescending earlier
    → has k (recent_keys g now (bucket_of g.buckets k) earlier) ≡ goes_on g earlier (record { packet = now; key = k; row = row })
hit-goes_on g now k row earlier d =
    let keys = fresh_keys g now (bucket_of g.buckets k) earlier in
    has-take _ k _ ∙ hit_by g _ k _ _ _ (has-distinct k _ ∙ has-fresh_keys g _ k _ d)
    (λ f. ap length (before-distinct k _ ∙ ap distinct (before-fresh_keys g _ k _ d f)))
