-- The steps of a walk through the keys of a store and those of the entries after it.
use Rattle.std.proofs.Common.{◌≡◌, ◌<◌, ◌+◌, ℕ, Bool, true, false, List, [], ◌∷◌, ◌++◌, length, refl, sym, ap, ◌∙◌, arith, subst}
use Rattle.std.proofs.lemmas.{Bool.true≢false, Cmp.{nat_list_cmp_total, tied_itself}}
use Rattle.std.specs.{Prelude.{◌||◌, flat_map}, Ordering.{is_lt, ordering_reverse}}
use Rattle.std.specs.declared.cmp.Ordering.TheVariants.{Less, Equal, Greater}
use Rattle.epoch_model.specs.{declared.tables.Row.Row, Machine.{Epoch, lists_of}}
use Rattle.epoch_model.specs.Keys.{AreAbove, IsAscending, Key, ascending, has, key_cmp, key_eq}
use Rattle.epoch_model.specs.Tables.{Folding, closed_key_rows, epochs_shown}
use Rattle.epoch_model.proofs.KeyLists.{by_test, key_eq-refl, key_eq-true}
use Rattle.epoch_model.proofs.KeyOrder.{ascending-ascends, equal_keys, has-ascending, same_ascending}
use Rattle.backing_store.specs.{SortedRows.{numbered, stored_rows}, Store.{Store, epochs_of, states_of}}
use Rattle.live_view.specs.Seen.{AreLeft, AreSeen, IsWalk, first_compared}
use Rattle.live_view.proofs.NextRow.{above_both, all_above, has_rest, least_first, seen_more}

less_than : (a b c : Key) → key_cmp a b ≡ Less → key_cmp b c ≡ Less → key_cmp a c ≡ Less
unfolding key_cmp
less_than a b c first second = nat_list_cmp_total.trans a b c first second

pub less_of_greater : (a b : Key) → key_cmp a b ≡ Greater → key_cmp b a ≡ Less
unfolding key_cmp
less_of_greater a b greater = nat_list_cmp_total.antisymm b a ∙ ap ordering_reverse greater

equal_back : (a b : Key) → key_cmp a b ≡ Equal → key_cmp b a ≡ Equal
unfolding key_cmp
equal_back a b equal = nat_list_cmp_total.antisymm b a ∙ ap ordering_reverse equal

not_less_itself : (a : Key) → key_cmp a a ≡ Less → ⊥
unfolding key_cmp
not_less_itself a less = let e : Equal ≡ Less = sym (tied_itself nat_list_cmp_total a) ∙ less in cc e

-- what comes before a key comes before those after it
pub above_further : (key first : Key) (keys : List Key) → key_cmp key first ≡ Less → AreAbove first keys → AreAbove key keys
above_further key first [] less above = tt
above_further key first (k ∷ keys) less above = (less_than key first k less above.0, above_further key first keys less above.1)

pub absent_above : (key : Key) (keys : List Key) → AreAbove key keys → has key keys ≡ false
absent_above key keys above = by_test (has key keys)
    (λ there. absurd (not_less_itself key (all_above key keys above key there)))
    (λ absent. absent)

pub has-append : (key : Key) (xs ys : List Key) → has key (xs ++ ys) ≡ (has key xs || has key ys)
has-append key [] ys = refl
has-append key (x ∷ xs) ys = ap (λ t. key_eq x key || t) (has-append key xs ys) ∙ or_assoc (key_eq x key) (has key xs) (has key ys)
  where
    or_assoc : (a b c : Bool) → (a || (b || c)) ≡ ((a || b) || c)
    or_assoc true b c = refl
    or_assoc false b c = refl

-- the same keys are left
seen_same : (f : Folding) (epochs : List Epoch) (xs ys : List Key) (rows : List Row) (counted : ℕ) → ((key : Key) → has key xs ≡ has key ys)
    → AreSeen f epochs xs rows counted → AreSeen f epochs ys rows counted
seen_same f epochs xs ys rows counted same seen =
    let all : ascending xs ≡ ascending ys = same_ascending (ascending xs) (ascending ys) (ascending-ascends xs) (ascending-ascends ys)
    (λ key. has-ascending key xs ∙ same key ∙ sym (has-ascending key ys)) in
    record { table = rw (← all) seen.table; count = seen.count }

moved : (key other : Key) (mains keys : List Key) → has other (mains ++ key ∷ keys) ≡ has other (key ∷ mains ++ keys)
moved key other mains keys = has-append other mains (key ∷ keys) ∙ swap (has other mains) (key_eq key other) (has other keys)
    ∙ ap (λ t. key_eq key other || t) (sym (has-append other mains keys))
  where
    swap : (a b c : Bool) → (a || (b || c)) ≡ (b || (a || c))
    swap true true c = refl
    swap true false c = refl
    swap false b c = refl

once : (key other : Key) (mains keys : List Key) → has other ((key ∷ mains) ++ key ∷ keys) ≡ has other (key ∷ mains ++ keys)
once key other mains keys = ap (λ t. key_eq key other || t) (moved key other mains keys)
    ∙ idem (key_eq key other) (has other (mains ++ keys))
  where
    idem : (a b : Bool) → (a || (a || b)) ≡ (a || b)
    idem true b = refl
    idem false b = refl

-- a key among those after another is another
is_other : (key other : Key) (keys : List Key) → AreAbove key keys → has other keys ≡ true → key_eq key other ≡ false
is_other key other keys above there = by_test (key_eq key other)
    (λ same. absurd (true≢false (sym there ∙ ap (λ k. has k keys) (sym (key_eq-true key other same)) ∙ absent_above key keys above)))
    (λ apart. apart)

same_key : (a b : Key) → key_cmp a b ≡ Equal → a ≡ b
same_key a b equal = equal_keys a b (ap is_lt equal) (ap is_lt (equal_back a b equal))

above_left : (main : Key) (left : List Key) → IsAscending left → first_compared left main ≡ Greater → AreAbove main left
above_left main [] up greater = tt
above_left main (key ∷ keys) up greater = let less = less_of_greater key main greater in (less, above_further main key keys less up.0)

-- the first key of the entries, where the store has none left, and where it is less than the first of the store
pub first_alone : (entries : Store) (left : List Key) (rest : List Row) → AreLeft entries left rest → 0 < length rest
    → (key : Key) × (keys : List Key) × (left ≡ key ∷ keys) × AreAbove key []
first_alone entries [] rest are some = absurd (omega (arith, some, ap length are.are))
first_alone entries (key ∷ keys) rest are some = (key, keys, refl, tt)

pub first_less : (main : Key) (mains left : List Key) → IsAscending (main ∷ mains) → first_compared left main ≡ Less
    → (key : Key) × (keys : List Key) × (left ≡ key ∷ keys) × AreAbove key (main ∷ mains)
first_less main mains [] up less = cc less
first_less main mains (key ∷ keys) up less = (key, keys, refl, (less, above_further key main mains less up.0))

module _ {f : Folding} {closed unmerged : List Epoch} {entries : Store} {rest rows : List Row} {counted : ℕ} where
  -- the first key of the entries comes before all that are left of the store
  module _ {mains : List Key} {key : Key} {keys : List Key}
      (walk : IsWalk f closed unmerged entries mains (key ∷ keys) rest rows counted) (above : AreAbove key mains) where
    pub new_absent : lists_of key closed ≡ []
    new_absent = walk.new key (ap (λ t. t || has key keys) (key_eq-refl key)) (absent_above key mains above)

    pub new_seen : AreSeen f (closed ++ unmerged) (key ∷ mains ++ keys) rows counted
    new_seen = seen_same f (closed ++ unmerged) (mains ++ key ∷ keys) (key ∷ mains ++ keys) rows counted
        (λ other. moved key other mains keys) walk.seen

    pub new_walk : {rest' rows' : List Row} {counted' : ℕ} → AreSeen f (closed ++ unmerged) (mains ++ keys) rows' counted'
        → AreLeft entries keys rest' → IsWalk f closed unmerged entries mains keys rest' rows' counted'
    new_walk seen left = record {
      left = left;
      up = walk.up;
      new = λ other there absent. walk.new other (has_rest key other keys there) absent;
      old = λ other there absent. walk.old other there (rw (is_other key other mains above there) absent);
      seen = seen;
    }

  -- the first key of both sides is the same
  module _ {mains : List Key} {key : Key} {keys : List Key}
      (walk : IsWalk f closed unmerged entries (key ∷ mains) (key ∷ keys) rest rows counted) where
    pub both_seen : AreSeen f (closed ++ unmerged) (key ∷ mains ++ keys) rows counted
    both_seen = seen_same f (closed ++ unmerged) ((key ∷ mains) ++ key ∷ keys) (key ∷ mains ++ keys) rows counted
        (λ other. once key other mains keys) walk.seen

    pub both_walk : {rest' rows' : List Row} {counted' : ℕ} → AreSeen f (closed ++ unmerged) (mains ++ keys) rows' counted'
        → AreLeft entries keys rest' → IsWalk f closed unmerged entries mains keys rest' rows' counted'
    both_walk seen left = record {
      left = left;
      up = walk.up.1;
      new = λ other there absent. walk.new other (has_rest key other keys there) (rw (is_other key other keys walk.left.up.0 there) absent);
      old = λ other there absent. walk.old other (has_rest key other mains there) (rw (is_other key other mains walk.up.0 there) absent);
      seen = seen;
    }

  -- the first key of the store comes before all that are left of the entries
  module _ {mains : List Key} {key : Key} {keys : List Key}
      (walk : IsWalk f closed unmerged entries (key ∷ mains) keys rest rows counted) (above : AreAbove key keys) where
    pub old_walk : {row : Row} {now : ℕ} → closed_key_rows f (closed ++ unmerged) key ≡ row ∷ [] → now ≡ epochs_shown (counted + row.epochs)
        → IsWalk f closed unmerged entries mains keys rest (rows ++ row ∷ []) now
    old_walk {row = row} {now = now} one more = record {
      left = walk.left;
      up = walk.up.1;
      new = λ other there absent. walk.new other there (rw (is_other key other keys above there) absent);
      old = λ other there absent. walk.old other (has_rest key other mains there) absent;
      seen = seen_more f (closed ++ unmerged) (key ∷ mains ++ keys) (mains ++ keys) key row rows counted now walk.seen
          (least_first key (key ∷ mains ++ keys) (mains ++ keys) (λ other. refl) (above_both key mains keys walk.up.0 above)) one more;
    }

    pub old_absent : lists_of key unmerged ≡ []
    old_absent = walk.old key (ap (λ t. t || has key mains) (key_eq-refl key)) (absent_above key keys above)

  -- a turn of the walk, by what it pushes

  pub new_turn : {mains left : List Key} {rest' rows' : List Row} {counted' : ℕ}
      → IsWalk f closed unmerged entries mains left rest rows counted
      → (key : Key) × (keys : List Key) × (left ≡ key ∷ keys) × AreAbove key mains
      → ((key : Key) (keys : List Key) → AreLeft entries (key ∷ keys) rest → lists_of key closed ≡ [] → AreAbove key mains
      → AreSeen f (closed ++ unmerged) (key ∷ mains ++ keys) rows counted
      → AreSeen f (closed ++ unmerged) (mains ++ keys) rows' counted' × AreLeft entries keys rest')
      → (left' : List Key) × IsWalk f closed unmerged entries mains left' rest' rows' counted'
  new_turn {mains = mains} walk first pushed =
      let now = subst (λ keys. IsWalk f closed unmerged entries mains keys rest rows counted) first.2 walk in
      let done = pushed first.0 first.1 now.left (new_absent now first.3) first.3 (new_seen now first.3) in
      (first.1, new_walk now first.3 done.0 done.1)

  pub both_turn : {main : Key} {mains left : List Key} {rest' rows' : List Row} {counted' : ℕ}
      → IsWalk f closed unmerged entries (main ∷ mains) left rest rows counted → first_compared left main ≡ Equal
      → ((keys : List Key) → AreLeft entries (main ∷ keys) rest → AreAbove main mains
      → AreSeen f (closed ++ unmerged) (main ∷ mains ++ keys) rows counted
      → AreSeen f (closed ++ unmerged) (mains ++ keys) rows' counted' × AreLeft entries keys rest')
      → (left' : List Key) × IsWalk f closed unmerged entries mains left' rest' rows' counted'
  both_turn {main = main} {mains = mains} {left = []} walk equal pushed = cc equal
  both_turn {main = main} {mains = mains} {left = key ∷ keys} walk equal pushed =
      let now = subst (λ k. IsWalk f closed unmerged entries (main ∷ mains) (k ∷ keys) rest rows counted) (same_key key main equal) walk in
      let done = pushed keys now.left now.up.0 (both_seen now) in
      (keys, both_walk now done.0 done.1)

  pub old_turn : {main : Key} {mains left : List Key} {row : Row} {now : ℕ}
      → IsWalk f closed unmerged entries (main ∷ mains) left rest rows counted → first_compared left main ≡ Greater
      → (lists_of main unmerged ≡ [] → closed_key_rows f (closed ++ unmerged) main ≡ row ∷ []) → now ≡ epochs_shown (counted + row.epochs)
      → (left' : List Key) × IsWalk f closed unmerged entries mains left' rest (rows ++ row ∷ []) now
  old_turn {main = main} {mains = mains} {left = left} walk greater pushed more =
      let above = above_left main left walk.left.up greater in
      (left, old_walk walk above (pushed (old_absent walk above)) more)

-- where no entries are left there is no key of them
pub no_left : (entries : Store) (left : List Key) → AreLeft entries left [] → left ≡ []
no_left entries [] are = refl
no_left entries (key ∷ keys) are = at (states_of entries key) (are.some key (ap (λ t. t || has key keys) (key_eq-refl key))) refl
  where
    at : (states : List (List ℕ)) → 0 < length states → states_of entries key ≡ states → key ∷ keys ≡ []
    at [] some same = absurd (omega (arith, some))
    at (state ∷ states) some same =
        let none = are.are ∙ ap (λ ss. numbered key (epochs_of entries.keys key) 1 ss ++ flat_map (stored_rows entries) keys) same in
        cc none
