-- Chains of keys: what lies between a key and the one before it, one key more, and keys in chains that begin anew.
use Rattle.std.proofs.Common.{◌≡◌, ◌≢◌, ℕ, zero, suc, ◌+◌, ◌-◌, ◌*◌, ◌/◌, ◌%◌, ◌^◌, ◌<◌, ◌≤◌, inl, inr, eqb, List, [], ◌∷◌, ◌++◌, length}
use Rattle.std.proofs.{Common.{get_or, refl, sym, ap, ◌∙◌, arith}, lemmas.Bool.{cases_eq, eqb-true, ne_eqb, true≢false, eq-eqb}}
use Rattle.std.{proofs.lemmas.{List.{get_or-set_same, get_or-set_other, length-set}, Nat.and_le_r}, specs.Prelude.set}
use Rattle.std.specs.Int.RustNames.{bit_xor}
use Rattle.epoch_model.proofs.KeyLists.{by_test}
use Rattle.backing_store.specs.Chains.{AreChained, home_at, home_of, last_below}

-- a home is one of the homes
pub home_within : (print homes : ℕ) → 0 < homes → home_of print homes < homes
unfolding home_of
home_within print homes some =
    let spread : ℕ = (print * 0x9e37_79b9_7f4a_7c15) % 2 ^ 64 in
    let mixed : ℕ = (bit_xor spread (spread / 2 ^ 32) * 0x9e37_79b9_7f4a_7c15) % 2 ^ 64 in
    let low = and_le_r (mixed / 2 ^ 32) (homes - 1) in
    omega (arith, some, low)

-- the last key below a limit is below it
pub below_limit : (homes : ℕ) (prints : List ℕ) (home limit : ℕ) → last_below homes prints home limit ≤ limit
unfolding last_below
below_limit homes prints home zero = omega arith
below_limit homes prints home (suc number) = by_test (eqb (home_at homes prints number) home)
    (λ here. rw here (omega arith))
    (λ other. rw other (let low = below_limit homes prints home number in omega (arith, low)))

-- no key between the last one and the limit has the home
pub none_between : (homes : ℕ) (prints : List ℕ) (home limit at : ℕ) → last_below homes prints home limit ≤ at → at < limit
    → home_at homes prints at ≢ home
unfolding last_below
none_between homes prints home zero at from to = absurd (omega (arith, to))
none_between homes prints home (suc number) at from to = by_test (eqb (home_at homes prints number) home)
    (λ here. absurd (let low : suc number ≤ at = rw here at from in omega (arith, low, to)))
    (λ other. elim (cases_eq at number) [
      | inl e ↦ (λ is. true≢false (sym (eq-eqb (home_at homes prints number) home (sym (ap (home_at homes prints) e) ∙ is)) ∙ other))
      | inr apart ↦ none_between homes prints home number at (rw other at from) (omega (arith, to, apart))
    ])

-- the last key of a home has it
pub home_of_last : (homes : ℕ) (prints : List ℕ) (home limit at : ℕ) → last_below homes prints home limit ≡ suc at
    → home_at homes prints at ≡ home
unfolding last_below
home_of_last homes prints home zero at is = absurd (omega (arith, is))
home_of_last homes prints home (suc number) at is = by_test (eqb (home_at homes prints number) home)
    (λ here.
    let same : number ≡ at = omega (arith, rw here at is) in
    ap (home_at homes prints) (sym same) ∙ eqb-true (home_at homes prints number) home here)
    (λ other. home_of_last homes prints home number at (rw other at is))

-- only keys below the limit count
same_below : (homes : ℕ) (prints others : List ℕ) (home limit : ℕ) → ((k : ℕ) → k < limit → get_or others k 0 ≡ get_or prints k 0)
    → last_below homes others home limit ≡ last_below homes prints home limit
unfolding last_below
same_below homes prints others home zero same = refl
same_below homes prints others home (suc number) same = rw (
  same number (omega arith),
  same_below homes prints others home number (λ k low. same k (omega (arith, low))),
) refl

pub get_push : (xs : List ℕ) (x at : ℕ) → at < length xs → get_or (xs ++ x ∷ []) at 0 ≡ get_or xs at 0
get_push [] x at h = absurd (omega arith)
get_push (y ∷ xs) x zero h = refl
get_push (y ∷ xs) x (suc at) h = get_push xs x at (omega arith)

pub get_pushed : (xs : List ℕ) (x : ℕ) → get_or (xs ++ x ∷ []) (length xs) 0 ≡ x
get_pushed [] x = refl
get_pushed (y ∷ xs) x = get_pushed xs x

-- one key more, that isn't in a chain yet
pub chained_pushed : (count : ℕ) (prints before ends : List ℕ) (print : ℕ) → count ≤ length prints → count ≤ length before
    → AreChained count prints before ends
    → AreChained count (prints ++ print ∷ []) (before ++ 0 ∷ []) ends
chained_pushed count prints before ends print low short chained =
    let same : (k : ℕ) → k < count → get_or (prints ++ print ∷ []) k 0 ≡ get_or prints k 0 =
    λ k within. get_push prints print k (omega (arith, low, within)) in
    let all = λ (home limit : ℕ) (within : limit ≤ count).
    same_below (length ends) prints (prints ++ print ∷ []) home limit (λ k below. same k (omega (arith, below, within))) in
    record {
      linked = λ number within. rw (get_push before 0 number (omega (arith, short, within)), same number within)
          (chained.linked number within ∙ sym (all (home_at (length ends) prints number) number (omega (arith, within))));
      ended = λ home within. chained.ended home within ∙ sym (all home count (omega arith));
    }

-- the next key is put in its chain
pub chained_more : (count : ℕ) (prints before ends : List ℕ) → count < length before → 0 < length ends → AreChained count prints before ends
    → AreChained (count + 1) prints (set before count (get_or ends (home_at (length ends) prints count) 0))
    (set ends (home_at (length ends) prints count) (count + 1))
unfolding last_below
chained_more count prints before ends low some chained =
    let homes = length ends in
    let home = home_at homes prints count in
    let within : home < homes = home_within (get_or prints count 0) homes some in
    let next : count + 1 ≡ suc count = omega arith in
    let long = length-set ends home (count + 1) in
    record {
      linked = λ number below. rw long (elim (cases_eq number count) [
        | inl e ↦ rw (e, get_or-set_same before count (get_or ends home 0) 0 low) (chained.ended home within)
        | inr apart ↦ rw (get_or-set_other before count number (get_or ends home 0) 0 apart)
            (chained.linked number (omega (arith, below, apart)))
      ]);
      ended = λ other there. rw (long, next) (elim (cases_eq other home) [
        | inl e ↦ rw (e, get_or-set_same ends home (suc count) 0 within, eq-eqb home home refl) refl
        | inr apart ↦ rw (get_or-set_other ends home other (suc count) 0 apart, ne_eqb home other (λ e. apart (sym e)))
            (chained.ended other (omega (arith, there, long)))
      ]);
    }

-- where no home has a key, no key is in a chain yet
pub none_chained : (prints before ends : List ℕ) → ((home : ℕ) → get_or ends home 0 ≡ 0) → AreChained 0 prints before ends
unfolding last_below
none_chained prints before ends free = record { linked = λ number low. absurd (omega (arith, low)); ended = λ home within. free home }
