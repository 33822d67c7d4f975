-- Clocks of switches, of which one counts a packet.
use Rattle.std.proofs.Common.{◌≡◌, ◌≢◌, ℕ, zero, suc, ◌==◌, Bool, true, false, List, [], ◌∷◌, ◌++◌, replicate, set, Some, refl, sym, ap}
use Rattle.std.{proofs.{Common.{◌∙◌, subst, arith}, lemmas.{Bool.Decides.nat_tests, List.length-set}}, specs.Prelude.slice_get}
use Rattle.epoch_model.proofs.KeyLists.{by_test}
use Rattle.switch_core.proofs.{LaneFacts.{got_other, got_set}, SideBySide.{got_below, same_some}}
use Rattle.trace_drive.specs.{Clocks.HasCounted, declared.clock.Clock.Clock}
use Rattle.network.specs.{Networks.NetworkView, Running.{NetworkEvent, Takes, turn_events}}
use Rattle.driven_net.{specs.Lags.{AreLagClocks, CountsAt, HaveCounted, taken_by}, proofs.Following.{by_on, turn_by}}

-- one clock counts
module _ (clocks : List Clock) (at : ℕ) (old new : Clock) (here : slice_get clocks at ≡ Some old)
    (counts : (number : ℕ) → HasCounted number old → HasCounted (suc number) new) where
  there : slice_get (set clocks at new) at ≡ Some new
  there = got_set clocks at new (got_below clocks at old here)

  is_new : (s : ℕ) (clock : Clock) → (s == at) ≡ true → slice_get (set clocks at new) s ≡ Some clock → clock ≡ new
  is_new s clock t e =
      let same : s ≡ at = grind (arith, nat_tests) in
      same_some clock new (sym e ∙ (ap (slice_get (set clocks at new)) same ∙ there))

  is_old : (s : ℕ) (clock : Clock) → (s == at) ≡ false → slice_get (set clocks at new) s ≡ Some clock → slice_get clocks s ≡ Some clock
  is_old s clock t e =
      let apart : s ≢ at = grind (arith, nat_tests) in
      sym (got_other clocks at s new apart) ∙ e

  pub clock_counts : CountsAt at clocks (set clocks at new)
  clock_counts = record {
    own = λ number was e has. (new, there, counts number (subst (HasCounted number) (same_some was old (sym e ∙ here)) has));
    others = λ other apart. got_other clocks at other new apart;
  }

  pub still_clocks : (lag : ℕ) → new.every ≡ old.every → AreLagClocks lag clocks → AreLagClocks lag (set clocks at new)
  still_clocks lag every are = record {
    count = length-set clocks at new ∙ are.count;
    lags = λ s clock e. by_test (s == at)
        (λ t. ap (λ (k : Clock). k.every) (is_new s clock t e) ∙ (every ∙ are.lags at old here))
        (λ t. are.lags s clock (is_old s clock t e));
    counted = λ s clock e. by_test (s == at)
        (λ t. let was = are.counted at old here in (
          suc was.0,
          subst (HasCounted (suc was.0)) (sym (is_new s clock t e))
              (counts was.0 was.1),
        ))
        (λ t. are.counted s clock (is_old s clock t e));
  }

-- clocks of which one counted a packet's turn
pub counted_on : (at : ℕ) (words : List ℕ) (over : Bool) (net : NetworkView) (events : List NetworkEvent) (olds news : List Clock)
    (old : Clock) → slice_get olds at ≡ Some old → HaveCounted events olds
    → CountsAt at olds news → HaveCounted (events ++ turn_events at words over net) news
counted_on at words over net events olds news old here counted counts s clock e =
    let a = by_on s events (turn_events at words over net) in
    let b = turn_by s at words over net in
    by_test (at == s)
    (λ t. let same : at ≡ s = grind (arith, nat_tests) in
    let own = counts.own (taken_by at events) old here (counted at old here) in
    let is : own.0 ≡ clock = same_some own.0 clock (sym own.1 ∙ (ap (slice_get news) same ∙ e)) in
    let one : taken_by s (Takes at words ∷ []) ≡ 1 = rw t refl in
    let count : taken_by s (events ++ turn_events at words over net) ≡ suc (taken_by s events) = omega arith in
    subst (λ n. HasCounted n clock) (ap (λ k. suc (taken_by k events)) same ∙ sym count)
    (subst (HasCounted (suc (taken_by at events))) is own.2))
    (λ t. let far : s ≢ at = grind (arith, nat_tests) in
    let none : taken_by s (Takes at words ∷ []) ≡ 0 = rw t refl in
    let count : taken_by s (events ++ turn_events at words over net) ≡ taken_by s events = omega arith in
    subst (λ n. HasCounted n clock) (sym count) (counted s clock (sym (counts.others s far) ∙ e)))

-- clocks that counted nothing

got_same : (n : ℕ) (clock other : Clock) (at : ℕ) → slice_get (replicate n clock) at ≡ Some other → other ≡ clock
got_same zero clock other at e = cc
got_same (suc n) clock other zero e = sym (same_some clock other e)
got_same (suc n) clock other (suc at) e = got_same n clock other at e

pub lag_clocks : (lag : ℕ) (clock : Clock) → clock.every ≡ lag → HasCounted 0 clock → AreLagClocks lag (replicate 64 clock)
lag_clocks lag clock every counted = record {
  count = refl;
  lags = λ at other e. ap (λ (k : Clock). k.every) (got_same 64 clock other at e) ∙ every;
  counted = λ at other e. (0, subst (HasCounted 0) (sym (got_same 64 clock other at e)) counted);
}

pub none_counted : (clock : Clock) → HasCounted 0 clock → HaveCounted [] (replicate 64 clock)
none_counted clock counted at other e = subst (HasCounted 0) (sym (got_same 64 clock other at e)) counted
