-- The clock at the packet's switch counts the packet, and the others stay, so all stay clocks of the lag.
use Rattle.std.{proofs.Common.{◌≡◌, ◌<◌, suc, Some, length, get_or, sym, ap, ◌∙◌, subst}, specs.Prelude.slice_get}
use Rattle.switch_core.proofs.SideBySide.{same_some, got_here}
use Rattle.epoch_model.specs.Epochs.{is_refresh}
use Rattle.trace_drive.specs.{Clocks.HasCounted, declared.clock.Clock.Clock}
use Rattle.driven_net.proofs.Counting.{clock_counts, still_clocks}
use Rattle.driven_net.proofs.taking.is_due.Goals as goal

-- where there is no clock
abbrev none : Clock
none = record { every = 0; since = 0 }

pub is_due-requires : goal.is_due-requires
is_due-requires c =
    let clocks = c.args.clocks.now in
    let at = c.args.at in
    let are = c.requires.clocks.1 in
    let below : at < length clocks = subst (λ n. at < n) (sym are.count) c.requires.at in
    are.counted at (get_or clocks at none) (got_here clocks at none below)

pub returns-clause-clocks : goal.returns-clause-clocks
returns-clause-clocks c lag are =
    let clocks = c.args.clocks.now in
    let at = c.args.at in
    let below : at < length clocks = subst (λ n. at < n) (sym are.count) c.requires.at in
    still_clocks clocks at (get_or clocks at none) c.is_due.new.self (got_here clocks at none below) c.is_due.ensures.counted lag
    c.is_due.ensures.every are

pub returns-clause-counts : goal.returns-clause-counts
returns-clause-counts c =
    let clocks = c.args.clocks.now in
    let at = c.args.at in
    let below : at < length clocks = subst (λ n. at < n) (sym c.requires.clocks.1.count) c.requires.at in
    clock_counts clocks at (get_or clocks at none) c.is_due.new.self (got_here clocks at none below) c.is_due.ensures.counted

pub returns-clause-is_due : goal.returns-clause-is_due
returns-clause-is_due c lag number clock are e counted =
    let clocks = c.args.clocks.now in
    let at = c.args.at in
    let old = get_or clocks at none in
    let below : at < length clocks = subst (λ n. at < n) (sym are.count) c.requires.at in
    let here : slice_get clocks at ≡ Some old = got_here clocks at none below in
    c.is_due.ensures.is_due number (subst (HasCounted number) (same_some clock old (sym e ∙ here)) counted)
    ∙ ap (λ n. is_refresh n (suc number)) (are.lags at old here)
