-- The turn at the packet's switch makes the network follow the packets with this one after them.
use Rattle.std.proofs.Common.{◌≡◌, ◌<◌, suc, [], Some, length, sym, ap, ◌∙◌, subst, lit<}
use Rattle.epoch_model.specs.Epochs.{is_refresh}
use Rattle.switch_core.proofs.SideBySide.{got_some}
use Rattle.trace_drive.specs.Clocks.{HasCounted}
use Rattle.net_wide.specs.{NetTables.{packets_at, switch_in}, Numbering.{place_among, switch_number, with_switch}}
use Rattle.network.{specs.Running.{NetworkRuns, turn_events}, proofs.Runs.runs_kept}
use Rattle.driven_net.{specs.{Lags.{HaveCounted, taken_by}, Turns.{Meets, known_after}}, proofs.Counting.counted_on}
use Rattle.driven_net.proofs.{Known.{number_is, number_stays, switch_is}, Following.{follows_turn, own_packets}}
use Rattle.driven_net.proofs.taking.take_one.Goals as goal

pub turn-requires : goal.turn-requires
turn-requires g c =
    let known = c.args.known.now in
    let words = c.args.packet.now.words in
    let at = c.in_ok-at.at in
    let same : c.get.result ≡ switch_in words = switch_is words c.get.result c.get.ensures in
    let number : switch_number known (switch_in words) ≡ Some at = subst (λ s. switch_number known s ≡ Some at) same
    c.in_ok-at.ensures.at in
    let after : c.switch_at.new.known ≡ with_switch known (switch_in words) = c.in_ok-at.ensures.known ∙ ap (with_switch known) same in
    let within : at < length c.switch_at.new.known = subst (λ ks. at < length ks) (sym after)
    (number_stays known (switch_in words) at number).1 in
    (lit< tt, subst (λ n. at < n) (sym c.in_ok-at.ensures.switches) within)

pub returns-in-Ok-clause-numbered : goal.returns-in-Ok-clause-numbered
returns-in-Ok-clause-numbered g c =
    let words = c.args.packet.now.words in
    let at = c.in_ok-at.at in
    (at, subst (λ s. switch_number c.args.known.now s ≡ Some at) (switch_is words c.get.result c.get.ensures) c.in_ok-at.ensures.at)

pub returns-in-Ok-clause-follows : goal.returns-in-Ok-clause-follows
returns-in-Ok-clause-follows g c lag packets f are counted =
    let known = c.args.known.now in
    let clocks = c.args.clocks.now in
    let words = c.args.packet.now.words in
    let at = c.in_ok-at.at in
    let now = c.switch_at.new.known in
    let mid = c.switch_at.new.network in
    let over = c.is_due-lag_over.result in
    let same : c.get.result ≡ switch_in words = switch_is words c.get.result c.get.ensures in
    let number : switch_number known (switch_in words) ≡ Some at = subst (λ s. switch_number known s ≡ Some at) same
    c.in_ok-at.ensures.at in
    let after : now ≡ with_switch known (switch_in words) = c.in_ok-at.ensures.known ∙ ap (with_switch known) same in
    let stays = number_stays known (switch_in words) at number in
    let few = (number_is known (switch_in words) at number).1 in
    let m = c.in_ok-at.ensures.follows packets f in
    let clock = got_some clocks at (subst (λ n. at < n) (sym are.count) few) in
    let n = follows_turn c.runs_follow_events.ensures g.row.WAYS now packets words at over mid c.turn.new.self c.in-Ok.ensures.runs
    (ap (λ ks. place_among ks (switch_in words)) after ∙ stays.0) (subst (λ ks. at < length ks) (sym after) stays.1) m.0 in (
      n.0,
      subst (λ es. HaveCounted es c.is_due-lag_over.new.clocks) (sym n.1)
          (counted_on at words over mid (m.0).events clocks c.is_due-lag_over.new.clocks clock.0 clock.1
          (subst (λ es. HaveCounted es clocks) (sym m.1) counted) c.is_due-lag_over.ensures.counts),
    )

pub returns-in-Ok-clause-turn : goal.returns-in-Ok-clause-turn
returns-in-Ok-clause-turn g c lag packets f are counted first =
    let ways = g.row.WAYS in
    let known = c.args.known.now in
    let clocks = c.args.clocks.now in
    let words = c.args.packet.now.words in
    let switch = switch_in words in
    let at = c.in_ok-at.at in
    let now = c.switch_at.new.known in
    let old = c.args.network.now in
    let mid = c.switch_at.new.network in
    let over = c.is_due-lag_over.result in
    let same : c.get.result ≡ switch = switch_is words c.get.result c.get.ensures in
    let number : switch_number known switch ≡ Some at = subst (λ s. switch_number known s ≡ Some at) same c.in_ok-at.ensures.at in
    let after : now ≡ with_switch known switch = c.in_ok-at.ensures.known ∙ ap (with_switch known) same in
    let stays = number_stays known switch at number in
    let place : place_among now switch ≡ at = ap (λ ks. place_among ks switch) after ∙ stays.0 in
    let within : place_among now switch < length now = subst (λ n. n < length now) (sym place)
    (subst (λ ks. at < length ks) (sym after) stays.1) in
    let few = (number_is known switch at number).1 in
    let m = c.in_ok-at.ensures.follows packets f in
    let clock = got_some clocks at (subst (λ n. at < n) (sym are.count) few) in
    let struck : over ≡ is_refresh lag (suc (taken_by at (m.0).events)) =
    c.is_due-lag_over.ensures.is_due lag (taken_by at (m.0).events) clock.0 are clock.1
    (subst (λ es. HasCounted (taken_by at es) clock.0) (sym m.1) (counted at clock.0 clock.1)) in
    let own : taken_by at (m.0).events ≡ length (packets_at switch packets) =
    ap (λ k. taken_by k (m.0).events) (sym place)
    ∙ (own_packets now switch (m.0).events within (m.0).theirs ∙ ap (λ ps. length (packets_at switch ps)) (m.0).takes) in
    let due : over ≡ is_refresh lag (suc (length (packets_at switch packets))) = struck ∙ ap (λ n. is_refresh lag (suc n)) own in
    let number_of : at ≡ place_among (with_switch (known_after [] packets) switch) switch = sym stays.0
    ∙ ap (λ ks. place_among (with_switch ks switch) switch) first in (
      mid,
      subst (λ ks. Meets ways ks switch old mid) first (subst (λ s. Meets ways known s old mid) same c.in_ok-at.ensures.meets),
      subst (λ n. NetworkRuns ways (turn_events n words (is_refresh lag (suc (length (packets_at switch packets)))) mid) mid
          c.turn.new.self) number_of
          (subst (λ b. NetworkRuns ways (turn_events at words b mid) mid c.turn.new.self) due c.in-Ok.ensures.runs),
    )

pub returns-in-Ok-clause-keeps : goal.returns-in-Ok-clause-keeps
returns-in-Ok-clause-keeps g c =
    let mid = c.switch_at.new.network in
    let turn = turn_events c.in_ok-at.at c.args.packet.now.words c.is_due-lag_over.result mid in
    let kept = (runs_kept g.row.WAYS turn mid c.turn.new.self c.in-Ok.ensures.runs).keeps in
    let was = c.in_ok-at.ensures.keeps in
    record { plan = kept.plan ∙ was.plan; buckets = kept.buckets ∙ was.buckets; pipe_records = kept.pipe_records ∙ was.pipe_records }

pub is_due-lag_over-requires : goal.is_due-lag_over-requires
is_due-lag_over-requires g c =
    let known = c.args.known.now in
    let at = c.in_ok-at.at in
    let number : switch_number known c.get.result ≡ Some at = c.in_ok-at.ensures.at in
    record { at = (number_is known c.get.result at number).1; clocks = c.requires.clocks }
