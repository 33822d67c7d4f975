-- Each upkeep is one call, which ensures what is due.
use Rattle.std.proofs.Common.{rules}
use Rattle.switch_core.{specs.FrontEvents.with_store, proofs.{Carrying.{first_none, same_store}, LaneFacts.on_err}}
use Rattle.switch_core.proofs.upkeep.keep_up.Goals as goal

pub make_ready-requires : goal.make_ready-requires
make_ready-requires g c = (search rules, c.requires)

pub merge_once-requires : goal.merge_once-requires
merge_once-requires g c = (search rules, c.requires)

pub empty_cache-requires : goal.empty_cache-requires
empty_cache-requires g c = (search rules, c.requires)

pub empty_pipe-requires : goal.empty_pipe-requires
empty_pipe-requires g c = (search rules, c.requires)

pub returns-in-Room : goal.returns-in-Room
returns-in-Room g c =
    let made = c.make_ready.ensures in
    let old = with_store c.args.front.now c.args.store.now in
    let new = with_store c.make_ready.new.front c.make_ready.new.store in
    rw c.in-Room.is record {
      carries = made.carries;
      breaks_off = on_err _ _ c.make_ready.result
          (λ e. first_none g.K.EpochKind.stands g.K.EpochKind.folding g.row.WAYS _ old new (same_store _ _ _ _ e)) made.err;
      left = made.ready;
      sizes = made.sizes;
      steps = made.steps;
      cost = made.cost;
    }

pub returns-in-Lag : goal.returns-in-Lag
returns-in-Lag g c =
    let made = c.merge_once.ensures in
    let old = with_store c.args.front.now c.args.store.now in
    let new = with_store c.merge_once.new.front c.merge_once.new.store in
    rw c.in-Lag.is record {
      carries = made.carries;
      breaks_off = on_err _ _ c.merge_once.result
          (λ e. first_none g.K.EpochKind.stands g.K.EpochKind.folding g.row.WAYS _ old new (same_store _ _ _ _ e)) made.err;
      left = made.ready;
      sizes = made.sizes;
      steps = made.steps;
      cost = made.cost;
    }

pub returns-in-Sweep : goal.returns-in-Sweep
returns-in-Sweep g c =
    let made = c.empty_cache.ensures in rw c.in-Sweep.is record {
      carries = made.carries;
      breaks_off = made.breaks_off;
      left = made.held;
      sizes = made.sizes;
      steps = made.steps;
      cost = made.cost;
    }

pub returns-in-Rest : goal.returns-in-Rest
returns-in-Rest g c =
    let made = c.empty_pipe.ensures in rw c.in-Rest.is record {
      carries = made.carries;
      breaks_off = made.breaks_off;
      left = made.empty;
      sizes = made.sizes;
      steps = made.steps;
      cost = made.cost;
    }
