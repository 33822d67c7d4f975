-- The groupbys so far have only the first switches, and those after them are untouched.
use Rattle.switch_core.proofs.SideBySide.{done_start, untouched_start, done_here, untouched_next, was_there, done_end}
use Rattle.network.proofs.groups.keep_switches.Goals as goal

pub loop-i-init : goal.loop-i-init
loop-i-init g c = record {
  kept = done_start _ 0 c.args.groups.now;
  same = untouched_start 0 0 c.args.groups.now;
}

pub loop-i-preserved : goal.loop-i-preserved
loop-i-preserved g c =
    let first = c.args.groups.now in
    let was = was_there c.loop-i.i first c.loop-i.groups c.index-groups-i.result c.loop-i.invariant.same c.loop-i-test.true
    c.loop-i.auto.groups in
    record {
      kept = done_here _ c.loop-i.i first _ _ c.keep_switches.new.self c.loop-i.invariant.kept was c.keep_switches.ensures;
      same = untouched_next c.loop-i.i first c.loop-i.groups c.keep_switches.new.self c.loop-i.invariant.same;
    }

pub returns : goal.returns
returns g c =
    done_end _ c.loop-i.i c.args.groups.now c.loop-i.groups c.loop-i.invariant.kept c.loop-i-test.false
