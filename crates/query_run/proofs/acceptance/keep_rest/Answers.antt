use Rattle.std.proofs.Common.{Ok, ap, ◌∙◌, arith}
use Rattle.query_run.proofs.Keeping.{keeps_one}
use Rattle.query_run.proofs.acceptance.keep_rest.Goals as goal

pub packets-preserved : goal.packets-preserved
packets-preserved c =
    let given = c.in_ok-next_into.ensures.packet (ap Ok c.if-branch.true) in
    record {
      so_far = keeps_one c.args.reads c.args.trace.now.packets c.packets.trace.packets c.next_into.new.self.packets c.packets.kept
          c.push.new.self c.next_into.new.packet c.packets.invariant.so_far given.packets c.in_default.ensures.ok;
      fault = given.fault ∙ c.packets.invariant.fault;
      within = omega arith;
    }
