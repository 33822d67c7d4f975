-- A network without a switch has groupbys that stand without an event, and no front whose size has to fit.
use Rattle.std.proofs.Common.{length, rules, arith}
use Rattle.network.{proofs.{GroupSteps.have_start, Representing.fresh_stands}, specs.Networks.NetworkView}
use Rattle.network.proofs.network.Network.new.Goals as goal

pub invariant_of-result : goal.invariant_of-result
invariant_of-result g c = (
  record {
    few = omega arith;
    groups = c.in_ok-groups.ensures.are;
    wide = have_start (λ x. length x.cache.lists) c.args.buckets c.args.plan c.in_ok-groups.groups.items c.in_ok-groups.ensures.are;
    pipes = have_start (λ x. x.pipe.places) c.args.pipe_records c.args.plan c.in_ok-groups.groups.items c.in_ok-groups.ensures.are;
    sizes = c.requires;
  },
  search rules,
)

pub returns-clause-stands : goal.returns-clause-stands
returns-clause-stands g c =
    let net : NetworkView = record {
      plan = c.args.plan;
      buckets = c.args.buckets;
      pipe_records = c.args.pipe_records;
      switches =
          0;
      groups = c.in_ok-groups.groups.items;
    } in
    fresh_stands g.row.WAYS net (c.in_ok-groups.ensures.stand c.args.buckets)
