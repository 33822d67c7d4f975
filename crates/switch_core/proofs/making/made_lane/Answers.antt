-- The entries of the groupby's own program are small enough beside its keys for the lane's records.
use Rattle.std.proofs.{Common.{arith, lit<}, Math.Logic.{∥∥₁_elim}, Props.props}
use Rattle.epoch_entry.specs.contracts.any.AnyEpochsEpochKind.TheImpl.{ghosts}
use Rattle.switch_core.proofs.making.made_lane.Goals as goal

pub for_entries-kind-requires : goal.for_entries-kind-requires
for_entries-kind-requires g c = rw c.in_ok-copy.ensures c.requires.program

pub new-requires : goal.new-requires
new-requires g c =
    let keys = c.requires.keys in
    let sizes = c.requires.sizes in
    let long = c.len.ensures in
    let small = ∥∥₁_elim c.requires.program (hlevel props) (λ h.
    let kind = c.for_entries-kind.ensures.kind h.0 (rw c.in_ok-copy.ensures h.1) in
    let few = c.entries_are_small.ensures c.args.entries h.0 (ghosts.sizes c.for_entries-kind.result)
    (ghosts.folding c.for_entries-kind.result) (ghosts.open_bound c.for_entries-kind.result)
    (ghosts.absorb_bound c.for_entries-kind.result) c.len.result h.1.valid kind
    (let l = c.len.ensures in let k = c.requires.keys.1 in omega arith) in
    omega arith) in (
      lit< tt,
      (
        sizes.some_ways,
        (
          sizes.some_buckets,
          (
            sizes.places,
            (
              (let k = keys.0 in omega arith, let k = keys.1 in omega arith),
              (small, (sizes.some_records, sizes.most_records)),
            ),
          ),
        ),
      ),
    )
