use Rattle.std.proofs.Common.{ap, ◌∙◌}
use Rattle.network.specs.Groups.{GroupView, with_first}
use Rattle.network.proofs.group.Group.keep_switches.Goals as goal

pub returns : goal.returns
returns g c =
    let p = c.self.inside in
    let view : GroupView = record { kind = p.kind; fronts = p.fronts.items; store = p.store } in
    ap (λ xs. record view { fronts = xs }) c.truncate.ensures.items ∙ ap (with_first c.args.switches) c.self.view_is
