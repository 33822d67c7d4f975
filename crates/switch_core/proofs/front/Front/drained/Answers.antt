use Rattle.std.proofs.Common.{◌≡◌, true, sym}
use Rattle.switch_core.{specs.Closing.is_drained, proofs.Drained.drained_is_done}
use Rattle.switch_core.proofs.front.Front.drained.Goals as goal

pub returns-then-held-eq0-clause-done : goal.returns-then-held-eq0-clause-done
returns-then-held-eq0-clause-done g c t m s =
    let old = c.args.self.now in
    let none = t in
    let held = c.held.ensures.number in
    let piped = c.piped.ensures.number in
    let empty = c.if-held-eq0.true in
    let drained : is_drained old.cache old.pipe ≡ true = rw (sym held, sym piped, empty, none) in
    drained_is_done _ _ _ drained m s
