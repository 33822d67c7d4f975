-- What is present in the registers is taken with its key and its arguments as one event, and else there is none.
use Rattle.std.proofs.Common.{◌≡◌, ℕ, ◌+◌, ◌*◌, ◌≤◌, [], Option, Some, map, refl, sym, ap, ◌∙◌, subst, arith, le-add_right}
use Rattle.epoch_model.specs.{Driving.{Taken, event_of}, Keys.{Key, ArgRow}}
use Rattle.epoch_entry.specs.contracts.any.AnyEpochsEpochKind.TheImpl.{ghosts}
use Rattle.stage_plan.specs.{Planned.wiring_at, Registers.{operand_value, taken_at}}
use Rattle.switch_core.specs.FrontEvents.{with_store}
use Rattle.network.specs.Events.{LaneCarries}
use Rattle.network.proofs.taking.take_use.Goals as goal

pub returns-then-present-clause-carries : goal.returns-then-present-clause-carries
returns-then-present-clause-carries g c store =
    let old = with_store c.args.front.now store in
    let new = with_store c.packet.new.self store in
    let wiring = wiring_at c.args.plan.now c.args.group in
    let registers = c.args.registers.now in
    let t = sym c.present.ensures ∙ c.if-present.true in
    let key = c.key_into.new.key in
    let row = c.args_into.new.args in
    let taking : Key → ArgRow → Option Taken = λ k r. Some (record { key = k; row = r }) in
    let same : taken_at wiring registers ≡ taking key row =
    rw t (ap (λ k. taking k (map (operand_value registers) wiring.args)) (sym c.key_into.ensures.key)
    ∙ ap (taking key) (sym c.args_into.ensures.args)) in
    subst (λ taken. LaneCarries g.row.WAYS (event_of taken) old new) (sym same) (new, c.packet.ensures.carries store, refl)

pub returns-else-present-clause-carries : goal.returns-else-present-clause-carries
returns-else-present-clause-carries g c store =
    let lane = with_store c.args.front.now store in
    let wiring = wiring_at c.args.plan.now c.args.group in
    let registers = c.args.registers.now in
    let t = sym c.present.ensures ∙ c.if-present.false in
    let none : [] ≡ event_of (taken_at wiring registers) = rw t in
    subst (λ events. LaneCarries g.row.WAYS events lane lane) none refl

-- steps of a key and of a row of arguments, and then of a packet
copied : (start key args end keys row most : ℕ) → key ≡ start + keys → args ≡ key + row → end ≤ args + most
    → end ≤ start + ((keys + row) + most)
copied start key args end keys row most k r e = omega arith

pub returns-then-present-clause-cost : goal.returns-then-present-clause-cost
returns-then-present-clause-cost g c _ =
    let start = c.args.steps.now in
    let front = c.args.front.now in
    let words = front.cache.key_words in
    let sizes = ghosts.sizes front.kind in
    copied start c.key_into.new.steps c.args_into.new.steps c.packet.new.steps words sizes.args
    (words + 2 * g.row.WAYS * (words + 1) + (words + sizes.entry) + ghosts.open_bound front.kind + ghosts.absorb_bound front.kind)
    (c.key_into.ensures.steps ∙ ap (λ n. start + n) c.requires.key)
    (c.args_into.ensures.steps ∙ ap (λ n. c.key_into.new.steps + n) c.requires.args)
    c.packet.ensures.cost

pub returns-else-present-clause-cost : goal.returns-else-present-clause-cost
returns-else-present-clause-cost g c store = le-add_right _ _
