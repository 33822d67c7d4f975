use Rattle.std.proofs.{Common.{ap, sym, ◌∙◌, rules}, lemmas.Bool.{ltb-true, eqb-true}}
use Rattle.part_tests.proofs.one_lane.take_turns.Goals as goal

pub packet-requires : goal.packet-requires
packet-requires g c = (
  search rules,
  (
    ltb-true _ _ (sym c.ready.ensures ∙ c.holds.ensures),
    (
      sym c.loop-key.invariant,
      sym (eqb-true _ _ c.same.ensures) ∙ c.args_words.ensures ∙ ap (λ kind. (g.K.EpochKind.sizes kind).args) c.kind.ensures,
    ),
  ),
)
