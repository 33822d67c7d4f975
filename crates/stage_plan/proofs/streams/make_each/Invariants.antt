use Rattle.std.proofs.Common.{◌≡◌, ◌+◌, ◌*◌, ◌≤◌, ◌∷◌, [], drop, length}
use Rattle.stage_plan.specs.Making.{packet_wires, all_made, made_fault}
use Rattle.stage_plan.proofs.streams.make_each.Given as goal

abbrev pub invariant-loop-one : goal.invariant-loop-one
invariant-loop-one l = record {
  made : all_made l.q.folds l.made.ops l.made.streams (drop l.one-index l.one-items)
      ≡ all_made l.q.folds [] (packet_wires ∷ []) l.one-items;
  fault : made_fault l.q.folds l.made.ops l.made.streams (drop l.one-index l.one-items)
      ≡ made_fault l.q.folds [] (packet_wires ∷ []) l.one-items;
  few : length l.made.ops ≤ 641 * l.one-index;
  long : length l.made.streams ≡ l.one-index + 1;
}
