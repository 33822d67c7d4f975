use Rattle.std.{proofs.Common.{◌≡◌, ◌++◌, ◌∷◌, [], ◌≤◌, ◌+◌, drop, length}, specs.Prelude.fold}
use Rattle.query_facts.specs.Columns.{packet_origins, with_origins}
use Rattle.query_facts.proofs.columns.all_columns.Given as goal

abbrev pub invariant-loop-one : goal.invariant-loop-one
invariant-loop-one l = record {
  made : fold (λ streams one. with_origins streams one.op) l.streams (drop l.one-index l.one-items)
      ≡ fold (λ streams one. with_origins streams one.op) (packet_origins ∷ []) l.one-items;
  few : length l.streams ≡ l.one-index + 1;
}
