use Rattle.std.{proofs.Common.{◌≡◌, ◌++◌, ◌∷◌, [], drop}, specs.Prelude.fold}
use Rattle.stage_plan.specs.Fields.{packet_sources, sources_made}
use Rattle.stage_plan.proofs.fields.make_all_columns.Given as goal

abbrev pub invariant-loop-one : goal.invariant-loop-one
invariant-loop-one l = fold (λ streams one. streams ++ sources_made streams one.op ∷ []) l.streams (drop l.one-index l.one-items) ≡ fold
    (λ streams one. streams ++ sources_made streams one.op ∷ []) (packet_sources ∷ []) l.one-items
