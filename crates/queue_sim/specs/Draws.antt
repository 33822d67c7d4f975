-- What was drawn, as the code holds it.
use Rattle.std.specs.Prelude.{◌≡◌}
use Rattle.queue_sim.specs.Generator as Generator
use Rattle.queue_sim.specs.declared.draws.Drawn.{Drawn}

pub record IsDrawn (drawn : Drawn) (meant : Generator.Drawn) : Type 0 where
  pub gap : drawn.gap ≡ meant.gap
  pub flow : drawn.flow ≡ meant.flow
  pub payload : drawn.payload ≡ meant.payload
  pub skipped : drawn.skipped ≡ meant.skipped
