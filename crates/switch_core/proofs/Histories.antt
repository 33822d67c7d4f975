-- Lists of events that a lane makes.
use Rattle.std.proofs.Common.{ℕ, [], ◌∷◌}
use Rattle.epoch_model.specs.{Machine.step, Tables.Folding}
use Rattle.switch_core.specs.{Lanes.{Standing, geometry}, LaneEvents.EventsAreFollowed}

pub followed : (means : Standing) (f : Folding) (ways : ℕ) → EventsAreFollowed means f ways
followed means f ways [] old new m s e = rw e s
followed means f ways (event ∷ events) old new m s made =
    let middle = made.0 in
    let n = step (geometry ways old.cache) m event in
    let rest = followed _ f _ events middle new n (made.1.stands m s) made.2 in
    rw made.1.buckets at rest
