-- The places so far have their words, since ascending places differ, and the other words of the state stay.
use Rattle.std.proofs.Common.{◌<◌, length, slice_index, arith, refl}
use Rattle.epoch_entry.proofs.WritingPlaces.{next_written, others_stay}
use Rattle.epoch_entry.proofs.words.scatter.Goals as goal

pub loop-at-preserved : goal.loop-at-preserved
loop-at-preserved g c =
    let places = c.args.places.now in
    let at = c.loop-at.at in
    let state = c.loop-at.state in
    let within : at < length places = omega arith in
    let room : slice_index places at < length state = rw c.loop-at.auto.state (c.requires.inside at 0 within) in
    record {
      written = next_written _ _ at (slice_index c.args.words.now at) (λ i. slice_index c.args.words.now i)
          c.requires.ascending within room c.loop-at.invariant.written refl;
      others = others_stay _ _ _ at (slice_index c.args.words.now at) c.loop-at.invariant.others;
      steps = omega (arith, c.loop-at.invariant.steps);
    }
