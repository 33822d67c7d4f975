-- The sizes of a pipeline are those of its lanes, and lacking memory there is no pipeline.
use Rattle.std.proofs.Common.{lit<, refl}
use Rattle.epoch_model.proofs.Endings.{no_value}
use Rattle.switch_core.proofs.pipeline.Pipeline.new.Goals as goal

pub made_lanes-requires : goal.made_lanes-requires
made_lanes-requires g c = (
  lit< tt,
  record {
    some_ways = c.requires.ways;
    some_buckets = c.requires.buckets;
    places = c.requires.places;
    some_records = c.requires.pipe.0;
    most_records = c.requires.pipe.1;
  },
)

pub returns-in_err-lanes : goal.returns-in_err-lanes
returns-in_err-lanes g c =
    let r = c.from_residual.result in
    let e = c.from_residual.ensures.0 in
    record {
      stands = no_value r _ e;
      plan = no_value r _ e;
      entries = no_value r _ e;
      buckets = no_value r _ e;
      pipe_places = no_value r _ e;
    }

pub returns-in_err-registers : goal.returns-in_err-registers
returns-in_err-registers g c =
    let r = c.from_residual-in_err-registers.result in
    let e = c.from_residual-in_err-registers.ensures.0 in
    record {
      stands = no_value r _ e;
      plan = no_value r _ e;
      entries = no_value r _ e;
      buckets = no_value r _ e;
      pipe_places = no_value r _ e;
    }

pub returns-in_err-key : goal.returns-in_err-key
returns-in_err-key g c =
    let r = c.from_residual-in_err-key.result in
    let e = c.from_residual-in_err-key.ensures.0 in
    record {
      stands = no_value r _ e;
      plan = no_value r _ e;
      entries = no_value r _ e;
      buckets = no_value r _ e;
      pipe_places = no_value r _ e;
    }

pub returns-in_err-args : goal.returns-in_err-args
returns-in_err-args g c =
    let r = c.from_residual-in_err-args.result in
    let e = c.from_residual-in_err-args.ensures.0 in
    record {
      stands = no_value r _ e;
      plan = no_value r _ e;
      entries = no_value r _ e;
      buckets = no_value r _ e;
      pipe_places = no_value r _ e;
    }

pub returns : goal.returns
returns g c =
    let lanes = c.in_ok-lanes.ensures in
    record { stands = lanes.stands; plan = refl; entries = refl; buckets = refl; pipe_places = lanes.pipe_places }
