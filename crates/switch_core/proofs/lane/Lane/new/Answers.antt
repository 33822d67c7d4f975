-- A lane's front and store are empty, and lacking memory there is no lane.
use Rattle.std.proofs.Common.{rules, ap, sym, ◌∙◌}
use Rattle.epoch_model.proofs.Endings.{no_value}
use Rattle.switch_core.{specs.FrontParts.AreSizes, proofs.LaneSteps.store_empty}
use Rattle.switch_core.proofs.lane.Lane.new.Goals as goal

pub returns : goal.returns
returns g c =
    let front = c.in_ok-front.ensures in record {
      stands = record {
        front = front.stands;
        kept = store_empty _ _ (ap (λ s. s.keys) c.new-store.ensures)
            (ap (λ s. s.rows) c.new-store.ensures);
      };
      kind = front.kind;
      buckets = front.buckets;
      places = front.places;
      key = front.key;
    }

pub returns-in_err-front : goal.returns-in_err-front
returns-in_err-front g c =
    let r = c.from_residual.result in
    let e = c.from_residual.ensures.0 in
    record { stands = no_value r _ e; kind = no_value r _ e; buckets = no_value r _ e; places = no_value r _ e; key = no_value r _ e }

pub invariant_of-result : goal.invariant_of-result
invariant_of-result g c =
    let front = c.in_ok-front.ensures in record {
      key = ap (λ s. s.key_words) c.new-store.ensures ∙ sym front.key;
      state = ap (λ s. s.state_words) c.new-store.ensures
          ∙ (c.state_words.ensures ∙ ap (λ k. (g.K.EpochKind.sizes k).state) (sym front.kind));
    }

pub new-requires : goal.new-requires
new-requires g c =
    let r = c.requires in
    let sizes : AreSizes g.row.WAYS c.args.buckets c.args.pipe_records = record {
      some_ways = r.ways;
      some_buckets = r.buckets;
      places = r.places;
      some_records = r.pipe.0;
      most_records = r.pipe.1;
    } in
    (search rules, (sizes, (r.key, r.entry)))
