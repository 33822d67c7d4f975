use Rattle.plan_writer.proofs.Plans.{fold_found, few_states, number_at_place}
use Rattle.plan_writer.proofs.groups.fold_of.Goals as goal

pub get-requires : goal.get-requires
get-requires c = (fold_found c.args.q.now c.args.numbers.now c.args.i c.from.result c.requires.valid c.requires.numbers
    (number_at_place c.args.numbers.now c.args.i c.from.result _ c.requires.groupby c.from.ensures)).within

pub returns-clause-found : goal.returns-clause-found
returns-clause-found c = (fold_found c.args.q.now c.args.numbers.now c.args.i c.from.result c.requires.valid c.requires.numbers
    (number_at_place c.args.numbers.now c.args.i c.from.result _ c.requires.groupby c.from.ensures)).fold c.get.result.now c.get.ensures

pub returns-clause-states : goal.returns-clause-states
returns-clause-states c = few_states c.args.q.now.folds c.from.result c.get.result.now c.requires.valid.folds c.get.ensures
