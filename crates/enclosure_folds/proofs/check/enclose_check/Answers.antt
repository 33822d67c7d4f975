-- No groupby so far has a fold without bounds, and the class in the plan tells it of the next.
use Rattle.std.proofs.Common.{◌+◌, ap, sym, ◌∙◌, drop}
use Rattle.query_lang.specs.Streams.{takings}
use Rattle.enclosure_folds.{specs.Check.{first_fault, or_else}, proofs.CheckFacts.{is_groupby, other_groups, other_fault, not_some}}
use Rattle.enclosure_folds.proofs.check.enclose_check.Goals as goal
use Rattle.enclosure_folds.proofs.check.enclose_check.Goals.{in-Some+else-is_some, in_default}

pub fold_fault-fault-requires-clause-class : goal.fold_fault-fault-requires-clause-class
fold_fault-fault-requires-clause-class c = λ f found.
    (is_groupby _ _ c.requires.plan _ _ _
    c.loop-one-test.true c.one-item.is _ c.loop-one.invariant.groups
    _ (sym c.in-Some.is ∙ c.fold_number.ensures)).class f c.group.result.now found c.group.ensures

pub loop-one-preserved : goal.loop-one-preserved
loop-one-preserved c = elim c.match-fold_number.branch [
  | in-Some+else-is_some w ↦
      let q = c.args.q.now in
      let rest = drop (c.loop-one.one-index + 1) c.as_slice-one-items.result.now in
      let at = is_groupby q _ c.requires.plan _ _ _
      c.loop-one-test.true c.one-item.is _ c.loop-one.invariant.groups
      _ (sym w.in-Some.is ∙ c.fold_number.ensures) in
      let none = not_some _ (sym w.is_some.ensures ∙ w.if-is_some.false) in record {
        fault = sym (at.fault ∙ ap (λ o. or_else o (first_fault q.folds rest)) (sym w.fold_fault-fault.ensures ∙ none))
            ∙ c.loop-one.invariant.fault;
        groups = ap (λ n. drop n (takings q.streams)) w.group-is ∙ at.groups;
      }
  | in_default w ↦
      let q = c.args.q.now in
      let none = sym w.in_default.is ∙ c.fold_number.ensures in record {
        fault = sym (other_fault q c.args.p.now c.requires.plan _ _ _
            c.loop-one-test.true c.one-item.is c.loop-one.group c.loop-one.invariant.groups none) ∙ c.loop-one.invariant.fault;
        groups = ap (λ n. drop n (takings q.streams)) w.group-is ∙ other_groups q c.args.p.now c.requires.plan
            _ _ _ c.loop-one-test.true c.one-item.is _
            c.loop-one.invariant.groups none;
      }
]
