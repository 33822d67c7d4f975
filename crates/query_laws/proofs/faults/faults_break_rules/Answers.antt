-- A fault of any kind but that nothing is printed is at some item, and that one is at the end.
use Rattle.query_laws.proofs.QueryFaults.{at_some_item, at_end, only_these}
use Rattle.query_laws.proofs.faults.faults_break_rules.Goals as goal

pub returns : goal.returns
returns c = record {
  unknown_name = λ q at e. at_some_item (λ k. cc k) e;
  state_on_line = λ q at e. at_some_item (λ k. cc k) e;
  name_taken = λ q at e. at_some_item (λ k. cc k) e;
  wrong_kind = λ q at e. at_some_item (λ k. cc k) e;
  wrong_arity = λ q at e. at_some_item (λ k. cc k) e;
  bad_constant = λ q at e. at_some_item (λ k. cc k) e;
  over_limit = λ limit q at e. at_some_item (λ k. cc k) e;
  nothing_printed = λ q at e. at_end e;
  no_other = λ q fault e. only_these q e;
}
