-- A line `state` is valid only where its name is new in the group, which then has one state variable more.
use Rattle.std.proofs.Common.{◌++◌, ◌∷◌, [], ◌∙◌, ap, arith, rules}
use Rattle.plan_file.proofs.GroupFacts.{no_state_line, some_items, state_added}
use Rattle.plan_file.proofs.group_lines.state_line.Goals as goal

pub returns-in_default : goal.returns-in_default
returns-in_default c after is = c.in_default.ensures is.name is.value is.valid

pub returns-then-not-is_new_in : goal.returns-then-not-is_new_in
returns-then-not-is_new_in c after is =
    no_state_line c.args.group.now c.args.line.now c.in-Some.name.now c.in-Some.value after c.in-Some.ensures
    (c.is_new_in.ensures.no c.if-not-is_new_in.true) is

pub returns : goal.returns
returns c = record {
  keys = some_items c.args.group.now.keys c.is_empty.result c.is_empty.ensures c.if-is_empty.false;
  body = search rules;
  room = omega (arith, c.if-len-ge-MAX_STATES.false, c.len.ensures);
  name = c.in-Some.name.now;
  value = c.in-Some.value;
  valid = c.in-Some.ensures;
  new = c.is_new_in.ensures.yes c.if-not-is_new_in.false;
  made = state_added c.args.group.now c.in-Some.name.now c.in-Some.value c.push.new.self c.push-2.new.self
      (c.in_ok-push.ensures.ok ∙ ap (λ name. c.args.group.now.state_names ++ name ∷ []) c.in_ok-from_slice.ensures)
      c.in_ok-push-2.ensures.ok;
}
