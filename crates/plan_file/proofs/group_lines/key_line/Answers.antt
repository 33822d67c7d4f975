-- A line `key` is valid only where its name is new in the group, which then has one key more.
use Rattle.std.proofs.Common.{◌++◌, ◌∷◌, [], ◌∙◌, ap, arith, rules}
use Rattle.plan_file.proofs.GroupFacts.{key_added, no_items, no_key_line}
use Rattle.plan_file.proofs.group_lines.key_line.Goals as goal

pub returns-in_default : goal.returns-in_default
returns-in_default c after is = c.in_default.ensures is.name is.value is.valid

pub returns-then-not-is_new_in : goal.returns-then-not-is_new_in
returns-then-not-is_new_in c after is =
    no_key_line c.args.fields.now c.args.ops.now c.args.group.now c.args.line.now c.in-Some.name.now c.in-Some.value after
    c.in-Some.ensures (c.is_new_in.ensures.no c.if-not-is_new_in.true) is

pub returns : goal.returns
returns c = record {
  args = no_items c.args.group.now.args c.is_empty.result c.is_empty.ensures c.if-not-is_empty.false;
  states = no_items c.args.group.now.state_names c.is_empty-else-not-is_empty.result c.is_empty-else-not-is_empty.ensures
      c.if-not-is_empty-2.false;
  body = search rules;
  room = omega (arith, c.if-len-ge-MAX_KEYS.false, c.len.ensures);
  name = c.in-Some.name.now;
  value = c.in-Some.value;
  valid = c.in-Some.ensures;
  new = c.is_new_in.ensures.yes c.if-not-is_new_in.false;
  made = key_added c.args.group.now c.in-Some.name.now c.in-Some.value c.push.new.self c.push-2.new.self
      (c.in_ok-push.ensures.ok ∙ ap (λ name. c.args.group.now.key_names ++ name ∷ []) c.in_ok-from_slice.ensures) c.in_ok-push-2.ensures.ok;
}
