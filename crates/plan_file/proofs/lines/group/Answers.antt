-- A line `group` is valid only between groups, after the fields and before any print, where it has a group to open.
use Rattle.std.proofs.Common.{◌≡◌, refl, subst, rules}
use Rattle.plan_file.specs.Groups.{IsGroupLine}
use Rattle.plan_file.proofs.lines.group.Goals as goal

pub returns-in-Some-found : goal.returns-in-Some-found
returns-in-Some-found c =
    let v = rw c.in-Some-found.is at c.in_ok-found-in-Some.ensures in
    record {
      fields = c.in-Some.fields;
      reads = search rules;
      current = search rules;
      prints = search rules;
      group = c.in-Some-found.group;
      valid = rw (c.as_slice.ensures, c.as_slice-in-Some.ensures, c.as_slice-in-Some-2.ensures) at v;
      made = refl;
    }

pub returns-in-None-found : goal.returns-in-None-found
returns-in-None-found c after is =
    let none = rw (c.as_slice.ensures, c.as_slice-in-Some.ensures, c.as_slice-in-Some-2.ensures) at
    (rw c.in-None-found.is at c.in_ok-found-in-Some.ensures) in
    let same : is.fields ≡ c.in-Some.fields = cc in
    none is.group (subst (λ f. IsGroupLine f c.args.made.now.ops c.args.made.now.groups c.args.line.now is.group) same is.valid)
