-- No name before this group is the one asked for, and a name found is among those of the groups.
use Rattle.std.{proofs.Common.{◌≡◌, ◌<◌, true, false, length, arith, below_more}, specs.Str.bytes_eq}
use Rattle.plan_file.{specs.Groups.names_of, proofs.NameFacts.{found_at, other_at, not_among, count_names, named_at}}
use Rattle.plan_file.proofs.group_lines.has_group.Goals as goal

pub returns-then-is_text-clause-yes : goal.returns-then-is_text-clause-yes
returns-then-is_text-clause-yes c _ =
    let names = names_of c.args.groups.now in
    let lt : c.loop-one.one-index < length (names_of c.args.groups.now) =
    omega (arith, count_names c.args.groups.now, c.loop-one-test.true) in
    let test : bytes_eq c.one-item.result.group.name c.args.name.now ≡ true =
    cc (c.is_text.ensures, c.as_slice.ensures, c.if-is_text.true) in
    found_at names c.args.name.now c.one-item.result.group.name c.loop-one.one-index lt
    (named_at c.args.groups.now c.one-item.result c.loop-one.one-index c.loop-one-test.true c.one-item.is) test

pub loop-one-preserved : goal.loop-one-preserved
loop-one-preserved c =
    let names = names_of c.args.groups.now in
    let lt : c.loop-one.one-index < length (names_of c.args.groups.now) =
    omega (arith, count_names c.args.groups.now, c.loop-one-test.true) in
    let test : bytes_eq c.one-item.result.group.name c.args.name.now ≡ false =
    cc (c.is_text.ensures, c.as_slice.ensures, c.if-is_text.false) in
    below_more _ _ c.loop-one.invariant (other_at names c.args.name.now c.one-item.result.group.name c.loop-one.one-index lt
    (named_at c.args.groups.now c.one-item.result c.loop-one.one-index c.loop-one-test.true c.one-item.is) test)

pub returns-clause-no : goal.returns-clause-no
returns-clause-no c _ = not_among (names_of c.args.groups.now) c.args.name.now (λ k lt. c.loop-one.invariant k
    (omega (arith, lt, count_names c.args.groups.now, c.loop-one-test.false)))
