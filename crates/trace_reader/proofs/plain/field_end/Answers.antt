use Rattle.std.{specs.Prelude.{◌==◌}, proofs.{Common.{◌≡◌, arith, false, get_or}, lemmas.Bool.Decides.nat_tests}}
use Rattle.trace_reader.proofs.PlainFacts.{field_ends}
use Rattle.trace_reader.proofs.plain.field_end.Goals as goal

pub returns : goal.returns
returns c =
    let text = c.args.text.now in
    let unquoted : (get_or text c.args.start 0 == 34) ≡ false = grind (arith, nat_tests) in
    field_ends text c.args.start c.end_from.result unquoted c.end_from.ensures
