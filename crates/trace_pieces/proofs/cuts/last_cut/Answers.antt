use Rattle.std.{proofs.Common.{◌≡◌, false, rules}, specs.Prelude.is_some}
use Rattle.trace_pieces.proofs.CutFacts.{cut_found, no_quote}
use Rattle.trace_pieces.proofs.cuts.last_cut.Goals as goal

pub returns-in-Some : goal.returns-in-Some
returns-in-Some c =
    let text = c.args.text.now in
    let none : is_some c.memchr.result ≡ false = search rules in
    cut_found text c.in-Some.at (no_quote text c.memchr.result none c.memchr.ensures) c.in-Some.ensures
