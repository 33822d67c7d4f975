-- A text of fewer than three bytes has no mark, and three that are one are what is cut off.
use Rattle.std.proofs.Common.{◌≡◌, false, get_or, rules, true}
use Rattle.csv.specs.Reading.{is_bom}
use Rattle.trace_reader.proofs.MarkFacts.{mark_goes, no_mark, short_stays}
use Rattle.trace_reader.proofs.plain.after_mark.Goals as goal

pub returns-then-text-lt3-clause-rest : goal.returns-then-text-lt3-clause-rest
returns-then-text-lt3-clause-rest c = short_stays c.args.text.now c.if-text-lt3.true

pub returns-then-is_mark-clause-rest : goal.returns-then-is_mark-clause-rest
returns-then-is_mark-clause-rest c =
    let text = c.args.text.now in
    let is : is_bom (get_or text 0 0) (get_or text 1 0) (get_or text 2 0) ≡ true = search rules in
    mark_goes text c.if-text-lt3.false is

pub returns-else-is_mark-clause-rest : goal.returns-else-is_mark-clause-rest
returns-else-is_mark-clause-rest c =
    let text = c.args.text.now in
    let is : is_bom (get_or text 0 0) (get_or text 1 0) (get_or text 2 0) ≡ false = search rules in
    no_mark text c.if-text-lt3.false is
