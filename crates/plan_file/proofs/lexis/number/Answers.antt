-- Each byte of a text of digits is a digit.
use Rattle.std.{proofs.Common.{◌≡◌, true}, specs.List.list_all}
use Rattle.query_lang.specs.Lexis.{is_digit}
use Rattle.plan_file.proofs.LexisFacts.{one_of_all}
use Rattle.plan_file.proofs.lexis.number.Goals as goal

pub number_of-requires : goal.number_of-requires
number_of-requires c =
    let all : list_all is_digit c.args.text.now ≡ true = cc in
    λ k within. one_of_all is_digit c.args.text.now k all within
