use Rattle.plan_file.proofs.{LineLaws.makes_one, TextLaws.says_one}
use Rattle.plan_loader.proofs.laws.texts_say_one.Goals as goal

pub returns : goal.returns
returns c = says_one makes_one
