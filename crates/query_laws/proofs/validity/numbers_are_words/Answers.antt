use Rattle.query_laws.proofs.Items.{numbers}
use Rattle.query_laws.proofs.validity.numbers_are_words.Goals as goal

pub returns : goal.returns
returns c = numbers
