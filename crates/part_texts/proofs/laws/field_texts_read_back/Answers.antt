use Rattle.part_texts.proofs.BackFacts.{field_texts_read_back_lem}
use Rattle.part_texts.proofs.laws.field_texts_read_back.Goals as goal

pub returns : goal.returns
returns c = field_texts_read_back_lem
