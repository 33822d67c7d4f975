use Rattle.query_laws.proofs.{ExprSound.word_sound, ExprComplete.word_complete}
use Rattle.query_laws.proofs.typing.words_agree.Goals as goal

pub returns : goal.returns
returns c = λ columns hidden e tree. (λ h. word_complete hidden h, λ h. word_sound hidden h)
