use Rattle.query_laws.proofs.{ExprSound.condition_sound, ExprComplete.condition_complete}
use Rattle.query_laws.proofs.typing.conditions_agree.Goals as goal

pub returns : goal.returns
returns c = λ columns hidden e tree. (λ h. condition_complete hidden h, λ h. condition_sound hidden h)
