use Rattle.query_laws.proofs.QueryLaws.{query_sound, query_complete}
use Rattle.query_laws.proofs.typing.queries_agree.Goals as goal

pub returns : goal.returns
returns c = λ q t. (λ h. query_complete h, λ h. query_sound q t h)
