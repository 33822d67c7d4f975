use Rattle.query_laws.proofs.{Terms.earlier_of, FinalLaws.{made_final_sound, made_final_complete}}
use Rattle.query_laws.proofs.typing.finals_agree.Goals as goal

pub returns : goal.returns
returns c = λ given names items op made. (
  λ h. made_final_complete given (earlier_of names items) op h,
  λ h. made_final_sound given (earlier_of names items) op h,
)
