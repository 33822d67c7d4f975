use Rattle.query_laws.proofs.{Terms.earlier_of, StreamLaws.{made_stream_sound, made_stream_complete}}
use Rattle.query_laws.proofs.typing.streams_agree.Goals as goal

pub returns : goal.returns
returns c = λ five names items name op made. (
  λ h. made_stream_complete five (earlier_of names items) name op h,
  λ h. made_stream_sound five (earlier_of names items) name op h,
)
