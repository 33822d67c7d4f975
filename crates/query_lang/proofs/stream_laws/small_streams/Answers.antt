use Rattle.query_lang.proofs.StreamFacts.{filter_example, map_example, zip_example, group_example}
use Rattle.query_lang.proofs.stream_laws.small_streams.Goals as goal

pub returns : goal.returns
returns c = record { filter = filter_example; map = map_example; zip = zip_example; group = group_example }
