use Rattle.query_laws.proofs.{FinalExamples.final_examples, FoldExamples.fold_examples, ItemExamples.item_examples}
use Rattle.query_laws.proofs.TypingExamples.{expression_examples, stream_examples}
use Rattle.query_laws.proofs.acceptance.small_forms.Goals as goal

pub returns : goal.returns
returns c = record {
  expressions = expression_examples;
  streams = stream_examples;
  folds = fold_examples;
  finals = final_examples;
  items = item_examples;
}
