-- A number is at most how many names there are.
use Rattle.std.proofs.Common.{length, ap, ◌∙◌, arith}
use Rattle.query_lang.{specs.Names.{number_in, texts_of}, proofs.NameFacts.number_most}
use Rattle.query_lang.proofs.names.Names.find.Goals as goal

pub overflow_cast-result : goal.overflow_cast-result
overflow_cast-result c = omega (
  arith,
  c.requires,
  c.place_of.ensures ∙ ap (λ vectors. number_in (texts_of vectors) c.args.text.now) c.as_slice.ensures.value,
  number_most (texts_of c.self.inside.texts.items) c.args.text.now,
  ap length c.self.view_is,
)
