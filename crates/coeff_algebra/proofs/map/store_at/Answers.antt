-- The words stored at a place are the element's, and those of every other place stay, since places don't overlap.
use Rattle.std.proofs.Common.{ap, ◌∙◌, length}
use Rattle.coeff_algebra.proofs.PlaceLemmas.{same_words, other_words}
use Rattle.coeff_algebra.proofs.map.store_at.Goals as goal

pub returns-clause-here : goal.returns-clause-here
returns-clause-here g c =
    same_words g.C.Coeff.WORDS c.WORDS.result c.WORDS-2.result c.args.place c.args.words.now c.store.new.to c.WORDS.ensures
    c.WORDS-2.ensures c.requires.inside
    (ap (λ l. length l) c.store.ensures ∙ g.met.C.Coeff.storage.length_words c.args.element)
    ∙ c.store.ensures

pub returns-clause-others : goal.returns-clause-others
returns-clause-others g c other ne =
    other_words g.C.Coeff.WORDS c.WORDS.result c.WORDS-2.result c.args.place c.args.words.now c.store.new.to c.WORDS.ensures
    c.WORDS-2.ensures c.requires.inside
    (ap (λ l. length l) c.store.ensures ∙ g.met.C.Coeff.storage.length_words c.args.element) other ne
