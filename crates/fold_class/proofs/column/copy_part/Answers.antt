-- The three words at a place are a part, so the copied part is where it was put, and those elsewhere stay.
use Rattle.std.proofs.Common.{◌*◌, ap, ◌∙◌, refl, length}
use Rattle.coeff_algebra.proofs.PlaceLemmas.{same_words, other_words}
use Rattle.fold_class.{specs.Stored.part_of, proofs.StoredLemmas.three_words}
use Rattle.fold_class.proofs.column.copy_part.Goals as goal

pub returns-clause-here : goal.returns-clause-here
returns-clause-here g c =
    let m = g.C.Coeff in
    let copied = c.put_words in
    let stored = copied.ensures ∙ three_words c.args.words.now (c.args.from * 3) c.requires.from in
    ap (part_of m.from_words m.WORDS) (same_words 3 3 3 c.args.to c.args.words.now copied.new.to refl refl c.requires.to
    (ap (λ l. length l) copied.ensures) ∙ stored)

pub returns-clause-others : goal.returns-clause-others
returns-clause-others g c other ne =
    let m = g.C.Coeff in
    let copied = c.put_words in
    ap (part_of m.from_words m.WORDS) (other_words 3 3 3 c.args.to c.args.words.now copied.new.to refl refl c.requires.to
    (ap (λ l. length l) copied.ensures) other ne)
