-- A part that is put at a place is read there, and the parts at other places stay, since three words hold each.
use Rattle.std.proofs.Common.{ap, ◌∙◌, refl}
use Rattle.coeff_algebra.proofs.PlaceLemmas.{same_words, other_words}
use Rattle.fold_class.specs.Stored.{part_of}
use Rattle.fold_class.proofs.column.store_part.Goals as goal

pub returns-clause-here : goal.returns-clause-here
returns-clause-here g c =
    let m = g.C.Coeff in
    ap (part_of m.from_words m.WORDS) (same_words 3 3 3 c.args.place c.args.words.now c.put_part.new.to refl refl c.requires
    c.put_part.ensures.length) ∙ c.put_part.ensures.part

pub returns-clause-others : goal.returns-clause-others
returns-clause-others g c other ne =
    let m = g.C.Coeff in
    ap (part_of m.from_words m.WORDS) (other_words 3 3 3 c.args.place c.args.words.now c.put_part.new.to refl refl c.requires
    c.put_part.ensures.length other ne)
