use Rattle.std.proofs.Common.{ap, sym, ◌∙◌, arith, length, set, get_or-set_same}
use Rattle.fold_class.{specs.declared.part.Part.TheVariants.Share, proofs.StoredLemmas.share_stored}
use Rattle.fold_class.proofs.column.put_part.Goals as goal

pub returns-in-Share-clause-part : goal.returns-in-Share-clause-part
returns-in-Share-clause-part g c =
    let m = g.C.Coeff in
    let laws = g.met.C.Coeff.storage in
    share_stored m.from_words m.WORDS _ (set c.args.to.now 0 1) c.store.new.to
    (ap (λ l. length l) c.store.ensures ∙ laws.length_words c.in-Share.element) (get_or-set_same c.args.to.now 0 1 0 (omega arith))
    ∙ ap (λ z. Share z) (ap m.from_words c.store.ensures ∙ laws.load_store c.in-Share.element) ∙ sym c.in-Share.is
