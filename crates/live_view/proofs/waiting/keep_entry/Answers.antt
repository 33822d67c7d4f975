use Rattle.std.proofs.Common.{[], ◌∷◌, ◌++◌, sym, subst}
use Rattle.live_view.specs.Waiting.{EntriesStand}
use Rattle.live_view.proofs.WaitingFacts.{one_entry_more}
use Rattle.live_view.proofs.waiting.keep_entry.Goals as goal

pub returns-clause-held : goal.returns-clause-held
returns-clause-held g c rows epochs stood held =
    let stands = g.K.EpochKind.stands c.args.kind.now in
    let key = c.args.key.now in
    let entry = c.args.entry.now in
    subst (λ store. EntriesStand stands store (epochs ++ record { key = key; rows = rows } ∷ [])) (sym c.in_ok-row_for.ensures.ok)
    (one_entry_more c.epochs_are_counted.ensures c.rows_are_added.ensures stands c.args.store.now key entry rows epochs c.invariant.ensures
    c.requires.key c.requires.entry stood held)
