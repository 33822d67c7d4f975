-- The row of the least key that is left is pushed: its entries, one for each of its list of rows, are merged into its state before.
use Rattle.std.proofs.Common.{◌≡◌, ◌+◌, ◌++◌, ◌∷◌, ◌∙◌, ap, arith, drop, flat_map, fold, length, refl, subst, sym}
use Rattle.epoch_model.specs.{Machine.lists_of, Tables.{epochs_shown, folded}}
use Rattle.backing_store.specs.Store.{states_of}
use Rattle.live_view.specs.{Seen.AreLeft, Waiting.EachStands}
use Rattle.live_view.proofs.NextRow.{above_both, each_long, key_first, least_first, only_row, seen_more}
use Rattle.live_view.proofs.rows.push_merged.Goals as goal

pub returns-clause-seen : goal.returns-clause-seen
returns-clause-seen g c closed unmerged store key mains keys stand left counted before above seen =
    let f = g.K.EpochKind.folding c.args.kind.now in
    let stands = g.K.EpochKind.stands c.args.kind.now in
    let lists = lists_of key unmerged in
    let is = key_first store key c.key-key.result.now keys c.args.entries.now c.args.from left c.key-key.ensures in
    let there = subst (λ k. AreLeft store (k ∷ keys) (drop c.args.from c.args.entries.now)) (sym is) left in
    let each = subst (λ k. EachStands stands (states_of store k) lists) (sym is) (stand.rows key) in
    let passed = c.merge_key-next.ensures.left store keys there in
    let long = each_long stands (states_of store key) lists (stand.rows key) in
    let merged = c.merge_key-next.ensures.state store keys lists there each in
    let many : c.saturating_add.result ≡ epochs_shown (epochs_shown (length (lists_of key closed)) + length lists) =
    omega (arith, c.saturating_add.ensures, passed.1, ap (λ k. length (states_of store k)) is, long, counted) in
    let values : c.merge_key-next.new.state ≡ fold f.step (folded f (flat_map (λ rows. rows) (lists_of key closed)))
    (flat_map (λ rows. rows) lists) =
    merged ∙ ap (λ s. fold f.step s (flat_map (λ rows. rows) lists)) (c.copy_from_slice.ensures.after ∙ before) in
    rw (c.in_ok-push_row.ensures.rows, is, c.next_at.ensures.at) (
      seen_more f (closed ++ unmerged) (key ∷ mains ++ keys) (mains ++ keys) key _ c.args.shown.now.rows c.args.shown.now.epochs
          c.push_row.new.shown.epochs seen
          (least_first key (key ∷ mains ++ keys) (mains ++ keys) (λ other. refl) (above_both key mains keys above left.up.0))
          (only_row f closed unmerged key c.saturating_add.result c.merge_key-next.new.state c.requires.per_key many values)
          c.in_ok-push_row.ensures.epochs,
      passed.0,
    )
