-- Entries are kept from a bucket's last way to its first, so those of its open epochs stand in reverse, and empty ways add none.
use Rattle.std.proofs.Common.{◌≡◌, ◌+◌, ◌-◌, ◌∷◌, ◌++◌, length, drop, reverse, refl, sym, ap, ◌∙◌, subst, arith, lit<, append-nil}
use Rattle.std.proofs.lemmas.List.{drop_all}
use Rattle.bucket_cache.specs.Caches.{list_at, entry_at}
use Rattle.live_view.specs.Waiting.{EntriesStand}
use Rattle.switch_core.specs.Lanes.{PairStands}
use Rattle.live_view.proofs.Standing.{pairs_long, pair_before, none_after, place_is_there, one_before}
use Rattle.live_view.proofs.waiting.keep_bucket.Goals as goal

pub loop-i-init : goal.loop-i-init
loop-i-init g c =
    let stands = g.K.EpochKind.stands c.args.kind.now in
    let cache = c.args.cache.now in
    record {
      held = λ opened epochs stand holds.
          let few = c.requires.sound.few c.args.bucket in
          let long = pairs_long (PairStands stands cache) (list_at cache c.args.bucket) opened stand in
          subst (EntriesStand stands c.args.store.now) (sym (ap (λ es. epochs ++ reverse es) (drop_all g.row.WAYS opened (omega arith))
          ∙ append-nil epochs)) holds;
      key_words = refl;
      state_words = refl;
    }

pub key-requires : goal.key-requires
key-requires g c =
    let cache = c.args.cache.now in (
      lit< tt,
      place_is_there (list_at cache c.args.bucket) (length cache.entries) (c.loop-i.i - 1) c.in-Some.place
          (c.requires.sound.within c.args.bucket) (sym c.in-Some.ensures),
    )

pub entry-requires : goal.entry-requires
entry-requires g c =
    let cache = c.args.cache.now in (
      lit< tt,
      place_is_there (list_at cache c.args.bucket) (length cache.entries) (c.loop-i.i - 1) c.in-Some.place
          (c.requires.sound.within c.args.bucket) (sym c.in-Some.ensures),
    )

pub loop-i-preserved : goal.loop-i-preserved
loop-i-preserved g c =
    let stands = g.K.EpochKind.stands c.args.kind.now in
    let cache = c.args.cache.now in
    let pairs = list_at cache c.args.bucket in
    let i = c.loop-i.i in
    let back : (i - 1) + 1 ≡ i = omega arith in
    record {
      held = λ opened epochs stand holds.
          let found = pair_before (PairStands stands cache) pairs opened (i - 1) c.in-Some.place stand (sym c.in-Some.ensures) in
          let e = found.1 in
          let key = c.key.ensures.key c.args.bucket (i - 1) found.0 found.2 found.3 ∙ found.4.0 in
          let stood : stands c.entry.result.now e.rows = subst (λ ws. stands ws e.rows)
          (sym (c.entry.ensures.words ∙ ap (entry_at cache) (sym found.3))) found.4.1 in
          let merged = c.in_ok-keep_entry.ensures.held e.rows (epochs ++ reverse (drop i opened)) stood
          (c.loop-i.invariant.held opened epochs stand holds) in
          subst (EntriesStand stands c.keep_entry.new.store) (one_before epochs opened i (i - 1) e c.key.result.now key
          (found.5 ∙ ap (λ n. e ∷ drop n opened) back)) merged;
      key_words = c.keep_entry.ensures.key_words ∙ c.loop-i.invariant.key_words;
      state_words = c.keep_entry.ensures.state_words ∙ c.loop-i.invariant.state_words;
    }

pub loop-i-preserved-in_default : goal.loop-i-preserved-in_default
loop-i-preserved-in_default g c =
    let stands = g.K.EpochKind.stands c.args.kind.now in
    let cache = c.args.cache.now in
    let i = c.loop-i.i in
    record {
      held = λ opened epochs stand holds.
          let none = none_after (PairStands stands cache) (list_at cache c.args.bucket) opened (i - 1) stand (sym c.in_default.ensures) in
          let here : drop i opened ≡ drop (i - 1) opened = drop_all i opened (omega arith) ∙ sym (drop_all (i - 1) opened none) in
          subst (λ es. EntriesStand stands c.loop-i.store (epochs ++ reverse es)) here (c.loop-i.invariant.held opened epochs stand holds);
      key_words = c.loop-i.invariant.key_words;
      state_words = c.loop-i.invariant.state_words;
    }

pub returns-clause-held : goal.returns-clause-held
returns-clause-held g c opened epochs stand holds =
    let stands = g.K.EpochKind.stands c.args.kind.now in
    let end : c.loop-i.i ≡ 0 = omega arith in
    subst (λ n. EntriesStand stands c.loop-i.store (epochs ++ reverse (drop n opened))) end
    (c.loop-i.invariant.held opened epochs stand holds)
