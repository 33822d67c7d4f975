-- A new store has no entries, the pipe's are those of the closed epochs that wait, and the cache's those of the open ones.
use Rattle.std.proofs.Common.{◌≡◌, ◌+◌, [], drop, refl, sym, ap, ap₂, arith, ◌∙◌, subst}
use Rattle.switch_core.specs.Lanes.{CacheStands, FrontStands, RecordsStand}
use Rattle.live_view.specs.Waiting.{EntriesStand, unmerged}
use Rattle.live_view.proofs.waiting.waiting_entries.Goals as goal

pub returns-clause-held : goal.returns-clause-held
returns-clause-held g c m front =
    let lane = c.args.lane.now in
    let stands = g.K.EpochKind.stands c.kind-kind.result.now in
    let first = c.new-store.result in
    let records = c.pipe.result.now.records in
    let waiting = drop m.merged m.closed in
    let same : FrontStands stands lane.cache lane.pipe m =
    subst (λ k. FrontStands (g.K.EpochKind.stands k) lane.cache lane.pipe m) (sym c.kind-kind.ensures) front in
    let none : EntriesStand stands first [] =
    subst (λ store. EntriesStand stands store []) (sym c.new-store.ensures) (record { count = λ key. refl; rows = λ key. tt }) in
    let key_words : first.key_words ≡ lane.cache.key_words = ap (λ store. store.key_words) c.new-store.ensures ∙ c.requires.key_words in
    let piped : RecordsStand stands first.key_words records waiting = subst (λ n. RecordsStand stands n records waiting) (sym key_words)
    (subst (λ pipe. RecordsStand stands lane.cache.key_words pipe.records waiting) (sym c.pipe.ensures) same.piped) in
    let cached : CacheStands stands c.cache.result.now m = subst (λ cache. CacheStands stands cache m) (sym c.cache.ensures) same.cached in
    let kept : EntriesStand stands c.keep_pipe.new.store waiting = c.in_ok-keep_pipe.ensures.held waiting [] piped none in
    subst (λ k. EntriesStand (g.K.EpochKind.stands k) c.keep_cache.new.store (unmerged m)) c.kind-kind.ensures
    (c.in_ok-keep_cache.ensures.held m waiting cached kept)

pub keep_pipe-requires-clause-entry : goal.keep_pipe-requires-clause-entry
keep_pipe-requires-clause-entry g c = ap (λ store. store.state_words) c.new-store.ensures ∙ c.entry_words-2.ensures

pub keep_pipe-requires-clause-records : goal.keep_pipe-requires-clause-records
keep_pipe-requires-clause-records g c = ap (λ pipe. pipe.record_words) c.pipe.ensures ∙ c.invariant.ensures.front.record_words
    ∙ ap₂ (λ keys entries. keys + entries) (sym (ap (λ store. store.key_words) c.new-store.ensures ∙ c.requires.key_words))
    (c.invariant.ensures.front.entry ∙ sym (ap (λ kind. (g.K.EpochKind.sizes kind).entry) c.kind-kind.ensures))

pub keep_pipe-requires-clause-room : goal.keep_pipe-requires-clause-room
keep_pipe-requires-clause-room g c = c.deref_mut.ensures.len ∙ c.in_ok-room.ensures.len ∙ sym (ap (λ pipe. pipe.record_words) c.pipe.ensures
    ∙ c.invariant.ensures.front.record_words ∙ ap₂ (λ keys entries. keys + entries) (sym c.requires.key_words)
    (c.invariant.ensures.front.entry ∙ sym (c.entry_words.ensures ∙ ap (λ kind. (g.K.EpochKind.sizes kind).entry) c.kind-kind.ensures)))

pub keep_cache-requires : goal.keep_cache-requires
keep_cache-requires g c = (
  omega arith,
  (
    ap (λ cache. cache.key_words) c.cache.ensures ∙ sym (c.in_ok-keep_pipe.ensures.key_words
        ∙ ap (λ store. store.key_words) c.new-store.ensures ∙ c.requires.key_words),
    ap (λ cache. cache.entry_words) c.cache.ensures ∙ c.invariant.ensures.front.entry ∙ sym (c.in_ok-keep_pipe.ensures.state_words
        ∙ ap (λ store. store.state_words) c.new-store.ensures ∙ c.entry_words-2.ensures
        ∙ ap (λ kind. (g.K.EpochKind.sizes kind).entry) c.kind-kind.ensures),
  ),
)

pub returns-clause-key_words : goal.returns-clause-key_words
returns-clause-key_words g c = c.in_ok-keep_cache.ensures.key_words ∙ c.in_ok-keep_pipe.ensures.key_words
    ∙ ap (λ store. store.key_words) c.new-store.ensures

pub returns-clause-state_words : goal.returns-clause-state_words
returns-clause-state_words g c = c.in_ok-keep_cache.ensures.state_words ∙ c.in_ok-keep_pipe.ensures.state_words
    ∙ ap (λ store. store.state_words) c.new-store.ensures ∙ c.entry_words-2.ensures
    ∙ ap (λ kind. (g.K.EpochKind.sizes kind).entry) c.kind-kind.ensures
