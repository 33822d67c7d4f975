-- A record's words are those of a key and an entry, which is the entry of the next epoch that waits.
use Rattle.std.proofs.{Common.{◌≡◌, ◌<◌, ◌-◌, [], ◌++◌, length, take, drop, get_or, sym, ap₂, ◌∙◌, subst, arith}, lemmas.List.take_all}
use Rattle.live_view.specs.Waiting.{EntriesStand}
use Rattle.live_view.proofs.Standing.{records_long, record_next, one_after}
use Rattle.live_view.proofs.waiting.keep_pipe.Goals as goal

pub loop-i-preserved : goal.loop-i-preserved
loop-i-preserved g c =
    let stands = g.K.EpochKind.stands c.args.kind.now in
    let first = c.args.store.now in
    let records = c.args.pipe.now.records in
    let i = c.loop-i.i in
    let below : i < length records = let a = c.loop-i-test.true in let b = c.loop-i.auto.i-end in let n =
    c.len-i-end.ensures.number in omega arith in
    let room = c.nth_into.new.into in
    let words : room ≡ get_or records i [] = c.nth_into.ensures in
    let split : length room - c.entry_words.result ≡ first.key_words =
    let a = c.nth_into.auto.into in let b = c.loop-i.auto.room in let r = c.requires.room in let s = c.requires.records in let e =
    c.entry_words.ensures in omega arith in
    record {
      held = λ waiting epochs stand holds.
          let found = record_next stands first.key_words records waiting i stand below in
          let e = found.0 in
          let front : take (length room - c.entry_words.result) room ≡ take first.key_words (get_or records i []) = ap₂ take split words in
          let back : drop (length room - c.entry_words.result) room ≡ drop first.key_words (get_or records i []) = ap₂ drop split words in
          let key : c.split_at.result.0.now ≡ e.key = c.split_at.ensures.front ∙ (front ∙ found.2.0) in
          let entry : c.split_at.result.1.now ≡ drop first.key_words (get_or records i []) = c.split_at.ensures.back ∙ back in
          let stood : stands c.split_at.result.1.now e.rows = subst (λ ws. stands ws e.rows) (sym entry) found.2.1 in
          let merged = c.in_ok-keep_entry.ensures.held e.rows (epochs ++ take i waiting) stood
          (c.loop-i.invariant.held waiting epochs stand holds) in
          subst (EntriesStand stands c.keep_entry.new.store) (one_after epochs waiting i e c.split_at.result.0.now key found.1) merged;
      key_words = c.keep_entry.ensures.key_words ∙ c.loop-i.invariant.key_words;
      state_words = c.keep_entry.ensures.state_words ∙ c.loop-i.invariant.state_words;
    }

pub returns-clause-held : goal.returns-clause-held
returns-clause-held g c waiting epochs stand holds =
    let stands = g.K.EpochKind.stands c.args.kind.now in
    let long = records_long stands c.args.store.now.key_words c.args.pipe.now.records waiting stand in
    let all = let a = c.loop-i-test.false in let n = c.len-i-end.ensures.number in take_all c.loop-i.i waiting (omega arith) in
    subst (λ es. EntriesStand stands c.loop-i.store (epochs ++ es)) all (c.loop-i.invariant.held waiting epochs stand holds)
