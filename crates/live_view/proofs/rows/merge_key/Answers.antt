-- The rows of the key are those from the place on to the first of another key.
use Rattle.std.proofs.{Common.{◌≡◌, ◌+◌, ◌-◌, length, sym, ◌∙◌, arith}, lemmas.Bool.true≢false}
use Rattle.backing_store.specs.Store.{states_of}
use Rattle.table_rows.specs.LentRows.{row_of}
use Rattle.table_rows.proofs.LentFacts.{holds_at}
use Rattle.live_view.proofs.RowFacts.{goes_on, there_within, row_passed, list_merged, ends_apart, ends_past, left_after, all_merged}
use Rattle.live_view.proofs.RowFacts.{tells_same, tells_apart}
use Rattle.live_view.proofs.rows.merge_key.Goals as goal

pub returns-then-ne-clause-left : goal.returns-then-ne-clause-left
returns-then-ne-clause-left g c store keys left =
    let row = row_of c.get-entry.result in
    let are = c.loop-next.invariant.passed store keys left in
    left_after store c.args.key.now keys c.args.entries.now c.args.from c.loop-next.next c.loop-next.invariant.after left are
    (ends_apart store c.args.key.now keys c.args.entries.now c.loop-next.next (c.loop-next.next - c.args.from) row
    c.get-entry.ensures (tells_apart row.key c.args.key.now c.ne.result c.ne.ensures c.if-ne.true) are)

pub returns-then-ne-clause-state : goal.returns-then-ne-clause-state
returns-then-ne-clause-state g c store keys lists left each =
    let f = g.K.EpochKind.folding c.args.kind.now in
    let row = row_of c.get-entry.result in
    let are = c.loop-next.invariant.passed store keys left in
    all_merged (g.K.EpochKind.stands c.args.kind.now) f.step c.args.state.now c.loop-next.state (states_of store c.args.key.now) lists
    (c.loop-next.next - c.args.from) each
    (ends_apart store c.args.key.now keys c.args.entries.now c.loop-next.next (c.loop-next.next - c.args.from) row
    c.get-entry.ensures (tells_apart row.key c.args.key.now c.ne.result c.ne.ensures c.if-ne.true) are)
    (c.loop-next.invariant.merged store keys lists left each)

pub merge-requires-clause-entry : goal.merge-requires-clause-entry
merge-requires-clause-entry g c =
    holds_at (λ row. length row.values ≡ (g.K.EpochKind.sizes c.args.kind.now).entry) c.args.entries.now c.loop-next.next
    (row_of c.get-entry.result) c.requires.entries c.get-entry.ensures

pub loop-next-preserved : goal.loop-next-preserved
loop-next-preserved g c =
    let f = g.K.EpochKind.folding c.args.kind.now in
    let key = c.args.key.now in
    let entries = c.args.entries.now in
    let entry = c.get-entry.result in
    let before = c.loop-next.invariant in
    let same = tells_same entry.key.now key c.ne.result c.ne.ensures c.if-ne.false in
    record {
      after = omega arith;
      within = omega arith;
      passed = λ store keys left. (row_passed store key keys entries c.args.from c.loop-next.next (row_of entry) before.after
          c.get-entry.ensures same (before.passed store keys left)).1;
      merged = λ store keys lists left each.
          let here = (row_passed store key keys entries c.args.from c.loop-next.next (row_of entry) before.after
          c.get-entry.ensures same (before.passed store keys left)).0 in
          let after = before.after in
          list_merged (g.K.EpochKind.stands c.args.kind.now) f.step c.args.state.now c.loop-next.state c.merge.new.state entry.values.now
          (states_of store key) lists (c.loop-next.next - c.args.from) (c.loop-next.next + 1 - c.args.from) each here
          (λ rows stands. c.merge.ensures.merged rows stands (λ yes. absurd (true≢false (sym yes ∙ c.requires.per_key))))
          (before.merged store keys lists left each) (omega arith);
      words = c.merge.auto.state ∙ before.words;
      scratch = c.merge.auto.scratch ∙ before.scratch;
      steps = let a = c.merge.ensures.steps in let b = before.steps in omega arith;
    }

pub returns-clause-left : goal.returns-clause-left
returns-clause-left g c store keys left =
    let are = c.loop-next.invariant.passed store keys left in
    left_after store c.args.key.now keys c.args.entries.now c.args.from c.loop-next.next c.loop-next.invariant.after left are
    (ends_past store c.args.key.now keys c.args.entries.now c.loop-next.next (c.loop-next.next - c.args.from)
    (omega arith) are)

pub returns-clause-state : goal.returns-clause-state
returns-clause-state g c store keys lists left each =
    let f = g.K.EpochKind.folding c.args.kind.now in
    let are = c.loop-next.invariant.passed store keys left in
    all_merged (g.K.EpochKind.stands c.args.kind.now) f.step c.args.state.now c.loop-next.state (states_of store c.args.key.now) lists
    (c.loop-next.next - c.args.from) each
    (ends_past store c.args.key.now keys c.args.entries.now c.loop-next.next (c.loop-next.next - c.args.from) (omega arith) are)
    (c.loop-next.invariant.merged store keys lists left each)

pub returns-then-ne-clause-forward : goal.returns-then-ne-clause-forward
returns-then-ne-clause-forward g c is =
    let row = row_of c.get-entry.result in
    goes_on c.args.entries.now c.args.from c.loop-next.next c.args.key.now row c.loop-next.invariant.after is c.get-entry.ensures
    (tells_apart row.key c.args.key.now c.ne.result c.ne.ensures c.if-ne.true)

pub returns-clause-forward : goal.returns-clause-forward
returns-clause-forward g c is =
    omega (arith, there_within c.args.entries.now c.args.from c.args.key.now is, c.loop-next-test.false, c.len.ensures)
