-- Each turn adds the row of the least key that is left: of the store alone, of the entries alone, or of both.
use Rattle.std.proofs.Common.{◌≡◌, ◌+◌, ◌<◌, ◌≤◌, ◌++◌, [], ◌∷◌, ◌∙◌, ap, ap₂, arith, drop, length, refl, subst, sym}
use Rattle.std.proofs.lemmas.List.{drop_all, length-drop}
use Rattle.std.specs.declared.cmp.Ordering.TheVariants.{Less, Equal, Greater}
use Rattle.epoch_model.specs.Keys.{ascending}
use Rattle.backing_store.specs.StoreLaws.{keys_of}
use Rattle.live_view.specs.Seen.{AreLeft, AreSeen, IsWalk}
use Rattle.live_view.proofs.{HeldOnce.{as_many, place_held, row_words}, NextRow.only_row, RowFacts.{below, between}}
use Rattle.live_view.proofs.Walking.{both_turn, first_alone, first_less, new_turn, no_left, old_turn}
use Rattle.live_view.proofs.rows.push_all.Goals as goal
use Rattle.live_view.proofs.rows.push_all.Goals.{then-at-places, else-at-places+then-next-len}

pub push_merged-requires-in-Less-clause-from : goal.push_merged-requires-in-Less-clause-from
push_merged-requires-in-Less-clause-from g c = below c.loop-at.next.at (length c.args.entries.now)
    (λ past. let e : Greater ≡ Less = sym (c.compare.ensures.past past) ∙ c.in-Less.is in cc e)

pub push_merged-requires-in-Equal-clause-from : goal.push_merged-requires-in-Equal-clause-from
push_merged-requires-in-Equal-clause-from g c = below c.loop-at.next.at (length c.args.entries.now)
    (λ past. let e : Greater ≡ Equal = sym (c.compare.ensures.past past) ∙ c.in-Equal.is in cc e)

pub push_merged-requires-in-Equal-clause-before : goal.push_merged-requires-in-Equal-clause-before
push_merged-requires-in-Equal-clause-before g c =
    let within = (c.requires.places c.loop-at.at _ (between c.loop-at.invariant.at c.if-at-places-2.false)).within in
    ap length c.row_at-held.ensures.state ∙ row_words (length c.args.store.now.keys) c.args.store.now.state_words c.args.store.now.rows _
    c.invariant.ensures.rows within ∙ c.requires.states

pub loop-at-preserved-then-at-places-2 : goal.loop-at-preserved-then-at-places-2
loop-at-preserved-then-at-places-2 g c =
    let f = g.K.EpochKind.folding c.args.kind.now in
    let store = c.args.store.now in
    let mains = ascending (keys_of store.keys) in
    let some : 0 < length (drop c.loop-at.next.at c.args.entries.now) = elim c.if-at-places.branch [
      | then-at-places w ↦ absurd (omega (arith, w.if-at-places.true, c.if-at-places-2.true))
      | else-at-places+then-next-len w ↦ omega (arith, w.if-next-len.true, w.len.ensures, length-drop c.loop-at.next.at c.args.entries.now)
    ] in
    record {
      at = c.loop-at.invariant.at;
      next = c.in_ok-next.ensures.within.1;
      least = c.in_ok-next.ensures.least;
      walk = λ closed unmerged waiting keys holds same stand first.
          let here = c.loop-at.invariant.walk closed unmerged waiting keys holds same stand first in
          let none : drop c.loop-at.at mains ≡ [] = drop_all c.loop-at.at mains (omega (
            arith,
            as_many f store closed c.requires.per_key c.invariant.ensures holds c.args.places.now same,
            c.if-at-places-2.true,
          )) in
          let walk = subst (λ ms. IsWalk f closed unmerged waiting ms here.0 (drop c.loop-at.next.at c.args.entries.now) c.loop-at.shown.rows
          c.loop-at.shown.epochs) none here.1 in
          rw none (new_turn walk (first_alone waiting here.0 (drop c.loop-at.next.at c.args.entries.now) walk.left some)
          (λ key keys left absent above seen.
          c.in_ok-next.ensures.seen closed unmerged waiting key [] keys stand left (rw absent refl) (rw absent c.requires.initial.0) above
          (rw (c.read_rows_ahead.ensures) seen)));
      words = c.in_ok-next.ensures.words ∙ c.loop-at.invariant.words;
      scratch = c.in_ok-next.ensures.scratch ∙ c.loop-at.invariant.scratch;
      steps = omega (arith, c.in_ok-next.ensures.steps, c.loop-at.invariant.steps);
    }

pub loop-at-preserved-in-Less : goal.loop-at-preserved-in-Less
loop-at-preserved-in-Less g c =
    let f = g.K.EpochKind.folding c.args.kind.now in
    let store = c.args.store.now in
    let held = c.row_at-held.result in
    record {
      at = c.loop-at.invariant.at;
      next = c.in_ok-next-in-Less.ensures.within.1;
      least = c.in_ok-next-in-Less.ensures.least;
      walk = λ closed unmerged waiting keys holds same stand first.
          let here = c.loop-at.invariant.walk closed unmerged waiting keys holds same stand first in
          let is = place_held f store closed c.requires.per_key c.invariant.ensures holds c.args.places.now c.loop-at.at _ held.key.now
          held.epochs held.state.now same (between c.loop-at.invariant.at c.if-at-places-2.false) c.row_at-held.ensures.key
          c.row_at-held.ensures.epochs c.row_at-held.ensures.state in
          let order = sym (c.compare.ensures.order waiting here.0 here.1.left) ∙ c.in-Less.is in
          let walk = subst (λ ms. IsWalk f closed unmerged waiting ms here.0 (drop c.loop-at.next.at c.args.entries.now) c.loop-at.shown.rows
          c.loop-at.shown.epochs) is.next here.1 in
          let later = drop (c.loop-at.at + 1) (ascending (keys_of store.keys)) in
          rw is.next (new_turn walk (first_less held.key.now later here.0 walk.up order)
          (λ key keys left absent above seen.
          c.in_ok-next-in-Less.ensures.seen closed unmerged waiting key
          (held.key.now ∷ later) keys stand left (rw absent refl) (rw absent c.requires.initial.0) above
          (rw (c.read_rows_ahead.ensures) seen)));
      words = c.in_ok-next-in-Less.ensures.words ∙ c.loop-at.invariant.words;
      scratch = c.in_ok-next-in-Less.ensures.scratch ∙ c.loop-at.invariant.scratch;
      steps = omega (arith, c.in_ok-next-in-Less.ensures.steps, c.loop-at.invariant.steps);
    }

pub loop-at-preserved-in-Equal : goal.loop-at-preserved-in-Equal
loop-at-preserved-in-Equal g c =
    let f = g.K.EpochKind.folding c.args.kind.now in
    let store = c.args.store.now in
    let held = c.row_at-held.result in
    record {
      at = let in_places = between c.loop-at.invariant.at c.if-at-places-2.false in omega (arith, in_places);
      next = c.in_ok-next-in-Equal.ensures.within.1;
      least = c.in_ok-next-in-Equal.ensures.least;
      walk = λ closed unmerged waiting keys holds same stand first.
          let here = c.loop-at.invariant.walk closed unmerged waiting keys holds same stand first in
          let is = place_held f store closed c.requires.per_key c.invariant.ensures holds c.args.places.now c.loop-at.at _ held.key.now
          held.epochs held.state.now same (between c.loop-at.invariant.at c.if-at-places-2.false) c.row_at-held.ensures.key
          c.row_at-held.ensures.epochs c.row_at-held.ensures.state in
          let order = sym (c.compare.ensures.order waiting here.0 here.1.left) ∙ c.in-Equal.is in
          let walk = subst (λ ms. IsWalk f closed unmerged waiting ms here.0 (drop c.loop-at.next.at c.args.entries.now) c.loop-at.shown.rows
          c.loop-at.shown.epochs) is.next here.1 in
          both_turn walk order (λ keys left above seen.
          c.in_ok-next-in-Equal.ensures.seen closed unmerged waiting held.key.now
          (drop (c.loop-at.at + 1) (ascending (keys_of store.keys))) keys stand left is.many is.state above
          (rw (c.read_rows_ahead.ensures) seen));
      words = c.in_ok-next-in-Equal.ensures.words ∙ c.loop-at.invariant.words;
      scratch = c.in_ok-next-in-Equal.ensures.scratch ∙ c.loop-at.invariant.scratch;
      steps = omega (arith, c.in_ok-next-in-Equal.ensures.steps, c.loop-at.invariant.steps);
    }

pub loop-at-preserved : goal.loop-at-preserved
loop-at-preserved g c =
    let f = g.K.EpochKind.folding c.args.kind.now in
    let store = c.args.store.now in
    let held = c.row_at-held.result in
    record {
      at = let in_places = between c.loop-at.invariant.at c.if-at-places-2.false in omega (arith, in_places);
      next = c.loop-at.invariant.next;
      least = c.loop-at.invariant.least;
      walk = λ closed unmerged waiting keys holds same stand first.
          let here = c.loop-at.invariant.walk closed unmerged waiting keys holds same stand first in
          let is = place_held f store closed c.requires.per_key c.invariant.ensures holds c.args.places.now c.loop-at.at _ held.key.now
          held.epochs held.state.now same (between c.loop-at.invariant.at c.if-at-places-2.false) c.row_at-held.ensures.key
          c.row_at-held.ensures.epochs c.row_at-held.ensures.state in
          let order = sym (c.compare.ensures.order waiting here.0 here.1.left) ∙ c.in-Greater.is in
          let walk = subst (λ ms. IsWalk f closed unmerged waiting ms here.0 (drop c.loop-at.next.at c.args.entries.now) c.loop-at.shown.rows
          c.loop-at.shown.epochs) is.next here.1 in
          rw (c.in_ok-push_row-in-Greater.ensures.rows, c.read_rows_ahead.ensures) (old_turn walk order
          (λ absent. only_row f closed unmerged held.key.now held.epochs held.state.now c.requires.per_key
          (omega (arith, is.many, ap length absent))
          (rw absent is.state)) c.in_ok-push_row-in-Greater.ensures.epochs);
      words = c.loop-at.invariant.words;
      scratch = c.loop-at.invariant.scratch;
      steps = c.loop-at.invariant.steps;
    }

pub returns-clause-seen : goal.returns-clause-seen
returns-clause-seen g c closed unmerged waiting keys holds same stand first =
    let f = g.K.EpochKind.folding c.args.kind.now in
    let store = c.args.store.now in
    let here = c.loop-at.invariant.walk closed unmerged waiting keys holds same stand first in
    let past : length c.args.places.now ≤ c.loop-at.at = omega (arith, c.if-at-places.false) in
    let all : length c.args.entries.now ≤ c.loop-at.next.at = omega (arith, c.if-next-len.false, c.len.ensures) in
    let none : drop c.loop-at.at (ascending (keys_of store.keys)) ≡ [] = drop_all c.loop-at.at (ascending (keys_of store.keys)) (omega (
      arith,
      as_many f store closed c.requires.per_key c.invariant.ensures holds c.args.places.now same,
      past,
    )) in
    let left = no_left waiting here.0 (subst (AreLeft waiting here.0) (drop_all c.loop-at.next.at c.args.entries.now all) here.1.left) in
    subst (λ ks. AreSeen f (closed ++ unmerged) ks c.loop-at.shown.rows c.loop-at.shown.epochs)
    (ap₂ (λ xs ys. xs ++ ys) none left) here.1.seen
