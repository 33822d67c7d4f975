-- What is written to the lent words of a row is that row's new words, and no other row changes.
use Rattle.std.proofs.Common.{◌≡◌, ◌+◌, ◌-◌, ◌*◌, ◌<◌, ◌≤◌, ◌∙◌, Some, length, take, drop, refl, sym, ap, arith}
use Rattle.bucket_cache.proofs.LentEntries.{written_from}
use Rattle.backing_store.{specs.States.states_in, proofs.{KeyFacts.row_within, StateFacts.{state_got, state_within}}}
use Rattle.backing_store.proofs.LentFacts.{rows_written}
use Rattle.backing_store.proofs.states.States.row_mut.Goals as goal
use Rattle.backing_store.proofs.states.States.row_mut.Goals.{After-self}

low : (c : After-self) → c.args.at < length c.self.inside.of.items
low c = let a = c.self.inside in state_within a.width a.of.items a.words.items c.self.view_is c.requires

within : (c : After-self) → c.args.at * c.self.inside.width + c.self.inside.width ≤ length c.self.inside.words.items
within c = let a = c.self.inside in row_within c.args.at (length a.of.items) a.width a.words.items (low c) c.self.invariant

pub overflow_mul-start : goal.overflow_mul-start
overflow_mul-start c = let words = c.self.inside.words in omega (arith, within c, words.ok.0, words.small)

pub overflow_add-end : goal.overflow_add-end
overflow_add-end c = let words = c.self.inside.words in omega (arith, within c, words.ok.0, words.small)

pub slice_mut-requires-clause-in_bounds : goal.slice_mut-requires-clause-in_bounds
slice_mut-requires-clause-in_bounds c =
    omega (arith, within (goal.at.slice_mut-requires-clause-in_bounds c).After-self, c.self.inside.words.ok.0)

pub returns : goal.returns
returns c =
    let a = c.self.inside in
    let x = (goal.at.returns c).After-self in
    let start = c.args.at * a.width in
    let wide : start + a.width - start ≡ a.width = omega arith in (
      (
        refl,
        λ w. rw (← c.self.view_is) (ap (λ rows. record { width = a.width; rows = rows })
            (ap (states_in a.width a.of.items) (written_from start a.words.len a.words.items w a.words.ok.0 (omega (arith, within x)))
            ∙ rows_written c.args.at a.width a.of.items a.words.items w (low x) c.self.invariant)),
      ),
      record {
        writes_back = tt;
        value = rw (← c.self.view_is) (state_got a.width a.of.items a.words.items c.args.at (low x)
            ∙ ap Some (sym (c.slice_mut.ensures.value ∙ ap (λ n. take n (drop start a.words.items)) wide)));
      },
    )
