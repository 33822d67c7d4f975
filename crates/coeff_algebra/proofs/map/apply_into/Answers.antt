-- Each row of the scratch gets one word of the map applied to the state, and the words before it stay.
use Rattle.std.proofs.Common.{◌≢◌, ◌<◌, ◌≤◌, length, arith, ap, sym, ◌∙◌, get_or-set_other, get_or-set_same, get_or, below_more}
use Rattle.std.proofs.lemmas.List.{length-take-le, get_or-take}
use Rattle.coeff_algebra.proofs.PlaceLemmas.{row_room, state_room}
use Rattle.coeff_algebra.proofs.map.apply_into.Goals as goal
use Rattle.coeff_algebra.proofs.map.apply_into.Goals.{After-row_word, After-rows}

inside : (g : _) (c : After-row_word g) → c.rows.row < length c.rows.scratch
inside g c = omega (
  arith,
  c.rows.auto.scratch,
  c.requires.room,
  row_room c.args.n g.C.Coeff.WORDS c.rows.row
      g.met.C.Coeff.storage.size_low c.rows-test.true,
)

room : (g : _) (c : After-rows g) → c.args.n ≤ length c.rows.scratch
room g c = omega (arith, c.rows.auto.scratch, c.requires.room, state_room c.args.n g.C.Coeff.WORDS g.met.C.Coeff.storage.size_low)

pub bounds-scratch-row : goal.bounds-scratch-row
bounds-scratch-row g c = inside g c

pub rows-preserved : goal.rows-preserved
rows-preserved g c =
    let at = inside g (goal.at.rows-preserved g c).After-row_word in record {
      values = below_more _ _
          (λ k h. let ne : k ≢ c.rows.row = omega arith in get_or-set_other c.rows.scratch c.rows.row k c.row_word.result 0 ne
          ∙ c.rows.invariant.values k h)
          (get_or-set_same c.rows.scratch c.rows.row c.row_word.result 0 at ∙ c.row_word.ensures.value);
      steps = omega (arith, c.rows.invariant.steps, c.row_word.ensures.steps);
    }

pub slice_bounds-copy_words-end : goal.slice_bounds-copy_words-end
slice_bounds-copy_words-end g c = room g c

pub slice_bounds-copy_words-end-2 : goal.slice_bounds-copy_words-end-2
slice_bounds-copy_words-end-2 g c = sym (length-take-le c.args.n c.rows.scratch (room g c))

pub copy_words-requires : goal.copy_words-requires
copy_words-requires g c = record {
  room = c.requires.state ∙ sym (length-take-le c.args.n c.rows.scratch (room g (goal.at.copy_words-requires g c).After-rows));
}

pub returns-clause-applied : goal.returns-clause-applied
returns-clause-applied g c i h =
    let below : i < c.rows.row = omega (arith, h, c.rows-test.false) in
    ap (λ ws. get_or ws i 0) c.copy_words.ensures.words
    ∙ (get_or-take c.args.n c.rows.scratch i 0 h ∙ c.rows.invariant.values i below)
