-- Each row composed leaves the rows before it, and the words of all rows load as the composed map.
use Rattle.std.proofs.Common.{arith, ap, sym, ◌∙◌}
use Rattle.coeff_algebra.{specs.Maps.{stored_at, stored_entry, table_of, map_compose}, proofs.PlaceLemmas.rows_step}
use Rattle.coeff_algebra.proofs.map.compose_into.Goals as goal

pub loop-row-preserved : goal.loop-row-preserved
loop-row-preserved g c =
    let m = g.C.Coeff in
    let later = table_of m.from_words m.WORDS c.args.n c.args.later.now in
    let earlier = table_of m.from_words m.WORDS c.args.n c.args.earlier.now in record {
      entries = rows_step (stored_at m.WORDS c.loop-row.scratch) (stored_at m.WORDS c.compose_row.new.scratch)
          (λ i j. m.words (map_compose m.elements c.args.n later earlier i j))
          c.args.n c.loop-row.row c.loop-row.invariant.entries c.compose_row.ensures.before c.compose_row.ensures.entries;
      steps = omega (arith, c.loop-row.invariant.steps, c.compose_row.ensures.steps);
    }

pub returns-clause-composed : goal.returns-clause-composed
returns-clause-composed g c i j hi hj =
    let m = g.C.Coeff in
    let later = table_of m.from_words m.WORDS c.args.n c.args.later.now in
    let earlier = table_of m.from_words m.WORDS c.args.n c.args.earlier.now in
    ap (λ ws. m.from_words (stored_entry m.WORDS c.args.n ws i j)) c.copy_words.ensures.words
    ∙ ap m.from_words (c.loop-row.invariant.entries i j (omega arith) hj)
    ∙ g.met.C.Coeff.storage.load_store (map_compose m.elements c.args.n later earlier i j)

pub compose_row-requires-clause-later : goal.compose_row-requires-clause-later
compose_row-requires-clause-later g c = c.requires.later

pub compose_row-requires-clause-earlier : goal.compose_row-requires-clause-earlier
compose_row-requires-clause-earlier g c = c.requires.earlier

pub compose_row-requires-clause-room : goal.compose_row-requires-clause-room
compose_row-requires-clause-room g c = c.loop-row.auto.scratch ∙ c.requires.room

pub copy_words-requires : goal.copy_words-requires
copy_words-requires g c = record { room = c.requires.earlier ∙ sym (c.loop-row.auto.scratch ∙ c.requires.room) }

pub returns-clause-words : goal.returns-clause-words
returns-clause-words g c i j hi hj =
    ap (λ ws. stored_entry g.C.Coeff.WORDS c.args.n ws i j) c.copy_words.ensures.words
    ∙ c.loop-row.invariant.entries i j (omega (arith, hi, c.loop-row-test.false)) hj
