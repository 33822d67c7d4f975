-- Each byte that leads to a place between two records moves the cut after it, so the cut stays between two.
use Rattle.std.proofs.Common.{◌∙◌, ap, arith, get_or, sym}
use Rattle.csv.specs.Machine.{ends_at_end}
use Rattle.csv.specs.declared.parser.State.TheVariants as st
use Rattle.trace_pieces.{specs.Machine.next_state, proofs.CutFacts.over_more}
use Rattle.trace_pieces.proofs.cuts.cut_by_bytes.Goals as goal
use Rattle.trace_pieces.proofs.cuts.cut_by_bytes.Goals.{then-is_between, else-is_between}

pub loop-i-preserved : goal.loop-i-preserved
loop-i-preserved c =
    let text = c.args.text.now in
    let i = c.loop-i.i in
    let place =
    c.after-place.ensures ∙ ap (λ s. next_state s (get_or text i 0)) c.loop-i.invariant.place
    ∙ sym (over_more st.StartRecord text i c.loop-i-test.true) in
    record {
      place = place;
      cut = elim c.if-is_between.branch [
        | then-is_between w ↦
            rw w.cut-is (record {
              within = omega arith;
              between = ap ends_at_end (sym place)
                  ∙ c.is_between.ensures.0 w.if-is_between.true;
            })
        | else-is_between w ↦ rw w.cut-is c.loop-i.invariant.cut
      ];
    }
