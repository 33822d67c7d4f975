-- One instruction more: its value at its place, and the variable that it writes.
use Rattle.std.proofs.Common.{◌≡◌, ◌≢◌, ℕ, ◌+◌, ◌<◌, ◌≤◌, List, [], ◌∷◌, ◌++◌, arith, ap, sym, ◌∙◌, subst, drop, get_or, length, map}
use Rattle.std.proofs.lemmas.List.{drop_more}
use Rattle.fold_code.specs.declared.instr.Instr.{Instr, TheVariants.State}
use Rattle.fold_code.specs.Machine.{Domain, AllFit, instr_value, vars_after, run_code, instr_steps, steps_of}
use Rattle.fold_class.specs.{Parts.{Fixed, parts, column_shares}, Step.list_of, Stored.part_at}
use Rattle.fold_class.proofs.StoredLemmas.{list_same, list_more}
use Rattle.fold_class.proofs.column.run_column.Goals as goal

module _ (instrs : List Instr) (number : ℕ) (d : Instr) (within : number < length instrs) where
  abbrev instr : Instr
  instr = get_or instrs number d

  run_more : {D : Type 0} (dom : Domain D) (states : ℕ) (args : List D) (before written after : ℕ → D) (whole : List D)
      → written (states + number) ≡ instr_value dom instr (list_of states before) args (list_of number (λ i. before (states + i)))
      → ((other : ℕ) → other ≢ states + number → written other ≡ before other)
      → list_of states after ≡ vars_after instr (written (states + number)) (list_of states written)
      → ((other : ℕ) → states ≤ other → after other ≡ written other)
      → run_code dom (drop number instrs) args (list_of states before) (list_of number (λ i. before (states + i))) ≡ whole
      → run_code dom (drop (number + 1) instrs) args (list_of states after) (list_of (number + 1) (λ i. after (states + i))) ≡ whole
  run_more dom states args before written after whole here others vars later so =
      let value = instr_value dom instr (list_of states before) args (list_of number (λ i. before (states + i))) in
      let vars_are : list_of states after ≡ vars_after instr value (list_of states before) =
      vars ∙ ap (λ v. vars_after instr v (list_of states written)) here
      ∙ ap (vars_after instr value) (list_same states written before (λ i lt. others i (omega arith))) in
      let values_are : list_of (number + 1) (λ i. after (states + i)) ≡ list_of number (λ i. before (states + i)) ++ value ∷ [] =
      list_more number (λ i. before (states + i)) (λ i. after (states + i)) value
      (λ i lt. later (states + i) (omega arith) ∙ others (states + i) (omega arith)) (later (states + number) (omega arith) ∙ here) in
      rw (vars_are, values_are)
      (ap (λ is. run_code dom is args (list_of states before) (list_of number (λ i. before (states + i))))
      (sym (drop_more instrs number d within)) ∙ so)

  fits_more : (states args : ℕ) → AllFit states args number (drop number instrs)
      → AllFit states args (number + 1) (drop (number + 1) instrs)
  fits_more states args fits = (subst (AllFit states args number) (drop_more instrs number d within) fits).1

  steps_more : (steps steps' whole : ℕ) → steps' ≡ steps + instr_steps instr → steps + steps_of (drop number instrs) ≡ whole
      → steps' + steps_of (drop (number + 1) instrs) ≡ whole
  steps_more steps steps' whole e so = omega (arith, ap steps_of (drop_more instrs number d within))

pub loop-number-preserved : goal.loop-number-preserved
loop-number-preserved g c =
    let m = g.C.Coeff in
    let number = c.loop-number.number in
    let within = c.loop-number-test.true in
    record {
      vars = run_more c.args.instrs.now number _ within (parts (column_shares m.elements c.args.dimension c.args.column) c.args.algebra)
          c.args.states (map (λ w. Fixed w) c.args.args.now) (part_at m.from_words m.WORDS c.loop-number.scratch)
          (part_at m.from_words m.WORDS c.write_value.new.scratch) (part_at m.from_words m.WORDS c.store_variable.new.scratch) _
          c.write_value.ensures.here c.write_value.ensures.others c.store_variable.ensures.vars c.store_variable.ensures.others
          c.loop-number.invariant.vars;
      fits = fits_more c.args.instrs.now number (State 0) within c.args.states _
          c.loop-number.invariant.fits;
      steps = steps_more c.args.instrs.now number _ within _ _ _ c.store_variable.ensures.steps c.loop-number.invariant.steps;
    }
