-- The kinds of entries for each purpose.
use Rattle.std.proofs.{Common.{◌≡◌, ℕ, ◌+◌, ◌*◌, ◌≤◌, sym, ap, ◌∙◌, subst, refl, arith}, Math.Nat.{add-mul, mul-le-mul_right}}
use Rattle.query_lang.specs.declared.{fold.TypedFold.TypedFold, typed.Class.{Class, TheVariants.{Linear, Other}}}
use Rattle.query_lang.specs.{Folds.{fold_states, IsValidFold}, declared.fault.TheConstants.MAX_KEYS}
use Rattle.epoch_model.specs.Tables.{Folding}
use Rattle.fold_class.specs.{declared.program.FoldProgram.FoldProgram, Kinds.class_of, Program.IsProgramOf}
use Rattle.epoch_entry.specs.{declared.purpose.Entries.{Entries, TheVariants.{Folds, Bounds}}, Kinds.Sizes}
use Rattle.epoch_entry.specs.{Foldings.{IsKindOf, entry_bound, absorb_bound, per_epoch}, Bounds.IsBoundsKindOf}
use Rattle.epoch_entry.{specs.Purposes.{IsBoundingKind, IsKindFor, SuitsFold, runs_of}, proofs.KindFacts.entry_fits}

module _ (f : TypedFold) (sizes : Sizes) (folding : Folding) (opening absorbing : ℕ) where
  own_suits : (runs : ℕ) → 1 ≤ runs → IsKindOf f sizes folding opening absorbing → SuitsFold runs f sizes folding opening absorbing
  own_suits runs some h = record {
    args = h.args;
    row_per_epoch = h.row_per_epoch;
    entry = omega (arith, h.entry, mul-le-mul_right (entry_bound f) some);
    «open» = omega (arith, h.«open», mul-le-mul_right (entry_bound f) some);
    absorb = omega (arith, h.absorb, mul-le-mul_right (absorb_bound f) some);
  }

  -- a state is no larger than an entry, and a run of the code takes no more steps than absorbing
  few_words : fold_states f ≤ entry_bound f
  few_words = omega arith

  cheap_run : f.nodes + 4 * f.statements + 1 ≤ absorb_bound f
  cheap_run = omega (arith, add-mul (fold_states f) 1 (f.nodes + 4 * f.statements + 1))

  bounds_suit : Other ≡ class_of f → IsBoundsKindOf f sizes folding opening absorbing → SuitsFold 3 f sizes folding opening absorbing
  bounds_suit e h = record {
    args = h.args;
    row_per_epoch = h.row_per_epoch ∙ ap per_epoch e;
    entry = omega (arith, h.entry, few_words);
    «open» = omega (arith, h.«open», few_words);
    absorb = omega (arith, h.absorb, cheap_run);
  }

  bounding_suits : (c : Class) → c ≡ class_of f → IsBoundingKind c f sizes folding opening absorbing
      → SuitsFold 3 f sizes folding opening absorbing
  bounding_suits Linear e h = own_suits 3 (omega arith) h
  bounding_suits Other e h = bounds_suit e h

  pub kind_suits : (entries : Entries) → IsKindFor entries f sizes folding opening absorbing
      → SuitsFold (runs_of entries) f sizes folding opening absorbing
  kind_suits Folds h = own_suits 1 (omega arith) h
  kind_suits Bounds h = bounding_suits _ refl h

  own_fits : (key : ℕ) → IsValidFold f → key ≤ MAX_KEYS → IsKindOf f sizes folding opening absorbing → key + sizes.entry ≤ 274
  own_fits key valid few h = omega (arith, h.entry, entry_fits f _ valid few)

  bounds_fit : (key : ℕ) → IsValidFold f → key ≤ MAX_KEYS → IsBoundsKindOf f sizes folding opening absorbing → key + sizes.entry ≤ 274
  bounds_fit key valid few h = omega (arith, h.entry, valid.states)

  bounding_fits : (key : ℕ) → IsValidFold f → key ≤ MAX_KEYS → (c : Class) → IsBoundingKind c f sizes folding opening absorbing → key
      + sizes.entry ≤ 274
  bounding_fits key valid few Linear h = own_fits _ valid few h
  bounding_fits key valid few Other h = bounds_fit _ valid few h

  pub kind_fits : (entries : Entries) (key : ℕ) → IsValidFold f → IsKindFor entries f sizes folding opening absorbing → key ≤ MAX_KEYS → key
      + sizes.entry ≤ 274
  kind_fits Folds key valid h few = own_fits _ valid few h
  kind_fits Bounds key valid h few = bounding_fits _ valid few _ h

  -- where bounds are asked for, by the class of the program
  pub for_bounds : (entries : Entries) (p : FoldProgram) (c : Class) → IsProgramOf f p → entries ≡ Bounds → p.class ≡ c
      → IsBoundingKind c f sizes folding opening absorbing → IsKindFor entries f sizes folding opening absorbing
  for_bounds entries p c is asked e h =
      rw asked (subst (λ k. IsBoundingKind k f sizes folding opening absorbing) (sym e ∙ is.class) h)
