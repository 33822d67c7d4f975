-- A line `fold` is that of the fold that its group makes where it says the class and the depth of that fold.
use Rattle.std.proofs.Common.{◌≡◌, refl, sym, subst, ◌∙◌}
use Rattle.query_lang.specs.Folds.{fold_states}
use Rattle.plan_file.{specs.FoldLines.IsFoldWords, proofs.SameFold.{class_same, depth_same, depth_once, words_once}}
use Rattle.plan_file.proofs.fold_line.fold_line.Goals as goal

pub returns-in_default : goal.returns-in_default
returns-in_default c after is = c.in_default.ensures after.class after.depth after.nodes after.statements is.valid

pub returns-then-not-is_said : goal.returns-then-not-is_said
returns-then-not-is_said c after is =
    let f = c.in-Some-2.fold in
    let h = rw c.in-Some-2.is at c.in_ok-fold.ensures in
    let once = words_once c.args.line.now after.class c.in-Some.words.class after.depth c.in-Some.words.depth after.nodes
    c.in-Some.words.nodes after.statements c.in-Some.words.statements is.valid c.in-Some.ensures in
    let states : fold_states is.fold ≡ fold_states c.in-Some-2.fold = is.is_fold.states ∙ sym h.0.states in
    let block = h.5 is.fold is.is_fold in
    c.is_said.ensures.no c.if-not-is_said.true (c.in_ok-class.ensures.0 ∙ sym (class_same is.fold f states block) ∙ sym is.class ∙ once.0)
    (depth_once f c.in_ok-class.depth after.depth c.in_ok-class.ensures.1 (depth_same is.fold f states block after.depth is.depth) ∙ once.1)

pub returns : goal.returns
returns c =
    let h = rw c.in-Some-2.is at c.in_ok-fold.ensures in
    let said = c.is_said.ensures.yes c.if-not-is_said.false in
    let words = c.in-Some.words in
    record {
      valid = subst (λ k. IsFoldWords c.args.line.now k c.in_ok-class.depth words.nodes words.statements) (sym said.0)
          (subst (λ d. IsFoldWords c.args.line.now words.class d words.nodes words.statements) (sym said.1) c.in-Some.ensures);
      fold = c.in-Some-2.fold;
      is_fold = h.0;
      class = c.in_ok-class.ensures.0;
      depth = c.in_ok-class.ensures.1;
      bounds = h.1;
      made = refl;
    }
