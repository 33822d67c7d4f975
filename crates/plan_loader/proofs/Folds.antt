-- All folds of a group have its body, and so the class, the depth and the folding of the fold that the text gives.
use Rattle.std.proofs.{Common.{◌≡◌, ℕ, List, [], length, Option, refl, sym, ap, ◌∙◌, subst}, lemmas.List.length-replicate}
use Rattle.std.specs.Prelude.{unwrap_or, Bool, IfSome}
use Rattle.query_lang.specs.{Blocks.Block, declared.fold.TypedFold.TypedFold, Folds.{after, body, fold_block, fold_states}}
use Rattle.epoch_entry.specs.Foldings.{folding_of, per_epoch}
use Rattle.epoch_model.specs.Tables.{Folding}
use Rattle.fold_class.specs.{Depth.IsDepth, Kinds.{algebra_of, class_of}}
use Rattle.plan_file.specs.{declared.{lexemes.Lexeme.Lexeme, made.{Folded.Folded, Group.Group}}, Bodies.IsBody, FoldLines.IsFoldOf}
use Rattle.plan_file.{specs.Lines.IsGroupWithin, proofs.SameFold.{algebra_same, class_same, depth_once, depth_same}}
use Rattle.plan_loader.{specs.{Meaning.{block_in, fold_in}, Parts.IsWhole, Reading.block_written}, proofs.BodyReading.{bodies, stmts_same}}

-- the body of a group's fold is read from its tokens
pub block_is : (group : Group) (f : TypedFold) → IsFoldOf group f → fold_block f ≡ block_in group
block_is group f is = sym (bodies.written (length group.initial) (length group.args) is.words (fold_block f) is.body)
    ∙ ap (λ o. block_written (length group.initial) (unwrap_or o [])) (sym is.has_body)

-- the fold that the text gives is one of the group
pub fold_in_is : (one : Folded) (f : TypedFold) → IsFoldOf one.group f → IsFoldOf one.group (fold_in one)
fold_in_is one f is =
    let same : fold_block f ≡ fold_block (fold_in one) = block_is one.group f is ∙ sym (stmts_same (block_in one.group)) in
    record {
      words = is.words;
      has_body = is.has_body;
      body = subst (λ b. IsBody (length one.group.initial) (length one.group.args) is.words b) same is.body;
      states = length-replicate (length one.group.initial) 0;
      args = length-replicate (length one.group.args) 0;
      initial = refl;
      emit = refl;
    }

module _ (group : Group) (f g : TypedFold) (p : IsFoldOf group f) (q : IsFoldOf group g) where
  pub blocks : fold_block f ≡ fold_block g
  blocks = block_is group f p ∙ sym (block_is group g q)

  pub states : fold_states f ≡ fold_states g
  states = p.states ∙ sym q.states

  pub classes : class_of f ≡ class_of g
  classes = class_same f g states blocks

  pub algebras : algebra_of f ≡ algebra_of g
  algebras = algebra_same f g states blocks

  pub depths : (d e : ℕ) → IsDepth f d → IsDepth g e → d ≡ e
  depths d e a b = depth_once g d e (depth_same f g states blocks d a) b

  -- they fold rows alike
  pub foldings : folding_of f ≡ folding_of g
  foldings =
      let step : body f ≡ body g = ap (λ b. λ (state args : List ℕ). after b args state) blocks in
      let initial : f.initial ≡ g.initial = p.initial ∙ sym q.initial in
      let per : per_epoch (class_of f) ≡ per_epoch (class_of g) = ap per_epoch classes in
      let make : (List ℕ → List ℕ → List ℕ) → List ℕ → Bool → Folding = λ s i r. record { step = s; initial = i; row_per_epoch = r } in
      ap (λ s. make s f.initial (per_epoch (class_of f))) step ∙ ap (λ i. make (body g) i (per_epoch (class_of f))) initial
      ∙ ap (make (body g) g.initial) per

-- a group that has all its lines is within the limits of its lines
pub whole_within : (one : Folded) → IsWhole one → IsGroupWithin one.group
whole_within one whole =
    let s = whole.sound in
    record {
      states = s.most_states;
      args = s.most_args;
      body = subst (λ (o : Option (List Lexeme)). IfSome o (λ words. (b : Block)
          × IsBody (length one.group.initial) (length one.group.args) words b)) (sym s.is_fold.has_body)
          (fold_block s.fold, s.is_fold.body);
    }
