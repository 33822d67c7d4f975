-- Three states side by side, and the kind of the entries that hold them.
use Rattle.std.proofs.Common.{◌≡◌, ℕ, ◌-◌, ◌^◌, ◌≤◌, List, [], ◌∷◌, ◌++◌, length, take, drop, refl, sym, ap, ◌∙◌, arith}
use Rattle.std.proofs.{lemmas.List.{length-take-le, length-drop, length-replicate}, Math.Seq.{take-append_seam, drop-append_seam}}
use Rattle.std.specs.Prelude.{fold}
use Rattle.query_lang.specs.{declared.fold.TypedFold.TypedFold, Folds.{body, folded, fold_states, initial_state}}
use Rattle.epoch_model.specs.Keys.{ArgRow}
use Rattle.epoch_entry.proofs.FoldLemmas.{length-body}
use Rattle.epoch_entry.specs.{Triples.{first_third, second_third, last_third, beside, step_beside, start_beside}, Bounds.least_state}
use Rattle.epoch_entry.specs.Bounds.{greatest_state, bounds_sizes, bounds_folding, bounds_open, bounds_absorb, bounds_merge, IsBoundsKindOf}
use Rattle.epoch_entry.specs.Foldings.{merge_bound}
use Rattle.fold_code.specs.Meaning.{code_step}
use Rattle.fold_class.specs.{declared.program.FoldProgram.FoldProgram, Program.IsProgramOf}

-- the thirds

module _ (n : ℕ) (a b c : List ℕ) where
  pub first_is : length a ≡ n → first_third n (beside a b c) ≡ a
  first_is ea = ap (λ k. take k (a ++ (b ++ c))) (sym ea) ∙ take-append_seam a (b ++ c)

  rest_is : length a ≡ n → drop n (beside a b c) ≡ b ++ c
  rest_is ea = ap (λ k. drop k (a ++ (b ++ c))) (sym ea) ∙ drop-append_seam a (b ++ c)

  pub second_is : length a ≡ n → length b ≡ n → second_third n (beside a b c) ≡ b
  second_is ea eb = ap (take n) (rest_is ea) ∙ ap (λ k. take k (b ++ c)) (sym eb) ∙ take-append_seam b c

  pub last_is : length a ≡ n → length b ≡ n → last_third n (beside a b c) ≡ c
  last_is ea eb = ap (drop n) (rest_is ea) ∙ ap (λ k. drop k (b ++ c)) (sym eb) ∙ drop-append_seam b c

-- the states of three runs, each by its own step
pub steps_same : (g h : List ℕ → List ℕ → List ℕ) (n : ℕ) (a b c row : List ℕ) → ((s : List ℕ) → length s ≡ n → g s row ≡ h s row)
    → length a ≡ n → length b ≡ n → length c ≡ n →
    beside (g a row) (g b row) (g c row) ≡ beside (h a row) (h b row) (h c row)
steps_same g h n a b c row same ea eb ec =
    ap (λ z. beside z (g b row) (g c row)) (same a ea) ∙ ap (λ z. beside (h a row) z (g c row)) (same b eb)
    ∙ ap (λ z. beside (h a row) (h b row) z) (same c ec)

step_is : (g : List ℕ → List ℕ → List ℕ) (n : ℕ) (a b c row : List ℕ) → length a ≡ n → length b ≡ n
    → step_beside g n (beside a b c) row ≡ beside (g a row) (g b row) (g c row)
step_is g n a b c row ea eb =
    let t = beside a b c in
    ap (λ z. beside (g z row) (g (second_third n t) row) (g (last_third n t) row)) (first_is n a b c ea)
    ∙ ap (λ z. beside (g a row) (g z row) (g (last_third n t) row)) (second_is n a b c ea eb)
    ∙ ap (λ z. beside (g a row) (g b row) (g z row)) (last_is n a b c ea eb)

-- a step that is a fold's body, on states side by side, is the fold on each
pub folds_beside : (f : TypedFold) (g : List ℕ → List ℕ → List ℕ) (a b c : List ℕ) (rows : List ArgRow)
    → ((s row : List ℕ) → length s ≡ fold_states f → g s row ≡ body f s row) →
    length a ≡ fold_states f → length b ≡ fold_states f → length c ≡ fold_states f →
    fold (step_beside g (fold_states f)) (beside a b c) rows ≡ beside (folded f a rows) (folded f b rows) (folded f c rows)
folds_beside f g a b c [] same ea eb ec = refl
folds_beside f g a b c (row ∷ rows) same ea eb ec =
    let n = fold_states f in
    ap (λ z. fold (step_beside g n) z rows) (step_is g n a b c _ ea eb ∙ steps_same g (body f) n a b c _ (λ s e. same s row e) ea eb ec)
    ∙ folds_beside f g (body f a row) (body f b row) (body f c row) rows same (length-body f a _ ∙ ea) (length-body f b _ ∙ eb)
    (length-body f c _ ∙ ec)

pub bounds_kind : (f : TypedFold) (p : FoldProgram) → IsProgramOf f p → IsBoundsKindOf f (bounds_sizes p) (bounds_folding p) (bounds_open p)
    (bounds_absorb p)
bounds_kind f p h =
    let n = fold_states f in
    let states : length p.layout.initial ≡ n = ap (λ l. length l) h.layout.initial ∙ h.valid.starts in
    let start : start_beside (length p.layout.initial) p.layout.initial ≡ beside (initial_state f) (least_state f) (greatest_state f) =
    ap (λ k. start_beside k p.layout.initial) states ∙ ap (start_beside n) h.layout.initial in record {
      args = h.layout.args;
      state = omega (arith, states);
      entry = omega (arith, states);
      initial = start;
      row_per_epoch = refl;
      step = λ state row long. ap (λ k. step_beside (code_step p.code) k state row) states
          ∙ steps_same (code_step p.code) (body f) n (first_third n state) (second_third n state) (last_third n state) row
          (λ s e. h.code.step s row e)
          (length-take-le n state (omega (arith, long))) (length-take-le n (drop n state) (omega (arith, long, length-drop n state)))
          (omega (arith, long, length-drop n state, length-drop n (drop n state)));
      folded = λ rows. ap (λ k. fold (step_beside (code_step p.code) k) (bounds_folding p).initial rows) states
          ∙ ap (λ s. fold (step_beside (code_step p.code) n) s rows) start
          ∙ folds_beside f (code_step p.code) (initial_state f) (least_state f) (greatest_state f) rows h.code.step h.valid.starts
          (length-replicate {A = ℕ} n 0) (length-replicate {A = ℕ} n (2 ^ 64 - 1));
      «open» = omega (arith, states);
      absorb = omega (arith, h.code.steps);
    }

pub bounds_merged : (f : TypedFold) (p : FoldProgram) → IsProgramOf f p → bounds_merge p ≤ merge_bound f
bounds_merged f p h =
    let states = ap length h.layout.initial ∙ h.valid.starts in
    omega (arith, states)
