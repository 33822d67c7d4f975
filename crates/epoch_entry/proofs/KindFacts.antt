-- The sizes and the bounds of the kinds.
use Rattle.std.proofs.Common.{◌≡◌, ℕ, ◌+◌, ◌*◌, ◌<◌, ◌≤◌, List, length, sym, ap, ◌∙◌, subst, refl, arith}
use Rattle.std.{proofs.Math.{Nat.{add-mul, mul-le-mul_left, mul-le-mul_right, ℕ_set}, Logic.{∥∥₁_elim}}, specs.Prelude.fold}
use Rattle.query_lang.specs.declared.{fold.TypedFold.TypedFold, typed.Class.{Class, TheVariants.Linear}}
use Rattle.query_lang.specs.Folds.{fold_states, fold_args, initial_state, IsValidFold}
use Rattle.query_lang.specs.declared.fault.TheConstants.{MAX_ARGS, MAX_KEYS, MAX_STATES}
use Rattle.coeff_algebra.specs.{Elements.Elements, WrappingModel.wrapping_from_words, MaxPlusModel.max_plus_from_words}
use Rattle.fold_code.specs.Meaning.{code_step, code_steps}
use Rattle.fold_class.specs.declared.{class.Algebra.{Algebra, TheVariants.{Sums, Maxima}}, program.FoldProgram.FoldProgram}
use Rattle.fold_class.specs.{Algebras.{sums, maxima}, Depth.{is_history, depth_of}, Kinds.algebra_of, Rows.{element_size, rows_steps}}
use Rattle.fold_class.{specs.{Parts.IsAlgebraOf, Program.{IsProgram, IsProgramOf, WritesAlgebra, WritesElements}}, proofs.AlgebraLaws.{sums_are, maxima_are}}
use Rattle.fold_class.proofs.{DepthLemmas.history_rounds, LawLemmas.{depth_is, depth_found_is, maxima_depth}, PlaceLemmas.both_sorts}
use Rattle.epoch_entry.specs.{Foldings.{per_epoch, entry_bound, IsKindOf, merge_bound}, Entries.{other_sizes, other_folding, other_open}}
use Rattle.epoch_entry.specs.Entries.{other_absorb, linear_rank, history_words, linear_sizes, linear_folding, linear_open, linear_absorb}
use Rattle.epoch_entry.{specs.Entries.{other_merge, linear_merge, WritesInto}, proofs.FoldLemmas.code_folds}

pub other_kind : (f : TypedFold) (p : FoldProgram) → IsProgramOf f p → p.class ≡ Class.Other
    → IsKindOf f (other_sizes p) (other_folding p) (other_open p) (other_absorb p)
other_kind f p h e =
    let states = ap length h.layout.initial ∙ h.valid.starts in record {
      args = h.layout.args;
      state = states;
      entry = omega (arith, states);
      initial = h.layout.initial;
      row_per_epoch = sym (ap per_epoch (sym h.class ∙ e));
      step = h.code.step;
      folded = λ rows. ap (λ s. fold (code_step p.code) s rows) h.layout.initial
          ∙ code_folds f _ h.code _ rows h.valid.starts;
      «open» = omega (arith, states);
      absorb = omega (arith, h.code.steps, add-mul (fold_states f) 1 (f.nodes + 4 * f.statements + 1));
    }

pub other_merged : (f : TypedFold) (p : FoldProgram) → IsProgramOf f p → other_merge p ≤ merge_bound f
other_merged f p h =
    let states = ap length h.layout.initial ∙ h.valid.starts in
    omega (arith, states)

square : (d n : ℕ) → d ≤ n → d * (d + 1) ≤ n * (n + 1)
square d n h =
    let one : d + 1 ≤ n + 1 = omega arith in
    omega (arith, mul-le-mul_right (d + 1) h, mul-le-mul_left n one)

cube : (d n : ℕ) → d ≤ n → d * ((d + 1) * d) ≤ n * n * (n + 1)
cube d n h = omega (arith, mul-le-mul_left d (square d n h), mul-le-mul_right (n * (n + 1)) h)

map_fits : (a : Algebra) (n d size : ℕ) → size ≡ element_size a → d ≤ n → d * (d + 1) * size ≤ element_size a * n * (n + 1)
map_fits Sums n d size e h = omega (arith, ap (λ s. d * (d + 1) * s) e, square d n h)
map_fits Maxima n d size e h = omega (arith, ap (λ s. d * (d + 1) * s) e, square d n h)

composed_fit : (a : Algebra) (n d x kf size rows : ℕ) → size ≡ element_size a → d ≤ n → rows ≤ (n + 1) * x + 2 * element_size a * (n + 1)
    * (n + 1) →
    rows + (d * ((d + 1) * d) + d * (d + 1) * size) ≤ (n + 1) * x + n * n * (n + 1) + 4 * (element_size a * n * (n + 1) + n + kf + 2)
composed_fit Sums n d x kf size rows e h le = omega (arith, le, cube d n h, map_fits Sums n d size e h)
composed_fit Maxima n d x kf size rows e h le = omega (arith, le, cube d n h, map_fits Maxima n d size e h)

run_fit : (a : Algebra) (n d h x kf size code : ℕ) → size ≡ element_size a → d + h ≡ n → code ≤ x →
    2 * h + code + (d + d * size) + (1 + kf) ≤ (n + 1) * x + n * n * (n + 1) + 4 * (element_size a * n * (n + 1) + n + kf + 2)
run_fit Sums n d h x kf size code e sorts le = omega (arith, ap (λ s. d * s) e, sorts, le)
run_fit Maxima n d h x kf size code e sorts le = omega (arith, ap (λ s. d * s) e, sorts, le)

pub linear_kind : (f : TypedFold) (p : FoldProgram) (size : ℕ) → IsProgramOf f p → p.class ≡ Linear → element_size p.rows.algebra ≡ size
    → IsKindOf f (linear_sizes size p) (linear_folding p) (linear_open size p) (linear_absorb size p)
linear_kind f p size h e sized =
    let states : length p.layout.initial ≡ fold_states f = ap (λ l. length l) h.layout.initial ∙ h.valid.starts in
    let own : size ≡ element_size (algebra_of f) = sym sized ∙ ap element_size h.rows.algebra in
    let sorts : linear_rank p + history_words p ≡ fold_states f = omega
    (arith, ap (λ l. length l) h.layout.linear, ap (λ l. length l) h.layout.history, both_sorts (is_history f) (fold_states f)) in
    let few : linear_rank p ≤ fold_states f = omega (arith, sorts) in
    let log : p.depth * p.layout.args ≡ depth_of f * fold_args f = ap (λ k. k * p.layout.args) (depth_is f p.depth h.depth)
    ∙ ap (λ a. depth_of f * a) h.layout.args in
    let fits = map_fits (algebra_of f) (fold_states f) (linear_rank p) size own few in record {
      args = h.layout.args;
      state = states;
      entry = omega (arith, log, sorts, fits);
      initial = h.layout.initial;
      row_per_epoch = sym (ap per_epoch (sym h.class ∙ e));
      step = h.code.step;
      folded = λ rows. ap (λ s. fold (code_step p.code) s rows) h.layout.initial
          ∙ code_folds f p.code h.code (initial_state f) rows h.valid.starts;
      «open» = omega (arith, log, sorts, fits);
      absorb =
          omega (
            arith,
            log,
            composed_fit (algebra_of f) (fold_states f) (linear_rank p) (f.nodes + 4 * f.statements + 1) (p.depth * p.layout.args) size
                (rows_steps p.rows) own few h.rows.steps,
            run_fit (algebra_of f) (fold_states f) (linear_rank p) (history_words p) (f.nodes + 4 * f.statements + 1)
                (p.depth * p.layout.args) size (code_steps p.code) own sorts h.code.steps,
          );
    }

pub linear_merged : (f : TypedFold) (p : FoldProgram) → IsProgramOf f p → linear_merge p ≤ merge_bound f
linear_merged f p h =
    let sorts : linear_rank p + history_words p ≡ fold_states f = omega
    (arith, ap (λ l. length l) h.layout.linear, ap (λ l. length l) h.layout.history, both_sorts (is_history f) (fold_states f)) in
    let few : linear_rank p ≤ fold_states f = omega (arith, sorts) in
    let runs : p.depth * code_steps p.code ≡ depth_of f * code_steps p.code =
    ap (λ k. k * code_steps p.code) (depth_is f p.depth h.depth) in
    omega (
      arith,
      sorts,
      runs,
      mul-le-mul_left (depth_of f) h.code.steps,
      mul-le-mul_left (linear_rank p) few,
      mul-le-mul_right
          (fold_states f) few,
    )

-- the rows of a linear program write elements of its algebra
writes_by : {C : Type 0} (k : Elements C) (from_words : List ℕ → C) (p : FoldProgram) (a : Algebra) → IsAlgebraOf a k
    → k.to_word k.zero ≡ 0 → ((f : TypedFold) → WritesAlgebra a f p.rows → WritesElements k from_words (element_size a) f p.rows)
    → IsProgram p → p.class ≡ Linear → p.algebra ≡ a → WritesInto k from_words (element_size a) p
writes_by k from_words p a is zero_word same sound linear e = record {
  algebra = rw e is;
  zero_word = zero_word;
  sized = ∥∥₁_elim sound (ℕ_set _ _) (λ (f, h). ap element_size (h.rows.algebra ∙ sym h.algebra ∙ e));
  writes = λ f h. same f (subst (λ b. WritesAlgebra b f p.rows) (sym h.algebra ∙ e) (h.rows.writes (sym h.class ∙ linear)));
}

pub writes_sums : (p : FoldProgram) → IsProgram p → p.class ≡ Linear → p.algebra ≡ Sums → WritesInto sums wrapping_from_words 1 p
writes_sums p sound linear e = writes_by sums wrapping_from_words p Sums sums_are refl (λ f w. w) sound linear e

pub writes_maxima : (p : FoldProgram) → IsProgram p → p.class ≡ Linear → p.algebra ≡ Maxima → WritesInto maxima max_plus_from_words 2 p
writes_maxima p sound linear e = writes_by maxima max_plus_from_words p Maxima maxima_are refl (λ f w. w) sound linear e

-- an entry with its key has few words
words_fit : (a : Algebra) (n k args key : ℕ) → n ≤ MAX_STATES → k ≤ n → args ≤ MAX_ARGS → (a ≡ Maxima → k < n) → key ≤ MAX_KEYS → key
    + (element_size a * n * (n + 1) + n + k * args + 2) ≤ 274
words_fit Sums n k args key hn hk ha few hkey =
    let le : k ≤ MAX_STATES = omega arith in
    omega (arith, square n _ hn, mul-le-mul_right args le)
words_fit Maxima n k args key hn hk ha few hkey =
    let less = few refl in
    let le : k ≤ 7 = omega arith in
    omega (arith, square n _ hn, mul-le-mul_right args le)

pub entry_fits : (f : TypedFold) (key : ℕ) → IsValidFold f → key ≤ MAX_KEYS → key + entry_bound f ≤ 274
entry_fits f key valid h =
    let deep = depth_found_is f in
    words_fit _ _ _ _ _ valid.states
    (deep.least (fold_states f) (λ v lt w. history_rounds f v lt w)) valid.args (λ e. maxima_depth f _ e deep) h
