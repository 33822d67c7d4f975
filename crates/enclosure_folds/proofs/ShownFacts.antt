-- The table of a groupby by entries for bounds, and what is shown of it.
use Rattle.std.proofs.Common.{◌≡◌, ℕ, ◌-◌, ◌*◌, List, length, replicate, sym, ap, ◌∙◌, subst, arith, length-append, ◌++◌}
use Rattle.std.{proofs.lemmas.List.length-replicate, specs.List.All}
use Rattle.query_lang.specs.declared.{fold.TypedFold.TypedFold, typed.Class.Class}
use Rattle.query_lang.specs.declared.typed.Class.TheVariants as class
use Rattle.query_lang.specs.Folds as Folds
use Rattle.query_lang.specs.Folds.{fold_states, initial_state, IsValidFold}
use Rattle.epoch_model.specs.{Keys.ArgRow, Epochs.{Use, Geometry}, Tables.{Folding, group_epochs}}
use Rattle.fold_class.specs.Kinds.{class_of}
use Rattle.epoch_entry.specs.{Bounds.{least_state, greatest_state, bounds_after, IsBoundsKindOf}, Foldings.folding_of, Kinds.Sizes}
use Rattle.epoch_entry.{specs.Purposes.IsBoundingKind, proofs.FoldLemmas.length-folded}
use Rattle.final_queries.specs.{declared.table.TableKind.TheVariants.Group, FinalLaws.{AlikeFoldingsMakeOneTable, GroupTablesAreRead}}
use Rattle.final_queries.specs.GroupTable.{Heading, group_table}
use Rattle.enclosure_folds.specs.declared.table.Enclosed.TheVariants as enclosed
use Rattle.enclosure_folds.specs.KeyBounds.{HasTriples, states_in, enclosed_by}
use Rattle.enclosure_folds.{specs.Shown.{shown_by, MayBeShownBy, IsHeadingOf, TablesGiveBounds}, proofs.RowFacts.give_bounds}

pub long_bounds : (f : TypedFold) → IsValidFold f → (rows : List ArgRow) → length (bounds_after f rows) ≡ 3 * fold_states f
long_bounds f valid rows =
    let a = Folds.folded f (initial_state f) rows in
    let b = Folds.folded f (least_state f) rows in
    let c = Folds.folded f (greatest_state f) rows in
    let la : length a ≡ fold_states f = length-folded f _ rows ∙ valid.starts in
    let lb : length b ≡ fold_states f = length-folded f _ rows ∙ length-replicate {A = ℕ} (fold_states f) 0 in
    let lc : length c ≡ fold_states f = length-folded f _ rows ∙ length-replicate {A = ℕ} (fold_states f) _ in
    omega (arith, length-append a (b ++ c), length-append b c, la, lb, lc)

module _ (alike : AlikeFoldingsMakeOneTable) (read : GroupTablesAreRead) (heading : Heading) (f : TypedFold) (sizes : Sizes)
    (folding : Folding) (opening absorbing : ℕ) (g : Geometry) (uses : List Use)
    (is : IsHeadingOf f heading) where
  by_class : (c : Class) → IsBoundingKind c f sizes folding opening absorbing
      → shown_by (Group c heading.depth (group_epochs g uses)) (group_table heading folding g uses) ≡ enclosed_by c heading f g uses
  by_class class.Linear kind = ap enclosed.Linear (alike.by_uses heading folding (folding_of f) g uses
      (record { row_per_epoch = kind.row_per_epoch; states = λ rows. kind.folded rows }))
  by_class class.Other kind = ap enclosed.Bounds (give_bounds heading f sizes folding opening absorbing g uses kind is.states)

  pub shown_is : IsBoundingKind (class_of f) f sizes folding opening absorbing
      → shown_by (Group heading.class heading.depth (group_epochs g uses)) (group_table heading folding g uses) ≡ enclosed_by (class_of f)
      heading f g uses
  shown_is kind = ap (λ c. shown_by (Group c heading.depth (group_epochs g uses)) (group_table heading folding g uses)) is.class
      ∙ by_class _ kind

  module _ (valid : IsValidFold f) (keys : All (λ u. length u.key ≡ length heading.key_names) uses) where
    -- a heading with a name for each word of three states
    abbrev wide : Heading
    wide = record heading { state_names = replicate (3 * fold_states f) heading.name }

    triples : IsBoundsKindOf f sizes folding opening absorbing → HasTriples (group_table heading folding g uses)
    triples kind =
        let names = length-replicate (3 * fold_states f) heading.name in
        let table = read wide folding g uses keys (λ rows. ap length (kind.folded rows)
        ∙ (long_bounds f valid rows ∙ sym names)) in
        let t = group_table heading folding g uses in
        let others : length (heading.key_names ++ wide.state_names) - length heading.key_names ≡ 3 * states_in t =
        omega (
          arith,
          length-append heading.key_names wide.state_names,
          length-append heading.key_names heading.state_names,
          names,
          is.states,
        ) in record {
          keys = omega (arith, length-append heading.key_names heading.state_names);
          rows = rw others at table.rows;
        }

    may_by : (c : Class) → IsBoundingKind c f sizes folding opening absorbing
        → MayBeShownBy (Group c heading.depth (group_epochs g uses)) (group_table heading folding g uses)
    may_by class.Linear kind = tt
    may_by class.Other kind = record { triples = triples kind; some_keys = is.some_keys; most_keys = is.most_keys }

    pub may_be : IsBoundingKind (class_of f) f sizes folding opening absorbing
        → MayBeShownBy (Group heading.class heading.depth (group_epochs g uses)) (group_table heading folding g uses)
    may_be kind = subst (λ c. MayBeShownBy (Group c heading.depth (group_epochs g uses)) (group_table heading folding g uses))
        (sym is.class) (may_by (class_of f) kind)

pub give : AlikeFoldingsMakeOneTable → GroupTablesAreRead → TablesGiveBounds
give alike read = record {
  shown = λ heading f sizes folding opening absorbing g uses kind is. shown_is alike read heading f sizes folding opening absorbing g uses
      is kind;
  may = λ heading f sizes folding opening absorbing g uses kind is valid keys. may_be alike read heading f sizes folding opening absorbing g
      uses is valid keys kind;
}
