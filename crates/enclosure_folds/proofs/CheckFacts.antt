-- The groupbys of a query and those of its plan, one by one.
use Rattle.std.proofs.Common.{◌≡◌, ℕ, zero, suc, ◌+◌, ◌<◌, Bool, true, false, if◌then◌else◌, List, [], ◌∷◌, length, get_or, drop, Some}
use Rattle.std.proofs.{Common.{None, Option, refl, sym, ap, ◌∙◌, arith}, lemmas.List.drop_more}
use Rattle.std.specs.{Prelude.{is_some, slice_get, option_map, option_and_then}, List.cons_option}
use Rattle.query_lang.specs.declared.{fault.{FaultKind.TheVariants.NotMonotone, QueryFault.QueryFault}, query.Name.Name}
use Rattle.query_lang.specs.declared.{fold.TypedFold.TypedFold, typed.{TypedQuery.TypedQuery, TypedStream.TypedStream}}
use Rattle.query_lang.specs.Streams.{Taking, taking_of, takings}
use Rattle.fold_class.specs.Kinds.{class_of}
use Rattle.stage_plan.specs.{declared.group.GroupPlan.GroupPlan, Planned.{IsPlanOf, fold_at}, Sound.PlanParts}
use Rattle.enclosure_folds.specs.Check.{is_bounded, fold_fault, stream_fault, or_else, first_fault, NoFaultMeansBounds}

pub record Stands {A : Type 0} (xs : List A) (n : ℕ) (x : A) (rest : List A) : Type 0 where
  pub found : slice_get xs n ≡ Some x
  pub within : n < length xs
  pub next : drop (n + 1) xs ≡ rest

pub stands : {A : Type 0} (xs : List A) (n : ℕ) (x : A) (rest : List A) → drop n xs ≡ x ∷ rest → Stands xs n x rest
stands [] zero x rest e = absurd (omega (arith, ap length e))
stands [] (suc n) x rest e = absurd (omega (arith, ap length e))
stands (y ∷ ys) zero x rest e = record { found = ap (λ l. slice_get l 0) e; within = omega arith; next = ap (λ l. drop 1 l) e }
stands (y ∷ ys) (suc n) x rest e =
    let later = stands ys n x rest e in
    let on : suc n + 1 ≡ suc (n + 1) = omega arith in
    record { found = later.found; within = omega (arith, later.within); next = ap (λ k. drop k (y ∷ ys)) on ∙ later.next }

-- what is known of a stream that is a groupby, with the fold that has this number
pub record IsGroupby (q : TypedQuery) (p : PlanParts) (xs : List TypedStream) (i : ℕ) (one : TypedStream) (group number : ℕ) : Type 0 where
  pub within : group < length p.groups
  pub class : (f : TypedFold) (planned : GroupPlan) → slice_get q.folds number ≡ Some f → slice_get p.groups group ≡ Some planned
      → planned.program.class ≡ class_of f
  pub groups : drop (group + 1) (takings q.streams) ≡ takings (drop (i + 1) xs)
  pub fault : first_fault q.folds (drop i xs) ≡ or_else (fold_fault one.name (slice_get q.folds number))
      (first_fault q.folds (drop (i + 1) xs))

pub not_some : {A : Type 0} (o : Option A) → is_some o ≡ false → o ≡ None
not_some None e = refl
not_some (Some x) e = absurd cc

module _ (q : TypedQuery) (p : PlanParts) (plan : IsPlanOf q p) (xs : List TypedStream) (i : ℕ) (one : TypedStream) (lt : i < length xs)
    (is : one ≡ get_or xs i one) (group : ℕ)
    (groups : drop group (takings q.streams) ≡ takings (drop i xs)) where
  here : drop i xs ≡ one ∷ drop (i + 1) xs
  here = drop_more xs i one lt ∙ ap (λ z. z ∷ drop (i + 1) xs) (sym is)

  first : first_fault q.folds (drop i xs) ≡ or_else (stream_fault q.folds one) (first_fault q.folds (drop (i + 1) xs))
  first = ap (first_fault q.folds) here

  split : drop group (takings q.streams) ≡ cons_option (taking_of one.op) (takings (drop (i + 1) xs))
  split = groups ∙ ap takings here

  taken : (number : ℕ) (t : Taking) → taking_of one.op ≡ Some t → t.fold_number ≡ number → IsGroupby q p xs i one group number
  taken number t e same =
      let at = stands (takings q.streams) group t (takings (drop (i + 1) xs))
      (split ∙ ap (λ o. cons_option o (takings (drop (i + 1) xs))) e) in record {
        within = omega (arith, at.within, plan.groups);
        class = λ f planned found there.
            let fold : fold_at q group ≡ Some f = ap (option_and_then (λ t. slice_get q.folds t.fold_number)) at.found
            ∙ (ap (slice_get q.folds) same ∙ found) in
            (plan.programs group f planned fold there).class;
        groups = at.next;
        fault =
            first
            ∙ ap (λ o. or_else (fold_fault one.name (option_and_then (λ t. slice_get q.folds t.fold_number) o))
            (first_fault q.folds (drop (i + 1) xs))) e
            ∙ ap (λ n. or_else (fold_fault one.name (slice_get q.folds n)) (first_fault q.folds (drop (i + 1) xs))) same;
      }

  pub is_groupby : (number : ℕ) → Some number ≡ option_map (λ t. t.fold_number) (taking_of one.op) → IsGroupby q p xs i one group number
  is_groupby number e = go _ refl e
    where
      go : (o : Option Taking) → taking_of one.op ≡ o → Some number ≡ option_map (λ t. t.fold_number) o
          → IsGroupby q p xs i one group number
      go None known none = absurd cc
      go (Some t) known some = taken _ t known (sym cc)

  pub other_groups : None ≡ option_map (λ t. t.fold_number) (taking_of one.op) → drop group (takings q.streams) ≡ takings (drop (i + 1) xs)
  other_groups e = go _ refl e
    where
      go : (o : Option Taking) → taking_of one.op ≡ o → None ≡ option_map (λ t. t.fold_number) o
          → drop group (takings q.streams) ≡ takings (drop (i + 1) xs)
      go None known none = split ∙ ap (λ o. cons_option o (takings (drop (i + 1) xs))) known
      go (Some t) known some = absurd cc

  pub other_fault : None ≡ option_map (λ t. t.fold_number) (taking_of one.op)
      → first_fault q.folds (drop i xs) ≡ first_fault q.folds (drop (i + 1) xs)
  other_fault e = go _ refl e
    where
      go : (o : Option Taking) → taking_of one.op ≡ o → None ≡ option_map (λ t. t.fold_number) o
          → first_fault q.folds (drop i xs) ≡ first_fault q.folds (drop (i + 1) xs)
      go None known none = first ∙ ap (λ o. or_else (fold_fault one.name (option_and_then (λ t. slice_get q.folds t.fold_number) o))
          (first_fault q.folds (drop (i + 1) xs))) known
      go (Some t) known some = absurd cc

-- a groupby without a fault

none_first : (a b : Option QueryFault) → or_else a b ≡ None → a ≡ None
none_first None b e = refl
none_first (Some x) b e = absurd cc

none_later : (a b : Option QueryFault) → or_else a b ≡ None → b ≡ None
none_later None b e = e
none_later (Some x) b e = absurd cc

bounded : (name : Name) (f : TypedFold) → fold_fault name (Some f) ≡ None → is_bounded (class_of f) f ≡ true
bounded name f e = go _ e
  where
    go : (b : Bool) → if◌then◌else◌ {A = Option QueryFault} b None (Some (record { kind = NotMonotone; span = name.span })) ≡ None
        → b ≡ true
    go true e = refl
    go false e = absurd cc

all_bounded : (folds : List TypedFold) (streams : List TypedStream) → first_fault folds streams ≡ None
    → (i : ℕ) (f : TypedFold) → option_and_then (λ t. slice_get folds t.fold_number) (slice_get (takings streams) i) ≡ Some f
    → is_bounded (class_of f) f ≡ true
all_bounded folds [] e i f has = absurd cc
all_bounded folds (one ∷ streams) e i f has = go _ refl
    (λ j h. all_bounded folds streams (none_later _ _ e) j f h) i has
  where
    here : stream_fault folds one ≡ None
    here = none_first _ _ e

    go : (o : Option Taking) → taking_of one.op ≡ o → ((j : ℕ) → option_and_then (λ t. slice_get folds t.fold_number)
        (slice_get (takings streams) j) ≡ Some f → is_bounded (class_of f) f ≡ true)
        → (j : ℕ) → option_and_then (λ t. slice_get folds t.fold_number) (slice_get (cons_option o (takings streams)) j) ≡ Some f
        → is_bounded (class_of f) f ≡ true
    go None known later j h = later j h
    go (Some t) known later zero h =
        bounded one.name f (ap (fold_fault one.name) (sym h) ∙ ap (λ o. fold_fault one.name
        (option_and_then (λ t. slice_get folds t.fold_number) o)) (sym known) ∙ here)
    go (Some t) known later (suc j) h = later j h

pub no_fault : NoFaultMeansBounds
no_fault q i f e has = all_bounded q.folds q.streams e i f has
