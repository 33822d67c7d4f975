-- The groupby of a stream has the shape that the query gives it.
use Rattle.std.proofs.Common.{◌≡◌, ℕ, zero, suc, ◌+◌, ◌<◌, ◌≤◌, Bool, true, false, List, [], ◌∷◌, ◌++◌, length, get_or, drop, Some, None}
use Rattle.std.proofs.Common.{Option, refl, sym, ap, subst, ◌∙◌, inl, inr, arith, append_assoc, append-nil, length-drop}
use Rattle.std.proofs.lemmas.{List.{map-append, length-map, drop_more, drop_all, length_push}, Bool.cases_eq}
use Rattle.std.proofs.lemmas.Option.{same_Some, slice_get_within, get_or_from_slice_get}
use Rattle.std.specs.{Prelude.{All, map, filter_map, slice_get, option_map, option_to_list, if◌then◌else◌}, List.cons_option}
use Rattle.query_lang.specs.declared.{fold.TypedFold.TypedFold, typed.{TypedQuery.TypedQuery, TypedStream.TypedStream}}
use Rattle.query_lang.specs.{Folds.{IsValidFold, fold_args, fold_states}, Streams.{Taking, taking_of, takings}}
use Rattle.query_lang.specs.declared.fault.TheConstants.{MAX_KEYS}
use Rattle.fold_class.specs.{Depth.{IsDepth, is_enough, least_from, depth_of}, Program.IsProgramOf}
use Rattle.fold_class.proofs.DepthLemmas.{depth_found, covered_last}
use Rattle.stage_plan.{proofs.Lists.{push_cases, stands_at}, specs.declared.group.GroupPlan.GroupPlan}
use Rattle.stage_plan.specs.Shape.{GroupShape, text_at, shape_with, group_shape}
use Rattle.stage_plan.specs.Grouping.{IsGroupShape, IsGroupFor, IsGroupOf, AreGroupsOf}

found_from : (f : TypedFold) (tries d : ℕ) → ((e : ℕ) → e < d → is_enough f e ≡ false) → is_enough f (d + tries) ≡ true
    → IsDepth f (least_from f tries d)
found_from f zero d before enough = let same : d + 0 ≡ d = omega arith in depth_found f d (subst (λ n. is_enough f n ≡ true) same enough)
    before
found_from f (suc tries) d before enough = pick _ refl (found_from f tries _)
  where
    pick : (b : Bool) → is_enough f d ≡ b → (((e : ℕ) → e < suc d → is_enough f e ≡ false) → is_enough f (suc d + tries) ≡ true
        → IsDepth f (least_from f tries (suc d))) → IsDepth f (if b then d else least_from f tries (suc d))
    pick true now _ = depth_found f d now before
    pick false now later =
        let same : d + suc tries ≡ suc d + tries = omega arith in
        later (λ e lt. elim (cases_eq e d) [
          | inl here ↦ rw here now
          | inr other ↦ before e (omega arith)
        ]) (subst (λ n. is_enough f n ≡ true) same enough)

pub depth_is : (f : TypedFold) (d : ℕ) → IsDepth f d → d ≡ depth_of f
depth_is f d h =
    let found = found_from f (fold_states f) 0 (λ e lt. absurd (omega arith))
    (let all : 0 + fold_states f ≡ fold_states f = omega arith in rw all (covered_last f)) in
    omega (arith, h.least (depth_of f) found.enough, found.least d h.enough)

pub shape_is : (names : List (List ℕ)) (one : TypedStream) (args : ℕ) (f : TypedFold) (group : GroupPlan) → IsProgramOf f group.program →
    group.name ≡ text_at names one.name.id → group.key_names ≡ map (text_at names) one.columns
    → group.state_names ≡ map (text_at names) f.state_names →
    length f.arg_names ≡ args → group_shape group ≡ shape_with names one.name.id one.columns args f
shape_is names one args f group is name keys states count =
    let class = is.class in
    let algebra = is.algebra in
    let depth = depth_is f _ is.depth in
    let row = is.layout.args ∙ count in
    let nodes = is.layout.nodes in
    let statements = is.layout.statements in
    cc

-- a fold that takes this many arguments
pub args_are : (folds : List TypedFold) (number args : ℕ) (f : TypedFold) → slice_get folds number ≡ Some f
    → option_map fold_args (slice_get folds number) ≡ Some args → length f.arg_names ≡ args
args_are _ _ args f found all = same_Some (fold_args f) args (sym (ap (option_map fold_args) found) ∙ all)

pub of_found : (P : TypedFold → Type 0) (folds : List TypedFold) (number : ℕ) (f : TypedFold) → All P folds
    → slice_get folds number ≡ Some f → P f
of_found P folds number f all found = subst P (get_or_from_slice_get folds number f f found)
    (all number f (slice_get_within folds number f found))

pub fitting_shape : (q : TypedQuery) (one : TypedStream) (number args : ℕ) (f : TypedFold) (group : GroupPlan)
    → slice_get q.folds number ≡ Some f → IsProgramOf f group.program →
    group.name ≡ text_at q.names one.name.id → group.key_names ≡ map (text_at q.names) one.columns
    → group.state_names ≡ map (text_at q.names) f.state_names → length f.arg_names ≡ args → IsGroupShape q one number args group
fitting_shape q one _ args f group found is name keys states count = cc (shape_is q.names one args f group is name keys states count)

pub fitting_sound : (folds : List TypedFold) (names : List (List ℕ)) (number keys args : ℕ) (ids : List ℕ) (f : TypedFold)
    (group : GroupPlan) → slice_get folds number ≡ Some f →
    IsProgramOf f group.program → group.key_names ≡ map (text_at names) ids → group.state_names ≡ map (text_at names) f.state_names →
    0 < length ids → length ids ≤ MAX_KEYS → length ids ≡ keys → length f.arg_names ≡ args → IsGroupFor folds number keys args group
fitting_sound folds names number keys args ids f group found is key_names state_names some most count row =
    let words : length group.key_names ≡ length ids = ap length key_names ∙ length-map ids (text_at names) in
    let states : length group.state_names ≡ fold_states f = ap length state_names ∙ length-map _ _ in
    record {
      program = λ g there. subst (λ x. IsProgramOf x group.program) (same_Some f g (sym found ∙ there)) is;
      is_program = ∣ (f, is) ∣₁;
      some_keys = omega arith;
      most_keys = omega arith;
      most_states = omega (arith, states, is.valid.states);
      states = states ∙ (sym is.valid.starts ∙ ap length (sym is.layout.initial));
      keys = words ∙ count;
      args = is.layout.args ∙ row;
      most_args = omega (arith, row, is.valid.args);
    }

pub shapes_more : (shape : TypedStream → Option GroupShape) (old : List GroupPlan) (xs : List TypedStream) (i : ℕ) (x : TypedStream)
    (o : Option GroupPlan) → i < length xs → x ≡ get_or xs i x → option_map group_shape o ≡ shape x →
    map group_shape (old ++ option_to_list o) ++ filter_map shape (drop (i + 1) xs) ≡ map group_shape old ++ filter_map shape (drop i xs)
shapes_more shape old xs i x o lt is same = go _ front o same
  where
    front : filter_map shape (drop i xs) ≡ cons_option (shape x) (filter_map shape (drop (i + 1) xs))
    front = cc (drop_more xs i x lt)

    go : (rest : List GroupShape) → filter_map shape (drop i xs) ≡ cons_option (shape x) rest → (p : Option GroupPlan)
        → option_map group_shape p ≡ shape x →
        map group_shape (old ++ option_to_list p) ++ rest ≡ map group_shape old ++ filter_map shape (drop i xs)
    go rest f None e = cc (append-nil old)
    go rest f (Some group) e =
        cc (map-append group_shape old (group ∷ []), append_assoc (map group_shape old) (group_shape group ∷ []) rest)

-- what is kept while the groupbys are planned in turn
pub record Grouped (folds : List TypedFold) (all left : List Taking) (groups : List GroupPlan) : Type 0 where
  pub rest : drop (length groups) all ≡ left
  pub sound : AreGroupsOf folds all groups
  pub few : length groups ≤ length all

pub grouped_more : (folds : List TypedFold) (all : List Taking) (old : List GroupPlan) (xs : List TypedStream) (i : ℕ) (x : TypedStream)
    (o : Option GroupPlan) → i < length xs → x ≡ get_or xs i x →
    IsGroupOf folds (taking_of x.op) o → Grouped folds all (takings (drop i xs)) old
    → Grouped folds all (takings (drop (i + 1) xs)) (old ++ option_to_list o)
grouped_more folds all old xs i x o lt is one before = go (taking_of x.op) o refl one
  where
    front : (m : Option Taking) → taking_of x.op ≡ m → drop (length old) all ≡ cons_option m (takings (drop (i + 1) xs))
    front m e = before.rest ∙ ap takings (drop_more xs i x lt) ∙ ap (λ z. cons_option (taking_of z.op) (takings (drop (i + 1) xs))) (sym is)
        ∙ ap (λ z. cons_option z (takings (drop (i + 1) xs))) e

    go : (m : Option Taking) (p : Option GroupPlan) → taking_of x.op ≡ m → IsGroupOf folds m p
        → Grouped folds all (takings (drop (i + 1) xs)) (old ++ option_to_list p)
    go None None e h = subst (Grouped folds all (takings (drop (i + 1) xs))) (sym (append-nil old))
        (record { rest = front _ e; sound = before.sound; few = before.few })
    go (Some t) (Some group) e h =
        let at = stands_at all (length old) t (takings (drop (i + 1) xs)) (front (Some t) e) in
        let long : length (old ++ group ∷ []) ≡ length old + 1 = length_push old group in
        record {
          rest = ap (λ n. drop n all) long ∙ at.next;
          sound = λ j s g there here. elim (push_cases old group j g here) [
            | inl earlier ↦ before.sound j s g there earlier
            | inr last ↦
                let same : t ≡ s = same_Some t s (sym at.found ∙ ap (slice_get all) (sym last.0) ∙ there) in
                let P : Taking → Type 0 = λ y. IsGroupFor folds y.fold_number (length y.keys) (length y.args) g in
                subst P same (subst (λ y. IsGroupFor folds t.fold_number (length t.keys) (length t.args) y) last.1 h)
          ];
          few = omega (arith, at.within);
        }
    go None (Some group) e h = absurd h
    go (Some t) None e h = absurd h

pub all_grouped : (folds : List TypedFold) (all : List Taking) (groups : List GroupPlan) (xs : List TypedStream) (i : ℕ) → length xs ≤ i
    → Grouped folds all (takings (drop i xs)) groups → length groups ≡ length all
all_grouped _ all groups xs i le g =
    let none = ap length (g.rest ∙ ap takings (drop_all i xs le)) in
    omega (arith, none, length-drop (length groups) all, g.few)
