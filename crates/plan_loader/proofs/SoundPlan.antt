-- The plan of what a valid text makes is sound, with the sizes that the text gives.
use Rattle.std.proofs.Common.{◌≡◌, ℕ, zero, suc, ◌+◌, List, [], ◌∷◌, ◌++◌, length, map, Some, None, refl, sym, ap, ap₂, ◌∙◌, subst, arith}
use Rattle.std.proofs.lemmas.List.{length-map, Elements.{All-get_or, All-head, All-tail, All-weaker}}
use Rattle.std.proofs.lemmas.Option.{get_or_from_slice_get, same_Some, slice_get-map, slice_get_within}
use Rattle.std.specs.{Prelude.{slice_get, option_map, All}, List.AllZip}
use Rattle.marple_base.specs.declared.field.TheConstants.{FIELDS}
use Rattle.fold_class.specs.Kinds.{algebra_of}
use Rattle.stage_plan.specs.{declared.{group.GroupPlan.GroupPlan, op.PlanOp.PlanOp}, Planned.shape_of, Registers.stages_of}
use Rattle.stage_plan.specs.Shape.{GroupShape, PlanShape, group_shape, sizes_of}
use Rattle.stage_plan.specs.Sound.{PlanParts, AreSoundOps, IsSoundGroup, IsSoundPlan}
use Rattle.plan_file.specs.declared.made.{Folded.Folded, Made.Made}
use Rattle.plan_loader.specs.Meaning.{fold_in, shape_in, text_shape, wiring_in}
use Rattle.plan_loader.specs.Parts.{AreGroupsFrom, IsGroupFrom, IsPlanFrom, IsSoundFolded, IsSoundMade, IsWhole}
use Rattle.plan_loader.proofs.Folds.{algebras, classes, depths, fold_in_is}

-- the first of the items of two lists at one place
pub zip_at : {A B : Type 0} (R : A → B → Type 0) (xs : List A) (ys : List B) (i : ℕ) (y : B) → AllZip R xs ys → slice_get ys i ≡ Some y
    → (x : A) × (slice_get xs i ≡ Some x) × R x y
zip_at R [] [] i y z e = absurd (none_some e)
  where
    none_some : {X : Type 0} {x : X} → None ≡ Some x → ⊥
    none_some e = cc
zip_at R [] (b ∷ ys) i y z e = absurd z
zip_at R (a ∷ xs) [] i y z e = absurd z
zip_at R (a ∷ xs) (b ∷ ys) zero y z e = (a, refl, subst (R a) (same_Some b y e) z.0)
zip_at R (a ∷ xs) (b ∷ ys) (suc i) y z e = zip_at R xs ys i y z.1 e

zip_length : {A B : Type 0} (R : A → B → Type 0) (xs : List A) (ys : List B) → AllZip R xs ys → length xs ≡ length ys
zip_length R [] [] z = refl
zip_length R [] (b ∷ ys) z = absurd z
zip_length R (a ∷ xs) [] z = absurd z
zip_length R (a ∷ xs) (b ∷ ys) z = ap suc (zip_length R xs ys z.1)

pub zip_push : {A B : Type 0} (R : A → B → Type 0) (xs : List A) (ys : List B) (x : A) (y : B) → AllZip R xs ys → R x y
    → AllZip R (xs ++ x ∷ []) (ys ++ y ∷ [])
zip_push R [] [] x y z r = (r, z)
zip_push R [] (b ∷ ys) x y z r = absurd z
zip_push R (a ∷ xs) [] x y z r = absurd z
zip_push R (a ∷ xs) (b ∷ ys) x y z r = (z.0, zip_push R xs ys x y z.1 r)

pub all_at : {A : Type 0} (P : A → Type 0) (xs : List A) (i : ℕ) (x : A) → All P xs → slice_get xs i ≡ Some x → P x
all_at P xs i x all e = subst P (get_or_from_slice_get xs i x x e) (All-get_or P xs i x (slice_get_within xs i x e) all)

sound_group : (registers : ℕ) (one : Folded) (group : GroupPlan) → IsSoundFolded registers one → IsGroupFrom one group
    → IsSoundGroup registers group (wiring_in one)
sound_group registers one group s from =
    let keys : length group.key_names ≡ length one.group.keys = ap length from.key_names ∙ s.key_names in
    let some = s.some_keys in
    let most = s.most_keys in
    let states : length group.state_names ≡ length one.group.initial = ap length from.state_names ∙ s.state_names in
    let most_states = s.most_states in
    let is = from.is_fold.is_fold in
    record {
      program = ∣ (from.fold, from.program) ∣₁;
      some_keys = omega arith;
      most_keys = omega arith;
      most_states = omega arith;
      states = states ∙ ap length (sym is.initial) ∙ ap length (sym from.program.layout.initial);
      keys = sym keys;
      args = sym is.args ∙ sym from.program.layout.args;
      most_args = s.most_args;
      present = s.present;
      key_registers = s.key_registers;
      arg_registers = s.arg_registers;
    }

pub sound_plan : (made : Made) (plan : PlanParts) → IsSoundMade made → IsPlanFrom made plan → IsSoundPlan plan
sound_plan made plan sound from =
    let count = zip_length IsGroupFrom made.groups plan.groups from.groups in
    let most = sound.most_groups in
    let wires : length plan.wiring ≡ length made.groups = ap length from.wiring ∙ length-map made.groups wiring_in in
    record {
      ops = subst AreSoundOps (sym from.ops) sound.ops;
      most_groups = omega (arith, count, most);
      wired = wires ∙ count;
      each = λ i group wiring at_group at_wiring.
          let one = zip_at IsGroupFrom made.groups plan.groups i group from.groups at_group in
          let wired : wiring_in one.0 ≡ wiring = same_Some (wiring_in one.0) wiring
          (ap (option_map wiring_in) (sym one.1) ∙ sym (slice_get-map wiring_in made.groups i)
          ∙ ap (λ w. slice_get w i) (sym from.wiring) ∙ at_wiring) in
          let s = all_at (IsSoundFolded (FIELDS + length made.ops)) made.groups i one.0 sound.groups one.1 in
          let g = sound_group (FIELDS + length made.ops) one.0 group s one.2 in
          subst (λ ops. IsSoundGroup (FIELDS + length ops) group wiring) (sym from.ops)
          (subst (IsSoundGroup (FIELDS + length made.ops) group) wired g);
    }

-- a groupby has the sizes of its group
pub shape_same : (registers : ℕ) (one : Folded) (group : GroupPlan) → IsSoundFolded registers one → IsGroupFrom one group
    → group_shape group ≡ shape_in one
shape_same registers one group s from =
    let is = from.is_fold.is_fold in
    let program = from.program in
    let name = from.name in
    let keys = from.key_names in
    let states = from.state_names in
    let class : group.program.class ≡ one.class = program.class ∙ classes one.group from.fold s.fold is s.is_fold ∙ sym s.class in
    let algebra : group.program.algebra ≡ algebra_of (fold_in one) = program.algebra
    ∙ algebras one.group from.fold (fold_in one) is (fold_in_is one from.fold is) in
    let depth : group.program.depth ≡ one.depth = depths one.group from.fold s.fold is s.is_fold group.program.depth one.depth program.depth
    s.depth in
    let args : group.program.layout.args ≡ length one.group.args = program.layout.args ∙ is.args in
    let nodes : group.program.layout.nodes ≡ one.nodes = program.layout.nodes ∙ from.is_fold.nodes in
    let statements : group.program.layout.statements ≡ one.statements = program.layout.statements ∙ from.is_fold.statements in
    cc

shapes_same : (registers : ℕ) (groups : List Folded) (plans : List GroupPlan) → All (IsSoundFolded registers) groups
    → AreGroupsFrom groups plans → map group_shape plans ≡ map shape_in groups
shapes_same registers [] [] all from = refl
shapes_same registers [] (p ∷ plans) all from = absurd from
shapes_same registers (g ∷ groups) [] all from = absurd from
shapes_same registers (g ∷ groups) (p ∷ plans) all from =
    ap₂ (λ x xs. x ∷ xs) (shape_same registers g p (All-head (IsSoundFolded registers) g groups all) from.0)
    (shapes_same registers groups plans (All-tail (IsSoundFolded registers) g groups all) from.1)

pub shape_is : (made : Made) (plan : PlanParts) → IsSoundMade made → IsPlanFrom made plan → shape_of plan ≡ text_shape made
shape_is made plan sound from =
    let groups = shapes_same (FIELDS + length made.ops) made.groups plan.groups sound.groups from.groups in
    let make : List PlanOp → List GroupShape → PlanShape = λ ops shapes. record
    { operations = length ops; stage_sizes = sizes_of (stages_of ops) (map (λ (one : PlanOp). one.stage) ops); groups = shapes } in
    ap (λ ops. make ops (map group_shape plan.groups)) from.ops ∙ ap (make made.ops) groups

pub all_whole : (made : Made) → IsSoundMade made → All IsWhole made.groups
all_whole made sound = All-weaker (IsSoundFolded (FIELDS + length made.ops)) IsWhole
    (λ one s. record { registers = FIELDS + length made.ops; sound = s }) made.groups sound.groups
