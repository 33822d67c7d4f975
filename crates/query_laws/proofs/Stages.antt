-- No stream is refused exactly where no operation is deeper than 64.
use Rattle.std.proofs.Common.{◌≡◌, ℕ, ◌≤◌, false, ◌||◌, cond, List, [], ◌∷◌, ◌++◌, Option, Some, None, refl, sym, ap, subst, ◌∙◌}
use Rattle.std.proofs.{Common.{append_assoc, append-nil, arith}, lemmas.Bool.or_parts}
use Rattle.std.proofs.lemmas.List.Elements.{All-nil, All-cons, All-head, All-tail, All-append}
use Rattle.std.specs.Prelude.{All, drop, fold, flat_map, nat_lt}
use Rattle.stage_plan.specs.Depths.{StreamDepths, packet_depths, depths_made, all_depths, is_too_deep, first_too_deep, stage_fault}
use Rattle.query_laws.proofs.{Terms.{OverLimit, Stages, QueryFault, TypedFold, TypedQuery, TypedStream, MAX_STAGES}, Steps.by_cond}
use Rattle.query_laws.specs.ByRules.{FitsStages}

abbrev Fits : ℕ → Type 0
Fits depth = depth ≤ MAX_STAGES

abbrev operations : List StreamDepths → List ℕ
operations streams = flat_map (λ (one : StreamDepths). one.operations) streams

-- the depths of the streams after these
abbrev beyond : List TypedFold → List StreamDepths → List TypedStream → List StreamDepths
beyond _ _ [] = []
beyond folds depths (one ∷ list) = depths_made folds depths one.op ∷ beyond folds (depths ++ depths_made folds depths one.op ∷ []) list

-- ---- lists

all_front : (xs ys : List ℕ) → All Fits (xs ++ ys) → All Fits xs
all_front [] _ h = All-nil Fits
all_front (x ∷ xs) ys h = All-cons Fits x xs (All-head Fits x (xs ++ ys) h) (all_front xs ys (All-tail Fits x (xs ++ ys) h))

all_back : (xs ys : List ℕ) → All Fits (xs ++ ys) → All Fits ys
all_back [] _ h = h
all_back (x ∷ xs) ys h = all_back xs ys (All-tail Fits x (xs ++ ys) h)

not_deep : {depth : ℕ} → nat_lt MAX_STAGES depth ≡ false → depth ≤ MAX_STAGES
not_deep e = grind arith

is_fit : {depth : ℕ} → depth ≤ MAX_STAGES → nat_lt MAX_STAGES depth ≡ false
is_fit h = grind arith

shallow_fits : (depths : List ℕ) → is_too_deep depths ≡ false → All Fits depths
shallow_fits [] e = All-nil Fits
shallow_fits (depth ∷ depths) e =
    let parts = or_parts (nat_lt MAX_STAGES depth) _ e in All-cons Fits depth depths (not_deep parts.0) (shallow_fits depths parts.1)

fits_shallow : (depths : List ℕ) → All Fits depths → is_too_deep depths ≡ false
fits_shallow [] h = refl
fits_shallow (depth ∷ depths) h = ap (λ b. b || is_too_deep depths) (is_fit (All-head Fits depth depths h))
    ∙ fits_shallow depths (All-tail Fits depth depths h)

-- ---- streams

all_after : (folds : List TypedFold) (depths : List StreamDepths) (list : List TypedStream)
    → fold (λ streams one. streams ++ depths_made folds streams one.op ∷ []) depths list ≡ depths ++ beyond folds depths list
all_after _ depths [] = sym (append-nil depths)
all_after folds depths (one ∷ list) = all_after folds (depths ++ depths_made folds depths one.op ∷ []) list
    ∙ append_assoc depths (depths_made folds depths one.op ∷ []) (beyond folds (depths ++ depths_made folds depths one.op ∷ []) list)

depths_are : (q : TypedQuery) → all_depths q ≡ packet_depths ∷ beyond q.folds (packet_depths ∷ []) q.streams
depths_are q = all_after q.folds (packet_depths ∷ []) q.streams

some_deep : {P : Type 0} {fault : QueryFault} → (let o : Option QueryFault = Some fault in o) ≡ None → P
some_deep e = cc e

none_deep : (folds : List TypedFold) (depths : List StreamDepths) (list : List TypedStream)
    → first_too_deep list (beyond folds depths list) ≡ None → All Fits (operations (beyond folds depths list))
none_deep _ _ [] e = All-nil Fits
none_deep folds depths (one ∷ list) e =
    let made : StreamDepths = depths_made folds depths one.op in
    by_cond (is_too_deep made.operations) e (λ _ k. some_deep k) (λ is k. All-append Fits made.operations
    (operations (beyond folds (depths ++ made ∷ []) list)) (shallow_fits made.operations is) (none_deep folds (depths ++ made ∷ []) list k))

all_fit : (folds : List TypedFold) (depths : List StreamDepths) (list : List TypedStream) → All Fits (operations (beyond folds depths list))
    → first_too_deep list (beyond folds depths list) ≡ None
all_fit _ _ [] h = refl
all_fit folds depths (one ∷ list) h =
    let made : StreamDepths = depths_made folds depths one.op in
    let rest : List StreamDepths = beyond folds (depths ++ made ∷ []) list in
    ap (λ b. cond b (Some (record { kind = OverLimit Stages; span = one.name.span })) (first_too_deep list rest))
    (fits_shallow made.operations (all_front made.operations (operations rest) h))
    ∙ all_fit folds (depths ++ made ∷ []) list (all_back made.operations (operations rest) h)

pub fits_stages : (q : TypedQuery) → stage_fault q ≡ None → FitsStages q
fits_stages q e = subst (λ z. All Fits (operations z)) (sym (depths_are q)) (none_deep q.folds (packet_depths ∷ []) q.streams
    (sym (ap (λ z. first_too_deep q.streams (drop 1 z)) (depths_are q)) ∙ e))

pub no_stage_fault : (q : TypedQuery) → FitsStages q → stage_fault q ≡ None
no_stage_fault q h = ap (λ z. first_too_deep q.streams (drop 1 z)) (depths_are q)
    ∙ all_fit q.folds (packet_depths ∷ []) q.streams (subst (λ z. All Fits (operations z)) (depths_are q) h)
