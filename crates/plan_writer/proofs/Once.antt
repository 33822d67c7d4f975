-- Each operation occurs once in the order of stages, and so the registers of operations are those of their places.
use Rattle.std.proofs.Common.{◌≡◌, ℕ, zero, suc, ◌+◌, ◌-◌, ◌<◌, ◌≤◌, ◌==◌, Bool, true, false, cond, eqb, List, [], ◌∷◌, length}
use Rattle.std.proofs.{Common.{get_or, Some, None, refl, sym, ap, subst, ◌∙◌, inl, inr, ◌⊎◌, arith}, lemmas.Bool.Decides.nat_tests}
use Rattle.std.proofs.lemmas.{Grind.same_number_lists, List.Sums.position_or_len_is}
use Rattle.std.proofs.lemmas.List.FromFn.{get_or-map-range_with_len, length-map-range_with_len}
use Rattle.std.{proofs.lemmas.Option.{slice_get_within, same_Some, slice_get-get_or, get_or_from_slice_get}, specs.Prelude.slice_get}
use Rattle.std.specs.List.{position_or_len}
use Rattle.marple_base.specs.declared.field.TheConstants.{FIELDS}
use Rattle.stage_plan.specs.{declared.op.PlanOp.PlanOp, Ordering.{numbers_at, order_of, IsPlaced, ArePlaced}}
use Rattle.stage_plan.proofs.Sorted.{append_cases, ordered, Has, order_has, Staged}
use Rattle.plan_writer.specs.Ordered.{register_in, registers_in}

no_item : {A : Type 0} {B : Type 0} (x : A) → None ≡ Some x → B
no_item x e = absurd (no e)
  where
    no : None ≡ Some x → ⊥
    no f = cc

-- a number of a stage, where the first operation has number n
record Numbered (ops : List PlanOp) (stage n c : ℕ) : Type 0 where
  place : ℕ
  beyond : c ≡ n + place
  one : PlanOp
  found : slice_get ops place ≡ Some one
  stage_is : one.stage ≡ stage

numbers_in : (stage n : ℕ) (ops : List PlanOp) (k c : ℕ) → slice_get (numbers_at stage n ops) k ≡ Some c → Numbered ops stage n c
numbers_in stage n [] k c e = no_item c e
numbers_in stage n (one ∷ ops) k c e = go (eqb one.stage stage) refl k (numbers_in stage (n + 1) ops) e
  where
    later : Numbered ops stage (n + 1) c → Numbered (one ∷ ops) stage n c
    later r = record { place = suc r.place; beyond = omega (arith, r.beyond); one = r.one; found = r.found; stage_is = r.stage_is }

    go : (b : Bool) → eqb one.stage stage ≡ b → (k : ℕ) → ((k c : ℕ) → slice_get (numbers_at stage (n + 1) ops) k ≡ Some c
        → Numbered ops stage (n + 1) c) →
        slice_get (cond b (n ∷ numbers_at stage (n + 1) ops) (numbers_at stage (n + 1) ops)) k ≡ Some c → Numbered (one ∷ ops) stage n c
    go true is zero rest e = let here : n ≡ c = same_Some n c e in record
        { place = 0; beyond = omega arith; one = one; found = refl; stage_is = grind (arith, nat_tests) }
    go true is (suc k) rest e = later (rest k c e)
    go false is k rest e = later (rest k c e)

-- the numbers of a stage ascend
numbers_ascend : (stage n : ℕ) (ops : List PlanOp) (i j a b : ℕ) → i < j → slice_get (numbers_at stage n ops) i ≡ Some a
    → slice_get (numbers_at stage n ops) j ≡ Some b → a < b
numbers_ascend stage n [] i j a b lt e f = no_item a e
numbers_ascend stage n (one ∷ ops) i j a b lt e f = go (eqb one.stage stage) i j lt (numbers_ascend stage (n + 1) ops) e f
  where
    go : (t : Bool) (i j : ℕ) → i < j →
        ((i j a b : ℕ) → i < j → slice_get (numbers_at stage (n + 1) ops) i ≡ Some a → slice_get (numbers_at stage (n + 1) ops) j ≡ Some b
        → a < b) → slice_get (cond t (n ∷ numbers_at stage (n + 1) ops) (numbers_at stage (n + 1) ops)) i ≡ Some a →
        slice_get (cond t (n ∷ numbers_at stage (n + 1) ops) (numbers_at stage (n + 1) ops)) j ≡ Some b → a < b
    go true zero zero lt rest e f = absurd (omega arith)
    go true zero (suc j) lt rest e f = let here : n ≡ a = same_Some n a e in omega
        (arith, here, (numbers_in stage (n + 1) ops j b f).beyond)
    go true (suc i) zero lt rest e f = absurd (omega arith)
    go true (suc i) (suc j) lt rest e f = rest i j a b (omega arith) e f
    go false i j lt rest e f = rest i j a b lt e f

-- no number occurs twice in the order
stands_once : (ops : List PlanOp) (s i j c : ℕ) → i < j → slice_get (order_of ops s) i ≡ Some c → slice_get (order_of ops s) j ≡ Some c → ⊥
stands_once ops zero i j c lt e f = no_item c e
stands_once ops (suc s) i j c lt e f =
    go (append_cases (order_of ops s) (numbers_at (s + 1) 0 ops) i c e) (append_cases (order_of ops s) (numbers_at (s + 1) 0 ops) j c f)
    (stands_once ops s i j c lt)
  where
    now : (k : ℕ) → slice_get (numbers_at (s + 1) 0 ops) k ≡ Some c → Numbered ops (s + 1) 0 c
    now k h = numbers_in (s + 1) 0 ops k c h

    apart : slice_get (order_of ops s) i ≡ Some c → Numbered ops (s + 1) 0 c → ⊥
    apart p n =
        let o = ordered ops s i c p in
        let at : c ≡ n.place = omega (arith, n.beyond) in
        let same : o.one.stage ≡ n.one.stage = ap (λ (x : PlanOp). x.stage)
        (same_Some o.one n.one (sym o.found ∙ ap (slice_get ops) at ∙ n.found)) in
        omega (arith, o.most, n.stage_is)

    go : ((slice_get (order_of ops s) i ≡ Some c) ⊎ ((length (order_of ops s) ≤ i)
        × (slice_get (numbers_at (s + 1) 0 ops) (i - length (order_of ops s)) ≡ Some c))) →
        ((slice_get (order_of ops s) j ≡ Some c) ⊎ ((length (order_of ops s) ≤ j)
        × (slice_get (numbers_at (s + 1) 0 ops) (j - length (order_of ops s)) ≡ Some c))) →
        (slice_get (order_of ops s) i ≡ Some c → slice_get (order_of ops s) j ≡ Some c → ⊥) → ⊥
    go (inl p) (inl q) rest = rest p q
    go (inl p) (inr q) rest = apart p (now (j - length (order_of ops s)) q.1)
    go (inr p) (inr q) rest =
        let a = p.0 in
        let b = q.0 in
        let up : c < c = numbers_ascend (s + 1) 0 ops (i - length (order_of ops s)) (j - length (order_of ops s)) c c (omega arith) p.1
        q.1 in
        omega (arith, up)
    go (inr p) (inl q) rest = let w = slice_get_within (order_of ops s) j c q in let l = p.0 in omega arith

-- a number's place in the order is the one place where it occurs
place_is : (ops : List PlanOp) (s k c : ℕ) → slice_get (order_of ops s) k ≡ Some c
    → position_or_len (λ other. other == c) (order_of ops s) ≡ k
place_is ops s k c e = position_or_len_is (λ other. other == c) (order_of ops s) k 0 (let w = within in omega arith)
    (λ i lt. others (get_or (order_of ops s) i 0 == c) i lt refl) (λ lt.
    (let here = get_or_from_slice_get (order_of ops s) k c 0 e in grind (arith, nat_tests)))
  where
    within : k < length (order_of ops s)
    within = slice_get_within (order_of ops s) k c e

    others : (b : Bool) → (i : ℕ) → i < k → (get_or (order_of ops s) i 0 == c) ≡ b → (get_or (order_of ops s) i 0 == c) ≡ false
    others false i lt is = is
    others true i lt is =
        let same : get_or (order_of ops s) i 0 ≡ c = grind (arith, nat_tests) in
        absurd (stands_once ops s i k c lt (slice_get-get_or (order_of ops s) i 0 (omega (arith, within)) ∙ ap Some same) e)

-- the registers that places in the order give
pub registers_are : (ops : List PlanOp) (s : ℕ) (registers : List ℕ) → Staged ops s
    → ArePlaced (order_of ops s) registers (length (order_of ops s)) → length registers ≡ length ops →
    registers ≡ registers_in (order_of ops s) (length ops)
registers_are ops s registers staged placed long = same_number_lists registers (registers_in (order_of ops s) (length ops))
    (long ∙ sym (length-map-range_with_len (register_in (order_of ops s)) 0 (length ops)))
    (λ c lt. (let in_ops : c < length ops = omega (arith, lt, long) in one_is c in_ops
    ∙ sym (get_or-map-range_with_len (register_in (order_of ops s)) 0 (length ops) c c 0 in_ops (omega arith))))
  where
    one_is : (c : ℕ) → c < length ops → get_or registers c 0 ≡ register_in (order_of ops s) c
    one_is c lt =
        let op = found_at ops c lt in
        let h : Has (order_of ops s) c = order_has ops s c op.0 op.1 (staged.some c op.0 op.1) (staged.most c op.0 op.1) in
        let in_order : h.place < length (order_of ops s) = slice_get_within (order_of ops s) h.place c h.found in
        let here : get_or (order_of ops s) h.place 0 ≡ c = get_or_from_slice_get (order_of ops s) h.place c 0 h.found in
        let p : IsPlaced (order_of ops s) c (get_or registers c 0) = subst (λ x. IsPlaced (order_of ops s) x (get_or registers x 0)) here
        (placed h.place in_order) in
        let k : ℕ = get_or registers c 0 - FIELDS in
        let at : get_or registers c 0 ≡ FIELDS + k = omega (arith, p.beyond) in
        let within : k < length (order_of ops s) = omega (arith, p.within, p.beyond) in
        let number : slice_get (order_of ops s) k ≡ Some c = slice_get-get_or (order_of ops s) k 0 within ∙ ap Some p.place in
        at ∙ ap (λ n. FIELDS + n) (sym (place_is ops s k c number))
      where
        found_at : {A : Type 0} (xs : List A) (i : ℕ) → i < length xs → (x : A) × (slice_get xs i ≡ Some x)
        found_at [] i h = absurd (omega arith)
        found_at (x ∷ xs) zero h = (x, refl)
        found_at (x ∷ xs) (suc i) h = found_at xs i (omega (arith, h))

-- the registers by places in the order are those that a plan's operations have
pub registers_placed : (ops : List PlanOp) (s : ℕ) → ArePlaced (order_of ops s) (registers_in (order_of ops s) (length ops))
    (length (order_of ops s))
registers_placed ops s k lt = subst (IsPlaced (order_of ops s) number) (sym register) (record {
  beyond = omega arith;
  within = omega (arith, lt);
  place = (let back : FIELDS + k - FIELDS ≡ k = omega arith in ap (λ place. get_or (order_of ops s) place 0) back);
})
  where
    number : ℕ
    number = get_or (order_of ops s) k 0

    found : slice_get (order_of ops s) k ≡ Some number
    found = slice_get-get_or (order_of ops s) k 0 lt

    register : get_or (registers_in (order_of ops s) (length ops)) number 0 ≡ FIELDS + k
    register =
        let here = ordered ops s k number found in
        let in_ops : number < length ops = slice_get_within ops number here.one here.found in
        get_or-map-range_with_len (register_in (order_of ops s)) 0 (length ops) number number 0 in_ops (omega arith)
        ∙ ap (λ place. FIELDS + place) (place_is ops s k number found)
