-- Registers in which each operation's own holds its result: there is one way to fill them, and the stages fill them so.
use Rattle.std.proofs.Common.{◌≡◌, ℕ, zero, suc, ◌+◌, ◌-◌, ◌<◌, ◌≤◌, ◌≢◌, true, false, eqb, ltb, List, [], ◌∷◌, ◌++◌, length, get_or, set}
use Rattle.std.proofs.Common.{◌⊎◌, take, drop, Some, refl, sym, ap, ◌∙◌, inl, inr, arith, length-append, length-drop}
use Rattle.std.proofs.lemmas.List.{ext_get_or, get_or-set_same, get_or-set_other, get_or-take, get_or-drop, length-replicate, take_at}
use Rattle.std.proofs.lemmas.List.{get_or-append_right, length-take-le}
use Rattle.std.proofs.lemmas.{Option.{slice_get_within, same_Some, slice_get_cases, slice_get-get_or}, Bool.{cases_eq, cases_lt}}
use Rattle.std.{proofs.lemmas.Bool.Decides.nat_tests, specs.Prelude.{slice_get, if◌then◌else◌, ◌==◌, replicate}}
use Rattle.marple_base.specs.declared.field.TheConstants.{FIELDS}
use Rattle.stage_plan.specs.declared.op.{Operand.{Operand, TheVariants.{Register, Number}}, PlanOp.PlanOp}
use Rattle.stage_plan.specs.Registers.{operand_value, result_of, stage_results, registers_after, stages_of, operand_stage}
use Rattle.stage_plan.specs.Sound.{IsWithin, IsSoundOp, AreSoundOps}

-- two lists of registers that agree below a number give an operand below it one value
pub same_operand : (r s : List ℕ) (n : ℕ) (o : Operand) → ((k : ℕ) → k < n → get_or r k 0 ≡ get_or s k 0) → IsWithin n o
    → operand_value r o ≡ operand_value s o
same_operand r s n (Register k) same within = same k within
same_operand r s n (Number v) _ _ = refl

pub same_result : (r s : List ℕ) (n : ℕ) (one : PlanOp) → ((k : ℕ) → k < n → get_or r k 0 ≡ get_or s k 0) → IsWithin n one.left
    → IsWithin n one.right → result_of r one ≡ result_of s one
same_result r s n one same left right =
    let a = same_operand r s n _ same left in
    let b = same_operand r s n _ same right in
    rw (a, b)

-- each operation's register holds its result
pub record Filled (ops : List PlanOp) (words registers : List ℕ) : Type 0 where
  pub long : length registers ≡ FIELDS + length ops
  pub front : take FIELDS registers ≡ words
  pub each : (i : ℕ) (one : PlanOp) → slice_get ops i ≡ Some one → get_or registers (FIELDS + i) 0 ≡ result_of registers one

-- the registers of the first operations are determined
agree : (ops : List PlanOp) (words r s : List ℕ) → AreSoundOps ops → Filled ops words r → Filled ops words s → (n : ℕ) → n ≤ length ops
    → (k : ℕ) → k < FIELDS + n → get_or r k 0 ≡ get_or s k 0
agree ops words r s sound fr fs zero le k lt =
    let lt' : k < FIELDS = omega arith in
    sym (get_or-take _ r k 0 lt') ∙ ap (λ l. get_or l k 0) (fr.front ∙ sym fs.front) ∙ get_or-take _ s k 0 lt'
agree ops words r s sound fr fs (suc n) le k lt =
    let before = agree ops words r s sound fr fs n (omega arith) in
    elim ((slice_get_cases ops n).1) [
      | inl found ↦
          elim (cases_eq k (FIELDS + n)) [
            | inl same ↦
                let one = found.0 in let here = sound.each n one found.2 in
                cc (fr.each n one found.2, same_result r s (FIELDS + n) one before here.left here.right, fs.each n one found.2)
            | inr other ↦ before k (omega arith)
          ]
      | inr past ↦ before k (omega arith)
    ]

pub one_filling : (ops : List PlanOp) (words r s : List ℕ) → AreSoundOps ops → Filled ops words r → Filled ops words s → r ≡ s
one_filling ops words r s sound fr fs =
    ext_get_or 0 r s (fr.long ∙ sym fs.long) (λ k lt. agree ops words r s sound fr fs (length ops) (omega arith) k (omega (arith, fr.long)))

pub within_more : (m n : ℕ) (o : Operand) → m ≤ n → IsWithin m o → IsWithin n o
within_more m n (Register r) le h = omega arith
within_more m n (Number v) le h = tt

-- the operation at a place of the list reads registers that are there
pub reads_left : (ops : List PlanOp) (i n : ℕ) (d : PlanOp) → AreSoundOps ops → i < length ops → FIELDS + length ops ≤ n
    → IsWithin n (get_or ops i d).left
reads_left ops i n d sound lt le = within_more _ n _ (omega arith) (sound.each i (get_or ops i d) (slice_get-get_or _ i d lt)).left

pub reads_right : (ops : List PlanOp) (i n : ℕ) (d : PlanOp) → AreSoundOps ops → i < length ops → FIELDS + length ops ≤ n
    → IsWithin n (get_or ops i d).right
reads_right ops i n d sound lt le = within_more _ n _ (omega arith) (sound.each i (get_or ops i d) (slice_get-get_or _ i d lt)).right

-- one more result, which no earlier one reads
pub results_more : (ops : List PlanOp) (r : List ℕ) (n v : ℕ) (d : PlanOp) → AreSoundOps ops → n < length ops → length r ≡ FIELDS
    + length ops → ((i : ℕ) (one : PlanOp) → i < n → slice_get ops i ≡ Some one → get_or r (FIELDS + i) 0 ≡ result_of r one) →
    v ≡ result_of r (get_or ops n d) →
    (i : ℕ) (one : PlanOp) → i < n + 1 → slice_get ops i ≡ Some one → get_or (set r (FIELDS + n) v) (FIELDS + i) 0 ≡ result_of
    (set r (FIELDS + n) v) one
results_more ops r n v d sound lt long before is i one below found =
    let here = sound.each i one found in
    let other : (k : ℕ) → k < FIELDS + i → get_or (set r (FIELDS + n) v) k 0 ≡ get_or r k 0 =
    λ k h. (let ne : k ≢ FIELDS + n = omega arith in get_or-set_other r (FIELDS + n) k v 0 ne) in
    let same : result_of (set r (FIELDS + n) v) one ≡ result_of r one =
    same_result (set r (FIELDS + n) v) r (FIELDS + i) one other here.left here.right in
    elim (cases_eq i n) [
      | inl at ↦
          let room : FIELDS + n < length r = omega arith in
          let there : one ≡ get_or ops n d = same_Some _ _ (sym found ∙ ap (slice_get ops) at ∙ slice_get-get_or ops n d lt) in
          cc (get_or-set_same r (FIELDS + n) v 0 room)
      | inr apart ↦
          let ne : FIELDS + i ≢ FIELDS + n = omega arith in
          cc (get_or-set_other r (FIELDS + n) (FIELDS + i) v 0 ne, before i one (omega arith) found)
    ]

pub length_results : (stage : ℕ) (r : List ℕ) (ops : List PlanOp) (olds : List ℕ) → length olds ≡ length ops
    → length (stage_results stage r ops olds) ≡ length ops
length_results _ r [] _ e = refl
length_results _ r (_ ∷ _) [] e = omega arith
length_results stage r (_ ∷ ops) (_ ∷ olds) e = cc (length_results stage r ops olds (omega arith))

pub at_results : (stage : ℕ) (r : List ℕ) (ops : List PlanOp) (olds : List ℕ) (i : ℕ) (one : PlanOp) → length olds ≡ length ops
    → slice_get ops i ≡ Some one →
    get_or (stage_results stage r ops olds) i 0 ≡ (if one.stage == stage then result_of r one else get_or olds i 0)
at_results stage r [] olds i one e found = cc
at_results stage r (first ∷ ops) [] i one e found = cc
at_results stage r (first ∷ ops) (old ∷ olds) zero one e found = cc (same_Some first one found)
at_results stage r (first ∷ ops) (old ∷ olds) (suc i) one e found = at_results stage r ops olds i one (omega arith) found

-- one stage over registers of the right length
module _ (ops : List PlanOp) (r : List ℕ) (stage : ℕ) (long : length r ≡ FIELDS + length ops) where
  abbrev pub next : List ℕ
  next = take FIELDS r ++ stage_results stage r ops (drop FIELDS r)

  front_long : length (take FIELDS r) ≡ FIELDS
  front_long = length-take-le _ r (omega arith)

  olds_long : length (drop FIELDS r) ≡ length ops
  olds_long = omega (arith, length-drop FIELDS r)

  pub length_stage : length next ≡ FIELDS + length ops
  length_stage = omega (
    arith,
    length-append (take FIELDS r) (stage_results stage r ops (drop FIELDS r)),
    front_long,
    length_results stage r ops (drop FIELDS r) olds_long,
  )

  pub front_stage : take FIELDS next ≡ take FIELDS r
  front_stage = take_at _ _ _ front_long

  pub at_stage : (i : ℕ) (one : PlanOp) → slice_get ops i ≡ Some one →
      get_or next (FIELDS + i) 0 ≡ (if one.stage == stage then result_of r one else get_or r (FIELDS + i) 0)
  at_stage i one found =
      let back : FIELDS + i - FIELDS ≡ i = omega arith in
      cc (
        get_or-append_right (take FIELDS r) (stage_results stage r ops (drop FIELDS r)) FIELDS (FIELDS + i) 0 front_long (omega arith),
        at_results stage r ops (drop FIELDS r) i one olds_long found,
        get_or-drop FIELDS r i 0,
      )

-- the stage of a register that an operation writes
pub stage_of_register : (ops : List PlanOp) (j : ℕ) (one : PlanOp) → slice_get ops j ≡ Some one
    → operand_stage ops (Register (FIELDS + j)) ≡ one.stage
stage_of_register ops j _ found =
    let late : ltb (FIELDS + j) FIELDS ≡ false = grind (arith, nat_tests) in
    let back : FIELDS + j - FIELDS ≡ j = omega arith in
    rw (late, back, found)

-- a register that an operation writes
pub record IsResult (ops : List PlanOp) (r : ℕ) : Type 0 where
  pub number : ℕ
  pub one : PlanOp
  pub is : r ≡ FIELDS + number
  pub found : slice_get ops number ≡ Some one

pub result_stage : {ops : List PlanOp} {r : ℕ} (result : IsResult ops r) → operand_stage ops (Register r) ≡ result.one.stage
result_stage {ops} result =
    ap (λ n. operand_stage ops (Register n)) result.is ∙ stage_of_register ops result.number _ result.found

-- a register that is there is a field's or an operation's
pub register_cases : (ops : List PlanOp) (r : ℕ) → r < FIELDS + length ops → (r < FIELDS) ⊎ IsResult ops r
register_cases ops r within = elim (cases_lt r FIELDS) [
  | inl field ↦ inl field
  | inr later ↦
      let lt : r - FIELDS < length ops = omega arith in
      elim ((slice_get_cases ops (r - FIELDS)).1) [
        | inl found ↦ inr (record { number = r - FIELDS; one = found.0; is = omega arith; found = found.2 })
        | inr past ↦ absurd (omega arith)
      ]
]

-- a stage keeps what earlier stages wrote, and the fields
pub kept_operand : (ops : List PlanOp) (r : List ℕ) (stage : ℕ) (long : length r ≡ FIELDS + length ops) (o : Operand) →
    IsWithin (FIELDS + length ops) o → operand_stage ops o < stage → operand_value (next ops r stage long) o ≡ operand_value r o
kept_operand ops r stage long (Number v) within below = refl
kept_operand ops r stage long (Register k) within below =
    elim (register_cases ops k within) [
      | inl field ↦ sym (get_or-take _ (next ops r stage long) k 0 field) ∙ ap (λ l. get_or l k 0) (front_stage ops r stage long)
          ∙ get_or-take _ r k 0 field
      | inr result ↦
          let same = result_stage result in
          let earlier : eqb result.one.stage stage ≡ false = grind (arith, nat_tests) in
          cc (at_stage ops r stage long result.number result.one result.found)
    ]

pub kept_result : (ops : List PlanOp) (r : List ℕ) (stage : ℕ) (long : length r ≡ FIELDS + length ops) (i : ℕ) (one : PlanOp) →
    i < length ops → IsSoundOp ops i one → one.stage ≤ stage → result_of (next ops r stage long) one ≡ result_of r one
kept_result ops r stage long i one lt sound le =
    let a = kept_operand ops r stage long one.left (within_more (FIELDS + i) (FIELDS + length ops) one.left (omega arith) sound.left)
    (omega (arith, sound.stage)) in
    let b = kept_operand ops r stage long one.right (within_more (FIELDS + i) (FIELDS + length ops) one.right (omega arith) sound.right)
    (omega (arith, sound.stage)) in
    rw (a, b)

pub length_after : (ops : List PlanOp) (words : List ℕ) → length words ≡ FIELDS → (s : ℕ) → length (registers_after ops words s) ≡ FIELDS
    + length ops
length_after ops words long zero = omega (arith, length-append words (replicate (length ops) 0), length-replicate {A = ℕ} (length ops) 0)
length_after ops words long (suc s) = length_stage ops (registers_after ops words s) (suc s) (length_after ops words long s)

pub front_after : (ops : List PlanOp) (words : List ℕ) → length words ≡ FIELDS → (s : ℕ) → take FIELDS (registers_after ops words s) ≡ words
front_after ops words long zero = take_at _ _ _ long
front_after ops words long (suc s) = front_stage ops (registers_after ops words s) (suc s) (length_after _ _ long s)
    ∙ front_after ops words long s

-- once an operation's stage is over, its register holds its result
pub settled : (ops : List PlanOp) (words : List ℕ) → AreSoundOps ops → length words ≡ FIELDS → (s i : ℕ) (one : PlanOp)
    → slice_get ops i ≡ Some one → one.stage ≤ s →
    get_or (registers_after ops words s) (FIELDS + i) 0 ≡ result_of (registers_after ops words s) one
settled ops words sound long zero i one found le = absurd (omega (arith, (sound.each i one found).stage))
settled ops words sound long (suc s) i one found le =
    let lt : i < length ops = slice_get_within ops i one found in
    let r : List ℕ = registers_after ops words s in
    let size : length r ≡ FIELDS + length ops = length_after ops words long s in
    let here : get_or (next ops r (suc s) size) (FIELDS + i) 0 ≡ (if one.stage == suc s then result_of r one else get_or r (FIELDS + i) 0) =
    at_stage ops r (suc s) size i one found in
    let kept : result_of (next ops r (suc s) size) one ≡ result_of r one =
    kept_result ops r (suc s) size i one lt (sound.each i one found) le in
    elim (cases_eq one.stage (suc s)) [
      | inl now ↦
          let test : eqb one.stage (suc s) ≡ true = grind (arith, nat_tests) in
          here ∙ ap (λ b. if b then result_of r one else get_or r (FIELDS + i) 0) test ∙ sym kept
      | inr earlier ↦
          let test : eqb one.stage (suc s) ≡ false = grind (arith, nat_tests) in
          here ∙ ap (λ b. if b then result_of r one else get_or r (FIELDS + i) 0) test
          ∙ settled _ _ sound long s i _ found (omega arith) ∙ sym kept
    ]

pub stage_below : (ops : List PlanOp) (i : ℕ) (one : PlanOp) → slice_get ops i ≡ Some one → one.stage ≤ stages_of ops
stage_below [] i one found = cc
stage_below (first ∷ ops) zero one found =
    let same = ap (λ x. x.stage) (same_Some first one found) in omega arith
stage_below (first ∷ ops) (suc i) one found = omega (arith, stage_below ops i one found)

-- after the last stage each operation's register holds its result
pub after_filled : (ops : List PlanOp) (words : List ℕ) → AreSoundOps ops → length words ≡ FIELDS
    → Filled ops words (registers_after ops words (stages_of ops))
after_filled ops words sound long = record {
  long = length_after _ _ long (stages_of ops);
  front = front_after ops _ long (stages_of ops);
  each = λ i one found. settled _ _ sound long _ i _ found (stage_below ops i _ found);
}

-- registers that were filled in turn are those after the last stage
pub filled_is_after : (ops : List PlanOp) (words r : List ℕ) → AreSoundOps ops → length words ≡ FIELDS → Filled ops words r
    → r ≡ registers_after ops words (stages_of ops)
filled_is_after ops words r sound long filled = one_filling _ _ r _ sound filled (after_filled _ _ sound long)
