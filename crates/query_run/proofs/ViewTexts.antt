-- The views of a run, in sequence.
use Rattle.std.proofs.Common.{◌≡◌, ℕ, zero, suc, ◌+◌, ◌-◌, ◌<◌, ◌≤◌, ◌%◌, true, false, List, [], ◌++◌, length, refl, sym, ap, ◌∙◌, arith}
use Rattle.std.proofs.{Common.{append_assoc, append-nil, if◌then◌else◌}, Math.Nat.{add-mod_right, mod-add-mod, mod-eq_of_lt}}
use Rattle.std.{proofs.lemmas.Bool.Decides.nat_tests, specs.Prelude.Bool}
use Rattle.query_run.specs.Views.{NoViewsWithoutNumber, is_view, view_text, views_text, views_up_to}

-- the remainders after a multiple
past : (every number j : ℕ) → number % every ≡ 0 → j < every → (number + j) % every ≡ j
past every number j whole below = sym (mod-add-mod number every j) ∙ (ap (λ n. (n + j) % every) whole
    ∙ (let e : 0 + j ≡ j = omega arith in ap (λ n. n % every) e ∙ mod-eq_of_lt below))

not_due : (every number j : ℕ) → number % every ≡ 0 → suc j < every → is_view every (suc (number + j)) ≡ false
not_due every number j whole below =
    let e : number + suc j ≡ suc (number + j) = omega arith in
    let left : suc (number + j) % every ≡ suc j = ap (λ n. n % every) (sym e) ∙ past every number (suc j) whole below in
    let some : 0 < suc (number + j) % every = omega arith in
    grind (arith, nat_tests)

due : (every number : ℕ) → number % every ≡ 0 → 0 < every → is_view every (number + every) ≡ true
due every number whole some =
    let none : (number + every) % every ≡ 0 = add-mod_right number every ∙ whole in
    grind (arith, nat_tests)

pub next_multiple : (every number : ℕ) → number % every ≡ 0 → (number + every) % every ≡ 0
next_multiple every number whole = add-mod_right number every ∙ whole

-- no views where none are asked for
pub no_views : (text : List (List ℕ) → List ℕ) (packets : List (List ℕ)) (number : ℕ) → views_up_to text 0 packets number ≡ []
unfolding views_up_to
no_views text packets zero = refl
no_views text packets (suc number) = ap (λ xs. xs ++ []) (no_views text packets number)

pub tables_alone : NoViewsWithoutNumber
unfolding views_text
tables_alone text packets = ap (λ xs. xs ++ text packets) (no_views text packets (length packets))

module _ (text : List (List ℕ) → List ℕ) (every : ℕ) (packets : List (List ℕ)) where
  one_more : (number : ℕ) (t : Bool) → is_view every (suc number) ≡ t
      → views_up_to text every packets (suc number) ≡ views_up_to text every packets number
      ++ (if t then view_text text packets (suc number) else [])
  unfolding views_up_to
  one_more number t is = ap (λ (b : Bool). views_up_to text every packets number ++ (if b then view_text text packets (suc number) else []))
      is

  -- none up to the next multiple
  pub none_between : (number j : ℕ) → number % every ≡ 0 → j < every → views_up_to text every packets (number + j) ≡ views_up_to text every
      packets number
  none_between number zero whole below = let e : number + zero ≡ number = omega arith in ap (views_up_to text every packets) e
  none_between number (suc j) whole below =
      let e : number + suc j ≡ suc (number + j) = omega arith in
      ap (views_up_to text every packets) e ∙ (one_more (number + j) false (not_due every number j whole below)
      ∙ (append-nil (views_up_to text every packets (number + j)) ∙ none_between number j whole (omega arith)))

  -- one at the next multiple
  pub next_view : (number : ℕ) → number % every ≡ 0 → 0 < every
      → views_up_to text every packets (number + every) ≡ views_up_to text every packets number ++ view_text text packets (number + every)
  next_view number whole some =
      let j = every - 1 in
      let e : suc (number + j) ≡ number + every = omega arith in
      let before = none_between number j whole (omega arith) in
      let at : is_view every (suc (number + j)) ≡ true = ap (is_view every) e ∙ due every number whole some in
      ap (views_up_to text every packets) (sym e) ∙ (one_more (number + j) true at
      ∙ (ap (λ xs. xs ++ view_text text packets (suc (number + j))) before
      ∙ ap (λ n. views_up_to text every packets number ++ view_text text packets n) e))

  -- the views of all packets, where fewer are left than a view needs
  pub all_views : (number : ℕ) → number % every ≡ 0 → number ≤ length packets → length packets < number + every
      → views_up_to text every packets (length packets) ≡ views_up_to text every packets number
  all_views number whole within few =
      let j = length packets - number in
      let e : number + j ≡ length packets = omega arith in
      ap (views_up_to text every packets) (sym e) ∙ none_between number j whole (omega arith)

  -- later views come after these
  later_views : (number k : ℕ) → (rest : List ℕ) × (views_up_to text every packets (number + k) ≡ views_up_to text every packets number
      ++ rest)
  later_views number zero =
      let e : number + zero ≡ number = omega arith in
      ([], ap (views_up_to text every packets) e ∙ sym (append-nil (views_up_to text every packets number)))
  later_views number (suc k) =
      let e : number + suc k ≡ suc (number + k) = omega arith in
      let before = later_views number k in
      let here = if is_view every (suc (number + k)) then view_text text packets (suc (number + k)) else [] in (
        before.0 ++ here,
        ap (views_up_to text every packets) e ∙ (one_more (number + k) (is_view every (suc (number + k))) refl
            ∙ (ap (λ xs. xs ++ here) before.1 ∙ append_assoc (views_up_to text every packets number) before.0 here)),
      )

  -- what a run writes begins with the views so far
  pub begins : (number : ℕ) → number ≤ length packets → (rest : List ℕ)
      × (views_text text every packets ≡ views_up_to text every packets number ++ rest)
  unfolding views_text
  begins number within =
      let k = length packets - number in
      let e : length packets ≡ number + k = omega arith in
      let later = later_views number k in (
        later.0 ++ text packets,
        ap (λ n. views_up_to text every packets n ++ text packets) e ∙ (ap (λ xs. xs ++ text packets) later.1
            ∙ append_assoc (views_up_to text every packets number) later.0 (text packets)),
      )

  -- and then with the next view
  pub parted : (number : ℕ) → number % every ≡ 0 → 0 < every → number + every ≤ length packets
      → (rest : List ℕ) × (views_text text every packets ≡ views_up_to text every packets number
      ++ (view_text text packets (number + every) ++ rest))
  parted number whole some within =
      let front = begins (number + every) within in (
        front.0,
        front.1 ∙ (ap (λ xs. xs ++ front.0) (next_view number whole some)
            ∙ append_assoc (views_up_to text every packets number) (view_text text packets (number + every)) front.0),
      )

  pub whole_text : views_text text every packets ≡ views_up_to text every packets (length packets) ++ text packets
  unfolding views_text
  whole_text = refl
