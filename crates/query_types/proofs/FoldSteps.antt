-- State variables and arguments, one after another: the answer where a name is taken or there is no room, and the turn that adds one.
use Rattle.std.proofs.Common.{◌≡◌, ℕ, ◌<◌, ◌≤◌, Bool, true, false, ◌||◌, List, [], ◌∷◌, ◌++◌, length, nat_lt, Err}
use Rattle.std.proofs.{Common.{sym, ap, ◌∙◌, arith}, lemmas.{Bool.Decides.nat_tests, List.length-append}}
use Rattle.query_lang.specs.declared.fault.{FaultKind.TheVariants.{NameTaken, OverLimit}, Limit.{Limit, TheVariants.{Args, States}}}
use Rattle.query_lang.specs.declared.fault.{Span.Span, TheConstants.{MAX_ARGS, MAX_STATES}}
use Rattle.query_lang.specs.declared.{error.QueryError.{QueryError, TheVariants.Refused}, query.{Name.Name, StateVar.StateVar}}
use Rattle.query_lang.specs.{Answers.Answers, Checks.{Checked, must, must_not, is_among}, TypedFolds.{states_from, args_from}}

has_room : (n len most : ℕ) → len ≡ n → len < most → nat_lt n most ≡ true
has_room n len most e h = grind (arith, nat_tests)

has_none : (n len most : ℕ) → len ≡ n → most ≤ len → nat_lt n most ≡ false
has_none n len most e h = grind (arith, nat_tests)

-- one more of a list that has room
pub within_most : {X : Type 0} (found more : List X) (x : X) (len most : ℕ) → more ≡ found ++ x ∷ [] → len ≡ length found → len < most
    → length more ≤ most
within_most found more x len most e el h = omega (arith, ap (λ l. length l) e, length-append found (x ∷ []))

-- a name that has to be new, and to have room
module _ {A : Type 0} {whole all : Checked A} (next : Checked A) (taken : Bool) (n most : ℕ) (limit : Limit) (span : Span)
    (so : whole ≡ all) (is : whole ≡ must_not taken NameTaken span (must (nat_lt n most) (OverLimit limit) span next)) where
  is_taken : (error : QueryError) → error ≡ Refused (record { kind = NameTaken; span = span }) → taken ≡ true → Answers (Err error) all
  is_taken error e t =
      rw e (sym so ∙ is ∙ ap (λ b. must_not b NameTaken span (must (nat_lt n most) (OverLimit limit) span next)) t)

  is_full : (error : QueryError) → error ≡ Refused (record { kind = OverLimit limit; span = span }) → taken ≡ false
      → (len : ℕ) → len ≡ n → most ≤ len → Answers (Err error) all
  is_full error e t len el h =
      rw e (sym so ∙ is ∙ ap (λ b. must_not b NameTaken span (must (nat_lt n most) (OverLimit limit) span next)) t
      ∙ ap (λ b. must b (OverLimit limit) span next) (has_none n len most el h))

  is_added : taken ≡ false → (len : ℕ) → len ≡ n → len < most → next ≡ all
  is_added t len el h =
      sym (is ∙ ap (λ b. must_not b NameTaken span (must (nat_lt n most) (OverLimit limit) span next)) t
      ∙ ap (λ b. must b (OverLimit limit) span next) (has_room n len most el h)) ∙ so

module _ (found : List ℕ) {now rest : List StateVar} {y : StateVar} {all : Checked (List ℕ)} (at : now ≡ y ∷ rest)
    (so : states_from found now ≡ all) where
  pub state_taken : (error : QueryError) → error ≡ Refused (record { kind = NameTaken; span = y.name.span })
      → is_among y.name.id found ≡ true → Answers (Err error) all
  state_taken =
      is_taken (states_from (found ++ y.name.id ∷ []) rest) (is_among y.name.id found) (length found) MAX_STATES States
      y.name.span so (ap (states_from found) at)

  pub state_full : (error : QueryError) → error ≡ Refused (record { kind = OverLimit States; span = y.name.span })
      → is_among y.name.id found ≡ false → (len : ℕ) → len ≡ length found → MAX_STATES ≤ len → Answers (Err error) all
  state_full =
      is_full (states_from (found ++ y.name.id ∷ []) rest) (is_among y.name.id found) (length found) MAX_STATES States
      y.name.span so (ap (states_from found) at)

  pub state_added : (more : List ℕ) → more ≡ found ++ y.name.id ∷ [] → is_among y.name.id found ≡ false
      → (len : ℕ) → len ≡ length found → len < MAX_STATES → states_from more rest ≡ all
  state_added more e free len el h =
      ap (λ l. states_from l rest) e
      ∙ is_added (states_from (found ++ y.name.id ∷ []) rest) (is_among y.name.id found) (length found)
      MAX_STATES States y.name.span so (ap (states_from found) at) free len el h

module _ (states found : List ℕ) {now rest : List Name} {y : Name} {all : Checked (List ℕ)} (at : now ≡ y ∷ rest)
    (so : args_from states found now ≡ all) where
  pub arg_taken : (error : QueryError) → error ≡ Refused (record { kind = NameTaken; span = y.span })
      → (is_among y.id states || is_among y.id found) ≡ true → Answers (Err error) all
  arg_taken =
      is_taken (args_from states (found ++ y.id ∷ []) rest) (is_among y.id states || is_among y.id found) (length found) MAX_ARGS
      Args y.span so (ap (args_from states found) at)

  pub arg_full : (error : QueryError) → error ≡ Refused (record { kind = OverLimit Args; span = y.span })
      → (is_among y.id states || is_among y.id found) ≡ false → (len : ℕ) → len ≡ length found → MAX_ARGS ≤ len → Answers (Err error) all
  arg_full =
      is_full (args_from states (found ++ y.id ∷ []) rest) (is_among y.id states || is_among y.id found) (length found) MAX_ARGS
      Args y.span so (ap (args_from states found) at)

  pub arg_added : (more : List ℕ) → more ≡ found ++ y.id ∷ [] → (is_among y.id states || is_among y.id found) ≡ false
      → (len : ℕ) → len ≡ length found → len < MAX_ARGS → args_from states more rest ≡ all
  arg_added more e free len el h =
      ap (λ l. args_from states l rest) e
      ∙ is_added (args_from states (found ++ y.id ∷ []) rest) (is_among y.id states || is_among y.id found)
      (length found) MAX_ARGS Args y.span so (ap (args_from states found) at) free len el h

-- a test of two
pub either_first : (p q : Bool) {r : Bool} → r ≡ p → r ≡ true → (p || q) ≡ true
either_first p q e h = ap (λ b. b || q) (sym e ∙ h)

pub either_second : (p q : Bool) {r s : Bool} → r ≡ p → r ≡ false → s ≡ q → s ≡ true → (p || q) ≡ true
either_second p q e h f k = ap (λ b. b || q) (sym e ∙ h) ∙ sym f ∙ k
