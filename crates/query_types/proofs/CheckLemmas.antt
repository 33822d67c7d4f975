-- Checks in sequence: an answer of the whole from the answers of its parts.
use Rattle.std.proofs.Common.{◌≡◌, ℕ, ◌+◌, ◌<◌, List, [], ◌∷◌, ◌++◌, length, get_or, drop, map, Result, Ok, Err, refl, sym, ap, ◌∙◌}
use Rattle.std.{proofs.lemmas.{List.drop_more, Result.err_from_is_err_and}, specs.{Prelude.{IfOk, OnOk}, Result.IsErrAnd}}
use Rattle.query_lang.specs.{declared.error.QueryError.{TheVariants.{Refused, Memory}, QueryError}, Checks.{Checked, and_then, collected}}
use Rattle.query_lang.specs.Answers.{Answers}
use Rattle.query_types.specs.Answers.{Leaves}

-- the next check of the same gives the same
pub same_checked : {A B : Type 0} (answer : Result B QueryError) (next : A → Checked B) (x y : A) → x ≡ y → Answers answer (next x)
    → Answers answer (next y)
same_checked {A} {B} answer next x y e h = rw (← e) h

told : {A : Type 0} (P : Result A QueryError → Type 0) (answer : Result A QueryError) (error : QueryError)
    → IsErrAnd answer (λ y. y ≡ error) → P (Err error) → P answer
told P answer error known h = let p = err_from_is_err_and answer known in rw (p.1 ∙ ap (λ y. Err y) p.2) h

module _ {A B : Type 0} {whole : Checked B} (first : Checked A) (next : A → Checked B) (is : whole ≡ and_then first next) where
  -- an earlier check's fault is the answer
  pub stops : (answer : Result B QueryError) (error : QueryError) → IsErrAnd answer (λ y. y ≡ error) → Answers (Err error) first
      → Answers answer whole
  stops answer error known e = told (λ r. Answers r whole) answer error known (go error e)
    where
      go : (x : QueryError) → Answers (Err x) first → Answers (Err x) whole
      go (Refused fault) h = is ∙ ap (λ r. and_then r next) h
      go Memory h = tt

  pub stops_after : (answer : Result B QueryError) (error : QueryError) (left : A) → IsErrAnd answer (λ y. y ≡ error)
      → Leaves (Err error) left first → Answers answer whole
  stops_after answer error left known e = told (λ r. Answers r whole) answer error known (go error e)
    where
      go : (x : QueryError) → Leaves (Err x) left first → Answers (Err x) whole
      go (Refused fault) h = is ∙ ap (λ r. and_then r next) h
      go Memory h = tt

  -- that of a check that changes something in place, too
  pub left_stops : (answer : Result (Unit {0}) QueryError) (error : QueryError) (left : B) → IsErrAnd answer (λ y. y ≡ error)
      → Answers (Err error) first → Leaves answer left whole
  left_stops answer error left known e = told (λ r. Leaves r left whole) answer error known (go error e)
    where
      go : (x : QueryError) → Answers (Err x) first → Leaves (Err x) left whole
      go (Refused fault) h = is ∙ ap (λ r. and_then r next) h
      go Memory h = tt

  pub left_stops_after : (answer : Result (Unit {0}) QueryError) (error : QueryError) (before : A) (left : B)
      → IsErrAnd answer (λ y. y ≡ error) → Leaves (Err error) before first → Leaves answer left whole
  left_stops_after answer error before left known e = told (λ r. Leaves r left whole) answer error known (go error e)
    where
      go : (x : QueryError) → Leaves (Err x) before first → Leaves (Err x) left whole
      go (Refused fault) h = is ∙ ap (λ r. and_then r next) h
      go Memory h = tt

  -- and where it finds something, the next check's answer
  pub goes_on : (answer : Result B QueryError) {x : A} → first ≡ Ok x → Answers answer (next x) → Answers answer whole
  goes_on answer e h = rw (is ∙ ap (λ r. and_then r next) e) h

  -- the rest of a loop's checks after one that finds something
  pub more : {all : Checked B} {x : A} → first ≡ Ok x → whole ≡ all → next x ≡ all
  more e so = sym (ap (λ r. and_then r next) e) ∙ sym is ∙ so

pub left_is : {A : Type 0} (answer : Result (Unit {0}) QueryError) (left : A) {whole other : Checked A} → whole ≡ other
    → Leaves answer left other → Leaves answer left whole
left_is {A} answer left e h = rw e h

pub if_ok : {A E P : Type 0} (answer : Result A E) → P → IfOk answer (λ _. P)
if_ok (Ok x) h = h
if_ok (Err e) h = tt

pub if_ok_so : {A E P Q : Type 0} (answer : Result A E) → (P → Q) → IfOk answer (λ _. P) → IfOk answer (λ _. Q)
if_ok_so (Ok x) f h = f h
if_ok_so (Err e) f h = tt

pub on_ok : {E P : Type 0} (answer : Result (Unit {0}) E) → P → OnOk answer P
on_ok (Ok done) h = h
on_ok (Err e) h = tt

pub on_ok_so : {E P Q : Type 0} (answer : Result (Unit {0}) E) → (P → Q) → OnOk answer P → OnOk answer Q
on_ok_so (Ok done) f h = f h
on_ok_so (Err e) f h = tt

-- one check after another over a list
pub collected_turn : {X A : Type 0} (check : X → Checked A) (xs : List X) (i : ℕ) {x : X} (found : List A) → i < length xs
    → x ≡ get_or xs i x →
    collected found (map check (drop i xs)) ≡ and_then (check x) (λ one. collected (found ++ one ∷ []) (map check (drop (i + 1) xs)))
collected_turn {A = A} check xs i {x} found h is =
    ap (λ l. collected found (map check l)) (drop_more xs i x h)
    ∙ sym (ap (λ y. collected found (check y ∷ map check (drop (i + 1) xs))) is)
    ∙ split (check x)
  where
    split : (r : Checked A) → collected found (r ∷ map check (drop (i + 1) xs))
        ≡ and_then r (λ one. collected (found ++ one ∷ []) (map check (drop (i + 1) xs)))
    split (Ok one) = refl
    split (Err fault) = refl
