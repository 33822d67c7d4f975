-- The fault of the first step that has one is the text's first fault.
use Rattle.std.{proofs.Common.{◌≡◌, ℕ, List, ap, ◌∙◌}, specs.Prelude.{Ok, Err}}
use Rattle.query_lang.specs.declared.{error.QueryError.QueryError, query.Query.Query, typed.TypedQuery.TypedQuery}
use Rattle.query_lang.specs.{Answers.{Answers, IsTold}, Checks.and_then, Typing.checked}
use Rattle.query_lang.specs.declared.error.QueryError.TheVariants.{Refused, Memory}
use Rattle.query_grammar.specs.Texts.{parsed_text}
use Rattle.stage_plan.specs.Depths.{stage_fault}
use Rattle.accepted_query.specs.Accepted.{accepted, staged, fault_in, query_fault, unless_fault}

-- the text isn't read
pub unread : (text : List ℕ) (error : QueryError) → Answers {A = Query} (Err error) (parsed_text text) → IsTold (query_fault text) error
unfolding accepted
unread text (Refused fault) told = ap (λ read. fault_in (and_then read (λ q. and_then (checked q) staged))) told
unread text Memory told = tt

-- the query that is read isn't typed
pub untyped : (text : List ℕ) {q : Query} (error : QueryError) → parsed_text text ≡ Ok q
    → Answers {A = TypedQuery} (Err error) (checked q) → IsTold (query_fault text) error
unfolding accepted
untyped text {q} (Refused fault) read told = ap (λ found. fault_in (and_then found (λ q. and_then (checked q) staged))) read
    ∙ ap (λ found. fault_in (and_then found staged)) told
untyped text Memory read told = tt

-- the query that is typed needs too many stages
pub unstaged : (text : List ℕ) {q : Query} {typed : TypedQuery} (error : QueryError) → parsed_text text ≡ Ok q
    → checked q ≡ Ok typed → IsTold (stage_fault typed) error → IsTold (query_fault text) error
unfolding accepted
unstaged text {q} {typed} (Refused fault) read is told = ap (λ found. fault_in (and_then found (λ q. and_then (checked q) staged))) read
    ∙ ap (λ found. fault_in (and_then found staged)) is ∙ ap (λ found. fault_in (unless_fault found typed)) told
unstaged text Memory read is told = tt
