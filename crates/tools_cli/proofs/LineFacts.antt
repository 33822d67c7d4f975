-- What was read of a query, to one byte more than the limit, has the facts of the query.
use Rattle.std.proofs.Common.{inl, inr, ◌≡◌, ℕ, ◌+◌, ◌<◌, true, nat_lt, List, length, take, Option, None, Some, IfSome, ap, sym, ◌∙◌, subst}
use Rattle.std.{proofs.{Common.{arith, Ok, Err, refl}, lemmas.Bool.Decides.{leb_tells, nat_tests}}, specs.Io.KnownBytes.Appends}
use Rattle.accepted_query.specs.Accepted.{accepted}
use Rattle.command_answers.proofs.Limits.{take_long, take_whole}
use Rattle.query_facts.specs.{Expected.expected_of, Facts.AreOfText}
use Rattle.query_facts.specs.declared.answer.Facts as answers
use Rattle.query_facts.specs.declared.answer.Facts.TheVariants.{Accepted, Refused}
use Rattle.query_lang.specs.{Lexis.fault_at, declared.fault.{FaultKind.TheVariants.QueryTooLong, QueryFault.QueryFault}}
use Rattle.query_lang.specs.declared.fault.TheConstants.{MAX_QUERY}
use Rattle.tools_cli.specs.FactsEnds.{GivesFacts, IsFactsLine}

-- the fault of each text that is longer than a query may be
abbrev too_long : QueryFault
too_long = fault_at QueryTooLong MAX_QUERY

test_true : (m n : ℕ) → m < n → nat_lt m n ≡ true
test_true m n less = grind (arith, nat_tests)

refused : (text : List ℕ) → MAX_QUERY < length text → accepted text ≡ Err too_long
unfolding accepted
refused text long = rw (test_true MAX_QUERY (length text) long) refl

-- all longer texts have the same facts
of_long : (text : List ℕ) (facts : answers.Facts) → MAX_QUERY < length text → AreOfText (take (MAX_QUERY + 1) text) facts
    → AreOfText text facts
of_long text (Accepted found) long holds =
    let is : accepted (take (MAX_QUERY + 1) text) ≡ Err too_long = refused (take (MAX_QUERY + 1) text) (take_long MAX_QUERY text long) in
    let isnt : accepted (take (MAX_QUERY + 1) text) ≡ Ok found.typed = holds.typed in
    absurd (cc (is, isnt))
of_long text (Refused found) long holds =
    let is : accepted (take (MAX_QUERY + 1) text) ≡ Err too_long = refused (take (MAX_QUERY + 1) text) (take_long MAX_QUERY text long) in
    let found_is : accepted (take (MAX_QUERY + 1) text) ≡ Err found.fault = holds.fault in
    let same : found.fault ≡ too_long = cc (is, found_is) in
    record {
      fault = refused text long ∙ ap Err (sym same);
      expected = holds.expected ∙ ap (expected_of (take (MAX_QUERY + 1) text)) same ∙ ap (expected_of text) (sym same);
    }

whole : (text : List ℕ) (facts : answers.Facts) → AreOfText (take (MAX_QUERY + 1) text) facts → AreOfText text facts
whole text facts holds =
    elim (leb_tells (length text) MAX_QUERY) [
      | inl short ↦ subst (λ bytes. AreOfText bytes facts) (take_whole MAX_QUERY text short.1) holds
      | inr long ↦ of_long text facts long.1 holds
    ]

-- The line of what was read is that of the query, which is known in the input.
pub gives_facts : (left : Option (List ℕ)) (read slice line : List ℕ) (old new : Option (List ℕ))
    → IfSome left (λ query. read ≡ take (MAX_QUERY + 1) query) → slice ≡ read → IsFactsLine slice line → Appends old new line
    → GivesFacts left old new
gives_facts None read slice line old new is same known takes text told = absurd (cc told)
gives_facts (Some query) read slice line old new is same known takes text told =
    let query_is : query ≡ text = cc told in
    let front : slice ≡ take (MAX_QUERY + 1) text = same ∙ is ∙ ap (take (MAX_QUERY + 1)) query_is in (
      line,
      record {
        facts = known.facts;
        of = whole text known.facts (subst (λ bytes. AreOfText bytes known.facts) front known.of);
        shown = known.shown;
        json = known.json;
        ended = known.ended;
      },
      takes,
    )
