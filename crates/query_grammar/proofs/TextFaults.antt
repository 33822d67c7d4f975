-- The query of a text is the one that the grammar relates to it, and its fault the first.
use Rattle.std.proofs.Common.{◌≡◌, ℕ, ◌<◌, ◌≤◌, Bool, true, false, cond, ltb, List, [], ◌∷◌, length, refl, sym, ap, subst, ◌∙◌, arith, Ok}
use Rattle.std.proofs.{Common.{Err, Result, ◌⊎◌, inl, inr}, lemmas.Bool.{le-ltb, cases_lt}}
use Rattle.query_lang.specs.declared.fault.{FaultKind.TheVariants.QueryTooLong, QueryFault.QueryFault, TheConstants.MAX_QUERY}
use Rattle.query_lang.specs.{declared.{query.Query.Query, token.Token.Token}, Lexis.{Cut, cut, fault_at, tokens_of}}
use Rattle.query_grammar.specs.{Fault.Says, Reading.parsed, Parser.{Outcome, Done, Stopped}, Texts.{IsQueryOf, IsFaultOf, too_long}}
use Rattle.query_grammar.{specs.Texts.{in_lexis, in_grammar, answered, fault_of, with_names, parsed_cut, parsed_text}, proofs.Runs.Value}
use Rattle.query_grammar.proofs.{Parsed.parsed_says, Whole.{accepted_parsed, fault_found}, CutTexts.{Pair, text_is_cut, cut_end}}

short_text : (text : List ℕ) → length text ≤ MAX_QUERY → parsed_text text ≡ parsed_cut (tokens_of text)
short_text text le = let b : ltb MAX_QUERY (length text) ≡ false = le-ltb _ _ le in rw b refl

long_text : (text : List ℕ) → MAX_QUERY < length text → parsed_text text ≡ Err (fault_at QueryTooLong MAX_QUERY)
long_text text lt = go (ltb MAX_QUERY (length text)) refl
  where
    go : (b : Bool) → ltb MAX_QUERY (length text) ≡ b → cond {A = Result Query QueryFault} b (Err (fault_at QueryTooLong MAX_QUERY))
        (parsed_cut (tokens_of text)) ≡ Err (fault_at QueryTooLong MAX_QUERY)
    go true e = refl
    go false e = grind (arith, e)

same_ok : (p q : Query) → ◌≡◌ {A = Result Query QueryFault} (Ok p) (Ok q) → p ≡ q
same_ok p q e = cc

same_err : (f g : QueryFault) → ◌≡◌ {A = Result Query QueryFault} (Err f) (Err g) → f ≡ g
same_err f g e = cc

-- what the tokens of a text say
tokens_query : (text : List ℕ) (found : Pair) (q : Query) → length text ≤ MAX_QUERY → tokens_of text ≡ Ok found → (o : Outcome Value)
    → Says found.0 o → with_names found.1 (answered o) ≡ Ok q → IsQueryOf text q
tokens_query text found q le cut (Done v c []) h e =
    let same : record { names = found.1; items = v.0; end = v.1 } ≡ q = same_ok (record { names = found.1; items = v.0; end = v.1 }) q e in
    subst (IsQueryOf text) same (record { short = le; tokens = found.0; cut = cut; accepted = h })
tokens_query text found q le cut (Done v c (t ∷ more)) h e = absurd h
tokens_query text found q le cut (Stopped k rest) h e = absurd cc

tokens_fault : (text : List ℕ) (found : Pair) (f : QueryFault) → length text ≤ MAX_QUERY → tokens_of text ≡ Ok found → (o : Outcome Value)
    → Says found.0 o → with_names found.1 (answered o) ≡ Err f → IsFaultOf text f
tokens_fault text found f le cut (Done v c rest) h e = absurd cc
tokens_fault text found f le cut (Stopped k []) h e = absurd h
tokens_fault text found f le cut (Stopped k (t ∷ more)) h e =
    in_grammar le found.1 h.0 t more k (cut ∙ ap (λ (ts : List Token). Ok (ts, found.1)) h.1) h.2 (sym (same_err (fault_of k t) f e))

cut_query : (text : List ℕ) (q : Query) → length text ≤ MAX_QUERY → (o : Cut) → tokens_of text ≡ o → parsed_cut o ≡ Ok q → IsQueryOf text q
cut_query text q le (Ok found) cut e = tokens_query text found q le cut (parsed found.0)
    (parsed_says found.0 (cut_end (text_is_cut text found cut))) e
cut_query text q le (Err fault) cut e = absurd cc

cut_fault : (text : List ℕ) (f : QueryFault) → length text ≤ MAX_QUERY → (o : Cut) → tokens_of text ≡ o → parsed_cut o ≡ Err f
    → IsFaultOf text f
cut_fault text f le (Ok found) cut e = tokens_fault text found f le cut (parsed found.0)
    (parsed_says found.0 (cut_end (text_is_cut text found cut))) e
cut_fault text f le (Err fault) cut e = in_lexis le (cut ∙ ap (λ (g : QueryFault). Err g) (same_err fault f e))

pub query_of_text : (text : List ℕ) (q : Query) → parsed_text text ≡ Ok q → IsQueryOf text q
query_of_text text q e = go (cases_lt MAX_QUERY (length text))
  where
    go : (MAX_QUERY < length text) ⊎ (length text ≤ MAX_QUERY) → IsQueryOf text q
    go (inl lt) = let x : ◌≡◌ {A = Result Query QueryFault} (Err (fault_at QueryTooLong MAX_QUERY)) (Ok q) = sym (long_text text lt)
        ∙ e in absurd cc
    go (inr le) = cut_query text q le (tokens_of text) refl (sym (short_text text le) ∙ e)

pub fault_of_text : (text : List ℕ) (f : QueryFault) → parsed_text text ≡ Err f → IsFaultOf text f
fault_of_text text f e = go (cases_lt MAX_QUERY (length text))
  where
    go : (MAX_QUERY < length text) ⊎ (length text ≤ MAX_QUERY) → IsFaultOf text f
    go (inl lt) = too_long lt (sym (same_err (fault_at QueryTooLong MAX_QUERY) f (sym (long_text text lt) ∙ e)))
    go (inr le) = cut_fault text f le (tokens_of text) refl (sym (short_text text le) ∙ e)

pub text_of_query : (text : List ℕ) (q : Query) → IsQueryOf text q → parsed_text text ≡ Ok q
text_of_query text q h =
    let p = accepted_parsed h.tokens (q.items, q.end) h.accepted in
    short_text text h.short ∙ ap parsed_cut h.cut ∙ ap (λ (o : Outcome Value). with_names q.names (answered o)) p.1

pub text_of_fault : (text : List ℕ) (f : QueryFault) → IsFaultOf text f → parsed_text text ≡ Err f
text_of_fault text f (too_long lt e) = long_text text lt ∙ ap (λ (g : QueryFault). Err g) (sym e)
text_of_fault text f (in_lexis le e) = short_text text le ∙ ap parsed_cut e
text_of_fault text f (in_grammar le names front t more k cut h e) =
    short_text text le ∙ ap parsed_cut cut ∙ ap (λ (o : Outcome Value). with_names names (answered o)) (fault_found k front t more h)
    ∙ ap (λ (g : QueryFault). Err g) (sym e)
