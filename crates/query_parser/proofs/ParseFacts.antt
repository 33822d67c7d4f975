-- What parsing gives, as the grammar relates it to the text.
use Rattle.std.{proofs.Common.{ℕ, List, Ok, Err, Result}, specs.Prelude.IfOk}
use Rattle.query_lang.specs.{declared.{query.Query.Query, error.QueryError.QueryError}, Answers.Answers, Limits.IsReadable}
use Rattle.query_lang.specs.declared.error.QueryError.TheVariants.{Refused, Memory}
use Rattle.query_grammar.{specs.Texts.{IsFaultOf, IsQueryOf, parsed_text}, proofs.Numbered.readable}
use Rattle.query_grammar.proofs.TextFaults.{fault_of_text, query_of_text}
use Rattle.query_parser.specs.Given.{IfRefused}

pub query_is : (text : List ℕ) (r : Result Query QueryError) → Answers r (parsed_text text) → IfOk r (λ q. IsQueryOf text q)
query_is text (Ok q) h = query_of_text text q h
query_is text (Err a) h = tt

pub readable_is : (text : List ℕ) (r : Result Query QueryError) → Answers r (parsed_text text) → IfOk r (λ q. IsReadable q)
readable_is text (Ok q) h = readable text q (query_of_text text q h)
readable_is text (Err a) h = tt

pub fault_is : (text : List ℕ) (r : Result Query QueryError) → Answers r (parsed_text text) → IfRefused r (λ fault. IsFaultOf text fault)
fault_is text (Ok q) h = tt
fault_is text (Err (Refused fault)) h = fault_of_text text fault h
fault_is text (Err Memory) h = tt
