-- The numbers in the items of a text's query are words.
use Rattle.std.proofs.{Common.{ℕ, List, Option, Some, None, sym, subst, arith}, lemmas.List.Elements.All-weaker}
use Rattle.std.specs.Prelude.{All}
use Rattle.query_lang.specs.declared.token.Mark.TheVariants as marks
use Rattle.query_lang.specs.declared.token.Word.TheVariants as words
use Rattle.query_types.specs.Numbers.{columns_number, stream_number, final_number, item_number}
use Rattle.query_grammar.specs.Grammar.{initial_of, StateVariable, Parameters, Fold, Filter, ColumnOf, Mapping, Streaming, Stream}
use Rattle.query_grammar.specs.Grammar.{Finishing, Final, Print, ItemOf}
use Rattle.query_laws.proofs.Terms.{Span, Column, Expr, FinalOp, Item, StateVar, StreamOp, IsWord, Language, sign, keyword}
use Rattle.query_laws.proofs.{Tokens.{AreWordTokens, cut_words}, Holds.{HaveWords, leaves_have, both_have, Holds, any_holds, first_is_word}}
use Rattle.query_laws.proofs.Holds.{number_holds, then_holds, first_holds, second_holds, meaning_holds, either_holds, repeats, if_some}
use Rattle.query_laws.proofs.Holds.{once_holds, after_holds, between_holds, parens_hold, brackets_hold, separated_holds, listed_holds}
use Rattle.query_laws.proofs.Numbers.{is_word_expr, greatest_word, expr_holds, block_holds, stmt_holds}
use Rattle.query_laws.specs.ValidLaws.{StartsAsWords, NumbersAreWords}

-- ---- parts of items

abbrev state_word : StateVar → Type 0
state_word s = IsWord s.initial

initial_word : (o : Option (ℕ × Span)) → if_some first_is_word o → IsWord (initial_of o)
initial_word None h = omega arith
initial_word (Some n) h = h

variable_holds : Holds StateVariable state_word
variable_holds = meaning_holds (second_holds _ (once_holds (after_holds (sign marks.Assign) number_holds))) (λ a h. initial_word a.1 h)

parameters_hold : Holds Parameters (λ v. All state_word v.0)
parameters_hold = parens_hold (first_holds _ (brackets_hold (listed_holds variable_holds)))

filter_holds : {E : Language Expr} → Holds E is_word_expr → Holds (Filter E) (λ v. is_word_expr v.1)
filter_holds p = after_holds (keyword words.Filter) (parens_hold (second_holds _ (after_holds (sign marks.Comma) p)))

abbrev column_word : Column → Type 0
column_word c = is_word_expr c.value

abbrev columns_word : List Column → Type 0
columns_word cs = IsWord (columns_number cs)

column_holds : {E : Language Expr} → Holds E is_word_expr → Holds (ColumnOf E) column_word
column_holds p = meaning_holds (second_holds _ (after_holds (sign marks.Assign) p)) (λ a h. h)

all_columns : {L : Language (List Column)} → Holds L (All column_word) → Holds L columns_word
all_columns p = record { is = λ w v h b. greatest_word _ v (p.is w v h b) }

mapping_holds : {E : Language Expr} → Holds E is_word_expr → Holds (Mapping E) (λ v. columns_word v.1)
mapping_holds p = after_holds (keyword words.Map) (parens_hold (second_holds _ (after_holds (sign marks.Comma)
    (brackets_hold (all_columns (separated_holds (column_holds p)))))))

abbrev stream_word : StreamOp → Type 0
stream_word op = IsWord (stream_number op)

streaming_holds : {E : Language Expr} → Holds E is_word_expr → Holds (Streaming E E) stream_word
streaming_holds p = either_holds (meaning_holds (filter_holds p) (λ a h. h)) (either_holds (meaning_holds (mapping_holds p) (λ a h. h))
    (either_holds (meaning_holds any_holds (λ a h. omega arith)) (meaning_holds any_holds (λ a h. omega arith))))

abbrev final_word : FinalOp → Type 0
final_word op = IsWord (final_number op)

finishing_holds : {E : Language Expr} → Holds E is_word_expr → Holds (Finishing E E) final_word
finishing_holds p = either_holds (meaning_holds (filter_holds p) (λ a h. h)) (either_holds (meaning_holds (mapping_holds p) (λ a h. h))
    (either_holds (meaning_holds any_holds (λ a h. omega arith)) (either_holds (meaning_holds any_holds (λ a h. omega arith))
    (meaning_holds any_holds (λ a h. omega arith)))))

-- ---- items

abbrev item_word : Item → Type 0
item_word i = IsWord (item_number i) × StartsAsWords i

fold_holds : (d : ℕ) → Holds (Fold d) item_word
fold_holds d = meaning_holds (second_holds _ (second_holds _ (then_holds parameters_hold (block_holds (stmt_holds d)))))
    (λ a h. (greatest_word _ _ h.1, h.0))

stream_holds : {E : Language Expr} → Holds E is_word_expr → Holds (Stream E E) item_word
stream_holds p = meaning_holds
    (second_holds _ (between_holds (sign marks.Assign) (sign marks.Semicolon) (streaming_holds p))) (λ a h. (h, tt))

final_holds : {E : Language Expr} → Holds E is_word_expr → Holds (Final E E) item_word
final_holds p = meaning_holds
    (second_holds _ (second_holds _ (between_holds (sign marks.Assign) (sign marks.Semicolon) (finishing_holds p)))) (λ a h. (h, tt))

print_holds : Holds Print item_word
print_holds = meaning_holds any_holds (λ a h. (omega arith, tt))

item_holds : (d : ℕ) → Holds (ItemOf d) item_word
item_holds d = either_holds (fold_holds d)
    (either_holds (stream_holds (expr_holds d)) (either_holds (final_holds (expr_holds d)) print_holds))

abbrev item_number_word : Item → Type 0
item_number_word i = IsWord (item_number i)

pub numbers : NumbersAreWords
numbers _ q h =
    let tokens : AreWordTokens h.tokens = cut_words _ 0 _ _ h.cut in
    let leaves : HaveWords h.accepted.leaves = leaves_have _ (subst AreWordTokens (sym h.accepted.tokens) tokens) in
    let means = h.accepted.means in
    let split = both_have _ _ (subst HaveWords means.2 leaves) in
    let all : All item_word q.items = repeats (item_holds _) _ _ means.3 split.0 in (
      greatest_word _ _ (All-weaker item_word item_number_word (λ i w. w.0) q.items all),
      All-weaker item_word StartsAsWords (λ i w. w.1) q.items all,
    )
