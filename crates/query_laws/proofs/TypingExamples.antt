-- The examples of expressions and streams, from the rules.
use Rattle.std.proofs.Common.{◌≡◌, ℕ, List, [], ◌∷◌, Option, Some, None, Ok, Err, refl, sym, ap, ◌∙◌, arith}
use Rattle.query_lang.specs.declared.fold.TypedExpr.TheVariants as typed
use Rattle.query_lang.specs.declared.query.Expr.TheVariants.{Number, Named, Binary, Call}
use Rattle.query_lang.specs.declared.typed.TypedOp.TheVariants as typed_op
use Rattle.query_lang.specs.declared.typed.TypedOp.TheVariants as typed_op
use Rattle.query_lang.specs.declared.query.Key.TheVariants as key
use Rattle.query_lang.specs.declared.query.StreamOp.TheVariants.{Group, Zip}
use Rattle.query_lang.specs.declared.typing.Sort.TheVariants as sort
use Rattle.query_laws.proofs.Terms.{QueryFault, Op, Div, Rem, Add, Shl, Shr, Lt, Both, Either, Max, Decay, TypedExpr, Expr, StreamOp, Found}
use Rattle.query_laws.proofs.Terms.{Sort, and_then, collected, place_of, of_two, call_of, negation_checked, expr_checked, StreamView}
use Rattle.query_laws.proofs.Terms.{FoldView, stream_named, fold_named, IsStream, IsFold, Kind, Word, Condition, StandsAt, HasKind}
use Rattle.query_laws.proofs.Terms.{of_number, of_name, of_not, of_binary, of_call, HasStream, Earlier, MadeStream, TypedStream}
use Rattle.query_laws.proofs.{Terms.made_stream, FaultSteps.no_fault, FoldNames.among_new, ItemsMeet.stream_meets}
use Rattle.query_laws.specs.Asked.{StreamAsks}
use Rattle.query_laws.specs.Asked as asks
use Rattle.query_laws.specs.Demands.{HasPart, Demand, Holds}
use Rattle.query_laws.specs.Demands as parts
use Rattle.query_laws.proofs.ExprComplete.{complete, word_complete, number_is, named_is, not_is, binary_is, call_is}
use Rattle.query_laws.proofs.{NameLaws.{stream_sound, stream_complete, fold_name_sound}, Steps.{then_next, place_stands, stands_place}}
use Rattle.query_laws.proofs.StreamLaws.{made_stream_sound}
use Rattle.query_laws.specs.TypingExamples.{here, called, two_columns, first, second, is_less, typed_is_less, with_first, RefusesNumber}
use Rattle.query_laws.specs.TypingExamples.{RefusesColumn, ExpressionExamples, zipped, by_key, mapped, unmapped, items_before, MakesNothing}
use Rattle.query_laws.specs.TypingExamples.{is_above_0, new_column, keys_named, eight_keys, five_names, FilterExamples, MapExamples}
use Rattle.query_laws.specs.TypingExamples.{ZipExamples, GroupExamples, StreamExamples, grouped_by}

-- ---- expressions

abbrev found : TypedExpr → Sort → Found
found tree sort = record { tree = tree; sort = sort; at = here }

refuse : {columns : List ℕ} {e : Expr} {fault : QueryFault} → expr_checked columns [] e ≡ Err fault → (k : Kind) (t : TypedExpr)
    → HasKind columns k e t → ⊥
refuse is k t h = let g = complete [] h in no_fault (sym g.is ∙ is)

two : (columns : List ℕ) (op : Op) (x y : Expr) {f g : Found} → expr_checked columns [] x ≡ Ok f → expr_checked columns [] y ≡ Ok g
    → expr_checked columns [] (Binary op here x y) ≡ of_two op f.at f g
two columns op x y p q = binary_is columns [] op here x y ∙ then_next _ p ∙ then_next _ q

two_called : (columns : List ℕ) (op : Op) (x y : Expr) {f g : Found} → expr_checked columns [] x ≡ Ok f → expr_checked columns [] y ≡ Ok g
    → expr_checked columns [] (Call op here (x ∷ y ∷ [])) ≡ of_two op here f g
two_called columns op x y {f} p q = call_is _ [] op here (x ∷ y ∷ [])
    ∙ ap (λ r. and_then (collected [] (r ∷ expr_checked columns [] y ∷ [])) (call_of op here)) p
    ∙ ap (λ r. and_then (collected (f ∷ []) (r ∷ [])) (call_of op here)) q

first_is : expr_checked two_columns [] first ≡ Ok (found (typed.Slot 0) sort.Word)
first_is = named_is two_columns [] (called 1)

pub second_is : expr_checked two_columns [] second ≡ Ok (found (typed.Slot 1) sort.Word)
second_is = named_is two_columns [] (called 2)

number : {n : ℕ} → expr_checked two_columns [] (Number n here) ≡ Ok (found (typed.Number n) (sort.Number n))
number = number_is two_columns []

less_is : expr_checked two_columns [] is_less ≡ Ok (found (typed.Binary Lt (typed.Slot 0) (typed.Slot 1)) sort.Condition)
less_is = two two_columns Lt first second first_is second_is

pub first_word : HasKind two_columns Word first (typed.Slot 0)
first_word = of_name (called 1) refl

pub second_word : HasKind two_columns Word second (typed.Slot 1)
second_word = of_name (called 2) (place_stands two_columns 2 1 refl)

pub no_word : (t : TypedExpr) × HasKind two_columns Word is_less t → ⊥
no_word h = no_fault (sym (word_complete [] h.1) ∙ then_next _ less_is)

is_condition : HasKind two_columns Condition is_less typed_is_less
is_condition = of_binary here first_word second_word tt

by_number : (op : Op) (n : ℕ) {fault : QueryFault} → expr_checked two_columns [] (with_first op (Number n here)) ≡ Err fault
    → RefusesNumber op n
by_number _ n is = refuse is

by_column : (op : Op) {fault : QueryFault} → expr_checked two_columns [] (with_first op second) ≡ Err fault → RefusesColumn op
by_column _ is = refuse is

pub expression_examples : ExpressionExamples
expression_examples = record {
  column = first_word;
  no_column = refuse (named_is two_columns [] (called 3));
  greater = of_call here first_word second_word tt;
  one_argument = refuse (call_is two_columns [] Max here (first ∷ [])
      ∙ ap (λ r. and_then (collected [] (r ∷ [])) (call_of Max here)) first_is);
  sum = of_binary here first_word (of_number here) tt;
  sum_of_a_condition = refuse (two two_columns Add is_less second less_is second_is);
  product = of_binary here first_word second_word tt;
  difference = of_binary here first_word second_word tt;
  conjunction_of_bits = of_binary here first_word second_word tt;
  exclusive_disjunction_of_bits = of_binary here first_word second_word tt;
  disjunction_of_bits = of_binary here first_word second_word tt;
  less = of_call here first_word second_word tt;
  saturating_sum = of_call here first_word second_word tt;
  comparison = is_condition;
  equal = of_binary here first_word second_word tt;
  other = of_binary here first_word second_word tt;
  at_most = of_binary here first_word second_word tt;
  above = of_binary here first_word second_word tt;
  at_least = of_binary here first_word second_word tt;
  both = of_binary here is_condition is_condition tt;
  both_of_words = by_column Both (two two_columns Both first second first_is second_is);
  either = of_binary here is_condition is_condition tt;
  either_of_words = by_column Either (two two_columns Either first second first_is second_is);
  negation = of_not here is_condition;
  negation_of_a_word = refuse (not_is two_columns [] here first ∙ then_next (negation_checked here) first_is);
  quotient = of_binary here first_word (of_number here) (1, here, refl, omega arith);
  divided_by_zero = by_number Div 0 (two two_columns Div first (Number 0 here) first_is number);
  divided_by_a_column = by_column Div (two two_columns Div first second first_is second_is);
  remainder = of_binary here first_word (of_number here) (1, here, refl, omega arith);
  remainder_by_zero = by_number Rem 0 (two two_columns Rem first (Number 0 here) first_is number);
  remainder_by_a_column = by_column Rem (two two_columns Rem first second first_is second_is);
  shift = of_binary here first_word (of_number here) (63, here, refl, omega arith);
  shifted_by_64 = by_number Shl 64 (two two_columns Shl first (Number 64 here) first_is number);
  shifted_by_a_column = by_column Shl (two two_columns Shl first second first_is second_is);
  shift_right = of_binary here first_word (of_number here) (63, here, refl, omega arith);
  shifted_right_by_64 = by_number Shr 64 (two two_columns Shr first (Number 64 here) first_is number);
  shifted_right_by_a_column = by_column Shr (two two_columns Shr first second first_is second_is);
  decay = of_call here first_word (of_number here) (63, here, refl, omega arith);
  decay_by_64 = by_number Decay 64 (two_called two_columns Decay first (Number 64 here) first_is number);
  decay_by_a_column = by_column Decay (two_called two_columns Decay first second first_is second_is);
}

-- ---- streams

pub no_place : (names : List ℕ) (id : ℕ) → place_of names id ≡ None → (place : ℕ) × StandsAt names place id → ⊥
no_place _ _ none h = let same : (let o : Option ℕ = None in o) ≡ Some h.0 = sym none ∙ stands_place _ _ h.1 in cc same

-- what is on the right of `0 <`
pub right_of_0 : {id : ℕ} → HasPart Condition (is_above_0 id) Word (Named (called id))
right_of_0 = parts.of_right _ _ _ parts.whole

stream_is : (id : ℕ) {stream : StreamView} → stream_named items_before (called id) ≡ Ok stream → IsStream items_before id stream
stream_is id is = stream_sound items_before (called id) is

fold_is : (id : ℕ) {f : FoldView} → fold_named items_before (called id) ≡ Ok f → IsFold items_before id f
fold_is id is = fold_name_sound items_before (called id) is

-- before stream 4, after one groupby
abbrev before : Earlier
before =
    let one : TypedStream = record { name = called 10; columns = []; op = typed_op.Filter 0 (typed.Number 0) } in
    record { known = items_before; groups = 1; folds = []; streams = one ∷ one ∷ one ∷ []; finals = []; prints = []; printed = [] }

-- what the check makes has a rule
made_by_check : (five : List ℕ) (op : StreamOp) {made : MadeStream} → made_stream five before (called 20) op ≡ Ok made
    → HasStream five items_before 4 1 op made
made_by_check five op is = made_stream_sound five before (called 20) op is

-- an operator makes nothing where something that it asks isn't so
unmet : {op : StreamOp} {d : Demand} → StreamAsks [] items_before 1 (called 20) op d → (Holds items_before d → ⊥) → MakesNothing op
unmet asked fails = λ made h. fails (stream_meets 4 made h asked)

filter_examples : FilterExamples
filter_examples = record {
  filter_on_the_key = record {
    source = by_key;
    condition = typed.Binary Lt (typed.Number 0) (typed.Slot 0);
    stream = stream_is 10 refl;
    typed = of_binary here (of_number here) (of_name (called 1) refl) tt;
    is = refl;
  };
  filter_on_a_state = unmet (asks.of_condition by_key (stream_is 10 refl) (asks.of_name (called 3) right_of_0)) (no_place (1 ∷ []) 3 refl);
  filter_of_a_fold = unmet asks.of_filtered (λ h. no_fault (sym (stream_complete items_before (called 13) h.1)));
  filter_on_a_column_with_a_states_name = record {
    source = zipped;
    condition = typed.Binary Lt (typed.Number 0) (typed.Slot 1);
    stream = stream_is 16 refl;
    typed = of_binary here (of_number here) (of_name (called 3) (place_stands (1 ∷ 3 ∷ []) 3 1 refl)) tt;
    is = refl;
  };
}

map_examples : MapExamples
map_examples = record {
  map_of_a_sum = record {
    source = unmapped;
    values = typed.Binary Add (typed.Slot 0) (typed.Slot 1) ∷ [];
    stream = stream_is 12 refl;
    typed = (among_new 5 two_columns refl, of_binary here first_word second_word tt, tt);
    is = refl;
  };
  map_to_a_column = unmet (asks.of_columns unmapped (stream_is 12 refl) (asks.of_name [] (new_column 2 first) [] refl))
      (λ new. new.1.0 refl);
  map_to_a_state = unmet (asks.of_columns by_key (stream_is 10 refl) (asks.of_name [] (new_column 3 first) [] refl))
      (λ new. new.1.0 refl);
  map_to_one_name = unmet (asks.of_columns unmapped (stream_is 12 refl)
      (asks.of_name (new_column 5 first ∷ []) (new_column 5 second) [] refl))
      (λ new. new.1.1.0 refl);
  map_of_a_condition = unmet (asks.of_columns unmapped (stream_is 12 refl)
      (asks.of_value [] (new_column 5 is_less) [] refl (asks.of_part parts.whole))) no_word;
  map_of_a_new_column = unmet (asks.of_columns unmapped (stream_is 12 refl)
      (asks.of_value (new_column 5 first ∷ []) (new_column 6 (Named (called 5))) [] refl (asks.of_name (called 5) parts.whole)))
      (no_place two_columns 5 refl);
}

zip_examples : ZipExamples
zip_examples = record {
  zip_of_one_column = made_by_check [] (Zip (called 10) (called 11)) refl;
  zip_of_a_mapped_column = unmet (asks.of_both (called 11) (called 12) mapped unmapped (stream_is 11 refl) (stream_is 12 refl))
      (λ same. let e = same.1.0.1.0 refl in cc e);
}

group_examples : GroupExamples
group_examples = record {
  groupby_of_a_key = made_by_check [] (grouped_by 12 1 13) refl;
  key_twice = λ made h. h.picked.distinct.1.0.0 refl;
  key_without_a_column = unmet (asks.of_keys unmapped (stream_is 12 refl) (asks.of_key [] (called 5) [] refl))
      (no_place two_columns 5 refl);
  key_is_a_state = unmet (asks.of_keys by_key (stream_is 10 refl) (asks.of_key [] (called 3) [] refl)) (no_place (1 ∷ []) 3 refl);
  argument_without_a_column = unmet (asks.of_arguments by_key (stream_is 10 refl) (fold_is 13 refl) (asks.of_argument [] 2 [] refl))
      (no_place (1 ∷ []) 2 refl);
  variable_with_a_keys_name = unmet (asks.of_arguments unmapped (stream_is 12 refl) (fold_is 14 refl) asks.of_states)
      (λ apart. apart.0.0 refl);
  eight_fields = made_by_check [] (Group (called 15) (keys_named eight_keys) (called 13)) refl;
  nine_fields = λ made h. absurd (omega (arith, h.picked.few));
  five_tuple = made_by_check five_names (Group (called 15) (key.FiveTuple here ∷ []) (called 13)) refl;
  ninth_groupby = λ made h. absurd (omega (arith, h.few));
}

pub stream_examples : StreamExamples
stream_examples = record { filters = filter_examples; maps = map_examples; zips = zip_examples; groupbys = group_examples }
