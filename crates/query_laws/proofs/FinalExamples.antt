-- The examples of finals, from the rules.
use Rattle.std.proofs.Common.{◌≡◌, ℕ, ◌≤◌, true, false, List, [], ◌∷◌, refl, sym, ap, ◌∙◌, arith, Ok}
use Rattle.query_lang.specs.declared.fold.TypedExpr.TheVariants as typed
use Rattle.query_lang.specs.declared.query.Expr.TheVariants.{Named}
use Rattle.query_lang.specs.declared.query.Key.TheVariants as key
use Rattle.query_laws.proofs.Terms.{Add, Lt, FinalOp, FoldView, five_fields, IsFold, IsTable, Demand, Holds, Word, Condition, HasKind}
use Rattle.query_laws.proofs.Terms.{of_number, of_name, of_binary, Earlier, MadeFinal, made_final}
use Rattle.query_laws.specs.Asked.{FinalAsks}
use Rattle.query_laws.specs.Asked as asks
use Rattle.query_laws.proofs.{FaultSteps.no_fault, FoldNames.among_new, ItemsMeet.final_meets, Steps.{same_ok, place_stands}}
use Rattle.query_laws.proofs.TypingExamples.{no_place, right_of_0}
use Rattle.query_laws.proofs.{NameLaws.{fold_name_sound, fold_name_complete, table_sound, table_complete}, FinalLaws.made_final_sound}
use Rattle.query_laws.specs.{TypingExamples.{here, called, first, is_above_0, new_column}, FinalExamples.{group_table, final_table}}
use Rattle.query_laws.specs.FinalExamples.{without_emit, with_emit, tables, three_groupbys, MakesNoTable, MakesRows, FilteredTables}
use Rattle.query_laws.specs.FinalExamples.{MappedTables, GroupedTables, JoinedTables, RankedTables, FinalExamples, table_by, MakesTable}
use Rattle.query_lang.specs.declared.query.FinalOp.TheVariants.{Join}

ten : IsTable tables 10 (group_table 0 1 3)
ten = table_sound tables (called 10) refl

eleven : IsTable tables 11 (group_table 1 1 4)
eleven = table_sound tables (called 11) refl

twelve : IsTable tables 12 (group_table 2 2 4)
twelve = table_sound tables (called 12) refl

thirteen : IsTable tables 13 final_table
thirteen = table_sound tables (called 13) refl

fifteen : IsFold tables 15 without_emit
fifteen = fold_name_sound tables (called 15) refl

-- ---- typed

variable_is_3 : HasKind (1 ∷ 3 ∷ []) Word (Named (called 3)) (typed.Slot 1)
variable_is_3 = of_name (called 3) (place_stands (1 ∷ 3 ∷ []) 3 1 refl)

variable_above_0 : HasKind (1 ∷ 3 ∷ []) Condition (is_above_0 3) (typed.Binary Lt (typed.Number 0) (typed.Slot 1))
variable_above_0 = of_binary here (of_number here) variable_is_3 tt

rows_are : {rows : ℕ} → 1 ≤ rows → rows ≤ 65536 → MakesRows rows
rows_are some few = record {
  source = group_table 0 1 3;
  slot = 1;
  table = ten;
  stands = place_stands (1 ∷ 3 ∷ []) 3 1 refl;
  some = some;
  few = few;
  is = refl;
}

abbrev after : Earlier
after = record { known = tables; groups = 3; folds = []; streams = []; finals = []; prints = []; printed = [] }

-- what the check makes has a rule
made_by_check : (op : FinalOp) {made : MadeFinal} → made_final three_groupbys after op ≡ Ok made → MakesTable op made
made_by_check op is = made_final_sound three_groupbys after op is

-- ---- refused

-- an operator makes no table where something that it asks isn't so
unmet : {op : FinalOp} {d : Demand} → FinalAsks (five_fields three_groupbys.fields) tables op d → (Holds tables d → ⊥) → MakesNoTable op
unmet asked fails = λ made h. fails (final_meets three_groupbys made h asked)

same_first : {x y : ℕ} {xs ys : List ℕ} → (x ∷ xs) ≡ (y ∷ ys) → x ≡ y
same_first e = cc e

quiet : (f : FoldView) × IsFold tables 16 f × (f.emits ≡ false) → ⊥
quiet h =
    let same = same_ok h.0 with_emit (sym (fold_name_complete tables (called 16) h.1)) in
    let both : true ≡ false = sym (ap (λ (f : FoldView). f.emits) same) ∙ h.2 in cc both

-- ---- all

filtered_tables : FilteredTables
filtered_tables = record {
  filter_of_a_groupby = record {
    source = group_table 0 1 3;
    condition = typed.Binary Lt (typed.Number 0) (typed.Slot 1);
    table = ten;
    typed = variable_above_0;
    is = refl;
  };
  filter_of_a_final = record {
    source = final_table;
    condition = typed.Binary Lt (typed.Number 0) (typed.Slot 1);
    table = thirteen;
    typed = variable_above_0;
    is = refl;
  };
  filter_on_no_column = unmet (asks.of_condition (group_table 0 1 3) ten (asks.of_name (called 4) right_of_0))
      (no_place (1 ∷ 3 ∷ []) 4 refl);
  filter_of_no_table = unmet asks.of_filtered (λ h. no_fault (sym (table_complete tables (called 14) h.1)));
  filter_of_a_fold = unmet asks.of_filtered (λ h. no_fault (sym (table_complete tables (called 15) h.1)));
}

mapped_tables : MappedTables
mapped_tables = record {
  map_of_a_sum = record {
    source = group_table 0 1 3;
    values = typed.Binary Add (typed.Slot 0) (typed.Slot 1) ∷ [];
    table = ten;
    typed = (among_new 5 (1 ∷ 3 ∷ []) refl, of_binary here (of_name (called 1) refl) variable_is_3 tt, tt);
    is = refl;
  };
  map_to_a_column = unmet (asks.of_columns (group_table 0 1 3) ten (asks.of_name [] (new_column 3 first) [] refl)) (λ new. new.1.0 refl);
}

grouped_tables : GroupedTables
grouped_tables = record {
  groupby_of_a_key = made_by_check (table_by 10 1 15) refl;
  groupby_with_an_emit = unmet (asks.of_fold (called 10) (key.Named (called 1) ∷ []) (called 16)) quiet;
  key_without_a_column = unmet (asks.of_keys (group_table 0 1 3) ten (asks.of_key [] (called 2) [] refl)) (no_place (1 ∷ 3 ∷ []) 2 refl);
  argument_without_a_column = unmet (asks.of_arguments (group_table 1 1 4) eleven fifteen (asks.of_argument [] 3 [] refl))
      (no_place (1 ∷ 4 ∷ []) 3 refl);
}

joined_tables : JoinedTables
joined_tables = record {
  join_by_the_same_keys = made_by_check (Join (called 10) (called 11)) refl;
  join_by_other_keys = unmet (asks.of_both (called 10) (called 12) (group_table 0 1 3) (group_table 2 2 4) ten twelve)
      (λ e. let same = same_first e in absurd (omega (arith, same)));
  join_of_one_name = unmet (asks.of_others (group_table 0 1 3) final_table ten thirteen) (λ apart. apart.0.1.0 refl);
}

ranked_tables : RankedTables
ranked_tables = record {
  top_0 = λ made h. absurd (omega (arith, h.some));
  top_1 = rows_are (omega arith) (omega arith);
  top_5 = rows_are (omega arith) (omega arith);
  top_65536 = rows_are (omega arith) (omega arith);
  top_65537 = λ made h. absurd (omega (arith, h.few));
  top_by_no_column = unmet (asks.of_column here (group_table 0 1 3) ten) (no_place (1 ∷ 3 ∷ []) 4 refl);
}

pub final_examples : FinalExamples
final_examples =
    record { filters = filtered_tables; maps = mapped_tables; groupbys = grouped_tables; joins = joined_tables; tops = ranked_tables }
