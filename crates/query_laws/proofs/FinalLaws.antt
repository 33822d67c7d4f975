-- Finals: the rules and the checks agree.
use Rattle.std.proofs.Common.{◌≡◌, ℕ, ◌≤◌, Bool, true, false, ◌&&◌, List, [], ◌∷◌, ◌++◌, length, Ok, nat_eq, nat_le, refl, sym, ap, subst}
use Rattle.std.proofs.{Common.{◌∙◌, append-nil, arith}, lemmas.Bool.{ltb-true, leb-true}}
use Rattle.std.specs.Cmp.Lexicographic.{pointwise}
use Rattle.query_lang.specs.declared.query.FinalOp.TheVariants as ops
use Rattle.query_lang.specs.declared.typed.TypedFinalOp.TheVariants as typed
use Rattle.query_laws.proofs.Terms.{Span, Name, Key, Column, Expr, FinalOp, Earlier, Given, TableView, FoldView, MadeFinal, NewColumns}
use Rattle.query_laws.proofs.Terms.{Picked, fold_named, new_columns, no_new_columns, keys_checked, arguments_of, table_named, table_number}
use Rattle.query_laws.proofs.Terms.{five_fields, final_filter, final_map, quiet_fold, final_group, final_join, final_top, made_final}
use Rattle.query_laws.proofs.Terms.{HasTypedColumns, HasArguments}
use Rattle.query_laws.proofs.Steps.{must_ok, must_not_ok, must_holds, must_not_holds, same_ok, found_first, then_next, nat_same, nat_is}
use Rattle.query_laws.proofs.{ExprSound.{slot_stands, condition_sound}, ExprComplete.condition_complete, FoldNames.below}
use Rattle.query_laws.proofs.{StreamLaws.{picked_sound, picked_complete}, NameLaws.{ok, table_sound, table_complete, fold_name_sound}}
use Rattle.query_laws.proofs.NameLaws.{fold_name_complete, columns_sound, columns_complete, slot_complete, apart_sound, apart_complete}
use Rattle.query_laws.proofs.NameLaws.{arguments_sound, arguments_complete}
use Rattle.query_laws.specs.FinalRules.{OfFilter, OfMap, OfGroup, OfJoin, OfTop, HasFinal}

both_true : (a : Bool) {b : Bool} → (a && b) ≡ true → (a ≡ true) × (b ≡ true)
both_true true e = (refl, e)
both_true false e = cc e

pub both_hold : {a b : Bool} → a ≡ true → b ≡ true → (a && b) ≡ true
both_hold {b} p q = ap (λ c. c && b) p ∙ q

same_sound : (xs ys : List ℕ) → pointwise nat_eq xs ys ≡ true → xs ≡ ys
same_sound [] [] e = refl
same_sound [] (y ∷ _) e = cc e
same_sound (x ∷ _) [] e = cc e
same_sound (x ∷ xs) (y ∷ _) e =
    let p = both_true _ e in
    ap (λ z. z ∷ xs) (nat_same p.0) ∙ ap (λ z. y ∷ z) (same_sound _ _ p.1)

same_refl : (xs : List ℕ) → pointwise nat_eq xs xs ≡ true
same_refl [] = refl
same_refl (x ∷ xs) = both_hold (nat_is refl) (same_refl xs)

pub same_complete : {xs ys : List ℕ} → xs ≡ ys → pointwise nat_eq xs ys ≡ true
same_complete {xs} e = subst (λ z. pointwise nat_eq xs z ≡ true) e (same_refl xs)

filter_sound : {groups : ℕ} (earlier : Earlier) {input : Name} {e : Expr} {made : MadeFinal} → final_filter groups earlier input e ≡ Ok made
    → OfFilter groups earlier.known input e made
filter_sound _ is =
    let source = found_first _ _ _ is in
    let c = found_first _ _ _ source.2 in
    record {
      source = source.0;
      condition = c.0;
      table = table_sound _ _ source.1;
      typed = condition_sound [] c.1;
      is = sym (same_ok _ _ c.2);
    }

filter_complete : {groups : ℕ} (earlier : Earlier) {input : Name} {e : Expr} {made : MadeFinal} → OfFilter groups earlier.known input e made
    → final_filter groups earlier input e ≡ Ok made
filter_complete _ h = then_next _ (table_complete _ _ h.table) ∙ then_next _ (condition_complete [] h.typed) ∙ ok (sym h.is)

abbrev maps_to : ℕ → TableView → NewColumns → MadeFinal
maps_to groups source made = record {
  op = typed.Map (table_number groups source.place) made.values;
  columns = source.columns ++ made.names;
  keys = source.keys;
}

map_sound : {groups : ℕ} (earlier : Earlier) {input : Name} {cs : List Column} {made : MadeFinal}
    → final_map groups earlier input cs ≡ Ok made → OfMap groups earlier.known input cs made
map_sound {groups} earlier {input} {cs} {made} is =
    let source = found_first (table_named earlier.known input) _ made is in
    let n = found_first (new_columns source.0.columns [] no_new_columns cs) _ made source.2 in
    let c = columns_sound source.0.columns [] cs no_new_columns n.1 in
    record {
      source = source.0;
      values = c.0;
      table = table_sound earlier.known input source.1;
      typed = subst (λ z. HasTypedColumns source.0.columns z cs c.0) (append-nil source.0.columns) c.1;
      is = sym (same_ok _ made n.2) ∙ ap (maps_to groups source.0) c.2;
    }

map_complete : {groups : ℕ} (earlier : Earlier) {input : Name} {cs : List Column} {made : MadeFinal}
    → OfMap groups earlier.known input cs made → final_map groups earlier input cs ≡ Ok made
map_complete earlier {input} {cs} h =
    then_next _ (table_complete earlier.known input h.table) ∙ then_next _ (columns_complete h.source.columns [] cs h.values no_new_columns
    (subst (λ z. HasTypedColumns h.source.columns z cs h.values) (sym (append-nil h.source.columns)) h.typed)) ∙ ok (sym h.is)

abbrev groups_to : ℕ → TableView → FoldView → List ℕ → Picked → MadeFinal
groups_to groups source f arguments picked = record {
  op = typed.Group (table_number groups source.place) picked.slots f.number arguments;
  columns = picked.names ++ f.states;
  keys = length picked.names;
}

group_sound : (given : Given) (earlier : Earlier) {input : Name} {keys : List Key} {fold_name : Name} {made : MadeFinal}
    → final_group given earlier input keys fold_name ≡ Ok made
    → OfGroup (five_fields given.fields) given.groups earlier.known input keys fold_name made
group_sound given earlier {input} {keys} {fold_name} {made} is =
    let five = five_fields given.fields in
    let source = found_first (table_named earlier.known input) _ made is in
    let picked = found_first (keys_checked five source.0.columns [] keys) _ made source.2 in
    let f = found_first (quiet_fold earlier.known fold_name) _ made picked.2 in
    let loud = found_first (fold_named earlier.known fold_name) _ f.0 f.1 in
    let quiet = must_not_ok _ _ _ loud.2 in
    let same = same_ok loud.0 f.0 quiet.1 in
    let arguments = found_first (arguments_of source.0.columns [] picked.0.names f.0 fold_name.span) _ made f.2 in
    let k = picked_sound five [] keys picked.1 in
    record {
      source = source.0;
      slots = k.0;
      f = f.0;
      arguments = arguments.0;
      table = table_sound earlier.known input source.1;
      picked = k.1;
      fold = fold_name_sound earlier.known fold_name (loud.1 ∙ ok same);
      quiet = sym (ap (λ (z : FoldView). z.emits) same) ∙ quiet.0;
      taken = subst (λ (z : Picked). HasArguments source.0.columns z.names f.0 arguments.0) k.2
          (arguments_sound [] fold_name.span arguments.1);
      is = sym (same_ok _ made arguments.2) ∙ ap (groups_to given.groups source.0 f.0 arguments.0) k.2;
    }

group_complete : (given : Given) (earlier : Earlier) {input : Name} {keys : List Key} {fold_name : Name} {made : MadeFinal}
    → OfGroup (five_fields given.fields) given.groups earlier.known input keys fold_name made
    → final_group given earlier input keys fold_name ≡ Ok made
group_complete given earlier {input} {keys} {fold_name} h =
    let five = five_fields given.fields in
    then_next _ (table_complete earlier.known input h.table) ∙ then_next _ (picked_complete five [] keys h.picked)
    ∙ then_next _ (then_next _ (fold_name_complete earlier.known fold_name h.fold) ∙ must_not_holds _ _ h.quiet)
    ∙ then_next _ (arguments_complete [] fold_name.span h.taken) ∙ ok (sym h.is)

join_sound : {groups : ℕ} (earlier : Earlier) {first second : Name} {made : MadeFinal} → final_join groups earlier first second ≡ Ok made
    → OfJoin groups earlier.known first second made
join_sound _ is =
    let left = found_first _ _ _ is in
    let right = found_first _ _ _ left.2 in
    let one = must_ok _ _ _ right.2 in
    let two = must_not_ok _ _ _ one.1 in
    record {
      left = left.0;
      right = right.0;
      one = table_sound _ _ left.1;
      other = table_sound _ _ right.1;
      keys = same_sound _ _ one.0;
      apart = apart_sound _ _ two.0;
      is = sym (same_ok _ _ two.1);
    }

join_complete : {groups : ℕ} (earlier : Earlier) {first second : Name} {made : MadeFinal} → OfJoin groups earlier.known first second made
    → final_join groups earlier first second ≡ Ok made
join_complete _ h = then_next _ (table_complete _ _ h.one)
    ∙ then_next _ (table_complete _ _ h.other) ∙ must_holds _ _ (same_complete h.keys)
    ∙ must_not_holds _ _ (apart_complete _ _ h.apart) ∙ ok (sym h.is)

pub at_most : {k n : ℕ} → k ≤ n → nat_le k n ≡ true
at_most h = grind arith

top_sound : {groups : ℕ} (earlier : Earlier) {input column : Name} {kept : ℕ} (span : Span) {made : MadeFinal}
    → final_top groups earlier input column kept span ≡ Ok made → OfTop groups earlier.known input column kept made
top_sound _ {column} {kept} _ is =
    let source = found_first _ _ _ is in
    let slot = found_first _ _ _ source.2 in
    let one = must_ok _ _ _ slot.2 in
    let both = both_true _ one.0 in
    let some = ltb-true 0 kept both.0 in
    record {
      source = source.0;
      slot = slot.0;
      table = table_sound _ _ source.1;
      stands = slot_stands source.0.columns [] column slot.1;
      some = omega (arith, some);
      few = leb-true kept 65536 both.1;
      is = sym (same_ok _ _ one.1);
    }

top_complete : {groups : ℕ} (earlier : Earlier) {input column : Name} {kept : ℕ} (span : Span) {made : MadeFinal}
    → OfTop groups earlier.known input column kept made → final_top groups earlier input column kept span ≡ Ok made
top_complete earlier {input} {column} _ h = then_next _ (table_complete earlier.known input h.table)
    ∙ then_next _ (slot_complete h.source.columns [] column h.stands)
    ∙ must_holds _ _ (both_hold (below (omega (arith, h.some))) (at_most h.few)) ∙ ok (sym h.is)

pub made_final_sound : (given : Given) (earlier : Earlier) (op : FinalOp) {made : MadeFinal} → made_final given earlier op ≡ Ok made
    → HasFinal given earlier.known op made
made_final_sound _ earlier (ops.Filter _ e) is = filter_sound earlier is
made_final_sound _ earlier (ops.Map _ _) is = map_sound earlier is
made_final_sound given earlier (ops.Group _ _ _) is = group_sound given earlier is
made_final_sound _ earlier (ops.Join _ _) is = join_sound earlier is
made_final_sound _ earlier (ops.Top _ _ _ span) is = top_sound earlier span is

pub made_final_complete : (given : Given) (earlier : Earlier) (op : FinalOp) {made : MadeFinal} → HasFinal given earlier.known op made
    → made_final given earlier op ≡ Ok made
made_final_complete _ earlier (ops.Filter _ e) h = filter_complete earlier h
made_final_complete _ earlier (ops.Map _ _) h = map_complete earlier h
made_final_complete given earlier (ops.Group _ _ _) h = group_complete given earlier h
made_final_complete _ earlier (ops.Join _ _) h = join_complete earlier h
made_final_complete _ earlier (ops.Top _ _ _ span) h = top_complete earlier span h
