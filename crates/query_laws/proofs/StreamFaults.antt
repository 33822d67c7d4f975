-- What a fault in the operator of a stream or a final says.
use Rattle.std.proofs.Common.{◌≡◌, ℕ, ◌≤◌, true, ◌&&◌, List, [], Ok, Err, refl, ap, subst, arith}
use Rattle.std.specs.{Prelude.{flat_map, nat_lt, nat_le}, List.list_any}
use Rattle.query_lang.specs.declared.query.FinalOp.TheVariants as final
use Rattle.query_lang.specs.declared.query.StreamOp.TheVariants as stream
use Rattle.query_laws.proofs.Terms.{QueryFault, Column, Expr, FinalOp, Key, Name, StreamOp, Span, Earlier, FoldView, Given, Picked}
use Rattle.query_laws.proofs.Terms.{is_among, slot_of, quiet_fold, five_fields, same_names, key_columns, other_columns, made_final}
use Rattle.query_laws.proofs.Terms.{column_names, key_names, no_new_columns, new_columns, clash, keys_checked, arguments_of, made_stream}
use Rattle.query_laws.proofs.Terms.{MAX_GROUPBYS, IsFold}
use Rattle.query_laws.specs.Asked.{StreamAsks, FinalAsks, of_filtered, of_condition, of_mapped, of_columns, of_first, of_second, of_both}
use Rattle.query_laws.specs.Asked.{of_limit, of_grouped, of_keys, of_fold, of_arguments}
use Rattle.query_laws.specs.Asked as asks
use Rattle.query_laws.proofs.{ExprFaults.{slot_told, condition_told}, FoldNames.below, StreamLaws.{all_same_complete, picked_sound}}
use Rattle.query_laws.proofs.FaultSteps.{no_fault, not_both, by_must, by_must_not, by_next, Broken, broken_in, broken, broken_at}
use Rattle.query_laws.proofs.FinalLaws.{at_most, both_hold, same_complete}
use Rattle.query_laws.proofs.NameFaults.{stream_told, fold_told, table_told, quiet_told, columns_told, at_least, keys_told, arguments_told}
use Rattle.query_laws.proofs.NameLaws.{stream_sound, fold_name_sound, table_sound, apart_complete}
use Rattle.query_laws.proofs.Steps.{must_not_ok, same_ok, found_first}

-- what each fault in this operator of a stream breaks
abbrev StreamTold : List ℕ → Earlier → Name → StreamOp → Type 0
StreamTold five earlier name op = (fault : QueryFault) → made_stream five earlier name op ≡ Err fault
    → Broken (StreamAsks five earlier.known earlier.groups name op) earlier.known fault

stream_filter_told : {five : List ℕ} (earlier : Earlier) {name : Name} {input : Name} {e : Expr}
    → StreamTold five earlier name (stream.Filter input e)
stream_filter_told earlier _ is = by_next _ is (λ is. broken _ of_filtered (stream_told _ _ is)) (λ source p is.
    by_next _ is (λ is. broken_in (λ d asked. of_condition source (stream_sound _ _ p) asked) (condition_told _ _ _ is))
    (λ condition q is. no_fault is))

stream_map_told : {five : List ℕ} (earlier : Earlier) {name : Name} {input : Name} {new : List Column}
    → StreamTold five earlier name (stream.Map input new)
stream_map_told earlier {new} _ is = by_next _ is (λ is. broken _ of_mapped (stream_told _ _ is)) (λ source p is.
    by_next (new_columns (column_names source.columns) source.hidden no_new_columns new) is
    (λ is. broken_in (λ d asked. of_columns source (stream_sound _ _ p) asked) (columns_told [] new no_new_columns refl refl is))
    (λ made q is. no_fault is))

stream_zip_told : {five : List ℕ} (earlier : Earlier) {name : Name} {first second : Name}
    → StreamTold five earlier name (stream.Zip first second)
stream_zip_told earlier {first} {second} _ is = by_next _ is (λ is. broken _ of_first (stream_told _ _ is)) (λ left p is.
    by_next _ is (λ is. broken _ of_second (stream_told _ _ is)) (λ right q is.
    by_must_not (clash left.columns right.columns) is (λ clashes at. broken_at _
    (of_both first second left right (stream_sound _ _ p) (stream_sound _ _ q)) at
    (refl, λ same. not_both _ (all_same_complete _ _ same) clashes)) (λ none is. no_fault is)))

stream_groupby_told : {five : List ℕ} (earlier : Earlier) {name : Name} {input : Name} {keys : List Key} {fold_name : Name}
    → StreamTold five earlier name (stream.Group input keys fold_name)
stream_groupby_told {five} earlier {input} {keys} {fold_name} fault is =
    by_must (nat_lt earlier.groups MAX_GROUPBYS) _ is (λ full at. broken_at _ of_limit at (refl, refl, at_least refl full)) (λ few is.
    by_next _ is (λ is. broken _ of_grouped (stream_told _ _ is)) (λ source p is.
    by_next (keys_checked five (column_names source.columns) source.hidden keys) is
    (λ is. broken_in (λ d asked. of_keys source (stream_sound _ _ p) asked)
    (keys_told [] (flat_map (key_names five) keys) (record { names = []; slots = [] }) refl refl is)) (λ picked q is.
    by_next _ is (λ is. broken _ (of_fold input keys fold_name) (fold_told _ _ is)) (λ f r is.
    by_next (arguments_of (column_names source.columns) source.hidden picked.names f fold_name.span) is
    (λ is.
    let k = picked_sound five source.hidden keys q in
    broken_in (λ d asked. of_arguments source (stream_sound _ _ p) (fold_name_sound _ _ r) asked)
    (arguments_told (subst (λ z. arguments_of (column_names source.columns) source.hidden z f fold_name.span ≡ Err fault)
    (ap (λ (z : Picked). z.names) k.2) is))) (λ arguments s is. no_fault is)))))

pub stream_op_told : {five : List ℕ} (earlier : Earlier) {name : Name} (op : StreamOp) → StreamTold five earlier name op
stream_op_told earlier (stream.Filter _ e) = stream_filter_told earlier
stream_op_told earlier (stream.Map _ _) = stream_map_told earlier
stream_op_told earlier (stream.Zip _ _) = stream_zip_told earlier
stream_op_told earlier (stream.Group _ _ _) = stream_groupby_told earlier

quiet_stands : (earlier : Earlier) (name : Name) {f : FoldView} → quiet_fold earlier.known name ≡ Ok f → IsFold earlier.known name.id f
quiet_stands earlier name {f} e =
    let loud = found_first _ _ f e in
    let quiet = must_not_ok _ _ _ loud.2 in
    subst (λ z. IsFold earlier.known name.id z) (same_ok _ f quiet.1) (fold_name_sound _ _ loud.1)

kept : {rows : ℕ} → 1 ≤ rows → rows ≤ 65536 → (nat_lt 0 rows && nat_le rows 65536) ≡ true
kept some few = both_hold (below (omega (arith, some))) (at_most few)

-- what each fault in this operator of a final breaks
abbrev FinalTold : Given → Earlier → FinalOp → Type 0
FinalTold given earlier op = (fault : QueryFault) → made_final given earlier op ≡ Err fault
    → Broken (FinalAsks (five_fields given.fields) earlier.known op) earlier.known fault

module _ (given : Given) (earlier : Earlier) where
  final_filter_told : {input : Name} {e : Expr} → FinalTold given earlier (final.Filter input e)
  final_filter_told _ is = by_next _ is (λ is. broken _ asks.of_filtered (table_told _ _ is)) (λ source p is.
      by_next _ is (λ is. broken_in (λ d asked. asks.of_condition source (table_sound _ _ p) asked) (condition_told _ _ _ is))
      (λ condition q is. no_fault is))

  final_map_told : {input : Name} {new : List Column} → FinalTold given earlier (final.Map input new)
  final_map_told {new} _ is = by_next _ is (λ is. broken _ asks.of_mapped (table_told _ _ is)) (λ source p is.
      by_next (new_columns source.columns [] no_new_columns new) is (λ is. broken_in
      (λ d asked. asks.of_columns source (table_sound _ _ p) asked) (columns_told [] new no_new_columns refl refl is))
      (λ made q is. no_fault is))

  final_groupby_told : {input : Name} {keys : List Key} {fold_name : Name}
      → FinalTold given earlier (final.Group input keys fold_name)
  final_groupby_told {input} {keys} {fold_name} fault is =
      let five = five_fields given.fields in
      by_next _ is (λ is. broken _ asks.of_grouped (table_told _ _ is)) (λ source p is.
      by_next (keys_checked five source.columns [] keys) is (λ is. broken_in (λ d asked. asks.of_keys source (table_sound _ _ p) asked)
      (keys_told [] (flat_map (key_names five) keys) (record { names = []; slots = [] }) refl refl is)) (λ picked q is.
      by_next _ is (λ is. broken _ (asks.of_fold input keys fold_name) (quiet_told _ _ is)) (λ f r is.
      by_next (arguments_of source.columns [] picked.names f fold_name.span) is (λ is.
      let k = picked_sound five [] keys q in
      broken_in (λ d asked. asks.of_arguments source (table_sound _ _ p) (quiet_stands earlier fold_name r) asked)
      (arguments_told (subst (λ z. arguments_of source.columns [] z f fold_name.span ≡ Err fault) (ap (λ (z : Picked). z.names) k.2) is)))
      (λ arguments s is. no_fault is))))

  final_join_told : {first second : Name} → FinalTold given earlier (final.Join first second)
  final_join_told {first} {second} _ is = by_next _ is (λ is. broken _ asks.of_first (table_told _ _ is)) (λ left p is.
      by_next _ is (λ is. broken _ asks.of_second (table_told _ _ is)) (λ right q is.
      by_must (same_names (key_columns left) (key_columns right)) _ is
      (λ differ at. broken_at _ (asks.of_both first second left right (table_sound _ _ p) (table_sound _ _ q)) at
      (refl, λ same. not_both _ differ (same_complete same))) (λ same is.
      by_must_not (list_any (λ name. is_among name left.columns) (other_columns right)) is
      (λ among at. broken_at _ (asks.of_others left right (table_sound _ _ p) (table_sound _ _ q)) at
      (refl, λ apart. not_both _ (apart_complete _ _ apart) among)) (λ none is. no_fault is))))

  final_top_told : {input column : Name} {rows : ℕ} {span : Span}
      → FinalTold given earlier (final.Top input column rows span)
  final_top_told {column} {rows} {span} _ is = by_next _ is (λ is. broken _ asks.of_ranked (table_told _ _ is)) (λ source p is.
      by_next (slot_of source.columns [] column) is (λ is. broken _ (asks.of_column span source (table_sound _ _ p)) (slot_told _ _ _ is _))
      (λ slot q is.
      by_must (nat_lt 0 rows && nat_le rows 65536) _ is (λ bad at. broken_at _ asks.of_rows at (refl, λ h. not_both _ bad (kept h.0 h.1)))
      (λ good is. no_fault is)))

  pub final_op_told : (op : FinalOp) → FinalTold given earlier op
  final_op_told (final.Filter _ e) = final_filter_told
  final_op_told (final.Map _ _) = final_map_told
  final_op_told (final.Group _ _ _) = final_groupby_told
  final_op_told (final.Join _ _) = final_join_told
  final_op_told (final.Top _ _ _ _) = final_top_told
