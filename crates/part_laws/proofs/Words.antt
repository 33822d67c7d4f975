-- The words of std, queries and plans that the proofs of this crate share.
pub use Rattle.query_lang.specs.declared.typed.TypedQuery.{TypedQuery}
pub use Rattle.additive_laws.specs.TraceLaws.{AreApart, has_number, rows_used}
pub use Rattle.epoch_model.specs.declared.tables.Row.{Row}
pub use Rattle.epoch_model.specs.Keys.{AreAbove, ArgRow, IsAscending, Key, ascending, distinct, has, others}
unfoldable pub use Rattle.epoch_model.specs.Keys.{key_cmp, key_eq}
pub use Rattle.epoch_model.proofs.KeyLists.{IsDistinct, by_test, distinct-distinct, has-distinct, has-others_other, key_eq-refl}
pub use Rattle.epoch_model.proofs.KeyLists.{key_eq-true}
pub use Rattle.std.proofs.lemmas.List.Elements.{All-cons, All-get_or, All-head, All-nil, All-replicate, All-tail, filter-append}
pub use Rattle.std.proofs.lemmas.List.Elements.{filter_agree}
pub use Rattle.std.specs.List.{cons_option, count_by, sum_by}
pub use Rattle.epoch_model.proofs.TableRows.{flat_map-single, joined-some, some}
pub use Rattle.std.proofs.lemmas.Bool.{false≢true, lt-ltb, ltb-true, true≢false}
pub use Rattle.stage_plan.specs.Uses.{taken_by, use_of, uses}
pub use Rattle.additive_laws.proofs.Counts.{not_number, own_number, same_number}
pub use Rattle.epoch_model.proofs.KeyOrder.{ascending-ascends, has-ascending, same_ascending}
pub use Rattle.part_laws.specs.Parts.{AreTheParts, HasFieldKey, KeepsKeys, Partition, by_fields, first_named, groupbys, part_at, part_by}
pub use Rattle.part_laws.specs.Parts.{part_rows, part_uses, whole_rows}
pub use Rattle.std.proofs.lemmas.List.Sums.{sum_by-append, sum_by-cons}
pub use Rattle.query_lang.specs.Streams.{Taking, expr_value, stream, taking_of, takings, values_at}
pub use Rattle.marple_base.specs.declared.field.TheConstants.{FIELDS}
pub use Rattle.query_lang.specs.declared.fold.TypedFold.{TypedFold}
pub use Rattle.std.specs.Prelude.{All, find, is_some, nat_le, nat_lt, option_map, reverse, slice_get, slice_index, slice_index_or}
pub use Rattle.epoch_model.specs.Tables.{Folding, epoch_rows, exact_row, group_rows, key_rows, keys_used}
pub use Rattle.query_lang.specs.Words.{AreWords, IsWord, holds}
pub use Rattle.query_lang.specs.Folds.{fold_states, folded, initial_state}
pub use Rattle.stage_plan.specs.Packets.{AreWhole}
pub use Rattle.additive_laws.specs.Amounts.{amount, plus, zeros}
pub use Rattle.std.proofs.Common.{Bool, Contains, List, None, Option, Some, [], ap, append-nil, arith, cond, false, filter, flat_map, fold}
pub use Rattle.std.proofs.Common.{inl, inr, length, length-append, map, max, min, not, refl, replicate, subst, suc, sym, true, zero, ℕ, ◌%◌}
pub use Rattle.std.proofs.Common.{◌&&◌, ◌++◌, ◌+◌, ◌-◌, ◌<◌, ◌==◌, ◌^◌, ◌||◌, ◌∙◌, ◌∷◌, ◌≡◌, ◌≢◌, ◌≤◌, ◌⊎◌}
pub use Rattle.std.specs.declared.cmp.Ordering.TheVariants.{Equal, Less}
pub use Rattle.query_lang.specs.declared.fold.TypedExpr.{TypedExpr}
pub use Rattle.std.proofs.lemmas.Bool.Decides.{nat_tests}
pub use Rattle.stage_plan.proofs.StreamRows.{all_rows, row_at, stream_rows, tuple_of, tuples}
pub use Rattle.query_laws.proofs.Valid.{parts}
pub use Rattle.query_laws.proofs.QueryLaws.{query_sound}
pub use Rattle.std.proofs.lemmas.List.{ext_get_or, get_or-map, length-replicate, map-append}
pub use Rattle.final_queries.specs.Finals.{column_at, columns_of, filtered_rows, goes_before, grouped_args, grouped_key, is_of_key}
pub use Rattle.final_queries.specs.Finals.{joined_rows, mapped_rows, plain_row, top_rows}
unfoldable pub use Rattle.final_queries.specs.Finals.{mapped_row}
pub use Rattle.std.proofs.lemmas.Cmp.{nat_list_cmp_total, tied_itself}
