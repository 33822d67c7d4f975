-- The words of queries, of their typing and of its rules that the proofs share.
unfoldable pub use Rattle.accepted_query.specs.Accepted.{accepted}
pub use Rattle.accepted_query.specs.Accepted.{staged, unless_fault}
pub use Rattle.query_grammar.specs.Kinds.{number, token_number, sign, keyword}
pub use Rattle.query_grammar.specs.Language.{Language, Leaf, Chain, Chained}
pub use Rattle.query_grammar.specs.Texts.{parsed_text, IsQueryOf}
pub use Rattle.query_lang.specs.Checks.{and_then, Checked, is_among, place_of, collected, place_from, must, must_not}
pub use Rattle.query_lang.specs.Folds.{ReadsArguments, gives_condition}
pub use Rattle.query_lang.specs.Names.{number_in, with_name}
pub use Rattle.query_lang.specs.Terms.{Term, term_of}
pub use Rattle.query_lang.specs.TypedExprs.{condition_of, word_of, slot_at, is_condition_sort, is_operand, is_number_with}
pub use Rattle.query_lang.specs.TypedExprs.{is_right_constant, sort_of, of_two, call_of, negation_checked, expr_step, expr_checked, slot_of}
pub use Rattle.query_lang.specs.TypedFinals.{five_fields, table_named, table_number, final_filter, final_map, quiet_fold, final_group}
pub use Rattle.query_lang.specs.TypedFinals.{key_columns, other_columns, final_join, final_top, made_final, table_at, as_table}
pub use Rattle.query_lang.specs.TypedFinals.{final_checked, same_names}
pub use Rattle.query_lang.specs.TypedFolds.{target_at, target_of, state_in, joined, inside, emit_condition, no_state, Adding, in_order}
pub use Rattle.query_lang.specs.TypedFolds.{stmt_step, stmt_checked, expr_nodes, nodes_step, stmt_nodes, stmt_nodes_step, stmt_count}
pub use Rattle.query_lang.specs.TypedFolds.{count_step, fold_nodes, fold_statements, states_from, args_from, body_checked, fold_with}
pub use Rattle.query_lang.specs.TypedFolds.{fold_checked}
pub use Rattle.query_lang.specs.TypedFolds.{or_else, state_step, first_of}
pub use Rattle.query_lang.specs.TypedStreams.{column_names, others_from, columns_at, fold_named, new_columns, no_new_columns, keys_checked}
pub use Rattle.query_lang.specs.TypedStreams.{arguments_of, key_names, meaning_of, as_stream, stream_named, as_fold, keys_from, begun}
pub use Rattle.query_lang.specs.TypedStreams.{made_stream, stream_checked, clash, same_origin, clashes_with, filtered, mapped, zipped}
pub use Rattle.query_lang.specs.TypedStreams.{next_stream, grouped, with_stream}
pub use Rattle.query_lang.specs.Typing.{checked, with_fields, typed_names, field_numbers, item_checked, items_checked, ended, start_of}
pub use Rattle.query_lang.specs.Typing.{given_of, fold_added, print_checked}
pub use Rattle.query_lang.specs.Words.{holds, IsWord, AreWords}
pub use Rattle.query_lang.specs.declared.fault.FaultKind.{FaultKind}
pub use Rattle.query_lang.specs.declared.fault.FaultKind.TheVariants.{WrongArity, UnknownName, WrongKind, StateOnLine, BadConstant}
pub use Rattle.query_lang.specs.declared.fault.FaultKind.TheVariants.{NameTaken, OverLimit, NothingPrinted}
pub use Rattle.query_lang.specs.declared.fault.Limit.TheVariants.{States, Args, Keys, Bindings, Stages, Groupbys}
pub use Rattle.query_lang.specs.declared.fault.QueryFault.{QueryFault}
pub use Rattle.query_lang.specs.declared.fault.Span.{Span}
pub use Rattle.query_lang.specs.declared.fault.TheConstants.{MAX_ARGS, MAX_STATES, MAX_KEYS, MAX_BINDINGS, MAX_STAGES, MAX_GROUPBYS}
pub use Rattle.query_lang.specs.declared.fold.Op.{Op}
pub use Rattle.query_lang.specs.declared.fold.Op.TheVariants.{Div, Rem, Shl, Shr, Decay, Both, Either, Eq, Ne, Lt, Le, Gt, Ge, Add, Mul}
pub use Rattle.query_lang.specs.declared.fold.Op.TheVariants.{Sub, And, Xor, Or, Max, Min, Sadd}
pub use Rattle.query_lang.specs.declared.fold.TypedExpr.{TypedExpr}
pub use Rattle.query_lang.specs.declared.fold.TypedFold.{TypedFold}
pub use Rattle.query_lang.specs.declared.fold.TypedStmt.{TypedStmt}
pub use Rattle.query_lang.specs.declared.query.Column.{Column}
pub use Rattle.query_lang.specs.declared.query.Expr.{Expr, fold-roll-Expr, ind-Expr, roll-Expr, map-Expr, Number, Named, Not, Binary, Call}
pub use Rattle.query_lang.specs.declared.query.Expr.TheVariants.{rolls-Number, rolls-Named, rolls-Not, rolls-Binary, rolls-Call}
pub use Rattle.query_lang.specs.declared.query.FinalDef.{FinalDef}
pub use Rattle.query_lang.specs.declared.query.FinalOp.{FinalOp}
pub use Rattle.query_lang.specs.declared.query.FoldDef.{FoldDef}
pub use Rattle.query_lang.specs.declared.query.Item.{Item}
pub use Rattle.query_lang.specs.declared.query.Key.{Key}
pub use Rattle.query_lang.specs.declared.query.Name.{Name}
pub use Rattle.query_lang.specs.declared.query.Query.{Query}
pub use Rattle.query_lang.specs.declared.query.StateVar.{StateVar}
pub use Rattle.query_lang.specs.declared.query.Stmt.{Stmt, fold-roll-Stmt, ind-Stmt, roll-Stmt, map-Stmt}
pub use Rattle.query_lang.specs.declared.query.Stmt.TheVariants.{rolls-Assign, rolls-If, rolls-Emit, Assign, If, Emit}
pub use Rattle.query_lang.specs.declared.query.StreamDef.{StreamDef}
pub use Rattle.query_lang.specs.declared.query.StreamOp.{StreamOp}
pub use Rattle.query_lang.specs.declared.token.TokenKind.{TokenKind}
pub use Rattle.query_lang.specs.declared.typed.TypedOp.{TypedOp}
pub use Rattle.query_lang.specs.declared.typed.TypedOp.TheVariants.{Filter, Map, Zip, Group}
pub use Rattle.query_lang.specs.declared.typed.TypedQuery.{TypedQuery}
pub use Rattle.query_lang.specs.declared.typed.TypedStream.{TypedStream}
pub use Rattle.query_lang.specs.declared.typing.Body.{Body}
pub use Rattle.query_lang.specs.declared.typing.Earlier.{Earlier}
pub use Rattle.query_lang.specs.declared.typing.Enclosing.{Enclosing}
pub use Rattle.query_lang.specs.declared.typing.FoldView.{FoldView}
pub use Rattle.query_lang.specs.declared.typing.Found.{Found}
pub use Rattle.query_lang.specs.declared.typing.Given.{Given}
pub use Rattle.query_lang.specs.declared.typing.Known.{Known}
pub use Rattle.query_lang.specs.declared.typing.MadeFinal.{MadeFinal}
pub use Rattle.query_lang.specs.declared.typing.MadeStream.{MadeStream}
pub use Rattle.query_lang.specs.declared.typing.Meaning.{Meaning}
pub use Rattle.query_lang.specs.declared.typing.NewColumns.{NewColumns}
pub use Rattle.query_lang.specs.declared.typing.Origin.{Origin}
pub use Rattle.query_lang.specs.declared.typing.Picked.{Picked}
pub use Rattle.query_lang.specs.declared.typing.Sort.{Sort}
pub use Rattle.query_lang.specs.declared.typing.StreamColumn.{StreamColumn}
pub use Rattle.query_lang.specs.declared.typing.StreamView.{StreamView}
pub use Rattle.query_lang.specs.declared.typing.TableView.{TableView}
pub use Rattle.query_laws.specs.Context.{IsFold, IsTable, known_in, IsFree, Entry, streams_in, groups_in, IsStream, NameStandsFor}
pub use Rattle.query_laws.specs.Context.{finals_in, prints_in, printed_in, earlier_of, AFold, AStream, AFinal, APrint, folds_in}
pub use Rattle.query_laws.specs.Demands.{StandsIn, HasEmit, FollowsEmit, Target, ReadsNone, in_first, in_second, IsOneOf, HasPart, Demand}
pub use Rattle.query_laws.specs.Demands.{AColumn, Typed, Tells, ATable, AQuietFold, Stands, New, Apart, SameKeys, Holds, OneEmit, Fewer}
pub use Rattle.query_laws.specs.Demands.{StandsInside, Free}
pub use Rattle.query_laws.specs.ExprRules.{Condition, StandsAt, Kind, Word, operand_kind, IsNumberWith, IsRightOperand, HasKind, of_number}
pub use Rattle.query_laws.specs.ExprRules.{of_name, of_not, of_binary, of_call, other_kind, result_kind}
pub use Rattle.query_laws.specs.FoldRules.{conjunction, emit_of, ReadArguments, HasBlock, of_none, of_assign, of_if, of_emit, at_most_one}
pub use Rattle.query_laws.specs.FoldRules.{IsNew, HasFold, fold_of, state_names_of, arg_names_of, AreNew}
pub use Rattle.query_laws.specs.QueryRules.{IsTyped, HasItem}
pub use Rattle.query_laws.specs.StreamRules.{HasSlots, HasTypedColumns, HasArguments, key_ids, HasKeys, AreApart, AreSame, HasStream}
pub use Rattle.query_laws.specs.StreamRules.{new_names, IsSame, OfFilter, OfMap, OfZip, OfGroup}
