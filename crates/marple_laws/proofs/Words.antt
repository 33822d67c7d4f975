-- The words of std, queries and plans that the proofs of this crate share.
pub use Rattle.accepted_query.specs.Accepted.{fault_in, staged, unless_fault}
unfoldable pub use Rattle.accepted_query.specs.{Accepted.accepted, TrialQuery.trial_query}
pub use Rattle.command_answers.specs.OwnChecks.{bounds_fault, fault_after}
pub use Rattle.command_line.specs.declared.setting.Setting.{Setting}
pub use Rattle.epoch_entry.specs.Foldings.{folding_of, per_epoch}
pub use Rattle.epoch_model.{proofs.KeyLists.{IsDistinct, by_test, distinct-distinct}, specs.{Driving.uses_taken, Epochs.Geometry}}
pub use Rattle.epoch_model.specs.{Laws.{HasRoom, IsWellFormed}, Machine.{Epoch, Machine, end_of, open_in}}
pub use Rattle.final_queries.specs.{Finals.with_finals, GroupTable.group_table, declared.table.Table.Table}
pub use Rattle.fold_class.{proofs.LawLemmas.depth_found_is, specs.{Depth.{IsDepth, depth_of, least_from}, Kinds.class_of}}
pub use Rattle.fold_class.specs.Program.{IsProgramOf}
pub use Rattle.marple_base.specs.Field.{HasField, all_fields, field_name, field_set, has_field, no_fields, number_of, with_field}
pub use Rattle.marple_base.specs.declared.field.Field.{Field, TheVariants.{DstIp, DstPort, PayloadLen, PktLen, Proto, QSize, Qid, SrcIp}}
pub use Rattle.marple_base.specs.declared.field.{Field.TheVariants.{SrcPort, Switch, TcpSeq, Tin, Tout, Uid}, FieldSet.FieldSet}
pub use Rattle.marple_base.specs.declared.field.{Packet.Packet, TheConstants.FIELDS}
pub use Rattle.marple_laws.specs.{AcceptedPlans.{AcceptedHavePlanTexts, AcceptedHavePlans, AcceptedLoadAsQueries}, FewerFields.all_as_read}
pub use Rattle.marple_laws.specs.{FewerFields.{as_read, zeroed}, MadeOf.{folded_of, folded_with, group_made, made_of, printed_group}}
pub use Rattle.marple_laws.specs.{Readings.{EveryTextIsRead, IsReadingOf, TextsAreReadOnce}, RunLaws.{IsAsTheQuery, LoadsAsTheQuery}}
pub use Rattle.marple_laws.specs.{TrialRuns.TrialsRunOverTexts, WellNamed.{AllWords, AreNames, AreNew, AreNoKeys, HasPlanText, IsNamedWell}}
pub use Rattle.plan_file.proofs.{LineLaws.makes_one, SameFold.{class_same, depth_same, words_once}, TextLaws.{not_refused, says_one}}
pub use Rattle.plan_file.specs.{Bodies.{IsBody, IsBodyLine, open_braces, slot_lexeme, written, written_block}, FoldLines.AreBounds}
pub use Rattle.plan_file.specs.{FoldLines.{IsFoldLine, IsFoldOf, IsFoldWords}, Lexemes.lexeme_among, Lexis.all_but_last}
pub use Rattle.plan_file.specs.Lexis.{bytes_after_lines, is_first_digit, is_line_feed, is_name, is_space, last_of, lines, number, pieces}
pub use Rattle.plan_file.specs.{Lexis.{start_of_line, tokens}, LineWords.{first_line_word, line_word}, Lines.{IsFirst, IsFold, IsGroup}}
pub use Rattle.plan_file.specs.{Lines.{IsLine, IsLineOf, IsOp, IsPart, IsPrint, IsReads, IsValidAfter, nothing}, Named.IsNamedNumber}
pub use Rattle.plan_file.specs.{Named.{IsNamedOperand, IsOneNumber, IsOneOperand}, Operations.{AreFrom, IsAllowed, IsKnown, IsOpLine}}
pub use Rattle.plan_file.specs.Operations.{IsReadsLine, IsStaged, either_operand, is_right_of, last_stage, not_of, op_words, operand}
pub use Rattle.plan_file.specs.{Operations.{stage_at, stage_of, takes_right, two_of}, Texts.{IsBadAt, Make, Says}}
pub use Rattle.plan_file.specs.declared.{lexemes.Lexeme.Lexeme, line_word.LineWord.LineWord, made.{Folded.Folded, Group.Group, Made.Made}}
pub use Rattle.plan_file.specs.declared.texts.TheConstants.{MAX_PLAN}
unfoldable pub use Rattle.plan_file.specs.{Lexemes.lexeme_of, Lexis.{comparison_named, function_named, other_named}, LineWords.word_named}
pub use Rattle.plan_loader.{proofs.BodyReading.{bodies, stmts_same}, specs.Meaning.{fold_in, reads_in, table_in, uses_in}}
pub use Rattle.plan_loader.specs.Reading.{block_written}
unfoldable pub use Rattle.plan_loader.specs.Meaning.{plan_output, plan_tables}
pub use Rattle.plan_writer.{proofs.Plans.{fold_found, made_staged, ops_are, wiring_is}, specs.Ordered.{query_ops, query_order}}
pub use Rattle.plan_writer.specs.{Ordered.{query_registers, query_wiring, register_in}, PlanText.{fields_of, final_fault, first_final}}
pub use Rattle.plan_writer.specs.PlanText.{group_lines, group_lines_of, group_text, named_lines, op_line, print_line, reads_line}
pub use Rattle.plan_writer.specs.Words.{block_words, function_word, line, number_word, operand_word, operation_words, slot_word, spaced}
pub use Rattle.plan_writer.specs.Words.{state_word, term_words}
unfoldable pub use Rattle.plan_writer.specs.PlanText.{compiled_text}
pub use Rattle.query_grammar.specs.Texts.{IsQueryOf, parsed_text}
pub use Rattle.query_lang.specs.{Blocks.{Block, End, Fork, Set}, Checks.{Checked, and_then, collected, is_among, must, must_not}}
pub use Rattle.query_lang.specs.{Checks.{place_from, place_of}, Folds.{IsConstant, IsValidBlock, IsValidEmit, IsValidFold, IsValidTerm}}
pub use Rattle.query_lang.specs.Folds.{TakesOperands, block_count, block_nodes, body, fold_args, fold_block, fold_states, is_condition}
pub use Rattle.query_lang.specs.{Folds.term_nodes, Names.{AreOnce, number_in, with_name}, Streams.{Taking, stream, taking_of, takings}}
pub use Rattle.query_lang.specs.{Streams.values_at, Terms.{Literal, Negation, Operation, Read, Term, term_of}, TypedExprs.condition_of}
pub use Rattle.query_lang.specs.{TypedExprs.{slot_at, slot_of}, TypedQueries.{AreValidStreams, HasNames, IsQueryTable, IsValidOp}}
pub use Rattle.query_lang.specs.{TypedQueries.{IsValidQuery, IsValidWord}, Typing.{checked, fold_added, given_of, item_checked}}
pub use Rattle.query_lang.specs.Typing.{items_checked, print_checked, start_of, typed_names, with_fields, with_fold}
pub use Rattle.query_lang.specs.declared.fault.FaultKind.TheVariants.{BadPlan, NameTaken, NothingPrinted, OverLimit}
pub use Rattle.query_lang.specs.declared.fault.{Limit.TheVariants.{Groupbys, Keys, States}, Span.Span, TheConstants.MAX_ARGS}
pub use Rattle.query_lang.specs.declared.{fault.TheConstants.{MAX_GROUPBYS, MAX_KEYS, MAX_NODES, MAX_STATEMENTS, MAX_STATES}, fold.Op.Op}
pub use Rattle.query_lang.specs.declared.{fold.{TypedExpr.TypedExpr, TypedFold.TypedFold}, query.{FoldDef.FoldDef, Name.Name, Query.Query}}
pub use Rattle.query_lang.specs.declared.{token.{Piece.Piece, Token.Token}, typed.{Class.{Class, TheVariants.Linear}, PrintOf.PrintOf}}
pub use Rattle.query_lang.specs.declared.typed.{TypedFinal.TypedFinal, TypedOp.TypedOp, TypedQuery.TypedQuery, TypedStream.TypedStream}
pub use Rattle.query_lang.specs.declared.typing.{Earlier.Earlier, FoldView.FoldView, Given.Given, Known.Known, Meaning.Meaning}
pub use Rattle.query_lang.specs.declared.typing.TableView.{TableView}
pub use Rattle.query_laws.proofs.Valid.{accepted_starts, accepted_valid, parts}
pub use Rattle.query_run.specs.{Driven.geometry_of, Views.NoViewsWithoutNumber}
pub use Rattle.query_tables.specs.Tables.{heading_of_shape, printed, query_table, table_if, table_text_at, tables_from}
unfoldable pub use Rattle.query_tables.specs.Tables.{group_tables, query_text}
pub use Rattle.queue_sim.specs.{ReadBack.{ArePacketWords, ArePackets}, TraceText.{continued, header, packet_texts, trace_text, word_text}}
pub use Rattle.stage_plan.{proofs.{Faults.{QueryMade, query_fault}, Sorted.{op_at, order_long, ordered}}, specs.Fields.FieldSource}
pub use Rattle.stage_plan.specs.Fields.{all_sources, named_fields, named_input, named_slots, packet_sources, read_fields, reads_of}
pub use Rattle.stage_plan.specs.{Fields.{source_at, sources_at, sources_made, term_slots}, Ordering.{moved, moved_op, op_numbered}}
pub use Rattle.stage_plan.specs.{Ordering.{register_or_none, wiring_of}, Packets.AreWhole, Planned.{IsPlanOf, fold_at, query_made}}
pub use Rattle.stage_plan.specs.{Planned.wiring_at, Registers.{operand_stage, registers_after, stages_of, taken_at}, Shape.GroupShape}
pub use Rattle.stage_plan.specs.{Shape.{class_word, group_shape, query_groups, shape_made, shape_with, text_at}, Sound.AreSoundOps}
pub use Rattle.stage_plan.specs.{Sound.{IsSoundGroup, IsSoundOp, IsSoundPlan, IsWithin, PlanParts}, Uses.{taken_by, use_of, uses}}
pub use Rattle.stage_plan.specs.declared.{group.{GroupPlan.GroupPlan, GroupWiring.GroupWiring}, op.Operand.{Operand, TheVariants.Number}}
pub use Rattle.stage_plan.specs.declared.op.{Operand.TheVariants.Register, Operation.TheVariants.{Not, Two}, PlanOp.PlanOp}
pub use Rattle.std.proofs.Common.{Bool, Contains, Err, IfSome, List, None, Ok, Option, Result, Some, [], add-one, add_comm, ap, append-nil}
pub use Rattle.std.proofs.Common.{append_assoc, ap₂, arith, bit_or, cond, drop, eqb, false, filter, get_or, inl, inr, is_some, length}
pub use Rattle.std.proofs.Common.{length-append, map, max, nat_eq, nat_lt, refl, slice_get, subst, suc, sym, take, true, zero, ℕ, ◌%◌, ◌&&◌}
pub use Rattle.std.proofs.{Common.{◌*◌, ◌++◌, ◌+◌, ◌-◌, ◌<◌, ◌^◌, ◌||◌, ◌∙◌, ◌∷◌, ◌≡◌, ◌≤◌, ◌⊎◌}, lemmas.Bool.Decides.nat_tests}
pub use Rattle.std.proofs.lemmas.{Bool.{and_parts, cases_eq, cases_lt, eqb-false, false≢true}, Fmt.{decimal_digit, decimal_is_IsNumeral}}
pub use Rattle.std.proofs.lemmas.{Fmt.{first_decimal, length-decimal-le}, Grind.flat_map-append, List.Elements.{All-cons, All-head}}
pub use Rattle.std.proofs.lemmas.List.{Elements.{All-nil, All-tail}, Folds.{length-prefix_len, list_all-append}, Sums.prefix_len-le-length}
pub use Rattle.std.proofs.lemmas.List.{Sums.sum_by-cons, get_or-map, length-drop, length-map, length-replicate, length-take, length-take-le}
pub use Rattle.std.proofs.lemmas.{List.{length_push, map-append, take_at}, Option.{get_or_from_slice_get, same_Some, slice_get-map}}
pub use Rattle.std.{proofs.lemmas.{Option.{slice_get_cases, slice_get_within}, Str.Parse.digit_from_value}, specs.Int.bit_at}
pub use Rattle.std.specs.{List.{cons_option, list_all, list_any, prefix_len, range_with_len, zip}, Prelude.{All, codes, decimal}}
pub use Rattle.std.specs.Prelude.{filter_map, flat_map, fold, if◌then◌else◌, is_none, option_and_then, option_map, replicate, slice_index}
pub use Rattle.std.specs.{Prelude.{slice_index_or, sum_by, unwrap_or, ◌==◌}, Str.{Parse.{AllDigits, digits_value}, bytes_eq}}
pub use Rattle.switch_core.specs.{Ends.{end_machines, ends_from}, PlanLanes.{AreLanesOf, PipelineStands, PipelineView, folding_at}}
pub use Rattle.trace_drive.specs.Drives.{words_of}
pub use Rattle.trace_reader.specs.declared.fault.TheConstants.{MAX_TRACE}
