-- The tables hold of the definition: the course sheet, the small inputs, and the pairs that show each condition of the
-- masking rule needed. One computed test over each.
use mathlib.Core.Bool.{◌&&◌}
use lib.Dec.{T}
use Rattle.keywords.specs.Names.{names}
use Rattle.keywords.specs.Words.{words, same, listed}
use Rattle.basics.specs.Case.{to_uppercase, to_lowercase}
use Rattle.context.specs.Cells.{token_text}
use Rattle.context.specs.Context.{write_newline, lead, write_token, write_keyword, write_space, note_skipped_whitespace, take_pending_newline, take_pending_blank_line, indent, dedent, write_raw, trim_end, finish}
use Rattle.utf8.specs.Table.{holds, character_length}
use Rattle.utf8.specs.Pieces.{cut, first_ill_formed, is_trailing}
use Rattle.utf8.specs.WhiteSpace.{is_white_space}
use Rattle.utf8.specs.Trim.{trim}
use Rattle.utf8.specs.Trimming.{trimmed, trimmed_length, is_white_byte}
use Rattle.tape.specs.Kinds.{kinds, not_carried}
use Rattle.tape.specs.Tree.{tokens, has_child, count_list_items, copied}
use Rattle.tape.specs.Tape.{head_at, command_at, check_open, check_token, checked_at, read_children, read_tape, read_tree}
use Rattle.tape.specs.Call.{read_input, read_call}
use Rattle.tape.specs.ReadingInputs.{small_inputs}
use Rattle.layout.specs.Arms.{seen}
use Rattle.layout.specs.Tokens.{no_space_before, no_space_after, is_line_comment, emit_comment, emit_token, emit_other, is_operator}
use Rattle.layout.specs.Routines.{file_token, format_file, query_list_token, format_query_list, select_statement_token, format_select_statement, select_clause_token, format_select_clause, simple_clause_token, format_simple_clause, multi_item, list_clause_token, list_clause_node, list_clause_arms, format_list_clause, join_clause_token, format_join_clause, format_settings_clause, format_with_clause, comma_list_token, format_comma_list, inline_comma_list_token, format_inline_comma_list, binary_token, format_binary_expression, unary_token, format_unary_expression, function_call_token, format_function_call, case_word, case_token, format_case_expression, when_word, when_token, format_when_clause, subquery_token, format_subquery, paren_list_token, format_paren_list, bracket_list_token, format_bracket_list, brace_list_token, format_brace_list, data_type_token, format_data_type, space_after, inline_node, name_before, inline_tight_parens_token, format_inline_tight_parens, inline_token, format_inline, format_inline_no_spaces, passthrough_token, format_passthrough, alter_command_list_token, format_alter_command_list, union_token, format_union_clause}
use Rattle.layout.specs.FormatNode.{arms_of, routines, routine_of, format_node}
use Rattle.layout.specs.Calls.{format_error_verbatim, walk, calls}
use Rattle.layout.specs.Layout.{do_spacing, step, pieces, written, original, pieces_of, format}
use Rattle.layout.specs.Outcome.{outcome, laid_out}
use Rattle.layout.specs.Lines.{spot_after}
use Rattle.layout.specs.TokenMap.{seat_after, written_at, places, places_from, token_map}
use Rattle.layout.specs.MapCall.{numbers, mapped}
use Rattle.layout.specs.MapInputs.{all_rightly_mapped, map_calls}
use Rattle.layout.specs.CourseSheet.{course_sheet, all_right}
use Rattle.layout.specs.CallInputs.{all_both_answer, all_answered, small_layouts}
use Rattle.layout.specs.MaskingNeeds.{claimed, map_claimed, pairs, map_pairs, all_needed, masked, meets, masked_for_layout, meets_for_layout, masked_layouts, masked_maps, refused_by_four, refused_by_fifteen, pass_needed}

pub record Tables : Type 0 where
  pub sheet : T (all_right course_sheet)
  pub refusals : T (all_both_answer small_inputs)
  pub layouts : T (all_answered small_layouts)
  pub maps : T (all_rightly_mapped map_calls)
  pub conditions : T (all_needed claimed pairs)
  pub map_conditions : T (all_needed map_claimed map_pairs)
  pub met : T (meets masked && meets_for_layout masked_for_layout)
  pub masked : T (masked_layouts && masked_maps)
  pub passes : T (pass_needed claimed refused_by_four && pass_needed claimed refused_by_fifteen)
  pub map_passes : T (pass_needed map_claimed refused_by_four && pass_needed map_claimed refused_by_fifteen)

pub tables : Tables
unfolding spot_after tokens seat_after written_at places places_from token_map numbers mapped map_calls map_pairs names words same listed is_trailing is_white_space is_white_byte trimmed trim_end to_uppercase to_lowercase token_text trim trimmed_length write_newline lead write_token write_keyword write_space note_skipped_whitespace take_pending_newline take_pending_blank_line indent dedent write_raw finish kinds not_carried has_child count_list_items copied head_at command_at check_open check_token checked_at read_children read_tape read_tree holds character_length cut first_ill_formed read_input read_call seen no_space_before no_space_after is_line_comment emit_comment emit_token emit_other is_operator file_token format_file query_list_token format_query_list select_statement_token format_select_statement select_clause_token format_select_clause simple_clause_token format_simple_clause multi_item list_clause_token list_clause_node list_clause_arms format_list_clause join_clause_token format_join_clause format_settings_clause format_with_clause comma_list_token format_comma_list inline_comma_list_token format_inline_comma_list binary_token format_binary_expression unary_token format_unary_expression function_call_token format_function_call case_word case_token format_case_expression when_word when_token format_when_clause subquery_token format_subquery paren_list_token format_paren_list bracket_list_token format_bracket_list brace_list_token format_brace_list data_type_token format_data_type space_after inline_node name_before inline_tight_parens_token format_inline_tight_parens inline_token format_inline format_inline_no_spaces passthrough_token format_passthrough alter_command_list_token format_alter_command_list union_token format_union_clause arms_of routines routine_of format_node format_error_verbatim walk calls do_spacing step pieces written original pieces_of format outcome laid_out course_sheet small_layouts pairs masked masked_for_layout refused_by_four refused_by_fifteen
tables = record { sheet = tt; refusals = tt; layouts = tt; maps = tt; conditions = tt; map_conditions = tt; met = tt; masked = tt; passes = tt; map_passes = tt }
