-- Every definition of specs/ opened at once, for theorems that are closed by computation: such a theorem says `unfolding model_opens`.
use Rattle.model.specs.Index.{implies, any_between, all_between, first_between, count_between, total_between, gather_between, any, all, first, count, total, gather, only, from_all}
use Rattle.model.specs.Words.{words, left, right, columns}
use Rattle.model.specs.Keys.{begins, same_key, below, insert, ascending, position}
use Rattle.model.specs.Verdict.{number, place, ◌>>◌, unless}
use Rattle.model.specs.Message.{bads_offset, tables_offset, ceilings_offset, end_of, sizes, sizes_check, part_check, program_part_of, bads_part_of, tables_part_of, ceilings_part_of, nothing_left, parts_check}
use Rattle.model.specs.Reader.{row_of, fits, read, after, complete, first_wrong_of}
use Rattle.model.specs.Rows.{program, tag, num, kind, is_head_of, branch_items, lead, arity, is_name, is_branch_count_of, expression_step, pattern_step, step, declarations, whole, past_items, row_check_of}
use Rattle.model.specs.Scopes.{binds, uses, binds_name, binder, bound_again, name_check_of, rest, next_head, is_held_in, in_scope, out_of_scope, scope_check_of}
use Rattle.model.specs.Heads.{nums, call_at, branch_rows, head_at, branch_body_of, is_function, parameters, body, takes, start, is_class_of}
use Rattle.model.specs.Values.{lookup, global_row, value_of, values_of, bind_all, join, process_of, arguments_of, equal, equal_each}
use Rattle.model.specs.Matching.{match_rows, match, first_branch, receive_from, equals_held, passes_over}
use Rattle.model.specs.Run.{◌>>=◌, moved, function_of, deliver, give_back, enter, spawned, act, step_of, starting, next, run_from, run}
use Rattle.model.specs.Letters.{head, head_count, row_shape, row_head_of, value_shape, value_head, heads_of, argument_heads, value_letter, one_if}
use Rattle.model.specs.Letters.{processes_at, letters_in, mailbox_count, messages_of, return_of}
use Rattle.model.specs.Bads.{bad_rows, letter_arity_of, subject_step, detail_step, bad_step, bad_check_of, bad_row_of, met, past_heads_of, numbers, subject_at, item_at, items_from, items}
use Rattle.model.specs.Tables.{entries, tables, is_value_of, first_misplaced, list_check, entry_check_of, mailed_check_of}
use Rattle.model.specs.Tables.{has, each, some_of, same_state, state_at, state_index_of, has_state, third_column}
use Rattle.model.specs.Tables.{pair_key, state_key, is_return_of, is_pair, is_state}
use Rattle.model.specs.Closed.{subpattern, argument, is_same_constructor, may_match, names_hold, may_take}
use Rattle.model.specs.Closed.{branches_closed, passes, is_call_closed, is_give_closed, send_closed, spawn_closed}
use Rattle.model.specs.Closed.{state_closed, is_opening_closed, open_check, may_equal, entered, waits_for, resumed}
use Rattle.model.specs.Closed.{begun, start_state}
use Rattle.model.specs.Counters.{name_heads, heads_each, choices, letters_where, letters_allowed, letter_keys, has_letter, letter_count_of, counter_count, letter_index}
use Rattle.model.specs.Counters.{counter_of, counter_check_of, stands_in, is_counter, is_of_number, counts, choice_count, allowed_count, counters_within}
use Rattle.model.specs.Rules.{from_each, argument_fits, letters_read, state_rules_of, rules}
use Rattle.model.specs.Listing.{effect_lines, rule_lines, listing, system_words, written, space_check, listed_rows, effect_at, rules_from, listed_rules}
use Rattle.model.specs.Markings.{taking, adding, readable, usable, effect_taken, effect_added, fire, initial, fire_all, standing, count_in, sum_in}
use Rattle.model.specs.Ceilings.{ceiling_entries, ceiling_step, ceiling_check_of, ceiling_entry, limit_from, ceilings_of, allowed, under, under_some, highest, start_check_of, bad_allowed, met_check_of, leads_out, leak_check_of}
use Rattle.model.specs.Verify.{message, program_check, evidence_check, ceilings_check, message_check, check, answer, verdict_within, if_safe, lent_after_within, part_handed_within}
use Rattle.cases.specs.Cases.{arrays, program_words, bad_words, table_words, returning, ceiling_words, weight_words, to_bytes, outcome, obtained_within, lend, refused, safe, a_program, a_bads, a_tables, a_ceilings, a_words, with_word, with_tables, with_ceilings, a_listing, proved_cases, two_receives, two_receives_bads, two_receives_with, two_receives_listing, two_callers, two_callers_evidence, two_callers_listing, nested, nested_with, nested_listing, two_classes, two_classes_with, two_classes_listing, no_argument, no_argument_evidence, no_argument_listing, endless, endless_evidence, endless_listing, brood, brood_evidence, brood_listing, selective, selective_evidence, selective_listing, own_cases}
use Rattle.cases.specs.LongerCases.{obtained_each, expected_each, limit_cases}
use Rattle.cases.specs.HeldCases.{process_words, reached, free_ceilings, held_message, quiet_listing}
use Rattle.cases.specs.HeldCases.{bare_message, patterns, sent_names, sent, sent_tables, deep, four_deep}
use Rattle.cases.specs.HeldCases.{deep_tables, global, function_inside, function_tables, one_class}
use Rattle.cases.specs.HeldCases.{one_class_tables, one_class_listing, other_arguments, other_arguments_tables}
use Rattle.cases.specs.HeldCases.{passed_over, passed_over_tables, passed_over_listing, deep_receive}
use Rattle.cases.specs.HeldCases.{deep_receive_tables, function_sent, address_sent, address_tables}
use Rattle.cases.specs.HeldCases.{address_unread, two_values, two_values_tables, valueless_argument}
use Rattle.cases.specs.HeldCases.{valueless_argument_tables, held_cases, held_runs}
use Rattle.cases.specs.MailedCases.{mailing, mailing_tables, sends_m, mailing_message, mailing_listing}
use Rattle.cases.specs.MailedCases.{mailed_cases, mailed_runs}
use Rattle.cases.specs.ReturnCases.{sent_once, sent_once_evidence, sent_once_listing, two_callers_with}
use Rattle.cases.specs.ReturnCases.{callers_flow, callers_states, callers_ceilings, two_limits, limited_callers}
use Rattle.cases.specs.ReturnCases.{two_deep, two_deep_with, two_deep_ends, all_kinds, all_kinds_evidence}
use Rattle.cases.specs.ReturnCases.{all_kinds_listing, own_class, own_class_evidence, own_class_listing}
use Rattle.cases.specs.ReturnCases.{spawned_below, spawned_below_with}
use Rattle.cases.specs.ReturnCases.{uncalled, uncalled_with, return_cases}
use Rattle.cases.specs.LetterCases.{pair_of, pair_tables, either, pair_message, no_gauge, pair_listing, twice, twice_bad, twice_limited, ones, pairs, gauge_pumps, valueless}
use Rattle.cases.specs.LetterCases.{valueless_with, two_pairs, two_pairs_message, two_pairs_listing, crowded, crowded_message, letter_cases, crowd_told, crowds, crowds_told, letter_runs}
use Rattle.model.specs.Message.{weights_offset, fifth_size_of, goes_on, weights_part_of}
use Rattle.model.specs.Weights.{weight_entries, bound_step, weight_check_of, line_entry, lines_of, weighed, effect_put, effect_took, weight_put_of, weight_taken_of, change, above_zero}
use Rattle.model.specs.Weights.{raised, rise_check_of, lightest, fill, is_single_of, fill_those, least_counts, least_weight_of, start_weight, without_counter, is_settled_of, light_check_of}
use Rattle.model.specs.Verify.{weights_check, bounds_check}
use Rattle.cases.specs.WeightCases.{without_ceilings, a_behind, a_weighed, a_line, a_states, a_bad, messages, ended, end}
use Rattle.cases.specs.WeightCases.{callers_weighed, pairs_weighed, pairs_safe, any_pairs, two_gauges, gauge_and_pump, each_one, weight_cases, least_told, least_cases, sums_along, sums_told, sums_cases}

unfoldable pub model_opens : Unit {0}
unfolding implies any_between all_between first_between count_between total_between gather_between any all first count total gather only from_all words left right columns begins same_key below insert ascending position number place ◌>>◌ unless bads_offset tables_offset ceilings_offset end_of sizes sizes_check part_check program_part_of bads_part_of tables_part_of ceilings_part_of nothing_left parts_check row_of fits read after complete first_wrong_of program tag num kind is_head_of branch_items lead arity is_name is_branch_count_of expression_step pattern_step step declarations whole past_items row_check_of binds uses binds_name binder bound_again name_check_of rest next_head is_held_in in_scope out_of_scope scope_check_of nums call_at branch_rows head_at branch_body_of is_function parameters body takes start is_class_of lookup global_row value_of values_of bind_all join arguments_of match_rows match first_branch receive_from ◌>>=◌ moved function_of process_of deliver give_back enter spawned act step_of starting next run_from run head head_count row_shape row_head_of value_shape value_head heads_of argument_heads value_letter one_if return_of processes_at letters_in mailbox_count messages_of bad_rows letter_arity_of subject_step detail_step bad_step bad_check_of bad_row_of past_heads_of numbers subject_at item_at items_from items met entries third_column tables is_value_of is_return_of is_pair is_state first_misplaced list_check entry_check_of has each some_of same_state state_at pair_key state_key state_index_of has_state subpattern argument is_same_constructor may_match names_hold may_take branches_closed passes entered is_call_closed waits_for resumed is_give_closed send_closed begun spawn_closed state_closed start_state is_opening_closed open_check name_heads heads_each choices letters_where letters_allowed letter_keys has_letter letter_count_of counter_count letter_index counter_of stands_in is_counter is_of_number counts choice_count allowed_count counters_within counter_check_of from_each argument_fits letters_read state_rules_of rules effect_lines rule_lines listing system_words written space_check listed_rows effect_at rules_from listed_rules taking adding readable usable effect_taken effect_added fire initial fire_all standing count_in sum_in ceiling_entries ceiling_step ceiling_check_of ceiling_entry limit_from ceilings_of allowed under under_some highest start_check_of bad_allowed met_check_of leads_out leak_check_of message program_check evidence_check ceilings_check message_check check answer verdict_within if_safe lent_after_within part_handed_within arrays program_words bad_words table_words returning ceiling_words to_bytes outcome obtained_within lend refused safe a_program a_bads a_tables a_ceilings a_words with_word with_tables with_ceilings a_listing proved_cases two_receives two_receives_bads two_receives_with two_receives_listing two_callers two_callers_evidence two_callers_listing nested nested_with nested_listing two_classes two_classes_with two_classes_listing no_argument no_argument_evidence no_argument_listing endless endless_evidence endless_listing brood brood_evidence brood_listing selective selective_evidence selective_listing own_cases obtained_each expected_each limit_cases equal equal_each equals_held passes_over may_equal process_words reached free_ceilings held_message quiet_listing bare_message patterns sent_names sent sent_tables deep four_deep deep_tables global function_inside function_tables one_class one_class_tables one_class_listing other_arguments other_arguments_tables passed_over passed_over_tables passed_over_listing deep_receive deep_receive_tables function_sent address_sent address_tables address_unread two_values two_values_tables valueless_argument valueless_argument_tables held_cases held_runs sent_once sent_once_evidence sent_once_listing two_callers_with callers_flow callers_states callers_ceilings two_limits limited_callers two_deep two_deep_with two_deep_ends all_kinds all_kinds_evidence all_kinds_listing own_class own_class_evidence own_class_listing spawned_below spawned_below_with uncalled uncalled_with return_cases mailed_check_of mailing mailing_tables sends_m mailing_message mailing_listing mailed_cases mailed_runs pair_of pair_tables either pair_message no_gauge pair_listing twice twice_bad twice_limited ones pairs gauge_pumps valueless valueless_with two_pairs two_pairs_message two_pairs_listing crowded crowded_message letter_cases crowd_told crowds crowds_told letter_runs weights_offset fifth_size_of goes_on weights_part_of weight_entries bound_step weight_check_of line_entry lines_of weighed effect_put effect_took weight_put_of weight_taken_of change above_zero raised rise_check_of lightest fill is_single_of fill_those least_counts least_weight_of start_weight without_counter is_settled_of light_check_of weights_check bounds_check weight_words without_ceilings a_behind a_weighed a_line a_states a_bad messages ended end callers_weighed pairs_weighed pairs_safe any_pairs two_gauges gauge_and_pump each_one weight_cases least_told least_cases sums_along sums_told sums_cases
model_opens = tt
