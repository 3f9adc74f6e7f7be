-- Groups of definitions that examples compute through: to unfold a group is to unfold all that its line names.
use mathlib.Core.Bool.{Bool, true}
use Rattle.base.specs.Bytes.{same, laid, number, low}
use Rattle.messaging.specs.Protect.{content, signed, sent, mac_right, mode_number, part_cost, signed_cost}
use Rattle.opening.specs.Command.{part_right, length_right, checked, checked_cost, opening, opening_cost, opened_status}
use Rattle.closing.specs.Reply.{closed, closed_length, closed_cost, overlong}
use Rattle.fields.specs.Fields.{sdm_on, sdm_byte, mode_of, head_of, has_uid, has_counter, has_picc, has_mac, has_enc, present}
use Rattle.fields.specs.Fields.{three, fields, ends, places_of, places_in, size_of, read_of}
use Rattle.spans.specs.Spans.{span, uid_span, counter_span, picc_span, enc_span, mac_span, spans_of, inside, apart, apart_from, all_apart, reading_of}
use Rattle.rules.specs.Rules.{found, option_bits, sdm_file, condition, rights, rest_rules, rules}
use Rattle.rules.specs.Rules.{sdm_options_bits, sdm_rights, meta_mirrors, meta_off, enc_needs, enc_size, mac_input, enc_between, position_rules, sdm_rules}
use Rattle.fields.specs.Normal.{plain_mode, free_bits, normal}
use Rattle.settings.specs.Filing.{file_status}
use Rattle.settings.specs.Answers.{verdict_of, judged, status_word}
use Rattle.state.specs.State.{start_of, size_of as file_size, file_of, slot_of, rules_of, reading_in, no_live, no_pending, quieted, ended_of, placed, talking, tapped, filed, session_of}
use Rattle.delivery.specs.Fresh.{container, delivered_files, fresh_tag}
use Rattle.access.specs.Access.{condition_of, first_of, all_never, granted, read_grant, write_grant, change_grant, grant_for, file_mode, under_key, mode_for, reads, decided, grant_status}
use Rattle.soundness.specs.Sound.{rules_sound, keys_sound, alone_sound, padding_sound, level_sound, sound_tag}
use Rattle.replies.specs.Answer.{refusal, raised, afterwards, accepted}
use Rattle.file_parts.specs.Filing.{stored, stored_iso, with_bytes}
use Rattle.details.specs.Details.{settings_reply, file_settings}
use Rattle.change_settings.specs.ChangeSettings.{with_rules, recounted, restrung, changed_settings}
use Rattle.lines.specs.Hex.{char_of, chars_of}
use Rattle.mirror.specs.Mirrors.{mirror_at, high_first, with_uid, with_counter, with_picc, with_enc, with_mac, dynamic_data}
use Rattle.taps.specs.Taps.{goes_on, start_status, read_status, counted, started, tap_of, mirror_for, tap_text, tap_status, tap_part, tap_read}
use Rattle.contents.specs.Contents.{range_status, asked, wrapped_part, read_data, write_status, written_data}
use Rattle.selects.specs.Selects.{moved, selected_file, of_id, by_id, by_name, selected}
use Rattle.binaries.specs.Binaries.{iso_part, read_binary, updated_binary, binary}
use Rattle.base.specs.Decide.{one_of}
use Rattle.order.specs.Names.{class_of, ins_of, among, named}
use Rattle.order.specs.Order.{form_right, command_data, order_status, header_length, has_data, names_key, byte_status, front_status, wrapped_status}
use Rattle.order.specs.Order.{iso_form, lc_of, has_le, fits, on_file_status, iso_status}
use Rattle.order.specs.Commands.{wrapped_command, iso_command, by_status, wrapped_order, iso_order, ordered, data_of}
use Rattle.wrapped.specs.Wrapped.{own, wrapped}
use Rattle.tag.specs.Way.{from_step7, on_grant, from_step6, commanded, answered}
use Rattle.tag.specs.Call.{with_status, reply_of}

-- a settings string: read, judged, normalised
unfoldable pub a_string : Bool
unfolding sdm_on sdm_byte mode_of head_of has_uid has_counter has_picc has_mac has_enc present three fields ends places_of places_in size_of read_of
a_string = true

unfoldable pub its_spans : Bool
unfolding span uid_span counter_span picc_span enc_span mac_span reading_of
its_spans = true

unfoldable pub its_verdict : Bool
unfolding judged verdict_of status_word rules rest_rules found option_bits sdm_file condition rights plain_mode free_bits normal same number low
its_verdict = true

-- a state: its parts, as delivered, sound
unfoldable pub a_state : Bool
unfolding start_of file_size file_of slot_of rules_of reading_in no_live no_pending quieted ended_of placed talking tapped filed a_string its_spans
a_state = true

unfoldable pub a_fresh_tag : Bool
unfolding container delivered_files fresh_tag
a_fresh_tag = true

unfoldable pub soundness : Bool
unfolding rules_sound keys_sound alone_sound padding_sound level_sound sound_tag a_state its_verdict
soundness = true

-- a command: access, message, answer
unfoldable pub access : Bool
unfolding condition_of first_of all_never granted read_grant write_grant change_grant grant_for mode_number file_mode under_key mode_for reads decided grant_status
access = true

unfoldable pub a_message : Bool
unfolding content signed sent mac_right part_right length_right checked opening opened_status closed closed_length overlong
a_message = true

-- what opening and closing it costs
unfoldable pub a_cost : Bool
unfolding part_cost signed_cost checked_cost opening_cost closed_cost
a_cost = true

unfoldable pub an_answer : Bool
unfolding refusal raised session_of afterwards accepted stored stored_iso answered with_status reply_of
an_answer = true

-- a command's bytes as a value
unfoldable pub a_name : Bool
unfolding class_of ins_of among named by_status ordered data_of one_of
a_name = true

unfoldable pub an_order : Bool
unfolding a_name form_right command_data order_status header_length has_data names_key file_status byte_status front_status wrapped_status wrapped_command wrapped_order
an_order = true

unfoldable pub an_iso_order : Bool
unfolding a_name iso_form lc_of has_le fits on_file_status iso_status iso_command iso_order
an_iso_order = true

-- CLA 90: steps 6 to 9
unfoldable pub a_wrapped-command : Bool
unfolding an_order own wrapped from_step7 on_grant from_step6 commanded
a_wrapped-command = true

unfoldable pub its_own_values : Bool
unfolding settings_reply file_settings with_rules recounted restrung changed_settings read_data laid
its_own_values = true

-- CLA 00
unfoldable pub an_iso_command : Bool
unfolding an_iso_order moved selected_file of_id by_id by_name selected iso_part read_binary binary
an_iso_command = true

-- any of these commands, to any of these tags
unfoldable pub a_call : Bool
unfolding a_state access a_message an_answer a_wrapped-command its_own_values an_iso_command its_verdict
a_call = true

-- a write, wrapped and ISO
unfoldable pub a_write : Bool
unfolding write_status written_data with_bytes updated_binary
a_write = true

-- a read of a tap: its part of the file, its mirrors, and the rules of settings with SDM on
unfoldable pub a_tap : Bool
unfolding goes_on start_status read_status counted started tap_of mirror_for tap_text tap_status tap_part tap_read range_status asked wrapped_part three
a_tap = true

unfoldable pub its_mirrors : Bool
unfolding mirror_at high_first with_uid with_counter with_picc with_enc with_mac dynamic_data char_of chars_of
its_mirrors = true

unfoldable pub its_rules : Bool
unfolding spans_of inside apart apart_from all_apart sdm_options_bits sdm_rights meta_mirrors meta_off enc_needs enc_size mac_input enc_between position_rules sdm_rules
its_rules = true
