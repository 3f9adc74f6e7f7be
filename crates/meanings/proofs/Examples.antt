-- 01's examples of settings strings, for file 2.
use mathlib.Core.Path.{refl}
use Rattle.base.specs.Bytes.{number}
use Rattle.fields.specs.Fields.{sdm_on, sdm_byte, mode_of, head_of, has_uid, has_counter, has_picc, has_mac, has_enc}
use Rattle.fields.specs.Fields.{present, three, fields, ends, places_of, places_in, size_of}
use Rattle.spans.specs.Spans.{span, uid_span, counter_span, picc_span, enc_span, mac_span, spans_of, inside, apart, apart_from, all_apart}
use Rattle.rules.specs.Rules.{found, option_bits, sdm_file, condition, rights, sdm_options_bits, sdm_rights}
use Rattle.rules.specs.Rules.{meta_mirrors, meta_off, enc_needs, enc_size, mac_input, enc_between}
use Rattle.rules.specs.Rules.{position_rules, sdm_rules, rest_rules, rules}
use Rattle.meanings.specs.Worked.{example, Shown}
use Rattle.fields.specs.Normal.{plain_mode, free_bits, normal}
use Rattle.settings.specs.Answers.{verdict_of, judged}

pub shown : Shown
unfolding
    example judged verdict_of rules rest_rules sdm_rules position_rules found
    option_bits sdm_file condition rights sdm_options_bits sdm_rights meta_mirrors meta_off enc_needs enc_size mac_input enc_between
    span uid_span counter_span picc_span enc_span mac_span spans_of inside apart apart_from all_apart
    sdm_on sdm_byte mode_of head_of has_uid has_counter has_picc has_mac has_enc present three fields ends
    places_of places_in size_of number plain_mode free_bits normal
shown = record { normal_67 = refl; good_67 = refl; good_64 = refl; bad_63 = refl; good_240 = refl; bad_241 = refl }
