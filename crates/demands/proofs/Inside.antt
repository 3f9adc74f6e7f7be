-- Every span of a sound tag's settings ends inside the file (specs/Inside.antt).
use mathlib.Core.Path.{refl}
use Rattle.spans.specs.Spans.{spans_of, inside, apart, apart_from, all_apart}
use Rattle.rules.specs.Rules.{sdm_options_bits, sdm_rights, meta_mirrors, meta_off, enc_needs, enc_size, mac_input, enc_between, position_rules, sdm_rules}
use Rattle.meanings.specs.Worked.{example}
use Rattle.soundness.proofs.Inside.{rules-spans, second-sound, sound-spans}
use Rattle.series.proofs.Computing.{soundness}
use Rattle.demands.specs.Inside.{SpansInside, ReadingsInside, mac_at, AtTheEnd}
use Rattle.demands.proofs.Samples.{a_sample}

pub sound-inside : SpansInside
sound-inside t s = rules-spans t.files 2 (second-sound t s)

pub sound_readings : ReadingsInside
sound_readings t ty s n = sound-spans t s ty.lens n

pub at_the_end : AtTheEnd
unfolding
    a_sample soundness mac_at example spans_of inside apart apart_from all_apart
    sdm_options_bits sdm_rights meta_mirrors meta_off enc_needs enc_size mac_input enc_between position_rules sdm_rules
at_the_end = record { sound = refl; ends = refl; unsound = refl; behind = refl }
