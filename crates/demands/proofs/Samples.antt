-- The samples (specs/Samples.antt): each side computes to the other.
use Rattle.settings.specs.Answers.{fault_word}
use mathlib.Core.Bool.{Bool, true}
use mathlib.Core.Path.{refl}
use Rattle.opening.specs.Command.{sent_command}
use Rattle.fields.specs.Fields.{listed, front_bytes, string_of}
use Rattle.rules.specs.Rules.{field_fits, fields_fit, sdm_absent, sdm_part, modes, meets}
use Rattle.tag.specs.Way.{noted}
use Rattle.tag.specs.Call.{outcome_of, replied, unanswered}
use Rattle.series.specs.Series.{accepting, accepts, step, after}
use Rattle.series.specs.Worked.{select_application, settings_of, in_application}
use Rattle.series.proofs.Computing.{a_call, a_cost, a_state, a_fresh_tag, soundness}
use Rattle.demands.specs.Talks.{said, said_all, is_change, string_in, changes, last_change, string_of_reply, delivered, telling}
use Rattle.demands.specs.Reaching.{built, carried, changing}
use Rattle.demands.specs.Samples.{tag_of, sample, some_uid, changeable, misnamed, short, zeros20, zeros258, calling, change_of_file, change_to, told_of, change_five}
use Rattle.demands.specs.Samples.{Forms, NotSound, NotEnded, NotSame, NotTold, NotReady, NotMet, NotTyped, NoFile, NotRead}

-- the words of the samples
unfoldable pub a_sample : Bool
unfolding tag_of sample some_uid changeable misnamed zeros20 zeros258 calling change_of_file change_to told_of built step after noted outcome_of replied unanswered
a_sample = true

pub forms : Forms
unfolding a_sample a_call a_cost soundness select_application settings_of telling said said_all string_in
forms =
    record {
      accepts_02 = refl;
      accepts_00 = refl;
      accepts_03 = refl;
      sent_02 = refl;
      sent_00 = refl;
      sent_03 = refl;
      form_02 = refl;
      form_00 = refl;
      form_03 = refl;
      told_02 = refl;
      told_00 = refl;
      told_03 = refl;
    }

pub not_sound : NotSound
unfolding a_sample soundness a_fresh_tag
not_sound = record { before = refl; then = refl }

pub not_ended : NotEnded
unfolding a_sample a_call a_fresh_tag select_application in_application
not_ended = record { ends = refl; moves = refl }

pub not_same : NotSame
unfolding a_sample a_call soundness
not_same = record { before = refl; then = refl }

pub not-told : NotTold
unfolding a_sample a_call soundness select_application settings_of telling said said_all string_in
not-told =
    record {
      refuses = refl;
      one_tag = refl;
      form_03 = refl;
      form_00 = refl;
      same_tag = refl;
      no_string = refl;
      unsound_03 = refl;
      unsound_00 = refl;
      unsound-alike = refl;
      unsound_form_03 = refl;
      unsound_form_00 = refl;
    }

pub not_ready : NotReady
unfolding a_sample a_call soundness
not_ready = record { level = refl; pending = refl; counter = refl; right = refl; room = refl; file = refl; random = refl; sound = refl }

pub not_met : NotMet
unfolding a_sample a_call change_five sent_command carried changing string_of front_bytes listed field_fits fields_fit sdm_absent sdm_part modes meets fault_word
not_met = record { unmet = refl; string = refl; refuses = refl }

pub not-typed : NotTyped
unfolding a_sample a_call soundness short accepting accepts is_change string_in changes last_change
not-typed = record { sound = refl; accepts = refl; holds = refl; due = refl }

pub no_file : NoFile
unfolding a_sample a_state a_fresh_tag delivered
no_file = record { holds = refl; due = refl }

pub not_read : NotRead
unfolding a_sample a_call soundness a_fresh_tag settings_of string_of_reply
not_read = record { refused = refl; due = refl; second = refl; refused-change = refl; empty = refl }
