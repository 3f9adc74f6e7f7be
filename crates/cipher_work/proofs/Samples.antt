-- The samples (specs/Samples.antt): each side computes to the other. AES is not computed here: the cost of a mirrored read goes by the formula,
-- and that of a command in Full by what both ends know of it.
use mathlib.Core.Bool.{Bool, true, false}
use mathlib.Core.List.{List, [], ◌∷◌}
use mathlib.Core.Path.{◌≡◌, refl, sym, ap, ap₂, ◌∙◌}
use Prim.Native.Nat.{ℕ, ◌+◌, ◌-◌}
use native.Mathlib.Omega.{arith}
use lib.ListN.{length}
use Rattle.messaging.specs.declared.Mode.TheVariants.{Plain, Full}
use Rattle.messaging.specs.declared.Session.{Session}
use Rattle.messaging.specs.Protect.{message_mac, message_mac_cost, part_cost, signed_cost, signed, sent, plain}
use Rattle.cbc.specs.Cbc.{cbc_cost}
use Rattle.cmac.specs.Cmac.{blocks_of, cmac_cost, mac, even_places}
use Rattle.padding.specs.Padding.{padded_length}
use Rattle.opening.specs.Command.{sent_command, part_right, length_right, checked_cost, opening_cost}
use Rattle.opening.proofs.Opening.{tag_right, cost_none, cost_full_wrong, opening-right-cost}
use Rattle.both_ends.proofs.Messages.{sent-command_opens}
use Rattle.order.specs.declared.Name.TheVariants.{ReadData}
use Rattle.order.specs.declared.Command.{Command}
use Rattle.order.specs.Commands.{wrapped_command}
use Rattle.access.specs.declared.Decision.{Decision}
use Rattle.access.specs.Access.{decided}
use Rattle.replies.specs.Answer.{Answer, costing}
use Rattle.wrapped.specs.Wrapped.{opening_of, opening_cost_of, on_opening}
use Rattle.tag.specs.Way.{answered}
use Rattle.series.proofs.Born.{zeros-bytes}
use Rattle.series.proofs.Computing.{a_state, access, an_answer, an_order, a_wrapped-command, its_own_values, its_verdict, soundness, a_tap}
use Rattle.demands.proofs.Samples.{a_sample}
use Rattle.fields.specs.Fields.{read_of, string_of, front_bytes, sdm_bytes, written, listed}
use Rattle.rules.specs.Rules.{field_fits, fields_fit, sdm_absent, sdm_part, modes, kept, sdm_meets, meets}
use Rattle.settings.specs.Answers.{verdict_word, fault_word}
use Rattle.state.specs.State.{reading_in, session_of}
use Rattle.delivery.specs.Fresh.{right_uid}
use Rattle.closing.specs.Reply.{closed_cost, closed_length, hidden_length, overlong}
use Rattle.demands.specs.Samples.{some_uid, changeable, zeros20, zeros258}
use Rattle.demands.specs.Talks.{said}
use Rattle.demands.specs.Reaching.{built, Ready}
use Rattle.demands.proofs.Reachable.{reachable, ready_samples}
use Rattle.one_tap.specs.OneTap.{Taps}
use Rattle.one_tap.specs.Samples.{ask_data, ask_binary}
use Rattle.one_tap.proofs.Samples.{a_tap-sample}
use Rattle.cipher_work.specs.CipherWork.{picc_blocks, enc_blocks, mac_blocks, mirrored_blocks}
use Rattle.cipher_work.specs.Samples.{with_settings, longest, holding, Reaches28, in_full, ask_full, Reaches35, limited, sealed_in_session, NotMirrored, too_far, NotGood}
use Rattle.cipher_work.proofs.Work.{mirrored_formula}

unfoldable a_closing : Bool
unfolding closed_cost closed_length hidden_length padded_length overlong message_mac_cost cmac_cost blocks_of cbc_cost
a_closing = true

unfoldable a_cost : Bool
unfolding mirrored_blocks picc_blocks enc_blocks mac_blocks opening_cost checked_cost part_cost signed_cost closed_cost
a_cost = true

-- ---- 28
by_binary : Taps holding (ask_binary 0 0) true
unfolding a_tap-sample with_settings longest holding
by_binary = record { reads = record { asks = refl; accepted = refl }; free = refl; sdm = refl }

by_data : Taps holding (ask_data 0 0) false
unfolding a_tap-sample with_settings longest holding
by_data = record { reads = record { asks = refl; accepted = refl }; free = refl; sdm = refl }

meets-rules : meets 2 (read_of longest) ≡ true
unfolding a_tap-sample longest field_fits fields_fit sdm_absent sdm_part modes kept sdm_meets meets listed
meets-rules = refl

ready : Ready changeable 2 Plain
unfolding changeable some_uid right_uid
ready = (ready_samples some_uid refl).1

pub reaches_28 : Reaches28
unfolding a_tap-sample with_settings longest holding a_cost string_of front_bytes sdm_bytes written listed zeros20 zeros258
reaches_28 =
    record {
      sound = refl;
      string = refl;
      by_binary = by_binary;
      by_data = by_data;
      binary-cost = mirrored_formula holding (ask_binary 0 0) true by_binary;
      data_cost = mirrored_formula holding (ask_data 0 0) false by_data;
      reached = reachable changeable 2 (read_of longest) Plain ready meets-rules zeros20 zeros258 refl (omega arith);
      carries = refl;
    }

-- ---- 35
-- the command as it is sent: header and MAC
abbrev sent_full : List ℕ
sent_full = sent_command (session_of in_full.live) Full 0xAD (2 ∷ 0 ∷ 0 ∷ 0 ∷ 239 ∷ 0 ∷ 0 ∷ []) false []

abbrev full : Command
full = wrapped_command ReadData (built 0xAD sent_full)

abbrev granted : Decision
granted = decided ReadData in_full.live (reading_in in_full.files 2).settings.head

-- up to what it opens to
full_answer : answered in_full (built 0xAD sent_full) zeros20
    ≡ costing (opening_cost_of in_full full sent_full Full) (on_opening in_full full (reading_in in_full.files 2) granted zeros20 (opening_of in_full full sent_full Full))
unfolding a_sample a_state access an_answer a_wrapped-command in_full sent_command signed sent message_mac mac even_places
full_answer = refl

-- it opens to nothing, for two blocks
full_opens : opening_of in_full full sent_full Full ≡ plain []
unfolding a_sample a_state an_answer an_order in_full
full_opens = sent-command_opens (session_of in_full.live) Full 0xAD _ false [] (record { len = refl; bytes = zeros-bytes 16 }) (zeros-bytes 0) (λ z. refl)

bare_cost : (s : Session) (cmd : ℕ) (x : List ℕ) (h : ℕ) (b : Bool) → tag_right s cmd x ≡ b → checked_cost Full s cmd x h false ≡ message_mac_cost (length x - 8)
bare_cost s cmd x h true e = sym (cost_none s cmd x h e)
bare_cost s cmd x h false e = sym (cost_full_wrong s cmd x h false e)

full_length : (length_right Full false 7 (length sent_full) ≡ true) × (message_mac_cost (length sent_full - 8) ≡ 2)
unfolding length_right part_right message_mac_cost cmac_cost blocks_of sent_command signed sent message_mac mac even_places
full_length = (refl, refl)

opening_two : opening_cost_of in_full full sent_full Full ≡ 2
unfolding a_sample an_order
opening_two =
    let s = session_of in_full.live in
    opening-right-cost s Full 0xAD sent_full 7 false full_length.0 ∙ bare_cost s 0xAD sent_full 7 _ refl ∙ full_length.1

-- and 239 bytes are closed for 33
answer_33 : (on_opening in_full full (reading_in in_full.files 2) granted zeros20 (plain [])).cost ≡ 33
unfolding
    a_sample a_state access an_answer a_wrapped-command its_own_values its_verdict a_tap a_cost a_closing in_full
    sent_command signed sent message_mac mac even_places
answer_33 = refl

full_cost : (answered in_full (built 0xAD sent_full) zeros20).cost ≡ 35
full_cost =
    let u = reading_in in_full.files 2 in
    ap (λ (a : Answer). a.cost) full_answer
    ∙ ap₂ (λ n o. n + (on_opening in_full full u granted zeros20 o).cost) opening_two full_opens ∙ ap (λ n. 2 + n) answer_33

pub reaches_35 : Reaches35
unfolding a_sample soundness in_full ask_full said
reaches_35 = record { sound = refl; cost = full_cost }

-- ---- what fails without a premise
pub not-mirrored : NotMirrored
unfolding a_tap-sample with_settings limited sealed_in_session a_cost
not-mirrored =
    record {
      limited-sound = refl;
      limited-status = refl;
      limited_iso = refl;
      limited-cost = refl;
      limited_iso_cost = refl;
      limited_formula = refl;
      session-sound = refl;
      session-reads = refl;
      session-cost = refl;
      session_formula = refl;
      off_reads = refl;
      off_cost = refl;
      off_formula = refl;
    }

pub not_good : NotGood
unfolding a_tap-sample too_far a_cost verdict_word fault_word
not_good = record { on = refl; refused = refl; passes = refl }
