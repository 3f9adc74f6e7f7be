-- At the binder's desk: a tag opens a session with key 0 as delivered, changes its settings under it, and changes key 0. AES is not computed here: what
-- both ends of an authentication and of a message know of each other goes by their laws.
use Rattle.std.specs.Prelude.{Ok, Some}
use mathlib.Core.Path.{◌≡◌, refl, sym, subst, ap, ◌∙◌}
use mathlib.Core.Bool.{true, false}
use mathlib.Core.List.{List, [], ◌∷◌, ◌++◌}
use Prim.Native.Nat.{ℕ, zero, suc, ◌≤◌, ◌<◌}
use native.Mathlib.Omega.{arith}
use lib.Dec.{lit<}
use lib.ListN.{length, replicate}
use borrow.Author.Tests.{le-ltb}
use Rattle.base.specs.Decide.{one_of}
use Rattle.base.specs.Bytes.{byte_at, AllBytes, laid}
use Rattle.aes.specs.Block.{IsBlock}
use Rattle.key_expansion.specs.Keys.{key_expansion}
use Rattle.inverse.proofs.KeyBlocks.{keys_are}
use Rattle.inverse.proofs.MacBlocks.{cmac_block}
use Rattle.messaging.specs.declared.Mode.TheVariants.{Full}
use Rattle.opening.specs.Command.{sent_command}
use Rattle.session_keys.specs.Keys.{enc_key, mac_key}
use Rattle.authentication.specs.declared.PartTwo.{PartTwo}
use Rattle.authentication.specs.Authentication.{challenge, part_two}
use Rattle.both_ends.proofs.Authenticating.{challenge-length, part_two_right}
use Rattle.both_ends.proofs.Messages.{sent-command_opens}
use Rattle.fields.specs.declared.Settings.{Settings}
use Rattle.fields.specs.Fields.{string_of}
use Rattle.rules.specs.Rules.{meets}
use Rattle.order.specs.declared.Name.TheVariants.{AuthenticateFirst, PartTwo as PartTwoCommand, ChangeKey}
use Rattle.order.specs.Names.{class_of, ins_of, among, named}
use Rattle.order.specs.declared.Command.{Command}
use Rattle.order.specs.Order.{order_status, header_length, has_data, names_key, byte_status, front_status, key_status}
use Rattle.order.specs.Commands.{wrapped_command}
use Rattle.access.specs.Access.{decided, grant_for, mode_for}
use Rattle.state.specs.declared.Live.{Live}
use Rattle.state.specs.declared.Tag.{Tag}
use Rattle.state.specs.State.{key_in, reading_in, session_of, no_live, no_pending, quieted, keyed, talking, ended_of}
use Rattle.soundness.specs.Sound.{sound_tag}
use Rattle.replies.specs.Answer.{Answer, costing}
use Rattle.auth.specs.Parts.{values_status, first_status, begun, pending_first, part_one_first}
use Rattle.part_two.specs.PartTwo.{session_from, entered_first, entered, by_proof, part_two_answer}
use Rattle.keyring.specs.Keyring.{new_key, change_status, with_key, changed_key}
use Rattle.wrapped.specs.Wrapped.{own}
use Rattle.tag.specs.declared.Outcome.TheVariants.{Replied}
use Rattle.tag.specs.Way.{commanded, answered}
use Rattle.tag.specs.Call.{outcome_of}
use Rattle.series.specs.Series.{Asked, step, after, accepting, passing, Typed}
use Rattle.series.proofs.Choices.{not_both, both_true}
use Rattle.series.proofs.Computing.{access}
use Rattle.series.proofs.Soundness.{sound_call, sound_series}
use Rattle.series.proofs.Born.{zeros-bytes}
use Rattle.series.proofs.Changes.{replied_call}
use Rattle.demands.specs.Reaching.{built, changing, changed, Ready}
use Rattle.demands.specs.Samples.{zeros20, zeros258, calling}
use Rattle.demands.specs.LockingSamples.{call_passes, all_pass, zeros16, authenticating, settling, rekeying}
use Rattle.demands.proofs.Building.{built-part, built-status, built-answers, step6_opens, wrapped_bound, wrapped_first, wrapped-filled}
use Rattle.demands.proofs.Reachable.{reachable, stepped}

pub zeros_block : IsBlock zeros16
zeros_block = record { len = refl; bytes = zeros-bytes 16 }

-- a sound tag in the application, no part two pending, with key 0 as delivered
pub record AtDesk (t : Tag) : Type 0 where
  pub typed : Typed t
  pub sound : sound_tag t ≡ true
  pub application : t.place.application ≡ true
  pub idle : t.pending.on ≡ false
  pub key : key_in t.secrets.keys 0 ≡ zeros16

-- the session that `authenticating` opens
unfoldable pub desk_live : Live
desk_live = record { on = true; key = 0; enc = enc_key zeros16 zeros16 zeros16; mac = mac_key zeros16 zeros16 zeros16; ti = replicate 4 0; counter = 0 }

pub desk_replies : (t : Tag) → sound_tag t ≡ true → outcome_of t zeros20 zeros258 ≡ Replied
unfolding outcome_of zeros20 zeros258
desk_replies t e = rw e refl

replied-passes : (t : Tag) (a : Asked) (x : Answer) → outcome_of t a.random a.room ≡ Replied → answered t a.command a.random ≡ x
    → passing x.status ≡ true → call_passes t a ≡ true
unfolding call_passes
replied-passes t a x o e p = rw (o, e) p

-- ---- the two parts
named_first : named 0x90 0x71 ≡ Some AuthenticateFirst
unfolding named among class_of ins_of
named_first = refl

named_two : named 0x90 0xAF ≡ Some PartTwoCommand
unfolding named among class_of ins_of
named_two = refl

module _ (t : Tag) (d : AtDesk t) where
  abbrev begins : Asked
  begins = calling (built 0x71 (0 ∷ 0 ∷ []))

  abbrev proves : Asked
  proves = calling (built 0xAF (challenge zeros16 zeros16 zeros16))

  abbrev half : Tag
  half = talking t no_live (pending_first (0 ∷ 0 ∷ []) zeros20)

  part_one : answered t begins.command zeros20 ≡ begun t (pending_first (0 ∷ 0 ∷ []) zeros20)
  unfolding calling commanded part_one_first first_status values_status key_status order_status front_status one_of
  part_one =
      built-answers 0x71 AuthenticateFirst named_first (0 ∷ 0 ∷ []) (omega arith) (omega arith) t zeros20
      (built-status 0x71 (0 ∷ 0 ∷ []) t.pending.on t.place.application (rw d.idle refl) refl)
      ∙ rw d.application refl

  first_step : step t begins ≡ half
  unfolding calling begun
  first_step = replied_call t begins (desk_replies t d.sound) ∙ ap (λ (a : Answer). a.tag) part_one

  half_sound : sound_tag half ≡ true
  half_sound = ap sound_tag (sym first_step) ∙ sound_call t d.typed d.sound begins

  -- part two, by what it checks
  abbrev proven : List ℕ → PartTwo → Answer
  proven kx p = costing p.cost (by_proof half kx zeros20 p.a)

  part_two_lem : answered half proves.command zeros20 ≡ proven zeros16 (part_two zeros16 zeros16 (challenge zeros16 zeros16 zeros16))
  unfolding calling commanded part_two_answer order_status front_status one_of talking pending_first zeros20
  part_two_lem =
      let x = challenge zeros16 zeros16 zeros16 in
      let l = challenge-length zeros16 zeros16 zeros16 zeros_block zeros_block zeros_block in
      built-answers 0xAF PartTwoCommand named_two x (omega arith) (omega arith) half zeros20
      (built-status 0xAF x half.pending.on half.place.application refl refl)
      ∙ ap (λ kx. proven kx (part_two kx zeros16 x)) d.key

  part_two_proven : answered half proves.command zeros20
      ≡ proven zeros16 (record { a = Ok zeros16; cost = (part_two zeros16 zeros16 (challenge zeros16 zeros16 zeros16)).cost })
  part_two_proven =
      let r = part_two_right zeros16 zeros16 zeros16 zeros_block zeros_block zeros_block in
      part_two_lem ∙ ap (λ p. proven zeros16 p) (r ∙ ap (λ c. record { a = Ok zeros16; cost = c }) (sym (ap (λ (p : PartTwo). p.cost) r)))

  second-step : step half proves ≡ talking t desk_live no_pending
  unfolding calling entered entered_first session_from talking quieted pending_first zeros20 desk_live
  second-step = replied_call half proves (desk_replies half half_sound) ∙ ap (λ (a : Answer). a.tag) part_two_proven

  pub session-opened : after t authenticating ≡ talking t desk_live no_pending
  unfolding after authenticating
  session-opened = ap (λ u. step u proves) first_step ∙ second-step

  -- both are accepted, and then what more is
  pub opening-passes : (more : List Asked) → all_pass (talking t desk_live no_pending) more ≡ true → all_pass t (authenticating ++ more) ≡ true
  unfolding all_pass authenticating calling passing accepting begun entered entered_first pending_first talking
  opening-passes more e =
      both_true (replied-passes t begins _ (desk_replies t d.sound) part_one refl)
      (both_true (ap (λ u. call_passes u proves) first_step ∙ replied-passes half proves _ (desk_replies half half_sound) part_two_proven refl)
      (ap (λ u. all_pass u more) (ap (λ u. step u proves) first_step ∙ second-step) ∙ e))

  desk_sound : sound_tag (talking t desk_live no_pending) ≡ true
  desk_sound = ap sound_tag (sym session-opened) ∙ sound_series t d.typed d.sound authenticating

  -- ---- a change of file 2 under key 0
  module _ (right : (reading_in t.files 2).settings.head.change ≡ 0) where
    ready : Ready (talking t desk_live no_pending) 2 Full
    unfolding talking desk_live no_pending access enc_key
    ready =
        record {
          typed =
              record {
                rules = d.typed.rules;
                lens = d.typed.lens;
                enc = cmac_block (key_expansion zeros16) (keys_are zeros16 zeros_block) _;
              };
          sound = desk_sound;
          application = d.application;
          idle = refl;
          first = omega arith;
          last = omega arith;
          allowed = rw right refl;
          decides = rw right refl;
          counter = λ z. omega arith;
        }

    module _ (r : Settings) (m : meets 2 r ≡ true) where
      abbrev asks : Asked
      asks = calling (changing (talking t desk_live no_pending) Full 2 (string_of r))

      pub desk_settled : after t (settling t (string_of r)) ≡ changed (talking t desk_live no_pending) 2 (string_of r)
      unfolding settling after authenticating calling zeros20 zeros258
      desk_settled =
          ap (λ u. step (after t authenticating) (calling (changing u Full 2 (string_of r)))) session-opened
          ∙ ap (λ u. step u asks) session-opened
          ∙ stepped (talking t desk_live no_pending) 2 r Full ready m zeros20 zeros258 refl (omega arith)

      pub settling-passes : all_pass t (settling t (string_of r)) ≡ true
      unfolding settling all_pass calling passing accepting zeros20 zeros258
      settling-passes =
          let h = reachable (talking t desk_live no_pending) 2 r Full ready m zeros20 zeros258 refl (omega arith) in
          ap (λ u. all_pass t (authenticating ++ calling (changing u Full 2 (string_of r)) ∷ [])) session-opened
          ∙ opening-passes (asks ∷ []) (both_true (replied-passes (talking t desk_live no_pending) asks _ h.answers h.accepts refl) refl)

-- ---- ChangeKey of key 0, in a session with it
ones_bytes : (n : ℕ) → AllBytes (replicate n 1)
unfolding AllBytes
ones_bytes zero i = lit< tt
ones_bytes (suc n) zero = lit< tt
ones_bytes (suc n) (suc i) = ones_bytes n i

named-key : named 0x90 0xC4 ≡ Some ChangeKey
unfolding named among class_of ins_of
named-key = refl

module _ (t : Tag) (enc : IsBlock t.live.enc) (on : t.live.on ≡ true) (zero-key : t.live.key ≡ 0) (low : t.live.counter < 65535)
    (application : t.place.application ≡ true) (idle : t.pending.on ≡ false) where
  abbrev x : List ℕ
  x = sent_command (session_of t.live) Full 0xC4 (0 ∷ []) true (replicate 17 1)

  abbrev k : Command
  k = wrapped_command ChangeKey (built 0xC4 x)

  first_zero : byte_at x 0 ≡ 0
  first_zero = wrapped_first (session_of t.live) Full 0xC4 0 (replicate 17 1)

  fits : length x ≤ 255
  unfolding session_of
  fits =
      let l : length x ≤ 42 = wrapped_bound (session_of t.live) Full 0xC4 (0 ∷ []) (replicate 17 1) enc (ones_bytes 17) in omega arith

  filled : 1 ≤ length x
  filled = wrapped-filled (session_of t.live) Full 0xC4 0 (replicate 17 1)

  in_front : front_status 0xC4 x t.place.application ≡ 0
  unfolding front_status header_length byte_status names_key key_status one_of
  in_front = rw (le-ltb (length x) 1 filled, application, first_zero) refl

  its_key : k.key ≡ 0
  unfolding wrapped_command built names_key header_length one_of
  its_key = ap (λ y. byte_at y 0) (built-part 0xC4 x) ∙ first_zero

  -- the new key stands in the place of the old
  abbrev Rekeyed : Answer → Type 0
  Rekeyed a = a.tag.secrets.keys ≡ laid (replicate 16 1) 0 t.secrets.keys

  changes-key : (n : ℕ) → n ≡ 0 → Rekeyed (changed_key t n (replicate 17 1))
  unfolding changed_key new_key change_status with_key keyed ended_of talking
  changes-key n e = subst (λ i. Rekeyed (changed_key t i (replicate 17 1))) (sym e) refl

  pub rekeyed : Rekeyed (answered t (rekeying t).command zeros20)
  unfolding rekeying calling commanded wrapped_command built header_length has_data one_of order_status decided grant_for mode_for own session_of
  rekeyed =
      let r = reading_in t.files k.file in
      subst Rekeyed
      (sym
      (built-answers 0xC4 ChangeKey named-key x filled fits t zeros20
      (built-status 0xC4 x t.pending.on t.place.application (rw idle refl) in_front)))
      (step6_opens t k r x (replicate 17 1) zeros20 Rekeyed refl (rw (on, zero-key) refl) (λ z. low) fits
      (sent-command_opens (session_of t.live) Full 0xC4 (0 ∷ []) true (replicate 17 1) enc (ones_bytes 17) (λ z. absurd (not_both (sym z))))
      (changes-key k.key its_key))
