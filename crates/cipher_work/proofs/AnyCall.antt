-- No call passes 35 blocks: each kind of answer, and what opening its message costs.
use Rattle.std.specs.Prelude.{None, Ok, Option, Some}
use mathlib.Core.Bool.{Bool, true, false}
use mathlib.Core.Path.{◌≡◌, refl, sym, ap, subst, ◌∙◌}
use mathlib.Core.List.{List, [], ◌∷◌}
use Prim.Native.Nat.{ℕ, ◌+◌, ◌*◌, ◌≤◌}
use native.Mathlib.Omega.{arith}
use native.Mathlib.Nat.{le_trans}
use borrow.Author.Tests.{ltb-false}
use lib.Dec.{eqb, leb, ltb}
use lib.ListN.{length}
use Rattle.base.specs.Decide.{pick, or, one_of}
use Rattle.base.specs.Bytes.{byte_at, same}
use Rattle.cbc.specs.Cbc.{cbc_cost}
use Rattle.spans.specs.declared.Reading.{Reading}
use Rattle.spans.specs.Spans.{SpansFit}
use Rattle.messaging.specs.Protect.{Opening, plain, wrong_length, wrong_mac, wrong_padding}
use Rattle.opening.specs.Command.{opening_cost}
use Rattle.opening.proofs.Opening.{opening_few, opening_bare}
use Rattle.authentication.specs.Authentication.{part_two}
use Rattle.order.specs.declared.Name.{Name}
use Rattle.order.specs.declared.Name.TheVariants.{AuthenticateFirst, AuthenticateNonFirst, PartTwo, ChangeKey, GetKeyVersion, GetCardUid}
use Rattle.order.specs.declared.Name.TheVariants.{GetFileSettings, ChangeFileSettings, GetFileCounters, ReadData, WriteData}
use Rattle.order.specs.declared.Name.TheVariants.{IsoSelectFile, IsoReadBinary, IsoUpdateBinary}
use Rattle.order.specs.declared.Command.{Command}
use Rattle.order.specs.Names.{ins_of, named}
use Rattle.order.specs.Order.{header_length, has_data, form_right, iso_form, wrapped_status, iso_status}
use Rattle.order.specs.Commands.{Ordered, wrapped_command, iso_command, by_status, on_wrapped, on_iso, wrapped_order, iso_order, ordered, data_of}
use Rattle.order.proofs.Names.{named_ins}
use Rattle.access.specs.declared.Grant.{Grant}
use Rattle.access.specs.declared.Grant.TheVariants.{ByKey, ByTap, Free, Unasked, Never, Denied}
use Rattle.access.specs.declared.Decision.{Decision}
use Rattle.access.specs.Access.{decided}
use Rattle.state.specs.declared.Tag.{Tag}
use Rattle.state.specs.State.{key_in, reading_in, session_of}
use Rattle.replies.specs.Answer.{Answer, refusal}
use Rattle.auth.specs.Parts.{first_status, next_status, begun, part_one_first, part_one_next}
use Rattle.part_two.specs.PartTwo.{part_two_answer}
use Rattle.part_two.proofs.Entering.{by_proof_few, proof_few}
use Rattle.selects.specs.Selects.{moved, selected_file, of_id, by_id, by_name, picc_name, application_name, selected}
use Rattle.file_parts.specs.Filing.{stored_iso}
use Rattle.taps.proofs.Giving.{tap_read_few}
use Rattle.binaries.specs.Binaries.{is_plain, iso_part, read_binary, updated_binary, binary}
use Rattle.wrapped.specs.Wrapped.{own, on_opening, opening_of, wrapped}
use Rattle.wrapped.proofs.Costs.{own_few, changed-key_few, changed_settings_few, written_few}
use Rattle.series.proofs.Choices.{way}
use Rattle.tag.specs.Way.{used_up, from_step7, on_grant, from_step6, commanded, on_order, answered}

-- no header of a wrapped command has over 7 bytes
header_few : (ins : ℕ) → header_length ins ≤ 8
unfolding header_length
header_few ins =
    way (λ n. n ≤ 8) (one_of ins (0x51 ∷ 0x71 ∷ 0x77 ∷ 0xAF ∷ [])) (λ e. omega arith)
    (λ e. way (λ n. n ≤ 8) (one_of ins (0x8D ∷ 0xAD ∷ [])) (λ f. omega arith) (λ f. omega arith))

abbrev Few : Answer → Type 0
Few a = a.cost ≤ 35

refusal_few : (t : Tag) (s : ℕ) → Few (refusal t s)
unfolding refusal
refusal_few t s = omega arith

module _ (t : Tag) (random : List ℕ) where
  -- ---- the authentications and selects
  first_few : (x : List ℕ) → Few (part_one_first t x random)
  unfolding part_one_first begun cbc_cost
  first_few x = way Few (eqb (first_status x t.place.application) 0) (λ e. omega arith) (λ e. refusal_few t _)

  next_few : (x : List ℕ) → Few (part_one_next t x random)
  unfolding part_one_next begun cbc_cost
  next_few x = way Few (eqb (next_status x t.live.on) 0) (λ e. omega arith) (λ e. refusal_few t _)

  second_few : (x : List ℕ) → Few (part_two_answer t x random)
  unfolding part_two_answer
  second_few x =
      let kx = key_in t.secrets.keys t.pending.key in
      let p = part_two kx t.pending.rnd_b x in
      omega (arith, proof_few kx t.pending.rnd_b x, by_proof_few t kx random p.a)

  moved_few : (application : Bool) → Few (moved t application)
  unfolding moved
  moved_few application = omega arith

  file_few : (n : ℕ) → Few (selected_file t n)
  unfolding selected_file
  file_few n = way Few t.place.application (λ e. omega arith) (λ e. refusal_few t _)

  id_few : (id : ℕ) → Few (of_id t id)
  unfolding of_id
  id_few id =
      way Few (eqb id 0x3F00) (λ e. moved_few false)
      (λ e. way Few (eqb id 0xE110) (λ e. moved_few true)
      (λ e. way Few (eqb id 0xE103) (λ e. file_few 1)
      (λ e. way Few (eqb id 0xE104) (λ e. file_few 2)
      (λ e. way Few (eqb id 0xE105) (λ e. file_few 3) (λ e. refusal_few t 0x6A82)))))

  select_few : (p1 p2 : ℕ) (d : List ℕ) → Few (selected t p1 p2 d)
  unfolding selected by_id by_name
  select_few p1 p2 d =
      way Few (or (eqb p2 0) (eqb p2 0x0C))
      (λ e.
      way Few (leb p1 2)
      (λ e.
      way Few (eqb (length d) 0) (λ e. moved_few false)
      (λ e. way Few (eqb (length d) 2) (λ e. id_few (byte_at d 0 * 256 + byte_at d 1)) (λ e. refusal_few t 0x6A80)))
      (λ e.
      way Few (eqb p1 4)
      (λ e.
      way Few (same d picc_name) (λ e. moved_few false)
      (λ e. way Few (same d application_name) (λ e. moved_few true) (λ e. refusal_few t 0x6A82)))
      (λ e. refusal_few t 0x6A86)))
      (λ e. refusal_few t 0x6A86)

  module _ (r : Reading) (fits : SpansFit r) where
    -- ---- CLA 00
    update_few : (k : Command) (x : List ℕ) → Few (updated_binary t k x)
    unfolding updated_binary
    update_few k x =
        way Few (leb _ k.offset) (λ e. refusal_few t 0x6A86)
        (λ e. way Few (ltb _ (length x)) (λ e. refusal_few t 0x6A87) (λ e. omega arith))

    binary_few : (k : Command) (d : Decision) (x : List ℕ) → Few (binary t k r d x random)
    unfolding binary read_binary iso_part stored_iso
    binary_few k d x =
        way Few (is_plain d.mode)
        (λ e.
        way Few k.parted (λ e. update_few k x)
        (λ e.
        way Few (leb _ k.offset) (λ e. refusal_few t 0x6A86)
        (λ e.
        way Few (ltb _ k.count) (λ e. refusal_few t _)
        (λ e. way Few d.tap (λ b. le_trans (tap_read_few t r true k.offset _ random fits) (omega arith)) (λ b. omega arith)))))
        (λ e. refusal_few t 0x6982)

    -- ---- CLA 90: what the message opens to, refused or not
    opened_few : (k : Command) (d : Decision) (b : ℕ) → ((p : List ℕ) → (own k.name t k r d p random).cost ≤ b) → (o : Opening)
        → (on_opening t k r d random o).cost ≤ b
    unfolding refusal
    opened_few k d b h (plain p) = h p
    opened_few k d b h wrong_length = omega arith
    opened_few k d b h wrong_mac = omega arith
    opened_few k d b h wrong_padding = omega arith

    -- with a data part at most 33 to open it and two to answer; without one two to open it and 33 to answer
    parted_few : (k : Command) (d : Decision) (x : List ℕ) → ((p : List ℕ) → (own k.name t k r d p random).cost ≤ 2) → Few (wrapped t k r d x random)
    unfolding wrapped
    parted_few k d x h =
        way Few (ltb 255 (length x)) (λ e. refusal_few t _)
        (λ e.
        omega (
          arith,
          opening_few (session_of t.live) d.mode k.ins x k.header k.parted (ltb-false 255 (length x) e),
          opened_few k d 2 h (opening_of t k x d.mode),
        ))

    bare_few : (k : Command) (d : Decision) (x : List ℕ) → k.parted ≡ false → k.header ≤ 8 → Few (wrapped t k r d x random)
    unfolding wrapped
    bare_few k d x e h =
        way Few (ltb 255 (length x)) (λ f. refusal_few t _)
        (λ f.
        let o = subst (λ b. opening_cost (session_of t.live) d.mode k.ins x k.header b ≤ 2) (sym e)
        (opening_bare (session_of t.live) d.mode k.ins x k.header h) in
        omega (arith, o, opened_few k d 33 (λ p. own_few k.name t k r d p random fits) (opening_of t k x d.mode)))

    module _ (c : List ℕ) (d : Decision) (x : List ℕ) where
      bare_named : (n : Name) → byte_at c 1 ≡ ins_of n → has_data (ins_of n) ≡ false → Few (wrapped t (wrapped_command n c) r d x random)
      unfolding wrapped_command
      bare_named n e h = bare_few (wrapped_command n c) d x (ap has_data e ∙ h) (header_few (byte_at c 1))

      wrapped_few : (n : Name) → byte_at c 1 ≡ ins_of n → Few (wrapped t (wrapped_command n c) r d x random)
      unfolding wrapped_command ins_of has_data one_of own
      wrapped_few ChangeKey e = parted_few (wrapped_command ChangeKey c) d x (λ p. changed-key_few t _ p)
      wrapped_few ChangeFileSettings e = parted_few (wrapped_command ChangeFileSettings c) d x (λ p. changed_settings_few t _ r p d.mode)
      wrapped_few WriteData e = parted_few (wrapped_command WriteData c) d x (λ p. written_few t _ p d.mode)
      wrapped_few GetKeyVersion e = bare_named GetKeyVersion e refl
      wrapped_few GetCardUid e = bare_named GetCardUid e refl
      wrapped_few GetFileSettings e = bare_named GetFileSettings e refl
      wrapped_few GetFileCounters e = bare_named GetFileCounters e refl
      wrapped_few ReadData e = bare_named ReadData e refl
      wrapped_few AuthenticateFirst e = bare_named AuthenticateFirst e refl
      wrapped_few AuthenticateNonFirst e = bare_named AuthenticateNonFirst e refl
      wrapped_few PartTwo e = bare_named PartTwo e refl
      wrapped_few IsoSelectFile e = bare_named IsoSelectFile e refl
      wrapped_few IsoReadBinary e = bare_named IsoReadBinary e refl
      wrapped_few IsoUpdateBinary e = bare_named IsoUpdateBinary e refl

    -- ---- steps 6 and 7
    step7_few : (k : Command) (d : Decision) (x : List ℕ) → (eqb k.class 0x90 ≡ true → Few (wrapped t k r d x random)) → Few (from_step7 t k r d x random)
    unfolding from_step7
    step7_few k d x h =
        way Few (used_up t.live.on t.live.counter) (λ e. refusal_few t _) (λ e. way Few (eqb k.class 0x90) h (λ f. binary_few k d x))

    grant_few : (g : Grant) (k : Command) (d : Decision) (x : List ℕ) → Few (from_step7 t k r d x random) → Few (on_grant g t k r d x random)
    unfolding on_grant
    grant_few (ByKey w) k d x h = h
    grant_few ByTap k d x h = h
    grant_few (Free w) k d x h = h
    grant_few Unasked k d x h = h
    grant_few Never k d x h = refusal_few t _
    grant_few Denied k d x h = refusal_few t _

    step6_few : (k : Command) (x : List ℕ) → ((d : Decision) → eqb k.class 0x90 ≡ true → Few (wrapped t k r d x random)) → Few (from_step6 t k r x random)
    unfolding from_step6
    step6_few k x h =
        let d = decided k.name t.live r.settings.head in
        grant_few d.grant k d x (step7_few k d x (h d))

    commanded_few : (n : Name) (k : Command) (x : List ℕ) → Few (from_step6 t k r x random) → Few (commanded n t k r x random)
    unfolding commanded
    commanded_few AuthenticateFirst k x h = first_few x
    commanded_few AuthenticateNonFirst k x h = next_few x
    commanded_few PartTwo k x h = second_few x
    commanded_few IsoSelectFile k x h = select_few k.p1 k.p2 x
    commanded_few ChangeKey k x h = h
    commanded_few GetKeyVersion k x h = h
    commanded_few GetCardUid k x h = h
    commanded_few GetFileSettings k x h = h
    commanded_few ChangeFileSettings k x h = h
    commanded_few GetFileCounters k x h = h
    commanded_few ReadData k x h = h
    commanded_few WriteData k x h = h
    commanded_few IsoReadBinary k x h = h
    commanded_few IsoUpdateBinary k x h = h

-- ---- steps 1 to 5
module _ (t : Tag) (c random : List ℕ) (fits : (n : ℕ) → SpansFit (reading_in t.files n)) where
  abbrev Ordering : Ordered → Type 0
  Ordering o = Few (on_order t c random o)

  is_wrapped : (n : Name) → byte_at c 1 ≡ ins_of n → Ordering (Ok (wrapped_command n c))
  unfolding wrapped_command
  is_wrapped n e =
      let k = wrapped_command n c in
      let r = reading_in t.files k.file in
      commanded_few t random r (fits k.file) n k (data_of k c)
      (step6_few t random r (fits k.file) k (data_of k c) (λ d f. wrapped_few t random r (fits k.file) c d (data_of k c) n e))

  is_iso : (n : Name) → Ordering (Ok (iso_command n c t.place.file))
  unfolding iso_command
  is_iso n =
      let k = iso_command n c t.place.file in
      let r = reading_in t.files k.file in
      commanded_few t random r (fits k.file) n k (data_of k c)
      (step6_few t random r (fits k.file) k (data_of k c) (λ d f. let z : ◌≡◌ {A = ℕ} 0 1 = ap (λ b. pick b 1 0) f in absurd (omega arith)))

  wrapped-named : (n : Option Name) → named 0x90 (byte_at c 1) ≡ n → Ordering (on_wrapped c t.pending.on t.place.application n)
  unfolding by_status
  wrapped-named (Some n) e =
      way Ordering (eqb (wrapped_status c t.pending.on t.place.application) 0) (λ z. is_wrapped n (sym (named_ins 0x90 (byte_at c 1) n e))) (λ z. refusal_few t _)
  wrapped-named None e = refusal_few t 0x911C

  iso_named : (n : Option Name) → Ordering (on_iso c t.pending.on t.place.file n)
  unfolding by_status
  iso_named (Some n) = way Ordering (eqb (iso_status c t.pending.on t.place.file) 0) (λ z. is_iso n) (λ z. refusal_few t _)
  iso_named None = refusal_few t 0x6D00

  pub answered_few : Few (answered t c random)
  unfolding answered ordered wrapped_order iso_order
  answered_few =
      way Ordering (or (ltb (length c) 4) (ltb 261 (length c))) (λ e. refusal_few t 0x6700)
      (λ e.
      way Ordering (eqb (byte_at c 0) 0x90)
      (λ e. way Ordering (form_right c) (λ f. wrapped-named (named 0x90 (byte_at c 1)) refl) (λ f. refusal_few t 0x917E))
      (λ e.
      way Ordering (eqb (byte_at c 0) 0)
      (λ e. way Ordering (iso_form c) (λ f. iso_named (named 0x00 (byte_at c 1))) (λ f. refusal_few t 0x6700))
      (λ e. refusal_few t 0x6E00)))
