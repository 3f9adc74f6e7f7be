-- Every answer is of one of a few kinds: what holds of each kind holds of every answer.
use Rattle.std.specs.Prelude.{Err, None, Ok, Option, Some, Result}
use mathlib.Core.Path.{◌≡◌, refl, sym, subst, ap, ◌∙◌}
use mathlib.Core.Bool.{Bool, true, false, not}
use mathlib.Core.List.{List, [], ◌∷◌}
use Prim.Native.Nat.{ℕ, ◌+◌, ◌-◌, ◌*◌, ◌%◌, ◌≤◌}
use native.Mathlib.Omega.{arith}
use lib.Dec.{eqb, leb, ltb}
use lib.ListN.{length}
use borrow.Author.Tests.{eqb-true}
use Rattle.base.specs.Decide.{pick, or, one_of}
use Rattle.base.specs.Bytes.{byte_at, same}
use Rattle.messaging.specs.declared.Mode.{Mode}
use Rattle.messaging.specs.declared.Mode.TheVariants.{Full}
use Rattle.authentication.specs.declared.Wrong.{Wrong}
use Rattle.authentication.specs.declared.Wrong.TheVariants.{NotThirtyTwo, WrongRndB}
use Rattle.opening.specs.declared.NotOpened.TheVariants.{WrongLength, WrongMac, WrongPadding}
use Rattle.authentication.specs.Authentication.{part_two, proof_status}
use Rattle.messaging.specs.Protect.{Opening, plain, wrong_length, wrong_mac, wrong_padding}
use Rattle.opening.specs.Command.{opened_status}
use Rattle.settings.specs.Answers.{Verdict, judged, fault_word}
use Rattle.spans.specs.declared.Reading.{Reading}
use Rattle.order.specs.declared.Name.{Name}
use Rattle.order.specs.declared.Name.TheVariants.{AuthenticateFirst, AuthenticateNonFirst, PartTwo, ChangeKey, GetKeyVersion, GetCardUid}
use Rattle.order.specs.declared.Name.TheVariants.{GetFileSettings, ChangeFileSettings, GetFileCounters, ReadData, WriteData}
use Rattle.order.specs.declared.Name.TheVariants.{IsoSelectFile, IsoReadBinary, IsoUpdateBinary}
use Rattle.order.specs.declared.Command.{Command}
use Rattle.order.specs.Names.{class_of, ins_of, named}
use Rattle.order.specs.Order.{form_right, command_data, header_length, names_key, wrapped_status, iso_form, iso_status}
use Rattle.order.specs.Commands.{Ordered, wrapped_command, iso_command, by_status, on_wrapped, on_iso, wrapped_order, iso_order, ordered, data_of}
use Rattle.order.proofs.Names.{named_ins}
use Rattle.order.proofs.Placed.{wrapped_data}
use Rattle.access.specs.declared.Grant.{Grant}
use Rattle.access.specs.declared.Grant.TheVariants.{ByKey, ByTap, Free, Unasked, Never, Denied}
use Rattle.access.specs.declared.Decision.{Decision}
use Rattle.access.specs.Access.{grant_for, decided, grant_status}
use Rattle.access.proofs.Taps.{tap-sdm}
use Rattle.state.specs.declared.Pending.{Pending}
use Rattle.state.specs.declared.Secrets.{Secrets}
use Rattle.state.specs.declared.Tag.{Tag}
use Rattle.state.specs.State.{size_of, reading_in, key_in, ended_of, filed, keyed}
use Rattle.replies.specs.Answer.{Answer, given, costing, refusal, accepted, afterwards}
use Rattle.file_parts.specs.Filing.{stored, stored_iso, with_bytes}
use Rattle.taps.specs.Taps.{tap_read}
use Rattle.auth.specs.Parts.{first_status, next_status, pending_first, pending_next, begun, part_one_first, part_one_next}
use Rattle.part_two.specs.PartTwo.{entered, by_proof, part_two_answer}
use Rattle.keyring.specs.Keyring.{new_key, change_status, with_key, changed_key, key_version}
use Rattle.details.specs.Details.{card_uid, file_settings, file_counters}
use Rattle.change_settings.specs.ChangeSettings.{changed_settings, by_verdict}
use Rattle.contents.specs.Contents.{range_status, asked, wrapped_part, read_data, write_status, written_data}
use Rattle.selects.specs.Selects.{moved, selected_file, of_id, by_id, by_name, selected, picc_name, application_name}
use Rattle.binaries.specs.Binaries.{is_plain, iso_part, read_binary, updated_binary, binary}
use Rattle.wrapped.specs.Wrapped.{own, opening_of, opening_cost_of, on_opening, wrapped}
use Rattle.tag.specs.Way.{used_up, from_step7, on_grant, from_step6, commanded, on_order, answered}
use Rattle.series.specs.Series.{allows}
use Rattle.series.proofs.Choices.{not_both, way, or_left, or_right, not_false}
use Rattle.series.proofs.Orders.{wrapped-passes, wrapped-file, iso_passes, first_right, next_right}
use Rattle.series.proofs.Writes.{Writable, Puts, not_iso, update_name, granted-write, granted_update, write-inside, update_inside}

-- the command c is a ChangeFileSettings of file n that the tag opened to the string p, in mode m
pub record Sent (t : Tag) (c : List ℕ) (n : ℕ) (p : List ℕ) (m : Mode) : Type 0 where
  pub class : byte_at c 0 ≡ 0x90
  pub command : byte_at c 1 ≡ 0x5F
  pub file : n ≡ byte_at (command_data c) 0
  pub allowed : allows (grant_for ChangeFileSettings t.live (reading_in t.files n).settings.head) ≡ true
  pub decides : (decided ChangeFileSettings t.live (reading_in t.files n).settings.head).mode ≡ m
  pub opened : opening_of t (wrapped_command ChangeFileSettings c) (command_data c) m ≡ plain p

-- the kinds of answers of a tag to a command, each under what is known where it is given
pub record Kinds (t : Tag) (c random : List ℕ) (P : Answer → Type 0) : Type 0 where
  pub refuses : (s : ℕ) → P (refusal t s)
  pub begins : (p : Pending) → p.key ≤ 4 → or t.place.application t.live.on ≡ true → P (begun t p)
  pub enters : t.pending.on ≡ true → (kx a : List ℕ) → P (entered t kx a random)
  pub answers : (m : Mode) (d : List ℕ) → P (accepted t m d)
  pub rekeys : (s : Secrets) → P (accepted (keyed t s) Full [])
  pub rekeys_first : (s : Secrets) → P (given (ended_of (keyed t s)) 0x9100 [])
  pub writes : (n at : ℕ) (p : List ℕ) (m : Mode) → Puts t n at p → P (accepted (filed t (with_bytes t.files n at p)) m [])
  pub writes_iso : (n at : ℕ) (p : List ℕ) → Puts t n at p → P (given (afterwards (filed t (with_bytes t.files n at p))) 0x9000 [])
  pub restrings : (n : ℕ) (p : List ℕ) (m : Mode) → Sent t c n p m → judged n p ≡ Ok tt → P (by_verdict t n (reading_in t.files n) p m (Ok tt))
  pub taps : (n : ℕ) (iso : Bool) (at count : ℕ) → (reading_in t.files n).settings.head.sdm ≡ true
      → t.live.on ≡ false → t.pending.on ≡ false → or t.place.application (not (eqb t.place.file 0)) ≡ true
      → P (tap_read t (reading_in t.files n) iso at count random)
  pub reads_iso : (n at count : ℕ) → P (stored_iso t n at count)
  pub moves : (application : Bool) → P (moved t application)
  pub selects : (n : ℕ) → n ≤ 3 → P (selected_file t n)
  pub costs : (n : ℕ) (a : Answer) → P a → P (costing n a)

module _ (t : Tag) (c random : List ℕ) (P : Answer → Type 0) (kind : Kinds t c random P) where
  -- ---- the authentications and selects
  first_kind : (x : List ℕ) → P (part_one_first t x random)
  unfolding part_one_first pending_first
  first_kind x =
      way P (eqb (first_status x t.place.application) 0)
      (λ e.
      let f = first_right x t.place.application e in
      kind.begins (pending_first x random) f.key (or_left t.live.on f.there))
      (λ e. kind.refuses (first_status x t.place.application))

  next_kind : (x : List ℕ) → P (part_one_next t x random)
  unfolding part_one_next pending_next
  next_kind x =
      way P (eqb (next_status x t.live.on) 0)
      (λ e.
      let f = next_right x t.live.on e in
      kind.begins (pending_next t.live x random) f.key (or_right t.place.application f.there))
      (λ e. kind.refuses (next_status x t.live.on))

  proof_kind : t.pending.on ≡ true → (kx : List ℕ) (r : Result (List ℕ) Wrong) → P (by_proof t kx random r)
  proof_kind p kx (Ok a) = kind.enters p kx a
  proof_kind p kx (Err NotThirtyTwo) = kind.refuses (proof_status (Err NotThirtyTwo))
  proof_kind p kx (Err WrongRndB) = kind.refuses (proof_status (Err WrongRndB))

  second_kind : (x : List ℕ) → t.pending.on ≡ true → P (part_two_answer t x random)
  unfolding part_two_answer
  second_kind x p =
      let kx = key_in t.secrets.keys t.pending.key in
      let two = part_two kx t.pending.rnd_b x in
      kind.costs two.cost (by_proof t kx random two.a) (proof_kind p kx two.a)

  id_kind : (id : ℕ) → P (of_id t id)
  unfolding of_id
  id_kind id =
      way P (eqb id 0x3F00) (λ e. kind.moves false)
      (λ e. way P (eqb id 0xE110) (λ e. kind.moves true)
      (λ e. way P (eqb id 0xE103) (λ e. kind.selects 1 (omega arith))
      (λ e. way P (eqb id 0xE104) (λ e. kind.selects 2 (omega arith))
      (λ e. way P (eqb id 0xE105) (λ e. kind.selects 3 (omega arith)) (λ e. kind.refuses 0x6A82)))))

  select_kind : (p1 p2 : ℕ) (d : List ℕ) → P (selected t p1 p2 d)
  unfolding selected by_id by_name
  select_kind p1 p2 d =
      way P (or (eqb p2 0) (eqb p2 0x0C))
      (λ e.
      way P (leb p1 2)
      (λ e.
      way P (eqb (length d) 0) (λ e. kind.moves false)
      (λ e. way P (eqb (length d) 2) (λ e. id_kind (byte_at d 0 * 256 + byte_at d 1)) (λ e. kind.refuses 0x6A80)))
      (λ e.
      way P (eqb p1 4)
      (λ e.
      way P (same d picc_name) (λ e. kind.moves false)
      (λ e. way P (same d application_name) (λ e. kind.moves true) (λ e. kind.refuses 0x6A82)))
      (λ e. kind.refuses 0x6A86)))
      (λ e. kind.refuses 0x6A86)

  -- ---- step 9
  key_kind : (n : ℕ) (p : List ℕ) → P (changed_key t n p)
  unfolding changed_key
  key_kind n p =
      let new = new_key p (key_in t.secrets.keys n) n in
      let s = with_key t.secrets n new (byte_at p 16) in
      way P (eqb (change_status p n new) 0)
      (λ e. way P (eqb n 0) (λ z. kind.rekeys_first s) (λ z. kind.rekeys s))
      (λ e. kind.refuses (change_status p n new))

  verdict_kind : (n : ℕ) (p : List ℕ) (m : Mode) → Sent t c n p m → (v : Verdict) → judged n p ≡ v → P (by_verdict t n (reading_in t.files n) p m v)
  verdict_kind n p m s (Ok _) e = kind.restrings n p m s e
  verdict_kind n p m s (Err f) e = kind.refuses (fault_word f)

  settings_kind : (n : ℕ) (p : List ℕ) (m : Mode) → Sent t c n p m → P (changed_settings t n (reading_in t.files n) p m)
  unfolding changed_settings
  settings_kind n p m s = verdict_kind n p m s (judged n p) refl

  write_kind : (k : Command) (p : List ℕ) (m : Mode) → Writable t k.file → P (written_data t k p m)
  unfolding written_data
  write_kind k p m w =
      let s = write_status k.offset k.count (length p) (size_of k.file) in
      way P (eqb s 0)
      (λ e.
      kind.writes k.file k.offset p m
      (record { allowed = w; inside = write-inside k.offset k.count (length p) (size_of k.file) e }))
      (λ e. kind.refuses s)

  update_kind : (k : Command) (x : List ℕ) → Writable t k.file → P (updated_binary t k x)
  unfolding updated_binary
  update_kind k x w =
      way P (leb (size_of k.file) k.offset) (λ e. kind.refuses 0x6A86)
      (λ at.
      way P (ltb (size_of k.file - k.offset) (length x)) (λ e. kind.refuses 0x6A87)
      (λ e.
      kind.writes_iso k.file k.offset x
      (record { allowed = w; inside = update_inside k.offset (length x) (size_of k.file) at e })))

  -- ---- steps 6 to 9, of a command with no part two pending, in the application or with a selected file
  module _ (k : Command) (x : List ℕ) (off : t.pending.on ≡ false) (there : or t.place.application (not (eqb t.place.file 0)) ≡ true) where
    abbrev r : Reading
    r = reading_in t.files k.file

    abbrev d : Decision
    d = decided k.name t.live r.settings.head

    tap_kind : (iso : Bool) (count : ℕ) → d.tap ≡ true → P (tap_read t r iso k.offset count random)
    tap_kind iso count e =
        let s = tap-sdm k.name t.live r.settings.head e in
        kind.taps k.file iso k.offset count s.0 s.1 off there

    read_kind : P (read_data t k r d random)
    unfolding read_data wrapped_part stored
    read_kind =
        let s = range_status k.offset k.count (size_of k.file) in
        let count = asked k.offset k.count (size_of k.file) in
        way P (eqb s 0) (λ e. way P d.tap (λ b. tap_kind false count b) (λ b. kind.answers d.mode _)) (λ e. kind.refuses s)

    -- of CLA 00 a command with data is an update
    abbrev Updates : Type 0
    Updates = eqb k.class 0x90 ≡ false → k.parted ≡ true → k.name ≡ IsoUpdateBinary

    binary_kind : eqb k.class 0x90 ≡ false → Updates → allows d.grant ≡ true → P (binary t k r d x random)
    unfolding binary read_binary iso_part
    binary_kind class u a =
        let left = size_of k.file - k.offset in
        let count = pick (eqb k.count 0) left k.count in
        way P (is_plain d.mode)
        (λ e.
        way P k.parted (λ e. update_kind k x (granted_update k.name t.live r.settings.head (u class e) a))
        (λ e.
        way P (leb (size_of k.file) k.offset) (λ e. kind.refuses 0x6A86)
        (λ e.
        way P (ltb left k.count) (λ e. kind.refuses (0x6C00 + left % 256))
        (λ e. way P d.tap (λ b. tap_kind true count b) (λ b. kind.reads_iso k.file k.offset count)))))
        (λ e. kind.refuses 0x6982)

    own_kind : (n : Name) (p : List ℕ) → (n ≡ ChangeFileSettings → Sent t c k.file p d.mode) → (n ≡ WriteData → Writable t k.file)
        → P (own n t k r d p random)
    unfolding own key_version card_uid file_settings file_counters
    own_kind ChangeKey p s w = key_kind k.key p
    own_kind GetKeyVersion p s w = kind.answers d.mode _
    own_kind GetCardUid p s w = kind.answers Full _
    own_kind GetFileSettings p s w = kind.answers d.mode _
    own_kind ChangeFileSettings p s w = settings_kind k.file p d.mode (s refl)
    own_kind GetFileCounters p s w = kind.answers d.mode _
    own_kind ReadData p s w = read_kind
    own_kind WriteData p s w = write_kind k p d.mode (w refl)
    own_kind AuthenticateFirst p s w = kind.refuses 0x911C
    own_kind AuthenticateNonFirst p s w = kind.refuses 0x911C
    own_kind PartTwo p s w = kind.refuses 0x911C
    own_kind IsoSelectFile p s w = kind.refuses 0x911C
    own_kind IsoReadBinary p s w = kind.refuses 0x911C
    own_kind IsoUpdateBinary p s w = kind.refuses 0x911C

    -- what is opened of a change that is granted is sent
    abbrev Sends : Type 0
    Sends = k.name ≡ ChangeFileSettings → (p : List ℕ) → allows d.grant ≡ true → opening_of t k x d.mode ≡ plain p → Sent t c k.file p d.mode

    opening_kind : Sends → allows d.grant ≡ true → (o : Opening) → opening_of t k x d.mode ≡ o → P (on_opening t k r d random o)
    opening_kind s a (plain p) e =
        own_kind k.name p (λ q. s q p a e) (λ q. granted-write k.name t.live r.settings.head q a)
    opening_kind s a wrong_length e = kind.refuses (opened_status (Err WrongLength))
    opening_kind s a wrong_mac e = kind.refuses (opened_status (Err WrongMac))
    opening_kind s a wrong_padding e = kind.refuses (opened_status (Err WrongPadding))

    step7_kind : Sends → Updates → allows d.grant ≡ true → P (from_step7 t k r d x random)
    unfolding from_step7 wrapped
    step7_kind s u a =
        let o = opening_of t k x d.mode in
        let n = opening_cost_of t k x d.mode in
        way P (used_up t.live.on t.live.counter) (λ e. kind.refuses _)
        (λ e.
        way P (eqb k.class 0x90)
        (λ e. way P (ltb 255 (length x)) (λ e. kind.refuses 0x917E) (λ e. kind.costs n (on_opening t k r d random o) (opening_kind s a o refl)))
        (λ e. binary_kind e u a))

    grant_kind : (g : Grant) → (allows g ≡ true → P (from_step7 t k r d x random)) → P (on_grant g t k r d x random)
    unfolding on_grant
    grant_kind (ByKey w) h = h refl
    grant_kind ByTap h = h refl
    grant_kind (Free w) h = h refl
    grant_kind Unasked h = h refl
    grant_kind Never h = kind.refuses (grant_status k.class Never)
    grant_kind Denied h = kind.refuses (grant_status k.class Denied)

    step6_kind : Sends → Updates → P (from_step6 t k r x random)
    unfolding from_step6
    step6_kind s u = grant_kind d.grant (step7_kind s u)

  -- ---- by name; 71, 77, AF and selects do not come to step 6
  commanded_kind : (n : Name) (k : Command) (r : Reading) (x : List ℕ) → (n ≡ PartTwo → t.pending.on ≡ true)
      → (eqb (ins_of n) 0xAF ≡ false → one_of (ins_of n) (0x71 ∷ 0x77 ∷ 0xAF ∷ []) ≡ false → eqb (ins_of n) 0xA4 ≡ false → P (from_step6 t k r x random))
      → P (commanded n t k r x random)
  unfolding commanded ins_of one_of
  commanded_kind AuthenticateFirst k r x p h = first_kind x
  commanded_kind AuthenticateNonFirst k r x p h = next_kind x
  commanded_kind PartTwo k r x p h = second_kind x (p refl)
  commanded_kind ChangeKey k r x p h = h refl refl refl
  commanded_kind GetKeyVersion k r x p h = h refl refl refl
  commanded_kind GetCardUid k r x p h = h refl refl refl
  commanded_kind GetFileSettings k r x p h = h refl refl refl
  commanded_kind ChangeFileSettings k r x p h = h refl refl refl
  commanded_kind GetFileCounters k r x p h = h refl refl refl
  commanded_kind ReadData k r x p h = h refl refl refl
  commanded_kind WriteData k r x p h = h refl refl refl
  commanded_kind IsoSelectFile k r x p h = select_kind k.p1 k.p2 x
  commanded_kind IsoReadBinary k r x p h = h refl refl refl
  commanded_kind IsoUpdateBinary k r x p h = h refl refl refl

  -- ---- CLA 90
  abbrev SendsAs : Name → Type 0
  SendsAs n =
      let k = wrapped_command n c in
      let d = decided n t.live (reading_in t.files k.file).settings.head in
      (p : List ℕ) → allows d.grant ≡ true → opening_of t k (data_of k c) d.mode ≡ plain p → Sent t c k.file p d.mode

  change_sends : byte_at c 0 ≡ 0x90 → byte_at c 1 ≡ 0x5F → SendsAs ChangeFileSettings
  unfolding decided names_key header_length one_of
  change_sends class command p a o =
      let k = wrapped_command ChangeFileSettings c in
      let m = (decided ChangeFileSettings t.live (reading_in t.files k.file).settings.head).mode in
      record {
        class = class;
        command = command;
        file = wrapped-file ChangeFileSettings c 0x5F command refl refl;
        allowed = a;
        decides = refl;
        opened = subst (λ y. opening_of t k y m ≡ plain p) (wrapped_data ChangeFileSettings c) o;
      }

  wrapped_known : byte_at c 0 ≡ 0x90 → (n : Name) → named 0x90 (byte_at c 1) ≡ Some n
      → eqb (wrapped_status c t.pending.on t.place.application) 0 ≡ true → P (on_order t c random (Ok (wrapped_command n c)))
  unfolding wrapped_command ins_of
  wrapped_known class n e z =
      let k = wrapped_command n c in
      let i = sym (named_ins 0x90 (byte_at c 1) n e) in
      let q = wrapped-passes c t.pending.on t.place.application z in
      commanded_kind n k (reading_in t.files k.file) (data_of k c)
      (λ two. q.order ∙ ap (λ j. eqb j 0xAF) (i ∙ ap ins_of two))
      (λ af own select.
      step6_kind k (data_of k c) (q.order ∙ ap (λ j. eqb j 0xAF) i ∙ af)
      (or_left (not (eqb t.place.file 0)) (q.front (ap (λ j. one_of j (0x71 ∷ 0x77 ∷ 0xAF ∷ [])) i ∙ own)))
      (λ s. subst SendsAs (sym s) (change_sends class (i ∙ ap ins_of s)))
      (λ e. absurd (not_both (sym e))))

  -- what holds of an answer holds of an order
  abbrev Q : Ordered → Type 0
  Q o = P (on_order t c random o)

  wrapped-named : byte_at c 0 ≡ 0x90 → (n : Option Name) → named 0x90 (byte_at c 1) ≡ n → Q (on_wrapped c t.pending.on t.place.application n)
  unfolding by_status
  wrapped-named class (Some n) e =
      let s = wrapped_status c t.pending.on t.place.application in
      way Q (eqb s 0) (λ z. wrapped_known class n e z) (λ z. kind.refuses s)
  wrapped-named class None e = kind.refuses 0x911C

  wrapped_kind : byte_at c 0 ≡ 0x90 → Q (wrapped_order c t.pending.on t.place.application)
  unfolding wrapped_order
  wrapped_kind class =
      way Q (form_right c) (λ f. wrapped-named class (named 0x90 (byte_at c 1)) refl) (λ f. kind.refuses 0x917E)

  -- ---- CLA 00
  iso_known : (n : Name) → named 0x00 (byte_at c 1) ≡ Some n → eqb (iso_status c t.pending.on t.place.file) 0 ≡ true
      → P (on_order t c random (Ok (iso_command n c t.place.file)))
  unfolding iso_command class_of
  iso_known n e z =
      let k = iso_command n c t.place.file in
      let q = iso_passes c t.pending.on t.place.file z in
      let i = sym (named_ins 0 (byte_at c 1) n e) in
      commanded_kind n k (reading_in t.files k.file) (data_of k c) (λ two. not_iso (byte_at c 1) n PartTwo e two refl)
      (λ af own select.
      step6_kind k (data_of k c) q.idle
      (or_right t.place.application (not_false (q.selected (ap (λ j. eqb j 0xA4) i ∙ select))))
      (λ s. not_iso (byte_at c 1) n ChangeFileSettings e s refl)
      (λ class parted. update_name c n e (q.fit (ap (λ j. eqb j 0xA4) i ∙ select)) (ap (λ j. eqb j 0xA4) i ∙ select) parted))

  iso_named : (n : Option Name) → named 0x00 (byte_at c 1) ≡ n → Q (on_iso c t.pending.on t.place.file n)
  unfolding by_status
  iso_named (Some n) e =
      let s = iso_status c t.pending.on t.place.file in
      way Q (eqb s 0) (λ z. iso_known n e z) (λ z. kind.refuses s)
  iso_named None e = kind.refuses 0x6D00

  iso_kind : Q (iso_order c t.pending.on t.place.file)
  unfolding iso_order
  iso_kind = way Q (iso_form c) (λ f. iso_named (named 0x00 (byte_at c 1)) refl) (λ f. kind.refuses 0x6700)

  pub every_answer : P (answered t c random)
  unfolding answered ordered
  every_answer =
      way Q (or (ltb (length c) 4) (ltb 261 (length c))) (λ e. kind.refuses 0x6700)
      (λ e.
      way Q (eqb (byte_at c 0) 0x90) (λ e. wrapped_kind (eqb-true (byte_at c 0) 0x90 e))
      (λ e. way Q (eqb (byte_at c 0) 0) (λ e. iso_kind) (λ e. kind.refuses 0x6E00)))
