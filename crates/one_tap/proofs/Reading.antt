-- What an accepted read of file 2 answers, without a session and with SDM on: the part asked for of what the tap shows.
use Rattle.std.specs.Prelude.{Ok, Some}
use mathlib.Core.Path.{◌≡◌, refl, sym, ap, ap₂, subst, ◌∙◌}
use mathlib.Core.Bool.{Bool, true, false, not}
use mathlib.Core.List.{List, [], ◌∷◌}
use Prim.Native.Nat.{ℕ, ◌+◌, ◌-◌, ◌*◌, ◌%◌}
use native.Mathlib.Omega.{arith}
use lib.Dec.{eqb, leb, ltb}
use lib.ListN.{length}
use borrow.Author.Tests.{eqb-true, ne_eqb}
use Rattle.base.specs.Decide.{pick, and, or, one_of}
use Rattle.base.specs.Bytes.{byte_at}
use Rattle.base.proofs.Bytes.{and_left, and_right}
use Rattle.fields.specs.Fields.{three}
use Rattle.spans.specs.declared.Reading.{Reading}
use Rattle.state.specs.declared.Tag.{Tag}
use Rattle.messaging.specs.declared.Mode.TheVariants.{Plain}
use Rattle.opening.specs.Command.{opening_cost}
use Rattle.opening.proofs.Opening.{opening-plain}
use Rattle.state.specs.State.{size_of, reading_in, tapped, session_of}
use Rattle.order.specs.declared.Name.{Name}
use Rattle.order.specs.declared.Name.TheVariants.{ReadData, IsoReadBinary}
use Rattle.order.specs.declared.Command.{Command}
use Rattle.order.specs.Names.{class_of, ins_of, among, named}
use Rattle.order.specs.Order.{command_data, header_length, names_key, iso_form, lc_of, has_le, fits, on_file_status, iso_status}
use Rattle.order.specs.Commands.{Ordered, wrapped_command, iso_command, by_status, on_iso, iso_order, ordered, data_of}
use Rattle.access.specs.declared.Grant.{Grant}
use Rattle.access.specs.declared.Grant.TheVariants.{ByKey, ByTap, Free, Unasked, Never, Denied}
use Rattle.access.specs.declared.Decision.{Decision}
use Rattle.access.specs.declared.Right.TheVariants.{Read, ReadWrite}
use Rattle.access.specs.Access.{condition_of, first_of, all_never, granted, read_grant, grant_for, file_mode, under_key, mode_for, reads, decided, grant_status}
use Rattle.replies.specs.Answer.{Answer, given_for, costing, refusal}
use Rattle.taps.specs.Taps.{start_status, read_status, tap_of, tap_status, tap_part, tap_read}
use Rattle.contents.specs.Contents.{range_status, asked, wrapped_part, read_data}
use Rattle.binaries.specs.Binaries.{is_plain, iso_part, read_binary, binary}
use Rattle.wrapped.specs.Wrapped.{own, opening_cost_of}
use Rattle.tag.specs.Way.{used_up, from_step7, on_grant, from_step6, commanded, on_order, answered}
use Rattle.series.specs.Series.{accepting}
use Rattle.series.proofs.Choices.{not_both, way}
use Rattle.series.proofs.Orders.{wrapped-file}
use Rattle.demands.proofs.Coming.{Bars, long_bars, comes}
use Rattle.one_tap.specs.OneTap.{asks_read, from_of, count_of}

-- ---- statuses that do not accept
start_bars : (iso going : Bool) (counter : ℕ) (limited : Bool) (limit : ℕ) → Bars (tap_status iso (start_status going counter limited limit))
unfolding tap_status start_status accepting
start_bars iso going counter limited limit =
    way Bars iso (λ e. refl)
    (λ e.
    way Bars going (λ e. refl)
    (λ e. way Bars (and limited (leb limit counter)) (λ e. refl) (λ e. way Bars (leb 16777215 counter) (λ e. refl) (λ e. refl))))

range_bars : (at count size : ℕ) → Bars (range_status at count size)
unfolding range_status accepting
range_bars at count size = way Bars (or (leb size at) (ltb size (at + count))) (λ e. refl) (λ e. refl)

iso_bars : (c : List ℕ) (pending : Bool) (file : ℕ) → Bars (iso_status c pending file)
unfolding iso_status on_file_status accepting
iso_bars c pending file =
    way Bars pending (λ e. refl)
    (λ e.
    way Bars (eqb (byte_at c 1) 0xA4) (λ e. refl)
    (λ e.
    way Bars (leb 128 (byte_at c 2)) (λ e. refl)
    (λ e. way Bars (fits (eqb (byte_at c 1) 0xB0) c) (λ e. way Bars (eqb file 0) (λ e. refl) (λ e. refl)) (λ e. refl))))

le_bars : (n : ℕ) → Bars (0x6C00 + n % 256)
unfolding accepting
le_bars n =
    let a : eqb (0x6C00 + n % 256) 0x9000 ≡ false = ne_eqb (0x6C00 + n % 256) 0x9000 (λ e. omega arith) in
    let b : eqb (0x6C00 + n % 256) 0x9100 ≡ false = ne_eqb (0x6C00 + n % 256) 0x9100 (λ e. omega arith) in
    ap₂ (λ x y. or x y) a b

offset_bars : Bars 0x6A86
unfolding accepting
offset_bars = refl

security_bars : Bars 0x6982
unfolding accepting
security_bars = refl

iso_never_bars : Bars (grant_status 0x00 Never)
unfolding accepting grant_status
iso_never_bars = refl

iso_denied_bars : Bars (grant_status 0x00 Denied)
unfolding accepting grant_status
iso_denied_bars = refl

-- ---- both commands
module _ (t : Tag) (random : List ℕ) (free : t.live.on ≡ false) (sdm : (reading_in t.files 2).settings.head.sdm ≡ true) where
  abbrev r : Reading
  r = reading_in t.files 2

  -- accepted, it is this part
  abbrev P : Bool → ℕ → ℕ → Answer → Type 0
  P iso at n a = accepting a.status ≡ true → a ≡ tap_part (tapped t (tap_of t.tap iso random)) r iso at n

  refused : (iso : Bool) (at n s : ℕ) → Bars s → P iso at n (refusal t s)
  unfolding refusal
  refused iso at n s e h = absurd (not_both (sym e ∙ h))

  tap_gives : (iso : Bool) (at n : ℕ) → P iso at n (tap_read t r iso at n random)
  unfolding tap_read read_status
  tap_gives iso at n =
      way (P iso at n) (eqb (read_status t.tap r iso) 0) (λ e h. refl)
      (λ e. refused iso at n (tap_status iso (read_status t.tap r iso)) (start_bars iso _ _ _ _))

  tap_on : (n : Name) → reads n ≡ true → (decided n t.live r.settings.head).tap ≡ true
  unfolding decided
  tap_on n e = rw (e, sdm, free) refl

  -- ---- ReadData
  module _ (c : List ℕ) (class : byte_at c 0 ≡ 0x90) (command : byte_at c 1 ≡ 0xAD) (file : byte_at (command_data c) 0 ≡ 2) where
    abbrev k : Command
    k = wrapped_command ReadData c

    abbrev d : Decision
    d = decided ReadData t.live r.settings.head

    offset_is : k.offset ≡ three (command_data c) 1
    unfolding wrapped_command header_length one_of
    offset_is = ap (λ i. pick (eqb (header_length i) 7) (three (command_data c) 1) 0) command

    count_is : k.count ≡ three (command_data c) 4
    unfolding wrapped_command header_length one_of
    count_is = ap (λ i. pick (eqb (header_length i) 7) (three (command_data c) 4) 0) command

    file_is : k.file ≡ 2
    unfolding names_key header_length one_of
    file_is = wrapped-file ReadData c 0xAD command refl refl ∙ file

    count : ℕ
    count = asked k.offset k.count (size_of k.file)

    own_read : (p : List ℕ) → P false k.offset count (own ReadData t k r d p random)
    unfolding own read_data wrapped_part reads count
    own_read p =
        way (P false k.offset count) (eqb (range_status k.offset k.count (size_of k.file)) 0)
        (λ e.
        way (P false k.offset count) d.tap (λ b. tap_gives false k.offset count) (λ b. absurd (not_both (sym b ∙ tap_on ReadData refl))))
        (λ e. refused false k.offset count _ (range_bars k.offset k.count (size_of k.file)))

    read_known : named 0x90 0xAD ≡ Some ReadData
    unfolding named among class_of ins_of
    read_known = refl

    -- without a session a read is in Plain, which costs nothing to open
    read_plain : d.mode ≡ Plain
    unfolding decided mode_for grant_for read_grant granted first_of under_key
    read_plain =
        let h = r.settings.head in
        let M : Grant → Type 0 = λ g. under_key g (file_mode h.mode) ≡ Plain in
        rw free (way M (leb (pick h.sdm h.sdm_file_read 15) 4) (λ e. refl)
        (λ e. way M (eqb (condition_of Read h) 14) (λ e. refl)
        (λ e. way M (eqb (condition_of ReadWrite h) 14) (λ e. refl) (λ e. way M (all_never (Read ∷ ReadWrite ∷ []) h _) (λ e. refl) (λ e. refl)))))

    opens_free : (a : Answer) → costing (opening_cost_of t k (command_data c) d.mode) a ≡ a
    opens_free a =
        let s = session_of t.live in
        let z = ap (λ m. opening_cost s m k.ins (command_data c) k.header k.parted) read_plain
        ∙ opening-plain s k.ins (command_data c) k.header k.parted in
        let e : opening_cost_of t k (command_data c) d.mode + a.cost ≡ a.cost = omega (arith, z) in
        ap (λ n. given_for n a.tag a.status a.text) e

    data_answer : P false k.offset count (answered t c random)
    unfolding commanded
    data_answer =
        comes t random (P false k.offset count) (refused false k.offset count) ReadData c 2 class (ap (named 0x90) command ∙ read_known) file_is
        (λ k r x. refl) (λ a h g. opens_free a ∙ h g) (λ z a p o. own_read p)

    pub data_read : P false (from_of c false) (count_of c false) (answered t c random)
    unfolding from_of count_of count size_of
    data_read =
        subst (λ at. P false at (asked at (three (command_data c) 4) 256) (answered t c random)) offset_is
        (subst (λ n. P false k.offset (asked k.offset n 256) (answered t c random)) count_is
        (subst (λ f. P false k.offset (asked k.offset k.count (size_of f)) (answered t c random)) file_is data_answer))

  -- ---- ISOReadBinary
  module _ (c : List ℕ) (class : byte_at c 0 ≡ 0x00) (command : byte_at c 1 ≡ 0xB0) (file : t.place.file ≡ 2) where
    abbrev j : Command
    j = iso_command IsoReadBinary c 2

    abbrev e : Decision
    e = decided IsoReadBinary t.live r.settings.head

    abbrev place : ℕ
    place = byte_at c 2 * 256 + byte_at c 3

    abbrev many : ℕ
    many = asked place (byte_at c 4) 256

    abbrev R : Answer → Type 0
    R = P true place many

    iso_read : R (read_binary t j r e random)
    unfolding read_binary iso_part iso_command reads size_of asked
    iso_read =
        way R (leb 256 place) (λ z. refused true place many 0x6A86 offset_bars)
        (λ z.
        way R (ltb (256 - place) (byte_at c 4)) (λ z. refused true place many (0x6C00 + (256 - place) % 256) (le_bars (256 - place)))
        (λ z. way R e.tap (λ b. tap_gives true place many) (λ b. absurd (not_both (sym b ∙ tap_on IsoReadBinary refl)))))

    -- a read has no data
    bare_by : (p select high reads le none zero : Bool) → select ≡ false → reads ≡ true → eqb (lc_of c) 0 ≡ none
        → eqb (pick p 0x6985 (pick select 0 (pick high 0x6A86 (pick (pick reads (and le none) (and (not le) (leb 1 (lc_of c)))) (pick zero 0x6985 0) 0x6700)))) 0 ≡ true
        → leb 1 (lc_of c) ≡ false
    bare_by true select high reads le none zero q g n h = absurd (not_both h)
    bare_by false true high reads le none zero q g n h = absurd (not_both (sym q))
    bare_by false false true reads le none zero q g n h = absurd (not_both h)
    bare_by false false false false le none zero q g n h = absurd (not_both g)
    bare_by false false false true false none zero q g n h = absurd (not_both h)
    bare_by false false false true true false zero q g n h = absurd (not_both h)
    bare_by false false false true true true zero q g n h = ap (λ i. leb 1 i) (eqb-true (lc_of c) 0 n)

    bare : (pending : Bool) (f : ℕ) → eqb (iso_status c pending f) 0 ≡ true → leb 1 (lc_of c) ≡ false
    unfolding iso_status on_file_status fits
    bare pending f =
        bare_by pending (eqb (byte_at c 1) 0xA4) (leb 128 (byte_at c 2)) (eqb (byte_at c 1) 0xB0) (has_le c) (eqb (lc_of c) 0) (eqb f 0)
        (ap (λ i. eqb i 0xA4) command) (ap (λ i. eqb i 0xB0) command) refl

    module _ (x : List ℕ) (none : leb 1 (lc_of c) ≡ false) where
      iso_binary : R (binary t j r e x random)
      unfolding binary iso_command
      iso_binary =
          way R (is_plain e.mode) (λ p. way R (leb 1 (lc_of c)) (λ b. absurd (not_both (sym none ∙ b))) (λ b. iso_read))
          (λ p. refused true place many 0x6982 security_bars)

      iso_step7 : R (from_step7 t j r e x random)
      unfolding from_step7 iso_command
      iso_step7 =
          way R (used_up t.live.on t.live.counter) (λ u. refused true place many 0x6982 security_bars) (λ u. iso_binary)

      iso_grant : (g : Grant) → R (on_grant g t j r e x random)
      unfolding on_grant iso_command
      iso_grant (ByKey w) = iso_step7
      iso_grant ByTap = iso_step7
      iso_grant (Free w) = iso_step7
      iso_grant Unasked = iso_step7
      iso_grant Never = refused true place many (grant_status 0x00 Never) iso_never_bars
      iso_grant Denied = refused true place many (grant_status 0x00 Denied) iso_denied_bars

      iso_step6 : R (from_step6 t j r x random)
      unfolding from_step6 iso_command
      iso_step6 = iso_grant e.grant

    abbrev Q : Ordered → Type 0
    Q o = R (on_order t c random o)

    iso_known : leb 1 (lc_of c) ≡ false → Q (Ok (iso_command IsoReadBinary c t.place.file))
    unfolding commanded iso_command
    iso_known none = subst (λ f. Q (Ok (iso_command IsoReadBinary c f))) (sym file) (iso_step6 (data_of j c) none)

    iso_named : named 0x00 0xB0 ≡ Some IsoReadBinary
    unfolding named among class_of ins_of
    iso_named = refl

    iso_answer : R (answered t c random)
    unfolding answered ordered iso_order by_status
    iso_answer =
        let s = iso_status c t.pending.on t.place.file in
        way Q (or (ltb (length c) 4) (ltb 261 (length c))) (λ z. refused true place many 0x6700 long_bars)
        (λ z.
        way Q (eqb (byte_at c 0) 0x90) (λ b. absurd (not_both (sym (ap (λ v. eqb v 0x90) class) ∙ b)))
        (λ b.
        way Q (eqb (byte_at c 0) 0x00)
        (λ g.
        way Q (iso_form c)
        (λ f.
        subst (λ o. Q (on_iso c t.pending.on t.place.file o)) (sym (ap (named 0x00) command ∙ iso_named))
        (way Q (eqb s 0) (λ z. iso_known (bare t.pending.on t.place.file z))
        (λ z. refused true place many s (iso_bars c t.pending.on t.place.file))))
        (λ f. refused true place many 0x6700 long_bars))
        (λ g. absurd (not_both (sym g ∙ ap (λ v. eqb v 0x00) class)))))

    pub binary_read : P true (from_of c true) (count_of c true) (answered t c random)
    unfolding from_of count_of
    binary_read = iso_answer

  -- ---- whichever it is
  asks_data : (c : List ℕ) → asks_read t c false ≡ true → P false (from_of c false) (count_of c false) (answered t c random)
  unfolding asks_read
  asks_data c h =
      let g = and_right (eqb (byte_at c 0) 0x90) _ h in
      data_read c (eqb-true (byte_at c 0) 0x90 (and_left _ _ h)) (eqb-true (byte_at c 1) 0xAD (and_left _ _ g))
      (eqb-true (byte_at (command_data c) 0) 2 (and_right (eqb (byte_at c 1) 0xAD) _ g))

  asks-binary : (c : List ℕ) → asks_read t c true ≡ true → P true (from_of c true) (count_of c true) (answered t c random)
  unfolding asks_read
  asks-binary c h =
      let g = and_right (eqb (byte_at c 0) 0x00) _ h in
      binary_read c (eqb-true (byte_at c 0) 0x00 (and_left _ _ h)) (eqb-true (byte_at c 1) 0xB0 (and_left _ _ g))
      (eqb-true t.place.file 2 (and_right (eqb (byte_at c 1) 0xB0) _ g))

  pub read_answer : (c : List ℕ) (iso : Bool) → asks_read t c iso ≡ true → P iso (from_of c iso) (count_of c iso) (answered t c random)
  read_answer c true h = asks-binary c h
  read_answer c false h = asks_data c h
