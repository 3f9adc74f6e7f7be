-- A wrapped command as the other side builds it: its form and length, and that steps 1 to 5 pass it.
use Rattle.std.specs.Prelude.{Err, Ok, Some}
use mathlib.Core.Path.{◌≡◌, refl, sym, ◌∙◌, ap, subst}
use mathlib.Core.Bool.{Bool, true, false}
use mathlib.Core.List.{List, [], ◌∷◌, ◌++◌}
use Prim.Native.Nat.{ℕ, zero, suc, ◌+◌, ◌-◌, ◌*◌, ◌/◌, ◌%◌, ◌≤◌, ◌<◌}
use native.Mathlib.Omega.{arith}
use lib.Dec.{eqb, ltb, lit<}
use lib.ListN.{length, take, drop, replicate, length-append}
use lib.Seq.{take-append_seam}
use borrow.Author.Tests.{eq-eqb, ne_eqb, le-leb, le-ltb}
use Rattle.base.specs.Decide.{pick, and, or, one_of}
use Rattle.base.specs.Bytes.{byte_at, AllBytes}
use Rattle.base.proofs.Bytes.{append-bytes}
use Rattle.aes.specs.Block.{IsBlock}
use Rattle.cbc.specs.Cbc.{cbc_out}
use Rattle.key_expansion.specs.Keys.{key_expansion}
use Rattle.inverse.proofs.Chaining.{cbc_out-length}
use Rattle.inverse.proofs.Inverse.{cipher_block}
use Rattle.inverse.proofs.KeyBlocks.{keys_are}
use Rattle.inverse.proofs.MacBlocks.{mac-length}
use Rattle.messaging.specs.declared.Mode.{Mode}
use Rattle.messaging.specs.declared.Mode.TheVariants.{Plain, Mac, Full}
use Rattle.messaging.specs.declared.Session.{Session}
use Rattle.padding.specs.Padding.{padded, padded_length}
use Rattle.messaging.specs.Protect.{message_mac, command_vector, command_iv, sent, signed, plain}
use Rattle.cmac.specs.Cmac.{mac}
use Rattle.opening.specs.Command.{sent_command}
use Rattle.padding.proofs.Unpadding.{padded-length}
use Rattle.spans.specs.declared.Reading.{Reading}
use Rattle.state.specs.declared.Tag.{Tag}
use Rattle.state.specs.State.{reading_in}
use Rattle.replies.specs.Answer.{Answer, costing}
use Rattle.settings.specs.Filing.{file_status}
use Rattle.order.specs.declared.Name.{Name}
use Rattle.order.specs.declared.Name.TheVariants.{ChangeFileSettings}
use Rattle.order.specs.declared.Command.{Command}
use Rattle.order.specs.Names.{class_of, ins_of, among, named}
use Rattle.order.specs.Order.{form_right, command_data, order_status, header_length, names_key, byte_status, front_status, wrapped_status}
use Rattle.order.specs.Commands.{Ordered, wrapped_command, by_status, on_wrapped, wrapped_order, ordered}
use Rattle.order.proofs.Placed.{wrapped_data}
use Rattle.access.specs.declared.Grant.{Grant}
use Rattle.access.specs.declared.Grant.TheVariants.{ByKey, ByTap, Free, Unasked, Never, Denied}
use Rattle.access.specs.declared.Decision.{Decision}
use Rattle.access.specs.Access.{decided}
use Rattle.wrapped.specs.Wrapped.{own, opening_of, opening_cost_of, on_opening, wrapped}
use Rattle.tag.specs.Way.{used_up, from_step7, on_grant, from_step6, commanded, on_order, answered}
use Rattle.series.specs.Series.{allows}
use Rattle.series.proofs.Choices.{not_both, way, both_true, or_right}
use Rattle.series.proofs.Orders.{wrapped-file}
use Rattle.series.proofs.Born.{zeros-bytes}
use Rattle.demands.specs.Reaching.{built}

-- a test has one answer
pub against : {b : Bool} → b ≡ true → {A : Type 0} → b ≡ false → A
against e {A} z = absurd (not_both (sym z ∙ e))

-- ---- the length of what is wrapped
pad_bytes : (n : ℕ) → AllBytes (128 ∷ replicate n 0)
unfolding AllBytes
pad_bytes n zero = lit< tt
pad_bytes n (suc i) = zeros-bytes n i

module _ (s : Session) (k : IsBlock s.enc) (d : List ℕ) (h : AllBytes d) where
  text_bytes : AllBytes (padded d)
  unfolding padded
  text_bytes = append-bytes d (128 ∷ replicate (15 - length d % 16) 0) h (pad_bytes (15 - length d % 16))

  text_length : length (padded d) ≡ length d / 16 * 16 + 16
  unfolding padded_length
  text_length = padded-length d

  text_whole : length (padded d) % 16 ≡ 0
  text_whole = rw text_length (omega arith)

  hidden_length_lem : length (cbc_out (key_expansion s.enc) (command_iv s) (padded d)) ≡ length d / 16 * 16 + 16
  unfolding command_iv command_vector
  hidden_length_lem =
      cbc_out-length (key_expansion s.enc) (keys_are s.enc k) (command_iv s) (padded d)
      (cipher_block (key_expansion s.enc) (keys_are s.enc k) _) text_bytes text_whole
      ∙ text_length

  part_bound : (m : Mode) → length (sent m s (command_iv s) true d) ≤ length d + 16
  unfolding sent
  part_bound Plain = omega arith
  part_bound Mac = omega arith
  part_bound Full = omega (arith, hidden_length_lem)

tag-length : (s : Session) (first : ℕ) (body : List ℕ) → length (message_mac s first body) ≡ 8
unfolding message_mac mac
tag-length s first body = mac-length _

signed_bound : (m : Mode) (s : Session) (first : ℕ) (body : List ℕ) → length (signed m s first body) ≤ length body + 8
unfolding signed
signed_bound Plain s first body = omega arith
signed_bound Mac s first body = omega (arith, length-append body (message_mac s first body), tag-length s first body)
signed_bound Full s first body = omega (arith, length-append body (message_mac s first body), tag-length s first body)

-- a header, its data padded to blocks, and a MAC of 8
pub wrapped_bound : (s : Session) (m : Mode) (cmd : ℕ) (header d : List ℕ) → IsBlock s.enc → AllBytes d
    → length (sent_command s m cmd header true d) ≤ length header + length d + 24
unfolding sent_command
wrapped_bound s m cmd header d k h =
    let p = sent m s (command_iv s) true d in
    omega (arith, signed_bound m s cmd (header ++ p), length-append header p, part_bound s k d h m)

-- the header stands in front
signed_first : (m : Mode) (s : Session) (first n : ℕ) (p : List ℕ) → byte_at (signed m s first (n ∷ p)) 0 ≡ n
unfolding signed
signed_first Plain s first n p = refl
signed_first Mac s first n p = refl
signed_first Full s first n p = refl

pub wrapped_first : (s : Session) (m : Mode) (cmd n : ℕ) (d : List ℕ) → byte_at (sent_command s m cmd (n ∷ []) true d) 0 ≡ n
unfolding sent_command
wrapped_first s m cmd n d = signed_first m s cmd n (sent m s (command_iv s) true d)

signed-filled : (m : Mode) (s : Session) (first n : ℕ) (p : List ℕ) → 1 ≤ length (signed m s first (n ∷ p))
unfolding signed
signed-filled Plain s first n p = omega arith
signed-filled Mac s first n p = omega arith
signed-filled Full s first n p = omega arith

pub wrapped-filled : (s : Session) (m : Mode) (cmd n : ℕ) (d : List ℕ) → 1 ≤ length (sent_command s m cmd (n ∷ []) true d)
unfolding sent_command
wrapped-filled s m cmd n d = signed-filled m s cmd n (sent m s (command_iv s) true d)

-- ---- steps 1 to 5
last_byte : (x : List ℕ) (z : ℕ) → byte_at (x ++ z ∷ []) (length x) ≡ z
last_byte [] z = refl
last_byte (a ∷ x) z = last_byte x z

built-length : (ins : ℕ) (x : List ℕ) → length (built ins x) ≡ 6 + length x
unfolding built
built-length ins x = simp length-append (omega arith)

built-last : (ins : ℕ) (x : List ℕ) → byte_at (built ins x) (length (built ins x) - 1) ≡ 0
unfolding built
built-last ins x =
    let e : length (built ins x) - 1 ≡ suc (suc (suc (suc (suc (length x))))) = omega (arith, built-length ins x) in
    ap (byte_at (built ins x)) e ∙ last_byte x 0

pub built-part : (ins : ℕ) (x : List ℕ) → command_data (built ins x) ≡ x
unfolding built command_data
built-part ins x =
    let e : length (built ins x) - 6 ≡ length x = omega (arith, built-length ins x) in
    ap (λ n. take n (drop 5 (built ins x))) e ∙ take-append_seam x _

built_form : (ins : ℕ) (x : List ℕ) → 1 ≤ length x → form_right (built ins x) ≡ true
unfolding built form_right
built_form ins x h =
    let c = built ins x in
    let l : length (built ins x) ≡ 6 + length x = built-length ins x in
    both_true (le-leb 5 (length c) (omega arith))
    (both_true (eq-eqb (byte_at c (length c - 1)) 0 (built-last ins x))
    (or_right (eqb (length c) 5) (both_true (le-leb 1 (length x) h) (eq-eqb (length c) (6 + length x) l))))

both_false : {a b : Bool} → a ≡ false → b ≡ false → or a b ≡ false
both_false e f = rw (e, f) refl

-- a command as the other side builds it, where steps 3 to 5 pass it, is answered by its name
pub built-status : (ins : ℕ) (x : List ℕ) (pending application : Bool) → order_status ins 0 0 pending ≡ 0 → front_status ins x application ≡ 0
    → wrapped_status (built ins x) pending application ≡ 0
unfolding built wrapped_status
built-status ins x pending application o f =
    way (λ s. s ≡ 0) (eqb (order_status ins 0 0 pending) 0) (λ z. ap (λ y. front_status ins y application) (built-part ins x) ∙ f) (λ z. o)

module _ (ins : ℕ) (name : Name) (known : named 0x90 ins ≡ Some name) (x : List ℕ) (filled : 1 ≤ length x) (fits : length x ≤ 255) where
  abbrev it : Command
  it = wrapped_command name (built ins x)

  built-ordered : (pending application : Bool) (file : ℕ) → wrapped_status (built ins x) pending application ≡ 0
      → ordered (built ins x) pending application file ≡ Ok it
  unfolding built ordered wrapped_order by_status
  built-ordered pending application file z =
      let c = built ins x in
      let l : length (built ins x) ≡ 6 + length x = built-length ins x in
      let short : or (ltb (length c) 4) (ltb 261 (length c)) ≡ false =
      both_false (le-ltb (length c) 4 (omega arith)) (le-ltb 261 (length c) (omega arith)) in
      let R : Ordered → Type 0 = λ o. o ≡ Ok it in
      way R (or (ltb (length c) 4) (ltb 261 (length c))) (λ y. against y short)
      (λ y.
      way R (form_right c)
      (λ f.
      subst (λ o. R (on_wrapped c pending application o)) (sym known) (subst (λ s. R (pick (eqb s 0) (Ok it) (Err s))) (sym z) refl))
      (against (built_form ins x filled)))

  pub built-answers : (t : Tag) (random : List ℕ) → wrapped_status (built ins x) t.pending.on t.place.application ≡ 0
      → answered t (built ins x) random ≡ commanded name t it (reading_in t.files it.file) x random
  unfolding answered wrapped_command
  built-answers t random z =
      ap (on_order t (built ins x) random) (built-ordered t.pending.on t.place.application t.place.file z)
      ∙ ap (λ y. commanded name t it (reading_in t.files it.file) y random) (wrapped_data name (built ins x) ∙ built-part ins x)

-- ---- ChangeFileSettings: no part two pending, in the application, a file byte
in_order : (pending : Bool) → pending ≡ false → order_status 0x5F 0 0 pending ≡ 0
unfolding order_status
in_order pending e = rw e refl

front-passes : (x : List ℕ) (application : Bool) (n : ℕ) → 1 ≤ length x → application ≡ true → byte_at x 0 ≡ n → 1 ≤ n → n ≤ 3
    → front_status 0x5F x application ≡ 0
unfolding front_status header_length byte_status names_key file_status one_of
front-passes x application n l a e f g =
    rw (le-ltb (length x) 1 l, a, e, le-ltb 31 n (omega arith), ne_eqb n 0 (λ z. omega arith), le-ltb 3 n g) refl

named-change : named 0x90 0x5F ≡ Some ChangeFileSettings
unfolding named among class_of ins_of
named-change = refl

-- a change of file n comes to step 6
module _ (x : List ℕ) (n : ℕ) (filled : 1 ≤ length x) (fits : length x ≤ 255) (is : byte_at x 0 ≡ n) (first : 1 ≤ n) (last : n ≤ 3) where
  abbrev k : Command
  k = wrapped_command ChangeFileSettings (built 0x5F x)

  pub built-file : k.file ≡ n
  unfolding built names_key header_length one_of
  built-file = wrapped-file ChangeFileSettings (built 0x5F x) 0x5F refl refl refl ∙ ap (λ y. byte_at y 0) (built-part 0x5F x) ∙ is

  pub built_comes : (t : Tag) (random : List ℕ) (P : Answer → Type 0) → t.pending.on ≡ false → t.place.application ≡ true
      → P (from_step6 t k (reading_in t.files n) x random) → P (answered t (built 0x5F x) random)
  unfolding commanded
  built_comes t random P off a p =
      let z = built-status 0x5F x t.pending.on t.place.application (in_order t.pending.on off)
      (front-passes x t.place.application n filled a is first last) in
      subst P (sym (built-answers 0x5F ChangeFileSettings named-change x filled fits t random z))
      (subst (λ i. P (from_step6 t k (reading_in t.files i) x random)) (sym built-file) p)

-- ---- steps 6 to 8
not_full : (live : Bool) (counter : ℕ) → (live ≡ true → counter < 65535) → and live (eqb counter 65535) ≡ false
not_full true counter h = let l = h refl in ne_eqb counter 65535 (λ z. omega arith)
not_full false counter h = refl

-- a grant lets the command on
granted_on : (g : Grant) (t : Tag) (k : Command) (r : Reading) (d : Decision) (x random : List ℕ) (P : Answer → Type 0) → allows g ≡ true
    → P (from_step7 t k r d x random) → P (on_grant g t k r d x random)
unfolding on_grant
granted_on (ByKey w) t k r d x random P a p = p
granted_on ByTap t k r d x random P a p = p
granted_on (Free w) t k r d x random P a p = p
granted_on Unasked t k r d x random P a p = p
granted_on Never t k r d x random P a p = absurd (not_both a)
granted_on Denied t k r d x random P a p = absurd (not_both a)

-- a command that is granted, in a session that goes on or without one, and that opens, comes to its own values
pub step6_opens : (t : Tag) (k : Command) (r : Reading) (x p random : List ℕ) (P : Answer → Type 0) → k.class ≡ 0x90
    → let d = decided k.name t.live r.settings.head in
    allows d.grant ≡ true → (t.live.on ≡ true → t.live.counter < 65535) → length x ≤ 255 → opening_of t k x d.mode ≡ plain p
    → P (costing (opening_cost_of t k x d.mode) (own k.name t k r d p random)) → P (from_step6 t k r x random)
unfolding from_step6 from_step7 wrapped
step6_opens t k r x p random P class allowed counter l opens h =
    let d = decided k.name t.live r.settings.head in
    granted_on d.grant t k r d x random P allowed
    (way P (used_up t.live.on t.live.counter) (λ z. against z (not_full t.live.on t.live.counter counter))
    (λ z.
    way P (eqb k.class 0x90)
    (λ z.
    way P (ltb 255 (length x)) (λ z. against z (le-ltb 255 (length x) l))
    (λ z. subst (λ o. P (costing (opening_cost_of t k x d.mode) (on_opening t k r d random o))) (sym opens) h))
    (against (eq-eqb k.class 0x90 class))))
