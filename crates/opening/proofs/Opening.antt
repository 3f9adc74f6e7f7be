-- Opening a command, case by case.
use mathlib.Core.Bool.{Bool, true, false}
use mathlib.Core.Path.{◌≡◌, refl, sym, ap, ◌∙◌}
use mathlib.Core.List.{List}
use Prim.Native.Nat.{ℕ, ◌+◌, ◌-◌, ◌≤◌, ◌<◌}
use lib.Dec.{eqb, leb}
use lib.ListN.{length, take, drop}
use lib.Seq.{take-length}
use borrow.Author.Tests.{lt-ltb, le-ltb, leb-true, eqb-true}
use native.Mathlib.Omega.{arith}
use Rattle.base.specs.Bytes.{same}
use Rattle.base.proofs.Bytes.{and_left, and_right}
use Rattle.cbc.specs.Cbc.{cbc_back}
use Rattle.key_expansion.specs.Keys.{key_expansion}
use Rattle.padding.specs.Padding.{blocks, unpad}
use Rattle.messaging.specs.Protect.{command_vector, command_iv, mac_length, message_mac, Opening, plain, wrong_length, wrong_mac, text_of, content, mac_right, message_mac_cost, part_cost, signed_cost}
use Rattle.messaging.proofs.Costs.{part_few, signed_few}
use Rattle.opening.specs.Command.{part_right, length_right, checked, checked_cost, opening, opening_cost, opened_for, answers, told, left, leaves, costs, OpensInto, Opens}
use Rattle.messaging.specs.declared.Session.{Session}
use Rattle.messaging.specs.declared.Mode.{Mode}
use Rattle.messaging.specs.declared.Mode.TheVariants.{Plain, Mac, Full}
use Rattle.std.proofs.Common.{Err}
use Rattle.opening.specs.declared.Opened.{Opened}
use Rattle.opening.specs.declared.NotOpened.TheVariants.{TooLong, NoRoom}

-- without a data part there is nothing
pub part_none : (m : Mode) (n : ℕ) → part_right m false n ≡ eqb n 0
unfolding part_right
part_none Plain n = refl
part_none Mac n = refl
part_none Full n = refl

-- a right length says what it holds
pub right-part : (m : Mode) (t : Bool) (h n : ℕ) → length_right m t h n ≡ true → part_right m t (n - mac_length m - h) ≡ true
unfolding length_right
right-part m t h n e = and_right (leb (h + mac_length m) n) (part_right m t (n - mac_length m - h)) e

pub right_long : (m : Mode) (t : Bool) (h n : ℕ) → length_right m t h n ≡ true → h + mac_length m ≤ n
unfolding length_right
right_long m t h n e = leb-true (h + mac_length m) n (and_left (leb (h + mac_length m) n) (part_right m t (n - mac_length m - h)) e)

-- the MAC of a command in MAC or in Full
abbrev pub tag_right : Session → ℕ → List ℕ → Bool
tag_right s cmd x = same (drop (length x - 8) x) (message_mac s cmd (take (length x - 8) x))

pub checked-mac : (s : Session) (cmd : ℕ) (x : List ℕ) (h : ℕ) (t : Bool) → tag_right s cmd x ≡ true
    → checked Mac s cmd x h t ≡ plain (drop h (take (length x - 8) x))
unfolding checked mac_right content
checked-mac s cmd x h t e = rw e refl

pub checked_full : (s : Session) (cmd : ℕ) (x : List ℕ) (h : ℕ) (t : Bool) → tag_right s cmd x ≡ true
    → checked Full s cmd x h t ≡ content Full s (command_iv s) t (drop h (take (length x - 8) x))
unfolding checked mac_right
checked_full s cmd x h t e = rw e refl

pub mac_wrong : (s : Session) (cmd : ℕ) (x : List ℕ) (h : ℕ) (t : Bool) → tag_right s cmd x ≡ false → checked Mac s cmd x h t ≡ wrong_mac
unfolding checked mac_right
mac_wrong s cmd x h t e = rw e refl

pub full_wrong : (s : Session) (cmd : ℕ) (x : List ℕ) (h : ℕ) (t : Bool) → tag_right s cmd x ≡ false → checked Full s cmd x h t ≡ wrong_mac
unfolding checked mac_right
full_wrong s cmd x h t e = rw e refl

-- ---- and what each costs: the MAC, and in Full behind a right one the part
pub cost-mac : (s : Session) (cmd : ℕ) (x : List ℕ) (h : ℕ) (t b : Bool) → tag_right s cmd x ≡ b → message_mac_cost (length x - 8) ≡ checked_cost Mac s cmd x h t
unfolding checked_cost mac_right part_cost signed_cost
cost-mac s cmd x h t true e = rw e (omega arith)
cost-mac s cmd x h t false e = rw e (omega arith)

pub cost_full : (s : Session) (cmd : ℕ) (x : List ℕ) (h : ℕ) (t : Bool) → tag_right s cmd x ≡ true
    → message_mac_cost (length x - 8) + part_cost Full t (length x - 8 - h) ≡ checked_cost Full s cmd x h t
unfolding checked_cost mac_right signed_cost
cost_full s cmd x h t e = rw e refl

pub cost_full_wrong : (s : Session) (cmd : ℕ) (x : List ℕ) (h : ℕ) (t : Bool) → tag_right s cmd x ≡ false
    → message_mac_cost (length x - 8) ≡ checked_cost Full s cmd x h t
unfolding checked_cost mac_right signed_cost
cost_full_wrong s cmd x h t e = rw e (omega arith)

pub cost_none : (s : Session) (cmd : ℕ) (x : List ℕ) (h : ℕ) → tag_right s cmd x ≡ true → message_mac_cost (length x - 8) ≡ checked_cost Full s cmd x h false
unfolding checked_cost mac_right part_cost signed_cost
cost_none s cmd x h e = rw e (omega arith)

pub cost-plain : (s : Session) (cmd : ℕ) (x : List ℕ) (h : ℕ) (t : Bool) → 0 ≡ checked_cost Plain s cmd x h t
unfolding checked_cost mac_right part_cost signed_cost
cost-plain s cmd x h t = refl

pub content_none : (s : Session) (v p : List ℕ) → content Full s v false p ≡ plain p
unfolding content
content_none s v p = refl

-- ---- in MAC and in Full alike: a wrong MAC, and a part that is not encrypted
pub signed_wrong : (s : Session) (m : Mode) (cmd : ℕ) (x : List ℕ) (h : ℕ) (t : Bool) → mac_length m ≡ 8 → tag_right s cmd x ≡ false
    → checked m s cmd x h t ≡ wrong_mac
signed_wrong s Plain cmd x h t l e = absurd (omega arith)
signed_wrong s Mac cmd x h t l e = mac_wrong s cmd x h t e
signed_wrong s Full cmd x h t l e = full_wrong s cmd x h t e

pub signed_wrong_cost : (s : Session) (m : Mode) (cmd : ℕ) (x : List ℕ) (h : ℕ) (t : Bool) → mac_length m ≡ 8 → tag_right s cmd x ≡ false
    → message_mac_cost (length x - 8) ≡ checked_cost m s cmd x h t
signed_wrong_cost s Plain cmd x h t l e = absurd (omega arith)
signed_wrong_cost s Mac cmd x h t l e = cost-mac s cmd x h t false e
signed_wrong_cost s Full cmd x h t l e = cost_full_wrong s cmd x h t e

pub signed_given : (s : Session) (m : Mode) (cmd : ℕ) (x : List ℕ) (h : ℕ) (t : Bool) → mac_length m ≡ 8 → (m ≡ Full → t ≡ false)
    → tag_right s cmd x ≡ true → plain (drop h (take (length x - 8) x)) ≡ checked m s cmd x h t
signed_given s Plain cmd x h t l f e = absurd (omega arith)
signed_given s Mac cmd x h t l f e = sym (checked-mac s cmd x h t e)
signed_given s Full cmd x h t l f e = rw (f refl) (sym (checked_full s cmd x h false e ∙ content_none s (command_iv s) _))

pub signed_given_cost : (s : Session) (m : Mode) (cmd : ℕ) (x : List ℕ) (h : ℕ) (t : Bool) → mac_length m ≡ 8 → (m ≡ Full → t ≡ false)
    → tag_right s cmd x ≡ true → message_mac_cost (length x - 8) ≡ checked_cost m s cmd x h t
signed_given_cost s Plain cmd x h t l f e = absurd (omega arith)
signed_given_cost s Mac cmd x h t l f e = cost-mac s cmd x h t true e
signed_given_cost s Full cmd x h t l f e = rw (f refl) (cost_none s cmd x h e)

-- what was opened, told otherwise
pub into_as : {o u : Opening} {n k : ℕ} {old new : List ℕ} {r : Opened} → OpensInto o n old r new → o ≡ u → n ≡ k → OpensInto u k old r new
into_as {old = old} h e f = record { answer = h.answer ∙ ap told e; room = h.room ∙ ap (left old) e; cost = h.cost ∙ f }

-- what opens where nothing is refused before
pub into_opens : {x old new : List ℕ} {o : Opening} {n : ℕ} {r : Opened} → length x ≤ 255 → length x ≤ length old → OpensInto o n old r new
    → Opens x o n old r new
unfolding answers leaves costs
into_opens {x} {old} {new} {o} {n} {r} f g h =
    let a = le-ltb 255 (length x) f in
    let b = le-ltb (length old) (length x) g in
    record { answer = h.answer ∙ rw (a, b) refl; room = h.room ∙ rw (a, b) refl; cost = h.cost ∙ rw (a, b) refl }

pub opening-right : (s : Session) (m : Mode) (cmd : ℕ) (x : List ℕ) (h : ℕ) (t : Bool) → length_right m t h (length x) ≡ true
    → opening s m cmd x h t ≡ checked m s cmd x h t
unfolding opening
opening-right s m cmd x h t e = rw e refl

pub opening-right-cost : (s : Session) (m : Mode) (cmd : ℕ) (x : List ℕ) (h : ℕ) (t : Bool) → length_right m t h (length x) ≡ true
    → opening_cost s m cmd x h t ≡ checked_cost m s cmd x h t
unfolding opening_cost
opening-right-cost s m cmd x h t e = rw e refl

pub opening_wrong : (s : Session) (m : Mode) (cmd : ℕ) (x : List ℕ) (h : ℕ) (t : Bool) → length_right m t h (length x) ≡ false
    → opening s m cmd x h t ≡ wrong_length
unfolding opening
opening_wrong s m cmd x h t e = rw e refl

pub opening_wrong_cost : (s : Session) (m : Mode) (cmd : ℕ) (x : List ℕ) (h : ℕ) (t : Bool) → length_right m t h (length x) ≡ false
    → 0 ≡ opening_cost s m cmd x h t
unfolding opening_cost
opening_wrong_cost s m cmd x h t e = rw e refl

pub checked-plain : (s : Session) (cmd : ℕ) (x : List ℕ) (h : ℕ) (t : Bool) → checked Plain s cmd x h t ≡ plain (drop h x)
unfolding checked mac_right content
checked-plain s cmd x h t =
    let e : length x - 0 ≡ length x = omega arith in
    ap (λ n. plain (drop h (take n x))) e ∙ ap (λ l. plain (drop h l)) (take-length x)

-- the vector under the session's round keys
pub command_under : (s : Session) (w : List (List ℕ)) → w ≡ key_expansion s.enc → command_vector w s ≡ command_iv s
unfolding command_iv
command_under s w e = ap (λ k. command_vector k s) e

-- an encrypted part
pub hidden_content : (s : Session) (p q : List ℕ) → q ≡ cbc_back (key_expansion s.enc) (command_iv s) p
    → text_of q (unpad q) ≡ content Full s (command_iv s) true p
unfolding content
hidden_content s p q e = rw e refl

-- what a right length in Full says of the part
pub full_blocks : (n : ℕ) → part_right Full true n ≡ true → blocks n ≡ true
unfolding part_right
full_blocks n e = e

-- what is refused before that
module _ (x old : List ℕ) (o : Opening) (n : ℕ) where
  pub opens_long : 255 < length x → Opens x o n old (opened_for (Err TooLong) 0) old
  unfolding answers leaves costs
  opens_long f = let a = lt-ltb 255 (length x) f in record { answer = rw a refl; room = rw a refl; cost = rw a refl }

  pub opens_no_room : length x ≤ 255 → length old < length x → Opens x o n old (opened_for (Err NoRoom) 0) old
  unfolding answers leaves costs
  opens_no_room f g =
      let a = le-ltb 255 (length x) f in
      let b = lt-ltb (length old) (length x) g in
      record { answer = rw (a, b) refl; room = rw (a, b) refl; cost = rw (a, b) refl }

-- ---- at most 33 blocks for a message of at most 255 bytes, none in Plain, and two without a data part, where the header has at most 8 bytes
checked_few : (m : Mode) (s : Session) (cmd : ℕ) (x : List ℕ) (h : ℕ) (t b : Bool)
    → mac_right m s cmd (take (length x - mac_length m) x) (drop (length x - mac_length m) x) ≡ b → length x ≤ 255 → checked_cost m s cmd x h t ≤ 33
unfolding checked_cost
checked_few Plain s cmd x h t b e f = omega (arith, cost-plain s cmd x h t)
checked_few Mac s cmd x h t true e f =
    let n = length x - 8 in rw e (omega (arith, signed_few Mac n, part_few Mac t (n - h)))
checked_few Mac s cmd x h t false e f = rw e (omega (arith, signed_few Mac (length x - 8)))
checked_few Full s cmd x h t true e f =
    let n = length x - 8 in rw e (omega (arith, signed_few Full n, part_few Full t (n - h)))
checked_few Full s cmd x h t false e f = rw e (omega (arith, signed_few Full (length x - 8)))

opening_by : (s : Session) (m : Mode) (cmd : ℕ) (x : List ℕ) (h : ℕ) (t b : Bool) → length_right m t h (length x) ≡ b → length x ≤ 255
    → opening_cost s m cmd x h t ≤ 33
opening_by s m cmd x h t true e f = omega (arith, opening-right-cost s m cmd x h t e, checked_few m s cmd x h t _ refl f)
opening_by s m cmd x h t false e f = omega (arith, opening_wrong_cost s m cmd x h t e)

pub opening_few : (s : Session) (m : Mode) (cmd : ℕ) (x : List ℕ) (h : ℕ) (t : Bool) → length x ≤ 255 → opening_cost s m cmd x h t ≤ 33
opening_few s m cmd x h t f = opening_by s m cmd x h t _ refl f

plain_by : (s : Session) (cmd : ℕ) (x : List ℕ) (h : ℕ) (t b : Bool) → length_right Plain t h (length x) ≡ b → opening_cost s Plain cmd x h t ≡ 0
plain_by s cmd x h t true e = opening-right-cost s Plain cmd x h t e ∙ sym (cost-plain s cmd x h t)
plain_by s cmd x h t false e = sym (opening_wrong_cost s Plain cmd x h t e)

pub opening-plain : (s : Session) (cmd : ℕ) (x : List ℕ) (h : ℕ) (t : Bool) → opening_cost s Plain cmd x h t ≡ 0
opening-plain s cmd x h t = plain_by s cmd x h t _ refl

checked_bare : (m : Mode) (s : Session) (cmd : ℕ) (x : List ℕ) (h : ℕ) (b : Bool)
    → mac_right m s cmd (take (length x - mac_length m) x) (drop (length x - mac_length m) x) ≡ b → h ≤ 8 → length x - mac_length m - h ≡ 0
    → checked_cost m s cmd x h false ≤ 2
unfolding checked_cost part_cost
checked_bare Plain s cmd x h b e f g = omega (arith, cost-plain s cmd x h false)
checked_bare Mac s cmd x h true e f g = rw e (omega (arith, signed_few Mac (length x - 8)))
checked_bare Mac s cmd x h false e f g = rw e (omega (arith, signed_few Mac (length x - 8)))
checked_bare Full s cmd x h true e f g = rw e (omega (arith, signed_few Full (length x - 8)))
checked_bare Full s cmd x h false e f g = rw e (omega (arith, signed_few Full (length x - 8)))

bare_by : (s : Session) (m : Mode) (cmd : ℕ) (x : List ℕ) (h : ℕ) (b : Bool) → length_right m false h (length x) ≡ b → h ≤ 8
    → opening_cost s m cmd x h false ≤ 2
bare_by s m cmd x h true e f =
    let z = eqb-true _ _ (sym (part_none m (length x - mac_length m - h)) ∙ right-part m false h (length x) e) in
    omega (arith, opening-right-cost s m cmd x h false e, checked_bare m s cmd x h _ refl f z)
bare_by s m cmd x h false e f = omega (arith, opening_wrong_cost s m cmd x h false e)

pub opening_bare : (s : Session) (m : Mode) (cmd : ℕ) (x : List ℕ) (h : ℕ) → h ≤ 8 → opening_cost s m cmd x h false ≤ 2
opening_bare s m cmd x h f = bare_by s m cmd x h _ refl f
