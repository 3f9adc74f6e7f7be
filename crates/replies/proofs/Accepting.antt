-- An accepted command's reply, told by what closing it answers.
use mathlib.Core.Path.{◌≡◌, refl, sym, ap, ap₂, ◌∙◌}
use mathlib.Core.Bool.{Bool, true, false}
use mathlib.Core.List.{List, []}
use mathlib.Core.Logic.{◌⊎◌, inl, inr, ⊎_elim}
use Prim.Native.Nat.{ℕ, min, ◌≤◌}
use native.Mathlib.Omega.{arith}
use lib.Dec.{ltb}
use Rattle.std.proofs.Common.{Result, Ok, Err}
use lib.ListN.{length, take, drop}
use lib.Seq.{length-take-le, take_at}
use borrow.Author.Tests.{ltb-true}
use Rattle.base.specs.Decide.{pick}
use Rattle.base.specs.Bytes.{AllBytes, over}
use Rattle.base.proofs.Bytes.{take-bytes}
use Rattle.closing.specs.Reply.{closed, closed_length, closed_cost, overlong, closing, closed_in, Closes, closed_status}
use Rattle.messaging.specs.declared.Mode.{Mode}
use Rattle.messaging.specs.declared.Session.{Session}
use Rattle.closing.specs.declared.Closed.{Closed}
use Rattle.closing.specs.declared.NotClosed.{NotClosed}
use Rattle.closing.specs.declared.NotClosed.TheVariants.{TooLong, NoRoom}
use Rattle.closing.proofs.Closing.{short}
use Rattle.both_ends.proofs.Messages.{closed-length}
use Rattle.state.specs.State.{talking, session_of}
use Rattle.state.specs.declared.Tag.{Tag}
use Rattle.replies.specs.Answer.{given_for, refusal, raised, afterwards, accepted}
use Rattle.replies.proofs.Given.{cut_given}

-- ---- what closing's answer says of its two questions
record Replied (o : Bool) (r c : Closed) (now new : List ℕ) : Type 0 where
  fits : o ≡ false
  is : r ≡ c
  room : now ≡ new

reply-told : (o q : Bool) (r c : Closed) (old p new : List ℕ) → Ok r ≡ pick o (Err TooLong) (pick q (Err NoRoom) (Ok c))
    → new ≡ pick o old (pick q old p) → Replied o r c new p
reply-told true q r c old p new e f = let z : ◌≡◌ {A = ℕ} 0 1 = cc in absurd (omega arith)
reply-told false true r c old p new e f = let z : ◌≡◌ {A = ℕ} 0 1 = cc in absurd (omega arith)
reply-told false false r c old p new e f = record { fits = refl; is = cc; room = f }

not_told : (o q : Bool) (c : Closed) (n : NotClosed) → Err n ≡ pick o (Err TooLong) (pick q (Err NoRoom) (Ok c)) → (o ≡ true) ⊎ ((o ≡ false) × (q ≡ true))
not_told true q c n e = inl refl
not_told false true c n e = inr (refl, refl)
not_told false false c n e = let z : ◌≡◌ {A = ℕ} 0 1 = cc in absurd (omega arith)

-- ---- the answer
accepted-over : (t : Tag) (m : Mode) (d : List ℕ) → overlong m (length d) ≡ true → accepted t m d ≡ refusal t 0x917E
unfolding accepted closed_status
accepted-over t m d e = rw e refl

accepted-short : (t : Tag) (m : Mode) (d : List ℕ) → overlong m (length d) ≡ false
    → accepted t m d ≡ given_for (closed_cost m (length d)) (afterwards t) 0x9100 (closed (session_of (raised t.live)) m 0 d)
unfolding accepted
accepted-short t m d e = rw e refl

-- a closed reply has at most 256 bytes
pub reply_short : (m : Mode) (k : ℕ) (old : List ℕ) (r : Closed) → Ok r ≡ closing m k old → r.length ≤ 256
unfolding closing
reply_short m k old r e =
    let q = ltb (length old) (closed_length m k) in
    let w = reply-told (overlong m k) q r _ old [] _ e refl in
    omega (arith, short m k w.fits, ap (λ (y : Closed). y.length) w.is)

-- the first n bytes of a room, at most 256, closed there
module _ (t : Tag) (m : Mode) (s : Session) (old new : List ℕ) (n k : ℕ) (x : Result Closed NotClosed) (l : length old ≡ 258) (f : k ≡ min n 256)
    (c : Closes s m 0 k old x new) where
  front_length : length (take k old) ≡ k
  front_length = length-take-le k old (omega arith)

  part : take k old ≡ take 256 (take n old)
  part = ap (λ y. take y old) f ∙ cut_given n old

  -- a reply that is too long is refused, and the room is large enough for any other
  pub accepts_not : (e : NotClosed) → x ≡ Err e → refusal t 0x917E ≡ accepted t m (take 256 (take n old))
  unfolding closing
  accepts_not e h =
      ⊎_elim (λ o. sym (accepted-over t m (take k old) (ap (overlong m) front_length ∙ o)) ∙ ap (accepted t m) part)
      (λ o. absurd (omega (arith, l, short m k o.0, ltb-true (length old) (closed_length m k) o.1)))
      (not_told (overlong m k) (ltb (length old) (closed_length m k)) _ e (sym h ∙ c.answer))

  pub accepts-reply : (u : Tag) (r : Closed) → x ≡ Ok r → length s.enc ≡ 16 → AllBytes s.enc → AllBytes old → u ≡ afterwards t
      → s ≡ session_of u.live → given_for r.cost u 0x9100 (take r.length new) ≡ accepted t m (take 256 (take n old))
  unfolding closing closed_in afterwards talking
  accepts-reply u r e a b h g i =
      let d = take k old in
      let w = reply-told (overlong m k) (ltb (length old) (closed_length m k)) r _ old (over (closed s m 0 d) old) new (sym e ∙ c.answer) c.room in
      let j : s ≡ session_of (raised t.live) = i ∙ ap (λ (y : Tag). session_of y.live) g in
      let q : length (closed s m 0 d) ≡ r.length =
      closed-length s m 0 d a b (take-bytes k old h) ∙ ap (closed_length m) front_length ∙ sym (ap (λ (y : Closed). y.length) w.is) in
      ap₂ (λ y z. given_for r.cost y 0x9100 z) g
      (ap (take r.length) w.room ∙ take_at (closed s m 0 d) (drop (length (closed s m 0 d)) old) r.length q ∙ ap (λ y. closed y m 0 d) j)
      ∙ ap (λ y. given_for y (afterwards t) 0x9100 (closed (session_of (raised t.live)) m 0 d))
      (ap (λ (y : Closed). y.cost) w.is ∙ ap (closed_cost m) (sym front_length))
      ∙ sym (accepted-short t m d (ap (overlong m) front_length ∙ w.fits))
      ∙ ap (accepted t m) part
