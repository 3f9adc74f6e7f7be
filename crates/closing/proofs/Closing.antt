-- Closing a reply, step by step.
use mathlib.Core.Bool.{true, false}
use mathlib.Core.Path.{◌≡◌, refl, sym, ap, ap₂, ◌∙◌}
use mathlib.Core.List.{List, ◌++◌}
use mathlib.Core.Logic.{⊎_elim}
use Prim.Native.Nat.{ℕ, ◌+◌, ◌-◌, ◌*◌, ◌/◌, ◌≤◌, ◌<◌}
use native.Mathlib.Omega.{arith}
use lib.ListN.{length, take, drop}
use lib.Seq.{length-take-le, take_at, drop_at}
use borrow.Author.Tests.{le-leb, le-ltb, lt-ltb, ltb-false}
use Rattle.base.specs.Bytes.{over}
use Rattle.base.proofs.Bytes.{Holds, front, le_or_lt}
use Rattle.cbc.specs.Cbc.{Chains, cbc_out, cbc_cost}
use Rattle.key_expansion.specs.Keys.{key_expansion}
use Rattle.cbc.specs.declared.Ragged.{Ragged}
use Rattle.padding.specs.Padding.{padded, padded_length, padding, padded_in, Pads}
use Rattle.messaging.specs.Protect.{message_mac, message_mac_cost, sent, signed, reply_vector, reply_iv, part_cost, signed_cost, vector_cost}
use Rattle.messaging.proofs.Costs.{part_few, signed_few}
use Rattle.closing.specs.Reply.{filled, closed, hidden_length, closed_length, overlong, closed_cost, closed_reply, closing, closing_cost, closed_in, Seals, Closes}
use Rattle.messaging.specs.declared.Session.{Session}
use Rattle.messaging.specs.declared.Mode.{Mode}
use Rattle.messaging.specs.declared.Mode.TheVariants.{Plain, Mac, Full}
use Rattle.closing.specs.declared.NotClosed.TheVariants.{TooLong, NoRoom}
use Rattle.std.proofs.Common.{Option, Some, Result, Ok, Err}
use Rattle.base.proofs.Pieces.{over-over}
use Rattle.cbc.proofs.Turns.{chains_whole}
use Rattle.padding.proofs.Unpadding.{padded-length}

pub hidden_some : (n : ℕ) → 1 ≤ n → hidden_length n ≡ n / 16 * 16 + 16
unfolding hidden_length padded_length
hidden_some n h = rw (le-leb 1 n h) refl

pub hidden_none : (n : ℕ) → n ≡ 0 → hidden_length n ≡ 0
unfolding hidden_length
hidden_none n e = rw e refl

-- closing shortens nothing
pub closed_long : (m : Mode) (n : ℕ) → n ≤ closed_length m n
unfolding closed_length
closed_long Plain n = omega arith
closed_long Mac n = omega arith
closed_long Full n = ⊎_elim (λ h. omega (arith, hidden_some n h)) (λ h. omega arith) (le_or_lt 1 n)

pub short : (m : Mode) (n : ℕ) → overlong m n ≡ false → closed_length m n ≤ 256
unfolding overlong
short m n e = ltb-false 256 (closed_length m n) e

-- ---- the part
-- the vector under the session's round keys
pub reply_under : (s : Session) (w : List (List ℕ)) → w ≡ key_expansion s.enc → reply_vector w s ≡ reply_iv s
unfolding reply_iv
reply_under s w e = ap (λ k. reply_vector k s) e

pub seals_none : (s : Session) (v old d : List ℕ) (n : ℕ) → n ≡ 0 → Seals (sent Full s v (filled n) d) (hidden_length n) old 0 old
unfolding sent hidden_length
seals_none s v old d n e = rw e (record { count = refl; len = refl; room = refl })

padded_in_lem : (n : ℕ) (old new : List ℕ) (r : Option ℕ) → n / 16 * 16 + 16 ≤ length old → Pads n old r new
    → Holds (padded (take n old)) old new (n / 16 * 16 + 16)
unfolding padded_in padded_length
padded_in_lem n old new r f h =
    record {
      is = h.left ∙ rw (le-leb (n / 16 * 16 + 16) (length old) f) refl;
      len = sym (padded-length (take n old) ∙ ap (λ k. k / 16 * 16 + 16) (length-take-le n old (omega arith)));
    }

pub pads_to : {n : ℕ} {old new : List ℕ} {r : Option ℕ} → Pads n old r new → 1 ≤ n → hidden_length n ≤ length old → r ≡ Some (n / 16 * 16 + 16)
unfolding padding padded_length
pads_to {n} {old} h f g = h.told ∙ rw (le-leb (n / 16 * 16 + 16) (length old) (omega (arith, hidden_some n f))) refl

-- the bytes at the front of a room, padded, then encrypted in place
pub seals_some : (s : Session) (iv old mid new : List ℕ) (w : List (List ℕ)) (n e : ℕ) (r : Option ℕ) (q : Result ℕ Ragged) → 1 ≤ n
    → n / 16 * 16 + 16 ≤ length old → Pads n old r mid → w ≡ key_expansion s.enc → iv ≡ reply_iv s → e ≡ n / 16 * 16 + 16
    → Chains (cbc_out w iv) (take e mid) q new → length new ≡ e
    → Seals (sent Full s (reply_iv s) (filled n) (take n old)) (hidden_length n) old e (new ++ drop e mid)
unfolding sent
seals_some s iv old mid new w n e r q g f p a b u c l =
    let d = padded (take n old) in
    let h : Holds d old mid e = rw u (padded_in_lem n old mid r f p) in
    let i : take e mid ≡ d = front h in
    let j : length (take e mid) ≡ e = ap length i ∙ sym h.len in
    let k : new ≡ cbc_out (key_expansion s.enc) (reply_iv s) d =
    chains_whole c (rw j (omega arith)) ∙ ap₂ (λ x y. cbc_out x y (take e mid)) a b ∙ ap (cbc_out (key_expansion s.enc) (reply_iv s)) i in
    let o : drop e mid ≡ drop e old = ap (drop e) h.is ∙ drop_at d (drop (length d) old) e (sym h.len) ∙ ap (λ y. drop y old) (sym h.len) in
    rw (le-leb 1 n g)
    (record {
      count = u ∙ sym (hidden_some n g);
      len = hidden_some n g ∙ sym u ∙ sym l ∙ ap length k;
      room = ap₂ (λ x y. x ++ y) k o ∙ ap (λ y. cbc_out (key_expansion s.enc) (reply_iv s) d ++ drop y old) (sym l ∙ ap length k);
    })

-- ---- the MAC
pub seals : {p old b : List ℕ} {i : ℕ} → Holds p old b i → Seals p i old i b
seals h = record { count = refl; len = h.len; room = h.is }

-- the MAC behind what was sealed
pub seals_signed : (g : List ℕ → List ℕ) (p old mid new : List ℕ) (k e r : ℕ) → Seals p k old e mid
    → Seals (take e mid ++ g (take e mid)) (e + 8) mid r new → Seals (p ++ g p) (k + 8) old r new
seals_signed g p old mid new k e r h f =
    let i : take e mid ≡ p = ap (take e) h.room ∙ take_at p (drop (length p) old) e (sym (h.count ∙ h.len)) in
    record {
      count = f.count ∙ ap (λ y. y + 8) h.count;
      len = ap (λ y. y + 8) (sym h.count) ∙ f.len ∙ ap (λ y. length (y ++ g y)) i;
      room = f.room ∙ ap₂ (λ y z. over (y ++ g y) z) i h.room ∙ over-over p (g p) old;
    }

-- ---- the whole
module _ (s : Session) (m : Mode) (code n : ℕ) (old : List ℕ) where
  pub closes_over : overlong m n ≡ true → Closes s m code n old (Err TooLong) old
  unfolding closing closed_in closing_cost
  closes_over e = record { answer = rw e refl; cost = rw e refl; room = rw e refl }

  pub closes_small : overlong m n ≡ false → length old < closed_length m n → Closes s m code n old (Err NoRoom) old
  unfolding closing closed_in closing_cost
  closes_small e f =
      let g = lt-ltb (length old) (closed_length m n) f in
      record { answer = rw (e, g) refl; cost = rw (e, g) refl; room = rw (e, g) refl }

  pub closes : (r k : ℕ) (new : List ℕ) → overlong m n ≡ false → closed_length m n ≤ length old
      → Seals (closed s m code (take n old)) (closed_length m n) old r new → k ≡ closed_cost m n → Closes s m code n old (Ok (closed_reply r k)) new
  unfolding closing closed_in closing_cost
  closes r k new e f h c =
      let g = le-ltb (length old) (closed_length m n) f in
      record { answer = rw (e, g) (ap₂ (λ x y. Ok (closed_reply x y)) h.count c); cost = rw (e, g) c; room = rw (e, g) h.room }

-- what is closed, in each mode
pub closed-plain : (s : Session) (code : ℕ) (d : List ℕ) → closed s Plain code d ≡ d
unfolding closed signed sent
closed-plain s code d = refl

pub closed-mac : (s : Session) (code : ℕ) (d : List ℕ) → closed s Mac code d ≡ d ++ message_mac s code d
unfolding closed signed sent
closed-mac s code d = refl

pub closed_full : (s : Session) (code n : ℕ) (d : List ℕ) → length d ≡ n
    → closed s Full code d ≡ sent Full s (reply_iv s) (filled n) d ++ message_mac s code (sent Full s (reply_iv s) (filled n) d)
unfolding closed signed
closed_full s code n d e = rw e refl

-- ---- what it costs, in each mode
pub cost-plain : (n : ℕ) → 0 ≡ closed_cost Plain n
unfolding closed_cost part_cost signed_cost
cost-plain n = refl

pub cost-mac : (n : ℕ) → message_mac_cost n ≡ closed_cost Mac n
unfolding closed_cost closed_length part_cost signed_cost
cost-mac n =
    let e : n ≡ n + 8 - 8 = omega arith in
    let f = ap message_mac_cost e in omega (arith, f)

pub cost_full : (n : ℕ) → part_cost Full (filled n) (hidden_length n) + message_mac_cost (hidden_length n) ≡ closed_cost Full n
unfolding closed_cost closed_length signed_cost
cost_full n =
    let e : hidden_length n ≡ hidden_length n + 8 - 8 = omega arith in
    ap (λ k. part_cost Full (filled n) k + message_mac_cost k) e

-- the part alone
pub hidden_cost_lem : (n k v c : ℕ) → 1 ≤ n → k ≡ n / 16 * 16 + 16 → v ≡ vector_cost → c ≡ cbc_cost k → v + c ≡ part_cost Full (filled n) (hidden_length n)
unfolding part_cost
hidden_cost_lem n k v c h e f g = rw (le-leb 1 n h, hidden_some n h) (ap₂ (λ x y. x + y) f (g ∙ ap cbc_cost e))

-- at most 33 blocks for a reply of at most 256 bytes, and two where it has no data
pub closed_few : (m : Mode) (n : ℕ) → closed_length m n ≤ 256 → closed_cost m n ≤ 33
unfolding closed_cost closed_length
closed_few Plain n h = omega (arith, cost-plain n)
closed_few Mac n h = omega (arith, part_few Mac (filled n) (n + 8 - 8), signed_few Mac (n + 8 - 8))
closed_few Full n h =
    let k = hidden_length n + 8 - 8 in
    omega (arith, part_few Full (filled n) k, signed_few Full k)

pub closed-empty : (m : Mode) → closed_cost m 0 ≤ 2
unfolding closed_cost closed_length hidden_length part_cost
closed-empty Plain = omega (arith, cost-plain 0)
closed-empty Mac = omega (arith, signed_few Mac 0)
closed-empty Full = omega (arith, signed_few Full 0)
