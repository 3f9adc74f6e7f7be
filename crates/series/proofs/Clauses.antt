-- The clauses of soundness over plain truth values.
use mathlib.Core.Path.{◌≡◌, refl, sym, ◌∙◌, ap}
use mathlib.Core.Bool.{Bool, true, false, not}
use mathlib.Core.List.{List}
use Prim.Native.Nat.{ℕ}
use lib.Dec.{eqb, leb}
use Rattle.base.specs.Decide.{or}
use Rattle.base.specs.Bytes.{same}
use Rattle.base.proofs.Bytes.{and_left, and_right}
use Rattle.state.specs.State.{no_padding}
use Rattle.soundness.specs.Sound.{keys_sound, alone_sound, padding_sound, level_sound}
use Rattle.series.proofs.Choices.{not_both, both_true}

-- ---- levels, over plain truth values
pub level-file : (application l p tap : Bool) (file : ℕ) → level_sound application l p tap file ≡ true → leb file 3 ≡ true
unfolding level_sound
level-file application l p tap file e = and_left (leb file 3) _ e

pub level_on : (application l p tap : Bool) (file : ℕ) → application ≡ true → leb file 3 ≡ true → level_sound application l p tap file ≡ true
unfolding level_sound
level_on true l p tap file a e = both_true e refl
level_on false l p tap file a e = absurd (not_both a)

pub level_zero : (application : Bool) → level_sound application false false false 0 ≡ true
unfolding level_sound
level_zero true = refl
level_zero false = refl

-- at PICC level: no session, no pending part, no file
record Bare (l p : Bool) (file : ℕ) : Type 0 where
  small : leb file 3 ≡ true
  live : not l ≡ true
  idle : not p ≡ true
  zero : eqb file 0 ≡ true

at_picc : (l p tap : Bool) (file : ℕ) → level_sound false l p tap file ≡ true → Bare l p file
unfolding level_sound
at_picc l p tap file e =
    let f = and_right (leb file 3) _ e in
    let g = and_right (not l) _ f in
    let h = and_right (not p) _ g in
    record { small = and_left (leb file 3) _ e; live = and_left (not l) _ f; idle = and_left (not p) _ g; zero = and_right (not tap) _ h }

-- with no session, no pending part and no tap
pub level_still : (application l p tap : Bool) (file : ℕ) → level_sound application l p tap file ≡ true
    → level_sound application false false false file ≡ true
unfolding level_sound
level_still true l p tap file e = both_true (and_left (leb file 3) _ e) refl
level_still false l p tap file e = let b = at_picc l p tap file e in both_true b.small b.zero

-- with no tap
pub level_quiet : (application l p tap : Bool) (file : ℕ) → level_sound application l p tap file ≡ true
    → level_sound application l p false file ≡ true
unfolding level_sound
level_quiet true l p tap file e = both_true (and_left (leb file 3) _ e) refl
level_quiet false l p tap file e =
    let b = at_picc l p tap file e in
    both_true b.small (both_true b.live (both_true b.idle b.zero))

-- a session, a pending part or a selected file is in the application
pub level-live : (application l p tap : Bool) (file : ℕ) → level_sound application l p tap file ≡ true → l ≡ true → application ≡ true
unfolding level_sound
level-live true l p tap file e h = refl
level-live false true p tap file e h = absurd (not_both (and_right (leb file 3) _ e))
level-live false false p tap file e h = absurd (not_both h)

pub level-pending : (application l p tap : Bool) (file : ℕ) → level_sound application l p tap file ≡ true → p ≡ true → application ≡ true
unfolding level_sound
level-pending true l p tap file e h = refl
level-pending false l true tap file e h = absurd (not_both (and_right (not l) _ (and_right (leb file 3) _ e)))
level-pending false l false tap file e h = absurd (not_both h)

pub level-selected : (application l p tap : Bool) (file : ℕ) → level_sound application l p tap file ≡ true
    → or application (not (eqb file 0)) ≡ true → application ≡ true
unfolding level_sound
level-selected true l p tap file e h = refl
level-selected false l p tap file e h =
    let z = and_right (not tap) _ (and_right (not p) _ (and_right (not l) _ (and_right (leb file 3) _ e))) in
    absurd (not_both (sym (ap not z) ∙ h))

pub level-either : (application l p tap : Bool) (file : ℕ) → level_sound application l p tap file ≡ true → or application l ≡ true
    → application ≡ true
level-either true l p tap file e h = refl
level-either false l p tap file e h = level-live false l p tap file e h

-- ---- keys and taps
pub keys_live : (l p : Bool) (k q : ℕ) → keys_sound l k p q ≡ true → l ≡ true → leb k 4 ≡ true
unfolding keys_sound
keys_live true p k q e h = and_left (leb k 4) _ e
keys_live false p k q e h = absurd (not_both h)

pub keys_pending : (l p : Bool) (k q : ℕ) → keys_sound l k p q ≡ true → p ≡ true → leb q 4 ≡ true
unfolding keys_sound
keys_pending l true k q e h = and_left (leb q 4) _ (and_right (or (not l) (leb k 4)) _ e)
keys_pending l false k q e h = absurd (not_both h)

pub keys_begun : (p : Bool) (q : ℕ) → leb q 4 ≡ true → keys_sound false 0 p q ≡ true
unfolding keys_sound
keys_begun true q h = both_true h refl
keys_begun false q h = refl

pub keys_entered : (k : ℕ) → leb k 4 ≡ true → keys_sound true k false 0 ≡ true
unfolding keys_sound
keys_entered k h = both_true h refl

pub keys_none : keys_sound false 0 false 0 ≡ true
unfolding keys_sound
keys_none = refl

pub alone_quiet : (l p sdm : Bool) → alone_sound false l p sdm ≡ true
unfolding alone_sound
alone_quiet l p sdm = refl

pub alone_tap : (tap l p sdm : Bool) → l ≡ false → p ≡ false → sdm ≡ true → alone_sound tap l p sdm ≡ true
unfolding alone_sound
alone_tap true l p sdm a b c = both_true (ap not a) (both_true (ap not b) c)
alone_tap false l p sdm a b c = refl

-- ---- the kept padding
pub padding_none : padding_sound false no_padding ≡ true
unfolding padding_sound same
padding_none = refl

pub padding-tap : (tap : Bool) (padding : List ℕ) → tap ≡ true → padding_sound tap padding ≡ true
unfolding padding_sound
padding-tap tap padding e = rw e refl
