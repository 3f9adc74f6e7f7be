-- Laws of a kept tag: what a run starts from.
use mathlib.Core.Path.{◌≡◌, refl, sym, ap, ap₂, ◌∙◌}
use mathlib.Core.Bool.{Bool, true, false}
use mathlib.Core.List.{List}
use Prim.Native.Nat.{ℕ}
use native.Mathlib.Omega.{arith}
use lib.Dec.{eqb}
use lib.ListN.{length}
use borrow.Author.Tests.{eqb-true, ne_eqb}
use Rattle.std.specs.Prelude.{Result, Ok, Err, IsErrAnd}
use Rattle.base.specs.Decide.{pick}
use Rattle.base.specs.Bytes.{byte_at, same}
use Rattle.base.proofs.Bytes.{and_left}
use Rattle.state.specs.declared.Tag.{Tag}
use Rattle.soundness.specs.Sound.{sound_tag}
use Rattle.delivery.specs.Fresh.{blank}
use Rattle.image.specs.declared.NotRead.{NotRead}
use Rattle.image.specs.declared.NoImage.TheVariants.{WrongLength, WrongVersion, NotABoolean}
use Rattle.image.specs.Image.{image_version, tag_in}
use Rattle.image.specs.Answers.{bits_at, booleans, right_length, refused_as, read_in}
use Rattle.keeping.specs.declared.NotKept.{NotKept}
use Rattle.keeping.specs.declared.NoStart.TheVariants.{Unsound, OtherUid, EarlierVersion}
use Rattle.keeping.specs.Keep.{reason_number, start_number, earlier, not_kept, start_by, kept_by, kept_in, kept_case, Keeps}

-- what a run starts from, by number
judged-number : (sound mine : Bool) (t : Tag)
    → start_number (pick sound (pick mine (Ok t) (Err (not_kept OtherUid t))) (Err (not_kept Unsound t))) ≡ pick sound (pick mine 0 5) 4
unfolding start_number reason_number
judged-number true true t = refl
judged-number true false t = refl
judged-number false mine t = refl

kept_by_lem : (long version bits old : Bool) (t : Tag) (uid : List ℕ)
    → start_number (kept_by (pick long (pick version (pick bits (Ok t) (refused_as NotABoolean)) (refused_as WrongVersion)) (refused_as WrongLength)) old uid)
    ≡ pick long (pick version (pick bits (pick (sound_tag t) (pick (same uid t.uid) 0 5) 4) 3) 2) (pick old 8 1)
unfolding kept_by start_by start_number reason_number
kept_by_lem true true true old t uid = judged-number (sound_tag t) (same uid t.uid) t
kept_by_lem true true false old t uid = refl
kept_by_lem true false bits old t uid = refl
kept_by_lem false version bits true t uid = refl
kept_by_lem false version bits false t uid = refl

kept_number : (s uid : List ℕ) → start_number (kept_in s uid) ≡ kept_case s uid
unfolding kept_in kept_case read_in
kept_number s uid = kept_by_lem (right_length s) (eqb (byte_at s 0) image_version) (bits_at s booleans) (earlier s) (tag_in s) uid

-- what was read, judged
pub keeps : (s uid : List ℕ) (f : Result Tag NotRead) (o : Bool) (r : Result Tag NotKept) → f ≡ read_in s → o ≡ earlier s → r ≡ kept_by f o uid → Keeps s uid r
unfolding kept_in
keeps s uid f o r h e p =
    let k : r ≡ kept_in s uid = p ∙ ap₂ (λ x y. kept_by x y uid) h e in
    record { number = ap start_number k ∙ kept_number s uid; told = k }

-- an image of version 1 has another length
earlier_length : (s : List ℕ) → earlier s ≡ true → refused_as WrongLength ≡ read_in s
unfolding earlier read_in right_length
earlier_length s e =
    let l : length s ≡ 672 = eqb-true (length s) 672 (and_left _ _ e) in
    rw (ne_eqb (length s) 684 (λ k. omega arith)) refl

pub keeps_earlier : (s uid : List ℕ) (r : Result Tag NotKept) → earlier s ≡ true → r ≡ Err (not_kept EarlierVersion blank) → Keeps s uid r
unfolding kept_by start_by
keeps_earlier s uid r e p = keeps s uid (refused_as WrongLength) true r (earlier_length s e) (sym e) p

-- no state, and why
pub keeps_none : (s uid : List ℕ) (e : NotRead) (r : Result Tag NotKept) → false ≡ earlier s → Err e ≡ read_in s
    → IsErrAnd r (λ x. x ≡ not_kept (start_by e.why false) e.beside) → Keeps s uid r
unfolding kept_by
keeps_none s uid e (Ok t) o h p = absurd p
keeps_none s uid e (Err x) o h p = keeps s uid (Err e) false _ h o (ap (λ y. Err y) p)

-- a whole image, judged
module _ (s uid : List ℕ) (t : Tag) (o : false ≡ earlier s) (h : Ok t ≡ read_in s) where
  pub keeps_unsound : (r : Result Tag NotKept) → sound_tag t ≡ false → r ≡ Err (not_kept Unsound t) → Keeps s uid r
  unfolding kept_by
  keeps_unsound r e p = keeps s uid (Ok t) false r h o (rw e p)

  pub keeps_other : (r : Result Tag NotKept) → sound_tag t ≡ true → same uid t.uid ≡ false → r ≡ Err (not_kept OtherUid t) → Keeps s uid r
  unfolding kept_by
  keeps_other r e m p = keeps s uid (Ok t) false r h o (rw (e, m) p)

  pub keeps_tag : sound_tag t ≡ true → same uid t.uid ≡ true → Keeps s uid (Ok t)
  unfolding kept_by
  keeps_tag e m = keeps s uid (Ok t) false _ h o (rw (e, m) refl)
