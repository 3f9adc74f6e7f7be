-- Reads and taps: no other command reads, and a tap is without a session and with SDM on.
use mathlib.Core.Path.{◌≡◌, refl, sym}
use mathlib.Core.Bool.{Bool, true, false, not}
use mathlib.Core.List.{List, [], ◌∷◌}
use Prim.Native.Nat.{ℕ}
use denote.Enum.Declared.{tag_of}
use types.Run.{OneOf}
use lib.Dec.{eqb}
use Rattle.base.specs.Decide.{and}
use Rattle.base.proofs.Bytes.{and_left, and_right}
use Rattle.fields.specs.declared.Head.{Head}
use Rattle.state.specs.declared.Live.{Live}
use Rattle.order.specs.declared.Name.{Name}
use Rattle.order.specs.declared.Name.TheVariants.{AuthenticateFirst, AuthenticateNonFirst, PartTwo, ChangeKey, GetKeyVersion, GetCardUid}
use Rattle.order.specs.declared.Name.TheVariants.{GetFileSettings, ChangeFileSettings, GetFileCounters, ReadData, WriteData}
use Rattle.order.specs.declared.Name.TheVariants.{IsoSelectFile, IsoReadBinary, IsoUpdateBinary}
use Rattle.order.proofs.Keys.{each}
use Rattle.order.specs.contracts.Name.{the_type}
use Rattle.access.specs.Access.{reads, decided}

-- the places of the commands that do not read, in the list of all
abbrev others : List ℕ
others = 0 ∷ 1 ∷ 2 ∷ 3 ∷ 4 ∷ 5 ∷ 6 ∷ 7 ∷ 8 ∷ 10 ∷ 11 ∷ 13 ∷ []

not_true : (b : Bool) → not b ≡ true → b ≡ false
not_true true e = sym e
not_true false e = refl

-- a command that is neither of the two reads is no read
pub not_read : (n : Name) → (n ≡ ReadData → ⊥) → (n ≡ IsoReadBinary → ⊥) → false ≡ reads n
unfolding reads
not_read AuthenticateFirst a b = refl
not_read AuthenticateNonFirst a b = refl
not_read PartTwo a b = refl
not_read ChangeKey a b = refl
not_read GetKeyVersion a b = refl
not_read GetCardUid a b = refl
not_read GetFileSettings a b = refl
not_read ChangeFileSettings a b = refl
not_read GetFileCounters a b = refl
not_read ReadData a b = absurd (a refl)
not_read WriteData a b = refl
not_read IsoSelectFile a b = refl
not_read IsoReadBinary a b = absurd (b refl)
not_read IsoUpdateBinary a b = refl

pub no_read : (n : Name) → OneOf others (tag_of the_type n) → false ≡ reads n
unfolding reads
no_read AuthenticateFirst h = refl
no_read AuthenticateNonFirst h = refl
no_read PartTwo h = refl
no_read ChangeKey h = refl
no_read GetKeyVersion h = refl
no_read GetCardUid h = refl
no_read GetFileSettings h = refl
no_read ChangeFileSettings h = refl
no_read GetFileCounters h = refl
no_read ReadData h = sym (each (λ k. eqb k 9 ≡ false) others 9 h (refl, (refl, (refl, (refl, (refl, (refl, (refl, (refl, (refl, (refl, (refl, (refl, tt)))))))))))))
no_read WriteData h = refl
no_read IsoSelectFile h = refl
no_read IsoReadBinary h = sym (each (λ k. eqb k 12 ≡ false) others 12 h (refl, (refl, (refl, (refl, (refl, (refl, (refl, (refl, (refl, (refl, (refl, (refl, tt)))))))))))))
no_read IsoUpdateBinary h = refl

pub tap-sdm : (n : Name) (l : Live) (h : Head) → (decided n l h).tap ≡ true → (h.sdm ≡ true) × (l.on ≡ false)
unfolding decided
tap-sdm n l h e =
    let r = and_right (reads n) (and h.sdm (not l.on)) e in
    (and_left h.sdm (not l.on) r, not_true l.on (and_right h.sdm (not l.on) r))
