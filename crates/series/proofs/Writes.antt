-- What is known where a file is written: the write is granted, and ends inside the file.
use Rattle.std.specs.Prelude.{Some}
use mathlib.Core.Path.{◌≡◌, refl, sym, subst, ap, ◌∙◌}
use mathlib.Core.Bool.{Bool, true, false}
use mathlib.Core.List.{List}
use Prim.Native.Nat.{ℕ, ◌+◌, ◌-◌, ◌≤◌, ◌<◌}
use native.Mathlib.Omega.{arith}
use lib.Dec.{eqb, leb, ltb}
use lib.ListN.{length}
use borrow.Author.Tests.{eqb-true, ltb-false, leb-false}
use Rattle.base.specs.Decide.{pick}
use Rattle.base.specs.Bytes.{byte_at}
use Rattle.fields.specs.declared.Head.{Head}
use Rattle.order.specs.declared.Name.{Name}
use Rattle.order.specs.declared.Name.TheVariants.{AuthenticateFirst, AuthenticateNonFirst, PartTwo, ChangeKey, GetKeyVersion, GetCardUid}
use Rattle.order.specs.declared.Name.TheVariants.{GetFileSettings, ChangeFileSettings, GetFileCounters, ReadData, WriteData}
use Rattle.order.specs.declared.Name.TheVariants.{IsoSelectFile, IsoReadBinary, IsoUpdateBinary}
use Rattle.order.specs.Names.{class_of, ins_of, named}
use Rattle.order.specs.Order.{lc_of, fits}
use Rattle.order.proofs.Names.{named_class, named_ins}
use Rattle.access.specs.Access.{write_grant, grant_for, decided}
use Rattle.state.specs.declared.Live.{Live}
use Rattle.state.specs.declared.Tag.{Tag}
use Rattle.state.specs.State.{size_of, reading_in}
use Rattle.contents.specs.Contents.{write_status}
use Rattle.series.specs.Series.{allows}
use Rattle.series.proofs.Choices.{not_both}
use Rattle.series.proofs.Orders.{fits_read}

-- a command of CLA 00 is none of CLA 90
pub not_iso : (ins : ℕ) (n m : Name) → named 0x00 ins ≡ Some n → n ≡ m → class_of m ≡ 0x90 → {A : Type 0} → A
not_iso ins n m e q h {A} = let z : ◌≡◌ {A = ℕ} 0x90 0x00 = sym h ∙ ap class_of (sym q) ∙ named_class 0 ins n e in absurd (omega arith)

-- of the commands of CLA 00 that are no select, those with data are updates
pub update_name : (c : List ℕ) (n : Name) → named 0x00 (byte_at c 1) ≡ Some n → fits (eqb (byte_at c 1) 0xB0) c ≡ true → eqb (byte_at c 1) 0xA4 ≡ false
    → leb 1 (lc_of c) ≡ true → n ≡ IsoUpdateBinary
unfolding class_of ins_of
update_name c n e f select parted = by n refl
  where
    ins : (m : Name) → n ≡ m → byte_at c 1 ≡ ins_of m
    ins m q = sym (named_ins 0 (byte_at c 1) n e) ∙ ap ins_of q

    by : (m : Name) → n ≡ m → n ≡ IsoUpdateBinary
    by AuthenticateFirst q = not_iso (byte_at c 1) n AuthenticateFirst e q refl
    by AuthenticateNonFirst q = not_iso (byte_at c 1) n AuthenticateNonFirst e q refl
    by PartTwo q = not_iso (byte_at c 1) n PartTwo e q refl
    by ChangeKey q = not_iso (byte_at c 1) n ChangeKey e q refl
    by GetKeyVersion q = not_iso (byte_at c 1) n GetKeyVersion e q refl
    by GetCardUid q = not_iso (byte_at c 1) n GetCardUid e q refl
    by GetFileSettings q = not_iso (byte_at c 1) n GetFileSettings e q refl
    by ChangeFileSettings q = not_iso (byte_at c 1) n ChangeFileSettings e q refl
    by GetFileCounters q = not_iso (byte_at c 1) n GetFileCounters e q refl
    by ReadData q = not_iso (byte_at c 1) n ReadData e q refl
    by WriteData q = not_iso (byte_at c 1) n WriteData e q refl
    by IsoSelectFile q = absurd (not_both (sym select ∙ ap (λ j. eqb j 0xA4) (ins IsoSelectFile q)))
    by IsoReadBinary q =
        absurd (not_both (sym (fits_read c (ap (λ j. fits (eqb j 0xB0) c) (sym (ins IsoReadBinary q)) ∙ f)) ∙ parted))
    by IsoUpdateBinary q = q

-- ---- granted, and inside
-- a write of file n is granted
abbrev pub Writable : Tag → ℕ → Type 0
Writable t n = allows (write_grant t.live (reading_in t.files n).settings.head) ≡ true

-- a write of p into file n from an offset on: it is granted, and ends inside the file
pub record Puts (t : Tag) (n at : ℕ) (p : List ℕ) : Type 0 where
  pub allowed : Writable t n
  pub inside : at + length p ≤ size_of n

pub granted-write : (n : Name) (l : Live) (h : Head) → n ≡ WriteData → allows (decided n l h).grant ≡ true → allows (write_grant l h) ≡ true
unfolding decided grant_for
granted-write n l h q a = subst (λ m. allows (decided m l h).grant ≡ true) q a

pub granted_update : (n : Name) (l : Live) (h : Head) → n ≡ IsoUpdateBinary → allows (decided n l h).grant ≡ true → allows (write_grant l h) ≡ true
unfolding decided grant_for
granted_update n l h q a = subst (λ m. allows (decided m l h).grant ≡ true) q a

pub write-inside : (at count given size : ℕ) → eqb (write_status at count given size) 0 ≡ true → at + given ≤ size
unfolding write_status
write-inside at count given size = by (eqb count 0) (eqb count given) (ltb size (at + count)) refl refl
  where
    by : (none alike over : Bool) → eqb count given ≡ alike → ltb size (at + count) ≡ over
        → eqb (pick none 0x919E (pick alike (pick over 0x91BE 0) 0x917E)) 0 ≡ true → at + given ≤ size
    by true alike over a o e = absurd (not_both e)
    by false false over a o e = absurd (not_both e)
    by false true true a o e = absurd (not_both e)
    by false true false a o e = subst (λ n. at + n ≤ size) (eqb-true count given a) (ltb-false size (at + count) o)

pub update_inside : (at given size : ℕ) → leb size at ≡ false → ltb (size - at) given ≡ false → at + given ≤ size
update_inside at given size a o =
    let f : at < size = leb-false size at a in
    let g : given ≤ size - at = ltb-false (size - at) given o in
    omega arith
