-- Laws of the new file's name.
use mathlib.Core.Path.{◌≡◌, refl, sym, ap, ◌∙◌}
use mathlib.Core.List.{List}
use mathlib.Core.Logic.{⊎_elim}
use Prim.Native.Nat.{ℕ, ◌+◌, ◌≤◌, ◌<◌}
use native.Mathlib.Omega.{arith}
use lib.ListN.{length, length-append}
use borrow.Author.Tests.{le-leb, lt-leb}
use Rattle.std.specs.Prelude.{None, Some}
use Rattle.std.proofs.lemmas.Option.{none-some, same_Some}
use Rattle.base.specs.Bytes.{laid}
use Rattle.base.proofs.Bytes.{le_or_lt, laid-front, over_more}
use Rattle.arguments.specs.Arguments.{dot_new, new_name, beside_length, beside_room}

name_length : (path : List ℕ) → length (new_name path) ≡ length path + 4
name_length path = length-append path dot_new

pub beside_not : (path room : List ℕ) → length room < length path + 4 → (None ≡ beside_length path room) × (room ≡ beside_room path room)
unfolding beside_length beside_room
beside_not path room h =
    let e = lt-leb (length (new_name path)) (length room) (omega (arith, name_length path)) in (rw e refl, rw e refl)

pub beside_is : (path room a b : List ℕ) → length path + 4 ≤ length room → a ≡ laid path 0 room → b ≡ laid dot_new (length path) a
    → (Some (length path + 4) ≡ beside_length path room) × (b ≡ beside_room path room)
unfolding beside_length beside_room
beside_is path room a b h p q =
    let e = le-leb (length (new_name path)) (length room) (omega (arith, name_length path)) in (
      rw e (ap Some (sym (name_length path))),
      rw e
          (q ∙ ap (λ x. laid dot_new (length path) x) (p ∙ laid-front path room (omega arith)) ∙ over_more path dot_new room h),
    )

-- a name that fits is as long as its room at most
pub beside_fits : (path room : List ℕ) (n : ℕ) → Some n ≡ beside_length path room → n ≤ length room
unfolding beside_length
beside_fits path room n e =
    ⊎_elim
    (λ (h : length (new_name path) ≤ length room). let k = rw (le-leb (length (new_name path)) (length room) h) at e in omega (arith, h, same_Some _ _ k))
    (λ (h : length room < length (new_name path)). let k = rw (lt-leb (length (new_name path)) (length room) h) at e in absurd (none-some _ (sym k)))
    (le_or_lt (length (new_name path)) (length room))
