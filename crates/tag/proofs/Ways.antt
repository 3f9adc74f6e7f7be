-- The way of a command: each step as the next one's answer.
use mathlib.Core.Path.{◌≡◌, refl, sym, ap, ◌∙◌}
use mathlib.Core.Bool.{Bool, true, false}
use mathlib.Core.List.{List}
use Prim.Native.Nat.{ℕ}
use borrow.Author.Tests.{eq-eqb, ne_eqb}
use lib.Dec.{eqb}
use Rattle.base.specs.Decide.{pick, and, one_of}
use Rattle.base.specs.Status.{authentication_error, iso_security}
use Rattle.spans.specs.declared.Reading.{Reading}
use Rattle.order.specs.declared.Name.{Name}
use Rattle.order.specs.declared.Name.TheVariants.{AuthenticateFirst, AuthenticateNonFirst, PartTwo, ChangeKey, GetKeyVersion, GetCardUid}
use Rattle.order.specs.declared.Name.TheVariants.{GetFileSettings, ChangeFileSettings, GetFileCounters, ReadData, WriteData}
use Rattle.order.specs.declared.Name.TheVariants.{IsoSelectFile, IsoReadBinary, IsoUpdateBinary}
use Rattle.order.specs.declared.Command.{Command}
use Rattle.access.specs.declared.Decision.{Decision}
use Rattle.access.specs.Access.{decided}
use Rattle.state.specs.declared.Tag.{Tag}
use Rattle.state.specs.State.{reading_in}
use Rattle.soundness.specs.declared.Judged.{Judged}
use Rattle.soundness.specs.Sound.{judged_tag}
use Rattle.replies.specs.Answer.{Answer, refusal}
use Rattle.wrapped.specs.Wrapped.{wrapped}
use Rattle.binaries.specs.Binaries.{binary}
use Rattle.tag.specs.Way.{from_step7, on_grant, from_step6, commanded}

-- ---- step 7, by whether CmdCtr is full, and the class
module _ (t : Tag) (k : Command) (r : Reading) (d : Decision) (x random : List ℕ) (full : Bool)
    (e : full ≡ and t.live.on (eqb t.live.counter 65535)) where
  abbrev by_class : Bool → Answer
  by_class b = pick b (wrapped t k r d x random) (binary t k r d x random)

  abbrev on_full : Bool → Answer
  on_full b = pick b (refusal t (pick (eqb k.class 0x90) authentication_error iso_security)) (by_class (eqb k.class 0x90))

  pub full_refused : full ≡ true → (s : ℕ) → s ≡ pick (eqb k.class 0x90) authentication_error iso_security
      → refusal t s ≡ from_step7 t k r d x random
  unfolding from_step7
  full_refused h s q = ap (refusal t) q ∙ ap on_full (sym h ∙ e)

  pub wrapped_next : full ≡ false → k.class ≡ 0x90 → wrapped t k r d x random ≡ from_step7 t k r d x random
  unfolding from_step7
  wrapped_next h q = ap by_class (sym (eq-eqb k.class 0x90 q)) ∙ ap on_full (sym h ∙ e)

  pub iso_next : full ≡ false → (k.class ≡ 0x90 → ⊥) → binary t k r d x random ≡ from_step7 t k r d x random
  unfolding from_step7
  iso_next h q = ap by_class (sym (ne_eqb k.class 0x90 q)) ∙ ap on_full (sym h ∙ e)

-- ---- step 6
pub decided_next : (t : Tag) (k : Command) (r : Reading) (x random : List ℕ) (d : Decision) → d ≡ decided k.name t.live r.settings.head
    → on_grant d.grant t k r d x random ≡ from_step6 t k r x random
unfolding from_step6
decided_next t k r x random d e = ap (λ i. on_grant i.grant t k r i x random) e

-- ---- the commands with an access step: none of those without one
pub record Asking (n : Name) : Type 0 where
  pub no_first : n ≡ AuthenticateFirst → ⊥
  pub no_next : n ≡ AuthenticateNonFirst → ⊥
  pub no_part_two : n ≡ PartTwo → ⊥
  pub no_select : n ≡ IsoSelectFile → ⊥

pub others_asked : (n : Name) (t : Tag) (k : Command) (r : Reading) (x random : List ℕ)
    → Asking n → from_step6 t k r x random ≡ commanded n t k r x random
unfolding commanded one_of
others_asked AuthenticateFirst t k r x random h = absurd (h.no_first refl)
others_asked AuthenticateNonFirst t k r x random h = absurd (h.no_next refl)
others_asked PartTwo t k r x random h = absurd (h.no_part_two refl)
others_asked ChangeKey t k r x random h = refl
others_asked GetKeyVersion t k r x random h = refl
others_asked GetCardUid t k r x random h = refl
others_asked GetFileSettings t k r x random h = refl
others_asked ChangeFileSettings t k r x random h = refl
others_asked GetFileCounters t k r x random h = refl
others_asked ReadData t k r x random h = refl
others_asked WriteData t k r x random h = refl
others_asked IsoSelectFile t k r x random h = absurd (h.no_select refl)
others_asked IsoReadBinary t k r x random h = refl
others_asked IsoUpdateBinary t k r x random h = refl

-- ---- the readings of the three files
module _ (t : Tag) (j : Judged) (e : j ≡ judged_tag t) (n : ℕ) where
  pub first_there : n ≡ 1 → j.first ≡ reading_in t.files n
  unfolding judged_tag
  first_there q = ap (λ (x : Judged). x.first) e ∙ ap (reading_in t.files) (sym q)

  pub second-there : n ≡ 2 → j.second ≡ reading_in t.files n
  unfolding judged_tag
  second-there q = ap (λ (x : Judged). x.second) e ∙ ap (reading_in t.files) (sym q)

  pub third_there : n ≡ 3 → j.third ≡ reading_in t.files n
  unfolding judged_tag
  third_there q = ap (λ (x : Judged). x.third) e ∙ ap (reading_in t.files) (sym q)
