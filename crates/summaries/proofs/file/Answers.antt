use mathlib.Core.Path.{◌≡◌, refl, sym}
use mathlib.Core.Bool.{true, false}
use mathlib.Core.List.{[], ◌∷◌, ◌++◌}
use Prim.Native.Nat.{ℕ}
use Rattle.spans.specs.declared.Reading.{Reading}
use Rattle.forms.proofs.Laying.{writes_as, writes_more, writes_none, writes_to}
use Rattle.summaries.specs.Summary.{rights_of, mirrors_of, file_of}
use Rattle.summaries.proofs.file.Goals as goal
use Rattle.summaries.proofs.file.Goals.{then-h, else-h}

-- a file with SDM on, and one without
file_on : (number : ℕ) (r v : Reading) → r ≡ v → r.settings.head.sdm ≡ true → (rights_of number r.settings.head ++ mirrors_of r) ++ (10 ∷ []) ≡ file_of number v
unfolding file_of
file_on number r v e t = rw (sym e, t) refl

file_off : (number : ℕ) (r v : Reading) → r ≡ v → r.settings.head.sdm ≡ false → (rights_of number r.settings.head ++ []) ++ (10 ∷ []) ≡ file_of number v
unfolding file_of
file_off number r v e t = rw (sym e, t) refl

pub returns : goal.returns
returns c =
    elim c.if-h.branch [
      | then-h w ↦
          writes_as (writes_more (writes_more c.rights.ensures (writes_to w.mirrors.ensures (sym w.page-is))) c.append.ensures) (file_on c.args.number _ _ c.reading_in-r.ensures w.if-h.true)
      | else-h w ↦
          writes_as (writes_more (writes_more c.rights.ensures (writes_to (writes_none _) (sym w.page-is))) c.append.ensures) (file_off c.args.number _ _ c.reading_in-r.ensures w.if-h.false)
    ]
