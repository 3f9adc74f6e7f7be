-- Bytes put behind a text.
use mathlib.Core.Path.{◌≡◌, sym, ap, ◌∙◌}
use mathlib.Core.List.{List, ◌++◌, append_assoc}
use Prim.Native.Nat.{ℕ, min, ◌+◌, ◌-◌, ◌≤◌}
use native.Mathlib.Omega.{arith}
use lib.ListN.{length, take, length-append, length-take}
use lib.Seq.{take_at, take-append-add}
use Rattle.std.proofs.lemmas.List.{take_min}

-- a text, as much of more as there is room for, and what stands behind them
pub appended : (n l k : ℕ) (text more behind : List ℕ) → length text ≡ l → l ≤ n → k ≡ min (length more) (n - l)
    → take (l + k) (text ++ (take k more ++ behind)) ≡ take n (text ++ more)
appended n l k text more behind e f g =
    let m : k ≡ min (n - l) (length more) = omega arith in
    let s : n ≡ length text + (n - l) = omega arith in
    ap (take (l + k)) (sym (append_assoc text (take k more) behind))
    ∙ take_at (text ++ take k more) behind (l + k) (length-append text (take k more) ∙ omega (arith, length-take k more))
    ∙ ap (λ y. text ++ y) (ap (λ i. take i more) m ∙ take_min (n - l) more)
    ∙ sym (take-append-add text more (n - l))
    ∙ ap (λ i. take i (text ++ more)) (sym s)
