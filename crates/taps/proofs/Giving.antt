-- What a read of a tap gives, told by the answers of its steps.
use mathlib.Core.Path.{◌≡◌, ap, ap₂, ◌∙◌}
use mathlib.Core.Bool.{Bool}
use mathlib.Core.List.{List}
use Prim.Native.Nat.{ℕ, ◌≤◌}
use native.Mathlib.Omega.{arith}
use lib.Dec.{eqb}
use lib.ListN.{length, take, drop}
use Rattle.base.specs.Decide.{pick}
use Rattle.base.specs.Status.{operation_ok, iso_normal}
use Rattle.spans.specs.declared.Reading.{Reading}
use Rattle.spans.specs.Spans.{SpansFit}
use Rattle.aes.specs.Block.{counted}
use Rattle.aes.specs.declared.Counted.{Counted}
use Rattle.mirror.specs.Mirrors.{dynamic_cost}
use Rattle.mirror.proofs.Costs.{dynamic_few}
use Rattle.state.specs.declared.Tag.{Tag}
use Rattle.replies.specs.Answer.{given_for, refusal}
use Rattle.replies.proofs.Costs.{either_few}
use Rattle.file_parts.specs.Filing.{part_of}
use Rattle.file_parts.proofs.Parts.{part-given}
use Rattle.taps.specs.Taps.{read_status, tap_text, tap_part, tap_read}

pub part-given_of : (t : Tag) (r : Reading) (iso : Bool) (at n accepting : ℕ) (x : Counted 256) (p : List ℕ) → accepting ≡ pick iso iso_normal operation_ok
    → x ≡ counted (tap_text t r) (dynamic_cost r) → length x.bytes ≡ 256 → p ≡ part_of x.bytes at n
    → given_for x.cost t accepting (take 256 p) ≡ tap_part t r iso at n
unfolding tap_part
part-given_of t r iso at n accepting x p a e l h =
    ap₂ (given_for x.cost t) a (part-given x.bytes at n p (omega arith) h)
    ∙ ap (λ y. given_for y.cost t (pick iso iso_normal operation_ok) (take n (drop at y.bytes))) e

-- ---- what a read of a tap costs is little
pub tap_read_few : (t : Tag) (r : Reading) (iso : Bool) (at n : ℕ) (random : List ℕ) → SpansFit r → (tap_read t r iso at n random).cost ≤ 32
unfolding tap_read tap_part refusal
tap_read_few t r iso at n random w = either_few (eqb (read_status t.tap r iso) 0) _ _ 32 (dynamic_few r w) (omega arith)
