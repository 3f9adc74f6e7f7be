use mathlib.Core.Path.{refl, ap, ap₂, ◌∙◌}
use mathlib.Core.List.{List}
use Prim.Native.Nat.{ℕ}
use lib.ListN.{take}
use Rattle.telling.proofs.Naming.{front_of}
use Rattle.forms.proofs.Laying.{lays_as}
use Rattle.turns.specs.Steps.{expected_in}
use Rattle.turns.specs.Acts.{Act, acted_by}
use Rattle.turns.specs.Lines.{told_of}
use Rattle.turns.proofs.Taking.{Reads, acted_line, told_line}
use Rattle.turns.proofs.take_turn.Goals as goal

pub returns : goal.returns
returns c =
    let l = c.line_meaning-read in
    let a = c.args in
    let front = ap (λ x. x.now) c.unwrap_or-e.ensures ∙ front_of l.new.expected _ _ _ c.get.ensures.lookup refl in
    let e = front ∙ ap (λ n. take n l.new.expected) c.awaited.ensures ∙ ap₂ (λ m (s : List ℕ). take (expected_in m) s) l.ensures.told l.ensures.expected in
    let h : Reads a.line.now l.result _ _ _ = record { told = l.ensures.told; command = l.ensures.command; random = l.ensures.random; expected = e } in
    let x = l.new.random in
    let w = c.unwrap_or-e.result.now in
    record {
      turn = c.turned.ensures.turn ∙ ap (λ m. (acted_by m a.tag l.new.command x w a.d.now).turn) c.asked.ensures ∙ ap (λ (u : Act). u.turn) (acted_line h a.tag a.d.now);
      text = lays_as c.turned.ensures.text
          (ap (λ m. told_of a.number m l.new.command w (acted_by m a.tag l.new.command x w a.d.now)) c.asked.ensures ∙ told_line h a.number a.tag a.d.now);
    }
