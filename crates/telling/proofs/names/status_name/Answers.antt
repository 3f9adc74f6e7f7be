use mathlib.Core.Path.{refl, ap}
use native.Mathlib.Omega.{arith}
use Prim.Native.Nat.{◌/◌}
use Rattle.forms.proofs.Laying.{writes_as}
use borrow.Author.Tests.{eq-eqb, ne_eqb, le-leb, lt-leb}
use Rattle.telling.specs.Names.{table23, table24, not_in23, not_in24, exact_le, row_of, name_of}
use Rattle.telling.proofs.Naming.{key_bytes}
use Rattle.telling.proofs.names.status_name.Goals as goal
use Rattle.telling.proofs.names.status_name.Goals.{in_default-via-then-status-lt27649, in_default-via-else-status-lt27649+else-status-lt27904+then-status-lt37120, in_default-via-else-status-lt27649+else-status-lt27904+else-status-lt37120+else-status-lt37376}

pub returns-in-37120-to-37375 : goal.returns-in-37120-to-37375
unfolding name_of
returns-in-37120-to-37375 c =
    rw (eq-eqb (c.args.status / 256) 0x91 (omega arith))
    (writes_as c.wrapped.ensures (ap (λ k. row_of 0 table23 k not_in23) (key_bytes _ _ _ _ c.to_be_bytes.ensures c.encode.ensures refl)))

pub returns-in-27649-to-27903 : goal.returns-in-27649-to-27903
unfolding name_of exact_le
returns-in-27649-to-27903 c =
    rw (ne_eqb (c.args.status / 256) 0x91 (λ e. omega arith), le-leb 0x6C01 c.args.status (omega arith), le-leb c.args.status 0x6CFF (omega arith)) c.append.ensures

pub returns-in_default : goal.returns-in_default
unfolding name_of
returns-in_default c =
    let s = c.args.status in
    let w = writes_as c.inter_industry.ensures (ap (λ k. row_of 0 table24 k not_in24) (key_bytes _ _ _ _ c.to_be_bytes.ensures c.encode.ensures refl)) in
    elim c.in_default.branch [
      | in_default-via-then-status-lt27649 u ↦ rw (ne_eqb (s / 256) 0x91 (λ e. omega arith), lt-leb 0x6C01 s (omega arith)) w
      | in_default-via-else-status-lt27649+else-status-lt27904+then-status-lt37120 u ↦ rw (ne_eqb (s / 256) 0x91 (λ e. omega arith), le-leb 0x6C01 s (omega arith), lt-leb s 0x6CFF (omega arith)) w
      | in_default-via-else-status-lt27649+else-status-lt27904+else-status-lt37120+else-status-lt37376 u ↦ rw (ne_eqb (s / 256) 0x91 (λ e. omega arith), le-leb 0x6C01 s (omega arith), lt-leb s 0x6CFF (omega arith)) w
    ]
