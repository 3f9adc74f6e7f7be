-- `buffers::Buffer::append` meets its contract.
use mathlib.Core.Path.{◌≡◌, ap, ◌∙◌}
use mathlib.Core.List.{◌++◌}
use Prim.Native.Nat.{◌+◌, ◌-◌, ◌≤◌}
use native.Mathlib.Omega.{arith}
use lib.ListN.{length, take}
use lib.Seq.{length-take-le}
use borrow.Rule.Slice.PartMut.{post_of}
use borrow.Author.Rules.{rules}
use Rattle.buffers.proofs.Appending.{appended}
use Rattle.buffers.proofs.buffer.Buffer.append.Goals as goal

pub returns : goal.returns
returns g c =
    let a = c.args in
    let b = a.self.now in
    let k = c.min-n in
    let s : length b.bytes ≡ g.row.N = search rules in
    let f : b.length ≤ g.row.N = b.fits in
    let e : length (take b.length b.bytes) ≡ b.length = length-take-le b.length b.bytes (omega arith) in
    let rest = post_of b.length (b.length + k.result - b.length) b.bytes in
    ap (λ x. take (b.length + k.result) (take b.length b.bytes ++ (x ++ rest))) c.copy_from_slice.ensures.after
    ∙ appended g.row.N b.length k.result (take b.length b.bytes) a.more.now rest e f k.ensures
