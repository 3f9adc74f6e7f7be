-- `base::put` meets its contract: a part written over is what is laid.
use mathlib.Core.Path.{refl, sym, ◌∙◌}
use native.Mathlib.Omega.{arith}
use lib.ListN.{length}
use Rattle.std.proofs.lemmas.Slice.{put_mid-paste}
use Rattle.base.proofs.Bytes.{laid-not, laid-fits}
use Rattle.base.proofs.put.Goals as goal
use Rattle.base.proofs.put.Goals.{else-at-dst-via-then-at-dst+else-src-dst, else-at-dst-via-else-at-dst}

pub returns-then-src-dst : goal.returns-then-src-dst
returns-then-src-dst c =
    put_mid-paste _ _ _ _ c.args.src.now (length c.args.src.now) c.copy_from_slice.ensures.after (omega arith) refl ∙ sym (laid-fits _ _ _ (omega arith))

pub returns-else-at-dst : goal.returns-else-at-dst
returns-else-at-dst c =
    elim c.else-at-dst.branch [
      | else-at-dst-via-then-at-dst+else-src-dst w ↦ sym (laid-not _ _ _ (omega arith))
      | else-at-dst-via-else-at-dst w ↦ sym (laid-not _ _ _ (omega arith))
    ]
