-- `replies::accept` meets its contract: the reply as it was closed, or the refusal.
use mathlib.Core.Path.{◌≡◌, sym, ◌∙◌}
use Prim.Native.Nat.{ℕ}
use native.Mathlib.Omega.{arith}
use mir.Val.{Fits}
use mir.Syntax.{w8}
use lib.ListN.{length}
use Rattle.base.specs.Bytes.{byte_at, AllBytes}
use Rattle.replies.specs.Answer.{answer_of}
use Rattle.replies.proofs.Accepting.{accepts-reply, accepts_not, reply_short}
use Rattle.replies.proofs.Equal.{gives_as}
use borrow.Author.Rules.{rules}
use Rattle.replies.proofs.accept.Goals as goal

pub returns-in-Ok : goal.returns-in-Ok
unfolding AllBytes answer_of
returns-in-Ok c =
    let a = c.args in
    let s = c.session_of in
    let k = c.min-n in
    let x = c.close in
    let r = c.in-Ok.closed in
    let l : length a.reply.bytes ≡ 258 = search rules in
    let e : length s.result.enc ≡ 16 = search rules in
    let p : (i : ℕ) → Fits w8 (byte_at s.result.enc i) = λ i. search rules in
    let q : (i : ℕ) → Fits w8 (byte_at a.reply.bytes i) = λ i. search (rules, c.well_formed) in
    record {
      says =
          accepts-reply a.tag a.mode s.result a.reply.bytes _ a.reply.length k.result x.result l k.ensures x.ensures c.after-next.result
          r c.in-Ok.is e (λ i. omega (arith, p i)) (λ i. omega (arith, q i)) c.after-next.ensures s.ensures;
      short = reply_short a.mode k.result a.reply.bytes r (sym c.in-Ok.is ∙ x.ensures.answer);
    }

pub returns-in-Err : goal.returns-in-Err
returns-in-Err c =
    let a = c.args in
    let k = c.min-n in
    let x = c.close in
    let l : length a.reply.bytes ≡ 258 = search rules in
    gives_as c.refuse.ensures
    (accepts_not a.tag a.mode c.session_of.result a.reply.bytes _ a.reply.length k.result x.result l k.ensures x.ensures _ c.in-Err.is)
