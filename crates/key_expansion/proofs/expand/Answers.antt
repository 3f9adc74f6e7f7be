-- `key_expansion::expand` meets its contract: each turn makes the next round key, as the standard's words give it.
use mathlib.Core.Path.{◌≡◌, refl, sym, ap, subst, ◌∙◌}
use mathlib.Core.List.{[]}
use Prim.Native.Nat.{◌+◌, ◌-◌}
use native.Mathlib.Omega.{arith}
use Rattle.base.proofs.Fill.{filled_more, filled_all}
use Rattle.sbox.specs.Field.{xtime}
use Rattle.sbox.specs.Tables.{sbox}
use Rattle.words.specs.Words.{block_of}
use Rattle.key_expansion.specs.Keys.{rcon, round_words, key_expansion}
use Rattle.key_expansion.specs.NextKey.{next_key}
use Rattle.key_expansion.proofs.KeyWords.{block_length}
use Rattle.key_expansion.proofs.Schedule.{round_next, round_first, rcon_more}
use Rattle.key_expansion.proofs.expand.Goals as goal

pub loop-i-init : goal.loop-i-init
unfolding rcon
loop-i-init c =
    let k = c.columns-k.result in
    let e = round_first (block_of k) (block_length k) in
    record {
      rc = refl;
      key = sym e;
      keys = record { long = refl; so_far = λ j h. let z : j ≡ 0 = omega arith in rw z (sym (e ∙ c.columns-k.ensures.1)) };
    }

pub loop-i-preserved : goal.loop-i-preserved
loop-i-preserved c =
    let i = c.loop-i.i in
    let k = block_of c.columns-k.result in
    let e : i - 1 + 1 ≡ i = omega arith in
    let s : i ≡ i + 1 - 1 = omega arith in
    let n : block_of c.next_key-next.result ≡ round_words k i = c.next_key-next.ensures ∙ rw (c.loop-i.invariant.rc, c.loop-i.invariant.key)
    (subst (λ m. next_key sbox (rcon m) (round_words k (i - 1)) ≡ round_words k m) e (sym (round_next k (block_length _) (i - 1)))) in
    record {
      rc = c.double-rc.ensures ∙ ap xtime c.loop-i.invariant.rc ∙ subst (λ m. xtime (rcon m) ≡ rcon (m + 1)) e (sym (rcon_more (i - 1)));
      key = n ∙ ap (round_words k) s;
      keys = filled_more [] 11 _ _ i _ c.loop-i.invariant.keys (omega arith) (c.bytes_of.ensures ∙ n);
    }

pub returns : goal.returns
unfolding key_expansion
returns c = filled_all [] 11 _ _ _ c.loop-i.invariant.keys (omega arith) ∙ ap key_expansion c.columns-k.ensures.1
