-- `writing::text::lay_string` meets its contract.
use mathlib.Core.List.{[], ◌∷◌}
use mathlib.Core.Path.{◌≡◌, refl, sym, ap, ap₂, ◌∙◌}
use Prim.Native.Nat.{◌+◌, ◌≤◌}
use native.Mathlib.Omega.{arith}
use lib.ListN.{length, length-append}
use Rattle.base.specs.Bytes.{over}
use Rattle.fields.specs.Fields.{front_bytes, sdm_bytes, present, listed, written}
use Rattle.writing.proofs.Small.{mode_small, rights_small, sdm_small}
use Rattle.normalising.proofs.Laying.{laid-front}
use Rattle.writing.proofs.Laying.{string_on, string_off, same_three, in_three}
use Rattle.writing.proofs.text.lay_string.Goals as goal

-- `writing::text::lay_string` meets its contract.
pub option_byte-requires : goal.option_byte-requires
option_byte-requires c = mode_small _ c.requires.0

pub pair-requires : goal.pair-requires
pair-requires c = let f = rights_small _ c.requires.1 in (f.both, f.change)

pub pair-requires-2 : goal.pair-requires-2
pair-requires-2 c = let f = rights_small _ c.requires.1 in (f.read, f.write)

pub overflow_add-sdm : goal.overflow_add-sdm
overflow_add-sdm c =
    let f = sdm_small _ c.requires.2 in
    omega arith

pub pair-requires-then-h : goal.pair-requires-then-h
pair-requires-then-h c =
    let f = sdm_small _ c.requires.2 in
    (f.meta, f.file)

pub returns-then-h : goal.returns-then-h
unfolding front_bytes sdm_bytes
returns-then-h c =
    let r = c.args.r in
    let room = c.args.room.now in
    let w = written (present r.head) (listed r.places) in
    let e = string_on r c.if-h.true in
    let lay = c.lay_fields.ensures in
    let same = ap₂ written c.present_fields.ensures c.in_order.ensures in
    let n : c.lay_fields.result ≡ 6 + length w = lay.place.0 ∙ ap (λ x. 6 + length x) same in
    let k : 6 + length w ≤ length room = omega (arith, n, lay.place.1, c.requires.3) in record {
      place = (n ∙ sym (ap length e ∙ simp length-append (omega arith)), lay.place.1);
      left = in_three (front_bytes r.head) (sdm_bytes r.head) w room refl refl k
          (same_three c.option_byte.ensures c.pair.ensures c.pair-2.ensures)
          (same_three c.sdm_options_byte.ensures refl c.pair-then-h.ensures)
          c.put.ensures
          c.put-then-h.ensures
          same
          lay.left
          ∙ ap (λ x. over x room) (sym e);
    }

pub returns : goal.returns
unfolding front_bytes
returns c =
    let r = c.args.r in
    let room = c.args.room.now in
    let e = string_off r c.if-h.false in
    let f = c.option_byte.result ∷ c.pair.result ∷ c.pair-2.result ∷ [] in
    let same : f ≡ front_bytes r.head = same_three c.option_byte.ensures c.pair.ensures c.pair-2.ensures in
    let put = c.put.ensures ∙ laid-front f room (omega arith) in record { place = (sym (ap length e), omega arith); left = put ∙ ap (λ x. over x room) same ∙ ap (λ x. over x room) (sym e) }
