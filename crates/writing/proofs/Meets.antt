-- What a record that meets the rules has, part by part.
use mathlib.Core.Path.{◌≡◌, ap, ◌∙◌}
use mathlib.Core.Bool.{Bool, true, false, not}
use Prim.Native.Nat.{ℕ}
use lib.Dec.{eqb}
use borrow.Author.Tests.{eqb-true}
use Rattle.base.specs.Decide.{pick, and}
use Rattle.base.proofs.Bytes.{and_left, and_right}
use Rattle.fields.specs.declared.Head.{Head}
use Rattle.fields.specs.declared.Settings.{Settings}
use Rattle.fields.specs.Fields.{present, listed}
use Rattle.rules.specs.Rules.{condition, sdm_file, rights, sdm_rights, meta_mirrors, meta_off, enc_needs, position_rules, found, kept, fields_fit, sdm_meets, sdm_absent, sdm_part, modes, meets}

-- both parts of a conjunction
pub record Both (a b : Bool) : Type 0 where
  pub left : a ≡ true
  pub right : b ≡ true

pub both : {a b : Bool} → and a b ≡ true → Both a b
both {a} {b} e = record { left = and_left a b e; right = and_right a b e }

pub record Meets (n : ℕ) (r : Settings) : Type 0 where
  pub mode : modes r.head.mode ≡ true
  pub file : sdm_file n r.head ≡ true
  pub conditions : rights r.head ≡ true
  pub fits : fields_fit (present r.head) (listed r.places) ≡ true
  pub part : sdm_part r ≡ true

pub meets-parts : (n : ℕ) (r : Settings) → meets n r ≡ true → Meets n r
unfolding meets
meets-parts n r e =
    let a = both e in
    let b = both a.left in
    let d = both b.right in
    let f = both a.right in
    record { mode = b.left; file = d.left; conditions = d.right; fits = f.left; part = f.right }

three-rights : (m f r : ℕ) → Bool
three-rights m f r = and (condition m) (and (and (condition f) (not (eqb f 14))) (condition r))

pub absent_rights : (h : Head) → sdm_absent h ≡ true → sdm_rights h ≡ true
unfolding sdm_absent sdm_rights condition three-rights
absent_rights h e =
    let n : Bool = and (not h.uid) (and (not h.counter) (and (not h.limit) (not h.enc))) in
    let a : Both (eqb h.sdm_meta_read 0) (and (eqb h.sdm_file_read 0) (eqb h.sdm_ctr_ret 0)) = both (and_right n _ e) in
    let b : Both (eqb h.sdm_file_read 0) (eqb h.sdm_ctr_ret 0) = both a.right in
    ap (λ x. three-rights x h.sdm_file_read h.sdm_ctr_ret) (eqb-true h.sdm_meta_read 0 a.left)
    ∙ ap (λ x. three-rights 0 x h.sdm_ctr_ret) (eqb-true h.sdm_file_read 0 b.left)
    ∙ ap (λ x. three-rights 0 0 x) (eqb-true h.sdm_ctr_ret 0 b.right)

part-rights : (t : Bool) (r : Settings) → pick t (sdm_meets r) (sdm_absent r.head) ≡ true → sdm_rights r.head ≡ true
unfolding sdm_meets
part-rights true r e = (both (both e).left).left
part-rights false r e = absent_rights r.head e

pub meets-rights : (n : ℕ) (r : Settings) → meets n r ≡ true → sdm_rights r.head ≡ true
unfolding sdm_part
meets-rights n r e = part-rights r.head.sdm r (meets-parts n r e).part

-- what a record with SDM on has
pub record SdmMeets (r : Settings) : Type 0 where
  pub conditions : sdm_rights r.head ≡ true
  pub mirrors : meta_mirrors r.head ≡ true
  pub none : meta_off r.head ≡ true
  pub needs : enc_needs r.head ≡ true
  pub positions : kept (found (position_rules r)) ≡ true

pub sdm-parts : (r : Settings) → sdm_meets r ≡ true → SdmMeets r
unfolding sdm_meets
sdm-parts r e =
    let m : Bool = and (meta_off r.head) (enc_needs r.head) in
    let p : Both (and (sdm_rights r.head) (and (meta_mirrors r.head) m)) (kept (found (position_rules r))) = both e in
    let q : Both (sdm_rights r.head) (and (meta_mirrors r.head) m) = both p.left in
    let u : Both (meta_mirrors r.head) m = both q.right in
    let v : Both (meta_off r.head) (enc_needs r.head) = both u.right in
    record { conditions = q.left; mirrors = u.left; none = v.left; needs = v.right; positions = p.right }
