-- Fields written and read with the cursor undo each other.
use mathlib.Core.Path.{◌≡◌, refl, sym, ap, ap₂, ◌∙◌}
use mathlib.Core.Bool.{Bool, true, false}
use mathlib.Core.List.{List, [], ◌∷◌, ◌++◌, append_assoc}
use Prim.Native.Nat.{ℕ, zero, suc, ◌+◌, ◌^◌, ◌≤◌, ◌<◌}
use native.Mathlib.Nat.{add-zero}
use native.Mathlib.Omega.{arith}
use lib.Dec.{eqb, ltb}
use lib.ListN.{length, drop, length-append, drop_of_length-le}
use lib.Seq.{drop-cons, get_or-append-add}
use borrow.Author.Tests.{ltb-true, eqb-true, lt-ltb}
use Rattle.base.specs.Bytes.{byte_at, AllBytes, number, low}
use Rattle.base.proofs.Bytes.{and_left, and_right}
use Rattle.base.proofs.Numbers.{number-low, low-number, low-length}
use Rattle.fields.specs.Fields.{after, three, fields, ends, written}
use Rattle.rules.specs.Rules.{field_fits, fields_fit}

-- ---- reading what was written
three_at : (pre rest : List ℕ) (v : ℕ) → v < 256 ^ 3 → three (pre ++ (low 3 v ++ rest)) (length pre) ≡ v
unfolding three low
three_at pre rest v h =
    let a = ap (λ n. byte_at (pre ++ (low 3 v ++ rest)) n) (sym (add-zero (length pre))) ∙ get_or-append-add pre (low 3 v ++ rest) 0 0 in
    let b = get_or-append-add pre (low 3 v ++ rest) 1 0 in
    let c = get_or-append-add pre (low 3 v ++ rest) 2 0 in
    rw (a, b, c) (number-low 3 v h)

pub fields-written : (ps : List Bool) (vs pre : List ℕ) (i : ℕ) → length pre ≡ i → length ps ≡ length vs → fields_fit ps vs ≡ true
    → fields (pre ++ written ps vs) i ps ≡ vs
unfolding fields written fields_fit field_fits
fields-written [] [] pre i l m f = refl
fields-written [] (v ∷ vs) pre i l m f = absurd (omega arith)
fields-written (p ∷ ps) [] pre i l m f = absurd (omega arith)
fields-written (true ∷ ps) (v ∷ vs) pre i l m f =
    let h : v < 256 ^ 3 = ltb-true _ _ (and_left (ltb v (256 ^ 3)) (fields_fit ps vs) f) in
    let k : length (pre ++ low 3 v) ≡ i + 3 = length-append pre (low 3 v) ∙ ap₂ (λ x y. x + y) l (low-length 3 v) in
    ap₂ (λ x y. x ∷ y) (ap (λ n. three (pre ++ (low 3 v ++ written ps vs)) n) (sym l) ∙ three_at pre (written ps vs) v h)
    (ap (λ s. fields s (i + 3) ps) (sym (append_assoc pre (low 3 v) (written ps vs)))
    ∙ fields-written ps vs (pre ++ low 3 v) (i + 3) k (omega arith) (and_right (ltb v (256 ^ 3)) (fields_fit ps vs) f))
fields-written (false ∷ ps) (v ∷ vs) pre i l m f =
    ap₂ (λ x y. x ∷ y) (sym (eqb-true v 0 (and_left (eqb v 0) (fields_fit ps vs) f)))
    (fields-written ps vs pre (i + 0) (l ∙ sym (add-zero i)) (omega arith) (and_right (eqb v 0) (fields_fit ps vs) f))

pub written-length : (ps : List Bool) (vs : List ℕ) (i : ℕ) → length ps ≡ length vs → i + length (written ps vs) ≡ ends i ps
unfolding ends written
written-length [] vs i m = add-zero i
written-length (p ∷ ps) [] i m = absurd (omega arith)
written-length (true ∷ ps) (v ∷ vs) i m =
    let e = written-length ps vs (i + 3) (omega arith) in
    rw (length-append (low 3 v) (written ps vs), low-length 3 v) (omega arith)
written-length (false ∷ ps) (v ∷ vs) i m = ap (λ n. n + length (written ps vs)) (sym (add-zero i)) ∙ written-length ps vs (i + 0) (omega arith)

-- ---- writing what was read
ends_up : (ps : List Bool) (i : ℕ) → i ≤ ends i ps
unfolding ends
ends_up [] i = omega arith
ends_up (p ∷ ps) i = omega (arith, ends_up ps (after i p))

three-bytes : (s : List ℕ) (i : ℕ) → List ℕ
three-bytes s i = byte_at s i ∷ byte_at s (i + 1) ∷ byte_at s (i + 2) ∷ []

three_all : (s : List ℕ) (i : ℕ) → AllBytes s → AllBytes (three-bytes s i)
unfolding AllBytes three-bytes
three_all s i b zero = b i
three_all s i b (suc zero) = b (i + 1)
three_all s i b (suc (suc zero)) = b (i + 2)
three_all s i b (suc (suc (suc k))) = omega arith

three_on : (s : List ℕ) (i : ℕ) → i + 3 ≤ length s → drop i s ≡ three-bytes s i ++ drop (i + 3) s
unfolding three-bytes
three_on s i h =
    let e₁ : suc i ≡ i + 1 = omega arith in
    let e₂ : suc (i + 1) ≡ i + 2 = omega arith in
    let e₃ : suc (i + 2) ≡ i + 3 = omega arith in
    drop-cons s i 0 (omega arith)
    ∙ ap (λ l. byte_at s i ∷ l)
    (ap (λ n. drop n s) e₁ ∙ drop-cons s (i + 1) 0 (omega arith)
    ∙ ap (λ l. byte_at s (i + 1) ∷ l) (ap (λ n. drop n s) e₂ ∙ drop-cons s (i + 2) 0 (omega arith) ∙ ap (λ n. byte_at s (i + 2) ∷ drop n s) e₃))

three_back : (s : List ℕ) (i : ℕ) → AllBytes s → low 3 (three s i) ≡ three-bytes s i
unfolding three three-bytes
three_back s i b = low-number (three-bytes s i) (three_all s i b)

pub written-fields : (ps : List Bool) (s : List ℕ) (i : ℕ) → AllBytes s → ends i ps ≡ length s → written ps (fields s i ps) ≡ drop i s
unfolding fields ends written
written-fields [] s i b e = sym (drop_of_length-le s {i = i} (omega arith))
written-fields (true ∷ ps) s i b e =
    let u = ends_up ps (i + 3) in
    ap₂ (λ x y. x ++ y) (three_back s i b) (written-fields ps s (i + 3) b e) ∙ sym (three_on s i (omega arith))
written-fields (false ∷ ps) s i b e = written-fields ps s (i + 0) b e ∙ ap (λ n. drop n s) (add-zero i)

three_small : (s : List ℕ) (i : ℕ) → AllBytes s → three s i < 256 ^ 3
unfolding three number AllBytes
three_small s i b = omega (arith, b i, b (i + 1), b (i + 2))

pub fields_fit_lem : (ps : List Bool) (s : List ℕ) (i : ℕ) → AllBytes s → fields_fit ps (fields s i ps) ≡ true
unfolding fields fields_fit field_fits
fields_fit_lem [] s i b = refl
fields_fit_lem (true ∷ ps) s i b = rw (lt-ltb (three s i) (256 ^ 3) (three_small s i b)) (fields_fit_lem ps s (i + 3) b)
fields_fit_lem (false ∷ ps) s i b = fields_fit_lem ps s (i + 0) b
