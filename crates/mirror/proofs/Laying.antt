-- Laws of the mirrors as they are laid, for the functions that lay them.
use mathlib.Core.Path.{◌≡◌, refl, sym, ap, ap₂, ◌∙◌}
use mathlib.Core.Bool.{true, false}
use mathlib.Core.List.{List, [], ◌++◌, append-nil}
use Prim.Native.Nat.{ℕ, zero, suc, ◌+◌, ◌-◌, ◌*◌, ◌/◌, ◌≤◌}
use native.Mathlib.Omega.{arith}
use lib.ListN.{length, take, drop, length-drop, drop_of_length-le}
use lib.Seq.{drop_at, take-add, take-take, length-take-le}
use borrow.Author.Tests.{le-leb}
use Rattle.base.specs.Decide.{pick}
use Rattle.base.specs.Bytes.{over}
use Rattle.lines.specs.Hex.{chars_of, chars_room}
use Rattle.lines.proofs.Steps.{chars_length}
use Rattle.cbc.specs.Cbc.{across, sealed, cbc_out}
use Rattle.spans.specs.declared.Span.{Span}
use Rattle.mirror.specs.Mirrors.{mirror_at, stretch}

-- ---- one mirror
pub mirror_off : (s : Span) (bytes file : List ℕ) → s.present ≡ false → mirror_at s bytes file ≡ file
unfolding mirror_at
mirror_off s bytes file e = rw e refl

-- digits laid into a part of the file that is as long as they are
digits_exact : (text room : List ℕ) → length room ≡ length text * 2 → chars_room text room ≡ chars_of text
unfolding chars_room
digits_exact text room h =
    ap (λ t. pick t (over (chars_of text) room) room) (le-leb (length text * 2) (length room) (omega arith))
    ∙ ap (λ x. chars_of text ++ x) (drop_of_length-le room {i = length (chars_of text)} (omega (arith, chars_length text)))
    ∙ append-nil (chars_of text)

pub mirror_put : (s : Span) (text file digits : List ℕ) (n : ℕ) → s.present ≡ true → n ≡ length text * 2 → s.start + n ≤ length file
    → digits ≡ chars_room text (take n (drop s.start file)) → take s.start file ++ (digits ++ drop n (drop s.start file)) ≡ mirror_at s text file
unfolding mirror_at
mirror_put s text file digits n p e h d =
    let l : length (take n (drop s.start file)) ≡ length text * 2 =
    length-take-le n (drop s.start file) (omega (arith, length-drop s.start file)) ∙ e in
    ap₂ (λ x k. take s.start file ++ (x ++ drop k (drop s.start file))) (d ∙ digits_exact text _ l) (e ∙ sym (chars_length text))
    ∙ sym (ap (λ t. pick t (take s.start file ++ over (chars_of text) (drop s.start file)) file) p)

-- ---- ENC: of half a span only whole blocks count
across-front : (f g : List ℕ → List ℕ → List ℕ) (n : ℕ) (v s : List ℕ) → n * 16 ≤ length s
    → across f g n v (take (n * 16) s) ≡ across f g n v s
unfolding across
across-front f g zero v s h = refl
across-front f g (suc n) v s h =
    let e : suc n * 16 ≡ 16 + n * 16 = omega arith in
    let p : take 16 (take (suc n * 16) s) ≡ take 16 s = take-take 16 (suc n * 16) s (omega arith) in
    let q : drop 16 (take (suc n * 16) s) ≡ take (n * 16) (drop 16 s) =
    ap (λ k. drop 16 (take k s)) e
    ∙ ap (λ x. drop 16 x) (take-add 16 (n * 16) s)
    ∙ drop_at (take 16 s) (take (n * 16) (drop 16 s)) 16 (length-take-le 16 s (omega arith)) in
    ap₂ (λ x y. f v x ++ across f g n (g v x) y) p q
    ∙ ap (λ x. f v (take 16 s) ++ x) (across-front f g n (g v (take 16 s)) (drop 16 s) (simp length-drop (omega arith)))

cbc_front : (w : List (List ℕ)) (v s : List ℕ) → cbc_out w v (take (length s / 16 * 16) s) ≡ cbc_out w v s
unfolding cbc_out
cbc_front w v s =
    let l : length (take (length s / 16 * 16) s) ≡ length s / 16 * 16 = length-take-le (length s / 16 * 16) s (omega arith) in
    let k : length (take (length s / 16 * 16) s) / 16 ≡ length s / 16 = omega arith in
    ap (λ n. across (sealed w) (sealed w) n v (take (length s / 16 * 16) s)) k
    ∙ across-front (sealed w) (sealed w) (length s / 16) v s (omega arith)

pub enc-blocks : (w : List (List ℕ)) (v : List ℕ) (a n : ℕ) (file : List ℕ) → a + n ≤ length file
    → cbc_out w v (stretch a (a + n / 16 * 16) file) ≡ cbc_out w v (stretch a (a + n) file)
enc-blocks w v a n file h =
    let l : length (stretch a (a + n) file) ≡ a + n - a = length-take-le (a + n - a) (drop a file) (omega (arith, length-drop a file)) in
    let e : a + n / 16 * 16 - a ≡ length (stretch a (a + n) file) / 16 * 16 = omega arith in
    ap (λ k. cbc_out w v (take k (drop a file))) e
    ∙ ap (λ x. cbc_out w v x) (sym (take-take (length (stretch a (a + n) file) / 16 * 16) (a + n - a) (drop a file) (omega arith)))
    ∙ cbc_front w v (stretch a (a + n) file)

-- ---- MAC: of a start behind the end nothing is covered
pub no_stretch : (a e : ℕ) (file : List ℕ) → e ≤ a → stretch a e file ≡ []
no_stretch a e file h = let z : e - a ≡ 0 = omega arith in ap (λ n. take n (drop a file)) z
