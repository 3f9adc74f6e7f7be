-- The normal form: what it changes, and that it is the same string to every rule and every reader.
use mathlib.Core.Path.{◌≡◌, refl, ap, ap₂, ◌∙◌}
use mathlib.Core.Bool.{Bool, true, false}
use mathlib.Core.List.{List, [], ◌∷◌}
use mathlib.Core.Logic.{⊎_elim}
use Prim.Native.Nat.{ℕ, ◌+◌, ◌-◌, ◌/◌, ◌%◌, ◌≤◌, ◌<◌}
use native.Mathlib.Omega.{arith}
use lib.Dec.{eqb}
use lib.ListN.{length, set, length-set}
use lib.Seq.{get_or-set_other}
use borrow.Author.Tests.{eq-eqb, ne_eqb}
use Rattle.std.specs.Prelude.{Err}
use Rattle.base.specs.Decide.{pick, and}
use Rattle.base.specs.Bytes.{byte_at}
use Rattle.base.proofs.Bytes.{le_or_lt}
use Rattle.fields.specs.declared.Head.{Head}
use Rattle.settings.specs.declared.Fault.TheVariants.{File}
use Rattle.fields.specs.Fields.{bit, sdm_on, sdm_byte, mode_of, head_of, present, three, after, fields, places_in, places_of, read_of}
use Rattle.rules.specs.Rules.{found, option_bits, sdm_rules, rest_rules, rules}
use Rattle.fields.specs.Normal.{plain_mode, free_bits, normal}
use Rattle.settings.specs.Filing.{by_fault}
use Rattle.settings.specs.Answers.{verdict_of, judged}

-- a number is 2 or not
two_or-not : (P : Bool → Type 0) (x : ℕ) → (x ≡ 2 → P true) → ((x ≡ 2 → ⊥) → P false) → P (eqb x 2)
two_or-not P x f g =
    ⊎_elim
    (λ (h : x ≤ 2). ⊎_elim (λ (k : 2 ≤ x). rw (eq-eqb x 2 (omega arith)) (f (omega arith))) (λ (k : x < 2). rw (ne_eqb x 2 (λ e. omega arith)) (g (λ e. omega arith))) (le_or_lt 2 x))
    (λ (h : 2 < x). rw (ne_eqb x 2 (λ e. omega arith)) (g (λ e. omega arith)))
    (le_or_lt x 2)

-- FileOption with Plain as 00: 2 less where the mode bits are 10
plain_cases : (P : ℕ → Type 0) (x : ℕ) → (x % 4 ≡ 2 → P (x - 2)) → ((x % 4 ≡ 2 → ⊥) → P x) → P (plain_mode x)
unfolding plain_mode
plain_cases P x f g = two_or-not (λ t. P (pick t (x - 2) x)) (x % 4) f g

pub plain_twice : (x : ℕ) → plain_mode (plain_mode x) ≡ plain_mode x
unfolding plain_mode
plain_twice x =
    plain_cases (λ y. plain_mode y ≡ y) x (λ e. rw (ne_eqb ((x - 2) % 4) 2 (λ f. omega arith)) refl)
    (λ e. rw (ne_eqb (x % 4) 2 e) refl)

pub plain-sdm : (x : ℕ) → bit 6 (plain_mode x) ≡ bit 6 x
plain-sdm x =
    plain_cases (λ y. bit 6 y ≡ bit 6 x) x
    (λ e. let q : (x - 2) / 64 % 2 ≡ x / 64 % 2 = omega arith in ap (λ y. eqb y 1) q)
    (λ e. refl)

pub plain-mode : (x : ℕ) → mode_of (plain_mode x) ≡ mode_of x
unfolding mode_of
plain-mode x =
    plain_cases (λ y. mode_of y ≡ mode_of x) x
    (λ e. rw (ne_eqb ((x - 2) % 4) 2 (λ f. omega arith), eq-eqb (x % 4) 2 e) (omega arith))
    (λ e. refl)

pub plain_option : (x : ℕ) → option_bits (plain_mode x) ≡ option_bits x
unfolding option_bits
plain_option x =
    plain_cases (λ y. option_bits y ≡ option_bits x) x
    (λ e.
    let q : (x - 2) / 128 ≡ x / 128 = omega arith in
    let r : (x - 2) / 4 % 16 ≡ x / 4 % 16 = omega arith in
    ap₂ (λ y z. and (eqb y 0) (eqb z 0)) q r)
    (λ e. refl)

free_twice : (t : Bool) (x : ℕ) → free_bits t (free_bits t x) ≡ free_bits t x
unfolding free_bits
free_twice true x = omega arith
free_twice false x = refl

free-low : (t : Bool) (x : ℕ) → free_bits t x % 16 ≡ x % 16
unfolding free_bits
free-low true x = omega arith
free-low false x = refl

-- ---- byte by byte
pub normal-length : (s : List ℕ) → length (normal s) ≡ length s
unfolding normal
normal-length s = simp length-set

pub normal_first : (s : List ℕ) → byte_at (normal s) 0 ≡ plain_mode (byte_at s 0)
unfolding normal plain_mode
normal_first [] = refl
normal_first (x ∷ s) = refl

pub normal-sdm : (s : List ℕ) → sdm_on (normal s) ≡ sdm_on s
unfolding sdm_on
normal-sdm s = ap (λ x. bit 6 x) (normal_first s) ∙ plain-sdm (byte_at s 0)

normal_fifth : (s : List ℕ) → byte_at (normal s) 4 % 16 ≡ byte_at s 4 % 16
unfolding normal
normal_fifth [] = refl
normal_fifth (a ∷ []) = refl
normal_fifth (a ∷ b ∷ []) = refl
normal_fifth (a ∷ b ∷ c ∷ []) = refl
normal_fifth (a ∷ b ∷ c ∷ d ∷ []) = refl
normal_fifth (a ∷ b ∷ c ∷ d ∷ x ∷ s) = free-low (sdm_on (a ∷ b ∷ c ∷ d ∷ x ∷ s)) x

pub normal_other : (s : List ℕ) (i : ℕ) → (i ≡ 0 → ⊥) → (i ≡ 4 → ⊥) → byte_at (normal s) i ≡ byte_at s i
unfolding normal
normal_other s i h k = get_or-set_other (set s 0 _) 4 i _ 0 k ∙ get_or-set_other s 0 i _ 0 h

-- ---- Normalising twice adds nothing
pub normal_twice : (s : List ℕ) → normal (normal s) ≡ normal s
unfolding normal sdm_on
normal_twice [] = refl
normal_twice (a ∷ []) = ap (λ x. x ∷ []) (plain_twice a)
normal_twice (a ∷ b ∷ []) = ap (λ x. x ∷ b ∷ []) (plain_twice a)
normal_twice (a ∷ b ∷ c ∷ []) = ap (λ x. x ∷ b ∷ c ∷ []) (plain_twice a)
normal_twice (a ∷ b ∷ c ∷ d ∷ []) = ap (λ x. x ∷ b ∷ c ∷ d ∷ []) (plain_twice a)
normal_twice (a ∷ b ∷ c ∷ d ∷ x ∷ s) =
    ap₂ (λ y z. y ∷ b ∷ c ∷ d ∷ z ∷ s) (plain_twice a)
    (ap (λ t. free_bits t (free_bits (bit 6 a) x)) (plain-sdm a) ∙ free_twice (bit 6 a) x)

-- ---- the normal form means the same
normal_byte : (s : List ℕ) (i : ℕ) → (i ≡ 0 → ⊥) → (i ≡ 4 → ⊥) → sdm_byte (normal s) i ≡ sdm_byte s i
unfolding sdm_byte
normal_byte s i h k = ap₂ (λ t x. pick t x 0) (normal-sdm s) (normal_other s i h k)

normal-low : (s : List ℕ) → sdm_byte (normal s) 4 % 16 ≡ sdm_byte s 4 % 16
unfolding sdm_byte
normal-low s = ap (λ t. pick t (byte_at (normal s) 4) 0 % 16) (normal-sdm s) ∙ low (sdm_on s)
  where
    low : (t : Bool) → pick t (byte_at (normal s) 4) 0 % 16 ≡ pick t (byte_at s 4) 0 % 16
    low true = normal_fifth s
    low false = refl

pub normal_head : (s : List ℕ) → head_of (normal s) ≡ head_of s
unfolding head_of
normal_head s =
    let b₁ = normal_other s 1 (λ e. omega arith) (λ e. omega arith) in
    let b₂ = normal_other s 2 (λ e. omega arith) (λ e. omega arith) in
    let o = normal_byte s 3 (λ e. omega arith) (λ e. omega arith) in
    let q = normal_byte s 5 (λ e. omega arith) (λ e. omega arith) in
    let m = ap mode_of (normal_first s) ∙ plain-mode (byte_at s 0) in
    rw (m, b₁, b₂, o, q, normal-low s, normal-sdm s) refl

normal-three : (s : List ℕ) (i : ℕ) → 5 ≤ i → three (normal s) i ≡ three s i
unfolding three
normal-three s i h =
    let a = normal_other s i (λ e. omega arith) (λ e. omega arith) in
    let b = normal_other s (i + 1) (λ e. omega arith) (λ e. omega arith) in
    let c = normal_other s (i + 2) (λ e. omega arith) (λ e. omega arith) in
    rw (a, b, c) refl

normal-fields : (ps : List Bool) (s : List ℕ) (i : ℕ) → 5 ≤ i → fields (normal s) i ps ≡ fields s i ps
unfolding fields
normal-fields [] s i h = refl
normal-fields (p ∷ ps) s i h =
    ap₂ (λ x l. pick p x 0 ∷ l) (normal-three s i h) (normal-fields ps s (after i p) (omega arith))

pub normal_places : (s : List ℕ) (h : Head) → places_in (normal s) h ≡ places_in s h
unfolding places_in
normal_places s h = ap places_of (normal-fields (present h) s 6 (omega arith))

-- Reading the normal form gives what reading the string gives
pub normal-reads : (s : List ℕ) → read_of (normal s) ≡ read_of s
unfolding read_of
normal-reads s =
    ap₂ (λ h p. record { head = h; places = p }) (normal_head s)
    (ap (λ h. places_in (normal s) h) (normal_head s) ∙ normal_places s (head_of s))

-- ---- and is judged the same
normal-sdm-rules : (s : List ℕ) (h : Head) → sdm_rules (normal s) h ≡ sdm_rules s h
unfolding sdm_rules
normal-sdm-rules s h = rw (normal-length s, normal_other s 3 (λ e. omega arith) (λ e. omega arith), normal_places s h) refl

normal-rules : (n : ℕ) (s : List ℕ) → rules n (normal s) ≡ rules n s
unfolding rules rest_rules
normal-rules n s =
    let o = ap option_bits (normal_first s) ∙ plain_option (byte_at s 0) in
    rw (normal-length s, o, normal_head s, normal-sdm s, normal-sdm-rules s (head_of s)) refl

pub normal-judged : (n : ℕ) (s : List ℕ) → judged n (normal s) ≡ judged n s
unfolding judged
normal-judged n s = ap (λ l. by_fault n (λ f. Err (File f)) (verdict_of (found l))) (normal-rules n s)
