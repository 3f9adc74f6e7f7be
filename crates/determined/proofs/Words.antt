-- A status word tells its status: no two have one word.
use Rattle.std.specs.Prelude.{List, [], ◌∷◌, ◌≡◌, ℕ, ◌+◌, ◌-◌, ◌<◌, refl, eqb, leb, ltb, Result, Ok, Err}
use Rattle.std.proofs.Common.{sym, ap, ◌∙◌, arith, lt-ltb, le-leb}
use Rattle.base.specs.Decide.{pick, and}
use Rattle.order.specs.declared.Command.{Command}
use Rattle.order.specs.Commands.{Ordered, in_words}
use Rattle.statuses.specs.declared.Status.{Status}
use Rattle.statuses.specs.declared.Status.TheVariants as status
use Rattle.statuses.specs.Words.{status_word, word_or_0}
use Rattle.determined.specs.Determining.{Worded, DeterminedStatus, DeterminedWord}

-- all but 6C and a byte
plain : List Status
plain =
    status.OperationOk ∷ status.IllegalCommandCode ∷ status.IntegrityError ∷ status.NoSuchKey ∷ status.LengthError ∷ status.PermissionDenied
    ∷ status.ParameterError ∷ status.AuthenticationError ∷ status.AdditionalFrame ∷ status.BoundaryError ∷ status.CommandAborted
    ∷ status.FileNotFound ∷ status.IsoNormal ∷ status.IsoWrongLength ∷ status.IsoSecurity ∷ status.IsoConditions ∷ status.IsoWrongData
    ∷ status.IsoNotFound ∷ status.IsoWrongP1P2 ∷ status.IsoWrongLc ∷ status.IsoUnknownInstruction ∷ status.IsoUnknownClass ∷ []

with_word : ℕ → List Status → Status
with_word n [] = status.OperationOk
with_word n (s ∷ ss) = pick (eqb (status_word s) n) s (with_word n ss)

-- the status of a word
of_word : ℕ → Status
of_word n = pick (and (leb 0x6C00 n) (ltb n 0x6D00)) (status.WrongLe (n - 0x6C00)) (with_word n plain)

behind_6c : (n : ℕ) → n < 256 → of_word (0x6C00 + n) ≡ status.WrongLe n
unfolding of_word
behind_6c n w =
    let there : 0x6C00 + n - 0x6C00 ≡ n = omega arith in
    rw (le-leb 0x6C00 (0x6C00 + n) (omega arith), lt-ltb (0x6C00 + n) 0x6D00 (omega arith), there) refl

back : (s : Status) → Worded s → of_word (status_word s) ≡ s
unfolding of_word with_word plain
back status.OperationOk w = refl
back status.IllegalCommandCode w = refl
back status.IntegrityError w = refl
back status.NoSuchKey w = refl
back status.LengthError w = refl
back status.PermissionDenied w = refl
back status.ParameterError w = refl
back status.AuthenticationError w = refl
back status.AdditionalFrame w = refl
back status.BoundaryError w = refl
back status.CommandAborted w = refl
back status.FileNotFound w = refl
back status.IsoNormal w = refl
back status.IsoWrongLength w = refl
back status.IsoSecurity w = refl
back status.IsoConditions w = refl
back status.IsoWrongData w = refl
back status.IsoNotFound w = refl
back status.IsoWrongP1P2 w = refl
back status.IsoWrongLc w = refl
back (status.WrongLe n) w = behind_6c n w
back status.IsoUnknownInstruction w = refl
back status.IsoUnknownClass w = refl

pub word_tells : (s t : Status) → Worded s → Worded t → status_word s ≡ status_word t → s ≡ t
word_tells s t a b e = sym (back s a) ∙ ap of_word e ∙ back t b

-- no status has the word 0
above_0 : (s : Status) → 0 < status_word s
above_0 status.OperationOk = omega arith
above_0 status.IllegalCommandCode = omega arith
above_0 status.IntegrityError = omega arith
above_0 status.NoSuchKey = omega arith
above_0 status.LengthError = omega arith
above_0 status.PermissionDenied = omega arith
above_0 status.ParameterError = omega arith
above_0 status.AuthenticationError = omega arith
above_0 status.AdditionalFrame = omega arith
above_0 status.BoundaryError = omega arith
above_0 status.CommandAborted = omega arith
above_0 status.FileNotFound = omega arith
above_0 status.IsoNormal = omega arith
above_0 status.IsoWrongLength = omega arith
above_0 status.IsoSecurity = omega arith
above_0 status.IsoConditions = omega arith
above_0 status.IsoWrongData = omega arith
above_0 status.IsoNotFound = omega arith
above_0 status.IsoWrongP1P2 = omega arith
above_0 status.IsoWrongLc = omega arith
above_0 status.IsoUnknownInstruction = omega arith
above_0 status.IsoUnknownClass = omega arith
above_0 (status.WrongLe n) = omega arith

not_0 : (s : Status) → status_word s ≡ 0 → ⊥
not_0 s e =
    let k : 0 < status_word s = above_0 s in
    omega arith

pub status_once : {n : ℕ} → DeterminedStatus (λ (s : Status). status_word s ≡ n)
status_once s t a b p h = word_tells s t a b (p ∙ sym h)

pub refusal_once : {n : ℕ} → DeterminedWord (λ (r : Result (Unit {0}) Status). word_or_0 r ≡ n)
refusal_once (Ok x) (Ok y) a b p h = refl
refusal_once (Ok x) (Err t) a b p h = absurd (not_0 t (h ∙ sym p))
refusal_once (Err s) (Ok y) a b p h = absurd (not_0 s (p ∙ sym h))
refusal_once (Err s) (Err t) a b p h = ap (λ (x : Status). Err x) (word_tells s t a b (p ∙ sym h))

pub ordered_once : {o : Ordered} → DeterminedWord (λ (r : Result Command Status). in_words r ≡ o)
ordered_once (Ok k) (Ok l) a b p h =
    let e : k ≡ l = cc in
    ap (λ (x : Command). Ok x) e
ordered_once (Ok k) (Err t) a b p h =
    let z : ◌≡◌ {A = ℕ} 0 1 = cc in
    absurd (omega arith)
ordered_once (Err s) (Ok l) a b p h =
    let z : ◌≡◌ {A = ℕ} 0 1 = cc in
    absurd (omega arith)
ordered_once (Err s) (Err t) a b p h =
    let e : status_word s ≡ status_word t = cc in
    ap (λ (x : Status). Err x) (word_tells s t a b e)
