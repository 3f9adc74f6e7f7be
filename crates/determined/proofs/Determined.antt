-- A promise determines the result: two results that it allows are equal, and so are the two lent rooms. Here the general lemma,
-- and one for each record of equations that a promise is.
use Rattle.base.specs.Bytes.{over}
use Rattle.determined.proofs.Words.{word_tells}
use Rattle.forms.specs.Rooms.{Lays, Writes}
use Rattle.forms.specs.declared.page.Page.{Page}
use Rattle.buffers.specs.Text.{text_of}
use Rattle.buffers.specs.declared.buffer.Buffer.{Buffer}
use Rattle.access.specs.declared.Grant.{Grant}
use Rattle.delivery.specs.declared.WrongUid.{WrongUid}
use Rattle.opening.specs.declared.NotOpened.{NotOpened}
use Rattle.closing.specs.declared.NotClosed.{NotClosed}
use Rattle.std.specs.Prelude.{Option, Result}
use mathlib.Core.Path.{◌≡◌, sym, ◌∙◌, ap, ap₂, subst}
use Rattle.std.proofs.Math.Bridge.{le_prop}
use mathlib.Core.List.{List}
use Prim.Native.Nat.{ℕ, ◌≤◌}
use native.Mathlib.Omega.{arith}
use lib.ListN.{length, replicate, length-append, length-drop}
use Rattle.std.proofs.lemmas.List.{length-replicate}
use lib.Seq.{length-take-le}
use Rattle.aes.specs.declared.Counted.{Counted}
use Rattle.cbc.specs.declared.Ragged.{Ragged}
use Rattle.cbc.specs.Cbc.{Chains}
use Rattle.closing.specs.declared.Closed.{Closed}
use Rattle.messaging.specs.declared.Mode.{Mode}
use Rattle.opening.specs.declared.Opened.{Opened}
use Rattle.messaging.specs.declared.Session.{Session}
use Rattle.opening.specs.Command.{Opens, OpensInto}
use Rattle.padding.specs.Padding.{Pads}
use Rattle.messaging.specs.Protect.{Opening}
use Rattle.closing.specs.Reply.{Seals, Closes}
use Rattle.sdm.specs.Tap.{Mirrors, Hides}
use Rattle.state.specs.declared.Tag.{Tag}
use Rattle.delivery.specs.Fresh.{Births}
use Rattle.replies.specs.declared.Done.{Done}
use Rattle.replies.specs.Answer.{Answer, answer_of, Gives}
use Rattle.tag.specs.declared.Called.{Called}
use Rattle.tag.specs.Call.{Calls, Laid, Replies}
use Rattle.determined.specs.Determining.{Determined, DeterminedIn, DeterminedRooms, DeterminedThree, SameBuffer, DeterminedBuffer, DeterminedPage, SameText, DeterminedText}

-- ---- the general lemma: for a result, for a result, and one, two or three rooms beside it
pub once : {A : Type 0} {x : A} → Determined (λ (r : A). r ≡ x)
once r q p h = p ∙ sym h

pub twice : {A : Type 0} {x : A} {y : List ℕ} → DeterminedIn (λ (r : A) (new : List ℕ). (r ≡ x) × (new ≡ y))
twice r q new other p h = (once r q p.0 h.0, once new other p.1 h.1)

pub thrice : {A : Type 0} {x : A} {y z : List ℕ}
    → DeterminedRooms (λ (r : A) (first second : List ℕ). (r ≡ x) × ((first ≡ y) × (second ≡ z)))
thrice r q first₁ first₂ second₁ second₂ p h = (once r q p.0 h.0, twice first₁ first₂ second₁ second₂ p.1 h.1)

pub fourfold : {A : Type 0} {w : A} {x y z : List ℕ}
    → DeterminedThree (λ (r : A) (first second third : List ℕ). (r ≡ w) × ((first ≡ x) × ((second ≡ y) × (third ≡ z))))
fourfold r q first₁ first₂ second₁ second₂ third₁ third₂ p h =
    (once r q p.0 h.0, thrice first₁ first₂ second₁ second₂ third₁ third₂ p.1 h.1)

-- ---- results that say what they cost: equal where both parts are
pub counted_once : {N : ℕ} (r q : Counted N) → r.bytes ≡ q.bytes → r.cost ≡ q.cost → r ≡ q
counted_once {N} r q e c = let made : List ℕ → ℕ → Counted N = λ b n. record { bytes = b; cost = n } in ap₂ made e c

opened_once : (r q : Opened) → r.data ≡ q.data → r.cost ≡ q.cost → r ≡ q
opened_once r q e c = let made : Result ℕ NotOpened → ℕ → Opened = λ b n. record { «data» = b; cost = n } in ap₂ made e c

-- ---- the records
pub chains_once : {f : List ℕ → List ℕ} {old : List ℕ} → DeterminedIn (λ (r : Result ℕ Ragged) (new : List ℕ). Chains f old r new)
chains_once r q new other p h = twice r q new other (p.told, p.left) (h.told, h.left)

pub pads_once : {n : ℕ} {old : List ℕ} → DeterminedIn (λ (r : Option ℕ) (new : List ℕ). Pads n old r new)
pads_once r q new other p h = twice r q new other (p.told, p.left) (h.told, h.left)

pub opens_once : {x : List ℕ} {o : Opening} {n : ℕ} {old : List ℕ} → DeterminedIn (λ (r : Opened) (new : List ℕ). Opens x o n old r new)
opens_once r q new other p h =
    (opened_once r q (p.answer ∙ sym h.answer) (p.cost ∙ sym h.cost), once new other p.room h.room)

pub closes_once : {s : Session} {m : Mode} {code n : ℕ} {old : List ℕ}
    → DeterminedIn (λ (r : Result Closed NotClosed) (new : List ℕ). Closes s m code n old r new)
closes_once r q new other p h = twice r q new other (p.answer, p.room) (h.answer, h.room)

pub hides_once : {key : List ℕ} {counter : ℕ} {old : List ℕ} → DeterminedIn (λ (r : Result ℕ Ragged) (new : List ℕ). Hides key counter old r new)
hides_once r q new other p h = twice r q new other (p.answer, p.text) (h.answer, h.text)

pub calls_once : {t : Tag} {c random old : List ℕ} → DeterminedIn (λ (r : Called) (new : List ℕ). Calls t c random old r new)
calls_once r q new other p h = twice r q new other (p.told, p.left) (h.told, h.left)

pub births_once : {uid : List ℕ} → Determined (λ (r : Result Tag WrongUid). Births uid r)
births_once r q p h = once r q p.told h.told

-- those of functions inside messaging and tag
pub seals_once : {p : List ℕ} {k : ℕ} {old : List ℕ} → DeterminedIn (λ (r : ℕ) (new : List ℕ). Seals p k old r new)
seals_once r q new other p h = twice r q new other (p.count, p.room) (h.count, h.room)

pub opens_into_once : {o : Opening} {n : ℕ} {old : List ℕ} → DeterminedIn (λ (r : Opened) (new : List ℕ). OpensInto o n old r new)
opens_into_once r q new other p h =
    (opened_once r q (p.answer ∙ sym h.answer) (p.cost ∙ sym h.cost), once new other p.room h.room)

pub mirrors_once : {p : List ℕ} → DeterminedIn (λ (n : ℕ) (b : List ℕ). Mirrors p b n)
mirrors_once n m b other p h = twice n m b other (p.count, p.bytes) (h.count, h.bytes)

pub laid_once : {text old : List ℕ} → DeterminedIn (λ (n : ℕ) (new : List ℕ). Laid text old n new)
laid_once n m new other p h = twice n m new other (p.count, p.room) (h.count, h.room)

pub replies_once : {a : Answer} {n : Option Grant} {old : List ℕ} → DeterminedIn (λ (r : Called) (new : List ℕ). Replies a n old r new)
replies_once r q new other p h = twice r q new other (p.told, p.left) (h.told, h.left)

-- the length of a buffer's text is its length
text_length : {N : ℕ} (b : Buffer N) → b.length ≤ N → length b.bytes ≡ N → length (text_of b) ≡ b.length
text_length b short sized = length-take-le b.length b.bytes (omega arith)

-- two buffers that hold one text
same_buffer : {N : ℕ} (r q : Buffer N) → length r.bytes ≡ N → length q.bytes ≡ N → text_of r ≡ text_of q → SameBuffer r q
same_buffer r q m n t =
    record { count = sym (text_length r r.fits m) ∙ ap length t ∙ text_length q q.fits n; text = t }

pub text_once : {N : ℕ} {s : List ℕ} → DeterminedBuffer (λ (r : Buffer N). text_of r ≡ s)
text_once r q m n p h = same_buffer r q m n (p ∙ sym h)

made : {N : ℕ} (bytes : List ℕ) (n : ℕ) → n ≤ N → Buffer N
made b n f = record { bytes = b; length = n; fits = f }

one_length : {N : ℕ} (b : List ℕ) (n k : ℕ) → n ≡ k → (f : n ≤ N) (g : k ≤ N) → made {N = N} b n f ≡ made {N = N} b k g
one_length {N} b n k e =
    subst (λ (x : ℕ). (f : n ≤ N) (g : x ≤ N) → made {N = N} b n f ≡ made {N = N} b x g) e (λ f g. ap (λ (x : n ≤ N). made {N = N} b n x) (le_prop f g))

-- a buffer is its array and its length
pub array_once : {N : ℕ} (r q : Buffer N) → r.bytes ≡ q.bytes → r.length ≡ q.length → r ≡ q
unfolding made
array_once {N} r q e k =
    ap (λ (x : List ℕ). made {N = N} x r.length r.fits) e ∙ one_length q.bytes r.length q.length k r.fits q.fits

-- the text and the array tell the length
pub both_once : {N : ℕ} {s b : List ℕ} → length b ≡ N → Determined (λ (r : Buffer N). (text_of r ≡ s) × (r.bytes ≡ b))
both_once sized r q p h =
    let m : length r.bytes ≡ _ = ap length p.1 ∙ sized in
    let n : length q.bytes ≡ _ = ap length h.1 ∙ sized in
    let same : SameBuffer r q = same_buffer r q m n (p.0 ∙ sym h.0) in
    array_once r q (p.1 ∙ sym h.1) same.count

-- a text laid over a room that takes it leaves the room's length
pub over_length : (s : List ℕ) (n : ℕ) → length s ≤ n → length (over s (replicate n 0)) ≡ n
over_length s n f = simp (length-append, length-drop, length-replicate) (omega arith)

-- ---- answers: all that an answer says is determined, and its length
gives_says : {a : Answer} {d e : Done} → Gives a d → Gives a e → answer_of d ≡ answer_of e
gives_says p h = p.says ∙ sym h.says

pub gives_once : {a : Answer} → DeterminedText (λ (r : Done). Gives a r)
unfolding answer_of
gives_once d e m n p h =
    let s : answer_of d ≡ answer_of e = gives_says p h in
    let t : text_of d.data ≡ text_of e.data = ap (λ (x : Answer). x.text) s in
    let short_d : d.data.length ≤ 258 = omega (arith, p.short) in
    let short_e : e.data.length ≤ 258 = omega (arith, h.short) in
    record {
      status = word_tells d.status e.status m.status n.status (ap (λ (x : Answer). x.status) s);
      count = sym (text_length d.data short_d m.bytes) ∙ ap length t ∙ text_length e.data short_e n.bytes;
      text = t;
      tag = ap (λ (x : Answer). x.tag) s;
      cost = ap (λ (x : Answer). x.cost) s;
    }

-- and no more: an answer that is alike meets the promise too, whatever stands behind the length
pub gives_open : (a : Answer) (d e : Done) → Gives a d → SameText d e → Gives a e
unfolding answer_of
gives_open a d e p k =
    let s : answer_of d ≡ answer_of e = rw (k.status, k.text, k.tag, k.cost) in
    let l : d.data.length ≤ 256 = p.short in
    let c : d.data.length ≡ e.data.length = k.count in
    record { says = sym s ∙ p.says; short = omega arith }

-- ---- lent rooms with text laid into them, and pages
pub lays_once : {text : List ℕ} {n : ℕ} {old : List ℕ} → DeterminedIn (λ (r : ℕ) (new : List ℕ). Lays text n old r new)
lays_once r q new other p h = twice r q new other (p.end, p.left) (h.end, h.left)

pub writes_once : {text : List ℕ} {old : Page} → DeterminedPage (λ (new : Page). Writes text old new)
writes_once new other p h = record { used = p.laid.end ∙ sym h.laid.end; room = p.laid.left ∙ sym h.laid.left }
