-- The reads of one tap show one text (specs/OneTap.antt).
use mathlib.Core.Path.{◌≡◌, refl, sym, ap, ap₂, subst, ◌∙◌}
use mathlib.Core.Bool.{Bool, true, false, not}
use mathlib.Core.List.{List, [], ◌∷◌, ◌++◌}
use mathlib.Core.Logic.{◌⊎◌, inl, inr}
use Prim.Native.Nat.{ℕ, ◌+◌, ◌-◌, ◌%◌, ◌/◌, ◌≤◌, ◌<◌}
use native.Mathlib.Omega.{arith}
use lib.ListN.{length, take, drop, length-append, length-take}
use lib.Seq.{get_or-take, get_or-drop, take-append_seam, take-add, drop-drop}
use Rattle.base.specs.Decide.{pick, and}
use Rattle.base.specs.Bytes.{byte_at}
use Rattle.base.specs.Status.{operation_ok, iso_normal}
use Rattle.base.proofs.Bytes.{and_left, and_right}
use Rattle.state.specs.declared.Tapping.{Tapping}
use Rattle.state.specs.declared.Tag.{Tag}
use Rattle.state.specs.State.{reading_in, tapped}
use Rattle.soundness.specs.Sound.{alone_sound}
use Rattle.replies.specs.Answer.{Answer}
use Rattle.mirror.specs.Mirrors.{dynamic_cost}
use Rattle.taps.specs.Taps.{goes_on, started, tap_of, tap_part}
use Rattle.tag.specs.declared.Outcome.{Outcome}
use Rattle.tag.specs.declared.Outcome.TheVariants.{Replied, SmallRoom, WrongRandom, Unsound}
use Rattle.tag.specs.Way.{answered, noted}
use Rattle.tag.specs.Call.{with_status, reply_of, outcome_of, cost_by, replied, by_outcome}
use Rattle.series.specs.Series.{Asked, step, after, replies, accepting, accepts}
use Rattle.series.proofs.Choices.{not_both, way, not_true}
use Rattle.series.proofs.Settled.{tap-runs}
use Rattle.series.proofs.Fine.{sound_clauses}
use Rattle.series.proofs.Changes.{refused_call, sound-outcome}
use Rattle.demands.specs.Talks.{Said, heard, said, said_all}
use Rattle.one_tap.specs.OneTap.{from_of, count_of, part_asked, Reads, text_of, Taps, OfTap, Shown, OneRead, PartsOf, OneTextOfTap, OneTextFromStart}
use Rattle.one_tap.specs.OneTap.{data_in, ShowsByte, Agree, TwoAgree, AnyTwoAgree, Pieces, gathered, InPieces}
use Rattle.one_tap.proofs.Reading.{read_answer}

-- ---- an accepted call
-- there is a reply, so the tag is sound
replied_is : (o : Outcome) → replies o ≡ true → o ≡ Replied
replied_is Replied e = refl
replied_is SmallRoom e = absurd (not_both e)
replied_is WrongRandom e = absurd (not_both e)
replied_is Unsound e = absurd (not_both e)

pub has_reply : (t : Tag) (a : Asked) → accepts t a ≡ true → outcome_of t a.random a.room ≡ Replied
unfolding accepts
has_reply t a e = replied_is (outcome_of t a.random a.room) (and_left _ _ e)

status-accepts : (t : Tag) (a : Asked) → accepts t a ≡ true → accepting (answered t a.command a.random).status ≡ true
unfolding accepts
status-accepts t a e = and_right (replies (outcome_of t a.random a.room)) _ e

-- ---- the tap of a read
tap_by : (t : Tapping) (iso : Bool) (random : List ℕ) → (tap_of t iso random).iso ≡ iso
unfolding tap_of started goes_on
tap_by t iso random = way (λ (x : Tapping). x.iso ≡ iso) (goes_on t iso) (λ e. same iso t.iso (and_right t.on _ e)) (λ e. refl)
  where
    same : (a b : Bool) → pick a b (not b) ≡ true → b ≡ a
    same true b e = e
    same false b e = not_true b e

-- it goes on as it is by the command that it runs by
goes_itself : (on iso : Bool) → on ≡ true → and on (pick iso iso (not iso)) ≡ true
goes_itself on true e = rw e refl
goes_itself on false e = rw e refl

tap_goes : (t : Tapping) (random : List ℕ) → t.on ≡ true → tap_of t t.iso random ≡ t
unfolding tap_of goes_on
tap_goes t random e = rw (goes_itself t.on t.iso e) refl

-- ---- one read
module _ (t : Tag) (a : Asked) (iso : Bool) (h : Taps t a iso) where
  abbrev now : Tag
  now = tapped t (tap_of t.tap iso a.random)

  answer_is : answered t a.command a.random ≡ tap_part now (reading_in t.files 2) iso (from_of a.command iso) (count_of a.command iso)
  answer_is =
      read_answer t a.random h.free h.sdm a.command iso h.reads.asks (status-accepts t a h.reads.accepted)

  step_is : step t a ≡ now
  unfolding step replied tap_part
  step_is = ap₂ (λ (x : Answer) (o : Outcome). (by_outcome t x (noted t a.command) o).tag) answer_is (has_reply t a h.reads.accepted)

  said_is : (said t a).reply ≡ with_status (part_asked (text_of now) a.command iso) (pick iso iso_normal operation_ok)
  unfolding said reply_of tap_part part_asked text_of tapped
  said_is = ap₂ heard answer_is (has_reply t a h.reads.accepted)

  cost_is : (said t a).cost ≡ dynamic_cost (reading_in t.files 2)
  unfolding said tap_part
  cost_is = ap₂ cost_by answer_is (has_reply t a h.reads.accepted)

  one_shown : Shown t a iso
  unfolding tapped
  one_shown =
      record {
        reply = said_is ∙ ap (λ u. with_status (part_asked (text_of u) a.command iso) (pick iso iso_normal operation_ok)) (sym step_is);
        state = step_is;
        runs = ap (λ (u : Tag). u.tap.on) step_is ∙ tap-runs t.tap iso a.random;
        by = ap (λ (u : Tag). u.tap.iso) step_is ∙ tap_by t.tap iso a.random;
        cost = cost_is;
      }

pub one_read : OneRead
one_read t a iso h = one_shown t a iso h

-- ---- a tap that runs
alone_free : (on l p sdm : Bool) → on ≡ true → alone_sound on l p sdm ≡ true → (l ≡ false) × (sdm ≡ true)
unfolding alone_sound
alone_free true l p sdm o e = (not_true l (and_left (not l) _ e), and_right (not p) _ (and_right (not l) _ e))
alone_free false l p sdm o e = absurd (not_both o)

module _ (t : Tag) (on : t.tap.on ≡ true) (a : Asked) where
  going_taps : Reads t a t.tap.iso → Taps t a t.tap.iso
  going_taps r =
      let s = sound-outcome t a.random a.room (has_reply t a r.accepted) in
      let f = alone_free t.tap.on t.live.on t.pending.on (reading_in t.files 2).settings.head.sdm on (sound_clauses t s).alone in
      record { reads = r; free = f.0; sdm = f.1 }

  -- a read of it leaves the whole tag as it was
  read_stays : Reads t a t.tap.iso → step t a ≡ t
  unfolding tapped
  read_stays r = step_is t a t.tap.iso (going_taps r) ∙ ap (tapped t) (tap_goes t.tap a.random on)

  stays : Reads t a t.tap.iso ⊎ (replies (outcome_of t a.random a.room) ≡ false) → step t a ≡ t
  stays (inl r) = read_stays r
  stays (inr e) = refused_call t a e

  read_replies : Reads t a t.tap.iso
      → (said t a).reply ≡ with_status (part_asked (text_of t) a.command t.tap.iso) (pick t.tap.iso iso_normal operation_ok)
  read_replies r =
      (one_shown t a t.tap.iso (going_taps r)).reply
      ∙ ap (λ u. with_status (part_asked (text_of u) a.command t.tap.iso) (pick t.tap.iso iso_normal operation_ok)) (read_stays r)

pub one_text : OneTextOfTap
unfolding OfTap PartsOf after
one_text t on [] h = record { parts = tt; state = refl }
one_text t on (a ∷ more) h =
    let e = stays t on a h.0 in
    let rest = one_text (step t a) (subst (λ (u : Tag). u.tap.on ≡ true) (sym e) on) more h.1 in
    record {
      parts = (read_replies t on a, subst (λ x. PartsOf x (step t a) more) (ap text_of e) rest.parts);
      state = rest.state ∙ e;
    }

pub one_text_from_start : OneTextFromStart
one_text_from_start t a iso h more o = (one_shown t a iso h, one_text (step t a) (one_shown t a iso h).runs more o)

-- ---- data of a reply
data_of : (s : Said) (x : List ℕ) (status : ℕ) → s.reply ≡ with_status x status → data_in s ≡ x
unfolding data_in with_status
data_of s x status e =
    let two = status / 256 % 256 ∷ status % 256 ∷ [] in
    let n : length (x ++ two) - 2 ≡ length x = ap (λ k. k - 2) (length-append x two) ∙ omega arith in
    ap (λ y. take (length y - 2) y) e ∙ ap (λ k. take k (x ++ two)) n ∙ take-append_seam x two

module _ (t : Tag) (a : Asked) (iso : Bool) (h : Taps t a iso) where
  pub data_shown : data_in (said t a) ≡ part_asked (text_of (step t a)) a.command iso
  data_shown = data_of (said t a) _ (pick iso iso_normal operation_ok) (one_shown t a iso h).reply

-- of a tap that runs by this command
module _ (t : Tag) (on : t.tap.on ≡ true) (iso : Bool) (by : t.tap.iso ≡ iso) (b : Asked) (r : Reads t b iso) where
  own-reads : Reads t b t.tap.iso
  own-reads = subst (λ i. Reads t b i) (sym by) r

  data_later : data_in (said t b) ≡ part_asked (text_of t) b.command iso
  data_later = subst (λ i. data_in (said t b) ≡ part_asked (text_of t) b.command i) by (data_of (said t b) _ _ (read_replies t on b own-reads))

  later-stays : step t b ≡ t
  later-stays = read_stays t on b own-reads

-- ---- two reads agree
byte_of : (text c : List ℕ) (iso : Bool) (p : ℕ) → ShowsByte (from_of c iso) (part_asked text c iso) p
    → byte_at (part_asked text c iso) (p - from_of c iso) ≡ byte_at text p
unfolding part_asked
byte_of text c iso p s =
    let i = from_of c iso in
    let n = count_of c iso in
    let short : length (take n (drop i text)) ≤ n = simp length-take (omega arith) in
    let from : i ≤ p = s.begins in
    let to : p < i + length (take n (drop i text)) = s.ends in
    let there : i + (p - i) ≡ p = omega arith in
    get_or-take n (drop i text) (p - i) 0 (omega arith) ∙ get_or-drop i text (p - i) 0 ∙ ap (λ k. byte_at text k) there

agree_by : (text : List ℕ) (t u : Tag) (a b : Asked) (iso : Bool) → data_in (said t a) ≡ part_asked text a.command iso
    → data_in (said u b) ≡ part_asked text b.command iso → Agree t a u b iso
unfolding Agree
agree_by text t u a b iso e f p s q =
    let i = from_of a.command iso in
    let j = from_of b.command iso in
    ap (λ x. byte_at x (p - i)) e
    ∙ byte_of text a.command iso p (subst (λ x. ShowsByte i x p) e s)
    ∙ sym (byte_of text b.command iso p (subst (λ x. ShowsByte j x p) f q))
    ∙ sym (ap (λ x. byte_at x (p - j)) f)

pub two_agree : TwoAgree
two_agree t a iso h between o b r =
    let s = one_shown t a iso h in
    let u = step t a in
    let same : after u between ≡ u = (one_text u s.runs between o).state in
    let later = data_later u s.runs iso s.by b (subst (λ v. Reads v b iso) same r) in
    agree_by (text_of u) t (after u between) a b iso (data_shown t a iso h) (ap (λ v. data_in (said v b)) same ∙ later)

pub any_two_agree : AnyTwoAgree
any_two_agree t on before o a r between q b s =
    let v = after t before in
    let same : v ≡ t = (one_text t on before o).state in
    let runs : v.tap.on ≡ true = subst (λ (u : Tag). u.tap.on ≡ true) (sym same) on in
    let by : v.tap.iso ≡ t.tap.iso = ap (λ (u : Tag). u.tap.iso) same in
    let taps = subst (λ i. Taps v a i) by (going_taps v runs a (subst (λ i. Reads v a i) (sym by) r)) in
    two_agree v a t.tap.iso taps between q b s

-- ---- the phone
pieces_end : (t : Tag) (iso : Bool) (from : ℕ) (more : List Asked) → Pieces t iso from more → from ≤ 256
unfolding Pieces
pieces_end t iso from [] h = let e : from ≡ 256 = h in omega arith
pieces_end t iso from (a ∷ more) h =
    let e = pieces_end (step t a) iso (from + count_of a.command iso) more h.1.1 in omega arith

-- a part and the parts behind it
parts_join : (text : List ℕ) (from n : ℕ) → from + n ≤ 256
    → take n (drop from text) ++ take (256 - (from + n)) (drop (from + n) text) ≡ take (256 - from) (drop from text)
parts_join text from n h =
    let m : n + (256 - (from + n)) ≡ 256 - from = omega arith in
    ap (λ x. take n (drop from text) ++ take (256 - (from + n)) x) (sym (drop-drop n from text))
    ∙ sym (take-add n (256 - (from + n)) (drop from text))
    ∙ ap (λ k. take k (drop from text)) m

pieces_gather : (t : Tag) → t.tap.on ≡ true → (iso : Bool) → t.tap.iso ≡ iso → (from : ℕ) (more : List Asked) → Pieces t iso from more
    → gathered (said_all t more) ≡ take (256 - from) (drop from (text_of t))
unfolding Pieces gathered said_all part_asked
pieces_gather t on iso by from [] h =
    let z : 0 ≡ 256 - from = let e : from ≡ 256 = h in omega arith in
    ap (λ k. take k (drop from (text_of t))) z
pieces_gather t on iso by from (b ∷ more) h =
    let n = count_of b.command iso in
    let same = later-stays t on iso by b h.0 in
    let end : from + n ≤ 256 = pieces_end (step t b) iso (from + n) more h.1.1 in
    let rest : gathered (said_all (step t b) more) ≡ take (256 - (from + n)) (drop (from + n) (text_of (step t b))) =
    pieces_gather (step t b) (subst (λ (u : Tag). u.tap.on ≡ true) (sym same) on) iso (ap (λ (u : Tag). u.tap.iso) same ∙ by) (from + n) more h.1.1 in
    ap₂ (λ x y. x ++ y) (data_later t on iso by b h.0 ∙ ap (λ i. take n (drop i (text_of t))) h.1.0)
    (rest ∙ ap (λ u. take (256 - (from + n)) (drop (from + n) (text_of u))) same)
    ∙ parts_join (text_of t) from n end

pub in_pieces : InPieces
unfolding Pieces gathered said_all part_asked
in_pieces t a iso h more p whole r from count random =
    let s = one_shown t a iso h in
    let n = count_of a.command iso in
    let u = step t a in
    let end : 0 + n ≤ 256 = pieces_end u iso (0 + n) more p.1.1 in
    let all : Taps t whole iso = record { reads = r; free = h.free; sdm = h.sdm } in
    let same : step t whole ≡ u = step_is t whole iso all ∙ ap (λ x. tapped t (tap_of t.tap iso x)) random ∙ sym (step_is t a iso h) in
    ap₂ (λ x y. x ++ y) (data_shown t a iso h ∙ ap (λ i. take n (drop i (text_of u))) p.1.0)
    (pieces_gather u s.runs iso s.by (0 + n) more p.1.1)
    ∙ parts_join (text_of u) 0 n end
    ∙ sym (data_shown t whole iso all
    ∙ ap₂ (λ k i. take k (drop i (text_of (step t whole)))) count from
    ∙ ap (λ v. take 256 (drop 0 (text_of v))) same)
