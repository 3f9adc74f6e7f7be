-- What locking means (specs/Locking.antt): no right that is F is granted, and a write or a change of another file stays in its own place.
use Rattle.std.specs.Prelude.{Ok}
use mathlib.Core.Path.{◌≡◌, refl, sym, subst, ap, ◌∙◌}
use mathlib.Core.Bool.{Bool, true, false}
use mathlib.Core.List.{List, [], ◌∷◌}
use mathlib.Core.Logic.{◌⊎◌, inl, inr, ⊎_elim}
use Prim.Native.Nat.{ℕ, ◌+◌, ◌≤◌}
use native.Mathlib.Omega.{arith}
use lib.Dec.{eqb}
use lib.ListN.{length}
use borrow.Author.Tests.{eqb-true, eq-eqb, ne_eqb, leb-true}
use Rattle.base.specs.Decide.{pick, and}
use Rattle.base.proofs.Bytes.{le_or_lt, and_left, and_right}
use Rattle.messaging.specs.declared.Mode.{Mode}
use Rattle.settings.specs.Answers.{judged}
use Rattle.fields.specs.declared.Head.{Head}
use Rattle.fields.specs.Fields.{read_of}
use Rattle.spans.specs.Spans.{reading_of}
use Rattle.locks.specs.Locks.{locked}
use Rattle.access.specs.declared.Right.{Right}
use Rattle.access.specs.declared.Right.TheVariants.{Write, ReadWrite, Change}
use Rattle.access.specs.declared.Grant.{Grant}
use Rattle.access.specs.declared.Grant.TheVariants.{ByKey, Free, Never, Denied}
use Rattle.access.specs.Access.{condition_of, first_of, all_never, granted, write_grant, change_grant, grant_for}
use Rattle.state.specs.declared.Live.{Live}
use Rattle.state.specs.declared.Tag.{Tag}
use Rattle.state.specs.State.{start_of, size_of, file_of, slot_of, rules_of, reading_in}
use Rattle.soundness.specs.Sound.{sound_tag}
use Rattle.file_parts.specs.Filing.{with_bytes}
use Rattle.change_settings.specs.ChangeSettings.{with_rules}
use Rattle.tag.specs.declared.Outcome.{Outcome}
use Rattle.tag.specs.declared.Outcome.TheVariants.{Replied, SmallRoom, WrongRandom, Unsound}
use Rattle.tag.specs.Way.{answered, noted}
use Rattle.tag.specs.Call.{outcome_of, replied, unanswered, by_outcome}
use Rattle.series.specs.Series.{Asked, step, after, allows}
use Rattle.series.proofs.Choices.{not_both, both_true}
use Rattle.series.proofs.Clauses.{keys_live}
use Rattle.series.proofs.Fine.{sound_clauses}
use Rattle.series.proofs.Places.{part_stays, below-or_above, slot-stays, slot_other, same_slot, file-order, no_bytes}
use Rattle.series.proofs.Settled.{pad_out, good-file, whole}
use Rattle.series.proofs.Writes.{Writable, Puts}
use Rattle.series.proofs.Walk.{Sent}
use Rattle.series.proofs.Filed.{files-left}
use Rattle.series.proofs.Changes.{sound-outcome}
use Rattle.demands.specs.Locking.{Locked, Unchanged, Lasts, CallKeeps, SeriesKeeps, SecondKept, PromiseKeeps, PlayedKeeps, SaysLocked}
use Rattle.demands.proofs.Calling.{call_speaks, series_speaks}

-- ---- F is granted to no session whose key is 0 to 4, and to none without a session
first_none : (c : ℕ) (so : Right → Grant) (rs : List Right) (h : Head) (rest : Grant) → (c ≡ 15 → ⊥) → all_never rs h 15 ≡ true
    → first_of c so rs h rest ≡ rest
unfolding first_of all_never
first_none c so [] h rest other e = refl
first_none c so (r ∷ rs) h rest other e =
    let f : condition_of r h ≡ 15 = eqb-true (condition_of r h) 15 (and_left (eqb (condition_of r h) 15) (all_never rs h 15) e) in
    rw (ne_eqb (condition_of r h) c (λ q. other (sym q ∙ f)))
    (first_none c so rs h rest other (and_right (eqb (condition_of r h) 15) (all_never rs h 15) e))

never-granted : (l : Live) (h : Head) (rs : List Right) → (l.on ≡ true → l.key ≤ 4) → all_never rs h 15 ≡ true → granted l h rs 15 ≡ Never
unfolding granted
never-granted l h rs key e = by l.on refl
  where
    free : first_of 14 Free rs h (pick (all_never rs h 15) Never Denied) ≡ Never
    free = first_none 14 Free rs h (pick (all_never rs h 15) Never Denied) (λ z. omega arith) e ∙ ap (λ b. pick b Never Denied) e

    by : (on : Bool) → l.on ≡ on → pick on (first_of l.key ByKey rs h (first_of 14 Free rs h (pick (all_never rs h 15) Never Denied)))
        (first_of 14 Free rs h (pick (all_never rs h 15) Never Denied)) ≡ Never
    by true o = first_none l.key ByKey rs h _ (λ z. let k = key o in omega arith) e ∙ free
    by false o = free

-- ---- one tag with a locked file, its session's key 0 to 4
module _ (t : Tag) (n : ℕ) (l : Locked t n) (key : t.live.on ≡ true → t.live.key ≤ 4) where
  abbrev rights_in : ℕ → Head
  rights_in m = (reading_in t.files m).settings.head

  no_write : (m : ℕ) → Writable t m → m ≡ n → ⊥
  unfolding write_grant all_never condition_of
  no_write m a q =
      let h = rights_in n in
      let f = both_true (eq-eqb h.write 15 l.write) (both_true (eq-eqb h.read_write 15 l.read_write) refl) in
      let g = never-granted t.live h (Write ∷ ReadWrite ∷ []) key f in
      not_both (sym (ap allows g) ∙ subst (Writable t) q a)

  no_change : (m : ℕ) → allows (change_grant t.live (rights_in m)) ≡ true → m ≡ n → ⊥
  unfolding change_grant all_never condition_of
  no_change m a q =
      let h = rights_in n in
      let g = never-granted t.live h (Change ∷ []) key (both_true (eq-eqb h.change 15 l.change) refl) in
      not_both (sym (ap allows g) ∙ subst (λ k. allows (change_grant t.live (rights_in k)) ≡ true) q a)

  -- ---- what is written into another file ends where that file ends
  written_apart : (m at : ℕ) (p : List ℕ) → Puts t m at p → slot_of n ≤ 2
      → (start_of m + at + length p ≤ start_of n) ⊎ (start_of n + size_of n ≤ start_of m + at)
  written_apart m at p w real =
      let other : slot_of m ≡ slot_of n → ⊥ = λ s. no_write m w.allowed (same_slot m n s real) in
      let i = w.inside in
      ⊎_elim (λ h. let f = file-order m n h in inl (omega arith)) (λ h. let f = file-order n m h in inr (omega arith)) (below-or_above (slot_of m) (slot_of n) other)

  written-bytes : (m at : ℕ) (p : List ℕ) → Puts t m at p → file_of (with_bytes t.files m at p) n ≡ file_of t.files n
  unfolding file_of with_bytes
  written-bytes m at p w =
      ⊎_elim (λ h. part_stays p t.files.bytes (start_of m + at) (start_of n) (size_of n) (written_apart m at p w h))
      (λ h. let z = no_bytes n h in rw z refl)
      (le_or_lt (slot_of n) 2)

  write_keeps : (m at : ℕ) (p : List ℕ) → Puts t m at p → Unchanged t.files (with_bytes t.files m at p) n
  unfolding rules_of with_bytes
  write_keeps m at p w = record { bytes = written-bytes m at p w; string = refl; slot = refl }

  -- ---- another file's string has another place
  change_keeps : (c : List ℕ) (m : ℕ) (p : List ℕ) (mode : Mode) → Sent t c m p mode → judged m p ≡ Ok tt
      → Unchanged t.files (with_rules t.files m (pad_out p) (length p)) n
  unfolding file_of with_rules grant_for
  change_keeps c m p mode s g =
      let other : slot_of m ≡ slot_of n → ⊥ = λ e. no_change m s.allowed (sym (same_slot n m (sym e) (good-file m p g))) in
      record {
        bytes = refl;
        string = slot_other m n t.files (pad_out p) (length p) (whole m p g) other;
        slot = slot-stays m n t.files (pad_out p) (length p) (whole m p g) other;
      }

  answered_keeps : (c random : List ℕ) → Unchanged t.files (answered t c random).tag.files n
  answered_keeps c random =
      files-left t c random (λ f. Unchanged t.files f n)
      (record { stays = record { bytes = refl; string = refl; slot = refl }; writes = write_keeps; restrings = change_keeps c })

-- ---- a call
still_locked : (t u : Tag) (n : ℕ) → rules_of u.files n ≡ rules_of t.files n → Locked t n → Locked u n
unfolding reading_in
still_locked t u n e l =
    let h : (reading_of (read_of (rules_of u.files n))).settings.head ≡ (reading_of (read_of (rules_of t.files n))).settings.head =
    ap (λ s. (reading_of (read_of s)).settings.head) e in
    record {
      write = ap (λ (x : Head). x.write) h ∙ l.write;
      read_write = ap (λ (x : Head). x.read_write) h ∙ l.read_write;
      change = ap (λ (x : Head). x.change) h ∙ l.change;
    }

lasting : (t u : Tag) (n : ℕ) → Locked t n → Unchanged t.files u.files n → Lasts t u n
lasting t u n l k = record { kept = k; locked = still_locked t u n k.string l }

sound-key : (t : Tag) → sound_tag t ≡ true → t.live.on ≡ true → t.live.key ≤ 4
sound-key t e o = leb-true t.live.key 4 (keys_live t.live.on t.pending.on t.live.key t.pending.key (sound_clauses t e).keys o)

pub call_keeps : CallKeeps
unfolding step replied unanswered
call_keeps t n l a = lasting t (step t a) n l (by (outcome_of t a.random a.room) refl)
  where
    same : Unchanged t.files t.files n
    same = record { bytes = refl; string = refl; slot = refl }

    by : (o : Outcome) → outcome_of t a.random a.room ≡ o
        → Unchanged t.files (by_outcome t (answered t a.command a.random) (noted t a.command) o).tag.files n
    by Replied e = answered_keeps t n l (sound-key t (sound-outcome t a.random a.room e)) a.command a.random
    by SmallRoom e = same
    by WrongRandom e = same
    by Unsound e = same

-- ---- any series
both_last : (t u v : Tag) (n : ℕ) → Lasts t u n → Lasts u v n → Lasts t v n
both_last t u v n h k =
    record {
      kept =
          record {
            bytes = k.kept.bytes ∙ h.kept.bytes;
            string = k.kept.string ∙ h.kept.string;
            slot = k.kept.slot ∙ h.kept.slot;
          };
      locked = k.locked;
    }

pub series_keeps : SeriesKeeps
unfolding after
series_keeps t n l [] = lasting t t n l (record { bytes = refl; string = refl; slot = refl })
series_keeps t n l (a ∷ more) =
    let h = call_keeps t n l a in
    both_last t (step t a) (after (step t a) more) n h (series_keeps (step t a) n h.locked more)

pub second_kept : SecondKept
second_kept t s l asked = (series_keeps t 2 l asked).kept

-- ---- what `call` gives back
pub promise_keeps : PromiseKeeps
promise_keeps t n l c random room r later p =
    let a : Asked = record { command = c; random = random; room = room } in
    subst (λ u. Lasts t u n) (sym (call_speaks t a (record { result = r; room = later }) p).state) (call_keeps t n l a)

pub played_keeps : PlayedKeeps
played_keeps t n l asked had p = subst (λ u. Lasts t u n) (sym (series_speaks t asked had p).state) (series_keeps t n l asked)

-- ---- what is said of a file
pub says-locked : (t : Tag) (n : ℕ) → SaysLocked t n
unfolding locked
says-locked t n =
    let h = (reading_in t.files n).settings.head in
    let rest = and (eqb h.read_write 15) (eqb h.change 15) in
    record {
      is_locked =
          λ e.
          let f = and_right (eqb h.write 15) rest e in
          record {
            write = eqb-true h.write 15 (and_left (eqb h.write 15) rest e);
            read_write = eqb-true h.read_write 15 (and_left (eqb h.read_write 15) (eqb h.change 15) f);
            change = eqb-true h.change 15 (and_right (eqb h.read_write 15) (eqb h.change 15) f);
          };
      is_said = λ l. rw (l.write, l.read_write, l.change) refl;
    }
