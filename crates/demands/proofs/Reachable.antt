-- Demand 3, over the tag: every settings record that meets 01's rules has one normal string, and every sound tag in the
-- application, no part two pending, that grants the change, with a command counter below 65,535 (or no session), accepts it in the
-- due mode: plain under E, wrapped with the session's keys under the key; the reply is 9100, with its MAC in Full, and the file
-- then holds that string.
use Rattle.std.specs.Prelude.{Ok}
use mathlib.Core.Path.{◌≡◌, refl, sym, ◌∙◌, ap, subst}
use mathlib.Core.Bool.{Bool, true, false}
use mathlib.Core.List.{List, [], ◌∷◌, ◌++◌}
use mathlib.Core.Logic.{◌⊎◌, inl, inr, ⊎_elim}
use Prim.Native.Nat.{ℕ, suc, ◌+◌, ◌≤◌, ◌<◌}
use native.Mathlib.Omega.{arith}
use lib.Dec.{eqb, ltb}
use lib.ListN.{length}
use borrow.Author.Tests.{eqb-true, eq-eqb, lt-ltb, le-ltb}
use Rattle.base.specs.Decide.{pick, and, one_of}
use Rattle.base.specs.Bytes.{byte_at, AllBytes}
use Rattle.base.proofs.Bytes.{and_right}
use Rattle.aes.specs.Block.{IsBlock}
use Rattle.messaging.specs.declared.Mode.{Mode}
use Rattle.messaging.specs.declared.Mode.TheVariants.{Plain, Full}
use Rattle.messaging.specs.declared.Session.{Session}
use Rattle.messaging.specs.Protect.{message_mac, sent, signed, plain}
use Rattle.opening.specs.Command.{sent_command, opening, opening_cost}
use Rattle.closing.specs.Reply.{closed, closed_cost, overlong}
use Rattle.both_ends.proofs.Messages.{sent-command_opens}
use Rattle.fields.specs.declared.Head.{Head}
use Rattle.fields.specs.declared.Settings.{Settings}
use Rattle.spans.specs.declared.Reading.{Reading}
use Rattle.settings.specs.Answers.{judged}
use Rattle.fields.specs.Fields.{read_of, string_of}
use Rattle.rules.specs.Rules.{meets}
use Rattle.meanings.proofs.Mirrors.{good_length}
use Rattle.meanings.proofs.OneMeaning.{one_string, string_bytes}
use Rattle.order.specs.declared.Name.TheVariants.{ChangeFileSettings}
use Rattle.order.specs.declared.Command.{Command}
use Rattle.access.specs.declared.Right.TheVariants.{Change}
use Rattle.access.specs.declared.Grant.TheVariants.{ByKey, ByTap, Free, Never, Denied}
use Rattle.access.specs.declared.Decision.{Decision}
use Rattle.state.specs.declared.Live.{Live}
use Rattle.state.specs.declared.Tag.{Tag}
use Rattle.state.specs.State.{rules_of, reading_in, talking, tapped, filed, session_of}
use Rattle.delivery.specs.Fresh.{right_uid}
use Rattle.access.specs.Access.{condition_of, first_of, all_never, granted, change_grant, grant_for, under_key, mode_for, decided}
use Rattle.soundness.specs.Sound.{sound_tag}
use Rattle.replies.specs.Answer.{Answer, given_for, costing, accepted, afterwards, raised}
use Rattle.change_settings.specs.ChangeSettings.{restrung, by_verdict, changed_settings}
use Rattle.tag.specs.declared.Outcome.TheVariants.{Replied}
use Rattle.order.specs.Order.{header_length, has_data}
use Rattle.order.specs.Commands.{wrapped_command}
use Rattle.wrapped.specs.Wrapped.{own}
use Rattle.tag.specs.Way.{from_step6, answered}
use Rattle.tag.specs.Call.{with_status, reply_of, outcome_of, room_by}
use Rattle.series.specs.Series.{step, allows}
use Rattle.series.proofs.Choices.{not_both, way}
use Rattle.series.proofs.Computing.{soundness, access}
use Rattle.series.proofs.Settled.{pad_out, restored}
use Rattle.series.proofs.Places.{small}
use Rattle.series.proofs.Soundness.{sound_call}
use Rattle.series.proofs.Born.{zeros-bytes}
use Rattle.series.proofs.Changes.{short_none, replied_call}
use Rattle.demands.specs.Samples.{tag_of, sample}
use Rattle.demands.specs.Reaching.{built, change_of, carried, change_cost, changing, asking, changed, Ready, UnderE, UnderKey, Reached}
use Rattle.demands.proofs.Building.{against, step6_opens, wrapped_bound, wrapped_first, wrapped-filled, built-file, built_comes}

-- ---- the due mode
record KeyGrants (live : Bool) (key change : ℕ) (m : Mode) : Type 0 where
  on : live ≡ true
  right : change ≡ key
  mode : m ≡ Full

record EGrants (change : ℕ) (m : Mode) : Type 0 where
  right : change ≡ 14
  mode : m ≡ Plain

by_grant : (live : Bool) (key change : ℕ) (m : Mode) (k e f : Bool) → eqb change key ≡ k → eqb change 14 ≡ e
    → let free = pick e (Free Change) (pick (and f true) Never Denied) in
    let g = pick live (pick k (ByKey Change) free) (pick false ByTap free) in
    allows g ≡ true → under_key g Full ≡ m → KeyGrants live key change m ⊎ EGrants change m
unfolding under_key
by_grant true key change m true e f p q a d = inl (record { on = refl; right = eqb-true change key p; mode = sym d })
by_grant true key change m false true f p q a d = inr (record { right = eqb-true change 14 q; mode = sym d })
by_grant true key change m false false true p q a d = absurd (not_both a)
by_grant true key change m false false false p q a d = absurd (not_both a)
by_grant false key change m k true f p q a d = inr (record { right = eqb-true change 14 q; mode = sym d })
by_grant false key change m k false true p q a d = absurd (not_both a)
by_grant false key change m k false false p q a d = absurd (not_both a)

change-due : (l : Live) (h : Head) (m : Mode) → allows (grant_for ChangeFileSettings l h) ≡ true → (decided ChangeFileSettings l h).mode ≡ m
    → KeyGrants l.on l.key h.change m ⊎ EGrants h.change m
unfolding grant_for change_grant granted first_of all_never condition_of decided mode_for
change-due l h m =
    by_grant l.on l.key h.change m (eqb h.change l.key) (eqb h.change 14) (eqb h.change 15) refl refl

-- ---- the steps behind the form
raised_one : (l : Live) → l.on ≡ true → l.counter < 65535 → (raised l).counter ≡ l.counter + 1
unfolding raised
raised_one l e h = by l.on (ltb l.counter 65535) e (lt-ltb l.counter 65535 h)
  where
    by : (on below : Bool) → on ≡ true → below ≡ true → pick on (pick below (l.counter + 1) l.counter) l.counter ≡ l.counter + 1
    by on below p q = rw (p, q) refl

-- what is sent has the file byte in front, at most 255 bytes, and opens to the string
module _ (t : Tag) (n : ℕ) (m : Mode) (s : List ℕ) where
  carried_first : byte_at (carried t m n s) 0 ≡ n
  unfolding carried
  carried_first = wrapped_first (session_of t.live) m _ n s

  carried-filled : 1 ≤ length (carried t m n s)
  unfolding carried
  carried-filled = wrapped-filled (session_of t.live) m _ n s

  module _ (k : IsBlock t.live.enc) (b : AllBytes s) where
    carried-short : judged n s ≡ Ok tt → length (carried t m n s) ≤ 255
    unfolding carried session_of
    carried-short g =
        let l : length (carried t m n s) ≤ length (n ∷ []) + length s + 24 = wrapped_bound (session_of t.live) m _ (n ∷ []) s k b in
        omega (arith, (good_length n s g).1)

    carried_opens : opening (session_of t.live) m 0x5F (carried t m n s) 1 true ≡ plain s
    unfolding carried session_of
    carried_opens = sent-command_opens (session_of t.live) m 0x5F (n ∷ []) true s k b (λ z. absurd (not_both (sym z)))

ready_allows : (t : Tag) (n : ℕ) (m : Mode) → Ready t n m
    → allows (decided ChangeFileSettings t.live (reading_in t.files n).settings.head).grant ≡ true
unfolding decided
ready_allows t n m h = h.allowed

module _ (t : Tag) (n : ℕ) (m : Mode) (s x : List ℕ) (random : List ℕ) (P : Answer → Type 0) where
  abbrev k : Command
  k = wrapped_command ChangeFileSettings (built 0x5F x)

  abbrev r : Reading
  r = reading_in t.files n

  abbrev d : Decision
  d = decided ChangeFileSettings t.live r.settings.head

  -- step 9: a good string is stored
  own-accepts : judged n s ≡ Ok tt → k.file ≡ n → d.mode ≡ m
      → P (given_for (closed_cost m 0) (changed t n s) 0x9100 (closed (session_of (raised t.live)) m 0 []))
      → P (own ChangeFileSettings t k r d s random)
  unfolding own changed_settings accepted changed restrung pad_out tapped filed
  own-accepts g f e p =
      subst (λ i. P (changed_settings t i r s d.mode)) (sym f)
      (subst (λ j. P (changed_settings t n r s j)) (sym e)
      (subst (λ v. P (by_verdict t n r s m v)) (sym g) (way P (overlong m 0) (λ z. against z (short_none m)) (λ z. p))))

  -- steps 6 to 8: access, CmdCtr, and the message, which opens to the string
  step6_owns : Ready t n m → length x ≤ 255 → opening (session_of t.live) m 0x5F x 1 true ≡ plain s
      → P (costing (opening_cost (session_of t.live) m 0x5F x 1 true) (own ChangeFileSettings t k r d s random))
      → P (from_step6 t k r x random)
  unfolding wrapped_command built header_length has_data one_of
  step6_owns h l o p =
      let live = session_of t.live in
      step6_opens t k r x s random P refl (ready_allows t n m h) h.counter l (ap (λ j. opening live j 0x5F x 1 true) h.decides ∙ o)
      (subst (λ j. P (costing (opening_cost live j 0x5F x 1 true) (own ChangeFileSettings t k r d s random))) (sym h.decides) p)

-- ---- the theorem
module _ (t : Tag) (n : ℕ) (r : Settings) (m : Mode) (h : Ready t n m) (e : meets n r ≡ true) (random : List ℕ) where
  reach : answered t (changing t m n (string_of r)) random
      ≡ given_for (change_cost t m n (string_of r)) (changed t n (string_of r)) 0x9100 (closed (session_of (raised t.live)) m 0 [])
  unfolding changing change_cost
  reach =
      let s = string_of r in
      let g = (one_string n r h.first h.last e).good in
      let x = carried t m n s in
      let b = string_bytes n r e in
      let P : Answer → Type 0 = λ a. a ≡ given_for (change_cost t m n s) (changed t n s) 0x9100 (closed (session_of (raised t.live)) m 0 []) in
      let Q : Answer → Type 0 = λ a. P (costing (opening_cost (session_of t.live) m 0x5F x 1 true) a) in
      let filled = carried-filled t n m s in
      let fits = carried-short t n m s h.typed.enc b g in
      let is = carried_first t n m s in
      built_comes x n filled fits is h.first h.last t random P h.idle h.application
      (step6_owns t n m s x random P h fits (carried_opens t n m s h.typed.enc b)
      (own-accepts t n m s x random Q g (built-file x n filled fits is h.first h.last) h.decides refl))

  kept : rules_of (changed t n (string_of r)).files n ≡ string_of r
  unfolding changed afterwards restrung pad_out talking tapped filed
  kept =
      let o = one_string n r h.first h.last e in
      restored t.files h.typed.rules h.typed.lens n (string_of r) o.good n refl (small n h.first h.last) ∙ o.own

  reply-plain : (k : ℕ) (s : Session) (u : Tag) → reply_of (given_for k u 0x9100 (closed s Plain 0 [])) ≡ 0x91 ∷ 0x00 ∷ []
  unfolding reply_of with_status closed signed sent
  reply-plain k s u = refl

  reply_full : (k : ℕ) (s : Session) (u : Tag) → reply_of (given_for k u 0x9100 (closed s Full 0 [])) ≡ message_mac s 0 [] ++ 0x91 ∷ 0x00 ∷ []
  unfolding reply_of with_status closed signed sent
  reply_full k s u = refl

  plain-command : changing t Plain n (string_of r) ≡ 0x90 ∷ 0x5F ∷ 0 ∷ 0 ∷ (1 + length (string_of r)) ∷ n ∷ (string_of r ++ 0 ∷ [])
  unfolding changing carried built sent_command signed sent
  plain-command =
      let k : suc (length (string_of r)) ≡ 1 + length (string_of r) = omega arith in
      ap (λ l. 0x90 ∷ 0x5F ∷ 0 ∷ 0 ∷ l ∷ n ∷ (string_of r ++ 0 ∷ [])) k

  full_command : changing t Full n (string_of r) ≡ built 0x5F (sent_command (session_of t.live) Full 0x5F (n ∷ []) true (string_of r))
  unfolding changing carried
  full_command = refl

  reply_in : (k : Mode) → m ≡ k
      → reply_of (answered t (changing t m n (string_of r)) random)
      ≡ reply_of (given_for (change_cost t k n (string_of r)) (changed t n (string_of r)) 0x9100 (closed (session_of (raised t.live)) k 0 []))
  reply_in k q =
      let s = string_of r in
      ap reply_of reach ∙ ap (λ j. reply_of (given_for (change_cost t j n s) (changed t n s) 0x9100 (closed (session_of (raised t.live)) j 0 []))) q

  in_due : UnderKey t n (string_of r) m random ⊎ UnderE t n (string_of r) m random
  unfolding change_of
  in_due =
      ⊎_elim
      (λ g.
      inl
      (record {
        live = g.on;
        right = g.right;
        mode = g.mode;
        command = ap (λ k. changing t k n (string_of r)) g.mode ∙ full_command;
        counted = raised_one t.live g.on (h.counter g.on);
        reply = reply_in Full g.mode ∙ reply_full (change_cost t Full n (string_of r)) (session_of (raised t.live)) (changed t n (string_of r));
      }))
      (λ g.
      inr
      (record {
        right = g.right;
        mode = g.mode;
        command = ap (λ k. changing t k n (string_of r)) g.mode ∙ plain-command;
        reply = reply_in Plain g.mode ∙ reply-plain (change_cost t Plain n (string_of r)) (session_of (raised t.live)) (changed t n (string_of r));
      }))
      (change-due t.live (reading_in t.files n).settings.head m h.allowed h.decides)

  module _ (room : List ℕ) (twenty : length random ≡ 20) (large : 258 ≤ length room) where
    replies : outcome_of t random room ≡ Replied
    unfolding outcome_of
    replies = rw (le-ltb (length room) 258 large, eq-eqb (length random) 20 twenty, h.sound) refl

    pub stepped : step t (asking t n r m random room) ≡ changed t n (string_of r)
    stepped = replied_call t (asking t n r m random room) replies ∙ ap (λ a. a.tag) reach

    held : rules_of (step t (asking t n r m random room)).files n ≡ string_of r
    held = ap (λ u. rules_of u.files n) stepped ∙ kept

    pub reachable : Reached t n r m random room
    reachable =
        let o = one_string n r h.first h.last e in
        record {
          string = o;
          answers = replies;
          accepts = reach;
          room-holds = ap (λ o. room_by (answered t (changing t m n (string_of r)) random) room o) replies;
          due = in_due;
          holds = held;
          means = ap read_of held ∙ o.reads;
          sound = sound_call t h.typed h.sound (asking t n r m random room);
        }

-- ---- such tags are: of any UID, in the application, file 2 with Change 0 in session with key 0, or with Change E and no session
module _ (uid : List ℕ) (u : right_uid uid ≡ true) where
  sample_ready : (live : Bool) (rights : ℕ) (m : Mode) → sound_tag (sample uid live rights) ≡ true
      → allows (grant_for ChangeFileSettings (sample uid live rights).live (reading_in (sample uid live rights).files 2).settings.head) ≡ true
      → (decided ChangeFileSettings (sample uid live rights).live (reading_in (sample uid live rights).files 2).settings.head).mode ≡ m
      → Ready (sample uid live rights) 2 m
  unfolding sample tag_of
  sample_ready live rights m s a d =
      record {
        typed = record { rules = refl; lens = refl; enc = record { len = refl; bytes = zeros-bytes 16 } };
        sound = s;
        application = refl;
        idle = refl;
        first = omega arith;
        last = omega arith;
        allowed = a;
        decides = d;
        counter = λ z. omega arith;
      }

  pub ready_samples : Ready (sample uid true 0xE0) 2 Full × Ready (sample uid false 0xEE) 2 Plain
  unfolding sample tag_of right_uid soundness access
  ready_samples =
      let four = and_right (eqb (length uid) 7) (eqb (byte_at uid 0) 4) u in
      (sample_ready true 0xE0 Full (rw four refl) refl refl, sample_ready false 0xEE Plain (rw four refl) refl refl)
