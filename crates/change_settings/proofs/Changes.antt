-- ChangeFileSettings: what each answer of normalising says of the verdict, and what the tag then answers.
use mathlib.Core.Path.{◌≡◌, refl, sym, ap, ap₂, subst, ◌∙◌}
use mathlib.Core.Bool.{Bool, true, false}
use mathlib.Core.List.{List, [], ◌++◌}
use Prim.Native.Nat.{ℕ, ◌-◌}
use lib.Dec.{leb}
use lib.ListN.{length, take, replicate}
use borrow.Author.Tests.{le-leb}
use Rattle.std.specs.Prelude.{Ok, Err}
use Rattle.base.specs.Decide.{pick}
use Rattle.base.specs.Bytes.{over}
use Rattle.base.proofs.Bytes.{drop-replicate}
use Rattle.messaging.specs.declared.Mode.{Mode}
use Rattle.normalising.specs.declared.NotNormal.{NotNormal}
use Rattle.normalising.specs.declared.NotNormal.TheVariants.{Fault as Faulty, RoomTooSmall}
use Rattle.settings.specs.Answers.{Verdict, judged}
use Rattle.normalising.specs.Answers.{normalised}
use Rattle.fields.specs.Fields.{sdm_on}
use Rattle.fields.specs.Normal.{normal}
use Rattle.spans.specs.declared.Reading.{Reading}
use Rattle.meanings.proofs.NormalForm.{normal-length}
use Rattle.meanings.proofs.Mirrors.{good_length}
use Rattle.state.specs.declared.Files.{Files}
use Rattle.state.specs.declared.Tag.{Tag}
use Rattle.normalising.proofs.Normals.{Laid}
use Rattle.replies.specs.declared.Done.{Done}
use Rattle.replies.specs.Answer.{Gives, refusal, accepted}
use Rattle.change_settings.specs.ChangeSettings.{with_rules, restrung, refusal_word, by_verdict, changed_settings}

-- 27 zeros with a normal form at their front
zeros-behind : (p : List ℕ) → over (normal p) (replicate 27 0) ≡ normal p ++ replicate (27 - length p) 0
zeros-behind p =
    ap (λ x. normal p ++ x) (drop-replicate (length (normal p)) 27 0 ∙ ap (λ k. replicate (27 - k) 0) (normal-length p))

-- a good string is stored
pub good-changes : (t : Tag) (n : ℕ) (r : Reading) (p : List ℕ) (m : Mode) (text : List ℕ) (k : ℕ) (f : Files) (on : Bool) (u : Tag) (b : List ℕ)
    (d : Done) → Laid (judged n p) p (replicate 27 0) text k → f ≡ with_rules t.files n text k → on ≡ sdm_on p
    → u ≡ restrung t r.settings.head.sdm on f → b ≡ [] → Gives (accepted u m (take 256 b)) d → Gives (changed_settings t n r p m) d
unfolding changed_settings
good-changes t n r p m text k f on u b d h e s q z g =
    let x : f ≡ with_rules t.files n (normal p ++ replicate (27 - length p) 0) (length p) =
    e ∙ ap₂ (λ s i. with_rules t.files n s i) (h.is ∙ zeros-behind p) h.len in
    subst (λ v. Gives (by_verdict t n r p m v) d) (sym h.fine)
    (subst (λ y. Gives (accepted y m []) d) (q ∙ ap₂ (λ y z. restrung t r.settings.head.sdm y z) s x)
    (subst (λ y. Gives (accepted u m (take 256 y)) d) z g))

-- a string that normalising refuses is refused for the same reason, and a good one is never too long for 27 bytes
pub bad_changes : (t : Tag) (n : ℕ) (r : Reading) (p : List ℕ) (m : Mode) (e : NotNormal) (w : ℕ) (d : Done)
    → Err e ≡ normalised (judged n p) p (replicate 27 0) → w ≡ refusal_word e → Gives (refusal t w) d → Gives (changed_settings t n r p m) d
unfolding changed_settings normalised
bad_changes t n r p m e w d h q g = by (judged n p) refl h
  where
    never : (b : Bool) → b ≡ true → Err e ≡ pick b (Ok (length p)) (Err RoomTooSmall) → ⊥
    never true k h = cc
    never false k h = cc

    by : (v : Verdict) → judged n p ≡ v → Err e ≡ normalised v p (replicate 27 0) → Gives (by_verdict t n r p m v) d
    by (Ok tt) j h = absurd (never (leb (length p) 27) (le-leb (length p) 27 (good_length n p j).1) h)
    by (Err x) j h = let i : e ≡ Faulty x = cc in subst (λ y. Gives (refusal t y) d) (q ∙ ap refusal_word i) g
