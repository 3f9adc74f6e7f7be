-- The files that an answer leaves: those that were, with other bytes of a file that is written, or with another settings string.
use Rattle.std.specs.Prelude.{Ok}
use mathlib.Core.List.{List, []}
use mathlib.Core.Path.{◌≡◌}
use Prim.Native.Nat.{ℕ}
use lib.Dec.{eqb}
use lib.ListN.{length}
use Rattle.messaging.specs.declared.Mode.{Mode}
use Rattle.closing.specs.Reply.{overlong}
use Rattle.settings.specs.Answers.{judged}
use Rattle.state.specs.declared.Files.{Files}
use Rattle.state.specs.declared.Tag.{Tag}
use Rattle.state.specs.State.{reading_in, ended_of, filed, keyed, placed, talking, tapped}
use Rattle.replies.specs.Answer.{Answer, refusal, accepted, afterwards}
use Rattle.file_parts.specs.Filing.{stored_iso, with_bytes}
use Rattle.taps.specs.Taps.{read_status, tap_part, tap_read}
use Rattle.auth.specs.Parts.{begun}
use Rattle.part_two.specs.PartTwo.{entered_first, entered_next, entered}
use Rattle.change_settings.specs.ChangeSettings.{with_rules, restrung}
use Rattle.selects.specs.Selects.{moved, selected_file}
use Rattle.tag.specs.Way.{answered}
use Rattle.series.proofs.Choices.{way}
use Rattle.series.proofs.Writes.{Puts}
use Rattle.series.proofs.Walk.{Sent, Kinds, every_answer}
use Rattle.series.proofs.Settled.{pad_out}

-- what is shown of the files as they were, with a write that is granted and ends inside its file, and with an accepted change
pub record Filings (t : Tag) (c : List ℕ) (Q : Files → Type 0) : Type 0 where
  pub stays : Q t.files
  pub writes : (n at : ℕ) (p : List ℕ) → Puts t n at p → Q (with_bytes t.files n at p)
  pub restrings : (n : ℕ) (p : List ℕ) (m : Mode) → Sent t c n p m → judged n p ≡ Ok tt → Q (with_rules t.files n (pad_out p) (length p))

module _ (t : Tag) (c random : List ℕ) (Q : Files → Type 0) (h : Filings t c Q) where
  abbrev Leaves : Answer → Type 0
  Leaves a = Q a.tag.files

  leaves-accepted : (u : Tag) → Q u.files → (m : Mode) (d : List ℕ) → Leaves (accepted u m d)
  unfolding accepted refusal ended_of afterwards talking
  leaves-accepted u q m d = way Leaves (overlong m (length d)) (λ e. q) (λ e. q)

  files_kinds : Kinds t c random Leaves
  unfolding
      refusal ended_of begun entered entered_first entered_next talking keyed afterwards filed tap_read tap_part tapped stored_iso moved selected_file placed
      restrung pad_out
  files_kinds =
      record {
        refuses = λ s. h.stays;
        begins = λ p k a. h.stays;
        enters = λ p kx a. way Leaves t.pending.first (λ e. h.stays) (λ e. h.stays);
        answers = λ m d. leaves-accepted t h.stays m d;
        rekeys = λ s. leaves-accepted (keyed t s) h.stays _ [];
        rekeys_first = λ s. h.stays;
        writes = λ n at p m w. leaves-accepted (filed t (with_bytes t.files n at p)) (h.writes n at p w) m [];
        writes_iso = λ n at p w. h.writes n at p w;
        restrings =
            λ n p m s g.
            leaves-accepted (restrung t _ _ (with_rules t.files n (pad_out p) (length p))) (h.restrings n p m s g) m [];
        taps =
            λ n iso at count s l p f.
            way Leaves (eqb (read_status t.tap (reading_in t.files n) iso) 0) (λ e. h.stays) (λ e. h.stays);
        reads_iso = λ n at count. h.stays;
        moves = λ application. h.stays;
        selects = λ n l. way Leaves t.place.application (λ e. h.stays) (λ e. h.stays);
        costs = λ k a q. q;
      }

  pub files-left : Q (answered t c random).tag.files
  files-left = every_answer t c random Leaves files_kinds
