-- The samples of locking (specs/LockingSamples.antt): each side computes to the other; where a session is needed, by the laws of Desk.antt.
use mathlib.Core.Bool.{Bool, true, false}
use mathlib.Core.Path.{◌≡◌, refl, sym, ap, subst, ◌∙◌}
use mathlib.Core.List.{[], ◌∷◌, ◌++◌}
use native.Mathlib.Omega.{arith}
use lib.ListN.{length, take, replicate}
use Rattle.aes.specs.Block.{IsBlock}
use Rattle.key_expansion.specs.Keys.{key_expansion}
use Rattle.inverse.proofs.KeyBlocks.{keys_are}
use Rattle.inverse.proofs.MacBlocks.{cmac_block}
use Rattle.session_keys.specs.Keys.{enc_key}
use Rattle.fields.specs.Fields.{read_of, string_of, front_bytes, sdm_bytes, written, listed}
use Rattle.rules.specs.Rules.{field_fits, fields_fit, sdm_absent, sdm_part, modes, kept, sdm_meets, meets}
use Rattle.state.specs.declared.Tag.{Tag}
use Rattle.state.specs.State.{file_of, rules_of, reading_in, key_in, no_pending, talking}
use Rattle.delivery.specs.Fresh.{fresh_tag}
use Rattle.soundness.specs.Sound.{sound_tag}
use Rattle.series.specs.Series.{step, after, passing, accepting}
use Rattle.series.specs.Worked.{select_application, select_file}
use Rattle.series.proofs.Choices.{both_true}
use Rattle.series.proofs.Computing.{a_call, a_fresh_tag, soundness, a_write, a_tap, its_mirrors, its_rules}
use Rattle.series.proofs.Changes.{replied_call}
use Rattle.demands.specs.Talks.{said}
use Rattle.demands.specs.Reaching.{changed}
use Rattle.demands.specs.Samples.{some_uid, calling}
use Rattle.demands.specs.Locking.{Locked}
use Rattle.demands.specs.LockingSamples.{call_passes, all_pass, zeros16, settling, rekeying, lock_string, locking_series, locked_tag, Locks, selecting, read_twenty, mirrored_reply, StillMoves}
use Rattle.demands.specs.LockingSamples.{with_rights, three_rights, write_one, update_one, EachRight, write_first, locked2, OtherFiles, key_fifteen, KeyFifteen}
use Rattle.demands.proofs.Samples.{a_sample}
use Rattle.demands.proofs.Desk.{zeros_block, AtDesk, desk_live, desk_replies, desk_settled, settling-passes, rekeyed}

-- the words of these samples
unfoldable a_lock_sample : Bool
unfolding
    a_sample a_call soundness a_write a_tap its_mirrors its_rules with_rights three_rights write_one update_one write_first locked2 lock_string
    selecting read_twenty mirrored_reply select_application select_file said
a_lock_sample = true

-- ---- computed
lock_2 : Locked locked2 2
unfolding a_lock_sample
lock_2 = record { write = refl; read_write = refl; change = refl }

pub other_files : OtherFiles
unfolding a_lock_sample
other_files = record { locked = lock_2; last-before = refl; last = refl; past = refl; first_settings = refl; third_settings = refl }

pub key_fifteen_lem : KeyFifteen
unfolding a_lock_sample key_fifteen
key_fifteen_lem =
    record {
      locked = record { write = refl; read_write = refl; change = refl };
      unsound = refl;
      granted = refl;
      would_write = refl;
      stays = refl;
    }

-- ---- at the desk: the lock string in normal form, and the tags that it is sent to
unfoldable a_lock : Bool
unfolding a_lock_sample field_fits fields_fit sdm_absent sdm_part modes kept sdm_meets meets listed string_of front_bytes sdm_bytes written
a_lock = true

lock_meets : meets 2 (read_of lock_string) ≡ true
unfolding a_lock
lock_meets = refl

lock_string_lem : string_of (read_of lock_string) ≡ lock_string
unfolding a_lock
lock_string_lem = refl

-- what `settling` with the lock string leaves
locked_by : Tag → Tag
locked_by t = changed (talking t desk_live no_pending) 2 lock_string

settles : (t : Tag) → AtDesk t → (reading_in t.files 2).settings.head.change ≡ 0 → after t (settling t lock_string) ≡ locked_by t
unfolding locked_by
settles t d e =
    subst (λ s. after t (settling t s) ≡ changed (talking t desk_live no_pending) 2 s) lock_string_lem (desk_settled t d e (read_of lock_string) lock_meets)

settles_passing : (t : Tag) → AtDesk t → (reading_in t.files 2).settings.head.change ≡ 0 → all_pass t (settling t lock_string) ≡ true
settles_passing t d e = subst (λ s. all_pass t (settling t s) ≡ true) lock_string_lem (settling-passes t d e (read_of lock_string) lock_meets)

zeros_desk : (t : Tag) → length t.files.rules ≡ 81 → length t.files.lens ≡ 3 → t.live.enc ≡ zeros16 → sound_tag t ≡ true
    → t.place.application ≡ true → t.pending.on ≡ false → key_in t.secrets.keys 0 ≡ zeros16 → AtDesk t
zeros_desk t r l e s a i k =
    let block = subst IsBlock (sym e) zeros_block in
    record { typed = record { rules = r; lens = l; enc = block }; sound = s; application = a; idle = i; key = k }

-- ---- a fresh tag is locked
abbrev selected : Tag
selected = step (fresh_tag some_uid) (calling select_application)

fresh_desk : AtDesk selected
unfolding a_lock_sample a_fresh_tag key_in
fresh_desk = zeros_desk selected refl refl refl refl refl refl refl

fresh_change : (reading_in selected.files 2).settings.head.change ≡ 0
unfolding a_lock_sample a_fresh_tag
fresh_change = refl

locked_is : locked_tag ≡ locked_by selected
unfolding locked_tag locking_series after
locked_is = settles selected fresh_desk fresh_change

selects_passing : call_passes (fresh_tag some_uid) (calling select_application) ≡ true
unfolding a_lock_sample a_fresh_tag call_passes passing accepting
selects_passing = refl

all_accepted : all_pass (fresh_tag some_uid) locking_series ≡ true
unfolding all_pass locking_series
all_accepted = both_true selects_passing (settles_passing selected fresh_desk fresh_change)

-- what holds of the tag that the laws give holds of the tag that the series leaves
known : (P : Tag → Type 0) → P (locked_by selected) → P locked_tag
known P p = subst P (sym locked_is) p

unfoldable a_locked-tag : Bool
unfolding a_lock_sample a_fresh_tag locked_by changed desk_live key_in
a_locked-tag = true

pub locks : Locks
unfolding a_locked-tag
locks =
    record {
      accepted = all_accepted;
      string = known (λ t. rules_of t.files 2 ≡ lock_string) refl;
      locked = known (λ t. Locked t 2) (record { write = refl; read_write = refl; change = refl });
      sound = known (λ t. sound_tag t ≡ true) refl;
    }

-- ---- what still moves
locked-sound : sound_tag (locked_by selected) ≡ true
unfolding a_locked-tag
locked-sound = refl

new_key_lem : key_in (step (locked_by selected) (rekeying (locked_by selected))).secrets.keys 0 ≡ replicate 16 1
unfolding a_locked-tag rekeying enc_key
new_key_lem =
    let t = locked_by selected in
    ap (λ u. key_in u.secrets.keys 0) (replied_call t (rekeying t) (desk_replies t locked-sound))
    ∙ ap (λ keys. key_in keys 0)
    (rekeyed t (cmac_block (key_expansion zeros16) (keys_are zeros16 zeros_block) _) refl refl (omega arith) refl refl)

pub still_moves : StillMoves
unfolding a_locked-tag
still_moves =
    record {
      counter = known (λ t. t.tap.counter ≡ 0) refl;
      raised = known (λ t. (after t (selecting ++ read_twenty ∷ [])).tap.counter ≡ 1) refl;
      stored = known (λ t. take 20 (file_of t.files 2) ≡ replicate 20 0) refl;
      shown = known (λ t. (said (after t selecting) read_twenty).reply ≡ mirrored_reply) refl;
      key = known (λ t. key_in t.secrets.keys 0 ≡ zeros16) refl;
      changed = known (λ t. key_in (step t (rekeying t)).secrets.keys 0 ≡ replicate 16 1) new_key_lem;
    }

-- ---- the claim needs each right
keyed_desk : AtDesk (with_rights 0xF0 0xEF)
unfolding a_lock_sample key_in
keyed_desk = zeros_desk (with_rights 0xF0 0xEF) refl refl refl refl refl refl refl

keyed-change : (reading_in (with_rights 0xF0 0xEF).files 2).settings.head.change ≡ 0
unfolding a_lock_sample
keyed-change = refl

keyed-string : rules_of (locked_by (with_rights 0xF0 0xEF)).files 2 ≡ lock_string
unfolding a_locked-tag
keyed-string = refl

pub each_right : EachRight
unfolding a_lock_sample
each_right =
    record {
      change-free = refl;
      change-free-before = refl;
      change-free-string = refl;
      change-key = refl;
      change-key-before = refl;
      change-key-string = ap (λ t. rules_of t.files 2) (settles (with_rights 0xF0 0xEF) keyed_desk keyed-change) ∙ keyed-string;
      write-free = refl;
      write-free-before = refl;
      write-free_byte = refl;
      read_write-free = refl;
      read_write-free-before = refl;
      read_write-free_byte = refl;
    }
