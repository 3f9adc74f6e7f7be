-- 01, "A tap (9.3)": where a tap starts, what refuses it, what it shows and gives.
use Rattle.std.specs.Prelude.{Bool, true, not, List, ℕ, ◌+◌, eqb, leb, ltb, take, drop}
use Rattle.base.specs.Decide.{pick, and}
use Rattle.base.specs.Status.{operation_ok, integrity_error, permission_denied, iso_normal, iso_security}
use Rattle.fields.specs.declared.Head.{Head}
use Rattle.spans.specs.declared.Reading.{Reading}
use Rattle.mirror.specs.declared.Mirror.{Mirror}
use Rattle.mirror.specs.Mirrors.{dynamic_data, dynamic_cost}
use Rattle.state.specs.declared.Tag.{Tag}
use Rattle.state.specs.declared.Tapping.{Tapping}
use Rattle.state.specs.State.{file_of, key_in, tapped}
use Rattle.replies.specs.Answer.{Answer, given_for, refusal}

-- the last command was such an accepted read, by the same command
unfoldable pub goes_on : Tapping → Bool → Bool
goes_on t iso = and t.on (pick iso t.iso (not t.iso))

-- limit on and counter at or above it 919D; counter 16,777,215: 911E; 0 where the tap goes on or starts
unfoldable pub start_status : Bool → ℕ → Bool → ℕ → ℕ
start_status going counter limited limit =
    pick going 0 (pick (and limited (leb limit counter)) permission_denied (pick (leb 16777215 counter) integrity_error 0))

-- of a read, by the state and file 2's settings
unfoldable pub read_status : Tapping → Reading → Bool → ℕ
read_status t r iso = start_status (goes_on t iso) t.counter r.settings.head.limit r.settings.places.limit

-- what refuses a tap that can't start; ISO: 6982
unfoldable pub tap_status : Bool → ℕ → ℕ
tap_status iso s = pick iso iso_security s

-- a start adds one; `start_status` refuses one at 16,777,215, so no state that the tag reaches gets here with it, and it stays
unfoldable pub counted : ℕ → ℕ
counted counter = pick (ltb counter 16777215) (counter + 1) counter

-- a tap starts; its padding is drawn then, the first twelve random bytes of this call, and kept (02, request 3)
unfoldable pub started : Tapping → Bool → List ℕ → Tapping
started t iso random = record { on = true; iso = iso; counter = counted t.counter; padding = take 12 random }

-- the tap that a read belongs to: the one that runs goes on as it is, else one starts
unfoldable pub tap_of : Tapping → Bool → List ℕ → Tapping
tap_of t iso random = pick (goes_on t iso) t (started t iso random)

-- UID and counter as far as mirrored, SDMMetaReadKey, SDMFileReadKey, the padding that the tap keeps
unfoldable pub mirror_for : Tag → Head → Mirror
mirror_for t h =
    record {
      tap = record { uid = t.uid; counter = t.tap.counter; names = h.uid; counts = h.counter };
      meta_key = key_in t.secrets.keys h.sdm_meta_read;
      file_key = key_in t.secrets.keys h.sdm_file_read;
      padding = t.tap.padding;
    }

-- what a tap shows: file 2 with its mirrors, all from the state while the tap runs
unfoldable pub tap_text : Tag → Reading → List ℕ
tap_text t r = dynamic_data (file_of t.files 2) r (mirror_for t r.settings.head)

-- the part of it that is asked for; it costs as much as the whole (02, request 10)
unfoldable pub tap_part : Tag → Reading → Bool → ℕ → ℕ → Answer
tap_part t r iso at count = given_for (dynamic_cost r) t (pick iso iso_normal operation_ok) (take count (drop at (tap_text t r)))

-- a read that starts a tap or goes on with it, or is refused
unfoldable pub tap_read : Tag → Reading → Bool → ℕ → ℕ → List ℕ → Answer
tap_read t r iso at count random =
    let status = read_status t.tap r iso in
    pick (eqb status 0) (tap_part (tapped t (tap_of t.tap iso random)) r iso at count) (refusal t (tap_status iso status))
