-- 01, "Files": ReadData (10.8.1) and WriteData (10.8.2).
use Rattle.std.specs.Prelude.{false, List, [], ℕ, ◌+◌, ◌-◌, eqb, leb, ltb, length}
use Rattle.base.specs.Decide.{pick, or}
use Rattle.base.specs.Status.{length_error, parameter_error, boundary_error}
use Rattle.spans.specs.declared.Reading.{Reading}
use Rattle.messaging.specs.declared.Mode.{Mode}
use Rattle.order.specs.declared.Command.{Command}
use Rattle.access.specs.declared.Decision.{Decision}
use Rattle.state.specs.declared.Tag.{Tag}
use Rattle.state.specs.State.{size_of, filed}
use Rattle.replies.specs.Answer.{Answer, refusal, accepted}
use Rattle.file_parts.specs.Filing.{stored, with_bytes}
use Rattle.taps.specs.Taps.{tap_read}

-- offset at or past the end, or offset plus length past it: 919E
unfoldable pub range_status : ℕ → ℕ → ℕ → ℕ
range_status at count size = pick (or (leb size at) (ltb size (at + count))) parameter_error 0

-- length 0 means to the end
unfoldable pub asked : ℕ → ℕ → ℕ → ℕ
asked at count size = pick (eqb count 0) (size - at) count

-- what is read of the file, of which r are the settings: a tap, or the stored bytes
unfoldable pub wrapped_part : Tag → Command → Reading → Decision → ℕ → List ℕ → Answer
wrapped_part t k r d count random =
    pick d.tap (tap_read t r false k.offset count random) (stored t d.mode k.file k.offset count)

-- ReadData: the range, the size of the reply (in accepted), then the start of the tap
unfoldable pub read_data : Tag → Command → Reading → Decision → List ℕ → Answer
read_data t k r d random =
    let s = range_status k.offset k.count (size_of k.file) in
    pick (eqb s 0) (wrapped_part t k r d (asked k.offset k.count (size_of k.file)) random) (refusal t s)

-- WriteData: length 0 919E; data not that length 917E; past the end 91BE
unfoldable pub write_status : ℕ → ℕ → ℕ → ℕ → ℕ
write_status at count given size =
    pick (eqb count 0) parameter_error (pick (eqb count given) (pick (ltb size (at + count)) boundary_error 0) length_error)

unfoldable pub written_data : Tag → Command → List ℕ → Mode → Answer
written_data t k p m =
    let s = write_status k.offset k.count (length p) (size_of k.file) in
    pick (eqb s 0) (accepted (filed t (with_bytes t.files k.file k.offset p)) m []) (refusal t s)
