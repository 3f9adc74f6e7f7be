-- 01, "Files": ISOReadBinary and ISOUpdateBinary (10.9.2, 10.9.3), behind access.
use Rattle.std.specs.Prelude.{Bool, true, false, List, [], ℕ, ◌-◌, ◌%◌, eqb, leb, ltb, length}
use Rattle.base.specs.Decide.{pick}
use Rattle.base.specs.Status.{iso_normal, iso_security, iso_wrong_p1_p2, iso_wrong_lc, iso_wrong_le}
use Rattle.spans.specs.declared.Reading.{Reading}
use Rattle.messaging.specs.declared.Mode.{Mode}
use Rattle.messaging.specs.declared.Mode.TheVariants.{Plain, Mac, Full}
use Rattle.order.specs.declared.Command.{Command}
use Rattle.access.specs.declared.Decision.{Decision}
use Rattle.state.specs.declared.Tag.{Tag}
use Rattle.state.specs.State.{size_of, filed}
use Rattle.replies.specs.Answer.{Answer, given, refusal, afterwards}
use Rattle.file_parts.specs.Filing.{stored_iso, with_bytes}
use Rattle.taps.specs.Taps.{tap_read}

abbrev pub is_plain : Mode → Bool
is_plain Plain = true
is_plain Mac = false
is_plain Full = false

-- what is read of the selected file, of which r are the settings: a tap, or the stored bytes
unfoldable pub iso_part : Tag → Command → Reading → Decision → ℕ → List ℕ → Answer
iso_part t k r d count random =
    pick d.tap (tap_read t r true k.offset count random) (stored_iso t k.file k.offset count)

-- ISOReadBinary: offset at or past the end 6A86; Le 00 gives all; Le over what is there: 6C and that number
unfoldable pub read_binary : Tag → Command → Reading → Decision → List ℕ → Answer
read_binary t k r d random =
    let left = size_of k.file - k.offset in
    pick (leb (size_of k.file) k.offset) (refusal t iso_wrong_p1_p2)
    (pick (ltb left k.count) (refusal t (iso_wrong_le (left % 256))) (iso_part t k r d (pick (eqb k.count 0) left k.count) random))

-- ISOUpdateBinary: offset at or past the end 6A86; past the end 6A87
unfoldable pub updated_binary : Tag → Command → List ℕ → Answer
updated_binary t k x =
    pick (leb (size_of k.file) k.offset) (refusal t iso_wrong_p1_p2)
    (pick (ltb (size_of k.file - k.offset) (length x)) (refusal t iso_wrong_lc)
    (given (afterwards (filed t (with_bytes t.files k.file k.offset x))) iso_normal []))

-- a mode other than Plain 6982; an update has data, a read none
unfoldable pub binary : Tag → Command → Reading → Decision → List ℕ → List ℕ → Answer
binary t k r d x random =
    pick (is_plain d.mode) (pick k.parted (updated_binary t k x) (read_binary t k r d random)) (refusal t iso_security)
