-- 01, "Order of checks", steps 8 and 9, of wrapped commands (CLA 90).
use Rattle.std.specs.Prelude.{List, Err, ℕ, ltb, length}
use Rattle.state.specs.State.{session_of}
use Rattle.base.specs.Decide.{pick}
use Rattle.base.specs.Status.{illegal_command_code, length_error, integrity_error}
use Rattle.messaging.specs.declared.Mode.{Mode}
use Rattle.messaging.specs.Protect.{Opening, plain, wrong_length, wrong_mac, wrong_padding}
use Rattle.opening.specs.declared.NotOpened.{NotOpened}
use Rattle.opening.specs.declared.NotOpened.TheVariants.{WrongLength, WrongMac, WrongPadding, TooLong, NoRoom}
use Rattle.opening.specs.Command.{opening, opening_cost, opened_status}
use Rattle.spans.specs.declared.Reading.{Reading}
use Rattle.order.specs.declared.Name.{Name}
use Rattle.order.specs.declared.Name.TheVariants.{AuthenticateFirst, AuthenticateNonFirst, PartTwo, ChangeKey, GetKeyVersion, GetCardUid}
use Rattle.order.specs.declared.Name.TheVariants.{GetFileSettings, ChangeFileSettings, GetFileCounters, ReadData, WriteData}
use Rattle.order.specs.declared.Name.TheVariants.{IsoSelectFile, IsoReadBinary, IsoUpdateBinary}
use Rattle.order.specs.declared.Command.{Command}
use Rattle.access.specs.declared.Decision.{Decision}
use Rattle.state.specs.declared.Tag.{Tag}
use Rattle.replies.specs.Answer.{Answer, costing, refusal}
use Rattle.keyring.specs.Keyring.{changed_key, key_version}
use Rattle.details.specs.Details.{card_uid, file_settings, file_counters}
use Rattle.change_settings.specs.ChangeSettings.{changed_settings}
use Rattle.contents.specs.Contents.{read_data, written_data}

-- step 9: the command's own values; r are its file's settings, p is its data, opened. The others, which have no message, are not
-- answered here, and 911C stands in
unfoldable pub own : Name → Tag → Command → Reading → Decision → List ℕ → List ℕ → Answer
own ChangeKey t k r d p random = changed_key t k.key p
own GetKeyVersion t k r d p random = key_version t k.key d.mode
own GetCardUid t k r d p random = card_uid t
own GetFileSettings t k r d p random = file_settings t k.file d.mode
own ChangeFileSettings t k r d p random = changed_settings t k.file r p d.mode
own GetFileCounters t k r d p random = file_counters t d.mode
own ReadData t k r d p random = read_data t k r d random
own WriteData t k r d p random = written_data t k p d.mode
own AuthenticateFirst t k r d p random = refusal t illegal_command_code
own AuthenticateNonFirst t k r d p random = refusal t illegal_command_code
own PartTwo t k r d p random = refusal t illegal_command_code
own IsoSelectFile t k r d p random = refusal t illegal_command_code
own IsoReadBinary t k r d p random = refusal t illegal_command_code
own IsoUpdateBinary t k r d p random = refusal t illegal_command_code

-- step 8: what a command opens to in a mode
abbrev pub opening_of : Tag → Command → List ℕ → Mode → Opening
opening_of t k x m = opening (session_of t.live) m k.ins x k.header k.parted

-- 02, request 10: what that costs
abbrev pub opening_cost_of : Tag → Command → List ℕ → Mode → ℕ
opening_cost_of t k x m = opening_cost (session_of t.live) m k.ins x k.header k.parted

-- wrong data length for the mode 917E; wrong MAC, then wrong padding 911E
abbrev pub on_opening : Tag → Command → Reading → Decision → List ℕ → Opening → Answer
on_opening t k r d random (plain p) = own k.name t k r d p random
on_opening t k r d random wrong_length = refusal t (opened_status (Err WrongLength))
on_opening t k r d random wrong_mac = refusal t (opened_status (Err WrongMac))
on_opening t k r d random wrong_padding = refusal t (opened_status (Err WrongPadding))

-- of the code: the same, of what opening says; a message of over 255 bytes 917E. A room of 256 bytes takes any other
abbrev pub refused_word : NotOpened → ℕ
refused_word WrongLength = length_error
refused_word WrongMac = integrity_error
refused_word WrongPadding = integrity_error
refused_word TooLong = length_error
refused_word NoRoom = length_error

-- no message has over 255 bytes; what opening it costs is added to what its answer costs
unfoldable pub wrapped : Tag → Command → Reading → Decision → List ℕ → List ℕ → Answer
wrapped t k r d x random =
    pick (ltb 255 (length x)) (refusal t length_error)
    (costing (opening_cost_of t k x d.mode) (on_opening t k r d random (opening_of t k x d.mode)))
