-- 01, "Files": the part of a file that a read gives, and the files with other bytes.
use Rattle.std.specs.Prelude.{List, ℕ, ◌+◌, min, take, drop}
use Rattle.base.specs.Bytes.{laid}
use Rattle.base.specs.Status.{iso_normal}
use Rattle.messaging.specs.declared.Mode.{Mode}
use Rattle.state.specs.declared.Files.{Files}
use Rattle.state.specs.declared.Tag.{Tag}
use Rattle.state.specs.State.{start_of, file_of}
use Rattle.replies.specs.Answer.{Answer, given, accepted, afterwards}

-- of the code, not the paper: the part of a text from an offset on, so many bytes of it, at most 256 as data of a reply
unfoldable pub part_of : List ℕ → ℕ → ℕ → List ℕ
part_of text at count = take (min count 256) (drop at text)

-- a read of stored bytes, wrapped and ISO
unfoldable pub stored : Tag → Mode → ℕ → ℕ → ℕ → Answer
stored t m n at count = accepted t m (take count (drop at (file_of t.files n)))

unfoldable pub stored_iso : Tag → ℕ → ℕ → ℕ → Answer
stored_iso t n at count = given (afterwards t) iso_normal (take count (drop at (file_of t.files n)))

-- the files with other bytes from an offset of file n on
unfoldable pub with_bytes : Files → ℕ → ℕ → List ℕ → Files
with_bytes f n at p = record { bytes = laid p (start_of n + at) f.bytes; rules = f.rules; lens = f.lens }
