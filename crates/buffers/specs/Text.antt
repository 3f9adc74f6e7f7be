-- What a buffer holds.
use Rattle.std.specs.Prelude.{List, ℕ, take}
use Rattle.buffers.specs.declared.buffer.Buffer.{Buffer}

abbrev pub text_of : {n : ℕ} → Buffer n → List ℕ
text_of b = take b.length b.bytes
