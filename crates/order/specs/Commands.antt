-- A command as a value, made once from its bytes: 01, "Order of checks", steps 1 to 5.
use Rattle.std.specs.Prelude.{Bool, List, Option, Some, None, Result, Ok, Err, ℕ, ◌+◌, ◌-◌, ◌*◌, eqb, leb, ltb, length, take, drop}
use Rattle.base.specs.Decide.{pick, or}
use Rattle.base.specs.Bytes.{byte_at}
use Rattle.base.specs.Status.{illegal_command_code, length_error, iso_wrong_length, iso_unknown_instruction, iso_unknown_class}
use Rattle.fields.specs.Fields.{three}
use Rattle.order.specs.declared.Name.{Name}
use Rattle.statuses.specs.declared.Status.{Status}
use Rattle.statuses.specs.Words.{status_word}
use Rattle.order.specs.declared.Command.{Command}
use Rattle.order.specs.Names.{named}
use Rattle.order.specs.Order.{form_right, command_data, header_length, has_data, names_key, wrapped_status, iso_form, lc_of, iso_status}

-- n bytes of data stand behind the five in front; none stand nowhere
abbrev pub data_start : ℕ → ℕ
data_start n = pick (eqb n 0) 0 5

abbrev pub data_end : ℕ → ℕ
data_end n = pick (eqb n 0) 0 (5 + n)

-- CLA 90: the header's numbers, 0 where it has none: the key or the file, offset and length
unfoldable pub wrapped_command : Name → List ℕ → Command
wrapped_command name c =
    let ins = byte_at c 1 in
    let x = command_data c in
    let first = pick (leb 1 (header_length ins)) (byte_at x 0) 0 in
    let long = eqb (header_length ins) 7 in
    record {
      name = name;
      class = 0x90;
      ins = ins;
      header = header_length ins;
      parted = has_data ins;
      key = pick (names_key ins) first 0;
      file = pick (names_key ins) 0 first;
      p1 = 0;
      p2 = 0;
      offset = pick long (three x 1) 0;
      count = pick long (three x 4) 0;
      start = data_start (length c - 6);
      end = data_end (length c - 6);
    }

-- CLA 00: P1 and P2, which are an offset too, Le, and the selected file, which a select does not look at
unfoldable pub iso_command : Name → List ℕ → ℕ → Command
iso_command name c file =
    record {
      name = name;
      class = 0x00;
      ins = byte_at c 1;
      header = 0;
      parted = leb 1 (lc_of c);
      key = 0;
      file = file;
      p1 = byte_at c 2;
      p2 = byte_at c 3;
      offset = byte_at c 2 * 256 + byte_at c 3;
      count = byte_at c 4;
      start = data_start (lc_of c);
      end = data_end (lc_of c);
    }

-- the command, or the word of the status that refuses it
abbrev pub Ordered : Type 0
Ordered = Result Command ℕ

-- what the code answers, its status as a word
abbrev pub in_words : Result Command Status → Ordered
in_words (Ok k) = Ok k
in_words (Err s) = Err (status_word s)

unfoldable pub by_status : ℕ → Command → Ordered
by_status s k = pick (eqb s 0) (Ok k) (Err s)

-- step 3: unknown INS 911C or 6D00
abbrev pub on_wrapped : List ℕ → Bool → Bool → Option Name → Ordered
on_wrapped c pending application (Some n) = by_status (wrapped_status c pending application) (wrapped_command n c)
on_wrapped c pending application None = Err illegal_command_code

abbrev pub on_iso : List ℕ → Bool → ℕ → Option Name → Ordered
on_iso c pending file (Some n) = by_status (iso_status c pending file) (iso_command n c file)
on_iso c pending file None = Err iso_unknown_instruction

-- step 2: wrong form 917E or 6700
unfoldable pub wrapped_order : List ℕ → Bool → Bool → Ordered
wrapped_order c pending application =
    pick (form_right c) (on_wrapped c pending application (named 0x90 (byte_at c 1))) (Err length_error)

unfoldable pub iso_order : List ℕ → Bool → ℕ → Ordered
iso_order c pending file = pick (iso_form c) (on_iso c pending file (named 0x00 (byte_at c 1))) (Err iso_wrong_length)

-- step 1: under 4 or over 261 bytes 6700; CLA not 00 or 90 6E00
unfoldable pub ordered : List ℕ → Bool → Bool → ℕ → Ordered
ordered c pending application file =
    pick (or (ltb (length c) 4) (ltb 261 (length c))) (Err iso_wrong_length)
    (pick (eqb (byte_at c 0) 0x90) (wrapped_order c pending application)
    (pick (eqb (byte_at c 0) 0) (iso_order c pending file) (Err iso_unknown_class)))

-- the data of a command among its bytes
unfoldable pub data_of : Command → List ℕ → List ℕ
data_of k c = take (k.end - k.start) (drop k.start c)

-- its number: 0 where the command is let through, else the status
unfoldable pub ordered_number : Ordered → ℕ
ordered_number (Ok k) = 0
ordered_number (Err s) = s
