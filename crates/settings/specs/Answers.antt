-- What the functions answer, and the numbers of 01 and Table 71 for each case.
use Rattle.std.specs.Prelude.{List, ℕ, Result, Ok, Err}
use Rattle.base.specs.Status.{operation_ok, length_error, parameter_error}
use Rattle.settings.specs.declared.Status.{Status}
use Rattle.settings.specs.declared.Status.TheVariants.{LengthError, ParameterError}
use Rattle.settings.specs.declared.Fault.{Fault}
use Rattle.settings.specs.declared.Fault.TheVariants.{String, File}
use Rattle.rules.specs.declared.findings.Broken.{Broken}
use Rattle.rules.specs.declared.findings.Broken.TheVariants.{Missing, Wrong}
use Rattle.settings.specs.declared.Seen.{Seen}
use Rattle.fields.specs.Fields.{read_of}
use Rattle.spans.specs.declared.Reading.{Reading}
use Rattle.spans.specs.Spans.{reading_of}
use Rattle.rules.specs.Rules.{rules, found}
use Rattle.settings.specs.Filing.{by_fault, file_fault_word}

-- Table 71: LENGTH_ERROR 7E, PARAMETER_ERROR 9E, behind 91
unfoldable pub status_word : Status → ℕ
status_word LengthError = length_error
status_word ParameterError = parameter_error

unfoldable pub fault_word : Fault → ℕ
fault_word (String e) = status_word e
fault_word (File f) = file_fault_word f

-- whether a string is good for a file, or its fault
abbrev pub Verdict : Type 0
Verdict = Result (Unit {0}) Fault

-- 917E where a part is missing or the length is wrong, 919E where a test fails
abbrev pub fault_of : Broken → Fault
fault_of (Missing p) = String LengthError
fault_of (Wrong k) = String ParameterError

unfoldable pub verdict_of : Result (Unit {0}) Broken → Verdict
verdict_of (Ok _) = Ok tt
verdict_of (Err b) = Err (fault_of b)

-- the verdict on a string for file n; the file byte is judged before the string is looked at
unfoldable pub judged : ℕ → List ℕ → Verdict
judged n s = by_fault n (λ f. Err (File f)) (verdict_of (found (rules n s)))

-- the verdict, and what the string means, good or not
unfoldable pub seen : ℕ → List ℕ → Seen
seen n s = record { verdict = judged n s; reading = reading_of (read_of s) }

-- its number, 9100 for a good string
unfoldable pub verdict_word : Verdict → ℕ
verdict_word (Ok _) = operation_ok
verdict_word (Err e) = fault_word e

-- Reading a string
unfoldable pub read_as : Verdict → List ℕ → Result Reading Fault
read_as (Ok _) s = Ok (reading_of (read_of s))
read_as (Err e) s = Err e

-- its number, 9100 where the string is read
unfoldable pub told_word : Result Reading Fault → ℕ
told_word (Ok r) = operation_ok
told_word (Err e) = fault_word e
