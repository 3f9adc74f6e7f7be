-- The word of each status, by the names of Tables 23 and 24.
use Rattle.std.specs.Prelude.{ℕ, Result, Ok, Err}
use Rattle.base.specs.Status as named
use Rattle.statuses.specs.declared.Status.{Status}
use Rattle.statuses.specs.declared.Status.TheVariants as status

abbrev pub status_word : Status → ℕ
status_word status.OperationOk = named.operation_ok
status_word status.IllegalCommandCode = named.illegal_command_code
status_word status.IntegrityError = named.integrity_error
status_word status.NoSuchKey = named.no_such_key
status_word status.LengthError = named.length_error
status_word status.PermissionDenied = named.permission_denied
status_word status.ParameterError = named.parameter_error
status_word status.AuthenticationError = named.authentication_error
status_word status.AdditionalFrame = named.additional_frame
status_word status.BoundaryError = named.boundary_error
status_word status.CommandAborted = named.command_aborted
status_word status.FileNotFound = named.file_not_found
status_word status.IsoNormal = named.iso_normal
status_word status.IsoWrongLength = named.iso_wrong_length
status_word status.IsoSecurity = named.iso_security
status_word status.IsoConditions = named.iso_conditions
status_word status.IsoWrongData = named.iso_wrong_data
status_word status.IsoNotFound = named.iso_not_found
status_word status.IsoWrongP1P2 = named.iso_wrong_p1_p2
status_word status.IsoWrongLc = named.iso_wrong_lc
status_word (status.WrongLe there) = named.iso_wrong_le there
status_word status.IsoUnknownInstruction = named.iso_unknown_instruction
status_word status.IsoUnknownClass = named.iso_unknown_class

-- 0, or the word of the status that refuses
abbrev pub word_or_0 : {A : Type 0} → Result A Status → ℕ
word_or_0 (Ok _) = 0
word_or_0 (Err s) = status_word s
