-- The file byte (01, "Order of checks", step 5, also of ChangeFileSettings): over 31 919E; not 1 to 3 91F0.
use Rattle.std.specs.Prelude.{ℕ, eqb, ltb, Result, Ok, Err}
use Rattle.base.specs.Decide.{pick, or}
use Rattle.base.specs.Status.{parameter_error, file_not_found}
use Rattle.settings.specs.declared.FileFault.{FileFault}
use Rattle.settings.specs.declared.FileFault.TheVariants.{OverThirtyOne, NoSuchFile}

-- one answer for a fault, another for file 1 to 3
abbrev pub by_fault : {A : Type 0} → ℕ → (FileFault → A) → A → A
by_fault n fault known = pick (ltb 31 n) (fault OverThirtyOne) (pick (or (eqb n 0) (ltb 3 n)) (fault NoSuchFile) known)

abbrev pub file_fault_word : FileFault → ℕ
file_fault_word OverThirtyOne = parameter_error
file_fault_word NoSuchFile = file_not_found

-- whether there is a file n, and its number
unfoldable pub file_judged : ℕ → Result (Unit {0}) FileFault
file_judged n = by_fault n (λ f. Err f) (Ok tt)

unfoldable pub filed_word : Result (Unit {0}) FileFault → ℕ
filed_word (Ok _) = 0
filed_word (Err f) = file_fault_word f

-- the status of a file byte, 0 for file 1 to 3
unfoldable pub file_status : ℕ → ℕ
file_status n = by_fault n file_fault_word 0
