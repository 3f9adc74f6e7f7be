-- 01, "Access and modes" (8.2.3, Tables 6 to 12), and 02, request 5: one decision for both classes, which says how it grants and under
-- which right.
use Rattle.std.specs.Prelude.{Bool, true, false, not, List, [], ◌∷◌, Option, Some, None, ℕ, eqb, leb}
use Rattle.base.specs.Decide.{pick, and}
use Rattle.base.specs.Status.{operation_ok, permission_denied, authentication_error, iso_normal, iso_security}
use Rattle.messaging.specs.declared.Mode.{Mode}
use Rattle.messaging.specs.declared.Mode.TheVariants.{Plain, Mac, Full}
use Rattle.messaging.specs.Protect.{mode_number}
use Rattle.fields.specs.declared.Head.{Head}
use Rattle.order.specs.declared.Name.{Name}
use Rattle.order.specs.declared.Name.TheVariants.{AuthenticateFirst, AuthenticateNonFirst, PartTwo, ChangeKey, GetKeyVersion, GetCardUid}
use Rattle.order.specs.declared.Name.TheVariants.{GetFileSettings, ChangeFileSettings, GetFileCounters, ReadData, WriteData}
use Rattle.order.specs.declared.Name.TheVariants.{IsoSelectFile, IsoReadBinary, IsoUpdateBinary}
use Rattle.state.specs.declared.Live.{Live}
use Rattle.access.specs.declared.Right.{Right}
use Rattle.access.specs.declared.Right.TheVariants.{Read, Write, ReadWrite, Change, SdmMetaRead, SdmFileRead, SdmCtrRet}
use Rattle.access.specs.declared.Grant.{Grant}
use Rattle.access.specs.declared.Grant.TheVariants.{ByKey, ByTap, Free, Unasked, Never, Denied}
use Rattle.access.specs.declared.Decision.{Decision}

-- the condition of a right in a file's settings
unfoldable pub condition_of : Right → Head → ℕ
condition_of Read h = h.read
condition_of Write h = h.write
condition_of ReadWrite h = h.read_write
condition_of Change h = h.change
condition_of SdmMetaRead h = h.sdm_meta_read
condition_of SdmFileRead h = h.sdm_file_read
condition_of SdmCtrRet h = h.sdm_ctr_ret

-- the first of these rights whose condition is c grants so; failing that, the rest decides
unfoldable pub first_of : ℕ → (Right → Grant) → List Right → Head → Grant → Grant
first_of c so [] h rest = rest
first_of c so (r ∷ rs) h rest = pick (eqb (condition_of r h) c) (so r) (first_of c so rs h rest)

-- the first of these rights whose condition is c, if one is
unfoldable pub first_with : ℕ → List Right → Head → Option Right
first_with c [] h = None
first_with c (r ∷ rs) h = pick (eqb (condition_of r h) c) (Some r) (first_with c rs h)

-- every condition concerned is F, SDMFileRead too
unfoldable pub all_never : List Right → Head → ℕ → Bool
all_never [] h file = eqb file 15
all_never (r ∷ rs) h file = and (eqb (condition_of r h) 15) (all_never rs h file)

-- The rights that a command looks at, in Table 9's order, and for a read with SDM on SDMFileRead (else F). In session a condition equal to the
-- key grants; without session SDMFileRead 0 to 4 is read with mirroring; failing that, E grants. Not granted: every condition F, or not. (02:
-- key before free, the tap rule before E; of several rights alike, the first)
unfoldable pub granted : Live → Head → List Right → ℕ → Grant
granted l h asked file =
    let free = first_of 14 Free asked h (pick (all_never asked h file) Never Denied) in
    pick l.on (first_of l.key ByKey asked h free) (pick (leb file 4) ByTap free)

-- reads look at Read and ReadWrite, writes at Write and ReadWrite
unfoldable pub read_grant : Live → Head → Grant
read_grant l h = granted l h (Read ∷ ReadWrite ∷ []) (pick h.sdm h.sdm_file_read 15)

unfoldable pub write_grant : Live → Head → Grant
write_grant l h = granted l h (Write ∷ ReadWrite ∷ []) 15

-- ChangeFileSettings uses Change, GetFileCounters SDMCtrRet, by the same rule; counters with SDM off: 919D
unfoldable pub change_grant : Live → Head → Grant
change_grant l h = granted l h (Change ∷ []) 15

unfoldable pub counter_grant : Live → Head → Grant
counter_grant l h = pick h.sdm (granted l h (SdmCtrRet ∷ []) 15) Never

-- GetFileSettings and GetKeyVersion are always granted; GetCardUID needs a session; ChangeKey needs key 0; the authentications
-- and selects have no access step
unfoldable pub grant_for : Name → Live → Head → Grant
grant_for AuthenticateFirst l h = Unasked
grant_for AuthenticateNonFirst l h = Unasked
grant_for PartTwo l h = Unasked
grant_for ChangeKey l h = pick (and l.on (eqb l.key 0)) Unasked Denied
grant_for GetKeyVersion l h = Unasked
grant_for GetCardUid l h = pick l.on Unasked Denied
grant_for GetFileSettings l h = Unasked
grant_for ChangeFileSettings l h = change_grant l h
grant_for GetFileCounters l h = counter_grant l h
grant_for ReadData l h = read_grant l h
grant_for WriteData l h = write_grant l h
grant_for IsoSelectFile l h = Unasked
grant_for IsoReadBinary l h = read_grant l h
grant_for IsoUpdateBinary l h = write_grant l h

-- the mode of a file, by the numbers of MAC and Full; any other number is Plain
unfoldable pub file_mode : ℕ → Mode
file_mode m = pick (eqb m (mode_number Mac)) Mac (pick (eqb m (mode_number Full)) Full Plain)

-- a key grants in the given mode, E and the tap rule in Plain
unfoldable pub under_key : Grant → Mode → Mode
under_key (ByKey r) m = m
under_key ByTap m = Plain
under_key (Free r) m = Plain
under_key Unasked m = Plain
under_key Never m = Plain
under_key Denied m = Plain

-- GetFileSettings and GetKeyVersion: MAC in session; GetCardUID and ChangeKey: Full; 5F and F6 are Full under a key; reads and
-- writes have the file's mode under a key
unfoldable pub mode_for : Name → Grant → Bool → ℕ → Mode
mode_for AuthenticateFirst g live m = Plain
mode_for AuthenticateNonFirst g live m = Plain
mode_for PartTwo g live m = Plain
mode_for ChangeKey g live m = Full
mode_for GetKeyVersion g live m = pick live Mac Plain
mode_for GetCardUid g live m = Full
mode_for GetFileSettings g live m = pick live Mac Plain
mode_for ChangeFileSettings g live m = under_key g Full
mode_for GetFileCounters g live m = under_key g Full
mode_for ReadData g live m = under_key g (file_mode m)
mode_for WriteData g live m = under_key g (file_mode m)
mode_for IsoSelectFile g live m = Plain
mode_for IsoReadBinary g live m = under_key g (file_mode m)
mode_for IsoUpdateBinary g live m = under_key g (file_mode m)

-- the reads of a file
unfoldable pub reads : Name → Bool
reads AuthenticateFirst = false
reads AuthenticateNonFirst = false
reads PartTwo = false
reads ChangeKey = false
reads GetKeyVersion = false
reads GetCardUid = false
reads GetFileSettings = false
reads ChangeFileSettings = false
reads GetFileCounters = false
reads ReadData = true
reads WriteData = false
reads IsoSelectFile = false
reads IsoReadBinary = true
reads IsoUpdateBinary = false

-- the decision; an unauthenticated read of an SDM-enabled file is a tap, also where SDMFileRead is F and E grants
unfoldable pub decided : Name → Live → Head → Decision
decided n l h =
    record {
      grant = grant_for n l h;
      mode = mode_for n (grant_for n l h) l.on h.mode;
      tap = and (reads n) (and h.sdm (not l.on));
    }

-- 01's status of a grant: not granted 919D if all conditions concerned are F, else 91AE; of CLA 00 6982
unfoldable pub grant_status : ℕ → Grant → ℕ
grant_status class (ByKey r) = pick (eqb class 0x90) operation_ok iso_normal
grant_status class ByTap = pick (eqb class 0x90) operation_ok iso_normal
grant_status class (Free r) = pick (eqb class 0x90) operation_ok iso_normal
grant_status class Unasked = pick (eqb class 0x90) operation_ok iso_normal
grant_status class Never = pick (eqb class 0x90) permission_denied iso_security
grant_status class Denied = pick (eqb class 0x90) authentication_error iso_security
