-- A string that is good keeps every rule, and one that keeps every rule is good.
use mathlib.Core.Path.{◌≡◌, refl, sym, ap, ◌∙◌}
use mathlib.Core.Bool.{Bool, true, false}
use mathlib.Core.List.{List, [], ◌∷◌}
use Prim.Native.Nat.{ℕ, ◌≤◌}
use lib.Dec.{eqb, ltb}
use lib.ListN.{length}
use borrow.Author.Tests.{leb-true, eqb-true}
use Rattle.std.specs.Prelude.{Result, Ok, Err}
use Rattle.base.specs.Decide.{pick, or}
use Rattle.base.specs.Bytes.{byte_at}
use Rattle.fields.specs.declared.Head.{Head}
use Rattle.fields.specs.declared.Settings.{Settings}
use Rattle.rules.specs.declared.Part.{Part}
use Rattle.rules.specs.declared.Check.{Check}
use Rattle.rules.specs.declared.findings.Broken.{Broken}
use Rattle.rules.specs.declared.Part.TheVariants.{OptionByte, RightsBytes, SdmOptionsByte, SdmRightsBytes, Whole}
use Rattle.rules.specs.declared.Check.TheVariants.{OptionBits, SdmFile, Rights, SdmOptionsBits, SdmRights}
use Rattle.rules.specs.declared.Check.TheVariants.{MetaMirrors, MetaOff, EncNeeds, EncSize}
use Rattle.rules.specs.declared.Check.TheVariants.{UidInside, CounterInside, PiccInside, EncInside, MacInside}
use Rattle.rules.specs.declared.Check.TheVariants.{Shared, MacInput, EncBetween}
use Rattle.settings.specs.declared.FileFault.TheVariants.{OverThirtyOne, NoSuchFile}
use Rattle.settings.specs.declared.Fault.TheVariants.{File}
use Rattle.fields.specs.Fields.{sdm_on, head_of, places_in, size_of}
use Rattle.spans.specs.Spans.{uid_span, counter_span, picc_span, enc_span, mac_span, spans_of, inside, all_apart}
use Rattle.rules.specs.Rules.{Rule, there, right, found, kept, option_bits, sdm_file, rights, sdm_options_bits, sdm_rights}
use Rattle.rules.specs.Rules.{meta_mirrors, meta_off, enc_needs, enc_size, mac_input, enc_between}
use Rattle.rules.specs.Rules.{position_rules, sdm_rules, rest_rules, rules}
use Rattle.settings.specs.Answers.{Verdict, verdict_of, judged}
use Rattle.settings.proofs.Filing.{one_to_three}

-- the first rule of a list holds, and the rest is kept
pub record Held (b : Bool) (rs : List Rule) : Type 0 where
  pub first : b ≡ true
  pub rest : found rs ≡ Ok tt

pub held-there : (p : Part) (b : Bool) (rs : List Rule) → found (there p b ∷ rs) ≡ Ok tt → Held b rs
unfolding found
held-there p true rs e = record { first = refl; rest = e }
held-there p false rs e = cc

pub held-right : (k : Check) (b : Bool) (rs : List Rule) → found (right k b ∷ rs) ≡ Ok tt → Held b rs
unfolding found
held-right k true rs e = record { first = refl; rest = e }
held-right k false rs e = cc

pub kept_is : (f : Result (Unit {0}) Broken) → kept f ≡ true → f ≡ Ok tt
unfolding kept
kept_is (Ok tt) e = refl
kept_is (Err b) e = cc

good_kept : (f : Result (Unit {0}) Broken) → verdict_of f ≡ Ok tt → f ≡ Ok tt
unfolding verdict_of
good_kept (Ok tt) e = refl
good_kept (Err b) e = cc

-- a string is good only for a file that there is
file-good : (a b : Bool) (v : Verdict) → pick a (Err (File OverThirtyOne)) (pick b (Err (File NoSuchFile)) v) ≡ Ok tt → v ≡ Ok tt
file-good true b v e = cc
file-good false true v e = cc
file-good false false v e = e

pub kept_rules : (n : ℕ) (s : List ℕ) → judged n s ≡ Ok tt → found (rules n s) ≡ Ok tt
unfolding judged
kept_rules n s e = good_kept (found (rules n s)) (file-good (ltb 31 n) (or (eqb n 0) (ltb 3 n)) _ e)

pub rules_kept : (n : ℕ) (s : List ℕ) → 1 ≤ n → n ≤ 3 → found (rules n s) ≡ Ok tt → judged n s ≡ Ok tt
unfolding judged verdict_of
rules_kept n s h k e = one_to_three n (λ f. Err (File f)) (verdict_of (found (rules n s))) h k ∙ ap verdict_of e

-- what every good string keeps
pub record Front (n : ℕ) (s : List ℕ) : Type 0 where
  pub bits : option_bits (byte_at s 0) ≡ true
  pub file : sdm_file n (head_of s) ≡ true
  pub long : 3 ≤ length s
  pub conditions : rights (head_of s) ≡ true
  pub rest : found (rest_rules s (head_of s)) ≡ Ok tt

pub front_kept : (n : ℕ) (s : List ℕ) → judged n s ≡ Ok tt → Front n s
unfolding rules
front_kept n s e =
    let k₁ = held-there OptionByte _ _ (kept_rules n s e) in
    let k₂ = held-right OptionBits _ _ k₁.rest in
    let k₃ = held-right SdmFile _ _ k₂.rest in
    let k₄ = held-there RightsBytes _ _ k₃.rest in
    let k₅ = held-right Rights _ _ k₄.rest in
    record {
      bits = k₂.first;
      file = k₃.first;
      long = leb-true 3 (length s) k₄.first;
      conditions = k₅.first;
      rest = k₅.rest;
    }

-- with SDM off
pub rest_off : (s : List ℕ) (h : Head) → sdm_on s ≡ false → rest_rules s h ≡ there Whole (eqb (length s) (size_of h)) ∷ []
unfolding rest_rules
rest_off s h o = ap (λ t. pick t (sdm_rules s h) (there Whole (eqb (length s) (size_of h)) ∷ [])) o

pub off_size : (n : ℕ) (s : List ℕ) → judged n s ≡ Ok tt → sdm_on s ≡ false → length s ≡ size_of (head_of s)
off_size n s e o =
    let w = sym (ap found (rest_off s (head_of s) o)) ∙ (front_kept n s e).rest in
    eqb-true _ _ (held-there Whole _ _ w).first

-- with SDM on
pub record Sdm (s : List ℕ) (h : Head) : Type 0 where
  pub bits : sdm_options_bits (byte_at s 3) ≡ true
  pub long : 6 ≤ length s
  pub conditions : sdm_rights h ≡ true
  pub mirrors : meta_mirrors h ≡ true
  pub none : meta_off h ≡ true
  pub needs : enc_needs h ≡ true
  pub whole : length s ≡ size_of h
  pub positions : found (position_rules (record { head = h; places = places_in s h })) ≡ Ok tt

sdm-held : (s : List ℕ) (h : Head) → found (sdm_rules s h) ≡ Ok tt → Sdm s h
unfolding sdm_rules
sdm-held s h e =
    let k₁ = held-there SdmOptionsByte _ _ e in
    let k₂ = held-right SdmOptionsBits _ _ k₁.rest in
    let k₃ = held-there SdmRightsBytes _ _ k₂.rest in
    let k₄ = held-right SdmRights _ _ k₃.rest in
    let k₅ = held-right MetaMirrors _ _ k₄.rest in
    let k₆ = held-right MetaOff _ _ k₅.rest in
    let k₇ = held-right EncNeeds _ _ k₆.rest in
    let k₈ = held-there Whole _ _ k₇.rest in
    record {
      bits = k₂.first;
      long = leb-true 6 (length s) k₃.first;
      conditions = k₄.first;
      mirrors = k₅.first;
      none = k₆.first;
      needs = k₇.first;
      whole = eqb-true _ _ k₈.first;
      positions = k₈.rest;
    }

pub rest_on : (s : List ℕ) (h : Head) → sdm_on s ≡ true → rest_rules s h ≡ sdm_rules s h
unfolding rest_rules
rest_on s h o = ap (λ t. pick t (sdm_rules s h) (there Whole (eqb (length s) (size_of h)) ∷ [])) o

pub sdm_kept : (n : ℕ) (s : List ℕ) → judged n s ≡ Ok tt → sdm_on s ≡ true → Sdm s (head_of s)
sdm_kept n s e o = sdm-held s (head_of s) (sym (ap found (rest_on s (head_of s) o)) ∙ (front_kept n s e).rest)

-- positions
pub record Positions (r : Settings) : Type 0 where
  pub size : enc_size r ≡ true
  pub uid : inside (uid_span r) ≡ true
  pub counter : inside (counter_span r) ≡ true
  pub picc : inside (picc_span r) ≡ true
  pub enc : inside (enc_span r) ≡ true
  pub mac : inside (mac_span r) ≡ true
  pub shared : all_apart (spans_of r) ≡ true
  pub input : mac_input r ≡ true
  pub between : enc_between r ≡ true

pub positions_held : (r : Settings) → found (position_rules r) ≡ Ok tt → Positions r
unfolding position_rules
positions_held r e =
    let k₁ = held-right EncSize _ _ e in
    let k₂ = held-right UidInside _ _ k₁.rest in
    let k₃ = held-right CounterInside _ _ k₂.rest in
    let k₄ = held-right PiccInside _ _ k₃.rest in
    let k₅ = held-right EncInside _ _ k₄.rest in
    let k₆ = held-right MacInside _ _ k₅.rest in
    let k₇ = held-right Shared _ _ k₆.rest in
    let k₈ = held-right MacInput _ _ k₇.rest in
    let k₉ = held-right EncBetween _ _ k₈.rest in
    record {
      size = k₁.first;
      uid = k₂.first;
      counter = k₃.first;
      picc = k₄.first;
      enc = k₅.first;
      mac = k₆.first;
      shared = k₇.first;
      input = k₈.first;
      between = k₉.first;
    }
