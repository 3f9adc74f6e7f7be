-- A wrapped command is refused with a status that does not accept, or comes to its own values.
use Rattle.std.specs.Prelude.{Err, Ok, Some}
use mathlib.Core.Path.{◌≡◌, refl, sym, subst}
use mathlib.Core.Bool.{Bool, true, false}
use mathlib.Core.List.{List, [], ◌∷◌}
use Prim.Native.Nat.{ℕ}
use lib.Dec.{eqb, ltb}
use lib.ListN.{length}
use borrow.Author.Tests.{eq-eqb}
use Rattle.base.specs.Decide.{and, or, one_of}
use Rattle.base.specs.Bytes.{byte_at}
use Rattle.opening.specs.declared.NotOpened.TheVariants.{WrongLength, WrongMac, WrongPadding}
use Rattle.messaging.specs.Protect.{Opening, plain, wrong_length, wrong_mac, wrong_padding}
use Rattle.opening.specs.Command.{opened_status}
use Rattle.settings.specs.Filing.{file_status}
use Rattle.spans.specs.declared.Reading.{Reading}
use Rattle.order.specs.declared.Name.{Name}
use Rattle.order.specs.declared.Command.{Command}
use Rattle.order.specs.Names.{named}
use Rattle.order.specs.Order.{form_right, command_data, order_status, header_length, names_key, key_status, byte_status, front_status, wrapped_status}
use Rattle.order.specs.Commands.{Ordered, wrapped_command, by_status, on_wrapped, wrapped_order, ordered, data_of}
use Rattle.order.proofs.Placed.{wrapped_data}
use Rattle.access.specs.declared.Grant.{Grant}
use Rattle.access.specs.declared.Grant.TheVariants.{ByKey, ByTap, Free, Unasked, Never, Denied}
use Rattle.access.specs.declared.Decision.{Decision}
use Rattle.access.specs.Access.{decided, grant_status}
use Rattle.state.specs.declared.Tag.{Tag}
use Rattle.state.specs.State.{reading_in}
use Rattle.replies.specs.Answer.{Answer, costing, refusal}
use Rattle.wrapped.specs.Wrapped.{own, opening_of, opening_cost_of, on_opening, wrapped}
use Rattle.tag.specs.Way.{used_up, from_step7, on_grant, from_step6, commanded, on_order, answered}
use Rattle.series.specs.Series.{accepting, allows}
use Rattle.series.proofs.Choices.{way}
use Rattle.demands.proofs.Building.{against}

-- ---- statuses that do not accept
abbrev pub Bars : ℕ → Type 0
Bars s = accepting s ≡ false

key_bars : (k : ℕ) → Bars (key_status k)
unfolding key_status accepting
key_bars k = way Bars (ltb 63 k) (λ e. refl) (λ e. way Bars (ltb 4 k) (λ e. refl) (λ e. refl))

file_bars : (n : ℕ) → Bars (file_status n)
unfolding file_status accepting
file_bars n = way Bars (ltb 31 n) (λ e. refl) (λ e. way Bars (or (eqb n 0) (ltb 3 n)) (λ e. refl) (λ e. refl))

order_bars : (ins p1 p2 : ℕ) (pending : Bool) → Bars (order_status ins p1 p2 pending)
unfolding order_status accepting
order_bars ins p1 p2 pending =
    way Bars (and (eqb p1 0) (eqb p2 0))
    (λ e.
    way Bars pending (λ e. way Bars (eqb ins 0xAF) (λ e. refl) (λ e. refl)) (λ e. way Bars (eqb ins 0xAF) (λ e. refl) (λ e. refl)))
    (λ e. refl)

front_bars : (ins : ℕ) (x : List ℕ) (application : Bool) → Bars (front_status ins x application)
unfolding front_status byte_status accepting
front_bars ins x application =
    way Bars (one_of ins (0x71 ∷ 0x77 ∷ 0xAF ∷ [])) (λ e. refl)
    (λ e.
    way Bars (ltb (length x) (header_length ins)) (λ e. refl)
    (λ e.
    way Bars application
    (λ e.
    way Bars (eqb ins 0x51) (λ e. refl) (λ e. way Bars (names_key ins) (λ e. key_bars (byte_at x 0)) (λ e. file_bars (byte_at x 0))))
    (λ e. refl)))

wrapped_bars : (c : List ℕ) (pending application : Bool) → Bars (wrapped_status c pending application)
unfolding wrapped_status
wrapped_bars c pending application =
    way Bars (eqb (order_status (byte_at c 1) (byte_at c 2) (byte_at c 3) pending) 0)
    (λ e. front_bars (byte_at c 1) (command_data c) application) (λ e. order_bars (byte_at c 1) (byte_at c 2) (byte_at c 3) pending)

pub long_bars : Bars 0x6700
unfolding accepting
long_bars = refl

pub length_bars : Bars 0x917E
unfolding accepting
length_bars = refl

full_bars : Bars 0x91AE
unfolding accepting
full_bars = refl

never_bars : Bars (grant_status 0x90 Never)
unfolding accepting grant_status
never_bars = refl

denied_bars : Bars (grant_status 0x90 Denied)
unfolding accepting grant_status
denied_bars = refl

wrong_length_bars : Bars (opened_status (Err WrongLength))
unfolding accepting opened_status
wrong_length_bars = refl

mac_bars : Bars (opened_status (Err WrongMac))
unfolding accepting opened_status
mac_bars = refl

padding_bars : Bars (opened_status (Err WrongPadding))
unfolding accepting opened_status
padding_bars = refl

-- ---- steps 6 to 8
module _ (t : Tag) (random : List ℕ) (P : Answer → Type 0) (refused : (s : ℕ) → Bars s → P (refusal t s)) where
  module _ (name : Name) (c x : List ℕ) (r : Reading) where
    abbrev k : Command
    k = wrapped_command name c

    abbrev d : Decision
    d = decided name t.live r.settings.head

    -- what is to be shown of a command that is granted and opened
    abbrev Owns : Type 0
    Owns = allows d.grant ≡ true → (p : List ℕ) → opening_of t k x d.mode ≡ plain p → P (own name t k r d p random)

    -- and of what opening it costs
    abbrev Costs : Type 0
    Costs = (a : Answer) → P a → P (costing (opening_cost_of t k x d.mode) a)

    opening_comes : allows d.grant ≡ true → Owns → (o : Opening) → opening_of t k x d.mode ≡ o → P (on_opening t k r d random o)
    unfolding wrapped_command
    opening_comes a h (plain p) e = h a p e
    opening_comes a h wrong_length e = refused (opened_status (Err WrongLength)) wrong_length_bars
    opening_comes a h wrong_mac e = refused (opened_status (Err WrongMac)) mac_bars
    opening_comes a h wrong_padding e = refused (opened_status (Err WrongPadding)) padding_bars

    step7_comes : allows d.grant ≡ true → Costs → Owns → P (from_step7 t k r d x random)
    unfolding from_step7 wrapped wrapped_command
    step7_comes a costs h =
        let o = opening_of t k x d.mode in
        way P (used_up t.live.on t.live.counter) (λ e. refused 0x91AE full_bars)
        (λ e.
        way P (ltb 255 (length x)) (λ e. refused 0x917E length_bars)
        (λ e. costs (on_opening t k r d random o) (opening_comes a h o refl)))

    grant_comes : (g : Grant) → (allows g ≡ true → P (from_step7 t k r d x random)) → P (on_grant g t k r d x random)
    unfolding on_grant wrapped_command
    grant_comes (ByKey w) h = h refl
    grant_comes ByTap h = h refl
    grant_comes (Free w) h = h refl
    grant_comes Unasked h = h refl
    grant_comes Never h = refused (grant_status 0x90 Never) never_bars
    grant_comes Denied h = refused (grant_status 0x90 Denied) denied_bars

    step6_comes : Costs → Owns → P (from_step6 t k r x random)
    unfolding from_step6 wrapped_command
    step6_comes costs h = grant_comes d.grant (λ a. step7_comes a costs h)

  -- ---- steps 1 to 5
  -- the command comes to step 6 behind them
  abbrev Asks : Name → Type 0
  Asks name = (k : Command) (r : Reading) (x : List ℕ) → commanded name t k r x random ≡ from_step6 t k r x random

  module _ (name : Name) (c : List ℕ) (n : ℕ) (class : byte_at c 0 ≡ 0x90) (known : named 0x90 (byte_at c 1) ≡ Some name) where
    abbrev Q : Ordered → Type 0
    Q o = P (on_order t c random o)

    known_comes : (wrapped_command name c).file ≡ n → Asks name → Costs name c (command_data c) (reading_in t.files n)
        → Owns name c (command_data c) (reading_in t.files n) → Q (Ok (wrapped_command name c))
    unfolding wrapped_command
    known_comes file asks costs h =
        let k = wrapped_command name c in
        subst P (sym (asks k (reading_in t.files k.file) (data_of k c)))
        (subst (λ i. P (from_step6 t k (reading_in t.files i) (data_of k c) random)) (sym file)
        (subst (λ y. P (from_step6 t k (reading_in t.files n) y random)) (sym (wrapped_data name c))
        (step6_comes name c (command_data c) (reading_in t.files n) costs h)))

    pub comes : (wrapped_command name c).file ≡ n → Asks name → Costs name c (command_data c) (reading_in t.files n)
        → (eqb (wrapped_status c t.pending.on t.place.application) 0 ≡ true → Owns name c (command_data c) (reading_in t.files n))
        → P (answered t c random)
    unfolding answered ordered wrapped_order by_status
    comes file asks costs h =
        let s = wrapped_status c t.pending.on t.place.application in
        way Q (or (ltb (length c) 4) (ltb 261 (length c))) (λ e. refused 0x6700 long_bars)
        (λ e.
        way Q (eqb (byte_at c 0) 0x90)
        (λ e.
        way Q (form_right c)
        (λ e.
        subst (λ o. Q (on_wrapped c t.pending.on t.place.application o)) (sym known)
        (way Q (eqb s 0) (λ z. known_comes file asks costs (h z)) (λ z. refused s (wrapped_bars c t.pending.on t.place.application))))
        (λ e. refused 0x917E length_bars))
        (against (eq-eqb (byte_at c 0) 0x90 class)))
