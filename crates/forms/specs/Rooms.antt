-- Text laid into a lent room, as much as it takes.
use Rattle.std.specs.Prelude.{List, ◌≡◌, ℕ, ◌+◌, ◌-◌, ◌≤◌, length, take}
use Rattle.base.specs.Bytes.{laid}
use Rattle.forms.specs.declared.page.Page.{Page}

-- a text is laid behind the first n bytes of a room, and ends at r
pub record Lays (text : List ℕ) (n : ℕ) (old : List ℕ) (r : ℕ) (new : List ℕ) : Type 0 where
  pub end : r ≡ n + length (take (length old - n) text)
  pub left : new ≡ laid (take (length old - n) text) n old

-- a text is written behind what is used of a page, whose room stays the one that was lent
pub record Writes (text : List ℕ) (old new : Page) : Type 0 where
  pub laid : Lays text old.used old.room.now new.used new.room.now
  pub same_room : new.room.ghost_name ≡ old.room.ghost_name

-- a room has so many bytes; both parts, so that what lends its front finds them
abbrev pub Within : ℕ → List ℕ → Type 0
Within r room = (r ≤ length room) × (r ≡ length (take r room))
