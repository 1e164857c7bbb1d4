-- What an atomic step tells its seat.
use Rattle.std.specs.Prelude.{◌≡◌, ◌≢◌, ℕ, ◌<◌, ◌%◌, None}
use Rattle.atomic_table.specs.Table.{Me, Step}
use Rattle.atam.specs.declared.site.Site.{Site}
use Rattle.atam.specs.declared.place.Place.{Place}
use Rattle.atam.specs.TileSystem.{IsType}
use Rattle.atam.specs.Placements.{tile_at}
use Rattle.assembly.specs.Cells.{site_at}
use Rattle.grow_core.specs.Steps.{place, Sees, Wins}
use Rattle.site_table.specs.declared.view.SeatView.{SeatView}
use Rattle.site_table.specs.Words.{type_in}
use Rattle.site_table.specs.Views.{scout_of}
use Rattle.site_table.specs.Rule.{IsPossible}

-- a seat's view, and the slots that it holds, of which a table of words has none
abbrev pub SeatSelf : Type 0
SeatSelf = Me (Unit {0}) SeatView

abbrev pub site_of : SeatView → ℕ → Site
site_of v i = site_at v.sys.area i

-- the place of a word
abbrev pub place_in : SeatView → ℕ → ℕ → Place
place_in v i word = place (site_of v i) (type_in word)

-- the seat has seen the tile of this word
pub record SeesWord (v : SeatView) (i found : ℕ) (w : SeatView) : Type 0 where
  pub scout : Sees (scout_of v) (place_in v i found) (scout_of w)
  pub kind : IsType v.sys (type_in found)
  pub some_type : 0 < found % 4294967296

-- what each step keeps of its seat
pub record KeepsSeat (m n : SeatSelf) : Type 0 where
  pub held : n.1 ≡ m.1
  pub sys : n.0.sys ≡ m.0.sys
  pub possible : IsPossible m.0.sys (scout_of n.0)

-- a claim, which is one compare-exchange from 0: it is won exactly where the word was 0
pub record ClaimStep (st : Step (Unit {0})) (m : SeatSelf) (found : ℕ) (n : SeatSelf) : Type 0 where
  pub seat : KeepsSeat m n
  pub unseen : found ≡ 0 → tile_at m.0.seen (site_of m.0 st.word) ≡ None
  pub won : found ≡ 0 → Wins (scout_of m.0) (place_in m.0 st.word st.second) (scout_of n.0)
  pub lost : found ≢ 0 → SeesWord m.0 st.word found n.0

-- a look, which is one load
pub record LookStep (st : Step (Unit {0})) (m : SeatSelf) (found : ℕ) (n : SeatSelf) : Type 0 where
  pub seat : KeepsSeat m n
  pub same : found ≡ 0 → n.0 ≡ m.0
  pub unseen : found ≡ 0 → tile_at m.0.seen (site_of m.0 st.word) ≡ None
  pub some_tile : found ≢ 0 → SeesWord m.0 st.word found n.0

-- a load that changes nothing, and tells what the rule says of the seat
pub record CheckStep (st : Step (Unit {0})) (m : SeatSelf) (found : ℕ) (n : SeatSelf) : Type 0 where
  pub same : n ≡ m
  pub possible : IsPossible m.0.sys (scout_of m.0)
