-- What a seat knows, as the table's rule sees it.
use Rattle.std.specs.Prelude.{◌<◌, ◌==◌, ◌-◌, ◌^◌, pos, not, Bool, false, List, [], ◌++◌, filter, map, bit_or, if◌then◌else◌, Option, Some, None}
use Rattle.std.specs.Option.{option_map_or}
use Rattle.atam.specs.declared.place.Place.{Place}
use Rattle.atam.specs.TileSystem.{TileSystem}
use Rattle.atam.specs.Placements.{tile_at}
use Rattle.grow_core.specs.Core.{ScoutState, greatest, placed_by}
use Rattle.grow_core.specs.Steps.{kept_tiles}
use Rattle.site_table.specs.declared.view.SeatView.{SeatView}

-- the scout that a view is of
abbrev pub scout_of : SeatView → ScoutState
scout_of v = record { owned = v.owned; seen = v.seen; mine = v.mine }

-- a view is spent where it has no number
abbrev pub IsLive : SeatView → Type 0
IsLive v = 0 < v.owned

abbrev pub live_scout : SeatView → Option ScoutState
live_scout v = if v.owned == 0 then None else Some (scout_of v)

-- the scouts of all views, in the order of the seats
abbrev pub scouts_of : List SeatView → List (Option ScoutState)
scouts_of views = map live_scout views

-- the view of the first seat, which has seen the seeds and owns all numbers
abbrev pub first_view : TileSystem → SeatView
first_view sys = record { sys = sys; owned = 2 ^ 64 - 1; seen = sys.seeds; mine = [] }

-- the old view once the greatest number is given away, and the one that has it
abbrev pub kept_view : SeatView → SeatView
kept_view v = record { sys = v.sys; owned = v.owned - 2 ^ greatest v.owned; seen = v.seen; mine = kept_tiles (greatest v.owned) v.mine }

abbrev pub given_view : SeatView → SeatView
given_view v = record { sys = v.sys; owned = 2 ^ greatest v.owned; seen = v.seen; mine = placed_by (greatest v.owned) v.mine }

-- just this tile stands at its site
abbrev pub has_place : List Place → Place → Bool
has_place seen p = option_map_or (λ u. u.0 == p.tile.0) (tile_at seen p.site) false

-- what both have seen; no disagreement is hidden
abbrev pub seen_together : List Place → List Place → List Place
seen_together seen other = seen ++ filter (λ p. not (has_place seen p)) other

abbrev pub united_view : SeatView → SeatView → SeatView
united_view v w = record { sys = v.sys; owned = bit_or v.owned w.owned; seen = seen_together v.seen w.seen; mine = v.mine ++ w.mine }

abbrev pub no_system : TileSystem
no_system = record { glues = []; pairs = []; types = []; tau = 0; seeds = []; area = record { x0 = pos 0; y0 = pos 0; x1 = pos 0; y1 = pos 0 } }

-- the view of a seat that has joined another
abbrev pub spent_view : SeatView
spent_view = record { sys = no_system; owned = 0; seen = []; mine = [] }
