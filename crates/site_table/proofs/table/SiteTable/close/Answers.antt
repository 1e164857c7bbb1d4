use Rattle.std.proofs.Common.{◌<◌, ◌∙◌, ap, subst}
use Rattle.std.specs.Slots.{slots_items}
use Rattle.atam.specs.TileSystem.{TileSystem}
use Rattle.atam.specs.declared.area.BoxArea.{BoxArea}
use Rattle.atam.specs.Placements.{SamePlacements}
use Rattle.grow_core.specs.Core.{ScoutState}
use Rattle.site_table.specs.Words.{spelled}
use Rattle.site_table.specs.Views.{scout_of}
use Rattle.site_table.specs.Seats.{TableValue, SeatValue, Closes}
use Rattle.site_table.proofs.Closing.{final-coded, final-small, final-closes}
use Rattle.site_table.proofs.table.SiteTable.close.Goals as goal

pub gather-grown-requires-clause-coded : goal.gather-grown-requires-clause-coded
gather-grown-requires-clause-coded c =
    final-coded c.self.inside.table.shared.key c.seat.inside.seat.id c.seat.inside.seat.me.0 c.seat.invariant.2.scout.some_number _ _ c.close_with-closed.ensures.values.2

pub gather-grown-requires-clause-small : goal.gather-grown-requires-clause-small
gather-grown-requires-clause-small c =
    final-small c.self.inside.table.shared.key c.seat.inside.seat.id c.seat.inside.seat.me.0 c.seat.invariant.2.scout.some_number _ _ c.close_with-closed.ensures.values.2

pub returns : goal.returns
returns c =
    let v = c.seat.inside.seat.me.0 in
    let key = c.self.inside.table.shared.key in
    let live : 0 < v.owned = c.seat.invariant.2.scout.some_number in
    let ws = slots_items c.close_with-closed.result.words in
    let out = c.gather-grown.result in
    let area = c.gather-grown.ensures.area ∙ c.self.invariant.0 in
    let grid : SamePlacements (spelled key.area ws) out.grid.tiles = subst (λ (a : BoxArea). SamePlacements (spelled a ws) out.grid.tiles) c.self.invariant.0 c.gather-grown.ensures.grid in
    let closes : Closes key (scout_of v) out = final-closes key c.seat.inside.seat.id v live ws _ c.close_with-closed.ensures.values.2 out area c.gather-grown.ensures.distinct grid c.gather-grown.ensures.numbers c.gather-grown.ensures.won in
    subst (λ (x : TileSystem × ScoutState). Closes x.0 x.1 out) (λ i. (ap (λ (t : TableValue). t.sys) c.self.view_is i, ap (λ (s : SeatValue). s.scout) c.seat.view_is i)) closes
