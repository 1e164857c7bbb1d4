use Rattle.std.proofs.Common.{◌≡◌, ◌<◌, length, ap, arith, None}
use Rattle.std.specs.Vec.{vec_capacity}
use Rattle.atam.specs.Sites.{InBox}
use Rattle.atam.specs.Placements.{tile_at}
use Rattle.assembly.specs.Cells.{site_at, cell_count}
use Rattle.grow_core.specs.Core.{places}
use Rattle.grow_core.specs.Inner.Tables.{BoxedTiles}
use Rattle.grow_core.proofs.Tables.{put_room, put_table}
use Rattle.grow_core.proofs.placed_tiles.PlacedTiles.put.Goals as goal

pub push_reserved-requires : goal.push_reserved-requires
push_reserved-requires c =
    let inside : InBox c.self.inside.grid.area c.args.tile.place.site = rw (ap (λ (b : BoxedTiles). b.area) c.self.view_is) c.requires.inside in
    let empty : tile_at (places c.self.inside.tiles.items) c.args.tile.place.site ≡ None = rw (ap (λ (b : BoxedTiles). b.tiles) c.self.view_is) c.requires.empty in
    let index : site_at c.self.inside.grid.area c.site_index-index.result ≡ c.args.tile.place.site = rw (← c.area.ensures.area) c.site_index-index.ensures.site in
    let within : c.site_index-index.result < cell_count c.self.inside.grid.area = rw (← c.area.ensures.area) c.site_index-index.ensures.within in
    let room : length c.self.inside.tiles.items < vec_capacity c.self.inside.tiles =
    put_room c.self.inside.tiles.items c.self.inside.grid c.self.inside.placers.items (vec_capacity c.self.inside.tiles) c.self.invariant c.put.new.self c.args.tile c.site_index-index.result
    inside empty c.put.ensures.area c.put.ensures.here c.put.ensures.others index within in
    omega (arith, room)

pub invariant_of-self : goal.invariant_of-self
invariant_of-self c =
    let inside : InBox c.self.inside.grid.area c.args.tile.place.site = rw (ap (λ (b : BoxedTiles). b.area) c.self.view_is) c.requires.inside in
    let empty : tile_at (places c.self.inside.tiles.items) c.args.tile.place.site ≡ None = rw (ap (λ (b : BoxedTiles). b.tiles) c.self.view_is) c.requires.empty in
    let index : site_at c.self.inside.grid.area c.site_index-index.result ≡ c.args.tile.place.site = rw (← c.area.ensures.area) c.site_index-index.ensures.site in
    let within : c.site_index-index.result < cell_count c.self.inside.grid.area = rw (← c.area.ensures.area) c.site_index-index.ensures.within in
    rw (c.push_reserved.ensures.items, c.push_reserved.ensures.capacity)
    (put_table c.self.inside.tiles.items c.self.inside.grid c.self.inside.placers.items (vec_capacity c.self.inside.tiles) c.self.invariant c.put.new.self c.args.tile c.site_index-index.result
    inside empty c.put.ensures.area c.put.ensures.here c.put.ensures.others index within)
