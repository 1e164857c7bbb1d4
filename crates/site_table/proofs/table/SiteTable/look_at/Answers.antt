use Rattle.std.proofs.Common.{rules, ◌≡◌, ◌<◌, ◌∙◌, ap, sym, subst, Some}
use Rattle.assembly.specs.Cells.{cell_count, site_at}
use Rattle.site_table.specs.Seats.{TableValue, SeatValue}
use Rattle.site_table.proofs.Moves.{looks}
use Rattle.atam.specs.TileSystem.{TileSystem}
use Rattle.atam.specs.Placements.{tile_at}
use Rattle.site_table.specs.Words.{type_in}
use Rattle.site_table.specs.Views.{scout_of}
use Rattle.site_table.specs.Plays.{site_of, place_in}
use Rattle.site_table.proofs.Listed.{sees_same, sees_there}
use Rattle.site_table.proofs.table.SiteTable.look_at.Goals as goal

pub load-found-requires : goal.load-found-requires
load-found-requires c =
    let v = c.seat.inside.seat.me.0 in
    let key = c.self.inside.table.shared.key in
    let i = c.args.index in
    let live : 0 < v.owned = c.seat.invariant.2.scout.some_number in
    let sys : v.sys ≡ key = ap (λ (s : SeatValue). s.sys) c.seat.view_is ∙ (c.requires.seat.sys ∙ sym (ap (λ (t : TableValue). t.sys) c.self.view_is)) in
    let near : i < cell_count key.area = subst (λ (z : TileSystem). i < cell_count z.area) (sym (ap (λ (t : TableValue). t.sys) c.self.view_is)) c.requires.within in
    (search rules, search rules, looks key _ _ i _ live near)

pub returns-clause-seen : goal.returns-clause-seen
returns-clause-seen c t found =
    let v = c.seat.inside.seat.me.0 in
    let i = c.args.index in
    let sys : v.sys ≡ c.args.self.now.sys = ap (λ (s : SeatValue). s.sys) c.seat.view_is ∙ c.requires.seat.sys in
    let here : site_of v i ≡ c.args.site = ap (λ (z : TileSystem). site_at z.area i) sys ∙ c.requires.number in
    let met = c.load-found.ensures.2.some_tile c.if-found-eq0.false in
    let before : tile_at v.seen (site_of v i) ≡ Some t = subst (λ (s : SeatValue). tile_at s.scout.seen (site_of v i) ≡ Some t) (sym c.seat.view_is) (subst (λ m. tile_at c.args.seat.now.scout.seen m ≡ Some t) (sym here) found) in
    ap (λ u. Some u) (c.type_of.ensures ∙ sees_same (scout_of v) (scout_of c.load-found.new.seat.me.0) (site_of v i) (type_in c.load-found.result) t met.scout before)

pub returns-clause-stands : goal.returns-clause-stands
returns-clause-stands c =
    let v = c.seat.inside.seat.me.0 in
    let i = c.args.index in
    let sys : v.sys ≡ c.args.self.now.sys = ap (λ (s : SeatValue). s.sys) c.seat.view_is ∙ c.requires.seat.sys in
    let here : site_of v i ≡ c.args.site = ap (λ (z : TileSystem). site_at z.area i) sys ∙ c.requires.number in
    let met = c.load-found.ensures.2.some_tile c.if-found-eq0.false in
    subst (λ u. tile_at c.load-found.new.seat.me.0.seen c.args.site ≡ Some u) (sym c.type_of.ensures)
    (subst (λ m. tile_at c.load-found.new.seat.me.0.seen m ≡ Some (type_in c.load-found.result)) here
    (sees_there (scout_of c.load-found.new.seat.me.0) v.seen (place_in v i c.load-found.result) v.mine v.owned met.scout))
