use Rattle.std.proofs.Common.{rules, ◌≡◌, ◌<◌, ◌∙◌, ap, sym, subst, Some, None, [], ◌∷◌, ◌++◌}
use Rattle.atam.specs.declared.place.Place.{Place}
use Rattle.atam.specs.TileSystem.{TileSystem, IsValid}
use Rattle.atam.specs.Placements.{tile_at}
use Rattle.assembly.specs.Cells.{cell_count, site_at}
use Rattle.grow_core.specs.Core.{ScoutState, least}
use Rattle.grow_core.specs.Steps.{tile_of, Wins, Supports}
use Rattle.site_table.specs.Words.{code, type_in}
use Rattle.site_table.specs.Views.{scout_of}
use Rattle.site_table.specs.Plays.{site_of, place_in}
use Rattle.site_table.specs.Seats.{TableValue, SeatValue}
use Rattle.site_table.proofs.Listed.{sees_there}
use Rattle.site_table.proofs.Moves.{claims, claim_kind, claim_place}
use Rattle.site_table.proofs.table.SiteTable.claim_at.Goals as goal

pub compare_exchange-found-requires : goal.compare_exchange-found-requires
compare_exchange-found-requires g c =
    let v = c.seat.inside.seat.me.0 in
    let key = c.self.inside.table.shared.key in
    let i = c.args.index in
    let same_key : key ≡ c.args.self.now.sys = ap (λ (t : TableValue). t.sys) c.self.view_is in
    let live : 0 < v.owned = c.seat.invariant.2.scout.some_number in
    let near : i < cell_count key.area = subst (λ (z : TileSystem). i < cell_count z.area) (sym same_key) c.requires.within in
    let here : site_at key.area i ≡ c.args.site = subst (λ (z : TileSystem). site_at z.area i ≡ c.args.site) (sym same_key) c.requires.number in
    let given : Supports key c.args.seat.now.scout c.args.site c.args.tile = subst (λ (z : TileSystem). Supports z c.args.seat.now.scout c.args.site c.args.tile) (sym same_key) c.requires.supported in
    let held : Supports key (scout_of v) c.args.site c.args.tile = subst (λ (s : SeatValue). Supports key s.scout c.args.site c.args.tile) (sym c.seat.view_is) given in
    let number : c.number.result ≡ least v.owned = c.number.ensures.value ∙ ap (λ (s : SeatValue). least s.scout.owned) (sym c.seat.view_is) in
    (search rules, search rules, claims key _ _ i _ _ c.args.site c.args.tile live near here held (c.code_of-word.ensures ∙ ap (code c.args.tile) number))

pub returns-then-found-eq0-clause-claim : goal.returns-then-found-eq0-clause-claim
returns-then-found-eq0-clause-claim g c =
    let v = c.seat.inside.seat.me.0 in
    let key = c.self.inside.table.shared.key in
    let i = c.args.index in
    let same_key : key ≡ c.args.self.now.sys = ap (λ (t : TableValue). t.sys) c.self.view_is in
    let one : scout_of v ≡ c.args.seat.now.scout = ap (λ (s : SeatValue). s.scout) c.seat.view_is in
    let sys : v.sys ≡ key = ap (λ (s : SeatValue). s.sys) c.seat.view_is ∙ (c.requires.seat.sys ∙ sym same_key) in
    let here : site_at key.area i ≡ c.args.site = subst (λ (z : TileSystem). site_at z.area i ≡ c.args.site) (sym same_key) c.requires.number in
    let held : Supports key c.args.seat.now.scout c.args.site c.args.tile = subst (λ (z : TileSystem). Supports z c.args.seat.now.scout c.args.site c.args.tile) (sym same_key) c.requires.supported in
    let kind = claim_kind key c.args.seat.now.scout c.args.site c.args.tile c.self.invariant.1 held in
    let is = claim_place key v i c.code_of-word.result c.number.result c.args.site c.args.tile c.self.invariant.1 kind sys here c.code_of-word.ensures in
    let place_is : site_of v i ≡ c.args.site = ap (λ (p : Place). p.site) is in
    let step = c.compare_exchange-found.ensures.2 in
    let unseen : tile_at v.seen (site_of v i) ≡ None = step.unseen c.if-found-eq0.true in (
      subst (λ (x : ScoutState). tile_at x.seen c.args.site ≡ None) one (subst (λ m. tile_at v.seen m ≡ None) place_is unseen),
      subst (λ (x : ScoutState × Place). Wins x.0 x.1 (scout_of c.compare_exchange-found.new.seat.me.0)) (λ k. (one k, is k)) (step.won c.if-found-eq0.true),
    )

pub returns-then-found-eq0-clause-stands : goal.returns-then-found-eq0-clause-stands
returns-then-found-eq0-clause-stands g c =
    let v = c.seat.inside.seat.me.0 in
    let key = c.self.inside.table.shared.key in
    let i = c.args.index in
    let same_key : key ≡ c.args.self.now.sys = ap (λ (t : TableValue). t.sys) c.self.view_is in
    let sys : v.sys ≡ key = ap (λ (s : SeatValue). s.sys) c.seat.view_is ∙ (c.requires.seat.sys ∙ sym same_key) in
    let here : site_at key.area i ≡ c.args.site = subst (λ (z : TileSystem). site_at z.area i ≡ c.args.site) (sym same_key) c.requires.number in
    let held : Supports key c.args.seat.now.scout c.args.site c.args.tile = subst (λ (z : TileSystem). Supports z c.args.seat.now.scout c.args.site c.args.tile) (sym same_key) c.requires.supported in
    let kind = claim_kind key c.args.seat.now.scout c.args.site c.args.tile c.self.invariant.1 held in
    let is = claim_place key v i c.code_of-word.result c.number.result c.args.site c.args.tile c.self.invariant.1 kind sys here c.code_of-word.ensures in
    subst (λ (p : Place). tile_at c.compare_exchange-found.new.seat.me.0.seen p.site ≡ Some p.tile) is
    (sees_there (scout_of c.compare_exchange-found.new.seat.me.0) v.seen (place_in v i c.code_of-word.result) (v.mine ++ tile_of (place_in v i c.code_of-word.result) (least v.owned) ∷ []) v.owned (c.compare_exchange-found.ensures.2.won c.if-found-eq0.true))

pub returns-then-found-eq0-clause-kind : goal.returns-then-found-eq0-clause-kind
returns-then-found-eq0-clause-kind g c =
    let key = c.self.inside.table.shared.key in
    let same_key : key ≡ c.args.self.now.sys = ap (λ (t : TableValue). t.sys) c.self.view_is in
    claim_kind c.args.self.now.sys c.args.seat.now.scout c.args.site c.args.tile (subst IsValid same_key c.self.invariant.1) c.requires.supported

pub returns-clause-stands : goal.returns-clause-stands
returns-clause-stands g c =
    let v = c.seat.inside.seat.me.0 in
    let key = c.self.inside.table.shared.key in
    let i = c.args.index in
    let sys : v.sys ≡ c.args.self.now.sys = ap (λ (s : SeatValue). s.sys) c.seat.view_is ∙ c.requires.seat.sys in
    let here : site_of v i ≡ c.args.site = ap (λ (z : TileSystem). site_at z.area i) sys ∙ c.requires.number in
    let met = c.compare_exchange-found.ensures.2.lost c.if-found-eq0.false in
    subst (λ u. tile_at c.compare_exchange-found.new.seat.me.0.seen c.args.site ≡ Some u) (sym c.type_of.ensures)
    (subst (λ m. tile_at c.compare_exchange-found.new.seat.me.0.seen m ≡ Some (type_in c.compare_exchange-found.result)) here
    (sees_there (scout_of c.compare_exchange-found.new.seat.me.0) v.seen (place_in v i c.compare_exchange-found.result) v.mine v.owned met.scout))
