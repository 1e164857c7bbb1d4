use Rattle.std.proofs.Common.{◌≡◌, ◌<◌, ◌-◌, ◌∙◌, ℕ, List, Option, None, IfSome, set, length, refl, inl, inr, ap, sym, subst, arith}
use Rattle.std.proofs.lemmas.List.{get_or_read}
use Rattle.atam.specs.declared.area.BoxArea.{BoxArea}
use Rattle.atam.specs.declared.site.Site.{Site}
use Rattle.atam.specs.declared.place.TypeId.{TypeId}
use Rattle.atam.specs.declared.place.Place.{Place}
use Rattle.atam.specs.Placements.{tile_at}
use Rattle.atam.specs.Sites.{neighbor}
use Rattle.atam.specs.TileSystem.{IsType}
use Rattle.atam.proofs.Bonds.{bond-none}
use Rattle.atam.proofs.Placements.{tile_at-all}
use Rattle.assembly.specs.Cells.{cell_count, site_at}
use Rattle.replay_order.specs.Inner.Replays.{Waiting, Lowers, given_to}
use Rattle.replay_order.proofs.Lowerings.{lowers_outside, lowers_full, lowers_one, lowers_unbound}
use Rattle.replay_order.proofs.waiting.WaitingSites.lower.Goals as goal

-- the tile on that side, as the grid's cell tells
beside_is : (area own : BoxArea) (tiles : List Place) (m : Site) (number : ℕ) (found : Option TypeId) → area ≡ own → site_at own number ≡ m → found ≡ tile_at tiles (site_at area number) → found ≡ tile_at tiles m
beside_is area own tiles m number found same there is = is ∙ ap (λ a. tile_at tiles (site_at a number)) same ∙ ap (tile_at tiles) there

pub tile-requires : goal.tile-requires
tile-requires c = omega (arith, c.in-Some.ensures.within, ap cell_count c.requires.area, ap (λ w. cell_count w.area) c.self.view_is)

pub between-strength-requires-clause-beside : goal.between-strength-requires-clause-beside
between-strength-requires-clause-beside c =
    let Kind : Option TypeId → Type 0 = λ o. IfSome o (λ t. IsType c.args.bonds.now t) in
    subst Kind (sym c.tile.ensures ∙ c.in-Some-tile.is) (tile_at-all (λ t. IsType c.args.bonds.now t) c.args.grid.now.tiles _ c.requires.fits.types)

pub returns-in_default : goal.returns-in_default
returns-in_default c =
    let sys = c.args.bonds.now in
    let tiles = c.args.grid.now.tiles in
    let old : Waiting = record { area = c.self.inside.area; first = c.self.inside.first; end = c.self.inside.end; lacks = c.self.inside.lacks.items; ready = c.self.inside.ready } in
    let Lowered : Waiting → Type 0 = λ w. Lowers w.area (given_to sys tiles c.args.place c.args.side) w w in
    subst Lowered c.self.view_is (lowers_outside old.area sys tiles c.args.place c.args.side old refl c.self.invariant.box_limits c.in_default.ensures)

pub returns-then-lack-eq0 : goal.returns-then-lack-eq0
returns-then-lack-eq0 c =
    let sys = c.args.bonds.now in
    let tiles = c.args.grid.now.tiles in
    let beside = c.in-Some.beside in
    let old : Waiting = record { area = c.self.inside.area; first = c.self.inside.first; end = c.self.inside.end; lacks = c.self.inside.lacks.items; ready = c.self.inside.ready } in
    let within : beside < length old.lacks = omega (arith, c.in-Some.ensures.within, c.self.invariant.lacks_len) in
    let lack = get_or_read old.lacks beside c.index-lack.result.now within c.index-lack.ensures 0 in
    let Lowered : Waiting → Type 0 = λ w. Lowers w.area (given_to sys tiles c.args.place c.args.side) w w in
    subst Lowered c.self.view_is (
    lowers_full old.area sys tiles c.args.place c.args.side old refl beside c.in-Some.ensures.site (omega (arith, lack, c.if-lack-eq0.true))
    )

pub returns-in_default-tile : goal.returns-in_default-tile
returns-in_default-tile c =
    let sys = c.args.bonds.now in
    let tiles = c.args.grid.now.tiles in
    let p = c.args.place in
    let beside = c.in-Some.beside in
    let old : Waiting = record { area = c.self.inside.area; first = c.self.inside.first; end = c.self.inside.end; lacks = c.self.inside.lacks.items; ready = c.self.inside.ready } in
    let none = beside_is c.args.grid.now.area _ tiles (neighbor p.site c.args.side) beside None (c.requires.area ∙ ap (λ w. w.area) (sym c.self.view_is)) c.in-Some.ensures.site (sym c.in_default-tile.is ∙ c.tile.ensures) in
    let Lowered : Waiting → Type 0 = λ w. Lowers w.area (given_to sys tiles p c.args.side) w w in
    subst Lowered c.self.view_is (
    lowers_unbound old.area sys tiles p c.args.side old refl beside c.in-Some.ensures.site (bond-none sys tiles p.site p.tile c.args.side (sym none))
    )

pub returns-then-strength-lack : goal.returns-then-strength-lack
returns-then-strength-lack c =
    let sys = c.args.bonds.now in
    let tiles = c.args.grid.now.tiles in
    let p = c.args.place in
    let beside = c.in-Some.beside in
    let left = c.index-lack.result.now - c.between-strength.result in
    let old : Waiting = record { area = c.self.inside.area; first = c.self.inside.first; end = c.self.inside.end; lacks = c.self.inside.lacks.items; ready = c.self.inside.ready } in
    let within : beside < length old.lacks = omega (arith, c.in-Some.ensures.within, c.self.invariant.lacks_len) in
    let lack = get_or_read old.lacks beside c.index-lack.result.now within c.index-lack.ensures 0 in
    let new : Waiting = record { area = old.area; first = old.first; end = old.end; lacks = set old.lacks beside left; ready = old.ready } in
    let bond = c.between-strength.ensures tiles p.site (beside_is c.args.grid.now.area _ tiles (neighbor p.site c.args.side) beside _ (c.requires.area ∙ ap (λ w. w.area) (sym c.self.view_is)) c.in-Some.ensures.site (sym c.in-Some-tile.is ∙ c.tile.ensures)) in
    let Lowered : Waiting → Type 0 = λ w. Lowers w.area (given_to sys tiles p c.args.side) w new in
    subst Lowered c.self.view_is (
    lowers_one old.area sys tiles p c.args.side old refl beside c.in-Some.ensures.site new left refl refl refl within (omega (arith, lack, c.if-lack-eq0.false))
    (omega (arith, lack, bond)) refl
    (λ m. (
      λ is_in. inl is_in,
      λ either. elim either [ inl before ↦ before | inr one ↦ let never : ⊥ = omega (arith, one.1, c.if-strength-lack.true) in absurd never ],
    ))
    )

pub returns : goal.returns
returns c =
    let sys = c.args.bonds.now in
    let tiles = c.args.grid.now.tiles in
    let p = c.args.place in
    let beside = c.in-Some.beside in
    let old : Waiting = record { area = c.self.inside.area; first = c.self.inside.first; end = c.self.inside.end; lacks = c.self.inside.lacks.items; ready = c.self.inside.ready } in
    let within : beside < length old.lacks = omega (arith, c.in-Some.ensures.within, c.self.invariant.lacks_len) in
    let lack = get_or_read old.lacks beside c.index-lack.result.now within c.index-lack.ensures 0 in
    let new : Waiting = record { area = old.area; first = old.first; end = old.end; lacks = set old.lacks beside 0; ready = c.insert.new.self } in
    let bond = c.between-strength.ensures tiles p.site (beside_is c.args.grid.now.area _ tiles (neighbor p.site c.args.side) beside _ (c.requires.area ∙ ap (λ w. w.area) (sym c.self.view_is)) c.in-Some.ensures.site (sym c.in-Some-tile.is ∙ c.tile.ensures)) in
    let Lowered : Waiting → Type 0 = λ w. Lowers w.area (given_to sys tiles p c.args.side) w new in
    subst Lowered c.self.view_is (
    lowers_one old.area sys tiles p c.args.side old refl beside c.in-Some.ensures.site new 0 refl refl refl within (omega (arith, lack, c.if-lack-eq0.false))
    (omega (arith, lack, bond, c.if-strength-lack.false)) refl
    (λ m. (
      λ is_in. elim ((c.insert.ensures.receives m).0 is_in) [ inl before ↦ inl before | inr one ↦ inr (one, refl) ],
      λ either. elim either [ inl before ↦ (c.insert.ensures.receives m).1 (inl before) | inr one ↦ (c.insert.ensures.receives m).1 (inr one.0) ],
    ))
    )
