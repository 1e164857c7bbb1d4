use Rattle.std.proofs.Common.{◌≡◌, ◌<◌, ◌∙◌, arith, sym, ap, subst}
use Rattle.atam.specs.declared.site.Site.{Site}
use Rattle.atam.specs.declared.area.BoxArea.{BoxArea}
use Rattle.atam.specs.Sites.{InBox}
use Rattle.atam.specs.Placements.{tile_at}
use Rattle.atam.specs.TileSystem.{IsType}
use Rattle.atam.proofs.Lists.{All-slice_get}
use Rattle.atam.proofs.Boxes.{near_inside}
use Rattle.atam.proofs.Opening.{Fits-part}
use Rattle.assembly.specs.Cells.{cell_count, site_at}
use Rattle.assembly.proofs.Putting.{part_take, SamePlacements-more}
use Rattle.replay_order.proofs.Sequences.{first_taken, first_weak, legal_more, taken_illegal, weak_illegal}
use Rattle.replay_order.proofs.legal.check_legal.Goals as goal

pub site_index-number-requires-clause-inside : goal.site_index-number-requires-clause-inside
site_index-number-requires-clause-inside c =
    let in_system = All-slice_get (λ p. InBox c.args.sys.now.area p.site) c.args.seq.now c.loop-index.index c.get-place.result c.requires.fits.sites c.get-place.ensures in
    subst (λ (area : BoxArea). InBox area c.get-place.result.site) (sym (c.area.ensures.area ∙ c.loop-index.invariant.area)) in_system

pub tile-requires : goal.tile-requires
tile-requires c =
    let In : BoxArea → Type 0 = λ area. c.site_index-number.result < cell_count area in
    subst In c.area.ensures.area c.site_index-number.ensures.within

pub returns-then-is_some-clause-answer : goal.returns-then-is_some-clause-answer
returns-then-is_some-clause-answer c =
    let At : BoxArea → Type 0 = λ area. site_at area c.site_index-number.result ≡ c.get-place.result.site in
    let site : site_at c.loop-index.scratch.area c.site_index-number.result ≡ c.get-place.result.site = subst At c.area.ensures.area c.site_index-number.ensures.site in
    let there : c.tile.result ≡ tile_at c.loop-index.scratch.tiles c.get-place.result.site = c.tile.ensures ∙ ap (λ (m : Site). tile_at c.loop-index.scratch.tiles m) site in
    first_taken c.args.sys.now c.args.seq.now c.loop-index.scratch.tiles c.loop-index.index c.get-place.result c.loop-index.invariant.seeded c.get-place.ensures
    c.loop-index.invariant.legal c.loop-index.invariant.placed c.tile.result there (sym c.is_some.ensures ∙ c.if-is_some.true)

pub returns-then-is_some-clause-legal : goal.returns-then-is_some-clause-legal
returns-then-is_some-clause-legal c =
    let At : BoxArea → Type 0 = λ area. site_at area c.site_index-number.result ≡ c.get-place.result.site in
    let site : site_at c.loop-index.scratch.area c.site_index-number.result ≡ c.get-place.result.site = subst At c.area.ensures.area c.site_index-number.ensures.site in
    let there : c.tile.result ≡ tile_at c.loop-index.scratch.tiles c.get-place.result.site = c.tile.ensures ∙ ap (λ (m : Site). tile_at c.loop-index.scratch.tiles m) site in
    let taken =
    first_taken c.args.sys.now c.args.seq.now c.loop-index.scratch.tiles c.loop-index.index c.get-place.result c.loop-index.invariant.seeded c.get-place.ensures
    c.loop-index.invariant.legal c.loop-index.invariant.placed c.tile.result there (sym c.is_some.ensures ∙ c.if-is_some.true)
    in
    (λ e. absurd (cc e), λ legal. absurd (taken_illegal c.args.sys.now c.args.seq.now c.loop-index.index taken legal))

pub beside_at-beside-requires-clause-inside : goal.beside_at-beside-requires-clause-inside
beside_at-beside-requires-clause-inside c =
    let in_system = All-slice_get (λ p. InBox c.args.sys.now.area p.site) c.args.seq.now c.loop-index.index c.get-place.result c.requires.fits.sites c.get-place.ensures in
    subst (λ (area : BoxArea). InBox area c.get-place.result.site) (sym c.loop-index.invariant.area) in_system

pub beside_at-beside-requires-clause-within : goal.beside_at-beside-requires-clause-within
beside_at-beside-requires-clause-within c =
    let In : BoxArea → Type 0 = λ area. c.site_index-number.result < cell_count area in
    subst In c.area.ensures.area c.site_index-number.ensures.within

pub beside_at-beside-requires-clause-number : goal.beside_at-beside-requires-clause-number
beside_at-beside-requires-clause-number c =
    let At : BoxArea → Type 0 = λ area. site_at area c.site_index-number.result ≡ c.get-place.result.site in
    subst At c.area.ensures.area c.site_index-number.ensures.site

pub glues_beside-glues-requires-clause-near : goal.glues_beside-glues-requires-clause-near
glues_beside-glues-requires-clause-near c =
    near_inside c.args.sys.now.area c.get-place.result.site c.tau-tau.ensures.valid.box
    (All-slice_get (λ p. InBox c.args.sys.now.area p.site) c.args.seq.now c.loop-index.index c.get-place.result c.requires.fits.sites c.get-place.ensures)

pub glues_beside-glues-requires-clause-fits : goal.glues_beside-glues-requires-clause-fits
glues_beside-glues-requires-clause-fits c =
    Fits-part c.args.sys.now c.loop-index.scratch.tiles c.args.seq.now
    (λ q contains. part_take c.args.seq.now c.loop-index.index q (c.loop-index.invariant.placed.whole q contains)) c.requires.fits

pub facing_pull-pull-requires : goal.facing_pull-pull-requires
facing_pull-pull-requires c =
    All-slice_get (λ p. IsType c.args.sys.now p.tile) c.args.seq.now c.loop-index.index c.get-place.result c.requires.fits.types c.get-place.ensures

pub returns-then-pull-tau-clause-answer : goal.returns-then-pull-tau-clause-answer
returns-then-pull-tau-clause-answer c =
    let At : BoxArea → Type 0 = λ area. site_at area c.site_index-number.result ≡ c.get-place.result.site in
    let site : site_at c.loop-index.scratch.area c.site_index-number.result ≡ c.get-place.result.site = subst At c.area.ensures.area c.site_index-number.ensures.site in
    let there : c.tile.result ≡ tile_at c.loop-index.scratch.tiles c.get-place.result.site = c.tile.ensures ∙ ap (λ (m : Site). tile_at c.loop-index.scratch.tiles m) site in
    first_weak c.args.sys.now c.args.seq.now c.loop-index.scratch.tiles c.loop-index.index c.get-place.result c.loop-index.invariant.seeded c.get-place.ensures
    c.loop-index.invariant.legal c.loop-index.invariant.placed c.tau-tau.ensures.valid.distinct_seeds c.area.ensures.distinct
    c.tile.result there (sym c.is_some.ensures ∙ c.if-is_some.false) c.facing_pull-pull.result (c.facing_pull-pull.ensures.value ∙ c.glues_beside-glues.ensures.pulls c.get-place.result.tile)
    (omega (arith, c.if-pull-tau.true, c.tau-tau.ensures.tau))

pub returns-then-pull-tau-clause-legal : goal.returns-then-pull-tau-clause-legal
returns-then-pull-tau-clause-legal c =
    let At : BoxArea → Type 0 = λ area. site_at area c.site_index-number.result ≡ c.get-place.result.site in
    let site : site_at c.loop-index.scratch.area c.site_index-number.result ≡ c.get-place.result.site = subst At c.area.ensures.area c.site_index-number.ensures.site in
    let there : c.tile.result ≡ tile_at c.loop-index.scratch.tiles c.get-place.result.site = c.tile.ensures ∙ ap (λ (m : Site). tile_at c.loop-index.scratch.tiles m) site in
    let is_weak =
    first_weak c.args.sys.now c.args.seq.now c.loop-index.scratch.tiles c.loop-index.index c.get-place.result c.loop-index.invariant.seeded c.get-place.ensures
    c.loop-index.invariant.legal c.loop-index.invariant.placed c.tau-tau.ensures.valid.distinct_seeds c.area.ensures.distinct
    c.tile.result there (sym c.is_some.ensures ∙ c.if-is_some.false) c.facing_pull-pull.result (c.facing_pull-pull.ensures.value ∙ c.glues_beside-glues.ensures.pulls c.get-place.result.tile)
    (omega (arith, c.if-pull-tau.true, c.tau-tau.ensures.tau))
    in
    (λ e. absurd (cc e), λ legal. absurd (weak_illegal c.args.sys.now c.args.seq.now c.loop-index.index c.facing_pull-pull.result is_weak legal))

pub put_at-requires-clause-within : goal.put_at-requires-clause-within
put_at-requires-clause-within c =
    let In : BoxArea → Type 0 = λ area. c.site_index-number.result < cell_count area in
    subst In c.area.ensures.area c.site_index-number.ensures.within

pub put_at-requires-clause-number : goal.put_at-requires-clause-number
put_at-requires-clause-number c =
    let At : BoxArea → Type 0 = λ area. site_at area c.site_index-number.result ≡ c.get-place.result.site in
    subst At c.area.ensures.area c.site_index-number.ensures.site

pub put_at-requires-clause-small : goal.put_at-requires-clause-small
put_at-requires-clause-small c =
    let kind = All-slice_get (λ p. IsType c.args.sys.now p.tile) c.args.seq.now c.loop-index.index c.get-place.result c.requires.fits.types c.get-place.ensures in
    omega (arith, kind, c.tau-tau.ensures.valid.type_count)

pub loop-index-preserved : goal.loop-index-preserved
loop-index-preserved c =
    let At : BoxArea → Type 0 = λ area. site_at area c.site_index-number.result ≡ c.get-place.result.site in
    let site : site_at c.loop-index.scratch.area c.site_index-number.result ≡ c.get-place.result.site = subst At c.area.ensures.area c.site_index-number.ensures.site in
    let there : c.tile.result ≡ tile_at c.loop-index.scratch.tiles c.get-place.result.site = c.tile.ensures ∙ ap (λ (m : Site). tile_at c.loop-index.scratch.tiles m) site in
    let kind = All-slice_get (λ p. IsType c.args.sys.now p.tile) c.args.seq.now c.loop-index.index c.get-place.result c.requires.fits.types c.get-place.ensures in
    record {
      area = c.put_at.ensures.area ∙ c.loop-index.invariant.area;
      seeded = omega (arith, c.loop-index.invariant.seeded);
      within = omega (arith, c.loop-index-test.true, c.len-index-end.ensures);
      legal =
          legal_more c.args.sys.now c.args.seq.now c.loop-index.scratch.tiles c.loop-index.index c.get-place.result c.loop-index.invariant.seeded c.get-place.ensures
          c.loop-index.invariant.legal c.loop-index.invariant.placed c.tau-tau.ensures.valid.distinct_seeds c.area.ensures.distinct
          c.tile.result there (sym c.is_some.ensures ∙ c.if-is_some.false) c.facing_pull-pull.result (c.facing_pull-pull.ensures.value ∙ c.glues_beside-glues.ensures.pulls c.get-place.result.tile) kind
          (omega (arith, c.if-pull-tau.false, c.tau-tau.ensures.tau));
      placed =
          SamePlacements-more c.args.seq.now c.loop-index.index c.get-place.result c.loop-index.scratch.tiles c.put_at.new.self.tiles c.get-place.ensures
          c.loop-index.invariant.placed c.put_at.ensures.placements;
    }
