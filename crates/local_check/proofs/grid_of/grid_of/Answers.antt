use Rattle.std.proofs.Common.{◌∙◌, take, arith, sym, subst}
use Rattle.atam.specs.declared.area.BoxArea.{BoxArea}
use Rattle.atam.specs.Sites.{InBox}
use Rattle.atam.specs.TileSystem.{IsType}
use Rattle.atam.proofs.Lists.{All-slice_get}
use Rattle.atam.proofs.Placements.{distinct-empty}
use Rattle.assembly.proofs.Putting.{same_empty, SamePlacements-more}
use Rattle.local_check.proofs.grid_of.grid_of.Goals as goal

pub put-requires-clause-inside : goal.put-requires-clause-inside
put-requires-clause-inside c =
    let in_system = All-slice_get (λ p. InBox c.args.sys.now.area p.site) c.args.seq.now c.loop-index.index c.get.result c.requires.fits.sites c.get.ensures in
    subst (λ (area : BoxArea). InBox area c.get.result.site) (sym c.loop-index.invariant.area) in_system

pub put-requires-clause-empty : goal.put-requires-clause-empty
put-requires-clause-empty c =
    let s = c.args.seq.now in
    let i = c.loop-index.index in
    same_empty (take i s) c.loop-index.grid.tiles c.loop-index.invariant.placed c.get.result.site (distinct-empty s i c.get.result c.requires.distinct c.get.ensures)

pub put-requires-clause-small : goal.put-requires-clause-small
put-requires-clause-small c =
    let kind = All-slice_get (λ p. IsType c.args.sys.now p.tile) c.args.seq.now c.loop-index.index c.get.result c.requires.fits.types c.get.ensures in
    omega (arith, kind, c.recall_valid.ensures.valid.type_count)

pub loop-index-preserved : goal.loop-index-preserved
loop-index-preserved c =
    record {
      area = c.put.ensures.area ∙ c.loop-index.invariant.area;
      within = omega (arith, c.loop-index-test.true, c.len-index-end.ensures);
      placed =
          SamePlacements-more c.args.seq.now c.loop-index.index c.get.result c.loop-index.grid.tiles c.put.new.self.tiles c.get.ensures
          c.loop-index.invariant.placed c.put.ensures.placements;
    }
