use Rattle.std.proofs.Common.{arith, ◌<◌, ◌%◌, ◌∙◌, ap, sym, subst}
use Rattle.atam.specs.declared.area.BoxArea.{BoxArea}
use Rattle.atam.specs.declared.place.TypeId.{TypeId}
use Rattle.assembly.specs.Cells.{cell_count, site_at}
use Rattle.assembly.proofs.Cells.{cell_count-most}
use Rattle.site_table.proofs.Closing.{took}
use Rattle.site_table.proofs.grown.take_word.Goals as goal

pub add-requires : goal.add-requires
add-requires c = record {
  few = λ n.
      let few = c.requires.few n in
      let small = cell_count-most c.args.area.now c.requires.limits in
      let within = c.requires.within in
      omega (arith, few, small, within);
}

pub returns-clause-tiles : goal.returns-clause-tiles
returns-clause-tiles c =
    let site = c.site-site.ensures.site in
    let low = c.requires.coded c.if-word-eq0.false in
    took c.args.into.now.tiles c.put_at.new.self.tiles (site_at c.args.area.now c.args.index) (c.args.word % 4294967296) _ low site (ap (λ (t : TypeId). t.0) c.type_of-tile.ensures) c.requires.empty c.put_at.ensures.here c.put_at.ensures.others

pub put_at-requires-clause-within : goal.put_at-requires-clause-within
put_at-requires-clause-within c = subst (λ (a : BoxArea). c.args.index < cell_count a) (sym c.requires.area) c.requires.within

pub put_at-requires-clause-number : goal.put_at-requires-clause-number
put_at-requires-clause-number c = ap (λ (a : BoxArea). site_at a c.args.index) c.requires.area ∙ sym c.site-site.ensures.site
