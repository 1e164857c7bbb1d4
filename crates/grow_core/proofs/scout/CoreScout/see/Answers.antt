use Rattle.std.proofs.Common.{refl, sym, ◌∙◌, ap}
use Rattle.atam.specs.Placements.{tile_at}
use Rattle.grow_core.specs.Inner.Entries.{BoxedScout}
use Rattle.grow_core.proofs.Assembled.{seen_again}
use Rattle.grow_core.proofs.scout.CoreScout.see.Goals as goal

pub returns-then-is_none-clause-scout : goal.returns-then-is_none-clause-scout
returns-then-is_none-clause-scout c = rw (← c.self.view_is) (record { owned = refl; seen = c.put.ensures.placements; distinct = c.recall_sites.ensures.distinct; mine = refl })

pub returns-else-is_none-clause-scout : goal.returns-else-is_none-clause-scout
returns-else-is_none-clause-scout c = rw (← c.self.view_is) (record {
  owned = refl;
  seen = seen_again c.self.inside.seen.tiles c.args.place c.at.result c.at.ensures.tile c.is_none.result c.is_none.ensures c.if-is_none.false
      (λ t e. c.requires.agrees t (sym (ap (λ (b : BoxedScout). tile_at b.scout.seen c.args.place.site) c.self.view_is) ∙ e));
  distinct = c.at.ensures.distinct;
  mine = refl;
})
