use Rattle.std.proofs.Common.{refl}
use Rattle.grow_core.proofs.scout.CoreScout.win.Goals as goal

pub returns-clause-scout : goal.returns-clause-scout
returns-clause-scout c =
    let name = c.name-placer.ensures in
    rw (c.push_reserved.ensures.items, name, ← c.self.view_is) (record { owned = refl; seen = c.put.ensures.placements; distinct = c.recall_sites.ensures.distinct; mine = refl })
