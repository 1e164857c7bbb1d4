use Rattle.std.proofs.Common.{subst}
use Rattle.atam.specs.declared.area.BoxArea.{BoxArea}
use Rattle.atam.specs.Sites.{InBox}
use Rattle.atam.specs.TileSystem.{TileSystem, IsType}
use Rattle.watch_frames.proofs.Looking.{looks_nowhere, looks_tile}
use Rattle.watch_frames.proofs.looks.look_at.Goals as goal

pub returns-then-is_some-clause-looks : goal.returns-then-is_some-clause-looks
returns-then-is_some-clause-looks c = looks_nowhere c.args.sys.now c.args.seat.now c.args.seen.now c.requires.seen

pub returns-clause-looks : goal.returns-clause-looks
returns-clause-looks c =
    let sys = c.args.sys.now in
    let site = c.site-site.result in
    let kind = subst (λ (z : TileSystem). IsType z c.in-Some.tile) c.requires.system c.in-Some.ensures.kind in
    let inside = subst (λ (a : BoxArea). InBox a site) c.area-area.ensures.area c.site-site.ensures.inside in
    looks_tile sys c.args.seat.now c.look_at.new.seat c.args.seen.now c.put_at.new.self site c.in-Some.tile c.requires.seen c.in-Some.ensures.seat c.in-Some.ensures.sees kind inside c.put_at.ensures.area c.put_at.ensures.placements
