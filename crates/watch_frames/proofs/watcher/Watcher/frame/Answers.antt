use Rattle.std.proofs.Common.{◌≡◌, sym, ◌∙◌, ap, subst, arith}
use Rattle.atam.specs.TileSystem.{TileSystem}
use Rattle.atam.proofs.Sequences.{IsLegal-distinct}
use Rattle.assembly.specs.Cells.{cell_count}
use Rattle.watch_frames.specs.Watchers.{WatcherValue, IsWatching}
use Rattle.watch_frames.proofs.watcher.Watcher.frame.Goals as goal

pub invariant_of-self : goal.invariant_of-self
invariant_of-self c =
    let sys = c.args.sys.now in
    let looked = c.look_over.ensures in
    let extended = c.extend_over.ensures in
    let same : c.self.inside.seat.sys ≡ sys = ap (λ (w : WatcherValue). w.seat.sys) c.self.view_is ∙ c.requires.seat.sys ∙ c.requires.system in
    let w : WatcherValue = record { seat = c.look_over.new.seat; seen = c.look_over.new.seen; frames = c.extend_over.new.frames; many = c.self.inside.many } in
    let cells : cell_count c.self.inside.seat.sys.area ≡ cell_count sys.area = ap (λ (z : TileSystem). cell_count z.area) same in
    let watching : IsWatching sys w c.extend_over.new.self = record {
      seen = looked.seen;
      are = extended.frames;
      part = extended.part;
      distinct = IsLegal-distinct sys w.frames.places c.recall_valid.ensures.valid.distinct_seeds extended.frames.legal;
      rest = extended.rest;
      room = omega (arith, cells, c.self.invariant.room, extended.takes.room);
      most = omega (arith, c.self.invariant.most, extended.takes.most);
      few = c.self.invariant.few;
    } in
    subst (λ (z : TileSystem). IsWatching z w c.extend_over.new.self) (sym looked.seen.system) watching
