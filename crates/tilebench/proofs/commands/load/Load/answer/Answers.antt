use Rattle.std.proofs.Common.{◌∙◌, ℕ, ap, length, subst}
use Rattle.assembly.specs.Grids.{TileGrid}
use Rattle.counter_compile.specs.Counters.{counter_refusal}
use Rattle.grow_workers.specs.Workers.{IsGrownBy}
use Rattle.tilebench.specs.Commands.Load.{load_bits}
use Rattle.tilebench.specs.Inner.Rooms.{GrowsTo}
use Rattle.tilebench.proofs.Loads.{load_accepted, load_told}
use Rattle.tilebench.proofs.commands.load.Load.answer.Goals as goal

pub system_of-requires : goal.system_of-requires
system_of-requires g c =
    let counter = c.counter_of-counter in
    ap (λ (bits : ℕ). counter_refusal bits counter.result.start) counter.ensures.bits
    ∙ ap (λ (start : ℕ). counter_refusal (load_bits c.args.self.now.number) start) counter.ensures.start ∙ load_accepted c.args.self.now.number

pub returns : goal.returns
returns g c =
    let counter = c.counter_of-counter in
    let sys = c.in_ok-sys.sys in
    let table = c.in_ok-grown.grown in
    let growth = c.growth_of-growth.result in
    let grows = subst (λ (grid : TileGrid). GrowsTo sys grid.tiles growth) c.grid.ensures c.growth_of-growth.ensures in
    record {
      answer = load_told c.args.self.now.number counter.result.bits counter.result.start c.count.result sys table growth counter.ensures.bits counter.ensures.start c.in_ok-sys.ensures
          (subst (λ (workers : ℕ). IsGrownBy sys workers table) c.new.ensures c.in_ok-grown.ensures.grew) grows
          (c.count.ensures ∙ ap (λ (grid : TileGrid). length grid.tiles) c.grid-2.ensures);
      prints = grows.types;
    }
