-- systems with the same parts are the same
use Rattle.std.proofs.Common.{◌≡◌, refl, sym, ◌∙◌, ap, rules}
use Rattle.atam.specs.TileSystem.{TileSystem}
use Rattle.tile_system.proofs.system.System.is_same.Goals as goal

same_system : (a b : TileSystem) → a.glues ≡ b.glues → a.types ≡ b.types → a.pairs ≡ b.pairs → a.seeds ≡ b.seeds → a.tau ≡ b.tau → a.area ≡ b.area → a ≡ b
same_system a b glues types pairs seeds tau area =
    let whole : TileSystem = record { glues = a.glues; pairs = a.pairs; types = a.types; tau = a.tau; seeds = a.seeds; area = a.area } in
    let other : TileSystem = record { glues = b.glues; pairs = b.pairs; types = b.types; tau = b.tau; seeds = b.seeds; area = b.area } in
    let same : whole ≡ other = rw (glues, types, pairs, seeds, tau, area) refl in
    same

pub returns-then-tau : goal.returns-then-tau
returns-then-tau c =
    let glues : c.args.self.now.glues ≡ c.args.other.now.glues = search rules in
    let types : c.args.self.now.types ≡ c.args.other.now.types = search rules in
    let pairs : c.args.self.now.pairs ≡ c.args.other.now.pairs = search rules in
    let seeds : c.args.self.now.seeds ≡ c.args.other.now.seeds = search rules in
    let tau : c.args.self.now.tau ≡ c.args.other.now.tau = search rules in (
      (λ yes. same_system _ _ glues types pairs seeds tau (sym c.area.ensures.area ∙ c.is_same.ensures.0 yes ∙ c.area-then-tau.ensures.area)),
      (λ same. c.is_same.ensures.1 (c.area.ensures.area ∙ ap (λ (s : TileSystem). s.area) same ∙ sym c.area-then-tau.ensures.area)),
    )
