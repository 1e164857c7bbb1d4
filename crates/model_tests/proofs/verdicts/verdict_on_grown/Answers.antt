use Rattle.std.proofs.Common.{◌≡◌, List, rules, subst}
use Rattle.atam.specs.declared.place.Place.{Place}
use Rattle.atam.specs.Assembly.{Fits}
use Rattle.atam.specs.Placements.{SamePlacements}
use Rattle.atam.specs.TileSystem.{TileSystem}
use Rattle.atam.specs.declared.legality.Legality.{Legality}
use Rattle.atam.specs.declared.legality.Legality.TheVariants.{Legal}
use Rattle.atam.proofs.Opening.{Fits-part}
use Rattle.replay_order.specs.Legalities.{legal_part}
use Rattle.model_tests.proofs.verdicts.verdict_on_grown.Goals as goal

-- the grid of a legal sequence has exactly its places
placed : (order tiles : List Place) (answer : Legality) → answer ≡ Legal → SamePlacements (legal_part order answer) tiles → SamePlacements order tiles
placed order tiles answer legal same = subst (λ (r : Legality). SamePlacements (legal_part order r) tiles) legal same

-- so it fits too
placed_fits : (sys : TileSystem) (order tiles : List Place) → Fits sys order → SamePlacements order tiles → Fits sys tiles
placed_fits sys order tiles fits same = Fits-part sys tiles order same.whole fits

pub closed_in_box-requires : goal.closed_in_box-requires
closed_in_box-requires g c =
    let order = c.args.order.now in
    let tiles = c.check_legal-legal.new.scratch.tiles in
    let same = placed order tiles c.check_legal-legal.result (c.check_legal-legal.ensures.legal.1 c.requires.legal) c.check_legal-legal.ensures.placements in
    placed_fits c.args.sys.now order tiles c.requires.fits same

pub least_open_outside-outside-requires-clause-fits : goal.least_open_outside-outside-requires-clause-fits
least_open_outside-outside-requires-clause-fits g c =
    let order = c.args.order.now in
    let tiles = c.check_legal-legal.new.scratch.tiles in
    let same = placed order tiles c.check_legal-legal.result (c.check_legal-legal.ensures.legal.1 c.requires.legal) c.check_legal-legal.ensures.placements in
    placed_fits c.args.sys.now order tiles c.requires.fits same

pub judge_grown-requires-clause-grown : goal.judge_grown-requires-clause-grown
judge_grown-requires-clause-grown g c κs within = record {
  legal = c.requires.legal;
  fits = c.requires.fits;
  area = search rules;
  placements = placed c.args.order.now c.check_legal-legal.new.scratch.tiles c.check_legal-legal.result (c.check_legal-legal.ensures.legal.1 c.requires.legal) c.check_legal-legal.ensures.placements;
  closed = c.closed_in_box.ensures.0 (search rules);
  index = c.in_ok-types.ensures;
  least = c.least_open_outside-outside.ensures;
}
