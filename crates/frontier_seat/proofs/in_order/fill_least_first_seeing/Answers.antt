use Rattle.std.proofs.Common.{◌∙◌, sym, subst}
use Rattle.atam.specs.Canonical.{IsCanonical}
use Rattle.atam.proofs.Opening.{Fits-part}
use Rattle.type_cache.specs.Clean.{CameExact}
use Rattle.frontier_seat.proofs.Ordering.{canonical_order, full_growth}
use Rattle.frontier_seat.proofs.in_order.fill_least_first_seeing.Goals as goal

pub fill_all-requires-clause-can : goal.fill_all-requires-clause-can
fill_all-requires-clause-can g c =
    let sys = c.args.sys.now in
    let valid = c.recall_valid.ensures.valid in
    record {
      filling = record {
        area = c.in_ok-grid.ensures.area;
        distinct = c.recall_sites.ensures.distinct;
        fits = Fits-part sys c.in_ok-grid.grid.tiles sys.seeds c.in_ok-grid.ensures.seeds.whole (record { types = valid.seed_types; sites = valid.seed_sites });
      };
      picker = c.in_ok-make.ensures;
      area = c.in_ok-make-2.ensures.area ∙ c.area.ensures.area;
    }

pub returns-clause-full : goal.returns-clause-full
returns-clause-full g c = full_growth c.args.sys.now c.fill_all.new.self.grid c.fill_all.new.self.log.places c.fill_all.ensures.can.filling c.fill_all.ensures.closed c.fill_all.ensures.order.grew

pub returns-clause-order : goal.returns-clause-order
returns-clause-order g c =
    let sys = c.args.sys.now in
    let tiles = c.fill_all.new.self.grid.tiles in
    subst (IsCanonical sys tiles) (sym c.into_sequence-order.ensures)
    (canonical_order sys tiles c.fill_all.new.self.log.places c.recall_valid.ensures.valid c.fill_all.ensures.can.filling.fits c.fill_all.ensures.order.grew)

pub returns-clause-clean : goal.returns-clause-clean
returns-clause-clean g c said = subst (CameExact c.args.sys.now) (sym c.into_sequence-order.ensures) (c.fill_all.ensures.order.exact (sym c.is_clean-clean.ensures ∙ said))
