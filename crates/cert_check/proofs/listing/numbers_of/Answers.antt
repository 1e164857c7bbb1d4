use Rattle.std.proofs.Common.{◌+◌, ◌∙◌, length-set, arith}
use Rattle.cert_check.proofs.Listings.{few, entry_inside, within_more, each_more}
use Rattle.atam.proofs.Lists.{slice_get-Contains}
use Rattle.cert_check.proofs.listing.numbers_of.Goals as goal

pub overflow_cast-index : goal.overflow_cast-index
overflow_cast-index c = omega (arith, few c.args.area.now c.args.cert.now c.requires.limits c.requires.distinct c.requires.inside, c.loop-index-test.true, c.len-index-end.ensures)

pub overflow_add-index : goal.overflow_add-index
overflow_add-index c = omega (arith, few c.args.area.now c.args.cert.now c.requires.limits c.requires.distinct c.requires.inside, c.loop-index-test.true, c.len-index-end.ensures)

pub site_index-requires-clause-inside : goal.site_index-requires-clause-inside
site_index-requires-clause-inside c = entry_inside c.args.area.now c.args.cert.now c.get.result c.requires.inside (slice_get-Contains c.args.cert.now c.loop-index.index c.get.result c.get.ensures)

pub loop-index-preserved : goal.loop-index-preserved
loop-index-preserved c =
    let area = c.args.area.now in
    let entries = c.args.cert.now in
    let numbers = c.loop-index.numbers.items in
    let i = c.loop-index.index in
    let number = c.site_index.result in
    let so_far = c.loop-index.invariant in
    record {
      count = length-set numbers number (i + 1) ∙ so_far.count;
      within = within_more area entries numbers i c.get.result number so_far.within so_far.count c.site_index.ensures.within;
      each =
          each_more area entries numbers i c.get.result number c.requires.distinct c.get.ensures c.site_index.ensures.site
          so_far.each so_far.count c.site_index.ensures.within;
    }
