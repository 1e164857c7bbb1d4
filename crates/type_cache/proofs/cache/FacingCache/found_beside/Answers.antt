use Rattle.type_index.proofs.Keys.{faced, faced_faces}
use Rattle.type_cache.specs.Findings.{found_in}
use Rattle.type_cache.proofs.Sums.{candidates_held}
use Rattle.type_cache.proofs.cache.FacingCache.found_beside.Goals as goal

pub returns-clause-found : goal.returns-clause-found
returns-clause-found g c =
    let sys = c.args.sys.now in
    let tiles = g.P.Placed.placements c.args.placed.now in
    let glues = faced sys tiles c.args.site in
    let faces = faced_faces sys tiles c.args.site in
    rw c.found.ensures (candidates_held sys tiles c.args.site glues (found_in c.known.result) faces c.requires.empty (c.known.ensures.found glues (c.key_beside-key.ensures glues faces)).sum)
