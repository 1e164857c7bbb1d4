use Rattle.std.proofs.Common.{rules, ◌≡◌, ◌↔◌, Some, IsTrue}
use Rattle.atam.specs.Placements.{tile_at}
use Rattle.atam.proofs.Placements.{tile_at-Contains, Contains-tile_at}
use Rattle.cert_check.specs.Certificates.{places_of}
use Rattle.cert_check.proofs.verifying.is_listed.Goals as goal

pub returns : goal.returns
returns c =
    let places = places_of c.args.listing.now.entries in
    let seed = c.args.seed.now in
    let stands : IsTrue c.eq.result ↔ (tile_at places seed.site ≡ Some seed.tile) = search rules in (
      λ equal. tile_at-Contains places seed.site seed.tile (stands.0 equal),
      λ listed. stands.1 (Contains-tile_at places seed c.at.ensures.distinct listed),
    )
