use Rattle.std.proofs.Common.{◌∙◌, refl, sym, ap}
use Rattle.atam.specs.declared.site.Side.TheVariants.{North, East, South, West}
use Rattle.atam.specs.Sites.{neighbor}
use Rattle.type_cache.specs.SideSets.{SideSet, has}
use Rattle.type_index.specs.Codes.{code_of}
use Rattle.cert_check.proofs.Looking.{kind_beside, glue_beside, waits_is}
use Rattle.cert_check.proofs.looks.Look.of.Goals as goal

pub code_beside-requires-clause-kind : goal.code_beside-requires-clause-kind
code_beside-requires-clause-kind c =
    kind_beside c.args.sys.now c.args.listing.now.entries (neighbor c.args.entry.now.place.site North) c.args.beside.now.north c.requires.fits c.requires.beside.north

pub code_beside-requires-2-clause-kind : goal.code_beside-requires-2-clause-kind
code_beside-requires-2-clause-kind c =
    kind_beside c.args.sys.now c.args.listing.now.entries (neighbor c.args.entry.now.place.site East) c.args.beside.now.east c.requires.fits c.requires.beside.east

pub code_beside-requires-3-clause-kind : goal.code_beside-requires-3-clause-kind
code_beside-requires-3-clause-kind c =
    kind_beside c.args.sys.now c.args.listing.now.entries (neighbor c.args.entry.now.place.site South) c.args.beside.now.south c.requires.fits c.requires.beside.south

pub code_beside-requires-4-clause-kind : goal.code_beside-requires-4-clause-kind
code_beside-requires-4-clause-kind c =
    kind_beside c.args.sys.now c.args.listing.now.entries (neighbor c.args.entry.now.place.site West) c.args.beside.now.west c.requires.fits c.requires.beside.west

pub returns : goal.returns
returns c =
    let sys = c.args.sys.now in
    let entries = c.args.listing.now.entries in
    let site = c.args.entry.now.place.site in
    let beside = c.args.beside.now in
    let near = c.requires.beside in
    record {
      key = λ glues faces. c.key_of_codes.ensures glues
          (c.code_beside.ensures.code ∙ ap code_of (glue_beside sys entries (neighbor site North) South beside.north near.north ∙ sym faces.north))
          (c.code_beside-2.ensures.code ∙ ap code_of (glue_beside sys entries (neighbor site East) West beside.east near.east ∙ sym faces.east))
          (c.code_beside-3.ensures.code ∙ ap code_of (glue_beside sys entries (neighbor site South) North beside.south near.south ∙ sym faces.south))
          (c.code_beside-4.ensures.code ∙ ap code_of (glue_beside sys entries (neighbor site West) East beside.west near.west ∙ sym faces.west));
      sides = refl;
      waits = λ d. ap (λ (sides : SideSet). has sides d) c.waiting_sides.ensures ∙ waits_is entries site beside near d;
    }
