use Rattle.std.proofs.Common.{Some, Option, sym, subst}
use Rattle.atam.specs.declared.site.Side.{Side}
use Rattle.atam.specs.declared.site.Side.TheVariants.{North, East, South, West}
use Rattle.atam.specs.declared.site.Site.{Site}
use Rattle.atam.specs.declared.place.TypeId.{TypeId}
use Rattle.atam.specs.Sites.{neighbor}
use Rattle.atam.specs.Growth.{IsLeastOpenAmong}
use Rattle.atam.proofs.Boxes.{near_inside}
use Rattle.attach_rule.specs.Searches.{IsFirstType}
use Rattle.cert_check.specs.Certificates.{places_of}
use Rattle.cert_check.specs.Judgement.{IsBeside}
use Rattle.cert_check.proofs.EntryChecks.{south_open, west_open, east_open, north_open, none_open}
use Rattle.cert_check.proofs.checks.Checker.open_beside.Goals as goal

pub type_beside-requires-clause-can : goal.type_beside-requires-clause-can
type_beside-requires-clause-can c = c.requires.can

pub type_beside-requires-clause-inside : goal.type_beside-requires-clause-inside
type_beside-requires-clause-inside c = c.requires.inside

pub type_beside-requires-clause-beside : goal.type_beside-requires-clause-beside
type_beside-requires-clause-beside c = c.requires.beside.south

pub step-requires : goal.step-requires
step-requires c = near_inside c.args.self.now.sys.now.area c.args.site c.requires.can.valid.box c.requires.inside

pub returns-in-Some : goal.returns-in-Some
returns-in-Some c =
    let sys = c.args.self.now.sys.now in
    let tiles = places_of c.args.self.now.listing.now.entries in
    let site = c.args.site in
    let First : Side → Option TypeId → Type 0 = λ d found. IsFirstType sys tiles (neighbor site d) found in
    let first = subst (First South) c.in-Some.is c.type_beside.ensures in
    let Open : Site → Type 0 = λ m. IsLeastOpenAmong sys tiles (IsBeside site) (Some (m, c.in-Some.tile)) in
    subst Open (sym c.step.ensures) (south_open sys tiles site c.in-Some.tile first)

pub type_beside-requires-2-clause-can : goal.type_beside-requires-2-clause-can
type_beside-requires-2-clause-can c = c.requires.can

pub type_beside-requires-2-clause-inside : goal.type_beside-requires-2-clause-inside
type_beside-requires-2-clause-inside c = c.requires.inside

pub type_beside-requires-2-clause-beside : goal.type_beside-requires-2-clause-beside
type_beside-requires-2-clause-beside c = c.requires.beside.west

pub step-requires-in-Some-type_beside : goal.step-requires-in-Some-type_beside
step-requires-in-Some-type_beside c = near_inside c.args.self.now.sys.now.area c.args.site c.requires.can.valid.box c.requires.inside

pub returns-in-Some-type_beside : goal.returns-in-Some-type_beside
returns-in-Some-type_beside c =
    let sys = c.args.self.now.sys.now in
    let tiles = places_of c.args.self.now.listing.now.entries in
    let site = c.args.site in
    let First : Side → Option TypeId → Type 0 = λ d found. IsFirstType sys tiles (neighbor site d) found in
    let south = subst (First South) c.in_default.is c.type_beside.ensures in
    let first = subst (First West) c.in-Some-type_beside.is c.type_beside-2.ensures in
    let Open : Site → Type 0 = λ m. IsLeastOpenAmong sys tiles (IsBeside site) (Some (m, c.in-Some-type_beside.tile)) in
    subst Open (sym c.step-in-Some-type_beside.ensures) (west_open sys tiles site south c.in-Some-type_beside.tile first)

pub type_beside-requires-3-clause-can : goal.type_beside-requires-3-clause-can
type_beside-requires-3-clause-can c = c.requires.can

pub type_beside-requires-3-clause-inside : goal.type_beside-requires-3-clause-inside
type_beside-requires-3-clause-inside c = c.requires.inside

pub type_beside-requires-3-clause-beside : goal.type_beside-requires-3-clause-beside
type_beside-requires-3-clause-beside c = c.requires.beside.east

pub step-requires-in-Some-type_beside-2 : goal.step-requires-in-Some-type_beside-2
step-requires-in-Some-type_beside-2 c = near_inside c.args.self.now.sys.now.area c.args.site c.requires.can.valid.box c.requires.inside

pub returns-in-Some-type_beside-2 : goal.returns-in-Some-type_beside-2
returns-in-Some-type_beside-2 c =
    let sys = c.args.self.now.sys.now in
    let tiles = places_of c.args.self.now.listing.now.entries in
    let site = c.args.site in
    let First : Side → Option TypeId → Type 0 = λ d found. IsFirstType sys tiles (neighbor site d) found in
    let south = subst (First South) c.in_default.is c.type_beside.ensures in
    let west = subst (First West) c.in_default-type_beside.is c.type_beside-2.ensures in
    let first = subst (First East) c.in-Some-type_beside-2.is c.type_beside-3.ensures in
    let Open : Site → Type 0 = λ m. IsLeastOpenAmong sys tiles (IsBeside site) (Some (m, c.in-Some-type_beside-2.tile)) in
    subst Open (sym c.step-in-Some-type_beside-2.ensures) (east_open sys tiles site south west c.in-Some-type_beside-2.tile first)

pub type_beside-requires-4-clause-can : goal.type_beside-requires-4-clause-can
type_beside-requires-4-clause-can c = c.requires.can

pub type_beside-requires-4-clause-inside : goal.type_beside-requires-4-clause-inside
type_beside-requires-4-clause-inside c = c.requires.inside

pub type_beside-requires-4-clause-beside : goal.type_beside-requires-4-clause-beside
type_beside-requires-4-clause-beside c = c.requires.beside.north

pub step-requires-in-Some-type_beside-3 : goal.step-requires-in-Some-type_beside-3
step-requires-in-Some-type_beside-3 c = near_inside c.args.self.now.sys.now.area c.args.site c.requires.can.valid.box c.requires.inside

pub returns-in-Some-type_beside-3 : goal.returns-in-Some-type_beside-3
returns-in-Some-type_beside-3 c =
    let sys = c.args.self.now.sys.now in
    let tiles = places_of c.args.self.now.listing.now.entries in
    let site = c.args.site in
    let First : Side → Option TypeId → Type 0 = λ d found. IsFirstType sys tiles (neighbor site d) found in
    let south = subst (First South) c.in_default.is c.type_beside.ensures in
    let west = subst (First West) c.in_default-type_beside.is c.type_beside-2.ensures in
    let east = subst (First East) c.in_default-type_beside-2.is c.type_beside-3.ensures in
    let first = subst (First North) c.in-Some-type_beside-3.is c.type_beside-4.ensures in
    let Open : Site → Type 0 = λ m. IsLeastOpenAmong sys tiles (IsBeside site) (Some (m, c.in-Some-type_beside-3.tile)) in
    subst Open (sym c.step-in-Some-type_beside-3.ensures) (north_open sys tiles site south west east c.in-Some-type_beside-3.tile first)

pub returns : goal.returns
returns c =
    let sys = c.args.self.now.sys.now in
    let tiles = places_of c.args.self.now.listing.now.entries in
    let site = c.args.site in
    let First : Side → Option TypeId → Type 0 = λ d found. IsFirstType sys tiles (neighbor site d) found in
    let south = subst (First South) c.in_default.is c.type_beside.ensures in
    let west = subst (First West) c.in_default-type_beside.is c.type_beside-2.ensures in
    let east = subst (First East) c.in_default-type_beside-2.is c.type_beside-3.ensures in
    let north = subst (First North) c.in_default-type_beside-3.is c.type_beside-4.ensures in
    none_open sys tiles site south west east north
