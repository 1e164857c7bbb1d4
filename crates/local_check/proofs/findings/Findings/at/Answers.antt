use Rattle.std.proofs.Common.{◌≡◌, ◌∙◌, Bool, IfSome, Option, length, refl, sym, ap, subst, arith, rules}
use Rattle.std.proofs.lemmas.Option.{slice_get_read}
use Rattle.atam.specs.declared.site.Side.TheVariants.{North, East, South, West}
use Rattle.atam.specs.Sites.{neighbor}
use Rattle.atam.specs.Assembly.{glue_at}
use Rattle.attach_rule.specs.declared.facing.FacingGlues.{FacingGlues}
use Rattle.attach_rule.specs.Facing.{FacesSite}
use Rattle.type_index.specs.Codes.{IsKeyOf}
use Rattle.type_cache.specs.SideSets.{SideSet}
use Rattle.local_check.specs.declared.findings.LastFinding.{LastFinding}
use Rattle.local_check.specs.Inner.PlaceFindings.{FindingTable, IsFinding, ArePlaceFindings, IsKept}
use Rattle.atam.proofs.Boxes.{near_inside}
use Rattle.local_check.proofs.findings.Findings.at.Goals as goal

pub key_beside-key-requires-clause-near : goal.key_beside-key-requires-clause-near
key_beside-key-requires-clause-near c = near_inside c.args.whole.now.area c.args.place.site c.recall_sites.ensures.box_limits c.requires.inside

pub returns-then-is_same-clause-finding : goal.returns-then-is_same-clause-finding
returns-then-is_same-clause-finding c =
    let sys = c.args.sys.now in
    let whole = c.args.whole.now.tiles in
    let site = c.args.place.site in
    let tile = c.args.place.tile in
    let seeks = c.args.self.now.seeks in
    let Table : FindingTable → Type 0 = λ table. ArePlaceFindings sys table in
    let known = subst Table (sym c.self.view_is) c.requires.known in
    let items = c.self.inside.last.items in
    let last = c.index-last.result.now in
    let read = slice_get_read items (length items) tile.0 last refl (omega (arith, known.count, c.requires.kind)) c.index-last.ensures in
    let glues : FacingGlues = record {
      north = glue_at sys whole (neighbor site North) South;
      east = glue_at sys whole (neighbor site East) West;
      south = glue_at sys whole (neighbor site South) North;
      west = glue_at sys whole (neighbor site West) East;
    } in
    let faces : FacesSite sys whole site glues = record { north = refl; east = refl; south = refl; west = refl } in
    let stood : last.before ≡ c.args.before.now = c.if-is_same.ensures.0 search rules in
    let Stood : SideSet → Type 0 = λ sides. IsFinding sys whole site tile sides seeks last.finding in
    let Sought : Bool → Type 0 = λ b. IsFinding sys whole site tile last.before b last.finding in
    subst Stood stood (subst Sought (ap (λ table. table.seeks) c.self.view_is)
    (known.each tile last read whole site glues faces (subst (IsKeyOf glues) (sym c.if-last-key.true) (c.key_beside-key.ensures glues faces))))

pub returns-clause-finding : goal.returns-clause-finding
returns-clause-finding c =
    let sys = c.args.sys.now in
    let whole = c.args.whole.now.tiles in
    let site = c.args.place.site in
    let tile = c.args.place.tile in
    let before = c.args.before.now in
    let seeks = c.args.self.now.seeks in
    let Table : FindingTable → Type 0 = λ table. ArePlaceFindings sys table in
    let Kept : FindingTable → Type 0 = λ table. IsKept table tile c.key_beside-key.result before in
    let known = subst Table (sym c.self-2.view_is) c.find.ensures.known in
    let items = c.self-2.inside.last.items in
    let last = c.index.result.now in
    let read = slice_get_read items (length items) tile.0 last refl (omega (arith, known.count, c.requires.kind)) c.index.ensures in
    let Here : Option LastFinding → Type 0 = λ found. IfSome found (λ k. (k.key ≡ c.key_beside-key.result) × (k.before ≡ before)) in
    let kept = subst Here read (subst Kept (sym c.self-2.view_is) c.find.ensures.kept) in
    let glues : FacingGlues = record {
      north = glue_at sys whole (neighbor site North) South;
      east = glue_at sys whole (neighbor site East) West;
      south = glue_at sys whole (neighbor site South) North;
      west = glue_at sys whole (neighbor site West) East;
    } in
    let faces : FacesSite sys whole site glues = record { north = refl; east = refl; south = refl; west = refl } in
    let Stood : SideSet → Type 0 = λ sides. IsFinding sys whole site tile sides seeks last.finding in
    let Sought : Bool → Type 0 = λ b. IsFinding sys whole site tile last.before b last.finding in
    subst Stood kept.1 (subst Sought (ap (λ table. table.seeks) c.self-2.view_is ∙ c.find.ensures.seeks)
    (known.each tile last read whole site glues faces (subst (IsKeyOf glues) (sym kept.0) (c.key_beside-key.ensures glues faces))))
