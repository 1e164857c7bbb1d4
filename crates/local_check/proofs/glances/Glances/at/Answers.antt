use Rattle.std.proofs.Common.{◌≡◌, ◌∙◌, length, refl, sym, subst, arith, rules}
use Rattle.std.proofs.lemmas.Option.{slice_get_read}
use Rattle.atam.specs.declared.site.Side.TheVariants.{North, East, South, West}
use Rattle.atam.specs.Sites.{neighbor}
use Rattle.atam.specs.Assembly.{glue_at}
use Rattle.attach_rule.specs.declared.facing.FacingGlues.{FacingGlues}
use Rattle.attach_rule.specs.Facing.{FacesSite}
use Rattle.type_index.specs.Codes.{IsKeyOf}
use Rattle.local_check.specs.Inner.Glances.{GlanceTable, AreGlances}
use Rattle.atam.proofs.Boxes.{near_inside}
use Rattle.local_check.proofs.glances.Glances.at.Goals as goal

pub key_beside-key-requires-clause-near : goal.key_beside-key-requires-clause-near
key_beside-key-requires-clause-near c = near_inside c.args.grid.now.area c.args.place.site c.recall_sites.ensures.box_limits c.requires.inside

pub returns-then-is_same-clause-glance : goal.returns-then-is_same-clause-glance
returns-then-is_same-clause-glance c =
    let sys = c.args.sys.now in
    let tiles = c.args.grid.now.tiles in
    let site = c.args.place.site in
    let tile = c.args.place.tile in
    let Table : GlanceTable → Type 0 = λ table. AreGlances sys table in
    let known = subst Table (sym c.self.view_is) c.requires.known in
    let items = c.self.inside.last.items in
    let last = c.index-last.result.now in
    let read = slice_get_read items (length items) tile.0 last refl (omega (arith, known.count, c.requires.kind)) c.index-last.ensures in
    let glues : FacingGlues = record {
      north = glue_at sys tiles (neighbor site North) South;
      east = glue_at sys tiles (neighbor site East) West;
      south = glue_at sys tiles (neighbor site South) North;
      west = glue_at sys tiles (neighbor site West) East;
    } in
    let faces : FacesSite sys tiles site glues = record { north = refl; east = refl; south = refl; west = refl } in
    let same : last.beside ≡ c.beside-beside.result = c.if-is_same.ensures.0 search rules in
    known.each tile last read tiles site glues faces
    (subst (IsKeyOf glues) (sym c.if-last-key.true) (c.key_beside-key.ensures glues faces)) (same ∙ (c.beside-beside.ensures tiles site c.beside_at-tiles.ensures))

pub returns-clause-glance : goal.returns-clause-glance
returns-clause-glance c =
    let sys = c.args.sys.now in
    let tiles = c.args.grid.now.tiles in
    let site = c.args.place.site in
    let glues : FacingGlues = record {
      north = glue_at sys tiles (neighbor site North) South;
      east = glue_at sys tiles (neighbor site East) West;
      south = glue_at sys tiles (neighbor site South) North;
      west = glue_at sys tiles (neighbor site West) East;
    } in
    let faces : FacesSite sys tiles site glues = record { north = refl; east = refl; south = refl; west = refl } in
    c.look.ensures.glance tiles site glues faces (c.key_beside-key.ensures glues faces) (c.beside-beside.ensures tiles site c.beside_at-tiles.ensures)
