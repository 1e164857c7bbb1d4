use Rattle.std.proofs.Common.{ap, subst, sym, ◌∙◌}
use Rattle.type_index.specs.Codes.{IsKeyOf}
use Rattle.type_index.proofs.Holding.{candidates_listed}
use Rattle.type_index.proofs.Keys.{faced, faced_faces}
use Rattle.type_cache.proofs.held_list.HeldList.list.Goals as goal

pub returns-then-key-self-clause-types : goal.returns-then-key-self-clause-types
returns-then-key-self-clause-types g c =
    let sys = c.args.sys.now in
    let tiles = g.P.Placed.placements c.args.placed.now in
    let glues = faced sys tiles c.args.site in
    let faces = faced_faces sys tiles c.args.site in
    let is_key : IsKeyOf glues c.list_anew.new.self.key = subst (IsKeyOf glues) (sym c.list_anew.ensures.key) (c.key_beside-key.ensures glues faces) in
    candidates_listed sys tiles c.args.site glues c.list_anew.new.self.listed.types faces c.requires.empty (c.list_anew.ensures.list.held glues is_key)

pub returns-else-key-self-clause-types : goal.returns-else-key-self-clause-types
returns-else-key-self-clause-types g c =
    let sys = c.args.sys.now in
    let tiles = g.P.Placed.placements c.args.placed.now in
    let glues = faced sys tiles c.args.site in
    let faces = faced_faces sys tiles c.args.site in
    let is_key : IsKeyOf glues c.args.self.now.key = subst (IsKeyOf glues) (c.if-key-self.false ∙ ap (λ l. l.key) c.self.view_is) (c.key_beside-key.ensures glues faces) in
    candidates_listed sys tiles c.args.site glues c.args.self.now.listed.types faces c.requires.empty (c.requires.list.held glues is_key)
