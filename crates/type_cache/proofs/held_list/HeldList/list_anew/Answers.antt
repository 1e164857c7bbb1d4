use Rattle.std.proofs.Common.{ap, arith, subst}
use Rattle.attach_rule.specs.declared.facing.FacingGlues.{FacingGlues}
use Rattle.type_index.specs.HeldTypes.{AreHeld}
use Rattle.type_index.proofs.Keys.{same_key}
use Rattle.type_cache.proofs.held_list.HeldList.list_anew.Goals as goal

pub returns-clause-list : goal.returns-clause-list
returns-clause-list c =
    let sys = c.args.sys.now in
    let listed : FacingGlues → Type 0 = λ glues. AreHeld sys glues c.list_held.new.into.types in
    record {
      held = λ glues of_glues. subst listed (same_key c.glues_of_key.result glues c.args.key c.glues_of_key.ensures of_glues) c.list_held.ensures.types;
      room = omega (arith, c.requires.list.room, ap (λ l. l.listed.room) c.self.view_is, c.clear.ensures.room, c.list_held.ensures.room);
    }
