use Rattle.std.proofs.Common.{sym, subst}
use Rattle.attach_rule.specs.Candidates.{RoomyTypes}
use Rattle.type_index.specs.Codes.{IsKeyOf}
use Rattle.type_index.specs.Sums.{SumsUp}
use Rattle.type_cache.specs.Findings.{AreFindings, IsKnownOf}
use Rattle.type_cache.proofs.Sums.{small_sum, sums_listed}
use Rattle.type_cache.proofs.Keeping.{known_key, keeps_finding, is_known}
use Rattle.type_cache.proofs.cache.FacingCache.find_anew.Goals as goal

pub list_anew-requires-clause-list : goal.list_anew-requires-clause-list
list_anew-requires-clause-list c =
    let before : AreFindings c.args.sys.now _ = subst (AreFindings c.args.sys.now) (sym c.self.view_is) c.requires.known in
    before.list

pub settled_alone-settled-requires-clause-found : goal.settled_alone-settled-requires-clause-found
settled_alone-settled-requires-clause-found c =
    sums_listed c.args.sys.now c.glues_of_key-glues.result c.list_anew.new.self c.types.result.now c.args.key c.of-found.result c.list_anew.ensures.list c.list_anew.ensures.key c.glues_of_key-glues.ensures c.types.ensures c.of-found.ensures

pub of-requires : goal.of-requires
of-requires c =
    let sys = c.args.sys.now in
    let glues = c.glues_of_key-glues.result in
    let of_glues : IsKeyOf glues c.list_anew.new.self.key = subst (IsKeyOf glues) (sym c.list_anew.ensures.key) c.glues_of_key-glues.ensures in
    let Sums : RoomyTypes → Type 0 = λ l. SumsUp l.types c.of-found.result in
    record { small = small_sum sys glues c.list_anew.new.self.listed.types c.of-found.result (c.list_anew.ensures.list.held glues of_glues) c.list_anew.ensures.few c.recall_valid.ensures.valid.type_count (subst Sums c.types.ensures c.of-found.ensures) }

pub of-requires-2 : goal.of-requires-2
of-requires-2 c =
    let sys = c.args.sys.now in
    let glues = c.glues_of_key-glues.result in
    let of_glues : IsKeyOf glues c.list_anew.new.self.key = subst (IsKeyOf glues) (sym c.list_anew.ensures.key) c.glues_of_key-glues.ensures in
    let Sums : RoomyTypes → Type 0 = λ l. SumsUp l.types c.of-found.result in
    record { small = small_sum sys glues c.list_anew.new.self.listed.types c.of-found.result (c.list_anew.ensures.list.held glues of_glues) c.list_anew.ensures.few c.recall_valid.ensures.valid.type_count (subst Sums c.types.ensures c.of-found.ensures) }

pub returns-clause-found : goal.returns-clause-found
returns-clause-found c =
    let sys = c.args.sys.now in
    let glues = c.glues_of_key-glues.result in
    let sums = sums_listed sys glues c.list_anew.new.self c.types.result.now c.args.key c.of-found.result c.list_anew.ensures.list c.list_anew.ensures.key c.glues_of_key-glues.ensures c.types.ensures c.of-found.ensures in
    let is : IsKnownOf sys glues c.of-2.result = is_known sys glues c.of-2.result c.of-found.result c.settled_alone-settled.result c.of-2.ensures.found c.of-2.ensures.settled sums c.settled_alone-settled.ensures in
    known_key sys glues c.args.key c.of-2.result c.glues_of_key-glues.ensures is

pub returns-clause-known : goal.returns-clause-known
returns-clause-known c =
    let sys = c.args.sys.now in
    let glues = c.glues_of_key-glues.result in
    let before : AreFindings sys _ = subst (AreFindings sys) (sym c.self.view_is) c.requires.known in
    let sums = sums_listed sys glues c.list_anew.new.self c.types.result.now c.args.key c.of-found.result c.list_anew.ensures.list c.list_anew.ensures.key c.glues_of_key-glues.ensures c.types.ensures c.of-found.ensures in
    let is : IsKnownOf sys glues c.of.result = is_known sys glues c.of.result c.of-found.result c.settled_alone-settled.result c.of.ensures.found c.of.ensures.settled sums c.settled_alone-settled.ensures in
    record {
      known = keeps_finding sys c.self.inside.findings.items c.slot_of.result glues (record { key = c.args.key; known = c.of.result }) before.known c.glues_of_key-glues.ensures is;
      list = c.list_anew.ensures.list;
    }
