use Rattle.std.proofs.Common.{arith, rules}
use Rattle.type_index.specs.declared.cursor.Walk.{Walk}
use Rattle.type_index.proofs.Walks.{IsPass, pass_after, pass_behind, pass_none, pass_reached, pass_within}
use Rattle.type_index.proofs.index.TypeIndex.pass_to.Goals as goal

pub returns : goal.returns
returns c =
    let sys = c.args.sys.now in
    let glues = c.args.glues.now in
    let old = c.args.walk.now in
    let new : Walk = record { from = old.from; north = c.pass_to.new.cursor; east = c.pass_to-2.new.cursor; south = c.pass_to-3.new.cursor; west = c.pass_to-4.new.cursor } in
    let north = c.bound-north.result in
    let east = c.bound-east.result in
    let south = c.bound-south.result in
    let west = c.bound.result in
    let pass : IsPass sys glues old new c.args.bound north east south west c.args.spare = record {
      behind = c.requires.walk;
      within = c.requires.within;
      spared = c.requires.spare;
      on_north = c.pass_to.ensures.cursor;
      on_east = c.pass_to-2.ensures.cursor;
      on_south = c.pass_to-3.ensures.cursor;
      on_west = c.pass_to-4.ensures.cursor;
      most_north = c.pass_to.ensures.most;
      most_east = c.pass_to-2.ensures.most;
      most_south = c.pass_to-3.ensures.most;
      most_west = c.pass_to-4.ensures.most;
      by_north = c.bound-north.ensures;
      by_east = c.bound-east.ensures;
      by_south = c.bound-south.ensures;
      by_west = c.bound.ensures;
    } in
    record {
      walk = pass_behind sys glues old new c.args.bound north east south west c.args.spare pass;
      ways = search rules;
      spare = omega (arith, pass.most_north, pass.most_east, pass.most_south, pass.most_west);
      after = pass_after sys glues old new c.args.bound north east south west c.args.spare pass;
      within = pass_within sys glues old new c.args.bound north east south west c.args.spare pass;
      none = pass_none sys glues old new c.args.bound north east south west c.args.spare pass;
      reached = pass_reached sys glues old new c.args.bound north east south west c.args.spare pass;
    }
