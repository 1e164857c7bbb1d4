use Rattle.std.proofs.Common.{◌≡◌, Bool, MatchBool, inl, subst, arith}
use Rattle.std.proofs.lemmas.Bool.{not-false}
use Rattle.frontier_seat.specs.Inner.Looks.{ClaimsPick}
use Rattle.assembly.proofs.Cells.{cell_count-most}
use Rattle.frontier_seat.proofs.grower.Grower.look_logged.Goals as goal

pub overflow_cast-spot : goal.overflow_cast-spot
overflow_cast-spot g c =
    let within = c.requires.taken.spot.within in
    let most = cell_count-most c.args.lent.sys.now.area c.recall_valid.ensures.valid.box in
    omega (arith, within, most)

pub returns-clause-logs : goal.returns-clause-logs
returns-clause-logs g c =
    let sys = c.args.lent.sys.now in
    let before = c.args.self.now.growing in
    let after = c.look-seen.new.self.growing in
    let pick : ClaimsPick sys c.args.spot.site before after c.look-seen.result.picked =
    subst (λ (b : Bool). MatchBool b (ClaimsPick sys c.args.spot.site before after c.look-seen.result.picked) (after ≡ before)) (not-false c.look-seen.result.claims c.if-not-seen.false) c.look-seen.ensures.tells.claims in
    inl (record {
      claim = pick.claim;
      numbers = c.push.ensures.numbers;
      in_order = λ said. let both = c.push.ensures.in_order said in (both.0, pick.attaches both.1);
      sole = λ all was. c.push.ensures.keeps was (pick.sole all);
      clean = λ said. let both = c.push.ensures.clean said in (both.0, c.look-seen.ensures.tells.clean both.1);
    })
