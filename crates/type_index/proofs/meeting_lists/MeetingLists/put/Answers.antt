use Rattle.std.proofs.Common.{ap, arith, drop, length}
use Rattle.std.proofs.Math.ListN.{drop_of_length-le}
use Rattle.type_index.proofs.Meeting.{begun, glue_known, met_next, met_whole, partner_known, partner_weak}
use Rattle.type_index.proofs.Partnering.{partners_few}
use Rattle.type_index.proofs.meeting_lists.MeetingLists.put.Goals as goal

pub strength-requires-clause-known : goal.strength-requires-clause-known
strength-requires-clause-known c = glue_known c.args.sys.now c.args.tile c.args.side c.args.glue c.recall_valid.ensures.valid c.requires.bears

pub meet-requires-clause-known : goal.meet-requires-clause-known
meet-requires-clause-known c = glue_known c.args.sys.now c.args.tile c.args.side c.args.glue c.recall_valid.ensures.valid c.requires.bears

pub meet-requires-clause-small : goal.meet-requires-clause-small
meet-requires-clause-small c = omega (arith, c.requires.kind, c.recall_valid.ensures.valid.type_count)

pub loop-partner-init : goal.loop-partner-init
loop-partner-init c =
    let sys = c.args.sys.now in
    let partners = c.of-partner-items.result.now in
    let kinds = c.args.glues.now.kinds in
    record {
      lists = begun sys c.args.side kinds c.recall_valid.ensures.valid c.args.tile c.args.glue c.requires.kind c.requires.bears c.strength.result partners c.args.self.now c.meet.new.self c.strength.ensures.value
          (c.of-partner-items.ensures kinds c.requires.partners) c.requires.lists c.in_ok-meet.ensures.puts;
      few = omega (arith, c.meet.ensures.few);
      each = omega (arith, c.meet.ensures.first, c.requires.first);
    }

pub meet-requires-in-loop-partner-clause-known : goal.meet-requires-in-loop-partner-clause-known
meet-requires-in-loop-partner-clause-known c =
    partner_known c.args.sys.now c.args.side c.args.glues.now.kinds c.recall_valid.ensures.valid c.args.tile c.args.glue c.requires.kind c.requires.bears c.of-partner-items.result.now c.loop-partner.partner-index
    (record { glue = record { 0 = 0 }; strength = 0 }) c.loop-partner-test.true c.loop-partner.self c.loop-partner.invariant.lists

pub meet-requires-in-loop-partner-clause-weak : goal.meet-requires-in-loop-partner-clause-weak
meet-requires-in-loop-partner-clause-weak c =
    partner_weak c.args.sys.now c.args.side c.args.glues.now.kinds c.recall_valid.ensures.valid c.args.tile c.args.glue c.requires.kind c.requires.bears c.of-partner-items.result.now c.loop-partner.partner-index
    (record { glue = record { 0 = 0 }; strength = 0 }) c.loop-partner-test.true c.loop-partner.self c.loop-partner.invariant.lists

pub meet-requires-in-loop-partner-clause-few : goal.meet-requires-in-loop-partner-clause-few
meet-requires-in-loop-partner-clause-few c =
    let sys = c.args.sys.now in
    let kinds = c.args.glues.now.kinds in
    let count = ap length (c.of-partner-items.ensures kinds c.requires.partners) in
    omega (arith, c.loop-partner.invariant.few, c.loop-partner-test.true, count, partners_few kinds c.args.glue sys.pairs, c.recall_valid.ensures.valid.pair_count, c.requires.few)

pub returns-in_err-meet-2-clause-few : goal.returns-in_err-meet-2-clause-few
returns-in_err-meet-2-clause-few c =
    let sys = c.args.sys.now in
    let kinds = c.args.glues.now.kinds in
    let count = ap length (c.of-partner-items.ensures kinds c.requires.partners) in
    omega (
      arith,
      c.loop-partner.invariant.few,
      c.meet-in-loop-partner.ensures.few,
      c.loop-partner-test.true,
      count,
      partners_few kinds c.args.glue sys.pairs,
      c.recall_valid.ensures.valid.pair_count,
    )

pub loop-partner-preserved : goal.loop-partner-preserved
loop-partner-preserved c =
    let at = c.loop-partner.invariant in
    record {
      lists = met_next c.args.sys.now c.args.side c.args.glues.now.kinds c.recall_valid.ensures.valid c.args.tile c.args.glue c.requires.kind c.requires.bears c.of-partner-items.result.now c.loop-partner.partner-index
          (record { glue = record { 0 = 0 }; strength = 0 }) c.loop-partner-test.true c.loop-partner.self at.lists c.meet-in-loop-partner.new.self c.in_ok-meet-2.ensures.puts;
      few = omega (arith, at.few, c.meet-in-loop-partner.ensures.few);
      each = omega (arith, at.each, c.meet-in-loop-partner.ensures.first);
    }

pub returns-clause-lists : goal.returns-clause-lists
returns-clause-lists c =
    let left = drop c.loop-partner.partner-index c.of-partner-items.result.now in
    met_whole c.args.sys.now c.args.side c.args.glues.now.kinds c.recall_valid.ensures.valid c.args.tile c.args.glue c.requires.kind c.requires.bears left c.loop-partner.self
    (drop_of_length-le c.of-partner-items.result.now (omega (arith, c.loop-partner-test.false))) c.loop-partner.invariant.lists

pub returns-clause-few : goal.returns-clause-few
returns-clause-few c =
    let sys = c.args.sys.now in
    let kinds = c.args.glues.now.kinds in
    let count = ap length (c.of-partner-items.ensures kinds c.requires.partners) in
    omega (arith, c.loop-partner.invariant.few, c.loop-partner.auto.partner-index-end, count, partners_few kinds c.args.glue sys.pairs, c.recall_valid.ensures.valid.pair_count)
