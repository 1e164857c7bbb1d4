use Rattle.std.proofs.Common.{◌≡◌, ◌+◌, ◌++◌, [], ◌∷◌, ◌∙◌, ℕ, List, Result, Ok, Some, IfOk, length, length-append, take, ap, sym, subst, arith}
use Rattle.std.proofs.Math.Seq.{take-append_seam}
use Rattle.tile_system.specs.declared.memory.NoMemory.{NoMemory}
use Rattle.grow_workers.specs.declared.leavings.Part.{Part}
use Rattle.grow_workers.specs.Inner.Rounds.{IsFar}
use Rattle.grow_workers.specs.Inner.Sharing.{IsSeenPart}
use Rattle.grow_workers.proofs.Joined.{IsJoined, joined_all, joined_first, joined_more, last_fact, popped, prefix_less, rest_fact}
use Rattle.grow_workers.proofs.joining.join.Goals as goal

pub loop-part-init : goal.loop-part-init
loop-part-init g c =
    let shared = c.args.shared.now in
    let done = c.args.done.items in
    let left = c.pop.new.self.items in
    let part : Part = c.in_ok-first.first in
    let last : done ≡ left ++ Ok part ∷ [] = popped done left c.pop.result (Ok part) c.pop.ensures.items (c.unwrap.ensures ∙ ap Some c.in_ok-first.was) in
    let Seen : Result Part NoMemory → Type 0 = λ d. IfOk d (IsSeenPart shared) in
    let all = ap length last in
    let both = length-append left (Ok part ∷ []) in
    let none = ap length c.new.ensures.items in
    record {
      left = sym (ap (take (length left)) last ∙ take-append_seam left (Ok part ∷ []));
      count = omega (arith, all, both, none);
      each = rest_fact Seen done left (Ok part) last c.requires.each;
      part = last_fact Seen done left (Ok part) last c.requires.each;
      far = λ n all. last_fact (λ (d : Result Part NoMemory). IfOk d (λ p. IsFar shared.sys.now n p.grid)) done left (Ok part) last all;
      grew = λ old grid starts is are works. subst (λ (others : List ℕ). IsJoined shared old grid starts (length left) part.seat part.grid part.won others) (sym c.new.ensures.items)
          (joined_first shared old grid starts done left part last are works);
    }

pub join_part-requires-clause-second : goal.join_part-requires-clause-second
join_part-requires-clause-second g c κs within =
    let shared = c.args.shared.now in
    let new = c.pop-in-loop-part.new.self.items in
    let part : Part = c.in_ok-part.field-0 in
    let Seen : Result Part NoMemory → Type 0 = λ d. IfOk d (IsSeenPart shared) in
    let last : c.loop-part.left.items ≡ new ++ Ok part ∷ [] = c.in-Some.ensures.items ∙ ap (λ r. new ++ r ∷ []) c.in_ok-part.was in
    (last_fact Seen c.loop-part.left.items new (Ok part) last c.loop-part.invariant.each).seen

pub loop-part-preserved : goal.loop-part-preserved
loop-part-preserved g c =
    let shared = c.args.shared.now in
    let inv = c.loop-part.invariant in
    let done = c.args.done.items in
    let left = c.loop-part.left.items in
    let new = c.pop-in-loop-part.new.self.items in
    let part : Part = c.in_ok-part.field-0 in
    let before = c.loop-part.team in
    let after = c.in_ok-team.team in
    let last : left ≡ new ++ Ok part ∷ [] = c.in-Some.ensures.items ∙ ap (λ r. new ++ r ∷ []) c.in_ok-part.was in
    let Seen : Result Part NoMemory → Type 0 = λ d. IfOk d (IsSeenPart shared) in
    let long : length left ≡ length new + 1 = ap length last ∙ length-append new (Ok part ∷ []) in
    let count = inv.count in
    let one = c.in_ok-team.ensures.count in
    record {
      left = prefix_less done left new (Ok part) inv.left last;
      count = omega (arith, count, one, long);
      each = rest_fact Seen left new (Ok part) last inv.each;
      part = c.in_ok-team.ensures.part;
      far = λ n all. c.in_ok-team.ensures.far n (inv.far n all);
      grew = λ old grid starts is are works.
          joined_more shared old grid starts done new part before.part.seat after.part.seat before.part.grid after.part.grid before.part.won after.part.won before.others.items after.others.items
          (sym last ∙ (inv.left ∙ ap (λ n. take n done) long)) (omega (arith, count, long)) is are works c.in_ok-team.ensures.grew
          (subst (λ n. IsJoined shared old grid starts n before.part.seat before.part.grid before.part.won before.others.items) long (inv.grew old grid starts is are works));
    }

pub returns-clause-grew : goal.returns-clause-grew
returns-clause-grew g c old grid starts is are works =
    let team = c.loop-part.team in
    let left = c.loop-part.left.items in
    let none = c.in_default.ensures.cases.0 in
    joined_all c.args.shared.now old grid starts (length left) team.part.seat team.part.grid team.part.won team.others.items (sym c.loop-part.left.ok.0 ∙ none) (c.loop-part.invariant.grew old grid starts is are works)

pub returns-clause-far : goal.returns-clause-far
returns-clause-far g c n all = c.loop-part.invariant.far n all
