use Rattle.std.proofs.Common.{◌-◌, ◌^◌, sym, subst, lit≤}
use Rattle.std.proofs.lemmas.Nat.Bits.{bit_at_ones}
use Rattle.grow_core.specs.Core.{Owns, least, greatest}
use Rattle.grow_core.proofs.Numbers.{top, greatest-owned, most, left-owned, left-other, left-owns, alone, owns_itself, both-owned, either-owns, least-owned, least-most, two-numbers}
use Rattle.grow_core.proofs.Listed.{owned-below}
use Rattle.grow_core.proofs.laws.law_numbers.Goals as goal

pub returns-clause-name : goal.returns-clause-name
returns-clause-name c owned some small = ((least-owned owned some small).1, least-most owned some small)

pub returns-clause-given : goal.returns-clause-given
returns-clause-given c owned some small = (greatest-owned owned (top owned some small), most owned (top owned some small))

pub returns-clause-two : goal.returns-clause-two
returns-clause-two c owned some small = (
  (λ two. (least owned, greatest owned, two, (least-owned owned some small).1, greatest-owned owned (top owned some small))),
  (λ two. two-numbers owned two.0 two.1 some small two.2 two.3 two.4),
)

pub returns-clause-others : goal.returns-clause-others
returns-clause-others c owned n some small = (
  (λ own. (left-owned owned (top owned some small) n own, left-other owned (top owned some small) n own)),
  (λ own. left-owns owned (top owned some small) n own.0 own.1),
)

pub returns-clause-alone : goal.returns-clause-alone
returns-clause-alone c owned n some small = (
  alone owned (top owned some small) n,
  (λ e. subst (Owns (2 ^ greatest owned)) (sym e) (owns_itself owned (top owned some small))),
)

pub returns-clause-both : goal.returns-clause-both
returns-clause-both c a b n = (both-owned a b n, either-owns a b n)

pub returns-clause-all : goal.returns-clause-all
returns-clause-all c n = (owned-below (2 ^ 64 - 1) n (lit≤ tt), (λ l. bit_at_ones 64 n l))
