use Rattle.std.proofs.Common.{◌≡◌, ◌+◌, ℕ, List, length, sym, subst, arith}
use Rattle.replay_order.specs.declared.bonds.SideGlues.{SideGlues}
use Rattle.replay_order.specs.Inner.SideGlues.{AreGluesOfFirst}
use Rattle.replay_order.proofs.SideGlues.{glues_push}
use Rattle.replay_order.proofs.bonds.Bonds.make.Goals as goal

pub loop-index-preserved : goal.loop-index-preserved
loop-index-preserved c =
    let sys = c.args.sys.now in
    let index = c.loop-index.index in
    let More : List SideGlues → Type 0 = λ rows. AreGluesOfFirst sys (index + 1) rows in
    subst More (sym {A = List SideGlues} c.in_ok-push.ensures.items) (glues_push sys index c.loop-index.glues.items c.of.result c.loop-index.invariant c.of.ensures)

pub invariant_of-result : goal.invariant_of-result
invariant_of-result c =
    let all : c.loop-index.index ≡ length c.args.sys.now.types = omega (arith, c.loop-index.auto.index-end, c.loop-index-test.false, c.type_count-index-end.ensures.count) in
    let First : ℕ → Type 0 = λ n. AreGluesOfFirst c.args.sys.now n c.loop-index.glues.items in
    subst First all c.loop-index.invariant
