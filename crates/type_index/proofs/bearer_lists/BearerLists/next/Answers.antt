use Rattle.std.proofs.Common.{◌≡◌, ◌<◌, ◌+◌, ◌∙◌, ℕ, ap, arith, get_or, length, subst, sym, zero-le}
use Rattle.std.proofs.lemmas.Grind.{get_or_default_zero}
use Rattle.type_index.specs.Indexes.{IsNextBearer}
use Rattle.type_index.proofs.bearer_lists.BearerLists.next.Goals as goal

pub returns : goal.returns
returns c =
    let next_is = ap (λ l. l.next) c.self.view_is in
    let within : c.args.tile < length c.self.inside.next.items = omega (arith, c.requires.within, c.requires.lists.types, ap length next_is) in
    let Next : ℕ → Type 0 = λ n. IsNextBearer c.args.sys.now c.args.side c.args.glue (c.args.tile + 1) n in
    let read : c.index.result.now ≡ get_or c.args.self.now.next c.args.tile 0 =
    c.index.ensures ∙ get_or_default_zero c.self.inside.next.items c.args.tile c.index.result.now within ∙ ap (λ xs. get_or xs c.args.tile 0) next_is
    in
    subst Next (sym read) (c.requires.lists.next (record { 0 = c.args.tile }) c.args.glue zero-le c.requires.within c.requires.bears)
