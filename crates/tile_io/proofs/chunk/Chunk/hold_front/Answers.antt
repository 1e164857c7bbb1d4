use Rattle.std.proofs.Common.{◌≡◌, ◌≤◌, ℕ, ◌+◌, List, ◌++◌, length, take, ap, ◌∙◌, sym, arith}
use Rattle.std.proofs.lemmas.List.{take-append-le, length-take-le}
use Rattle.std.proofs.Math.Seq.{take-append-add}
use Rattle.tile_io.proofs.chunk.Chunk.hold_front.Goals as goal

-- a front of what follows the first bytes
take_past : (bytes front behind : List ℕ) (start len : ℕ) → start ≤ length bytes → len ≤ length front →
    take (start + len) (take start bytes ++ (front ++ behind)) ≡ take start bytes ++ take len front
take_past bytes front behind start len within short =
    let held = take start bytes in
    ap (λ n. take (n + len) (held ++ (front ++ behind))) (sym (length-take-le start bytes within))
    ∙ take-append-add held (front ++ behind) len ∙ ap (λ l. held ++ l) (take-append-le len front behind short)

pub returns-clause-bytes : goal.returns-clause-bytes
returns-clause-bytes g c =
    let text = c.args.text.now in
    let len = c.args.len in
    let within : c.self.inside.len ≤ length c.self.inside.bytes = omega (arith, c.self.invariant, c.self.told) in
    let short : len ≤ length text = omega (arith, c.requires.within, c.told-text) in
    rw c.copy_from_slice.ensures.after (take_past c.self.inside.bytes text _ c.self.inside.len len within short ∙ ap (λ l. l ++ take len text) c.self.view_is)
