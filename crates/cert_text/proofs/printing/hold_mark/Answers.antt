use Rattle.std.proofs.Common.{◌≡◌, [], ◌∷◌, ◌++◌, codes, decimal, append_assoc, refl, ◌∙◌, arith}
use Rattle.std.proofs.lemmas.Int.{ints, to_z-of_z}
use Rattle.std.specs.Fmt.{signed_decimal}
use Rattle.atam.specs.TileSystem.{type_name}
use Rattle.cert_text.proofs.SidesWords.{sides_word}
use Rattle.cert_text.proofs.printing.hold_mark.Goals as goal

pub returns : goal.returns
returns c =
    let held = c.args.chunk.now in
    let entry = c.args.entry in
    let x = signed_decimal entry.place.site.x in
    let y = signed_decimal entry.place.site.y in
    let name = type_name c.args.sys.now entry.place.tile in
    let sides = sides_word entry.sides in
    let rank = decimal entry.rank in
    let k : c.hold-3.new.chunk ≡ (((((((((held ++ codes "mark ") ++ x) ++ 32 ∷ []) ++ y) ++ 32 ∷ []) ++ name) ++ 32 ∷ []) ++ (sides ++ 32 ∷ [])) ++ rank) ++ 10 ∷ [] =
    rw (c.hold-3.ensures, c.hold_front-3.ensures.bytes, c.sides_text-sides_len.ensures.text, c.hold_front-2.ensures.bytes, c.hold_type_name.ensures.bytes, c.hold-2.ensures.bytes, c.hold.ensures.bytes, c.hold_front.ensures.bytes) (grind (arith, ints, to_z-of_z))
    in
    k ∙ simp append_assoc refl
