use Rattle.std.proofs.Common.{◌≡◌, ◌<◌, ◌+◌, ◌*◌, ◌%◌, [], ◌∷◌, ◌++◌, take, decimal, append_assoc, refl, ap, ◌∙◌, arith}
use Rattle.cert_text.proofs.rank_text.RankText.hold.Goals as goal

pub returns : goal.returns
returns c =
    let held = c.args.chunk.now in
    let kept = c.turn_to.new.self in
    let front = take kept.len kept.text in
    let less : c.args.rank % 10 < 10 = omega arith in
    let whole : 10 * c.turn_to.new.self.tens + c.args.rank % 10 ≡ c.args.rank = omega (arith, c.turn_to.ensures) in
    let spelled : front ++ (48 + c.args.rank % 10) ∷ [] ≡ decimal c.args.rank = kept.spelled (c.args.rank % 10) less ∙ ap decimal whole in
    let added : c.hold_front-2.new.self ≡ (held ++ front) ++ (48 + c.args.rank % 10) ∷ 10 ∷ [] = rw (c.hold_front-2.ensures.bytes, c.hold_front.ensures.bytes) refl in
    let behind : (held ++ front) ++ (48 + c.args.rank % 10) ∷ 10 ∷ [] ≡ (held ++ (front ++ (48 + c.args.rank % 10) ∷ [])) ++ 10 ∷ [] = simp append_assoc refl in
    added ∙ behind ∙ ap (λ l. (held ++ l) ++ 10 ∷ []) spelled
