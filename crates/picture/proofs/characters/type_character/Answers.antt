use Rattle.std.proofs.Common.{◌≡◌, ◌∙◌, ap, get_or, refl, rules}
use Rattle.picture.specs.declared.characters.TheConstants.{CHARACTERS}
use Rattle.picture.specs.Pictures.{characters}
use Rattle.picture.proofs.characters.type_character.Goals as goal

written : CHARACTERS ≡ characters
unfolding characters
written = refl

pub returns : goal.returns
returns c =
    let read : c.unwrap_or.result ≡ get_or CHARACTERS c.args.tile.0 35 = search rules in
    read ∙ ap (λ l. get_or l c.args.tile.0 35) written
