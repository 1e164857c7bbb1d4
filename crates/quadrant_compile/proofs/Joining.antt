-- Four lists, one behind another.
use Rattle.std.proofs.Common.{◌≡◌, ◌++◌, List, ◌∙◌, append_assoc}

pub joined : {X : Type 0} (a b c d e f g h : List X) → a ≡ e → b ≡ f → c ≡ g → d ≡ h → ((a ++ b) ++ c) ++ d ≡ e ++ (f ++ (g ++ h))
joined a b c d e f g h one two three four =
    append_assoc (a ++ b) c d ∙ append_assoc a b (c ++ d) ∙ (λ z. one z ++ (two z ++ (three z ++ four z)))
