-- What an error of a parse says of the words.
use Rattle.std.proofs.Common.{◌≡◌, ◌∙◌, ap, sym, Result, Err, Bool, true, false, refl, inl, inr, [], ◌∷◌}
use Rattle.clap.specs.Values.{kind_of}
use Rattle.clap.specs.Kinds.{HasKind, Kinds}
use Rattle.clap.specs.declared.error.Error.{Error}
use Rattle.clap.specs.declared.error.kind.ErrorKind.{ErrorKind}
use Rattle.clap.specs.declared.error.kind.ErrorKind.TheVariants.{OutOfMemory}
use Rattle.command_line.specs.declared.words_stop.WordsStop.{WordsStop}
use Rattle.command_line.specs.declared.words_stop.WordsStop.TheVariants.{NoCommand, Usage, NoMemory}
use Rattle.command_line.specs.Commands.{words_stop_of}

-- what is not true is false
pub not_true : (b : Bool) → (b ≡ true → ⊥) → b ≡ false
not_true true no_true = absurd (no_true refl)
not_true false no_true = refl

-- an error that is not want of memory has a kind
pub has_fault : (kinds : Kinds) (error : Error) → HasKind kinds error → (kind_of error ≡ OutOfMemory → ⊥) → kinds ≡ [] → ⊥
has_fault [] error (inl memory) other none = other memory
has_fault [] error (inr among) other none = absurd among
has_fault (k ∷ ks) error has other none = cc

-- a refusal is no want of memory, and names the command
module _ {T : Type 0} (kind error_kind : ErrorKind) (stop : WordsStop) (is : stop ≡ words_stop_of kind) (same : kind ≡ error_kind) where
  abbrev stops : WordsStop → Result T WordsStop
  stops s = Err s

  pub usage_not_memory : stops stop ≡ stops Usage → error_kind ≡ OutOfMemory → ⊥
  usage_not_memory usage memory =
      let refused : stop ≡ Usage = cc in
      let other : NoMemory ≡ Usage = sym (ap words_stop_of (same ∙ memory)) ∙ sym is ∙ refused in
      cc

  pub names_a_command : stops stop ≡ stops NoCommand → ⊥
  names_a_command unnamed =
      let none : stop ≡ NoCommand = cc in
      never kind (sym is ∙ none)
    where
      never : (kind : ErrorKind) → words_stop_of kind ≡ NoCommand → ⊥
      never OutOfMemory is = cc
      never _ is = cc
