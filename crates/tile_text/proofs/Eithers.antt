-- A text of either version reads as one system, or has one fault.
use Rattle.std.proofs.Common.{◌≡◌, ◌≢◌, ◌⊎◌, ℕ, List, inl, inr, refl, subst}
use Rattle.tile_io.specs.declared.fault.Cause.{Cause}
use Rattle.tile_io.specs.declared.fault.Cause.TheVariants as causes
use Rattle.tile_io.specs.declared.fault.Cause.TheVariants.{NoHeader}
use Rattle.tile_io.specs.declared.mark.Mark.{Mark}
use Rattle.tile_io.specs.Formats.{IsRead, IsFaulty, Fault, Reads}
use Rattle.tile_io.proofs.Laws.{read_or_faulty, not_both, fails_once}
use Rattle.atam.specs.TileSystem.{TileSystem, IsValid}
use Rattle.tile_text.specs.declared.version.Version.TheVariants.{One, Two}
use Rattle.tile_text.specs.SystemText.{SystemItem, HasOtherHeader, ReadsVersion, ReadsAny, FaultAny, IsReadAny, IsFaultyAny, system_format, system_items}
use Rattle.tile_text.proofs.OneSystem.{reads_one_system, version_valid}
use Rattle.tile_text.proofs.Valid.{reads_valid}

-- whether a cause is a missing header
is_header : (cause : Cause) → (cause ≡ NoHeader) ⊎ (cause ≢ NoHeader)
is_header causes.NoHeader = inl refl
is_header causes.BadLine = inr (λ no. cc no)
is_header causes.BadName = inr (λ no. cc no)
is_header causes.BadNumber = inr (λ no. cc no)
is_header causes.OutOfRange = inr (λ no. cc no)
is_header causes.DoubleName = inr (λ no. cc no)
is_header causes.UnknownName = inr (λ no. cc no)
is_header causes.OutOfOrder = inr (λ no. cc no)
is_header causes.SeedOutside = inr (λ no. cc no)
is_header causes.TooMany = inr (λ no. cc no)
is_header causes.LineTooLong = inr (λ no. cc no)
is_header causes.NoEnd = inr (λ no. cc no)
is_header causes.TooLong = inr (λ no. cc no)
is_header causes.OutsideBox = inr (λ no. cc no)
is_header causes.AfterEnd = inr (λ no. cc no)
is_header causes.DoubleSite = inr (λ no. cc no)

-- Of version 2, where version 1 has another header.
second : (text : List ℕ) (from : Mark) → HasOtherHeader text from → IsRead (system_format Two) text from ⊎ IsFaulty (system_format Two) text from → IsReadAny text from ⊎ IsFaultyAny text from
second text from header (inl (items, to, reads)) =
    let valid = reads_valid Two text from to items reads in
    let Read : List SystemItem → Type 0 = λ l. Reads (system_format Two) text from l to in
    inl (valid.0, to, inr (header, subst Read valid.1 reads))
second text from header (inr (number, cause, fault)) = inr (number, cause, inr (header, fault))

other_cause : (text : List ℕ) (from : Mark) (number : ℕ) (cause : Cause) → Fault (system_format One) text from number cause → (cause ≡ NoHeader) ⊎ (cause ≢ NoHeader) → IsReadAny text from ⊎ IsFaultyAny text from
other_cause text from number cause fault (inl is) =
    let Fails : Cause → Type 0 = λ c. Fault (system_format One) text from number c in
    second text from (number, subst Fails is fault) (read_or_faulty (system_format Two) text from)
other_cause text from number cause fault (inr other) = inr (number, cause, inl (fault, other))

first : (text : List ℕ) (from : Mark) → IsRead (system_format One) text from ⊎ IsFaulty (system_format One) text from → IsReadAny text from ⊎ IsFaultyAny text from
first text from (inl (items, to, reads)) =
    let valid = reads_valid One text from to items reads in
    let Read : List SystemItem → Type 0 = λ l. Reads (system_format One) text from l to in
    inl (valid.0, to, inl (subst Read valid.1 reads))
first text from (inr (number, cause, fault)) = other_cause text from number cause fault (is_header cause)

pub any_one : (text : List ℕ) (from : Mark) → IsReadAny text from ⊎ IsFaultyAny text from
any_one text from = first text from (read_or_faulty (system_format One) text from)

-- a text that reads by version 1 has its header
own_header : (text : List ℕ) (from to : Mark) (sys : TileSystem) → ReadsVersion One text from sys to → HasOtherHeader text from → ⊥
own_header text from to sys reads (number, fault) = not_both (system_format One) text from (system_items sys) to number NoHeader reads fault

pub any_not_both : (text : List ℕ) (from to : Mark) (sys : TileSystem) (number : ℕ) (cause : Cause) → ReadsAny text from sys to → FaultAny text from number cause → ⊥
any_not_both text from to sys number cause (inl reads) (inl (fault, other)) = not_both (system_format One) text from (system_items sys) to number cause reads fault
any_not_both text from to sys number cause (inl reads) (inr (header, fault)) = own_header text from to sys reads header
any_not_both text from to sys number cause (inr ((at, header), reads)) (inl (fault, other)) = other (fails_once (system_format One) text from number at cause NoHeader fault header).1
any_not_both text from to sys number cause (inr (header, reads)) (inr (again, fault)) = not_both (system_format Two) text from (system_items sys) to number cause reads fault

pub any_one_system : (text : List ℕ) (from s t : Mark) (sys other : TileSystem) → ReadsAny text from sys s → ReadsAny text from other t → (sys ≡ other) × (s ≡ t)
any_one_system text from s t sys other (inl a) (inl b) = reads_one_system One text from s t sys other a b
any_one_system text from s t sys other (inl a) (inr (header, b)) = absurd (own_header text from s sys a header)
any_one_system text from s t sys other (inr (header, a)) (inl b) = absurd (own_header text from t other b header)
any_one_system text from s t sys other (inr (header, a)) (inr (again, b)) = reads_one_system Two text from s t sys other a b

pub any_one_fault : (text : List ℕ) (from : Mark) (m n : ℕ) (a b : Cause) → FaultAny text from m a → FaultAny text from n b → (m ≡ n) × (a ≡ b)
any_one_fault text from m n a b (inl (one, other)) (inl (two, again)) = fails_once (system_format One) text from m n a b one two
any_one_fault text from m n a b (inl (one, other)) (inr ((at, header), two)) = absurd (other (fails_once (system_format One) text from m at a NoHeader one header).1)
any_one_fault text from m n a b (inr ((at, header), one)) (inl (two, other)) = absurd (other (fails_once (system_format One) text from n at b NoHeader two header).1)
any_one_fault text from m n a b (inr (header, one)) (inr (again, two)) = fails_once (system_format Two) text from m n a b one two

pub any_valid : (text : List ℕ) (from to : Mark) (sys : TileSystem) → ReadsAny text from sys to → IsValid sys
any_valid text from to sys (inl reads) = version_valid One text from to sys reads
any_valid text from to sys (inr (header, reads)) = version_valid Two text from to sys reads
