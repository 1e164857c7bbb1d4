-- What a parse finds for an argument that has an entry: a text that passed the argument's parser.
use Rattle.std.proofs.Common.{◌≡◌, ◌∙◌, ◌<◌, ◌≤◌, ap, ℕ, Bool, true, false, List, [], ◌∷◌, length, is_some, Option, Some, None, refl, sym, subst, inl, inr, arith, zero, suc}
use Rattle.std.specs.List.{All, slice_index_or}
use Rattle.std.specs.Str.{bytes_eq}
use Rattle.std.specs.Prelude.{find, option_map, slice_get}
use Rattle.std.specs.Borrow.{Bor}
use Rattle.std.proofs.lemmas.Slice.Eq.{bytes_eq-Decides}
use Rattle.std.proofs.lemmas.List.Elements.{All-get_or}
use Rattle.clap.specs.Facts.{args_of, groups_of, Entry, EntryPasses, HasId, HasReading, PassesArg, ValuesPass, WantsDefault, least_values, parser_of, parser_of_value}
use Rattle.clap.specs.Built.{IsAuto, IsParsedFrom, IsPlain, SameRules}
use Rattle.clap.specs.Matches.{first_value, found_of, matched_of, one_text}
use Rattle.clap.specs.Values.{Accepts, read_as, reading_of}
use Rattle.command_line.specs.Inner.Found.{FindsText}
use Rattle.clap.proofs.CallerLemmas.{default_present, entry_by_id, present_has_entry, required_present, same_rules_by_id}
use Rattle.clap.specs.declared.builder.action.ArgAction.TheVariants.{Count, Set}
use Rattle.clap.specs.declared.builder.arg.Arg.{Arg}
use Rattle.clap.specs.declared.builder.command.Command.{Command}
use Rattle.clap.specs.declared.builder.command.Command.TheViews.{out-Command}
use Rattle.clap.specs.declared.builder.value_parser.Reading.{Reading}
use Rattle.clap.specs.declared.builder.value_parser.ValueParser.{ValueParser}
use Rattle.clap.specs.declared.parser.matches.ArgMatches.{ArgMatches}
use Rattle.clap.specs.declared.parser.matches.Found.{Found}
use Rattle.clap.specs.declared.parser.matches.MatchedArg.{MatchedArg}

-- no two arguments of the command have the id of argument k
abbrev pub IsAlone : Command → ℕ → Arg → Type 0
IsAlone c k d = (j : ℕ) (e : Arg) → j < length (args_of c)
    → bytes_eq (slice_index_or (args_of c) j e).id.now (slice_index_or (args_of c) k d).id.now ≡ true → j ≡ k

-- what an argument of a command must be, so that a parse finds a value for it
pub record IsSetOption (c : Command) (k : ℕ) (d : Arg) (q : ValueParser) : Type 0 where
  pub below : k < length (args_of c)
  pub set : (slice_index_or (args_of c) k d).action ≡ Some Set
  pub delim : (slice_index_or (args_of c) k d).val_delim ≡ None
  pub least : 1 ≤ least_values (slice_index_or (args_of c) k d)
  pub alone : IsAlone c k d
  pub named : (slice_index_or (args_of c) k d).id.now ≡ [] → ⊥
  pub own : IsAuto (slice_index_or (args_of c) k d) → ⊥
  pub parser : (slice_index_or (args_of c) k d).value_parser ≡ Some q

-- an entry with an id is found by it
entry_found : (xs : List Entry) (id : List ℕ) (i : ℕ) → i < length xs → ((d : Entry) → bytes_eq (slice_index_or xs i d).0.now id ≡ true)
    → is_some (option_map (λ e. e.1) (find (λ e. bytes_eq e.0.now id) xs)) ≡ true
entry_found [] id i lt is = absurd (omega arith)
entry_found (x ∷ xs) id zero lt is = rw (is x) refl
entry_found (x ∷ xs) id (suc i) lt is = go (bytes_eq x.0.now id) refl (entry_found xs id i (omega arith) is)
  where
    go : (t : Bool) → bytes_eq x.0.now id ≡ t → is_some (option_map (λ e. e.1) (find (λ e. bytes_eq e.0.now id) xs)) ≡ true
        → is_some (option_map (λ e. e.1) (find (λ e. bytes_eq e.0.now id) (x ∷ xs))) ≡ true
    go true t rest = rw t refl
    go false t rest = rw t rest

pub has_entry : (f : Found) (id : List ℕ) → HasId f id → is_some (matched_of f id) ≡ true
has_entry f id h = entry_found f.entries.items id h.0 h.1 h.2

head_passes : (P : Bor (List ℕ) → Type 0) (how : Reading) (vs : List (Bor (List ℕ))) → All P vs
    → is_some (option_map (λ s. s.now) (slice_get vs 0)) ≡ true
    → (v : Bor (List ℕ)) × (option_map (λ s. read_as how s.now) (slice_get vs 0) ≡ Some (read_as how v.now)) × P v
head_passes P how [] h some = cc
head_passes P how (v ∷ vs) h some = (v, refl, All-get_or P (v ∷ vs) 0 v (omega arith) h)

one_text_at_entry : (f : Found) (id : List ℕ) (x : MatchedArg) (how : Reading) (t : List ℕ) → matched_of f id ≡ Some x → x.reading ≡ how
    → option_map (λ s. read_as how s.now) (slice_get x.vals.items 0) ≡ Some t → one_text f id ≡ Some t
one_text_at_entry f id x how t found is v = rw (found, is) v

-- what one entry gives
read_of : (c : Command) (f : Found) (id : List ℕ) (Q : List ℕ → Type 0) (how : Reading) (x : MatchedArg) (e : Entry)
    → groups_of c ≡ [] → (id ≡ [] → ⊥) → ((r : Reading) → HasReading c id r → r ≡ how)
    → ((v : Bor (List ℕ)) → PassesArg c id v.now → Q v.now)
    → matched_of f id ≡ Some x → is_some (option_map (λ s. s.now) (slice_get x.vals.items 0)) ≡ true
    → e.1 ≡ x → e.0.now ≡ id → EntryPasses c e
    → (t : List ℕ) × (one_text f id ≡ Some (read_as how t)) × Q t
read_of c f id Q how x e no_groups named reads read found first same_x key_id pass =
    let no_group : e.1.is_group ≡ true → ⊥ = λ g. elim (pass.3 g) [
      | inl empty ↦ named (sym key_id ∙ empty)
      | inr lots ↦
          let bad : 0 < 0 = rw no_groups at lots in
          absurd (omega arith)
    ] in
    let all : All (λ v. PassesArg c id v.now) x.vals.items = elim pass.0 [
      | inl g ↦ absurd (no_group g)
      | inr vals ↦ subst (λ (w : List ℕ). All (λ v. PassesArg c w v.now) x.vals.items) key_id (rw same_x at vals)
    ] in
    let is : e.1.reading ≡ how = elim pass.4 [
      | inl g ↦ absurd (no_group g)
      | inr h ↦ reads e.1.reading (subst (λ (w : List ℕ). HasReading c w e.1.reading) key_id h)
    ] in
    finish (head_passes (λ v. PassesArg c id v.now) how x.vals.items all first) (ap (λ (y : MatchedArg). y.reading) (sym same_x) ∙ is)
  where
    finish : ((v : Bor (List ℕ)) × (option_map (λ s. read_as how s.now) (slice_get x.vals.items 0) ≡ Some (read_as how v.now)) × PassesArg c id v.now)
        → x.reading ≡ how → (t : List ℕ) × (one_text f id ≡ Some (read_as how t)) × Q t
    finish hd is = (hd.0.now, one_text_at_entry f id x how (read_as how hd.0.now) found is hd.1, read hd.0 hd.2)

-- what the entry of an id gives, where it is an argument's with a first value
entry_read : (c : Command) (f : Found) (id : List ℕ) (Q : List ℕ → Type 0) (how : Reading) → ValuesPass c f → groups_of c ≡ [] → (id ≡ [] → ⊥)
    → is_some (first_value f id) ≡ true → ((r : Reading) → HasReading c id r → r ≡ how)
    → ((v : Bor (List ℕ)) → PassesArg c id v.now → Q v.now)
    → (t : List ℕ) × (one_text f id ≡ Some (read_as how t)) × Q t
entry_read c f id Q how values no_groups named has reads read = go (matched_of f id) refl has
  where
    step : (x : MatchedArg) → matched_of f id ≡ Some x → is_some (option_map (λ s. s.now) (slice_get x.vals.items 0)) ≡ true
        → ((e : Entry) × (e.1 ≡ x) × (bytes_eq e.0.now id ≡ true) × EntryPasses c e)
        → (t : List ℕ) × (one_text f id ≡ Some (read_as how t)) × Q t
    step x found first got =
        read_of c f id Q how x got.0 no_groups named reads read found first got.1 ((bytes_eq-Decides got.0.0.now id).0 got.2) got.3

    go : (o : Option MatchedArg) → matched_of f id ≡ o → is_some (first_value f id) ≡ true → (t : List ℕ) × (one_text f id ≡ Some (read_as how t)) × Q t
    go None e h =
        let bad : false ≡ true = rw e at h in
        cc
    go (Some x) e h = step x e (rw e at h) (entry_by_id (EntryPasses c) f.entries.items id x values e)

first_some : (xs : List (Bor (List ℕ))) → 0 < length xs → is_some (option_map (λ s. s.now) (slice_get xs 0)) ≡ true
first_some [] lt = absurd (omega arith)
first_some (x ∷ xs) lt = refl

accepts_of : (a y : Arg) (q : ValueParser) (t : List ℕ) → SameRules a y → a.value_parser ≡ Some q
    → Accepts y.ignore_case (parser_of y) t → Accepts a.ignore_case q t
accepts_of a y q t s parser read =
    let is_q : parser_of y ≡ q = ap parser_of_value (s.parser q parser) in
    let as_q : Accepts y.ignore_case q t = subst (λ (w : ValueParser). Accepts y.ignore_case w t) is_q read in
    subst (λ (b : Bool). Accepts b q t) s.ignore_case as_q

-- ---- argument k of a command that takes one value, and what a parse makes of it

module _ (c : Command) (m : ArgMatches) (parsed : IsParsedFrom c m) (plain : IsPlain c) (globals : (out-Command c).has_globals ≡ false)
    (k : ℕ) (d : Arg) (q : ValueParser) (o : IsSetOption c k d q) where
  abbrev arg : Arg
  arg = slice_index_or (args_of c) k d

  abbrev id : List ℕ
  id = arg.id.now

  -- an argument of the built command with the id has the rules of the argument
  same_rules : (j : ℕ) (x : Arg) → j < length (args_of parsed.built) → slice_index_or (args_of parsed.built) j x ≡ x → bytes_eq x.id.now id ≡ true → SameRules arg x
  same_rules = same_rules_by_id c m parsed k d o.below o.alone o.own

  -- it is read as the caller's parser says
  only_reading : (r : Reading) → HasReading parsed.built id r → r ≡ reading_of q
  only_reading r any = sym any.4.1 ∙ ap reading_of (ap parser_of_value ((same_rules any.0 any.1 any.2 any.3 any.4.0).parser q o.parser))

  -- and its values pass that parser
  passes_read : (value : List ℕ) → PassesArg parsed.built id value → Accepts arg.ignore_case q value
  passes_read value pass = accepts_of arg pass.1 q value (same_rules pass.0 pass.1 pass.2 pass.3 pass.4.0) o.parser pass.4.1

  -- an entry of the argument has a value
  filled : (x : MatchedArg) (e : Entry) → e.1 ≡ x → e.0.now ≡ id → EntryPasses parsed.built e → is_some (option_map (λ s. s.now) (slice_get x.vals.items 0)) ≡ true
  filled x e same_x key pass =
      elim pass.1 [
        | inl h ↦ elim h.1 [
          | inl empty ↦ absurd (o.named (sym key ∙ empty))
          | inr has ↦
              let bad : 0 < 0 = rw (parsed.from.plain plain).1 at has in
              absurd (omega arith)
        ]
        | inr (inl v) ↦ first_some x.vals.items (rw same_x at v)
        | inr (inr (inl h)) ↦
            let any = h.1 in
            let s = same_rules any.0 any.1 any.2 any.3 (rw key at any.4.0) in
            let is_set : any.1.action ≡ Some Set = s.action Set o.set in
            let bad : Set ≡ Count = rw is_set at any.4.1 in
            cc
        | inr (inr (inr h)) ↦
            let s = same_rules h.0 h.1 h.2 h.3 (rw key at h.4.0) in
            elim h.4.1 [
              | inl none ↦
                  let one = s.least o.set o.least in
                  absurd (omega arith)
              | inr has ↦
                  let bad : false ≡ true = rw (s.val_delim, o.delim) at has in
                  cc
            ]
      ]

  has_value : is_some (matched_of (found_of m) id) ≡ true → is_some (first_value (found_of m) id) ≡ true
  has_value = go (matched_of (found_of m) id) refl
    where
      go : (entry : Option MatchedArg) → matched_of (found_of m) id ≡ entry → is_some (matched_of (found_of m) id) ≡ true → is_some (first_value (found_of m) id) ≡ true
      go None e some = cc
      go (Some x) e some =
          let got = entry_by_id (EntryPasses parsed.built) (found_of m).entries.items id x (parsed.parsed (parsed.from.globals ∙ globals)).values e in
          rw e (filled x got.0 got.1 ((bytes_eq-Decides got.0.0.now id).0 got.2) got.3)

  -- an argument that has an entry has a text that passed its parser
  pub text_found : is_some (matched_of (found_of m) id) ≡ true → FindsText (found_of m) id arg.ignore_case q
  text_found some =
      entry_read parsed.built (found_of m) id (λ (t : List ℕ). Accepts arg.ignore_case q t) (reading_of q)
      (parsed.parsed (parsed.from.globals ∙ globals)).values (parsed.from.plain plain).1 o.named (has_value some)
      only_reading (λ v pass. passes_read v.now pass)

  -- one with a default has one at each parse
  pub default_found : WantsDefault arg → FindsText (found_of m) id arg.ignore_case q
  default_found wants = text_found (has_entry (found_of m) id (default_present c m parsed globals k d o.below wants))

  -- one that is required is used at each parse
  pub required_found : (out-Command c).subcommand_negates_reqs ≡ false → arg.required ≡ true → FindsText (found_of m) id arg.ignore_case q
  required_found negates required = text_found (present_has_entry (found_of m) id (required_present c m parsed plain globals negates k d o.below required))
