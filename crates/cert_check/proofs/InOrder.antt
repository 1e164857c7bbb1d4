-- The entries of places in an order.
use Rattle.std.proofs.Common.{◌≡◌, ◌<◌, ◌+◌, ◌++◌, ◌∷◌, [], ◌∙◌, ℕ, List, map, length, get_or, Some, slice_get, All, refl, sym, ap, inl, inr, arith}
use Rattle.std.specs.List.{enumerate_from, zip}
use Rattle.std.proofs.lemmas.List.{length-map}
use Rattle.std.proofs.lemmas.List.FromFn.{length-enumerate_from, get_or-enumerate_from}
use Rattle.std.proofs.lemmas.Option.{same_Some, slice_get-map, slice_get-get_or, slice_get_within, get_or_from_slice_get}
use Rattle.std.proofs.lemmas.Simd.{map-map}
use Rattle.std.proofs.lemmas.Slice.Zip.{firsts-zip, get_or-zip}
use Rattle.atam.specs.declared.site.Side.TheVariants.{North, East, South, West}
use Rattle.atam.specs.declared.place.Place.{Place}
use Rattle.atam.specs.TileSystem.{TileSystem}
use Rattle.atam.proofs.Lists.{All-slice_get, push_cases}
use Rattle.local_check.specs.SideSets.{SideTable, AreSidesOf, input_at}
use Rattle.cert_check.specs.declared.entry.Entry.{Entry}
use Rattle.cert_check.specs.Certificates.{entries_in_order, places_of, IsCertificateOf}
use Rattle.cert_check.specs.Inner.Bits.{bits}
use Rattle.cert_check.proofs.Listed.{last_index, states-bits}

-- elements beside their indices
enumerated : {X Y : Type 0} (f : X → Y) (n : ℕ) (xs : List X) → map (λ (e : ℕ × X). f e.1) (enumerate_from n xs) ≡ map f xs
enumerated f n [] = refl
enumerated f n (x ∷ xs) = ap (λ l. f x ∷ l) (enumerated f (n + 1) xs)

module _ (order : List Place) (sides : List ℕ) (count : length sides ≡ length order) where
  pub in_order-places : places_of (entries_in_order order sides) ≡ order
  unfolding entries_in_order
  in_order-places =
      let made : ℕ × (Place × ℕ) → Entry = λ e. record { place = e.1.0; sides = e.1.1; rank = e.0 } in
      map-map (λ (e : Entry). e.place) made (enumerate_from 0 (zip order sides))
      ∙ enumerated (λ (p : Place × ℕ). p.0) 0 (zip order sides) ∙ firsts-zip order sides count

  pub in_order-length : length (entries_in_order order sides) ≡ length order
  in_order-length = sym (length-map (entries_in_order order sides) (λ (e : Entry). e.place)) ∙ ap length in_order-places

  -- an index of them is one of a place
  pub in_order-within : (c : List Entry) → entries_in_order order sides ≡ c → (i : ℕ) → i < length c → i < length order
  in_order-within c same i within = let all = sym (ap length same) ∙ in_order-length in omega (arith, within, all)

  -- that of the place at an index
  pub in_order-at : (i : ℕ) (p : Place) (s : ℕ) → slice_get order i ≡ Some p → slice_get sides i ≡ Some s →
      slice_get (entries_in_order order sides) i ≡ Some (record { place = p; sides = s; rank = i })
  unfolding entries_in_order
  in_order-at i p s place_there sides_there =
      let made : ℕ × (Place × ℕ) → Entry = λ e. record { place = e.1.0; sides = e.1.1; rank = e.0 } in
      let both = zip order sides in
      let within : i < length order = slice_get_within order i p place_there in
      let all : length (map made (enumerate_from 0 both)) ≡ length order = in_order-length in
      let long : length (map made (enumerate_from 0 both)) ≡ length (enumerate_from 0 both) = length-map (enumerate_from 0 both) made in
      let same : length (enumerate_from 0 both) ≡ length both = length-enumerate_from 0 both in
      let there : slice_get (enumerate_from 0 both) i ≡ Some (get_or (enumerate_from 0 both) i (0, (p, s))) = slice_get-get_or (enumerate_from 0 both) i (0, (p, s)) (omega (arith, within, all, long)) in
      let is = get_or-enumerate_from 0 both i (0, (p, s)) (omega (arith, within, all, long, same)) in
      let pair = get_or-zip order sides i (p, s) within (omega (arith, within, count)) in
      let place_is = get_or_from_slice_get order i p p place_there in
      let sides_are = get_or_from_slice_get sides i s s sides_there in
      let index : 0 + i ≡ i = omega arith in
      slice_get-map made (enumerate_from 0 both) i ∙ rw (there, is, pair, place_is, sides_are) (ap (λ n. Some (record { place = p; sides = s; rank = n })) index)

  -- and what the entry at an index is
  pub record IsInOrder (i : ℕ) (e : Entry) : Type 0 where
    pub place : slice_get order i ≡ Some e.place
    pub stated : slice_get sides i ≡ Some e.sides
    pub rank : e.rank ≡ i

  pub in_order-is : (i : ℕ) (e : Entry) → slice_get (entries_in_order order sides) i ≡ Some e → IsInOrder i e
  in_order-is i e there =
      let within : i < length (entries_in_order order sides) = slice_get_within (entries_in_order order sides) i e there in
      let all = in_order-length in
      let p = get_or order i e.place in
      let s = get_or sides i e.sides in
      let place_there : slice_get order i ≡ Some p = slice_get-get_or order i e.place (omega (arith, within, all)) in
      let sides_there : slice_get sides i ≡ Some s = slice_get-get_or sides i e.sides (omega (arith, within, all, count)) in
      let x : Entry = record { place = p; sides = s; rank = i } in
      let one : x ≡ e = same_Some x e (sym (in_order-at i p s place_there sides_there) ∙ there) in
      record {
        place = place_there ∙ ap (λ (f : Entry). Some f.place) one;
        stated = sides_there ∙ ap (λ (f : Entry). Some f.sides) one;
        rank = ap (λ (f : Entry). f.rank) (sym one);
      }

  -- they state no sides but those that are kept
  pub in_order-small : All (λ s. s < 16) sides → All (λ e. e.sides < 16) (entries_in_order order sides)
  in_order-small small k d within =
      let entries = entries_in_order order sides in
      let is = in_order-is k (get_or entries k d) (slice_get-get_or entries k d within) in
      All-slice_get (λ s. s < 16) sides k (get_or entries k d).sides small is.stated

-- the sides that are kept are the input sides of a table, as bits
pub record AreInputBits (table : SideTable) (sides : List ℕ) : Type 0 where
  pub each : (i s : ℕ) → slice_get sides i ≡ Some s → s ≡ bits (input_at table i North) (input_at table i East) (input_at table i South) (input_at table i West)

pub input_bits-more : (table : SideTable) (sides : List ℕ) (i s : ℕ) → length sides ≡ i → AreInputBits table sides →
    s ≡ bits (input_at table i North) (input_at table i East) (input_at table i South) (input_at table i West) → AreInputBits table (sides ++ s ∷ [])
input_bits-more table sides i s count before is = record {
  each = λ k t there. elim (push_cases sides s k t there) [
    | inl old ↦ before.each k t old.0
    | inr new ↦
        let index : k ≡ i = last_index sides s k t there new.1 ∙ count in
        let of_index : ℕ → ℕ = λ j. bits (input_at table j North) (input_at table j East) (input_at table j South) (input_at table j West) in
        sym new.0 ∙ is ∙ ap of_index (sym index)
  ];
}

-- so the entries are the certificate
pub in_order-certificate : (sys : TileSystem) (order : List Place) (sides : List ℕ) (table : SideTable) → length sides ≡ length order → AreSidesOf sys order table →
    AreInputBits table sides → IsCertificateOf sys order (entries_in_order order sides)
in_order-certificate sys order sides table count of_order inputs = record {
  places = in_order-places order sides count;
  sides = λ i e d there.
      let is = in_order-is order sides count i e there in
      let within : i < length order = slice_get_within order i e.place is.place in
      states-bits e.place e.sides e.rank (input_at table i) (inputs.each i e.sides is.stated) d ∙ of_order.inputs i d within;
  ranks = λ i e there. (in_order-is order sides count i e there).rank;
}
