-- The sum of the costs is a number of eight bytes.
use Rattle.std.proofs.Common.{◌≡◌, ℕ, zero, suc, ◌+◌, ◌*◌, ◌≤◌, ◌^◌, List, [], ◌∷◌, length, length-take, take, refl, ap, sym, ◌∙◌, subst, arith, Bool, true, false, Option, None, Some}
use Rattle.std.specs.Prelude.{◌==◌, ◌&&◌, nat_le, not, if◌then◌else◌}
use Rattle.std.specs.List.{cons_option, filter_map, sum_by}
use Rattle.std.specs.Option.{option_and_then, option_map}
use Rattle.std.proofs.lemmas.Bool.{and_parts, eqb-true}
use Rattle.std.proofs.lemmas.Bool.Decides.{nat_tests}
use Rattle.std.proofs.lemmas.List.Sums.{sum_by-cons}
use Rattle.spec_image.specs.Bytes.{range_at}
use Rattle.spec_image.specs.Image.{External, Image, byte, length_of}
use Rattle.spec_image.proofs.Words.{length-range}
use Rattle.spec_format.specs.Address.{external, external_number, kind_of, place}
use Rattle.spec_format.specs.BlockFiles.{stands_in}
use Rattle.spec_format.specs.Records.{child}
use Rattle.spec_format.specs.Storage.{is_storage}
use Rattle.spec_folder.specs.Entries.{is_key_length, longest_key_with, stored_key, stored_stream, stored_streams}
use Rattle.spec_folder.specs.Found.{charge_of}
use Rattle.spec_folder.specs.Layout.{order, rule_of}
use Rattle.spec_folder.specs.Loads.{Loaded}
use Rattle.spec_folder.specs.View.{RecordFields, address_of, block_bytes, data_size_of, key_place_at, store_of, stored_at}
use Rattle.law_folder.proofs.walks.Loads.{load-then}
use Rattle.law_state.specs.CounterLaws.{ChargesAreSmall}

none-some : {A : Type 0} {x : A} → ◌≡◌ {A = Option A} None (Some x) → ⊥
none-some e = cc

-- stored data has its size
pub stored-length : (image : Image) (size w : ℕ) (bytes : List ℕ) → stored_at image size w ≡ Some bytes → length bytes ≡ size
unfolding stored_at
stored-length image size w bytes e = go (is_storage size w) (size == 0) refl (stands_in image w) (kind_of w == external) (length_of image (External (external_number w)) == size) e where
  ranged : (f : ℕ → ℕ) (at : ℕ) → Some (range_at f at size) ≡ Some bytes → length bytes ≡ size
  ranged f at h = let same : range_at f at size ≡ bytes = cc in sym (ap length same) ∙ length-range size at f

  go : (a b : Bool) → (size == 0) ≡ b → (c d x : Bool)
      → (if not a then None else if b then Some [] else if not c then None else if d then (if x then Some (range_at (byte image (External (external_number w))) 0 size) else None) else Some (range_at (block_bytes image w) (place w) size)) ≡ Some bytes → length bytes ≡ size
  go false b is c d x h = absurd (none-some h)
  go true true is c d x h = let same : [] ≡ bytes = cc in sym (ap length same) ∙ sym (eqb-true size 0 is)
  go true false is false d x h = absurd (none-some h)
  go true false is true true true h = ranged (byte image (External (external_number w))) 0 h
  go true false is true true false h = absurd (none-some h)
  go true false is true false x h = ranged (block_bytes image w) (place w) h

-- a key is as long as its record says at most, and so as a name
said-few : (contents : ℕ) (e : RecordFields) → is_key_length contents e ≡ true → e.key_len ≤ 32796
unfolding is_key_length
said-few contents e is = go (e.flags == child) (and_parts _ _ (and_parts _ _ is).0).1 where
  go : (t : Bool) → nat_le e.key_len (if t then 32796 else 32768) ≡ true → e.key_len ≤ 32796
  go true h = grind (arith, nat_tests)
  go false h = grind (arith, nat_tests)

key-few : (image : Image) (w : ℕ) (e : RecordFields) (key : List ℕ) → stored_key (store_of image) w e ≡ Some key → length key ≤ e.key_len
unfolding stored_key store_of key_place_at
key-few image w e key is = by (nat_le e.key_len 927) (e.long_key == 0) is where
  long : (o : Option (List ℕ)) → option_map (take e.key_len) o ≡ Some key → length key ≤ e.key_len
  long None h = absurd (none-some h)
  long (Some bytes) h =
      let taken = length-take e.key_len bytes in
      let same : take e.key_len bytes ≡ key = cc in
      let long : length key ≡ length (take e.key_len bytes) = sym (ap length same) in omega (arith, long, taken)

  by : (t z : Bool) → (if t then (if z then Some (range_at (block_bytes image w) (place w + 96) e.key_len) else None) else option_map (take e.key_len) (stored_at image (e.key_len + 1) e.long_key)) ≡ Some key → length key ≤ e.key_len
  by true true h =
      let same : range_at (block_bytes image w) (place w + 96) e.key_len ≡ key = cc in
      let long : length key ≡ e.key_len = sym (ap length same) ∙ length-range e.key_len (place w + 96) (block_bytes image w) in omega (arith, long)
  by true false h = absurd (none-some h)
  by false z h = long (stored_at image (e.key_len + 1) e.long_key) h

-- a stream is short enough
stream-few : (image : Image) (e : RecordFields) (i : ℕ) (bytes : List ℕ) → stored_stream (store_of image) e i ≡ Some bytes → length bytes ≤ 2147483647
unfolding stored_stream store_of
stream-few image e i bytes is = go (nat_le (data_size_of e i) 2147483647) refl is where
  go : (b : Bool) → nat_le (data_size_of e i) 2147483647 ≡ b → (if b then stored_at image (data_size_of e i) (address_of e i) else None) ≡ Some bytes → length bytes ≤ 2147483647
  go true small h = let long = stored-length image (data_size_of e i) (address_of e i) bytes h in subst (λ (n : ℕ). n ≤ 2147483647) (sym long) (grind (arith, nat_tests))
  go false small h = absurd (none-some h)

streams-few : (image : Image) (e : RecordFields) (streams : List (List ℕ)) → stored_streams (store_of image) e ≡ Some streams → sum_by length streams ≤ 3 * 2147483647
unfolding stored_streams
streams-few image e streams is = go ((data_size_of e 3 == 0) && (address_of e 3 == 0)) (stored_stream (store_of image) e 0) (stored_stream (store_of image) e 1) (stored_stream (store_of image) e 2) refl refl refl is where
  go : (b : Bool) (s0 s1 s2 : Option (List ℕ)) → stored_stream (store_of image) e 0 ≡ s0 → stored_stream (store_of image) e 1 ≡ s1 → stored_stream (store_of image) e 2 ≡ s2
      → (if not b then None else option_and_then (λ first. option_and_then (λ second. option_map (λ third. first ∷ second ∷ third ∷ []) s2) s1) s0) ≡ Some streams → sum_by length streams ≤ 3 * 2147483647
  go false s0 s1 s2 e0 e1 e2 h = absurd (none-some h)
  go true None s1 s2 e0 e1 e2 h = absurd (none-some h)
  go true (Some a) None s2 e0 e1 e2 h = absurd (none-some h)
  go true (Some a) (Some b) None e0 e1 e2 h = absurd (none-some h)
  go true (Some a) (Some b) (Some c) e0 e1 e2 h =
      let same : a ∷ b ∷ c ∷ [] ≡ streams = cc in
      let first : length a ≤ 2147483647 = stream-few image e 0 a e0 in
      let second : length b ≤ 2147483647 = stream-few image e 1 b e1 in
      let third : length c ≤ 2147483647 = stream-few image e 2 c e2 in
      subst (λ (l : List (List ℕ)). sum_by length l ≤ 3 * 2147483647) same (let sum : sum_by length (a ∷ b ∷ c ∷ []) ≤ 3 * 2147483647 = omega (arith, first, second, third) in sum)

-- the costs of some nodes sum to at most their number times a part's name and three streams, 32796 + 3 * 2147483647
one-more : (o : Option Loaded) (ls : List Loaded) (n : ℕ) → ((l : Loaded) → o ≡ Some l → charge_of l ≤ 6442483737) → sum_by charge_of ls ≤ n * 6442483737 → sum_by charge_of (cons_option o ls) ≤ suc n * 6442483737
one-more None ls n each rest = omega (arith, rest)
one-more (Some l) ls n each rest = let one = each l refl in subst (λ (s : ℕ). s ≤ suc n * 6442483737) (sym (sum_by-cons charge_of l ls)) (omega (arith, one, rest))

sum-few : (at : ℕ → Option Loaded) → ((node : ℕ) (l : Loaded) → at node ≡ Some l → charge_of l ≤ 6442483737) → (nodes : List ℕ) → sum_by charge_of (filter_map at nodes) ≤ length nodes * 6442483737
sum-few at each [] = omega arith
sum-few at each (node ∷ nodes) = one-more (at node) (filter_map at nodes) (length nodes) (each node) (sum-few at each nodes)

pub charges-small : ChargesAreSmall
charges-small state layout unlinked image k =
    let few = k.represents.list.few in
    let sum = sum-few layout.at each (order state layout) in
    omega (arith, few, sum) where
      each : (node : ℕ) (l : Loaded) → layout.at node ≡ Some l → charge_of l ≤ 6442483737
      each node l here = load-then (store_of image) (rule_of layout node) node l (k.represents.holds.shows.each node l here) (λ n e f.
          let said = said-few n.contents e f.facts.keyed.key_length in
          let key = key-few image n.contents e l.key f.facts.keyed.key in
          let streams = streams-few image e l.streams f.facts.streams in
          omega (arith, said, key, streams))
