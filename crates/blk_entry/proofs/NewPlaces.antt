-- The three places of a new entry, and what holds before and after each of its writes.
use Rattle.std.proofs.Common.{◌≡◌, ◌≢◌, ⊎_elim, ℕ, ◌+◌, ◌<◌, ◌≤◌, Bool, true, false, ◌&&◌, List, [], ◌∷◌, ◌++◌, length, length-append, add-zero, Option, None, Some, refl, sym, ◌∙◌, subst, arith}
use Rattle.std.specs.Prelude.{◌==◌, nat_le, nat_lt}
use Rattle.std.proofs.lemmas.Bool.{and_parts, cases_Bool}
use Rattle.std.proofs.lemmas.Bool.Decides.{nat_tests}
use Rattle.std.specs.Option.{ForSome}
use Rattle.spec_image.specs.Image.{File, Index, Block, External, Image, length_of, same_file}
use Rattle.spec_image.specs.Steps.{TrailStep, after, words}
use Rattle.spec_image.specs.Footprint.{Footprint, SameOutside, IsWithin, either, range, touched_by, touched_by_all}
use Rattle.spec_image.specs.Told.{Told, Along, Until, IsQuiet, AppliesPrefix, Passes}
use Rattle.spec_image.proofs.Footprints.{outside-refl, outside_steps, within_left, within_right, within_both, within_first, within_second, range_within, words_within}
use Rattle.spec_image.proofs.Runs.{passes_end, quiet-append, passes_part, passes_weaker, some_inj, until_last, until_weaker2, told_part}
use Rattle.spec_image.proofs.WordSteps.{quiet-words}
use Rattle.spec_format.specs.Address.{kind_of, block_count, external, external_number, file_selector, place, byte_size, blocks_256}
use Rattle.spec_format.specs.Storage.{entry_blocks}
use Rattle.spec_image.proofs.Splices.{length-zeros}
use Rattle.spec_format.specs.BlockFiles.{KeepsHeaders}
use Rattle.blk_disk.specs.declared.tables.BlockFiles.{BlockFiles}
use Rattle.blk_disk.specs.Tables.{Agrees, stands_among}
use Rattle.spec_format.specs.Sealed.{record_range, record_size}
use Rattle.spec_format.proofs.SpareHeaders.{SparesHeaders, heads_still, next_same, past_header}
use Rattle.blk_disk.proofs.Agreeing.{agrees_still}
use Rattle.blk_disk.proofs.Enlarging.{kept_headers}
use Rattle.spec_format.specs.Headers.{HasWholeIndex}
use Rattle.blk_io.proofs.Carried.{silent_part, told_at_end}
use Rattle.blk_entry.specs.Writing.{WritesEntryInProgress}
use Rattle.spec_format.proofs.Keeping.{undamaged_still}
use Rattle.spec_format.proofs.SealedRecords.{node_bytes as node_size_is}
use Rattle.blk_entry.specs.declared.writing.NewEntry.{NewEntry}
use Rattle.blk_entry.specs.Keys.{IsInside, IsInFile, data_file, data_start, is_short, may_hold, stores}
use Rattle.blk_entry.specs.Steps.{data_steps, ended_steps}
use Rattle.blk_entry.specs.Writing.{FitsKey, HoldsLongKey, IsLongPlace, address_of_key, before_key, empty_key_place, entry_bytes, entry_steps, key_steps, long_range, longest_of, new_node, new_record, node_bytes, node_steps, places_of, record_steps}
use Rattle.blk_entry.proofs.KeyPlaces.{storage_room, short_room}
use Rattle.blk_entry.proofs.NewSteps.{node_length, record_length}
use Rattle.blk_entry.proofs.Windows.{entry_room_least, not_external}
use Rattle.blk_entry.proofs.DataSteps.{data-beside}

-- where data lies
pub file_of_blocks : (w : ℕ) → kind_of w ≢ external → data_file w ≡ Block (file_selector w)
unfolding data_file
file_of_blocks w block_kind = let t : (kind_of w == external) ≡ false = grind (arith, nat_tests) in rw t refl

pub start_of_blocks : (w : ℕ) → kind_of w ≢ external → data_start w ≡ place w
unfolding data_start
start_of_blocks w block_kind = let t : (kind_of w == external) ≡ false = grind (arith, nat_tests) in rw t refl

pub file_of_external : (w : ℕ) → kind_of w ≡ external → data_file w ≡ External (external_number w)
unfolding data_file
file_of_external w is = rw is refl

pub start_of_external : (w : ℕ) → kind_of w ≡ external → data_start w ≡ 0
unfolding data_start
start_of_external w is = rw is refl

-- the bytes of a long key and its zero byte are there
pub long_is_inside : (files : BlockFiles) (w k : ℕ) → k ≤ 32796 → may_hold files k w ≡ true → IsInside files w 0 (k + 1)
unfolding stores
long_is_inside files w k most holds =
    let p = and_parts _ _ holds in
    record {
      small = omega (arith, most);
      stands = λ block_kind. ⊎_elim (λ (e : (kind_of w == external) ≡ true). absurd (block_kind (grind (arith, nat_tests)))) (λ (e : (kind_of w == external) ≡ false). let h = p.1 in rw e at h) (cases_Bool (kind_of w == external));
      room = λ block_kind. let h = storage_room (k + 1) w (omega arith) p.0 block_kind in omega (arith, h);
    }

-- the bytes of a key in its record, and its zero byte, are there
pub short_is_inside : (files : BlockFiles) (w k : ℕ) → kind_of w ≡ blocks_256 → stands_among files w ≡ true → block_count w ≡ entry_blocks k → is_short k ≡ true → IsInside files w 96 (k + 1)
short_is_inside files w k kind stands blocks short =
    let less : k ≤ 927 = grind (arith, nat_tests) in
    let h = short_room w k kind blocks less in
    record { small = omega (arith, less); stands = λ block_kind. stands; room = λ block_kind. omega (arith, h) }

-- a key and its zero byte are there
pub key_is_inside : (files : BlockFiles) (new : NewEntry) (key : List ℕ) → FitsKey files new key → IsInside files (address_of_key new.entry new.long_key) (before_key new.long_key) (length key + 1)
key_is_inside files new key fits = by_place new.long_key fits.long
  where
    most : length key ≤ 32796
    most = by_child new.child fits.most
      where
        by_child : (b : Bool) → length key ≤ longest_of b → length key ≤ 32796
        by_child true less = less
        by_child false less = omega (arith, less)

    by_place : (o : Option ℕ) → IsLongPlace files (length key) o → IsInside files (address_of_key new.entry o) (before_key o) (length key + 1)
    by_place None is = short_is_inside files new.entry (length key) fits.entry_kind fits.entry_stands fits.blocks is
    by_place (Some w) is = long_is_inside files w (length key) most is.1

pub key_is_there : (files : BlockFiles) (new : NewEntry) (key : List ℕ) (image : Image) → FitsKey files new key → HoldsLongKey new.long_key (length key) image → IsInFile (address_of_key new.entry new.long_key) (before_key new.long_key) (length key + 1) image
key_is_there files new key image fits has = by_place new.long_key has
  where
    by_place : (o : Option ℕ) → HoldsLongKey o (length key) image → IsInFile (address_of_key new.entry o) (before_key o) (length key + 1) image
    by_place None is e = absurd (not_external new.entry fits.entry_kind e)
    by_place (Some w) is e = let h = is e in omega (arith, h)

-- The steps stay inside.

within_trans : (F G H : Footprint) → IsWithin F G → IsWithin G H → IsWithin F H
within_trans F G H one other = record { bytes = λ file i e. other.bytes file i (one.bytes file i e); sizes = λ file e. other.sizes file (one.sizes file e) }

within-append : (s t : List TrailStep) (F : Footprint) → IsWithin (touched_by_all s) F → IsWithin (touched_by_all t) F → IsWithin (touched_by_all (s ++ t)) F
within-append [] t F one other = other
within-append (x ∷ s) t F one other = within_both (touched_by x) (touched_by_all (s ++ t)) F (within_first (touched_by x) (touched_by_all s) F one) (within-append s t F (within_second (touched_by x) (touched_by_all s) F one) other)

module _ (files : BlockFiles) (new : NewEntry) (key : List ℕ) (moment : ℕ) (fits : FitsKey files new key) where
  record_place : Footprint
  record_place = range (Block (file_selector new.entry)) (place new.entry) (byte_size new.entry)

  in_record : IsWithin record_place (places_of new (length key))
  unfolding places_of record_place
  in_record = within_left record_place (either (record_range new.node) (long_range new.long_key (length key)))

  in_node : IsWithin (record_range new.node) (places_of new (length key))
  unfolding places_of record_place
  in_node = within_trans (record_range new.node) _ _ (within_left (record_range new.node) (long_range new.long_key (length key))) (within_right record_place (either (record_range new.node) (long_range new.long_key (length key))))

  in_long : IsWithin (long_range new.long_key (length key)) (places_of new (length key))
  unfolding places_of record_place
  in_long = within_trans (long_range new.long_key (length key)) _ _ (within_right (record_range new.node) (long_range new.long_key (length key))) (within_right record_place (either (record_range new.node) (long_range new.long_key (length key))))

  -- the place of the key
  key_place : Footprint
  key_place = range (data_file (address_of_key new.entry new.long_key)) (data_start (address_of_key new.entry new.long_key) + before_key new.long_key) (length key + 1)

  in_key : IsWithin key_place (places_of new (length key))
  unfolding key_place record_place
  in_key = by_place new.long_key (key_is_inside files new key fits) in_long
    where
      by_place : (o : Option ℕ) → IsInside files (address_of_key new.entry o) (before_key o) (length key + 1) → IsWithin (long_range o (length key)) (places_of new (length key))
          → IsWithin (range (data_file (address_of_key new.entry o)) (data_start (address_of_key new.entry o) + before_key o) (length key + 1)) (places_of new (length key))
      by_place None inside long =
          let block_kind = not_external new.entry fits.entry_kind in
          let room = inside.room block_kind in
          let at_file = file_of_blocks new.entry block_kind in
          let at_start = start_of_blocks new.entry block_kind in
          rw (at_file, at_start) (within_trans (range (Block (file_selector new.entry)) (place new.entry + 96) (length key + 1)) record_place (places_of new (length key)) (range_within (Block (file_selector new.entry)) (place new.entry + 96) (length key + 1) (place new.entry) _ (omega arith) (omega (arith, byte_size))) in_record)
      by_place (Some w) inside long = subst (λ (i : ℕ). IsWithin (range (data_file w) i (length key + 1)) (places_of new (length key))) (sym (add-zero (data_start w))) long

  record_most : length (entry_bytes (new_record new key moment) ++ empty_key_place new.long_key) ≤ 256
  record_most = by_place new.long_key
    where
      by_place : (o : Option ℕ) → length (entry_bytes (new_record new key moment) ++ empty_key_place o) ≤ 256
      by_place None = omega (arith, length-append (entry_bytes (new_record new key moment)) (empty_key_place None), record_length new key moment)
      by_place (Some w) = omega (arith, length-append (entry_bytes (new_record new key moment)) (empty_key_place (Some w)), record_length new key moment, length-zeros 160)

  record_fits : length (entry_bytes (new_record new key moment) ++ empty_key_place new.long_key) ≤ byte_size new.entry
  record_fits = let least = entry_room_least new.entry fits.entry_kind in omega (arith, record_most, least)

  node_fits : length (node_bytes (new_node new moment)) ≡ record_size new.node
  node_fits = node_length new moment ∙ sym (node_size_is new.node fits.node_kind)

  pub steps_within : IsWithin (touched_by_all (entry_steps new key moment)) (places_of new (length key))
  unfolding entry_steps key_steps ended_steps data_steps record_steps node_steps record_place key_place
  steps_within =
      let w : ℕ = address_of_key new.entry new.long_key in
      let i : ℕ = data_start w + before_key new.long_key in
      within-append (ended_steps w (before_key new.long_key) key) _ _
      (within-append (words (data_file w) i key) (words (data_file w) (data_start w + (before_key new.long_key + length key)) (0 ∷ [])) _
      (within_trans _ _ _ (words_within (data_file w) i i (length key + 1) key (omega arith) (omega arith)) in_key)
      (within_trans _ _ _ (words_within (data_file w) (data_start w + (before_key new.long_key + length key)) i (length key + 1) (0 ∷ []) (omega arith) (omega arith)) in_key))
      (within-append (record_steps new key moment) (node_steps new moment) _
      (within_trans _ _ _ (words_within (Block (file_selector new.entry)) (place new.entry) (place new.entry) (byte_size new.entry) (entry_bytes (new_record new key moment) ++ empty_key_place new.long_key) (omega arith) (omega (arith, record_fits))) in_record)
      (within_trans _ _ _ (words_within (Block (file_selector new.node)) (place new.node) (place new.node) (record_size new.node) (node_bytes (new_node new moment)) (omega arith) (omega (arith, node_fits))) in_node))

  steps_quiet : IsQuiet (entry_steps new key moment)
  unfolding entry_steps key_steps ended_steps data_steps record_steps node_steps
  steps_quiet =
      let w : ℕ = address_of_key new.entry new.long_key in
      let one : List TrailStep = words (data_file w) (data_start w + before_key new.long_key) key in
      let two : List TrailStep = words (data_file w) (data_start w + (before_key new.long_key + length key)) (0 ∷ []) in
      quiet-append (one ++ two) (record_steps new key moment ++ node_steps new moment)
      (quiet-append one two (quiet-words (data_file w) (data_start w + before_key new.long_key) key (data-beside w)) (quiet-words (data_file w) (data_start w + (before_key new.long_key + length key)) (0 ∷ []) (data-beside w)))
      (quiet-append (record_steps new key moment) (node_steps new moment)
      (quiet-words (Block (file_selector new.entry)) (place new.entry) (entry_bytes (new_record new key moment) ++ empty_key_place new.long_key) tt)
      (quiet-words (Block (file_selector new.node)) (place new.node) (node_bytes (new_node new moment)) tt))

  along : (from : Image) → Along (SameOutside (places_of new (length key)) from) from (entry_steps new key moment)
  along from = outside_steps (places_of new (length key)) (entry_steps new key moment) from from steps_within (outside-refl (places_of new (length key)) from)

  no_sizes : (file : File) → (places_of new (length key)).sizes file ≡ false
  unfolding places_of
  no_sizes file = of_long new.long_key
    where
      of_long : (o : Option ℕ) → (long_range o (length key)).sizes file ≡ false
      of_long None = refl
      of_long (Some w) = refl

  -- each file is as long as before
  pub length_kept : (from : Image) (file : File) → length_of (after (entry_steps new key moment) from) file ≡ length_of from file
  length_kept from file =
      (until_last (SameOutside (places_of new (length key)) from) (SameOutside (places_of new (length key)) from) (entry_steps new key moment) from (along from)).lengths file (no_sizes file)

  -- no header is touched, and nothing of the index
  spared : SparesHeaders (places_of new (length key))
  unfolding places_of
  spared = record { bytes = λ n i small. by_parts n i small }
    where
      behind : (t : Bool) (from count i : ℕ) → i < from → (t && (nat_le from i && nat_lt i (from + count))) ≡ false
      behind true from count i below = grind (arith, nat_tests)
      behind false from count i below = refl

      of_long : (o : Option ℕ) (n i : ℕ) → i < 8192 → (long_range o (length key)).bytes (Block n) i ≡ false
      of_long None n i small = refl
      of_long (Some w) n i small =
          ⊎_elim
          (λ (e : (kind_of w == external) ≡ true). let is : kind_of w ≡ external = grind (arith, nat_tests) in rw (file_of_external w is) refl)
          (λ (e : (kind_of w == external) ≡ false).
          let block_kind : kind_of w ≢ external = (λ same. let z : (kind_of w == external) ≡ true = grind (arith, nat_tests) in let y : true ≡ false = sym z ∙ e in cc) in
          behind (same_file (data_file w) (Block n)) (data_start w) (length key + 1) i (let s = start_of_blocks w block_kind in let past = past_header w in omega (arith, small, s, past)))
          (cases_Bool (kind_of w == external))

      by_parts : (n i : ℕ) → i < 8192 → (places_of new (length key)).bytes (Block n) i ≡ false
      by_parts n i small =
          let one = behind (same_file (Block (file_selector new.entry)) (Block n)) (place new.entry) (byte_size new.entry) i (let past = past_header new.entry in omega (arith, small, past)) in
          let two = behind (same_file (Block (file_selector new.node)) (Block n)) (place new.node) (record_size new.node) i (let past = past_header new.node in omega (arith, small, past)) in
          rw (one, two, of_long new.long_key n i small) refl

  no_index : (i : ℕ) → (places_of new (length key)).bytes Index i ≡ false
  unfolding places_of
  no_index i = of_long new.long_key i
    where
      of_long : (o : Option ℕ) (i : ℕ) → (long_range o (length key)).bytes Index i ≡ false
      of_long None i = refl
      of_long (Some w) i =
          ⊎_elim
          (λ (e : (kind_of w == external) ≡ true). let is : kind_of w ≡ external = grind (arith, nat_tests) in rw (file_of_external w is) refl)
          (λ (e : (kind_of w == external) ≡ false).
          let block_kind : kind_of w ≢ external = (λ same. let z : (kind_of w == external) ≡ true = grind (arith, nat_tests) in let y : true ≡ false = sym z ∙ e in cc) in
          rw (file_of_blocks w block_kind) refl)
          (cases_Bool (kind_of w == external))

  module _ (from image : Image) (same : SameOutside (places_of new (length key)) from image) where
    pub agrees_kept : Agrees files from → Agrees files image
    agrees_kept agrees = agrees_still (places_of new (length key)) from image spared same files (λ n. no_sizes (Block n)) agrees

    pub headers_kept : KeepsHeaders from image
    headers_kept =
        kept_headers from image (λ i. same.bytes Index i (no_index i)) (same.lengths Index (no_sizes Index))
        (undamaged_still from image (next_same (places_of new (length key)) from image spared same) (heads_still (places_of new (length key)) from image spared same (λ m. let e = same.lengths (Block m) (no_sizes (Block m)) in omega (arith, e))))

  -- whatever was done of the steps
  module _ (a b : Told) (part : AppliesPrefix a b (entry_steps new key moment)) where
    stops : ForSome a.files (λ from. Passes a b (SameOutside (places_of new (length key)) from))
    stops from there =
        let P : Image → Type 0 = SameOutside (places_of new (length key)) from in
        passes_part P P part steps_quiet (λ image h. h) (λ image now. subst (λ (i : Image). Until P P i (entry_steps new key moment)) (some_image there now) (along from))
      where
        some_image : {from image : Image} → a.files ≡ Some from → a.files ≡ Some image → from ≡ image
        some_image e d = some_inj (sym e ∙ d)

    pub at_each : ForSome a.files (λ from. Passes a b (WritesEntryInProgress new (length key) from))
    at_each from there =
        let moment : (image : Image) → SameOutside (places_of new (length key)) from image → WritesEntryInProgress new (length key) from image = (λ image same. record {
          outside = same;
          headers = headers_kept from image same;
          complete = λ whole. same.lengths Index (no_sizes Index) ∙ whole;
        }) in
        passes_weaker (stops from there) moment moment

    pub complete_after : ForSome a.files HasWholeIndex → ForSome b.files HasWholeIndex
    complete_after whole =
        told_at_end a.files b.files HasWholeIndex (silent_part part) (λ from there image now. (passes_end (at_each from there) image now).complete (whole from there))

    pub agrees_after : ForSome a.files (Agrees files) → ForSome b.files (Agrees files)
    agrees_after agrees =
        told_part (Agrees files) part
        (λ image there. until_weaker2 (SameOutside (places_of new (length key)) image) (Agrees files) (SameOutside (places_of new (length key)) image) (Agrees files) (entry_steps new key moment) image
        (λ i same. agrees_kept image i same (agrees image there)) (λ i same. agrees_kept image i same (agrees image there)) (along image))
