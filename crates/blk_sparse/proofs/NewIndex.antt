-- Where the index of a parent lies, by its record.
use Rattle.std.proofs.Common.{◌≡◌, ◌≢◌, ◌%◌, ⊎_elim, ℤ, length, inl, inr, ℕ, ◌+◌, ◌<◌, ◌≤◌, List, [], ◌∷◌, None, Option, Some, Err, slice_index_or, refl, sym, ◌∙◌, ap, subst, arith, true, false}
use Rattle.std.specs.Prelude.{◌-◌, slice_index}
use Rattle.std.specs.Int.{cast_signed, cast_unsigned, w64}
use Rattle.std.proofs.lemmas.Int.{of_z-to_z}
use Rattle.std.proofs.lemmas.List.Elements.{All-cons, All-nil}
use Rattle.std.specs.Option.{ForSome, option_map}
use Rattle.spec_image.specs.Bytes.{content, range_at}
use Rattle.spec_image.specs.Footprint.{SameOutside}
use Rattle.spec_image.specs.Image.{Image, length_of}
use Rattle.spec_image.specs.Steps.{after}
use Rattle.spec_image.specs.Told.{Applies, Passes, Told}
use Rattle.spec_image.proofs.Runs.{passes_end, passes_none, passes_weaker, some_inj}
use Rattle.blk_model.specs.Items.{Presence}
use Rattle.blk_model.specs.Sizes.{signatures}
use Rattle.blk_model.specs.Sparse.{empty_part, presence_after}
use Rattle.spec_format.specs.Address.{blocks_256, kind_of}
use Rattle.spec_format.specs.Sealed.{AreChanges, IsUpdated, seal_place}
use Rattle.spec_format.specs.SparseIndex.{read_part_index}
use Rattle.law_folder.proofs.lists.WordTurns.{each}
use Rattle.law_folder.proofs.updates.Updates.{entry-seal}
use Rattle.blk_disk.specs.declared.tables.BlockFiles.{BlockFiles}
use Rattle.blk_disk.specs.Open.{IsOpen}
use Rattle.blk_disk.specs.Tables.{Agrees, stands_among}
use Rattle.blk_io.specs.declared.fault.Fault.{Fault}
use Rattle.blk_io.specs.Faults.{IfDamaged}
use Rattle.blk_io.proofs.Carried.{untold_where}
use Rattle.blk_entry.specs.declared.keys.Head.{Head}
use Rattle.blk_entry.specs.Keys.{HasData, IsDamageAt, IsInside, IsRecordHead, data_at, data_file, data_range, data_start, stores}
use Rattle.blk_entry.specs.Parts.{PartStreams, stream_changes}
use Rattle.blk_entry.specs.Steps.{data_steps}
use Rattle.blk_entry.proofs.KeyPlaces.{damaged_any}
use Rattle.blk_stream.proofs.InsideData.{data_there}
use Rattle.blk_ranges.specs.declared.part_map.PartMap.{PartMap}
use Rattle.blk_ranges.specs.PartMaps.{SamePart, index_of, presence_of}
use Rattle.blk_ranges.specs.ParentMaps.{has_part_bit, with_part_bit}
use Rattle.blk_stream.specs.Streams.{address_word}
use Rattle.blk_stream.proofs.StreamPlaces.{keeps_inside, may_both}
use Rattle.blk_object.specs.FailedChecks.{IsFailedCheck, WrongStream}
use Rattle.blk_object.proofs.DamageChecks.{within-checked}
use Rattle.blk_object.proofs.FreeingRuns.{still-open}
use Rattle.blk_sparse.specs.NewParts.{HasBitNow, IsBeingNoted, IsFirstIndex, IsBitNoted, place_of_bit}
use Rattle.blk_sparse.proofs.NewKept.{byte-lengths, no-file}

-- an index that doesn't lie where one does
pub misplaced : (files : BlockFiles) (told : Told) (entry word : ℕ) (fault : Fault) → kind_of entry ≡ blocks_256 → stands_among files entry ≡ true → stores files 8256 word ≡ false → IsDamageAt entry 64 word fault → IfDamaged {A = ℕ} (Err fault) (IsFailedCheck files told)
misplaced files told entry word fault kind stands none at =
    subst (λ (e : Fault). IfDamaged {A = ℕ} (Err e) (IsFailedCheck files told)) (sym at.is)
    (within-checked files told entry at.damage kind stands (WrongStream 2 (record { size = 8256; word = word; wrong = inr (omega arith, none, at.word) })))

-- only an opaque folder reports corruption where none can be
pub none-told : (fault : Fault) (files : Option Image) → ForSome files (λ image. ⊥) → IfDamaged {A = ℕ} (Err fault) (λ _. files ≡ None)
none-told fault files never = damaged_any {A = ℕ} (Err fault) (files ≡ None) (untold_where files never)

-- the word of the third stream in what is read of a record
pub third-word : (image : Image) (entry : ℕ) (head : Head) → IsRecordHead image entry head → slice_index head.addrs 2 ≡ address_word image entry 2
third-word image entry head is = ap (λ (ws : List ℕ). slice_index ws 2) is.addrs

-- the byte with a bit lies in it
pub bit-inside : (files : BlockFiles) (w n : ℕ) → n < 65536 → stores files 8256 w ≡ true → IsInside files w (place_of_bit n) 1
bit-inside files w n small is = keeps_inside files 8256 w (place_of_bit n) 1 (may_both files 8256 w (omega arith) is) (omega (arith, small))

-- the same of the folder before
pub moved-outside : (d e a : Told) (w p q : ℕ) → d ≡ a → p ≡ q → ForSome d.files (λ from. Passes d e (SameOutside (data_range w p 1) from)) → ForSome a.files (λ from. Passes a e (SameOutside (data_range w q 1) from))
moved-outside d e a w p q same at outside = subst (λ (t : Told). ForSome t.files (λ from. Passes t e (SameOutside (data_range w q 1) from))) same (subst (λ (j : ℕ). ForSome d.files (λ from. Passes d e (SameOutside (data_range w j 1) from))) at outside)

pub moved-data : (b a : Told) (w p q : ℕ) → b ≡ a → p ≡ q → ForSome b.files (HasData w p 1) → ForSome a.files (HasData w q 1)
moved-data b a w p q same at has = subst (λ (t : Told). ForSome t.files (HasData w q 1)) same (subst (λ (j : ℕ). ForSome b.files (HasData w j 1)) at has)

pub moved-steps : (d e a : Told) (w p q x y : ℕ) → d ≡ a → p ≡ q → x ≡ y → Applies d e (data_steps w p (x ∷ [])) → Applies a e (data_steps w q (y ∷ []))
moved-steps d e a w p q x y same at byte steps = subst (λ (t : Told). Applies t e (data_steps w q (y ∷ []))) same (subst (λ (j : ℕ). Applies d e (data_steps w j (y ∷ []))) at (subst (λ (z : ℕ). Applies d e (data_steps w p (z ∷ []))) byte steps))

-- the byte that was read is there
pub byte-read : (b a : Told) (out : List ℕ) (w p q : ℕ) → b ≡ a → p ≡ q → ForSome b.files (λ image. out ≡ data_at image w p 1) → ForSome a.files (λ image. slice_index_or out 0 0 ∷ [] ≡ data_at image w q 1)
unfolding range_at
byte-read b a out w p q same at read image there =
    let is : out ≡ data_at image w p 1 = read image (ap (λ (t : Told). t.files) same ∙ there) in
    ap (λ (l : List ℕ). slice_index_or l 0 0 ∷ []) is ∙ ap (λ (j : ℕ). data_at image w j 1) at

-- a folder stays open while a byte of an index is written
pub open-after : (files : BlockFiles) (w n at : ℕ) (d e : Told) → stores files 8256 w ≡ true → ForSome d.files (λ from. Passes d e (SameOutside (data_range w at 1) from)) → (d.files ≡ None → e.files ≡ None) → ForSome e.files (Agrees files) → ForSome d.files (IsOpen files) → ForSome e.files (IsOpen files)
open-after files w n at d e is outside silent agrees opens =
    still-open files d e (SameOutside (data_range w at 1)) (λ from image same. byte-lengths w at from image (no-file files w is) same) (λ from there. passes_end (outside from there)) silent agrees opens

-- the words of the two streams of a part are changes of an entry record
pub changes_are : (w : ℕ) (s : PartStreams) → kind_of w ≡ blocks_256 → AreChanges (seal_place w) (stream_changes s)
changes_are w s kind =
    let seal : seal_place w ≡ 92 = entry-seal w kind in
    let a : ℕ = length s.stored in
    let b : ℕ = length s.index in
    let c : ℕ = s.stored_addr in
    let d : ℕ = s.index_addr in
    record {
      few = omega arith;
      aligned = each (λ change. change.0 % 4 ≡ 0) (44, a) (48, b) (60, c) (64, d) refl refl refl refl;
      before = each (λ change. change.0 < seal_place w) (44, a) (48, b) (60, c) (64, d) (omega (arith, seal)) (omega (arith, seal)) (omega (arith, seal)) (omega (arith, seal));
      different = (
        All-cons (λ other. other.0 ≢ 44) (48, b) ((60, c) ∷ (64, d) ∷ []) (λ e. absurd (omega arith)) (All-cons (λ other. other.0 ≢ 44) (60, c) ((64, d) ∷ []) (λ e. absurd (omega arith)) (All-cons (λ other. other.0 ≢ 44) (64, d) [] (λ e. absurd (omega arith)) (All-nil (λ other. other.0 ≢ 44)))),
        (
          All-cons (λ other. other.0 ≢ 48) (60, c) ((64, d) ∷ []) (λ e. absurd (omega arith)) (All-cons (λ other. other.0 ≢ 48) (64, d) [] (λ e. absurd (omega arith)) (All-nil (λ other. other.0 ≢ 48))),
          (All-cons (λ other. other.0 ≢ 60) (64, d) [] (λ e. absurd (omega arith)) (All-nil (λ other. other.0 ≢ 60)), (All-nil (λ other. other.0 ≢ 64), tt)),
        ),
      );
    }

-- the four words of a record that is given two streams
pub these-changes : (entry size stored index : ℕ) (bytes map : List ℕ) → length bytes ≡ size → length map ≡ 192 → kind_of entry ≡ blocks_256 → AreChanges (seal_place entry) ((44, size) ∷ (48, 192) ∷ (60, stored) ∷ (64, index) ∷ [])
these-changes entry size stored index bytes map few long kind =
    subst (λ (n : ℕ). AreChanges (seal_place entry) ((44, n) ∷ (48, 192) ∷ (60, stored) ∷ (64, index) ∷ [])) few
    (subst (λ (n : ℕ). AreChanges (seal_place entry) ((44, length bytes) ∷ (48, n) ∷ (60, stored) ∷ (64, index) ∷ [])) long
    (changes_are entry (record { stored = bytes; index = map; stored_addr = stored; index_addr = index }) kind))

pub updated-as : (entry size v w stored index : ℕ) (bytes map : List ℕ) (from image : Image) → length bytes ≡ size → length map ≡ 192 → v ≡ stored → w ≡ index → IsUpdated from entry ((44, size) ∷ (48, 192) ∷ (60, v) ∷ (64, w) ∷ []) image
    → IsUpdated from entry (stream_changes (record { stored = bytes; index = map; stored_addr = stored; index_addr = index })) image
updated-as entry size v w stored index bytes map from image few long is_v is_w update =
    subst (λ (n : ℕ). IsUpdated from entry ((44, n) ∷ (48, length map) ∷ (60, stored) ∷ (64, index) ∷ []) image) (sym few)
    (subst (λ (n : ℕ). IsUpdated from entry ((44, size) ∷ (48, n) ∷ (60, stored) ∷ (64, index) ∷ []) image) (sym long)
    (subst (λ (n : ℕ). IsUpdated from entry ((44, size) ∷ (48, 192) ∷ (60, n) ∷ (64, index) ∷ []) image) is_v
    (subst (λ (n : ℕ). IsUpdated from entry ((44, size) ∷ (48, 192) ∷ (60, v) ∷ (64, n) ∷ []) image) is_w update)))

-- the index of a part after its first piece
pub first-index-is : (signature : ℤ) (key_len place count : ℕ) (was now : PartMap) (bytes : List ℕ) → cast_unsigned w64 signature < signatures → was.signature ≡ cast_signed w64 (cast_unsigned w64 signature) → was.key_len ≡ key_len → presence_of was ≡ empty_part.presence → presence_of now ≡ presence_after (presence_of was) place (place + count) → SamePart was now
    → read_part_index bytes ≡ Some (index_of now) → IsFirstIndex (cast_unsigned w64 signature) key_len place count bytes
unfolding index_of
first-index-is signature key_len place count was now bytes small is_signature is_len empty present same is = record {
  index = index_of now;
  is = is;
  signature_is = ap (cast_unsigned w64) (same.signature ∙ is_signature) ∙ of_z-to_z w64 (cast_unsigned w64 signature) (omega (arith, small));
  key_len_is = same.key_len ∙ is_len;
  present = present ∙ ap (λ (x : Presence). presence_after x place (place + count)) empty;
}

-- nothing is written
pub nothing-noted : (files : BlockFiles) (entry n : ℕ) (a b : Told) → b ≡ a → ForSome a.files (λ from. Passes a b (IsBeingNoted files entry n from))
nothing-noted files entry n a b same from there = passes_none (IsBeingNoted files entry n from) same (λ image is. inl (some_inj (sym is ∙ there)))

-- while the byte is written
pub being-noted : (files : BlockFiles) (entry n w : ℕ) (a b : Told) → stores files 8256 w ≡ true → ForSome a.files (λ image. w ≡ address_word image entry 2) → ForSome a.files (λ from. Passes a b (SameOutside (data_range w (place_of_bit n) 1) from)) → ForSome a.files (λ from. Passes a b (IsBeingNoted files entry n from))
being-noted files entry n w a b is word outside from there = passes_weaker (outside from there) being being where
  being : (image : Image) → SameOutside (data_range w (place_of_bit n) 1) from image → IsBeingNoted files entry n from image
  being image same = let at : w ≡ address_word from entry 2 = word from there in inr (ap (λ (v : ℕ). stores files 8256 v) (sym at) ∙ is, subst (λ (v : ℕ). SameOutside (data_range v (place_of_bit n) 1) from image) at same)

-- where the byte has the bit already
pub noted-before : (files : BlockFiles) (entry n w was : ℕ) (a b : Told) → b ≡ a → ForSome a.files (λ image. w ≡ address_word image entry 2) → ForSome a.files (λ image. was ∷ [] ≡ data_at image w (place_of_bit n) 1) → has_part_bit was n ≡ true → ForSome a.files (λ from. ForSome b.files (IsBitNoted entry n from))
noted-before files entry n w was a b same word byte has from there image now = record {
  was = was;
  before = ap (λ (v : ℕ). data_at from v (place_of_bit n) 1) (sym (word from there)) ∙ sym (byte from there);
  done = inl (has, some_inj (sym now ∙ ap (λ (t : Told). t.files) same ∙ there));
}

-- the byte that is written is there
byte-there : (w p x : ℕ) (from : Image) → HasData w p 1 from → data_at (after (data_steps w p (x ∷ [])) from) w p 1 ≡ x ∷ []
unfolding range_at
byte-there w p x from has = ap (λ (b : ℕ). b ∷ []) (data_there w p (x ∷ []) from p (omega arith) (omega arith) (⊎_elim (λ (there : data_start w + p + 1 ≤ length_of from (data_file w)). omega (arith, there)) (λ (none : 1 ≡ 0). absurd (omega (arith, none))) has) ∙ ap (λ (j : ℕ). content (x ∷ []) j) (let z : p - p ≡ 0 = omega arith in z))

pub noted-after : (files : BlockFiles) (entry n w was : ℕ) (a b : Told) → ForSome a.files (λ image. w ≡ address_word image entry 2) → ForSome a.files (λ image. was ∷ [] ≡ data_at image w (place_of_bit n) 1) → has_part_bit was n ≡ false → ForSome a.files (HasData w (place_of_bit n) 1)
    → ForSome a.files (λ from. Passes a b (SameOutside (data_range w (place_of_bit n) 1) from)) → Applies a b (data_steps w (place_of_bit n) (with_part_bit was n ∷ [])) → ForSome a.files (λ from. ForSome b.files (IsBitNoted entry n from))
noted-after files entry n w was a b word byte lacks has outside steps from there image now =
    let at : w ≡ address_word from entry 2 = word from there in
    let made : image ≡ after (data_steps w (place_of_bit n) (with_part_bit was n ∷ [])) from = some_inj (sym now ∙ steps.files ∙ ap (option_map (after (data_steps w (place_of_bit n) (with_part_bit was n ∷ [])))) there) in
    record {
      was = was;
      before = ap (λ (v : ℕ). data_at from v (place_of_bit n) 1) (sym at) ∙ sym (byte from there);
      done = inr (subst (λ (v : ℕ). HasBitNow v n was from image) at (record {
        lacked = lacks;
        same = passes_end (outside from there) image now;
        byte_is = ap (λ (i : Image). data_at i w (place_of_bit n) 1) made ∙ byte-there w (place_of_bit n) (with_part_bit was n) from (has from there);
      }));
    }
