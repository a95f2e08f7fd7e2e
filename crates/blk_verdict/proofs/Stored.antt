-- Whether data is stored as an address word says, by what is kept of the block files and by the length of an external file.
use Rattle.std.proofs.Common.{◌≡◌, ◌≢◌, ◌+◌, ◌-◌, ◌<◌, ℕ, Bool, true, false, ◌&&◌, ◌||◌, if◌then◌else◌, List, [], length, Option, None, Some, refl, sym, ◌∙◌, ap, subst, arith}
use Rattle.std.specs.Prelude.{◌==◌, not, is_some, unwrap_or}
use Rattle.std.specs.Option.{option_map}
use Rattle.std.proofs.lemmas.Bool.{and_parts, eqb-true, eq-eqb}
use Rattle.std.proofs.lemmas.Bool.Decides.{nat_tests}
use Rattle.spec_image.specs.Image.{Block, External, Image, byte, length_of}
use Rattle.spec_image.specs.Bytes.{range_at}
use Rattle.spec_format.specs.Address.{kind_of, is_address, external, external_number, file_selector, place}
use Rattle.spec_format.specs.Storage.{is_storage}
use Rattle.spec_format.specs.Standing.{stands}
use Rattle.spec_format.specs.BlockFiles.{stands_in}
use Rattle.spec_folder.specs.View.{stored_at}
use Rattle.blk_addr.specs.FileId.{file_of_word}
use Rattle.blk_disk.specs.declared.tables.BlockFiles.{BlockFiles}
use Rattle.blk_disk.specs.Names.{folder_name}
use Rattle.blk_disk.specs.Tables.{Agrees, stands_among}
use Rattle.blk_disk.proofs.Ranges.{stands_agree}
use Rattle.blk_io.specs.FileNames.{file_of}
use Rattle.blk_entry.specs.Keys.{stores}
use Rattle.blk_entry.proofs.KeyPlaces.{not_held, storage_parts}
use Rattle.blk_entry.proofs.NewShown.{external_stands}

-- by four tests: the storage is right, it is valid, it is external, and the length is the size
stored_by : (image : Image) (size w : ℕ) (a s e l : Bool) → (size == 0) ≡ false → is_storage size w ≡ a → stands_in image w ≡ s → (kind_of w == external) ≡ e → (length_of image (External (external_number w)) == size) ≡ l
    → is_some (stored_at image size w) ≡ (a && (s && (if e then l else true)))
unfolding stored_at
stored_by image size w a s e l z ea es ee el = rw (ea, z, es, ee, el) (by_tests a s e l (range_at (byte image (External (external_number w))) 0 size) (range_at (byte image (Block (file_selector w))) (place w) size))
  where
    by_tests : (a s e l : Bool) (x y : List ℕ) → is_some (if not a then None else if false then Some [] else if not s then None else if e then (if l then Some x else None) else Some y) ≡ (a && (s && (if e then l else true)))
    by_tests false s e l x y = refl
    by_tests true false e l x y = refl
    by_tests true true true true x y = refl
    by_tests true true true false x y = refl
    by_tests true true false l x y = refl

-- blocks are valid where they are among the kept files
stands_block : (files : BlockFiles) (image : Image) (w : ℕ) → Agrees files image → is_address w ≡ true → (kind_of w == external) ≡ false → stands_in image w ≡ stands_among files w
unfolding stands
stands_block files image w agrees address block = rw (address, block) (sym (stands_agree files image w agrees))

some_size : (size : ℕ) → 0 < size → (size == 0) ≡ false
some_size size some = grind (arith, nat_tests)

abbrev chosen : Bool → Option (List ℕ)
chosen t = if not t then None else Some []

-- the word of no bytes
pub stored_none : (image : Image) (w : ℕ) → is_some (stored_at image 0 w) ≡ (w == 0)
unfolding stored_at is_storage
stored_none image w = by_test (w == 0)
  where
    by_test : (t : Bool) → is_some (chosen t) ≡ t
    by_test true = refl
    by_test false = refl

pub stores_none : (files : BlockFiles) (w : ℕ) → (w == 0) ≡ true → stores files 0 w ≡ true
unfolding stores is_storage kind_of
stores_none files w e = let z : w ≡ 0 = eqb-true w 0 e in subst (λ (v : ℕ). ((v == 0) && ((kind_of v == external) || stands_among files v)) ≡ true) (sym z) zero
  where
    zero : ((0 == 0) && ((kind_of 0 == external) || stands_among files 0)) ≡ true
    zero = refl

-- a word that stores nothing
pub stored_false : (files : BlockFiles) (image : Image) (size w : ℕ) → 0 < size → Agrees files image → stores files size w ≡ false → is_some (stored_at image size w) ≡ false
unfolding stores
stored_false files image size w some agrees none =
    by_tests (is_storage size w) (kind_of w == external) refl refl none
  where
    false_and : (s : Bool) → s ≡ false → (true && (s && true)) ≡ false
    false_and s e = rw e refl

    by_tests : (a e : Bool) → is_storage size w ≡ a → (kind_of w == external) ≡ e → (a && (e || stands_among files w)) ≡ false → is_some (stored_at image size w) ≡ false
    by_tests false e ea ee h = stored_by image size w false (stands_in image w) e (length_of image (External (external_number w)) == size) (some_size size some) ea refl ee refl
    by_tests true true ea ee h = absurd (let z : true ≡ false = h in cc)
    by_tests true false ea ee h =
        let st : stands_in image w ≡ stands_among files w = stands_block files image w agrees (storage_parts size w some ea).0 ee in
        stored_by image size w true (stands_in image w) false (length_of image (External (external_number w)) == size) (some_size size some) ea refl ee refl ∙ false_and (stands_in image w) (st ∙ h)

-- a word of blocks that stores data
pub stored_true : (files : BlockFiles) (image : Image) (size w : ℕ) → 0 < size → Agrees files image → kind_of w ≢ external → stores files size w ≡ true → is_some (stored_at image size w) ≡ true
unfolding stores
stored_true files image size w some agrees block_kind is =
    let ee : (kind_of w == external) ≡ false = grind (arith, nat_tests) in
    let p = and_parts (is_storage size w) ((kind_of w == external) || stands_among files w) is in
    let there : stands_among files w ≡ true = rw ee at p.1 in
    let st : stands_in image w ≡ true = stands_block files image w agrees (storage_parts size w some p.0).0 ee ∙ there in
    stored_by image size w true true false (length_of image (External (external_number w)) == size) (some_size size some) p.0 st ee refl

-- an external word that stores data
pub stored_length : (files : BlockFiles) (image : Image) (size w : ℕ) → 0 < size → kind_of w ≡ external → stores files size w ≡ true → is_some (stored_at image size w) ≡ (length_of image (External (external_number w)) == size)
unfolding stores
stored_length files image size w some kind is =
    by_length (length_of image (External (external_number w)) == size) refl
  where
    storage : is_storage size w ≡ true
    storage = (and_parts (is_storage size w) ((kind_of w == external) || stands_among files w) is).0

    ee : (kind_of w == external) ≡ true
    ee = eq-eqb (kind_of w) external kind

    and_false : (s : Bool) → (true && (s && false)) ≡ false
    and_false true = refl
    and_false false = refl

    by_length : (l : Bool) → (length_of image (External (external_number w)) == size) ≡ l → is_some (stored_at image size w) ≡ l
    by_length false el = stored_by image size w true (stands_in image w) true false (some_size size some) storage refl ee el ∙ and_false (stands_in image w)
    by_length true el =
        let same : length_of image (External (external_number w)) ≡ size = eqb-true _ _ el in
        let st : stands_in image w ≡ true = external_stands image w (storage_parts size w some storage).0 kind (omega (arith, same, some)) in
        stored_by image size w true true true true (some_size size some) storage st ee el

-- a word that is no address is the storage of nothing
pub not_address : (files : BlockFiles) (size w : ℕ) → 0 < size → (if is_address w then Some w else None) ≡ None → (if stores files size w then Some w else None) ≡ None
not_address files size w some none = subst (λ (n : ℕ). (if stores files n w then Some w else None) ≡ None) (let e : size - 1 + 1 ≡ size = omega (arith, some) in e) (not_held files (size - 1) w none)

-- what a word that is chosen by a test says of the test
pub chosen_is : (t : Bool) (w a : ℕ) → Some a ≡ (if t then Some w else None) → (a ≡ w) × (t ≡ true)
chosen_is true w a e = (cc, refl)
chosen_is false w a e = absurd (clash e)
  where
    clash : Some a ≡ None → ⊥
    clash h = cc

pub not_chosen : (t : Bool) (w : ℕ) → None ≡ (if t then Some w else None) → t ≡ false
not_chosen true w e = absurd (clash e)
  where
    clash : None ≡ Some w → ⊥
    clash h = cc
not_chosen false w e = refl

-- The length of an external file.

external_file : (w : ℕ) → kind_of w ≡ external → file_of (folder_name (file_of_word w)) ≡ External (external_number w)
unfolding file_of_word
external_file w kind = rw kind refl

length_by : (o : Option (List ℕ)) (n : ℕ) → Some n ≡ option_map length o → length (unwrap_or o []) ≡ n
length_by None n e = absurd (clash e)
  where
    clash : Some n ≡ None → ⊥
    clash h = cc
length_by (Some bytes) n e = cc

none_by : (o : Option (List ℕ)) → None ≡ option_map length o → length (unwrap_or o []) ≡ 0
none_by None e = refl
none_by (Some bytes) e = absurd (clash e)
  where
    clash : None ≡ Some (length bytes) → ⊥
    clash h = cc

pub length_is : (image : Image) (w n : ℕ) → kind_of w ≡ external → Some n ≡ option_map length (image (file_of (folder_name (file_of_word w)))) → length_of image (External (external_number w)) ≡ n
length_is image w n kind e = ap (length_of image) (sym (external_file w kind)) ∙ length_by (image (file_of (folder_name (file_of_word w)))) n e

pub length_none : (image : Image) (w size : ℕ) → kind_of w ≡ external → 0 < size → None ≡ option_map length (image (file_of (folder_name (file_of_word w)))) → (length_of image (External (external_number w)) == size) ≡ false
length_none image w size kind some e =
    let none : length_of image (External (external_number w)) ≡ 0 = ap (length_of image) (sym (external_file w kind)) ∙ none_by (image (file_of (folder_name (file_of_word w)))) e in
    grind (arith, nat_tests)
