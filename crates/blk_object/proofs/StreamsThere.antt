-- The bytes of a stream are looked for in their file.
use Rattle.std.proofs.Common.{◌≡◌, ℕ, ◌<◌, Bool, true, false, List, [], length, Option, None, Some, slice_index_or, refl, sym, ◌∙◌, ap, arith}
use Rattle.std.specs.Prelude.{◌==◌, if◌then◌else◌, unwrap_or}
use Rattle.std.specs.Option.{option_map}
use Rattle.std.proofs.lemmas.Bool.Decides.{nat_tests}
use Rattle.spec_image.specs.Image.{External, Image, length_of}
use Rattle.spec_format.specs.Address.{external, external_number, is_address, kind_of}
use Rattle.blk_addr.specs.FileId.{file_of_word}
use Rattle.blk_io.specs.declared.folder.FileId.{FileId}
use Rattle.blk_io.specs.FileNames.{file_of}
use Rattle.blk_disk.specs.Names.{folder_name}
use Rattle.blk_entry.specs.declared.keys.Head.{Head}
use Rattle.blk_entry.specs.Keys.{IsRecordHead}
use Rattle.blk_stream.specs.Streams.{address_word, size_word}

-- the name of an external file
external_name : (w : ℕ) → kind_of w ≡ external → file_of (folder_name (file_of_word w)) ≡ External (external_number w)
unfolding file_of_word
external_name w kind = let t : (kind_of w == external) ≡ true = grind (arith, nat_tests) in rw t refl

length_or_none : (o : Option (List ℕ)) → unwrap_or (option_map length o) 0 ≡ length (unwrap_or o [])
length_or_none None = refl
length_or_none (Some bytes) = refl

-- the length that was asked for
pub length_read : (image : Image) (n : ℕ) (found : Option ℕ) (file : FileId) → found ≡ option_map length (image (file_of file)) → n ≡ unwrap_or found 0 → n ≡ length_of image (file_of file)
length_read image n found file was is = is ∙ ap (λ (o : Option ℕ). unwrap_or o 0) was ∙ length_or_none (image (file_of file))

pub length_found : (image : Image) (w n : ℕ) (found : Option ℕ) (file : FileId) → kind_of w ≡ external → file ≡ folder_name (file_of_word w) → found ≡ option_map length (image (file_of file)) → n ≡ unwrap_or found 0 → n ≡ length_of image (External (external_number w))
length_found image w n found file kind named was is =
    length_read image n found file was is ∙ ap (λ (f : FileId). length_of image (file_of f)) named ∙ ap (length_of image) (external_name w kind)

-- the words of a stream in what was read of its record
pub size_in_head : (image : Image) (entry i n : ℕ) (head : Head) → IsRecordHead image entry head → n ≡ i → slice_index_or head.sizes n 0 ≡ size_word image entry i
size_in_head image entry i n head is e = ap (λ (k : ℕ). slice_index_or head.sizes k 0) e ∙ ap (λ (l : List ℕ). slice_index_or l i 0) is.sizes

pub word_in_head : (image : Image) (entry i n : ℕ) (head : Head) → IsRecordHead image entry head → n ≡ i → slice_index_or head.addrs n 0 ≡ address_word image entry i
word_in_head image entry i n head is e = ap (λ (k : ℕ). slice_index_or head.addrs k 0) e ∙ ap (λ (l : List ℕ). slice_index_or l i 0) is.addrs

-- a word that gave no address is none
pub no_address : (v : ℕ) (o : Option ℕ) → o ≡ (if is_address v then Some v else None) → o ≡ None → is_address v ≡ true → ⊥
no_address v o is none address = by_test (is_address v) address (sym none ∙ is)
  where
    by_test : (t : Bool) → t ≡ true → None ≡ (if t then Some v else None) → ⊥
    by_test true e h = cc
    by_test false e h = let z : false ≡ true = e in cc

pub none_address : (v : ℕ) (o : Option ℕ) → o ≡ (if is_address v then Some v else None) → o ≡ None → is_address v ≡ false
none_address v o is none = by_test (is_address v) refl
  where
    by_test : (t : Bool) → is_address v ≡ t → is_address v ≡ false
    by_test true e = absurd (no_address v o is none e)
    by_test false e = e

-- and one that gave an address is it
pub address_is : (v a : ℕ) (o : Option ℕ) → o ≡ (if is_address v then Some v else None) → o ≡ Some a → a ≡ v
address_is v a o is some = by_test (is_address v) (sym some ∙ is)
  where
    by_test : (t : Bool) → Some a ≡ (if t then Some v else None) → a ≡ v
    by_test true h = cc
    by_test false h = absurd (let z : Some a ≡ None = h in cc)

-- a size that isn't 0
pub more_than_none : (a b : ℕ) → (a ≡ 0 → ⊥) → a ≡ b → 0 < b
more_than_none a b some e = let d = some in omega (arith, d, e)
