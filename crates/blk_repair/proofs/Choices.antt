-- Steps that are made unless a word is right already, by what is read there.
use Rattle.std.proofs.Common.{◌≡◌, ◌≢◌, ℕ, ◌+◌, Bool, true, false, List, [], ◌∷◌, length, refl, sym, ap, ◌∙◌, subst}
use Rattle.std.specs.Prelude.{◌==◌, if◌then◌else◌}
use Rattle.std.specs.Option.{ForSome}
use Rattle.std.proofs.lemmas.Bool.{eq-eqb, ne_eqb}
use Rattle.spec_image.specs.Bytes.{word_bytes}
use Rattle.spec_image.specs.Image.{Index, Block, Image, byte, word}
use Rattle.spec_image.specs.Footprint.{range}
use Rattle.spec_image.specs.Steps.{TrailStep, Word, after, applied, word_step}
use Rattle.spec_image.specs.Told.{Told, Along}
use Rattle.spec_image.proofs.Footprints.{outside_write}
use Rattle.spec_image.proofs.Images.{length-after_write}
use Rattle.spec_image.proofs.Runs.{until-append, until_last}
use Rattle.spec_folder.specs.ListView.{first_or}
use Rattle.spec_format.specs.Address.{file_selector, kind_of, place, blocks_256}
use Rattle.spec_format.specs.Headers.{bucket_of, place_of_bucket}
use Rattle.spec_format.specs.Records.{entry_in, entry_next_place}
use Rattle.spec_format.specs.Sealed.{sealed_steps}
use Rattle.spec_folder.specs.View.{stands_as, store_of, follow_at}
use Rattle.blk_disk.specs.declared.tables.BlockFiles.{BlockFiles}
use Rattle.blk_disk.specs.Tables.{Agrees, is_record_among, stands_among}
use Rattle.blk_disk.specs.Open.{IsOpen}
use Rattle.blk_disk.proofs.Agreeing.{agrees_still}
use Rattle.blk_lru.proofs.Kept.{kept_sealed}
use Rattle.blk_audit.proofs.Shown.{names_stand}
use Rattle.blk_chain.proofs.Heads.{names-parts}
use Rattle.law_recovery.specs.ChainRepair.{bucket_steps, next_words_steps, next_steps}

-- the word of a bucket
bucket-by : (image : Image) (number w now : ℕ) → now ≡ bucket_of (byte image Index) number → (b : Bool) → (now == w) ≡ b → bucket_steps number w image ≡ (if b then [] else word_step Index (place_of_bucket number) w)
unfolding store_of
bucket-by image number w now e b is = ap (λ (t : Bool). if t then [] else word_step Index (place_of_bucket number) w) (ap (λ (n : ℕ). n == w) (sym e) ∙ is)

pub bucket-right : (image : Image) (number w now : ℕ) → now ≡ bucket_of (byte image Index) number → now ≡ w → bucket_steps number w image ≡ []
bucket-right image number w now e is = bucket-by image number w now e true (eq-eqb now w is)

pub bucket-other : (image : Image) (number w now : ℕ) → now ≡ bucket_of (byte image Index) number → now ≢ w → bucket_steps number w image ≡ word_step Index (place_of_bucket number) w
bucket-other image number w now e apart = bucket-by image number w now e false (ne_eqb now w apart)

-- the next of a record that is there
pub next_is : (files : BlockFiles) (image : Image) (w now : ℕ) → Agrees files image → is_record_among files w ≡ true → now ≡ word image (Block (file_selector w)) (place w + 4) → now ≡ (store_of image).chain_next w
unfolding store_of follow_at entry_in
next_is files image w now agrees stands read = read ∙ sym (let s : stands_as image blocks_256 w ≡ true = sym (names_stand files image w agrees) ∙ stands in rw s refl)

next-by : (image : Image) (entry w now : ℕ) → now ≡ (store_of image).chain_next entry → (b : Bool) → (now == w) ≡ b → next_steps entry w image ≡ (if b then [] else sealed_steps image entry ((entry_next_place, w) ∷ []))
next-by image entry w now e b is = ap (λ (t : Bool). if t then [] else sealed_steps image entry ((entry_next_place, w) ∷ [])) (ap (λ (n : ℕ). n == w) (sym e) ∙ is)

pub next-right : (image : Image) (entry w now : ℕ) → now ≡ (store_of image).chain_next entry → now ≡ w → next_steps entry w image ≡ []
next-right image entry w now e is = next-by image entry w now e true (eq-eqb now w is)

pub next-other : (image : Image) (entry w now : ℕ) → now ≡ (store_of image).chain_next entry → now ≢ w → next_steps entry w image ≡ sealed_steps image entry ((entry_next_place, w) ∷ [])
next-other image entry w now e apart = next-by image entry w now e false (ne_eqb now w apart)

-- a choice of some steps or none leaves the folder open
pub choice-open : (files : BlockFiles) (image : Image) (b : Bool) (steps : List TrailStep) → IsOpen files image → Along (IsOpen files) image steps → Along (IsOpen files) image (if b then [] else steps)
choice-open files image true steps is all = is
choice-open files image false steps is all = all

-- a word of the index is written into an open folder, which stays open
pub index_word-open : (files : BlockFiles) (at x : ℕ) (image : Image) → IsOpen files image → Along (IsOpen files) image (word_step Index at x)
unfolding word_step
index_word-open files at x image is = (
  is,
  record {
    whole_index = length-after_write image Index Index at (word_bytes x) ∙ is.whole_index;
    agrees = agrees_still (range Index at (length (word_bytes x))) image (applied (Word Index at (word_bytes x)) image) (record { bytes = λ n i small. refl }) (outside_write Index at (word_bytes x) image) files (λ n. refl) is.agrees;
  },
)

pub next-open : (files : BlockFiles) (entry w : ℕ) (image : Image) → IsOpen files image → Along (IsOpen files) image (next_steps entry w image)
next-open files entry w image is = choice-open files image ((store_of image).chain_next entry == w) (sealed_steps image entry ((entry_next_place, w) ∷ [])) is (kept_sealed files entry ((entry_next_place, w) ∷ []) image is)

-- what names a record
pub entry_kind : (files : BlockFiles) (w : ℕ) → is_record_among files w ≡ true → kind_of w ≡ blocks_256
entry_kind files w is = (names-parts files w is).1.0

pub entry_stands : (files : BlockFiles) (w : ℕ) → is_record_among files w ≡ true → stands_among files w ≡ true
entry_stands files w is = (names-parts files w is).1.1

-- after the read of a next that is to change
pub next-later : (files : BlockFiles) (a m : Told) (entry w now : ℕ) (P : Told → List TrailStep → Type 0) → ForSome a.files (IsOpen files) → is_record_among files entry ≡ true → ForSome a.files (λ image. now ≡ word image (Block (file_selector entry)) (place entry + 4)) → now ≢ w → m ≡ a
    → ForSome m.files (λ from. P m (sealed_steps from entry ((4, w) ∷ []))) → ForSome a.files (λ from. P a (next_steps entry w from))
next-later files a m entry w now P is_open stands read apart stays holds from there =
    subst (P a) (sym (next-other from entry w now (next_is files from entry now (is_open from there).agrees stands (read from there)) apart))
    (subst (λ (t : Told). ForSome t.files (λ from. P t (sealed_steps from entry ((4, w) ∷ [])))) stays holds from there)

-- the links of a chain leave the folder open
pub links-open : (files : BlockFiles) (words : List ℕ) (image : Image) → IsOpen files image → Along (IsOpen files) image (next_words_steps words image)
links-open files [] image is = is
links-open files (w ∷ words) image is =
    let first : List TrailStep = next_steps w (first_or 0 words) image in
    let all : Along (IsOpen files) image first = next-open files w (first_or 0 words) image is in
    until-append (IsOpen files) (IsOpen files) first (next_words_steps words (after first image)) image all (links-open files words (after first image) (until_last (IsOpen files) (IsOpen files) first image all))
