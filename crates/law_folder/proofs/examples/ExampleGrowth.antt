-- The laws of growth at the whole folder: data_1 has 2048 blocks in place of 1024, and data_4 is linked after it.
use Rattle.std.proofs.Common.{◌≡◌, inr, ℕ, zero, suc, ◌+◌, ◌<◌, ◌≤◌, List, [], ◌∷◌, refl, ap, sym, ◌∙◌, subst, arith, lit≤, true, false, Some, None}
use Rattle.std.specs.Prelude.{◌==◌, is_some}
use Rattle.spec_image.specs.Bytes.{content, spliced, resized, zeros}
use Rattle.spec_image.specs.Image.{Index, Block, Image, byte, length_of}
use Rattle.spec_image.specs.Steps.{SetLength, applied, with_word, with_words}
use Rattle.spec_image.proofs.Splices.{length-resized, content-resized}
use Rattle.spec_image.proofs.Words.{length-with_words}
use Rattle.spec_format.specs.Address.{header_size, block_size}
use Rattle.spec_format.specs.Headers.{next_file_of, max_entries_of}
use Rattle.spec_format.specs.BlockFiles.{next_file_in, max_entries_in, files_along, linked, linked_as, kind_among}
use Rattle.spec_folder.specs.View.{view_of}
use Rattle.spec_folder.specs.Footprint.{SameBut, is_past, AgreeBut}
use Rattle.spec_folder.specs.Layout.{Represents}
use Rattle.spec_format.specs.NewFolder.{new_file_words}
use Rattle.spec_format.specs.Growth.{HaveGrown}
use Rattle.law_folder.proofs.examples.OneEntry as one
use Rattle.law_folder.proofs.claims.ByteChanges.{agreeing-views, growth-past}
use Rattle.law_folder.proofs.claims.Growing.{longer-grown}
use Rattle.law_folder.proofs.claims.Files.{growth-keeps}
use Rattle.law_folder.proofs.examples.WholeFolder.{whole_index, whole_nodes, whole_records, whole_folder, whole-is_represented}
use Rattle.law_folder.proofs.examples.WholeMarks.{byte-outside, over_all, content-words}
use Rattle.law_folder.proofs.examples.ExampleFolders.{whole-is_allocated, whole-long, below, its-type}

-- the words of data_1 that change: its next file is 4, and it has 2048 blocks, of which 511 groups are free
abbrev grown_words : List (ℕ × ℕ)
grown_words = (8, 0x40001) ∷ (20, 2048) ∷ (36, 511) ∷ []

-- the folder after that; data_4 has a header, and no block
unfoldable pub grown_folder : Image
grown_folder Index = Some whole_index
grown_folder (Block zero) = Some whole_nodes
grown_folder (Block (suc zero)) = Some (with_words grown_words (resized 532480 whole_records))
grown_folder (Block (suc (suc zero))) = Some (with_words (new_file_words 2) (zeros 8192))
grown_folder (Block (suc (suc (suc zero)))) = Some (with_words (new_file_words 3) (zeros 8192))
grown_folder (Block (suc (suc (suc (suc zero))))) = Some (with_words ((0, 0xC104CAC3) ∷ (4, 0x20000) ∷ (8, 4) ∷ (12, 256) ∷ []) (zeros 8192))
grown_folder _ = None

-- the fields of data_1 that changed
grown-content : byte grown_folder (Block 1) ≡ over_all grown_words (content (resized 532480 whole_records))
unfolding grown_folder
grown-content = content-words grown_words (resized 532480 whole_records) 532480 (length-resized 532480 whole_records) (lit≤ tt, (lit≤ tt, (lit≤ tt, tt)))

changed-fields : (f : ℕ → ℕ) → (next_file_of (over_all grown_words f) ≡ 4) × (max_entries_of (over_all grown_words f) ≡ 2048)
changed-fields f = (refl, refl)

grown-fields : (next_file_in grown_folder 1 ≡ 4) × (max_entries_in grown_folder 1 ≡ 2048)
unfolding next_file_in max_entries_in
grown-fields = let c = changed-fields (content (resized 532480 whole_records)) in (ap next_file_of grown-content ∙ c.0, ap max_entries_of grown-content ∙ c.1)

-- a file with one after it
two-along : (next : ℕ → ℕ) (left n m : ℕ) → next n ≡ m → (m == 0) ≡ false → next m ≡ 0 → files_along next (suc (suc left)) n ≡ n ∷ m ∷ []
unfolding files_along
two-along next left n m first some last = rw (first, some, last) refl

last-next : next_file_in grown_folder 4 ≡ 0
unfolding grown_folder next_file_in zeros with_word spliced
last-next = refl

grown-links : (linked grown_folder 1 ≡ 0 ∷ []) × (linked grown_folder 3 ≡ 2 ∷ []) × (linked grown_folder 4 ≡ 3 ∷ [])
unfolding grown_folder linked files_along next_file_in zeros with_word spliced block_size
grown-links = (refl, refl, refl)

records-links : linked grown_folder 2 ≡ 1 ∷ 4 ∷ []
unfolding linked
records-links = two-along (next_file_in grown_folder) 57 1 4 grown-fields.0 refl last-next

-- the files that were linked are linked as before, and data_4 is linked as data_1
pub grown-linked : (linked_as grown_folder 0 ≡ Some 1) × (linked_as grown_folder 1 ≡ Some 2) × (linked_as grown_folder 2 ≡ Some 3) × (linked_as grown_folder 3 ≡ Some 4) × (linked_as grown_folder 4 ≡ Some 2)
unfolding kind_among
grown-linked = let l = grown-links in (rw l.0 refl, rw (l.0, records-links) refl, rw (l.0, records-links, l.1) refl, rw (l.0, records-links, l.1, l.2) refl, rw (l.0, records-links) refl)

grown-as : (n : ℕ) → n < 4 → linked_as grown_folder n ≡ Some (n + 1)
grown-as zero small = grown-linked.0
grown-as (suc zero) small = grown-linked.1
grown-as (suc (suc zero)) small = grown-linked.2
grown-as (suc (suc (suc zero))) small = grown-linked.3
grown-as (suc (suc (suc (suc n)))) small = absurd (omega arith)

whole-lengths : length_of whole_folder (Block 1) ≡ 270336
unfolding whole_folder zeros with_word spliced
whole-lengths = refl

grown-bytes : (n i : ℕ) → n < 4 → header_size ≤ i → i < length_of whole_folder (Block n) → byte grown_folder (Block n) i ≡ byte whole_folder (Block n) i
unfolding grown_folder whole_folder
grown-bytes zero i small suffix within = refl
grown-bytes (suc zero) i small suffix within =
    byte-outside grown_words (resized 532480 whole_records) i (inr (omega arith), (inr (omega arith), (inr (omega arith), tt)))
    ∙ content-resized 532480 whole_records i (let w : i < 270336 = subst (λ (n : ℕ). i < n) whole-lengths within in omega arith)
grown-bytes (suc (suc zero)) i small suffix within = refl
grown-bytes (suc (suc (suc zero))) i small suffix within = refl
grown-bytes (suc (suc (suc (suc n)))) i small suffix within = absurd (omega arith)

grown-length : length_of grown_folder (Block 1) ≡ 532480
unfolding grown_folder
grown-length = length-with_words grown_words (resized 532480 whole_records) ∙ length-resized 532480 whole_records

whole-most : max_entries_in whole_folder 1 ≡ 1024
unfolding whole_folder max_entries_in zeros with_word spliced
whole-most = refl

up-to : (n : ℕ) → n ≤ n
up-to n = omega arith

grown-longer : (n : ℕ) → n < 4 → (length_of whole_folder (Block n) ≤ length_of grown_folder (Block n)) × (max_entries_in whole_folder n ≤ max_entries_in grown_folder n)
unfolding grown_folder whole_folder max_entries_in
grown-longer zero small = (up-to _, up-to _)
grown-longer (suc zero) small = (let a = whole-lengths in let b = grown-length in omega (arith, a, b), let a = whole-most in let b = grown-fields.1 in omega (arith, a, b))
grown-longer (suc (suc zero)) small = (up-to _, up-to _)
grown-longer (suc (suc (suc zero))) small = (up-to _, up-to _)
grown-longer (suc (suc (suc (suc n)))) small = absurd (omega arith)

pub have-grown : HaveGrown whole_folder grown_folder
unfolding grown_folder whole_folder
have-grown = record {
  index = λ i shown. refl;
  externals = λ n. refl;
  linked = λ n kind is. grown-as n (below n (ap is_some is)) ∙ ap (λ (k : ℕ). Some k) (its-type n kind is);
  bytes = λ n kind i is suffix within. grown-bytes n i (below n (ap is_some is)) suffix within;
  longer = λ n kind is. (grown-longer n (below n (ap is_some is))).0;
  more = λ n kind is. (grown-longer n (below n (ap is_some is))).1;
}

-- only blocks past those of the linked files may differ
pub grown-agrees : AgreeBut (is_past whole_folder) whole_folder grown_folder
grown-agrees = growth-past whole_folder grown_folder whole-long have-grown

-- all that is shown is as before
pub grown-shows_the_same : SameBut (is_past whole_folder) (view_of whole_folder) (view_of grown_folder)
grown-shows_the_same = agreeing-views (is_past whole_folder) whole_folder grown_folder grown-agrees

-- the folder after the growth represents the same state
pub grown-is_represented : Represents (view_of grown_folder) (one.state true) (one.layout 0)
grown-is_represented = growth-keeps whole_folder grown_folder (one.state true) (one.layout 0) [] have-grown whole-is_represented whole-is_allocated.exact

-- a file that only gets longer has grown
pub longer-has_grown : HaveGrown whole_folder (applied (SetLength (Block 1) 532480) whole_folder)
longer-has_grown = longer-grown whole_folder 1 532480 (subst (λ (n : ℕ). n ≤ 532480) (sym whole-lengths) (lit≤ tt))
