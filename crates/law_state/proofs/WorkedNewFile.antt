-- In a whole folder a fifth block file is made, with its first node marked, and linked after data_0: it is an allocation in a file that was not linked before.
use Rattle.std.proofs.Common.{◌≡◌, ◌≢◌, inr, ℕ, zero, suc, ◌+◌, ◌*◌, ◌/◌, ◌%◌, ◌≤◌, List, [], ◌∷◌, refl, ap, sym, ◌∙◌, subst, arith, lit<, lit≤, Bool, true, false, None, Some}
use Rattle.std.specs.Prelude.{◌==◌, if◌then◌else◌, is_some, nat_lt}
use Rattle.std.specs.Int.{bit_at}
use Rattle.std.proofs.lemmas.Bool.{or_left}
use Rattle.std.proofs.lemmas.Bool.Decides.{nat_tests}
use Rattle.std.proofs.lemmas.List.Elements.{All-cons, All-nil, All-weaker}
use Rattle.spec_image.specs.Bytes.{content, spliced, word_at, zeros}
use Rattle.spec_image.specs.Footprint.{Footprint, SameOutside}
use Rattle.spec_image.specs.Image.{Block, External, File, Image, Index, byte, has_file, length_of}
use Rattle.spec_image.specs.Steps.{with_word, with_words}
use Rattle.spec_image.proofs.Words.{length-with_word, same-word_at}
use Rattle.spec_format.specs.Address.{block_count, block_place, block_size, byte_size, external_number, file_selector, first_block, is_address, is_initialized, kind_of, names_blocks, names_external, place, reserved_bits}
use Rattle.spec_format.specs.BlockFiles.{IsWellFormed, checks_along, checks_of_kind, file_checks, files_along, is_block_count, is_link, kind_among, linked, linked_as, linked_up_to, max_entries_in, next_file_in, stands_in}
use Rattle.spec_format.specs.Claims.{BlockOf, Claim, claims_of, claims_of_all, has_claim, is_in_file, repeats}
use Rattle.spec_format.specs.Growth.{HaveGrown}
use Rattle.spec_format.specs.Headers.{allocations_of, head_checks, list_checks, updating_of, field_checks}
use Rattle.spec_format.specs.Maps.{AreAllocations, EmptyAgrees, KeepsFile, groups_of, groups_with, is_block_marked}
use Rattle.spec_format.specs.Standing.{stands, stands_as_blocks}
use Rattle.spec_format.proofs.Finished.{sound-of, magic-of}
use Rattle.law_folder.proofs.claims.ByteChanges.{stands-same}
use Rattle.law_folder.proofs.claims.ClaimLists.{claim-append}
use Rattle.law_folder.proofs.claims.Files.{growth-absent, words-there}
use Rattle.law_folder.proofs.examples.ExampleFolders as folders
use Rattle.law_folder.proofs.examples.WholeFolder.{whole-is_well_formed, whole-linked, whole_folder}
use Rattle.law_folder.proofs.examples.WholeMarks.{byte-outside, nodes_words, whole-empty, whole-marks}
use Rattle.spec_folder.specs.Footprint.{is_absent}
use Rattle.law_state.specs.AllocationLaws.{AreAllocated}
use Rattle.law_state.specs.Changes.{AddsAllocation}
use Rattle.law_state.proofs.Freed.{allocated-added}

-- data_0 with another word of its number and its next file
abbrev nodes_with : ℕ → List ℕ
nodes_with numbers = with_word 8 numbers (with_words nodes_words (zeros 45056))

unfoldable added_folder : Image
added_folder (Block zero) = Some (nodes_with 0x40000)
added_folder (Block (suc (suc (suc (suc zero))))) = Some (nodes_with 4)
added_folder file = whole_folder file

-- its first node
abbrev new_word : ℕ
new_word = 0x90040000

-- ---- the bytes

with-bytes : (numbers i : ℕ) → 12 ≤ i → content (nodes_with numbers) i ≡ byte whole_folder (Block 0) i
unfolding whole_folder
with-bytes numbers i late = byte-outside ((8, numbers) ∷ []) (with_words nodes_words (zeros 45056)) i (inr late, tt)

new-bytes : (i : ℕ) → 12 ≤ i → byte added_folder (Block 4) i ≡ byte whole_folder (Block 0) i
unfolding added_folder
new-bytes i late = with-bytes 4 i late

other-bytes : (n i : ℕ) → n ≢ 4 → 12 ≤ i → byte added_folder (Block n) i ≡ byte whole_folder (Block n) i
unfolding added_folder
other-bytes zero i apart late = with-bytes 0x40000 i late
other-bytes (suc zero) i apart late = refl
other-bytes (suc (suc zero)) i apart late = refl
other-bytes (suc (suc (suc zero))) i apart late = refl
other-bytes (suc (suc (suc (suc zero)))) i apart late = absurd (apart refl)
other-bytes (suc (suc (suc (suc (suc n))))) i apart late = refl

other-length : (n : ℕ) → n ≢ 4 → length_of added_folder (Block n) ≡ length_of whole_folder (Block n)
unfolding added_folder whole_folder
other-length zero apart = length-with_word 8 0x40000 (with_words nodes_words (zeros 45056))
other-length (suc zero) apart = refl
other-length (suc (suc zero)) apart = refl
other-length (suc (suc (suc zero))) apart = refl
other-length (suc (suc (suc (suc zero)))) apart = absurd (apart refl)
other-length (suc (suc (suc (suc (suc n))))) apart = refl

other-there : (n : ℕ) → n ≢ 4 → has_file added_folder (Block n) ≡ has_file whole_folder (Block n)
unfolding added_folder whole_folder
other-there zero apart = refl
other-there (suc zero) apart = refl
other-there (suc (suc zero)) apart = refl
other-there (suc (suc (suc zero))) apart = refl
other-there (suc (suc (suc (suc zero)))) apart = absurd (apart refl)
other-there (suc (suc (suc (suc (suc n))))) apart = refl

new-word : (i : ℕ) → 12 ≤ i → word_at (byte added_folder (Block 4)) i ≡ word_at (byte whole_folder (Block 0)) i
new-word i late = same-word_at (byte added_folder (Block 4)) (byte whole_folder (Block 0)) i (new-bytes i late) (new-bytes (i + 1) (omega arith)) (new-bytes (i + 2) (omega arith)) (new-bytes (i + 3) (omega arith))

other-word : (n i : ℕ) → n ≢ 4 → 12 ≤ i → word_at (byte added_folder (Block n)) i ≡ word_at (byte whole_folder (Block n)) i
other-word n i apart late = same-word_at (byte added_folder (Block n)) (byte whole_folder (Block n)) i (other-bytes n i apart late) (other-bytes n (i + 1) apart (omega arith)) (other-bytes n (i + 2) apart (omega arith)) (other-bytes n (i + 3) apart (omega arith))

-- ---- the links

added-formed : IsWellFormed added_folder
unfolding added_folder whole_folder field_checks head_checks list_checks checks_of_kind checks_along file_checks next_file_in is_link is_block_count linked_up_to linked files_along zeros with_word spliced block_size
added-formed = refl

links : (linked added_folder 1 ≡ 0 ∷ 4 ∷ []) × (linked added_folder 2 ≡ 1 ∷ []) × (linked added_folder 3 ≡ 2 ∷ []) × (linked added_folder 4 ≡ 3 ∷ [])
unfolding added_folder whole_folder linked files_along next_file_in zeros with_word spliced block_size
links = (refl, refl, refl, refl)

other-linked : (n : ℕ) → n ≢ 4 → linked_as added_folder n ≡ linked_as whole_folder n
unfolding kind_among
other-linked n apart = (let l = links in rw (l.0, l.1, l.2, l.3) (go n apart)) ∙ sym (whole-linked n) where
  go : (n : ℕ) → n ≢ 4 → kind_among (λ kind. if kind == 1 then 0 ∷ 4 ∷ [] else if kind == 2 then 1 ∷ [] else if kind == 3 then 2 ∷ [] else 3 ∷ []) n ≡ (if nat_lt n 4 then Some (n + 1) else None)
  go zero apart = refl
  go (suc zero) apart = refl
  go (suc (suc zero)) apart = refl
  go (suc (suc (suc zero))) apart = refl
  go (suc (suc (suc (suc zero)))) apart = absurd (apart refl)
  go (suc (suc (suc (suc (suc n))))) apart = grind (arith, nat_tests)

not-linked : linked_as whole_folder 4 ≡ None
not-linked = whole-linked 4

no-fourth : (n kind : ℕ) → linked_as whole_folder n ≡ Some kind → n ≢ 4
no-fourth n kind is e = let small = folders.below n (ap is_some is) in omega arith

-- ---- the files have grown

counts : (max_entries_in added_folder 4 ≡ 1024) × (max_entries_in whole_folder 0 ≡ 1024)
unfolding added_folder whole_folder max_entries_in zeros with_word spliced
counts = (refl, refl)

other-counts : (n : ℕ) → n ≢ 4 → max_entries_in added_folder n ≡ max_entries_in whole_folder n
unfolding max_entries_in
other-counts n apart = other-word n 20 apart (omega arith)

grown : HaveGrown whole_folder added_folder
unfolding added_folder
grown = record {
  index = λ i shown. refl;
  externals = λ n. refl;
  linked = λ n kind is. other-linked n (no-fourth n kind is) ∙ is;
  bytes = λ n kind i is behind within. other-bytes n i (no-fourth n kind is) (omega (arith, behind));
  longer = λ n kind is. let same = other-length n (no-fourth n kind is) in omega (arith, same);
  more = λ n kind is. let same = other-counts n (no-fourth n kind is) in omega (arith, same);
}

still : (w : ℕ) → stands_in whole_folder w ≡ true → stands_in added_folder w ≡ true
still w stands = stands-same (is_absent whole_folder) whole_folder added_folder (growth-absent whole_folder added_folder grown) w
    (λ claim has. words-there whole_folder (w ∷ []) claim (stands, tt) (claim-append (claims_of w) (claims_of_all []) claim ∙ or_left (has_claim (claims_of w) claim) _ has)) ∙ stands

other-file : (n : ℕ) → n ≢ 4 → KeepsFile whole_folder added_folder n
unfolding EmptyAgrees
other-file n apart = record {
  allocations = λ words are. record {
    stand = All-weaker (λ w. stands_in whole_folder w ≡ true) (λ w. stands_in added_folder w ≡ true) still words are.stand;
    here = are.here;
    apart = are.apart;
    marks = λ b small. ap (λ (x : ℕ). bit_at x (b % 8) == 1) (other-bytes n (80 + b / 8) apart (omega arith)) ∙ are.marks b small;
    counted = other-word n 16 apart (omega arith) ∙ are.counted;
  };
  empty = λ agrees i small. other-word n (24 + 4 * i) apart (omega arith) ∙ agrees i small
      ∙ ap (λ (marked : ℕ → Bool). groups_with marked (groups_of (max_entries_in whole_folder n)) (i + 1)) (λ j b. ap (λ (x : ℕ). bit_at x (b % 8) == 1) (sym (other-bytes n (80 + b / 8) apart (omega arith))) j)
      ∙ ap (λ (most : ℕ). groups_with (is_block_marked added_folder n) (groups_of most) (i + 1)) (sym (other-counts n apart));
}

-- ---- the new file

same-marks : is_block_marked added_folder 4 ≡ is_block_marked whole_folder 0
same-marks = λ j b. ap (λ (x : ℕ). bit_at x (b % 8) == 1) (new-bytes (80 + b / 8) (omega arith)) j

new-stands : stands_in added_folder new_word ≡ true
unfolding added_folder whole_folder zeros with_word spliced next_file_in max_entries_in linked files_along kind_among stands stands_as_blocks is_address is_initialized names_external names_blocks kind_of reserved_bits block_count file_selector first_block external_number block_size block_place place byte_size
new-stands = refl

new-claim : (is_in_file 4 new_word ≡ true) × (claims_of_all (new_word ∷ []) ≡ BlockOf 4 0 ∷ []) × (repeats (claims_of_all (new_word ∷ [])) ≡ false)
unfolding is_in_file repeats has_claim claims_of kind_of block_count file_selector first_block external_number
new-claim = (refl, refl, refl)

one-claim : (b : ℕ) → nat_lt b 1 ≡ has_claim (BlockOf 4 0 ∷ []) (BlockOf 4 b)
unfolding has_claim
one-claim zero = refl
one-claim (suc b) = grind (arith, nat_tests)

new-counters : (allocations_of (byte added_folder (Block 4)) ≡ 1) × (updating_of (byte added_folder (Block 4)) ≡ 0)
unfolding added_folder zeros with_word spliced
new-counters = (refl, refl)

new-allocation : AreAllocations added_folder 4 (new_word ∷ [])
new-allocation = record {
  stand = All-cons (λ w. stands_in added_folder w ≡ true) new_word [] new-stands (All-nil _);
  here = All-cons (λ w. is_in_file 4 w ≡ true) new_word [] new-claim.0 (All-nil _);
  apart = new-claim.2;
  marks = λ b small. ap (λ (marked : ℕ → Bool). marked b) same-marks ∙ whole-marks 0 b (lit< tt) small ∙ one-claim b ∙ ap (λ (claims : List Claim). has_claim claims (BlockOf 4 b)) (sym new-claim.1);
  counted = new-counters.0;
}

new-empty : EmptyAgrees added_folder 4
unfolding EmptyAgrees
new-empty i small = new-word (24 + 4 * i) (omega arith) ∙ whole-empty 0 (lit< tt) i small
    ∙ ap (λ (marked : ℕ → Bool). groups_with marked (groups_of (max_entries_in whole_folder 0)) (i + 1)) (sym same-marks)
    ∙ ap (λ (most : ℕ). groups_with (is_block_marked added_folder 4) (groups_of most) (i + 1)) (counts.1 ∙ sym counts.0)

new-fits : block_place 1 1024 ≤ length_of added_folder (Block 4)
unfolding added_folder zeros with_word spliced block_place block_size
new-fits = lit≤ tt

new-long : block_place 1 (max_entries_in added_folder 4) ≤ length_of added_folder (Block 4)
new-long = subst (λ (most : ℕ). block_place 1 most ≤ length_of added_folder (Block 4)) (sym counts.0) new-fits

-- ---- it is allocated

abbrev touches : File → ℕ → Bool
touches (Block zero) i = nat_lt i 12
touches (Block (suc (suc (suc (suc zero))))) i = true
touches file i = false

abbrev touched : Footprint
touched = record { bytes = touches; sizes = λ file. touches file 12 }

same-outside : SameOutside touched whole_folder added_folder
unfolding added_folder
same-outside = record { bytes = bytes; lengths = lengths; files = files } where
  bytes : (file : File) (i : ℕ) → touches file i ≡ false → byte added_folder file i ≡ byte whole_folder file i
  bytes Index i out = refl
  bytes (Block zero) i out = other-bytes 0 i (λ e. (let z : ◌≡◌ {A = ℕ} 0 4 = e in cc)) (grind (arith, nat_tests))
  bytes (Block (suc zero)) i out = refl
  bytes (Block (suc (suc zero))) i out = refl
  bytes (Block (suc (suc (suc zero)))) i out = refl
  bytes (Block (suc (suc (suc (suc zero))))) i out = absurd (let z : true ≡ false = out in cc)
  bytes (Block (suc (suc (suc (suc (suc n)))))) i out = refl
  bytes (External n) i out = refl

  not-new : (n : ℕ) → touches (Block n) 12 ≡ false → n ≢ 4
  not-new n out e = let z : true ≡ false = subst (λ (m : ℕ). touches (Block m) 12 ≡ false) e out in cc

  lengths : (file : File) → touches file 12 ≡ false → length_of added_folder file ≡ length_of whole_folder file
  lengths Index out = refl
  lengths (Block n) out = other-length n (not-new n out)
  lengths (External n) out = refl

  files : (file : File) → touches file 12 ≡ false → has_file added_folder file ≡ has_file whole_folder file
  files Index out = refl
  files (Block n) out = other-there n (not-new n out)
  files (External n) out = refl

apart-late : (n i : ℕ) → n ≢ 4 → 12 ≤ i → touches (Block n) i ≡ false
apart-late zero i apart late = grind (arith, nat_tests)
apart-late (suc zero) i apart late = refl
apart-late (suc (suc zero)) i apart late = refl
apart-late (suc (suc (suc zero))) i apart late = refl
apart-late (suc (suc (suc (suc zero)))) i apart late = absurd (apart refl)
apart-late (suc (suc (suc (suc (suc n))))) i apart late = refl

node_is_allocated : AreAllocated whole_folder new_word added_folder
unfolding kind_of file_selector
node_is_allocated = record {
  block_kind = λ e. (let z : ◌≡◌ {A = ℕ} 1 0 = e in cc);
  footprint = touched;
  same = same-outside;
  index = λ i. refl;
  apart = apart-late;
  sizes = λ n other. apart-late n 12 other (lit≤ tt);
  linked = other-linked;
  allocations = λ there. absurd (let z : false ≡ true = ap is_some (sym not-linked) ∙ there in cc);
  fresh = λ none. new-allocation;
  empty = new-empty;
  updating = new-counters.1;
  stands = new-stands;
  long_enough = new-long;
  elsewhere = λ n other linked. other-file n other;
  stays = record { grown = grown; headers = record { sound = λ sound. sound-of added_folder added-formed; magic = magic-of added_folder added-formed ∙ sym (magic-of whole_folder whole-is_well_formed) } };
}

-- so the allocation is added
node_is_added : AddsAllocation whole_folder new_word added_folder
node_is_added = allocated-added whole_folder added_folder new_word (sound-of whole_folder whole-is_well_formed) node_is_allocated
