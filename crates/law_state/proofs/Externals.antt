-- External files that are made and deleted, at each word and in the end.
use Rattle.std.proofs.Common.{◌≡◌, ◌≢◌, ℕ, ◌+◌, ◌*◌, ◌<◌, ◌≤◌, ◌%◌, List, [], refl, ap, sym, ◌∙◌, arith, ⊎_elim, Bool, true, false, Option, Some, None}
use Rattle.std.specs.Prelude.{◌==◌, ◌&&◌, not, nat_le, nat_lt}
use Rattle.std.proofs.lemmas.Bool.{and_parts, cases_Bool, eq-eqb, eqb-true, or_left}
use Rattle.std.proofs.lemmas.Bool.Decides.{nat_tests}
use Rattle.spec_image.specs.Checks.{first_of}
use Rattle.spec_image.specs.Footprint.{SameOutside, either, one_word, whole}
use Rattle.spec_image.specs.Image.{File, Image, Index, Block, External, byte, has_file, length_of, word}
use Rattle.spec_image.proofs.Footprints.{same_file_outside, same_word_outside}
use Rattle.spec_format.specs.Address.{external, external_number, file_selector, kind_of}
use Rattle.spec_format.specs.BlockFiles.{max_entries_in, next_file_in, stands_in, HasSoundHeaders, KeepsHeaders}
use Rattle.spec_format.specs.Claims.{Claim, BlockOf, ExternalOf, claims_of, claims_of_all, has_claim, is_in_file, same_claim}
use Rattle.spec_format.specs.Maps.{EmptyAgrees}
use Rattle.spec_format.specs.Headers.{list_checks, is_shown_place, magic_of, field_checks}
use Rattle.spec_format.proofs.Finished.{headers-next}
use Rattle.spec_format.proofs.LinkedHeads.{count_whole, linked_head, HasHead}
use Rattle.spec_folder.specs.Footprint.{AgreeBut, IsFree}
use Rattle.spec_folder.specs.Layout.{Represents}
use Rattle.spec_folder.specs.View.{view_of}
use Rattle.law_folder.proofs.claims.ByteChanges.{agreeing-views, covered-agrees, not_equal, same-links, stands-same, stands-some}
use Rattle.law_folder.proofs.claims.ClaimLists.{claim-append, claim-head}
use Rattle.law_folder.proofs.claims.Covers.{covers-either, covers-more, externals-covered, hidden-covered}
use Rattle.law_folder.proofs.updates.IndexWords.{others-unchecked}
use Rattle.law_folder.proofs.states.Laid.{same_claim-self}
use Rattle.std.proofs.lemmas.Bool.{or_from}
use Rattle.law_folder.proofs.claims.Outside.{represents-outside}
use Rattle.law_folder.proofs.states.Standing.{held-at_rest}
use Rattle.law_folder.proofs.updates.WellFormed.{headers_still}
use Rattle.law_state.specs.Changes.{SameHeaders, StaysLinked}
use Rattle.law_state.specs.ExternalLaws.{IsMakingExternal, MakingFilesFindsTheSame, MadeFilesAreAdded, DeletingFilesFindsTheSame, DeletedFilesAreRemoved}
use Rattle.law_state.specs.Keeping.{IsMapped, all_loaded, words_in_use}
use Rattle.law_state.proofs.Allocating.{blocks-only, owned-used}
use Rattle.law_state.proofs.Headers.{mapped-same, undamaged}
use Rattle.law_state.proofs.MakingFiles.{its-claims}

abbrev file_claim : ℕ → Claim → Bool
file_claim n claim = same_claim claim (ExternalOf n)

-- ---- one external file changes, or is made or deleted

module _ (from image : Image) (n : ℕ) (same : SameOutside (whole (External n)) from image) where
  abbrev index : image Index ≡ from Index
  index = same_file_outside (whole (External n)) from image Index same (λ i. refl) refl

  pub file-headers : KeepsHeaders from image
  file-headers = headers_still (whole (External n)) from image (record { bytes = λ m i small. refl }) (λ m. refl) same (λ k. magic_of (at_bytes index k)) (λ k. first_of (field_checks (at_bytes index k) (at_length index k))) (λ k. first_of (list_checks (at_bytes index k))) where
    at_bytes : {a b : Option (List ℕ)} → a ≡ b → byte (λ file. a) Index ≡ byte (λ file. b) Index
    at_bytes e = ap (λ (o : Option (List ℕ)). byte (λ file. o) Index) e

    at_length : {a b : Option (List ℕ)} → a ≡ b → length_of (λ file. a) Index ≡ length_of (λ file. b) Index
    at_length e = ap (λ (o : Option (List ℕ)). length_of (λ file. o) Index) e

  pub file-agrees : AgreeBut (file_claim n) from image
  file-agrees = covered-agrees (whole (External n)) from image (file_claim n) same (externals-covered from n)

-- ---- block files that stay

-- an image with the external files of another
mixed : Image → Image → Image
mixed from image Index = image Index
mixed from image (Block m) = image (Block m)
mixed from image (External m) = from (External m)

module _ (from image : Image) (n : ℕ) (bytes : (m i : ℕ) → byte image (Block m) i ≡ byte from (Block m) i) (lengths : (m : ℕ) → length_of image (Block m) ≡ length_of from (Block m)) (there : (m : ℕ) → has_file image (Block m) ≡ has_file from (Block m)) (index : has_file image Index ≡ has_file from Index)
    (agree : AgreeBut (file_claim n) from image) (well : HasSoundHeaders from) where
  mixed-headers : SameHeaders from (mixed from image)
  unfolding mixed
  mixed-headers = record { headers = λ m i small. bytes m i; lengths = lengths; files = files } where
    files : (file : File) → has_file (mixed from image) file ≡ has_file from file
    files Index = index
    files (Block m) = there m
    files (External m) = refl

  next-here : (m : ℕ) → next_file_in image m ≡ next_file_in from m
  unfolding next_file_in
  next-here m = λ j. bytes m 10 j + 256 * bytes m 11 j

  blocks-here : (m : ℕ) → max_entries_in image m ≡ max_entries_in from m
  unfolding max_entries_in
  blocks-here m = λ j. bytes m 20 j + 256 * bytes m 21 j + 65536 * bytes m 22 j + 16777216 * bytes m 23 j

  -- words of blocks are valid as they were
  stands-here : (m w : ℕ) → is_in_file m w ≡ true → stands_in from w ≡ true → stands_in image w ≡ true
  unfolding is_in_file
  stands-here m w in_file st = stands-same (file_claim n) from image agree w clear ∙ st where
    not-external : (kind_of w == external) ≡ false
    not-external = turn (kind_of w == external) (and_parts (not (kind_of w == external)) (file_selector w == m) in_file).0 where
      turn : (t : Bool) → not t ≡ true → t ≡ false
      turn true e = absurd (let z : false ≡ true = e in cc)
      turn false e = refl

    clear : (claim : Claim) → has_claim (claims_of w) claim ≡ true → file_claim n claim ≡ false
    clear (BlockOf m b) e = refl
    clear (ExternalOf x) e = absurd (let z : true ≡ false = sym e ∙ blocks-only w x not-external in cc)

  pub stays : (m : ℕ) → StaysLinked from image m
  unfolding mixed EmptyAgrees max_entries_in
  stays m = record {
    extent = record { linked = same-links from image next-here m; there = there m; length = lengths m; blocks = blocks-here m };
    mapped = λ words linked was.
        let head : HasHead from m = linked_head from m (undamaged from well) linked in
        let now : IsMapped (mixed from image) words m = mapped-same from (mixed from image) mixed-headers m words (count_whole (max_entries_in from m) head.count).1 was in
        record {
          allocations = record {
            stand = λ i d less. stands-here m _ (was.allocations.here i d less) (was.allocations.stand i d less);
            here = now.allocations.here;
            apart = now.allocations.apart;
            marks = now.allocations.marks;
            counted = now.allocations.counted;
          };
          empty = now.empty;
          updating = now.updating;
        };
  }

-- ---- a file is made

-- an image with the index of another
indexed : Image → Image → Image
indexed from image Index = image Index
indexed from image (Block m) = from (Block m)
indexed from image (External m) = from (External m)

module _ (from image : Image) (n : ℕ) (m : IsMakingExternal from n image) where
  index-only : SameOutside (one_word Index 16) from (indexed from image)
  unfolding indexed
  index-only = record { bytes = bytes; lengths = lengths; files = files } where
    bytes : (file : File) (i : ℕ) → (one_word Index 16).bytes file i ≡ false → byte (indexed from image) file i ≡ byte from file i
    bytes Index i e = m.same.bytes Index i e
    bytes (Block x) i e = refl
    bytes (External x) i e = refl

    lengths : (file : File) → false ≡ false → length_of (indexed from image) file ≡ length_of from file
    lengths Index e = m.same.lengths Index refl
    lengths (Block x) e = refl
    lengths (External x) e = refl

    files : (file : File) → false ≡ false → has_file (indexed from image) file ≡ has_file from file
    files Index e = m.same.files Index refl
    files (Block x) e = refl
    files (External x) e = refl

  file-only : SameOutside (whole (External n)) (indexed from image) image
  unfolding indexed
  file-only = record { bytes = bytes; lengths = lengths; files = files } where
    bytes : (file : File) (i : ℕ) → (whole (External n)).bytes file i ≡ false → byte image file i ≡ byte (indexed from image) file i
    bytes Index i e = refl
    bytes (Block x) i e = m.same.bytes (Block x) i refl
    bytes (External x) i e = m.same.bytes (External x) i (or_from _ _ e refl)

    lengths : (file : File) → (whole (External n)).sizes file ≡ false → length_of image file ≡ length_of (indexed from image) file
    lengths Index e = refl
    lengths (Block x) e = m.same.lengths (Block x) refl
    lengths (External x) e = m.same.lengths (External x) (or_from _ _ e refl)

    files : (file : File) → (whole (External n)).sizes file ≡ false → has_file image file ≡ has_file (indexed from image) file
    files Index e = refl
    files (Block x) e = m.same.files (Block x) refl
    files (External x) e = m.same.files (External x) (or_from _ _ e refl)

  pub making-headers : KeepsHeaders from image
  making-headers = headers-next from (indexed from image) image (others-unchecked from (indexed from image) 16 refl refl index-only) (file-headers (indexed from image) image n file-only)

  hidden : (i : ℕ) → 16 ≤ i → i < 16 + 4 → is_shown_place i ≡ false
  hidden i low high = grind (arith, nat_tests)

  pub making-agrees : AgreeBut (file_claim n) from image
  making-agrees = covered-agrees (either (whole (External n)) (one_word Index 16)) from image (file_claim n) m.same
      (covers-either from (whole (External n)) (one_word Index 16) (file_claim n) (externals-covered from n) (covers-more from (one_word Index 16) (λ claim. false) (file_claim n) (λ claim e. absurd (let z : false ≡ true = e in cc)) (hidden-covered from 16 4 hidden)))

  making-word : (p : ℕ) → p % 4 ≡ 0 → (p == 16) ≡ false → word image Index p ≡ word from Index p
  making-word p even apart = same_word_outside (either (whole (External n)) (one_word Index 16)) from image Index p m.same (λ i low high. beside p i even apart low high) where
    beside : (p i : ℕ) → p % 4 ≡ 0 → (p == 16) ≡ false → p ≤ i → i < p + 4 → (nat_le 16 i && nat_lt i (16 + 4)) ≡ false
    beside p i even apart low high = grind (arith, nat_tests)

  pub making-stays : HasSoundHeaders from → (x : ℕ) → StaysLinked from image x
  making-stays well = stays from image n (λ x i. m.same.bytes (Block x) i refl) (λ x. m.same.lengths (Block x) refl) (λ x. m.same.files (Block x) refl) (m.same.files Index refl) making-agrees well

  others-there : (x : ℕ) → x ≢ n → has_file image (External x) ≡ has_file from (External x)
  others-there x apart = m.same.files (External x) (or_from _ _ (not_equal n x (λ e. apart (sym e))) refl)

pub making-finds : MakingFilesFindsTheSame
making-finds from image n m state layout unlinked k = (formed, held-at_rest image state layout represents k.valid) where
  formed : HasSoundHeaders image
  formed = (making-headers from image n m).sound k.sound

  -- the number has no owner
  none : has_claim (claims_of_all (words_in_use unlinked (all_loaded state layout k.numbers))) (ExternalOf n) ≡ false
  none = sym (k.files.externals n m.small) ∙ m.absent

  free : IsFree (file_claim n) layout
  free (BlockOf x b) node is = refl
  free (ExternalOf x) node is = ⊎_elim
      (λ (e : (x == n) ≡ true). absurd (let z : true ≡ false = sym (owned-used state layout unlinked from k (ExternalOf x) node is) ∙ ap (λ (y : ℕ). has_claim (claims_of_all (words_in_use unlinked (all_loaded state layout k.numbers))) (ExternalOf y)) (eqb-true x n e) ∙ none in cc))
      (λ (e : (x == n) ≡ false). e)
      (cases_Bool (x == n))

  represents : Represents (view_of image) state layout
  represents = represents-outside (file_claim n) (view_of from) (view_of image) state layout (agreeing-views (file_claim n) from image (making-agrees from image n m)) free k.represents

pub made-added : MadeFilesAreAdded
made-added from image w well kind m there stands = record {
  some = some (w == 0) refl;
  external_kind = eq-eqb (kind_of w) external kind;
  small = m.small;
  stands = stands;
  absent = m.absent;
  there = there;
  others = others-there from image (external_number w) m;
  agree = making-agrees from image (external_number w) m;
  headers = making-headers from image (external_number w) m;
  session = record { crash = making-word from image (external_number w) m 32 refl refl; id = making-word from image (external_number w) m 20 refl refl };
  blocks = making-stays from image (external_number w) m well;
} where
  some : (t : Bool) → (w == 0) ≡ t → (w == 0) ≡ false
  some true e = absurd (stands-some image w stands (eqb-true w 0 e))
  some false e = e

-- ---- a file is deleted

pub deleting-finds : DeletingFilesFindsTheSame
deleting-finds from image w kind same state layout unlinked k = (formed, held-at_rest image state layout represents k.valid) where
  formed : HasSoundHeaders image
  formed = (file-headers from image (external_number w) same).sound k.sound

  claims : has_claim (claims_of w) (ExternalOf (external_number w)) ≡ true
  claims = ap (λ (cs : List Claim). has_claim cs (ExternalOf (external_number w))) (its-claims w (not_equal w 0 (stands-some from w k.unlinked_words.stand.0)) (eq-eqb (kind_of w) external kind))
      ∙ claim-head (ExternalOf (external_number w)) [] (ExternalOf (external_number w)) ∙ or_left (same_claim (ExternalOf (external_number w)) (ExternalOf (external_number w))) _ (same_claim-self (ExternalOf (external_number w)))

  free : IsFree (file_claim (external_number w)) layout
  free (BlockOf x b) node is = refl
  free (ExternalOf x) node is = ⊎_elim
      (λ (e : (x == external_number w) ≡ true).
      let none : layout.owner (ExternalOf (external_number w)) ≡ None = k.unlinked_words.free (ExternalOf (external_number w)) (claim-append (claims_of w) (claims_of_all unlinked) (ExternalOf (external_number w)) ∙ or_left (has_claim (claims_of w) (ExternalOf (external_number w))) _ claims) in
      absurd (let z : ◌≡◌ {A = Option ℕ} (Some node) None = sym is ∙ ap (λ (y : ℕ). layout.owner (ExternalOf y)) (eqb-true x (external_number w) e) ∙ none in cc))
      (λ (e : (x == external_number w) ≡ false). e)
      (cases_Bool (x == external_number w))

  represents : Represents (view_of image) state layout
  represents = represents-outside (file_claim (external_number w)) (view_of from) (view_of image) state layout (agreeing-views (file_claim (external_number w)) from image (file-agrees from image (external_number w) same)) free k.represents

pub deleted-removed : DeletedFilesAreRemoved
deleted-removed from image w well kind stands same gone = record {
  some = some (w == 0) refl;
  external_kind = eq-eqb (kind_of w) external kind;
  gone = gone;
  others = λ x apart. same.files (External x) (not_equal (external_number w) x (λ e. apart (sym e)));
  agree = file-agrees from image (external_number w) same;
  headers = file-headers from image (external_number w) same;
  session = record { crash = index-same 32; id = index-same 20 };
  blocks = stays from image (external_number w) (λ x i. same.bytes (Block x) i refl) (λ x. same.lengths (Block x) refl) (λ x. same.files (Block x) refl) (same.files Index refl) (file-agrees from image (external_number w) same) well;
} where
  some : (t : Bool) → (w == 0) ≡ t → (w == 0) ≡ false
  some true e = absurd (stands-some from w stands (eqb-true w 0 e))
  some false e = e

  index-same : (p : ℕ) → word image Index p ≡ word from Index p
  index-same p = same_word_outside (whole (External (external_number w))) from image Index p same (λ k low high. refl)
