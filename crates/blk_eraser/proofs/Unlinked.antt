-- The zeros lie in blocks without an owner, so a state is shown, and kept, at each of them.
use Rattle.std.proofs.Common.{◌≡◌, ℕ, ◌+◌, ◌-◌, ◌*◌, ◌/◌, ◌<◌, ◌≤◌, ⊎_elim, Bool, true, false, ◌&&◌, nat_le, nat_lt, List, ◌++◌, map, Option, None, Some, refl, sym, ◌∙◌, ap, subst, arith}
use Rattle.std.specs.Prelude.{◌==◌}
use Rattle.std.proofs.lemmas.Bool.{and_parts, cases_Bool, eq-eqb, eqb-true, ltb-true, or_left}
use Rattle.std.proofs.lemmas.Bool.Decides.{nat_tests}
use Rattle.std.proofs.lemmas.Nat.{div-mul-add}
use Rattle.spec_image.specs.Checks.{first_of}
use Rattle.spec_image.specs.Footprint.{Footprint, SameOutside}
use Rattle.spec_image.specs.Image.{Block, Image, Index, byte, bytes_of, length_of, same_file, word}
use Rattle.spec_image.specs.Steps.{TrailStep}
use Rattle.spec_image.specs.Told.{Along}
use Rattle.spec_image.proofs.Footprints.{outside-refl, outside_steps, same_file_outside, same_word_outside}
use Rattle.spec_image.proofs.Images.{same_file-true}
use Rattle.spec_image.proofs.Runs.{until_weaker2}
use Rattle.blk_model.specs.State.{State}
use Rattle.spec_format.specs.Address.{block_place, block_size}
use Rattle.spec_format.specs.BlockFiles.{linked_as, HasSoundHeaders, KeepsHeaders}
use Rattle.spec_format.specs.Claims.{BlockOf, Claim, ExternalOf, claims_of, claims_of_all, has_claim}
use Rattle.spec_format.specs.Growth.{StaysWhole}
use Rattle.spec_format.specs.Headers.{entry_size_of, is_extent_place, list_checks, magic_of, field_checks}
use Rattle.spec_format.proofs.Finished.{formed-kept, sound-of}
use Rattle.spec_format.proofs.SpareHeaders.{SparesHeaders}
use Rattle.spec_folder.specs.Footprint.{Covers, IsFree}
use Rattle.spec_folder.specs.Layout.{Layout, Represents}
use Rattle.spec_folder.specs.View.{view_of}
use Rattle.law_folder.proofs.claims.Allocations.{flat_map-append}
use Rattle.law_folder.proofs.claims.ByteChanges.{agreeing-views, covered-agrees}
use Rattle.law_folder.proofs.claims.ClaimLists.{claim-append}
use Rattle.law_folder.proofs.claims.Covers.{block-of}
use Rattle.law_folder.proofs.claims.Files.{growth-keeps}
use Rattle.law_folder.proofs.claims.Outside.{represents-outside}
use Rattle.law_folder.proofs.states.Standing.{held-at_rest}
use Rattle.law_folder.proofs.updates.WellFormed.{headers_still}
use Rattle.law_state.specs.Changes.{AreOfWords, ChangesOnly, SameCounters, StillFinds}
use Rattle.law_state.specs.Keeping.{KeepsUncounted}
use Rattle.law_state.proofs.Counts.{count-outside}
use Rattle.law_state.proofs.Free.{unlinked-change}
use Rattle.blk_eraser.specs.Erasing.{frees, zeros_before_write}
use Rattle.blk_eraser.specs.Laws.{EachFreed, UnownedBlocksMayBeErased, UnlinkedBlocksMayBeErased, ErasingFindsTheSame, FreesUnlinked, KeepsTheSame, ShowsWhole}
use Rattle.blk_eraser.proofs.Leaving.{block_bytes, block_within, zeros_within}
use Rattle.blk_eraser.proofs.Sizes.{size_of_kind}

-- Bytes of blocks.

before_header : (t u : Bool) (i : ℕ) → i < 8192 → (t && (nat_le 8192 i && u)) ≡ false
before_header true u i small =
    let past : nat_le 8192 i ≡ false = grind (arith, nat_tests) in
    ap (λ (s : Bool). s && u) past
before_header false u i small = refl

extent_small : (i : ℕ) → is_extent_place i ≡ true → i < 8192
extent_small i e = grind (arith, nat_tests)

-- the block of a byte
block_at : (kind size b i : ℕ) → size ≡ block_size kind → block_place kind b ≤ i → i < block_place kind (b + 1) → (i - 8192) / size ≡ b
unfolding block_place
block_at kind size b i is low high =
    let more : (b + 1) * block_size kind ≡ b * block_size kind + block_size kind = omega arith in
    let rest : i - 8192 ≡ b * block_size kind + (i - (8192 + b * block_size kind)) = omega (arith, low) in
    let below : i - (8192 + b * block_size kind) < block_size kind = omega (arith, low, high, more) in
    ap (λ (s : ℕ). (i - 8192) / s) is ∙ ap (λ (m : ℕ). m / block_size kind) rest ∙ div-mul-add b (block_size kind) (i - (8192 + b * block_size kind)) below

-- the counters of the index, where no byte of it differs
pub counters_same : (F : Footprint) (from image : Image) → SameOutside F from image → ((i : ℕ) → F.bytes Index i ≡ false) → SameCounters from image
counters_same F from image same apart = count-outside F from image same (λ i small. apart i)

-- the blocks of a file that pass a test
abbrev pub of_blocks : ℕ → (ℕ → Bool) → Claim → Bool
of_blocks n which (BlockOf m b) = (n == m) && which b
of_blocks n which (ExternalOf m) = false

-- A change of the bytes of blocks.

module _ (n size : ℕ) (which : ℕ → Bool) where
  abbrev pub blocks : Footprint
  blocks = block_bytes n size which

  spares : SparesHeaders blocks
  spares = record { bytes = λ m i small. before_header (same_file (Block n) (Block m)) (which ((i - 8192) / size)) i small }

  -- the blocks of the file have this size
  abbrev pub IsSized : Image → Type 0
  IsSized image = (kind : ℕ) → linked_as image n ≡ Some kind → size ≡ block_size kind

  covered : (image : Image) → IsSized image → Covers image blocks (of_blocks n which)
  covered image sized = record {
    index = λ i e. refl;
    extents = λ m i e. spares.bytes m i (extent_small i e);
    lengths = λ m. refl;
    blocks = λ m kind b i linked low high e.
        let p = and_parts (same_file (Block n) (Block m)) (nat_le 8192 i && which ((i - 8192) / size)) e in
        let q = and_parts (nat_le 8192 i) (which ((i - 8192) / size)) p.1 in
        let same : n ≡ m = block-of n m (same_file-true (Block n) (Block m) p.0) in
        let is : size ≡ block_size kind = sized kind (ap (linked_as image) same ∙ linked) in
        let passes : which b ≡ true = ap which (sym (block_at kind size b i is low high)) ∙ q.1 in
        ap (λ (t : Bool). t && which b) (eq-eqb n m same) ∙ passes;
    external_bytes = λ m i e. cc;
    external_sizes = λ m e. cc;
  }

  module _ (from image : Image) (same : SameOutside blocks from image) where
    index : image Index ≡ from Index
    index = same_file_outside blocks from image Index same (λ i. refl) refl

    at_bytes : {a b : Option (List ℕ)} → a ≡ b → byte (λ file. a) Index ≡ byte (λ file. b) Index
    at_bytes e = ap (λ (o : Option (List ℕ)). byte (λ file. o) Index) e

    at_length : {a b : Option (List ℕ)} → a ≡ b → length_of (λ file. a) Index ≡ length_of (λ file. b) Index
    at_length e = ap (λ (o : Option (List ℕ)). length_of (λ file. o) Index) e

    kept-headers : KeepsHeaders from image
    kept-headers =
        headers_still blocks from image spares (λ m. refl) same
        (λ k. magic_of (at_bytes index k)) (λ k. first_of (field_checks (at_bytes index k) (at_length index k))) (λ k. first_of (list_checks (at_bytes index k)))

    at_word : (p : ℕ) → word image Index p ≡ word from Index p
    at_word p = same_word_outside blocks from image Index p same (λ k low high. refl)

    pub only : IsSized from → ChangesOnly (of_blocks n which) from image
    only sized = record {
      agree = covered-agrees blocks from image (of_blocks n which) same (covered from sized);
      headers = record {
        headers = λ m i small. same.bytes (Block m) i (spares.bytes m i small);
        lengths = λ m. same.lengths (Block m) refl;
        files = λ file. same.files file refl;
      };
      session = record { crash = at_word 32; id = at_word 20 };
      well_formed = kept-headers;
    }

-- The zeros over blocks.

module _ (image : Image) (n place : ℕ) (new : List ℕ) where
  abbrev pub freed : ℕ → Bool
  freed b = nat_lt b 64896 && frees (bytes_of image (Block n)) place new b

  abbrev pub size : ℕ
  size = entry_size_of (byte image (Block n))

  abbrev pub steps : List TrailStep
  steps = zeros_before_write image (Block n) place new

  abbrev pub F : Footprint
  F = block_bytes n size freed

  pub inside : (start : Image) → Along (SameOutside F start) start steps
  inside start =
      outside_steps F steps start start
      (zeros_within F (frees (bytes_of image (Block n)) place new) (Block n) size (length_of image (Block n)) 64896
      (λ b below is. block_within n size (length_of image (Block n)) b freed (passes b below is)))
      (outside-refl F start)
    where
      passes : (b : ℕ) → b < 64896 → frees (bytes_of image (Block n)) place new b ≡ true → freed b ≡ true
      passes b below is =
          let few : nat_lt b 64896 ≡ true = grind (arith, nat_tests) in
          ap (λ (t : Bool). t && frees (bytes_of image (Block n)) place new b) few ∙ is

  -- what is said of each block that is freed
  pub said : (P : ℕ → Type 0) → EachFreed P image n place new → (m b : ℕ) → of_blocks n freed (BlockOf m b) ≡ true → (n ≡ m) × P b
  said P each m b e =
      let p = and_parts (n == m) (freed b) e in
      let q = and_parts (nat_lt b 64896) (frees (bytes_of image (Block n)) place new b) p.1 in
      (eqb-true n m p.0, each b (ltb-true b 64896 q.0) q.1)

  nobodys : (layout : Layout) → EachFreed (λ b. layout.owner (BlockOf n b) ≡ None) image n place new → IsFree (of_blocks n freed) layout
  nobodys layout each (ExternalOf m) node is = refl
  nobodys layout each (BlockOf m b) node is = ⊎_elim
      (λ (e : of_blocks n freed (BlockOf m b) ≡ true).
      let s = said (λ b. layout.owner (BlockOf n b) ≡ None) each m b e in
      let none : layout.owner (BlockOf m b) ≡ None = subst (λ (k : ℕ). layout.owner (BlockOf k b) ≡ None) s.0 s.1 in
      absurd (let c : ◌≡◌ {A = Option ℕ} None (Some node) = sym none ∙ is in cc))
      (λ (e : of_blocks n freed (BlockOf m b) ≡ false). e)
      (cases_Bool (of_blocks n freed (BlockOf m b)))

  keeps_view : (state : State) (layout : Layout) → EachFreed (λ b. layout.owner (BlockOf n b) ≡ None) image n place new → HasSoundHeaders image → Represents (view_of image) state layout
      → (now : Image) → SameOutside F image now → KeepsHeaders image now × Represents (view_of now) state layout
  keeps_view state layout each sound represents now same =
      let sized = λ (kind : ℕ) (linked : linked_as image n ≡ Some kind). size_of_kind image kind n sound linked in
      let change = only n size freed image now same sized in
      let views = agreeing-views (of_blocks n freed) image now change.agree in
      (change.well_formed, represents-outside (of_blocks n freed) (view_of image) (view_of now) state layout views (nobodys layout each) represents)

  shows_at : (state : State) (layout : Layout) → EachFreed (λ b. layout.owner (BlockOf n b) ≡ None) image n place new → ShowsWhole state layout image
      → (now : Image) → SameOutside F image now → ShowsWhole state layout now
  shows_at state layout each shows now same =
      let both = keeps_view state layout each (sound-of image shows.0) shows.1 now same in
      (formed-kept image now both.0 shows.0, both.1)

pub blocks_nobodys : UnownedBlocksMayBeErased
blocks_nobodys state layout image n place new shows each =
    let P : Image → Type 0 = SameOutside (block_bytes n (entry_size_of (byte image (Block n))) (freed image n place new)) image in
    let Q : Image → Type 0 = ShowsWhole state layout in
    until_weaker2 P Q P Q (steps image n place new) image (shows_at image n place new state layout each shows) (shows_at image n place new state layout each shows) (inside image n place new image)

-- Blocks of unlinked words.

module _ (unlinked : List ℕ) (from image : Image) (n place : ℕ) (new : List ℕ) (stays : StaysWhole from image) (of : FreesUnlinked unlinked image n place new) where
  abbrev erased : Footprint
  erased = block_bytes n (entry_size_of (byte image (Block n))) (freed image n place new)

  of_words : AreOfWords (of_blocks n (freed image n place new)) unlinked
  of_words (ExternalOf m) e = cc
  of_words (BlockOf m b) e =
      let s = said image n place new (λ b. has_claim (claims_of_all unlinked) (BlockOf n b) ≡ true) of m b e in
      subst (λ (k : ℕ). has_claim (claims_of_all unlinked) (BlockOf k b) ≡ true) s.0 s.1

  -- by the kind of the file where the call began
  keeps_at : (now : Image) → SameOutside erased from now → KeepsTheSame unlinked from now
  keeps_at now same = (
    λ state layout more k.
        let well : HasSoundHeaders image = stays.headers.sound k.sound in
        let sized = λ (kind : ℕ) (linked : linked_as from n ≡ Some kind). size_of_kind image kind n well (stays.grown.linked n kind linked) in
        let change = only n (entry_size_of (byte image (Block n))) (freed image n place new) from now same sized in
        unlinked-change (of_blocks n (freed image n place new)) unlinked from now of_words change state layout more k,
    counters_same erased from now same (λ i. refl),
  )

  -- what unlinked words name has no owner
  unowned : (state : State) (layout : Layout) (more : List ℕ) → KeepsUncounted state layout (unlinked ++ more) from → EachFreed (λ b. layout.owner (BlockOf n b) ≡ None) image n place new
  unowned state layout more k b below is =
      let c : Claim = BlockOf n b in
      let among : has_claim (claims_of_all (unlinked ++ more)) c ≡ true =
      ap (λ (cs : List Claim). has_claim cs c) (flat_map-append claims_of unlinked more) ∙ claim-append (claims_of_all unlinked) (claims_of_all more) c
      ∙ or_left (has_claim (claims_of_all unlinked) c) (has_claim (claims_of_all more) c) (of b below is) in
      k.unlinked_words.free c among

  finds_at : (now : Image) → SameOutside erased image now → StillFinds unlinked from now
  finds_at now same state layout more k =
      let grown : Represents (view_of image) state layout =
      growth-keeps from image state layout (map layout.place_of_doomed k.numbers) stays.grown k.represents k.owners.exact in
      let sound : HasSoundHeaders image = stays.headers.sound k.sound in
      let both = keeps_view image n place new state layout (unowned state layout more k) sound grown now same in
      (both.0.sound sound, held-at_rest now state layout both.1 k.valid)

pub blocks_unlinked : UnlinkedBlocksMayBeErased
blocks_unlinked unlinked from image n place new stays of =
    let P : Image → Type 0 = SameOutside (erased unlinked from image n place new stays of) from in
    let Q : Image → Type 0 = KeepsTheSame unlinked from in
    until_weaker2 P Q P Q (steps image n place new) from (keeps_at unlinked from image n place new stays of) (keeps_at unlinked from image n place new stays of) (inside image n place new from)

pub blocks_found : ErasingFindsTheSame
blocks_found unlinked from image n place new stays of =
    let P : Image → Type 0 = SameOutside (erased unlinked from image n place new stays of) image in
    let Q : Image → Type 0 = StillFinds unlinked from in
    until_weaker2 P Q P Q (steps image n place new) image (finds_at unlinked from image n place new stays of) (finds_at unlinked from image n place new stays of) (inside image n place new image)
