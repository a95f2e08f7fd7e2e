-- What the calls that free promise is what the laws ask.
use Rattle.std.proofs.Common.{◌≡◌, ℕ, Bool, true, false, not, if◌then◌else◌, List, [], ◌∷◌, refl, sym, ◌∙◌, ap}
use Rattle.std.specs.Prelude.{◌≢◌, ◌==◌, ◌||◌}
use Rattle.std.proofs.lemmas.Bool.{and_parts, eq-eqb, eqb-true, or_left, or_right}
use Rattle.spec_image.specs.Bytes.{content, spliced}
use Rattle.spec_image.specs.Image.{Block, Image, bytes_of}
use Rattle.spec_image.specs.Steps.{after, words}
use Rattle.spec_format.specs.Address.{external, external_number, kind_of}
use Rattle.spec_format.specs.BlockFiles.{is_among}
use Rattle.spec_format.specs.Claims.{BlockOf, Claim, ExternalOf, claims_of, claims_of_all, has_claim}
use Rattle.spec_format.specs.Maps.{is_block_marked, is_block_marked_at}
use Rattle.law_folder.proofs.claims.ClaimLists.{claim-append}
use Rattle.blk_addr.proofs.ClaimLemmas.{claims_of-external}
use Rattle.blk_alloc.specs.Owning.{is_of}
use Rattle.blk_alloc.proofs.Lists.{IsBlocks, claims_blocks}
use Rattle.blk_eraser.specs.Laws.{FreesAsPromised, FreesUnlinked, PromisedDeletionsMayErase, PromisedFreesMayErase}
use Rattle.blk_eraser.proofs.Leaving.{bytes_after}
use Rattle.blk_eraser.proofs.Unlinked.{blocks_found}
use Rattle.blk_eraser.proofs.UnlinkedFiles.{files_unlinked}

-- what an address uses is used by a list that has the address
among_all : (unlinked : List ℕ) (w : ℕ) (c : Claim) → is_among unlinked w ≡ true → has_claim (claims_of w) c ≡ true → has_claim (claims_of_all unlinked) c ≡ true
among_all [] w c among has = absurd (let z : false ≡ true = among in cc)
among_all (x ∷ unlinked) w c among has = claim-append (claims_of x) (claims_of_all unlinked) c ∙ go (x == w) refl among (among_all unlinked w c)
  where
    go : (t : Bool) → (x == w) ≡ t → (t || is_among unlinked w) ≡ true → (is_among unlinked w ≡ true → has_claim (claims_of w) c ≡ true → has_claim (claims_of_all unlinked) c ≡ true)
        → (has_claim (claims_of x) c || has_claim (claims_of_all unlinked) c) ≡ true
    go true e h more = or_left (has_claim (claims_of x) c) (has_claim (claims_of_all unlinked) c) (ap (λ (v : ℕ). has_claim (claims_of v) c) (eqb-true x w e) ∙ has)
    go false e h more = or_right (has_claim (claims_of x) c) (has_claim (claims_of_all unlinked) c) (more h has)

pub not_true : (t : Bool) → not t ≡ true → t ≡ false
not_true true e = absurd (let z : false ≡ true = e in cc)
not_true false e = refl

-- a block that was marked, and isn't where the blocks of a word are freed, is one of them
freed_block : (of was is : Bool) → is ≡ (if of then false else was) → was ≡ true → is ≡ false → of ≡ true
freed_block true was is e marked gone = refl
freed_block false was is e marked gone = absurd (let z : false ≡ true = sym gone ∙ e ∙ marked in cc)

module _ (unlinked : List ℕ) (w : ℕ) (from image : Image) (n place : ℕ) (new : List ℕ) (p : FreesAsPromised unlinked w from image n place new) where
  blocks : IsBlocks w
  blocks = record { some = p.some; block_kind = p.block_kind }

  of_word : FreesUnlinked unlinked image n place new
  of_word b below e =
      let parts = and_parts (is_block_marked_at (content (bytes_of image (Block n))) b) (not (is_block_marked_at (content (spliced place new (bytes_of image (Block n)))) b)) e in
      let was : is_block_marked from n b ≡ true = sym (p.marks.before b below) ∙ parts.0 in
      let written : is_block_marked (after (words (Block n) place new) image) n b ≡ is_block_marked_at (content (spliced place new (bytes_of image (Block n)))) b =
      ap (λ (l : List ℕ). is_block_marked_at (content l) b) (bytes_after image (Block n) place new) in
      let gone : is_block_marked p.done n b ≡ false = sym (p.marks.behind b below) ∙ written ∙ not_true (is_block_marked_at (content (spliced place new (bytes_of image (Block n)))) b) parts.1 in
      let of : is_of w n b ≡ true = freed_block (is_of w n b) (is_block_marked from n b) (is_block_marked p.done n b) (p.freed.marks n b below) was gone in
      among_all unlinked w (BlockOf n b) p.among (claims_blocks w n b blocks ∙ of)

pub promised_frees : PromisedFreesMayErase
promised_frees unlinked w from image n place new p =
    let frees : FreesUnlinked unlinked image n place new = of_word unlinked w from image n place new p in
    (frees, blocks_found unlinked from image n place new p.midst.stays frees)

-- an external address uses its file
claims_itself : (m : ℕ) → has_claim (ExternalOf m ∷ []) (ExternalOf m) ≡ true
unfolding has_claim
claims_itself m = ap (λ (t : Bool). t || false) (eq-eqb m m refl)

claims_file : (w : ℕ) → w ≢ 0 → kind_of w ≡ external → has_claim (claims_of w) (ExternalOf (external_number w)) ≡ true
claims_file w some kind = ap (λ (cs : List Claim). has_claim cs (ExternalOf (external_number w))) (claims_of-external w some kind) ∙ claims_itself (external_number w)

pub promised_deletions : PromisedDeletionsMayErase
promised_deletions unlinked w image among some kind =
    (files_unlinked unlinked image (external_number w) (among_all unlinked w (ExternalOf (external_number w)) among (claims_file w some kind))).0
