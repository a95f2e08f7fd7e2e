-- Places that share no data, since each used block has one owner, or since the blocks and the file of a new one were free.
use Rattle.std.proofs.Common.{◌≡◌, ◌≢◌, inl, inr, ⊎_elim, ℕ, ◌+◌, ◌<◌, ◌≤◌, true, false, List, [], ◌∷◌, refl, sym, ◌∙◌, ap, subst, arith}
use Rattle.std.specs.Prelude.{◌==◌}
use Rattle.std.proofs.lemmas.Bool.{cases_lt, eqb-true}
use Rattle.std.proofs.lemmas.Bool.Decides.{nat_tests}
use Rattle.spec_image.specs.Image.{External, Image, has_file}
use Rattle.spec_format.specs.Address.{block_count, external, external_number, file_selector, first_block, kind_of}
use Rattle.spec_format.specs.BlockFiles.{is_among}
use Rattle.spec_format.specs.Claims.{BlockOf, Claim, ExternalOf, claims_of, claims_of_all, has_claim, repeats}
use Rattle.spec_format.specs.Maps.{is_block_marked}
use Rattle.blk_addr.proofs.AddressFields.{block_count_above_0}
use Rattle.blk_disk.specs.declared.tables.BlockFiles.{BlockFiles}
use Rattle.blk_disk.specs.Tables.{Agrees, stands_among}
use Rattle.blk_disk.proofs.Ranges.{stands_linked}
use Rattle.blk_entry.specs.Writing.{ShareNoBlock}
use Rattle.blk_alloc.specs.Owning.{CanBeFreed, is_of}
use Rattle.blk_alloc.proofs.Freed.{allocated_blocks, standing_blocks}
use Rattle.blk_alloc.proofs.Lists.{claims_blocks, once_parts, or_true}
use Rattle.blk_stream.specs.Copying.{ShareNoData}
use Rattle.blk_stream.specs.Freeing.{MayBeFreed, is_block_of}
use Rattle.blk_stream.specs.Placing.{InAddition, InFile, InGrowth, IsNewPlace, IsSite, IsSiteOf, NewFile, Nowhere, Site}
use Rattle.blk_stream.proofs.ShownDrops.{claims-behind, claims-first, external-claim}

-- what an address uses its list uses
pub claim_among : (words : List ℕ) (w : ℕ) (claim : Claim) → is_among words w ≡ true → has_claim (claims_of w) claim ≡ true → has_claim (claims_of_all words) claim ≡ true
claim_among [] w claim among has = absurd (let z : false ≡ true = among in cc)
claim_among (x ∷ words) w claim among has =
    ⊎_elim
    (λ (here : (x == w) ≡ true). claims-first x words claim (subst (λ (v : ℕ). has_claim (claims_of v) claim ≡ true) (sym (eqb-true x w here)) has))
    (λ (there : is_among words w ≡ true). claims-behind x words claim (claim_among words w claim there has))
    (or_true (x == w) (is_among words w) among)

-- a block between the first and the end is one of the address
is_of_between : (w b : ℕ) → first_block w ≤ b → b < first_block w + block_count w → is_of w (file_selector w) b ≡ true
unfolding is_of
is_of_between w b low high = grind (arith, nat_tests)

of_same : (u w b : ℕ) → file_selector u ≡ file_selector w → is_of w (file_selector w) b ≡ true → is_of w (file_selector u) b ≡ true
of_same u w b same e = subst (λ (n : ℕ). is_of w n b ≡ true) (sym same) e

-- addresses with no block in common share none
pub none_shared : (u w : ℕ) → ((b : ℕ) → is_of u (file_selector u) b ≡ true → is_of w (file_selector u) b ≡ true → ⊥) → ShareNoBlock u w
none_shared u w none same =
    let some_u = block_count_above_0 u in
    let some_w = block_count_above_0 w in
    ⊎_elim
    (λ (low : first_block u < first_block w).
    ⊎_elim
    (λ (within : first_block w < first_block u + block_count u). absurd (none (first_block w) (is_of_between u (first_block w) (omega (arith, low)) within) (of_same u w (first_block w) same (is_of_between w (first_block w) (omega arith) (omega (arith, some_w))))))
    (λ (past : first_block u + block_count u ≤ first_block w). inl past)
    (cases_lt (first_block w) (first_block u + block_count u)))
    (λ (up : first_block w ≤ first_block u).
    ⊎_elim
    (λ (within : first_block u < first_block w + block_count w). absurd (none (first_block u) (is_of_between u (first_block u) (omega arith) (omega (arith, some_u))) (of_same u w (first_block u) same (is_of_between w (first_block u) up within))))
    (λ (past : first_block w + block_count w ≤ first_block u). inr past)
    (cases_lt (first_block u) (first_block w + block_count w)))
    (cases_lt (first_block u) (first_block w))

-- Blocks that are allocated are marked.

is_of_less : (w n b : ℕ) → is_of w n b ≡ true → b < first_block w + block_count w
unfolding is_of
is_of_less w n b e = grind (arith, nat_tests)

pub owned_marked : (files : BlockFiles) (from : Image) (w b : ℕ) → Agrees files from → stands_among files w ≡ true → kind_of w ≢ external → CanBeFreed from w → is_of w (file_selector w) b ≡ true → is_block_marked from (file_selector w) b ≡ true
owned_marked files from w b agrees stands blocky can is =
    let has = standing_blocks files from w agrees stands in
    let less = is_of_less w (file_selector w) b is in
    let owned = can.allocated in
    owned.are.marks b (let most = has.most in let below = has.below in omega (arith, less, most, below))
    ∙ claim_among owned.words w (BlockOf (file_selector w) b) owned.there (claims_blocks w (file_selector w) b (allocated_blocks from w blocky owned) ∙ is)

-- A new place.

pub of_blocks : (w n b : ℕ) → kind_of w ≢ external → is_block_of w n b ≡ is_of w n b
unfolding is_block_of
of_blocks w n b blocky = let t : (kind_of w == external) ≡ false = grind (arith, nat_tests) in rw t refl

-- the number of a new external file was free
pub new_number : (files : BlockFiles) (w : ℕ) (from made : Image) → w ≢ 0 → kind_of w ≡ external → IsNewPlace files w from made → has_file from (External (external_number w)) ≡ false
new_number files w from made some kind placed = by_site placed.site placed.at placed.makes.right
  where
    by_site : (s : Site) → IsSiteOf s w → IsSite files (kind_of w) from s → has_file from (External (external_number w)) ≡ false
    by_site Nowhere none right = absurd (some none)
    by_site (NewFile number) at right = subst (λ (n : ℕ). has_file from (External n) ≡ false) (sym at.1) right.1.free
    by_site (InFile n) at right = absurd (at.0 kind)
    by_site (InGrowth n) at right = absurd (at.0 kind)
    by_site (InAddition n) at right = absurd (at.0 kind)

-- a new place shares no block with an address that is allocated
pub new_blocks_apart : (files : BlockFiles) (u w : ℕ) (from made : Image) → Agrees files from → stands_among files u ≡ true → kind_of u ≢ external → kind_of w ≢ external → CanBeFreed from u → IsNewPlace files w from made → ShareNoBlock u w
new_blocks_apart files u w from made agrees stands blocky_u blocky_w can placed =
    none_shared u w
    (λ b of_u of_w. clash (sym (owned_marked files from u b agrees stands blocky_u can of_u) ∙ placed.free (file_selector u) b (stands_linked files u stands) (of_blocks w (file_selector u) b blocky_w ∙ of_w)))
  where
    clash : true ≡ false → ⊥
    clash e = cc

-- a new place shares no data with an address whose blocks are allocated or whose file is there
pub new_apart : (files : BlockFiles) (u w : ℕ) (from made : Image) → Agrees files from → w ≢ 0 → (kind_of u ≢ external → stands_among files u ≡ true) → MayBeFreed u from → (kind_of u ≡ external → has_file from (External (external_number u)) ≡ true) → IsNewPlace files w from made → ShareNoData u w
new_apart files u w from made agrees some stands may there placed = record {
  files = λ kind_u kind_w same. clash (sym (there kind_u) ∙ ap (λ (n : ℕ). has_file from (External n)) same ∙ new_number files w from made some kind_w placed);
  blocks = λ blocky_u blocky_w. new_blocks_apart files u w from made agrees (stands blocky_u) blocky_u blocky_w (may blocky_u) placed;
}
  where
    clash : true ≡ false → ⊥
    clash e = cc

-- Two addresses of which each used block has one owner.

pub own : (n : ℕ) → (n == n) ≡ true
own n = grind (arith, nat_tests)

pub blocks_back : (u v : ℕ) → ShareNoBlock u v → ShareNoBlock v u
blocks_back u v apart same = ⊎_elim (λ one. inr one) (λ one. inl one) (apart (sym same))

module _ (u : ℕ) (words : List ℕ) (w : ℕ) (once : repeats (claims_of_all (u ∷ words)) ≡ false) (among : is_among words w ≡ true) where
  apart_claims : (claim : Claim) → has_claim (claims_of u) claim ≡ true → has_claim (claims_of w) claim ≡ true → ⊥
  apart_claims claim of_u of_w = (once_parts (claims_of u) (claims_of_all words) once).1 claim of_u (claim_among words w claim among of_w)

  pub owners_apart : u ≢ 0 → w ≢ 0 → ShareNoData u w
  owners_apart some_u some_w = record {
    files = λ kind_u kind_w same. apart_claims (ExternalOf (external_number u)) (external-claim u (ExternalOf (external_number u)) some_u kind_u (own (external_number u)))
        (external-claim w (ExternalOf (external_number u)) some_w kind_w (let e : (external_number u == external_number w) ≡ true = grind (arith, nat_tests) in e));
    blocks = λ blocky_u blocky_w. none_shared u w
        (λ b of_u of_w. apart_claims (BlockOf (file_selector u) b) (claims_blocks u (file_selector u) b (record { some = some_u; block_kind = blocky_u }) ∙ of_u) (claims_blocks w (file_selector u) b (record { some = some_w; block_kind = blocky_w }) ∙ of_w));
  }
