-- The word of a node that is there and what it uses: two nodes share no block.
use Rattle.std.proofs.Common.{◌≡◌, ◌≢◌, ⊎_elim, ℕ, ◌+◌, ◌/◌, ◌%◌, ◌^◌, ◌<◌, List, [], ◌∷◌, refl, ap, ap₂, sym, ◌∙◌, arith, Bool, true, false}
use Rattle.std.specs.Prelude.{◌&&◌, ◌||◌, ◌==◌, nat_le, not}
use Rattle.std.proofs.lemmas.Bool.{eqb-true, eq-eqb, cases_Bool, and_parts}
use Rattle.spec_image.specs.Image.{Image}
use Rattle.spec_format.specs.Address.{is_address, is_initialized, names_external, names_blocks, is_block_kind, kind_of, reserved_bits, block_count, file_selector, first_block, block_word, external, rankings}
use Rattle.spec_format.specs.BlockFiles.{stands_in}
use Rattle.spec_format.specs.Claims.{Claim, BlockOf, same_claim, claims_of, has_claim}
use Rattle.spec_format.proofs.Words.{block_word-of-fields}
use Rattle.spec_folder.specs.View.{stands_as}
use Rattle.spec_folder.specs.Footprint.{IsClear}
use Rattle.law_folder.proofs.claims.ClaimLists.{claim-head, no-claim}
use Rattle.law_folder.proofs.claims.ByteChanges.{stands-some, stands-address, not_equal}
use Rattle.law_folder.proofs.states.Laid.{same_claim-eq}

pub node_apart : rankings ≢ external
node_apart e = let x : ◌≡◌ {A = ℕ} 1 0 = e in cc

-- what a valid node's word is
pub record IsNode (image : Image) (w : ℕ) : Type 0 where
  pub stands : stands_in image w ≡ true
  pub kind : kind_of w ≡ rankings
  pub one : block_count w ≡ 1
  pub is : block_word 1 (file_selector w) (first_block w) 1 ≡ w

external-not : (w : ℕ) → kind_of w ≡ rankings → names_external w ≡ false
unfolding names_external
external-not w kind = rw kind refl

pub initialized-fits : (w : ℕ) → is_initialized w ≡ true → w < 2 ^ 32
unfolding is_initialized
initialized-fits w e = let top : w / 2 ^ 31 ≡ 1 = eqb-true (w / 2 ^ 31) 1 e in omega arith

pub is-node : (image : Image) (w : ℕ) → stands_as image rankings w ≡ true → IsNode image w
unfolding is_address names_blocks
is-node image w st =
    let p = and_parts (stands_in image w) (kind_of w == rankings) st in
    let kind : kind_of w ≡ rankings = eqb-true (kind_of w) rankings p.1 in
    let address = stands-address image w p.0 in
    let parts = and_parts (is_initialized w) (names_external w || names_blocks w) address in
    let blocks : names_blocks w ≡ true = go (names_external w) (names_blocks w) (no-external kind) parts.1 in
    let a = and_parts (is_block_kind (kind_of w) && (reserved_bits w == 0) && nat_le (first_block w % 4 + block_count w) 4) (not (kind_of w == rankings) || (block_count w == 1)) blocks in
    let b = and_parts (is_block_kind (kind_of w) && (reserved_bits w == 0)) _ a.0 in
    let reserved : reserved_bits w ≡ 0 = eqb-true (reserved_bits w) 0 (and_parts (is_block_kind (kind_of w)) (reserved_bits w == 0) b.0).1 in
    let one : block_count w ≡ 1 = eqb-true (block_count w) 1 (last (kind_of w == rankings) (block_count w == 1) p.1 a.1) in
    let small : w < 2 ^ 32 = fits parts.0 in
    record { stands = p.0; kind = kind; one = one; is = ap₂ (λ (k n : ℕ). block_word k (file_selector w) (first_block w) n) (sym kind) (sym one) ∙ block_word-of-fields w small parts.0 reserved } where
      go : (a b : Bool) → a ≡ false → (a || b) ≡ true → b ≡ true
      go a b none some = rw none at some

      last : (a b : Bool) → a ≡ true → (not a || b) ≡ true → b ≡ true
      last a b first some = rw first at some

      no-external : kind_of w ≡ rankings → names_external w ≡ false
      no-external kind = external-not w kind

      fits : is_initialized w ≡ true → w < 2 ^ 32
      fits = initialized-fits w

node-claims : (image : Image) (w : ℕ) → IsNode image w → claims_of w ≡ BlockOf (file_selector w) (first_block w) ∷ []
unfolding claims_of
node-claims image w node =
    let some : (w == 0) ≡ false = not_equal w 0 (stands-some image w node.stands) in
    let block_kind : (kind_of w == external) ≡ false = not_equal (kind_of w) external (λ e. node_apart (sym node.kind ∙ e)) in
    rw (some, block_kind, node.one) refl

only-claim : (c d : Claim) → has_claim (d ∷ []) c ≡ true → c ≡ d
only-claim c d h = same_claim-eq c d (left (same_claim c d) (has_claim [] c) (no-claim c) (sym (claim-head d [] c) ∙ h)) where
  left : (a b : Bool) → b ≡ false → (a || b) ≡ true → a ≡ true
  left true b none e = refl
  left false b none e = absurd (let z : false ≡ true = sym none ∙ e in cc)

block-parts : (f g b c : ℕ) → BlockOf f b ≡ BlockOf g c → (f ≡ g) × (b ≡ c)
block-parts f g b c e = (cc, cc)

-- two nodes share no block
pub other-clear : (image : Image) (w x : ℕ) → IsNode image w → IsNode image x → (w == x) ≡ false → IsClear (has_claim (claims_of w)) x
other-clear image w x node other apart c h = ⊎_elim
    (λ (e : has_claim (claims_of w) c ≡ true).
    let in_x : c ≡ BlockOf (file_selector x) (first_block x) = only-claim c _ (ap (λ (cs : List Claim). has_claim cs c) (sym (node-claims image x other)) ∙ h) in
    let in_w : c ≡ BlockOf (file_selector w) (first_block w) = only-claim c _ (ap (λ (cs : List Claim). has_claim cs c) (sym (node-claims image w node)) ∙ e) in
    let p = block-parts (file_selector w) (file_selector x) (first_block w) (first_block x) (sym in_w ∙ in_x) in
    let same : w ≡ x = sym node.is ∙ ap₂ (λ (f b : ℕ). block_word 1 f b 1) p.0 p.1 ∙ other.is in
    absurd (let z : true ≡ false = sym (eq-eqb w x same) ∙ apart in cc))
    (λ (e : has_claim (claims_of w) c ≡ false). e)
    (cases_Bool (has_claim (claims_of w) c))
