-- An image has fewer records that are there than there are first blocks.
use Rattle.std.proofs.Common.{◌≡◌, ◌≢◌, ⊎_elim, ℕ, ◌^◌, ◌<◌, ◌≤◌, true, false, List, [], ◌∷◌, length, map, Option, Some, None, refl, sym, ◌∙◌, ap, subst, arith}
use Rattle.std.specs.Prelude.{◌==◌, ◌&&◌}
use Rattle.std.specs.Option.{option_map_or}
use Rattle.std.proofs.lemmas.Bool.{or_cases, or_left, or_right, eq-eqb, eqb-true, cases_Bool}
use Rattle.std.proofs.lemmas.List.{length-map}
use Rattle.spec_image.specs.Image.{Image}
use Rattle.spec_format.specs.Address.{kind_of, file_selector, external, rankings, blocks_256}
use Rattle.spec_format.specs.BlockFiles.{is_among, linked, linked_as, next_file_in, kind_among}
use Rattle.spec_format.proofs.Keeping.{first_along}
use Rattle.spec_folder.specs.View.{RecordFields, stands_as, store_of}
use Rattle.spec_folder.specs.Chains.{bucket_of_hash, file_and_block, Linked}
use Rattle.law_folder.specs.ListLaws.{RecordsOfImagesAreFew, ChainsOfImagesAreShort}
use Rattle.law_folder.proofs.claims.ByteChanges.{stands-linked}
use Rattle.law_folder.proofs.updates.StillShown.{core-standing, standing-parts}
use Rattle.law_folder.proofs.chains.ChainSizes.{at-most, below-all}

-- the file 0 is linked as one of nodes
nodes-first : (image : Image) → linked_as image 0 ≡ Some rankings
unfolding kind_among linked
nodes-first image = rw (first_along (next_file_in image) 59 0) refl

-- so no record is in the file 0
elsewhere : (image : Image) (w : ℕ) → stands_as image blocks_256 w ≡ true → (file_and_block w == 0) ≡ false
unfolding file_selector
elsewhere image w stands = ⊎_elim
    (λ (e : (file_and_block w == 0) ≡ true). let p = standing-parts image blocks_256 w stands in
    let file : file_selector w ≡ 0 = let is : file_and_block w ≡ 0 = eqb-true (file_and_block w) 0 e in omega (arith, is) in
    let other : kind_of w ≢ external = λ (same : kind_of w ≡ external). let c : ◌≡◌ {A = ℕ} 2 0 = sym p.1 ∙ same in cc in
    let record_file : linked_as image (file_selector w) ≡ Some (kind_of w) = stands-linked image w p.0 other in
    absurd (let c : ◌≡◌ {A = Option ℕ} (Some 1) (Some 2) = sym (nodes-first image) ∙ ap (linked_as image) (sym file) ∙ record_file ∙ ap Some p.1 in cc))
    (λ (e : (file_and_block w == 0) ≡ false). e)
    (cases_Bool (file_and_block w == 0))

none-first : (image : Image) (words : List ℕ) → ((w : ℕ) → is_among words w ≡ true → stands_as image blocks_256 w ≡ true) → is_among (map file_and_block words) 0 ≡ false
none-first image [] stands = refl
none-first image (w ∷ words) stands =
    rw (elsewhere image w (stands w (or_left (w == w) (is_among words w) (eq-eqb w w refl)))) (none-first image words (λ u among. stands u (or_right (w == u) (is_among words u) among)))

pub records-few : RecordsOfImagesAreFew
records-few image words stands once =
    let more : length (0 ∷ map file_and_block words) ≤ 2 ^ 24 = at-most (2 ^ 24) (0 ∷ map file_and_block words) (none-first image words stands, once) below in
    omega (arith, more, length-map words file_and_block) where
      below : (x : ℕ) → is_among (0 ∷ map file_and_block words) x ≡ true → x < 2 ^ 24
      below x h = ⊎_elim (λ (e : (0 == x) ≡ true). let is : 0 ≡ x = eqb-true 0 x e in omega (arith, is)) (λ (e : is_among (map file_and_block words) x ≡ true). below-all words x e) (or_cases (0 == x) (is_among (map file_and_block words) x) h)

-- each record of a chain is there
pub all-stand : (image : Image) (b w : ℕ) (words : List ℕ) → Linked (store_of image) b w words → (x : ℕ) → is_among words x ≡ true → stands_as image blocks_256 x ≡ true
all-stand image b w [] linked x among = cc
all-stand image b w (y ∷ words) linked x among = ⊎_elim
    (λ (e : (y == x) ≡ true). subst (λ (z : ℕ). stands_as image blocks_256 z ≡ true) (eqb-true y x e) (by ((store_of image).entry y) refl linked.1))
    (λ (e : is_among words x ≡ true). all-stand image b ((store_of image).chain_next y) words linked.2 x e)
    (or_cases (y == x) (is_among words x) among) where
      by : (o : Option RecordFields) → (store_of image).entry y ≡ o → option_map_or (λ fields. fields.checks && (bucket_of_hash fields.hash == b)) o false ≡ true → stands_as image blocks_256 y ≡ true
      by None e h = cc
      by (Some fields) e h = core-standing image y fields e

pub image-chains-short : ChainsOfImagesAreShort
image-chains-short image b words is = records-few image words (all-stand image b ((store_of image).table b) words is.linked) is.once
