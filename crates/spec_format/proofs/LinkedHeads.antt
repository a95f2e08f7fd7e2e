-- What the checks of the linked block files say of each of them.
use Rattle.std.proofs.Common.{◌≡◌, ℕ, zero, suc, ◌-◌, ◌<◌, ◌≤◌, ◌⊎◌, List, [], ◌∷◌, ◌++◌, Bool, true, false, if◌then◌else◌, None, Some, refl, subst, arith, ⊎_elim}
use Rattle.std.specs.Prelude.{◌==◌, ◌%◌, is_some}
use Rattle.std.proofs.lemmas.Bool.Decides.{nat_tests}
use Rattle.std.proofs.lemmas.Bool.{or_cases}
use Rattle.spec_image.specs.Bytes.{word_at}
use Rattle.spec_image.specs.Image.{Image, Block, byte, length_of}
use Rattle.spec_image.specs.Checks.{first_of}
use Rattle.spec_image.proofs.FirstChecks.{all_none, passed}
use Rattle.spec_format.specs.Address.{is_block_kind}
use Rattle.spec_format.specs.Headers.{next_file_of}
use Rattle.spec_format.specs.BlockFiles.{is_among, is_link, kind_among, linked, linked_as, files_along, next_file_in, max_entries_in, is_block_count, file_checks, checks_along, checks_of_kind, linked_up_to, first_block_damage, most_blocks}
use Rattle.spec_format.proofs.Keeping.{none_parts, each_kind, checks_hold}

-- the link of a file whose checks hold
pub link_passed : (kind : ℕ) (met : List ℕ) (left n : ℕ) (f : ℕ → ℕ) (size : ℕ) → first_of (file_checks kind met left n f size) ≡ None → is_link met left (next_file_of f) ≡ true
unfolding file_checks
link_passed kind met left n f size none = passed (Block n) 8 (word_at f 8) (is_link met left (next_file_of f)) (all_none (file_checks kind met left n f size) none 4)

link_small : (met : List ℕ) (left next : ℕ) → is_link met left next ≡ true → next < 256
unfolding is_link
link_small met left next holds = grind (arith, nat_tests)

pub next_small : (kind : ℕ) (met : List ℕ) (left n : ℕ) (f : ℕ → ℕ) (size : ℕ) → first_of (file_checks kind met left n f size) ≡ None → next_file_of f < 256
next_small kind met left n f size none = link_small met left (next_file_of f) (link_passed kind met left n f size none)

-- what the checks of a linked file say
pub record HasHead (image : Image) (m : ℕ) : Type 0 where
  pub number : m < 256
  pub header : 8192 ≤ length_of image (Block m)
  pub count : is_block_count (max_entries_in image m) ≡ true

head_checked : (image : Image) (kind : ℕ) (met : List ℕ) (left m : ℕ) → m < 256 → first_of (file_checks kind met left m (byte image (Block m)) (length_of image (Block m))) ≡ None → HasHead image m
unfolding max_entries_in
head_checked image kind met left m small none = let passed = checks_hold kind met left m (byte image (Block m)) (length_of image (Block m)) none in let whole = passed.whole in record { number = small; header = grind (arith, nat_tests); count = passed.count }

same_number : (k m : ℕ) → (k == m) ≡ true → k ≡ m
same_number k m e = grind (arith, nat_tests)

along_checked : (image : Image) (kind left k : ℕ) (met : List ℕ) (m : ℕ) → k < 256 → is_among (files_along (next_file_in image) left k) m ≡ true → first_of (checks_along image kind met left k) ≡ None → HasHead image m
unfolding files_along checks_along
along_checked image kind zero k met m small among none =
    ⊎_elim (λ here. subst (HasHead image) (same_number k m here) (head_checked image kind (met ++ k ∷ []) 0 k small none)) (λ e. absurd (clash e)) (or_cases (k == m) false among)
  where
    clash : false ≡ true → ⊥
    clash e = cc
along_checked image kind (suc left) k met m small among none =
    ⊎_elim (λ here. subst (HasHead image) (same_number k m here) (head_checked image kind (met ++ k ∷ []) (suc left) k small parts.0))
    (λ there. by_test (next_file_in image k == 0) there parts.1 (along_checked image kind left (next_file_in image k) (met ++ k ∷ []) m (unfold next_file_in in next_small kind (met ++ k ∷ []) (suc left) k (byte image (Block k)) (length_of image (Block k)) parts.0)))
    (or_cases (k == m) (is_among (if next_file_in image k == 0 then [] else files_along (next_file_in image) left (next_file_in image k)) m) among)
  where
    parts : (first_of (file_checks kind (met ++ k ∷ []) (suc left) k (byte image (Block k)) (length_of image (Block k))) ≡ None) × (first_of (if next_file_in image k == 0 then [] else checks_along image kind (met ++ k ∷ []) left (next_file_in image k)) ≡ None)
    parts = none_parts (file_checks kind (met ++ k ∷ []) (suc left) k (byte image (Block k)) (length_of image (Block k))) (if next_file_in image k == 0 then [] else checks_along image kind (met ++ k ∷ []) left (next_file_in image k)) none

    clash : false ≡ true → ⊥
    clash e = cc

    by_test : (t : Bool) → is_among (if t then [] else files_along (next_file_in image) left (next_file_in image k)) m ≡ true
        → first_of (if t then [] else checks_along image kind (met ++ k ∷ []) left (next_file_in image k)) ≡ None
        → (is_among (files_along (next_file_in image) left (next_file_in image k)) m ≡ true → first_of (checks_along image kind (met ++ k ∷ []) left (next_file_in image k)) ≡ None → HasHead image m) → HasHead image m
    by_test true there none rest = absurd (clash there)
    by_test false there none rest = rest there none

-- a linked file of a folder in which no check of a block file fails has its header, and a number of blocks that is allowed
pub linked_checked : (image : Image) (kind m : ℕ) → first_block_damage image ≡ None → is_block_kind kind ≡ true → is_among (linked image kind) m ≡ true → HasHead image m
unfolding linked checks_of_kind
linked_checked image kind m undamaged block_kind among =
    let each = each_kind image undamaged in
    by_kind kind (grind (arith, nat_tests)) (grind (arith, nat_tests)) among each
  where
    by_kind : (k : ℕ) → 1 ≤ k → k ≤ 4 → is_among (files_along (next_file_in image) 59 (k - 1)) m ≡ true
        → ((first_of (checks_of_kind image 1) ≡ None) × (first_of (checks_of_kind image 2) ≡ None) × (first_of (checks_of_kind image 3) ≡ None) × (first_of (checks_of_kind image 4) ≡ None)) → HasHead image m
    by_kind zero low high there each = absurd (omega arith)
    by_kind (suc zero) low high there each = along_checked image 1 59 0 (linked_up_to image 0) m (omega arith) there each.0
    by_kind (suc (suc zero)) low high there each = along_checked image 2 59 1 (linked_up_to image 1) m (omega arith) there each.1
    by_kind (suc (suc (suc zero))) low high there each = along_checked image 3 59 2 (linked_up_to image 2) m (omega arith) there each.2
    by_kind (suc (suc (suc (suc zero)))) low high there each = along_checked image 4 59 3 (linked_up_to image 3) m (omega arith) there each.3
    by_kind (suc (suc (suc (suc (suc k))))) low high there each = absurd (omega arith)

-- whole groups, and no more than a file has
pub count_whole : (k : ℕ) → is_block_count k ≡ true → (k % 4 ≡ 0) × (k ≤ most_blocks)
unfolding is_block_count
count_whole k is = (grind (arith, nat_tests), grind (arith, nat_tests))

-- each linked file has a head with whole groups
pub linked_head : (image : Image) (m : ℕ) → first_block_damage image ≡ None → is_some (linked_as image m) ≡ true → HasHead image m
unfolding kind_among
linked_head image m undamaged is = go (is_among (linked image 1) m) (is_among (linked image 2) m) (is_among (linked image 3) m) (is_among (linked image 4) m) refl refl refl refl is
  where
    go : (a b c d : Bool) → is_among (linked image 1) m ≡ a → is_among (linked image 2) m ≡ b → is_among (linked image 3) m ≡ c → is_among (linked image 4) m ≡ d
        → is_some {T = ℕ} (if a then Some 1 else if b then Some 2 else if c then Some 3 else if d then Some 4 else None) ≡ true → HasHead image m
    go true b c d ea eb ec ed some = linked_checked image 1 m undamaged refl ea
    go false true c d ea eb ec ed some = linked_checked image 2 m undamaged refl eb
    go false false true d ea eb ec ed some = linked_checked image 3 m undamaged refl ec
    go false false false true ea eb ec ed some = linked_checked image 4 m undamaged refl ed
    go false false false false ea eb ec ed some = absurd (let z : false ≡ true = some in cc)
