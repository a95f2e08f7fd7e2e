-- The blocks of a linked file of a folder with valid headers have the bytes of its kind.
use Rattle.std.proofs.Common.{◌≡◌, ℕ, zero, suc, List, [], ◌∷◌, ◌++◌, Bool, true, false, if◌then◌else◌, Option, None, Some, refl, subst, ⊎_elim}
use Rattle.std.specs.Prelude.{◌==◌}
use Rattle.std.proofs.lemmas.Bool.{eqb-true, or_cases}
use Rattle.spec_image.specs.Checks.{first_of}
use Rattle.spec_image.specs.Image.{Block, Image, Index, byte, length_of}
use Rattle.spec_format.specs.Address.{block_size}
use Rattle.spec_format.specs.BlockFiles.{block_checks, checks_along, checks_of_kind, file_checks, files_along, first_block_damage, is_among, kind_among, linked, linked_as, linked_up_to, next_file_in, HasSoundHeaders}
use Rattle.spec_format.specs.Headers.{entry_size_of, field_checks, list_checks}
use Rattle.spec_format.proofs.Keeping.{checks_hold, each_kind, none_parts}

HasSize : Image → ℕ → ℕ → Type 0
HasSize image kind m = entry_size_of (byte image (Block m)) ≡ block_size kind

abbrev checks_at : Image → ℕ → List ℕ → ℕ → ℕ → Type 0
checks_at image kind met left k = first_of (file_checks kind met left k (byte image (Block k)) (length_of image (Block k))) ≡ None

size_checked : (image : Image) (kind : ℕ) (met : List ℕ) (left k m : ℕ) → (k == m) ≡ true → checks_at image kind met left k → HasSize image kind m
unfolding HasSize
size_checked image kind met left k m same none =
    subst (HasSize image kind) (eqb-true k m same) (eqb-true (entry_size_of (byte image (Block k))) (block_size kind) (checks_hold kind met left k (byte image (Block k)) (length_of image (Block k)) none).entry_size)

along_sized : (image : Image) (kind left k : ℕ) (met : List ℕ) (m : ℕ) → is_among (files_along (next_file_in image) left k) m ≡ true → first_of (checks_along image kind met left k) ≡ None → HasSize image kind m
unfolding files_along checks_along
along_sized image kind zero k met m among none =
    ⊎_elim (λ here. size_checked image kind (met ++ k ∷ []) 0 k m here none) (λ e. absurd (clash e)) (or_cases (k == m) false among)
  where
    clash : false ≡ true → ⊥
    clash e = cc
along_sized image kind (suc left) k met m among none =
    ⊎_elim (λ here. size_checked image kind (met ++ k ∷ []) (suc left) k m here parts.0)
    (λ there. by_test (next_file_in image k == 0) there parts.1 (along_sized image kind left (next_file_in image k) (met ++ k ∷ []) m))
    (or_cases (k == m) (is_among (if next_file_in image k == 0 then [] else files_along (next_file_in image) left (next_file_in image k)) m) among)
  where
    parts : checks_at image kind (met ++ k ∷ []) (suc left) k × (first_of (if next_file_in image k == 0 then [] else checks_along image kind (met ++ k ∷ []) left (next_file_in image k)) ≡ None)
    parts = none_parts (file_checks kind (met ++ k ∷ []) (suc left) k (byte image (Block k)) (length_of image (Block k)))
        (if next_file_in image k == 0 then [] else checks_along image kind (met ++ k ∷ []) left (next_file_in image k)) none

    clash : false ≡ true → ⊥
    clash e = cc

    by_test : (t : Bool) → is_among (if t then [] else files_along (next_file_in image) left (next_file_in image k)) m ≡ true
        → first_of (if t then [] else checks_along image kind (met ++ k ∷ []) left (next_file_in image k)) ≡ None
        → (is_among (files_along (next_file_in image) left (next_file_in image k)) m ≡ true → first_of (checks_along image kind (met ++ k ∷ []) left (next_file_in image k)) ≡ None → HasSize image kind m)
        → HasSize image kind m
    by_test true there none rest = absurd (clash there)
    by_test false there none rest = rest there none

linked_sized : (image : Image) (kind m : ℕ) → first_block_damage image ≡ None → linked_as image m ≡ Some kind → HasSize image kind m
unfolding kind_among linked checks_of_kind
linked_sized image kind m undamaged is = go (is_among (linked image 1) m) (is_among (linked image 2) m) (is_among (linked image 3) m) (is_among (linked image 4) m) refl refl refl refl is
  where
    some : (a b : ℕ) → ◌≡◌ {A = Option ℕ} (Some a) (Some b) → a ≡ b
    some a b e = cc

    go : (a b c d : Bool) → is_among (linked image 1) m ≡ a → is_among (linked image 2) m ≡ b → is_among (linked image 3) m ≡ c → is_among (linked image 4) m ≡ d
        → ◌≡◌ {A = Option ℕ} (if a then Some 1 else if b then Some 2 else if c then Some 3 else if d then Some 4 else None) (Some kind) → HasSize image kind m
    go true b c d ea eb ec ed e = subst (λ (k : ℕ). HasSize image k m) (some 1 kind e) (along_sized image 1 59 0 (linked_up_to image 0) m ea (each_kind image undamaged).0)
    go false true c d ea eb ec ed e = subst (λ (k : ℕ). HasSize image k m) (some 2 kind e) (along_sized image 2 59 1 (linked_up_to image 1) m eb (each_kind image undamaged).1)
    go false false true d ea eb ec ed e = subst (λ (k : ℕ). HasSize image k m) (some 3 kind e) (along_sized image 3 59 2 (linked_up_to image 2) m ec (each_kind image undamaged).2)
    go false false false true ea eb ec ed e = subst (λ (k : ℕ). HasSize image k m) (some 4 kind e) (along_sized image 4 59 3 (linked_up_to image 3) m ed (each_kind image undamaged).3)
    go false false false false ea eb ec ed e = absurd (let z : ◌≡◌ {A = Option ℕ} None (Some kind) = e in cc)

pub size_of_kind : (image : Image) (kind m : ℕ) → HasSoundHeaders image → linked_as image m ≡ Some kind → entry_size_of (byte image (Block m)) ≡ block_size kind
unfolding field_checks list_checks HasSize
size_of_kind image kind m well linked =
    let p = none_parts (field_checks (byte image Index) (length_of image Index)) (list_checks (byte image Index) ++ block_checks image) well in
    let q = none_parts (list_checks (byte image Index)) (block_checks image) p.1 in
    linked_sized image kind m q.1 linked
