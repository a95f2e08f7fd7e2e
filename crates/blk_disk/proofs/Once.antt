-- Each block file is linked once, where no check of a header fails.
use Rattle.std.proofs.Common.{◌≡◌, ◌≢◌, ℕ, zero, suc, ◌-◌, ◌<◌, Bool, true, false, if◌then◌else◌, List, [], ◌∷◌, ◌++◌, None, Some, refl, sym, ◌∙◌, subst, arith}
use Rattle.std.specs.Prelude.{◌&&◌, ◌||◌, ◌==◌, not, nat_le, nat_lt}
use Rattle.std.specs.List.{IsDistinct, AllByRecursion}
use Rattle.std.proofs.lemmas.Bool.{and_parts, eq-eqb, or_right}
use Rattle.std.proofs.lemmas.Bool.Decides.{nat_tests}
use Rattle.spec_image.specs.Checks.{first_of}
use Rattle.spec_image.specs.Image.{Image, Block, byte, length_of}
use Rattle.spec_format.specs.Address.{is_block_kind}
use Rattle.spec_format.specs.BlockFiles.{checks_along, checks_of_kind, files_along, file_checks, first_block_damage, is_among, is_link, kind_among, linked, linked_as, linked_up_to, next_file_in}
use Rattle.spec_format.proofs.Among.{is_among_more}
use Rattle.spec_format.proofs.Keeping.{first_along, link_of, none_parts}
use Rattle.blk_disk.specs.Linked.{LinkedFilesAreDistinct, LinkedFilesHaveOneKind}
use Rattle.blk_disk.proofs.Chains.{IsMet, fails, kind_none, linked_once, met_along, met_in}

-- a number that isn't in a list is unlike each of it
pub apart : (k : ℕ) (ns : List ℕ) → is_among ns k ≡ false → AllByRecursion (λ n. (k == n) ≡ false) ns
apart k [] none = tt
apart k (n ∷ ns) none = by_test (apart k ns) (n == k) refl none
  where
    by_test : (is_among ns k ≡ false → AllByRecursion (λ n. (k == n) ≡ false) ns) → (t : Bool) → (n == k) ≡ t → (t || is_among ns k) ≡ false → AllByRecursion (λ n. (k == n) ≡ false) (n ∷ ns)
    by_test more true e none = absurd (let z : true ≡ false = none in cc)
    by_test more false e none = (grind (arith, nat_tests), more none)

Distinct : List ℕ → Type 0
Distinct ns = IsDistinct (λ m n. m == n) ns

-- no file occurs twice along the links
distinct_along : (image : Image) (kind left k : ℕ) (met : List ℕ) → is_among met k ≡ false → first_of (checks_along image kind met left k) ≡ None → Distinct (files_along (next_file_in image) left k)
unfolding files_along checks_along is_link Distinct IsDistinct
distinct_along image kind zero k met fresh none = (tt, tt)
distinct_along image kind (suc left) k met fresh none =
    let parts = none_parts (file_checks kind (met ++ k ∷ []) (suc left) k (byte image (Block k)) (length_of image (Block k))) (if next_file_in image k == 0 then [] else checks_along image kind (met ++ k ∷ []) left (next_file_in image k)) none in
    rest (next_file_in image k == 0) refl (link_of image kind (met ++ k ∷ []) (suc left) k parts.0) parts.1
    (λ next_fresh none2. distinct_along image kind left (next_file_in image k) (met ++ k ∷ []) next_fresh none2)
    (λ next_fresh none2 among. met_along image kind left (next_file_in image k) (met ++ k ∷ []) k next_fresh among none2)
  where
    itself : is_among (met ++ k ∷ []) k ≡ true
    itself = is_among_more met k k ∙ or_right (is_among met k) (k == k) (eq-eqb k k refl)

    not_among : (b : Bool) → not b ≡ true → b ≡ false
    not_among true e = absurd (let z : false ≡ true = e in cc)
    not_among false e = refl

    rest : (t : Bool) → (next_file_in image k == 0) ≡ t → ((next_file_in image k == 0) || (nat_le 4 (next_file_in image k) && nat_le (next_file_in image k) 255 && not (is_among (met ++ k ∷ []) (next_file_in image k)) && nat_lt 0 (suc left))) ≡ true
        → first_of (if next_file_in image k == 0 then [] else checks_along image kind (met ++ k ∷ []) left (next_file_in image k)) ≡ None
        → (is_among (met ++ k ∷ []) (next_file_in image k) ≡ false → first_of (checks_along image kind (met ++ k ∷ []) left (next_file_in image k)) ≡ None → Distinct (files_along (next_file_in image) left (next_file_in image k)))
        → (is_among (met ++ k ∷ []) (next_file_in image k) ≡ false → first_of (checks_along image kind (met ++ k ∷ []) left (next_file_in image k)) ≡ None → is_among (files_along (next_file_in image) left (next_file_in image k)) k ≡ true → IsMet image (met ++ k ∷ []) (next_file_in image k) k)
        → Distinct (k ∷ (if next_file_in image k == 0 then [] else files_along (next_file_in image) left (next_file_in image k)))
    rest true e link none2 more met2 = rw e (tt, tt)
    rest false e link none2 more met2 =
        let links : (nat_le 4 (next_file_in image k) && nat_le (next_file_in image k) 255 && not (is_among (met ++ k ∷ []) (next_file_in image k)) && nat_lt 0 (suc left)) ≡ true = rw e at link in
        let one = (and_parts (nat_le 4 (next_file_in image k) && nat_le (next_file_in image k) 255 && not (is_among (met ++ k ∷ []) (next_file_in image k))) _ links).0 in
        let next_fresh : is_among (met ++ k ∷ []) (next_file_in image k) ≡ false = not_among _ (and_parts (nat_le 4 (next_file_in image k) && nat_le (next_file_in image k) 255) _ one).1 in
        let none3 : first_of (checks_along image kind (met ++ k ∷ []) left (next_file_in image k)) ≡ None = rw e at none2 in
        rw e (
          apart k (files_along (next_file_in image) left (next_file_in image k)) (fails _ (λ among. let is = met2 next_fresh none3 among in let z : true ≡ false = sym itself ∙ is.fresh in absurd cc)),
          more next_fresh none3,
        )

-- the kinds, by the numbers of their first files
by_first : (P : ℕ → Type 0) → ((j : ℕ) → j < 4 → P (suc j)) → (kind : ℕ) → is_block_kind kind ≡ true → P kind
by_first P each zero holds = absurd (let z : false ≡ true = holds in cc)
by_first P each (suc j) holds = let small : j < 4 = grind (arith, nat_tests) in each j small

distinct_kind : (image : Image) → first_block_damage image ≡ None → (j : ℕ) → j < 4 → Distinct (linked image (suc j))
unfolding linked checks_of_kind Distinct
distinct_kind image none j small =
    let e : suc j - 1 ≡ j = omega arith in
    let kind : is_block_kind (suc j) ≡ true = grind (arith, nat_tests) in
    let first : is_among (files_along (next_file_in image) 59 (suc j - 1)) j ≡ true = subst (λ (i : ℕ). is_among (files_along (next_file_in image) 59 i) j ≡ true) (sym e) (first_along (next_file_in image) 59 j) in
    let fresh : is_among (linked_up_to image j) j ≡ false = (met_in image none j small j first).fresh in
    subst (λ (i : ℕ). Distinct (files_along (next_file_in image) 59 i)) (sym e)
    (distinct_along image (suc j) 59 j (linked_up_to image j) fresh (subst (λ (i : ℕ). first_of (checks_along image (suc j) (linked_up_to image i) 59 i) ≡ None) e (kind_none image none (suc j) kind)))

pub distinct : LinkedFilesAreDistinct
unfolding Distinct
distinct image none kind holds = by_first (λ kind. Distinct (linked image kind)) (distinct_kind image none) kind holds

pub one_kind : LinkedFilesHaveOneKind
unfolding kind_among
one_kind image none kind holds n among = by_first (λ kind. is_among (linked image kind) n ≡ true → linked_as image n ≡ Some kind) each kind holds among
  where
    other : (i j : ℕ) → i ≢ j → i < 4 → j < 4 → is_among (linked image (suc j)) n ≡ true → is_among (linked image (suc i)) n ≡ false
    other i j differs low high there = fails _ (λ here. linked_once image none i j n differs low high here there)

    each : (j : ℕ) → j < 4 → is_among (linked image (suc j)) n ≡ true → linked_as image n ≡ Some (suc j)
    each zero small there = rw there refl
    each (suc zero) small there = rw (other 0 1 (λ e. cc) (omega arith) (omega arith) there, there) refl
    each (suc (suc zero)) small there = rw (other 0 2 (λ e. cc) (omega arith) (omega arith) there, other 1 2 (λ e. cc) (omega arith) (omega arith) there, there) refl
    each (suc (suc (suc zero))) small there =
        rw (other 0 3 (λ e. cc) (omega arith) (omega arith) there, other 1 3 (λ e. cc) (omega arith) (omega arith) there, other 2 3 (λ e. cc) (omega arith) (omega arith) there, there) refl
    each (suc (suc (suc (suc j)))) small there = absurd (omega arith)
