-- Tables of block files that get longer, or more: what was valid among them still is.
use Rattle.std.proofs.Common.{◌≡◌, ◌≢◌, ℕ, ◌+◌, ◌<◌, ◌≤◌, List, max, Bool, true, false, ◌&&◌, ◌||◌, if◌then◌else◌, nat_le, Option, Some, None, refl, sym, ◌∙◌, ap, ap₂, subst, arith, ⊎_elim}
use Rattle.std.specs.Prelude.{◌==◌}
use Rattle.std.proofs.lemmas.Bool.{cases_eq}
use Rattle.std.proofs.lemmas.Bool.Decides.{nat_tests}
use Rattle.spec_format.specs.Address.{kind_of, file_selector, first_block, block_count, place, byte_size}
use Rattle.spec_format.specs.Standing.{is_linked_as, stands_as_blocks}
use Rattle.spec_format.specs.BlockFiles.{is_among, kind_among, most_blocks}
use Rattle.spec_format.proofs.Among.{is_among_more}
use Rattle.blk_disk.specs.declared.tables.BlockFiles.{BlockFiles}
use Rattle.blk_disk.specs.Tables.{Enlarges, Joins, Resizes, files_of, all_files, blocks_of, length_in, stands_among}
use Rattle.blk_disk.specs.Growth.{grown, grown_length}
use Rattle.blk_disk.proofs.Ranges.{stands_linked}
use Rattle.blk_alloc.specs.Extending.{KeepsStanding}

-- each file that was kept has its kind, and no fewer blocks and bytes
pub record IsLarger (old new : BlockFiles) : Type 0 where
  pub types : (f : ℕ) → is_among (all_files old) f ≡ true → kind_among (files_of new) f ≡ kind_among (files_of old) f
  pub blocks : (f : ℕ) → is_among (all_files old) f ≡ true → blocks_of old f ≤ blocks_of new f
  pub lengths : (f : ℕ) → is_among (all_files old) f ≡ true → length_in old f ≤ length_in new f

first_of_two : (a b : Bool) → (a && b) ≡ true → a ≡ true
first_of_two true b e = refl
first_of_two false b e = e

second_of_two : (a b : Bool) → (a && b) ≡ true → b ≡ true
second_of_two true b e = e
second_of_two false b e = absurd (clash e)
  where
    clash : false ≡ true → ⊥
    clash h = cc

both_of_two : (a b : Bool) → a ≡ true → b ≡ true → (a && b) ≡ true
both_of_two a b e d = ap₂ (λ (x y : Bool). x && y) e d

pub standing_kept : (old new : BlockFiles) → IsLarger old new → KeepsStanding old new
unfolding stands_as_blocks
standing_kept old new larger w is =
    let f : ℕ = file_selector w in
    let there : is_among (all_files old) f ≡ true = stands_linked old w is in
    let front : (is_linked_as (kind_among (files_of old) f) (kind_of w) && nat_le (first_block w + block_count w) (blocks_of old f)) ≡ true =
    first_of_two (is_linked_as (kind_among (files_of old) f) (kind_of w) && nat_le (first_block w + block_count w) (blocks_of old f)) (nat_le (place w + byte_size w) (length_in old f)) is in
    let linked : is_linked_as (kind_among (files_of new) f) (kind_of w) ≡ true = ap (λ (o : Option ℕ). is_linked_as o (kind_of w)) (larger.types f there) ∙ first_of_two (is_linked_as (kind_among (files_of old) f) (kind_of w)) (nat_le (first_block w + block_count w) (blocks_of old f)) front in
    let was_below : nat_le (first_block w + block_count w) (blocks_of old f) ≡ true = second_of_two (is_linked_as (kind_among (files_of old) f) (kind_of w)) (nat_le (first_block w + block_count w) (blocks_of old f)) front in
    let was_inside : nat_le (place w + byte_size w) (length_in old f) ≡ true = second_of_two (is_linked_as (kind_among (files_of old) f) (kind_of w) && nat_le (first_block w + block_count w) (blocks_of old f)) (nat_le (place w + byte_size w) (length_in old f)) is in
    both_of_two (is_linked_as (kind_among (files_of new) f) (kind_of w) && nat_le (first_block w + block_count w) (blocks_of new f)) (nat_le (place w + byte_size w) (length_in new f))
    (both_of_two (is_linked_as (kind_among (files_of new) f) (kind_of w)) (nat_le (first_block w + block_count w) (blocks_of new f)) linked (longer (first_block w + block_count w) (blocks_of old f) (blocks_of new f) (larger.blocks f there) was_below))
    (longer (place w + byte_size w) (length_in old f) (length_in new f) (larger.lengths f there) was_inside)
  where
    longer : (x a b : ℕ) → a ≤ b → nat_le x a ≡ true → nat_le x b ≡ true
    longer x a b less e = grind (arith, nat_tests)

-- the same tables keep what is valid
pub standing_same : (old new : BlockFiles) → new ≡ old → KeepsStanding old new
standing_same old new same w is = ap (λ (files : BlockFiles). stands_among files w) same ∙ is

-- a file that is lengthened
pub fit_larger : (old new : BlockFiles) (n size : ℕ) → Resizes old new n (max (length_in old n) size) → IsLarger old new
fit_larger old new n size resizes = record {
  types = λ f there j. kind_among (λ kind. resizes.files kind j) f;
  blocks = λ f there. let e = resizes.blocks f in omega (arith, e);
  lengths = λ f there. ⊎_elim (λ (here : f ≡ n). let e : length_in new f ≡ max (length_in old f) size = ap (length_in new) here ∙ resizes.size_there ∙ ap (λ (k : ℕ). max (length_in old k) size) (sym here) in omega (arith, e)) (λ differs. let e = resizes.other_lengths f differs in omega (arith, e)) (cases_eq f n);
}

-- a file that grows
pub grow_larger : (old new : BlockFiles) (n : ℕ) → Enlarges old new n (grown (blocks_of old n)) (max (length_in old n) (grown_length old n)) → blocks_of old n < most_blocks → IsLarger old new
grow_larger old new n enlarges below = record {
  types = λ f there j. kind_among (λ kind. enlarges.files kind j) f;
  blocks = λ f there. ⊎_elim (λ (here : f ≡ n). let e : blocks_of new f ≡ grown (blocks_of old f) = ap (blocks_of new) here ∙ enlarges.blocks_there ∙ ap (λ (k : ℕ). grown (blocks_of old k)) (sym here) in let less : blocks_of old f < 64896 = ap_less f n here below in omega (arith, e, less)) (λ differs. let e = enlarges.other_blocks f differs in omega (arith, e)) (cases_eq f n);
  lengths = λ f there. ⊎_elim (λ (here : f ≡ n). let e : length_in new f ≡ max (length_in old f) (grown_length old f) = ap (length_in new) here ∙ enlarges.size_there ∙ ap (λ (k : ℕ). max (length_in old k) (grown_length old k)) (sym here) in omega (arith, e)) (λ differs. let e = enlarges.other_lengths f differs in omega (arith, e)) (cases_eq f n);
}
  where
    ap_less : (f m : ℕ) → f ≡ m → blocks_of old m < 64896 → blocks_of old f < 64896
    ap_less f m e h = subst (λ (k : ℕ). blocks_of old k < 64896) (sym e) h

-- a file that is added
module _ (old new : BlockFiles) (kind n : ℕ) (free : is_among (all_files old) n ≡ false) (joins : Joins old new kind n 0 8192) where
  pub apart : (f : ℕ) → is_among (all_files old) f ≡ true → f ≢ n
  apart f there e = clash (sym there ∙ ap (is_among (all_files old)) e ∙ free)
    where
      clash : true ≡ false → ⊥
      clash c = cc

  -- a file that was there is of its kinds alone
  pub kinds_kept : (f j : ℕ) → f ≢ n → is_among (files_of new j) f ≡ is_among (files_of old j) f
  kinds_kept f j differs = ⊎_elim here (λ other. ap (λ (l : List ℕ). is_among l f) (joins.others j other)) (cases_eq j kind)
    where
      here : j ≡ kind → is_among (files_of new j) f ≡ is_among (files_of old j) f
      here e =
          let test : (n == f) ≡ false = grind (arith, nat_tests) in
          ap (λ (k : ℕ). is_among (files_of new k) f) e ∙ ap (λ (l : List ℕ). is_among l f) joins.last ∙ is_among_more (files_of old kind) n f
          ∙ ap (λ (t : Bool). is_among (files_of old kind) f || t) test ∙ or_false (is_among (files_of old kind) f) ∙ ap (λ (k : ℕ). is_among (files_of old k) f) (sym e)
        where
          or_false : (t : Bool) → (t || false) ≡ t
          or_false true = refl
          or_false false = refl

  kind_kept : (f : ℕ) → f ≢ n → kind_among (files_of new) f ≡ kind_among (files_of old) f
  unfolding kind_among
  kind_kept f differs = λ j. if kinds_kept f 1 differs j then Some 1 else if kinds_kept f 2 differs j then Some 2 else if kinds_kept f 3 differs j then Some 3 else if kinds_kept f 4 differs j then Some 4 else None

  pub join_larger : IsLarger old new
  join_larger = record {
    types = λ f there. kind_kept f (apart f there);
    blocks = λ f there. let e = joins.other_blocks f (apart f there) in omega (arith, e);
    lengths = λ f there. let e = joins.other_lengths f (apart f there) in omega (arith, e);
  }
