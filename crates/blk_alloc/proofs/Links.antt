-- Which files are linked once blocks are allocated, and how long they are.
use Rattle.std.proofs.Common.{◌≡◌, ◌≢◌, ⊎_elim, ℕ, ◌+◌, ◌*◌, ◌≤◌, Bool, true, false, max, sym, ◌∙◌, ap, subst, arith, refl, Result, Ok, Err, OnOk}
use Rattle.std.specs.Prelude.{◌||◌, IfOk}
use Rattle.std.proofs.lemmas.Bool.Decides.{eqb_tells}
use Rattle.std.proofs.Math.Dec.{eqb}
use Rattle.spec_format.specs.BlockFiles.{is_among, kind_among}
use Rattle.spec_format.proofs.Among.{is_among_more}
use Rattle.blk_disk.specs.declared.tables.BlockFiles.{BlockFiles}
use Rattle.blk_disk.specs.Tables.{Joins, Resizes, blocks_of, files_of, length_in}
use Rattle.blk_disk.specs.Growth.{size_as, whole_length}
use Rattle.blk_alloc.specs.Extending.{HasItsBlocks, KeepsLinks, KeepsLists}

pub lists_links : (old new : BlockFiles) (n : ℕ) → KeepsLists old new → KeepsLinks old new n
lists_links old new n lists m kind differs = λ k. is_among (lists kind k) m

pub links_then : (old mid new : BlockFiles) (n : ℕ) → KeepsLinks old mid n → KeepsLists mid new → KeepsLinks old new n
links_then old mid new n links lists m kind differs = (λ k. is_among (lists kind k) m) ∙ links m kind differs

-- a file that joins is the only new one
pub joined_links : (old new : BlockFiles) (kind n blocks size : ℕ) → Joins old new kind n blocks size → KeepsLinks old new n
joined_links old new kind n blocks size joins m other differs = ⊎_elim
    (λ (e : (eqb other kind ≡ true) × (other ≡ kind)). subst (λ (k : ℕ). is_among (files_of new k) m ≡ is_among (files_of old k) m) (sym e.1)
    (ap (λ l. is_among l m) joins.last ∙ is_among_more (files_of old kind) n m ∙ ⊎_elim
    (λ (x : (eqb n m ≡ true) × (n ≡ m)). absurd (differs (sym x.1)))
    (λ (x : (eqb n m ≡ false) × _). rw x.0 (or_none (is_among (files_of old kind) m)))
    (eqb_tells n m)))
    (λ (e : (eqb other kind ≡ false) × (other ≢ kind)). ap (λ l. is_among l m) (joins.others other e.1))
    (eqb_tells other kind)
  where
    or_none : (b : Bool) → (b || false) ≡ b
    or_none true = refl
    or_none false = refl

-- a file that is fitted has all its blocks
pub fitted_long : (old new : BlockFiles) (n : ℕ) → Resizes old new n (max (length_in old n) (whole_length old n)) → HasItsBlocks new n
unfolding whole_length
fitted_long old new n kept =
    let same : kind_among (files_of new) n ≡ kind_among (files_of old) n = λ k. kind_among (λ kind. kept.files kind k) n in
    let lengths : length_in new n ≡ max (length_in old n) (8192 + blocks_of old n * size_as (kind_among (files_of old) n)) = kept.size_there in
    let wanted : 8192 + blocks_of new n * size_as (kind_among (files_of new) n) ≡ 8192 + blocks_of old n * size_as (kind_among (files_of old) n) = λ k. 8192 + kept.blocks n k * size_as (same k) in
    by_most (8192 + blocks_of new n * size_as (kind_among (files_of new) n)) (8192 + blocks_of old n * size_as (kind_among (files_of old) n)) (length_in old n) (length_in new n) wanted lengths
  where
    by_most : (w v a b : ℕ) → w ≡ v → b ≡ max a v → w ≤ b
    by_most w v a b e f = grind arith

-- what two facts say of what was answered
pub if_ok_on : {T E : Type 0} (r : Result T E) (P : T → Type 0) (Q : Type 0) (R : T → Type 0) → ((x : T) → P x → Q → R x) → IfOk r P → OnOk r Q → IfOk r R
if_ok_on {T} {E} (Ok x) P Q R both p q = both x p q
if_ok_on {T} {E} (Err e) P Q R both p q = tt
