-- Files that are lengthened to their blocks, one after another.
use Rattle.std.proofs.Common.{◌≡◌, ◌≢◌, ℕ, ◌+◌, ◌*◌, ◌<◌, ◌≤◌, List, true, false, max, refl, sym, ◌∙◌, ap, ap₂, subst, arith, ⊎_elim}
use Rattle.std.proofs.lemmas.Bool.{cases_eq, cases_lt}
use Rattle.spec_format.specs.Address.{header_size}
use Rattle.spec_format.specs.BlockFiles.{is_among, kind_among}
use Rattle.blk_disk.specs.declared.tables.BlockFiles.{BlockFiles}
use Rattle.blk_disk.specs.Tables.{files_of, all_files, blocks_of, length_in, Resizes}
use Rattle.blk_disk.specs.Growth.{size_as, whole_length}
use Rattle.blk_alloc.specs.Extending.{HasItsBlocks}
use Rattle.blk_alloc.proofs.Kept.{IsLarger}

-- the files whose numbers are below one are as long as they are to be, and all others as before
pub record HasFitted (old new : BlockFiles) (count : ℕ) : Type 0 where
  pub files : (kind : ℕ) → files_of new kind ≡ files_of old kind
  pub all : all_files new ≡ all_files old
  pub blocks : (n : ℕ) → blocks_of new n ≡ blocks_of old n
  pub done : (n : ℕ) → n < count → is_among (all_files old) n ≡ true → length_in new n ≡ max (length_in old n) (whole_length old n)
  pub rest : (n : ℕ) → count ≤ n → length_in new n ≡ length_in old n

pub none_fitted : (files : BlockFiles) → HasFitted files files 0
none_fitted files = record { files = λ kind. refl; all = refl; blocks = λ n. refl; done = λ n below there. absurd (omega (arith, below)); rest = λ n high. refl }

-- the length that a file is to have stays
whole_same : (old new : BlockFiles) (n : ℕ) → ((kind : ℕ) → files_of new kind ≡ files_of old kind) → ((m : ℕ) → blocks_of new m ≡ blocks_of old m) → whole_length new n ≡ whole_length old n
unfolding whole_length
whole_same old new n files blocks = λ j. header_size + blocks n j * size_as (kind_among (λ kind. files kind j) n)

-- a file that isn't lengthened yet has all its blocks where it had
pub long_still : (old mid : BlockFiles) (n : ℕ) → HasFitted old mid n → HasItsBlocks old n → HasItsBlocks mid n
long_still old mid n before long = let size = before.rest n (omega arith) in let wanted = whole_same old mid n before.files before.blocks in omega (arith, long, size, wanted)

-- one file more is lengthened
pub one_fitted : (old mid new : BlockFiles) (n : ℕ) → HasFitted old mid n → Resizes mid new n (max (length_in mid n) (whole_length mid n)) → HasFitted old new (n + 1)
one_fitted old mid new n before resizes = record {
  files = λ kind. resizes.files kind ∙ before.files kind;
  all = resizes.all ∙ before.all;
  blocks = λ m. resizes.blocks m ∙ before.blocks m;
  done = λ m below there.
      ⊎_elim
      (λ (e : m ≡ n).
      subst (λ (k : ℕ). length_in new k ≡ max (length_in old k) (whole_length old k)) (sym e)
      (resizes.size_there ∙ ap₂ (λ (x y : ℕ). max x y) (before.rest n (omega arith)) (whole_same old mid n before.files before.blocks)))
      (λ (differs : m ≢ n). resizes.other_lengths m differs ∙ before.done m (omega (arith, below, differs)) there) (cases_eq m n);
  rest = λ m high. resizes.other_lengths m (above m high) ∙ before.rest m (omega (arith, high));
}
  where
    above : (m : ℕ) → n + 1 ≤ m → m ≢ n
    above m high e = absurd (omega (arith, high, e))

-- one number more that no file has
pub none_more : (old mid : BlockFiles) (n : ℕ) → is_among (all_files mid) n ≡ false → HasFitted old mid n → HasFitted old mid (n + 1)
none_more old mid n apart before = record {
  files = before.files;
  all = before.all;
  blocks = before.blocks;
  done = λ m below there. ⊎_elim (λ (e : m ≡ n). absurd (clash (sym (ap (is_among (all_files old)) (sym e) ∙ there) ∙ ap (λ (l : List ℕ). is_among l n) (sym before.all) ∙ apart))) (λ (differs : m ≢ n). before.done m (omega (arith, below, differs)) there) (cases_eq m n);
  rest = λ m high. before.rest m (omega (arith, high));
}
  where
    clash : true ≡ false → ⊥
    clash e = cc

-- what was valid among the files still is
pub fitted_larger : (old new : BlockFiles) (count : ℕ) → HasFitted old new count → IsLarger old new
fitted_larger old new count fitted = record {
  types = λ f there j. kind_among (λ kind. fitted.files kind j) f;
  blocks = λ f there. let e = fitted.blocks f in omega (arith, e);
  lengths = λ f there. ⊎_elim (λ (below : f < count). let e = fitted.done f below there in omega (arith, e)) (λ high. let e = fitted.rest f high in omega (arith, e)) (cases_lt f count);
}
