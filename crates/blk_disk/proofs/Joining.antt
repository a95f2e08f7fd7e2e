-- A file joins the linked ones.
use Rattle.std.proofs.Common.{◌≡◌, ◌≢◌, ℕ, ◌<◌, false, List, [], ◌∷◌, ◌++◌, length, set, get_or, refl, ◌∙◌, ap, arith}
use Rattle.std.specs.Prelude.{◌==◌}
use Rattle.std.proofs.lemmas.Bool.Decides.{nat_tests}
use Rattle.std.proofs.lemmas.List.{get_or-set_same, get_or-set_other}
use Rattle.blk_disk.specs.declared.tables.BlockFiles.{BlockFiles}
use Rattle.blk_disk.specs.Tables.{files_of, blocks_of, length_in, Joins}

-- a table with one more entry
pub there : (xs : List ℕ) (m n v : ℕ) → m ≡ n → n < length xs → get_or (set xs m v) n 0 ≡ v
there xs m n v e within = ap (λ (i : ℕ). get_or (set xs i v) n 0) e ∙ get_or-set_same xs n v 0 within

pub elsewhere : (xs : List ℕ) (m n v : ℕ) → m ≡ n → (other : ℕ) → other ≢ n → get_or (set xs m v) other 0 ≡ get_or xs other 0
elsewhere xs m n v e other differs = ap (λ (i : ℕ). get_or (set xs i v) other 0) e ∙ get_or-set_other xs n other v 0 differs

module _ (old new : BlockFiles) (n blocks size at at2 : ℕ) (is : at ≡ n) (is2 : at2 ≡ n) (small : n < 256) (same : new.blocks ≡ set old.blocks at blocks) (same2 : new.lengths ≡ set old.lengths at2 size) where
  joins : (kind : ℕ) → files_of new kind ≡ files_of old kind ++ n ∷ [] → ((other : ℕ) → other ≢ kind → files_of new other ≡ files_of old other) → Joins old new kind n blocks size
  unfolding blocks_of length_in
  joins kind last others =
      let within : n < length old.blocks = omega (arith, old.all_blocks) in
      let within2 : n < length old.lengths = omega (arith, old.all_lengths) in
      record {
        last = last;
        others = others;
        blocks_there = ap (λ (xs : List ℕ). get_or xs n 0) same ∙ there old.blocks at n blocks is within;
        size_there = ap (λ (xs : List ℕ). get_or xs n 0) same2 ∙ there old.lengths at2 n size is2 within2;
        other_blocks = λ other differs. ap (λ (xs : List ℕ). get_or xs other 0) same ∙ elsewhere old.blocks at n blocks is other differs;
        other_lengths = λ other differs. ap (λ (xs : List ℕ). get_or xs other 0) same2 ∙ elsewhere old.lengths at2 n size is2 other differs;
      }

  pub joins_rankings : new.rankings.items ≡ old.rankings.items ++ n ∷ [] → new.b256 ≡ old.b256 → new.b1k ≡ old.b1k → new.b4k ≡ old.b4k → Joins old new 1 n blocks size
  unfolding files_of
  joins_rankings e e2 e3 e4 = joins 1 e (λ other differs. let t : (other == 1) ≡ false = grind (arith, nat_tests) in rw (t, e2, e3, e4) refl)

  pub joins_b256 : new.b256.items ≡ old.b256.items ++ n ∷ [] → new.rankings ≡ old.rankings → new.b1k ≡ old.b1k → new.b4k ≡ old.b4k → Joins old new 2 n blocks size
  unfolding files_of
  joins_b256 e e2 e3 e4 = joins 2 e (λ other differs. let t : (other == 2) ≡ false = grind (arith, nat_tests) in rw (t, e2, e3, e4) refl)

  pub joins_b1k : new.b1k.items ≡ old.b1k.items ++ n ∷ [] → new.rankings ≡ old.rankings → new.b256 ≡ old.b256 → new.b4k ≡ old.b4k → Joins old new 3 n blocks size
  unfolding files_of
  joins_b1k e e2 e3 e4 = joins 3 e (λ other differs. let t : (other == 3) ≡ false = grind (arith, nat_tests) in rw (t, e2, e3, e4) refl)

  pub joins_b4k : new.b4k.items ≡ old.b4k.items ++ n ∷ [] → new.rankings ≡ old.rankings → new.b256 ≡ old.b256 → new.b1k ≡ old.b1k → Joins old new 4 n blocks size
  unfolding files_of
  joins_b4k e e2 e3 e4 = joins 4 e (λ other differs. let t : (other == 4) ≡ false = grind (arith, nat_tests) in rw (t, e2, e3, e4) refl)
