-- Which file a name can belong to, by its prefix.
use Rattle.std.proofs.Common.{◌≡◌, ◌≢◌, true, false, ℕ, List, ◌++◌, None, drop, get_or, arith, refl, ◌∙◌, sym, ap, codes}
use Rattle.std.specs.Str.{bytes_eq}
use Rattle.std.proofs.lemmas.Slice.Eq.{bytes_eq-Decides}
use Rattle.std.specs.Fmt.{decimal}
use Rattle.std.specs.Str.Pattern.{FindsTextPrefix, StripsPrefix}
use Rattle.blk_io.specs.declared.folder.FileId.{FileId}
use Rattle.blk_io.specs.declared.folder.FileId.TheVariants.{Index, Block, External}
use Rattle.blk_io.specs.Texts.{hex_text, name_of}
use Rattle.blk_host.specs.Spelling.{IsCacheFile, name_text}

-- the name of the index is no other file's
pub index-named : (file : FileId) → codes "index" ≡ name_text file → file ≡ Index
unfolding name_of
index-named Index e = refl
index-named (Block n) e = absurd (differs e)
  where
    differs : codes "index" ≡ codes "data_" ++ decimal n → ⊥
    differs e = unequal (ap (λ (l : List ℕ). get_or l 0 0) e)
      where
        unequal : ◌≡◌ {A = ℕ} 105 100 → ⊥
        unequal first = grind (arith)
index-named (External n) e = absurd (differs e)
  where
    differs : codes "index" ≡ codes "f_" ++ hex_text 6 n → ⊥
    differs e = unequal (ap (λ (l : List ℕ). get_or l 0 0) e)
      where
        unequal : ◌≡◌ {A = ℕ} 105 102 → ⊥
        unequal first = grind (arith)

-- a name that begins as a block file's is that of a block file
pub block-named : (file : FileId) (number : List ℕ) → codes "data_" ++ number ≡ name_text file
    → IsCacheFile file → (P : FileId → Type 0) → ((n : ℕ) → IsCacheFile (Block n) → number ≡ decimal n → P (Block n)) → P file
unfolding name_of
block-named Index number e there P goal = absurd (differs e)
  where
    differs : codes "data_" ++ number ≡ codes "index" → ⊥
    differs e = unequal (ap (λ (l : List ℕ). get_or l 0 0) e)
      where
        unequal : ◌≡◌ {A = ℕ} 100 105 → ⊥
        unequal first = grind (arith)
block-named (Block n) number e there P goal = goal n there (ap (λ (l : List ℕ). drop 5 l) e)
block-named (External n) number e there P goal = absurd (differs e)
  where
    differs : codes "data_" ++ number ≡ codes "f_" ++ hex_text 6 n → ⊥
    differs e = unequal (ap (λ (l : List ℕ). get_or l 0 0) e)
      where
        unequal : ◌≡◌ {A = ℕ} 100 102 → ⊥
        unequal first = grind (arith)

-- a name that begins as an external file's is that of an external file
pub external-named : (file : FileId) (number : List ℕ) → codes "f_" ++ number ≡ name_text file
    → IsCacheFile file → (P : FileId → Type 0) → ((n : ℕ) → IsCacheFile (External n) → number ≡ hex_text 6 n → P (External n)) → P file
unfolding name_of
external-named Index number e there P goal = absurd (differs e)
  where
    differs : codes "f_" ++ number ≡ codes "index" → ⊥
    differs e = unequal (ap (λ (l : List ℕ). get_or l 0 0) e)
      where
        unequal : ◌≡◌ {A = ℕ} 102 105 → ⊥
        unequal first = grind (arith)
external-named (Block n) number e there P goal = absurd (differs e)
  where
    differs : codes "f_" ++ number ≡ codes "data_" ++ decimal n → ⊥
    differs e = unequal (ap (λ (l : List ℕ). get_or l 0 0) e)
      where
        unequal : ◌≡◌ {A = ℕ} 102 100 → ⊥
        unequal first = grind (arith)
external-named (External n) number e there P goal = goal n there (ap (λ (l : List ℕ). drop 2 l) e)

-- a name that isn't `index`, and has none of the prefixes `data_` and `f_`, is no file's
pub none-named : (file : FileId) (name : List ℕ) → name ≡ name_text file → name ≢ codes "index"
    → FindsTextPrefix (codes "data_") name None → FindsTextPrefix (codes "f_") name None → ⊥
unfolding name_of
none-named Index name e other no_block no_external = other e
none-named (Block n) name e other no_block no_external = no_block (decimal n) e
none-named (External n) name e other no_block no_external = no_external (hex_text 6 n) e

-- what is left after a prefix
pub stripped : (front name rest : List ℕ) → StripsPrefix (FindsTextPrefix front) name rest → name ≡ front ++ rest
stripped front name rest strips = strips.1.1 ∙ ap (λ (l : List ℕ). front ++ l) (sym strips.2)

-- a test of two texts
pub named : (xs ys : List ℕ) → bytes_eq xs ys ≡ true → xs ≡ ys
named xs ys test = (bytes_eq-Decides xs ys).0 test

pub other : (xs ys : List ℕ) → bytes_eq xs ys ≡ false → xs ≢ ys
other xs ys test same = clash (sym ((bytes_eq-Decides xs ys).1 same) ∙ test)
  where
    clash : true ≡ false → ⊥
    clash e = cc
