-- The files of all kinds.
use Rattle.std.proofs.Common.{◌≡◌, ℕ, Bool, true, false, ◌||◌, List, [], ◌∷◌, ◌++◌, ◌∙◌, ap, refl}
use Rattle.std.specs.List.{list_any}
use Rattle.blk_addr.specs.declared.kinds.Kind.{Kind}
use Rattle.blk_addr.specs.declared.kinds.Kind.TheVariants.{Rankings, B256, B1K, B4K}
use Rattle.blk_addr.specs.Kind.{kind_number}
use Rattle.spec_format.specs.BlockFiles.{is_among}
use Rattle.spec_format.proofs.Among.{is_among-append}
use Rattle.blk_disk.specs.declared.tables.BlockFiles.{BlockFiles}
use Rattle.blk_disk.specs.Tables.{all_files, files_of}

-- the files of all kinds are those of the four
pub all_files_among : (files : BlockFiles) (n : ℕ) → is_among (all_files files) n ≡ (is_among files.rankings.items n || is_among files.b256.items n || is_among files.b1k.items n || is_among files.b4k.items n)
unfolding all_files files_of
all_files_among files n =
    is_among-append (files.rankings.items ++ files.b256.items ++ files.b1k.items) files.b4k.items n
    ∙ ap (λ (b : Bool). b || is_among files.b4k.items n)
    (is_among-append (files.rankings.items ++ files.b256.items) files.b1k.items n
    ∙ ap (λ (b : Bool). b || is_among files.b1k.items n) (is_among-append files.rankings.items files.b256.items n))

-- the kinds of block files
abbrev pub kinds : List Kind
kinds = Rankings ∷ B256 ∷ B1K ∷ B4K ∷ []

turned : (a b c d : Bool) → (((a || b) || c) || d) ≡ (a || (b || (c || (d || false))))
turned true b c d = refl
turned false true c d = refl
turned false false true d = refl
turned false false false true = refl
turned false false false false = refl

-- a file is among them where it is among those of one kind
pub all_kinds_among : (files : BlockFiles) (n : ℕ) → is_among (all_files files) n ≡ list_any (λ kind. is_among (files_of files (kind_number kind)) n) kinds
unfolding all_files files_of
all_kinds_among files n = all_files_among files n ∙ turned (is_among files.rankings.items n) (is_among files.b256.items n) (is_among files.b1k.items n) (is_among files.b4k.items n)
