-- The steps that make a folder write no crash word.
use Rattle.std.proofs.Common.{◌≡◌, ℕ, zero, suc, ◌/◌, ◌%◌, ◌^◌, List, [], ◌∷◌, ◌++◌, false, refl}
use Rattle.std.specs.Prelude.{All}
use Rattle.std.proofs.lemmas.List.Elements.{All-cons, All-nil}
use Rattle.spec_image.specs.Image.{File, Index, Block}
use Rattle.spec_image.specs.Steps.{TrailStep, SetLength, word_steps}
use Rattle.spec_format.specs.Address.{header_size}
use Rattle.spec_format.specs.Headers.{index_length, index_magic, index_version, table_length}
use Rattle.spec_format.specs.NewFolder.{new_file_words, new_index_words}
use Rattle.blk_index.specs.Making.{blank_steps, deletions, files_steps, first_file_steps, folder_steps}
use Rattle.blk_repair.specs.Counters.{is_in_crash_word}
use Rattle.blk_repair.proofs.CrashWord.{IsOther, SpareIt, spare-append, spare-blocks, spare-deletions, spare-places}

spare-lengths : (file : File) (m n : ℕ) (steps : List TrailStep) → SpareIt steps → SpareIt (SetLength file m ∷ SetLength file n ∷ steps)
spare-lengths file m n steps spare = All-cons IsOther (SetLength file m) (SetLength file n ∷ steps) refl (All-cons IsOther (SetLength file n) steps refl spare)

spare-made : (n : ℕ) → SpareIt (files_steps n)
unfolding files_steps
spare-made zero = All-nil IsOther
spare-made (suc n) = spare-append (files_steps n) (first_file_steps n) (spare-made n) (spare-lengths (Block n) 0 header_size (word_steps (Block n) (new_file_words n)) (spare-blocks n (new_file_words n)))

index-elsewhere : (moment : ℕ) → All (λ (w : ℕ × ℕ). is_in_crash_word w.0 4 ≡ false) (new_index_words moment)
index-elsewhere moment =
    let O : ℕ × ℕ → Type 0 = (λ (w : ℕ × ℕ). is_in_crash_word w.0 4 ≡ false) in
    All-cons O (4, index_version) ((28, table_length) ∷ (40, moment % 2 ^ 32) ∷ (44, moment / 2 ^ 32) ∷ (0, index_magic) ∷ []) refl
    (All-cons O (28, table_length) ((40, moment % 2 ^ 32) ∷ (44, moment / 2 ^ 32) ∷ (0, index_magic) ∷ []) refl
    (All-cons O (40, moment % 2 ^ 32) ((44, moment / 2 ^ 32) ∷ (0, index_magic) ∷ []) refl (All-cons O (44, moment / 2 ^ 32) ((0, index_magic) ∷ []) refl (All-cons O (0, index_magic) [] refl (All-nil O)))))

pub spare-folder : (deleted : List File) (moment : ℕ) → SpareIt (folder_steps deleted (new_index_words moment))
spare-folder deleted moment =
    spare-append ((blank_steps ++ deletions deleted) ++ files_steps 4) (word_steps Index (new_index_words moment))
    (spare-append (blank_steps ++ deletions deleted) (files_steps 4) (spare-append blank_steps (deletions deleted) (spare-lengths Index 0 index_length [] (All-nil IsOther)) (spare-deletions deleted)) (spare-made 4))
    (spare-places (new_index_words moment) (index-elsewhere moment))
