-- How the making of a folder breaks off: the folder is uninitialized up to the last step, with which it is made.
use Rattle.std.proofs.Common.{◌≡◌, ◌⊎◌, inl, inr, ℕ, zero, suc, ◌<◌, List, [], ◌∷◌, ◌++◌, None, Some, ⊎_elim, false, refl, sym, ◌∙◌, ap, subst, arith, append_assoc, lit≤}
use Rattle.std.specs.Prelude.{All}
use Rattle.std.specs.Option.{ForSome, option_map}
use Rattle.std.proofs.lemmas.List.Elements.{All-cons, All-head, All-nil, All-tail}
use Rattle.spec_image.specs.Bytes.{word_bytes}
use Rattle.spec_image.specs.Image.{File, Image, Index, Block, External, same_file}
use Rattle.spec_image.specs.Order.{IsBefore, IsNextFile, file_number, file_rank}
use Rattle.spec_image.specs.Steps.{TrailStep, Word, SetLength, Delete, after, applied, word_step, word_steps}
use Rattle.spec_image.specs.Told.{Told, Along, Applies, AppliesPrefix, HasNoNote}
use Rattle.spec_image.proofs.Cuts.{after-append}
use Rattle.spec_image.proofs.Images.{with_file-other}
use Rattle.spec_image.proofs.Quiet.{noteless-append, noteless-word_steps, noteless_prefix}
use Rattle.spec_image.proofs.Runs.{part_whole, some_inj, until-append, until_prefix, until_last, until_weaker2}
use Rattle.spec_image.proofs.WordSteps.{along_over, along_put}
use Rattle.spec_format.specs.Address.{header_size}
use Rattle.spec_format.specs.Headers.{IsUnfinished, index_magic}
use Rattle.spec_format.specs.NewFolder.{new_file_words, new_index_words, words_before_magic}
use Rattle.spec_folder.specs.Found.{HoldsStill}
use Rattle.blk_index.specs.Index.{HasNoMagic, IsMagicless}
use Rattle.blk_index.specs.Making.{IsBlankIndex, Lists, MakesPrefix, blank_steps, deletions, files_steps, first_file_steps, folder_steps}
use Rattle.blk_index.proofs.Blank.{blank_is, blank_unfinished, cut_unfinished, no_magic-with_word}
use Rattle.blk_index.proofs.Magic.{magicless_if, unfinished_if}
use Rattle.blk_repair.specs.Endings.{RepairBreaksOff}
use Rattle.blk_repair.proofs.CrashWord.{SpareIt}
use Rattle.blk_repair.proofs.Endings.{breaks-part, front-or-all, spare-prefix}
use Rattle.blk_cache.proofs.MakingSteps.{spare-folder}
use Rattle.blk_cache.proofs.OpenRuns.{unfinished-still}

-- ---- the index

abbrev AreOthers : List File → Type 0
AreOthers files = All (λ (file : File). same_file file Index ≡ false) files

other-file : (before file : File) → IsBefore before file → same_file file Index ≡ false
other-file before Index past = absurd (⊎_elim (λ (e : file_rank before < 0). omega (arith, e)) (λ (e : (file_rank before ≡ 0) × (file_number before < 0)). let less = e.1 in omega (arith, less)) past)
other-file before (Block n) past = refl
other-file before (External n) past = refl

-- files that are listed after one aren't the index
listed-others : (image : Image) (before : File) (files : List File) (last : File) → Lists image before files last → AreOthers files
listed-others image before [] last lists = All-nil (λ (file : File). same_file file Index ≡ false)
listed-others image before (file ∷ files) last lists =
    All-cons (λ (file : File). same_file file Index ≡ false) file files (other-file before file (lists.0.follows file refl)) (listed-others image file files last lists.1)

-- ---- while the index is blank

gone-blank : (files : List File) (image : Image) → AreOthers files → IsBlankIndex image → Along IsBlankIndex image (deletions files)
gone-blank [] image others blank = blank
gone-blank (file ∷ files) image others blank =
    let O : File → Type 0 = (λ (f : File). same_file f Index ≡ false) in
    let here : IsBlankIndex (applied (Delete file) image) = with_file-other image file Index None (All-head O file files others) ∙ blank in
    (blank, gone-blank files (applied (Delete file) image) (All-tail O file files others) here)

file-blank : (n : ℕ) (image : Image) → IsBlankIndex image → Along IsBlankIndex image (first_file_steps n)
file-blank n image blank = (blank, (blank, along_put IsBlankIndex (Block n) (λ i b is. is) (new_file_words n) (applied (SetLength (Block n) header_size) (applied (SetLength (Block n) 0) image)) blank))

files-blank : (n : ℕ) (image : Image) → IsBlankIndex image → Along IsBlankIndex image (files_steps n)
unfolding files_steps
files-blank zero image blank = blank
files-blank (suc n) image blank =
    let first : Along IsBlankIndex image (files_steps n) = files-blank n image blank in
    until-append IsBlankIndex IsBlankIndex (files_steps n) (first_file_steps n) image first (file-blank n (after (files_steps n) image) (until_last IsBlankIndex IsBlankIndex (files_steps n) image first))

gone-quiet : (files : List File) → HasNoNote (deletions files)
gone-quiet [] = tt
gone-quiet (file ∷ files) = gone-quiet files

files-quiet : (n : ℕ) → HasNoNote (files_steps n)
unfolding files_steps
files-quiet zero = tt
files-quiet (suc n) = noteless-append (files_steps n) (first_file_steps n) (files-quiet n) (noteless-word_steps (Block n) (new_file_words n))

magicless : (steps : List TrailStep) (image : Image) → Along IsBlankIndex image steps → Along IsMagicless image steps
magicless steps image all = until_weaker2 IsBlankIndex IsMagicless IsBlankIndex IsMagicless steps image blank_unfinished blank_unfinished all

-- ---- up to the magic word

module _ (deleted : List File) (moment : ℕ) where
  abbrev cleared : List TrailStep
  cleared = blank_steps ++ deletions deleted

  abbrev filled : List TrailStep
  filled = folder_steps deleted (words_before_magic moment)

  abbrev magic : TrailStep
  magic = Word Index 0 (word_bytes index_magic)

  all-quiet : (words : List (ℕ × ℕ)) → HasNoNote (folder_steps deleted words)
  all-quiet words = noteless-append (cleared ++ files_steps 4) (word_steps Index words) (noteless-append cleared (files_steps 4) (gone-quiet deleted) (files-quiet 4)) (noteless-word_steps Index words)

  -- the magic word is written last
  magic-last : folder_steps deleted (new_index_words moment) ≡ filled ++ magic ∷ []
  unfolding word_step
  magic-last = sym (append_assoc (cleared ++ files_steps 4) (word_steps Index (words_before_magic moment)) (magic ∷ []))

  filled-along : (image : Image) → AreOthers deleted → IsMagicless image → Along IsMagicless image filled
  filled-along image others none =
      let M : Image → Type 0 = IsMagicless in
      let blank : Image = after blank_steps image in
      let gone : Along IsBlankIndex blank (deletions deleted) = gone-blank deleted blank others (blank_is image) in
      let empty : Image = after (deletions deleted) blank in
      let made : Along IsBlankIndex empty (files_steps 4) = files-blank 4 empty (until_last IsBlankIndex IsBlankIndex (deletions deleted) blank gone) in
      let ready : Image = after (files_steps 4) empty in
      let is : IsBlankIndex ready = until_last IsBlankIndex IsBlankIndex (files_steps 4) empty made in
      let first : Along M image cleared = until-append M M blank_steps (deletions deleted) image (none, (cut_unfinished image, blank_unfinished blank (blank_is image))) (magicless (deletions deleted) blank gone) in
      let second : Along M image (cleared ++ files_steps 4) = until-append M M cleared (files_steps 4) image first (magicless (files_steps 4) empty made) in
      until-append M M (cleared ++ files_steps 4) (word_steps Index (words_before_magic moment)) image second
      (subst (λ (i : Image). Along M i (word_steps Index (words_before_magic moment))) (sym (after-append cleared (files_steps 4) image))
      (along_over HasNoMagic Index (words_before_magic moment) ready
      (no_magic-with_word _ _ (lit≤ tt), (no_magic-with_word _ _ (lit≤ tt), (no_magic-with_word _ _ (lit≤ tt), (no_magic-with_word _ _ (lit≤ tt), tt)))) (blank_unfinished ready is)))

  module _ (entry : Image) (unfinished : IsUnfinished entry) (others : AreOthers deleted) where
    abbrev H : Image → Type 0
    H = HoldsStill entry

    still-along : Along H entry filled
    still-along = until_weaker2 IsMagicless H IsMagicless H filled entry on on (filled-along entry others (magicless_if entry unfinished))
      where
        on : (i : Image) → IsMagicless i → H i
        on i none = unfinished-still entry i unfinished (unfinished_if i none)

    spare-filled : SpareIt filled
    spare-filled = spare-prefix filled (magic ∷ []) (subst SpareIt magic-last (spare-folder deleted moment))

    told-along : (a : Told) (steps : List TrailStep) → a.files ≡ Some entry → Along H entry steps → ForSome a.files (λ image. Along H image steps)
    told-along a steps there all i here = subst (λ (x : Image). Along H x steps) (some_inj (sym there ∙ here)) all

    -- the index is blank at most, and files are deleted
    clearing-breaks : {a b : Told} → a.files ≡ Some entry → AppliesPrefix a b cleared → RepairBreaksOff a b H
    clearing-breaks {a} {b} there part =
        let W : List TrailStep = word_steps Index (words_before_magic moment) in
        breaks-part H part (noteless_prefix cleared (files_steps 4) (noteless_prefix (cleared ++ files_steps 4) W (all-quiet (words_before_magic moment)))) (spare-prefix cleared (files_steps 4) (spare-prefix (cleared ++ files_steps 4) W spare-filled))
        (told-along a cleared there (until_prefix H H cleared (files_steps 4) entry (λ i h. h) (until_prefix H H (cleared ++ files_steps 4) W entry (λ i h. h) still-along)))

    -- some of all the steps were made, or all
    filling-breaks : {a b : Told} → a.files ≡ Some entry → ForSome b.files H → AppliesPrefix a b (folder_steps deleted (new_index_words moment)) → RepairBreaksOff a b H
    filling-breaks {a} {b} there last part = on (front-or-all filled magic part.made part.left (sym magic-last ∙ part.split))
      where
        on : ((rest : List TrailStep) × (filled ≡ part.made ++ rest)) ⊎ (part.made ≡ filled ++ magic ∷ []) → RepairBreaksOff a b H
        on (inl more) = breaks-part H (record { made = part.made; left = more.0; split = more.1; applies = part.applies }) (all-quiet (words_before_magic moment)) spare-filled (told-along a filled there still-along)
        on (inr all) =
            let made : Applies a b (filled ++ magic ∷ []) = subst (Applies a b) all part.applies in
            let now : H (after (filled ++ magic ∷ []) entry) = last _ (made.files ∙ ap (option_map (after (filled ++ magic ∷ []))) there) in
            let end : H (applied magic (after filled entry)) = subst H (after-append filled (magic ∷ []) entry) now in
            breaks-part H (part_whole made) (subst HasNoNote magic-last (all-quiet (new_index_words moment))) (subst SpareIt magic-last (spare-folder deleted moment))
            (told-along a (filled ++ magic ∷ []) there (until-append H H filled (magic ∷ []) entry still-along (until_last H H filled entry still-along, end)))

-- the making of a folder breaks off, or is done
pub making-breaks : {a b : Told} (entry : Image) (moment : ℕ) → a.files ≡ Some entry → IsUnfinished entry → ForSome b.files (HoldsStill entry) → MakesPrefix a b (new_index_words moment) → RepairBreaksOff a b (HoldsStill entry)
making-breaks {a} {b} entry moment there unfinished last front = on front.applies
  where
    others : AreOthers front.deleted
    others = listed-others entry (Block 3) front.deleted front.last (front.listed entry there)

    on : AppliesPrefix a b (blank_steps ++ deletions front.deleted) ⊎ (ForSome a.files (λ image. IsNextFile image (Some front.last) None) × AppliesPrefix a b (folder_steps front.deleted (new_index_words moment))) → RepairBreaksOff a b (HoldsStill entry)
    on (inl early) = clearing-breaks front.deleted moment entry unfinished others there early
    on (inr late) = filling-breaks front.deleted moment entry unfinished others there last late.1
