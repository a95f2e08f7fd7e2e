-- The first bytes of a block file, in a window that had zeros.
use Rattle.std.proofs.Common.{◌≡◌, ℕ, ◌+◌, ◌-◌, ◌<◌, ◌≤◌, nat_lt, min, Bool, true, false, if◌then◌else◌, List, [], ◌∷◌, ◌++◌, length, None, Some, unwrap_or, Result, refl, sym, ◌∙◌, ap, subst, arith, ⊎_elim, get_or-take}
use Rattle.std.proofs.lemmas.Bool.{cases_lt}
use Rattle.std.proofs.lemmas.Bool.Decides.{nat_tests}
use Rattle.std.proofs.lemmas.List.{get_or-drop, get_or_past}
use Rattle.std.specs.Option.{option_map}
use Rattle.std.specs.declared.option.Option.{Option}
use Rattle.spec_image.specs.Bytes.{content, zeros}
use Rattle.spec_image.specs.Image.{File, Block, Image, byte, length_of}
use Rattle.spec_image.specs.Checks as checks
use Rattle.spec_image.specs.Checks.{first_of}
use Rattle.spec_image.specs.Told.{GivesBytes}
use Rattle.spec_image.proofs.Splices.{content-zeros, length-zeros}
use Rattle.spec_image.proofs.Words.{content-range}
use Rattle.spec_format.specs.Headers.{next_file_of, max_entries_of}
use Rattle.spec_format.specs.BlockFiles.{file_checks}
use Rattle.blk_io.specs.declared.fault.Fault.{Fault}
use Rattle.blk_disk.specs.declared.heads.Head.{Head}
use Rattle.blk_disk.specs.declared.tables.BlockFiles.{BlockFiles}
use Rattle.blk_disk.specs.Tables.{all_files}
use Rattle.blk_disk.specs.Loading.{AreGiven, IsFileHead, AnswersFileHeader, AnswersNextHead, next_checks, files_left, next_of}

module _ (image : Image) (file : File) (new : List ℕ) (given : ℕ) (gives : GivesBytes image file 0 (zeros 80) new given) where
  -- how many bytes were given
  pub given_is : given ≡ min 80 (length_of image file)
  given_is =
      let many = gives.many in
      omega (arith, many, length-zeros 80)

  -- the window has the bytes of the file, and zeros past its end
  pub window_is : (i : ℕ) → i < 80 → content new i ≡ byte image file i
  window_is i small =
      ⊎_elim (inside i small) (past i small) (cases_lt i given)
    where
      inside : (i : ℕ) → i < 80 → i < given → content new i ≡ byte image file i
      inside i small below = sym (get_or-take given new i 0 below) ∙ ap (λ (l : List ℕ). content l i) gives.front ∙ content-range given 0 (byte image file) i i below (omega arith)

      past : (i : ℕ) → i < 80 → given ≤ i → content new i ≡ byte image file i
      past i small upto =
          let many : given ≡ min 80 (length_of image file) = given_is in
          let at : given + (i - given) ≡ i = omega arith in
          ap (content new) (sym at) ∙ sym (get_or-drop given new (i - given) 0) ∙ ap (λ (l : List ℕ). content l (i - given)) gives.rest
          ∙ get_or-drop given (zeros 80) (i - given) 0 ∙ content-zeros 80 (given + (i - given)) ∙ sym (get_or_past _ i 0 (omega (arith, many)))

-- a content of which only the first bytes count
clipped : (ℕ → ℕ) → ℕ → ℕ
clipped f i = if nat_lt i 80 then f i else 0

same_clipped : (f g : ℕ → ℕ) → ((i : ℕ) → i < 80 → f i ≡ g i) → clipped f ≡ clipped g
unfolding clipped
same_clipped f g same = λ j i. at_place i (nat_lt i 80) refl j
  where
    at_place : (i : ℕ) (t : Bool) → nat_lt i 80 ≡ t → (if t then f i else 0) ≡ (if t then g i else 0)
    at_place i true e = same i (grind (arith, nat_tests))
    at_place i false e = refl

checks_clipped : (f : ℕ → ℕ) (kind : ℕ) (met : List ℕ) (left n size : ℕ) → file_checks kind met left n (clipped f) size ≡ file_checks kind met left n f size
unfolding clipped file_checks
checks_clipped f kind met left n size = refl

next_clipped : (f : ℕ → ℕ) → next_file_of f ≡ next_file_of (clipped f)
unfolding clipped
next_clipped f = refl

blocks_clipped : (f : ℕ → ℕ) → max_entries_of f ≡ max_entries_of (clipped f)
unfolding clipped
blocks_clipped f = refl

module _ (f g : ℕ → ℕ) (same : (i : ℕ) → i < 80 → f i ≡ g i) where
  -- the checks read the fields alone
  pub same_checks : (kind : ℕ) (met : List ℕ) (left n size : ℕ) → file_checks kind met left n f size ≡ file_checks kind met left n g size
  same_checks kind met left n size =
      sym (checks_clipped f kind met left n size) ∙ ap (λ (h : ℕ → ℕ). file_checks kind met left n h size) (same_clipped f g same) ∙ checks_clipped g kind met left n size

  pub same_next : next_file_of f ≡ next_file_of g
  same_next = next_clipped f ∙ ap next_file_of (same_clipped f g same) ∙ sym (next_clipped g)

  pub same_blocks : max_entries_of f ≡ max_entries_of g
  same_blocks = blocks_clipped f ∙ ap max_entries_of (same_clipped f g same) ∙ sym (blocks_clipped g)

  pub same_head : (size size2 : ℕ) (head : Head) → size ≡ size2 → IsFileHead f size head → IsFileHead g size2 head
  same_head size size2 head e is = record { next = is.next ∙ ap next_of same_next; blocks = is.blocks ∙ same_blocks; size = is.size ∙ e }

-- the length of the file, as a call gives it
pub length_given : (o : Option (List ℕ)) (n : Option ℕ) → n ≡ option_map length o → unwrap_or n 0 ≡ length (unwrap_or o [])
length_given None n e = ap (λ (m : Option ℕ). unwrap_or m 0) e
length_given (Some bytes) n e = ap (λ (m : Option ℕ). unwrap_or m 0) e

-- the answer that the checks of the window give is that of the image
module _ (files : BlockFiles) (image : Image) (kind n given : ℕ) (new : List ℕ) (size : ℕ) (answer : Result Head Fault)
    (gives : GivesBytes image (Block n) 0 (zeros 80) new given) (is : size ≡ length_of image (Block n)) where
  -- all fields are given, where the file is long enough
  are_given : AreGiven size given
  are_given whole = omega (arith, whole, is, given_is image (Block n) new given gives)

  judged_as : (first : Option checks.Damage) → first ≡ first_of (next_checks files image kind n) → AnswersFileHeader first (content new) size given answer → AnswersNextHead files image kind n answer
  judged_as None none judges =
      let good = judges are_given in
      let fits = λ (r : Result Head Fault). AnswersNextHead files image kind n r in
      subst fits (sym good.1) (sym none, same_head (content new) (byte image (Block n)) (window_is image (Block n) new given gives) size (length_of image (Block n)) good.0 is good.2)
  judged_as (Some damage) some judges =
      let fits = λ (r : Result Head Fault). AnswersNextHead files image kind n r in
      let bad = judges are_given in
      subst fits (sym bad.1) (sym some ∙ ap Some (sym bad.2))

  pub judged : AnswersFileHeader (first_of (file_checks kind (all_files files ++ n ∷ []) (files_left files kind) n (content new) size)) (content new) size given answer → AnswersNextHead files image kind n answer
  judged judges =
      judged_as (first_of (file_checks kind (all_files files ++ n ∷ []) (files_left files kind) n (content new) size))
      (ap first_of (same_checks (content new) (byte image (Block n)) (window_is image (Block n) new given gives) kind (all_files files ++ n ∷ []) (files_left files kind) n size)
      ∙ ap (λ (s : ℕ). first_of (file_checks kind (all_files files ++ n ∷ []) (files_left files kind) n (byte image (Block n)) s)) is)
      judges
