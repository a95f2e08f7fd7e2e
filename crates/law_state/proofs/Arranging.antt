-- A state that lies in a folder whose files are those of the same words is kept.
use Rattle.std.proofs.Common.{◌≡◌, ℕ, List, [], ◌∷◌, map, length, refl, ap, sym, ◌∙◌, Bool, true, false, cond, Option}
use Rattle.std.specs.Prelude.{◌||◌, filter, is_some}
use Rattle.std.specs.List.{AllByRecursion, flat_map, list_any, sum_by}
use Rattle.std.specs.List.Sorted.{IsPermutation}
use Rattle.std.proofs.lemmas.Bool.{cases_Bool}
use Rattle.std.proofs.lemmas.List.Sorted.{list_any-IsPermutation, sum_by-IsPermutation}
use Rattle.std.proofs.lemmas.List.Sums.{sum_by-cons}
use Rattle.std.proofs.Common.{⊎_elim, suc, arith}
use Rattle.blk_model.specs.State.{State}
use Rattle.spec_image.specs.Image.{Image}
use Rattle.spec_format.specs.BlockFiles.{linked_as, stands_in}
use Rattle.spec_format.specs.Claims.{Claim, BlockOf, ExternalOf, claims_of, claims_of_all, has_claim, is_in_file, repeats}
use Rattle.spec_folder.specs.Layout.{Layout, rule_of}
use Rattle.spec_folder.specs.Loads.{claims_of_loaded}
use Rattle.spec_folder.specs.Sound.{words_of}
use Rattle.spec_folder.specs.View.{store_of}
use Rattle.law_folder.proofs.claims.Allocations.{IsLoadedBy, all-from, all-stand, each-some, fewer-repeats, join, same-marks, still}
use Rattle.law_folder.proofs.walks.Shown.{filter-all}
use Rattle.law_folder.proofs.claims.ClaimLists.{claim-append, no-claim, repeats-append}
use Rattle.law_folder.proofs.states.Standing.{claimed-exactly, no-repeats}
use Rattle.law_state.specs.Arranging.{IsArranged, StatesAreRearranged}
use Rattle.law_state.specs.Keeping.{AreFiles, IsMapped, all_loaded, all_nodes, words_in_use}
use Rattle.law_state.proofs.Headers.{files-same}
use Rattle.law_state.proofs.Keeping.{used-claims}

-- as many pass a test, in whatever order
pub as-sum : {X : Type 0} (p : X → Bool) (xs : List X) → length (filter p xs) ≡ sum_by (λ w. cond (p w) 1 0) xs
as-sum p [] = refl
as-sum p (x ∷ xs) =
    let rest = as-sum p xs in
    let sum = sum_by-cons (λ w. cond (p w) 1 0) x xs in
    ⊎_elim
    (λ (e : p x ≡ true). let head : ◌≡◌ {A = ℕ} (cond (p x) 1 0) 1 = rw e refl in let more : length (filter p (x ∷ xs)) ≡ suc (length (filter p xs)) = rw e refl in omega (arith, rest, sum, head, more))
    (λ (e : p x ≡ false). let head : ◌≡◌ {A = ℕ} (cond (p x) 1 0) 0 = rw e refl in let more : length (filter p (x ∷ xs)) ≡ length (filter p xs) = rw e refl in omega (arith, rest, sum, head, more))
    (cases_Bool (p x))

pub counted-alike : (p : ℕ → Bool) (xs ys : List ℕ) → IsPermutation xs ys → length (filter p xs) ≡ length (filter p ys)
counted-alike p xs ys same = as-sum p xs ∙ sym (sum_by-IsPermutation (λ w. cond (p w) 1 0) xs ys same) ∙ sym (as-sum p ys)

-- words use the same, in whatever order
claimed-any : (c : Claim) (xs : List ℕ) → has_claim (claims_of_all xs) c ≡ list_any (λ w. has_claim (claims_of w) c) xs
claimed-any c [] = no-claim c
claimed-any c (x ∷ xs) = claim-append (claims_of x) (claims_of_all xs) c ∙ ap (λ (t : Bool). has_claim (claims_of x) c || t) (claimed-any c xs)

pub claimed-alike : (c : Claim) (xs ys : List ℕ) → IsPermutation xs ys → has_claim (claims_of_all xs) c ≡ has_claim (claims_of_all ys) c
claimed-alike c xs ys same = claimed-any c xs ∙ list_any-IsPermutation (λ w. has_claim (claims_of w) c) xs ys same ∙ sym (claimed-any c ys)

module _ (state : State) (layout : Layout) (numbers unlinked : List ℕ) (image : Image) (a : IsArranged state layout numbers unlinked image) where
  -- the words in use are valid
  pub arranged-stand : AllByRecursion (λ w. stands_in image w ≡ true) (words_in_use unlinked (all_loaded state layout numbers))
  arranged-stand = join (λ w. stands_in image w ≡ true) unlinked (flat_map words_of (all_loaded state layout numbers)) a.unlinked_words.stand
      (all-stand image (all_loaded state layout numbers) (each-some (IsLoadedBy (store_of image)) layout.at (λ w l is. (rule_of layout w, w, a.represents.holds.shows.each w l is)) (all_nodes state layout numbers)))

  -- and none shares a block or an external number
  pub arranged-once : repeats (claims_of_all (words_in_use unlinked (all_loaded state layout numbers))) ≡ false
  arranged-once = ap repeats (used-claims unlinked (all_loaded state layout numbers))
      ∙ repeats-append (claims_of_all unlinked) (claims_of_loaded (all_loaded state layout numbers)) a.unlinked_words.single
      (no-repeats layout a.represents.holds.lies.own a.represents.holds.lies.single (all_nodes state layout numbers) a.owners.once)
      (λ c one other. let z : true ≡ false = sym other ∙ claimed-exactly layout a.represents.holds.lies.own a.represents.holds.lies.single state (map layout.place_of_doomed numbers) a.owners.exact c ∙ ap (λ (o : Option ℕ). is_some o) (a.unlinked_words.free c one) in cc)

  module _ (words : List ℕ) (files : AreFiles image words) (same : IsPermutation words (words_in_use unlinked (all_loaded state layout numbers))) where
    mapped : (n : ℕ) → is_some (linked_as image n) ≡ true → IsMapped image (words_in_use unlinked (all_loaded state layout numbers)) n
    mapped n linked = let m = files.mapped n linked in record {
      allocations = record {
        stand = all-from (λ w. stands_in image w ≡ true) (filter (is_in_file n) (words_in_use unlinked (all_loaded state layout numbers))) (still (λ w. stands_in image w ≡ true) (is_in_file n) (words_in_use unlinked (all_loaded state layout numbers)) arranged-stand);
        here = all-from (λ w. is_in_file n w ≡ true) (filter (is_in_file n) (words_in_use unlinked (all_loaded state layout numbers))) (filter-all (is_in_file n) (words_in_use unlinked (all_loaded state layout numbers)));
        apart = fewer-repeats (is_in_file n) (words_in_use unlinked (all_loaded state layout numbers)) arranged-once;
        marks = λ b below. m.allocations.marks b below ∙ same-marks n b words ∙ claimed-alike (BlockOf n b) words (words_in_use unlinked (all_loaded state layout numbers)) same ∙ sym (same-marks n b (words_in_use unlinked (all_loaded state layout numbers)));
        counted = m.allocations.counted ∙ counted-alike (is_in_file n) words (words_in_use unlinked (all_loaded state layout numbers)) same;
      };
      empty = m.empty;
      updating = m.updating;
    }

    pub rearranged-files : AreFiles image (words_in_use unlinked (all_loaded state layout numbers))
    rearranged-files = record {
      mapped = mapped;
      externals = λ n small. files.externals n small ∙ claimed-alike (ExternalOf n) words (words_in_use unlinked (all_loaded state layout numbers)) same;
      only_linked = files.only_linked;
      long_enough = files.long_enough;
    }

pub rearranged : StatesAreRearranged
rearranged state other layout now unlinked left numbers from image k leaves a same = record {
  valid = a.valid;
  sound = leaves.well_formed.sound k.sound;
  represents = a.represents;
  numbers = numbers;
  owners = a.owners;
  files = rearranged-files other now numbers left image a (words_in_use unlinked (all_loaded state layout k.numbers)) (files-same from image leaves.headers _ k.sound k.files) same;
  unlinked_words = a.unlinked_words;
  sealed = a.sealed;
  session = record { crash = leaves.session.crash ∙ k.session.crash; id = λ e. k.session.id (sym leaves.session.id ∙ e); marked = a.marked };
}
