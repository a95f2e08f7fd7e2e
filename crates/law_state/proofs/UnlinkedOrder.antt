-- Unlinked words may be in any order, in a kept state and while items are removed.
use Rattle.std.proofs.Common.{◌≡◌, ℕ, List, ◌∙◌, true}
use Rattle.std.specs.List.{AllByRecursion, flat_map}
use Rattle.std.specs.List.Sorted.{IsPermutation}
use Rattle.std.proofs.lemmas.List.Sorted.{All-permutation, IsPermutation-append_left}
use Rattle.spec_image.specs.Image.{Image}
use Rattle.spec_format.specs.BlockFiles.{stands_in}
use Rattle.law_folder.proofs.claims.Allocations.{all-from}
use Rattle.spec_folder.specs.Loads.{Loaded}
use Rattle.spec_folder.specs.Sound.{words_of}
use Rattle.spec_folder.specs.Tidy.{loaded_at}
use Rattle.law_state.specs.Arranging.{KeptInAnyOrder}
use Rattle.law_state.specs.Keeping.{AreFiles, all_loaded, words_in_use}
use Rattle.law_state.specs.PartlyOut.{PartlyOutInAnyOrder, left_nodes}
use Rattle.law_state.proofs.Arranging.{claimed-alike}
use Rattle.law_state.proofs.Claimed.{once-alike}
use Rattle.law_state.proofs.NodeChanges.{all-to}
use Rattle.law_state.proofs.OneMoreOut.{files-alike}

module _ (unlinked left : List ℕ) (image : Image) (same : IsPermutation unlinked left) where
  all-stand : AllByRecursion (λ w. stands_in image w ≡ true) unlinked → AllByRecursion (λ w. stands_in image w ≡ true) left
  all-stand stand = all-to (λ w. stands_in image w ≡ true) left (All-permutation (λ w. stands_in image w ≡ true) unlinked left same (all-from (λ w. stands_in image w ≡ true) unlinked stand))

  same-files : (loaded : List Loaded) → AreFiles image (words_in_use unlinked loaded) → AreFiles image (words_in_use left loaded)
  same-files loaded files = files-alike image (words_in_use unlinked loaded) (words_in_use left loaded) (IsPermutation-append_left (flat_map words_of loaded) unlinked left same) files

pub kept-in-any-order : KeptInAnyOrder
kept-in-any-order state layout unlinked left image k same = record {
  valid = k.valid;
  sound = k.sound;
  represents = k.represents;
  numbers = k.numbers;
  owners = k.owners;
  files = same-files unlinked left image same (all_loaded state layout k.numbers) k.files;
  unlinked_words = record {
    stand = all-stand unlinked left image same k.unlinked_words.stand;
    free = λ claim has. k.unlinked_words.free claim (claimed-alike claim unlinked left same ∙ has);
    single = once-alike unlinked left same k.unlinked_words.single;
  };
  sealed = k.sealed;
  session = k.session;
}

pub out-in-any-order : PartlyOutInAnyOrder
out-in-any-order state layout keep chains unlinked left image k same = record {
  valid = k.valid;
  sound = k.sound;
  lies = k.lies;
  list = k.list;
  holds = k.holds;
  chained = k.chained;
  out = k.out;
  numbers = k.numbers;
  owners = k.owners;
  files = same-files unlinked left image same (loaded_at layout (left_nodes state layout keep k.numbers)) k.files;
  stand = all-stand unlinked left image same k.stand;
  free = λ claim has. k.free claim (claimed-alike claim unlinked left same ∙ has);
  single = once-alike unlinked left same k.single;
  sealed = k.sealed;
  session = k.session;
}
