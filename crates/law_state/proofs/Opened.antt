-- A folder in order, in which a session is opened, keeps its state.
use Rattle.std.proofs.Common.{◌≡◌, ℕ, ◌%◌, List, [], map, refl, ap, sym, ◌∙◌, lit≤, true, false}
use Rattle.std.specs.Prelude.{◌==◌, is_some}
use Rattle.std.specs.List.{AllByRecursion}
use Rattle.blk_model.specs.State.{State}
use Rattle.spec_image.specs.Image.{Image, Index, word}
use Rattle.spec_format.specs.BlockFiles.{KeepsHeaders}
use Rattle.spec_format.specs.Claims.{Claim, BlockOf, ExternalOf, has_claim, repeats}
use Rattle.spec_folder.specs.Footprint.{AgreeBut}
use Rattle.spec_folder.specs.Layout.{Layout, rule_of, Represents}
use Rattle.spec_folder.specs.Loads.{claims_of_loaded}
use Rattle.spec_folder.specs.Sound.{AreOwned}
use Rattle.spec_folder.specs.StandsFor.{AllIsOwned}
use Rattle.spec_folder.specs.Tidy.{IsTidy}
use Rattle.spec_folder.specs.View.{store_of, view_of}
use Rattle.law_folder.proofs.claims.Allocations.{IsLoadedBy, all-claims, allocated, each-some}
use Rattle.law_folder.proofs.claims.ByteChanges.{agreeing-views, agreement-goes_on}
use Rattle.law_folder.proofs.claims.ClaimLists.{no-claim}
use Rattle.law_folder.proofs.claims.Outside.{AreClear, clear-at, represents-outside}
use Rattle.law_folder.proofs.states.Standing.{claimed-exactly, no-repeats}
use Rattle.law_state.specs.Keeping.{AreFiles, all_loaded, all_nodes, words_in_use}
use Rattle.law_state.specs.KeepingLaws.{OpenedFoldersKeepTheirState}
use Rattle.law_state.proofs.Counts.{count-beside}
use Rattle.law_state.proofs.Free.{sealed-same, standing-at}
use Rattle.law_state.proofs.Headers.{files-same}
use Rattle.law_folder.proofs.updates.IndexWords.{others-unchecked}
use Rattle.law_state.proofs.Writes.{word-agrees, word-headers}

-- the files of a folder in order are those of the words in use
module _ (image : Image) (state : State) (layout : Layout) (numbers : List ℕ) (r : Represents (view_of image) state layout) (a : AllIsOwned image state layout numbers) (tidy : IsTidy image state layout numbers) where
  exactly : (c : Claim) → has_claim (claims_of_loaded (all_loaded state layout numbers)) c ≡ is_some (layout.owner c)
  exactly = claimed-exactly layout r.holds.lies.own r.holds.lies.single state (map layout.place_of_doomed numbers) a.exact

  owned : AreOwned image (claims_of_loaded (all_loaded state layout numbers))
  owned = record {
    one_owner = no-repeats layout r.holds.lies.own r.holds.lies.single (all_nodes state layout numbers) a.once;
    maps = λ n b linked below. a.blocks n b linked below ∙ sym (exactly (BlockOf n b));
    only_claimed = λ n below. a.files n below ∙ sym (exactly (ExternalOf n));
  }

  loaded : AllByRecursion (IsLoadedBy (store_of image)) (all_loaded state layout numbers)
  loaded = each-some (IsLoadedBy (store_of image)) layout.at (λ w l is. (rule_of layout w, w, r.holds.shows.each w l is)) (all_nodes state layout numbers)

  pub files-are : AreFiles image (words_in_use [] (all_loaded state layout numbers))
  files-are = record {
    mapped = λ n linked. record { allocations = allocated image (all_loaded state layout numbers) n loaded owned linked (tidy.counted n linked).num_entries; empty = (tidy.counted n linked).empty; updating = (tidy.counted n linked).updating };
    externals = λ n small. a.files n small ∙ sym (exactly (ExternalOf n)) ∙ ap (λ (cs : List Claim). has_claim cs (ExternalOf n)) (sym (all-claims (all_loaded state layout numbers)));
    only_linked = tidy.only_linked;
    long_enough = tidy.long_enough;
  }

none-repeats : repeats [] ≡ false
unfolding repeats
none-repeats = refl

pub opened-kept : OpenedFoldersKeepTheirState
opened-kept from between image state layout numbers valid well r a tidy id crash session = record {
  entries = record {
    valid = valid;
    sound = second.sound (first.sound well);
    represents = represents-outside (λ claim. false) (view_of from) (view_of image) state layout (agreeing-views (λ claim. false) from image agree) (λ claim node is. refl) r;
    numbers = numbers;
    owners = record { exact = a.exact; once = a.once; doomed = a.doomed };
    files = files-same between image (word-headers between image 32 refl (lit≤ tt) refl crash) _ (first.sound well) (files-same from between (word-headers from between 20 refl (lit≤ tt) refl id) _ well (files-are from state layout numbers r a tidy));
    unlinked_words = record { stand = tt; free = λ claim e. absurd (let z : false ≡ true = sym (no-claim claim) ∙ e in cc); single = none-repeats };
    sealed = λ node l here. let clear : AreClear (λ claim. false) l = clear-at (λ claim. false) state layout (λ claim node is. refl) r.holds.lies node l here in
        sealed-same (λ claim. false) from image agree l (standing-at from state layout r node l here) clear.node clear.contents (tidy.sealed node l here);
    session = session;
  };
  counters = count-beside between image 32 refl refl crash ∙ count-beside from between 20 refl refl id ∙ tidy.counts;
} where
  agree : AgreeBut (λ claim. false) from image
  agree = agreement-goes_on (λ claim. false) from between image (word-agrees from between 20 refl (lit≤ tt) refl id) (word-agrees between image 32 refl (lit≤ tt) refl crash)

  first : KeepsHeaders from between
  first = others-unchecked from between 20 refl refl id

  second : KeepsHeaders between image
  second = others-unchecked between image 32 refl refl crash
