-- What the record of a listed item says of it.
use Rattle.std.proofs.Common.{◌≡◌, ℕ, zero, suc, ◌<◌, ◌≤◌, List, length, take, Some, sym, ap, ◌∙◌, arith}
use Rattle.std.specs.Prelude.{slice_index}
use Rattle.spec_image.specs.Image.{Image}
use Rattle.spec_folder.specs.Entries.{stream}
use Rattle.spec_folder.specs.Loads.{Loaded}
use Rattle.spec_folder.specs.View.{RecordFields, store_of}
use Rattle.law_folder.proofs.chains.ChainWords.{shown-fields}
use Rattle.law_folder.proofs.walks.Loads.{load-then}
use Rattle.law_folder.proofs.walks.Shown.{role-name}
use Rattle.blk_entry.specs.declared.keys.Head.{Head}
use Rattle.blk_entry.specs.Keys.{IsPiece, IsRecordHead, key_at}
use Rattle.blk_object.specs.Owning.{LoadsWith}
use Rattle.blk_object.proofs.OwnedCharges.{HaveLengths, streams-length}
use Rattle.blk_print.specs.ItemRows.{IsItemToldBy}
use Rattle.blk_evict.proofs.GroupsOut.{key-read, kind-read}

-- the sizes of a record are the lengths of its streams
size-of : (e : RecordFields) (streams : List (List ℕ)) → HaveLengths e streams → (i : ℕ) → i < 3 → slice_index e.data_size i ≡ length (stream i streams)
size-of e streams lengths zero below = sym lengths.first
size-of e streams lengths (suc zero) below = sym lengths.second
size-of e streams lengths (suc (suc zero)) below = sym lengths.third
size-of e streams lengths (suc (suc (suc n))) below = absurd (omega (arith, below))

pub told-by : (image : Image) (entry : ℕ) (head : Head) (loaded : Loaded) (old new : List ℕ) (len : ℕ) → IsRecordHead image entry head → LoadsWith entry loaded image → 32796 ≤ length old → ((stored : List ℕ) → key_at image entry ≡ Some stored → IsPiece stored 0 old new len)
    → IsItemToldBy loaded (take len new) head
told-by image entry head loaded old new len is lies room piece = record {
  kind = kind-read image entry head loaded is lies;
  key = key-read image entry loaded old new len lies room piece;
  sizes = λ i below. load-then (store_of image) lies.rule lies.node loaded lies.loads (λ n e f.
      let here : (store_of image).entry entry ≡ Some e = ap (store_of image).entry (sym lies.contents ∙ f.facts.contents_is) ∙ f.entry in
      ap (λ (ws : List ℕ). slice_index ws i) is.sizes ∙ ap (λ (x : RecordFields). slice_index x.data_size i) (shown-fields image entry e here) ∙ size-of e loaded.streams (streams-length image e loaded.streams f.facts.streams) i below);
  named = λ said index part. load-then (store_of image) lies.rule lies.node loaded lies.loads (λ n e f. role-name e loaded.key loaded.streams said index (f.facts.role ∙ ap Some part));
}
