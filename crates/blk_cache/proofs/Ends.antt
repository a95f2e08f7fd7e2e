-- Where a cache keeps a state its folder may be written, and ends consistent where no name is bound.
use Rattle.std.proofs.Common.{◌≡◌, inl, inr, ℕ, length, Option, Some, None, refl, ◌∙◌, subst, arith, false}
use Rattle.std.specs.Option.{ForSome}
use Rattle.spec_image.specs.Image.{Image, Index, byte, word}
use Rattle.spec_image.specs.Steps.{after, word_step}
use Rattle.spec_image.specs.Told.{Told, Applies}
use Rattle.spec_image.proofs.Images.{word-after_same}
use Rattle.spec_image.proofs.Runs.{told_whole}
use Rattle.spec_format.specs.Headers.{HasWholeIndex, index_version, version_of}
use Rattle.spec_image.specs.Footprint.{SameOutside, one_word}
use Rattle.blk_model.specs.State.{State, is_named, named_by}
use Rattle.spec_format.proofs.Counts.{its-version}
use Rattle.spec_format.proofs.Finished.{sound-whole}
use Rattle.spec_folder.specs.Found.{HoldsStill}
use Rattle.spec_folder.specs.Layout.{Layout}
use Rattle.law_folder.proofs.updates.IndexWords.{word-still}
use Rattle.law_state.specs.CounterLaws.{charged}
use Rattle.law_state.proofs.Keeping.{kept-sound}
use Rattle.law_recovery.specs.Mended.{IsMended}
use Rattle.law_recovery.specs.MendedChanges.{KeepsMendedLinks}
use Rattle.law_recovery.proofs.Mended.{mended-sound}
use Rattle.law_recovery.proofs.MendedChanges.{hidden-change}
use Rattle.law_recovery.proofs.MendedParts.{counters-left, files-mended, words-leave}
use Rattle.law_recovery.proofs.RecordSeals.{words-behind}
use Rattle.law_recovery.proofs.SoundFolders.{sound-mended}
use Rattle.blk_handles.specs.Bindings.{Binding}
use Rattle.blk_cache.specs.declared.cache.Cache.{Cache}
use Rattle.blk_cache.specs.BoundNames.{AreAllFree}
use Rattle.blk_cache.specs.CacheKeeping.{IsBoundAs, HoldsState, KeepsState}
use Rattle.blk_cache.specs.OpeningLaws.{FreeCachesEndSound, FreeCachesHoldStill, KeptFoldersAreOpen}
use Rattle.blk_cache.proofs.Unnamed.{none-among, unnamed-rests}

pub kept-open : KeptFoldersAreOpen
kept-open cache state image k = record { agrees = k.files; whole_index = sound-whole image k.kept.entries.sound }

-- where no name is bound, the state names nothing
free-named : (state : State) (layout : Layout) (o : Option ℕ) → IsBoundAs state layout o None → o ≡ None
free-named state layout None is = refl
free-named state layout (Some number) is = absurd is

free-unnamed : (cache : Cache) (state : State) (image : Image) → HoldsState cache state image → AreAllFree cache.handles → (number : ℕ) → is_named state number ≡ false
free-unnamed cache state image k free number =
    none-among state.names number (λ i. free-named state k.layout (named_by state i) (subst (λ (o : Option Binding). IsBoundAs state k.layout (named_by state i) o) (free i) (k.names i)))

-- then the folder is as recovery leaves it
module _ (cache : Cache) (state : State) (from image : Image) (keeps-it : KeepsState cache state from) (free : AreAllFree cache.handles) (outside : SameOutside (one_word Index 32) from image) where
  k : HoldsState cache state from
  k = keeps-it.holds

  version-was : version_of (byte from Index) ≡ index_version
  version-was = its-version (byte from Index) (length state.uses) (charged state k.layout) k.kept.counters

  was : IsMended from
  was = sound-mended from (kept-sound state k.layout from k.kept keeps-it.finished (unnamed-rests state k.kept.entries.valid (free-unnamed cache state from k free))) version-was

  -- the version stays
  version-now : version_of (byte image Index) ≡ index_version
  version-now = word-still from image 32 outside 4 (inl (omega arith)) ∙ version-was

  keeps : KeepsMendedLinks from image
  keeps = hidden-change from image 32 was.links refl (omega arith) refl refl outside

  now : IsMended image
  now =
      let files = files-mended (one_word Index 32) from image (words-behind 32) outside was.links keeps in
      record {
        links = keeps.mended;
        files = files.0 was.files;
        only = files.1 was.only;
        sealed = words-leave from image 32 outside keeps was.sealed;
        counters = counters-left from image 32 refl refl outside keeps was.counters;
      }

  still : HoldsStill from image
  still = record { usable = λ _. inr keeps.mended.well_formed; formed = λ _. keeps.mended.well_formed; found_same = keeps.found_same }

pub holds-still : FreeCachesHoldStill
holds-still cache state from image k free outside = still cache state from image k free outside

pub ends-sound : FreeCachesEndSound
ends-sound cache state from image k free outside are = (mended-sound image (now cache state from image k free outside) are, version-now cache state from image k free outside)

-- the crash word is 0 once that is written
pub crash-cleared : {a b : Told} → ForSome a.files HasWholeIndex → Applies a b (word_step Index 32 0) → ForSome b.files (λ image. word image Index 32 ≡ 0)
crash-cleared whole made = told_whole (λ image. word image Index 32 ≡ 0) made (λ image there. written image (whole image there)) where
  written : (image : Image) → HasWholeIndex image → word (after (word_step Index 32 0) image) Index 32 ≡ 0
  written image long = unfold word_step in word-after_same image Index 32 0 (omega arith) (omega (arith, long))
