-- A folder that keeps a state is consistent once its session has ended and its index is initialized.
use Rattle.std.proofs.Common.{◌≡◌, ℕ, [], refl, ◌∙◌, lit≤, false}
use Rattle.blk_model.specs.State.{State}
use Rattle.spec_image.specs.Image.{Image}
use Rattle.spec_format.specs.BlockFiles.{HasSoundHeaders}
use Rattle.spec_format.proofs.Finished.{formed-of, well_formed-finished}
use Rattle.spec_folder.specs.Footprint.{AgreeBut}
use Rattle.spec_folder.specs.Layout.{Layout}
use Rattle.spec_folder.specs.View.{view_of}
use Rattle.law_folder.proofs.claims.ByteChanges.{agreeing-views, agreement-goes_on}
use Rattle.law_folder.proofs.claims.Outside.{AreClear, clear-at, represents-outside}
use Rattle.law_folder.proofs.states.Standing.{found-at_rest}
use Rattle.law_folder.proofs.updates.IndexWords.{others-unchecked, sound-unchecked}
use Rattle.law_state.specs.Keeping.{Keeps}
use Rattle.law_state.specs.KeepingLaws.{ChangesWord, KeptStatesEndSound}
use Rattle.law_state.proofs.Counts.{count-beside}
use Rattle.law_state.proofs.Free.{sealed-same, standing-at}
use Rattle.law_state.proofs.Headers.{files-same}
use Rattle.law_state.proofs.Keeping.{KeepsOffline, offline-sound}
use Rattle.law_state.proofs.Writes.{word-agrees, word-headers}

module _ (state : State) (layout : Layout) (from between image : Image) (k : Keeps state layout [] from) (crash : ChangesWord 32 from between) (magic : ChangesWord 0 between image) where
  agree : AgreeBut (λ claim. false) from image
  agree = agreement-goes_on (λ claim. false) from between image (word-agrees from between 32 refl (lit≤ tt) refl crash) (word-agrees between image 0 refl (lit≤ tt) refl magic)

  sound-between : HasSoundHeaders between
  sound-between = (others-unchecked from between 32 refl refl crash).sound k.entries.sound

  ended : KeepsOffline state layout image
  ended = record {
    valid = k.entries.valid;
    sound = (sound-unchecked between image 0 refl (lit≤ tt) refl refl magic).0 sound-between;
    represents = represents-outside (λ claim. false) (view_of from) (view_of image) state layout (agreeing-views (λ claim. false) from image agree) (λ claim node is. refl) k.entries.represents;
    numbers = k.entries.numbers;
    owners = k.entries.owners;
    files = files-same between image (word-headers between image 0 refl (lit≤ tt) refl magic) _ sound-between
        (files-same from between (word-headers from between 32 refl (lit≤ tt) refl crash) _ k.entries.sound k.entries.files);
    sealed = λ node l here. let clear : AreClear (λ claim. false) l = clear-at (λ claim. false) state layout (λ claim node is. refl) k.entries.represents.holds.lies node l here in
        sealed-same (λ claim. false) from image agree l (standing-at from state layout k.entries.represents node l here) clear.node clear.contents (k.entries.sealed node l here);
    counters = count-beside between image 0 refl refl magic ∙ count-beside from between 32 refl refl crash ∙ k.counters;
  }

pub kept-ends : KeptStatesEndSound
kept-ends state layout from between image k at_rest crash magic there =
    let now : KeepsOffline state layout image = ended state layout from between image k crash magic in (
      offline-sound state layout image now there at_rest,
      found-at_rest image state layout now.represents now.valid (well_formed-finished image (formed-of image now.sound there)),
    )
