-- Lemmas: what dropping the streams of a record changes of the view.
use Rattle.std.specs.Prelude.{ℕ, ◌≡◌, Bool, true, [], ◌∷◌, Some}
use Rattle.spec_image.specs.Image.{Image}
use Rattle.spec_image.specs.Footprint.{SameOutside}
use Rattle.spec_format.specs.Address.{is_address, kind_of, blocks_256}
use Rattle.spec_format.specs.Claims.{Claim, claims_of_all, has_claim}
use Rattle.spec_folder.specs.View.{view_of}
use Rattle.spec_folder.specs.Footprint.{SameBut}
use Rattle.blk_disk.specs.declared.tables.BlockFiles.{BlockFiles}
use Rattle.blk_disk.specs.Tables.{Agrees, stands_among}
use Rattle.blk_stream.specs.Streams.{HasStreams, address_word, streams_at}
use Rattle.blk_stream.specs.Dropping.{AreDropped, dropping_of}

-- a block or a file is one of the blocks of the record at address `entry`, or of the blocks or files of its streams
abbrev pub is_of_entry : Image → ℕ → Claim → Bool
is_of_entry image entry = has_claim (claims_of_all (entry ∷ address_word image entry 0 ∷ address_word image entry 1 ∷ address_word image entry 2 ∷ []))

-- at each write of dropping the streams of a valid record, and at the end, the view has changed only in the record and its streams
abbrev pub DropsAreShownInside : Type 0
DropsAreShownInside =
    (files : BlockFiles) (from image : Image) (entry : ℕ) → kind_of entry ≡ blocks_256 → is_address entry ≡ true → stands_among files entry ≡ true
    → Agrees files from → SameOutside (dropping_of 3 entry from) from image → SameBut (is_of_entry from entry) (view_of from) (view_of image)

-- when the three streams of a record are dropped, the record reads as one with three empty streams
abbrev pub DroppedStreamsAreEmpty : Type 0
DroppedStreamsAreEmpty =
    (files : BlockFiles) (from image : Image) (entry : ℕ) → kind_of entry ≡ blocks_256 → is_address entry ≡ true → stands_among files entry ≡ true
    → Agrees files image → HasStreams entry from → AreDropped 3 entry from image → streams_at image entry ≡ Some ([] ∷ [] ∷ [] ∷ [])
