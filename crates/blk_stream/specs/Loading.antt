-- A lemma: an entry loads with a stream that was written.
use Rattle.std.specs.Prelude.{ℕ, ◌≡◌, ◌<◌, List, [], ◌∷◌, Bool, true, ◌==◌, if◌then◌else◌, Some}
use Rattle.blk_model.specs.Effects.{stream_after}
use Rattle.spec_image.specs.Image.{Image}
use Rattle.spec_format.specs.Address.{blocks_256, is_address, kind_of}
use Rattle.spec_folder.specs.Entries.{stream}
use Rattle.blk_disk.specs.declared.tables.BlockFiles.{BlockFiles}
use Rattle.blk_disk.specs.Tables.{Agrees}
use Rattle.blk_alloc.specs.Extending.{KeepsStanding}
use Rattle.blk_stream.specs.Owned.{AreOthers}
use Rattle.blk_stream.specs.Streams.{address_word, streams_at}
use Rattle.blk_stream.specs.Written.{StreamIsWritten}

-- the three streams of an entry, with `bytes` as stream i
unfoldable pub stored_streams_with : ℕ → List ℕ → List (List ℕ) → List (List ℕ)
stored_streams_with i bytes streams = (if i == 0 then bytes else stream 0 streams) ∷ (if i == 1 then bytes else stream 1 streams) ∷ (if i == 2 then bytes else stream 2 streams) ∷ []

-- after a write of stream i of an entry whose record's blocks are used by nothing else, the entry loads with the same streams but for stream i, which has its
-- bytes after the write
abbrev pub WrittenStreamsLoad : Type 0
WrittenStreamsLoad = (files kept : BlockFiles) (from image : Image) (entry i offset : ℕ) (cut : Bool) (bytes : List ℕ) (streams : List (List ℕ)) → i < 3 → kind_of entry ≡ blocks_256 → is_address entry ≡ true
    → KeepsStanding files kept → Agrees files from → Agrees kept image → AreOthers files entry (address_word from entry i) from → streams_at from entry ≡ Some streams → StreamIsWritten files kept entry i offset cut bytes from image
    → streams_at image entry ≡ Some (stored_streams_with i (stream_after cut (stream i streams) offset bytes) streams)
