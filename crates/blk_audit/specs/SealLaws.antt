-- Lemmas on checksums, of the fields as they are read and of the bytes.
use Rattle.std.specs.Prelude.{ℕ, ◌≡◌, ◌≢◌, true}
use Rattle.spec_image.specs.Image.{AreBytes, Image}
use Rattle.spec_format.specs.Address.{blocks_256, kind_of, rankings}
use Rattle.spec_format.specs.Records.{entry_checks, node_checks}
use Rattle.spec_format.specs.Sealed.{is_sealed, record_at, seal_place}
use Rattle.spec_folder.specs.View.{entry_at, node_at}

-- a record whose checksum is not absent and passes the check has the hash of its bytes as its checksum
abbrev pub CheckedRecordsAreSealed : Type 0
CheckedRecordsAreSealed = (image : Image) (w : ℕ) → AreBytes image → kind_of w ≡ blocks_256 → entry_checks (entry_at image w) ≡ true → (entry_at image w).self_hash ≢ 0 → is_sealed (seal_place w) (record_at image w) ≡ true

-- a node whose checksum is not absent and passes the check has the hash of its bytes as its checksum
abbrev pub CheckedNodesAreSealed : Type 0
CheckedNodesAreSealed = (image : Image) (w : ℕ) → AreBytes image → kind_of w ≡ rankings → node_checks (node_at image w) ≡ true → (node_at image w).self_hash ≢ 0 → is_sealed (seal_place w) (record_at image w) ≡ true
