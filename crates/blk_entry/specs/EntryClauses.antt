-- Clauses of calls on an entry: what its record says, and when no check fails.
use Rattle.std.specs.Prelude.{◌≡◌, ◌↔◌, ℕ, Bool, IsTrue, List, Some, length, true}
use Rattle.spec_image.specs.Image.{Image}
use Rattle.spec_format.specs.Hash.{hash as hash_of}
use Rattle.spec_folder.specs.View.{entry_at}
use Rattle.blk_disk.specs.declared.tables.BlockFiles.{BlockFiles}
use Rattle.blk_disk.specs.Tables.{is_node_among}
use Rattle.blk_entry.specs.Keys.{HasData, HasKeyPlace, HasReadableKey, IsRecordHead, bytes_before, key_address, key_at}
use Rattle.blk_entry.specs.declared.keys.Head.{Head}

-- the record names a rankings node that is there
abbrev pub HasNodeThere : BlockFiles → ℕ → Image → Type 0
HasNodeThere files entry image = is_node_among files (entry_at image entry).rankings_node ≡ true

-- if the record has the key's hash and length, its words give a key its place
abbrev pub PlacesKeyOf : BlockFiles → List ℕ → ℕ → Image → Type 0
PlacesKeyOf files key entry image = (entry_at image entry).hash ≡ hash_of key → (entry_at image entry).key_len ≡ length key → HasKeyPlace files entry image

-- if `head` has the record's words and its key can be read, `same` is whether it is this key
abbrev pub IsKeyByHead : List ℕ → ℕ → Head → Bool → Image → Type 0
IsKeyByHead key entry head same image = IsRecordHead image entry head → HasReadableKey entry image → IsTrue same ↔ (key_at image entry ≡ Some key)

-- the file has n bytes where the words in `head` say that the record's key lies
abbrev pub HasBytesByHead : ℕ → Head → ℕ → Image → Type 0
HasBytesByHead entry head n image = HasData (key_address entry head.key_len head.long_key) (bytes_before head.key_len) n image
