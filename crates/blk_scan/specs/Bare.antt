-- Nodes and records whose checksum is absent.
use Rattle.std.specs.Prelude.{ℕ, Bool, List, map, ◌++◌, ◌&&◌, ◌==◌}
use Rattle.std.specs.List.{filter}
use Rattle.spec_image.specs.Image.{Image}
use Rattle.spec_folder.specs.Found.{kept}
use Rattle.spec_folder.specs.View.{entry_at, node_at}

-- the checksum of the node at address w is absent (0)
abbrev pub is_bare_node : Image → ℕ → Bool
is_bare_node image w = (node_at image w).self_hash == 0

-- the node at address w is selected by `keep`, and its checksum is absent
abbrev pub is_kept_bare_node : (ℕ → Bool) → Image → ℕ → Bool
is_kept_bare_node keep image w = keep w && is_bare_node image w

-- the checksum of the record at address w is absent (0)
abbrev pub is_bare_record : Image → ℕ → Bool
is_bare_record image w = (entry_at image w).self_hash == 0

-- the kept nodes whose checksum is absent, and then the records of kept entries whose checksum is, both in the order of the LRU list
abbrev pub bare_of_kept : Image → List ℕ
bare_of_kept image = filter (is_bare_node image) (map (λ k. k.node) (kept image)) ++ filter (is_bare_record image) (map (λ k. k.contents) (kept image))
