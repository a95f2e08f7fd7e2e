-- The buffer that a cache has for keys and names.
use Rattle.std.specs.Prelude.{ℕ, ◌+◌}
use Rattle.blk_model.specs.Sizes.{longest_key}
use Rattle.blk_entry.specs.Keys.{most_key}

-- the length of the buffer: the key of a parent, and after it the name of a part
abbrev pub name_buffer_len : ℕ
name_buffer_len = longest_key + most_key
