-- The present bytes of a part, as a read and a search for a range find them, and how those of two parts are joined.
use Rattle.std.specs.Prelude.{◌≡◌, ℕ, ◌+◌, ◌==◌, List, map, is_some, if◌then◌else◌}
use Rattle.std.specs.Option.{option_and_then}
use Rattle.std.specs.declared.option.Option.{Option}
use Rattle.std.specs.declared.option.Option.TheVariants.{Some}
use Rattle.spec_image.specs.Image.{Image}
use Rattle.blk_model.specs.Bytes.{numbers_from}
use Rattle.blk_model.specs.Items.{IsPartValue, PartValue}
use Rattle.blk_model.specs.Sparse.{byte_in, first_run, up_to_missing}
use Rattle.blk_model.specs.State.{Object, part_at}
use Rattle.spec_format.specs.Names.{Name}
use Rattle.spec_format.specs.SparseIndex.{PartIndex}
use Rattle.spec_folder.specs.Entries.{IsPart, stream}
use Rattle.spec_folder.specs.Loads.{Loaded}
use Rattle.blk_object.specs.Owning.{LoadsWith}
use Rattle.blk_ranges.specs.PartMaps.{presence_in}

-- the byte at a position of part n, or None where it isn't present or the object doesn't have the part
abbrev pub byte_of_part : Object → (n place : ℕ) → Option ℕ
byte_of_part object n place = option_and_then (byte_in place) (part_at object n)

-- the bytes of part n from `place` on, up to the first that isn't present, at most `count`
abbrev pub part_bytes : Object → (n place count : ℕ) → List ℕ
part_bytes object n place count = up_to_missing (map (byte_of_part object n) (numbers_from place count))

-- the first run of present bytes among `count` bytes of part n from `place` on, as its position and length; `place` and 0 where there is none
abbrev pub part_run : Object → (n place count : ℕ) → ℕ × ℕ
part_run object n place count = first_run place place (map (λ p. is_some (byte_of_part object n p)) (numbers_from place count))

-- the first run of present bytes in two adjoining ranges: that of the first, joined with that of the second where both meet at the border; or that of the
-- second; `asked` and 0 where there is none
abbrev pub joined_runs : (asked border : ℕ) → ℕ × ℕ → ℕ × ℕ → ℕ × ℕ
joined_runs asked border one two =
    if one.1 == 0 then (if two.1 == 0 then (asked, 0) else two) else
    if one.0 + one.1 == border then (if two.0 == border then (one.0, one.1 + two.1) else one) else one

-- the record at address `entry` is that of part n of an object: what is loaded with it has the part's data and its validity bitmap
pub record IsPartRead (object : Object) (n entry : ℕ) (image : Image) : Type 0 where
  pub value : PartValue
  pub has : part_at object n ≡ Some value
  pub is_value : IsPartValue value
  pub loaded : Loaded
  pub loads : LoadsWith entry loaded image
  pub name : Name
  pub index : PartIndex
  pub role : loaded.role ≡ IsPart name index
  pub bytes : stream 1 loaded.streams ≡ value.bytes
  pub presence : presence_in index ≡ value.presence

-- P holds of each object and part that the record at address `entry` is of
abbrev pub ForEachPartRead : (entry : ℕ) → Image → (Object → (n : ℕ) → Type 0) → Type 0
ForEachPartRead entry from P = (object : Object) (n : ℕ) → IsPartRead object n entry from → P object n
