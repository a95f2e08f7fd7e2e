-- What is printed of files, failed checks and I/O errors.
use Rattle.std.specs.Prelude.{false, ℕ, ◌-◌, List, ◌++◌, length, replicate, codes, decimal}
use Rattle.std.specs.Fmt.{digits}
use Rattle.spec_image.specs.Image.{File, Index, Block, External}
use Rattle.spec_image.specs.Checks as checks
use Rattle.blk_io.specs.declared.fault.Fault.{Fault}
use Rattle.blk_io.specs.declared.fault.Fault.TheVariants.{Device, Damaged}
use Rattle.blk_io.specs.Faults.{damage_of}

-- the digits of a number in lower-case hexadecimal, with zeros (48 is '0') before them to a length of at least so many
unfoldable pub hex_text : ℕ → ℕ → List ℕ
hex_text least n = replicate (least - length (digits 16 false n)) 48 ++ digits 16 false n

-- the name of a file: a block file's number is in decimal, an external file's has at least six hexadecimal digits
unfoldable pub name_of : File → List ℕ
name_of Index = codes "index"
name_of (Block n) = codes "data_" ++ decimal n
name_of (External n) = codes "f_" ++ hex_text 6 n

-- the line of a failed check: the file, the offset in decimal, the word in eight hexadecimal digits
unfoldable pub damage_text : checks.Damage → List ℕ
damage_text damage = codes "damaged " ++ (name_of damage.file ++ (codes " " ++ (decimal damage.at ++ (codes " " ++ hex_text 8 damage.found))))

-- what is printed of an I/O error: a failure of the folder, the input or the output
abbrev pub failed_text : List ℕ
failed_text = codes "the device failed"

-- what is printed where memory ran out
abbrev pub no_memory_text : List ℕ
no_memory_text = codes "there is no memory"

-- what is printed of an I/O error or of a failed check
abbrev pub fault_text : Fault → List ℕ
fault_text Device = failed_text
fault_text (Damaged damage) = damage_text (damage_of damage)
