-- How block files are checked and loaded: along the links of each kind, one file after another.
use Rattle.std.specs.Prelude.{◌≡◌, ◌≢◌, ◌⊎◌, ℕ, ◌-◌, ◌<◌, ◌≤◌, List, [], ◌∷◌, ◌++◌, length, drop, ◌==◌, ◌||◌, if◌then◌else◌, false, true, Option, None, Some, Result, Ok, Err}
use Rattle.std.specs.List.{flat_map}
use Rattle.spec_image.specs.Bytes.{content}
use Rattle.spec_image.specs.Image.{Block, Image, byte, length_of}
use Rattle.spec_image.specs.Checks as checks
use Rattle.spec_image.specs.Checks.{first_of}
use Rattle.spec_image.specs.Told.{Told}
use Rattle.spec_format.specs.Address.{header_size, is_block_kind}
use Rattle.spec_format.specs.Headers.{next_file_of, max_entries_of, block_fields_length}
use Rattle.spec_format.specs.BlockFiles.{most_files, next_file_in, max_entries_in, files_along, linked, linked_up_to, is_among, file_checks, checks_along, checks_of_kind, block_kinds, block_checks, first_block_damage}
use Rattle.blk_io.specs.declared.folder.FileId.TheVariants as names
use Rattle.blk_io.specs.declared.fault.Damage.{Damage}
use Rattle.blk_io.specs.declared.fault.Fault.{Fault}
use Rattle.blk_io.specs.declared.fault.Fault.TheVariants.{Device, Damaged}
use Rattle.blk_io.specs.Faults.{damage_of, IsShort, IsShortAtStart}
use Rattle.blk_disk.specs.declared.tables.BlockFiles.{BlockFiles}
use Rattle.blk_disk.specs.declared.heads.Head.{Head}
use Rattle.blk_disk.specs.Tables.{files_of, all_files, blocks_of, length_in, Agrees}

-- the answer of a load for an image: the table agrees with the image and no check of a header fails; or the error is the first check that fails; an I/O error
-- says nothing of the image
abbrev pub LoadsAs : Result BlockFiles Fault → Image → Type 0
LoadsAs (Ok files) image = Agrees files image × (first_block_damage image ≡ None)
LoadsAs (Err Device) image = Unit {0}
LoadsAs (Err (Damaged damage)) image = first_block_damage image ≡ Some (damage_of damage)

-- the next file that a header's 16-bit field names, where 0 names none
abbrev pub next_of : ℕ → Option ℕ
next_of next = if next == 0 then None else Some next

-- what is kept of a header agrees with its content f and its file's length: the next file, the number of blocks, the length
pub record IsFileHead (f : ℕ → ℕ) (bytes : ℕ) (head : Head) : Type 0 where
  pub next : head.next ≡ next_of (next_file_of f)
  pub blocks : head.blocks ≡ max_entries_of f
  pub size : head.size ≡ bytes

-- at least all fields of a header were read, where its file is as long as a header
abbrev pub AreGiven : ℕ → ℕ → Type 0
AreGiven size given = header_size ≤ size → block_fields_length ≤ given

-- the answer for a header of which so many bytes were read: what is kept of it where none of its checks fails, and otherwise the first check that fails
abbrev pub AnswersFileHeader : Option checks.Damage → (ℕ → ℕ) → ℕ → ℕ → Result Head Fault → Type 0
AnswersFileHeader None f size given answer = AreGiven size given → (head : Head) × (answer ≡ Ok head) × IsFileHead f size head
AnswersFileHeader (Some damage) f size given answer = AreGiven size given → (found : Damage) × (answer ≡ Err (Damaged found)) × (damage_of found ≡ damage)

-- how many more files of a kind may be linked after the next one
abbrev pub files_left : BlockFiles → ℕ → ℕ
files_left files kind = most_files - 1 - length (files_of files kind)

-- the checks of the next file n of a kind, of its header with content f and of its length
abbrev pub header_checks : BlockFiles → ℕ → ℕ → (ℕ → ℕ) → ℕ → List (Option checks.Damage)
header_checks files kind n f size = file_checks kind (all_files files ++ n ∷ []) (files_left files kind) n f size

-- the first of these checks that fails for a header with these bytes, or None
abbrev pub first_header_damage : BlockFiles → (kind n : ℕ) → (header : List ℕ) → (size : ℕ) → Option checks.Damage
first_header_damage files kind n header size = first_of (header_checks files kind n (content header) size)

-- a header, of which so many bytes were given, can't be used: these are too few, or the error is the first check that fails
abbrev pub IsHeaderFault : BlockFiles → (kind n : ℕ) → (header : List ℕ) → (size given : ℕ) → Damage → Type 0
IsHeaderFault files kind n header size given damage =
    IsShortAtStart (Block n) block_fields_length given damage ⊎ (first_header_damage files kind n header size ≡ Some (damage_of damage))

-- the fields of a header and the length of file n were read, and the error is the first check of them that fails
pub record FailsFileCheck (files : BlockFiles) (kind n : ℕ) (damage : Damage) : Type 0 where
  pub header : List ℕ
  pub size : ℕ
  pub read : length header ≡ block_fields_length
  pub first : first_header_damage files kind n header size ≡ Some (damage_of damage)

-- why the next file n of a kind can't be loaded, of an opaque folder too: too few bytes of its header came, or a check of what was read fails
abbrev pub IsHeaderDamage : Told → BlockFiles → ℕ → ℕ → Damage → Type 0
IsHeaderDamage told files kind n damage = IsShort told (names.Block n) 0 block_fields_length damage ⊎ FailsFileCheck files kind n damage

-- the numbers that a file of a kind may have: kind - 1 for the first one, and 4 to 255 for one that a link names
abbrev pub IsFileNumber : ℕ → ℕ → Type 0
IsFileNumber kind n = (n ≡ kind - 1) ⊎ ((4 ≤ n) × (n ≤ 255))

-- the next file of a kind, if there is one, has a number that a file of the kind may have
abbrev pub MayBeNext : ℕ → Option ℕ → Type 0
MayBeNext kind None = Unit {0}
MayBeNext kind (Some n) = IsFileNumber kind n

-- the next file, if there is one, isn't in the list
abbrev pub IsFresh : List ℕ → Option ℕ → Type 0
IsFresh files None = Unit {0}
IsFresh files (Some n) = is_among files n ≡ false

-- the table has one file more, n, beside those that it had
abbrev pub TakesUp : BlockFiles → BlockFiles → ℕ → Type 0
TakesUp old new n = (m : ℕ) → is_among (all_files new) m ≡ (is_among (all_files old) m || (n == m))

-- the numbers of loaded files of the kinds up to this one: those of first files are below the kind, and all others are 4 or more
abbrev pub AreNumbered : List ℕ → ℕ → Type 0
AreNumbered files kind = (n : ℕ) → is_among files n ≡ true → (n < kind) ⊎ (4 ≤ n)

-- the error of a load: some next file of some block kind can't be loaded, with some files loaded before
pub record IsLoadDamage (told : Told) (damage : Damage) : Type 0 where
  pub files : BlockFiles
  pub kind : ℕ
  pub n : ℕ
  pub block_kind : is_block_kind kind ≡ true
  pub number : IsFileNumber kind n
  pub cause : IsHeaderDamage told files kind n damage

-- the checks of file n of an image as the next one of a kind, where these files are loaded already
abbrev pub next_checks : BlockFiles → Image → ℕ → ℕ → List (Option checks.Damage)
next_checks files image kind n = header_checks files kind n (byte image (Block n)) (length_of image (Block n))

-- the answer for the next file of an image: what its header says, where none of its checks fails, or the first that fails
abbrev pub AnswersNextHead : BlockFiles → Image → ℕ → ℕ → Result Head Fault → Type 0
AnswersNextHead files image kind n (Ok head) = (first_of (next_checks files image kind n) ≡ None) × IsFileHead (byte image (Block n)) (length_of image (Block n)) head
AnswersNextHead files image kind n (Err Device) = Unit {0}
AnswersNextHead files image kind n (Err (Damaged damage)) = first_of (next_checks files image kind n) ≡ Some (damage_of damage)

-- the checks of an image's block files of all kinds after this one
abbrev pub checks_after : Image → ℕ → List (Option checks.Damage)
checks_after image kind = flat_map (checks_of_kind image) (drop kind block_kinds)

-- the checks that are still to be made of an image: those from the next file of a kind on, and those of the kinds after it
abbrev pub checks_from : BlockFiles → Image → ℕ → Option ℕ → List (Option checks.Damage)
checks_from files image kind None = checks_after image kind
checks_from files image kind (Some n) = checks_along image kind (all_files files) (files_left files kind) n ++ checks_after image kind

-- the files of a kind from the next one on, along the links
abbrev pub links_from : BlockFiles → Image → ℕ → Option ℕ → List ℕ
links_from files image kind None = []
links_from files image kind (Some n) = files_along (next_file_in image) (files_left files kind) n

-- if there is a next file of a kind, fewer files than a kind may have are loaded
abbrev pub HasRoom : ℕ → Option ℕ → Type 0
HasRoom count None = Unit {0}
HasRoom count (Some n) = count < most_files

-- the table has the same files of all kinds but this one
abbrev pub KeepsOthers : BlockFiles → BlockFiles → ℕ → Type 0
KeepsOthers old new kind = (other : ℕ) → other ≢ kind → files_of new other ≡ files_of old other

-- invariant of the load at the next file of a kind: all files of the kinds before and those of this kind before it are loaded, and no check of them failed
pub record Follows (files : BlockFiles) (image : Image) (kind : ℕ) (next : Option ℕ) : Type 0 where
  pub met : linked_up_to image (kind - 1) ++ files_of files kind ≡ all_files files
  pub before : (other : ℕ) → 0 < other → other < kind → files_of files other ≡ linked image other
  pub after : (other : ℕ) → kind < other → files_of files other ≡ []
  pub here : 0 < kind → linked image kind ≡ files_of files kind ++ links_from files image kind next
  pub undamaged : first_of (block_checks image) ≡ first_of (checks_from files image kind next)
  pub blocks : (n : ℕ) → is_among (all_files files) n ≡ true → blocks_of files n ≡ max_entries_in image n
  pub lengths : (n : ℕ) → is_among (all_files files) n ≡ true → length_in files n ≡ length_of image (Block n)
