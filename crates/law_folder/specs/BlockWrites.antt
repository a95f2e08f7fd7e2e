-- What writes into blocks do to what is shown.
use Rattle.std.specs.Prelude.{◌≡◌, ◌≢◌, ℕ, ◌+◌, ◌≤◌, true, List, [], ◌++◌}
use Rattle.spec_image.specs.Image.{Block, Image}
use Rattle.spec_image.specs.Footprint.{SameOutside, range}
use Rattle.spec_format.specs.Address.{kind_of, file_selector, place, byte_size, external}
use Rattle.spec_format.specs.BlockFiles.{stands_in}
use Rattle.spec_folder.specs.ListView.{ListWrite}
use Rattle.spec_format.specs.Sealed.{BeginsWithRecord, IsMidUpdate}
use Rattle.spec_folder.specs.ShownChanges.{ChangesInside, OnlyListChanges}

-- a write of n bytes into the blocks of a valid address changes only these blocks
abbrev pub WritesStayInside : Type 0
WritesStayInside = (from image : Image) (w at n : ℕ) → stands_in from w ≡ true → kind_of w ≢ external → place w ≤ at → at + n ≤ place w + byte_size w → SameOutside (range (Block (file_selector w)) at n) from image → ChangesInside w from image

-- an update of the record at the start of a valid address's blocks changes only these blocks, before and after each of its writes
abbrev pub UpdatesStayInside : Type 0
UpdatesStayInside = (from image : Image) (w : ℕ) (changes : List (ℕ × ℕ)) → stands_in from w ≡ true → BeginsWithRecord w → IsMidUpdate from w changes image → ChangesInside w from image

-- where nothing was written into the LRU list, nothing is shown to change
abbrev pub ListChangesBegin : Type 0
ListChangesBegin = (image : Image) → OnlyListChanges [] image image

-- writes into the LRU list, and later ones after them, are together one change of the list alone
abbrev pub ListChangesAdd : Type 0
ListChangesAdd = (writes later : List ListWrite) (from between image : Image) → OnlyListChanges writes from between → OnlyListChanges later between image → OnlyListChanges (writes ++ later) from image
