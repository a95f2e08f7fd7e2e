-- The end of an object that no handle names any more: a live one becomes clean, a doomed one is freed.
use Rattle.std.specs.Prelude.{◌≡◌, ℕ, Bool, IsOk, OnOk, false, true}
use Rattle.std.specs.Option.{ForSome}
use Rattle.std.specs.declared.result.Result.{Result}
use Rattle.spec_image.specs.Image.{Image}
use Rattle.spec_image.specs.Told.{Passes, Stays, Told}
use Rattle.spec_folder.specs.Loads.{Loaded}
use Rattle.spec_folder.specs.Sound.{words_of}
use Rattle.spec_folder.specs.View.{list_of}
use Rattle.blk_io.specs.declared.fault.Fault.{Fault}
use Rattle.blk_disk.specs.declared.tables.BlockFiles.{BlockFiles}
use Rattle.blk_handles.specs.declared.open_object.OpenObject.{OpenObject}
use Rattle.blk_entry.specs.Marks.{SetsDirty}
use Rattle.blk_object.specs.Freeing.{AreFreeable, AreGoing, Removes}
use Rattle.blk_object.specs.Owning.{LoadsWith}

-- A live object.

-- the dirty flag of a dirty object was set to 0; a clean one needs no write
pub record Cleans {A : Type 0} (files : BlockFiles) (old new : Told) (object : OpenObject) (result : Result A Fault) : Type 0 where
  pub cleans : object.dirty ≡ true → SetsDirty files old new object.node 0 result
  pub stays : object.dirty ≡ false → Stays old new
  pub done : object.dirty ≡ false → IsOk result

-- A doomed object.

-- `loaded` is what lies at the record with address `entry`, and all its blocks and files may be freed
pub record LiesFreeable (entry : ℕ) (loaded : Loaded) (image : Image) : Type 0 where
  pub lies : LoadsWith entry loaded image
  pub freeable : AreFreeable (words_of loaded) image

-- what lies at the record with address `entry` may be freed
abbrev pub HasFreeable : ℕ → Image → Type 0
HasFreeable entry image = (loaded : Loaded) × LiesFreeable entry loaded image

-- all blocks and files of the entry at a record were freed, if they may be; after each single write a prefix of them is freed, and the next one perhaps partly
pub record FreesAll {A : Type 0} (old new : Told) (entry : ℕ) (result : Result A Fault) : Type 0 where
  pub freed : OnOk result (ForSome old.files (λ from. (loaded : Loaded) → LiesFreeable entry loaded from → ForSome new.files (Removes (words_of loaded) from)))
  pub stops : ForSome old.files (λ from. (loaded : Loaded) → LiesFreeable entry loaded from → Passes old new (AreGoing (words_of loaded) from))

-- precondition of the end of an object: a doomed one has a record whose blocks and files may be freed, and of a live one the node's checksum matches or is
-- absent
abbrev pub MayEndObject : (doomed : Bool) (entry node : ℕ) → Image → Type 0
MayEndObject true entry node image = HasFreeable entry image
MayEndObject false entry node image = (list_of image).checks node ≡ true
