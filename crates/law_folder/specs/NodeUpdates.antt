-- What the update of a node does to what is shown, at each of its words.
use Rattle.std.specs.Prelude.{◌≡◌, ℕ, ◌^◌, ◌<◌, ◌==◌, if◌then◌else◌, List, [], ◌∷◌, All, take, true}
use Rattle.std.specs.declared.option.Option.TheVariants.{Some}
use Rattle.spec_image.specs.Image.{Image, AreBytes}
use Rattle.spec_folder.specs.ListView.{Next, Prev}
use Rattle.spec_folder.specs.View.{NodeFields, list_of, store_of}
use Rattle.spec_format.specs.Sealed.{AreChanges, IsMidUpdate, seal_place}
use Rattle.spec_folder.specs.ShownChanges.{OnlyListChanges, OnlyNodeFieldsChange}
use Rattle.spec_format.specs.Records.{node_next_place, node_prev_place, node_contents_place, node_dirty_place}

-- a node is there, its checksum is right or absent, and the image is one of bytes
pub record IsNode (image : Image) (w : ℕ) : Type 0 where
  pub good : (list_of image).checks w ≡ true
  pub bytes : AreBytes image

-- at each word of the update of a node's next, what is shown has none or all of one write into the LRU list
abbrev pub NextsAreWritten : Type 0
NextsAreWritten = (from image : Image) (w x : ℕ) → IsNode from w → x < 2 ^ 32 → (moment : IsMidUpdate from w ((node_next_place, x) ∷ []) image) → OnlyListChanges (take moment.made (Next w x ∷ [])) from image

-- at each word of the update of a node's prev, what is shown has none or all of one write into the LRU list
abbrev pub PrevsAreWritten : Type 0
PrevsAreWritten = (from image : Image) (w x : ℕ) → IsNode from w → x < 2 ^ 32 → (moment : IsMidUpdate from w ((node_prev_place, x) ∷ []) image) → OnlyListChanges (take moment.made (Prev w x ∷ [])) from image

-- the update of a node's times, which lie before its next, changes nothing that is shown
abbrev pub TimesAreNotShown : Type 0
TimesAreNotShown = (from image : Image) (w : ℕ) (changes : List (ℕ × ℕ)) → IsNode from w → AreChanges (seal_place w) changes → All (λ change. change.0 < node_next_place) changes → IsMidUpdate from w changes image → OnlyListChanges [] from image

-- at each word of the update of a node's contents, nothing else that is shown changes, and these are the old or the new word
abbrev pub ContentsAreWritten : Type 0
ContentsAreWritten = (from image : Image) (w x : ℕ) → IsNode from w → x < 2 ^ 32 → (moment : IsMidUpdate from w ((node_contents_place, x) ∷ []) image) → (node_fields : NodeFields) → (store_of from).node_fields w ≡ Some node_fields
    → OnlyNodeFieldsChange w from image × ((store_of image).node_fields w ≡ Some (if moment.made == 0 then node_fields else record node_fields { contents = x }))

-- at each word of the update of a node's dirty flag, nothing else that is shown changes, and it is the old or the new word
abbrev pub DirtyWordsAreWritten : Type 0
DirtyWordsAreWritten = (from image : Image) (w x : ℕ) → IsNode from w → x < 2 ^ 32 → (moment : IsMidUpdate from w ((node_dirty_place, x) ∷ []) image) → (node_fields : NodeFields) → (store_of from).node_fields w ≡ Some node_fields
    → OnlyNodeFieldsChange w from image × ((store_of image).node_fields w ≡ Some (if moment.made == 0 then node_fields else record node_fields { dirty = x }))
