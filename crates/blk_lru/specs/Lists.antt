-- The LRU list of an image.
use Rattle.std.specs.Prelude.{ℕ, ◌≡◌, ◌≢◌, true, List, [], ◌∷◌, Option, None, Some}
use Rattle.spec_image.specs.Image.{Image}
use Rattle.spec_format.specs.BlockFiles.{is_among}
use Rattle.spec_folder.specs.ListView.{ListView, last_or}
use Rattle.spec_folder.specs.ListImages.{CanBeMade, HasListAtRest, walked}
use Rattle.spec_folder.specs.ListPlans.{touch_writes}
use Rattle.spec_folder.specs.View.{list_of}

-- the list is whole, and no operation is in flight
abbrev pub IsListAtRest : Image → Type 0
IsListAtRest image = HasListAtRest (walked image) image

-- the node is in the LRU list, which is idle
pub record IsListed (node : ℕ) (image : Image) : Type 0 where
  pub rest : IsListAtRest image
  pub listed : is_among (walked image) node ≡ true

-- the node, its next and its prev are valid, and their checksums match or are absent
pub record HasGoodLinks (list : ListView) (node : ℕ) : Type 0 where
  pub good : list.checks node ≡ true
  pub next_good : list.checks (list.next node) ≡ true
  pub prev_good : list.checks (list.prev node) ≡ true

-- precondition of `touch`: its writes can be made, the node passes its check, and unless it is the head its next and its prev do
pub record CanBeTouched (image : Image) (node : ℕ) : Type 0 where
  pub writes : CanBeMade image (touch_writes node (list_of image))
  pub good : (list_of image).checks node ≡ true
  pub linked : (list_of image).head ≢ node → HasGoodLinks (list_of image) node

-- the first element of the list, and below the last, or None where it is empty
abbrev pub first_node_of : List ℕ → Option ℕ
first_node_of [] = None
first_node_of (word ∷ words) = Some word

abbrev pub last_node_of : List ℕ → Option ℕ
last_node_of [] = None
last_node_of (word ∷ words) = Some (last_or word words)
