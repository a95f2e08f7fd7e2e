-- The LRU list of an image, the steps of its operations, and what their redo leaves.
use Rattle.std.specs.Prelude.{◌≡◌, ◌≤◌, ℕ, true, List, [], ◌∷◌, take}
use Rattle.spec_image.specs.Image.{Index, Image, AreBytes, length_of}
use Rattle.spec_image.specs.Steps.{TrailStep, after}
use Rattle.spec_format.specs.Headers.{header_length}
use Rattle.spec_format.specs.BlockFiles.{KeepsHeaders}
use Rattle.spec_folder.specs.ListView.{ListWrite, IsAtRest}
use Rattle.spec_folder.specs.Walk.{walk}
use Rattle.spec_folder.specs.Completion.{completed_list}
use Rattle.spec_folder.specs.ListPlans.{writes_of, touch_writes, completion_writes, completed_but_operation}
use Rattle.spec_folder.specs.View.{list_of, store_of}
use Rattle.spec_folder.specs.ListSteps.{AreOf, AllWriteWords, steps_of_writes, touch_steps}
use Rattle.spec_folder.specs.ShownChanges.{ShowsTheSame}

-- an image of bytes, whose index has its header
pub record IsWritable (image : Image) : Type 0 where
  pub bytes : AreBytes image
  pub has_header : header_length ≤ length_of image Index

-- writes into the LRU list can be made on an image: the nodes that are written are there with a right or absent checksum, and the words are below 2 ^ 32
pub record CanBeMade (image : Image) (writes : List ListWrite) : Type 0 where
  pub nodes : AreOf (λ node. (list_of image).checks node ≡ true) writes
  pub words : AllWriteWords writes

-- the nodes of an image's LRU list, as far as they are walked
abbrev pub walked : Image → List ℕ
walked image = walk (list_of image)

-- the nodes of an image's LRU list after its redo, as far as they are walked
abbrev pub completed_walk : Image → List ℕ
completed_walk image = walk (completed_list (list_of image))

-- the redo of an image's LRU list leaves these nodes
abbrev pub CompletesTo : List ℕ → Image → Type 0
CompletesTo nodes image = completed_walk image ≡ nodes

-- the LRU list of an image is idle, with these nodes
abbrev pub HasListAtRest : List ℕ → Image → Type 0
HasListAtRest nodes image = IsAtRest (list_of image) nodes

-- the steps of an operation on a node of the LRU list, by the operation's code
abbrev pub operation_steps : (code node : ℕ) → Image → List TrailStep
operation_steps code node image = steps_of_writes (writes_of code node (list_of image)) image

-- the steps of an access of a node at a moment: the writes into the LRU list, and then the node's times
abbrev pub steps_of_touch : (node moment : ℕ) → Image → List TrailStep
steps_of_touch node moment image = touch_steps node moment (touch_writes node (list_of image)) image

-- the steps of the redo of an image's LRU list
abbrev pub completion_steps : Image → List TrailStep
completion_steps image = steps_of_writes (completion_writes (list_of image)) image

-- the redo gives the same LRU list of two images, but for the operation word, which isn't read then
abbrev pub CompletesAlike : Image → Image → Type 0
CompletesAlike from image = completed_but_operation (list_of image) ≡ completed_but_operation (list_of from)

-- an image has the LRU list that the redo gives of an old one, but for the operation word, and it is idle; nothing but the list is shown to change
pub record IsCompleted (from image : Image) : Type 0 where
  pub list : record (list_of image) { operation = 0 } ≡ completed_but_operation (list_of from)
  pub idle : (list_of image).transaction ≡ 0
  pub walk : walked image ≡ completed_walk from
  pub store : ShowsTheSame (store_of from) (store_of image)

-- an image after redos of its LRU list that crash: each of these numbers is how many steps a redo made before it was begun again
abbrev pub stopped_folder : List ℕ → Image → Image
stopped_folder [] image = image
stopped_folder (count ∷ counts) image = stopped_folder counts (after (take count (completion_steps image)) image)

-- the redo gives the same LRU list and the same walk of two images; they show the same but for the list, and the headers are kept
pub record StopsAlike (from image : Image) : Type 0 where
  pub list : CompletesAlike from image
  pub walk : completed_walk image ≡ completed_walk from
  pub store : ShowsTheSame (store_of from) (store_of image)
  pub headers : KeepsHeaders from image
