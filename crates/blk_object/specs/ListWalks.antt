-- A walk over the LRU list, from node to node: where it ends, and where it goes on after more nodes than a list has.
use Rattle.std.specs.Prelude.{◌≡◌, ℕ, ◌+◌, ◌==◌, List, [], ◌∷◌, length, Option, None, Some, if◌then◌else◌, true}
use Rattle.std.specs.Option.{ForSome}
use Rattle.spec_image.specs.Image.{Image}
use Rattle.spec_image.specs.Told.{Told}
use Rattle.spec_folder.specs.ListView.{ListView, most_nodes}
use Rattle.spec_folder.specs.View.{list_of}
use Rattle.blk_record.specs.declared.node.TheConstants.NodeView as NodeView
use Rattle.blk_io.specs.declared.fault.Damage.{Damage}
use Rattle.blk_disk.specs.declared.tables.BlockFiles.{BlockFiles}
use Rattle.blk_disk.specs.Tables.{is_node_among}
use Rattle.blk_entry.specs.Keys.{IsWordOf}
use Rattle.blk_lru.specs.Nodes.{IsLinkPlace, link_at}
use Rattle.blk_lru.specs.Plans.{word_or_zero}
use Rattle.blk_chain.specs.Finding.{last_passed}

-- A walk goes by the `next` of the nodes, from the head of the list on, or by their `prev`, from its tail on. The offset `at` of that word in a node says
-- which.

-- the end of the list at which a walk by the word at offset `at` begins
abbrev pub end_word : (at : ℕ) → ListView → ℕ
end_word at list = if at == NodeView.NEXT then list.head else list.tail

-- from a node a walk goes to the node that its word at `at` names, or nowhere where the node names itself; a walk begins at the end of the list, or nowhere
-- where this is 0
abbrev pub GoesTo : (at : ℕ) → Image → (before next : Option ℕ) → Type 0
GoesTo at image None next = word_or_zero next ≡ end_word at (list_of image)
GoesTo at image (Some node) next = next ≡ (if link_at image node at == node then None else Some (link_at image node at))

-- a walk from a node, or from the end of the list, passes these nodes one after the other, each of them valid
abbrev pub FollowsList : BlockFiles → (at : ℕ) → Image → (from : Option ℕ) → List ℕ → Type 0
FollowsList files at image from [] = Unit {0}
FollowsList files at image from (node ∷ nodes) = GoesTo at image from (Some node) × ((is_node_among files node ≡ true) × FollowsList files at image (Some node) nodes)

-- a walk from a node, or from the end of the list, has passed `count` nodes, the last of them `before`
pub record HasPassedNodes (files : BlockFiles) (at : ℕ) (from before : Option ℕ) (count : ℕ) (image : Image) : Type 0 where
  pub nodes : List ℕ
  pub many : length nodes ≡ count
  pub last : last_passed from nodes ≡ before
  pub follows : FollowsList files at image from nodes

-- a walk from a node, or from the end of the list, ends after some nodes
pub record WalkEnds (files : BlockFiles) (at : ℕ) (from : Option ℕ) (image : Image) : Type 0 where
  pub before : Option ℕ
  pub count : ℕ
  pub passed : HasPassedNodes files at from before count image
  pub ends : GoesTo at image before None

-- Walks that are too long.

-- the last node that was passed has a next one: the error has the offset of its word at `at`, and as its word that next node
pub record IsWordBehind (before : Option ℕ) (at : ℕ) (next : Option ℕ) (damage : Damage) : Type 0 where
  pub last : ℕ
  pub is_last : before ≡ Some last
  pub is_next : next ≡ Some damage.found
  pub of_word : IsWordOf last at damage.found damage

-- a walk has passed one node more than a list may have, and goes on: the error has the `next` or the `prev` of the last one, and as its word the node that it
-- names
pub record IsListTooLong (files : BlockFiles) (told : Told) (damage : Damage) : Type 0 where
  pub at : ℕ
  pub link : IsLinkPlace at
  pub from : Option ℕ
  pub last : ℕ
  pub stands : is_node_among files last ≡ true
  pub of_word : IsWordOf last at damage.found damage
  pub names : is_node_among files damage.found ≡ true
  pub passed : ForSome told.files (HasPassedNodes files at from (Some last) (most_nodes + 1))
  pub goes_on : ForSome told.files (λ image. GoesTo at image (Some last) (Some damage.found))
