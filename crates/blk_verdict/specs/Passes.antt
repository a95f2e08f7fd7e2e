-- The two passes over the walked nodes: first those without the child flag, then the parts.
use Rattle.std.specs.Prelude.{ℕ, ◌≡◌, List, [], ◌∷◌, Bool, true, false, not, slice_get}
use Rattle.std.specs.List.{AllZip, filter}
use Rattle.std.specs.declared.option.Option.{Option}
use Rattle.std.specs.declared.option.Option.TheVariants.{Some}
use Rattle.std.specs.declared.result.Result.{Result}
use Rattle.spec_image.specs.Image.{Image}
use Rattle.spec_folder.specs.Audit.{is_child, verdict, verdicts, with_verdict}
use Rattle.spec_folder.specs.Loads as shown
use Rattle.spec_folder.specs.Loads.{Rule, held_rule}
use Rattle.spec_folder.specs.Reasons as reasons
use Rattle.spec_folder.specs.View.{StoreView, store_of}
use Rattle.blk_disk.specs.declared.tables.BlockFiles.{BlockFiles}
use Rattle.blk_disk.specs.Tables.{Agrees}
use Rattle.blk_audit.specs.ReadLists.{AreListsOf}
use Rattle.blk_audit.specs.declared.scanning.Lists.{Lists}
use Rattle.blk_verdict.specs.Kept.{AreShown, HaveKeys, IsSameAnswer}
use Rattle.blk_verdict.specs.declared.loading.Loaded.{Loaded}
use Rattle.blk_verdict.specs.declared.passes.Tried.{Tried}

-- a node is tried in a pass: the pass of the parts tries nodes with the child flag, the other pass those without
abbrev pub is_of_pass : Bool → Bool → Bool
is_of_pass true child = child
is_of_pass false child = not child

-- those of the nodes that a pass tries, in their order
abbrev pub of_pass : StoreView → Bool → List ℕ → List ℕ
of_pass store children nodes = filter (λ node. is_of_pass children (is_child store node)) nodes

-- the entries that are kept after nodes are tried in order, where `kept` were kept before
unfoldable pub kept_after : StoreView → Rule → List shown.Loaded → List ℕ → List shown.Loaded
kept_after store rule kept [] = kept
kept_after store rule kept (node ∷ nodes) = kept_after store rule (with_verdict kept (verdict store rule kept node)) nodes

-- `tried` has the verdict on a node in memory: its place among the walked nodes, and the reason to drop it or none
pub record IsTried (walked : List ℕ) (given : ℕ × Result shown.Loaded reasons.Reason) (tried : Tried) : Type 0 where
  pub node : slice_get walked tried.place ≡ Some given.0
  pub answer : IsSameAnswer given.1 tried.reason

-- the nodes were tried in order: `tried` has the verdict on each, and `kept` the entries that are kept
pub record AreTried (image : Image) (walked nodes : List ℕ) (kept : List Loaded) (tried : List Tried) : Type 0 where
  pub answers : AllZip (IsTried walked) (verdicts (store_of image) held_rule [] nodes) tried
  pub shown : AreShown image (kept_after (store_of image) held_rule [] nodes) kept

-- precondition of a trial: the table and the lists that were read are those of the image, and it has the keys of the entries kept so far
pub record CanBeTried (files : BlockFiles) (lists : Lists) (kept : List Loaded) (image : Image) : Type 0 where
  pub agrees : Agrees files image
  pub are : AreListsOf image lists
  pub has_keys : HaveKeys image kept

-- `tried` has an element for this node, with its verdict
pub record IsAnswered (walked : List ℕ) (tried : List Tried) (node : ℕ) (given : Option (Result shown.Loaded reasons.Reason)) : Type 0 where
  pub turn : ℕ
  pub one : Tried
  pub at : slice_get tried turn ≡ Some one
  pub here : slice_get walked one.place ≡ Some node
  pub verdict_is : Result shown.Loaded reasons.Reason
  pub is : given ≡ Some verdict_is
  pub answer : IsSameAnswer verdict_is one.reason
