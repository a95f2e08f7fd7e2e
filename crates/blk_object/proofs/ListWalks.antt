-- A walk over the LRU list, node by node.
use Rattle.std.proofs.Common.{◌≡◌, ◌≢◌, inr, ◌+◌, ◌≤◌, ℕ, List, [], ◌∷◌, ◌++◌, length, length-append, refl, sym, ◌∙◌, subst, arith, Option, None, Some, IsTrue, true}
use Rattle.std.specs.Prelude.{IfSome}
use Rattle.std.specs.Option.{ForSome}
use Rattle.spec_image.specs.Image.{Image}
use Rattle.spec_image.specs.Told.{Told}
use Rattle.spec_format.specs.Address.{external, kind_of, rankings}
use Rattle.spec_folder.specs.ListView.{most_nodes}
use Rattle.blk_io.specs.declared.fault.Damage.{Damage}
use Rattle.blk_disk.specs.declared.tables.BlockFiles.{BlockFiles}
use Rattle.blk_disk.specs.Tables.{is_node_among}
use Rattle.blk_lru.specs.Nodes.{IsLinkPlace}
use Rattle.blk_lru.proofs.NodeWords.{node_kind}
use Rattle.blk_chain.specs.Finding.{last_passed}
use Rattle.blk_chain.proofs.Searches.{last-on}
use Rattle.blk_object.specs.FailedChecks.{FailsLong, IsFailedCheck}
use Rattle.blk_object.specs.ListWalks.{FollowsList, GoesTo, HasPassedNodes, IsWordBehind, WalkEnds}

-- what is a node is no external file
pub block-kind : (w : ℕ) → kind_of w ≡ rankings → kind_of w ≢ external
block-kind w kind same = let z : ◌≡◌ {A = ℕ} 1 0 = sym kind ∙ same in cc

-- nodes that are there are nodes
pub nodes-kinds : (files : BlockFiles) (o : Option ℕ) → IfSome o (λ n. IsTrue (is_node_among files n)) → IfSome o (λ n. kind_of n ≡ rankings)
nodes-kinds files None stands = tt
nodes-kinds files (Some n) stands = node_kind files n stands

-- at first none is passed
pub none-passed : (files : BlockFiles) (at : ℕ) (from : Option ℕ) (image : Image) → HasPassedNodes files at from from 0 image
none-passed files at from image = record { nodes = []; many = refl; last = refl; follows = tt }

follows-on : (files : BlockFiles) (at : ℕ) (image : Image) (from : Option ℕ) (nodes : List ℕ) (node : ℕ) → FollowsList files at image from nodes → GoesTo at image (last_passed from nodes) (Some node) → is_node_among files node ≡ true → FollowsList files at image from (nodes ++ node ∷ [])
follows-on files at image from [] node follows goes stands = (goes, (stands, tt))
follows-on files at image from (w ∷ nodes) node follows goes stands = (follows.0, (follows.1.0, follows-on files at image (Some w) nodes node follows.1.1 goes stands))

-- one more node is passed
pub node-passed : (files : BlockFiles) (at : ℕ) (from before : Option ℕ) (count : ℕ) (image : Image) (node : ℕ) → HasPassedNodes files at from before count image → GoesTo at image before (Some node) → is_node_among files node ≡ true
    → HasPassedNodes files at from (Some node) (count + 1) image
node-passed files at from before count image node has goes stands = record {
  nodes = has.nodes ++ node ∷ [];
  many = let one = length-append has.nodes (node ∷ []) in let many = has.many in omega (arith, one, many);
  last = last-on from has.nodes node;
  follows = follows-on files at image from has.nodes node has.follows (subst (λ (o : Option ℕ). GoesTo at image o (Some node)) (sym has.last) goes) stands;
}

-- a walk ends where nothing is after the last node
pub walk-ends : (files : BlockFiles) (at : ℕ) (from before next : Option ℕ) (count : ℕ) (image : Image) → HasPassedNodes files at from before count image → GoesTo at image before next → next ≡ None → WalkEnds files at from image
walk-ends files at from before next count image has goes none = record { before = before; count = count; passed = has; ends = subst (λ (o : Option ℕ). GoesTo at image before o) none goes }

last-some : (from : Option ℕ) (nodes : List ℕ) → 1 ≤ length nodes → last_passed from nodes ≡ None → ⊥
last-some from [] some none = absurd (omega (arith, some))
last-some from (w ∷ []) some none = let z : ◌≡◌ {A = Option ℕ} (Some w) None = none in cc
last-some from (w ∷ v ∷ nodes) some none = last-some (Some w) (v ∷ nodes) (omega arith) none

-- so it does after some nodes of which nothing more is known
pub walk-over : (files : BlockFiles) (at : ℕ) (from before next : Option ℕ) (count : ℕ) (image : Image) → 1 ≤ count → HasPassedNodes files at from before count image → GoesTo at image before next → IfSome before (λ _. next ≡ None) → WalkEnds files at from image
walk-over files at from None next count image some has goes ended = absurd (last-some from has.nodes (let many = has.many in omega (arith, many, some)) has.last)
walk-over files at from (Some last) next count image some has goes ended = walk-ends files at from (Some last) next count image has goes ended

-- a walk that goes on after more nodes than a list has is too long
pub walk-too-long : (files : BlockFiles) (told : Told) (at : ℕ) (from before next : Option ℕ) (count : ℕ) (damage : Damage) → IsLinkPlace at → count ≡ most_nodes + 1
    → IfSome before (λ n. IsTrue (is_node_among files n)) → IfSome next (λ n. IsTrue (is_node_among files n))
    → ForSome told.files (HasPassedNodes files at from before count) → ForSome told.files (λ image. GoesTo at image before next) → IsWordBehind before at next damage → IsFailedCheck files told damage
walk-too-long files told at from before next count damage link all stands stands-next passed goes behind = FailsLong (inr (record {
  at = at;
  link = link;
  from = from;
  last = behind.last;
  stands = let s : IfSome (Some behind.last) (λ n. IsTrue (is_node_among files n)) = subst (λ (o : Option ℕ). IfSome o (λ n. IsTrue (is_node_among files n))) behind.is_last stands in s;
  of_word = behind.of_word;
  names = let s : IfSome (Some damage.found) (λ n. IsTrue (is_node_among files n)) = subst (λ (o : Option ℕ). IfSome o (λ n. IsTrue (is_node_among files n))) behind.is_next stands-next in s;
  passed = λ image there.
      subst (λ (o : Option ℕ). HasPassedNodes files at from o (most_nodes + 1) image) behind.is_last
      (subst (λ (n : ℕ). HasPassedNodes files at from before n image) all (passed image there));
  goes_on = λ image there.
      subst (λ (o : Option ℕ). GoesTo at image o (Some damage.found)) behind.is_last
      (subst (λ (o : Option ℕ). GoesTo at image before o) behind.is_next (goes image there));
}))
