-- The node in front of a place of the list.
use Rattle.std.proofs.Common.{◌++◌, ◌+◌, ◌∙◌, ◌∷◌, ◌≡◌, List, None, Option, Some, [], ap, append-nil, refl, subst, sym, true, ℕ}
use Rattle.blk_chain.proofs.Apart.{middle-there}
use Rattle.spec_image.specs.Image.{Image}
use Rattle.spec_format.specs.Address.{place}
use Rattle.spec_format.specs.BlockFiles.{is_among}
use Rattle.spec_folder.specs.ListImages.{HasListAtRest, walked}
use Rattle.spec_folder.specs.View.{list_of}
use Rattle.law_folder.proofs.lists.Walks.{walk_list}
use Rattle.blk_lru.specs.Lists.{IsListAtRest, IsListed, first_node_of}
use Rattle.blk_evict.specs.ListPlaces.{AreInPrefix, IsPlaceInList}

-- a list whose first node is this one begins with it
begins : (nodes : List ℕ) (node : ℕ) → ◌≡◌ {A = Option ℕ} (Some node) (first_node_of nodes) → (rest : List ℕ) × (nodes ≡ node ∷ rest)
begins [] node e = absurd (no e) where
  no : ◌≡◌ {A = Option ℕ} (Some node) None → ⊥
  no e = cc
begins (other ∷ nodes) node e = (nodes, ap (λ (w : ℕ). w ∷ nodes) (same e)) where
  same : ◌≡◌ {A = Option ℕ} (Some node) (Some other) → other ≡ node
  same e = cc

-- a list without a first node is empty
ends : (nodes : List ℕ) → ◌≡◌ {A = Option ℕ} None (first_node_of nodes) → nodes ≡ []
ends [] e = refl
ends (other ∷ nodes) e = absurd (no e) where
  no : ◌≡◌ {A = Option ℕ} None (Some other) → ⊥
  no e = cc

-- the nodes of an idle list are walked
pub rest-walked : (nodes : List ℕ) (image : Image) → HasListAtRest nodes image → walked image ≡ nodes
rest-walked nodes image rest = walk_list (list_of image) nodes rest.whole

pub rests : (nodes : List ℕ) (image : Image) → HasListAtRest nodes image → IsListAtRest image
rests nodes image rest = subst (λ (ws : List ℕ). HasListAtRest ws image) (sym (rest-walked nodes image rest)) rest

pub place-rests : (behind : Option ℕ) (image : Image) → IsPlaceInList behind image → IsListAtRest image
place-rests behind image place = rests (place.0 ++ place.1.rest) image place.1.list

pub place-listed : (behind : Option ℕ) (node : ℕ) (image : Image) → behind ≡ Some node → IsPlaceInList behind image → IsListed node image
place-listed behind node image is place =
    let b = begins place.1.rest node (sym is ∙ place.1.next) in
    record {
      rest = place-rests behind image place;
      listed = subst (λ (ws : List ℕ). is_among ws node ≡ true) (sym (rest-walked (place.0 ++ place.1.rest) image place.1.list ∙ ap (λ (ws : List ℕ). place.0 ++ ws) b.1)) (middle-there place.0 node b.0);
    }

-- at the end of the list all nodes are in front
pub at-end : (front : List ℕ) (behind : Option ℕ) (image : Image) → behind ≡ None → AreInPrefix front behind image → (walked image ≡ front) × IsListAtRest image
at-end front behind image is place =
    (rest-walked (front ++ place.rest) image place.list ∙ ap (λ (ws : List ℕ). front ++ ws) (ends place.rest (sym is ∙ place.next)) ∙ append-nil front, rests (front ++ place.rest) image place.list)
