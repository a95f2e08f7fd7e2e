-- The LRU list by the block files that are kept, and what is read of an operation in flight.
use Rattle.std.proofs.Common.{⊎_elim, ◌≡◌, ◌≢◌, ℕ, ◌+◌, ◌≤◌, Bool, true, false, ◌&&◌, if◌then◌else◌, None, refl, sym, ap, subst, ◌∙◌, arith}
use Rattle.std.specs.Prelude.{◌⊎◌}
use Rattle.std.proofs.lemmas.Bool.{false_from_ne_true}
use Rattle.spec_image.specs.Image.{Block, HasRange, Image, Index, length_of}
use Rattle.spec_format.specs.Address.{file_selector, place, rankings}
use Rattle.spec_format.specs.Records.{node_checks, node_in}
use Rattle.spec_folder.specs.Completion.{head_counts}
use Rattle.spec_folder.specs.View.{checks_at, list_of, next_at, node_at, prev_at, stands_as}
use Rattle.blk_disk.specs.declared.tables.BlockFiles.{BlockFiles}
use Rattle.blk_disk.specs.Tables.{Agrees, is_node_among}
use Rattle.blk_lru.specs.declared.nodes.Links.{Links}
use Rattle.blk_lru.specs.Flights.{HasFlight, HasHead, HasNeighbours, HasNodeInFlight, HasOperands}
use Rattle.blk_lru.specs.Nodes.{link_at, list_among, AreLinksOf, FindsNode, HasNode}
use Rattle.blk_lru.proofs.NodeWords.{names_node, stands_as_node}
use Rattle.blk_lru.proofs.PlanNodes.{node_some}

clash : {A : Type 0} → true ≡ false → A
clash e = absurd cc

-- where the files agree it is the list of the image
module _ (files : BlockFiles) (image : Image) (agrees : Agrees files image) where
  same_node : (w : ℕ) → is_node_among files w ≡ stands_as image rankings w
  same_node w = by (stands_as image rankings w) refl
    where
      by : (t : Bool) → stands_as image rankings w ≡ t → is_node_among files w ≡ t
      by true e = names_node files image agrees w e
      by false e = false_from_ne_true (is_node_among files w) (λ is. clash (sym (stands_as_node files image agrees w is) ∙ e))

  pub among_is : list_among files image ≡ list_of image
  unfolding list_among list_of checks_at next_at prev_at
  among_is = λ k. record (list_of image) {
    checks = λ w. same_node w k && node_checks (node_at image w);
    next = λ w. if same_node w k then (node_at image w).next else 0;
    prev = λ w. if same_node w k then (node_at image w).prev else 0;
  }

module _ (files : BlockFiles) (image : Image) where
  -- the links of a node
  pub next_among : (w : ℕ) → is_node_among files w ≡ true → (list_among files image).next w ≡ link_at image w 16
  unfolding list_among node_in
  next_among w is = rw is refl

  pub prev_among : (w : ℕ) → is_node_among files w ≡ true → (list_among files image).prev w ≡ link_at image w 20
  unfolding list_among node_in
  prev_among w is = rw is refl

  -- the word 0 names no node
  no_zero : is_node_among files 0 ≡ false
  no_zero = false_from_ne_true (is_node_among files 0) (λ is. clash (node_some files 0 is))

  zero_unchecked : (w : ℕ) → w ≡ 0 → (list_among files image).checks w ≡ false
  unfolding list_among
  zero_unchecked w zero = ap (list_among files image).checks zero ∙ rw no_zero refl

  pub zero_there : (w : ℕ) → w ≡ 0 → HasNode files image w
  zero_there w zero is = clash (sym is ∙ ap (is_node_among files) zero ∙ no_zero)

  pub none_there : (w : ℕ) → is_node_among files w ≡ false → HasNode files image w
  none_there w none is = clash (sym is ∙ none)

  pub node_there : (node w : ℕ) → node ≡ w → HasRange image (Block (file_selector node)) (place node + 0) 36 ⊎ (◌≡◌ {A = ℕ} 36 0) → HasNode files image w
  node_there node w same range is = subst (λ (v : ℕ). HasRange image (Block (file_selector v)) (place v) 36) same
      (⊎_elim (λ (there : place node + 0 + 36 ≤ length_of image (Block (file_selector node))). let h : place node + 36 ≤ length_of image (Block (file_selector node)) = omega (arith, there) in h) (λ (none : ◌≡◌ {A = ℕ} 36 0). absurd (omega (arith, none))) range)

  -- the head
  pub head_there : (head : ℕ) → HasRange image Index 288 4 → head ≡ (list_among files image).head → HasNode files image head → HasHead files image
  head_there head word is node = record { word = word; node = subst (HasNode files image) is node }

  -- no node is beside one that has these links
  pub no_neighbours : (t : ℕ) (links : Links) → AreLinksOf (list_among files image) t links → links.next ≡ 0 → HasNeighbours files image t
  no_neighbours t links are zero = record {
    next = zero_there ((list_among files image).next t) (sym are.next ∙ zero);
    prev = λ good. clash (sym good ∙ zero_unchecked ((list_among files image).next t) (sym are.next ∙ zero));
  }

  -- what an operation uses
  pub insert_there : (list_among files image).operation ≡ 1 → HasHead files image → HasOperands files image
  insert_there is head = record {
    head = λ by. head;
    links = λ by. ⊎_elim (λ (two : (list_among files image).operation ≡ 2). absurd (let e : ◌≡◌ {A = ℕ} 1 2 = sym is ∙ two in omega (arith, e))) (λ (three : ((list_among files image).operation ≡ 3) × (head_counts (list_among files image) ≡ true)). absurd (let e : ◌≡◌ {A = ℕ} 1 3 = sym is ∙ three.0 in omega (arith, e))) by;
  }

  pub removal_there : (list_among files image).operation ≡ 2 → HasNeighbours files image (list_among files image).transaction → HasOperands files image
  removal_there is links = record {
    head = λ by. ⊎_elim (λ (one : (list_among files image).operation ≡ 1). absurd (let e : ◌≡◌ {A = ℕ} 2 1 = sym is ∙ one in omega (arith, e))) (λ (three : (list_among files image).operation ≡ 3). absurd (let e : ◌≡◌ {A = ℕ} 2 3 = sym is ∙ three in omega (arith, e))) by;
    links = λ by. links;
  }

  pub headless_there : (list_among files image).operation ≡ 3 → head_counts (list_among files image) ≡ false → HasHead files image → HasOperands files image
  headless_there is bad head = record {
    head = λ by. head;
    links = λ by. ⊎_elim (λ (two : (list_among files image).operation ≡ 2). absurd (let e : ◌≡◌ {A = ℕ} 3 2 = sym is ∙ two in omega (arith, e))) (λ (three : ((list_among files image).operation ≡ 3) × (head_counts (list_among files image) ≡ true)). clash (sym three.1 ∙ bad)) by;
  }

  pub move_there : HasHead files image → HasNeighbours files image (list_among files image).transaction → HasOperands files image
  move_there head links = record { head = λ by. head; links = λ by. links }

  pub nothing_there : (list_among files image).operation ≢ 1 → (list_among files image).operation ≢ 2 → (list_among files image).operation ≢ 3 → HasOperands files image
  nothing_there one two three = record {
    head = λ by. ⊎_elim (λ (e : (list_among files image).operation ≡ 1). absurd (one e)) (λ (e : (list_among files image).operation ≡ 3). absurd (three e)) by;
    links = λ by. ⊎_elim (λ (e : (list_among files image).operation ≡ 2). absurd (two e)) (λ (e : ((list_among files image).operation ≡ 3) × (head_counts (list_among files image) ≡ true)). absurd (three e.0)) by;
  }

  -- the node in flight
  pub bad_in_flight : (t : ℕ) → (list_among files image).transaction ≡ t → HasNode files image t → FindsNode (list_among files image) t None → HasNodeInFlight files image
  bad_in_flight t is node bad = record {
    node = subst (HasNode files image) (sym is) node;
    operation = λ good. clash (sym good ∙ ap (list_among files image).checks is ∙ bad);
  }

  pub good_in_flight : (t : ℕ) → (list_among files image).transaction ≡ t → HasNode files image t → HasRange image Index 332 4 → HasOperands files image → HasNodeInFlight files image
  good_in_flight t is node word operands = record {
    node = subst (HasNode files image) (sym is) node;
    operation = λ good. record { word = word; operands = operands };
  }

  pub none_in_flight : (list_among files image).transaction ≡ 0 → HasRange image Index 328 4 → HasFlight files image
  none_in_flight zero word = record {
    word = word;
    in_flight = bad_in_flight 0 zero (zero_there 0 refl) (zero_unchecked 0 refl);
  }
