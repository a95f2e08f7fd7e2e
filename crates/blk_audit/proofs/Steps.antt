-- What the nodes that were read say of a step of the walk.
use Rattle.std.proofs.Common.{◌≡◌, ℕ, ◌+◌, Bool, true, false, ◌&&◌, not, List, Option, None, Some, refl, sym, ap, ◌∙◌, if◌then◌else◌}
use Rattle.std.specs.Prelude.{◌==◌, nat_lt, slice_index, slice_get}
use Rattle.std.specs.Option.{option_map_or}
use Rattle.std.proofs.lemmas.Bool.{eqb-true, eq-eqb}
use Rattle.spec_format.specs.Address.{is_address, kind_of, rankings, first_block, file_selector}
use Rattle.spec_format.specs.BlockFiles.{is_among}
use Rattle.spec_folder.specs.ListView.{ListView, ListWrite, after_writes}
use Rattle.blk_audit.specs.Changes.{head_written, next_written, prev_written}
use Rattle.blk_audit.specs.Nodes.{node_of, loaded_node, list_in}
use Rattle.blk_audit.specs.Walking.{IsNodeWord}
use Rattle.blk_audit.specs.declared.nodes.Node.{Node}
use Rattle.blk_audit.specs.declared.nodes.Nodes.{Nodes}
use Rattle.blk_audit.specs.declared.list_walk.Link.{Link}
use Rattle.blk_audit.proofs.Written as written
use Rattle.blk_audit.proofs.Walks.{is_next}

-- the list after writes
abbrev pub list_after : List ListWrite → Nodes → ℕ → ListView
list_after writes nodes head = after_writes writes (list_in nodes head)

fail_first : (a b c : Bool) → a ≡ false → (a && b && c) ≡ false
fail_first a b c e = rw e refl

module _ (writes : List ListWrite) (nodes : Nodes) (head : ℕ) where
  pub checks_is : (w : ℕ) → (list_after writes nodes head).checks w ≡ option_map_or (λ n. n.checks) (loaded_node nodes w) false
  unfolding list_in
  checks_is w = ap (λ (checks : ℕ → Bool). checks w) (written.checks_after writes (list_in nodes head))

  pub next_is : (w : ℕ) (node : Node) → loaded_node nodes w ≡ Some node → (list_after writes nodes head).next w ≡ next_written writes w node.next
  unfolding list_in
  next_is w node at = written.next_after writes (list_in nodes head) w ∙ ap (λ (o : Option Node). next_written writes w (option_map_or (λ n. n.next) o 0)) at

  prev_is : (w : ℕ) (node : Node) → loaded_node nodes w ≡ Some node → (list_after writes nodes head).prev w ≡ prev_written writes w node.prev
  unfolding list_in
  prev_is w node at = written.prev_after writes (list_in nodes head) w ∙ ap (λ (o : Option Node). prev_written writes w (option_map_or (λ n. n.prev) o 0)) at

  pub head_is : (list_after writes nodes head).head ≡ head_written writes head
  unfolding list_in
  head_is = written.head_after writes (list_in nodes head)

  -- there is no node
  pub link_none : (old : List ℕ) (link : Link) → loaded_node nodes link.word ≡ None → is_next (list_after writes nodes head) old link ≡ false
  link_none old link at =
      fail_first ((list_after writes nodes head).checks link.word) (not (is_among old link.word)) ((list_after writes nodes head).prev link.word == link.before)
      (checks_is link.word ∙ ap (λ (o : Option Node). option_map_or (λ n. n.checks) o false) at)

  -- the node has a wrong checksum
  pub link_unchecked : (old : List ℕ) (link : Link) (node : Node) → loaded_node nodes link.word ≡ Some node → node.checks ≡ false → is_next (list_after writes nodes head) old link ≡ false
  link_unchecked old link node at bad =
      fail_first ((list_after writes nodes head).checks link.word) (not (is_among old link.word)) ((list_after writes nodes head).prev link.word == link.before)
      (checks_is link.word ∙ ap (λ (o : Option Node). option_map_or (λ n. n.checks) o false) at ∙ bad)

  and_last : (a b : Bool) → (a && b && false) ≡ false
  and_last true true = refl
  and_last true false = refl
  and_last false b = refl

  -- the prev of the node is another node than the one before
  pub link_far : (old : List ℕ) (link : Link) (node : Node) (prev : ℕ) → loaded_node nodes link.word ≡ Some node → prev ≡ prev_written writes link.word node.prev → (prev == link.before) ≡ false → is_next (list_after writes nodes head) old link ≡ false
  link_far old link node prev at is far =
      ap (λ (t : Bool). (list_after writes nodes head).checks link.word && not (is_among old link.word) && t) (ap (λ (p : ℕ). p == link.before) (prev_is link.word node at ∙ sym is) ∙ far)
      ∙ and_last ((list_after writes nodes head).checks link.word) (not (is_among old link.word))

  and_middle : (a c : Bool) → (a && false && c) ≡ false
  and_middle true c = refl
  and_middle false c = refl

  -- the node was met
  pub link_met : (old : List ℕ) (link : Link) → is_among old link.word ≡ true → is_next (list_after writes nodes head) old link ≡ false
  link_met old link met =
      ap (λ (t : Bool). (list_after writes nodes head).checks link.word && not t && ((list_after writes nodes head).prev link.word == link.before)) met
      ∙ and_middle ((list_after writes nodes head).checks link.word) ((list_after writes nodes head).prev link.word == link.before)

  -- the node is walked
  pub link_next : (old : List ℕ) (link : Link) (node : Node) (prev : ℕ) → loaded_node nodes link.word ≡ Some node → node.checks ≡ true → prev ≡ prev_written writes link.word node.prev → prev ≡ link.before → is_among old link.word ≡ false → is_next (list_after writes nodes head) old link ≡ true
  link_next old link node prev at good is near new =
      let checks = checks_is link.word ∙ ap (λ (o : Option Node). option_map_or (λ n. n.checks) o false) at ∙ good in
      let back = eq-eqb ((list_after writes nodes head).prev link.word) link.before (prev_is link.word node at ∙ sym is ∙ near) in
      rw (checks, new, back) refl

-- the node of an address
pub node_named : (nodes : Nodes) (w addr : ℕ) (said : Option Node) → is_address w ≡ true → addr ≡ w → said ≡ node_of nodes addr → loaded_node nodes w ≡ said
unfolding loaded_node
node_named nodes w addr said address is found = rw address (ap (node_of nodes) (sym is) ∙ sym found)

pub node_unnamed : (nodes : Nodes) (w : ℕ) → is_address w ≡ false → loaded_node nodes w ≡ None
unfolding loaded_node
node_unnamed nodes w none = rw none refl

-- an address at which there is a node is that of a node
pub node_word_of : (nodes : Nodes) (w : ℕ) (node : Node) → is_address w ≡ true → Some node ≡ node_of nodes w → IsNodeWord w
unfolding node_of
node_word_of nodes w node address found = record { address = address; kind = go (kind_of w == rankings) refl found }
  where
    bad : Some node ≡ None → ⊥
    bad e = cc

    go : (t : Bool) → (kind_of w == rankings) ≡ t → Some node ≡ (if t && nat_lt (first_block w) (slice_index nodes.counts (file_selector w)) then slice_get nodes.nodes.items (slice_index nodes.begins (file_selector w) + first_block w) else None) → kind_of w ≡ rankings
    go true e found = eqb-true (kind_of w) rankings e
    go false e found = absurd (bad found)
