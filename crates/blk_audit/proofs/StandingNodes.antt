-- The walked nodes are valid among the block files, of an observable and of an opaque folder.
use Rattle.std.proofs.Common.{◌≡◌, ℕ, ◌+◌, Bool, true, false, ◌&&◌, List, Option, None, refl, sym, ap, ◌∙◌, if◌then◌else◌}
use Rattle.std.specs.Prelude.{◌==◌, nat_lt, slice_get, slice_index}
use Rattle.std.specs.Option.{option_map_or}
use Rattle.std.proofs.lemmas.Bool.{and_parts, eqb-true}
use Rattle.spec_format.specs.Address.{file_selector, first_block, is_address, kind_of, rankings}
use Rattle.spec_format.specs.BlockFiles.{is_among}
use Rattle.spec_format.proofs.Words.{AreFields-of}
use Rattle.spec_folder.specs.ListView.{ListWrite}
use Rattle.spec_folder.specs.Walk.{walk}
use Rattle.blk_disk.specs.declared.tables.BlockFiles.{BlockFiles}
use Rattle.blk_disk.specs.Tables.{is_node_among, names_among, stands_among}
use Rattle.law_folder.proofs.lists.Walked.{walks-distinct}
use Rattle.blk_audit.specs.Filled.{CountsStand}
use Rattle.blk_audit.specs.Nodes.{loaded_node, node_of}
use Rattle.blk_audit.specs.Walking.{IsNodeWord, NodesStand}
use Rattle.blk_audit.specs.declared.nodes.Node.{Node}
use Rattle.blk_audit.specs.declared.nodes.Nodes.{Nodes}
use Rattle.blk_audit.proofs.Ends.{all_of}
use Rattle.blk_audit.proofs.MetNodes.{node_word}
use Rattle.blk_audit.proofs.Steps.{checks_is, list_after}

clash : {A : Type 0} → false ≡ true → A
clash e = absurd cc

-- an option by a test

test_of : {A : Type 0} (f : A → Bool) (t : Bool) (o : Option A) → option_map_or f (if t then o else None) false ≡ true → t ≡ true
test_of f true o h = refl
test_of f false o h = clash h

inner_of : {A : Type 0} (f : A → Bool) (t : Bool) (o : Option A) → option_map_or f (if t then o else None) false ≡ true → option_map_or f o false ≡ true
inner_of f true o h = h
inner_of f false o h = clash h

-- a node that is read is one of the counted ones
loaded_stands : (files : BlockFiles) (nodes : Nodes) → CountsStand files nodes → (w : ℕ) → option_map_or (λ n. n.checks) (loaded_node nodes w) false ≡ true → is_node_among files w ≡ true
unfolding loaded_node node_of names_among
loaded_stands files nodes counted w h =
    let checks : Node → Bool = λ n. n.checks in
    let address : is_address w ≡ true = test_of checks (is_address w) (node_of nodes w) h in
    let found : Option Node = slice_get nodes.nodes.items (slice_index nodes.begins (file_selector w) + first_block w) in
    let both : ((kind_of w == rankings) && nat_lt (first_block w) (slice_index nodes.counts (file_selector w))) ≡ true =
    test_of checks ((kind_of w == rankings) && nat_lt (first_block w) (slice_index nodes.counts (file_selector w))) found (inner_of checks (is_address w) (node_of nodes w) h) in
    let parts = and_parts (kind_of w == rankings) (nat_lt (first_block w) (slice_index nodes.counts (file_selector w))) both in
    let is : IsNodeWord w = record { address = address; kind = eqb-true (kind_of w) rankings parts.0 } in
    let stands : stands_among files w ≡ true = ap (stands_among files) (sym (node_word w is)) ∙ counted (file_selector w) (AreFields-of w).file (first_block w) (AreFields-of w).start ∙ parts.1 in
    rw (address, parts.0, stands) refl

pub walked_stand : (files : BlockFiles) (nodes : Nodes) (writes : List ListWrite) (head : ℕ) (walked : List ℕ) → CountsStand files nodes → walked ≡ walk (list_after writes nodes head) → NodesStand files walked
walked_stand files nodes writes head walked counted is =
    all_of (λ w. is_node_among files w ≡ true) walked
    (λ w among. loaded_stands files nodes counted w (sym (checks_is writes nodes head w) ∙ (walks-distinct (list_after writes nodes head)).1 w (sym (ap (λ (xs : List ℕ). is_among xs w) is) ∙ among)))
