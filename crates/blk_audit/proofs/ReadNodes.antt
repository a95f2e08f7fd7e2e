-- Walked nodes and the records that they name, as they are kept.
use Rattle.std.proofs.Common.{◌≡◌, ◌⊎◌, ℕ, ◌+◌, ◌<◌, ◌≤◌, Bool, true, false, ◌&&◌, not, List, [], ◌∷◌, get_or, length, inl, inr, Option, None, Some, Result, Ok, refl, sym, ap, subst, ◌∙◌, arith, if◌then◌else◌}
use Rattle.std.specs.Prelude.{◌==◌, MatchOption, slice_get}
use Rattle.std.specs.List.{list_any}
use Rattle.std.specs.Option.{option_and_then, option_map, option_map_or}
use Rattle.std.proofs.lemmas.Bool.{and_parts, eqb-true, eq-eqb, or_left, or_right}
use Rattle.std.proofs.lemmas.Bool.Decides.{nat_tests}
use Rattle.std.proofs.lemmas.List.Folds.{Any-from_list_any, list_any_at}
use Rattle.std.proofs.lemmas.Option.{get_or_from_slice_get, slice_get-get_or, slice_get_cases, slice_get_within}
use Rattle.spec_image.specs.Image.{Image}
use Rattle.spec_format.specs.Address.{blocks_256, file_selector, first_block, is_address, kind_of, rankings}
use Rattle.spec_format.specs.BlockFiles.{is_among}
use Rattle.spec_format.specs.Claims.{Claim, BlockOf, claims_of, has_claim}
use Rattle.blk_addr.specs.Claims.{Adds, contains_claim, is_claimed}
use Rattle.blk_addr.specs.declared.claim_set.Claims.{Claims}
use Rattle.blk_addr.proofs.ClaimLemmas.{or_false}
use Rattle.spec_folder.specs.ListImages.{completed_walk}
use Rattle.spec_format.specs.Records.{node_checks}
use Rattle.spec_folder.specs.View.{NodeFields, checks_at, node_at, list_of, node_fields_at, stands_as, store_of}
use Rattle.blk_audit.specs.Chaining.{first_block_of}
use Rattle.blk_audit.specs.Nodes.{AreNodesOf, loaded_node, node_of, said_at}
use Rattle.blk_audit.specs.ReadLists.{AreListsOf, AreNamed, AreNamedUpTo, IsMore, fields_by, fields_kept, is_claimed_first, is_named_by, record_by, record_of}
use Rattle.blk_audit.specs.Walking.{IsNodeWord, nodes_walked}
use Rattle.blk_audit.specs.declared.nodes.Node.{Node}
use Rattle.blk_audit.specs.declared.nodes.Nodes.{Nodes}
use Rattle.blk_audit.specs.declared.scanning.Lists.{Lists}
use Rattle.blk_audit.proofs.Completed.{walked_checks}
use Rattle.blk_audit.proofs.FirstBlocks.{claims_first}
use Rattle.blk_audit.proofs.Truths.{false_not}

clash : {A : Type 0} → false ≡ true → A
clash e = absurd cc

-- one of a list is among it
pub among_at : (xs : List ℕ) (i x : ℕ) → slice_get xs i ≡ Some x → is_among xs x ≡ true
among_at xs i x is = list_any_at (λ m. m == x) xs i 0 (slice_get_within xs i x is) (eq-eqb _ _ (get_or_from_slice_get xs i x 0 is))

-- What the nodes say.

fields_if : (t : Bool) (n : Node) → (if t then Some (fields_by n) else None) ≡ option_map fields_by (if t then Some n else None)
fields_if true n = refl
fields_if false n = refl

pub fields_are : (image : Image) (nodes : Nodes) (w : ℕ) → AreNodesOf image nodes → (store_of image).node_fields w ≡ fields_kept nodes w
unfolding store_of node_fields_at
fields_are image nodes w are =
    fields_if (stands_as image rankings w) (said_at image w) ∙ ap (option_map fields_by) (sym (are.each w))

-- a node is loaded by its word
loaded_is : (nodes : Nodes) (w : ℕ) → is_address w ≡ true → loaded_node nodes w ≡ node_of nodes w
unfolding loaded_node
loaded_is nodes w address = rw address refl

module _ (image : Image) (lists : Lists) (are : AreListsOf image lists) where
  -- a walked node is an address, and valid
  is_node : (i addr : ℕ) → slice_get (nodes_walked lists.walked) i ≡ Some addr → IsNodeWord addr
  is_node i addr is = are.met.nodes addr (among_at (nodes_walked lists.walked) i addr is)

  stands : (i addr : ℕ) → slice_get (nodes_walked lists.walked) i ≡ Some addr → stands_as image rankings addr ≡ true
  unfolding list_of checks_at
  stands i addr is = (and_parts _ _ (walked_checks image addr (ap (λ (nodes : List ℕ). is_among nodes addr) (sym are.walked) ∙ among_at (nodes_walked lists.walked) i addr is))).0

  loaded : (i addr : ℕ) → slice_get (nodes_walked lists.walked) i ≡ Some addr → node_of lists.nodes addr ≡ Some (said_at image addr)
  loaded i addr is =
      sym (loaded_is lists.nodes addr (is_node i addr is).address) ∙ are.nodes.each addr ∙ ap (λ (t : Bool). if t then Some (said_at image addr) else None) (stands i addr is)

  pub walked_node : (i addr : ℕ) (node : Node) → slice_get (nodes_walked lists.walked) i ≡ Some addr → node_of lists.nodes addr ≡ Some node → (store_of image).node_fields addr ≡ Some (record { contents = node.contents; dirty = node.dirty })
  walked_node i addr node is said =
      fields_are image lists.nodes addr are.nodes
      ∙ ap (option_map fields_by) (loaded_is lists.nodes addr (is_node i addr is).address ∙ said)

  -- what is kept of a walked node is what the image says
  pub walked_said : (i addr : ℕ) (node : Node) → slice_get (nodes_walked lists.walked) i ≡ Some addr → node_of lists.nodes addr ≡ Some node → node ≡ said_at image addr
  walked_said i addr node is said = some_of (sym said ∙ loaded i addr is)
    where
      some_of : {a b : Node} → Some a ≡ Some b → a ≡ b
      some_of e = cc

  pub walked_checks_there : (i addr : ℕ) → slice_get (nodes_walked lists.walked) i ≡ Some addr → node_checks (node_at image addr) ≡ true
  unfolding list_of checks_at
  walked_checks_there i addr is = (and_parts _ _ (walked_checks image addr (ap (λ (nodes : List ℕ). is_among nodes addr) (sym are.walked) ∙ among_at (nodes_walked lists.walked) i addr is))).1

  pub walked_kind : (i addr : ℕ) → slice_get (nodes_walked lists.walked) i ≡ Some addr → kind_of addr ≡ rankings
  walked_kind i addr is = (is_node i addr is).kind

  pub always_said : {A : Type 0} (i addr : ℕ) → slice_get (nodes_walked lists.walked) i ≡ Some addr → node_of lists.nodes addr ≡ None → A
  always_said {A} i addr is none = absurd (by (loaded i addr is))
    where
      by : node_of lists.nodes addr ≡ Some (said_at image addr) → ⊥
      by e = bad (sym e ∙ none)
        where
          bad : Some (said_at image addr) ≡ None → ⊥
          bad h = cc

  -- whether a node is walked and names a record
  pub listed_by : (node entry : ℕ) (said : Node) → loaded_node lists.nodes node ≡ Some said → is_named_by image node entry ≡ (is_among (nodes_walked lists.walked) node && (said.contents == entry))
  listed_by node entry said is =
      ap (λ (fields : Option NodeFields). is_among (completed_walk image) node && option_map_or (λ f. f.contents == entry) fields false)
      (fields_are image lists.nodes node are.nodes ∙ ap (option_map fields_by) is)
      ∙ ap (λ (nodes : List ℕ). is_among nodes node && (said.contents == entry)) (sym are.walked)

  pub listed_none : (node entry : ℕ) → loaded_node lists.nodes node ≡ None → is_named_by image node entry ≡ false
  listed_none node entry is =
      ap (λ (fields : Option NodeFields). is_among (completed_walk image) node && option_map_or (λ f. f.contents == entry) fields false)
      (fields_are image lists.nodes node are.nodes ∙ ap (option_map fields_by) is)
      ∙ and_none (is_among (completed_walk image) node)
    where
      and_none : (a : Bool) → (a && false) ≡ false
      and_none true = refl
      and_none false = refl

pub past : (xs : List ℕ) (i : ℕ) → slice_get xs i ≡ None → length xs ≤ i
past xs i none = by (slice_get_cases xs i).1
  where
    bad : {x : ℕ} → Some x ≡ None → ⊥
    bad h = cc

    by : ((x : ℕ) × (i < length xs) × (slice_get xs i ≡ Some x) × (get_or xs i x ≡ x)) ⊎ ((length xs ≤ i) × (slice_get xs i ≡ None)) → length xs ≤ i
    by (inl p) = absurd (bad (sym p.2 ∙ none))
    by (inr p) = p.0

-- The first blocks of the records that nodes name.

before : (j i : ℕ) → j < i + 1 → (j == i) ≡ false → j < i
before j i below other = grind (arith, nat_tests)

own_claim : (f b : ℕ) → has_claim (BlockOf f b ∷ []) (BlockOf f b) ≡ true
unfolding has_claim
own_claim f b = rw (eq-eqb f f refl, eq-eqb b b refl) refl

-- where a number of a list is
record IsAt (xs : List ℕ) (x : ℕ) : Type 0 where
  pub at : ℕ
  pub is : slice_get xs at ≡ Some x

place_of : (xs : List ℕ) (x : ℕ) → is_among xs x ≡ true → IsAt xs x
place_of xs x e =
    let found = Any-from_list_any (λ m. m == x) xs e in
    record { at = found.0; is = slice_get-get_or xs found.0 found.1 found.2 ∙ ap Some (found.3 ∙ eqb-true found.1 x found.4) }

first_claimed : (claims : Claims) (w : ℕ) → is_claimed claims (first_block_of w) ≡ is_claimed_first claims w
unfolding is_claimed
first_claimed claims w = ap (list_any (contains_claim claims)) (claims_first w) ∙ or_false (is_claimed_first claims w)

-- where no walked node names a record with this first block, none names this record
pub unnamed : (image : Image) (lists : Lists) (entry node : ℕ) → AreListsOf image lists → is_address entry ≡ true → kind_of entry ≡ blocks_256 → is_claimed lists.named (first_block_of entry) ≡ false → is_named_by image node entry ≡ false
unnamed image lists entry node are address kind free = by_node (loaded_node lists.nodes node) refl
  where
    none_first : is_claimed_first lists.named entry ≡ false
    none_first = sym (first_claimed lists.named entry) ∙ free

    by_contents : (said : Node) (a c : Bool) → loaded_node lists.nodes node ≡ Some said → is_among (nodes_walked lists.walked) node ≡ a → (said.contents == entry) ≡ c → (a && c) ≡ false
    by_contents said false c is among same = refl
    by_contents said true false is among same = refl
    by_contents said true true is among same =
        let here = place_of (nodes_walked lists.walked) node among in
        let e : said.contents ≡ entry = eqb-true said.contents entry same in
        let at : node_of lists.nodes node ≡ Some said = sym (loaded_is lists.nodes node (are.met.nodes node among).address) ∙ is in
        let names : record_by said ≡ Some entry =
        ap (λ (w : ℕ). if is_address w && (kind_of w == blocks_256) then Some w else None) e
        ∙ ap (λ (t : Bool). if t && (kind_of entry == blocks_256) then Some entry else None) address
        ∙ ap (λ (t : Bool). if t then Some entry else None) (eq-eqb (kind_of entry) blocks_256 kind) in
        let named = are.named here.at entry (ap (record_of lists.nodes) here.is ∙ ap (option_and_then record_by) at ∙ names) in
        clash (sym none_first ∙ named)

    by_node : (o : Option Node) → loaded_node lists.nodes node ≡ o → is_named_by image node entry ≡ false
    by_node None is = listed_none image lists are node entry is
    by_node (Some said) is = listed_by image lists are node entry said is ∙ by_contents said (is_among (nodes_walked lists.walked) node) (said.contents == entry) is refl refl

-- a first block that is added is used, and so are those that were
pub claimed_more : {E : Type 0} (old new : Claims) (w : ℕ) (added : Bool) → added ≡ not (is_claimed old (first_block_of w)) → (◌≡◌ {A = Result Bool E} (Ok added) (Ok true) → Adds old new (first_block_of w)) → (◌≡◌ {A = Result Bool E} (Ok added) (Ok false) → new ≡ old)
    → IsMore old new w
claimed_more {E} old new w true told adds kept =
    let more = adds refl in
    record {
      here = more.claims (BlockOf (file_selector w) (first_block w)) ∙ or_left _ _ own;
      before = λ v was. more.claims (BlockOf (file_selector v) (first_block v)) ∙ or_right _ _ was;
    }
  where
    own : has_claim (claims_of (first_block_of w)) (BlockOf (file_selector w) (first_block w)) ≡ true
    own = ap (λ (cs : List Claim). has_claim cs (BlockOf (file_selector w) (first_block w))) (claims_first w) ∙ own_claim (file_selector w) (first_block w)
claimed_more {E} old new w false told adds kept =
    let same = kept refl in
    record {
      here = ap (λ (c : Claims). is_claimed_first c w) same ∙ sym (first_claimed old w) ∙ false_not (is_claimed old (first_block_of w)) told;
      before = λ v was. ap (λ (c : Claims). is_claimed_first c v) same ∙ was;
    }

-- one more node is looked at
named_next : (nodes : Nodes) (walked : List ℕ) (old new : Claims) (i w : ℕ) → Some w ≡ record_of nodes (slice_get walked i) → IsMore old new w → AreNamedUpTo nodes walked old i → AreNamedUpTo nodes walked new (i + 1)
named_next nodes walked old new i w here more named j v below is = by (j == i) refl
  where
    some_is : Some w ≡ Some v → w ≡ v
    some_is e = cc

    by : (t : Bool) → (j == i) ≡ t → is_claimed_first new v ≡ true
    by true e =
        let same : j ≡ i = eqb-true j i e in
        subst (λ (u : ℕ). is_claimed_first new u ≡ true) (some_is (here ∙ ap (λ (k : ℕ). record_of nodes (slice_get walked k)) (sym same) ∙ is)) more.here
    by false e = more.before v (named j v (before j i below e) is)

named_none : (nodes : Nodes) (walked : List ℕ) (named : Claims) (i : ℕ) → None ≡ record_of nodes (slice_get walked i) → AreNamedUpTo nodes walked named i → AreNamedUpTo nodes walked named (i + 1)
named_none nodes walked named i none are j v below is = by (j == i) refl
  where
    bad : None ≡ Some v → ⊥
    bad e = cc

    by : (t : Bool) → (j == i) ≡ t → is_claimed_first named v ≡ true
    by true e =
        let same : j ≡ i = eqb-true j i e in
        absurd (bad (none ∙ ap (λ (k : ℕ). record_of nodes (slice_get walked k)) (sym same) ∙ is))
    by false e = are j v (before j i below e) is

pub named_step : (nodes : Nodes) (walked : List ℕ) (old new : Claims) (i : ℕ) (o : Option ℕ) → o ≡ record_of nodes (slice_get walked i) → MatchOption o (new ≡ old) (IsMore old new) → AreNamedUpTo nodes walked old i → AreNamedUpTo nodes walked new (i + 1)
named_step nodes walked old new i None is same are = subst (λ (claims : Claims). AreNamedUpTo nodes walked claims (i + 1)) (sym same) (named_none nodes walked old i is are)
named_step nodes walked old new i (Some w) is more are = named_next nodes walked old new i w is more are

-- all walked nodes were looked at
pub named_all : (nodes : Nodes) (walked : List ℕ) (named : Claims) (n : ℕ) → length walked ≤ n → AreNamedUpTo nodes walked named n → AreNamed nodes walked named
named_all nodes walked named n all are i w is = by (slice_get walked i) refl
  where
    bad : None ≡ Some w → ⊥
    bad e = cc

    by : (o : Option ℕ) → slice_get walked i ≡ o → is_claimed_first named w ≡ true
    by None e = absurd (bad (sym (ap (record_of nodes) e) ∙ is))
    by (Some x) e = let within = slice_get_within walked i x e in are i w (omega (arith, within, all)) is
