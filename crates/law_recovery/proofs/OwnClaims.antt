-- A node shares no block with its record.
use Rattle.std.proofs.Common.{inl, inr, ◌≡◌, ◌≢◌, ◌⊎◌, ℕ, zero, suc, ◌+◌, ◌≤◌, List, [], ◌∷◌, take, refl, ap, sym, ◌∙◌, subst, ⊎_elim, Bool, true, false, Option, Some, None, Ok, arith}
use Rattle.std.specs.Prelude.{if◌then◌else◌, not, ◌&&◌, ◌||◌, ◌==◌, nat_le, map}
use Rattle.std.specs.Option.{option_map, option_and_then}
use Rattle.std.specs.List.{AllByRecursion, flat_map, range_with_len}
use Rattle.std.proofs.lemmas.Bool.{cases_Bool, and_parts, eqb-true, eq-eqb, or_cases}
use Rattle.std.proofs.lemmas.Bool.Decides.{nat_tests}
use Rattle.spec_image.specs.Image.{Image}
use Rattle.spec_format.specs.Address.{kind_of, file_selector, first_block, block_count, external_number, external, rankings, blocks_256}
use Rattle.spec_format.specs.Storage.{is_storage, kind_for}
use Rattle.spec_format.specs.Claims.{Claim, BlockOf, ExternalOf, same_claim, claims_of, has_claim, repeats}
use Rattle.spec_format.specs.BlockFiles.{linked_as, stands_in}
use Rattle.spec_image.specs.Bytes.{words_at}
use Rattle.spec_format.specs.Records.{entry_in}
use Rattle.spec_folder.specs.View.{RecordFields, NodeFields, fields_of, entry_at, store_of, node_fields_at, fields_at, stored_at, stands_as, data_size_of, address_of}
use Rattle.spec_folder.specs.Entries.{stored_key, stored_stream, stored_streams}
use Rattle.spec_folder.specs.Loads.{Rule, Loaded, load, record_claims, all_claims}
use Rattle.law_folder.proofs.claims.Allocations.{storage-of_none}
use Rattle.law_folder.proofs.claims.ByteChanges.{stands-linked}
use Rattle.law_folder.proofs.claims.ClaimLists.{claim-append, no-claim, repeats-append}
use Rattle.law_folder.proofs.walks.Loads.{load-then}

-- a word that isn't 0 is valid, and not as a node
abbrev IsNoNode : Image → ℕ → Type 0
IsNoNode image x = (x == 0) ≡ false → (stands_in image x ≡ true) × (kind_of x ≢ rankings)

node-here : (image : Image) (w : ℕ) (n : NodeFields) → node_fields_at image w ≡ Some n → (stands_in image w ≡ true) × (kind_of w ≡ rankings)
unfolding node_fields_at
node-here image w n e = ⊎_elim
    (λ (s : stands_as image rankings w ≡ true). let p = and_parts (stands_in image w) (kind_of w == rankings) s in (p.0, eqb-true (kind_of w) rankings p.1))
    (λ (s : stands_as image rankings w ≡ false). let none : ◌≡◌ {A = Option NodeFields} None (Some n) = rw s at e in absurd (no none))
    (cases_Bool (stands_as image rankings w)) where
      no : ◌≡◌ {A = Option NodeFields} None (Some n) → ⊥
      no e = cc

fields-here : (image : Image) (c : ℕ) (e : RecordFields) → fields_at image c ≡ Some e → (stands_in image c ≡ true) × (kind_of c ≡ blocks_256) × (fields_of (entry_at image c) ≡ e)
unfolding fields_at
fields-here image c e is = ⊎_elim
    (λ (s : stands_as image blocks_256 c ≡ true). let some : ◌≡◌ {A = Option RecordFields} (Some (fields_of (entry_at image c))) (Some e) = rw s at is in let p = and_parts (stands_in image c) (kind_of c == blocks_256) s in (p.0, eqb-true (kind_of c) blocks_256 p.1, cc))
    (λ (s : stands_as image blocks_256 c ≡ false). let none : ◌≡◌ {A = Option RecordFields} None (Some e) = rw s at is in absurd (no none))
    (cases_Bool (stands_as image blocks_256 c)) where
      no : ◌≡◌ {A = Option RecordFields} None (Some e) → ⊥
      no e = cc

storage-kind : (size x : ℕ) → (size == 0) ≡ false → is_storage size x ≡ true → kind_of x ≢ rankings
unfolding is_storage kind_for
storage-kind size x some is node = let h = is in grind (arith, nat_tests, some, node)

stored-no_node : (image : Image) (size x : ℕ) (bytes : List ℕ) → stored_at image size x ≡ Some bytes → IsNoNode image x
unfolding stored_at
stored-no_node image size x bytes e some = go (is_storage size x) (size == 0) (stands_in image x) _ refl refl refl e where
  go : (a b c : Bool) (last : Option (List ℕ)) → is_storage size x ≡ a → (size == 0) ≡ b → stands_in image x ≡ c
      → (if not a then None else if b then Some [] else if not c then None else last) ≡ Some bytes → (stands_in image x ≡ true) × (kind_of x ≢ rankings)
  go false b c last is none stands h = cc
  go true true c last is none stands h = let z : (x == 0) ≡ true = storage-of_none size x none is in absurd (clash (sym z ∙ some)) where
    clash : true ≡ false → ⊥
    clash e = cc
  go true false false last is none stands h = cc
  go true false true last is none stands h = (stands, storage-kind size x none is)

long_key-no_node : (image : Image) (c : ℕ) (e : RecordFields) (key : List ℕ) → stored_key (store_of image) c e ≡ Some key → IsNoNode image e.long_key
unfolding stored_key store_of
long_key-no_node image c e key is some = go (nat_le e.key_len 927) is where
  lone : (o : Option (List ℕ)) → stored_at image (e.key_len + 1) e.long_key ≡ o → option_map (take e.key_len) o ≡ Some key → (stands_in image e.long_key ≡ true) × (kind_of e.long_key ≢ rankings)
  lone None at h = cc
  lone (Some bytes) at h = stored-no_node image (e.key_len + 1) e.long_key bytes at some

  no : ◌≡◌ {A = Option (List ℕ)} None (Some key) → ⊥
  no e = cc

  go : (b : Bool) → (if b then (if e.long_key == 0 then Some ((store_of image).key_place c e.key_len) else None) else option_map (take e.key_len) (stored_at image (e.key_len + 1) e.long_key)) ≡ Some key → (stands_in image e.long_key ≡ true) × (kind_of e.long_key ≢ rankings)
  go true h = let none : ◌≡◌ {A = Option (List ℕ)} None (Some key) = rw some at h in absurd (no none)
  go false h = lone (stored_at image (e.key_len + 1) e.long_key) refl h

stream-no_node : (image : Image) (e : RecordFields) (i : ℕ) (bytes : List ℕ) → stored_stream (store_of image) e i ≡ Some bytes → IsNoNode image (address_of e i)
unfolding stored_stream store_of
stream-no_node image e i bytes is = go (nat_le (data_size_of e i) 2147483647) is where
  go : (b : Bool) → (if b then stored_at image (data_size_of e i) (address_of e i) else None) ≡ Some bytes → IsNoNode image (address_of e i)
  go true h = stored-no_node image (data_size_of e i) (address_of e i) bytes h
  go false h = cc

record AreNoNodes (image : Image) (e : RecordFields) : Type 0 where
  first : IsNoNode image (address_of e 0)
  second : IsNoNode image (address_of e 1)
  third : IsNoNode image (address_of e 2)
  fourth : IsNoNode image (address_of e 3)

streams-no_nodes : (image : Image) (e : RecordFields) (streams : List (List ℕ)) → stored_streams (store_of image) e ≡ Some streams → AreNoNodes image e
unfolding stored_streams
streams-no_nodes image e streams is = go ((data_size_of e 3 == 0) && (address_of e 3 == 0)) (stored_stream (store_of image) e 0) (stored_stream (store_of image) e 1) (stored_stream (store_of image) e 2) refl refl refl refl is where
  clash : true ≡ false → ⊥
  clash e = cc

  go : (b : Bool) (s0 s1 s2 : Option (List ℕ)) → ((data_size_of e 3 == 0) && (address_of e 3 == 0)) ≡ b → stored_stream (store_of image) e 0 ≡ s0 → stored_stream (store_of image) e 1 ≡ s1 → stored_stream (store_of image) e 2 ≡ s2
      → (if not b then None else option_and_then (λ first. option_and_then (λ second. option_map (λ third. first ∷ second ∷ third ∷ []) s2) s1) s0) ≡ Some streams → AreNoNodes image e
  go false s0 s1 s2 b0 e0 e1 e2 h = cc
  go true None s1 s2 b0 e0 e1 e2 h = cc
  go true (Some a) None s2 b0 e0 e1 e2 h = cc
  go true (Some a) (Some b) None b0 e0 e1 e2 h = cc
  go true (Some a) (Some b) (Some c) b0 e0 e1 e2 h = record {
    first = stream-no_node image e 0 a e0;
    second = stream-no_node image e 1 b e1;
    third = stream-no_node image e 2 c e2;
    fourth = λ some. let z : (address_of e 3 == 0) ≡ true = (and_parts (data_size_of e 3 == 0) (address_of e 3 == 0) b0).1 in absurd (clash (sym z ∙ some));
  }

addresses-no_nodes : (image : Image) (c : ℕ) → AreNoNodes image (fields_of (entry_at image c)) → AllByRecursion (IsNoNode image) (fields_of (entry_at image c)).data_addr
unfolding words_at entry_in
addresses-no_nodes image c s = (s.first, (s.second, (s.third, (s.fourth, tt))))

-- a used block of a word of blocks is of its file
pub claim-file : (w : ℕ) (c : Claim) → has_claim (claims_of w) c ≡ true → ((kind_of w ≡ external) × (c ≡ ExternalOf (external_number w))) ⊎ ((kind_of w ≢ external) × ((b : ℕ) × (c ≡ BlockOf (file_selector w) b)))
unfolding claims_of has_claim
claim-file w c h = go (w == 0) (kind_of w == external) refl h where
  clash : false ≡ true → ⊥
  clash e = cc

  ranged : (f first n : ℕ) (c : Claim) → has_claim (map (λ b. BlockOf f b) (range_with_len first n)) c ≡ true → (b : ℕ) × (c ≡ BlockOf f b)
  ranged f first zero c h = cc
  ranged f first (suc n) c h =
      ⊎_elim (λ (e : same_claim c (BlockOf f first) ≡ true). one c first e) (λ (e : same_claim c (BlockOf f first) ≡ false). ranged f (first + 1) n c (rw e at h)) (cases_Bool (same_claim c (BlockOf f first))) where
        one : (c : Claim) (first : ℕ) → same_claim c (BlockOf f first) ≡ true → (b : ℕ) × (c ≡ BlockOf f b)
        one (BlockOf g b) first e = let p = and_parts (g == f) (b == first) e in (b, ap (λ (x : ℕ). BlockOf x b) (eqb-true g f p.0))
        one (ExternalOf n) first e = cc

  outside : (c : Claim) → has_claim (ExternalOf (external_number w) ∷ []) c ≡ true → c ≡ ExternalOf (external_number w)
  outside (BlockOf g b) h = cc
  outside (ExternalOf n) h = ap ExternalOf (eqb-true n (external_number w) (lone (n == external_number w) h)) where
    lone : (b : Bool) → (b || false) ≡ true → b ≡ true
    lone true e = refl
    lone false e = cc

  go : (z k : Bool) → (kind_of w == external) ≡ k → has_claim (if z then [] else if k then ExternalOf (external_number w) ∷ [] else map (λ b. BlockOf (file_selector w) b) (range_with_len (first_block w) (block_count w))) c ≡ true
      → ((kind_of w ≡ external) × (c ≡ ExternalOf (external_number w))) ⊎ ((kind_of w ≢ external) × ((b : ℕ) × (c ≡ BlockOf (file_selector w) b)))
  go true k e h = absurd (clash h)
  go false true e h = inl (eqb-true (kind_of w) external e, outside c h)
  go false false e h = inr ((λ is. let t : (kind_of w == external) ≡ true = eq-eqb (kind_of w) external is in let f : true ≡ false = sym t ∙ e in cc), ranged (file_selector w) (first_block w) (block_count w) c h)

zero-claims : (x : ℕ) (c : Claim) → (x == 0) ≡ true → has_claim (claims_of x) c ≡ false
unfolding claims_of has_claim
zero-claims x c e = rw e refl

none-claims : (c : Claim) → has_claim [] c ≡ true → ⊥
unfolding has_claim
none-claims c e = cc

clash : false ≡ true → ⊥
clash e = cc

-- a word that is no node uses no block of a node
apart-from_node : (image : Image) (node x : ℕ) → stands_in image node ≡ true → kind_of node ≡ rankings → stands_in image x ≡ true → kind_of x ≢ rankings → (c : Claim) → has_claim (claims_of node) c ≡ true → has_claim (claims_of x) c ≡ true → ⊥
apart-from_node image node x st kind up other c h g = go (claim-file node c h) (claim-file x c g) where
  not_external : kind_of node ≢ external
  not_external e = let z : ◌≡◌ {A = ℕ} 1 0 = sym kind ∙ e in cc

  kind-one : {a b : ℕ} → ◌≡◌ {A = Option ℕ} (Some a) (Some b) → a ≡ b
  kind-one e = cc

  file-one : {f g b d : ℕ} → BlockOf f b ≡ BlockOf g d → f ≡ g
  file-one e = cc

  go : ((kind_of node ≡ external) × (c ≡ ExternalOf (external_number node))) ⊎ ((kind_of node ≢ external) × ((b : ℕ) × (c ≡ BlockOf (file_selector node) b))) → ((kind_of x ≡ external) × (c ≡ ExternalOf (external_number x))) ⊎ ((kind_of x ≢ external) × ((b : ℕ) × (c ≡ BlockOf (file_selector x) b))) → ⊥
  go (inl e) f = not_external e.0
  go (inr p) (inl e) = let z : BlockOf (file_selector node) p.1.0 ≡ ExternalOf (external_number x) = sym p.1.1 ∙ e.1 in cc
  go (inr p) (inr q) =
      let file : file_selector node ≡ file_selector x = file-one (sym p.1.1 ∙ q.1.1) in
      let a : linked_as image (file_selector node) ≡ Some (kind_of node) = stands-linked image node st not_external in
      let b : linked_as image (file_selector x) ≡ Some (kind_of x) = stands-linked image x up q.0 in
      other (kind-one (sym b ∙ ap (linked_as image) (sym file) ∙ a) ∙ kind)

no-common : (image : Image) (node : ℕ) (xs : List ℕ) → stands_in image node ≡ true → kind_of node ≡ rankings → AllByRecursion (IsNoNode image) xs → (c : Claim) → has_claim (claims_of node) c ≡ true → has_claim (flat_map claims_of xs) c ≡ true → ⊥
no-common image node [] st kind all c h g = none-claims c g
no-common image node (x ∷ xs) st kind all c h g =
    ⊎_elim
    (λ (e : has_claim (claims_of x) c ≡ true). ⊎_elim
    (λ (z : (x == 0) ≡ true). clash (sym (zero-claims x c z) ∙ e))
    (λ (z : (x == 0) ≡ false). let is = all.0 z in apart-from_node image node x st kind is.0 is.1 c h e)
    (cases_Bool (x == 0)))
    (λ (e : has_claim (flat_map claims_of xs) c ≡ true). no-common image node xs st kind all.1 c h e)
    (or_cases (has_claim (claims_of x) c) (has_claim (flat_map claims_of xs) c) (sym (claim-append (claims_of x) (flat_map claims_of xs) c) ∙ g))

-- no used block of a word occurs twice
range-has : (f first n b : ℕ) → has_claim (map (λ x. BlockOf f x) (range_with_len first n)) (BlockOf f b) ≡ true → first ≤ b
unfolding has_claim
range-has f first zero b h = cc
range-has f first (suc n) b h =
    ⊎_elim
    (λ (e : same_claim (BlockOf f b) (BlockOf f first) ≡ true). let is : b ≡ first = eqb-true b first (and_parts (f == f) (b == first) e).1 in omega (arith, is))
    (λ (e : same_claim (BlockOf f b) (BlockOf f first) ≡ false). let more = range-has f (first + 1) n b (rw e at h) in omega (arith, more))
    (cases_Bool (same_claim (BlockOf f b) (BlockOf f first)))

range-once : (f first n : ℕ) → repeats (map (λ x. BlockOf f x) (range_with_len first n)) ≡ false
unfolding repeats
range-once f first zero = refl
range-once f first (suc n) =
    ⊎_elim
    (λ (e : has_claim (map (λ x. BlockOf f x) (range_with_len (first + 1) n)) (BlockOf f first) ≡ true). absurd (let more = range-has f (first + 1) n first e in omega (arith, more)))
    (λ (e : has_claim (map (λ x. BlockOf f x) (range_with_len (first + 1) n)) (BlockOf f first) ≡ false). rw (e, range-once f (first + 1) n) refl)
    (cases_Bool (has_claim (map (λ x. BlockOf f x) (range_with_len (first + 1) n)) (BlockOf f first)))

pub word-once : (w : ℕ) → repeats (claims_of w) ≡ false
unfolding claims_of repeats
word-once w = go (w == 0) (kind_of w == external) where
  lone : (c : Claim) → repeats (c ∷ []) ≡ false
  lone c = rw (no-claim c) refl

  go : (z k : Bool) → repeats (if z then [] else if k then ExternalOf (external_number w) ∷ [] else map (λ b. BlockOf (file_selector w) b) (range_with_len (first_block w) (block_count w))) ≡ false
  go true k = refl
  go false true = lone (ExternalOf (external_number w))
  go false false = range-once (file_selector w) (first_block w) (block_count w)

-- a loaded record whose used blocks don't repeat doesn't share a block with its node
pub all-once : (image : Image) (rule : Rule) (w : ℕ) (l : Loaded) → load (store_of image) rule w ≡ Ok l → repeats (record_claims l) ≡ false → repeats (all_claims l) ≡ false
unfolding store_of all_claims record_claims
all-once image rule w l ok single = load-then (store_of image) rule w l ok (λ n e f.
    let here = node-here image w n f.node in
    let fields = fields-here image n.contents e f.entry in
    let long : IsNoNode image e.long_key = long_key-no_node image n.contents e l.key f.facts.keyed.key in
    let streams : AreNoNodes image e = streams-no_nodes image e l.streams f.facts.streams in
    let addresses : AllByRecursion (IsNoNode image) e.data_addr = subst (λ (x : RecordFields). AllByRecursion (IsNoNode image) x.data_addr) fields.2 (addresses-no_nodes image n.contents (subst (AreNoNodes image) (sym fields.2) streams)) in
    let others : AllByRecursion (IsNoNode image) l.others = subst (AllByRecursion (IsNoNode image)) (sym f.facts.others_are) (long, addresses) in
    let contents : IsNoNode image l.contents = λ some. (subst (λ (x : ℕ). stands_in image x ≡ true) (sym f.facts.contents_is) fields.0, λ e. two (sym (subst (λ (x : ℕ). kind_of x ≡ blocks_256) (sym f.facts.contents_is) fields.1) ∙ e)) in
    let node_stands : stands_in image l.node ≡ true = subst (λ (x : ℕ). stands_in image x ≡ true) (sym f.facts.node_is) here.0 in
    let node_kind : kind_of l.node ≡ rankings = subst (λ (x : ℕ). kind_of x ≡ rankings) (sym f.facts.node_is) here.1 in
    repeats-append (claims_of l.node) (flat_map claims_of (l.contents ∷ l.others)) (word-once l.node) single (λ c h g. no-common image l.node (l.contents ∷ l.others) node_stands node_kind (contents, others) c h g)) where
      two : ◌≡◌ {A = ℕ} 2 1 → ⊥
      two e = cc
