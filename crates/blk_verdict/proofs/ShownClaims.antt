-- What loaded records own: their node is apart from the rest, and the words in memory are those of an image.
use Rattle.std.proofs.Common.{◌≡◌, ◌≢◌, ◌+◌, ℕ, zero, suc, Bool, true, false, ◌&&◌, ◌||◌, if◌then◌else◌, List, [], ◌∷◌, ◌++◌, map, take, Option, None, Some, Ok, refl, sym, ◌∙◌, ap, ap₂, subst, arith}
use Rattle.std.specs.Prelude.{◌==◌, nat_le, not, is_some}
use Rattle.std.specs.List.{AllByRecursion, filter, flat_map, list_any, range_with_len}
use Rattle.std.specs.Option.{option_map}
use Rattle.std.proofs.lemmas.Bool.{eqb-true, eq-eqb, or_from}
use Rattle.spec_image.specs.Bytes.{words_at}
use Rattle.spec_image.specs.Image.{Image}
use Rattle.spec_format.specs.Address.{is_address, is_initialized, kind_of, block_count, file_selector, first_block, external, rankings, blocks_256}
use Rattle.spec_format.specs.BlockFiles.{linked_as, stands_in}
use Rattle.spec_format.specs.Claims.{Claim, BlockOf, claims_of, claims_of_all, has_claim, is_in_file, overlap, repeats}
use Rattle.spec_format.specs.Records.{entry_in}
use Rattle.spec_format.specs.Storage.{is_storage, kind_for}
use Rattle.blk_addr.proofs.ClaimLemmas.{claims_of-blocks, has_claim-append, repeats-claims_of}
use Rattle.blk_addr.proofs.MeetLemmas.{repeats-both}
use Rattle.spec_folder.specs.Audit.{collides}
use Rattle.spec_folder.specs.Entries.{stored_key, stored_streams}
use Rattle.spec_folder.specs.Loads as shown
use Rattle.spec_folder.specs.Loads.{all_claims, claims_of_loaded, held_rule, record_claims}
use Rattle.spec_folder.specs.Sound.{words_of}
use Rattle.spec_folder.specs.View.{NodeFields, RecordFields, address_of, entry_at, fields_at, fields_of, node_fields_at, stands_as, store_of, stored_at}
use Rattle.blk_entry.proofs.KeyPlaces.{storage_parts}
use Rattle.law_folder.proofs.claims.Allocations.{all-claims, other-file, storage-of_none, words-claims, words-stand}
use Rattle.law_folder.proofs.claims.ByteChanges.{stands-address, stands-linked, stands-some}
use Rattle.law_folder.proofs.claims.ClaimLists.{no-claim}
use Rattle.law_folder.proofs.claims.NodeWords.{IsNode, is-node, node_apart}
use Rattle.law_folder.proofs.walks.Loads.{load-then}
use Rattle.blk_verdict.specs.Kept.{AreShown, IsLoadedFrom, addresses_of, addresses_of_all}
use Rattle.blk_verdict.specs.declared.loading.Loaded.{Loaded}
use Rattle.blk_verdict.proofs.StreamFacts.{are_stored, no_fourth_addr}

-- No word of a record but its node's is of the kind of nodes.

-- the kind of a word is not that of nodes
abbrev IsOther : ℕ → Type 0
IsOther w = kind_of w ≢ rankings

zero_other : IsOther 0
unfolding kind_of
zero_other e = let x : ◌≡◌ {A = ℕ} 0 1 = e in cc

kind_other : (size : ℕ) → kind_for size ≢ rankings
unfolding kind_for
kind_other size = by_tests (nat_le size 1023) (nat_le size 4095) (nat_le size 16384)
  where
    two : ◌≡◌ {A = ℕ} 2 1 → ⊥
    two e = cc

    three : ◌≡◌ {A = ℕ} 3 1 → ⊥
    three e = cc

    four : ◌≡◌ {A = ℕ} 4 1 → ⊥
    four e = cc

    none : ◌≡◌ {A = ℕ} 0 1 → ⊥
    none e = cc

    by_tests : (a b c : Bool) → ◌≡◌ {A = ℕ} (if a then 2 else if b then 3 else if c then 4 else 0) 1 → ⊥
    by_tests true b c = two
    by_tests false true c = three
    by_tests false false true = four
    by_tests false false false = none

storage_other : (size w : ℕ) → is_storage size w ≡ true → IsOther w
storage_other zero w is = let z : w ≡ 0 = eqb-true w 0 (storage-of_none 0 w refl is) in subst IsOther (sym z) zero_other
storage_other (suc n) w is = let parts = storage_parts (suc n) w (omega arith) is in λ e. kind_other (suc n) (sym parts.1 ∙ e)

stored_other : (image : Image) (size w : ℕ) (bytes : List ℕ) → stored_at image size w ≡ Some bytes → IsOther w
unfolding stored_at
stored_other image size w bytes e = by_test (is_storage size w) _ refl e
  where
    by_test : (t : Bool) (x : Option (List ℕ)) → is_storage size w ≡ t → (if not t then None else x) ≡ Some bytes → IsOther w
    by_test true x is h = storage_other size w is
    by_test false x is h = absurd (clash h)
      where
        clash : None ≡ Some bytes → ⊥
        clash c = cc

long_key_other : (image : Image) (c : ℕ) (fields : RecordFields) (key : List ℕ) → stored_key (store_of image) c fields ≡ Some key → IsOther fields.long_key
unfolding stored_key store_of
long_key_other image c fields key e = by_tests (nat_le fields.key_len 927) (fields.long_key == 0) _ refl e
  where
    none_some : None ≡ Some key → ⊥
    none_some h = cc

    long : (o : Option (List ℕ)) → stored_at image (fields.key_len + 1) fields.long_key ≡ o → option_map (take fields.key_len) o ≡ Some key → IsOther fields.long_key
    long None is h = absurd (none_some h)
    long (Some bytes) is h = stored_other image (fields.key_len + 1) fields.long_key bytes is

    by_tests : (t z : Bool) (x : Option (List ℕ)) → (fields.long_key == 0) ≡ z → (if t then (if z then x else None) else option_map (take fields.key_len) (stored_at image (fields.key_len + 1) fields.long_key)) ≡ Some key → IsOther fields.long_key
    by_tests true true x z h = let none : fields.long_key ≡ 0 = eqb-true fields.long_key 0 z in subst IsOther (sym none) zero_other
    by_tests true false x z h = absurd (none_some h)
    by_tests false z x s h = long (stored_at image (fields.key_len + 1) fields.long_key) refl h

fourth_other : (image : Image) (fields : RecordFields) (streams : List (List ℕ)) → stored_streams (store_of image) fields ≡ Some streams → IsOther (address_of fields 3)
fourth_other image fields streams is kind =
    clash (sym (ap (λ (o : Option (List (List ℕ))). is_some o) is) ∙ no_fourth_addr image fields (λ none. zero_other (ap kind_of (sym none) ∙ kind)))
  where
    clash : true ≡ false → ⊥
    clash c = cc

addresses_other : (image : Image) (c : ℕ) → IsOther (address_of (fields_of (entry_at image c)) 0) → IsOther (address_of (fields_of (entry_at image c)) 1) → IsOther (address_of (fields_of (entry_at image c)) 2) → IsOther (address_of (fields_of (entry_at image c)) 3)
    → AllByRecursion IsOther (fields_of (entry_at image c)).data_addr
unfolding words_at entry_in
addresses_other image c one two three four = (one, (two, (three, (four, tt))))

-- what names a record is valid, and the record is the one there
record_there : (image : Image) (c : ℕ) (fields : RecordFields) → fields_at image c ≡ Some fields → (kind_of c ≡ blocks_256) × (fields_of (entry_at image c) ≡ fields)
unfolding fields_at
record_there image c fields e = by_tests (stands_in image c) (kind_of c == blocks_256) refl e
  where
    none_some : None ≡ Some fields → ⊥
    none_some h = cc

    by_tests : (s k : Bool) → (kind_of c == blocks_256) ≡ k → (if s && k then Some (fields_of (entry_at image c)) else None) ≡ Some fields → (kind_of c ≡ blocks_256) × (fields_of (entry_at image c) ≡ fields)
    by_tests true true k h = (eqb-true _ _ k, cc)
    by_tests true false k h = absurd (none_some h)
    by_tests false k is h = absurd (none_some h)

node_there : (image : Image) (w : ℕ) (fields : NodeFields) → node_fields_at image w ≡ Some fields → stands_as image rankings w ≡ true
unfolding node_fields_at
node_there image w fields e = by_test (stands_as image rankings w) _ refl e
  where
    by_test : (t : Bool) (x : Option NodeFields) → stands_as image rankings w ≡ t → (if t then x else None) ≡ Some fields → stands_as image rankings w ≡ true
    by_test true x is h = is
    by_test false x is h = absurd (clash h)
      where
        clash : None ≡ Some fields → ⊥
        clash c = cc

-- the words of a loaded record, and its node
record IsApart (image : Image) (loaded : shown.Loaded) : Type 0 where
  node : IsNode image loaded.node
  others : AllByRecursion IsOther (loaded.contents ∷ loaded.others)

is_apart : (image : Image) (loaded : shown.Loaded) (node : ℕ) → shown.load (store_of image) held_rule node ≡ Ok loaded → IsApart image loaded
unfolding store_of
is_apart image loaded node ok =
    load-then {P = IsApart image loaded} (store_of image) held_rule node loaded ok
    (λ n fields facts.
    let there = record_there image n.contents fields facts.entry in
    let key = long_key_other image n.contents fields loaded.key facts.facts.keyed.key in
    let are = are_stored image fields loaded.streams facts.facts.streams in
    let four = fourth_other image fields loaded.streams facts.facts.streams in
    let one = stored_other image _ (address_of fields 0) _ are.first in
    let two = stored_other image _ (address_of fields 1) _ are.second in
    let three = stored_other image _ (address_of fields 2) _ are.third in
    let back = sym there.1 in
    let addresses : AllByRecursion IsOther fields.data_addr = subst (λ (e : RecordFields). AllByRecursion IsOther e.data_addr) there.1
    (addresses_other image n.contents (subst (λ (e : RecordFields). IsOther (address_of e 0)) back one) (subst (λ (e : RecordFields). IsOther (address_of e 1)) back two) (subst (λ (e : RecordFields). IsOther (address_of e 2)) back three) (subst (λ (e : RecordFields). IsOther (address_of e 3)) back four)) in
    let contents : IsOther n.contents = λ e. two_one (sym there.0 ∙ e) in
    record {
      node = subst (IsNode image) (sym facts.facts.node_is) (is-node image node (node_there image node n facts.node));
      others = (subst IsOther (sym facts.facts.contents_is) contents, subst (AllByRecursion IsOther) (sym facts.facts.others_are) (key, addresses));
    })
  where
    two_one : ◌≡◌ {A = ℕ} 2 1 → ⊥
    two_one e = cc

-- The used blocks of a node are apart from those of its record.

zero_elsewhere : (n : ℕ) → is_in_file n 0 ≡ false
unfolding is_in_file kind_of
zero_elsewhere n = refl

-- a valid word of another kind is in no file of nodes
elsewhere : (image : Image) (n w : ℕ) → linked_as image n ≡ Some rankings → IsOther w → stands_in image w ≡ true → is_in_file n w ≡ false
unfolding is_in_file
elsewhere image n w linked other st = by_tests (kind_of w == external) (file_selector w == n) refl refl
  where
    some_same : {a b : ℕ} → Some a ≡ Some b → a ≡ b
    some_same e = cc

    clash : true ≡ false → ⊥
    clash c = cc

    by_tests : (k f : Bool) → (kind_of w == external) ≡ k → (file_selector w == n) ≡ f → (not k && f) ≡ false
    by_tests true f k h = refl
    by_tests false false k h = refl
    by_tests false true k h = absurd (other (some_same (sym (stands-linked image w st (λ e. clash (sym (eq-eqb _ _ e) ∙ k))) ∙ ap (linked_as image) (eqb-true _ _ h) ∙ linked)))

abbrev Stand : Image → List ℕ → Type 0
Stand image words = AllByRecursion (λ w. stands_in image w ≡ true) words

-- words that are valid, or 0, and are of another kind, use no block of a file of nodes
no_block : (image : Image) (n b : ℕ) (words : List ℕ) → linked_as image n ≡ Some rankings → AllByRecursion IsOther words → Stand image (filter (λ w. not (w == 0)) words)
    → has_claim (claims_of_all words) (BlockOf n b) ≡ false
no_block image n b [] linked others stand = no-claim (BlockOf n b)
no_block image n b (w ∷ words) linked others stand = by_zero (w == 0) refl (λ all. no_block image n b words linked others.1 all) stand
  where
    both : has_claim (claims_of w) (BlockOf n b) ≡ false → has_claim (claims_of_all words) (BlockOf n b) ≡ false → has_claim (claims_of_all (w ∷ words)) (BlockOf n b) ≡ false
    both one rest = has_claim-append (claims_of w) (claims_of_all words) (BlockOf n b) ∙ or_from (has_claim (claims_of w) (BlockOf n b)) (has_claim (claims_of_all words) (BlockOf n b)) one rest

    by_zero : (z : Bool) → (w == 0) ≡ z → (Stand image (filter (λ w. not (w == 0)) words) → has_claim (claims_of_all words) (BlockOf n b) ≡ false)
        → Stand image (if not z then w ∷ filter (λ w. not (w == 0)) words else filter (λ w. not (w == 0)) words) → has_claim (claims_of_all (w ∷ words)) (BlockOf n b) ≡ false
    by_zero true z later rest = both (other-file n b w (ap (is_in_file n) (eqb-true w 0 z) ∙ zero_elsewhere n)) (later rest)
    by_zero false z later rest = both (other-file n b w (elsewhere image n w linked others.0 rest.0)) (later rest.1)

none_of_run : (claims : List Claim) (f s n : ℕ) → ((b : ℕ) → has_claim claims (BlockOf f b) ≡ false) → list_any (has_claim claims) (map (λ b. BlockOf f b) (range_with_len s n)) ≡ false
none_of_run claims f s zero none = refl
none_of_run claims f s (suc n) none = or_from (has_claim claims (BlockOf f s)) (list_any (has_claim claims) (map (λ b. BlockOf f b) (range_with_len (s + 1) n))) (none s) (none_of_run claims f (s + 1) n none)

node_shares_none : (image : Image) (loaded : shown.Loaded) (node : ℕ) → shown.load (store_of image) held_rule node ≡ Ok loaded → overlap (record_claims loaded) (claims_of loaded.node) ≡ false
unfolding overlap record_claims
node_shares_none image loaded node ok =
    let apart = is_apart image loaded node ok in
    let is = apart.node in
    let block_kind : kind_of loaded.node ≢ external = λ e. node_apart (sym is.kind ∙ e) in
    let linked : linked_as image (file_selector loaded.node) ≡ Some rankings = stands-linked image loaded.node is.stands block_kind ∙ ap Some is.kind in
    let stand = words-stand image loaded (held_rule, node, ok) in
    ap (list_any (has_claim (claims_of_all (loaded.contents ∷ loaded.others)))) (claims_of-blocks loaded.node (stands-some image loaded.node is.stands) block_kind)
    ∙ none_of_run (claims_of_all (loaded.contents ∷ loaded.others)) (file_selector loaded.node) (first_block loaded.node) (block_count loaded.node)
    (λ b. no_block image (file_selector loaded.node) b (loaded.contents ∷ loaded.others) linked apart.others (behind loaded.node (loaded.contents ∷ loaded.others) stand))
  where
    behind : (w : ℕ) (words : List ℕ) → AllByRecursion (λ w. stands_in image w ≡ true) (filter (λ w. not (w == 0)) (w ∷ words)) → AllByRecursion (λ w. stands_in image w ≡ true) (filter (λ w. not (w == 0)) words)
    behind w words all = by_zero (w == 0) all
      where
        by_zero : (z : Bool) → AllByRecursion (λ w. stands_in image w ≡ true) (if not z then w ∷ filter (λ w. not (w == 0)) words else filter (λ w. not (w == 0)) words) → AllByRecursion (λ w. stands_in image w ≡ true) (filter (λ w. not (w == 0)) words)
        by_zero true rest = rest
        by_zero false rest = rest.1

-- so it changes nothing whether the node's used blocks are looked at for repetition
all_once : (image : Image) (loaded : shown.Loaded) (node : ℕ) → shown.load (store_of image) held_rule node ≡ Ok loaded → repeats (all_claims loaded) ≡ repeats (record_claims loaded)
unfolding all_claims
all_once image loaded node ok =
    let is = (is_apart image loaded node ok).node in
    repeats-both (claims_of loaded.node) (record_claims loaded) (repeats-claims_of loaded.node (stands-some image loaded.node is.stands))
    ∙ ap (λ (t : Bool). t || repeats (record_claims loaded)) (node_shares_none image loaded node ok)

-- What records in memory own.

no_zero : is_address 0 ≡ false
unfolding is_address is_initialized
no_zero = refl

same_words : (image : Image) (words : List ℕ) → Stand image (filter (λ w. not (w == 0)) words) → filter is_address words ≡ filter (λ w. not (w == 0)) words
same_words image [] stand = refl
same_words image (w ∷ words) stand = by_zero (w == 0) refl (λ all. same_words image words all) stand
  where
    by_zero : (z : Bool) → (w == 0) ≡ z → (Stand image (filter (λ w. not (w == 0)) words) → filter is_address words ≡ filter (λ w. not (w == 0)) words)
        → Stand image (if not z then w ∷ filter (λ w. not (w == 0)) words else filter (λ w. not (w == 0)) words) → filter is_address (w ∷ words) ≡ filter (λ w. not (w == 0)) (w ∷ words)
    by_zero true z later rest = let none : is_address w ≡ false = ap is_address (eqb-true w 0 z) ∙ no_zero in rw (none, z) (later rest)
    by_zero false z later rest = let some : is_address w ≡ true = stands-address image w rest.0 in rw (some, z) (ap (λ (l : List ℕ). w ∷ l) (later rest.1))

addresses_shown : (image : Image) (loaded : shown.Loaded) (said : Loaded) → IsLoadedFrom image loaded said → addresses_of said ≡ words_of loaded
addresses_shown image loaded said is =
    ap (filter is_address) (ap₂ (λ (w : ℕ) (l : List ℕ). w ∷ l) is.is.node (ap₂ (λ (w : ℕ) (l : List ℕ). w ∷ l) is.is.entry is.is.others))
    ∙ same_words image (loaded.node ∷ loaded.contents ∷ loaded.others) (words-stand image loaded (held_rule, is.node, is.loads))

pub all_addresses_shown : (image : Image) (kept : List shown.Loaded) (said : List Loaded) → AreShown image kept said → addresses_of_all said ≡ flat_map words_of kept
all_addresses_shown image [] [] are = refl
all_addresses_shown image [] (said ∷ others) are = absurd are
all_addresses_shown image (loaded ∷ kept) [] are = absurd are
all_addresses_shown image (loaded ∷ kept) (said ∷ others) are = ap₂ (λ (a b : List ℕ). a ++ b) (addresses_shown image loaded said are.0) (all_addresses_shown image kept others are.1)

pub collides_is : (image : Image) (kept : List shown.Loaded) (loaded : shown.Loaded) (said : List Loaded) (one : Loaded) → AreShown image kept said → IsLoadedFrom image loaded one
    → (repeats (claims_of_all (addresses_of one)) || overlap (claims_of_all (addresses_of_all said)) (claims_of_all (addresses_of one))) ≡ collides kept loaded
collides_is image kept loaded said one are is =
    let mine : claims_of_all (addresses_of one) ≡ all_claims loaded = ap claims_of_all (addresses_shown image loaded one is) ∙ words-claims loaded in
    let theirs : claims_of_all (addresses_of_all said) ≡ claims_of_loaded kept = ap claims_of_all (all_addresses_shown image kept said are) ∙ all-claims kept in
    ap₂ (λ (a b : Bool). a || b) (ap repeats mine ∙ all_once image loaded is.node is.loads) (ap₂ overlap theirs mine)
