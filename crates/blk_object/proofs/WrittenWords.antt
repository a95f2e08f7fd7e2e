-- The words of an object whose stream is written: that it can be, and in which order they are then.
use Rattle.std.proofs.Common.{◌≡◌, ◌≢◌, ⊎_elim, ℕ, zero, suc, ◌+◌, ◌*◌, ◌<◌, ◌≤◌, List, [], ◌∷◌, ◌++◌, length, refl, ap, ap₂, sym, ◌∙◌, subst, arith, append_assoc, Bool, true, false, Option, Some, None}
use Rattle.std.specs.Prelude.{◌==◌, ◌&&◌, ◌||◌, filter, is_some, not, slice_index, if◌then◌else◌}
use Rattle.std.specs.List.{flat_map, filter_map, cons_option}
use Rattle.std.specs.List.Sorted.{IsPermutation}
use Rattle.std.proofs.lemmas.Bool.{and_parts, cases_Bool, eq-eqb, eqb-true, or_left, or_right}
use Rattle.std.proofs.lemmas.Grind.{flat_map-append}
use Rattle.std.proofs.lemmas.List.Elements.{filter-append}
use Rattle.std.proofs.lemmas.List.Sorted.{IsPermutation-append_right, IsPermutation-trans}
use Rattle.spec_image.specs.Bytes.{words_at}
use Rattle.spec_image.specs.Image.{AreBytes, Image}
use Rattle.blk_model.specs.Room.{items}
use Rattle.blk_model.specs.Sizes.{most_items}
use Rattle.blk_model.specs.State.{State}
use Rattle.spec_format.specs.Address.{blocks_256, external, file_selector, is_block_kind, kind_of}
use Rattle.spec_format.specs.BlockFiles.{is_among, linked_as, stands_in}
use Rattle.spec_format.specs.Claims.{Claim, claims_of, claims_of_all, has_claim, is_in_file, repeats}
use Rattle.spec_format.specs.Records.{entry_in}
use Rattle.spec_format.specs.Standing.{is_linked_as, stands_as_blocks}
use Rattle.spec_format.specs.Storage.{kind_for}
use Rattle.spec_format.proofs.Among.{is_among-append}
use Rattle.spec_folder.specs.Layout.{Layout}
use Rattle.spec_folder.specs.Loads.{Loaded}
use Rattle.spec_folder.specs.Sound.{words_of}
use Rattle.spec_folder.specs.View.{entry_at}
use Rattle.law_folder.proofs.chains.ChainWords.{record_checks}
use Rattle.law_folder.proofs.claims.Allocations.{repeats-head}
use Rattle.law_folder.proofs.claims.ByteChanges.{stands-blocks, stands-some}
use Rattle.law_folder.proofs.claims.ClaimLists.{claim-append, repeats-append}
use Rattle.law_folder.proofs.states.Laid.{repeats-tail}
use Rattle.law_folder.proofs.states.Marking.{repeats-apart}
use Rattle.law_folder.proofs.updates.StillShown.{standing-parts}
use Rattle.blk_disk.specs.declared.tables.BlockFiles.{BlockFiles}
use Rattle.blk_disk.specs.Tables.{Agrees}
use Rattle.blk_stream.specs.Freeing.{MayBeFreed}
use Rattle.blk_stream.specs.Streams.{address_word}
use Rattle.blk_stream.specs.Written.{CanBeWritten, places_of_entry}
use Rattle.blk_stream.proofs.Placed.{blocks_are}
use Rattle.law_state.specs.Keeping.{KeepsUncounted, all_loaded, all_nodes, words_in_use}
use Rattle.law_state.proofs.Bounds.{leave-room}
use Rattle.law_state.proofs.Touched.{to-front}
use Rattle.blk_object.proofs.KeptAllocating.{files-counted}
use Rattle.blk_object.proofs.KeptFreeNumbers.{kept-have-free}
use Rattle.blk_object.proofs.WrittenItems.{its-address, kind, other-address, record-once, says, stands-so}

-- ---- what is among words

among-filter : (p : ℕ → Bool) (xs : List ℕ) (w : ℕ) → p w ≡ true → is_among xs w ≡ true → is_among (filter p xs) w ≡ true
among-filter p [] w e h = h
among-filter p (x ∷ xs) w e h = ⊎_elim
    (λ (t : (x == w) ≡ true). let same : x ≡ w = eqb-true x w t in let in_it : p x ≡ true = ap p same ∙ e in rw in_it (or_left (x == w) (is_among (filter p xs) w) t))
    (λ (t : (x == w) ≡ false). let rest = among-filter p xs w e (let z : ((x == w) || is_among xs w) ≡ true = h in rw t at z) in go (p x) rest)
    (cases_Bool (x == w))
  where
    go : (b : Bool) → is_among (filter p xs) w ≡ true → is_among (if b then x ∷ filter p xs else filter p xs) w ≡ true
    go true rest = or_right (x == w) (is_among (filter p xs) w) rest
    go false rest = rest

index-among : (xs : List ℕ) (m : ℕ) → slice_index xs m ≢ 0 → is_among xs (slice_index xs m) ≡ true
index-among [] m some = absurd (some refl)
index-among (x ∷ xs) zero some = or_left (x == x) (is_among xs x) (eq-eqb x x refl)
index-among (x ∷ xs) (suc m) some = or_right (x == slice_index xs m) (is_among xs (slice_index xs m)) (index-among xs m some)

among-loaded : (at : ℕ → Option Loaded) (nodes : List ℕ) (node w : ℕ) (l : Loaded) → is_among nodes node ≡ true → at node ≡ Some l → is_among (words_of l) w ≡ true → is_among (flat_map words_of (filter_map at nodes)) w ≡ true
among-loaded at [] node w l among is h = absurd (let z : false ≡ true = among in cc)
among-loaded at (x ∷ nodes) node w l among is h = ⊎_elim
    (λ (t : (x == node) ≡ true).
    let here : at x ≡ Some l = ap at (eqb-true x node t) ∙ is in
    ap (λ (o : Option Loaded). is_among (flat_map words_of (cons_option o (filter_map at nodes))) w) here
    ∙ is_among-append (words_of l) (flat_map words_of (filter_map at nodes)) w ∙ or_left (is_among (words_of l) w) _ h)
    (λ (t : (x == node) ≡ false).
    let rest = among-loaded at nodes node w l (let z : ((x == node) || is_among nodes node) ≡ true = among in rw t at z) is h in
    go (at x) rest)
    (cases_Bool (x == node))
  where
    go : (o : Option Loaded) → is_among (flat_map words_of (filter_map at nodes)) w ≡ true → is_among (flat_map words_of (cons_option o (filter_map at nodes))) w ≡ true
    go None rest = rest
    go (Some m) rest = is_among-append (words_of m) (flat_map words_of (filter_map at nodes)) w ∙ or_right (is_among (words_of m) w) _ rest

few-words : (i u : ℕ) → i ≤ 131072 → u ≤ 2 → 5 * i + u < 268435455
few-words i u few room = omega (arith, few, room)

-- the four address words of a record
pub four-words : (image : Image) (w : ℕ) → (entry_at image w).data_addr ≡ address_word image w 0 ∷ address_word image w 1 ∷ address_word image w 2 ∷ address_word image w 3 ∷ []
unfolding words_at entry_in
four-words image w = refl

-- a file of which blocks are valid is linked
linked-is : (image : Image) (w : ℕ) → stands_in image w ≡ true → kind_of w ≢ external → is_some (linked_as image (file_selector w)) ≡ true
unfolding stands_as_blocks
linked-is image w st blocks = go (linked_as image (file_selector w)) (and_parts (is_linked_as (linked_as image (file_selector w)) (kind_of w)) _ (and_parts (is_linked_as (linked_as image (file_selector w)) (kind_of w) && _) _ (stands-blocks image w st blocks)).0).0 where
  go : (o : Option ℕ) → is_linked_as o (kind_of w) ≡ true → is_some o ≡ true
  go None e = absurd (let z : false ≡ true = e in cc)
  go (Some k) e = refl

module _ (state : State) (layout : Layout) (unlinked : List ℕ) (from : Image) (k : KeepsUncounted state layout unlinked from) (node : ℕ) (was : Loaded) (lies : layout.at node ≡ Some was) where
  -- the words of its record, in their order
  pub others-are : was.others ≡ (entry_at from was.contents).long_key ∷ address_word from was.contents 0 ∷ address_word from was.contents 1 ∷ address_word from was.contents 2 ∷ address_word from was.contents 3 ∷ []
  others-are = (says state layout unlinked from k node was lies).others ∙ ap (λ (ws : List ℕ). (entry_at from was.contents).long_key ∷ ws) (four-words from was.contents)

-- the words of what lies at one of its nodes are in use
module _ (state : State) (layout : Layout) (unlinked : List ℕ) (from : Image) (k : KeepsUncounted state layout unlinked from) (node : ℕ) (was : Loaded) (lies : layout.at node ≡ Some was) (node-among : is_among (all_nodes state layout k.numbers) node ≡ true) where
  in-use : (w : ℕ) → w ≢ 0 → is_among (was.node ∷ was.contents ∷ was.others) w ≡ true → is_among (words_in_use unlinked (all_loaded state layout k.numbers)) w ≡ true
  in-use w some among =
      let nonzero : not (w == 0) ≡ true = ⊎_elim (λ (e : (w == 0) ≡ true). absurd (some (eqb-true w 0 e))) (λ (e : (w == 0) ≡ false). ap not e) (cases_Bool (w == 0)) in
      is_among-append unlinked (flat_map words_of (all_loaded state layout k.numbers)) w
      ∙ or_right (is_among unlinked w) _ (among-loaded layout.at (all_nodes state layout k.numbers) node w was node-among lies (among-filter (λ x. not (x == 0)) (was.node ∷ was.contents ∷ was.others) w nonzero among))

  -- so what it names may be freed
  may-be-freed : (w : ℕ) → w ≢ 0 → stands_in from w ≡ true → is_among (was.node ∷ was.contents ∷ was.others) w ≡ true → MayBeFreed w from
  unfolding is_in_file
  may-be-freed w some st among blocks =
      let mapped = k.files.mapped (file_selector w) (linked-is from w st blocks) in
      let apart : (kind_of w == external) ≡ false = ⊎_elim (λ (e : (kind_of w == external) ≡ true). absurd (blocks (eqb-true (kind_of w) external e))) (λ (e : (kind_of w == external) ≡ false). e) (cases_Bool (kind_of w == external)) in
      let its : is_in_file (file_selector w) w ≡ true = rw apart (eq-eqb (file_selector w) (file_selector w) refl) in
      record {
        allocated = record {
          words = filter (is_in_file (file_selector w)) (words_in_use unlinked (all_loaded state layout k.numbers));
          are = mapped.allocations;
          there = among-filter (is_in_file (file_selector w)) (words_in_use unlinked (all_loaded state layout k.numbers)) w its (in-use w some among);
        };
        empty = mapped.empty;
      }

  -- ---- it can be written

  entry-among : is_among (was.node ∷ was.contents ∷ was.others) was.contents ≡ true
  entry-among = or_right (was.node == was.contents) _ (or_left (was.contents == was.contents) _ (eq-eqb was.contents was.contents refl))

  address-among : (j : ℕ) → address_word from was.contents j ≢ 0 → is_among (was.node ∷ was.contents ∷ was.others) (address_word from was.contents j) ≡ true
  address-among j some =
      let its = its-address state layout unlinked from k node was lies j in
      let there : is_among was.others (address_word from was.contents j) ≡ true = subst (λ (w : ℕ). is_among was.others w ≡ true) its (index-among was.others (suc j) (λ e. some (sym its ∙ e))) in
      or_right (was.node == address_word from was.contents j) _ (or_right (was.contents == address_word from was.contents j) _ there)

  external-zero : kind_of 0 ≡ external
  unfolding kind_of
  external-zero = refl

  address-freed : (j : ℕ) → j < 3 → MayBeFreed (address_word from was.contents j) from
  address-freed j few blocks =
      let some : address_word from was.contents j ≢ 0 = λ e. blocks (ap kind_of e ∙ external-zero) in
      may-be-freed (address_word from was.contents j) some (other-address state layout unlinked from k node was lies j few some) (address-among j some) blocks

  entry-stands : stands_in from was.contents ≡ true
  entry-stands = (standing-parts from blocks_256 was.contents (stands-so state layout unlinked from k node was lies)).0

  places-freed : (w : ℕ) → is_among (places_of_entry was.contents from) w ≡ true → MayBeFreed w from
  places-freed w among = ⊎_elim
      (λ (e : (was.contents == w) ≡ true). subst (λ (x : ℕ). MayBeFreed x from) (eqb-true was.contents w e) (may-be-freed was.contents (stands-some from was.contents entry-stands) entry-stands entry-among))
      (λ (e : (was.contents == w) ≡ false). first (let z : ((was.contents == w) || is_among (address_word from was.contents 0 ∷ address_word from was.contents 1 ∷ address_word from was.contents 2 ∷ []) w) ≡ true = among in rw e at z))
      (cases_Bool (was.contents == w))
    where
      one : (j : ℕ) → j < 3 → (address_word from was.contents j == w) ≡ true → MayBeFreed w from
      one j few e = subst (λ (x : ℕ). MayBeFreed x from) (eqb-true (address_word from was.contents j) w e) (address-freed j few)

      third : ((address_word from was.contents 2 == w) || false) ≡ true → MayBeFreed w from
      third h = ⊎_elim (λ (e : (address_word from was.contents 2 == w) ≡ true). one 2 (omega arith) e) (λ (e : (address_word from was.contents 2 == w) ≡ false). absurd (let z : false ≡ true = rw e at h in cc)) (cases_Bool (address_word from was.contents 2 == w))

      second : ((address_word from was.contents 1 == w) || ((address_word from was.contents 2 == w) || false)) ≡ true → MayBeFreed w from
      second h = ⊎_elim (λ (e : (address_word from was.contents 1 == w) ≡ true). one 1 (omega arith) e) (λ (e : (address_word from was.contents 1 == w) ≡ false). third (rw e at h)) (cases_Bool (address_word from was.contents 1 == w))

      first : ((address_word from was.contents 0 == w) || ((address_word from was.contents 1 == w) || ((address_word from was.contents 2 == w) || false))) ≡ true → MayBeFreed w from
      first h = ⊎_elim (λ (e : (address_word from was.contents 0 == w) ≡ true). one 0 (omega arith) e) (λ (e : (address_word from was.contents 0 == w) ≡ false). second (rw e at h)) (cases_Bool (address_word from was.contents 0 == w))

  places-apart : repeats (claims_of_all (places_of_entry was.contents from)) ≡ false
  places-apart = repeats-append A B (repeats-head A (L ++ (B ++ D)) once) b-once
      (λ c mine its. let z : true ≡ false = sym (claim-append L (B ++ D) c ∙ or_right (has_claim L c) _ (claim-append B D c ∙ or_left (has_claim B c) _ its)) ∙ repeats-apart A (L ++ (B ++ D)) c once mine in cc)
    where
      A : List Claim
      A = claims_of was.contents

      L : List Claim
      L = claims_of (entry_at from was.contents).long_key

      B : List Claim
      B = claims_of_all (address_word from was.contents 0 ∷ address_word from was.contents 1 ∷ address_word from was.contents 2 ∷ [])

      D : List Claim
      D = claims_of_all (address_word from was.contents 3 ∷ [])

      once : repeats (A ++ (L ++ (B ++ D))) ≡ false
      once = subst (λ (cs : List Claim). repeats (A ++ (L ++ cs)) ≡ false) (flat_map-append claims_of (address_word from was.contents 0 ∷ address_word from was.contents 1 ∷ address_word from was.contents 2 ∷ []) (address_word from was.contents 3 ∷ []))
          (subst (λ (ws : List ℕ). repeats (A ++ claims_of_all ws) ≡ false) (others-are state layout unlinked from k node was lies) (record-once state layout unlinked from k node was lies))

      b-once : repeats B ≡ false
      b-once = repeats-head B D (repeats-tail L (B ++ D) (repeats-tail A (L ++ (B ++ D)) once))

  pub can-be-written : (files : BlockFiles) (i size : ℕ) → Agrees files from → AreBytes from → items state ≤ most_items → length unlinked ≤ 2 → CanBeWritten files was.contents i size from
  can-be-written files i size agrees bytes few room = record {
    checks = record_checks from was.contents bytes (kind state layout unlinked from k node was lies) (says state layout unlinked from k node was lies).checks;
    has = record { streams = was.streams; is = (says state layout unlinked from k node was lies).at };
    apart = places-apart;
    owned = places-freed;
    room = λ other some. record {
      counted = λ block. let is : is_block_kind (kind_for size) ≡ true = (blocks_are size some block).1.1.1 in files-counted files (kind_for size) from agrees is (leave-room state layout unlinked from (kind_for size) 0 k is (omega (arith, few)) (omega (arith, room)));
      free = λ _. kept-have-free state layout unlinked from k (few-words (items state) (length unlinked) few room);
    };
  }

-- ---- in which order the words are

abbrev pub nonzero : List ℕ → List ℕ
nonzero ws = filter (λ w. not (w == 0)) ws

split-word : (a : ℕ) (suf : List ℕ) → nonzero (a ∷ suf) ≡ nonzero (a ∷ []) ++ nonzero suf
split-word a suf = go (not (a == 0)) where
  go : (b : Bool) → (if b then a ∷ nonzero suf else nonzero suf) ≡ (if b then a ∷ [] else []) ++ nonzero suf
  go true = refl
  go false = refl

split-all : (pre suf : List ℕ) (a : ℕ) → nonzero (pre ++ a ∷ suf) ≡ nonzero pre ++ (nonzero (a ∷ []) ++ nonzero suf)
split-all pre suf a = filter-append (λ w. not (w == 0)) pre (a ∷ suf) ∙ ap (λ (ws : List ℕ). nonzero pre ++ ws) (split-word a suf)

exchanged : (N M O R : List ℕ) → IsPermutation (N ++ (M ++ (O ++ R))) (O ++ (M ++ (N ++ R)))
exchanged N M O R =
    IsPermutation-trans (N ++ (M ++ (O ++ R))) (N ++ (O ++ (M ++ R))) (O ++ (M ++ (N ++ R)))
    (IsPermutation-append_right N (M ++ (O ++ R)) (O ++ (M ++ R)) (to-front M O R))
    (IsPermutation-trans (N ++ (O ++ (M ++ R))) (O ++ (N ++ (M ++ R))) (O ++ (M ++ (N ++ R)))
    (to-front N O (M ++ R))
    (IsPermutation-append_right O (N ++ (M ++ R)) (M ++ (N ++ R)) (to-front N M R)))

-- a word for another, of which one was unlinked and the other is
word-exchanged : (pre suf U : List ℕ) (a b : ℕ) → IsPermutation ((nonzero (b ∷ []) ++ U) ++ nonzero (pre ++ a ∷ suf)) ((nonzero (a ∷ []) ++ U) ++ nonzero (pre ++ b ∷ suf))
word-exchanged pre suf U a b =
    subst (λ (xs : List ℕ). IsPermutation xs ((nonzero (a ∷ []) ++ U) ++ nonzero (pre ++ b ∷ suf))) (sym (grouped (nonzero (b ∷ [])) a))
    (subst (IsPermutation (nonzero (b ∷ []) ++ ((U ++ nonzero pre) ++ (nonzero (a ∷ []) ++ nonzero suf)))) (sym (grouped (nonzero (a ∷ [])) b))
    (exchanged (nonzero (b ∷ [])) (U ++ nonzero pre) (nonzero (a ∷ [])) (nonzero suf)))
  where
    grouped : (N : List ℕ) (x : ℕ) → (N ++ U) ++ nonzero (pre ++ x ∷ suf) ≡ N ++ ((U ++ nonzero pre) ++ (nonzero (x ∷ []) ++ nonzero suf))
    grouped N x = ap (λ (ws : List ℕ). (N ++ U) ++ ws) (split-all pre suf x) ∙ append_assoc N U (nonzero pre ++ (nonzero (x ∷ []) ++ nonzero suf)) ∙ ap (λ (ws : List ℕ). N ++ ws) (sym (append_assoc U (nonzero pre) (nonzero (x ∷ []) ++ nonzero suf)))

-- the words of an entry, of which one address has changed
module _ (node contents l e : ℕ) (f g : ℕ → ℕ) (U : List ℕ) where
  abbrev words : (ℕ → ℕ) → List ℕ
  words h = node ∷ contents ∷ l ∷ h 0 ∷ h 1 ∷ h 2 ∷ e ∷ []

  pub address-exchanged : (i : ℕ) → i < 3 → ((j : ℕ) → j < 3 → j ≢ i → g j ≡ f j) → IsPermutation ((nonzero (g i ∷ []) ++ U) ++ nonzero (node ∷ contents ∷ l ∷ f 0 ∷ f 1 ∷ f 2 ∷ e ∷ [])) ((nonzero (f i ∷ []) ++ U) ++ nonzero (node ∷ contents ∷ l ∷ g 0 ∷ g 1 ∷ g 2 ∷ e ∷ []))
  address-exchanged zero less same =
      subst (λ (ws : List ℕ). IsPermutation ((nonzero (g 0 ∷ []) ++ U) ++ nonzero (words f)) ((nonzero (f 0 ∷ []) ++ U) ++ nonzero ws)) (sym (ap₂ (λ (x y : ℕ). node ∷ contents ∷ l ∷ g 0 ∷ x ∷ y ∷ e ∷ []) (same 1 (omega arith) (λ h. omega (arith, h))) (same 2 (omega arith) (λ h. omega (arith, h)))))
      (word-exchanged (node ∷ contents ∷ l ∷ []) (f 1 ∷ f 2 ∷ e ∷ []) U (f 0) (g 0))
  address-exchanged (suc zero) less same =
      subst (λ (ws : List ℕ). IsPermutation ((nonzero (g 1 ∷ []) ++ U) ++ nonzero (words f)) ((nonzero (f 1 ∷ []) ++ U) ++ nonzero ws)) (sym (ap₂ (λ (x y : ℕ). node ∷ contents ∷ l ∷ x ∷ g 1 ∷ y ∷ e ∷ []) (same 0 (omega arith) (λ h. omega (arith, h))) (same 2 (omega arith) (λ h. omega (arith, h)))))
      (word-exchanged (node ∷ contents ∷ l ∷ f 0 ∷ []) (f 2 ∷ e ∷ []) U (f 1) (g 1))
  address-exchanged (suc (suc zero)) less same =
      subst (λ (ws : List ℕ). IsPermutation ((nonzero (g 2 ∷ []) ++ U) ++ nonzero (words f)) ((nonzero (f 2 ∷ []) ++ U) ++ nonzero ws)) (sym (ap₂ (λ (x y : ℕ). node ∷ contents ∷ l ∷ x ∷ y ∷ g 2 ∷ e ∷ []) (same 0 (omega arith) (λ h. omega (arith, h))) (same 1 (omega arith) (λ h. omega (arith, h)))))
      (word-exchanged (node ∷ contents ∷ l ∷ f 0 ∷ f 1 ∷ []) (e ∷ []) U (f 2) (g 2))
  address-exchanged (suc (suc (suc n))) less same = absurd (omega (arith, less))
