-- Blocks that are allocated are unlinked.
use Rattle.std.proofs.Common.{◌≡◌, ◌≢◌, ℕ, zero, suc, ◌+◌, ◌≤◌, List, [], ◌∷◌, map, refl, ap, sym, ◌∙◌, subst, ⊎_elim, Bool, true, false, Option, None, Some}
use Rattle.std.specs.Prelude.{◌||◌, ◌==◌, not, filter, is_some, if◌then◌else◌}
use Rattle.std.specs.List.{AllByRecursion, flat_map, range_with_len}
use Rattle.std.proofs.lemmas.Bool.{cases_Bool, cases_eq, eq-eqb, eqb-true, and_parts, or_left, or_right}
use Rattle.std.proofs.lemmas.List.Elements.{All-head}
use Rattle.blk_model.specs.State.{State}
use Rattle.spec_image.specs.Image.{Image, Block, has_file, length_of}
use Rattle.spec_format.specs.Address.{kind_of, block_count, block_place, external, external_number, file_selector, first_block}
use Rattle.spec_format.specs.BlockFiles.{linked_as, max_entries_in, stands_in}
use Rattle.spec_format.specs.Claims.{Claim, BlockOf, ExternalOf, claims_of, claims_of_all, has_claim, is_in_file}
use Rattle.spec_format.specs.Maps.{AreAllocations}
use Rattle.spec_folder.specs.Footprint.{AgreeBut, IsClear, IsFree, is_absent}
use Rattle.spec_folder.specs.Layout.{Layout, rule_of}
use Rattle.spec_folder.specs.Loads.{claims_of_loaded}
use Rattle.spec_folder.specs.Sound.{words_of}
use Rattle.spec_folder.specs.View.{store_of}
use Rattle.law_folder.proofs.claims.Allocations.{IsLoadedBy, all-stand, each-some, join, other-file, repeats-head, same-marks}
use Rattle.law_folder.proofs.claims.ByteChanges.{stands-linked, stands-same}
use Rattle.law_folder.proofs.claims.ClaimLists.{claim-append, no-claim, repeats-append}
use Rattle.law_folder.proofs.claims.Files.{growth-absent, growth-keeps, words-there}
use Rattle.law_folder.proofs.states.Marking.{repeats-apart}
use Rattle.law_folder.proofs.claims.Outside.{AreClear, clear-at}
use Rattle.law_folder.proofs.states.Standing.{claimed-exactly}
use Rattle.law_state.specs.Changes.{AddsAllocation}
use Rattle.law_state.specs.ChangeLaws.{AllocatedBlocksAreUnlinked}
use Rattle.law_state.specs.Keeping.{AllAreSealed, AreFiles, AreUnlinked, IsMapped, KeepsUncounted, all_loaded, all_nodes, words_in_use}
use Rattle.law_state.proofs.Free.{sealed-same, session-same, standing-at}
use Rattle.law_state.proofs.Keeping.{used-claims}

-- ---- what is in use

module _ (state : State) (layout : Layout) (unlinked : List ℕ) (from : Image) (k : KeepsUncounted state layout unlinked from) where
  abbrev pub used : List ℕ
  used = words_in_use unlinked (all_loaded state layout k.numbers)

  -- all words in use are valid
  pub used-stand : AllByRecursion (λ w. stands_in from w ≡ true) (words_in_use unlinked (all_loaded state layout k.numbers))
  used-stand = join (λ w. stands_in from w ≡ true) unlinked (flat_map words_of (all_loaded state layout k.numbers)) k.unlinked_words.stand
      (all-stand from (all_loaded state layout k.numbers) (each-some (IsLoadedBy (store_of from)) layout.at (λ w l is. (rule_of layout w, w, k.represents.holds.shows.each w l is)) (all_nodes state layout k.numbers)))

  -- what is owned is in use
  pub owned-used : (claim : Claim) (node : ℕ) → layout.owner claim ≡ Some node → has_claim (claims_of_all (words_in_use unlinked (all_loaded state layout k.numbers))) claim ≡ true
  owned-used claim node is =
      ap (λ (cs : List Claim). has_claim cs claim) (used-claims unlinked (all_loaded state layout k.numbers)) ∙ claim-append (claims_of_all unlinked) (claims_of_loaded (all_loaded state layout k.numbers)) claim
      ∙ or_right (has_claim (claims_of_all unlinked) claim) (has_claim (claims_of_loaded (all_loaded state layout k.numbers)) claim)
      (claimed-exactly layout k.represents.holds.lies.own k.represents.holds.lies.single state (map layout.place_of_doomed k.numbers) k.owners.exact claim ∙ ap (λ (o : Option ℕ). is_some o) is)

-- a word of blocks uses no external file
range-blocks : (f first count n : ℕ) → has_claim (map (λ b. BlockOf f b) (range_with_len first count)) (ExternalOf n) ≡ false
unfolding has_claim
range-blocks f first zero n = refl
range-blocks f first (suc count) n = range-blocks f (first + 1) count n

pub blocks-only : (w n : ℕ) → (kind_of w == external) ≡ false → has_claim (claims_of w) (ExternalOf n) ≡ false
unfolding claims_of
blocks-only w n apart = go (w == 0) (kind_of w == external) apart where
  go : (a b : Bool) → b ≡ false → has_claim (if a then [] else if b then ExternalOf (external_number w) ∷ [] else map (λ b. BlockOf (file_selector w) b) (range_with_len (first_block w) (block_count w))) (ExternalOf n) ≡ false
  go true b e = no-claim (ExternalOf n)
  go false true e = absurd (let z : true ≡ false = e in cc)
  go false false e = range-blocks (file_selector w) (first_block w) (block_count w) n

-- a word of blocks is in its file
pub its-file : (w : ℕ) → (kind_of w == external) ≡ false → is_in_file (file_selector w) w ≡ true
unfolding is_in_file
its-file w apart = rw apart (eq-eqb (file_selector w) (file_selector w) refl)

-- a word of blocks is in no other file
pub other-in : (w n : ℕ) → (kind_of w == external) ≡ false → n ≢ file_selector w → is_in_file n w ≡ false
unfolding is_in_file
other-in w n apart differs = rw apart (⊎_elim (λ (e : (file_selector w == n) ≡ true). absurd (differs (sym (eqb-true (file_selector w) n e)))) (λ (e : (file_selector w == n) ≡ false). e) (cases_Bool (file_selector w == n)))

pub apart-kind : (w : ℕ) → kind_of w ≢ external → (kind_of w == external) ≡ false
apart-kind w blocks = ⊎_elim (λ (e : (kind_of w == external) ≡ true). absurd (blocks (eqb-true (kind_of w) external e))) (λ (e : (kind_of w == external) ≡ false). e) (cases_Bool (kind_of w == external))

module _ (w : ℕ) (from image : Image) (a : AddsAllocation from w image) (state : State) (layout : Layout) (unlinked : List ℕ) (k : KeepsUncounted state layout unlinked from) where
  words : List ℕ
  words = used state layout unlinked from k

  agree : AgreeBut (is_absent from) from image
  agree = growth-absent from image a.grown

  apart : (kind_of w == external) ≡ false
  apart = apart-kind w a.block_kind

  -- no word is in a file that isn't linked
  none-in : (ws : List ℕ) → AllByRecursion (λ v. stands_in from v ≡ true) ws → is_some (linked_as from (file_selector w)) ≡ false → filter (is_in_file (file_selector w)) ws ≡ []
  unfolding is_in_file
  none-in [] all e = refl
  none-in (v ∷ ws) all e = ⊎_elim
      (λ (t : is_in_file (file_selector w) v ≡ true).
      let parts = and_parts (not (kind_of v == external)) (file_selector v == file_selector w) t in
      let blocks : kind_of v ≢ external = λ is. (let z : true ≡ false = sym parts.0 ∙ ap not (eq-eqb (kind_of v) external is) in cc) in
      let linked : is_some (linked_as from (file_selector w)) ≡ true = ap (λ n. is_some (linked_as from n)) (sym (eqb-true (file_selector v) (file_selector w) parts.1)) ∙ ap (λ (o : Option ℕ). is_some o) (stands-linked from v all.0 blocks) in
      absurd (let z : true ≡ false = sym linked ∙ e in cc))
      (λ (t : is_in_file (file_selector w) v ≡ false). rw t (none-in ws all.1 e))
      (cases_Bool (is_in_file (file_selector w) v))

  -- the allocations of its file
  here : AreAllocations image (file_selector w) (w ∷ filter (is_in_file (file_selector w)) (words_in_use unlinked (all_loaded state layout k.numbers)))
  here = ⊎_elim
      (λ (e : is_some (linked_as from (file_selector w)) ≡ true). a.allocations e _ (k.files.mapped (file_selector w) e).allocations)
      (λ (e : is_some (linked_as from (file_selector w)) ≡ false). subst (λ (ws : List ℕ). AreAllocations image (file_selector w) (w ∷ ws)) (sym (none-in _ (used-stand state layout unlinked from k) e)) (a.fresh e))
      (cases_Bool (is_some (linked_as from (file_selector w))))

  w-stands : stands_in image w ≡ true
  w-stands = All-head (λ v. stands_in image v ≡ true) w _ here.stand

  -- what is allocated had no owner
  fresh : (claim : Claim) → has_claim (claims_of w) claim ≡ true → has_claim (claims_of_all (words_in_use unlinked (all_loaded state layout k.numbers))) claim ≡ false
  fresh (ExternalOf n) e = absurd (let z : true ≡ false = sym e ∙ blocks-only w n apart in cc)
  fresh (BlockOf n b) e = ⊎_elim
      (λ (is : n ≡ file_selector w). subst (λ (m : ℕ). has_claim (claims_of_all (words_in_use unlinked (all_loaded state layout k.numbers))) (BlockOf m b) ≡ false) (sym is)
      (sym (same-marks (file_selector w) b _) ∙ repeats-apart (claims_of w) (claims_of_all (filter (is_in_file (file_selector w)) (words_in_use unlinked (all_loaded state layout k.numbers)))) (BlockOf (file_selector w) b) here.apart (subst (λ (m : ℕ). has_claim (claims_of w) (BlockOf m b) ≡ true) is e)))
      (λ (differs : n ≢ file_selector w). absurd (let z : true ≡ false = sym e ∙ other-file n b w (other-in w n apart differs) in cc))
      (cases_eq n (file_selector w))

  mapped : (n : ℕ) → is_some (linked_as image n) ≡ true → IsMapped image (w ∷ words_in_use unlinked (all_loaded state layout k.numbers)) n
  mapped n linked = ⊎_elim
      (λ (e : n ≡ file_selector w). subst (IsMapped image (w ∷ words_in_use unlinked (all_loaded state layout k.numbers))) (sym e) (record {
        allocations = rw (its-file w apart) here;
        empty = a.empty;
        updating = a.updating;
      }))
      (λ (differs : n ≢ file_selector w).
      let stays = a.elsewhere n differs in
      let was : is_some (linked_as from n) ≡ true = ap (λ (o : Option ℕ). is_some o) (sym stays.extent.linked) ∙ linked in
      let m = stays.mapped _ was (k.files.mapped n was) in
      record { allocations = rw (other-in w n apart differs) m.allocations; empty = m.empty; updating = m.updating })
      (cases_eq n (file_selector w))

  file-linked : linked_as image (file_selector w) ≡ Some (kind_of w)
  file-linked = stands-linked image w w-stands a.block_kind

  files : AreFiles image (w ∷ words_in_use unlinked (all_loaded state layout k.numbers))
  files = record {
    mapped = mapped;
    externals = λ n small. ap (λ (o : Option (List ℕ)). is_some o) (a.grown.externals n) ∙ k.files.externals n small
        ∙ sym (claim-append (claims_of w) (claims_of_all (words_in_use unlinked (all_loaded state layout k.numbers))) (ExternalOf n) ∙ rw (blocks-only w n apart) refl);
    only_linked = λ n small. ⊎_elim
        (λ (e : n ≡ file_selector w). subst (λ (m : ℕ). has_file image (Block m) ≡ is_some (linked_as image m)) (sym e) (a.there ∙ ap (λ (o : Option ℕ). is_some o) (sym file-linked)))
        (λ (differs : n ≢ file_selector w). let stays = a.elsewhere n differs in stays.extent.there ∙ k.files.only_linked n small ∙ ap (λ (o : Option ℕ). is_some o) (sym stays.extent.linked))
        (cases_eq n (file_selector w));
    long_enough = λ n kind linked. ⊎_elim
        (λ (e : n ≡ file_selector w). subst (λ (m : ℕ). block_place kind (max_entries_in image m) ≤ length_of image (Block m)) (sym e)
        (subst (λ (q : ℕ). block_place q (max_entries_in image (file_selector w)) ≤ length_of image (Block (file_selector w))) (its-kind (sym file-linked ∙ subst (λ (m : ℕ). linked_as image m ≡ Some kind) e linked)) a.long_enough))
        (λ (differs : n ≢ file_selector w).
        let stays = a.elsewhere n differs in
        subst (λ (l : ℕ). block_place kind (max_entries_in image n) ≤ l) (sym stays.extent.length)
        (subst (λ (q : ℕ). block_place kind q ≤ length_of from (Block n)) (sym stays.extent.blocks) (k.files.long_enough n kind (sym stays.extent.linked ∙ linked))))
        (cases_eq n (file_selector w));
  } where
    its-kind : {p q : ℕ} → Some p ≡ Some q → p ≡ q
    its-kind e = cc

  clear-word : (v : ℕ) → stands_in from v ≡ true → IsClear (is_absent from) v
  clear-word v st claim e = words-there from (v ∷ []) claim (st, tt) (claim-append (claims_of v) [] claim ∙ or_left (has_claim (claims_of v) claim) (has_claim [] claim) e)

  still : (ws : List ℕ) → AllByRecursion (λ v. stands_in from v ≡ true) ws → AllByRecursion (λ v. stands_in image v ≡ true) ws
  still [] all = tt
  still (v ∷ ws) all = (stands-same (is_absent from) from image agree v (clear-word v all.0) ∙ all.0, still ws all.1)

  in-use : (c : Claim) → has_claim (claims_of_all unlinked) c ≡ true → has_claim (claims_of_all (words_in_use unlinked (all_loaded state layout k.numbers))) c ≡ true
  in-use c e = ap (λ (cs : List Claim). has_claim cs c) (used-claims unlinked (all_loaded state layout k.numbers)) ∙ claim-append (claims_of_all unlinked) (claims_of_loaded (all_loaded state layout k.numbers)) c ∙ or_left (has_claim (claims_of_all unlinked) c) (has_claim (claims_of_loaded (all_loaded state layout k.numbers)) c) e

  nobody : (c : Claim) (o : Option ℕ) → layout.owner c ≡ o → has_claim (claims_of w) c ≡ true → layout.owner c ≡ None
  nobody c None is e = is
  nobody c (Some node) is e = absurd (let z : true ≡ false = sym (owned-used state layout unlinked from k c node is) ∙ fresh c e in cc)

  unlinked-now : AreUnlinked image layout (w ∷ unlinked)
  unlinked-now = record {
    stand = (w-stands, still unlinked k.unlinked_words.stand);
    free = λ claim e. by_parts claim (has_claim (claims_of w) claim) refl (sym (claim-append (claims_of w) (claims_of_all unlinked) claim) ∙ e);
    single = repeats-append (claims_of w) (claims_of_all unlinked) (repeats-head (claims_of w) _ here.apart) k.unlinked_words.single (λ c one other. let z : true ≡ false = sym (in-use c other) ∙ fresh c one in cc);
  } where
    by_parts : (c : Claim) (t : Bool) → has_claim (claims_of w) c ≡ t → (has_claim (claims_of w) c || has_claim (claims_of_all unlinked) c) ≡ true → layout.owner c ≡ None
    by_parts c true is e = nobody c (layout.owner c) refl is
    by_parts c false is e = k.unlinked_words.free c (rw is at e)

  free : IsFree (is_absent from) layout
  free claim node is = words-there from _ claim (used-stand state layout unlinked from k) (owned-used state layout unlinked from k claim node is)

  sealed : AllAreSealed image layout
  sealed node l at =
      let clear : AreClear (is_absent from) l = clear-at (is_absent from) state layout free k.represents.holds.lies node l at in
      sealed-same (is_absent from) from image agree l (standing-at from state layout k.represents node l at) clear.node clear.contents (k.sealed node l at)

  kept : KeepsUncounted state layout (w ∷ unlinked) image
  kept = record {
    valid = k.valid;
    sound = a.headers.sound k.sound;
    represents = growth-keeps from image state layout (map layout.place_of_doomed k.numbers) a.grown k.represents k.owners.exact;
    numbers = k.numbers;
    owners = k.owners;
    files = files;
    unlinked_words = unlinked-now;
    sealed = sealed;
    session = session-same from image state layout a.session k.session;
  }

pub allocated-unlinked : AllocatedBlocksAreUnlinked
allocated-unlinked w from image a state layout unlinked k = kept w from image a state layout unlinked k
