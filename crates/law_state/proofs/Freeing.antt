-- Unlinked blocks that are freed are in use no longer.
use Rattle.std.proofs.Common.{◌≡◌, ◌≢◌, ℕ, List, [], ◌∷◌, map, refl, ap, sym, ◌∙◌, subst, ⊎_elim, true, false, Option}
use Rattle.std.specs.Prelude.{◌==◌, ◌≤◌, not, filter, is_some}
use Rattle.std.specs.List.{AllByRecursion}
use Rattle.std.proofs.lemmas.Bool.{cases_Bool, cases_eq, eq-eqb, eqb-true, or_left, or_parts, or_right}
use Rattle.blk_model.specs.State.{State}
use Rattle.spec_image.specs.Image.{Image, Block, length_of}
use Rattle.spec_format.specs.Address.{kind_of, block_place, external, file_selector}
use Rattle.spec_format.specs.BlockFiles.{linked_as, max_entries_in, stands_in}
use Rattle.spec_format.specs.Claims.{Claim, ExternalOf, claims_of, claims_of_all, has_claim, is_in_file}
use Rattle.spec_format.specs.Maps.{AreAllocations}
use Rattle.spec_folder.specs.Footprint.{AgreeBut, IsClear, IsFree, is_absent}
use Rattle.spec_folder.specs.Layout.{Layout}
use Rattle.law_folder.proofs.claims.ByteChanges.{stands-same, stands-some}
use Rattle.law_folder.proofs.claims.ClaimLists.{claim-append, some-claim}
use Rattle.law_folder.proofs.claims.Files.{growth-absent, growth-keeps, words-there}
use Rattle.law_folder.proofs.states.Laid.{repeats-tail}
use Rattle.law_folder.proofs.states.Marking.{repeats-apart}
use Rattle.law_folder.proofs.claims.Outside.{AreClear, clear-at}
use Rattle.law_state.specs.Changes.{RemovesAllocation, SameExtent}
use Rattle.law_state.specs.ChangeLaws.{FreedBlocksAreGone}
use Rattle.law_state.specs.Keeping.{AllAreSealed, AreFiles, IsMapped, KeepsUncounted, all_loaded, words_in_use}
use Rattle.law_state.proofs.Allocating.{apart-kind, blocks-only, its-file, other-in, owned-used, used-stand}
use Rattle.law_state.proofs.Free.{sealed-same, session-same, standing-at}

-- a word whose used block is not among those of others is not among them
lacks : (w : ℕ) (c : Claim) (ws : List ℕ) → has_claim (claims_of w) c ≡ true → has_claim (claims_of_all ws) c ≡ false → filter (λ x. not (x == w)) ws ≡ ws
lacks w c [] has none = refl
lacks w c (x ∷ ws) has none =
    let parts = or_parts (has_claim (claims_of x) c) (has_claim (claims_of_all ws) c) (sym (claim-append (claims_of x) (claims_of_all ws) c) ∙ none) in
    ⊎_elim
    (λ (e : (x == w) ≡ true). absurd (let z : true ≡ false = sym has ∙ ap (λ (v : ℕ). has_claim (claims_of v) c) (sym (eqb-true x w e)) ∙ parts.0 in cc))
    (λ (e : (x == w) ≡ false). rw e (ap (λ (vs : List ℕ). x ∷ vs) (lacks w c ws has parts.1)))
    (cases_Bool (x == w))

module _ (w : ℕ) (from image : Image) (a : RemovesAllocation from w image) (others : List ℕ) (f : AreFiles from (w ∷ others)) (st : stands_in from w ≡ true) where
  apart : (kind_of w == external) ≡ false
  apart = apart-kind w a.block_kind

  pub agree : AgreeBut (is_absent from) from image
  agree = growth-absent from image a.grown

  -- the allocations of its file, this one first
  before : is_some (linked_as from (file_selector w)) ≡ true → AreAllocations from (file_selector w) (w ∷ filter (is_in_file (file_selector w)) others)
  before linked = let m = (f.mapped (file_selector w) linked).allocations in rw (its-file w apart) at m

  here : is_some (linked_as from (file_selector w)) ≡ true → AreAllocations image (file_selector w) (filter (is_in_file (file_selector w)) others)
  here linked =
      let c = some-claim w (stands-some from w st) in
      let none : has_claim (claims_of_all (filter (is_in_file (file_selector w)) others)) c.0 ≡ false = repeats-apart (claims_of w) (claims_of_all (filter (is_in_file (file_selector w)) others)) c.0 (before linked).apart c.1 in
      let left : filter (λ x. not (x == w)) (w ∷ filter (is_in_file (file_selector w)) others) ≡ filter (is_in_file (file_selector w)) others =
      rw (eq-eqb w w refl) (lacks w c.0 _ c.1 none) in
      subst (AreAllocations image (file_selector w)) left (a.allocations _ (before linked) (or_left (w == w) _ (eq-eqb w w refl)))

  mapped : (n : ℕ) → is_some (linked_as image n) ≡ true → IsMapped image others n
  mapped n linked = ⊎_elim
      (λ (e : n ≡ file_selector w).
      let was : is_some (linked_as from (file_selector w)) ≡ true = ap (λ (o : Option ℕ). is_some o) (sym a.extent.linked) ∙ subst (λ (m : ℕ). is_some (linked_as image m) ≡ true) e linked in
      subst (IsMapped image others) (sym e) (record { allocations = here was; empty = a.empty (f.mapped (file_selector w) was).empty; updating = a.updating }))
      (λ (differs : n ≢ file_selector w).
      let stays = a.elsewhere n differs in
      let was : is_some (linked_as from n) ≡ true = ap (λ (o : Option ℕ). is_some o) (sym stays.extent.linked) ∙ linked in
      let m = stays.mapped _ was (f.mapped n was) in
      record { allocations = (let h = m.allocations in rw (other-in w n apart differs) at h); empty = m.empty; updating = m.updating })
      (cases_eq n (file_selector w))

  extent : (n : ℕ) → SameExtent from image n
  extent n = ⊎_elim (λ (e : n ≡ file_selector w). subst (SameExtent from image) (sym e) a.extent) (λ (differs : n ≢ file_selector w). (a.elsewhere n differs).extent) (cases_eq n (file_selector w))

  pub files : AreFiles image others
  files = record {
    mapped = mapped;
    externals = λ n small. ap (λ (o : Option (List ℕ)). is_some o) (a.grown.externals n) ∙ f.externals n small
        ∙ claim-append (claims_of w) (claims_of_all others) (ExternalOf n) ∙ rw (blocks-only w n apart) refl;
    only_linked = λ n small. (extent n).there ∙ f.only_linked n small ∙ ap (λ (o : Option ℕ). is_some o) (sym (extent n).linked);
    long_enough = λ n kind linked.
        subst (λ (l : ℕ). block_place kind (max_entries_in image n) ≤ l) (sym (extent n).length)
        (subst (λ (q : ℕ). block_place kind q ≤ length_of from (Block n)) (sym (extent n).blocks) (f.long_enough n kind (sym (extent n).linked ∙ linked)));
  }

  clear-word : (v : ℕ) → stands_in from v ≡ true → IsClear (is_absent from) v
  clear-word v st claim e = words-there from (v ∷ []) claim (st, tt) (claim-append (claims_of v) [] claim ∙ or_left (has_claim (claims_of v) claim) (has_claim [] claim) e)

  pub still : (ws : List ℕ) → AllByRecursion (λ v. stands_in from v ≡ true) ws → AllByRecursion (λ v. stands_in image v ≡ true) ws
  still [] all = tt
  still (v ∷ ws) all = (stands-same (is_absent from) from image agree v (clear-word v all.0) ∙ all.0, still ws all.1)

module _ (w : ℕ) (from image : Image) (a : RemovesAllocation from w image) (state : State) (layout : Layout) (unlinked : List ℕ) (k : KeepsUncounted state layout (w ∷ unlinked) from) where
  free : IsFree (is_absent from) layout
  free claim node is = words-there from (words_in_use (w ∷ unlinked) (all_loaded state layout k.numbers)) claim (used-stand state layout (w ∷ unlinked) from k) (owned-used state layout (w ∷ unlinked) from k claim node is)

  sealed : AllAreSealed image layout
  sealed node l at =
      let clear : AreClear (is_absent from) l = clear-at (is_absent from) state layout free k.represents.holds.lies node l at in
      sealed-same (is_absent from) from image (agree w from image a (words_in_use unlinked (all_loaded state layout k.numbers)) k.files k.unlinked_words.stand.0) l (standing-at from state layout k.represents node l at) clear.node clear.contents (k.sealed node l at)

  kept : KeepsUncounted state layout unlinked image
  kept = record {
    valid = k.valid;
    sound = a.headers.sound k.sound;
    represents = growth-keeps from image state layout (map layout.place_of_doomed k.numbers) a.grown k.represents k.owners.exact;
    numbers = k.numbers;
    owners = k.owners;
    files = files w from image a (words_in_use unlinked (all_loaded state layout k.numbers)) k.files k.unlinked_words.stand.0;
    unlinked_words = record {
      stand = still w from image a (words_in_use unlinked (all_loaded state layout k.numbers)) k.files k.unlinked_words.stand.0 unlinked k.unlinked_words.stand.1;
      free = λ claim e. k.unlinked_words.free claim (claim-append (claims_of w) (claims_of_all unlinked) claim ∙ or_right (has_claim (claims_of w) claim) (has_claim (claims_of_all unlinked) claim) e);
      single = repeats-tail (claims_of w) (claims_of_all unlinked) k.unlinked_words.single;
    };
    sealed = sealed;
    session = session-same from image state layout a.session k.session;
  }

pub freed-gone : FreedBlocksAreGone
freed-gone w from image a state layout unlinked k = kept w from image a state layout unlinked k
