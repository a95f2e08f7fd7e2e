-- An external file that is made is unlinked.
use Rattle.std.proofs.Common.{◌≡◌, ◌≢◌, ℕ, List, [], ◌∷◌, map, refl, ap, sym, ◌∙◌, subst, ⊎_elim, Bool, true, false, Option, None, Some}
use Rattle.std.specs.Prelude.{◌<◌, ◌^◌, ◌||◌, ◌==◌, ◌≤◌, is_some}
use Rattle.std.specs.List.{AllByRecursion}
use Rattle.std.proofs.lemmas.Bool.{cases_Bool, cases_eq, eq-eqb, eqb-true, or_left, or_right, or_from}
use Rattle.blk_model.specs.State.{State}
use Rattle.spec_image.specs.Image.{Image, Block, External, has_file, length_of}
use Rattle.spec_format.specs.Address.{kind_of, block_place, external, external_number}
use Rattle.spec_format.specs.BlockFiles.{linked_as, max_entries_in, stands_in}
use Rattle.spec_format.specs.Claims.{Claim, BlockOf, ExternalOf, claims_of, claims_of_all, has_claim, is_in_file, repeats, same_claim}
use Rattle.spec_folder.specs.Footprint.{IsFree}
use Rattle.spec_folder.specs.Layout.{Layout}
use Rattle.spec_folder.specs.Loads.{claims_of_loaded}
use Rattle.spec_folder.specs.View.{view_of}
use Rattle.law_folder.proofs.claims.ByteChanges.{agreeing-views, stands-same}
use Rattle.law_folder.proofs.claims.ClaimLists.{claim-append, claim-head, no-claim, repeats-append}
use Rattle.law_folder.proofs.states.Laid.{repeats-tail}
use Rattle.law_folder.proofs.states.Marking.{repeats-apart}
use Rattle.law_folder.proofs.states.Standing.{claimed-exactly}
use Rattle.law_folder.proofs.claims.Outside.{AreClear, clear-at, represents-outside}
use Rattle.law_state.specs.Changes.{AddsExternal, RemovesExternal}
use Rattle.law_state.specs.ChangeLaws.{DeletedFilesAreGone, MadeFilesAreUnlinked}
use Rattle.law_state.specs.Keeping.{AllAreSealed, AreFiles, AreUnlinked, IsMapped, KeepsUncounted, all_loaded, words_in_use}
use Rattle.law_state.proofs.Allocating.{owned-used}
use Rattle.law_state.proofs.Free.{sealed-same, session-same, standing-at}
use Rattle.law_state.proofs.Keeping.{used-claims}

-- a word of an external file uses its number alone
pub its-claims : (w : ℕ) → (w == 0) ≡ false → (kind_of w == external) ≡ true → claims_of w ≡ ExternalOf (external_number w) ∷ []
unfolding claims_of
its-claims w some kind = rw (some, kind) refl

no-file : (n w : ℕ) → (kind_of w == external) ≡ true → is_in_file n w ≡ false
unfolding is_in_file
no-file n w kind = rw kind refl

one-once : (c : Claim) → repeats (c ∷ []) ≡ false
unfolding repeats has_claim
one-once c = refl

or-false : (b : Bool) → (b || false) ≡ b
or-false true = refl
or-false false = refl

module _ (w : ℕ) (from image : Image) (a : AddsExternal from w image) (state : State) (layout : Layout) (unlinked : List ℕ) (k : KeepsUncounted state layout unlinked from) where
  abbrev touched : Claim → Bool
  touched claim = same_claim claim (ExternalOf (external_number w))

  -- what the word uses is the file
  claimed : (c : Claim) → has_claim (claims_of w) c ≡ touched c
  claimed c = ap (λ (cs : List Claim). has_claim cs c) (its-claims w a.some a.external_kind) ∙ claim-head (ExternalOf (external_number w)) [] c ∙ ap (λ (t : Bool). touched c || t) (no-claim c) ∙ or-false (touched c)

  -- the new number had no owner
  fresh : (c : Claim) → touched c ≡ true → has_claim (claims_of_all (words_in_use unlinked (all_loaded state layout k.numbers))) c ≡ false
  fresh (BlockOf n b) e = absurd (let z : false ≡ true = e in cc)
  fresh (ExternalOf m) e = subst (λ (x : ℕ). has_claim (claims_of_all (words_in_use unlinked (all_loaded state layout k.numbers))) (ExternalOf x) ≡ false) (sym (eqb-true m (external_number w) e)) (sym (k.files.externals (external_number w) a.small) ∙ a.absent)

  in-use : (c : Claim) → has_claim (claims_of_all unlinked) c ≡ true → has_claim (claims_of_all (words_in_use unlinked (all_loaded state layout k.numbers))) c ≡ true
  in-use c e = ap (λ (cs : List Claim). has_claim cs c) (used-claims unlinked (all_loaded state layout k.numbers)) ∙ claim-append (claims_of_all unlinked) (claims_of_loaded (all_loaded state layout k.numbers)) c ∙ or_left (has_claim (claims_of_all unlinked) c) (has_claim (claims_of_loaded (all_loaded state layout k.numbers)) c) e

  untouched : (c : Claim) → has_claim (claims_of_all (words_in_use unlinked (all_loaded state layout k.numbers))) c ≡ true → touched c ≡ false
  untouched c e = ⊎_elim (λ (t : touched c ≡ true). absurd (let z : true ≡ false = sym e ∙ fresh c t in cc)) (λ (t : touched c ≡ false). t) (cases_Bool (touched c))

  free : IsFree touched layout
  free claim node is = untouched claim (owned-used state layout unlinked from k claim node is)

  mapped : (n : ℕ) → is_some (linked_as image n) ≡ true → IsMapped image (w ∷ words_in_use unlinked (all_loaded state layout k.numbers)) n
  mapped n linked =
      let was : is_some (linked_as from n) ≡ true = ap (λ (o : Option ℕ). is_some o) (sym (a.blocks n).extent.linked) ∙ linked in
      let m = (a.blocks n).mapped (words_in_use unlinked (all_loaded state layout k.numbers)) was (k.files.mapped n was) in
      record { allocations = rw (no-file n w a.external_kind) m.allocations; empty = m.empty; updating = m.updating }

  externals : (m : ℕ) → m < 2 ^ 32 → has_file image (External m) ≡ has_claim (claims_of_all (w ∷ words_in_use unlinked (all_loaded state layout k.numbers))) (ExternalOf m)
  externals m small = ⊎_elim
      (λ (e : m ≡ external_number w). subst (λ (x : ℕ). has_file image (External x) ≡ true) (sym e) a.there
      ∙ sym (claim-append (claims_of w) (claims_of_all (words_in_use unlinked (all_loaded state layout k.numbers))) (ExternalOf m) ∙ or_left (has_claim (claims_of w) (ExternalOf m)) (has_claim (claims_of_all (words_in_use unlinked (all_loaded state layout k.numbers))) (ExternalOf m)) (claimed (ExternalOf m) ∙ eq-eqb m (external_number w) e)))
      (λ (differs : m ≢ external_number w). a.others m differs ∙ k.files.externals m small
      ∙ sym (claim-append (claims_of w) (claims_of_all (words_in_use unlinked (all_loaded state layout k.numbers))) (ExternalOf m) ∙ ap (λ (t : Bool). t || has_claim (claims_of_all (words_in_use unlinked (all_loaded state layout k.numbers))) (ExternalOf m)) (claimed (ExternalOf m) ∙ other m differs)))
      (cases_eq m (external_number w))
    where
      other : (m : ℕ) → m ≢ external_number w → (m == external_number w) ≡ false
      other m differs = ⊎_elim (λ (e : (m == external_number w) ≡ true). absurd (differs (eqb-true m (external_number w) e))) (λ (e : (m == external_number w) ≡ false). e) (cases_Bool (m == external_number w))

  files : AreFiles image (w ∷ words_in_use unlinked (all_loaded state layout k.numbers))
  files = record {
    mapped = mapped;
    externals = externals;
    only_linked = λ n small. (a.blocks n).extent.there ∙ k.files.only_linked n small ∙ ap (λ (o : Option ℕ). is_some o) (sym (a.blocks n).extent.linked);
    long_enough = λ n kind linked.
        subst (λ (l : ℕ). block_place kind (max_entries_in image n) ≤ l) (sym (a.blocks n).extent.length)
        (subst (λ (q : ℕ). block_place kind q ≤ length_of from (Block n)) (sym (a.blocks n).extent.blocks) (k.files.long_enough n kind (sym (a.blocks n).extent.linked ∙ linked)));
  }

  still : (ws : List ℕ) → ((c : Claim) → has_claim (claims_of_all ws) c ≡ true → touched c ≡ false) → AllByRecursion (λ v. stands_in from v ≡ true) ws → AllByRecursion (λ v. stands_in image v ≡ true) ws
  still [] clear all = tt
  still (v ∷ ws) clear all = (
    stands-same touched from image a.agree v (λ c e. clear c (claim-append (claims_of v) (claims_of_all ws) c ∙ or_left (has_claim (claims_of v) c) (has_claim (claims_of_all ws) c) e)) ∙ all.0,
    still ws (λ c e. clear c (claim-append (claims_of v) (claims_of_all ws) c ∙ or_right (has_claim (claims_of v) c) (has_claim (claims_of_all ws) c) e)) all.1,
  )

  nobody : (c : Claim) (o : Option ℕ) → layout.owner c ≡ o → touched c ≡ true → layout.owner c ≡ None
  nobody c None is e = is
  nobody c (Some node) is e = absurd (let z : true ≡ false = sym e ∙ free c node is in cc)

  unlinked-now : AreUnlinked image layout (w ∷ unlinked)
  unlinked-now = record {
    stand = (a.stands, still unlinked (λ c e. untouched c (in-use c e)) k.unlinked_words.stand);
    free = λ claim e. by_parts claim (touched claim) refl (ap (λ (t : Bool). t || has_claim (claims_of_all unlinked) claim) (sym (claimed claim)) ∙ sym (claim-append (claims_of w) (claims_of_all unlinked) claim) ∙ e);
    single = repeats-append (claims_of w) (claims_of_all unlinked) (ap repeats (its-claims w a.some a.external_kind) ∙ one-once (ExternalOf (external_number w))) k.unlinked_words.single
        (λ c one other. let z : true ≡ false = sym (in-use c other) ∙ fresh c (sym (claimed c) ∙ one) in cc);
  } where
    by_parts : (c : Claim) (t : Bool) → touched c ≡ t → (touched c || has_claim (claims_of_all unlinked) c) ≡ true → layout.owner c ≡ None
    by_parts c true is e = nobody c (layout.owner c) refl is
    by_parts c false is e = k.unlinked_words.free c (rw is at e)

  sealed : AllAreSealed image layout
  sealed node l at =
      let clear : AreClear touched l = clear-at touched state layout free k.represents.holds.lies node l at in
      sealed-same touched from image a.agree l (standing-at from state layout k.represents node l at) clear.node clear.contents (k.sealed node l at)

  kept : KeepsUncounted state layout (w ∷ unlinked) image
  kept = record {
    valid = k.valid;
    sound = a.headers.sound k.sound;
    represents = represents-outside touched (view_of from) (view_of image) state layout (agreeing-views touched from image a.agree) free k.represents;
    numbers = k.numbers;
    owners = k.owners;
    files = files;
    unlinked_words = unlinked-now;
    sealed = sealed;
    session = session-same from image state layout a.session k.session;
  }

pub made-unlinked : MadeFilesAreUnlinked
made-unlinked w from image a state layout unlinked k = kept w from image a state layout unlinked k

-- ---- and deleted

module _ (w : ℕ) (from image : Image) (a : RemovesExternal from w image) where
  abbrev pub gone : Claim → Bool
  gone claim = same_claim claim (ExternalOf (external_number w))

  pub claims-it : (c : Claim) → has_claim (claims_of w) c ≡ gone c
  claims-it c = ap (λ (cs : List Claim). has_claim cs c) (its-claims w a.some a.external_kind) ∙ claim-head (ExternalOf (external_number w)) [] c ∙ ap (λ (t : Bool). gone c || t) (no-claim c) ∙ or-false (gone c)

  module _ (others : List ℕ) (f : AreFiles from (w ∷ others)) (alone : (c : Claim) → same_claim c (ExternalOf (external_number w)) ≡ true → has_claim (claims_of_all others) c ≡ false) where
    left-mapped : (n : ℕ) → is_some (linked_as image n) ≡ true → IsMapped image others n
    left-mapped n linked =
        let was : is_some (linked_as from n) ≡ true = ap (λ (o : Option ℕ). is_some o) (sym (a.blocks n).extent.linked) ∙ linked in
        let m = (a.blocks n).mapped (w ∷ others) was (f.mapped n was) in
        record { allocations = (let h = m.allocations in rw (no-file n w a.external_kind) at h); empty = m.empty; updating = m.updating }

    left-externals : (m : ℕ) → m < 2 ^ 32 → has_file image (External m) ≡ has_claim (claims_of_all others) (ExternalOf m)
    left-externals m small = ⊎_elim
        (λ (e : m ≡ external_number w). subst (λ (x : ℕ). has_file image (External x) ≡ false) (sym e) a.gone ∙ sym (alone (ExternalOf m) (eq-eqb m (external_number w) e)))
        (λ (differs : m ≢ external_number w). a.others m differs ∙ f.externals m small
        ∙ claim-append (claims_of w) (claims_of_all others) (ExternalOf m) ∙ ap (λ (t : Bool). t || has_claim (claims_of_all others) (ExternalOf m)) (claims-it (ExternalOf m) ∙ another m differs))
        (cases_eq m (external_number w))
      where
        another : (m : ℕ) → m ≢ external_number w → (m == external_number w) ≡ false
        another m differs = ⊎_elim (λ (e : (m == external_number w) ≡ true). absurd (differs (eqb-true m (external_number w) e))) (λ (e : (m == external_number w) ≡ false). e) (cases_Bool (m == external_number w))

    pub left-files : AreFiles image others
    left-files = record {
      mapped = left-mapped;
      externals = left-externals;
      only_linked = λ n small. (a.blocks n).extent.there ∙ f.only_linked n small ∙ ap (λ (o : Option ℕ). is_some o) (sym (a.blocks n).extent.linked);
      long_enough = λ n kind linked.
          subst (λ (l : ℕ). block_place kind (max_entries_in image n) ≤ l) (sym (a.blocks n).extent.length)
          (subst (λ (q : ℕ). block_place kind q ≤ length_of from (Block n)) (sym (a.blocks n).extent.blocks) (f.long_enough n kind (sym (a.blocks n).extent.linked ∙ linked)));
    }

  pub left-stand : (ws : List ℕ) → ((c : Claim) → has_claim (claims_of_all ws) c ≡ true → gone c ≡ false) → AllByRecursion (λ v. stands_in from v ≡ true) ws → AllByRecursion (λ v. stands_in image v ≡ true) ws
  left-stand [] clear all = tt
  left-stand (v ∷ ws) clear all = (
    stands-same gone from image a.agree v (λ c e. clear c (claim-append (claims_of v) (claims_of_all ws) c ∙ or_left (has_claim (claims_of v) c) (has_claim (claims_of_all ws) c) e)) ∙ all.0,
    left-stand ws (λ c e. clear c (claim-append (claims_of v) (claims_of_all ws) c ∙ or_right (has_claim (claims_of v) c) (has_claim (claims_of_all ws) c) e)) all.1,
  )

module _ (w : ℕ) (from image : Image) (a : RemovesExternal from w image) (state : State) (layout : Layout) (unlinked : List ℕ) (k : KeepsUncounted state layout (w ∷ unlinked) from) where
  abbrev its_file : Claim → Bool
  its_file claim = same_claim claim (ExternalOf (external_number w))

  -- the file has no owner
  gone-free : IsFree its_file layout
  gone-free claim node is = ⊎_elim
      (λ (e : its_file claim ≡ true).
      let none = k.unlinked_words.free claim (claim-append (claims_of w) (claims_of_all unlinked) claim ∙ or_left (has_claim (claims_of w) claim) (has_claim (claims_of_all unlinked) claim) (claims-it w from image a claim ∙ e)) in
      absurd (let c : ◌≡◌ {A = Option ℕ} None (Some node) = sym none ∙ is in cc))
      (λ (e : its_file claim ≡ false). e)
      (cases_Bool (its_file claim))

  gone-alone : (c : Claim) → has_claim (claims_of_all unlinked) c ≡ true → its_file c ≡ false
  gone-alone c e = ⊎_elim
      (λ (t : its_file c ≡ true). absurd (let z : true ≡ false = sym e ∙ repeats-apart (claims_of w) (claims_of_all unlinked) c k.unlinked_words.single (claims-it w from image a c ∙ t) in cc))
      (λ (t : its_file c ≡ false). t)
      (cases_Bool (its_file c))

  -- and no other word in use uses it
  left-free : (c : Claim) → its_file c ≡ true → has_claim (claims_of_all (words_in_use unlinked (all_loaded state layout k.numbers))) c ≡ false
  left-free c e = ap (λ (cs : List Claim). has_claim cs c) (used-claims unlinked (all_loaded state layout k.numbers)) ∙ claim-append (claims_of_all unlinked) (claims_of_loaded (all_loaded state layout k.numbers)) c
      ∙ or_from (has_claim (claims_of_all unlinked) c) (has_claim (claims_of_loaded (all_loaded state layout k.numbers)) c)
      (⊎_elim (λ (t : has_claim (claims_of_all unlinked) c ≡ true). absurd (let z : true ≡ false = sym e ∙ gone-alone c t in cc)) (λ (t : has_claim (claims_of_all unlinked) c ≡ false). t) (cases_Bool (has_claim (claims_of_all unlinked) c)))
      (claimed-exactly layout k.represents.holds.lies.own k.represents.holds.lies.single state (map layout.place_of_doomed k.numbers) k.owners.exact c
      ∙ ap (λ (o : Option ℕ). is_some o) (k.unlinked_words.free c (claim-append (claims_of w) (claims_of_all unlinked) c ∙ or_left (has_claim (claims_of w) c) (has_claim (claims_of_all unlinked) c) (claims-it w from image a c ∙ e))))

  left-sealed : AllAreSealed image layout
  left-sealed node l at =
      let clear : AreClear its_file l = clear-at its_file state layout gone-free k.represents.holds.lies node l at in
      sealed-same its_file from image a.agree l (standing-at from state layout k.represents node l at) clear.node clear.contents (k.sealed node l at)

  left-kept : KeepsUncounted state layout unlinked image
  left-kept = record {
    valid = k.valid;
    sound = a.headers.sound k.sound;
    represents = represents-outside its_file (view_of from) (view_of image) state layout (agreeing-views its_file from image a.agree) gone-free k.represents;
    numbers = k.numbers;
    owners = k.owners;
    files = left-files w from image a (words_in_use unlinked (all_loaded state layout k.numbers)) k.files left-free;
    unlinked_words = record {
      stand = left-stand w from image a unlinked gone-alone k.unlinked_words.stand.1;
      free = λ claim e. k.unlinked_words.free claim (claim-append (claims_of w) (claims_of_all unlinked) claim ∙ or_right (has_claim (claims_of w) claim) (has_claim (claims_of_all unlinked) claim) e);
      single = repeats-tail (claims_of w) (claims_of_all unlinked) k.unlinked_words.single;
    };
    sealed = left-sealed;
    session = session-same from image state layout a.session k.session;
  }

pub deleted-gone : DeletedFilesAreGone
deleted-gone w from image a state layout unlinked k = left-kept w from image a state layout unlinked k
