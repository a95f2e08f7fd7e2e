-- A repaired folder represents what it holds, opened, and is consistent.
use Rattle.std.proofs.Common.{◌≡◌, ⊎_elim, ℕ, ◌<◌, true, false, List, [], ◌∷◌, ◌++◌, Option, Some, None, refl, sym, ap, ap₂, ◌∙◌, subst}
use Rattle.std.specs.Prelude.{length, map, is_some}
use Rattle.std.specs.Option.{option_map}
use Rattle.std.specs.List.{AllByRecursion, flat_map, sum_by}
use Rattle.spec_folder.specs.ListView.{last_or}
use Rattle.std.proofs.lemmas.Bool.{cases_Bool, eqb-true, eq-eqb}
use Rattle.spec_image.specs.Image.{Image, AreBytes, Index, byte}
use Rattle.spec_format.proofs.Counts.{counts-as, its-version}
use Rattle.blk_model.specs.Items.{IsValidHolding}
use Rattle.blk_model.specs.State.{Bounds, State}
use Rattle.blk_model.specs.Holding.{open_state}
use Rattle.spec_format.specs.BlockFiles.{is_among}
use Rattle.spec_format.specs.Claims.{Claim, BlockOf, ExternalOf, has_claim}
use Rattle.spec_folder.specs.ListView.{Distinct}
use Rattle.spec_folder.specs.Walk.{walk}
use Rattle.spec_folder.specs.View.{list_of, store_of, view_of}
use Rattle.spec_folder.specs.Chains.{Chain, chain}
use Rattle.spec_folder.specs.Completion.{completed_list}
use Rattle.spec_folder.specs.Reasons.{Reason}
use Rattle.law_folder.proofs.states.Central.{walk-idle}
use Rattle.law_folder.proofs.states.Central.{filter-none}
use Rattle.law_folder.proofs.chains.Chains.{chain-is}
use Rattle.law_folder.proofs.states.Central.{flat_map-none}
use Rattle.law_folder.proofs.walks.Loads.{load-then}
use Rattle.spec_folder.specs.Loads.{held_rule, listed_rule, Loaded, all_claims, claims_of_loaded}
use Rattle.spec_folder.specs.Audit.{kept_by, dropped_among, unlisted, is_unlisted, unlisted_in}
use Rattle.spec_folder.specs.Sound.{IsInOrder, IsSound, CountersAgree, AreSealed, words_of}
use Rattle.spec_folder.specs.StandsFor.{IsOwner, AllIsOwned, StandsFor}
use Rattle.blk_model.proofs.Opened.{open_valid}
use Rattle.law_folder.proofs.claims.ClaimLists.{claim-append, no-claim}
use Rattle.law_folder.proofs.states.Standing.{stands-for}
use Rattle.law_recovery.specs.Mended.{IsMended, MendedFoldersStandFor, MendedFoldersAreSound}
use Rattle.law_recovery.proofs.OneOwner.{kept-claim_once}
use Rattle.law_recovery.proofs.FoundHolding.{found-holding}
use Rattle.spec_folder.specs.Shown.{IsShown}
use Rattle.spec_folder.specs.Found.{charge_of, kept, found, dropped, completed}
use Rattle.spec_folder.specs.Layout.{Layout, order}
use Rattle.spec_folder.specs.ListImages.{walked}
use Rattle.law_folder.proofs.states.Bare.{no-record}
use Rattle.law_folder.proofs.walks.Loading.{load-rule}
use Rattle.law_folder.proofs.walks.Shown.{kept-given, dropped-none}
use Rattle.spec_folder.specs.Audit.{kept_as}
use Rattle.law_recovery.specs.ChainRepair.{is_kept_record, kept_records, KeepsAllWalked}
use Rattle.law_recovery.specs.MendedLinks.{HasMendedLinks, first_that, node_with, kept_layout}
use Rattle.law_recovery.proofs.ChainRepair.{shown, given-some, kept-from, IsKeptRecord, of-test}
use Rattle.law_recovery.proofs.Frames.{load-chained}
use Rattle.law_recovery.proofs.MendedLinks.{all, node-of, IsFirst, first-here, at-node, order-is, mended-represents, all-live, chain-has-test}
use Rattle.law_recovery.proofs.LinkRepair.{kept-walked}

-- ---- a repaired folder

claimed-first : (ks : List Loaded) (c : Claim) → has_claim (claims_of_loaded ks) c ≡ is_some (node_with (λ k. has_claim (all_claims k) c) ks)
claimed-first [] c = no-claim c
claimed-first (k ∷ ks) c =
    ⊎_elim
    (λ (e : has_claim (all_claims k) c ≡ true). claim-append (all_claims k) (claims_of_loaded ks) c ∙ rw e refl)
    (λ (e : has_claim (all_claims k) c ≡ false). claim-append (all_claims k) (claims_of_loaded ks) c ∙ rw e (claimed-first ks c))
    (cases_Bool (has_claim (all_claims k) c))

pub append-none : {A : Type 0} (xs : List A) → xs ++ [] ≡ xs
append-none [] = refl
append-none {A} (x ∷ xs) = ap (λ (ys : List A). x ∷ ys) (append-none xs)

-- what is repaired of files, checksums and counters is in order
mended-in_order : (image : Image) → IsMended image → IsInOrder image (kept image) []
mended-in_order image mended = record {
  only_linked = mended.only.only_linked;
  long_enough = mended.files.long_enough;
  counted = λ n linked. subst (λ (ks : List Loaded). CountersAgree image (flat_map words_of ks) n) (sym (append-none (kept image))) (mended.files.counted n linked);
  index = record {
    tail = mended.links.rests.whole.tail_is ∙ ap (last_or 0) (sym (kept-walked image mended.links));
    counts = counts-as (byte image Index) (length (kept image)) (sum_by charge_of (kept image)) mended.counters;
  };
  sealed = subst (AllByRecursion (AreSealed image)) (sym (append-none (kept image))) mended.sealed;
}

module _ (image : Image) (limits : Bounds) (mended : IsMended image) (valid : IsValidHolding (found image)) where
  abbrev links_of : HasMendedLinks image
  links_of = mended.links

  abbrev all_of : KeepsAllWalked image
  all_of = all image limits mended.links valid

  abbrev state_of : State
  state_of = open_state (found image) limits

  abbrev layout_of : Layout
  layout_of = kept_layout image

  -- where dirty nodes are kept too, the same is kept
  listed-shown : IsShown (store_of image) listed_rule (walked image) (kept_as (store_of image) held_rule (walked image))
  listed-shown =
      let s = shown image links_of.well_formed all_of in
      record {
        once = s.once;
        loads = λ node k among is. load-rule (store_of image) held_rule listed_rule node k (s.loads node k among is) refl refl (load-chained (store_of image) node k (s.loads node k among is));
        single = s.single;
        apart = s.apart;
        parents = s.parents;
        out = λ node k among none ok. absurd (let g = given-some image links_of.well_formed all_of node among in no (sym none ∙ g.1));
      } where
        no : {k : Loaded} → ◌≡◌ {A = Option Loaded} None (Some k) → ⊥
        no e = cc

  pub listed-same : kept_by listed_rule (view_of image) ≡ kept image
  listed-same = kept-given (store_of image) listed_rule (walked image) (kept_as (store_of image) held_rule (walked image)) listed-shown ∙ sym (kept-from image links_of.well_formed all_of)

  owner-some : (c : Claim) → has_claim (claims_of_loaded (kept image)) c ≡ is_some (layout_of.owner c)
  unfolding kept_layout
  owner-some c = claimed-first (kept image) c

  owner-first : (c : Claim) (node : ℕ) → layout_of.owner c ≡ Some node → (k : Loaded) × (first_that (λ k. has_claim (all_claims k) c) (kept image) ≡ Some k) × (k.node ≡ node)
  unfolding kept_layout
  owner-first c node e = go (first_that (λ k. has_claim (all_claims k) c) (kept image)) refl e where
    same : {a b : ℕ} → ◌≡◌ {A = Option ℕ} (Some a) (Some b) → a ≡ b
    same e = cc

    go : (o : Option Loaded) → first_that (λ k. has_claim (all_claims k) c) (kept image) ≡ o → option_map (λ (k : Loaded). k.node) o ≡ Some node → (k : Loaded) × (first_that (λ k. has_claim (all_claims k) c) (kept image) ≡ Some k) × (k.node ≡ node)
    go None is h = cc
    go (Some k) is h = (k, is, same h)

  exact-owner : (c : Claim) (node : ℕ) → layout_of.owner c ≡ Some node → IsOwner state_of layout_of [] c node
  exact-owner c node e =
      let f = owner-first c node e in
      let first : IsFirst image limits links_of valid (λ k. has_claim (all_claims k) c) f.0 = first-here image limits links_of valid (λ k. has_claim (all_claims k) c) f.0 f.1 in
      let at : first.node ≡ node = sym (node-of image limits links_of valid first.node f.0 first.among first.is) ∙ f.2 in
      let among : is_among (walked image) node ≡ true = subst (λ (x : ℕ). is_among (walked image) x ≡ true) at first.among in
      record {
        among = ap (λ (ns : List ℕ). is_among ns node) (append-none (order state_of layout_of) ∙ order-is image limits links_of valid) ∙ among;
        loaded = f.0;
        here = subst (λ (x : ℕ). layout_of.at x ≡ Some f.0) at (at-node image limits links_of valid first.node f.0 first.among first.is);
        claims = first.good;
      }

  pub allocated-here : AllIsOwned image state_of layout_of []
  allocated-here = record {
    blocks = λ n b linked_n below. mended.files.maps n b linked_n below ∙ owner-some (BlockOf n b);
    files = λ n below. mended.only.only_claimed n below ∙ owner-some (ExternalOf n);
    exact = exact-owner;
    once = subst Distinct (sym (append-none (order state_of layout_of) ∙ order-is image limits links_of valid)) links_of.rests.whole.distinct;
    doomed = record {
      each = tt;
      once = tt;
      all = λ number object here dead. absurd (all-live image limits links_of valid number object here dead);
      records = λ number among. absurd (clash among);
    };
  } where
    clash : false ≡ true → ⊥
    clash e = cc

  mended-stands : StandsFor image state_of
  mended-stands =
      stands-for image state_of layout_of (mended-represents image limits links_of valid) (open_valid (found image) limits valid) [] allocated-here links_of.well_formed
      (its-version (byte image Index) (length (kept image)) (sum_by charge_of (kept image)) mended.counters)
      (subst (λ (ks : List Loaded). IsInOrder image ks []) (sym listed-same) (mended-in_order image mended))

pub mended-folders : MendedFoldersStandFor
mended-folders image limits mended are = mended-stands image limits mended (found-holding image are)

-- ---- consistency

-- any limits
some-limits : Bounds
some-limits = record { max_bytes = 1; max_items = 1 }

module _ (image : Image) (mended : IsMended image) (are : AreBytes image) where
  stands-here : StandsFor image (open_state (found image) some-limits)
  stands-here = mended-folders image some-limits mended are

  none-left : dropped_among (store_of image) held_rule (walked image) ≡ []
  none-left =
      let t = mended.links in
      let k = all image some-limits t (found-holding image are) in
      let s : IsShown (store_of image) held_rule (walked image) (kept_as (store_of image) held_rule (walked image)) = shown image t.well_formed k in
      dropped-none (store_of image) held_rule (walked image) (kept_as (store_of image) held_rule (walked image)) s (λ node among none. let g = given-some image t.well_formed k node among in no (sym none ∙ g.1)) where
        no : {l : Loaded} → ◌≡◌ {A = Option Loaded} None (Some l) → ⊥
        no e = cc

  walk-now : walk (completed_list (list_of image)) ≡ walked image
  walk-now = walk-idle (list_of image) mended.links.rests.idle

  -- a kept record is listed
  record-listed : (c : ℕ) → is_kept_record (kept image) c ≡ true → is_unlisted (completed (view_of image)) c ≡ false
  unfolding is_unlisted
  record-listed c good =
      let t = mended.links in
      let k = all image some-limits t (found-holding image are) in
      let r : IsKeptRecord image t.well_formed k c = of-test image t.well_formed k c good in
      load-then (store_of image) held_rule r.node r.k ((shown image t.well_formed k).loads r.node r.k r.among r.is) (λ n e f.
      let contents : n.contents ≡ c = sym f.facts.contents_is ∙ r.contents in
      let entry : (store_of image).entry c ≡ Some e = ap (store_of image).entry (sym contents) ∙ f.entry in
      let back : e.rankings_node ≡ r.node = eqb-true e.rankings_node r.node f.facts.keyed.back in
      let walks : is_among (walk (completed_list (list_of image))) e.rankings_node ≡ true = ap₂ is_among walk-now back ∙ r.among in
      let node_fields : (store_of image).node_fields e.rankings_node ≡ Some n = ap (store_of image).node_fields back ∙ f.node in
      rw (entry, walks, node_fields, eq-eqb n.contents c contents) refl)

  chain-listed : (bucket : ℕ) → bucket < 65536 → unlisted_in (completed (view_of image)) bucket ≡ []
  chain-listed bucket below =
      let reached : (chain (store_of image) bucket).reached ≡ kept_records image bucket = ap (λ (c : Chain). c.reached) (chain-is (store_of image) bucket (kept_records image bucket) (no-record image) (mended.links.chains bucket below)) in
      ap (map _) (filter-none (is_unlisted (completed (view_of image))) (chain (store_of image) bucket).reached (λ c among. record-listed c (chain-has-test image bucket c (ap (λ (ws : List ℕ). is_among ws c) (sym reached) ∙ among))))

  unlisted-none : unlisted (completed (view_of image)) ≡ []
  unfolding unlisted
  unlisted-none = flat_map-none (unlisted_in (completed (view_of image))) 0 65536 (λ b low high. chain-listed b high)

  nothing-dropped : dropped image ≡ []
  unfolding dropped
  nothing-dropped = ap₂ (λ (xs ys : List (ℕ × Reason)). xs ++ ys) (ap (dropped_among (store_of image) held_rule) walk-now ∙ none-left) unlisted-none

  sound-here : IsSound image
  sound-here = record {
    well_formed = mended.links.well_formed;
    transaction = stands-here.shows.transaction;
    list_end = stands-here.shows.list_end;
    chain_ends = stands-here.shows.chain_ends;
    nothing_dropped = nothing-dropped;
    owned = record { one_owner = kept-claim_once image; maps = mended.files.maps; only_claimed = mended.only.only_claimed };
    in_order = mended-in_order image mended;
  }

pub mended-sound : MendedFoldersAreSound
mended-sound image mended are = sound-here image mended are
