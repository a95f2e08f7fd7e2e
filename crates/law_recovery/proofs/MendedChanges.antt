-- What keeps a repaired folder repaired.
use Rattle.std.proofs.Common.{inl, inr, ◌≡◌, ◌≢◌, ⊎_elim, ℕ, zero, suc, ◌+◌, ◌^◌, ◌<◌, Bool, true, false, List, [], ◌∷◌, ◌++◌, take, Option, Some, None, Ok, refl, sym, ap, ◌∙◌, subst, arith}
use Rattle.std.specs.Prelude.{◌==◌, if◌then◌else◌, map, slice_index}
use Rattle.std.specs.List.{filter_map, cons_option}
use Rattle.std.specs.Prelude.{length}
use Rattle.std.specs.Option.{unwrap_or}
use Rattle.std.proofs.lemmas.List.Elements.{All-nil}
use Rattle.spec_image.specs.Image.{Index, External}
use Rattle.spec_image.specs.Bytes.{content}
use Rattle.spec_image.specs.Footprint.{whole}
use Rattle.spec_image.specs.Checks.{first_of}
use Rattle.spec_image.specs.Steps.{Delete, applied, with_words}
use Rattle.spec_image.proofs.Footprints.{same_file_outside}
use Rattle.spec_format.specs.Headers.{list_checks, magic_of, field_checks}
use Rattle.spec_format.specs.Claims.{ExternalOf, same_claim}
use Rattle.spec_format.specs.Sealed.{IsMidUpdate, record_at, seal_place}
use Rattle.spec_folder.specs.ListImages.{IsWritable}
use Rattle.law_folder.proofs.claims.Covers.{externals-covered}
use Rattle.law_folder.proofs.claims.Files.{unlinked-go}
use Rattle.law_folder.proofs.updates.IndexWords.{others-hidden, others-unchecked, same-shown, versions-raised}
use Rattle.law_folder.proofs.states.Laid.{same_claim-eq}
use Rattle.law_folder.proofs.updates.Nodes.{times-hidden}
use Rattle.law_folder.proofs.lists.Walked.{walks-distinct}
use Rattle.law_folder.proofs.updates.WellFormed.{headers_still}
use Rattle.std.proofs.lemmas.Bool.{eq-eqb, or_left, or_right, or_cases, cases_eq, cases_Bool}
use Rattle.std.proofs.lemmas.Bool.Decides.{eqb_tells}
use Rattle.std.proofs.Math.Dec.{eqb}
use Rattle.spec_image.specs.Bytes.{word_at}
use Rattle.spec_image.specs.Image.{Image, Block, AreBytes, byte}
use Rattle.spec_image.proofs.Words.{word-fits}
use Rattle.spec_format.specs.Address.{file_selector, place, rankings, blocks_256}
use Rattle.spec_format.specs.Records.{entry_in}
use Rattle.spec_format.specs.Hash.{hash}
use Rattle.spec_format.specs.Claims.{Claim, claims_of, has_claim}
use Rattle.spec_format.specs.BlockFiles.{is_among, IsWellFormed, KeepsHeaders}
use Rattle.spec_folder.specs.ListView.{ListView, IsList}
use Rattle.spec_folder.specs.View.{RecordFields, stands_as, follow_at, list_of, store_of, view_of}
use Rattle.spec_folder.specs.Chains.{Chain, chain, file_and_block, bucket_of_hash, Linked, IsChain}
use Rattle.spec_folder.specs.Loads.{held_rule, unchained_rule, Loaded, load, all_claims, claims_of_loaded}
use Rattle.spec_folder.specs.Audit.{kept_among}
use Rattle.spec_folder.specs.Shown.{IsShown}
use Rattle.spec_folder.specs.Found.{kept, found, row_of_loaded}
use Rattle.spec_folder.specs.Footprint.{IsClear, SameBut}
use Rattle.spec_folder.specs.Sound.{words_of}
use Rattle.spec_folder.specs.ListImages.{walked, HasListAtRest}
use Rattle.spec_folder.specs.ShownChanges.{OnlyListChanges, OnlyChainNextChanges}
use Rattle.law_folder.proofs.claims.Inside.{updates-inside}
use Rattle.law_folder.proofs.updates.Nodes.{good-stands}
use Rattle.law_folder.proofs.updates.Records.{follows-written}
use Rattle.law_folder.proofs.updates.StillShown.{standing-parts, core-standing}
use Rattle.law_recovery.proofs.Frames.{IsRecordOf, record-of, apart-clear, own-clear, load-linked}
use Rattle.law_recovery.proofs.RecordWords.{links-only, buckets-same}
use Rattle.law_folder.proofs.chains.ChainWords.{IsShownOf, shown-of, same-chain_next}
use Rattle.law_folder.proofs.claims.Allocations.{words-stand, words-claims}
use Rattle.law_folder.proofs.states.Bare.{no-record}
use Rattle.law_folder.proofs.chains.Chains.{chain-is}
use Rattle.law_folder.proofs.claims.ClaimLists.{claim-append, no-claim}
use Rattle.law_folder.proofs.claims.ByteChanges.{agreeing-views, views-same}
use Rattle.spec_format.proofs.Finished.{well_formed-finished, formed-kept}
use Rattle.law_folder.proofs.walks.Loading.{load-rule, load-clean}
use Rattle.law_folder.proofs.claims.Outside.{AreClear, all-clear, load-outside, linked-same, list-outside}
use Rattle.law_folder.proofs.walks.Shown.{kept-given}
use Rattle.law_folder.proofs.lists.Walks.{walk_list}
use Rattle.spec_folder.specs.Audit.{kept_as}
use Rattle.law_recovery.specs.ChainRepair.{kept_records, KeepsAllWalked}
use Rattle.spec_folder.specs.Footprint.{is_absent}
use Rattle.law_recovery.specs.MendedLinks.{HasMendedLinks}
use Rattle.law_recovery.specs.MendedChanges.{KeepsMendedLinks, RepairedLinksAreKept, MendedLinksGoOn, LinksAreMidRepair, MendedLinksAreMidRepair, IsUnkept, MendedLinksStayOutside, MendedLinksMayGrow, UnlinkedFilesMayBeDeleted, UnclaimedFilesMayChange, HiddenWordsMayChange, VersionsMayChange, KeptNodesMayBeSealed, KeptRecordsMayBeSealed}
use Rattle.law_recovery.proofs.ChainRepair.{shown, given-some, kept-from, IsKeptRecord, of-test}
use Rattle.law_folder.proofs.claims.Files.{growth-absent, words-there}
use Rattle.law_folder.proofs.walks.Kept.{kept-nodes}
use Rattle.law_recovery.proofs.LinkRepair.{rest-kept, records-still, kept-walked}
use Rattle.law_recovery.proofs.MendedLinks.{chain-has-test, has-chain-of, node-at}

module _ (from image : Image) (mended : HasMendedLinks from) (well : IsWellFormed image) where
  abbrev all : KeepsAllWalked from
  all = record { idle = mended.rests.idle; all_kept = mended.all_kept }

  abbrev asked : ℕ → Option Loaded
  asked = kept_as (store_of from) held_rule (walked from)

  -- where the list, the records by themselves and the chains are as they were, the folder is repaired
  module _ (list : IsList (list_of image) (walked from)) (idle : (list_of image).transaction ≡ 0)
      (loads : (node : ℕ) (k : Loaded) → is_among (walked from) node ≡ true → asked node ≡ Some k → load (store_of image) (unchained_rule 0) node ≡ Ok k)
      (chains : (bucket : ℕ) → bucket < 65536 → IsChain (store_of image) bucket (kept_records from bucket)) where
    walks : walked image ≡ walked from
    walks = walk_list (list_of image) (walked from) list

    loads-held : (node : ℕ) (k : Loaded) → is_among (walked from) node ≡ true → asked node ≡ Some k → load (store_of image) held_rule node ≡ Ok k
    loads-held node k among is =
        let s = shown from mended.well_formed all in
        let was = s.loads node k among is in
        let b : ℕ = bucket_of_hash (hash k.key) in
        let reached : (chain (store_of image) b).reached ≡ kept_records from b = ap (λ (c : Chain). c.reached) (chain-is (store_of image) b (kept_records from b) (no-record image) (chains b (below (hash k.key)))) in
        load-rule (store_of image) (unchained_rule 0) held_rule node k (loads node k among is) refl (load-clean (store_of from) held_rule node k was)
        (ap (λ (ws : List ℕ). is_among ws k.contents) reached ∙ has-chain-of from mended node k among is) where
          below : (h : ℕ) → bucket_of_hash h < 65536
          below h = omega arith

    shown-now : IsShown (store_of image) held_rule (walked from) asked
    shown-now =
        let s = shown from mended.well_formed all in
        record {
          once = s.once;
          loads = loads-held;
          single = s.single;
          apart = s.apart;
          parents = s.parents;
          out = λ node k among none ok. absurd (let g = given-some from mended.well_formed all node among in no (sym none ∙ g.1));
        } where
          no : {k : Loaded} → ◌≡◌ {A = Option Loaded} None (Some k) → ⊥
          no e = cc

    rests : HasListAtRest (walked image) image
    rests = subst (λ (ns : List ℕ). HasListAtRest ns image) (sym walks) (record { whole = list; idle = idle })

    keeps : kept image ≡ kept from
    keeps =
        rest-kept image (walked image) rests ∙ ap (kept_among (store_of image) held_rule) walks
        ∙ kept-given (store_of image) held_rule (walked from) asked shown-now ∙ sym (kept-from from mended.well_formed all)

    stays : KeepsMendedLinks from image
    unfolding found
    stays = record {
      mended = record {
        well_formed = well;
        rests = rests;
        all_kept =
            sym (kept-nodes (store_of image) held_rule (walked image) rests.whole.distinct) ∙ ap (map (λ (k : Loaded). k.node)) (sym (rest-kept image (walked image) rests) ∙ keeps ∙ rest-kept from (walked from) mended.rests)
            ∙ kept-nodes (store_of from) held_rule (walked from) mended.rests.whole.distinct ∙ mended.all_kept ∙ sym walks;
        chains = λ bucket below. subst (IsChain (store_of image) bucket) (sym (records-still from image bucket keeps (chains bucket below))) (chains bucket below);
      };
      kept_same = keeps;
      found_same = rw (well_formed-finished image well, well_formed-finished from mended.well_formed) (ap (map row_of_loaded) keeps);
    }

  -- a kept node loads by itself
  loads-alone : (node : ℕ) (k : Loaded) → is_among (walked from) node ≡ true → asked node ≡ Some k → load (store_of from) (unchained_rule 0) node ≡ Ok k
  loads-alone node k among is = load-rule (store_of from) held_rule (unchained_rule 0) node k ((shown from mended.well_formed all).loads node k among is) refl refl refl

  -- what a kept node uses is used by what is kept
  in-claims : (xs : List ℕ) (node : ℕ) (k : Loaded) (c : Claim) → is_among xs node ≡ true → asked node ≡ Some k → has_claim (all_claims k) c ≡ true → has_claim (claims_of_loaded (filter_map asked xs)) c ≡ true
  in-claims [] node k c among is there = cc
  in-claims (x ∷ xs) node k c among is there =
      ⊎_elim
      (λ (e : (eqb x node ≡ true) × (x ≡ node)). rw (ap asked e.1 ∙ is) (claim-append (all_claims k) (claims_of_loaded (filter_map asked xs)) c ∙ or_left (has_claim (all_claims k) c) (has_claim (claims_of_loaded (filter_map asked xs)) c) there))
      (λ (e : (eqb x node ≡ false) × _). more (asked x) (in-claims xs node k c (rw e.0 at among) is there))
      (eqb_tells x node) where
        more : (o : Option Loaded) → has_claim (claims_of_loaded (filter_map asked xs)) c ≡ true → has_claim (claims_of_loaded (cons_option o (filter_map asked xs))) c ≡ true
        more None h = h
        more (Some l) h = claim-append (all_claims l) (claims_of_loaded (filter_map asked xs)) c ∙ or_right (has_claim (all_claims l) c) (has_claim (claims_of_loaded (filter_map asked xs)) c) h

  claims-kept : (node : ℕ) (k : Loaded) (c : Claim) → is_among (walked from) node ≡ true → asked node ≡ Some k → has_claim (all_claims k) c ≡ true → has_claim (claims_of_loaded (kept from)) c ≡ true
  claims-kept node k c among is there = ap (λ (ks : List Loaded). has_claim (claims_of_loaded ks) c) (kept-from from mended.well_formed all) ∙ in-claims (walked from) node k c among is there

  -- a change of what isn't kept
  module _ (touched : Claim → Bool) (same : SameBut touched (view_of from) (view_of image)) (unkept : IsUnkept from touched) where
    clear-of : (node : ℕ) (k : Loaded) → is_among (walked from) node ≡ true → asked node ≡ Some k → AreClear touched k
    clear-of node k among is = all-clear touched k (λ c there. unkept c (claims-kept node k c among is there))

    clear-node : (node : ℕ) → is_among (walked from) node ≡ true → IsClear touched node
    clear-node node among =
        let g = given-some from mended.well_formed all node among in
        subst (IsClear touched) (node-at from mended node g.0 among g.1) (clear-of node g.0 among g.1).node

    clear-record : (bucket c : ℕ) → is_among (kept_records from bucket) c ≡ true → IsClear touched c
    clear-record bucket c among =
        let r : IsKeptRecord from mended.well_formed all c = of-test from mended.well_formed all c (chain-has-test from bucket c among) in
        subst (IsClear touched) r.contents (clear-of r.node r.k r.among r.is).contents

    stays-outside : KeepsMendedLinks from image
    stays-outside =
        stays
        (list-outside touched (list_of from) (list_of image) (walked from) same.links clear-node mended.rests.whole)
        (sym same.links.transaction ∙ mended.rests.idle)
        (λ node k among is. load-outside touched (store_of from) (store_of image) same.store (unchained_rule 0) node k refl (loads-alone node k among is) (clear-of node k among is))
        (λ bucket below. let was = mended.chains bucket below in record {
          linked = subst (λ (x : ℕ). Linked (store_of image) bucket x (kept_records from bucket)) (same.table bucket)
              (linked-same touched (store_of from) (store_of image) same.store bucket ((store_of from).table bucket) (kept_records from bucket) (clear-record bucket) was.linked);
          once = was.once;
        })

pub links-outside : MendedLinksStayOutside
links-outside touched from image mended well same unkept = stays-outside from image mended well touched same unkept

-- ---- growth

module _ (from : Image) (mended : HasMendedLinks from) where
  abbrev all-of : KeepsAllWalked from
  all-of = record { idle = mended.rests.idle; all_kept = mended.all_kept }

  abbrev asked-of : ℕ → Option Loaded
  asked-of = kept_as (store_of from) held_rule (walked from)

  claims-there : (xs : List ℕ) (c : Claim) → ((x : ℕ) → is_among xs x ≡ true → is_among (walked from) x ≡ true) → has_claim (claims_of_loaded (filter_map asked-of xs)) c ≡ true → is_absent from c ≡ false
  claims-there [] c sub e = absurd (clash (sym (no-claim c) ∙ e)) where
    clash : false ≡ true → ⊥
    clash e = cc
  claims-there (x ∷ xs) c sub e = go (asked-of x) refl (claims-there xs c (λ y h. sub y (or_right (x == y) (is_among xs y) h))) e where
    here : is_among (walked from) x ≡ true
    here = sub x (or_left (x == x) (is_among xs x) (eq-eqb x x refl))

    go : (o : Option Loaded) → asked-of x ≡ o → (has_claim (claims_of_loaded (filter_map asked-of xs)) c ≡ true → is_absent from c ≡ false) → has_claim (claims_of_loaded (cons_option (asked-of x) (filter_map asked-of xs))) c ≡ true → is_absent from c ≡ false
    go None is more h = more (rw is at h)
    go (Some k) is more h =
        let split : has_claim (all_claims k ++ claims_of_loaded (filter_map asked-of xs)) c ≡ true = rw is at h in
        ⊎_elim
        (λ (t : has_claim (all_claims k) c ≡ true).
        words-there from (words_of k) c (words-stand from k (held_rule, x, (shown from mended.well_formed all-of).loads x k here is)) (ap (λ (cs : List Claim). has_claim cs c) (words-claims k) ∙ t))
        (λ (t : has_claim (claims_of_loaded (filter_map asked-of xs)) c ≡ true). more t)
        (or_cases (has_claim (all_claims k) c) (has_claim (claims_of_loaded (filter_map asked-of xs)) c) (sym (claim-append (all_claims k) (claims_of_loaded (filter_map asked-of xs)) c) ∙ split))

pub links-grow : MendedLinksMayGrow
links-grow from image mended whole =
    links-outside (is_absent from) from image mended (formed-kept from image whole.headers mended.well_formed) (agreeing-views (is_absent from) from image (growth-absent from image whole.grown))
    (λ c there. claims-there from mended (walked from) c (λ x h. h) (ap (λ (ks : List Loaded). has_claim (claims_of_loaded ks) c) (sym (kept-from from mended.well_formed (record { idle = mended.rests.idle; all_kept = mended.all_kept }))) ∙ there))

-- ---- one change after another

pub repaired-kept : RepairedLinksAreKept
repaired-kept from image holds mended = record { mended = mended; kept_same = holds.kept_same; found_same = holds.found_same }

pub links-on : MendedLinksGoOn
links-on from between image first second = record { mended = second.mended; kept_same = second.kept_same ∙ first.kept_same; found_same = second.found_same ∙ first.found_same }

pub holds-mid : LinksAreMidRepair
holds-mid from image holds = record { well_formed = holds.well_formed; kept_same = holds.kept_same; found_same = holds.found_same }

pub keeps-mid : MendedLinksAreMidRepair
keeps-mid from image keeps = record { well_formed = keeps.mended.well_formed; kept_same = keeps.kept_same; found_same = keeps.found_same }

-- ---- files that are deleted, and words of the index

none-touched : (from image : Image) → HasMendedLinks from → IsWellFormed image → SameBut (λ claim. false) (view_of from) (view_of image) → KeepsMendedLinks from image
none-touched from image mended well same = links-outside (λ claim. false) from image mended well same (λ claim there. refl)

pub unlinked-deleted : UnlinkedFilesMayBeDeleted
unlinked-deleted from n mended free =
    let gone = unlinked-go from n free in
    none-touched from (applied (Delete (Block n)) from) mended (formed-kept from (applied (Delete (Block n)) from) gone.headers mended.well_formed) gone.shown

pub unclaimed-change : UnclaimedFilesMayChange
unclaimed-change from image n mended unclaimed same =
    let index : image Index ≡ from Index = same_file_outside (whole (External n)) from image Index same (λ i. refl) refl in
    let headers : KeepsHeaders from image = headers_still (whole (External n)) from image (record { bytes = λ m i small. refl }) (λ m. refl) same
    (ap (λ (bytes : Option (List ℕ)). magic_of (content (unwrap_or bytes []))) index)
    (ap (λ (bytes : Option (List ℕ)). first_of (field_checks (content (unwrap_or bytes [])) (length (unwrap_or bytes [])))) index)
    (ap (λ (bytes : Option (List ℕ)). first_of (list_checks (content (unwrap_or bytes [])))) index) in
    let well : IsWellFormed image = formed-kept from image headers mended.well_formed in
    links-outside (λ claim. same_claim claim (ExternalOf n)) from image mended well (views-same (whole (External n)) from image (λ claim. same_claim claim (ExternalOf n)) same (externals-covered from n))
    (λ claim there. apart claim unclaimed there) where
      apart : (claim : Claim) → has_claim (claims_of_loaded (kept from)) (ExternalOf n) ≡ false → has_claim (claims_of_loaded (kept from)) claim ≡ true → same_claim claim (ExternalOf n) ≡ false
      apart claim unclaimed there = ⊎_elim
          (λ (e : same_claim claim (ExternalOf n) ≡ true). let c : true ≡ false = sym there ∙ ap (has_claim (claims_of_loaded (kept from))) (same_claim-eq claim (ExternalOf n) e) ∙ unclaimed in cc)
          (λ (e : same_claim claim (ExternalOf n) ≡ false). e)
          (cases_Bool (same_claim claim (ExternalOf n)))

-- a folder that is well formed and shows the same
same-view : (from image : Image) → HasMendedLinks from → IsWellFormed image → view_of image ≡ view_of from → KeepsMendedLinks from image
same-view from image mended well views =
    none-touched from image mended well
    (subst (SameBut (λ claim. false) (view_of from)) (sym views) (record {
      links = record { head = refl; tail = refl; transaction = refl; checks = λ w c. refl; next = λ w c. refl; prev = λ w c. refl };
      store = (same-shown (store_of from)).store;
      table = λ b. refl;
    }))

pub hidden-change : HiddenWordsMayChange
hidden-change from image at mended aligned inside hidden unchecked same =
    same-view from image mended (formed-kept from image (others-unchecked from image at aligned unchecked same) mended.well_formed) (others-hidden from image at aligned inside hidden same)

pub version-change : VersionsMayChange
version-change from image mended is = same-view from image mended (formed-kept from image (versions-raised from image is) mended.well_formed) (others-hidden from image 4 refl (omega arith) refl is.outside)

-- ---- checksums

chain_next-small : (image : Image) (w : ℕ) → AreBytes image → (store_of image).chain_next w < 2 ^ 32
unfolding store_of follow_at entry_in
chain_next-small image w bytes = go (stands_as image blocks_256 w) where
  go : (b : Bool) → (if b then word_at (byte image (Block (file_selector w))) (place w + 4) else 0) < 2 ^ 32
  go true = word-fits (byte image (Block (file_selector w))) (bytes (Block (file_selector w))) (place w + 4)
  go false = omega arith

-- the midst of an update without changes is that of an update whose change isn't made yet
sealing-mid : (from image : Image) (w : ℕ) (change : ℕ × ℕ) → IsMidUpdate from w [] image → IsMidUpdate from w (change ∷ []) image
sealing-mid from image w change mid = record {
  made = 0;
  within = omega arith;
  fields = mid.fields ∙ ap (λ (changes : List (ℕ × ℕ)). take (seal_place w) (with_words changes (record_at from w))) (none mid.made);
  checks = mid.checks;
  outside = mid.outside;
} where
  none : (made : ℕ) → take {A = ℕ × ℕ} made [] ≡ []
  none zero = refl
  none (suc made) = refl

pub nodes-sealed : KeptNodesMayBeSealed
nodes-sealed from image node mended ready there mid =
    let list : ListView = list_of from in
    let nodes : map (λ (k : Loaded). k.node) (kept from) ≡ walked from = kept-walked from mended in
    let good : list.checks node ≡ true = (walks-distinct list).1 node (ap (λ (ns : List ℕ). is_among ns node) (sym nodes) ∙ there) in
    let p = standing-parts from rankings node (good-stands from node good) in
    let only : OnlyListChanges [] from image = times-hidden from image node [] (record { good = good; bytes = ready.bytes }) (record { few = omega arith; aligned = All-nil _; before = All-nil _; different = tt }) (All-nil _) mid in
    let same : list_of image ≡ list = only.list in
    none-touched from image mended (formed-kept from image (updates-inside from image node [] p.0 (inl p.1) mid).headers mended.well_formed)
    (record {
      links = record { head = ap (λ (l : ListView). l.head) (sym same); tail = ap (λ (l : ListView). l.tail) (sym same); transaction = ap (λ (l : ListView). l.transaction) (sym same); checks = λ w c. ap (λ (l : ListView). l.checks w) (sym same); next = λ w c. ap (λ (l : ListView). l.next w) (sym same); prev = λ w c. ap (λ (l : ListView). l.prev w) (sym same) };
      store = only.store.store;
      table = only.store.table;
    })

record-sealed : (from image : Image) (node : ℕ) (k : Loaded) → HasMendedLinks from → IsWritable from → is_among (walked from) node ≡ true → kept_as (store_of from) held_rule (walked from) node ≡ Some k → IsMidUpdate from k.contents ((4, (store_of from).chain_next k.contents) ∷ []) image → KeepsMendedLinks from image
record-sealed from image node k mended ready among_k is_k moment =
    let s = shown from mended.well_formed (record { idle = mended.rests.idle; all_kept = mended.all_kept }) in
    let ok = s.loads node k among_k is_k in
    let rc : IsRecordOf (store_of from) k = record-of (store_of from) node k ok in
    let w : ℕ = k.contents in
    let x : ℕ = (store_of from).chain_next w in
    let law = follows-written from image w x rc.fields (record { here = rc.here; good = rc.good; bytes = ready.bytes }) (chain_next-small from w ready.bytes) moment in
    let only : OnlyChainNextChanges w from image = law.0 in
    let link : (store_of image).chain_next w ≡ x = law.1 ∙ either (moment.made == 0) x in
    let p = standing-parts from blocks_256 w (core-standing from w rc.fields rc.here) in
    let well : IsWellFormed image = formed-kept from image (updates-inside from image w ((4, x) ∷ []) p.0 (inr p.1) moment).headers mended.well_formed in
    let links = links-only from image w rc.fields rc.here only in
    stays from image mended well
    (subst (λ (l : ListView). IsList l (walked from)) (sym only.rest.list) mended.rests.whole)
    (ap (λ (l : ListView). l.transaction) only.rest.list ∙ mended.rests.idle)
    (λ other l among is.
    let alone_ok = loads-alone from image mended well other l among is in
    ⊎_elim
    (λ (e : (eqb node other ≡ true) × (node ≡ other)).
    let same : l ≡ k = some-one (sym is ∙ ap (kept_as (store_of from) held_rule (walked from)) (sym e.1) ∙ is_k) in
    load-linked (store_of from) (store_of image) w links (unchained_rule 0) other l alone_ok (inr (ap (λ (m : Loaded). m.contents) same)) (λ n. subst (λ (m : Loaded). IsClear (has_claim (claims_of m.contents)) (slice_index l.others n)) same (own-clear l (s.single other l among is) n)) refl)
    (λ (e : (eqb node other ≡ false) × _).
    let clear : AreClear (has_claim (claims_of w)) l = apart-clear k l (s.apart node other k l among_k among e.0 is_k is) in
    load-linked (store_of from) (store_of image) w links (unchained_rule 0) other l alone_ok (inl clear.contents) clear.others refl)
    (eqb_tells node other))
    (λ bucket below. let was = mended.chains bucket below in record {
      linked = subst (λ (y : ℕ). Linked (store_of image) bucket y (kept_records from bucket)) (only.rest.table bucket) (go from image w rc.fields rc.here only link bucket ((store_of from).table bucket) (kept_records from bucket) was.linked);
      once = was.once;
    }) where
      either : (b : Bool) (x : ℕ) → (if b then x else x) ≡ x
      either true x = refl
      either false x = refl

      some-one : {k l : Loaded} → ◌≡◌ {A = Option Loaded} (Some k) (Some l) → k ≡ l
      some-one e = cc

      go : (from image : Image) (w : ℕ) (fields : RecordFields) (at : (store_of from).entry w ≡ Some fields) (only : OnlyChainNextChanges w from image) → (store_of image).chain_next w ≡ (store_of from).chain_next w → (bucket y : ℕ) (xs : List ℕ) → Linked (store_of from) bucket y xs → Linked (store_of image) bucket y xs
      go from image w fields at only link bucket y [] l = l
      go from image w fields at only link bucket y (x ∷ xs) l =
          let of : IsShownOf (store_of from) bucket x = shown-of (store_of from) bucket x l.1 in
          let same : (store_of image).chain_next x ≡ (store_of from).chain_next x =
          ⊎_elim
          (λ (e : file_and_block x ≡ file_and_block w). same-chain_next image x w of.fields fields (sym (only.entry x) ∙ of.here) (sym (only.entry w) ∙ at) e ∙ link ∙ sym (same-chain_next from x w of.fields fields of.here at e))
          (λ (e : file_and_block x ≢ file_and_block w). sym (only.chain_next x e))
          (cases_eq (file_and_block x) (file_and_block w)) in
          (l.0, buckets-same from image w fields at only bucket x ∙ l.1, subst (λ (z : ℕ). Linked (store_of image) bucket z xs) (sym same) (go from image w fields at only link bucket ((store_of from).chain_next x) xs l.2))

pub records-sealed : KeptRecordsMayBeSealed
records-sealed from image w mended ready there mid =
    let r : IsKeptRecord from mended.well_formed (all from from mended mended.well_formed) w = of-test from mended.well_formed (all from from mended mended.well_formed) w there in
    record-sealed from image r.node r.k mended ready r.among r.is (sealing-mid from image r.k.contents (4, (store_of from).chain_next r.k.contents) (subst (λ (x : ℕ). IsMidUpdate from x [] image) (sym r.contents) mid))
