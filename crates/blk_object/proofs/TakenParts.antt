-- Items that are taken out while others of their object are out already.
use Rattle.std.proofs.Common.{◌≡◌, ◌⊎◌, inl, inr, ⊎_elim, ℕ, ◌<◌, List, [], ◌∷◌, refl, ap, sym, ◌∙◌, subst, lit<, Bool, true, false, None, Option, Some, Ok}
use Rattle.std.specs.Prelude.{◌==◌, ◌&&◌}
use Rattle.std.specs.List.{flat_map}
use Rattle.std.proofs.lemmas.Bool.{cases_Bool, eq-eqb, eqb-true, or_left}
use Rattle.std.proofs.lemmas.Nat.{mod_below}
use Rattle.spec_image.specs.Footprint.{SameOutside}
use Rattle.spec_image.specs.Image.{AreBytes, Image}
use Rattle.spec_image.proofs.Runs.{some_inj}
use Rattle.blk_model.specs.Effects.{doomed}
use Rattle.blk_model.specs.Holding.{rest}
use Rattle.blk_model.specs.Items.{Item, part}
use Rattle.blk_model.specs.State.{Object, State}
use Rattle.spec_format.specs.Address.{blocks_256, kind_of, rankings}
use Rattle.spec_format.specs.BlockFiles.{is_among}
use Rattle.spec_format.specs.Claims.{Claim, claims_of, claims_of_all, has_claim, repeats}
use Rattle.spec_format.specs.Hash.{hash}
use Rattle.spec_format.specs.Records.{Node, entry_is_sealed, node_is_sealed}
use Rattle.spec_format.specs.Sealed.{record_range}
use Rattle.spec_folder.specs.Chains.{IsChain, bucket_at}
use Rattle.spec_folder.specs.Footprint.{AgreeBut, IsClear}
use Rattle.spec_folder.specs.Layout.{IsListedRecord, Layout, rule_of}
use Rattle.spec_folder.specs.ListImages.{HasListAtRest}
use Rattle.spec_folder.specs.Loads.{Loaded, all_claims, load, record_claims, unchained_rule}
use Rattle.spec_folder.specs.Searches.{bucket_of_key}
use Rattle.spec_folder.specs.Sound.{AreSealed}
use Rattle.spec_folder.specs.View.{entry_at, stands_as, store_of}
use Rattle.law_folder.proofs.claims.ByteChanges.{node-same}
use Rattle.law_folder.proofs.claims.ClaimLists.{claim-append, contents-claims}
use Rattle.law_folder.proofs.claims.Outside.{AreClear, all-clear}
use Rattle.law_folder.proofs.states.Laid.{is_among-node}
use Rattle.law_folder.proofs.states.Marking.{repeats-apart}
use Rattle.law_folder.proofs.states.OthersHold.{records-outside, records-unlinked}
use Rattle.law_folder.proofs.updates.StillShown.{standing-parts}
use Rattle.law_folder.proofs.walks.Loads.{load-then}
use Rattle.blk_chain.specs.Unlinking.{IsSealedAgain, IsUnlinked, StandsBehind}
use Rattle.law_state.specs.Changes.{Finds}
use Rattle.law_state.specs.GroupLaws.{gone_nodes}
use Rattle.law_state.specs.PartlyOut.{KeepsPartlyOut}
use Rattle.law_state.specs.RemovalLaws.{IsRemovalDone}
use Rattle.law_state.proofs.AtNodes.{updates-change}
use Rattle.law_state.proofs.Free.{AreStanding, sealed-same, standing-loaded}
use Rattle.law_state.proofs.GoingOut.{chain-same}
use Rattle.law_state.proofs.Groups as groups
use Rattle.law_state.proofs.Headers.{stands-same}
use Rattle.law_state.proofs.Links.{table-sealed}
use Rattle.law_state.proofs.NextOut as next
use Rattle.law_state.proofs.PartlyOut.{kept-begin}
use Rattle.law_state.proofs.PlainRemovals.{part-gone-without, removing-part}
use Rattle.law_state.proofs.Removals.{removals-find}
use Rattle.law_state.proofs.WordStops.{dooms-find}
use Rattle.law_state.specs.CommandEnds.{without_part}
use Rattle.law_state.specs.RemovalLaws.{IsWithout}
use Rattle.blk_model.specs.Items.{main, same_item}
use Rattle.blk_model.specs.Room.{single, without}
use Rattle.spec_folder.specs.Removal.{without_items}
use Rattle.std.specs.Prelude.{if◌then◌else◌, nat_lt, not, slice_set}
use Rattle.blk_object.specs.Removing.{IsMidRemoving}
use Rattle.blk_object.proofs.TakenItems.{going-removing}
use Rattle.law_state.proofs.PartlyOutStops.{next-parts-find, own-items-leave, unlinking-items-find}
use Rattle.blk_object.specs.Removing.{IsYetLinked}
use Rattle.blk_object.specs.RemovingParts.{GoingLonePartsFindEither, GoingMainsFindEither, GoingPartsFindDoomed, LeftItemsMayGoOut, LiesLeft, TakenOutItemsAreOut, TakenOutItemsLoad, UnlinkedItemsFindDoomed}
use Rattle.blk_object.proofs.ChainsOut.{among-front, can-go, goes-out, leaves-files, yet-in}
use Rattle.blk_object.proofs.OneMoreTaken.{between-sealed, one-more-out, out-finds, still-loads, still-sealed}
use Rattle.blk_object.proofs.UnlinkedLoads.{unlinked-stands}
use Rattle.blk_object.specs.UnlinkedLoads.{TakenOutItemsKeepUnlinked}
use Rattle.blk_object.proofs.TakenItems.{again-sealed, bucket-is, removal-leaves}

-- a node is clear of its record
pub node-clear : (l : Loaded) → repeats (all_claims l) ≡ false → IsClear (has_claim (claims_of l.contents)) l.node
unfolding all_claims record_claims
node-clear l once c e = ⊎_elim
    (λ (h : has_claim (claims_of l.contents) c ≡ true).
    let a : has_claim (record_claims l) c ≡ false = repeats-apart (claims_of l.node) (record_claims l) c once e in
    let b : has_claim (record_claims l) c ≡ true = claim-append (claims_of l.contents) (flat_map claims_of l.others) c ∙ or_left (has_claim (claims_of l.contents) c) (has_claim (flat_map claims_of l.others) c) h in
    absurd (let z : true ≡ false = sym b ∙ a in cc))
    (λ (h : has_claim (claims_of l.contents) c ≡ false). h)
    (cases_Bool (has_claim (claims_of l.contents) c))

module _ (state : State) (layout : Layout) (keep : Item → Bool) (chains : ℕ → List ℕ) (unlinked : List ℕ) (item : Item) (was : Loaded) (before : Option ℕ) (from : Image) (k : KeepsPartlyOut state layout keep chains unlinked from) (left : LiesLeft state layout keep chains item was before) where
  abbrev node : ℕ
  node = layout.place item

  abbrev its_bucket : ℕ
  its_bucket = bucket_of_key was.key

  abbrev gone : List ℕ
  gone = gone_nodes state layout keep

  here-stays : is_among gone node ≡ false
  here-stays = groups.stay-apart state layout keep k.numbers k.lies k.owners node (groups.stays-in state layout keep k.numbers k.lies k.owners item left.lies.listed left.stays)

  loads : load (store_of from) (rule_of layout node) node ≡ Ok was
  loads = k.holds.each node was left.lies.here here-stays

  -- once its node is out of the list
  module _ (between : Image) (done : IsRemovalDone from node between) where
    pub whole : (other : ℕ) → other < 65536 → IsChain (store_of between) other (chains other)
    whole other small = chain-same (store_of from) (store_of between) other (chains other) done.partly.shown.store (k.holds.chains other small)

    pub stands : StandsBehind (chains (bucket_at between was.contents)) was.contents before left.lies.prefix left.lies.suffix
    stands = subst (λ (b : ℕ). StandsBehind (chains b) was.contents before left.lies.prefix left.lies.suffix) (sym (bucket-is layout node node was from between loads done)) left.lies.stands

    standing : (n : ℕ) (l : Loaded) → layout.at n ≡ Some l → is_among gone n ≡ false → AreStanding between l
    standing n l at kept =
        let s = standing-loaded from layout n l (k.holds.each n l at kept) in
        record { node = stands-still rankings l.node s.node; record_ = stands-still blocks_256 l.contents s.record_ }
      where
        stands-still : (kind w : ℕ) → stands_as from kind w ≡ true → stands_as between kind w ≡ true
        stands-still kind w e = ap (λ (f : ℕ → Bool). f w && (kind_of w == kind)) (stands-same from between (removal-leaves from between node done).headers) ∙ e

    -- a record of a chain is that of a node that isn't out
    is-left : (bucket v : ℕ) → bucket < 65536 → is_among (chains bucket) v ≡ true → (q : IsListedRecord state layout v) → is_among gone q.node ≡ false
    is-left bucket v small among q = ⊎_elim
        (λ (e : is_among gone q.node ≡ true). absurd (let z : true ≡ false = sym (eq-eqb v q.loaded.contents (sym q.record_is)) ∙ k.out bucket v small among q.node q.loaded e q.here in cc))
        (λ (e : is_among gone q.node ≡ false). e)
        (cases_Bool (is_among gone q.node))

    -- where the record at a node has its checksum again, what is left keeps its checksums
    module _ (image : Image) (other : ℕ) (l : Loaded) (at : layout.at other ≡ Some l) (kept : is_among gone other ≡ false) (same : SameOutside (record_range l.contents) between image) (done_again : entry_is_sealed (entry_at image l.contents) ≡ true) where
      abbrev touched : Claim → Bool
      touched = has_claim (claims_of l.contents)

      agree : AgreeBut touched between image
      agree =
          let a = standing-parts between blocks_256 l.contents (standing other l at kept).record_ in
          (updates-change between image l.contents a.0 (inr a.1) same).agree

      apart : (n : ℕ) (m : Loaded) → layout.at n ≡ Some m → (other == n) ≡ false → AreClear touched m
      apart n m is differs = all-clear touched m (λ c has. ⊎_elim
          (λ (h : touched c ≡ true).
          let mine = k.lies.own other l c at (contents-claims l c h) in
          let theirs = k.lies.own n m c is has in
          absurd (let z : true ≡ false = sym (eq-eqb other n (some_inj (sym mine ∙ theirs))) ∙ differs in cc))
          (λ (h : touched c ≡ false). h)
          (cases_Bool (touched c)))

      seals-stand : (n : ℕ) (m : Loaded) → layout.at n ≡ Some m → is_among gone n ≡ false → AreSealed between m → AreSealed image m
      seals-stand n m is stays sealed = ⊎_elim
          (λ (e : (other == n) ≡ true).
          let it : l ≡ m = some_inj (sym at ∙ ap layout.at (eqb-true other n e) ∙ is) in
          subst (λ (x : Loaded). AreSealed image x) it (record {
            node = ap (λ (x : Node). node_is_sealed x) (node-same touched between image agree l.node (standing other l at kept).node (node-clear l (k.lies.single other l at))) ∙ (subst (λ (x : Loaded). AreSealed between x) (sym it) sealed).node;
            entry = done_again;
          }))
          (λ (e : (other == n) ≡ false). let clear = apart n m is e in sealed-same touched between image agree m (standing n m is stays) clear.node clear.contents sealed)
          (cases_Bool (other == n))

    seals : (image : Image) (o : Option ℕ) → StandsBehind (chains its_bucket) was.contents o left.lies.prefix left.lies.suffix → IsUnlinked between was.contents o image → IsSealedAgain between was.contents o image → AreBytes image
        → (n : ℕ) (m : Loaded) → layout.at n ≡ Some m → is_among gone n ≡ false → AreSealed between m → AreSealed image m
    seals image None there u again bytes n m is stays sealed = table-sealed between image (bucket_at between was.contents) m u.keeps.outside sealed
    seals image (Some v) there u again bytes n m is stays sealed =
        let small : its_bucket < 65536 = mod_below (hash was.key) 65536 (lit< tt) in
        let among : is_among (chains its_bucket) v ≡ true = ap (λ (words : List ℕ). is_among words v) there ∙ among-front left.lies.prefix v (was.contents ∷ left.lies.suffix) in
        let q : IsListedRecord state layout v = k.lies.unchained its_bucket v small (k.chained its_bucket v small among) in
        let kept = is-left its_bucket v small among q in
        load-then (store_of from) (rule_of layout q.node) q.node q.loaded (k.holds.each q.node q.loaded q.here kept) (λ nf e f.
        let here : (store_of between).entry v ≡ Some e = sym (done.partly.shown.store.store.entry v (λ claim has. refl)) ∙ ap (store_of from).entry (sym q.record_is ∙ f.facts.contents_is) ∙ f.entry in
        seals-stand image q.node q.loaded q.here kept (subst (λ (x : ℕ). SameOutside (record_range x) between image) (sym q.record_is) u.keeps.outside)
        (subst (λ (x : ℕ). entry_is_sealed (entry_at image x) ≡ true) (sym q.record_is) (again-sealed between image was.contents v e here bytes again)) n m is stays sealed)

    -- what lies in unlinked places is apart from each record of a chain
    unlinked-apart : (bucket v : ℕ) → bucket < 65536 → is_among (chains bucket) v ≡ true → (c : Claim) → has_claim (claims_of_all unlinked) c ≡ true → has_claim (claims_of v) c ≡ false
    unlinked-apart bucket v small among c has =
        let q : IsListedRecord state layout v = k.lies.unchained bucket v small (k.chained bucket v small among) in
        ⊎_elim
        (λ (h : has_claim (claims_of v) c ≡ true).
        let its : layout.owner c ≡ Some q.node = k.lies.own q.node q.loaded c q.here (contents-claims q.loaded c (ap (λ (w : ℕ). has_claim (claims_of w) c) q.record_is ∙ h)) in
        let z : ◌≡◌ {A = Option ℕ} None (Some q.node) = sym (k.free c has) ∙ groups.still-owned state layout keep k.numbers k.lies k.owners c q.node its (is-left bucket v small among q) in
        absurd (cc))
        (λ (h : has_claim (claims_of v) c ≡ false). h)
        (cases_Bool (has_claim (claims_of v) c))

    -- so it keeps its checksums
    unlinked-sealed : (image : Image) (o : Option ℕ) → StandsBehind (chains its_bucket) was.contents o left.lies.prefix left.lies.suffix → IsUnlinked between was.contents o image
        → (s n : ℕ) (l : Loaded) → load (store_of between) (unchained_rule s) n ≡ Ok l → ((c : Claim) → has_claim (all_claims l) c ≡ true → has_claim (claims_of_all unlinked) c ≡ true) → AreSealed between l → AreSealed image l
    unlinked-sealed image None there u s n l loads_so among_so sealed = table-sealed between image (bucket_at between was.contents) l u.keeps.outside sealed
    unlinked-sealed image (Some v) there u s n l loads_so among_so sealed =
        let small : its_bucket < 65536 = mod_below (hash was.key) 65536 (lit< tt) in
        let among : is_among (chains its_bucket) v ≡ true = ap (λ (words : List ℕ). is_among words v) there ∙ among-front left.lies.prefix v (was.contents ∷ left.lies.suffix) in
        let q : IsListedRecord state layout v = k.lies.unchained its_bucket v small (k.chained its_bucket v small among) in
        let stands = standing-parts between blocks_256 v (subst (λ (w : ℕ). stands_as between blocks_256 w ≡ true) q.record_is (standing q.node q.loaded q.here (is-left its_bucket v small among q)).record_) in
        let clear : AreClear (has_claim (claims_of v)) l = all-clear (has_claim (claims_of v)) l (λ c has. unlinked-apart its_bucket v small among c (among_so c has)) in
        sealed-same (has_claim (claims_of v)) between image (updates-change between image v stands.0 (inr stands.1) u.keeps.outside).agree l (unlinked-stands between s n l loads_so) clear.node clear.contents sealed

pub left-may : LeftItemsMayGoOut
left-may state layout keep chains unlinked item was before from k left = record {
  listed = record {
    prefix = next.prefix state layout keep item k.valid left.lies.listed left.stays;
    suffix = next.suffix state layout keep item k.valid left.lies.listed left.stays;
    rest = subst (λ (nodes : List ℕ). HasListAtRest nodes from) (next.old-nodes state layout keep item k.valid left.lies.listed left.stays) k.list;
  };
  chained = λ between bytes done. can-go layout chains between (whole state layout keep chains unlinked item was before from k left between done) was.contents before left.lies.prefix left.lies.suffix (stands state layout keep chains unlinked item was before from k left between done) bytes;
}

pub left-out : TakenOutItemsAreOut
left-out state layout keep chains unlinked item was before from image k left t =
    let all = whole state layout keep chains unlinked item was before from k left t.between t.unlisted in
    let behind = stands state layout keep chains unlinked item was before from k left t.between t.unlisted in
    one-more-out state layout keep chains unlinked item was from t.between image k left.lies.listed left.stays left.lies.here t.unlisted
    (goes-out layout chains t.between all was.contents before left.lies.prefix left.lies.suffix behind image t.unlinked)
    (leaves-files layout chains t.between all was.contents before left.lies.prefix left.lies.suffix behind image t.unlinked)
    (seals state layout keep chains unlinked item was before from k left t.between t.unlisted image before left.lies.stands t.unlinked t.sealed t.bytes)

pub left-loads : TakenOutItemsLoad
left-loads state layout keep chains unlinked item was before from image k left t =
    let all = whole state layout keep chains unlinked item was before from k left t.between t.unlisted in
    let behind = stands state layout keep chains unlinked item was before from k left t.between t.unlisted in
    let unlinking = goes-out layout chains t.between all was.contents before left.lies.prefix left.lies.suffix behind image t.unlinked in
    let stays = here-stays state layout keep chains unlinked item was before from k left in
    let normal = k.lies.normal (layout.place item) (is_among-node layout state.uses item left.lies.listed) in (
      subst (λ (s : ℕ). load (store_of image) (unchained_rule s) (layout.place item) ≡ Ok was) normal (still-loads state layout keep chains unlinked item was from t.between image k left.lies.listed left.stays left.lies.here t.unlisted unlinking (layout.place item) was left.lies.here stays),
      still-sealed state layout keep chains unlinked item was from t.between image k left.lies.listed left.stays left.lies.here t.unlisted unlinking
          (leaves-files layout chains t.between all was.contents before left.lies.prefix left.lies.suffix behind image t.unlinked)
          (seals state layout keep chains unlinked item was before from k left t.between t.unlisted image before left.lies.stands t.unlinked t.sealed t.bytes) (layout.place item) was left.lies.here stays,
    )

pub left-keeps : TakenOutItemsKeepUnlinked
left-keeps state layout keep chains unlinked item was before from image k left t s n l u =
    let all = whole state layout keep chains unlinked item was before from k left t.between t.unlisted in
    let behind = stands state layout keep chains unlinked item was before from k left t.between t.unlisted in
    let unlinking = goes-out layout chains t.between all was.contents before left.lies.prefix left.lies.suffix behind image t.unlinked in
    let there : load (store_of t.between) (unchained_rule s) n ≡ Ok l = records-outside (λ claim. false) (store_of from) (store_of t.between) s n l u.loads t.unlisted.partly.shown.store.store (λ claim has. refl) in
    let sealed = between-sealed state layout keep chains unlinked item was from t.between image k left.lies.listed left.stays left.lies.here t.unlisted unlinking l (unlinked-stands from s n l u.loads) u.sealed in
    record {
      loads = records-unlinked (store_of t.between) (store_of image) s n unlinking.word l there u.once unlinking.only
          (inr (λ c has. unlinked-apart state layout keep chains unlinked item was before from k left t.between t.unlisted unlinking.bucket unlinking.word unlinking.small unlinking.chained c (u.among c has)));
      sealed = unlinked-sealed state layout keep chains unlinked item was before from k left t.between t.unlisted image before left.lies.stands t.unlinked s n l there u.among sealed;
      among = u.among;
      once = u.once;
    }

pub unlinked-find : UnlinkedItemsFindDoomed
unlinked-find state layout keep chains unlinked item was before number object from image k left at others m = by m.moment where
  all : (other : ℕ) → other < 65536 → IsChain (store_of m.between) other (chains other)
  all = whole state layout keep chains unlinked item was before from k left m.between m.unlisted

  behind : StandsBehind (chains (bucket_at m.between was.contents)) was.contents before left.lies.prefix left.lies.suffix
  behind = stands state layout keep chains unlinked item was before from k left m.between m.unlisted

  by : IsYetLinked m.between was.contents before image ⊎ IsUnlinked m.between was.contents before image → Finds (rest (doomed number state (Some object))) image
  by (inl yet) = unlinking-items-find state layout number object keep chains unlinked item from m.between image at others k left.lies.listed left.stays m.unlisted (yet-in layout chains m.between all was.contents before left.lies.prefix left.lies.suffix behind image yet)
  by (inr out) = out-finds state layout keep chains unlinked item was from m.between image k left.lies.listed left.stays left.lies.here m.unlisted (goes-out layout chains m.between all was.contents before left.lies.prefix left.lies.suffix behind image out) number object at others

pub going-parts : GoingPartsFindDoomed
going-parts state layout keep chains unlinked n was before number object from image k left at others (inl partly) =
    next-parts-find state layout number object keep chains unlinked n from image at others k left.lies.listed left.stays partly
going-parts state layout keep chains unlinked n was before number object from image k left at others (inr m) =
    unlinked-find state layout keep chains unlinked (part object.key n) was before number object from image k left at ((own-items-leave object.key).1 keep n others) m

either-of : (b : Bool) (state after : State) (image : Image) → Finds (if b then rest state else rest after) image → Finds (rest state) image ⊎ Finds (rest after) image
either-of true state after image found = inl found
either-of false state after image found = inr found

pub going-mains : GoingMainsFindEither
going-mains state layout unlinked was before number object from image k lies at live (inl partly) =
    either-of (nat_lt partly.made 2) state (doomed number state (Some object)) image (dooms-find state layout unlinked from image number object k at live partly)
going-mains state layout unlinked was before number object from image k lies at live (inr m) =
    inr (unlinked-find state layout (λ i. true) layout.chains unlinked (main object.key) was before number object from image (kept-begin state layout unlinked from k)
    (record { stays = refl; lies = record { listed = lies.listed; here = lies.here; prefix = lies.prefix; suffix = lies.suffix; stands = lies.stands } }) at (own-items-leave object.key).0 m)

-- a part that is removed alone leaves a state without it
abbrev PartIsGone : State → Object → ℕ → ℕ → Type 0
PartIsGone state object number n = IsWithout state (slice_set state.objects number (Some (without_part object n))) (λ item. not (same_item item (part object.key n))) (part object.key n)
    × (without_items state (slice_set state.objects number (Some (without_part object n))) (λ item. not (same_item item (part object.key n))) ≡ without (single object.key n ∷ []) state)

pub going-lone-parts : GoingLonePartsFindEither
going-lone-parts state layout unlinked n was before number object from image k lies at live some going = by (going-removing state layout unlinked (part object.key n) was before from image k lies going) where
  gone : PartIsGone state object number n
  gone = part-gone-without state number n object k.valid at live some

  by : IsMidRemoving layout (part object.key n) was from image → Finds (rest state) image ⊎ Finds (rest (without (single object.key n ∷ []) state)) image
  by (inl partly) = either-of (nat_lt partly.made 2) state (without (single object.key n ∷ []) state) image
      (subst (λ (m : State). Finds (if nat_lt partly.made 2 then rest state else rest m) image) gone.1
      (removals-find state layout unlinked (slice_set state.objects number (Some (without_part object n))) (λ item. not (same_item item (part object.key n))) (part object.key n) was from image k gone.0 lies.here partly))
  by (inr (inl r)) = inr ((removing-part state layout unlinked from image number n object was k at live some).0 r)
  by (inr (inr r)) = inr ((removing-part state layout unlinked from image number n object was k at live some).1 r)
