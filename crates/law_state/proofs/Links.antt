-- Words of the table and links of records, and changes inside what is a node's.
use Rattle.std.proofs.Common.{◌≡◌, ℕ, List, ◌∷◌, ◌++◌, length, refl, ap, sym, ◌∙◌, subst, arith, Bool, true, false, Option, None, Some, inr, ⊎_elim, length-append}
use Rattle.std.specs.Prelude.{◌&&◌, ◌==◌}
use Rattle.std.specs.List.{cons_option, filter_map, sum_by}
use Rattle.std.specs.Option.{option_map_or}
use Rattle.std.proofs.lemmas.Bool.{cases_Bool, eqb-true}
use Rattle.std.proofs.lemmas.List.Sums.{sum_by-cons}
use Rattle.spec_image.specs.Image.{Image}
use Rattle.spec_image.proofs.Runs.{some_inj}
use Rattle.spec_format.specs.Address.{blocks_256, kind_of, rankings}
use Rattle.spec_format.specs.BlockFiles.{is_among}
use Rattle.spec_format.specs.Claims.{Claim, claims_of, has_claim}
use Rattle.spec_format.specs.Records.{Node, node_is_sealed}
use Rattle.spec_folder.specs.Chains.{bucket_of_hash}
use Rattle.spec_folder.specs.Found.{charge_of}
use Rattle.spec_folder.specs.Footprint.{AgreeBut, IsClear, OnlyLinksChange, SameBut, SameNodeLinks}
use Rattle.spec_folder.specs.Layout.{nodes_of}
use Rattle.spec_folder.specs.ListView.{Distinct, ListView, put}
use Rattle.spec_folder.specs.Loads.{Loaded}
use Rattle.spec_folder.specs.Sound.{AreSealed}
use Rattle.spec_folder.specs.View.{RecordFields, StoreView, list_of, stands_as, store_of, view_of}
use Rattle.law_folder.proofs.claims.ByteChanges.{agreeing-views, node-same}
use Rattle.law_folder.proofs.lists.Lists.{has_not}
use Rattle.law_folder.proofs.states.Moving.{moved-same, sums-add}
use Rattle.law_folder.proofs.commands.Opening.{IsAround, around}
use Rattle.law_folder.proofs.updates.StillShown.{standing-parts}
use Rattle.law_state.specs.LinkLaws.{ChainNextsChangeLinks, ChainNextsLeaveSeals, DataChangesAreInside, RecordUpdatesAreInside, RemovedItemsAreOneLess, TableWordsChangeLinks, TableWordsLeaveFiles, TableWordsLeaveSeals}
use Rattle.law_state.proofs.AtNodes.{contents-apart, free-but, node-of-it, others-outside, record-own, updates-change}
use Rattle.law_state.proofs.Free.{AreStanding, sealed-same, standing-at}
use Rattle.law_state.proofs.Headers.{stands-same}
use Rattle.law_state.proofs.NewEntries.{table-leaves, table-seals}
use Rattle.law_state.proofs.NodeChanges.{others-at}
use Rattle.law_state.proofs.Removals.{kept-items, new-order, old-order}

-- ---- the table

pub table-links : TableWordsChangeLinks
table-links from image bucket w word is = subst (λ (s : StoreView). OnlyLinksChange word (store_of from) s) (sym is) (record {
  beside = record { node_fields = λ u. refl; key_place = λ u e a b c d. refl; stored = λ s u c. refl };
  entry = λ u. refl;
})

pub table-files : TableWordsLeaveFiles
table-files from image bucket same formed = table-leaves bucket from image same formed

pub table-sealed : TableWordsLeaveSeals
table-sealed from image bucket loaded same s = table-seals bucket from image loaded same s

-- ---- a link

pub next-links : ChainNextsChangeLinks
next-links from image w only = record {
  beside = record { node_fields = only.rest.node_fields; key_place = only.rest.key_place; stored = only.rest.stored };
  entry = only.entry;
}

pub next-sealed : ChainNextsLeaveSeals
next-sealed state layout unlinked from between image node was k leaves here same done other loaded is before = ⊎_elim
    (λ (e : (node == other) ≡ true).
    let it : was ≡ loaded = some_inj (sym here ∙ ap layout.at (eqb-true node other e) ∙ is) in
    subst (λ (x : Loaded). AreSealed image x) it (record {
      node = ap (λ (n : Node). node_is_sealed n) (node-same (has_claim (claims_of was.contents)) between image agree was.node (standing node was here).node node-clear) ∙ (subst (λ (x : Loaded). AreSealed between x) (sym it) before).node;
      entry = done;
    }))
    (λ (e : (node == other) ≡ false).
    let clear = others-outside state layout unlinked from k node other loaded (has_claim (claims_of was.contents)) (free-but state layout unlinked from k node was here (has_claim (claims_of was.contents)) (record-own state layout unlinked from k node was here)) e is in
    sealed-same (has_claim (claims_of was.contents)) between image agree loaded (standing other loaded is) clear.node clear.contents before)
    (cases_Bool (node == other))
  where
    standing : (n : ℕ) (l : Loaded) → layout.at n ≡ Some l → AreStanding between l
    standing n l at =
        let s = standing-at from state layout k.represents n l at in
        record { node = stands rankings l.node s.node; record_ = stands blocks_256 l.contents s.record_ }
      where
        stands : (kind w : ℕ) → stands_as from kind w ≡ true → stands_as between kind w ≡ true
        stands kind w e = ap (λ (f : ℕ → Bool). f w && (kind_of w == kind)) (stands-same from between leaves.headers) ∙ e

    agree : AgreeBut (has_claim (claims_of was.contents)) between image
    agree =
        let a = standing-parts between blocks_256 was.contents (standing node was here).record_ in
        (updates-change between image was.contents a.0 (inr a.1) same).agree

    node-clear : IsClear (has_claim (claims_of was.contents)) was.node
    node-clear c e = ⊎_elim
        (λ (h : has_claim (claims_of was.contents) c ≡ true). absurd (let z : true ≡ false = sym e ∙ ap (λ (x : ℕ). has_claim (claims_of x) c) (node-of-it state layout unlinked from k node was here) ∙ flip c h in cc))
        (λ (h : has_claim (claims_of was.contents) c ≡ false). h)
        (cases_Bool (has_claim (claims_of was.contents) c))
      where
        flip : (c : Claim) → has_claim (claims_of was.contents) c ≡ true → has_claim (claims_of node) c ≡ false
        flip c h = contents-apart state layout unlinked from k node was here c h

-- ---- inside

same-lists : (from image : Image) (node : ℕ) → list_of image ≡ list_of from → SameNodeLinks node (list_of from) (list_of image)
same-lists from image node e = record { checks = ap (λ (ls : ListView). ls.checks node) (sym e); next = ap (λ (ls : ListView). ls.next node) (sym e); prev = ap (λ (ls : ListView). ls.prev node) (sym e) }

of-bucket : (e f : Option RecordFields) → e ≡ f → (bucket : ℕ) → option_map_or (λ (fields : RecordFields). fields.checks && (bucket_of_hash fields.hash == bucket)) e false ≡ option_map_or (λ (fields : RecordFields). fields.checks && (bucket_of_hash fields.hash == bucket)) f false
of-bucket e f same bucket = ap (λ (o : Option RecordFields). option_map_or (λ (fields : RecordFields). fields.checks && (bucket_of_hash fields.hash == bucket)) o false) same

pub data-inside : DataChangesAreInside
data-inside touched layout from image node loaded only apart node_clear contents_clear =
    let same : SameBut touched (view_of from) (view_of image) = agreeing-views touched from image only.agree in
    record {
      apart = apart;
      node_fields = sym (same.store.node_fields node node_clear);
      bucket = of-bucket ((store_of image).entry loaded.contents) ((store_of from).entry loaded.contents) (sym (same.store.entry loaded.contents contents_clear));
      chain_next = sym (same.store.chain_next loaded.contents contents_clear);
      links = record { checks = same.links.checks node node_clear; next = same.links.next node node_clear; prev = same.links.prev node node_clear };
    }

pub updates-are-inside : RecordUpdatesAreInside
updates-are-inside state layout unlinked from image node loaded was now k here only old new checks hashes = record {
  apart = free-but state layout unlinked from k node loaded here (has_claim (claims_of loaded.contents)) (record-own state layout unlinked from k node loaded here);
  node_fields = sym (only.rest.node_fields node);
  bucket = λ bucket. of-bucket ((store_of image).entry loaded.contents) (Some now) new bucket ∙ (λ i. checks i && (bucket_of_hash (hashes i) == bucket)) ∙ sym (of-bucket ((store_of from).entry loaded.contents) (Some was) old bucket);
  chain_next = sym (only.chain_next loaded.contents);
  links = same-lists from image node only.rest.list;
}

-- ---- counting

pub removed-less : RemovedItemsAreOneLess
removed-less state layout unlinked objects keep item was from k w here = record {
  items =
      let kept = ap length (kept-items state layout unlinked objects keep item was from k w here) in
      let one = length-append a.before a.suffix in
      let two = length-append a.before (item ∷ a.suffix) in
      let all = ap length a.is in
      omega (arith, kept, one, two, all);
  bytes =
      let now = ap (λ (ns : List ℕ). sum_by charge_of (filter_map (put layout.at (layout.place item) None) ns)) (new-order state layout unlinked objects keep item was from k w here)
      ∙ ap (sum_by charge_of) (others-at layout.at (layout.place item) None (before ++ behind) apart) in
      let old = ap (λ (ns : List ℕ). sum_by charge_of (filter_map layout.at ns)) (old-order state layout unlinked objects keep item was from k w here)
      ∙ sym (moved-same (λ (ns : List ℕ). sum_by charge_of (filter_map layout.at ns)) (sums-add charge_of layout.at) before (layout.place item) behind)
      ∙ ap (λ (o : Option Loaded). sum_by charge_of (cons_option o (filter_map layout.at (before ++ behind)))) here
      ∙ sum_by-cons charge_of was (filter_map layout.at (before ++ behind)) in
      omega (arith, now, old);
} where
  a : IsAround item state.uses
  a = around item state.uses w.listed (k.valid.once item)

  before : List ℕ
  before = nodes_of layout a.before

  behind : List ℕ
  behind = nodes_of layout a.suffix

  apart : is_among (before ++ behind) (layout.place item) ≡ false
  apart = has_not before (layout.place item) behind (subst Distinct (old-order state layout unlinked objects keep item was from k w here) k.represents.list.distinct)
