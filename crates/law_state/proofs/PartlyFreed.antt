-- While items are removed one after another, blocks of what is out are freed.
use Rattle.std.proofs.Common.{◌≡◌, ℕ, ◌<◌, List, ◌∷◌, ap, sym, ◌∙◌, subst, Bool, true, false, Option, Some, None, ⊎_elim}
use Rattle.std.specs.Prelude.{filter}
use Rattle.std.proofs.lemmas.Bool.{and_parts, cases_Bool, eq-eqb, or_left, or_right}
use Rattle.spec_image.specs.Image.{Image}
use Rattle.blk_model.specs.Items.{Item}
use Rattle.blk_model.specs.State.{State}
use Rattle.spec_format.specs.BlockFiles.{is_among}
use Rattle.spec_format.specs.Claims.{Claim, claims_of, claims_of_all, has_claim}
use Rattle.spec_folder.specs.Footprint.{AgreeBut, IsClear, SameBut, is_absent}
use Rattle.spec_folder.specs.Layout.{HoldsExcept, IsListedRecord, IsPlacedAt, Layout, is_in, nodes_of, rule_of}
use Rattle.spec_folder.specs.ListView.{IsList}
use Rattle.spec_folder.specs.Loads.{Loaded}
use Rattle.spec_folder.specs.Sound.{AreSealed, words_of}
use Rattle.spec_folder.specs.Tidy.{loaded_at}
use Rattle.spec_folder.specs.View.{list_of, store_of, view_of}
use Rattle.law_folder.proofs.claims.Allocations.{words-claims, words-stand}
use Rattle.law_folder.proofs.claims.ClaimLists.{claim-append}
use Rattle.law_folder.proofs.claims.ByteChanges.{agreeing-views}
use Rattle.law_folder.proofs.claims.Files.{words-there}
use Rattle.law_folder.proofs.claims.Outside.{AreClear, all-clear, list-outside}
use Rattle.law_folder.proofs.commands.Removing.{in-filter}
use Rattle.law_folder.proofs.states.Laid.{IsNodeOf, node-of, repeats-tail}
use Rattle.law_folder.proofs.states.OthersHold.{others-outside}
use Rattle.law_folder.proofs.walks.Shown.{node-is}
use Rattle.law_state.specs.GroupLaws.{gone_nodes}
use Rattle.law_state.specs.Keeping.{words_in_use}
use Rattle.law_state.specs.PartlyOut.{BlocksAreFreedPartlyOut, FilesAreDeletedPartlyOut, KeepsPartlyOut, WhatIsOutMayChange, left_nodes}
use Rattle.law_state.proofs.Free.{sealed-same, session-same, standing-loaded}
use Rattle.law_state.proofs.Freeing as freeing
use Rattle.law_state.proofs.Groups as groups
use Rattle.law_state.proofs.Headers.{files-same, stand-same}
use Rattle.law_state.proofs.MakingFiles as making
use Rattle.law_state.proofs.Touched.{words_at}
use Rattle.law_state.specs.Changes.{RemovesExternal}
use Rattle.std.proofs.lemmas.Bool.{or_from}
use Rattle.std.proofs.lemmas.Grind.{flat_map-append}
use Rattle.law_folder.proofs.states.Marking.{repeats-apart}

-- what a change outside what is left leaves
module _ (touched : Claim → Bool) (state : State) (layout : Layout) (keep : Item → Bool) (chains : ℕ → List ℕ) (unlinked : List ℕ) (from image : Image) (k : KeepsPartlyOut state layout keep chains unlinked from) (agree : AgreeBut touched from image)
    (apart : (claim : Claim) (node : ℕ) → layout.owner claim ≡ Some node → is_among (gone_nodes state layout keep) node ≡ false → touched claim ≡ false) where
  abbrev gone : List ℕ
  gone = gone_nodes state layout keep

  same : SameBut touched (view_of from) (view_of image)
  same = agreeing-views touched from image agree

  clear-left : (n : ℕ) (l : Loaded) → layout.at n ≡ Some l → is_among gone n ≡ false → AreClear touched l
  clear-left n l is stays = all-clear touched l (λ c has. apart c n (k.lies.own n l c is has) stays)

  clear-chain : (bucket contents : ℕ) → bucket < 65536 → is_among (chains bucket) contents ≡ true → IsClear touched contents
  clear-chain bucket contents small among =
      let q : IsListedRecord state layout contents = k.lies.unchained bucket contents small (k.chained bucket contents small among) in
      let kept : is_among gone q.node ≡ false = ⊎_elim
      (λ (e : is_among gone q.node ≡ true). absurd (let z : true ≡ false = sym (eq-eqb contents q.loaded.contents (sym q.record_is)) ∙ k.out bucket contents small among q.node q.loaded e q.here in cc))
      (λ (e : is_among gone q.node ≡ false). e)
      (cases_Bool (is_among gone q.node)) in
      subst (IsClear touched) q.record_is (clear-left q.node q.loaded q.here kept).contents

  pub holds-still : HoldsExcept (is_among gone) (store_of image) state (record layout { chains = chains })
  holds-still = others-outside touched (is_among gone) (store_of from) (store_of image) state (record layout { chains = chains }) k.holds same.store same.table apart clear-chain

  clear-node : (n : ℕ) → is_among (nodes_of layout (filter keep state.uses)) n ≡ true → IsClear touched n
  clear-node n there =
      let a : IsNodeOf layout (filter keep state.uses) n = node-of layout (filter keep state.uses) n there in
      let both = and_parts (keep a.item) (is_in state.uses a.item) (sym (in-filter keep state.uses a.item) ∙ a.among) in
      let l : IsPlacedAt state layout a.item = k.lies.laid a.item both.1 in
      let stays : is_among gone (layout.place a.item) ≡ false = groups.stay-apart state layout keep k.numbers k.lies k.owners (layout.place a.item) (groups.stays-in state layout keep k.numbers k.lies k.owners a.item both.1 both.0) in
      subst (IsClear touched) (node-is (store_of from) (rule_of layout (layout.place a.item)) (layout.place a.item) l.loaded (k.holds.each (layout.place a.item) l.loaded l.here stays) ∙ a.is) (clear-left (layout.place a.item) l.loaded l.here stays).node

  pub list-still : IsList (list_of image) (nodes_of layout (filter keep state.uses))
  list-still = list-outside touched (list_of from) (list_of image) (nodes_of layout (filter keep state.uses)) same.links clear-node k.list.whole

  pub idle-still : (list_of image).transaction ≡ 0
  idle-still = sym same.links.transaction ∙ k.list.idle

  pub sealed-left : (n : ℕ) (l : Loaded) → layout.at n ≡ Some l → is_among gone n ≡ false → AreSealed image l
  sealed-left n l is stays =
      let clear = clear-left n l is stays in
      sealed-same touched from image agree l (standing-loaded from layout n l (k.holds.each n l is stays)) clear.node clear.contents (k.sealed n l is stays)

-- what is left is valid
pub left-there : (state : State) (layout : Layout) (keep : Item → Bool) (chains : ℕ → List ℕ) (unlinked : List ℕ) (from : Image) → KeepsPartlyOut state layout keep chains unlinked from
    → (claim : Claim) (node : ℕ) → layout.owner claim ≡ Some node → is_among (gone_nodes state layout keep) node ≡ false → is_absent from claim ≡ false
left-there state layout keep chains unlinked from k claim node is stays =
    let o = k.owners.exact claim node is in
    words-there from (words_of o.loaded) claim (words-stand from o.loaded (rule_of layout node, node, k.holds.each node o.loaded o.here stays)) (ap (λ (cs : List Claim). has_claim cs claim) (words-claims o.loaded) ∙ o.claims)

pub blocks-freed : BlocksAreFreedPartlyOut
blocks-freed state layout keep chains w unlinked from image k a = record {
  valid = k.valid;
  sound = a.headers.sound k.sound;
  lies = k.lies;
  list = record { whole = list-still touched state layout keep chains (w ∷ unlinked) from image k agree (left-there state layout keep chains (w ∷ unlinked) from k); idle = idle-still touched state layout keep chains (w ∷ unlinked) from image k agree (left-there state layout keep chains (w ∷ unlinked) from k) };
  holds = holds-still touched state layout keep chains (w ∷ unlinked) from image k agree (left-there state layout keep chains (w ∷ unlinked) from k);
  chained = k.chained;
  out = k.out;
  numbers = k.numbers;
  owners = k.owners;
  files = freeing.files w from image a others k.files k.stand.0;
  stand = freeing.still w from image a others k.files k.stand.0 unlinked k.stand.1;
  free = λ claim has. k.free claim (claim-append (claims_of w) (claims_of_all unlinked) claim ∙ or_right (has_claim (claims_of w) claim) (has_claim (claims_of_all unlinked) claim) has);
  single = repeats-tail (claims_of w) (claims_of_all unlinked) k.single;
  sealed = sealed-left touched state layout keep chains (w ∷ unlinked) from image k agree (left-there state layout keep chains (w ∷ unlinked) from k);
  session = session-same from image state layout a.session k.session;
} where
  touched : Claim → Bool
  touched = is_absent from

  others : List ℕ
  others = words_in_use unlinked (loaded_at layout (left_nodes state layout keep k.numbers))

  agree : AgreeBut touched from image
  agree = freeing.agree w from image a others k.files k.stand.0

-- ---- an external file

module _ (state : State) (layout : Layout) (keep : Item → Bool) (chains : ℕ → List ℕ) (w : ℕ) (unlinked : List ℕ) (from image : Image) (k : KeepsPartlyOut state layout keep chains (w ∷ unlinked) from) (a : RemovesExternal from w image) where
  abbrev file : Claim → Bool
  file = making.gone w from image a

  abbrev in_use : List ℕ
  in_use = words_in_use unlinked (loaded_at layout (left_nodes state layout keep k.numbers))

  its : (claim : Claim) → file claim ≡ true → has_claim (claims_of_all (w ∷ unlinked)) claim ≡ true
  its claim e = claim-append (claims_of w) (claims_of_all unlinked) claim ∙ or_left (has_claim (claims_of w) claim) (has_claim (claims_of_all unlinked) claim) (making.claims-it w from image a claim ∙ e)

  -- what is freed belongs to nothing that is left
  file-apart : (claim : Claim) (node : ℕ) → layout.owner claim ≡ Some node → is_among (gone_nodes state layout keep) node ≡ false → file claim ≡ false
  file-apart claim node is stays = ⊎_elim
      (λ (e : file claim ≡ true). let z : ◌≡◌ {A = Option ℕ} None (Some node) = sym (k.free claim (its claim e)) ∙ groups.still-owned state layout keep k.numbers k.lies k.owners claim node is stays in absurd (cc))
      (λ (e : file claim ≡ false). e)
      (cases_Bool (file claim))

  others-lack : (claim : Claim) → has_claim (claims_of_all unlinked) claim ≡ true → file claim ≡ false
  others-lack claim e = ⊎_elim
      (λ (t : file claim ≡ true). absurd (let z : true ≡ false = sym e ∙ repeats-apart (claims_of w) (claims_of_all unlinked) claim k.single (making.claims-it w from image a claim ∙ t) in cc))
      (λ (t : file claim ≡ false). t)
      (cases_Bool (file claim))

  alone : (claim : Claim) → file claim ≡ true → has_claim (claims_of_all in_use) claim ≡ false
  alone claim e = ap (λ (cs : List Claim). has_claim cs claim) (flat_map-append claims_of unlinked (words_at layout.at (left_nodes state layout keep k.numbers))) ∙ claim-append (claims_of_all unlinked) (claims_of_all (words_at layout.at (left_nodes state layout keep k.numbers))) claim
      ∙ or_from (has_claim (claims_of_all unlinked) claim) (has_claim (claims_of_all (words_at layout.at (left_nodes state layout keep k.numbers))) claim)
      (⊎_elim (λ (t : has_claim (claims_of_all unlinked) claim ≡ true). absurd (let z : true ≡ false = sym e ∙ others-lack claim t in cc)) (λ (t : has_claim (claims_of_all unlinked) claim ≡ false). t) (cases_Bool (has_claim (claims_of_all unlinked) claim)))
      (⊎_elim
      (λ (t : has_claim (claims_of_all (words_at layout.at (left_nodes state layout keep k.numbers))) claim ≡ true).
      let q = groups.claimed-by layout k.lies.own (left_nodes state layout keep k.numbers) claim t in
      absurd (let z : true ≡ false = sym e ∙ file-apart claim q.0 q.1.1 (groups.left-apart state layout keep k.numbers k.lies k.owners q.0 q.1.0) in cc))
      (λ (t : has_claim (claims_of_all (words_at layout.at (left_nodes state layout keep k.numbers))) claim ≡ false). t)
      (cases_Bool (has_claim (claims_of_all (words_at layout.at (left_nodes state layout keep k.numbers))) claim)))

  pub file-deleted : KeepsPartlyOut state layout keep chains unlinked image
  file-deleted = record {
    valid = k.valid;
    sound = a.headers.sound k.sound;
    lies = k.lies;
    list = record { whole = list-still file state layout keep chains (w ∷ unlinked) from image k a.agree file-apart; idle = idle-still file state layout keep chains (w ∷ unlinked) from image k a.agree file-apart };
    holds = holds-still file state layout keep chains (w ∷ unlinked) from image k a.agree file-apart;
    chained = k.chained;
    out = k.out;
    numbers = k.numbers;
    owners = k.owners;
    files = making.left-files w from image a in_use k.files alone;
    stand = making.left-stand w from image a unlinked others-lack k.stand.1;
    free = λ claim has. k.free claim (claim-append (claims_of w) (claims_of_all unlinked) claim ∙ or_right (has_claim (claims_of w) claim) (has_claim (claims_of_all unlinked) claim) has);
    single = repeats-tail (claims_of w) (claims_of_all unlinked) k.single;
    sealed = sealed-left file state layout keep chains (w ∷ unlinked) from image k a.agree file-apart;
    session = session-same from image state layout a.session k.session;
  }

pub files-deleted : FilesAreDeletedPartlyOut
files-deleted state layout keep chains w unlinked from image k a = file-deleted state layout keep chains w unlinked from image k a

-- ---- what is out

pub out-changes : WhatIsOutMayChange
out-changes touched state layout keep chains unlinked from image k only apart = record {
  valid = k.valid;
  sound = only.well_formed.sound k.sound;
  lies = k.lies;
  list = record { whole = list-still touched state layout keep chains unlinked from image k only.agree apart; idle = idle-still touched state layout keep chains unlinked from image k only.agree apart };
  holds = holds-still touched state layout keep chains unlinked from image k only.agree apart;
  chained = k.chained;
  out = k.out;
  numbers = k.numbers;
  owners = k.owners;
  files = files-same from image only.headers _ k.sound k.files;
  stand = stand-same from image only.headers unlinked k.stand;
  free = k.free;
  single = k.single;
  sealed = sealed-left touched state layout keep chains unlinked from image k only.agree apart;
  session = session-same from image state layout only.session k.session;
}
