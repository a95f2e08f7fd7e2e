-- A change of what unlinked words name keeps the state.
use Rattle.std.proofs.Common.{◌≡◌, ℕ, List, ◌++◌, ap, sym, ◌∙◌, subst, ⊎_elim, Bool, true, false, Ok, Option, None, Some}
use Rattle.std.proofs.lemmas.Bool.{cases_Bool, or_left}
use Rattle.blk_model.specs.State.{State}
use Rattle.spec_image.specs.Image.{Image}
use Rattle.spec_format.specs.Address.{rankings, blocks_256}
use Rattle.spec_format.specs.Claims.{Claim, claims_of, claims_of_all, has_claim}
use Rattle.spec_format.specs.Records.{Node, Entry, node_is_sealed, entry_is_sealed}
use Rattle.spec_folder.specs.View.{NodeFields, RecordFields, fields_at, node_fields_at, stands_as, store_of, view_of}
use Rattle.spec_folder.specs.Loads.{Loaded, load}
use Rattle.spec_folder.specs.Footprint.{AgreeBut, IsClear, IsFree}
use Rattle.spec_folder.specs.Layout.{Layout, rule_of, Represents}
use Rattle.spec_folder.specs.Sound.{AreSealed}
use Rattle.law_folder.proofs.claims.Allocations.{flat_map-append}
use Rattle.law_folder.proofs.claims.ByteChanges.{agreeing-views, entry-same, node-same}
use Rattle.law_folder.proofs.claims.ClaimLists.{claim-append}
use Rattle.law_folder.proofs.walks.Loads.{load-then}
use Rattle.law_folder.proofs.claims.Outside.{AreClear, clear-at, represents-outside}
use Rattle.law_state.specs.Keeping.{AllAreSealed, AreMarkedBy, IsInSession, KeepsUncounted}
use Rattle.law_state.specs.Changes.{AreOfWords, ChangesOnly, SameSession}
use Rattle.law_state.specs.ChangeLaws.{UnlinkedPlacesMayChange, WhatIsKeptIsFound, SameCountersCountTheSame}
use Rattle.law_state.proofs.Headers.{files-same, stand-same}
use Rattle.law_state.proofs.Keeping.{kept-held}

-- what is loaded is a node and a record that are there
pub record AreStanding (image : Image) (l : Loaded) : Type 0 where
  pub node : stands_as image rankings l.node ≡ true
  pub record_ : stands_as image blocks_256 l.contents ≡ true

node-there : (image : Image) (w : ℕ) (n : NodeFields) → node_fields_at image w ≡ Some n → stands_as image rankings w ≡ true
unfolding node_fields_at
node-there image w n e = ⊎_elim (λ (s : stands_as image rankings w ≡ true). s) (λ (s : stands_as image rankings w ≡ false). absurd (let none : ◌≡◌ {A = Option NodeFields} None (Some n) = rw s at e in cc)) (cases_Bool (stands_as image rankings w))

record-there : (image : Image) (w : ℕ) (e : RecordFields) → fields_at image w ≡ Some e → stands_as image blocks_256 w ≡ true
unfolding fields_at
record-there image w f e = ⊎_elim (λ (s : stands_as image blocks_256 w ≡ true). s) (λ (s : stands_as image blocks_256 w ≡ false). absurd (let none : ◌≡◌ {A = Option RecordFields} None (Some f) = rw s at e in cc)) (cases_Bool (stands_as image blocks_256 w))

pub standing-loaded : (image : Image) (layout : Layout) (node : ℕ) (l : Loaded) → load (store_of image) (rule_of layout node) node ≡ Ok l → AreStanding image l
unfolding store_of
standing-loaded image layout node l loads = load-then (store_of image) (rule_of layout node) node l loads (λ n e f. record {
  node = subst (λ (x : ℕ). stands_as image rankings x ≡ true) (sym f.facts.node_is) (node-there image node n f.node);
  record_ = subst (λ (x : ℕ). stands_as image blocks_256 x ≡ true) (sym f.facts.contents_is) (record-there image n.contents e f.entry);
})

pub standing-at : (image : Image) (state : State) (layout : Layout) → Represents (view_of image) state layout → (node : ℕ) (l : Loaded) → layout.at node ≡ Some l → AreStanding image l
standing-at image state layout r node l here = standing-loaded image layout node l (r.holds.shows.each node l here)

-- checksums outside a change
pub sealed-same : (touched : Claim → Bool) (from image : Image) → AgreeBut touched from image → (l : Loaded) → AreStanding from l → IsClear touched l.node → IsClear touched l.contents → AreSealed from l → AreSealed image l
sealed-same touched from image agree l st node contents s = record {
  node = ap (λ (n : Node). node_is_sealed n) (node-same touched from image agree l.node st.node node) ∙ s.node;
  entry = ap (λ (e : Entry). entry_is_sealed e) (entry-same touched from image agree l.contents st.record_ contents) ∙ s.entry;
}

pub session-same : (from image : Image) (state : State) (layout : Layout) → SameSession from image → IsInSession from state layout → IsInSession image state layout
session-same from image state layout same s = record {
  crash = same.crash ∙ s.crash;
  id = λ e. s.id (sym same.id ∙ e);
  marked = subst (λ (x : ℕ). AreMarkedBy x state layout) (sym same.id) s.marked;
}

module _ (touched : Claim → Bool) (words : List ℕ) (from image : Image) (of : AreOfWords touched words) (only : ChangesOnly touched from image) (state : State) (layout : Layout) (unlinked : List ℕ) (k : KeepsUncounted state layout (words ++ unlinked) from) where
  free : IsFree touched layout
  free claim node is = ⊎_elim
      (λ (e : touched claim ≡ true).
      let among : has_claim (claims_of_all (words ++ unlinked)) claim ≡ true =
      ap (λ (cs : List Claim). has_claim cs claim) (flat_map-append claims_of words unlinked) ∙ claim-append (claims_of_all words) (claims_of_all unlinked) claim
      ∙ or_left (has_claim (claims_of_all words) claim) (has_claim (claims_of_all unlinked) claim) (of claim e) in
      let none = k.unlinked_words.free claim among in
      absurd (let c : ◌≡◌ {A = Option ℕ} None (Some node) = sym none ∙ is in cc))
      (λ (e : touched claim ≡ false). e)
      (cases_Bool (touched claim))

  sealed : AllAreSealed image layout
  sealed node l here =
      let clear : AreClear touched l = clear-at touched state layout free k.represents.holds.lies node l here in
      sealed-same touched from image only.agree l (standing-at from state layout k.represents node l here) clear.node clear.contents (k.sealed node l here)

  kept-free : KeepsUncounted state layout (words ++ unlinked) image
  kept-free = record {
    valid = k.valid;
    sound = only.well_formed.sound k.sound;
    represents = represents-outside touched (view_of from) (view_of image) state layout (agreeing-views touched from image only.agree) free k.represents;
    numbers = k.numbers;
    owners = k.owners;
    files = files-same from image only.headers _ k.sound k.files;
    unlinked_words = record { stand = stand-same from image only.headers (words ++ unlinked) k.unlinked_words.stand; free = k.unlinked_words.free; single = k.unlinked_words.single };
    sealed = sealed;
    session = session-same from image state layout only.session k.session;
  }

pub unlinked-change : UnlinkedPlacesMayChange
unlinked-change touched words from image of only state layout unlinked k = kept-free touched words from image of only state layout unlinked k

pub then-found : WhatIsKeptIsFound
then-found before after from image keeps state layout unlinked k = let now = keeps state layout unlinked k in (now.sound, kept-held state layout (after ++ unlinked) image now)

pub same-counted : SameCountersCountTheSame
same-counted state layout before after from image k now same = record {
  entries = now;
  counters = same ∙ k.counters;
}
