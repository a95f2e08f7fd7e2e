-- Changes of the record at a node: what they leave.
use Rattle.std.proofs.Common.{◌≡◌, ℕ, List, refl, ap, sym, ◌∙◌, arith, Bool, true, false, Option, Some, ⊎_elim}
use Rattle.std.specs.Prelude.{◌==◌}
use Rattle.std.specs.List.{flat_map}
use Rattle.std.proofs.lemmas.Bool.{cases_Bool, eq-eqb, or_left}
use Rattle.spec_image.specs.Footprint.{SameOutside}
use Rattle.spec_image.specs.Image.{Image, Index, word}
use Rattle.spec_image.proofs.Footprints.{same_word_outside}
use Rattle.spec_format.specs.Address.{place}
use Rattle.spec_format.specs.Claims.{Claim, claims_of, has_claim}
use Rattle.spec_format.specs.Sealed.{record_range, record_size}
use Rattle.blk_model.specs.State.{State}
use Rattle.spec_folder.specs.Footprint.{IsClear, IsFreeBut}
use Rattle.spec_folder.specs.Layout.{Layout, rule_of}
use Rattle.spec_folder.specs.Loads.{Loaded, all_claims, record_claims}
use Rattle.spec_folder.specs.View.{store_of}
use Rattle.law_folder.proofs.claims.ClaimLists.{claim-append, contents-claims}
use Rattle.law_folder.proofs.claims.Inside.{record-blocky, record-inside}
use Rattle.law_folder.proofs.walks.Loads.{load-then}
use Rattle.law_folder.proofs.states.Marking.{repeats-apart}
use Rattle.law_folder.proofs.claims.Outside.{AreClear, all-clear}
use Rattle.law_state.specs.Keeping.{KeepsUncounted}
use Rattle.law_state.specs.RecordLaws.{RecordUpdatesChangeOnly, RecordUpdatesLeaveCounters}
use Rattle.law_state.proofs.Counts.{count-still}
use Rattle.law_state.proofs.Writes.{block-writes}

pub updates-change : RecordUpdatesChangeOnly
updates-change from image w stands begins same = block-writes from image w (place w) (record_size w) stands (record-blocky w begins) (omega arith) (let h = record-inside w begins in omega arith) same

pub index-word : (from image : Image) (w p : ℕ) → SameOutside (record_range w) from image → word image Index p ≡ word from Index p
index-word from image w p same = same_word_outside (record_range w) from image Index p same (λ k low high. refl)

pub updates-leave : RecordUpdatesLeaveCounters
updates-leave from image w same = count-still from image (λ p even small there. index-word from image w p same)

module _ (state : State) (layout : Layout) (unlinked : List ℕ) (from : Image) (k : KeepsUncounted state layout unlinked from) (node : ℕ) (l : Loaded) (here : layout.at node ≡ Some l) where
  -- what lies at a node is that node's
  pub node-of-it : l.node ≡ node
  node-of-it = load-then (store_of from) (rule_of layout node) node l (k.represents.holds.shows.each node l here) (λ n e f. f.facts.node_is)

  -- whose blocks are its own
  pub its-own : (c : Claim) → has_claim (claims_of node) c ≡ true → layout.owner c ≡ Some node
  unfolding all_claims
  its-own c e = k.represents.holds.lies.own node l c here (claim-append (claims_of l.node) (record_claims l) c ∙ or_left (has_claim (claims_of l.node) c) (has_claim (record_claims l) c) (ap (λ (x : ℕ). has_claim (claims_of x) c) node-of-it ∙ e))

  pub record-own : (c : Claim) → has_claim (claims_of l.contents) c ≡ true → layout.owner c ≡ Some node
  record-own c e = k.represents.holds.lies.own node l c here (contents-claims l c e)

  -- so what touches what is its own leaves the others
  pub free-but : (touched : Claim → Bool) → ((c : Claim) → touched c ≡ true → layout.owner c ≡ Some node) → IsFreeBut node touched layout
  free-but touched own c x owner apart = ⊎_elim
      (λ (e : touched c ≡ true). let p = own c e in let s : node ≡ x = (let q : ◌≡◌ {A = Option ℕ} (Some node) (Some x) = sym p ∙ owner in cc) in absurd (let z : true ≡ false = sym (eq-eqb node x s) ∙ apart in cc))
      (λ (e : touched c ≡ false). e)
      (cases_Bool (touched c))

  -- the record shares no block with the node
  pub contents-apart : IsClear (has_claim (claims_of node)) l.contents
  unfolding all_claims record_claims
  contents-apart c e = ⊎_elim
      (λ (h : has_claim (claims_of node) c ≡ true).
      let a : has_claim (record_claims l) c ≡ false = repeats-apart (claims_of l.node) (record_claims l) c (k.represents.holds.lies.single node l here) (ap (λ (x : ℕ). has_claim (claims_of x) c) node-of-it ∙ h) in
      let b : has_claim (record_claims l) c ≡ true = claim-append (claims_of l.contents) (flat_map claims_of l.others) c ∙ or_left (has_claim (claims_of l.contents) c) (has_claim (flat_map claims_of l.others) c) e in
      absurd (let z : true ≡ false = sym b ∙ a in cc))
      (λ (h : has_claim (claims_of node) c ≡ false). h)
      (cases_Bool (has_claim (claims_of node) c))

-- another node's words are outside
pub others-outside : (state : State) (layout : Layout) (unlinked : List ℕ) (from : Image) (k : KeepsUncounted state layout unlinked from) (node x : ℕ) (l : Loaded) (touched : Claim → Bool) → IsFreeBut node touched layout → (node == x) ≡ false → layout.at x ≡ Some l → AreClear touched l
others-outside state layout unlinked from k node x l touched free apart here = all-clear touched l (λ c h. free c x (k.represents.holds.lies.own x l c here h) apart)
