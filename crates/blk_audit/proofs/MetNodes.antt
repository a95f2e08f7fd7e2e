-- The nodes that were met, as used blocks.
use Rattle.std.proofs.Common.{◌≡◌, ◌≢◌, ℕ, ◌+◌, ◌<◌, ◌^◌, ◌/◌, Bool, true, false, ◌||◌, ◌&&◌, List, [], ◌∷◌, ◌++◌, map, refl, sym, ap, ap₂, subst, ◌∙◌, arith, IsTrue}
use Rattle.std.specs.Prelude.{◌==◌}
use Rattle.std.specs.List.{list_any, range_with_len}
use Rattle.std.proofs.lemmas.Bool.{eqb-true, eq-eqb, and_parts}
use Rattle.std.proofs.lemmas.Bool.Decides.{nat_tests}
use Rattle.std.proofs.lemmas.Grind.{common_steps}
use Rattle.spec_format.specs.Address.{is_address, is_initialized, names_external, names_blocks, reserved_bits, kind_of, file_selector, first_block, block_count, block_word, rankings, external}
use Rattle.spec_format.specs.Claims.{Claim, BlockOf, claims_of, claims_of_all, has_claim, overlap}
use Rattle.spec_format.specs.BlockFiles.{is_among}
use Rattle.spec_format.proofs.Words.{block_word-of-fields}
use Rattle.spec_format.proofs.Among.{is_among_more}
use Rattle.blk_addr.specs.Bits.{is_between}
use Rattle.blk_addr.specs.Claims.{IsClaimsOf, is_claimed}
use Rattle.blk_addr.proofs.AddressFields.{address_above_0}
use Rattle.blk_addr.proofs.ClaimLemmas.{or_false, claims_of-blocks, has_claim-append, has_claim-blocks}
use Rattle.blk_addr.proofs.ClaimSetLemmas.{is_claimed-overlap}
use Rattle.blk_audit.specs.declared.list_walk.Walked.{Walked}
use Rattle.blk_audit.specs.Walking.{AreMet, IsNodeWord}
use Rattle.blk_audit.proofs.Truths.{or_first, or_second, both_or_neither}

-- a node is one block
one_block : (w : ℕ) → IsTrue (is_address w) → kind_of w ≡ rankings → block_count w ≡ 1
unfolding is_address names_external names_blocks
one_block w address kind = grind (arith, common_steps)

no_reserved : (w : ℕ) → IsTrue (is_address w) → kind_of w ≡ rankings → reserved_bits w ≡ 0
unfolding is_address names_external names_blocks
no_reserved w address kind = grind (arith, common_steps)

initialized : (w : ℕ) → IsTrue (is_address w) → is_initialized w ≡ true
unfolding is_address
initialized w address = (and_parts (is_initialized w) (names_external w || names_blocks w) address).0

small : (w : ℕ) → is_initialized w ≡ true → w < 2 ^ 32
unfolding is_initialized
small w is = let top : w / 2 ^ 31 ≡ 1 = eqb-true (w / 2 ^ 31) 1 is in omega arith

-- the word of a node says its file and its block
pub node_word : (w : ℕ) → IsNodeWord w → block_word 1 (file_selector w) (first_block w) 1 ≡ w
node_word w is =
    ap (λ (k : ℕ). block_word k (file_selector w) (first_block w) 1) (sym is.kind)
    ∙ ap (λ (n : ℕ). block_word (kind_of w) (file_selector w) (first_block w) n) (sym (one_block w is.address is.kind))
    ∙ block_word-of-fields w (small w (initialized w is.address)) (initialized w is.address) (no_reserved w is.address is.kind)

in_one : (s b : ℕ) → is_between s (s + 1) b ≡ true → b ≡ s
in_one s b h = grind (arith, nat_tests)

here : (f s : ℕ) → ((f == f) && is_between s (s + 1) s) ≡ true
here f s = grind (arith, nat_tests)

-- two nodes of one file and block are the same
same_node : (w v : ℕ) → IsNodeWord w → IsNodeWord v → ((file_selector v == file_selector w) && is_between (first_block w) (first_block w + 1) (first_block v)) ≡ (w == v)
same_node w v is of = both_or_neither ((file_selector v == file_selector w) && is_between (first_block w) (first_block w + 1) (first_block v)) (w == v) there back
  where
    there : ((file_selector v == file_selector w) && is_between (first_block w) (first_block w + 1) (first_block v)) ≡ true → (w == v) ≡ true
    there h =
        let parts = and_parts (file_selector v == file_selector w) (is_between (first_block w) (first_block w + 1) (first_block v)) h in
        let file = eqb-true (file_selector v) (file_selector w) parts.0 in
        let block = in_one (first_block w) (first_block v) parts.1 in
        eq-eqb w v (sym (node_word w is) ∙ ap₂ (λ (f s : ℕ). block_word 1 f s 1) (sym file) (sym block) ∙ node_word v of)

    back : (w == v) ≡ true → ((file_selector v == file_selector w) && is_between (first_block w) (first_block w + 1) (first_block v)) ≡ true
    back e = subst (λ (u : ℕ). ((file_selector u == file_selector w) && is_between (first_block w) (first_block w + 1) (first_block u)) ≡ true) (eqb-true w v e) (here (file_selector w) (first_block w))

no_external : (w : ℕ) → kind_of w ≡ rankings → kind_of w ≢ external
no_external w kind e = let h : ◌≡◌ {A = ℕ} 1 0 = sym kind ∙ e in omega (arith, h)

-- what a node uses
claims_of_node : (w : ℕ) → IsNodeWord w → claims_of w ≡ BlockOf (file_selector w) (first_block w) ∷ []
claims_of_node w is =
    claims_of-blocks w (address_above_0 w is.address) (no_external w is.kind)
    ∙ ap (λ (n : ℕ). map (λ b. BlockOf (file_selector w) b) (range_with_len (first_block w) n)) (one_block w is.address is.kind)

one_claim : (w v : ℕ) → IsNodeWord w → IsNodeWord v → has_claim (claims_of w) (BlockOf (file_selector v) (first_block v)) ≡ (w == v)
one_claim w v is of =
    ap (λ (cs : List Claim). has_claim cs (BlockOf (file_selector v) (first_block v))) (claims_of-blocks w (address_above_0 w is.address) (no_external w is.kind))
    ∙ has_claim-blocks (file_selector w) (first_block w) (block_count w) (file_selector v) (first_block v)
    ∙ ap (λ (n : ℕ). (file_selector v == file_selector w) && is_between (first_block w) (first_block w + n) (first_block v)) (one_block w is.address is.kind)
    ∙ same_node w v is of

has_node : (words : List ℕ) → ((u : ℕ) → is_among words u ≡ true → IsNodeWord u) → (v : ℕ) → IsNodeWord v → has_claim (claims_of_all words) (BlockOf (file_selector v) (first_block v)) ≡ is_among words v
unfolding has_claim
has_node [] all v of = refl
has_node (w ∷ words) all v of =
    has_claim-append (claims_of w) (claims_of_all words) (BlockOf (file_selector v) (first_block v))
    ∙ ap₂ (λ (a b : Bool). a || b) (one_claim w v (all w (or_first (w == w) (is_among words w) (eq-eqb w w refl))) of) (has_node words (λ u h. all u (or_second (w == u) (is_among words u) h)) v of)

-- a node was met where it shares a block with those that were
pub met_is : (words : List ℕ) → ((u : ℕ) → is_among words u ≡ true → IsNodeWord u) → (v : ℕ) → IsNodeWord v → overlap (claims_of_all words) (claims_of v) ≡ is_among words v
unfolding overlap
met_is words all v of =
    ap (λ (cs : List Claim). list_any (has_claim (claims_of_all words)) cs) (claims_of_node v of)
    ∙ or_false (has_claim (claims_of_all words) (BlockOf (file_selector v) (first_block v)))
    ∙ has_node words all v of

pub claimed_is : (walk : Walked) (w : ℕ) → AreMet walk → IsNodeWord w → is_claimed walk.met w ≡ is_among walk.nodes.items w
claimed_is walk w met is = is_claimed-overlap walk.met walk.nodes.items w met.claims ∙ met_is walk.nodes.items met.nodes w is

-- one more node was met
pub met_more : (old new : Walked) (w : ℕ) → AreMet old → IsNodeWord w → IsClaimsOf new.met (old.nodes.items ++ w ∷ []) → new.nodes.items ≡ old.nodes.items ++ w ∷ [] → AreMet new
met_more old new w met is claims items = record {
  claims = subst (λ (words : List ℕ). IsClaimsOf new.met words) (sym items) claims;
  nodes = λ u h. one_of u (is_among old.nodes.items u) refl (sym (is_among_more old.nodes.items w u) ∙ sym (ap (λ (words : List ℕ). is_among words u) items) ∙ h);
}
  where
    one_of : (u : ℕ) (t : Bool) → is_among old.nodes.items u ≡ t → (is_among old.nodes.items u || (w == u)) ≡ true → IsNodeWord u
    one_of u true e h = met.nodes u e
    one_of u false e h = subst IsNodeWord (eqb-true w u (sym (ap (λ (b : Bool). b || (w == u)) e) ∙ h)) is

-- no node was met
pub met_none : (new : Walked) → IsClaimsOf new.met [] → new.nodes.items ≡ [] → AreMet new
met_none new claims items = record {
  claims = subst (λ (words : List ℕ). IsClaimsOf new.met words) (sym items) claims;
  nodes = λ u h. absurd (none (sym (ap (λ (words : List ℕ). is_among words u) items) ∙ h));
}
  where
    none : false ≡ true → ⊥
    none e = cc
