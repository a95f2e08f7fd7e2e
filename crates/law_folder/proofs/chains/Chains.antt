-- The chain of linked records.
use Rattle.std.proofs.Common.{◌≡◌, ℕ, zero, suc, ◌≤◌, ◌^◌, List, [], ◌∷◌, length, map, refl, ap, false, not, arith, None}
use Rattle.std.proofs.Math.Bool.{and-false}
use Rattle.spec_folder.specs.ListView.{Distinct}
use Rattle.law_folder.proofs.chains.ChainSizes.{chains-short}
use Rattle.law_folder.proofs.lists.Walks.{Fresh, Fresh-none, Fresh-more}
use Rattle.spec_format.specs.BlockFiles.{is_among}
use Rattle.spec_folder.specs.View.{StoreView}
use Rattle.spec_folder.specs.Chains.{Chain, chain, chain_from, is_of_bucket, file_and_block, Linked, IsChain}

chain-linked : (v : StoreView) (b turns : ℕ) (met : List ℕ) (w : ℕ) (cs : List ℕ) → is_of_bucket v b 0 ≡ false → Linked v b w cs → length cs ≤ turns → Distinct (map file_and_block cs) → Fresh met (map file_and_block cs)
    → chain_from v b turns met w ≡ record { reached = cs; end = 0 }
unfolding chain_from
chain-linked v b zero met w [] none linked few once fresh = rw linked refl
chain-linked v b zero met w (c ∷ cs) none linked few once fresh = absurd (omega arith)
chain-linked v b (suc turns) met w [] none linked few once fresh = rw (linked, none, and-false (not (is_among met (file_and_block 0)))) refl
chain-linked v b (suc turns) met w (c ∷ cs) none linked few once fresh =
    rw (linked.0, fresh.0, linked.1)
    (ap (λ (x : Chain). let y : Chain = record x { reached = c ∷ x.reached } in y)
    (chain-linked v b turns (file_and_block c ∷ met) (v.chain_next c) cs none linked.2 (omega arith) once.1 (Fresh-more met (file_and_block c) (map file_and_block cs) once.0 fresh.1)))

pub chain-is : (v : StoreView) (b : ℕ) (cs : List ℕ) → v.entry 0 ≡ None → IsChain v b cs → chain v b ≡ record { reached = cs; end = 0 }
chain-is v b cs none is = chain-linked v b (2 ^ 24) [] (v.table b) cs (rw none refl) is.linked (chains-short v b cs is) is.once (Fresh-none (map file_and_block cs))
