-- The words of chains.
use Rattle.std.proofs.Common.{◌≡◌, ⊎_elim, ℕ, true, List, [], ◌∷◌, map, refl, subst}
use Rattle.std.specs.Prelude.{◌==◌}
use Rattle.std.proofs.lemmas.Bool.{or_left, or_right, or_cases, eq-eqb, eqb-true}
use Rattle.spec_format.specs.BlockFiles.{is_among}
use Rattle.spec_folder.specs.View.{StoreView}
use Rattle.spec_folder.specs.Chains.{file_and_block, is_of_bucket, Linked}

-- each word of a chain names a record of the bucket
pub linked-good : (store : StoreView) (b w : ℕ) (words : List ℕ) (x : ℕ) → Linked store b w words → is_among words x ≡ true → is_of_bucket store b x ≡ true
linked-good store b w [] x linked among = cc
linked-good store b w (v ∷ words) x linked among =
    ⊎_elim (λ (e : (v == x) ≡ true). subst (λ (z : ℕ). is_of_bucket store b z ≡ true) (eqb-true v x e) linked.1) (λ (e : is_among words x ≡ true). linked-good store b (store.chain_next v) words x linked.2 e) (or_cases (v == x) (is_among words x) among)

-- a word of a list that has this first block
pub record WithFirstBlock (words : List ℕ) (block : ℕ) : Type 0 where
  pub word : ℕ
  pub among : is_among words word ≡ true
  pub has : file_and_block word ≡ block

pub with_first_block : (words : List ℕ) (block : ℕ) → is_among (map file_and_block words) block ≡ true → WithFirstBlock words block
with_first_block [] block among = cc
with_first_block (v ∷ words) block among =
    ⊎_elim
    (λ (e : (file_and_block v == block) ≡ true). record { word = v; among = or_left (v == v) (is_among words v) (eq-eqb v v refl); has = eqb-true (file_and_block v) block e })
    (λ (e : is_among (map file_and_block words) block ≡ true). let more = with_first_block words block e in record { word = more.word; among = or_right (v == more.word) (is_among words more.word) more.among; has = more.has })
    (or_cases (file_and_block v == block) (is_among (map file_and_block words) block) among)
