-- Chains of two store views with the same records, and the same links along a chain.
use Rattle.std.proofs.Common.{◌≡◌, ℕ, zero, suc, ◌^◌, Bool, true, false, List, [], ◌∷◌, Option, refl, ◌∙◌, ap}
use Rattle.std.specs.Prelude.{not, ◌&&◌, ◌==◌, if◌then◌else◌}
use Rattle.std.specs.Option.{option_map_or}
use Rattle.std.proofs.lemmas.Bool.{and_parts}
use Rattle.spec_format.specs.BlockFiles.{is_among}
use Rattle.spec_folder.specs.View.{StoreView, RecordFields}
use Rattle.spec_folder.specs.Chains.{Chain, chain, chain_from, is_reached, is_of_bucket, bucket_of_hash, file_and_block}

-- a choice by the same test
choice : (r s : Bool) (a b x : Chain) → r ≡ s → (s ≡ true → a ≡ b) → (if r then a else x) ≡ (if s then b else x)
choice r true a b x e same = ap (λ (t : Bool). if t then a else x) e ∙ same refl
choice r false a b x e same = ap (λ (t : Bool). if t then a else x) e

module _ (old new : StoreView) (bucket : ℕ) (records : (w : ℕ) → new.entry w ≡ old.entry w) (follows : (w : ℕ) → is_of_bucket old bucket w ≡ true → new.chain_next w ≡ old.chain_next w) where
  pub of-bucket-same : (w : ℕ) → is_of_bucket new bucket w ≡ is_of_bucket old bucket w
  of-bucket-same w = ap (λ (o : Option RecordFields). option_map_or (λ fields. fields.checks && (bucket_of_hash fields.hash == bucket)) o false) (records w)

  along : (most : ℕ) (met : List ℕ) (w : ℕ) → chain_from new bucket most met w ≡ chain_from old bucket most met w
  unfolding chain_from
  along zero met w = refl
  along (suc most) met w =
      let longer : Chain → Chain = (λ more. record more { reached = w ∷ more.reached }) in
      choice (is_reached new bucket met w) (is_reached old bucket met w) (longer (chain_from new bucket most (file_and_block w ∷ met) (new.chain_next w))) (longer (chain_from old bucket most (file_and_block w ∷ met) (old.chain_next w)))
      (record { reached = []; end = w })
      (ap (λ (b : Bool). not (is_among met (file_and_block w)) && b) (of-bucket-same w))
      (λ reached. ap longer (ap (chain_from new bucket most (file_and_block w ∷ met)) (follows w (and_parts (not (is_among met (file_and_block w))) (is_of_bucket old bucket w) reached).1) ∙ along most (file_and_block w ∷ met) (old.chain_next w)))

  pub chain-same : new.table bucket ≡ old.table bucket → chain new bucket ≡ chain old bucket
  chain-same table = ap (chain_from new bucket (2 ^ 24) []) table ∙ along (2 ^ 24) [] (old.table bucket)
