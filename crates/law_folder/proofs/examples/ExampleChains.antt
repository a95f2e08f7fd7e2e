-- The laws of chains at a chain of three records: it is linked from the table, one more is put in front, and the first and the second are taken out.
use Rattle.std.proofs.Common.{◌≡◌, ℕ, ◌<◌, ◌≤◌, length, [], ◌∷◌, refl, sym, subst, arith, lit≤, true, false}
use Rattle.std.specs.Prelude.{◌==◌, ◌||◌}
use Rattle.std.proofs.lemmas.Bool.Decides.{nat_tests}
use Rattle.spec_folder.specs.ListView.{put}
use Rattle.spec_folder.specs.View.{StoreView, store_of}
use Rattle.spec_folder.specs.Chains.{chain, most_records, Linked, IsChain}
use Rattle.law_folder.proofs.examples.DamagedViews.{entry, shown}
use Rattle.law_folder.proofs.chains.Chains.{chain-is}
use Rattle.law_folder.proofs.chains.ChainLinks.{linked-front, others-stay, first-leaves, later-leaves}
use Rattle.law_folder.proofs.chains.ChainSizes.{chains-short}
use Rattle.law_folder.proofs.chains.ChainLengths.{all-stand, records-few, image-chains-short}
use Rattle.law_folder.proofs.examples.WholeFolder.{whole_folder, whole-chains}
use Rattle.law_folder.proofs.examples.OneEntry as one
use Rattle.law_folder.proofs.commands.Unlinking.{unlink-first, unlink-behind}

abbrev bucket : ℕ
bucket = 0xA782

-- three records in a chain, and a fourth whose next is the first of them
abbrev four_records : StoreView
four_records = (shown 0 0xA0010000 [] ((0xA0010000, entry 0xA0010001 0) ∷ (0xA0010001, entry 0xA0010002 0) ∷ (0xA0010002, entry 0 0) ∷ (0xA0010003, entry 0xA0010000 0) ∷ [])).store

three-are_chained : IsChain four_records bucket (0xA0010000 ∷ 0xA0010001 ∷ 0xA0010002 ∷ [])
three-are_chained = record { linked = (refl, refl, (refl, refl, (refl, refl, refl))); once = (refl, (refl, (refl, tt))) }

-- the chain is the three records
pub chain-is_three : chain four_records bucket ≡ record { reached = 0xA0010000 ∷ 0xA0010001 ∷ 0xA0010002 ∷ []; end = 0 }
chain-is_three = chain-is four_records bucket (0xA0010000 ∷ 0xA0010001 ∷ 0xA0010002 ∷ []) refl three-are_chained

-- the fourth record is put in front of the chain
pub four-are_chained : IsChain (record four_records { table = put four_records.table bucket 0xA0010003 }) bucket (0xA0010003 ∷ 0xA0010000 ∷ 0xA0010001 ∷ 0xA0010002 ∷ [])
four-are_chained = linked-front four_records bucket 0xA0010003 (0xA0010000 ∷ 0xA0010001 ∷ 0xA0010002 ∷ []) three-are_chained refl refl refl

-- the chain of another bucket stays
pub other-stays : chain (record four_records { table = put four_records.table bucket 0xA0010003 }) 5 ≡ chain four_records 5
other-stays = others-stay four_records bucket 5 0xA0010003 refl

-- the first record is taken out of the chain: the table names the second
pub first-goes_out : Linked (record four_records { table = put four_records.table bucket 0xA0010001 }) bucket 0xA0010001 (0xA0010001 ∷ 0xA0010002 ∷ [])
first-goes_out =
    unlink-first four_records (record four_records { table = put four_records.table bucket 0xA0010001 }) bucket 0xA0010000 0xA0010000 (0xA0010001 ∷ 0xA0010002 ∷ []) (λ w among. (refl, refl)) three-are_chained.linked

-- the second record is taken out of the chain: the first has its next
abbrev without_second : StoreView
without_second = record four_records { chain_next = put four_records.chain_next 0xA0010000 0xA0010002 }

-- the records before and after it are linked
pub second-goes_out : Linked without_second bucket 0xA0010000 (0xA0010000 ∷ 0xA0010002 ∷ [])
unfolding put
second-goes_out =
    unlink-behind four_records without_second bucket 0xA0010000 0xA0010000 0xA0010001 [] (0xA0010002 ∷ []) (λ w among. refl) (λ w among. absurd (let z : false ≡ true = among in cc))
    (λ w among. let is : w ≡ 0xA0010002 = only w among in subst (λ (x : ℕ). without_second.chain_next x ≡ four_records.chain_next x) (sym is) refl) refl three-are_chained.linked where
      only : (w : ℕ) → ((0xA0010002 == w) || false) ≡ true → w ≡ 0xA0010002
      only w among = grind (arith, nat_tests)

-- the chains without the first record, and without the second
pub first-leaves_chain : IsChain (record four_records { table = put four_records.table bucket 0xA0010001 }) bucket (0xA0010001 ∷ 0xA0010002 ∷ [])
unfolding put
first-leaves_chain = first-leaves four_records (record four_records { table = put four_records.table bucket 0xA0010001 }) bucket 0xA0010000 (0xA0010001 ∷ 0xA0010002 ∷ []) (λ w among. (refl, refl)) refl three-are_chained

pub second-leaves_chain : IsChain without_second bucket (0xA0010000 ∷ 0xA0010002 ∷ [])
unfolding put
second-leaves_chain =
    later-leaves four_records without_second bucket 0xA0010000 0xA0010001 [] (0xA0010002 ∷ []) (λ w among. refl) (λ w among. absurd (let z : false ≡ true = among in cc))
    (λ w among. let is : w ≡ 0xA0010002 = only w among in subst (λ (x : ℕ). without_second.chain_next x ≡ four_records.chain_next x) (sym is) refl) refl refl three-are_chained where
      only : (w : ℕ) → ((0xA0010002 == w) || false) ≡ true → w ≡ 0xA0010002
      only w among = grind (arith, nat_tests)

-- the chain is short, as that of a folder is from its bytes
pub three-are_short : length {A = ℕ} (0xA0010000 ∷ 0xA0010001 ∷ 0xA0010002 ∷ []) ≤ most_records
three-are_short = chains-short four_records bucket (0xA0010000 ∷ 0xA0010001 ∷ 0xA0010002 ∷ []) three-are_chained

whole-chain : IsChain (store_of whole_folder) one.bucket ((one.layout 0).chains one.bucket)
whole-chain = whole-chains one.bucket (lit≤ tt)

pub whole-chain_is_short : length ((one.layout 0).chains one.bucket) < most_records
whole-chain_is_short = image-chains-short whole_folder one.bucket ((one.layout 0).chains one.bucket) whole-chain

pub whole-records_are_few : length ((one.layout 0).chains one.bucket) < most_records
whole-records_are_few =
    records-few whole_folder ((one.layout 0).chains one.bucket) (all-stand whole_folder one.bucket ((store_of whole_folder).table one.bucket) ((one.layout 0).chains one.bucket) whole-chain.linked) whole-chain.once
