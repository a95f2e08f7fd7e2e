-- How a chain is linked record by record, and what is held on the way.
use Rattle.std.proofs.Common.{◌≡◌, ℕ, ◌+◌, ◌-◌, ◌<◌, ◌≤◌, Bool, true, false, List, [], ◌∷◌, ◌++◌, length, take, drop, get_or, refl, sym, ◌∙◌, ap, subst, arith}
use Rattle.std.specs.Prelude.{All, ◌==◌, if◌then◌else◌}
use Rattle.std.proofs.lemmas.List.{append-nil, drop_more, drop_all, length-drop, take_all}
use Rattle.std.proofs.lemmas.List.Elements.{All-weaker, filter_passes}
use Rattle.spec_image.specs.Image.{Image, Index}
use Rattle.spec_image.specs.Steps.{TrailStep, after, word_step}
use Rattle.spec_image.specs.Told.{Along, IsQuiet}
use Rattle.spec_image.proofs.Runs.{quiet-append}
use Rattle.spec_image.proofs.WordSteps.{quiet-word_step}
use Rattle.spec_format.specs.Headers.{place_of_bucket}
use Rattle.spec_format.specs.Records.{entry_next_place}
use Rattle.spec_format.specs.Sealed.{RecordChecks, sealed_steps}
use Rattle.spec_format.proofs.Buckets.{bucket-quiet}
use Rattle.spec_folder.specs.Chains.{chain}
use Rattle.spec_folder.specs.Found.{kept}
use Rattle.spec_folder.specs.ListView.{first_or}
use Rattle.spec_folder.specs.Loads.{Loaded}
use Rattle.spec_folder.specs.View.{store_of}
use Rattle.law_folder.proofs.lists.WriteSteps.{quiet-sealed}
use Rattle.law_recovery.specs.ChainRepair.{HasChainsUpTo, bucket_steps, chain_steps, is_kept_record, kept_records, next_words_steps, next_steps}
use Rattle.law_recovery.specs.ListRepair.{HoldsTheSame}
use Rattle.law_recovery.proofs.ChainRepair.{buckets-mended}
use Rattle.law_recovery.proofs.KeptRecords.{kept-records-check}
use Rattle.blk_repair.specs.Chains.{IsNextChain}
use Rattle.blk_repair.specs.Damages.{AllCheck}
use Rattle.blk_repair.proofs.Progress.{Leads}

-- the next of one record, and then those of the records after it
pub link-leads : (words : List ℕ) (i w behind : ℕ) → i < length words → w ≡ get_or words i w → behind ≡ first_or 0 (take (length words - (i + 1)) (drop (i + 1) words)) → Leads (next_words_steps (drop i words)) (next_steps w behind) (next_words_steps (drop (i + 1) words))
link-leads words i w behind inside is next image =
    let more : List ℕ = drop (i + 1) words in
    let all : take (length words - (i + 1)) more ≡ more = take_all (length words - (i + 1)) more (let n = length-drop (i + 1) words in omega (arith, n)) in
    let split : drop i words ≡ w ∷ more = drop_more words i w inside ∙ ap (λ (v : ℕ). v ∷ more) (sym is) in
    subst (λ (b : ℕ). next_words_steps (drop i words) image ≡ next_steps w b image ++ next_words_steps more (after (next_steps w b image) image)) (sym (next ∙ ap (first_or 0) all)) (ap (λ (l : List ℕ). next_words_steps l image) split)

pub links-end : (words : List ℕ) (i : ℕ) → length words ≤ i → (image : Image) → next_words_steps (drop i words) image ≡ []
links-end words i past image = ap (λ (l : List ℕ). next_words_steps l image) (drop_all i words past)

-- no step of a chain is a note
quiet-choice : (b : Bool) (steps : List TrailStep) → IsQuiet steps → IsQuiet (if b then [] else steps)
quiet-choice true steps quiet = tt
quiet-choice false steps quiet = quiet

quiet-next : (entry w : ℕ) (image : Image) → IsQuiet (next_steps entry w image)
quiet-next entry w image = quiet-choice ((store_of image).chain_next entry == w) (sealed_steps image entry ((entry_next_place, w) ∷ [])) (quiet-sealed image entry ((entry_next_place, w) ∷ []))

quiet-links : (words : List ℕ) (image : Image) → IsQuiet (next_words_steps words image)
quiet-links [] image = tt
quiet-links (w ∷ words) image =
    let first : List TrailStep = next_steps w (first_or 0 words) image in
    quiet-append first (next_words_steps words (after first image)) (quiet-next w (first_or 0 words) image) (quiet-links words (after first image))

pub quiet-chain : (bucket : ℕ) (words : List ℕ) (image : Image) → IsQuiet (chain_steps bucket words image)
quiet-chain bucket words image =
    let first : List TrailStep = bucket_steps bucket (first_or 0 words) image in
    quiet-append first (next_words_steps words (after first image)) (quiet-choice ((store_of image).table bucket == first_or 0 words) (word_step Index (place_of_bucket bucket) (first_or 0 words)) (quiet-word_step Index (place_of_bucket bucket) (first_or 0 words) (bucket-quiet bucket (first_or 0 words))))
    (quiet-links words (after first image))

-- the next chain is repaired, and the same is held at each word
pub mends-next : (from : Image) (bucket : ℕ) (words : List ℕ) (image : Image) → bucket < 65536 → IsNextChain from bucket words image → Along (HoldsTheSame from) image (chain_steps bucket words image) × HasChainsUpTo from (bucket + 1) (after (chain_steps bucket words image) image)
mends-next from bucket words image inside next =
    subst (λ (l : List ℕ). Along (HoldsTheSame from) image (chain_steps bucket l image) × HasChainsUpTo from (bucket + 1) (after (chain_steps bucket l image) image)) (sym next.are_kept)
    (buckets-mended from image bucket next.well_formed next.keeps_all inside next.up_to)

-- the kept records of a bucket are kept
are-kept : (from : Image) (bucket : ℕ) → All (λ w. is_kept_record (kept from) w ≡ true) (kept_records from bucket)
unfolding kept_records
are-kept from bucket = filter_passes (is_kept_record (kept from)) (chain (store_of from) bucket).reached

-- the checksums of the kept records of a bucket match or are absent where the same is held
pub kept-check : (from : Image) (bucket : ℕ) (words : List ℕ) → words ≡ kept_records from bucket → (image : Image) → HoldsTheSame from image → AllCheck words image
kept-check from bucket words are image holds =
    subst (λ (l : List ℕ). AllCheck l image) (sym are)
    (All-weaker (λ w. is_kept_record (kept from) w ≡ true) (λ w. RecordChecks w image)
    (λ w is. (kept-records-check image holds.writable w (subst (λ (ks : List Loaded). is_kept_record ks w ≡ true) (sym holds.kept_same) is)).checks) (kept_records from bucket) (are-kept from bucket))

-- the word of the bucket, and then the links
pub chain-leads : (bucket : ℕ) (words : List ℕ) → Leads (chain_steps bucket words) (bucket_steps bucket (first_or 0 words)) (next_words_steps words)
chain-leads bucket words image = refl

pub links-lead : (words : List ℕ) → Leads (next_words_steps words) (next_words_steps words) (λ _. [])
links-lead words image = sym (append-nil (next_words_steps words image))
