-- A record is linked as the first of its hash chain.
use Rattle.std.specs.Prelude.{◌≡◌, ℕ, List, ◌∷◌, true, false, ◌==◌}
use Rattle.std.specs.declared.option.Option.TheVariants.{Some}
use Rattle.spec_image.specs.Image.{Image, Index}
use Rattle.spec_image.specs.Steps.{TrailStep, word_step}
use Rattle.spec_image.specs.Footprint.{SameOutside, one_word}
use Rattle.spec_format.specs.Headers.{place_of_bucket}
use Rattle.spec_format.specs.BlockFiles.{is_among, KeepsHeaders}
use Rattle.spec_format.specs.Records.{child}
use Rattle.spec_folder.specs.ListView.{put}
use Rattle.spec_folder.specs.View.{RecordFields, list_of, store_of}
use Rattle.spec_folder.specs.Chains.{chain, IsChain, bucket_at}
use Rattle.spec_folder.specs.Searches.{HasKey, IsWholeChain}

-- the records of the chain to which record w belongs by its hash
abbrev pub chained_with : Image → ℕ → List ℕ
chained_with image w = (chain (store_of image) (bucket_at image w)).reached

-- the offset in the index of the bucket to which record w belongs
abbrev pub place_of_front : Image → ℕ → ℕ
place_of_front image w = place_of_bucket (bucket_at image w)

-- precondition of a link: the record's checksum matches or is absent, its next is the first record of its chain, its hash is that of its key, the chain is
-- whole, and no record of it has the same key and child flag
pub record CanBeLinked (entry : ℕ) (image : Image) : Type 0 where
  pub fields : RecordFields
  pub here : (store_of image).entry entry ≡ Some fields
  pub good : fields.checks ≡ true
  pub next : (store_of image).chain_next entry ≡ (store_of image).table (bucket_at image entry)
  pub key : List ℕ
  pub has_key : HasKey (store_of image) key (fields.flags == child) entry
  pub whole : IsWholeChain (store_of image) (bucket_at image entry)
  pub fresh : (w : ℕ) → is_among (chained_with image entry) w ≡ true → HasKey (store_of image) key (fields.flags == child) w → ⊥

-- the step of a link: the word of the bucket becomes the record's address
abbrev pub link_front_steps : Image → ℕ → List TrailStep
link_front_steps image entry = word_step Index (place_of_front image entry) entry

-- a record was linked: the word of its bucket is all that has changed, it is the first of its chain now, and the other chains are unchanged
pub record IsLinkedInFront (from : Image) (entry : ℕ) (image : Image) : Type 0 where
  pub list : list_of image ≡ list_of from
  pub store : store_of image ≡ record (store_of from) { table = put (store_of from).table (bucket_at from entry) entry }
  pub chain_now : IsChain (store_of image) (bucket_at from entry) (entry ∷ chained_with from entry)
  pub others : (other : ℕ) → (bucket_at from entry == other) ≡ false → chain (store_of image) other ≡ chain (store_of from) other
  pub headers : KeepsHeaders from image
  pub outside : SameOutside (one_word Index (place_of_front from entry)) from image
