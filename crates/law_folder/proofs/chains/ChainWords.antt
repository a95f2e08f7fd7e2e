-- What words that name records say: one first block has one record, and a record that is shown with a right or absent checksum has it in its bytes.
use Rattle.std.proofs.Common.{◌≡◌, ℕ, ◌+◌, ◌*◌, true, false, List, take, Option, Some, None, refl, sym, ◌∙◌, ap, ap₂, subst, arith}
use Rattle.std.specs.Prelude.{◌==◌, ◌&&◌, nat_le, if◌then◌else◌}
use Rattle.std.specs.Option.{option_map, option_map_or}
use Rattle.std.proofs.lemmas.Bool.{and_parts, eqb-true}
use Rattle.spec_image.specs.Bytes.{content, word_at, range_at}
use Rattle.spec_image.specs.Image.{AreBytes, Block, Image, byte}
use Rattle.spec_image.proofs.Runs.{some_inj}
use Rattle.spec_format.specs.Address.{kind_of, file_selector, first_block, place, block_place, block_size, blocks_256}
use Rattle.spec_format.specs.Records.{entry_in, entry_size, entry_checks, checks}
use Rattle.spec_format.specs.Sealed.{RecordChecks, record_at, record_size, seal_place}
use Rattle.spec_format.proofs.SealedFields.{record_word}
use Rattle.spec_format.proofs.SealedRecords.{length-record, seal_last}
use Rattle.spec_folder.specs.Chains.{bucket_of_hash, file_and_block, is_of_bucket}
use Rattle.spec_folder.specs.Entries.{stored_key}
use Rattle.spec_folder.specs.View.{StoreView, RecordFields, fields_of, fields_at, entry_at, follow_at, key_place_at, stands_as, store_of}
use Rattle.law_folder.proofs.updates.Prefixes.{AreSmall, small-take, small-range, entry_checks-prefix, entry_checks-by}
use Rattle.law_folder.proofs.updates.StillShown.{standing-parts, core-standing}
use Rattle.law_folder.proofs.updates.Updates.{entry-seal, entry-here}

pub same-file : (u w : ℕ) → file_and_block u ≡ file_and_block w → file_selector u ≡ file_selector w
unfolding file_selector
same-file u w e = omega arith

pub same-first : (u w : ℕ) → file_and_block u ≡ file_and_block w → first_block u ≡ first_block w
unfolding first_block
same-first u w e = omega arith

pub record-at : (w : ℕ) → kind_of w ≡ blocks_256 → place w ≡ 8192 + first_block w * 256
unfolding place block_place block_size
record-at w kind = rw kind refl

pub same-place : (u w : ℕ) → kind_of u ≡ blocks_256 → kind_of w ≡ blocks_256 → file_and_block u ≡ file_and_block w → place u ≡ place w
same-place u w one other same = record-at u one ∙ ap (λ (b : ℕ). 8192 + b * 256) (same-first u w same) ∙ sym (record-at w other)

-- what a word shows that names a record
pub shown-fields : (image : Image) (w : ℕ) (fields : RecordFields) → (store_of image).entry w ≡ Some fields → fields_of (entry_at image w) ≡ fields
unfolding store_of fields_at
shown-fields image w fields here = some_inj (sym (let s : stands_as image blocks_256 w ≡ true = core-standing image w fields here in rw s refl) ∙ here)

pub shown-kind : (image : Image) (w : ℕ) (fields : RecordFields) → (store_of image).entry w ≡ Some fields → kind_of w ≡ blocks_256
shown-kind image w fields here = (standing-parts image blocks_256 w (core-standing image w fields here)).1

pub shown-chain_next : (image : Image) (w : ℕ) (fields : RecordFields) → (store_of image).entry w ≡ Some fields → (store_of image).chain_next w ≡ (entry_at image w).next
unfolding store_of follow_at
shown-chain_next image w fields here = let s : stands_as image blocks_256 w ≡ true = core-standing image w fields here in rw s refl

-- two words of one first block
module _ (image : Image) (u w : ℕ) (one other : RecordFields) (first : (store_of image).entry u ≡ Some one) (second : (store_of image).entry w ≡ Some other) (same : file_and_block u ≡ file_and_block w) where
  file : file_selector u ≡ file_selector w
  file = same-file u w same

  at : place u ≡ place w
  at = same-place u w (shown-kind image u one first) (shown-kind image w other second) same

  pub same-fields : one ≡ other
  same-fields = sym (shown-fields image u one first) ∙ ap₂ (λ (f i : ℕ). fields_of (entry_in (byte image (Block f)) i)) file at ∙ shown-fields image w other second

  pub same-chain_next : (store_of image).chain_next u ≡ (store_of image).chain_next w
  same-chain_next =
      shown-chain_next image u one first ∙ ap₂ (λ (f i : ℕ). (entry_in (byte image (Block f)) i).next) file at ∙ sym (shown-chain_next image w other second)

  same-key_place : (n : ℕ) → (store_of image).key_place u n ≡ (store_of image).key_place w n
  unfolding store_of key_place_at
  same-key_place n = ap₂ (λ (f i : ℕ). range_at (byte image (Block f)) (i + entry_size) n) file at

  pub same-key : stored_key (store_of image) u one ≡ stored_key (store_of image) w other
  unfolding stored_key
  same-key =
      let key : List ℕ → Option (List ℕ) = (λ short. if nat_le one.key_len 927 then (if one.long_key == 0 then Some short else None) else option_map (take one.key_len) ((store_of image).stored (one.key_len + 1) one.long_key)) in
      subst (λ (c : RecordFields). stored_key (store_of image) u one ≡ stored_key (store_of image) w c) same-fields (ap key (same-key_place one.key_len))

-- a word of a bucket names a record with a right or absent checksum
pub record IsShownOf (store : StoreView) (bucket w : ℕ) : Type 0 where
  pub fields : RecordFields
  pub here : store.entry w ≡ Some fields
  pub good : fields.checks ≡ true
  pub in_bucket : bucket_of_hash fields.hash ≡ bucket

pub shown-of : (store : StoreView) (bucket w : ℕ) → is_of_bucket store bucket w ≡ true → IsShownOf store bucket w
shown-of store bucket w holds = by (store.entry w) refl holds where
  by : (o : Option RecordFields) → store.entry w ≡ o → option_map_or (λ fields. fields.checks && (bucket_of_hash fields.hash == bucket)) o false ≡ true → IsShownOf store bucket w
  by None e h = cc
  by (Some fields) e h = let p = and_parts fields.checks (bucket_of_hash fields.hash == bucket) h in record { fields = fields; here = e; good = p.0; in_bucket = eqb-true (bucket_of_hash fields.hash) bucket p.1 }

-- a record that is shown with a right or absent checksum has it in its bytes
pub record_checks : (image : Image) (w : ℕ) → AreBytes image → kind_of w ≡ blocks_256 → entry_checks (entry_at image w) ≡ true → RecordChecks w image
unfolding entry_in record_at
record_checks image w bytes kind good =
    let s : seal_place w ≡ 92 = entry-seal w kind in
    let small : AreSmall (take 92 (record_at image w)) = small-take 92 (record_at image w) (small-range (record_size w) (place w) (byte image (Block (file_selector w))) (bytes (Block (file_selector w)))) in
    let seal : word_at (byte image (Block (file_selector w))) (place w + 92) ≡ word_at (content (record_at image w)) 92 = sym (record_word image w 92 (omega (arith, s, seal_last (kind_of w)))) in
    let same : checks 92 (record_at image w) ≡ true =
    sym (entry_checks-prefix (record_at image w) small (omega (arith, s, length-record w image))) ∙ sym (entry_checks-by (entry_at image w) (entry_in (content (record_at image w)) 0) seal (entry-here image w kind)) ∙ good in
    subst (λ (n : ℕ). checks n (record_at image w) ≡ true) (sym s) same
