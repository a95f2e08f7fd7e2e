-- The key of a record by what is kept of it.
use Rattle.std.proofs.Common.{◌≡◌, ◌+◌, ℕ, Bool, true, false, if◌then◌else◌, List, length, take, Option, None, Some, refl, sym, ◌∙◌, ap, ap₂}
use Rattle.std.specs.Prelude.{◌==◌, nat_le}
use Rattle.std.specs.Option.{option_map}
use Rattle.std.specs.Str.{bytes_eq}
use Rattle.spec_image.specs.Image.{Image}
use Rattle.blk_model.proofs.Same.{same_bytes}
use Rattle.spec_folder.specs.Entries.{stored_key}
use Rattle.spec_folder.specs.View.{StoreView, store_of}
use Rattle.blk_verdict.specs.Keyed.{IsKeyOf, words_kept}
use Rattle.blk_audit.specs.Records.{fields_said}
use Rattle.blk_audit.specs.declared.record_words.RecordWords.{RecordWords}
use Rattle.blk_verdict.specs.declared.loading.Loaded.{Loaded}

-- a key by its length and by the word of a long key
abbrev by_place : StoreView → ℕ → ℕ → ℕ → Option (List ℕ)
by_place store entry k l = if nat_le k 927 then (if l == 0 then Some (store.key_place entry k) else None) else option_map (take k) (store.stored (k + 1) l)

pub stored_same : (image : Image) (loaded : Loaded) (key : List ℕ) → IsKeyOf image loaded key → stored_key (store_of image) loaded.entry (fields_said (words_kept loaded)) ≡ Some key
unfolding stored_key
stored_same image loaded key is = ap₂ (by_place (store_of image) loaded.entry) (sym is.key_len) (sym is.long_key) ∙ is.stored

-- a key is the same by other words that say the same of it
pub stored_by_words : (image : Image) (loaded : Loaded) (words : RecordWords) (key : List ℕ) → words.key_len ≡ loaded.key_len → words.long_key ≡ loaded.long_key → IsKeyOf image loaded key → stored_key (store_of image) loaded.entry (fields_said words) ≡ Some key
unfolding stored_key
stored_by_words image loaded words key len long is = ap₂ (by_place (store_of image) loaded.entry) (len ∙ sym is.key_len) (long ∙ sym is.long_key) ∙ is.stored

-- bytes of other lengths are others
pub bytes_differ : (a b : List ℕ) → (length a ≡ length b → ⊥) → bytes_eq a b ≡ false
bytes_differ a b other = by_test (bytes_eq a b) refl
  where
    by_test : (t : Bool) → bytes_eq a b ≡ t → t ≡ false
    by_test false e = refl
    by_test true e = absurd (other (ap length (same_bytes a b e)))
