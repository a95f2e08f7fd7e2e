-- What the commands meet is a failed check.
use Rattle.std.proofs.Common.{◌≡◌, ◌∙◌, ◌-◌, ◌<◌, ◌||◌, ◌⊎◌, inl, inr, ap, arith, refl, subst, sym, ℕ, List, length, Bool, false, true}
use Rattle.std.specs.Prelude.{◌==◌, min, nat_lt}
use Rattle.std.specs.Option.{ForSome}
use Rattle.std.proofs.lemmas.Bool.{eqb-true}
use Rattle.std.proofs.lemmas.Bool.Decides.{nat_tests}
use Rattle.blk_model.specs.Refusals.{no_key}
use Rattle.spec_image.specs.Image.{Image}
use Rattle.spec_image.specs.Told.{Told}
use Rattle.spec_image.proofs.Words.{length-range}
use Rattle.spec_folder.specs.View.{entry_at}
use Rattle.blk_io.specs.declared.fault.Damage.{Damage}
use Rattle.blk_disk.specs.declared.tables.BlockFiles.{BlockFiles}
use Rattle.blk_entry.specs.Keys.{IsPiece, IsWordOf, key_bytes}
use Rattle.blk_chain.proofs.Heads.{names-parts}
use Rattle.blk_stream.specs.Streams.{size_place, size_word, stream_bytes}
use Rattle.blk_object.specs.FailedChecks.{EndsTooSoon, IsFailedCheck}
use Rattle.blk_object.proofs.DamageChecks.{head-checked, node-word-checked, search-checked}
use Rattle.blk_evict.specs.Looking.{IsEntryDamage, IsLookUpDamage}

-- the search for a live object
pub look-checked : (files : BlockFiles) (told : Told) (key : List ℕ) (damage : Damage) → IsLookUpDamage files told key damage → IsFailedCheck files told damage
look-checked files told key damage (inl search) = search-checked files told key false damage search
look-checked files told key damage (inr wrong) = go wrong.wrong
  where
    go : IsEntryDamage files told wrong.entry damage → IsFailedCheck files told damage
    go (inl head) = let parts = names-parts files wrong.entry wrong.stands in head-checked files told wrong.entry damage parts.1.0 parts.1.1 head
    go (inr node) = node-word-checked files told _ _ damage node

-- the key that a record names has the length that the record says
pub key-length-said : (image : Image) (entry : ℕ) → length (key_bytes image entry) ≡ (entry_at image entry).key_len
unfolding key_bytes
key-length-said image entry = length-range (entry_at image entry).key_len _ _

-- the bytes of a stream have the length that the record says
pub stream-length-said : (image : Image) (entry stream : ℕ) → length (stream_bytes image entry stream) ≡ size_word image entry stream
unfolding stream_bytes
stream-length-said image entry stream = length-range (size_word image entry stream) _ _

-- bytes that are no key are none, or too many
pub wrong-length : (key : List ℕ) (n : ℕ) → n ≡ length key → no_key key ≡ true → (n ≡ 0) ⊎ (32768 < n)
wrong-length key n is none = go (length key == 0) refl none where
  go : (t : Bool) → (length key == 0) ≡ t → (t || nat_lt 32768 (length key)) ≡ true → (n ≡ 0) ⊎ (32768 < n)
  go true e h = inl (is ∙ eqb-true (length key) 0 e)
  go false e h = inr (let many : nat_lt 32768 (length key) ≡ true = h in let same = is in grind (arith, nat_tests))

-- a stream gave fewer bytes than were to be read
pub ends-too-soon : (told : Told) (entry stream offset number : ℕ) (old new : List ℕ) (damage : Damage) → IsWordOf entry (size_place stream) number damage → number < length old
    → ForSome told.files (λ image. IsPiece (stream_bytes image entry stream) offset old new number) → EndsTooSoon told entry damage
ends-too-soon told entry stream offset number old new damage word few piece = record {
  stream = stream;
  offset = offset;
  count = length old;
  of_word = subst (λ (n : ℕ). IsWordOf entry (size_place stream) n damage) (sym word.of_word) word;
  few = subst (λ (n : ℕ). n < length old) (sym word.of_word) few;
  many = λ image there. word.of_word ∙ (piece image there).many ∙ ap (λ (n : ℕ). min (length old) (n - offset)) (stream-length-said image entry stream);
}
