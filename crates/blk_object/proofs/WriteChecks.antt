-- Why a stream isn't written: a check that fails.
use Rattle.std.proofs.Common.{◌≡◌, ◌⊎◌, inl, inr, ℕ, ◌%◌, ◌<◌, ◌≤◌, Bool, true, false, if◌then◌else◌, Err, refl, sym, ◌∙◌, subst, arith}
use Rattle.std.specs.Prelude.{◌==◌, ◌^◌, nat_le}
use Rattle.std.specs.Option.{ForSome}
use Rattle.std.proofs.lemmas.Bool.Decides.{nat_tests}
use Rattle.spec_image.specs.Image.{length_of}
use Rattle.spec_image.specs.Told.{Told}
use Rattle.spec_format.specs.Address.{blocks_256, is_address, kind_of}
use Rattle.spec_format.specs.Storage.{blocks_for, is_storage, kind_for}
use Rattle.blk_addr.specs.Kind.{kind_number}
use Rattle.blk_addr.specs.declared.kinds.Kind.{Kind}
use Rattle.blk_addr.specs.declared.kinds.Kind.TheVariants.{External, B256, B1K, B4K}
use Rattle.spec_folder.specs.Entries.{most_stream_bytes}
use Rattle.blk_io.specs.declared.folder.FileId.{FileId}
use Rattle.blk_io.specs.declared.fault.Damage.{Damage}
use Rattle.blk_io.specs.declared.fault.Fault.{Fault}
use Rattle.blk_io.specs.FileNames.{file_of}
use Rattle.blk_io.specs.Faults.{IfDamaged, IsShort}
use Rattle.blk_disk.specs.declared.tables.BlockFiles.{BlockFiles}
use Rattle.blk_disk.specs.Tables.{stands_among}
use Rattle.blk_disk.proofs.Ranges.{stands_linked}
use Rattle.blk_alloc.specs.Allocating.{IsRefusal}
use Rattle.blk_alloc.specs.Extending.{KeepsStanding}
use Rattle.blk_entry.specs.Keys.{IsDamageAt, stores}
use Rattle.blk_stream.specs.Placing.{IsPlaceRefusal}
use Rattle.blk_stream.specs.Streams.{IsMisplacedStream, address_place, size_place}
use Rattle.blk_stream.specs.Written.{IsWriteDamage}
use Rattle.blk_object.specs.FailedChecks.{IsFailedCheck, WrongStream}
use Rattle.blk_object.proofs.DamageChecks.{cause-checked, create-checked, head-checked, moved, refusal-checked, short-checked, within-checked}

-- the kind of the storage of a size
kind-of-size : (size : ℕ) → (k : Kind) × (kind_number k ≡ kind_for size)
unfolding kind_for
kind-of-size size = by_tests (nat_le size 1023) (nat_le size 4095) (nat_le size 16384)
  where
    by_tests : (a b c : Bool) → (k : Kind) × (kind_number k ≡ (if a then 2 else if b then 3 else if c then 4 else 0))
    by_tests true b c = (B256, refl)
    by_tests false true c = (B1K, refl)
    by_tests false false true = (B4K, refl)
    by_tests false false false = (External, refl)

-- there is no new place
pub refused-checked : (files kept : BlockFiles) (size : ℕ) (before after : Told) (damage : Damage) → KeepsStanding files kept → IsPlaceRefusal files kept size before after damage → IsFailedCheck kept after damage
refused-checked files kept size before after damage keeps (inl why) = moved kept before after damage why.1 (create-checked kept before damage why.2)
refused-checked files kept size before after damage keeps (inr why) =
    let k = kind-of-size size in
    refusal-checked files kept k.0 (blocks_for size) before after damage (λ e. why.0 (sym k.1 ∙ e)) keeps (subst (λ (n : ℕ). IsRefusal files kept n (blocks_for size) before after damage) (sym k.1) why.1)

-- a stream isn't written
pub write-checked : (files kept : BlockFiles) (entry i : ℕ) (before after : Told) (damage : Damage) → kind_of entry ≡ blocks_256 → stands_among kept entry ≡ true → KeepsStanding files kept → IsWriteDamage files kept before after entry i damage → IsFailedCheck kept after damage
write-checked files kept entry i before after damage kind stands keeps (inl (stays, (same, inl head))) = moved kept before after damage stays (head-checked kept before entry damage kind stands head)
write-checked files kept entry i before after damage kind stands keeps (inl (stays, (same, inr wrong))) = moved kept before after damage stays (within-checked kept before entry damage kind stands (WrongStream i (subst (λ (fs : BlockFiles). IsMisplacedStream fs entry i damage) (sym same) wrong)))
write-checked files kept entry i before after damage kind stands keeps (inr (inl (size, why))) = refused-checked files kept size before after damage keeps why
write-checked files kept entry i before after damage kind stands keeps (inr (inr (inl (w, size, cut)))) = short-checked kept after _ _ _ damage cut.cut
write-checked files kept entry i before after damage kind stands keeps (inr (inr (inr (w, there, cause)))) = cause-checked kept after _ _ _ false damage (stands_linked kept w there) cause

-- a word that is no address stores nothing
pub no-storage : (files : BlockFiles) (size w : ℕ) → 0 < size → is_address w ≡ false → stores files size w ≡ false
unfolding stores is_storage
no-storage files size w some none = let z : (size == 0) ≡ false = grind (arith, nat_tests) in rw (z, none) refl

-- a stream has bytes and no address
pub unplaced-checked : (files : BlockFiles) (told : Told) (entry i size w : ℕ) (fault : Fault) → kind_of entry ≡ blocks_256 → stands_among files entry ≡ true → 0 < size → is_address w ≡ false
    → ((most_stream_bytes < size) × IsDamageAt entry (size_place i) size fault) ⊎ ((size ≤ most_stream_bytes) × IsDamageAt entry (address_place i) w fault) → IfDamaged {A = Unit {0}} (Err fault) (IsFailedCheck files told)
unplaced-checked files told entry i size w fault kind stands some none (inl (long, at)) =
    subst (λ (e : Fault). IfDamaged {A = Unit {0}} (Err e) (IsFailedCheck files told)) (sym at.is) (within-checked files told entry at.damage kind stands (WrongStream i (record { size = size; word = w; wrong = inl (long, at.word) })))
unplaced-checked files told entry i size w fault kind stands some none (inr (few, at)) =
    subst (λ (e : Fault). IfDamaged {A = Unit {0}} (Err e) (IsFailedCheck files told)) (sym at.is) (within-checked files told entry at.damage kind stands (WrongStream i (record { size = size; word = w; wrong = inr (few, no-storage files size w some none, at.word) })))

-- a file is too short
pub reads-short : (told : Told) (file : FileId) (size n : ℕ) → n < size → size < 2 ^ 32 → ForSome told.files (λ image. n ≡ length_of image (file_of file)) → IsShort told file 0 size (record { file = file; at = 0; found = n % 2 ^ 32 })
reads-short told file size n less small long =
    let same : n % 2 ^ 32 ≡ n = omega (arith, less, small) in
    record { of_file = refl; at_place = refl; few = omega (arith, same, less); many = λ image there. same ∙ (let e = long image there in omega (arith, e, less)) }
