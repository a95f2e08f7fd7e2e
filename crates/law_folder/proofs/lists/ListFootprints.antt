-- Writes into the list touch no header of a block file, and no file's length.
use Rattle.std.proofs.Common.{◌≡◌, ℕ, ◌+◌, ◌<◌, false, List, [], ◌∷◌, refl, subst, arith}
use Rattle.std.proofs.lemmas.Bool.{or_from}
use Rattle.spec_image.specs.Image.{File, Block}
use Rattle.spec_image.specs.Footprint.{range}
use Rattle.spec_format.specs.Address.{file_selector, place}
use Rattle.spec_format.specs.Sealed.{record_range, record_size}
use Rattle.spec_format.proofs.SpareHeaders.{SparesHeaders, blocks_spare}
use Rattle.spec_folder.specs.ListView.{ListWrite, Next, Prev, Head, Tail, Transaction, Operation}
use Rattle.spec_folder.specs.ListSteps.{touched_by_write, touched_by_writes}

pub spare_record : (w n i : ℕ) → i < 8192 → (record_range w).bytes (Block n) i ≡ false
spare_record w n i small = (subst (λ (at : ℕ). SparesHeaders (range (Block (file_selector w)) at (record_size w))) (let e : place w + 0 ≡ place w = omega arith in e) (blocks_spare (Block (file_selector w)) w 0 (record_size w))).bytes n i small

spare_write : (write : ListWrite) (n i : ℕ) → i < 8192 → (touched_by_write write).bytes (Block n) i ≡ false
unfolding touched_by_write
spare_write (Next w x) n i small = spare_record w n i small
spare_write (Prev w x) n i small = spare_record w n i small
spare_write (Head x) n i small = refl
spare_write (Tail x) n i small = refl
spare_write (Transaction x) n i small = refl
spare_write (Operation x) n i small = refl

spares_bytes : (writes : List ListWrite) (n i : ℕ) → i < 8192 → (touched_by_writes writes).bytes (Block n) i ≡ false
spares_bytes [] n i small = refl
spares_bytes (write ∷ writes) n i small = or_from _ _ (spare_write write n i small) (spares_bytes writes n i small)

pub spares_headers : (writes : List ListWrite) → SparesHeaders (touched_by_writes writes)
spares_headers writes = record { bytes = spares_bytes writes }

spare_size : (write : ListWrite) (file : File) → (touched_by_write write).sizes file ≡ false
unfolding touched_by_write
spare_size (Next w x) file = refl
spare_size (Prev w x) file = refl
spare_size (Head x) file = refl
spare_size (Tail x) file = refl
spare_size (Transaction x) file = refl
spare_size (Operation x) file = refl

pub spares_sizes : (writes : List ListWrite) (file : File) → (touched_by_writes writes).sizes file ≡ false
spares_sizes [] file = refl
spares_sizes (write ∷ writes) file = or_from _ _ (spare_size write file) (spares_sizes writes file)
