use Rattle.std.proofs.Common.{◌≡◌, ◌↔◌, ℕ, None, Some, length, inr, sym, ◌∙◌, ap, subst}
use Rattle.std.specs.Prelude.{IsTrue}
use Rattle.std.specs.Option.{ForSome}
use Rattle.std.proofs.lemmas.Result.{on_ok_weaker}
use Rattle.spec_image.specs.Told.{Told}
use Rattle.spec_format.specs.Hash.{hash as hash_of}
use Rattle.spec_folder.specs.View.{entry_at}
use Rattle.blk_io.specs.Faults.{IfDamaged}
use Rattle.blk_io.proofs.Carried.{carried, if_damaged_weaker}
use Rattle.blk_entry.specs.Keys.{AreKeyBytes, CanBeRead, HasBytesOf, HasData, HasKeyBytes, HasReadableKey, IsEntryOf, IsRecordHead, IsPlaceDamage, IsPlaced, bytes_before, key_address, key_at}
use Rattle.blk_entry.proofs.KeyPlaces.{bytes_of_head, clash, key_bytes_there, ok_weaker}
use Rattle.blk_entry.proofs.compare.key_equals.Given as given
use Rattle.blk_entry.proofs.compare.key_equals.Goals as goal

pub returns-in_err-head-clause-untold : goal.returns-in_err-head-clause-untold
returns-in_err-head-clause-untold g c can =
    carried c.read_head.result c.from_residual.result c.in_err-head.field-0.0 (λ _. (g.F.Folder.told c.args.f.now).files ≡ None) c.in_err-head.was c.from_residual.ensures.1
    (c.read_head.ensures.untold (λ image there. (can image there).agrees) (λ image there. (can image there).checks))

pub returns-clause-untold : goal.returns-clause-untold
returns-clause-untold g c can =
    subst (λ (t : Told). IfDamaged c.key_is.result (λ _. t.files ≡ None)) c.in_ok-head.ensures.reads.stays
    (c.key_is.ensures.untold (subst (λ (t : Told). ForSome t.files (CanBeRead c.args.files.now c.args.entry)) (sym c.in_ok-head.ensures.reads.stays) can)
    (subst (λ (t : Told). ForSome t.files (λ image. IsRecordHead image c.args.entry c.in_ok-head.head)) (sym c.in_ok-head.ensures.reads.stays) c.in_ok-head.ensures.head))

pub returns-clause-damaged : goal.returns-clause-damaged
returns-clause-damaged g c =
    if_damaged_weaker c.key_is.result _ _
    (λ damage wrong. inr (record {
      long_key = c.in_ok-head.head.long_key;
      wrong = subst (λ (t : Told). IsPlaceDamage c.args.files.now t c.args.entry (length c.args.key.now) c.in_ok-head.head.long_key damage) c.in_ok-head.ensures.reads.stays wrong;
    }))
    c.key_is.ensures.damaged

-- the hash of the record is another
other : (g : given.Over) (c : goal.Then-head-super_fast_hash g) → ForSome (g.F.Folder.told c.args.f.now).files (λ image. (entry_at image c.args.entry).hash ≡ hash_of c.args.key.now → ⊥)
other g c image there of = let words = c.in_ok-head.ensures.head image there in c.if-head-super_fast_hash.true (words.hash ∙ of ∙ sym c.super_fast_hash.ensures)

pub returns-then-head-super_fast_hash-clause-bytes : goal.returns-then-head-super_fast_hash-clause-bytes
returns-then-head-super_fast_hash-clause-bytes g c image there = (λ no. absurd (clash no), λ has. absurd (other g c image there has.hash))

pub returns-then-head-super_fast_hash-clause-equal : goal.returns-then-head-super_fast_hash-clause-equal
returns-then-head-super_fast_hash-clause-equal g c image there readable = (λ no. absurd (clash no), λ of. absurd (other g c image there of.hash))

pub returns-then-head-super_fast_hash-clause-placed : goal.returns-then-head-super_fast_hash-clause-placed
returns-then-head-super_fast_hash-clause-placed g c image there of = absurd (other g c image there of)

pub returns-clause-bytes : goal.returns-clause-bytes
returns-clause-bytes g c =
    ok_weaker c.key_is.result (λ same. ForSome (g.F.Folder.told c.read_head.new.folder).files (λ image. IsTrue same ↔ AreKeyBytes c.args.key.now c.args.entry c.in_ok-head.head.key_len c.in_ok-head.head.long_key image))
    (λ same. ForSome (g.F.Folder.told c.args.f.now).files (λ image. IsTrue same ↔ HasBytesOf c.args.key.now c.args.entry image))
    (λ same bytes image there.
    let whole = bytes image (ap (λ (t : Told). t.files) c.in_ok-head.ensures.reads.stays ∙ there) in
    let words = c.in_ok-head.ensures.head image there in
    let by_head = bytes_of_head image c.args.entry c.in_ok-head.head c.args.key.now words in
    (λ yes. record { hash = sym words.hash ∙ c.if-head-super_fast_hash.false ∙ c.super_fast_hash.ensures; bytes = by_head.0 (whole.0 yes) }, λ has. whole.1 (by_head.1 has.bytes)))
    c.key_is.ensures.bytes

pub returns-clause-equal : goal.returns-clause-equal
returns-clause-equal g c =
    ok_weaker c.key_is.result (λ same. ForSome (g.F.Folder.told c.read_head.new.folder).files (λ image. IsRecordHead image c.args.entry c.in_ok-head.head → HasReadableKey c.args.entry image → IsTrue same ↔ (key_at image c.args.entry ≡ Some c.args.key.now)))
    (λ same. ForSome (g.F.Folder.told c.args.f.now).files (λ image. HasReadableKey c.args.entry image → IsTrue same ↔ IsEntryOf c.args.key.now c.args.entry image))
    (λ same equal image there readable.
    let words = c.in_ok-head.ensures.head image there in
    let whole = equal image (ap (λ (t : Told). t.files) c.in_ok-head.ensures.reads.stays ∙ there) words readable in
    (λ yes. record { hash = sym words.hash ∙ c.if-head-super_fast_hash.false ∙ c.super_fast_hash.ensures; is = whole.0 yes }, λ of. whole.1 of.is))
    c.key_is.ensures.equal

pub returns-clause-placed : goal.returns-clause-placed
returns-clause-placed g c =
    on_ok_weaker c.key_is.result
    (λ placed image there of size. let words = c.in_ok-head.ensures.head image there in
    subst (λ (l : ℕ). IsPlaced c.args.files.now c.args.entry (entry_at image c.args.entry).key_len l) words.long_key
    (subst (λ (k : ℕ). IsPlaced c.args.files.now c.args.entry k c.in_ok-head.head.long_key) words.key_len (placed (words.key_len ∙ size))))
    c.key_is.ensures.placed

pub returns-clause-there : goal.returns-clause-there
returns-clause-there g c =
    ok_weaker c.key_is.result (λ same. IsTrue same → ForSome (g.F.Folder.told c.read_head.new.folder).files (HasData (key_address c.args.entry c.in_ok-head.head.key_len c.in_ok-head.head.long_key) (bytes_before c.in_ok-head.head.key_len) (length c.args.key.now)))
    (λ same. IsTrue same → ForSome (g.F.Folder.told c.args.f.now).files (HasKeyBytes c.args.entry 0 (length c.args.key.now)))
    (λ same has holds image there. key_bytes_there image c.args.entry c.in_ok-head.head (length c.args.key.now) (c.in_ok-head.ensures.head image there) (has holds image (ap (λ (t : Told). t.files) c.in_ok-head.ensures.reads.stays ∙ there)))
    c.key_is.ensures.there
