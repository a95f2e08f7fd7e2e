-- What an update of an entry record shows.
use Rattle.std.proofs.Common.{◌≡◌, ◌≢◌, ◌⊎◌, inl, inr, ⊎_elim, ℕ, ◌+◌, ◌*◌, ◌^◌, ◌<◌, ◌≤◌, Bool, true, false, if◌then◌else◌, List, [], ◌∷◌, All, length, take, get_or, Some, None, refl, sym, ◌∙◌, ap, ap₂, subst, arith}
use Rattle.std.specs.Prelude.{◌==◌}
use Rattle.std.proofs.lemmas.Bool.{cases_Bool, cases_eq}
use Rattle.spec_image.specs.Bytes.{content, words_at}
use Rattle.spec_image.specs.Image.{Block, Image, byte}
use Rattle.spec_image.specs.Steps.{with_word, with_words}
use Rattle.spec_image.proofs.Runs.{some_inj}
use Rattle.spec_image.proofs.Words.{same-range, word-beside, word-there}
use Rattle.spec_format.specs.Address.{kind_of, file_selector, first_block, place, rankings, blocks_256}
use Rattle.spec_format.specs.Records.{Entry, entry_in, entry_checks, entry_size}
use Rattle.spec_format.specs.BlockFiles.{stands_in}
use Rattle.spec_folder.specs.Chains.{file_and_block}
use Rattle.spec_folder.specs.View.{RecordFields, fields_of, stands_as, block_bytes, entry_at, store_of, fields_at, follow_at, key_place_at}
use Rattle.law_folder.proofs.claims.BlockBytes.{same-entry_in}
use Rattle.spec_format.specs.Sealed.{BeginsWithRecord, IsMidUpdate, record_at, record_range, record_size, seal_place, size_by_kind}
use Rattle.spec_format.proofs.SealedRecords.{length-record}
use Rattle.spec_format.proofs.SealedFields.{record_word, field_stays}
use Rattle.spec_folder.specs.ShownChanges.{SameExceptRecord, OnlyChainNextChanges}
use Rattle.law_folder.specs.RecordUpdates.{IsRecord, ChainNextsAreWritten, FieldsAreWritten}
use Rattle.law_folder.proofs.updates.Prefixes.{open_entry}
use Rattle.law_folder.proofs.claims.Inside.{record-changes}
use Rattle.law_folder.proofs.updates.Nodes.{none-or-one}
use Rattle.law_folder.proofs.updates.Updates.{entry-seal, entry-here, entry-made, entry-checks}
use Rattle.law_folder.proofs.updates.StillShown.{standing-parts, core-standing, stands_as-all, table-still, named-still, list-still}
use Rattle.law_folder.proofs.chains.ChainWords.{same-file, same-first, record-at}
use Rattle.law_folder.proofs.claims.Covers.{block-of, out-range}

-- ---- one first block, or two

both-same : (u w : ℕ) → file_selector u ≡ file_selector w → first_block u ≡ first_block w → file_and_block u ≡ file_and_block w
unfolding file_selector first_block
both-same u w e f = omega arith

record-96 : (w : ℕ) → kind_of w ≡ blocks_256 → record_size w ≡ 96
unfolding size_by_kind
record-96 w kind = rw kind refl

shared : (image : Image) (u w : ℕ) → kind_of u ≡ blocks_256 → kind_of w ≡ blocks_256 → file_and_block u ≡ file_and_block w → entry_at image u ≡ entry_at image w
shared image u w one other same =
    let p : place u ≡ place w = record-at u one ∙ ap (λ (b : ℕ). 8192 + b * 256) (same-first u w same) ∙ sym (record-at w other) in
    ap₂ (λ (f i : ℕ). entry_in (byte image (Block f)) i) (same-file u w same) p

-- the place of another record lies outside
apart-places : (u w k : ℕ) → kind_of u ≡ blocks_256 → kind_of w ≡ blocks_256 → file_and_block u ≢ file_and_block w → place u ≤ k → k < place u + 96 → (record_range w).bytes (Block (file_selector u)) k ≡ false
apart-places u w k one other apart low high = out-range (Block (file_selector w)) (Block (file_selector u)) (place w) (record_size w) k (λ file above below.
    let firsts : first_block u ≢ first_block w = (λ e. apart (both-same u w (sym (block-of (file_selector w) (file_selector u) file)) e)) in
    omega (arith, low, high, above, below, record-at u one, record-at w other, record-96 w other, firsts))

-- ---- a record of bytes in which its next is written
with-follow : (b : List ℕ) (x : ℕ) → length b ≡ 96 → x < 2 ^ 32 → open_entry (entry_in (content (with_word 4 x b)) 0) ≡ record (open_entry (entry_in (content b) 0)) { next = x }
unfolding entry_in words_at
with-follow b x long small =
    let s = (λ (j : ℕ) (h : (j + 4 ≤ 4) ⊎ (4 + 4 ≤ j)). word-beside j 4 x b h) in
    let four : (d : ℕ) → 8 ≤ d → words_at (content (with_word 4 x b)) d 4 ≡ words_at (content b) d 4 = λ d h i. s d (inr (omega arith)) i ∷ s (d + 4) (inr (omega arith)) i ∷ s (d + 4 + 4) (inr (omega arith)) i ∷ s (d + 4 + 4 + 4) (inr (omega arith)) i ∷ [] in
    λ i. record {
      hash = s 0 (inl (omega arith)) i;
      next = word-there 4 x b small (omega arith) i;
      rankings_node = s 8 (inr (omega arith)) i;
      reuse_count = s 12 (inr (omega arith)) i;
      refetch_count = s 16 (inr (omega arith)) i;
      state = s 20 (inr (omega arith)) i;
      creation_time = s 24 (inr (omega arith)) i + 4294967296 * s 28 (inr (omega arith)) i;
      key_len = s 32 (inr (omega arith)) i;
      long_key = s 36 (inr (omega arith)) i;
      data_size = four 40 (omega arith) i;
      data_addr = four 56 (omega arith) i;
      flags = s 72 (inr (omega arith)) i;
      pad = four 76 (omega arith) i;
      self_hash = 0;
    }

-- ---- fields

-- two records that differ in their checksums and links have the same fields, but for whether the checksum is right or absent
core-by : (m n : Entry) (b : Bool) (x : ℕ) → entry_checks m ≡ b → open_entry m ≡ record (open_entry n) { next = x } → fields_of m ≡ record (fields_of n) { checks = b }
core-by m n b x good rest = λ i. record {
  checks = good i;
  hash = (rest i).hash;
  rankings_node = (rest i).rankings_node;
  state = (rest i).state;
  key_len = (rest i).key_len;
  long_key = (rest i).long_key;
  data_size = (rest i).data_size;
  data_addr = (rest i).data_addr;
  flags = (rest i).flags;
}

-- what a record that is there shows
shown-record : (image : Image) (u : ℕ) → stands_as image blocks_256 u ≡ true → (fields_at image u ≡ Some (fields_of (entry_at image u))) × (follow_at image u ≡ (entry_at image u).next)
unfolding fields_at follow_at
shown-record image u st = (rw st refl, rw st refl)

unshown-record : (image : Image) (u : ℕ) → stands_as image blocks_256 u ≡ false → (fields_at image u ≡ None) × (follow_at image u ≡ 0)
unfolding fields_at follow_at
unshown-record image u st = (rw st refl, rw st refl)

-- ---- an update

module _ (from image : Image) (w : ℕ) (own_fields : RecordFields) (is : IsRecord from w own_fields) (changes : List (ℕ × ℕ)) (moment : IsMidUpdate from w changes image) where
  as-record : stands_as from blocks_256 w ≡ true
  as-record = core-standing from w own_fields is.here

  standing : stands_in from w ≡ true
  standing = (standing-parts from blocks_256 w as-record).0

  kind : kind_of w ≡ blocks_256
  kind = (standing-parts from blocks_256 w as-record).1

  begins : BeginsWithRecord w
  begins = inr kind

  no-node : rankings ≢ kind_of w
  no-node e = let z : ◌≡◌ {A = ℕ} 1 2 = e ∙ kind in cc

  stands-now : (u : ℕ) → stands_as image blocks_256 u ≡ stands_as from blocks_256 u
  stands-now u = stands_as-all from image w standing begins moment.outside blocks_256 u

  -- the record before
  core-was : fields_of (entry_at from w) ≡ own_fields
  unfolding store_of
  core-was = some_inj (sym (shown-record from w as-record).0 ∙ is.here)

  good-was : entry_checks (entry_at from w) ≡ true
  good-was = ap (λ (c : RecordFields). c.checks) core-was ∙ is.good

  -- the key after the record
  key-kept : (n : ℕ) → key_place_at from w n ≡ key_place_at image w n
  unfolding key_place_at
  key-kept n = same-range n (place w + entry_size) (block_bytes from w) (block_bytes image w) (λ k low high.
      sym (moment.outside.bytes (Block (file_selector w)) k (out-range (Block (file_selector w)) (Block (file_selector w)) (place w) (record_size w) k (λ file above below. omega (arith, low, below, record-96 w kind)))))

  beside : SameExceptRecord w from image
  unfolding store_of
  beside =
      let shown = (record-changes from image w standing begins moment.outside).shown in
      record {
        list = list-still from image w standing begins moment.outside no-node;
        node_fields = λ u. named-still from image w standing begins moment.outside no-node u;
        table = λ b. table-still from image w standing begins moment.outside b;
        key_place = λ u c where_is here long short. ⊎_elim
            (λ clear. shown.store.key_place u c clear here long short)
            (λ (e : u ≡ w). subst (λ (v : ℕ). key_place_at from v c.key_len ≡ key_place_at image v c.key_len) (sym e) (key-kept c.key_len))
            where_is;
        stored = λ size u clear. shown.store.stored size u clear;
      }

  -- the other records
  entry-kept : (u : ℕ) → stands_as from blocks_256 u ≡ true → file_and_block u ≢ file_and_block w → entry_at image u ≡ entry_at from u
  entry-kept u e apart =
      let p = standing-parts from blocks_256 u e in
      sym (same-entry_in (place u) (block_bytes from u) (block_bytes image u) (λ k low high. sym (moment.outside.bytes (Block (file_selector u)) k (apart-places u w k p.1 kind apart low high))))

  others : (u : ℕ) → file_and_block u ≢ file_and_block w → (fields_at from u ≡ fields_at image u) × (follow_at from u ≡ follow_at image u)
  others u apart = ⊎_elim
      (λ (e : stands_as from blocks_256 u ≡ true).
      let was = shown-record from u e in
      let now = shown-record image u (stands-now u ∙ e) in
      let same = entry-kept u e apart in
      (was.0 ∙ ap (λ (n : Entry). Some (fields_of n)) (sym same) ∙ sym now.0, was.1 ∙ ap (λ (n : Entry). n.next) (sym same) ∙ sym now.1))
      (λ (e : stands_as from blocks_256 u ≡ false).
      let was = unshown-record from u e in
      let now = unshown-record image u (stands-now u ∙ e) in
      (was.0 ∙ sym now.0, was.1 ∙ sym now.1))
      (cases_Bool (stands_as from blocks_256 u))

  -- the fields of each record, where those of this one are as before
  cores : fields_of (entry_at image w) ≡ fields_of (entry_at from w) → (u : ℕ) → fields_at from u ≡ fields_at image u
  cores here u = ⊎_elim
      (λ (e : file_and_block u ≡ file_and_block w). ⊎_elim
      (λ (s : stands_as from blocks_256 u ≡ true).
      let k = (standing-parts from blocks_256 u s).1 in
      (shown-record from u s).0 ∙ ap (λ (n : Entry). Some (fields_of n)) (shared from u w k kind e) ∙ ap (λ (c : RecordFields). Some c) (sym here) ∙ ap (λ (n : Entry). Some (fields_of n)) (sym (shared image u w k kind e)) ∙ sym (shown-record image u (stands-now u ∙ s)).0)
      (λ (s : stands_as from blocks_256 u ≡ false). (unshown-record from u s).0 ∙ sym (unshown-record image u (stands-now u ∙ s)).0)
      (cases_Bool (stands_as from blocks_256 u)))
      (λ (apart : file_and_block u ≢ file_and_block w). (others u apart).0)
      (cases_eq (file_and_block u) (file_and_block w))

  -- the link of each record, where that of this one is as before
  follows : (entry_at image w).next ≡ (entry_at from w).next → (u : ℕ) → follow_at from u ≡ follow_at image u
  follows here u = ⊎_elim
      (λ (e : file_and_block u ≡ file_and_block w). ⊎_elim
      (λ (s : stands_as from blocks_256 u ≡ true).
      let k = (standing-parts from blocks_256 u s).1 in
      (shown-record from u s).1 ∙ ap (λ (n : Entry). n.next) (shared from u w k kind e) ∙ sym here ∙ ap (λ (n : Entry). n.next) (sym (shared image u w k kind e)) ∙ sym (shown-record image u (stands-now u ∙ s)).1)
      (λ (s : stands_as from blocks_256 u ≡ false). (unshown-record from u s).1 ∙ sym (unshown-record image u (stands-now u ∙ s)).1)
      (cases_Bool (stands_as from blocks_256 u)))
      (λ (apart : file_and_block u ≢ file_and_block w). (others u apart).1)
      (cases_eq (file_and_block u) (file_and_block w))

  good-now : entry_checks (entry_at image w) ≡ true
  good-now = entry-checks from image w changes is.bytes moment kind

-- its next
module _ (from image : Image) (w x : ℕ) (own_fields : RecordFields) (is : IsRecord from w own_fields) (small : x < 2 ^ 32) (moment : IsMidUpdate from w ((4, x) ∷ []) image) where
  long : length (record_at from w) ≡ 96
  long = let s : seal_place w ≡ 92 = entry-seal w (kind from image w own_fields is _ moment) in omega (arith, s, length-record w from)

  entry-now : (m : ℕ) → moment.made ≡ m → open_entry (entry_at image w) ≡ open_entry (entry_in (content (with_words (take m ((4, x) ∷ [])) (record_at from w))) 0)
  entry-now m e =
      entry-made from image w ((4, x) ∷ []) is.bytes moment (kind from image w own_fields is _ moment)
      ∙ ap (λ (n : ℕ). open_entry (entry_in (content (with_words (take n ((4, x) ∷ [])) (record_at from w))) 0)) e

  entry-was : open_entry (entry_at from w) ≡ open_entry (entry_in (content (record_at from w)) 0)
  entry-was = entry-here from w (kind from image w own_fields is _ moment)

  only-follow : (y : ℕ) → open_entry (entry_at image w) ≡ record (open_entry (entry_at from w)) { next = y } → OnlyChainNextChanges w from image
  unfolding store_of
  only-follow y rest =
      let same : fields_of (entry_at image w) ≡ fields_of (entry_at from w) =
      core-by (entry_at image w) (entry_at from w) true y (good-now from image w own_fields is _ moment) rest
      ∙ ap (λ (b : Bool). record (fields_of (entry_at from w)) { checks = b }) (sym (good-was from image w own_fields is _ moment)) in
      record {
        rest = beside from image w own_fields is _ moment;
        entry = λ u. cores from image w own_fields is _ moment same u;
        chain_next = λ u apart. (others from image w own_fields is _ moment u apart).1;
      }

  follow-now : (store_of image).chain_next w ≡ (entry_at image w).next
  unfolding store_of
  follow-now = (shown-record image w (stands-now from image w own_fields is _ moment w ∙ as-record from image w own_fields is _ moment)).1

  follow-was : (store_of from).chain_next w ≡ (entry_at from w).next
  unfolding store_of
  follow-was = (shown-record from w (as-record from image w own_fields is _ moment)).1

  follows-is : OnlyChainNextChanges w from image × ((store_of image).chain_next w ≡ (if moment.made == 0 then (store_of from).chain_next w else x))
  follows-is = ⊎_elim
      (λ (e : moment.made ≡ 0).
      let n : open_entry (entry_at image w) ≡ open_entry (entry_at from w) = entry-now 0 e ∙ sym entry-was in (
        only-follow (entry_at from w).next n,
        subst (λ (m : ℕ). (store_of image).chain_next w ≡ (if m == 0 then (store_of from).chain_next w else x)) (sym e) (follow-now ∙ ap (λ (a : Entry). a.next) n ∙ sym follow-was),
      ))
      (λ (e : moment.made ≡ 1).
      let n : open_entry (entry_at image w) ≡ record (open_entry (entry_at from w)) { next = x } = entry-now 1 e ∙ with-follow (record_at from w) x long small ∙ ap (λ (a : Entry). record a { next = x }) (sym entry-was) in (
        only-follow x n,
        subst (λ (m : ℕ). (store_of image).chain_next w ≡ (if m == 0 then (store_of from).chain_next w else x)) (sym e) (follow-now ∙ ap (λ (a : Entry). a.next) n),
      ))
      (none-or-one moment.made (let h : moment.made ≤ 1 = moment.within in h))

pub follows-written : ChainNextsAreWritten
follows-written from image w x own_fields is small moment = follows-is from image w x own_fields is small moment

-- the fields after it
pub fields-written : FieldsAreWritten
unfolding store_of entry_in size_by_kind
fields-written from image w changes own_fields is are later moment =
    let k : kind_of w ≡ blocks_256 = kind from image w own_fields is changes moment in
    let s : seal_place w ≡ 92 = entry-seal w k in
    let other : All (λ change. change.0 ≢ 4) changes = λ i c within e. let h : 8 ≤ (get_or changes i c).0 = later i c within in omega (arith, h, e) in
    let fits : 4 + 4 ≤ record_size w = rw k (omega arith) in
    let link : (entry_at image w).next ≡ (entry_at from w).next = sym (record_word image w 4 fits) ∙ field_stays from image w changes are moment 4 refl (omega (arith, s)) other ∙ record_word from w 4 fits in
    let made = entry-made from image w changes is.bytes moment k in (
      record {
        rest = beside from image w own_fields is changes moment;
        entry = λ u apart. (others from image w own_fields is changes moment u apart).0;
        chain_next = λ u. follows from image w own_fields is changes moment link u;
      },
      (shown-record image w (stands-now from image w own_fields is changes moment w ∙ as-record from image w own_fields is changes moment)).0
          ∙ ap (λ (c : RecordFields). Some c) (core-by (entry_at image w) (entry_in (content (with_words (take moment.made changes) (record_at from w))) 0) true (entry_in (content (with_words (take moment.made changes) (record_at from w))) 0).next (good-now from image w own_fields is changes moment) made),
    )
