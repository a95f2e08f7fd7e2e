-- What is shown after a change inside the record of an address.
use Rattle.std.proofs.Common.{◌≡◌, ◌≢◌, inl, inr, ⊎_elim, ℕ, Bool, true, false, if◌then◌else◌, [], Option, Some, None, refl, sym, ◌∙◌, ap, arith}
use Rattle.std.specs.Prelude.{◌==◌, ◌&&◌, not, nat_le}
use Rattle.std.proofs.lemmas.Bool.{and_parts, cases_Bool, eqb-true, eq-eqb}
use Rattle.std.proofs.lemmas.Bool.Decides.{nat_tests}
use Rattle.spec_image.specs.Bytes.{word_at}
use Rattle.spec_image.specs.Image.{Index, Image, byte}
use Rattle.spec_image.specs.Footprint.{SameOutside}
use Rattle.spec_format.specs.Address.{kind_of, file_selector, external, rankings, blocks_256}
use Rattle.spec_format.specs.Storage.{is_storage, kind_for, longest_short_key}
use Rattle.spec_format.specs.BlockFiles.{linked_as, stands_in}
use Rattle.spec_folder.specs.View.{RecordFields, stands_as, list_of, checks_at, next_at, prev_at, store_of, node_fields_at, fields_at, follow_at, stored_at}
use Rattle.spec_folder.specs.Entries.{is_key_length}
use Rattle.law_folder.proofs.claims.ByteChanges.{stands-linked}
use Rattle.spec_format.specs.Sealed.{BeginsWithRecord, record_range}
use Rattle.law_folder.proofs.claims.Inside.{IsElsewhere, elsewhere-clear, record-blocky, record-changes, record-elsewhere}

pub standing-parts : (image : Image) (kind u : ℕ) → stands_as image kind u ≡ true → (stands_in image u ≡ true) × (kind_of u ≡ kind)
standing-parts image kind u e = let p = and_parts (stands_in image u) (kind_of u == kind) e in (p.0, eqb-true (kind_of u) kind p.1)

-- valid words of two kinds are of two files
pub elsewhere-by : (image : Image) (u w : ℕ) → stands_in image u ≡ true → stands_in image w ≡ true → kind_of w ≢ external → kind_of u ≢ kind_of w → IsElsewhere (file_selector w) u
elsewhere-by image u w up st block_kind apart = ⊎_elim
    (λ (e : (kind_of u == external) ≡ true). inl (eqb-true (kind_of u) external e))
    (λ (e : (kind_of u == external) ≡ false). inr (λ same.
    let other : kind_of u ≢ external = (λ x. let y : (kind_of u == external) ≡ true = eq-eqb (kind_of u) external x in let c : true ≡ false = sym y ∙ e in cc) in
    let a : linked_as image (file_selector w) ≡ Some (kind_of w) = stands-linked image w st block_kind in
    let b : linked_as image (file_selector w) ≡ Some (kind_of u) = ap (linked_as image) (sym same) ∙ stands-linked image u up other in
    apart (cc)))
    (cases_Bool (kind_of u == external))

-- no data is stored in nodes
not-stored : (size u : ℕ) → kind_of u ≡ rankings → (size == 0) ≡ false → is_storage size u ≡ false
unfolding is_storage kind_for
not-stored size u kind some = rw (some, kind) (grind (arith, nat_tests))

none-stored : (image : Image) (size u : ℕ) → kind_of u ≡ rankings → stored_at image size u ≡ (if size == 0 then (if not (is_storage size u) then None else Some []) else None)
unfolding stored_at
none-stored image size u kind = ⊎_elim
    (λ (e : (size == 0) ≡ true). rw e refl)
    (λ (e : (size == 0) ≡ false). rw (e, not-stored size u kind e) refl)
    (cases_Bool (size == 0))

unstood-stored : (image : Image) (size u : ℕ) → stands_in image u ≡ false → stored_at image size u ≡ (if not (is_storage size u) then None else if size == 0 then Some [] else None)
unfolding stored_at
unstood-stored image size u none = rw none refl

core-stands : (image : Image) (u : ℕ) (fields : RecordFields) → fields_at image u ≡ Some fields → stands_as image blocks_256 u ≡ true
unfolding fields_at
core-stands image u fields is = ⊎_elim
    (λ (s : stands_as image blocks_256 u ≡ true). s)
    (λ (s : stands_as image blocks_256 u ≡ false). let none : ◌≡◌ {A = Option RecordFields} None (Some fields) = rw s at is in absurd (cc))
    (cases_Bool (stands_as image blocks_256 u))

pub core-standing : (image : Image) (u : ℕ) (fields : RecordFields) → (store_of image).entry u ≡ Some fields → stands_as image blocks_256 u ≡ true
unfolding store_of
core-standing image u fields is = core-stands image u fields is

module _ (from image : Image) (w : ℕ) (st : stands_in from w ≡ true) (begins : BeginsWithRecord w) (same : SameOutside (record_range w) from image) where
  pub stands_as-all : (kind u : ℕ) → stands_as image kind u ≡ stands_as from kind u
  stands_as-all kind u = ap (λ (b : Bool). b && (kind_of u == kind)) ((record-changes from image w st begins same).stands u)

  -- words of a kind that is not the record's
  away : (kind u : ℕ) → stands_as from kind u ≡ true → kind ≢ kind_of w → IsElsewhere (file_selector w) u
  away kind u e apart = let p = standing-parts from kind u e in elsewhere-by from u w p.0 st (record-blocky w begins) (λ s. apart (sym p.1 ∙ s))

  pub index-still : byte image Index ≡ byte from Index
  index-still = λ i k. same.bytes Index k refl i

  pub table-still : (bucket : ℕ) → (store_of from).table bucket ≡ (store_of image).table bucket
  table-still bucket = (record-changes from image w st begins same).shown.table bucket

  -- the nodes, where it is none
  module _ (apart : rankings ≢ kind_of w) where
    pub checks-still : (u : ℕ) → checks_at image u ≡ checks_at from u
    unfolding checks_at list_of
    checks-still u = ⊎_elim
        (λ (e : stands_as from rankings u ≡ true). sym ((record-elsewhere from image w st begins same).links.checks u (elsewhere-clear (file_selector w) u (away rankings u e apart))))
        (λ (e : stands_as from rankings u ≡ false). rw (stands_as-all rankings u ∙ e, e) refl)
        (cases_Bool (stands_as from rankings u))

    pub nexts-still : (u : ℕ) → next_at image u ≡ next_at from u
    unfolding next_at list_of
    nexts-still u = ⊎_elim
        (λ (e : stands_as from rankings u ≡ true). sym ((record-elsewhere from image w st begins same).links.next u (elsewhere-clear (file_selector w) u (away rankings u e apart))))
        (λ (e : stands_as from rankings u ≡ false). rw (stands_as-all rankings u ∙ e, e) refl)
        (cases_Bool (stands_as from rankings u))

    pub prevs-still : (u : ℕ) → prev_at image u ≡ prev_at from u
    unfolding prev_at list_of
    prevs-still u = ⊎_elim
        (λ (e : stands_as from rankings u ≡ true). sym ((record-elsewhere from image w st begins same).links.prev u (elsewhere-clear (file_selector w) u (away rankings u e apart))))
        (λ (e : stands_as from rankings u ≡ false). rw (stands_as-all rankings u ∙ e, e) refl)
        (cases_Bool (stands_as from rankings u))

    pub named-still : (u : ℕ) → (store_of from).node_fields u ≡ (store_of image).node_fields u
    unfolding node_fields_at store_of
    named-still u = ⊎_elim
        (λ (e : stands_as from rankings u ≡ true). (record-elsewhere from image w st begins same).store.node_fields u (elsewhere-clear (file_selector w) u (away rankings u e apart)))
        (λ (e : stands_as from rankings u ≡ false). rw (stands_as-all rankings u ∙ e, e) refl)
        (cases_Bool (stands_as from rankings u))

    pub list-still : list_of image ≡ list_of from
    unfolding list_of
    list-still =
        let f = index-still in
        λ i. record {
          head = word_at (f i) 288;
          tail = word_at (f i) 308;
          transaction = word_at (f i) 328;
          operation = word_at (f i) 332;
          checks = λ u. checks-still u i;
          next = λ u. nexts-still u i;
          prev = λ u. prevs-still u i;
        }

  -- the records and data, where it is a node
  module _ (node : kind_of w ≡ rankings) where
    no-record : blocks_256 ≢ kind_of w
    no-record e = let z : ◌≡◌ {A = ℕ} 2 1 = e ∙ node in cc

    pub entries-still : (u : ℕ) → (store_of from).entry u ≡ (store_of image).entry u
    unfolding fields_at store_of
    entries-still u = ⊎_elim
        (λ (e : stands_as from blocks_256 u ≡ true). (record-elsewhere from image w st begins same).store.entry u (elsewhere-clear (file_selector w) u (away blocks_256 u e no-record)))
        (λ (e : stands_as from blocks_256 u ≡ false). rw (stands_as-all blocks_256 u ∙ e, e) refl)
        (cases_Bool (stands_as from blocks_256 u))

    pub follows-still : (u : ℕ) → (store_of from).chain_next u ≡ (store_of image).chain_next u
    unfolding follow_at store_of
    follows-still u = ⊎_elim
        (λ (e : stands_as from blocks_256 u ≡ true). (record-elsewhere from image w st begins same).store.chain_next u (elsewhere-clear (file_selector w) u (away blocks_256 u e no-record)))
        (λ (e : stands_as from blocks_256 u ≡ false). rw (stands_as-all blocks_256 u ∙ e, e) refl)
        (cases_Bool (stands_as from blocks_256 u))

    pub keys-still : (u : ℕ) (fields : RecordFields) → (store_of from).entry u ≡ Some fields → is_key_length u fields ≡ true → nat_le fields.key_len longest_short_key ≡ true → (store_of from).key_place u fields.key_len ≡ (store_of image).key_place u fields.key_len
    keys-still u fields is long short = (record-elsewhere from image w st begins same).store.key_place u fields (elsewhere-clear (file_selector w) u (away blocks_256 u (core-standing from u fields is) no-record)) is long short

    pub stored-still : (size u : ℕ) → (store_of from).stored size u ≡ (store_of image).stored size u
    unfolding store_of
    stored-still size u = ⊎_elim
        (λ (e : (kind_of u == rankings) ≡ true). let k : kind_of u ≡ rankings = eqb-true (kind_of u) rankings e in none-stored from size u k ∙ sym (none-stored image size u k))
        (λ (e : (kind_of u == rankings) ≡ false). ⊎_elim
        (λ (up : stands_in from u ≡ true). (record-elsewhere from image w st begins same).store.stored size u (elsewhere-clear (file_selector w) u (elsewhere-by from u w up st (record-blocky w begins) (λ s. let y : (kind_of u == rankings) ≡ true = eq-eqb (kind_of u) rankings (s ∙ node) in let c : true ≡ false = sym y ∙ e in cc))))
        (λ (up : stands_in from u ≡ false). unstood-stored from size u up ∙ sym (unstood-stored image size u ((record-changes from image w st begins same).stands u ∙ up)))
        (cases_Bool (stands_in from u)))
        (cases_Bool (kind_of u == rankings))
