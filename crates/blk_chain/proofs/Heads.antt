-- The words of records that a search reads, and the names that they have.
use Rattle.std.proofs.Common.{◌≡◌, ℕ, Bool, true, false, List, Option, Some, None, refl, sym, ◌∙◌, ap, subst}
use Rattle.std.specs.Prelude.{◌==◌, ◌&&◌, not, if◌then◌else◌}
use Rattle.std.proofs.Math.Bool.{beq}
use Rattle.std.specs.Option.{option_and_then}
use Rattle.std.proofs.lemmas.Bool.{and_parts, eqb-true, and_from}
use Rattle.spec_image.specs.Image.{AreBytes, External, Image, has_file}
use Rattle.spec_image.proofs.Runs.{some_inj}
use Rattle.spec_format.specs.Address.{kind_of, is_address, external, external_number, blocks_256}
use Rattle.spec_format.specs.BlockFiles.{stands_in_blocks}
use Rattle.spec_format.specs.Standing.{stands}
use Rattle.spec_folder.specs.Entries.{is_key_length, stored_key}
use Rattle.spec_folder.specs.View.{RecordFields, fields_at, fields_of, entry_at, store_of}
use Rattle.blk_disk.specs.declared.tables.BlockFiles.{BlockFiles}
use Rattle.spec_format.specs.Sealed.{RecordChecks}
use Rattle.blk_disk.specs.Tables.{Agrees, is_record_among, names_among, stands_among}
use Rattle.blk_disk.proofs.Ranges.{stands_agree}
use Rattle.blk_entry.specs.Keys.{CanBeRead, HasReadableKey, HasRecord, IsEntryOf, key_at}
use Rattle.law_folder.proofs.updates.StillShown.{core-standing, standing-parts}
use Rattle.spec_folder.specs.Searches.{HasKey}
use Rattle.blk_entry.proofs.KeyPlaces.{key_by_bytes}
use Rattle.blk_chain.specs.Finding.{IsFollowed, IsKeyed, IsSought}
use Rattle.law_folder.proofs.chains.ChainWords.{record_checks, shown-fields, shown-kind}

-- a word that names a record that is there
pub names-parts : (files : BlockFiles) (w : ℕ) → is_record_among files w ≡ true → (is_address w ≡ true) × ((kind_of w ≡ blocks_256) × (stands_among files w ≡ true))
unfolding names_among
names-parts files w e =
    let a = and_parts (is_address w) ((kind_of w == 2) && stands_among files w) e in
    let b = and_parts (kind_of w == 2) (stands_among files w) a.1 in
    (a.0, (eqb-true (kind_of w) 2 b.0, b.1))

-- a word that names a record that is there isn't 0
pub named-some : (files : BlockFiles) → is_record_among files 0 ≡ true → ⊥
unfolding kind_of
named-some files e = let kind : kind_of 0 ≡ 2 = (names-parts files 0 e).1.0 in cc

-- a record that is shown is there
pub shown-names : (files : BlockFiles) (image : Image) (w : ℕ) (fields : RecordFields) → Agrees files image → (store_of image).entry w ≡ Some fields → is_record_among files w ≡ true
unfolding names_among stands
shown-names files image w fields agrees here =
    let parts = standing-parts image blocks_256 w (core-standing image w fields here) in
    let of = and_parts (is_address w) (if kind_of w == external then has_file image (External (external_number w)) else stands_in_blocks image w) parts.0 in
    let inside : stands_in_blocks image w ≡ true = by_kind (kind_of w) parts.1 of.1 in
    let kind : (kind_of w == 2) ≡ true = is_two (kind_of w) parts.1 in
    and_from (is_address w) ((kind_of w == 2) && stands_among files w) of.0 (and_from (kind_of w == 2) (stands_among files w) kind (stands_agree files image w agrees ∙ inside))
  where
    by_kind : (k : ℕ) → k ≡ 2 → (if k == 0 then has_file image (External (external_number w)) else stands_in_blocks image w) ≡ true → stands_in_blocks image w ≡ true
    by_kind k e h = rw e at h

    is_two : (k : ℕ) → k ≡ 2 → (k == 2) ≡ true
    is_two k e = rw e refl

-- the bytes of a record that a search meets have a checksum that matches or is absent
pub keyed-checks : (image : Image) (w : ℕ) → AreBytes image → IsKeyed w image → RecordChecks w image
keyed-checks image w bytes keyed =
    record_checks image w bytes (shown-kind image w keyed.fields keyed.here) (ap (λ (c : RecordFields). c.checks) (shown-fields image w keyed.fields keyed.here) ∙ keyed.good)

-- a record that a search meets can be read
pub can-be-read : (files : BlockFiles) (image : Image) (entry word : ℕ) → entry ≡ word → AreBytes image → Agrees files image → IsKeyed word image → CanBeRead files entry image
can-be-read files image entry word is bytes agrees keyed = record {
  agrees = agrees;
  checks = subst (λ (w : ℕ). RecordChecks w image) (sym is) (keyed-checks image word bytes keyed);
  key = subst (λ (w : ℕ). HasReadableKey w image) (sym is) keyed.key;
}

-- a word that names a record which was read is followed
pub followed : (files : BlockFiles) (image : Image) (entry word : ℕ) → entry ≡ word → is_record_among files entry ≡ true → HasRecord entry image → IsFollowed files word image
followed files image entry word is stands whole = subst (λ (w : ℕ). IsFollowed files w image) is (record { stands = stands; whole = whole })

-- the key of a record that has one
key-is : (image : Image) (w : ℕ) (fields : RecordFields) → (store_of image).entry w ≡ Some fields → HasReadableKey w image → key_at image w ≡ stored_key (store_of image) w fields
unfolding key_at store_of
key-is image w fields here has = by_core (fields_at image w) here has.is
  where
    by_length : (t : Bool) → (if t then stored_key (store_of image) w fields else None) ≡ Some has.key → (if t then stored_key (store_of image) w fields else None) ≡ stored_key (store_of image) w fields
    by_length true e = refl
    by_length false e = absurd (never e)
      where
        never : None ≡ Some has.key → ⊥
        never c = cc

    by_core : (o : Option RecordFields) → o ≡ Some fields → option_and_then (λ c. if is_key_length w c then stored_key (store_of image) w c else None) o ≡ Some has.key
        → option_and_then (λ c. if is_key_length w c then stored_key (store_of image) w c else None) o ≡ stored_key (store_of image) w fields
    by_core o e h = rw e (by_length (is_key_length w fields) (rw e at h))

module _ (image : Image) (w : ℕ) (keyed : IsKeyed w image) (key : List ℕ) (is_child : Bool) where
  here-core : fields_of (entry_at image w) ≡ keyed.fields
  here-core = shown-fields image w keyed.fields keyed.here

  -- a record with the key and the flag has the name
  pub to-name : IsEntryOf key w image → ((entry_at image w).flags == 2) ≡ is_child → HasKey (store_of image) key is_child w
  to-name of flag = record {
    fields = keyed.fields;
    here = keyed.here;
    hashed = sym (ap (λ (c : RecordFields). c.hash) here-core) ∙ of.hash;
    key = sym (key-is image w keyed.fields keyed.here keyed.key) ∙ of.is;
    flag = ap (λ (c : RecordFields). c.flags == 2) (sym here-core) ∙ flag;
  }

  -- a record with the name has the key and the flag
  pub of-name : HasKey (store_of image) key is_child w → IsEntryOf key w image
  of-name named = record {
    hash = ap (λ (c : RecordFields). c.hash) (here-core ∙ some_inj (sym keyed.here ∙ named.here)) ∙ named.hashed;
    is = key-is image w named.fields named.here keyed.key ∙ named.key;
  }

  pub flag-of-name : HasKey (store_of image) key is_child w → ((entry_at image w).flags == 2) ≡ is_child
  flag-of-name named = ap (λ (c : RecordFields). c.flags == 2) (here-core ∙ some_inj (sym keyed.here ∙ named.here)) ∙ named.flag

-- a record with a key is the one that is sought exactly where it has the key and the flag
pub named-sought : (image : Image) (w : ℕ) → IsKeyed w image → (key : List ℕ) (is_child : Bool) → HasKey (store_of image) key is_child w → IsSought key is_child w image
named-sought image w keyed key is_child named =
    let of = of-name image w keyed key is_child named in
    record { bytes = record { hash = of.hash; bytes = (key_by_bytes image w key (shown-kind image w keyed.fields keyed.here) keyed.key).1 of.is }; flag = flag-of-name image w keyed key is_child named }

pub sought-named : (image : Image) (w : ℕ) → IsKeyed w image → (key : List ℕ) (is_child : Bool) → IsSought key is_child w image → HasKey (store_of image) key is_child w
sought-named image w keyed key is_child sought =
    to-name image w keyed key is_child (record { hash = sought.bytes.hash; is = (key_by_bytes image w key (shown-kind image w keyed.fields keyed.here) keyed.key).0 sought.bytes.bytes }) sought.flag

-- two truths that differ, and two that don't
pub differs : (a b : Bool) → not (beq a b) ≡ true → a ≡ b → ⊥
differs a b apart same = by b (subst (λ (x : Bool). not (beq x b) ≡ true) same apart)
  where
    by : (x : Bool) → not (beq x x) ≡ true → ⊥
    by true e = cc
    by false e = cc

pub agrees-by : (a b : Bool) → not (beq a b) ≡ false → a ≡ b
agrees-by true true e = refl
agrees-by true false e = absurd (cc)
agrees-by false true e = absurd (cc)
agrees-by false false e = refl
