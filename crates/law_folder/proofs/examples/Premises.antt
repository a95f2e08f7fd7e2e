-- What meets the premises of the laws, where nothing else here does.
use Rattle.std.proofs.Common.{◌≡◌, ℕ, zero, suc, ◌+◌, ◌<◌, ◌≤◌, List, [], ◌∷◌, refl, sym, ◌∙◌, arith, Bool, true, false, Option, Some, None, Ok, cond, get_or}
use Rattle.std.specs.Prelude.{if◌then◌else◌, ◌==◌, ◌&&◌, nat_lt, codes, replicate, IfSome, IsSome, All}
use Rattle.std.specs.List.{AllByRecursion}
use Rattle.std.specs.Str.{bytes_eq}
use Rattle.blk_model.specs.Items.{Item, main, part, same_item, times}
use Rattle.blk_model.specs.State.{object_at, named_by, is_named, owners, IsObject, IsValidState}
use Rattle.blk_model.proofs.Times.{times-cons}
use Rattle.blk_model.proofs.Slots.{owners-cons}
use Rattle.spec_format.specs.Hash.{of_one, of_bytes, mixed, hash}
use Rattle.spec_format.specs.Address.{kind_of, block_count, file_selector, first_block, external_number}
use Rattle.spec_format.specs.BlockFiles.{IsWellFormed}
use Rattle.spec_format.specs.Storage.{entry_blocks}
use Rattle.spec_format.specs.Claims.{claims_of, has_claim, overlap, repeats}
use Rattle.spec_folder.specs.ListView.{ListView, IsAtRest, CanBeInserted}
use Rattle.spec_folder.specs.View.{RecordFields, View}
use Rattle.spec_folder.specs.Chains.{chain_from}
use Rattle.spec_folder.specs.Entries.{is_key_length, stored_key, stored_stream, stored_streams, role_of}
use Rattle.spec_folder.specs.Loads.{held_rule, load, load_key, load_record, record_claims, all_claims}
use Rattle.spec_folder.specs.Audit.{judged, is_orphan, admit, verdicts}
use Rattle.spec_folder.specs.Audit as audit
use Rattle.law_folder.specs.KeptLaws.{IsDroppedIfLeftOut}
use Rattle.law_folder.specs.BareLaws.{HasNoEntries}
use Rattle.law_folder.proofs.examples.OneEntry as one
use Rattle.law_folder.proofs.examples.DamagedViews.{node, entry, shown, plain_core}
use Rattle.law_folder.proofs.states.NewFolders.{new_folder, new-is_new, new-bare, new-formed}

-- An idle list of three nodes: the second of them can be removed and accessed, and a fourth be inserted.

next_of : ℕ → ℕ
next_of w = if w == 3 then 2 else 1

prev_of : ℕ → ℕ
prev_of w = if w == 1 then 2 else 3

pub three : ListView
three = record { head = 3; tail = 1; transaction = 0; operation = 0; checks = λ w. nat_lt 0 w && nat_lt w 5; next = next_of; prev = prev_of }

pub three_at_rest : IsAtRest three (3 ∷ 2 ∷ 1 ∷ [])
unfolding three next_of prev_of
three_at_rest = record {
  whole = record {
    head_is = refl;
    tail_is = refl;
    linked = (record { good = refl; next_is = refl; prev_is = refl }, (record { good = refl; next_is = refl; prev_is = refl }, (record { good = refl; next_is = refl; prev_is = refl }, tt)));
    distinct = (refl, (refl, (refl, tt)));
    few = omega arith;
    no_zero = refl;
  };
  idle = refl;
}

pub fourth : CanBeInserted three (3 ∷ 2 ∷ 1 ∷ []) 4
unfolding three
fourth = record { rest = three_at_rest; lacks = refl; good = refl; few = omega arith }

-- Two records of one key: the node of the second may be left out, and both are in one chain.

abbrev pub first_core : RecordFields
first_core = plain_core 0x90000000

abbrev pub second_core : RecordFields
second_core = plain_core 0x90000001

abbrev pub pair : View
pair = shown 0x90000000 0xA0010000
    ((0x90000000, node 0x90000001 0x90000000 0xA0010000) ∷ (0x90000001, node 0x90000001 0x90000000 0xA0010001) ∷ [])
    ((0xA0010000, entry 0xA0010001 0x90000000) ∷ (0xA0010001, entry 0 0x90000001) ∷ [])

pub second_is_left_out : AllByRecursion (IsDroppedIfLeftOut (λ w. w == 0x90000000)) (judged pair.store held_rule (0x90000000 ∷ 0x90000001 ∷ []))
unfolding verdicts load load_record load_key admit is_key_length stored_key stored_stream stored_streams role_of audit.shares_key is_orphan record_claims all_claims claims_of has_claim overlap repeats kind_of block_count file_selector first_block external_number entry_blocks chain_from hash mixed of_bytes of_one
second_is_left_out = (λ out. absurd (let c : true ≡ false = out in cc), (λ out. refl, tt))

pub both_are_keyed : (load_key pair.store held_rule 0x90000000 0xA0010000 0 first_core ≡ Ok (codes "a")) × (load_key pair.store held_rule 0x90000001 0xA0010001 0 second_core ≡ Ok (codes "a"))
unfolding load_key is_key_length stored_key block_count entry_blocks chain_from hash mixed of_bytes of_one
both_are_keyed = (refl, refl)

-- A new folder is an empty cache.

pub new_is_bare : HasNoEntries (new_folder 50)
new_is_bare = new-bare 50 (new_folder 50) (new-is_new 50)

pub new_is_formed : IsWellFormed (new_folder 50)
new_is_formed = new-formed 50 (new_folder 50) (new-is_new 50)

-- The state of one object is valid.

pub none-at : (m n : ℕ) → ◌≡◌ {A = Option ℕ} (get_or (replicate m None) n None) None
none-at zero n = refl
none-at (suc m) zero = refl
none-at (suc m) (suc n) = none-at m n

pub bytes-small : (xs : List ℕ) → AllByRecursion (λ b. b < 256) xs → All (λ b. b < 256) xs
bytes-small [] h i d less = absurd (omega arith)
bytes-small (x ∷ xs) h zero d less = h.0
bytes-small (x ∷ xs) h (suc i) d less = bytes-small xs h.1 i d (omega arith)

one-object : (settled : Bool) → IsObject (one.object settled)
one-object settled = record {
  key = record { some = omega arith; short = omega arith; bytes = bytes-small (codes "a") (omega arith, tt) };
  streams = (bytes-small (codes "zz") (omega arith, (omega arith, tt)), bytes-small [] tt, bytes-small [] tt);
  signature = omega arith;
  plain_has_no_parts = λ e. refl;
  doomed_has_no_parts = λ e. refl;
  sparse_has_one_stream = λ e. absurd (let c : false ≡ true = e in cc);
  rising = refl;
  parts = λ i d less. absurd (omega arith);
}

only-item : (settled : Bool) (item : Item) → times item (one.state settled).uses ≡ owners item (one.state settled).objects
only-item settled (main key) = times-cons (main key) (main (codes "a")) [] ∙ sym (owners-cons (main key) (Some (one.object settled)) [])
only-item settled (part key n) = go (bytes_eq key (codes "a")) where
  go : (b : Bool) → ◌≡◌ {A = ℕ} 0 (0 + cond (b && false) 1 0)
  go true = refl
  go false = refl

at-most-one : (b : Bool) → 0 + cond b 1 0 ≤ 1
at-most-one true = omega arith
at-most-one false = omega arith

pub state_is_valid : (settled : Bool) → IsValidState (one.state settled)
state_is_valid settled = record {
  objects = objects;
  names = refl;
  bound = bound;
  listed = only-item settled;
  once = λ item. at-most-one (same_item item (main (codes "a")));
  held = held-by;
} where
  objects : (number : ℕ) → IfSome (object_at (one.state settled) number) IsObject
  objects zero = one-object settled
  objects (suc n) = tt

  bound : (name : ℕ) → IfSome (named_by (one.state settled) name) (λ number. IsSome (object_at (one.state settled) number))
  bound zero = refl
  bound (suc n) = rw (none-at 4095 n) tt

  held-by : (number : ℕ) → IfSome (object_at (one.state settled) number) (λ object. (object.live && object.settled ≡ false) → is_named (one.state settled) number ≡ true)
  held-by zero = λ unsettled. refl
  held-by (suc n) = tt
