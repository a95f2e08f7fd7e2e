-- Records that walked nodes list, as they are read.
use Rattle.std.proofs.Common.{◌≡◌, ℕ, ◌+◌, add-zero, Bool, true, false, ◌&&◌, not, List, [], ◌∷◌, ◌++◌, take, Some, None, refl, sym, ap, subst, ◌∙◌, arith}
use Rattle.std.specs.Prelude.{◌==◌, slice_get}
use Rattle.std.specs.Option.{option_map_or}
use Rattle.std.specs.List.{filter}
use Rattle.std.proofs.lemmas.List.Elements.{filter_more}
use Rattle.std.proofs.lemmas.Option.{get_or_from_slice_get, slice_get_within}
use Rattle.spec_image.specs.Image.{Image}
use Rattle.spec_image.specs.Told.{Told}
use Rattle.spec_format.specs.Address.{blocks_256, file_selector, place}
use Rattle.spec_format.specs.Records.{child}
use Rattle.blk_io.specs.declared.fault.Damage.{Damage}
use Rattle.blk_io.specs.declared.folder.FileId.TheVariants as FileId
use Rattle.blk_io.specs.Faults.{IsShort}
use Rattle.blk_entry.proofs.KeyPlaces.{short_is_cut}
use Rattle.blk_entry.proofs.Windows.{not_external}
use Rattle.blk_audit.specs.Faults.{IsRecordDamage}
use Rattle.spec_format.specs.BlockFiles.{is_among}
use Rattle.spec_folder.specs.Audit.{is_child, is_unlisted}
use Rattle.spec_folder.specs.Found.{completed}
use Rattle.spec_folder.specs.ListImages.{completed_walk}
use Rattle.spec_folder.specs.View.{RecordFields, StoreView, entry_at, fields_at, fields_of, stands_as, store_of, view_of}
use Rattle.blk_disk.specs.declared.tables.BlockFiles.{BlockFiles}
use Rattle.blk_disk.specs.Tables.{Agrees, is_record_among}
use Rattle.blk_audit.specs.ReadLists.{is_named_by}
use Rattle.blk_audit.proofs.Shown.{names_stand, record_fits}
use Rattle.blk_verdict.specs.Reads.{IsCutRead}
use Rattle.blk_verdict.proofs.Joined.{entry_none}

-- the record of a word that names one among the kept files
pub entry_shown : (files : BlockFiles) (image : Image) (w : ℕ) → Agrees files image → is_record_among files w ≡ true → (store_of image).entry w ≡ Some (fields_of (entry_at image w))
unfolding store_of fields_at
entry_shown files image w agrees among =
    let st : stands_as image blocks_256 w ≡ true = sym (names_stand files image w agrees) ∙ among in
    rw st refl

-- a record is unlisted where its node isn't walked or doesn't name it
pub listed_is : (image : Image) (w : ℕ) (fields : RecordFields) → (store_of image).entry w ≡ Some fields → is_unlisted (completed (view_of image)) w ≡ not (is_named_by image fields.rankings_node w)
unfolding is_unlisted
listed_is image w fields is =
    ap (λ o. option_map_or (λ (f : RecordFields). not (is_among (completed_walk image) f.rankings_node && option_map_or (λ node_fields. node_fields.contents == w) ((store_of image).node_fields f.rankings_node) false)) o false) is

pub listed_nowhere : (files : BlockFiles) (image : Image) (w : ℕ) → Agrees files image → is_record_among files w ≡ false → is_unlisted (completed (view_of image)) w ≡ false
unfolding is_unlisted
listed_nowhere files image w agrees none =
    ap (λ o. option_map_or (λ (f : RecordFields). not (is_among (completed_walk image) f.rankings_node && option_map_or (λ node_fields. node_fields.contents == w) ((store_of image).node_fields f.rankings_node) false)) o false) (entry_none files image w agrees none)

-- one more of a list
pub one_more : (test : ℕ → Bool) (words : List ℕ) (i w : ℕ) → slice_get words i ≡ Some w → filter test (take (i + 1) words) ≡ filter test (take i words) ++ filter test (w ∷ [])
one_more test words i w is =
    filter_more test words i 0 (slice_get_within words i w is)
    ∙ ap (λ (x : ℕ). filter test (take i words) ++ filter test (x ∷ [])) (get_or_from_slice_get words i w 0 is)

pub one_passes : (test : ℕ → Bool) (w : ℕ) → test w ≡ true → filter test (w ∷ []) ≡ w ∷ []
one_passes test w e = rw e refl

pub one_fails : (test : ℕ → Bool) (w : ℕ) → test w ≡ false → filter test (w ∷ []) ≡ []
one_fails test w e = rw e refl

pub none_some : {A : Type 0} {w : ℕ} → None ≡ Some w → A
none_some e = absurd cc

pub some_same : {v w : ℕ} → Some v ≡ Some w → v ≡ w
some_same e = cc

-- whether a node names a part
pub child_is : (store : StoreView) (node contents dirty : ℕ) (fields : RecordFields) → store.node_fields node ≡ Some (record { contents = contents; dirty = dirty }) → store.entry contents ≡ Some fields → is_child store node ≡ (fields.checks && (fields.flags == child))
child_is store node contents dirty fields named there = rw (named, there) refl

pub child_none : (store : StoreView) (node contents dirty : ℕ) → store.node_fields node ≡ Some (record { contents = contents; dirty = dirty }) → store.entry contents ≡ None → is_child store node ≡ false
child_none store node contents dirty named none = rw (named, none) refl

-- a short read of a record is one of its data
pub cut_record : (files : BlockFiles) (old new : Told) → new ≡ old → (damage : Damage) → IsRecordDamage files new damage → IsCutRead files old damage
cut_record files old new stays damage is = record {
  word = is.entry;
  at = 0;
  count = 96;
  inside = record { small = omega arith; stands = λ _. is.stands; room = λ _. record_fits is.entry is.kind };
  cut = short_is_cut old is.entry 0 96 damage (not_external is.entry is.kind)
      (subst (λ (t : Told). IsShort t (FileId.Block (file_selector is.entry)) (place is.entry + 0) 96 damage) stays (subst (λ (p : ℕ). IsShort new (FileId.Block (file_selector is.entry)) p 96 damage) (sym (add-zero (place is.entry))) is.short));
}
