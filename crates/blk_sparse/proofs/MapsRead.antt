-- The map of a part is read.
use Rattle.std.proofs.Common.{◌≡◌, ℕ, List, length, take, refl, ap, sym, ◌∙◌, arith, Bool, true, false, Option, Some, None, take_all}
use Rattle.std.specs.Prelude.{◌-◌, ◌==◌, ◌&&◌}
use Rattle.std.specs.Option.{ForSome, option_map}
use Rattle.std.proofs.lemmas.Bool.{eqb-true}
use Rattle.spec_image.specs.Image.{Image}
use Rattle.blk_model.specs.Items.{part}
use Rattle.blk_model.specs.State.{Object, State}
use Rattle.spec_format.specs.Names.{Name}
use Rattle.spec_format.specs.SparseIndex.{PartIndex, read_part_index, is_index_head, is_partial}
use Rattle.spec_folder.specs.Entries.{IsPart, stream}
use Rattle.spec_folder.specs.Layout.{IsPartAt, Layout, rule_of}
use Rattle.spec_folder.specs.Loads.{Loaded}
use Rattle.spec_folder.specs.View.{store_of}
use Rattle.law_folder.proofs.walks.Loads.{load-then}
use Rattle.blk_ranges.specs.PartMaps.{index_of}
use Rattle.blk_ranges.specs.declared.part_map.PartMap.{PartMap}
use Rattle.blk_object.specs.Owning.{LoadsWith}
use Rattle.blk_object.proofs.WrittenParts.{its-place}
use Rattle.blk_object.proofs.WrittenRoles.{IsPartRole, part-of, role-part-of}
use Rattle.blk_sparse.specs.Changing.{LoadsAsPart}
use Rattle.blk_sparse.specs.Reading.{IsPartRead}
use Rattle.blk_sparse.specs.SparseObjects.{HasPartAt, KeepsParent}
use Rattle.blk_sparse.proofs.ChangedParts.{IsPartRow, part-says}
use Rattle.blk_sparse.proofs.PartValid.{its-value}
use Rattle.spec_image.specs.Bytes.{content}
use Rattle.blk_entry.specs.Keys.{IsPiece}
use Rattle.spec_image.proofs.Runs.{some_inj}
use Rattle.std.proofs.lemmas.Option.{cond_some}
use Rattle.blk_stream.specs.Streams.{streams_at}
use Rattle.blk_sparse.proofs.ParentsRead.{streams-there}

-- ---- the map

-- what loads as a part has its index in its third stream
pub index-there : (image : Image) (entry : ℕ) (loaded : Loaded) (name : Name) (index : PartIndex) → LoadsWith entry loaded image → loaded.role ≡ IsPart name index → read_part_index (stream 2 loaded.streams) ≡ Some index
index-there image entry loaded name index w role =
    load-then (store_of image) w.rule w.node loaded w.loads (λ n e f.
    let p : IsPartRole loaded.key loaded.streams (IsPart name index) = part-of loaded.key loaded.streams (IsPart name index) (role-part-of e loaded.key loaded.streams name index (f.facts.role ∙ ap Some role)) in
    p.indexed ∙ ap Some (injected p.name name p.index index (sym p.is)))
  where
    injected : (a b : Name) (i j : PartIndex) → IsPart a i ≡ IsPart b j → i ≡ j
    injected a b i j e = cc

-- ---- a part of a state

module _ (state : State) (layout : Layout) (unlinked : List ℕ) (number : ℕ) (object : Object) (node entry signature : ℕ) (from : Image) (p : KeepsParent state layout unlinked number object node entry signature from) (n of_part : ℕ) (at : HasPartAt layout object n of_part) where
  its : IsPartAt state layout object.key at.was
  its = its-place state layout unlinked from p.kept number object p.here p.live n at.value at.has at.was at.lies

  pub part-loads : LoadsWith of_part at.was from
  part-loads = record { rule = rule_of layout (layout.place (part object.key n)); node = layout.place (part object.key n); loads = p.kept.represents.holds.shows.each (layout.place (part object.key n)) at.was at.lies; contents = at.record_is }

  says : IsPartRow its.name its.index at.was.streams object.key n at.value
  says = part-says state layout unlinked from p.kept number object p.here p.live n of_part at its.name its.index its.role

  pub part-read : IsPartRead object n of_part from
  part-read = record {
    value = at.value;
    has = at.has;
    is_value = (its-value state p.kept.valid number object p.here n at.value at.has).1;
    loaded = at.was;
    loads = part-loads;
    name = its.name;
    index = its.index;
    role = its.role;
    bytes = says.bytes_are;
    presence = says.presence_is;
  }

  pub says-bytes : stream 1 at.was.streams ≡ at.value.bytes
  says-bytes = says.bytes_are

  pub loads-as : LoadsAsPart of_part from
  loads-as = record { loaded = at.was; loads = part-loads; name = its.name; index = its.index; role = its.role }

-- ---- the map, as it is read

-- an index of a part has 192 bytes
pub index-long : (bytes : List ℕ) (index : PartIndex) → read_part_index bytes ≡ Some index → length bytes ≡ 192
unfolding read_part_index
index-long bytes index is = go (length bytes == 192) (is_index_head (content bytes)) (is_partial (content bytes)) refl (cond_some ((length bytes == 192) && is_index_head (content bytes) && is_partial (content bytes)) _ index is).0 where
  go : (a b c : Bool) → (length bytes == 192) ≡ a → (a && b && c) ≡ true → length bytes ≡ 192
  go true b c e h = eqb-true (length bytes) 192 e
  go false b c e h = absurd (let z : false ≡ true = h in cc)

-- what begins otherwise is none
pub no-map : (bytes old new : List ℕ) (n : ℕ) → IsPiece bytes 0 old new n → length old ≡ 192 → (m : Option PartMap) → m ≡ None → option_map index_of m ≡ read_part_index (take n new) → read_part_index bytes ≡ None
no-map bytes old new n p room m none is = go (read_part_index bytes) refl where
  go : (o : Option PartIndex) → read_part_index bytes ≡ o → o ≡ None
  go None e = refl
  go (Some index) e =
      let long = index-long bytes index e in
      let many = p.many in
      let whole : take n new ≡ bytes = p.front ∙ take_all n bytes (omega (arith, many, long, room)) in
      absurd (let z : ◌≡◌ {A = Option PartIndex} None (Some index) = sym (ap (option_map index_of) none) ∙ is ∙ ap read_part_index whole ∙ e in cc)

module _ (image : Image) (entry : ℕ) (loaded : Loaded) (name : Name) (index : PartIndex) (w : LoadsWith entry loaded image) (role : loaded.role ≡ IsPart name index) (old new : List ℕ) (n : ℕ) (room : length old ≡ 192) (piece : ForSome (streams_at image entry) (λ (streams : List (List ℕ)). IsPiece (stream 2 streams) 0 old new n)) (m : Option PartMap) (is : option_map index_of m ≡ read_part_index (take n new)) where
  bytes-are : read_part_index (take n new) ≡ Some index
  bytes-are =
      let p = piece loaded.streams (streams-there image entry loaded w) in
      let there = index-there image entry loaded name index w role in
      let long = index-long (stream 2 loaded.streams) index there in
      let many = p.many in
      ap read_part_index (p.front ∙ take_all n (stream 2 loaded.streams) (omega (arith, many, long, room))) ∙ there

  pub map-none : m ≡ None → ⊥
  map-none none = let z : ◌≡◌ {A = Option PartIndex} None (Some index) = sym (ap (option_map index_of) none) ∙ is ∙ bytes-are in cc

  pub map-read : (found : PartMap) → m ≡ Some found → index_of found ≡ index
  map-read found some = some_inj (ap (option_map index_of) (sym some) ∙ is ∙ bytes-are)
