-- Bytes of an object that are all present, by the parts that have them.
use Rattle.std.proofs.Common.{◌≡◌, Bool, false, ℕ, ◌+◌, ◌-◌, ◌<◌, ◌≤◌, List, [], ◌++◌, length, take, drop, refl, ap, ap₂, sym, subst, ◌∙◌, arith, true, Option, Some, None, Result}
use Rattle.std.specs.Prelude.{◌==◌, ◌/◌, ◌%◌, min, nat_le, take_while}
use Rattle.std.proofs.lemmas.Bool.{eq-eqb, eqb-false, eqb-true, leb-false, leb-true}
use Rattle.std.proofs.lemmas.List.{length-append, length-take, take_min}
use Rattle.spec_image.specs.Image.{AreBytes, Image}
use Rattle.blk_io.specs.declared.fault.Fault.{Fault}
use Rattle.blk_io.specs.Faults.{IfDamaged}
use Rattle.blk_entry.proofs.KeyPlaces.{damaged_any}
use Rattle.blk_model.specs.Bytes.{bytes_from, numbers_from}
use Rattle.blk_model.specs.Sparse.{is_present_in, sparse_bytes}
use Rattle.blk_model.specs.State.{Object, part_at}
use Rattle.spec_format.specs.Address.{blocks_256, is_address, kind_of}
use Rattle.blk_model.specs.Items.{main}
use Rattle.spec_format.specs.SparseIndex.{ParentIndex}
use Rattle.spec_folder.specs.Entries.{IsParent, stream}
use Rattle.spec_folder.specs.Layout.{rule_of}
use Rattle.spec_folder.specs.Loads.{Loaded}
use Rattle.blk_disk.specs.declared.tables.BlockFiles.{BlockFiles}
use Rattle.blk_disk.specs.Tables.{Agrees, is_record_among, names_among, stands_among}
use Rattle.blk_object.specs.Owning.{LoadsWith}
use Rattle.blk_object.proofs.OwnedPlaces.{loaded-checks}
use Rattle.blk_stream.specs.Streams.{StreamsCanBeRead, streams_at}
use Rattle.blk_sparse.specs.SparseObjects.{HasPartAt, KeepsParent}
use Rattle.blk_sparse.specs.Finding.{ArePartsFound}
use Rattle.blk_sparse.specs.Parents.{LoadsAsParent}
use Rattle.blk_sparse.specs.Parts.{IsPartFound}
use Rattle.blk_sparse.specs.Reading.{IsPartRead, part_bytes}
use Rattle.blk_sparse.specs.declared.finding.PartRecords.{PartRecords}
use Rattle.blk_sparse.proofs.MapsRead.{part-read}
use Rattle.blk_sparse.proofs.ParentsRead.{streams-there}
use Rattle.blk_sparse.proofs.PresentParts.{sparse-empty, sparse-first, sparse-less, sparse-whole}
use Rattle.blk_sparse.proofs.ReadParts.{bytes-front, bytes-nowhere}
use Rattle.blk_sparse.proofs.PrefixRuns.{bytes-of-part-few}
use Rattle.blk_print.specs.declared.present_printing.PresentRange.{PresentRange}
use Rattle.blk_print.specs.declared.range_printing.StreamRange.{StreamRange}
use Rattle.blk_print.specs.PresentPrinting.{HasPresent}
use Rattle.blk_print.specs.RangePrinting.{HasBytes}

-- an address of blocks of records that are there is that of a record
pub record-among : (files : BlockFiles) (w : ℕ) → is_address w ≡ true → kind_of w ≡ blocks_256 → stands_among files w ≡ true → is_record_among files w ≡ true
unfolding names_among
record-among files w address kind stands = let same : (kind_of w == blocks_256) ≡ true = eq-eqb (kind_of w) blocks_256 kind in rw (address, same, stands) refl

-- bytes of a part that are all present are those of its data
pub part-all : (object : Object) (n entry place count : ℕ) (image : Image) (r : IsPartRead object n entry image) → length (part_bytes object n place count) ≡ count → part_bytes object n place count ≡ bytes_from (stream 1 r.loaded.streams) place count
part-all object n entry place count image r all =
    let front : ℕ = length (take_while (is_present_in r.value.presence) (numbers_from place count)) in
    let is : part_bytes object n place count ≡ take front (drop place r.value.bytes) = bytes-front object n place count r.value r.is_value r.has in
    let many : min front (length (drop place r.value.bytes)) ≡ count = sym (length-take front (drop place r.value.bytes)) ∙ sym (ap (λ (l : List ℕ). length l) is) ∙ all in
    is ∙ sym (take_min front (drop place r.value.bytes)) ∙ ap (λ (m : ℕ). take m (drop place r.value.bytes)) many ∙ ap (λ (l : List ℕ). take count (drop place l)) (sym r.bytes)

module _ (files : BlockFiles) (image : Image) (agrees : Agrees files image) (are : AreBytes image) (object : Object) (n entry place count : ℕ) (r : IsPartRead object n entry image) (all : length (part_bytes object n place count) ≡ count) where
  pub part-reads : StreamsCanBeRead files entry image
  part-reads = record { agrees = agrees; checks = loaded-checks image entry r.loaded are r.loads; has = record { streams = r.loaded.streams; is = streams-there image entry r.loaded r.loads } }

  -- so they can be read as those of a stream
  abbrev pub part-has : (range : StreamRange) → range.entry ≡ entry → range.stream ≡ 1 → range.offset ≡ place → range.count ≡ count → HasBytes files range image
  part-has range entry_is stream_is offset_is count_is = record {
    readable = subst (λ (w : ℕ). StreamsCanBeRead files w image) (sym entry_is) part-reads;
    streams = r.loaded.streams;
    here = ap (streams_at image) entry_is ∙ streams-there image entry r.loaded r.loads;
    bytes = part_bytes object n place count;
    long = all ∙ sym count_is;
    bytes_are = part-all object n entry place count image r all
        ∙ ap (λ (i : ℕ). bytes_from (stream i r.loaded.streams) place count) (sym stream_is)
        ∙ ap₂ (λ (o m : ℕ). bytes_from (stream range.stream r.loaded.streams) o m) (sym offset_is) (sym count_is);
  }

-- ---- the parts that have the bytes of a range

module _ (files : BlockFiles) (range : PresentRange) (image : Image) (agrees : Agrees files image) (are : AreBytes image) (p : HasPresent range image) (parts : PartRecords) (found : ArePartsFound p.layout p.object range.offset range.count parts) (few : range.count ≤ 1048576) where
  abbrev first-number : ℕ
  first-number = range.offset / 1048576

  abbrev first-place : ℕ
  first-place = range.offset % 1048576

  pub read-of : (n entry : ℕ) → HasPartAt p.layout p.object n entry → IsPartRead p.object n entry image
  read-of n entry at = part-read p.state p.layout p.unlinked p.number p.object range.node range.entry p.signature image p.parent n entry at

  -- where the bytes end in the first part
  module _ (inside : first-place + range.count ≤ 1048576) where
    pub one-all : length (part_bytes p.object first-number first-place range.count) ≡ range.count
    one-all = sym (ap (λ (l : List ℕ). length l) (sparse-first p.object range.offset range.count inside)) ∙ p.all

    pub one-none : 1 ≤ range.count → parts.first ≡ None → ⊥
    one-none some none =
        let nowhere : part_at p.object first-number ≡ None = subst (IsPartFound p.layout p.object first-number) none found.first in
        let long : 0 ≡ range.count = sym (ap (λ (l : List ℕ). length l) (bytes-nowhere p.object first-number first-place range.count nowhere)) ∙ one-all in
        omega (arith, long, some)

    module _ (entry : ℕ) (is : parts.first ≡ Some entry) (one : StreamRange) (entry_is : one.entry ≡ entry) (stream_is : one.stream ≡ 1) (offset_is : one.offset ≡ first-place) (count_is : one.count ≡ range.count) where
      abbrev pub one-has : HasBytes files one image
      one-has = part-has files image agrees are p.object first-number entry first-place range.count (read-of first-number entry (subst (IsPartFound p.layout p.object first-number) is found.first)) one-all one entry_is stream_is offset_is count_is

      pub one-bytes : one-has.bytes ≡ sparse_bytes p.object range.offset range.count
      one-bytes = sym (sparse-first p.object range.offset range.count inside)

  -- a range that crosses from one part into the next
  module _ (cut : ℕ) (border : first-place + cut ≡ 1048576) (more : cut < range.count) where
    abbrev behind : ℕ
    behind = range.count - cut

    both : cut + behind ≡ range.count
    both = omega (arith, more)

    fits : first-place + cut ≤ 1048576
    fits = omega (arith, border)

    -- all that are in the first are present
    pub first-all : length (part_bytes p.object first-number first-place cut) ≡ cut
    first-all = by (length (part_bytes p.object first-number first-place cut) == cut) refl where
      by : (b : Bool) → (length (part_bytes p.object first-number first-place cut) == cut) ≡ b → length (part_bytes p.object first-number first-place cut) ≡ cut
      by true e = eqb-true (length (part_bytes p.object first-number first-place cut)) cut e
      by false e = absurd (
          let most = bytes-of-part-few p.object first-number first-place cut in
          let other = eqb-false (length (part_bytes p.object first-number first-place cut)) cut e in
          let less : length (part_bytes p.object first-number first-place cut) < cut = omega (arith, most, other) in
          let short = sparse-less p.object range.offset cut fits behind border (omega (arith, few)) less in
          let long : range.count ≡ length (part_bytes p.object first-number first-place cut) = sym p.all ∙ ap (λ (c : ℕ). length (sparse_bytes p.object range.offset c)) (sym both) ∙ ap (λ (l : List ℕ). length l) short in
          omega (arith, long, less, more))

    bytes-both : sparse_bytes p.object range.offset range.count ≡ part_bytes p.object first-number first-place cut ++ part_bytes p.object (first-number + 1) 0 behind
    bytes-both = ap (sparse_bytes p.object range.offset) (sym both) ∙ sparse-whole p.object range.offset cut fits behind border (omega (arith, few)) first-all

    pub second-all : length (part_bytes p.object (first-number + 1) 0 behind) ≡ behind
    second-all =
        let long : range.count ≡ length (part_bytes p.object first-number first-place cut) + length (part_bytes p.object (first-number + 1) 0 behind) = sym p.all ∙ ap (λ (l : List ℕ). length l) bytes-both ∙ length-append (part_bytes p.object first-number first-place cut) (part_bytes p.object (first-number + 1) 0 behind) in
        let first = first-all in
        omega (arith, long, first, more)

    goes-on : 1048576 < first-place + range.count
    goes-on = omega (arith, border, more)

    pub second-found : IsPartFound p.layout p.object (first-number + 1) parts.second
    second-found = found.second goes-on

    pub first-none : 1 ≤ cut → parts.first ≡ None → ⊥
    first-none some none =
        let nowhere : part_at p.object first-number ≡ None = subst (IsPartFound p.layout p.object first-number) none found.first in
        let long : 0 ≡ cut = sym (ap (λ (l : List ℕ). length l) (bytes-nowhere p.object first-number first-place cut nowhere)) ∙ first-all in
        omega (arith, long, some)

    pub second-none : parts.second ≡ None → ⊥
    second-none none =
        let nowhere : part_at p.object (first-number + 1) ≡ None = subst (IsPartFound p.layout p.object (first-number + 1)) none second-found in
        let long : 0 ≡ behind = sym (ap (λ (l : List ℕ). length l) (bytes-nowhere p.object (first-number + 1) 0 behind nowhere)) ∙ second-all in
        omega (arith, long, more)

    module _ (entry : ℕ) (is : parts.first ≡ Some entry) (one : StreamRange) (entry_is : one.entry ≡ entry) (stream_is : one.stream ≡ 1) (offset_is : one.offset ≡ first-place) (count_is : one.count ≡ cut) where
      abbrev pub first-has : HasBytes files one image
      first-has = part-has files image agrees are p.object first-number entry first-place cut (read-of first-number entry (subst (IsPartFound p.layout p.object first-number) is found.first)) first-all one entry_is stream_is offset_is count_is

    module _ (entry : ℕ) (is : parts.second ≡ Some entry) (two : StreamRange) (entry_is : two.entry ≡ entry) (stream_is : two.stream ≡ 1) (offset_is : two.offset ≡ 0) (count_is : two.count ≡ behind) where
      abbrev pub second-has : HasBytes files two image
      second-has = part-has files image agrees are p.object (first-number + 1) entry 0 behind (read-of (first-number + 1) entry (subst (IsPartFound p.layout p.object (first-number + 1)) is second-found)) second-all two entry_is stream_is offset_is count_is

    pub two-bytes : part_bytes p.object first-number first-place cut ++ part_bytes p.object (first-number + 1) 0 behind ≡ sparse_bytes p.object range.offset range.count
    two-bytes = sym bytes-both

-- there is the first of them in any case
module _ (files : BlockFiles) (range : PresentRange) (image : Image) (agrees : Agrees files image) (are : AreBytes image) (p : HasPresent range image) (parts : PartRecords) (found : ArePartsFound p.layout p.object range.offset range.count parts) (few : range.count ≤ 1048576) where
  pub none-first : 1 ≤ range.count → parts.first ≡ None → ⊥
  none-first some none = by (nat_le (range.offset % 1048576 + range.count) 1048576) refl where
    by : (b : Bool) → nat_le (range.offset % 1048576 + range.count) 1048576 ≡ b → ⊥
    by true e = one-none files range image agrees are p parts found few (leb-true (range.offset % 1048576 + range.count) 1048576 e) some none
    by false e =
        let past : 1048576 < range.offset % 1048576 + range.count = leb-false (range.offset % 1048576 + range.count) 1048576 e in
        first-none files range image agrees are p parts found few (1048576 - range.offset % 1048576) (omega arith) (omega (arith, past)) (omega arith) none

-- ---- its main item

module _ (range : PresentRange) (image : Image) (p : HasPresent range image) where
  abbrev pub main-loads : LoadsWith range.entry p.parent.was image
  main-loads = record {
    rule = rule_of p.layout (p.layout.place (main p.object.key));
    node = p.layout.place (main p.object.key);
    loads = p.parent.kept.represents.holds.shows.each (p.layout.place (main p.object.key)) p.parent.was p.parent.lies;
    contents = p.parent.record_is;
  }

  pub main-parent : LoadsAsParent range.entry image
  main-parent = record { loaded = p.parent.was; loads = main-loads; index = p.parent.index; role = p.parent.role }

  -- by the generation that is read
  pub signed : (s : ℕ) → ((loaded : Loaded) (index : ParentIndex) → LoadsWith range.entry loaded image → loaded.role ≡ IsParent index → index.signature ≡ s) → KeepsParent p.state p.layout p.unlinked p.number p.object range.node range.entry s image
  signed s reads = record {
    kept = p.parent.kept;
    here = p.parent.here;
    live = p.parent.live;
    node_is = p.parent.node_is;
    was = p.parent.was;
    lies = p.parent.lies;
    record_is = p.parent.record_is;
    index = p.parent.index;
    role = p.parent.role;
    same = reads p.parent.was p.parent.index main-loads p.parent.role;
  }

-- ---- no byte

module _ (files : BlockFiles) (range : PresentRange) (image : Image) (agrees : Agrees files image) (are : AreBytes image) (p : HasPresent range image) (none : range.count ≡ 0) where
  module _ (one : StreamRange) (entry_is : one.entry ≡ range.entry) (count_is : one.count ≡ 0) where
    -- of any stream
    abbrev pub none-has : HasBytes files one image
    none-has = record {
      readable = subst (λ (w : ℕ). StreamsCanBeRead files w image) (sym entry_is) (record { agrees = agrees; checks = loaded-checks image range.entry p.parent.was are (main-loads range image p); has = record { streams = p.parent.was.streams; is = streams-there image range.entry p.parent.was (main-loads range image p) } });
      streams = p.parent.was.streams;
      here = ap (streams_at image) entry_is ∙ streams-there image range.entry p.parent.was (main-loads range image p);
      bytes = [];
      long = sym count_is;
      bytes_are = sym (ap (λ (m : ℕ). bytes_from (stream one.stream p.parent.was.streams) one.offset m) count_is);
    }

  pub none-bytes : [] ≡ sparse_bytes p.object range.offset range.count
  none-bytes = sym (ap (sparse_bytes p.object range.offset) none ∙ sparse-empty p.object range.offset)

-- ---- failed checks

-- corruption is reported only by an opaque folder, where any observable one gives none
pub by-files : {A : Type 0} (r : Result A Fault) (files : Option Image) → ((image : Image) → files ≡ Some image → IfDamaged r (λ _. files ≡ None)) → IfDamaged r (λ _. files ≡ None)
by-files r None each = damaged_any r (◌≡◌ {A = Option Image} None None) refl
by-files r (Some image) each = each image refl
