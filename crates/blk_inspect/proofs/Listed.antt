-- The rows of walked nodes and of reached records.
use Rattle.std.proofs.Common.{◌≡◌, ℕ, ◌+◌, ◌<◌, ◌≤◌, Bool, true, false, ◌&&◌, ◌==◌, if◌then◌else◌, List, [], ◌∷◌, ◌++◌, length, map, drop, take, get_or, refl, sym, ap, ◌∙◌, arith}
use Rattle.std.specs.Prelude.{MatchOption, None, Some, slice_get}
use Rattle.std.specs.declared.option.Option.{Option}
use Rattle.std.specs.List.{cons_option, flat_map}
use Rattle.std.specs.Option.{option_map}
use Rattle.std.proofs.lemmas.Bool.{eqb-true}
use Rattle.std.proofs.lemmas.List.{length-map, map-append, take_more}
use Rattle.std.proofs.lemmas.List.Elements.{All-drop, All-take}
use Rattle.std.proofs.lemmas.List.Folds.{flat_map-map}
use Rattle.std.proofs.lemmas.Option.{slice_get-get_or}
use Rattle.spec_image.specs.Image.{Image}
use Rattle.spec_format.specs.Address.{blocks_256, kind_of, rankings}
use Rattle.spec_folder.specs.View.{NodeFields, entry_at, node_at, node_fields_at, stands_as, store_of}
use Rattle.blk_disk.specs.declared.tables.BlockFiles.{BlockFiles}
use Rattle.blk_disk.specs.Tables.{is_record_among, names_among, stands_among}
use Rattle.blk_audit.specs.BucketEnds.{begin_of, records_of}
use Rattle.blk_audit.specs.Chaining.{RecordsStand, words_reached}
use Rattle.blk_audit.specs.declared.reaching.Reached.{Reached}
use Rattle.blk_audit.specs.ReadLists.{IsSaidAt, IsWalkedNode}
use Rattle.blk_audit.specs.Records.{IsSaidBy}
use Rattle.blk_audit.specs.Walking.{nodes_walked}
use Rattle.blk_audit.specs.declared.list_walk.Walked.{Walked}
use Rattle.blk_audit.specs.declared.named.WalkedNode.{WalkedNode}
use Rattle.blk_audit.specs.declared.records.ReadRecord.{ReadRecord}
use Rattle.blk_inspect.specs.Findings.{node_row_at, node_row_line, node_row_said, record_row_at, record_row_line}
use Rattle.blk_inspect.specs.Texts.{end_line, listed_text, node_line_at, record_line_at}
use Rattle.blk_inspect.specs.declared.rows.NodeRow.{NodeRow}
use Rattle.blk_inspect.specs.declared.rows.RecordRow.{RecordRow}

-- the row of a walked node is that of its word
pub row_said : (image : Image) (said : WalkedNode) → IsSaidAt image said → node_row_said said ≡ node_row_at image said.addr
unfolding store_of node_fields_at
row_said image said fields = by_test (stands_as image rankings said.addr) fields
  where
    there : NodeFields
    there = record { contents = (node_at image said.addr).contents; dirty = (node_at image said.addr).dirty }

    given : NodeFields
    given = record { contents = said.contents; dirty = said.dirty }

    rows : given ≡ there → node_row_said said ≡ node_row_at image said.addr
    rows same = λ i. record { node = said.addr; contents = (same i).contents; dirty = (same i).dirty }

    by_test : (t : Bool) → (if t then Some there else None) ≡ Some given → node_row_said said ≡ node_row_at image said.addr
    by_test true is = let same : given ≡ there = cc in rows same
    by_test false is = cc

-- one more row
row_more : {R : Type 0} (row : ℕ → R) (words : List ℕ) (i w : ℕ) (rows : List R) → i < length words → slice_get words i ≡ Some w → rows ≡ map row (take i words) → rows ++ row w ∷ [] ≡ map row (take (i + 1) words)
row_more row words i w rows within at are =
    let here : get_or words i 0 ≡ w = let found = slice_get-get_or words i 0 within in cc in
    ap (λ rs. rs ++ row w ∷ []) are ∙ ap (λ v. map row (take i words) ++ row v ∷ []) (sym here) ∙ sym (map-append row (take i words) (get_or words i 0 ∷ [])) ∙ ap (map row) (sym (take_more words i 0 within))

-- the row of the next walked node
pub node_more : (image : Image) (walked : Walked) (i : ℕ) (node : Option WalkedNode) (rows : List NodeRow) → i < length (nodes_walked walked) → MatchOption node (length (nodes_walked walked) ≤ i) (IsWalkedNode image walked i) → rows ≡ map (node_row_at image) (take i (nodes_walked walked))
    → rows ++ cons_option (option_map node_row_said node) [] ≡ map (node_row_at image) (take (i + 1) (nodes_walked walked))
node_more image walked i None rows within past are = absurd (omega arith)
node_more image walked i (Some said) rows within is are = ap (λ r. rows ++ r ∷ []) (row_said image said is.fields) ∙ row_more (node_row_at image) (nodes_walked walked) i said.addr rows within is.addr are

-- the row of the next record
pub record_more : (image : Image) (entries : List ℕ) (i w : ℕ) (said : ReadRecord) (rows : List RecordRow) → i < length entries → slice_get entries i ≡ Some w → IsSaidBy image w said → rows ≡ map (record_row_at image) (take i entries)
    → rows ++ record { entry = w; hash = said.words.hash } ∷ [] ≡ map (record_row_at image) (take (i + 1) entries)
record_more image entries i w said rows within at is are =
    let hash : said.words.hash ≡ (entry_at image w).hash = (λ j. (is.words.fields j).hash) in
    ap (λ (h : ℕ). rows ++ record { entry = w; hash = h } ∷ []) hash ∙ row_more (record_row_at image) entries i w rows within at are

-- a record that is there among the block files
pub record_parts : (files : BlockFiles) (w : ℕ) → is_record_among files w ≡ true → (kind_of w ≡ blocks_256) × (stands_among files w ≡ true)
unfolding names_among
record_parts files w is = let both = parts _ (kind_of w == blocks_256) (stands_among files w) is in (eqb-true (kind_of w) blocks_256 both.0, both.1)
  where
    parts : (a b c : Bool) → (a && (b && c)) ≡ true → (b ≡ true) × (c ≡ true)
    parts true true true e = (refl, refl)
    parts true true false e = cc
    parts true false c e = cc
    parts false b c e = cc

-- what is printed of the rows of some nodes, and of some records
pub nodes_shown : (image : Image) (words : List ℕ) (rows : List NodeRow) → rows ≡ map (node_row_at image) words → flat_map node_row_line rows ++ end_line (length rows) ≡ listed_text (node_line_at image) words
nodes_shown image words rows are =
    (λ i. flat_map node_row_line (are i) ++ end_line (length (are i)))
    ∙ (λ i. flat_map-map node_row_line (node_row_at image) words i ++ end_line (length-map words (node_row_at image) i))

pub records_shown : (image : Image) (words : List ℕ) (rows : List RecordRow) → rows ≡ map (record_row_at image) words → flat_map record_row_line rows ++ end_line (length rows) ≡ listed_text (record_line_at image) words
records_shown image words rows are =
    (λ i. flat_map record_row_line (are i) ++ end_line (length (are i)))
    ∙ (λ i. flat_map-map record_row_line (record_row_at image) words i ++ end_line (length-map words (record_row_at image) i))

-- the records of a bucket are valid where all reached records are
pub bucket_stands : (files : BlockFiles) (reached : Reached) (bucket : ℕ) → RecordsStand files (words_reached reached) → RecordsStand files (records_of (words_reached reached) reached.ends.items bucket)
bucket_stands files reached bucket all =
    All-take (λ w. is_record_among files w ≡ true) _ (drop (begin_of reached.ends.items bucket) (words_reached reached)) (All-drop (λ w. is_record_among files w ≡ true) (begin_of reached.ends.items bucket) (words_reached reached) all)
