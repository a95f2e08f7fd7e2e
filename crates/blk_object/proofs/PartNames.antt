-- The part that is read at a node.
use Rattle.std.proofs.Common.{◌≡◌, ◌≢◌, ℕ, ◌-◌, ◌≤◌, List, ◌∷◌, ◌++◌, length, take, drop, length-take, length-drop, length-append, refl, ap, sym, ◌∙◌, subst, arith, Bool, true, false, Option, None, Some}
use Rattle.std.specs.Prelude.{◌==◌, ◌&&◌, nat_le, nat_lt, not, if◌then◌else◌}
use Rattle.std.specs.Int.{cast_unsigned, w64}
use Rattle.std.specs.Option.{option_and_then, option_map}
use Rattle.std.proofs.lemmas.Bool.{and_from, and_parts, eqb-true}
use Rattle.std.proofs.lemmas.Bool.Decides.{nat_tests}
use Rattle.std.proofs.lemmas.List.{take_all}
use Rattle.spec_image.specs.Image.{External, Image, has_file}
use Rattle.spec_image.proofs.Runs.{some_inj}
use Rattle.spec_format.specs.Address.{blocks_256, external, external_number, is_address, kind_of}
use Rattle.spec_format.specs.BlockFiles.{stands_in, stands_in_blocks}
use Rattle.spec_format.specs.Names.{IsName, Name, colon, hexadecimal, name_head, read_name}
use Rattle.spec_format.specs.Records.{child, node_in, parent}
use Rattle.spec_format.specs.Standing.{stands}
use Rattle.spec_format.specs.SparseIndex.{ParentIndex, PartIndex, read_parent_index, read_part_index}
use Rattle.spec_folder.specs.Entries.{IsParent, IsPart, IsPlain, Role, is_covered, is_key_length, longest_key_with, parent_role, part_role, role_of, stored_key, stream}
use Rattle.spec_folder.specs.Loads.{Loaded}
use Rattle.spec_folder.specs.View.{NodeFields, RecordFields, node_at, node_fields_at, stands_as, store_of}
use Rattle.law_folder.proofs.chains.ChainWords.{shown-fields}
use Rattle.law_folder.proofs.updates.StillShown.{core-standing}
use Rattle.law_folder.proofs.walks.Loads.{load-then}
use Rattle.blk_disk.specs.declared.tables.BlockFiles.{BlockFiles}
use Rattle.blk_disk.specs.Tables.{Agrees, is_record_among, names_among, stands_among}
use Rattle.blk_disk.proofs.Ranges.{stands_agree}
use Rattle.blk_entry.specs.declared.keys.Head.{Head}
use Rattle.blk_entry.specs.Keys.{HasReadableKey, IsPiece, IsRecordHead, key_at}
use Rattle.blk_lru.specs.Nodes.{link_at}
use Rattle.blk_ranges.specs.ChildNames.{name_within}
use Rattle.blk_ranges.specs.declared.names.ChildName.{ChildName}
use Rattle.blk_ranges.proofs.Spelling.{joined}
use Rattle.blk_object.specs.ListedParts.{LoadsAt, number_said, part_loaded, number_of_role}
use Rattle.blk_object.specs.Owning.{LoadsWith}
use Rattle.blk_object.proofs.OwnedCharges.{key-length}

none-some : {A : Type 0} {x : A} → ◌≡◌ {A = Option A} None (Some x) → ⊥
none-some e = cc

-- ---- a name

-- the key that a name says has the length that was read
pub name-length : (key : List ℕ) (said : ChildName) → IsName key (name_within key said) → length (take said.key_len (drop 6 key)) ≡ said.key_len
name-length key said is =
    let k : List ℕ = take said.key_len (drop 6 key) in
    let printed : ((name_head ++ k) ++ colon ∷ hexadecimal (cast_unsigned w64 said.signature)) ++ colon ∷ hexadecimal said.part ≡ key = joined k (cast_unsigned w64 said.signature) said.part ∙ sym is.printed in
    let one = length-append (name_head ++ k) (colon ∷ hexadecimal (cast_unsigned w64 said.signature)) in
    let two = length-append ((name_head ++ k) ++ colon ∷ hexadecimal (cast_unsigned w64 said.signature)) (colon ∷ hexadecimal said.part) in
    let front = length-append name_head k in
    let all : length (((name_head ++ k) ++ colon ∷ hexadecimal (cast_unsigned w64 said.signature)) ++ colon ∷ hexadecimal said.part) ≡ length key = ap length printed in
    let taken = length-take said.key_len (drop 6 key) in
    let dropped = length-drop 6 key in
    omega (arith, one, two, front, all, taken, dropped)

pub cut-name : (key : List ℕ) (n : ℕ) → take n (take (length key - 6) (drop 6 key)) ≡ take n (drop 6 key)
cut-name key n = let dropped = length-drop 6 key in ap (take n) (take_all (length key - 6) (drop 6 key) (omega (arith, dropped)))

-- ---- the record that a node names

pub contents-word : (image : Image) (node : ℕ) → link_at image node 24 ≡ (node_at image node).contents
unfolding node_in
contents-word image node = refl

pub names-record : (files : BlockFiles) (image : Image) (w : ℕ) → Agrees files image → stands_as image blocks_256 w ≡ true → is_record_among files w ≡ true
unfolding names_among stands
names-record files image w agrees st =
    let p = and_parts (stands_in image w) (kind_of w == blocks_256) st in
    let q = and_parts (is_address w) (if kind_of w == external then has_file image (External (external_number w)) else stands_in_blocks image w) p.0 in
    let block_kind : (kind_of w == external) ≡ false = rw (eqb-true (kind_of w) blocks_256 p.1) refl in
    let blocks : stands_in_blocks image w ≡ true = sym (ap (λ (t : Bool). if t then has_file image (External (external_number w)) else stands_in_blocks image w) block_kind) ∙ q.1 in
    and_from (is_address w) ((kind_of w == blocks_256) && stands_among files w) q.0 (and_from (kind_of w == blocks_256) (stands_among files w) p.1 (stands_agree files image w agrees ∙ blocks))

node-contents : (image : Image) (w : ℕ) (n : NodeFields) → node_fields_at image w ≡ Some n → (node_at image w).contents ≡ n.contents
unfolding node_fields_at
node-contents image w n is = go (stands_as image 1 w) refl where
  go : (b : Bool) → stands_as image 1 w ≡ b → (node_at image w).contents ≡ n.contents
  go true e = let there : ◌≡◌ {A = Option NodeFields} (Some (record { contents = (node_at image w).contents; dirty = (node_at image w).dirty })) (Some n) = (rw e at is) in ap (λ (x : NodeFields). x.contents) (some_inj there)
  go false e = let nothing : ◌≡◌ {A = Option NodeFields} None (Some n) = (rw e at is) in absurd (none-some nothing)

-- what lies at a node lies there with the record that it names
pub at-with : (image : Image) (node entry : ℕ) (loaded : Loaded) → entry ≡ (node_at image node).contents → LoadsAt node loaded image → LoadsWith entry loaded image
unfolding store_of
at-with image node entry loaded is at = record {
  rule = at.rule;
  node = node;
  loads = at.loads;
  contents = load-then (store_of image) at.rule node loaded at.loads (λ n e f. f.facts.contents_is ∙ sym (node-contents image node n f.node) ∙ sym is);
}

pub record-named : (files : BlockFiles) (image : Image) (node : ℕ) (loaded : Loaded) → Agrees files image → LoadsAt node loaded image → is_record_among files (node_at image node).contents ≡ true
unfolding store_of
record-named files image node loaded agrees at = load-then (store_of image) at.rule node loaded at.loads (λ n e f.
    subst (λ (w : ℕ). is_record_among files w ≡ true) (sym (node-contents image node n f.node)) (names-record files image n.contents agrees (core-standing image n.contents e f.entry)))

-- ---- the role of a record

no-part : (key : List ℕ) (index : Option ParentIndex) (len : ℕ) (role : Role) → option_and_then (λ (x : ParentIndex). if x.key_len == len then Some (IsParent x) else None) index ≡ Some role → number_of_role key role ≡ None
no-part key None len role e = absurd (none-some e)
no-part key (Some x) len role e = go (x.key_len == len) e where
  go : (b : Bool) → (if b then Some (IsParent x) else None) ≡ Some role → number_of_role key role ≡ None
  go true h = subst (λ (r : Role). number_of_role key r ≡ None) (some_inj h) refl
  go false h = absurd (none-some h)

parent-is-none : (key : List ℕ) (e : RecordFields) (streams : List (List ℕ)) (role : Role) → parent_role e streams ≡ Some role → number_of_role key role ≡ None
unfolding parent_role
parent-is-none key e streams role is = go (length (stream 1 streams) == 0) is where
  go : (b : Bool) → (if not b then None else option_and_then (λ (x : ParentIndex). if x.key_len == e.key_len then Some (IsParent x) else None) (read_parent_index (stream 2 streams))) ≡ Some role → number_of_role key role ≡ None
  go true h = no-part key (read_parent_index (stream 2 streams)) e.key_len role h
  go false h = absurd (none-some h)

named-part : (key : List ℕ) (size : ℕ) (name : Option Name) (index : Option PartIndex) (role : Role)
    → option_and_then (λ (n : Name). option_and_then (λ (x : PartIndex). if (x.signature == n.signature) && (x.key_len == length n.key) && is_covered x size then Some (IsPart n x) else None) index) name ≡ Some role → number_of_role key role ≡ number_said key name
named-part key size None index role e = absurd (none-some e)
named-part key size (Some n) None role e = absurd (none-some e)
named-part key size (Some n) (Some x) role e = go ((x.signature == n.signature) && (x.key_len == length n.key) && is_covered x size) e where
  go : (b : Bool) → (if b then Some (IsPart n x) else None) ≡ Some role → number_of_role key role ≡ number_said key (Some n)
  go true h = subst (λ (r : Role). number_of_role key r ≡ number_said key (Some n)) (some_inj h) refl
  go false h = absurd (none-some h)

part-is-named : (key name : List ℕ) (streams : List (List ℕ)) (role : Role) → part_role name streams ≡ Some role → number_of_role key role ≡ number_said key (read_name name)
unfolding part_role
part-is-named key name streams role is = go (length (stream 0 streams) == 0) (nat_lt 1048576 (length (stream 1 streams))) is where
  go : (b c : Bool) → (if not b then None else if c then None else option_and_then (λ (n : Name). option_and_then (λ (x : PartIndex). if (x.signature == n.signature) && (x.key_len == length n.key) && is_covered x (length (stream 1 streams)) then Some (IsPart n x) else None) (read_part_index (stream 2 streams))) (read_name name)) ≡ Some role
      → number_of_role key role ≡ number_said key (read_name name)
  go true false h = named-part key (length (stream 1 streams)) (read_name name) (read_part_index (stream 2 streams)) role h
  go true true h = absurd (none-some h)
  go false c h = absurd (none-some h)

-- the role of a record that isn't flagged as a part's
pub other-role : (key : List ℕ) (e : RecordFields) (name : List ℕ) (streams : List (List ℕ)) (role : Role) → role_of e name streams ≡ Some role → (e.flags == child) ≡ false → number_of_role key role ≡ None
unfolding role_of
other-role key e name streams role is other = go (e.flags == parent) (e.flags == child) other is where
  go : (b c : Bool) → c ≡ false → (if b then parent_role e streams else if c then part_role name streams else Some IsPlain) ≡ Some role → number_of_role key role ≡ None
  go true c f h = parent-is-none key e streams role h
  go false false f h = subst (λ (r : Role). number_of_role key r ≡ None) (some_inj h) refl
  go false true f h = absurd (let z : true ≡ false = f in cc)

-- the role of a record that is flagged as a part's
pub its-role : (key : List ℕ) (e : RecordFields) (name : List ℕ) (streams : List (List ℕ)) (role : Role) → role_of e name streams ≡ Some role → (e.flags == child) ≡ true → number_of_role key role ≡ number_said key (read_name name)
unfolding role_of
its-role key e name streams role is its = go (e.flags == parent) (e.flags == child) (ap (λ (w : ℕ). w == parent) (eqb-true e.flags child its)) its is where
  go : (b c : Bool) → b ≡ false → c ≡ true → (if b then parent_role e streams else if c then part_role name streams else Some IsPlain) ≡ Some role → number_of_role key role ≡ number_said key (read_name name)
  go false true f t h = part-is-named key name streams role h
  go false false f t h = absurd (let z : false ≡ true = t in cc)
  go true c f t h = absurd (let z : true ≡ false = f in cc)

-- ---- what is read

pub head-flags : (image : Image) (entry : ℕ) (head : Head) (e : RecordFields) → IsRecordHead image entry head → (store_of image).entry entry ≡ Some e → e.flags ≡ head.flags
head-flags image entry head e is here = sym (ap (λ (x : RecordFields). x.flags) (shown-fields image entry e here)) ∙ sym is.flags

-- a record that isn't flagged as a part's is none
pub not-a-part : (key : List ℕ) (image : Image) (entry : ℕ) (head : Head) (loaded : Loaded) → IsRecordHead image entry head → LoadsWith entry loaded image → head.flags ≢ 2 → number_of_role key loaded.role ≡ None
not-a-part key image entry head loaded is with_record differs = load-then (store_of image) with_record.rule with_record.node loaded with_record.loads (λ n e f.
    let here : (store_of image).entry entry ≡ Some e = ap (store_of image).entry (sym with_record.contents ∙ f.facts.contents_is) ∙ f.entry in
    let flags = head-flags image entry head e is here in
    other-role key e loaded.key loaded.streams loaded.role f.facts.role (ap (λ (w : ℕ). w == 2) flags ∙ grind (arith, nat_tests)))

-- the key of what lies there can be read
pub key-there : (image : Image) (entry : ℕ) (loaded : Loaded) → LoadsWith entry loaded image → key_at image entry ≡ Some loaded.key
unfolding key_at store_of
key-there image entry loaded with_record = load-then (store_of image) with_record.rule with_record.node loaded with_record.loads (λ n e f.
    let place : n.contents ≡ entry = sym f.facts.contents_is ∙ with_record.contents in
    let here : (store_of image).entry entry ≡ Some e = ap (store_of image).entry (sym place) ∙ f.entry in
    let long : is_key_length entry e ≡ true = subst (λ (w : ℕ). is_key_length w e ≡ true) place f.facts.keyed.key_length in
    let is : stored_key (store_of image) entry e ≡ Some loaded.key = subst (λ (w : ℕ). stored_key (store_of image) w e ≡ Some loaded.key) place f.facts.keyed.key in
    rw (here, long) is)

pub key-readable : (image : Image) (entry : ℕ) (loaded : Loaded) → LoadsWith entry loaded image → HasReadableKey entry image
key-readable image entry loaded with_record = record { key = loaded.key; is = key-there image entry loaded with_record }

-- it is no longer than a name
pub key-short : (image : Image) (entry : ℕ) (loaded : Loaded) → LoadsWith entry loaded image → length loaded.key ≤ 32796
unfolding is_key_length
key-short image entry loaded with_record = load-then (store_of image) with_record.rule with_record.node loaded with_record.loads (λ n e f.
    let len : length loaded.key ≡ e.key_len = key-length image n.contents e loaded.key f.facts.keyed.key in
    let within = (and_parts (nat_le 1 e.key_len) (nat_le e.key_len (longest_key_with e)) (and_parts (nat_le 1 e.key_len && nat_le e.key_len (longest_key_with e)) _ f.facts.keyed.key_length).0).1 in
    go e.key_len (e.flags == child) len within)
  where
    go : (k : ℕ) (b : Bool) → length loaded.key ≡ k → nat_le k (if b then 32796 else 32768) ≡ true → length loaded.key ≤ 32796
    go k true len within = grind (arith, nat_tests)
    go k false len within = grind (arith, nat_tests)

pub all-piece : (key old new : List ℕ) (n : ℕ) → length key ≤ length old → IsPiece key 0 old new n → take n new ≡ key
all-piece key old new n room piece =
    let many : n ≡ length key = omega (arith, room, piece.many) in
    piece.front ∙ take_all n key (omega (arith, many))

-- the number that its name says is that of the part
pub part-read : (key : List ℕ) (image : Image) (entry : ℕ) (head : Head) (loaded : Loaded) (old new : List ℕ) (len : ℕ) → IsRecordHead image entry head → LoadsWith entry loaded image → head.flags ≡ 2 → 32796 ≤ length old
    → ((stored : List ℕ) → key_at image entry ≡ Some stored → IsPiece stored 0 old new len) → number_said key (read_name (take len new)) ≡ number_of_role key loaded.role
part-read key image entry head loaded old new len is with_record flag room piece = load-then (store_of image) with_record.rule with_record.node loaded with_record.loads (λ n e f.
    let here : (store_of image).entry entry ≡ Some e = ap (store_of image).entry (sym with_record.contents ∙ f.facts.contents_is) ∙ f.entry in
    let flags = head-flags image entry head e is here in
    let short = key-short image entry loaded with_record in
    let all : take len new ≡ loaded.key = all-piece loaded.key old new len (omega (arith, short, room)) (piece loaded.key (key-there image entry loaded with_record)) in
    ap (λ (name : List ℕ). number_said key (read_name name)) all ∙ sym (its-role key e loaded.key loaded.streams loaded.role f.facts.role (ap (λ (w : ℕ). w == 2) (flags ∙ flag))))

-- ---- the part at a node

pub part-some : (key : List ℕ) (node entry number : ℕ) (loaded : Loaded) → Some number ≡ number_of_role key loaded.role → loaded.contents ≡ entry → Some (record { node = node; entry = entry; number = number }) ≡ part_loaded key node loaded
part-some key node entry number loaded is contents =
    ap (λ (w : ℕ). Some (record { node = node; entry = w; number = number })) (sym contents) ∙ ap (λ (o : Option ℕ). option_map (λ (n : ℕ). record { node = node; entry = loaded.contents; number = n }) o) is

pub part-none : (key : List ℕ) (node : ℕ) (loaded : Loaded) → None ≡ number_of_role key loaded.role → None ≡ part_loaded key node loaded
part-none key node loaded is = ap (λ (o : Option ℕ). option_map (λ (n : ℕ). record { node = node; entry = loaded.contents; number = n }) o) is
