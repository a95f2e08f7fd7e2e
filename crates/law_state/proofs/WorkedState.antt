-- A state with a plain, a sparse and a doomed object: `b` has the stream `zz`; `a` is sparse, and its part 0 has the bytes `xx`; a third object, doomed and not
-- clean, has the stream `yyy` and the handle 5, and its key is one of the bucket of `b`.
use Rattle.std.proofs.Common.{◌≡◌, ℕ, zero, suc, ◌+◌, ◌<◌, List, [], ◌∷◌, ◌++◌, refl, ap, sym, ◌∙◌, subst, arith, Bool, true, false, Some, None}
use Rattle.std.specs.Prelude.{if◌then◌else◌, ◌==◌, ◌&&◌, nat_lt, codes, replicate}
use Rattle.std.specs.Str.{bytes_eq}
use Rattle.blk_model.specs.Items.{Item, IsBytes, PartValue, main, part, plain, sparse}
use Rattle.blk_model.specs.Holding.{row_of}
use Rattle.blk_model.specs.Request.{Request, to_close, to_create, to_doom, to_open, to_sparse_write, to_write}
use Rattle.blk_model.specs.State.{IsValidState, Object, State, object_at}
use Rattle.blk_model.specs.Step.{step}
use Rattle.blk_model.proofs.Computing.{computing}
use Rattle.blk_model.proofs.Rows.{after_all, new}
use Rattle.blk_model.proofs.Steps.{step_valid}
use Rattle.blk_model.proofs.StopRows.{codes_are_bytes, new_is_valid}
use Rattle.spec_image.specs.Bytes.{content, word_bytes}
use Rattle.spec_format.specs.Address.{block_count, external_number, file_selector, first_block, kind_of}
use Rattle.spec_format.specs.BlockFiles.{is_among}
use Rattle.spec_format.specs.Claims.{BlockOf, claims_of, has_claim, repeats}
use Rattle.spec_format.specs.Hash.{hash, mixed, of_bytes, of_four, of_one, of_three, of_two}
use Rattle.spec_format.specs.Names.{Name}
use Rattle.spec_format.specs.Records.{entry_doomed}
use Rattle.spec_format.specs.SparseIndex.{ParentIndex, PartIndex, map_bit}
use Rattle.spec_folder.specs.Chains.{bucket_of_hash}
use Rattle.spec_folder.specs.Entries.{IsParent, IsPart, IsPlain}
use Rattle.spec_folder.specs.Layout.{IsDoomedAt, IsLayoutOf, IsListedRecord, IsPlacedAt, Layout, is_listed, order}
use Rattle.spec_folder.specs.Loads.{Loaded, all_claims, claims_of_loaded, record_claims}
use Rattle.law_folder.specs.CommandLaws.{marked}
use Rattle.law_state.proofs.LaidOut.{at_in, each-item, each-word, looked, own-in, owner_in}

-- ---- the state

abbrev pub plain_object : Object
plain_object = record { key = codes "b"; shape = plain; streams = (codes "zz", [], []); parts = []; live = true; settled = true }

-- part 0 has the first two bytes of its first block
abbrev pub part_value : PartValue
part_value = record { bytes = codes "xx"; presence = record { blocks = replicate 1024 false; partial = Some (0, 2) } }

abbrev pub sparse_object : Object
sparse_object = record { key = codes "a"; shape = sparse 100; streams = ([], [], []); parts = (0, part_value) ∷ []; live = true; settled = true }

-- a key in the bucket of `b`
abbrev pub twin : List ℕ
twin = codes "SYo"

abbrev pub doomed_object : Object
doomed_object = record { key = twin; shape = plain; streams = (codes "yyy", [], []); parts = []; live = false; settled = false }

abbrev pub worked : State
worked = record {
  objects = Some plain_object ∷ Some sparse_object ∷ Some doomed_object ∷ [];
  uses = part (codes "a") 0 ∷ main (codes "a") ∷ main (codes "b") ∷ [];
  names = replicate 5 None ++ Some 2 ∷ replicate 4090 None;
  limits = new.limits;
}

-- the requests that lead to it
abbrev made_b : List Request
made_b = to_create 5 (codes "b") ∷ to_write 5 0 0 false (codes "zz") ∷ to_close 5 ∷ []

abbrev made_a : List Request
made_a = to_create 5 (codes "a") ∷ to_sparse_write 5 0 (codes "xx") ∷ to_close 5 ∷ []

abbrev doomed_twin : List Request
doomed_twin = to_create 5 twin ∷ to_write 5 0 0 false (codes "yyy") ∷ to_doom 5 ∷ []

reached : after_all (after_all (after_all new made_b) made_a) doomed_twin ≡ worked
unfolding computing
reached = refl

one_byte : (letter : ℕ) → letter < 256 → IsBytes (letter ∷ [])
one_byte letter small = codes_are_bytes (letter ∷ []) (small, tt)

two_bytes : (letter : ℕ) → letter < 256 → IsBytes (letter ∷ letter ∷ [])
two_bytes letter small = codes_are_bytes (letter ∷ letter ∷ []) (small, (small, tt))

pub twin_bytes : IsBytes twin
twin_bytes = codes_are_bytes twin (omega arith, (omega arith, (omega arith, tt)))

three_bytes : (letter : ℕ) → letter < 256 → IsBytes (letter ∷ letter ∷ letter ∷ [])
three_bytes letter small = codes_are_bytes (letter ∷ letter ∷ letter ∷ []) (small, (small, (small, tt)))

-- what is made and written is valid
after-valid : (state : State) (key bytes : List ℕ) → IsValidState state → IsBytes key → IsBytes bytes → IsValidState (after_all state (to_create 5 key ∷ to_write 5 0 0 false bytes ∷ []))
after-valid state key bytes valid are_key are_bytes =
    step_valid (step state 100 (to_create 5 key)).state 100 (to_write 5 0 0 false bytes) (step_valid state 100 (to_create 5 key) valid (omega arith, are_key)) (omega arith, omega arith, omega arith, are_bytes)

with-b : IsValidState (after_all new made_b)
with-b = step_valid _ 100 (to_close 5) (after-valid new (codes "b") (codes "zz") new_is_valid (one_byte 98 (omega arith)) (two_bytes 122 (omega arith))) (omega arith)

with-a : (state : State) → IsValidState state → IsValidState (after_all state made_a)
with-a state valid =
    step_valid _ 100 (to_close 5)
    (step_valid (step state 100 (to_create 5 (codes "a"))).state 100 (to_sparse_write 5 0 (codes "xx")) (step_valid state 100 (to_create 5 (codes "a")) valid (omega arith, one_byte 97 (omega arith))) (omega arith, omega arith, two_bytes 120 (omega arith)))
    (omega arith)

with-c : (state : State) → IsValidState state → IsValidState (after_all state doomed_twin)
with-c state valid = step_valid _ 100 (to_doom 5) (after-valid state twin (codes "yyy") valid twin_bytes (three_bytes 121 (omega arith))) (omega arith)

pub worked-valid : IsValidState worked
worked-valid = subst IsValidState reached (with-c _ (with-a _ with-b))

-- and so it is where the doomed object was closed before it was opened and doomed, and so is clean
abbrev settled_twin : List Request
settled_twin = to_create 5 twin ∷ to_write 5 0 0 false (codes "yyy") ∷ to_close 5 ∷ to_open 5 twin ∷ to_doom 5 ∷ []

reached-settled : after_all (after_all (after_all new made_b) made_a) settled_twin ≡ marked worked 2 doomed_object true
unfolding computing
reached-settled = refl

with-settled : (state : State) → IsValidState state → IsValidState (after_all state settled_twin)
with-settled state valid = step_valid _ 100 (to_doom 5)
    (step_valid _ 100 (to_open 5 twin) (step_valid _ 100 (to_close 5) (after-valid state twin (codes "yyy") valid twin_bytes (three_bytes 121 (omega arith))) (omega arith)) (omega arith, twin_bytes)) (omega arith)

pub settled-valid : IsValidState (marked worked 2 doomed_object true)
settled-valid = subst IsValidState reached-settled (with-settled _ (with-a _ with-b))

-- ---- what lies where

-- the nodes of `a`, of its part, of `b` and of the doomed object
abbrev pub nodes : ℕ → ℕ
nodes n = 0x90000000 + n

-- the records of these nodes
abbrev pub records : ℕ → ℕ
records n = 0xA0010000 + n

-- the bytes of an index before its bitmap: signature 100, the magic, a key of one byte, a partial block and the length of its piece
abbrev pub index_head : ℕ → ℕ → List ℕ
index_head block piece = word_bytes 100 ++ word_bytes 0 ++ word_bytes 0xC103CAC3 ++ word_bytes 1 ++ word_bytes block ++ word_bytes piece ++ replicate 40 0

-- the parent's index has part 0
abbrev pub parent_bytes : List ℕ
parent_bytes = index_head 0xFFFFFFFF 0 ++ 1 ∷ replicate 8191 0

abbrev pub parent_index : ParentIndex
parent_index = record { signature = 100; key_len = 1; has_part = λ n. nat_lt n 65536 && map_bit (content parent_bytes) 64 n }

-- the part's has a piece of block 0
abbrev pub part_bytes : List ℕ
part_bytes = index_head 0 2 ++ replicate 128 0

abbrev pub part_index : PartIndex
part_index = record { signature = 100; key_len = 1; present = λ b. nat_lt b 1024 && map_bit (content part_bytes) 64 b; partial = Some (0, 2) }

abbrev pub part_name : Name
part_name = record { key = codes "a"; signature = 100; part = 0 }

abbrev pub the_parent : Loaded
the_parent = record { node = nodes 0; contents = records 0; dirty = 0; key = codes "a"; role = IsParent parent_index; streams = [] ∷ [] ∷ parent_bytes ∷ []; others = 0 ∷ 0 ∷ 0 ∷ 0xC2030000 ∷ 0 ∷ [] }

abbrev pub the_part : Loaded
the_part = record { node = nodes 1; contents = records 1; dirty = 0; key = codes "Range_a:64:0"; role = IsPart part_name part_index; streams = [] ∷ codes "xx" ∷ part_bytes ∷ []; others = 0 ∷ 0 ∷ 0xA0010006 ∷ 0xA0010007 ∷ 0 ∷ [] }

abbrev pub the_plain : Loaded
the_plain = record { node = nodes 2; contents = records 2; dirty = 0; key = codes "b"; role = IsPlain; streams = codes "zz" ∷ [] ∷ [] ∷ []; others = 0 ∷ 0xA0010004 ∷ 0 ∷ 0 ∷ 0 ∷ [] }

abbrev pub the_doomed : Loaded
the_doomed = record { node = nodes 3; contents = records 3; dirty = 7; key = twin; role = IsPlain; streams = codes "yyy" ∷ [] ∷ [] ∷ []; others = 0 ∷ 0xA0010005 ∷ 0 ∷ 0 ∷ 0 ∷ [] }

abbrev pub all_four : List Loaded
all_four = the_parent ∷ the_part ∷ the_plain ∷ the_doomed ∷ []

abbrev pub place_of : Item → ℕ
place_of (main key) = if bytes_eq key (codes "a") then nodes 0 else nodes 2
place_of (part key n) = nodes 1

-- the buckets of `a`, of the part and of `b`
abbrev pub chain_of : ℕ → List ℕ
chain_of bucket = if bucket == 0xA782 then records 0 ∷ [] else if bucket == 0xB6C then records 1 ∷ [] else if bucket == 0xA0E1 then records 2 ∷ [] else []

abbrev pub worked_layout : Layout
worked_layout = record {
  place = place_of;
  place_of_doomed = λ number. nodes 3;
  at = at_in all_four;
  state = λ w. if w == nodes 3 then entry_doomed else 0;
  chains = chain_of;
  owner = owner_in all_four;
}

-- ---- used blocks

pub their-claims : claims_of_loaded all_four
    ≡ (BlockOf 0 0 ∷ BlockOf 1 0 ∷ BlockOf 3 0 ∷ BlockOf 3 1 ∷ BlockOf 3 2 ∷ []) ++ (BlockOf 0 1 ∷ BlockOf 1 1 ∷ BlockOf 1 6 ∷ BlockOf 1 7 ∷ []) ++ (BlockOf 0 2 ∷ BlockOf 1 2 ∷ BlockOf 1 4 ∷ []) ++ (BlockOf 0 3 ∷ BlockOf 1 3 ∷ BlockOf 1 5 ∷ [])
unfolding all_claims record_claims claims_of kind_of block_count file_selector first_block external_number
their-claims = refl

each-once : repeats (claims_of_loaded all_four) ≡ false
unfolding repeats has_claim all_claims record_claims claims_of kind_of block_count file_selector first_block external_number
each-once = refl

each-single : (node : ℕ) (loaded : Loaded) → worked_layout.at node ≡ Some loaded → repeats (all_claims loaded) ≡ false
unfolding repeats has_claim all_claims record_claims claims_of kind_of block_count file_selector first_block external_number
each-single = looked (λ node loaded. repeats (all_claims loaded) ≡ false) all_four (refl, (refl, (refl, (refl, tt))))

-- ---- the layout is that of the state

laid : (item : Item) → is_listed worked item ≡ true → IsPlacedAt worked worked_layout item
unfolding row_of
laid = each-item (IsPlacedAt worked worked_layout) worked.uses (
  record {
    loaded = the_part;
    here = refl;
    row = refl;
    mark = refl;
    parent = record { name = part_name; index = part_index; role = refl; of_key = refl; listed = refl; parent = the_parent; at_parent = refl; of = refl };
  },
  (
    record { loaded = the_parent; here = refl; row = refl; mark = refl; parent = tt },
    (record { loaded = the_plain; here = refl; row = refl; mark = refl; parent = tt }, tt),
  ),
)

-- the record of a node is in its bucket, where the node is listed
abbrev IsChained : ℕ → Loaded → Type 0
IsChained node loaded = is_among (order worked worked_layout) node ≡ true → is_among (chain_of (bucket_of_hash (hash loaded.key))) loaded.contents ≡ true

each-chained : (node : ℕ) (loaded : Loaded) → worked_layout.at node ≡ Some loaded → IsChained node loaded
unfolding hash mixed of_bytes of_one of_two of_three of_four
each-chained = looked IsChained all_four ((λ among. refl), ((λ among. refl), ((λ among. refl), ((λ among. absurd (let z : false ≡ true = among in cc)), tt))))

its-record : (bucket contents : ℕ) → is_among (chain_of bucket) contents ≡ true → IsListedRecord worked worked_layout contents
its-record bucket contents h = go (bucket == 0xA782) (bucket == 0xB6C) (bucket == 0xA0E1) h where
  one : (x : ℕ) → is_among (x ∷ []) contents ≡ true → x ≡ contents
  one x among = each-word (λ w. x ≡ w) (x ∷ []) (refl, tt) contents among

  go : (s t u : Bool) → is_among (if s then records 0 ∷ [] else if t then records 1 ∷ [] else if u then records 2 ∷ [] else []) contents ≡ true → IsListedRecord worked worked_layout contents
  go true t u e = record { node = nodes 0; loaded = the_parent; listed = refl; here = refl; record_is = one (records 0) e }
  go false true u e = record { node = nodes 1; loaded = the_part; listed = refl; here = refl; record_is = one (records 1) e }
  go false false true e = record { node = nodes 2; loaded = the_plain; listed = refl; here = refl; record_is = one (records 2) e }
  go false false false e = absurd (let z : false ≡ true = e in cc)

-- object 2 is the doomed one
pub only-doomed : (number : ℕ) (object : Object) → object_at worked number ≡ Some object → object.live ≡ false → number ≡ 2
only-doomed zero object is dead = let s : plain_object ≡ object = cc in absurd (let c : true ≡ false = ap (λ (o : Object). o.live) s ∙ dead in cc)
only-doomed (suc zero) object is dead = let s : sparse_object ≡ object = cc in absurd (let c : true ≡ false = ap (λ (o : Object). o.live) s ∙ dead in cc)
only-doomed (suc (suc zero)) object is dead = refl
only-doomed (suc (suc (suc n))) object is dead = absurd (cc)

doomed-lies : (number : ℕ) (object : Object) → object_at worked number ≡ Some object → object.live ≡ false → IsDoomedAt worked worked_layout number object
doomed-lies number object is dead =
    let second : number ≡ 2 = only-doomed number object is dead in
    let s : doomed_object ≡ object = (let e : object_at worked 2 ≡ Some object = subst (λ (n : ℕ). object_at worked n ≡ Some object) second is in cc) in
    subst (λ (n : ℕ). IsDoomedAt worked worked_layout n object) (sym second) (subst (IsDoomedAt worked worked_layout 2) s
    (record { loaded = the_doomed; here = refl; row = refl; mark = refl; unlisted = refl; alone = λ other x there gone e. only-doomed other x there gone }))

pub worked-lies : IsLayoutOf worked worked_layout
worked-lies = record {
  laid = laid;
  normal = each-word (λ w. worked_layout.state w ≡ 0) (order worked worked_layout) (refl, (refl, (refl, tt)));
  chained = λ node loaded among is. each-chained node loaded is among;
  unchained = λ bucket contents below. its-record bucket contents;
  own = own-in all_four each-once;
  single = each-single;
  doomed_objects = doomed-lies;
}
