-- What is kept can be written: its nodes and its records have right or absent checksums.
use Rattle.std.proofs.Common.{◌≡◌, ℕ, List, [], ◌∷◌, Bool, true, false, Option, Some, None, Ok, refl, ap, sym, ◌∙◌, subst, ⊎_elim}
use Rattle.std.specs.Prelude.{if◌then◌else◌, ◌==◌, ◌||◌, map}
use Rattle.std.specs.List.{filter_map, cons_option}
use Rattle.std.proofs.lemmas.Bool.{cases_Bool, and_parts, eq-eqb, eqb-true, or_left, or_right}
use Rattle.spec_image.specs.Image.{Image}
use Rattle.spec_format.specs.Address.{rankings, blocks_256}
use Rattle.spec_format.specs.BlockFiles.{is_among}
use Rattle.spec_folder.specs.ListView.{ListView}
use Rattle.spec_folder.specs.Completion.{insert, remove, completed_list, operated, put_front, take_out, putting_in_front, counts}
use Rattle.spec_folder.specs.Walk.{walk}
use Rattle.spec_folder.specs.View.{RecordFields, checks_at, list_of, store_of}
use Rattle.spec_folder.specs.Loads.{held_rule, Loaded, load}
use Rattle.spec_folder.specs.Audit.{kept_among, kept_as, is_kept, kept_nodes}
use Rattle.spec_folder.specs.Found.{kept}
use Rattle.spec_folder.specs.ListImages.{IsWritable}
use Rattle.law_folder.proofs.chains.ChainWords as words
use Rattle.law_folder.proofs.walks.Kept.{kept-shown, kept-nodes}
use Rattle.law_folder.proofs.lists.ListWrites.{checks_stay, checks_out}
use Rattle.law_folder.proofs.updates.NodeRecords as nodes
use Rattle.law_folder.proofs.walks.Shown.{is_among-filter}
use Rattle.law_folder.proofs.updates.StillShown.{standing-parts, core-standing}
use Rattle.law_folder.proofs.lists.Walked.{walk-once, walks-distinct}
use Rattle.law_recovery.specs.ChainRepair.{is_kept_record, IsStandingRecord, KeptNodesCheck, KeptRecordsCheck}
use Rattle.law_recovery.proofs.Frames.{IsRecordOf, record-of}

-- ---- what is given to some nodes

-- a node of some that is given a record of this word
pub record IsGivenAt (given : ℕ → Option Loaded) (all : List ℕ) (w : ℕ) : Type 0 where
  pub node : ℕ
  pub k : Loaded
  pub among : is_among all node ≡ true
  pub is : given node ≡ Some k
  pub contents : k.contents ≡ w

pub given-at : (given : ℕ → Option Loaded) (all xs : List ℕ) (w : ℕ) → ((x : ℕ) → is_among xs x ≡ true → is_among all x ≡ true) → is_kept_record (filter_map given xs) w ≡ true → IsGivenAt given all w
given-at given all [] w sub e = cc
given-at given all (x ∷ xs) w sub e = go (given x) refl (given-at given all xs w (λ y h. sub y (or_right (x == y) (is_among xs y) h))) e where
  go : (o : Option Loaded) → given x ≡ o → (is_kept_record (filter_map given xs) w ≡ true → IsGivenAt given all w) → is_kept_record (cons_option (given x) (filter_map given xs)) w ≡ true → IsGivenAt given all w
  go None is more h = more (rw is at h)
  go (Some l) is more h =
      let h1 : (l.contents == w || is_kept_record (filter_map given xs) w) ≡ true = rw is at h in
      ⊎_elim
      (λ (here : (l.contents == w) ≡ true). record { node = x; k = l; among = sub x (or_left (x == x) (is_among xs x) (eq-eqb x x refl)); is = is; contents = eqb-true l.contents w here })
      (λ (other : (l.contents == w) ≡ false). more (rw other at h1))
      (cases_Bool (l.contents == w))

-- ---- what is kept

checks-front : (node : ℕ) (list : ListView) → (put_front node list).checks ≡ list.checks
unfolding put_front
checks-front node list = checks_stay (putting_in_front node list.head) list

-- the redo leaves which nodes have a right or absent checksum
pub checks-completed : (list : ListView) → (completed_list list).checks ≡ list.checks
unfolding completed_list operated
checks-completed list = go (counts list) (list.operation == insert) (list.operation == remove) where
  go : (c i r : Bool) → (if c then (if i then put_front list.transaction list else (if r then take_out list.transaction list else put_front list.transaction (take_out list.transaction list))) else list).checks ≡ list.checks
  go false i r = refl
  go true true r = checks-front list.transaction list
  go true false true = checks_out list.transaction list
  go true false false = checks-front list.transaction (take_out list.transaction list) ∙ checks_out list.transaction list

module _ (image : Image) (ready : IsWritable image) where
  abbrev pub walk-of : List ℕ
  walk-of = walk (completed_list (list_of image))

  abbrev pub given-of : ℕ → Option Loaded
  given-of = kept_as (store_of image) held_rule walk-of

  pub loads-of : (node : ℕ) (k : Loaded) → is_among walk-of node ≡ true → given-of node ≡ Some k → load (store_of image) held_rule node ≡ Ok k
  loads-of node k among is =
      (kept-shown (store_of image) held_rule walk-of (walk-once (completed_list (list_of image)))).loads node k
      (is_among-filter (is_kept (store_of image) held_rule walk-of) walk-of node ∙ rw (is, among) refl) is

  kept-node-checks : (node : ℕ) → is_among (map (λ k. k.node) (kept image)) node ≡ true → IsStandingRecord rankings image node
  unfolding kept list_of checks_at
  kept-node-checks node there =
      let among : is_among (kept_nodes (store_of image) held_rule walk-of) node ≡ true = ap (λ (ns : List ℕ). is_among ns node) (sym (kept-nodes (store_of image) held_rule walk-of (walk-once (completed_list (list_of image))))) ∙ there in
      let walks : is_among walk-of node ≡ true = (and_parts _ _ (sym (is_among-filter (is_kept (store_of image) held_rule walk-of) walk-of node) ∙ among)).1 in
      let good : (list_of image).checks node ≡ true = ap (λ (checks : ℕ → Bool). checks node) (sym (checks-completed (list_of image))) ∙ (walks-distinct (completed_list (list_of image))).1 node walks in
      let stands = standing-parts image rankings node (and_parts _ _ good).0 in
      record { stands = stands.0; kind_is = stands.1; checks = nodes.record_checks image node ready.bytes stands.1 good }

  kept-record-checks : (w : ℕ) → is_kept_record (kept image) w ≡ true → IsStandingRecord blocks_256 image w
  unfolding kept kept_among
  kept-record-checks w there =
      let r : IsGivenAt given-of walk-of w = given-at given-of walk-of walk-of w (λ x h. h) there in
      let rc : IsRecordOf (store_of image) r.k = record-of (store_of image) r.node r.k (loads-of r.node r.k r.among r.is) in
      let stands = standing-parts image blocks_256 r.k.contents (core-standing image r.k.contents rc.fields rc.here) in
      subst (IsStandingRecord blocks_256 image) r.contents
      (record { stands = stands.0; kind_is = stands.1; checks = words.record_checks image r.k.contents ready.bytes stands.1 (ap (λ (c : RecordFields). c.checks) (words.shown-fields image r.k.contents rc.fields rc.here) ∙ rc.good) })

pub kept-nodes-check : KeptNodesCheck
kept-nodes-check image ready node there = kept-node-checks image ready node there

pub kept-records-check : KeptRecordsCheck
kept-records-check image ready w there = kept-record-checks image ready w there
