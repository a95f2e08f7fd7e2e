-- The laws on the items of a state, at a state of one object and of two: what is kept, a Create, an Open, and a removal.
use Rattle.std.proofs.Common.{◌≡◌, ⊎_elim, ℕ, zero, suc, ◌<◌, List, [], ◌∷◌, refl, ap, sym, ◌∙◌, subst, arith, Bool, true, false, Option, Some, None, Ok}
use Rattle.std.specs.Prelude.{if◌then◌else◌, ◌==◌, ◌||◌, not, codes, map, take}
use Rattle.std.specs.Option.{option_map}
use Rattle.std.specs.Str.{bytes_eq}
use Rattle.std.proofs.lemmas.Bool.{cases_Bool, false_from_ne_true, not-true}
use Rattle.std.proofs.lemmas.Bool.Decides.{nat_tests}
use Rattle.blk_model.specs.Items.{Item, main, part, main_row, plain, key_of, IsKey}
use Rattle.blk_model.specs.State.{Object, State, IsValidState, object_at}
use Rattle.blk_model.specs.Holding.{rows, row_of, owner_object, settled_row, rest}
use Rattle.blk_model.specs.Effects.{created, effect}
use Rattle.blk_model.specs.Room.{charge, pinned_of, room}
use Rattle.blk_model.specs.Request.{to_open, to_create}
use Rattle.blk_model.specs.Refusals.{refusals, refused, evicted, room_for}
use Rattle.blk_model.specs.Step.{step}
use Rattle.blk_model.specs.Stops.{StopOutcome, is_live_and_settled}
use Rattle.blk_model.proofs.Created.{state_created}
use Rattle.spec_format.specs.Hash.{of_one, of_bytes, mixed, hash}
use Rattle.spec_format.specs.Address.{kind_of, block_count, file_selector, first_block, external_number}
use Rattle.spec_format.specs.Storage.{entry_blocks}
use Rattle.spec_format.specs.BlockFiles.{is_among}
use Rattle.spec_format.specs.Claims.{Claim, BlockOf, ExternalOf, claims_of, has_claim, repeats}
use Rattle.spec_folder.specs.View.{View, StoreView}
use Rattle.spec_folder.specs.ListView.{put, after_writes}
use Rattle.spec_folder.specs.Completion.{insert}
use Rattle.spec_folder.specs.ListPlans.{writes_of, touch_writes}
use Rattle.spec_folder.specs.Chains.{IsChain}
use Rattle.spec_folder.specs.Entries.{IsPlain, is_key_length, stored_stream, stored_streams, role_of}
use Rattle.spec_folder.specs.Entries as entries
use Rattle.spec_folder.specs.Loads.{unchained_rule, held_rule, listed_rule, Loaded, load, load_key, load_record, record_claims, all_claims}
use Rattle.spec_folder.specs.Audit.{kept_among, dropped_among, kept_by, dropped_by}
use Rattle.spec_folder.specs.Walk.{walk}
use Rattle.spec_folder.specs.Sound.{ChainsEnd}
use Rattle.spec_folder.specs.Found as volume
use Rattle.spec_folder.specs.Shown.{IsShown}
use Rattle.spec_folder.specs.Layout.{Layout, is_listed, IsListedRecord, IsLayoutOf, HoldsExcept, Represents}
use Rattle.spec_folder.specs.Removal.{without_items, placed_less, ListsLess, HasLess}
use Rattle.spec_folder.specs.Given.{given_by, GoesWith, IsTest}
use Rattle.spec_folder.specs.Footprint.{IsClear, SameBut}
use Rattle.spec_folder.specs.Creation.{with_new, linked_front}
use Rattle.law_folder.specs.CommandLaws.{IsWrittenApart, touched_view}
use Rattle.law_folder.proofs.examples.OneEntry.{object, state, node, contents, loaded, layout, fields, list, store, view, choice, at-node, claims, represented}
use Rattle.law_folder.proofs.examples.Premises.{bytes-small, state_is_valid}
use Rattle.law_folder.proofs.examples.ExampleChanges.{not-clear}
use Rattle.law_folder.proofs.walks.Shown.{kept-given, dropped-none}
use Rattle.law_folder.proofs.states.Laid.{laid-shown, found-picked}
use Rattle.law_folder.proofs.states.Central.{settled-is_test, walk-order, rows-kept, none-dropped, chain-end, found-rest}
use Rattle.law_folder.proofs.commands.Opening.{open-moments, open-ends}
use Rattle.law_folder.proofs.states.Replacing.{linked-facts}
use Rattle.law_folder.proofs.commands.Removing.{removed-rows}
use Rattle.law_folder.proofs.commands.Unlinking.{lies-less}
use Rattle.law_folder.proofs.commands.Created.{creates-moments, creates-end, creates-rest, create-stops}

-- What is kept of the one entry.

-- a node passes where its dirty flag is 0
abbrev pub is_clean : Loaded → Bool
is_clean l = l.dirty == 0

-- the test on dirty flags agrees with the rule for what recovery keeps
pub goes-with : GoesWith (layout 0) (main (codes "a") ∷ []) held_rule is_clean
goes-with = record {
  clean = λ item l h at passes. passes;
  main_out = λ key l h at fails. fails;
  part_in = λ key n l parent h at above passes. absurd (let z : false ≡ true = h in cc);
  part_out = λ key n l parent h at above fails main_in. absurd (let z : false ≡ true = h in cc);
}

-- the entry is shown to the walk of its node
pub entry-is_shown : IsShown (store contents 0) held_rule (node ∷ []) (given_by is_clean (layout 0))
entry-is_shown = laid-shown (store contents 0) (state true) (layout 0) (represented 0).holds held_rule (main (codes "a") ∷ []) is_clean refl (λ item h. h) (refl, tt) goes-with

-- the one entry is kept
pub entry-is_kept : kept_among (store contents 0) held_rule (node ∷ []) ≡ loaded 0 ∷ []
entry-is_kept = kept-given (store contents 0) held_rule (node ∷ []) (given_by is_clean (layout 0)) entry-is_shown

-- the one entry isn't dropped
pub entry-is_not_dropped : dropped_among (store contents 0) held_rule (node ∷ []) ≡ []
entry-is_not_dropped = dropped-none (store contents 0) held_rule (node ∷ []) (given_by is_clean (layout 0)) entry-is_shown (λ w among none. go w among none) where
  go : (w : ℕ) → ((node == w) || false) ≡ true → given_by is_clean (layout 0) w ≡ None → ⊥
  go w among none = let is : w ≡ node = grind (arith, nat_tests) in let c : ◌≡◌ {A = Option Loaded} (Some (loaded 0)) None = ap (given_by is_clean (layout 0)) (sym is) ∙ none in cc

-- the one object passes
entry-is_test : IsTest (state true) (layout 0) (main (codes "a") ∷ []) (λ number. true)
entry-is_test = record {
  owners = λ key n h. absurd (let z : false ≡ true = h in cc);
  main_test = λ key l number h at own. let s : loaded 0 ≡ l = cc in ap is_clean (sym s);
}

-- the row of the one object is that of the object that passes
pub entry-is_picked : map volume.row_of_loaded (kept_among (store contents 0) held_rule (node ∷ [])) ≡ main_row (codes "a") plain (codes "zz", [], []) ∷ []
unfolding row_of
entry-is_picked =
    found-picked (state true) (layout 0) (represented 0).holds.lies.laid (main (codes "a") ∷ []) (λ item h. h) (λ number. true) entry-is_test (store contents 0) (represented 0).holds (refl, tt)
    (λ key n h. absurd (let z : false ≡ true = h in cc))

-- A second entry, `b`, is written beside the first.

-- the node of the second
abbrev pub second_node : ℕ
second_node = 0x90000001

-- the record of the second entry
abbrev pub second_contents : ℕ
second_contents = 0xA0010002

-- a dirty record of the key `b` with no streams
abbrev pub second : Loaded
second = record { node = second_node; contents = second_contents; dirty = 5; key = codes "b"; role = IsPlain; streams = [] ∷ [] ∷ [] ∷ []; others = 0 ∷ 0 ∷ 0 ∷ 0 ∷ 0 ∷ [] }

-- the view once it is written
abbrev pub with_second : View
with_second = record {
  list = record list { checks = λ w. (w == node) || (w == second_node) };
  store = record (store contents 0) {
    node_fields = λ w. if w == second_node then Some (record { contents = second_contents; dirty = 5 }) else (store contents 0).node_fields w;
    entry = λ w. if w == second_contents then Some (record fields { hash = 0x70C1A0E1; rankings_node = second_node; data_size = 0 ∷ 0 ∷ 0 ∷ 0 ∷ []; data_addr = 0 ∷ 0 ∷ 0 ∷ 0 ∷ [] }) else (store contents 0).entry w;
    key_place = λ w n. if w == second_contents then codes "b" else codes "a";
  };
}

second-loads : load with_second.store (unchained_rule 0) second_node ≡ Ok second
unfolding load load_record load_key is_key_length entries.stored_key stored_stream stored_streams role_of block_count entry_blocks hash mixed of_bytes of_one
second-loads = refl

-- the used blocks of the second entry
second-claims : all_claims second ≡ BlockOf 0 1 ∷ BlockOf 1 2 ∷ []
unfolding all_claims record_claims claims_of kind_of block_count file_selector first_block external_number
second-claims = refl

second-once : repeats (all_claims second) ≡ false
unfolding repeats has_claim all_claims record_claims claims_of kind_of block_count file_selector first_block external_number
second-once = refl

named-blocks : (has_claim (claims_of second_node) (BlockOf 0 1) ≡ true) × (has_claim (claims_of second_contents) (BlockOf 1 2) ≡ true) × (has_claim (all_claims second) (BlockOf 0 1) ≡ true) × (has_claim (all_claims second) (BlockOf 1 2) ≡ true)
unfolding has_claim all_claims record_claims claims_of kind_of block_count file_selector first_block external_number
named-blocks = (refl, refl, refl, refl)

-- no block is of both
apart : (claim : Claim) → has_claim (BlockOf 0 0 ∷ BlockOf 1 0 ∷ BlockOf 1 1 ∷ []) claim ≡ true → has_claim (BlockOf 0 1 ∷ BlockOf 1 2 ∷ []) claim ≡ true → ⊥
unfolding has_claim
apart (BlockOf f b) one two = grind (arith, nat_tests)
apart (ExternalOf n) one two = let z : false ≡ true = one in cc

not_both : (claim : Claim) → has_claim (all_claims (loaded 0)) claim ≡ true → has_claim (all_claims second) claim ≡ true → ⊥
not_both claim one two = apart claim (subst (λ (cs : List Claim). has_claim cs claim ≡ true) claims one) (subst (λ (cs : List Claim). has_claim cs claim ≡ true) second-claims two)

second-same : SameBut (has_claim (all_claims second)) (view 0) with_second
second-same = record {
  links = record { head = refl; tail = refl; transaction = refl; checks = λ w clear. let n : (w == second_node) ≡ false = not-node w clear in rw n (or-false (w == node)); next = λ w clear. refl; prev = λ w clear. refl };
  store = record {
    node_fields = λ w clear. let n : (w == second_node) ≡ false = not-node w clear in rw n refl;
    entry = λ w clear. let n : (w == second_contents) ≡ false = not-contents w clear in rw n refl;
    chain_next = λ w clear. refl;
    key_place = λ w fields clear is long short. let n : (w == second_contents) ≡ false = not-contents w clear in rw n refl;
    stored = λ size w clear. refl;
  };
  table = λ b. refl;
} where
  not-node : (w : ℕ) → IsClear (has_claim (all_claims second)) w → (w == second_node) ≡ false
  not-node w clear = not-clear (has_claim (all_claims second)) w second_node (BlockOf 0 1) named-blocks.0 named-blocks.2 clear

  not-contents : (w : ℕ) → IsClear (has_claim (all_claims second)) w → (w == second_contents) ≡ false
  not-contents w clear = not-clear (has_claim (all_claims second)) w second_contents (BlockOf 1 2) named-blocks.1 named-blocks.3 clear

  or-false : (b : Bool) → b ≡ (b || false)
  or-false true = refl
  or-false false = refl

-- the record and the node of the second entry are written outside what any node owns
pub second-is_written : IsWrittenApart (view 0) with_second (state true) (layout 0) (codes "b") second
unfolding hash mixed of_bytes of_one
second-is_written = record {
  represents = represented 0;
  valid = state_is_valid true;
  touched = has_claim (all_claims second);
  same = second-same;
  free = λ claim w owned. false_from_ne_true (has_claim (all_claims second) claim) (not_both claim (choice (has_claim (all_claims (loaded 0)) claim) node w owned).0);
  entry = record {
    loads = second-loads;
    key_is = refl;
    role = refl;
    streams = refl;
    dirty = refl;
    nobody = refl;
    free = λ claim h. let n : has_claim (all_claims (loaded 0)) claim ≡ false = false_from_ne_true (has_claim (all_claims (loaded 0)) claim) (λ one. not_both claim one h) in rw n refl;
    single = second-once;
  };
  prefix = record { follows = refl; fresh = refl };
  good = refl;
  few = omega arith;
  missing = refl;
}

-- while its node is inserted, the first entry alone is kept
pub second-is_created_at : (count : ℕ) → map volume.row_of_loaded (kept_by held_rule (volume.completed (record with_second { list = after_writes (take count (writes_of insert second_node with_second.list)) with_second.list }))) ≡ rest (state true)
second-is_created_at = creates-moments (view 0) with_second (state true) (layout 0) (codes "b") second second-is_written

-- the state, the view and the layout with both
abbrev pub both : State
both = created 1 (codes "b") (state true)

-- the layout of both entries
abbrev pub both_layout : Layout
both_layout = with_new (layout 0) (codes "b") second

-- the view of both
abbrev pub both_view : View
both_view = record { list = after_writes (writes_of insert second_node with_second.list) with_second.list; store = linked_front with_second.store second }

-- in the end both are represented
pub both-are_represented : Represents both_view both both_layout
both-are_represented = creates-end (view 0) with_second (state true) (layout 0) (codes "b") second second-is_written 1

-- the durable contents with both entries are those with the first
pub both-leave_the_rest : rest both ≡ rest (state true)
both-leave_the_rest = creates-rest (view 0) with_second (state true) (layout 0) (codes "b") second second-is_written 1

-- a Create of `b` is not refused and evicts nothing, so the old durable contents may be left by a crash in it
pub create-is_not_refused : (refused 7 (to_create 1 (codes "b")) (state true) ≡ None) × (evicted 7 (to_create 1 (codes "b")) (state true) ≡ [])
unfolding refusals evicted room_for effect created room charge pinned_of
create-is_not_refused = (refl, refl)

-- the old durable contents are a crash outcome of the Create
pub create-may_be_stopped : StopOutcome (state true) 7 (to_create 1 (codes "b")) (step (state true) 7 (to_create 1 (codes "b"))).state (rest (state true))
create-may_be_stopped = create-stops (state true) 1 (codes "b") 7 create-is_not_refused.0 create-is_not_refused.1

-- the state of both is valid
key-is_good : IsKey (codes "b")
key-is_good = record { some = omega arith; short = omega arith; bytes = bytes-small (codes "b") (omega arith, tt) }

-- the state of both entries is one that a cache may have
pub both-are_valid : IsValidState both
both-are_valid = state_created (state true) (state_is_valid true) 1 (codes "b") key-is_good (omega arith) refl refl

-- An Open of `a`, which is after `b`.

pub open-is_not_refused : refused 7 (to_open 2 (codes "a")) both ≡ None
unfolding refusals created
open-is_not_refused = refl

-- at each write of the access of `a` what is kept is a crash outcome of the Open
pub open-may_be_stopped : (count : ℕ) → StopOutcome both 7 (to_open 2 (codes "a")) (step both 7 (to_open 2 (codes "a"))).state (map volume.row_of_loaded (kept_by held_rule (volume.completed (touched_view both_view node count))))
open-may_be_stopped = open-moments both_view both both_layout both-are_represented both-are_valid 7 2 (codes "a") open-is_not_refused

-- after the access `a` is in front
pub open-is_represented : Represents (record both_view { list = after_writes (touch_writes node both_view.list) both_view.list }) (step both 7 (to_open 2 (codes "a"))).state both_layout
open-is_represented = open-ends both_view both both_layout both-are_represented both-are_valid 7 2 (codes "a") open-is_not_refused

-- The entry `b` is taken out: its node is out of the list, and of the layout.

abbrev is_not_second : Item → Bool
is_not_second item = not (bytes_eq (key_of item) (codes "b"))

abbrev without_node : StoreView
without_node = record both_view.store { node_fields = (store contents 0).node_fields }

first-loads : load without_node (unchained_rule 0) node ≡ Ok (loaded 0)
unfolding load load_record load_key is_key_length entries.stored_key stored_stream stored_streams role_of block_count entry_blocks hash mixed of_bytes of_one
first-loads = refl

put-elsewhere : {A : Type 0} (values : ℕ → A) (place : ℕ) (value : A) (other : ℕ) → (other == place) ≡ false → put values place value other ≡ values other
unfolding put
put-elsewhere values place value other e = rw e refl

-- what lies at another node than the second is the first entry
first-at : (w : ℕ) (l : Loaded) → both_layout.at w ≡ Some l → (w == second_node) ≡ false → (w ≡ node) × (loaded 0 ≡ l)
first-at w l is apart = at-node 0 w l (sym (put-elsewhere (layout 0).at second_node (Some second) w apart) ∙ is)

removal-holds : HoldsExcept (λ w. w == second_node) without_node both both_layout
unfolding put
removal-holds =
    let r : Represents both_view both both_layout = both-are_represented in
    record {
      no_record = refl;
      each = λ w l is out. let p = first-at w l is out in subst (λ (x : ℕ). load without_node (unchained_rule (both_layout.state x)) x ≡ Ok l) (sym p.0) (first-loads ∙ ap Ok p.1);
      chains = λ b below. let c : IsChain both_view.store b (both_layout.chains b) = r.holds.shows.chains b below in
          record { linked = linked-facts both_view.store without_node b (both_view.store.table b) (both_layout.chains b) (λ w h. (refl, refl)) c.linked; once = c.once };
      laid = r.holds.lies.laid;
      normal = r.holds.lies.normal;
      chained = λ w l there is out. r.holds.lies.chained w l there is;
      own = r.holds.lies.own;
      single = r.holds.lies.single;
    }

not-there : (item : Item) → is_not_second item ≡ true → (both_layout.place item == second_node) ≡ false
not-there (main key) stays = rw (not-true (bytes_eq key (codes "b")) stays) refl
not-there (part key n) stays = refl

-- what is kept is the row of `a`
pub first-stays : map volume.row_of_loaded (kept_among without_node held_rule (node ∷ [])) ≡ main_row (codes "a") plain (codes "zz", [], []) ∷ []
unfolding row_of created put
first-stays =
    removed-rows (λ w. w == second_node) without_node both both_layout removal-holds both-are_valid (λ number. is_live_and_settled (object_at both number)) (settled-is_test both both_layout both-are_represented.holds.lies.laid both-are_valid)
    is_not_second (refl, tt) (λ item h stays. not-there item stays)

-- the objects without `b`, whose slot is empty now
abbrev without_second : List (Option Object)
without_second = Some (object true) ∷ None ∷ []

lists-less : ListsLess both without_second is_not_second
unfolding row_of created
lists-less = record { rows = rows; settled = λ key stays. ap (option_map (λ (z : Object). z.settled)) (objects-of key stays); closed = λ key n stays. stays; doomed_same = doomed-same } where
  rows : (item : Item) → is_not_second item ≡ true → is_listed both item ≡ true → row_of (without_items both without_second is_not_second) item ≡ row_of both item
  rows (main key) stays h = let n : bytes_eq key (codes "b") ≡ false = not-true (bytes_eq key (codes "b")) stays in
      ⊎_elim (λ (e : bytes_eq key (codes "a") ≡ true). rw e refl) (λ (e : bytes_eq key (codes "a") ≡ false). rw (e, n) refl) (cases_Bool (bytes_eq key (codes "a")))
  rows (part key n) stays h = absurd (let z : false ≡ true = h in cc)

  objects-of : (key : List ℕ) → is_not_second (main key) ≡ true → owner_object (without_items both without_second is_not_second) (main key) ≡ owner_object both (main key)
  objects-of key stays = let n : bytes_eq key (codes "b") ≡ false = not-true (bytes_eq key (codes "b")) stays in
      ⊎_elim (λ (e : bytes_eq key (codes "a") ≡ true). rw e refl) (λ (e : bytes_eq key (codes "a") ≡ false). rw (e, n) refl) (cases_Bool (bytes_eq key (codes "a")))

  doomed-same : (number : ℕ) (o : Object) → object_at (without_items both without_second is_not_second) number ≡ Some o → o.live ≡ false → object_at both number ≡ Some o
  doomed-same zero o is dead = is
  doomed-same (suc zero) o is dead = absurd (cc)
  doomed-same (suc (suc number)) o is dead = absurd (cc)

-- the first entry alone lies where it lay
has-less : HasLess both without_second is_not_second both_layout (layout 0).at (layout 0).chains (layout 0).owner
unfolding created put
has-less = record {
  stays = λ item l stays h is. stays-there item l stays is;
  others = λ w l out is. sym (put-elsewhere (layout 0).at second_node (Some second) w (not-among w out)) ∙ is;
  was = λ w l is. let p = at-node 0 w l is in rw p.0 (ap (λ (x : Loaded). Some x) p.1);
  chain_stays = λ w l there is h. let p = at-node 0 w l is in (represented 0).holds.lies.chained w l (among w p.0) is;
  chain_was = λ b c below h. was b c below h;
  own = λ w l c is h owned. (represented 0).holds.lies.own w l c is h;
} where
  stays-there : (item : Item) (l : Loaded) → is_not_second item ≡ true → both_layout.at (both_layout.place item) ≡ Some l → (layout 0).at (both_layout.place item) ≡ Some l
  stays-there item l stays is = sym (put-elsewhere (layout 0).at second_node (Some second) (both_layout.place item) (not-there item stays)) ∙ is

  not-among : (w : ℕ) → is_among (second_node ∷ node ∷ []) w ≡ false → (w == second_node) ≡ false
  not-among w out = grind (arith, nat_tests)

  among : (w : ℕ) → w ≡ node → is_among (node ∷ []) w ≡ true
  among w e = rw e refl

  was : (b c : ℕ) → b < 65536 → is_among ((layout 0).chains b) c ≡ true → IsListedRecord (without_items both without_second is_not_second) (placed_less both_layout (layout 0).at (layout 0).chains (layout 0).owner) c
  was b c below h = let i : IsListedRecord (state true) (layout 0) c = (represented 0).holds.lies.unchained b c below h in
      record { node = i.node; loaded = i.loaded; listed = i.listed; here = i.here; record_is = i.record_is }

-- the layout without `b` is laid out for the state without it
pub less-is_laid : IsLayoutOf (without_items both without_second is_not_second) (placed_less both_layout (layout 0).at (layout 0).chains (layout 0).owner)
less-is_laid = lies-less both without_second is_not_second both_layout (layout 0).at (layout 0).chains (layout 0).owner both-are_represented.holds.lies lists-less has-less

-- ---- what represents the state of both

-- the walk is both nodes
pub both-are_walked : walk both_view.list ≡ second_node ∷ node ∷ []
unfolding created
both-are_walked = walk-order both_view both both_layout both-are_represented

-- what is listed are both rows
pub both-are_listed : map volume.row_of_loaded (kept_by listed_rule both_view) ≡ main_row (codes "b") plain ([], [], []) ∷ main_row (codes "a") plain (codes "zz", [], []) ∷ []
unfolding created rows row_of
both-are_listed = rows-kept both_view both both_layout both-are_represented both-are_valid

-- nothing is dropped where dirty nodes are kept too
pub both-are_not_dropped : dropped_by listed_rule both_view ≡ []
both-are_not_dropped = none-dropped both_view both both_layout both-are_represented both-are_valid

-- each chain ends
pub both-chains_end : ChainsEnd both_view.store
both-chains_end = chain-end both_view.store both both_layout both-are_represented.holds both-are_valid

-- recovery keeps `a` alone, which is clean
pub both-keep_the_first : map volume.row_of_loaded (kept_by held_rule (volume.completed both_view)) ≡ main_row (codes "a") plain (codes "zz", [], []) ∷ []
unfolding created rest settled_row
both-keep_the_first = found-rest both_view both both_layout both-are_represented both-are_valid
