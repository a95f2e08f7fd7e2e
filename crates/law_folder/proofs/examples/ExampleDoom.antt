-- The laws on a doom, word by word: the entry `a`, which a handle names, is after `kmyb` in the list and in their chain; it is taken out of both, and its
-- record gets state 2.
use Rattle.std.proofs.Common.{◌≡◌, ⊎_elim, inr, ℕ, List, [], ◌∷◌, map, refl, ap, sym, ◌∙◌, subst, arith, Bool, true, false, Option, Some, Ok}
use Rattle.std.specs.Prelude.{if◌then◌else◌, nat_lt, take, ◌==◌, ◌||◌, codes}
use Rattle.std.proofs.lemmas.Bool.{cases_Bool, eqb-true, eq-eqb, false_from_ne_true}
use Rattle.std.proofs.lemmas.Bool.Decides.{nat_tests}
use Rattle.blk_model.specs.Items.{Item, main, main_row, plain, same_item, IsKey}
use Rattle.blk_model.specs.State.{State, IsValidState}
use Rattle.blk_model.specs.Holding.{settled_row, rest}
use Rattle.blk_model.specs.Effects.{created, closed, doomed, new_object}
use Rattle.blk_model.proofs.Same.{one_item}
use Rattle.blk_model.proofs.Created.{state_created}
use Rattle.blk_model.proofs.Doomed.{state_closed}
use Rattle.spec_format.specs.Hash.{of_four, of_bytes, mixed, hash}
use Rattle.spec_format.specs.Address.{kind_of, block_count, file_selector, first_block, external_number}
use Rattle.spec_format.specs.Storage.{entry_blocks}
use Rattle.spec_format.specs.Records as records
use Rattle.spec_format.specs.BlockFiles.{is_among}
use Rattle.spec_format.specs.Claims.{Claim, BlockOf, ExternalOf, claims_of, has_claim, repeats}
use Rattle.spec_folder.specs.ListView.{put, after_writes, IsAtRest}
use Rattle.spec_folder.specs.Completion.{insert, remove}
use Rattle.spec_folder.specs.ListPlans.{writes_of}
use Rattle.spec_folder.specs.View.{View, StoreView}
use Rattle.spec_folder.specs.Chains.{bucket_of_hash, IsChain}
use Rattle.spec_folder.specs.Entries.{IsPlain, is_key_length, stored_key, stored_stream, stored_streams, role_of}
use Rattle.spec_folder.specs.Loads.{unchained_rule, held_rule, Loaded, load, load_key, load_record, record_claims, all_claims}
use Rattle.spec_folder.specs.Audit.{kept_among, kept_by}
use Rattle.spec_folder.specs.Found as volume
use Rattle.spec_folder.specs.Layout.{Layout, is_listed, IsListedRecord, IsLayoutOf, HoldsExcept, Represents}
use Rattle.spec_folder.specs.Footprint.{IsClear, SameStore, SameBut, OnlyLinksChange, IsOnlyRecord}
use Rattle.spec_folder.specs.Creation.{with_new, linked_front}
use Rattle.spec_folder.specs.Removal.{without_items, placed_less, HasChains, is_of_another, placed_doomed}
use Rattle.law_folder.specs.CommandLaws.{IsWrittenApart, IsDoomedNow, marked, dirtied}
use Rattle.law_folder.proofs.examples.OneEntry.{object, state, node, contents, bucket, loaded, layout, fields, list, store, view, choice, claims, represented, once-claimed, among-one}
use Rattle.law_folder.proofs.examples.Premises.{bytes-small, state_is_valid}
use Rattle.law_folder.proofs.lists.AtRest.{removals-end}
use Rattle.law_folder.proofs.commands.Created.{creates-end}
use Rattle.law_folder.proofs.states.DirtyWords.{dirty-settles}
use Rattle.law_folder.proofs.commands.DoomedChanges.{handles-not_shown}
use Rattle.law_folder.proofs.commands.DoomedObjects.{listed-rest}
use Rattle.law_folder.proofs.commands.Dooming.{dooms-keep, doomed-is-laid, doomed-is-represented}
use Rattle.law_folder.proofs.commands.DoomWrites.{dooms-moments}
use Rattle.law_folder.proofs.states.OthersHold.{represented-but, more-left_out, others-outside, others-unlinked, chained-only, records-outside, records-unlinked, another-state}
use Rattle.law_folder.proofs.examples.ExampleChanges.{not-clear}

-- ---- `kmyb` is made, and its handle closed

abbrev key : List ℕ
key = codes "kmyb"

abbrev second_node : ℕ
second_node = 0x90000001

abbrev second_contents : ℕ
second_contents = 0xA0010002

-- a record of the key with no streams and this dirty flag
abbrev second : ℕ → Loaded
second dirty = record { node = second_node; contents = second_contents; dirty = dirty; key = key; role = IsPlain; streams = [] ∷ [] ∷ [] ∷ []; others = 0 ∷ 0 ∷ 0 ∷ 0 ∷ 0 ∷ [] }

-- the view once it is written, with the record of `a` as its next
abbrev with_second : View
with_second = record {
  list = record list { checks = λ w. (w == node) || (w == second_node) };
  store = record (store contents 0) {
    node_fields = λ w. if w == second_node then Some (record { contents = second_contents; dirty = 5 }) else (store contents 0).node_fields w;
    chain_next = λ w. if w == second_contents then contents else 0;
    entry = λ w. if w == second_contents then Some (record fields { hash = 0x82BDA782; rankings_node = second_node; key_len = 4; data_size = 0 ∷ 0 ∷ 0 ∷ 0 ∷ []; data_addr = 0 ∷ 0 ∷ 0 ∷ 0 ∷ [] }) else (store contents 0).entry w;
    key_place = λ w n. if w == second_contents then key else codes "a";
  };
}

second-loads : load with_second.store (unchained_rule 0) second_node ≡ Ok (second 5)
unfolding load load_record load_key is_key_length stored_key stored_stream stored_streams role_of block_count entry_blocks hash mixed of_bytes of_four
second-loads = refl

second-claims : all_claims (second 5) ≡ BlockOf 0 1 ∷ BlockOf 1 2 ∷ []
unfolding all_claims record_claims claims_of kind_of block_count file_selector first_block external_number
second-claims = refl

second-once : repeats (all_claims (second 5)) ≡ false
unfolding repeats has_claim all_claims record_claims claims_of kind_of block_count file_selector first_block external_number
second-once = refl

named-blocks : (has_claim (claims_of second_node) (BlockOf 0 1) ≡ true) × (has_claim (claims_of second_contents) (BlockOf 1 2) ≡ true) × (has_claim (all_claims (second 5)) (BlockOf 0 1) ≡ true) × (has_claim (all_claims (second 5)) (BlockOf 1 2) ≡ true)
unfolding has_claim all_claims record_claims claims_of kind_of block_count file_selector first_block external_number
named-blocks = (refl, refl, refl, refl)

-- no block is of both
apart : (claim : Claim) → has_claim (BlockOf 0 0 ∷ BlockOf 1 0 ∷ BlockOf 1 1 ∷ []) claim ≡ true → has_claim (BlockOf 0 1 ∷ BlockOf 1 2 ∷ []) claim ≡ true → ⊥
unfolding has_claim
apart (BlockOf f b) one two = grind (arith, nat_tests)
apart (ExternalOf n) one two = let z : false ≡ true = one in cc

not_both : (claim : Claim) → has_claim (all_claims (loaded 0)) claim ≡ true → has_claim (all_claims (second 5)) claim ≡ true → ⊥
not_both claim one two = apart claim (subst (λ (cs : List Claim). has_claim cs claim ≡ true) claims one) (subst (λ (cs : List Claim). has_claim cs claim ≡ true) second-claims two)

second-same : SameBut (has_claim (all_claims (second 5))) (view 0) with_second
second-same = record {
  links = record { head = refl; tail = refl; transaction = refl; checks = λ w clear. let n : (w == second_node) ≡ false = not-node w clear in rw n (or-false (w == node)); next = λ w clear. refl; prev = λ w clear. refl };
  store = record {
    node_fields = λ w clear. let n : (w == second_node) ≡ false = not-node w clear in rw n refl;
    entry = λ w clear. let n : (w == second_contents) ≡ false = not-contents w clear in rw n refl;
    chain_next = λ w clear. let n : (w == second_contents) ≡ false = not-contents w clear in rw n refl;
    key_place = λ w fields clear is long short. let n : (w == second_contents) ≡ false = not-contents w clear in rw n refl;
    stored = λ size w clear. refl;
  };
  table = λ b. refl;
} where
  not-node : (w : ℕ) → IsClear (has_claim (all_claims (second 5))) w → (w == second_node) ≡ false
  not-node w clear = not-clear (has_claim (all_claims (second 5))) w second_node (BlockOf 0 1) named-blocks.0 named-blocks.2 clear

  not-contents : (w : ℕ) → IsClear (has_claim (all_claims (second 5))) w → (w == second_contents) ≡ false
  not-contents w clear = not-clear (has_claim (all_claims (second 5))) w second_contents (BlockOf 1 2) named-blocks.1 named-blocks.3 clear

  or-false : (b : Bool) → b ≡ (b || false)
  or-false true = refl
  or-false false = refl

second-is_written : IsWrittenApart (view 0) with_second (state true) (layout 0) key (second 5)
unfolding hash mixed of_bytes of_four
second-is_written = record {
  represents = represented 0;
  valid = state_is_valid true;
  touched = has_claim (all_claims (second 5));
  same = second-same;
  free = λ claim w owned. false_from_ne_true (has_claim (all_claims (second 5)) claim) (not_both claim (choice (has_claim (all_claims (loaded 0)) claim) node w owned).0);
  entry = record {
    loads = second-loads;
    key_is = refl;
    role = refl;
    streams = refl;
    dirty = refl;
    nobody = refl;
    free = λ claim h. let n : has_claim (all_claims (loaded 0)) claim ≡ false = false_from_ne_true (has_claim (all_claims (loaded 0)) claim) (λ one. not_both claim one h) in rw n refl;
    single = second-once;
  };
  prefix = record { follows = refl; fresh = refl };
  good = refl;
  few = omega arith;
  missing = refl;
}

abbrev made_view : View
made_view = record { list = after_writes (writes_of insert second_node with_second.list) with_second.list; store = linked_front with_second.store (second 5) }

abbrev made_layout : Layout
made_layout = with_new (layout 0) key (second 5)

made-is_represented : Represents made_view (created 1 key (state true)) made_layout
made-is_represented = creates-end (view 0) with_second (state true) (layout 0) key (second 5) second-is_written 1

key-is_good : IsKey key
key-is_good = record { some = omega arith; short = omega arith; bytes = bytes-small key (omega arith, (omega arith, (omega arith, (omega arith, tt)))) }

made-is_valid : IsValidState (created 1 key (state true))
made-is_valid = state_created (state true) (state_is_valid true) 1 key key-is_good (omega arith) refl refl

-- both are clean, and handle 0 names `a`
abbrev two : State
two = closed 1 (created 1 key (state true))

two-is_valid : IsValidState two
unfolding created
two-is_valid = state_closed (created 1 key (state true)) made-is_valid 1 refl

abbrev two_view : View
two_view = record made_view { store = record made_view.store { node_fields = put made_view.store.node_fields second_node (Some (record { contents = second_contents; dirty = 0 })) } }

abbrev two_layout : Layout
two_layout = dirtied made_layout second_node (second 5) 0

two-is_represented : Represents two_view two two_layout
unfolding created closed put
two-is_represented =
    let names : List (Option ℕ) = (closed 1 (created 1 key (state true))).names in
    handles-not_shown two_view (marked (created 1 key (state true)) 1 (new_object key) true) two_layout
    (dirty-settles made_view (created 1 key (state true)) made_layout made-is_represented made-is_valid 1 (new_object key) (second 5) (record { here = refl; live = refl; at = refl }) (record { contents = second_contents; dirty = 5 }) 0 refl)
    names

-- ---- both are durable while the list has both

whole-holds : HoldsExcept (λ w. false) two_view.store two two_layout
whole-holds = represented-but (λ w. false) two_view two two_layout two-is_represented

pub both-are_at_rest : map volume.row_of_loaded (kept_among two_view.store held_rule (second_node ∷ node ∷ [])) ≡ main_row key plain ([], [], []) ∷ main_row (codes "a") plain (codes "zz", [], []) ∷ []
unfolding created closed rest settled_row
both-are_at_rest = listed-rest (λ w. false) two_view.store two two_layout whole-holds two-is_valid two-is_represented.list.distinct (λ item h. refl)

-- ---- the node of `a` is taken out of the list

-- at each write of that what is kept is the durable contents before the doom, or after it
pub doom-moments : (count : ℕ) → map volume.row_of_loaded (kept_by held_rule (volume.completed (record two_view { list = after_writes (take count (writes_of remove node two_view.list)) two_view.list })))
    ≡ (if nat_lt count 2 then rest two else rest (doomed 0 two (Some (object true))))
unfolding created closed
doom-moments = dooms-moments two_view two two_layout two-is_represented two-is_valid 0 (object true) refl refl

abbrev others : Item → Bool
others = is_of_another (codes "a")

removed-is_at_rest : IsAtRest (after_writes (writes_of remove node two_view.list) two_view.list) (second_node ∷ [])
unfolding created closed
removed-is_at_rest = removals-end node two_view.list (second_node ∷ []) [] (record { whole = two-is_represented.list; idle = two-is_represented.idle })

-- from its second write on `kmyb` alone is kept
pub second-is_kept : map volume.row_of_loaded (kept_among two_view.store held_rule (second_node ∷ [])) ≡ main_row key plain ([], [], []) ∷ []
unfolding created closed rest settled_row doomed
second-is_kept = dooms-keep (λ w. false) two_view.store two two_layout whole-holds two-is_valid 0 (object true) refl others refl (λ item h. h) (refl, tt) (λ item h stays. refl)

-- ---- the record of `kmyb` takes the next of that of `a`

abbrev gone : ℕ → Bool
gone w = w == node

abbrev unlinked : StoreView
unlinked = record two_view.store { chain_next = λ w. 0 }

abbrev one_chain : ℕ → List ℕ
one_chain b = if b == bucket then second_contents ∷ [] else []

only-links : OnlyLinksChange second_contents two_view.store unlinked
only-links = record { beside = record { node_fields = λ w. refl; key_place = λ w fields clear is long short. refl; stored = λ size w clear. refl }; entry = λ w. refl }

its-record : IsOnlyRecord second_contents two_layout
unfolding created closed put hash mixed of_bytes of_four
its-record = chained-only two two_layout two-is_represented.holds.lies bucket second_contents (omega arith) refl

-- each node of the list is that of `kmyb` or of `a`
either-node : (w : ℕ) → is_among (second_node ∷ node ∷ []) w ≡ true → gone w ≡ false → w ≡ second_node
either-node w among out = grind (arith, nat_tests)

at-second : (w : ℕ) (l : Loaded) → w ≡ second_node → two_layout.at w ≡ Some l → second 0 ≡ l
unfolding put
at-second w l e is = let a : ◌≡◌ {A = Option Loaded} (Some (second 0)) (Some l) = ap two_layout.at (sym e) ∙ is in cc

second-in_chain : is_among (one_chain (bucket_of_hash (hash (second 0).key))) (second 0).contents ≡ true
unfolding hash mixed of_bytes of_four
second-in_chain = refl

has-chains : HasChains gone unlinked two two_layout one_chain
unfolding created closed put hash mixed of_bytes of_four
has-chains = record {
  whole = λ b below. ⊎_elim
      (λ (e : (b == bucket) ≡ true). subst (λ (x : ℕ). IsChain unlinked x (one_chain x)) (sym (eqb-true b bucket e)) (record { linked = (refl, refl, refl); once = (refl, tt) }))
      (λ (e : (b == bucket) ≡ false). record { linked = rw e refl; once = rw e tt })
      (cases_Bool (b == bucket));
  chained = λ w l among is out.
      let s : second 0 ≡ l = at-second w l (either-node w among out) is in
      subst (λ (x : Loaded). is_among (one_chain (bucket_of_hash (hash x.key))) x.contents ≡ true) s second-in_chain;
}

unlinked-holds : HoldsExcept gone unlinked two (record two_layout { chains = one_chain })
unlinked-holds = others-unlinked gone two_view.store unlinked two two_layout (more-left_out (λ w. false) gone two_view.store two two_layout whole-holds (λ w h. absurd (let z : false ≡ true = h in cc))) second_contents only-links its-record one_chain has-chains

second-apart : (claim : Claim) → has_claim (all_claims (loaded 0)) claim ≡ true → has_claim (claims_of second_contents) claim ≡ false
unfolding has_claim all_claims record_claims claims_of kind_of block_count file_selector first_block external_number
second-apart (BlockOf f b) h = grind (arith, nat_tests)
second-apart (ExternalOf n) h = refl

-- the record of `a` is as it was
unlinked-loads : load unlinked (unchained_rule 0) node ≡ Ok (loaded 0)
unfolding put
unlinked-loads = records-unlinked two_view.store unlinked 0 node second_contents (loaded 0) (two-is_represented.holds.shows.each node (loaded 0) refl) (once-claimed 0) only-links (inr second-apart)

-- ---- its record gets state 2

abbrev doomed_stock : StoreView
doomed_stock = record unlinked { entry = λ w. if w == contents then Some (record fields { state = records.entry_doomed }) else two_view.store.entry w }

first-block : (has_claim (claims_of contents) (BlockOf 1 0) ≡ true)
unfolding has_claim claims_of kind_of block_count file_selector first_block external_number
first-block = refl

state-is_written : SameStore (has_claim (claims_of contents)) unlinked doomed_stock
state-is_written = record {
  node_fields = λ w clear. refl;
  entry = λ w clear. let n : (w == contents) ≡ false = not-clear (has_claim (claims_of contents)) w contents (BlockOf 1 0) first-block first-block clear in rw n refl;
  chain_next = λ w clear. refl;
  key_place = λ w fields clear is long short. refl;
  stored = λ size w clear. refl;
}

-- its block is its own
its-own : (claim : Claim) → has_claim (claims_of contents) claim ≡ true → has_claim (all_claims (loaded 0)) claim ≡ true
unfolding has_claim all_claims record_claims claims_of kind_of block_count file_selector first_block external_number
its-own (BlockOf f b) h = grind (arith, nat_tests)
its-own (ExternalOf n) h = absurd (let z : false ≡ true = h in cc)

not-touched : (claim : Claim) (w : ℕ) → two_layout.owner claim ≡ Some w → gone w ≡ false → has_claim (claims_of contents) claim ≡ false
unfolding put
not-touched claim w owned out = false_from_ne_true (has_claim (claims_of contents) claim) (λ h.
    let p : two_layout.owner claim ≡ Some node = two-is_represented.holds.lies.own node (loaded 0) claim refl (its-own claim h) in
    let s : node ≡ w = cc in
    let z : true ≡ false = sym (eq-eqb w node (sym s)) ∙ out in cc)

chain-is_clear : (b c : ℕ) (s : Bool) → is_among (if s then second_contents ∷ [] else []) c ≡ true → IsClear (has_claim (claims_of contents)) c
unfolding has_claim claims_of kind_of block_count file_selector first_block external_number
chain-is_clear b c true h claim mine = subst (λ (x : ℕ). has_claim (claims_of x) claim ≡ true → has_claim (claims_of contents) claim ≡ false) (among-one second_contents c h) (away claim) mine where
  away : (claim : Claim) → has_claim (claims_of second_contents) claim ≡ true → has_claim (claims_of contents) claim ≡ false
  away (BlockOf f b) e = grind (arith, nat_tests)
  away (ExternalOf n) e = refl
chain-is_clear b c false h claim mine = absurd (let z : false ≡ true = h in cc)

doomed-holds : HoldsExcept gone doomed_stock two (record two_layout { chains = one_chain })
doomed-holds = others-outside (has_claim (claims_of contents)) gone unlinked doomed_stock two (record two_layout { chains = one_chain }) unlinked-holds state-is_written (λ b. refl) not-touched (λ b c below h. chain-is_clear b c (b == bucket) h)

-- now it loads as one of that state
doomed-loads : load doomed_stock (unchained_rule records.entry_doomed) node ≡ Ok (loaded 0)
doomed-loads = another-state unlinked doomed_stock 0 records.entry_doomed node (loaded 0) fields unlinked-loads (once-claimed 0) (record { node_fields = λ w. refl; key_place = λ w fields clear is long short. refl; stored = λ size w clear. refl }) refl refl

-- the record of `kmyb` loads as it did
second-stays : load doomed_stock (unchained_rule 0) second_node ≡ Ok (second 0)
unfolding put
second-stays = records-outside (has_claim (claims_of contents)) unlinked doomed_stock 0 second_node (second 0) (unlinked-holds.each second_node (second 0) refl refl) state-is_written (second-touched)
  where
    second-touched : (claim : Claim) → has_claim (all_claims (second 0)) claim ≡ true → has_claim (claims_of contents) claim ≡ false
    second-touched claim h = not-touched claim second_node (two-is_represented.holds.lies.own second_node (second 0) claim refl h) refl

-- `kmyb` alone is kept
pub still-kept : map volume.row_of_loaded (kept_among doomed_stock held_rule (second_node ∷ [])) ≡ main_row key plain ([], [], []) ∷ []
unfolding created closed rest settled_row doomed
still-kept = dooms-keep gone doomed_stock two (record two_layout { chains = one_chain }) doomed-holds two-is_valid 0 (object true) refl others refl (λ item h. h) (refl, tt) sound where
  sound : (item : Item) → is_listed two item ≡ true → others item ≡ true → gone (two_layout.place item) ≡ false
  sound item h stays = go (same_item item (main key)) (same_item item (main (codes "a"))) refl refl h where
    go : (a b : Bool) → same_item item (main key) ≡ a → same_item item (main (codes "a")) ≡ b → (a || (b || false)) ≡ true → gone (two_layout.place item) ≡ false
    go true b one other e = rw one refl
    go false true one other e = let s : item ≡ main (codes "a") = one_item item (main (codes "a")) other in let c : others item ≡ false = ap others s in absurd (let z : true ≡ false = sym stays ∙ c in cc)
    go false false one other e = absurd (let z : false ≡ true = e in cc)

-- ---- the state after the doom

abbrev doomed_view : View
doomed_view = record { list = after_writes (writes_of remove node two_view.list) two_view.list; store = doomed_stock }

-- no other item is removed with it
doomed-now : IsDoomedNow two two_layout 0 (object true) (loaded 0) two_layout.at one_chain two_layout.owner
unfolding created closed put
doomed-now = record {
  lies = record { here = refl; live = refl; at = refl };
  node_fields = refl;
  less = record {
    stays = λ item l keeps h is. is;
    others = λ w l out is. is;
    was = λ w l is. is;
    chain_stays = λ w l among is h.
        let s : second 0 ≡ l = at-second w l (sym (among-one second_node w among)) is in
        subst (λ (x : Loaded). is_among (one_chain (bucket_of_hash (hash x.key))) x.contents ≡ true) s second-in_chain;
    chain_was = λ b c below h. was b c (b == bucket) h;
    own = λ w l claim is h owned. owned;
  };
  stays = refl;
} where
  was : (b c : ℕ) (s : Bool) → is_among (if s then second_contents ∷ [] else []) c ≡ true → IsListedRecord (without_items two (doomed 0 two (Some (object true))).objects others) (placed_less two_layout two_layout.at one_chain two_layout.owner) c
  was b c true h = record { node = second_node; loaded = second 0; listed = refl; here = refl; record_is = among-one second_contents c h }
  was b c false h = absurd (let z : false ≡ true = h in cc)

-- the state in which the object is doomed is laid out
pub doom-is_laid : IsLayoutOf (doomed 0 two (Some (object true))) (placed_doomed two_layout 0 node two_layout.at one_chain two_layout.owner)
doom-is_laid = doomed-is-laid two two_layout two-is_represented.holds.lies two-is_valid 0 (object true) (loaded 0) two_layout.at one_chain two_layout.owner doomed-now

-- the state after the doom is represented
pub doom-is_represented : Represents doomed_view (doomed 0 two (Some (object true))) (placed_doomed two_layout 0 node two_layout.at one_chain two_layout.owner)
unfolding created closed
doom-is_represented = doomed-is-represented gone doomed_view two two_layout two-is_represented.holds.lies two-is_valid 0 (object true) (loaded 0) two_layout.at one_chain two_layout.owner doomed-now doomed-holds
    (λ w l is h. sym (eqb-true w node h)) doomed-loads removed-is_at_rest
