-- A create from the contracts of its calls: at each word a crash outcome, and in the end the new state.
use Rattle.std.proofs.Common.{◌≡◌, ℕ, ◌<◌, List, [], ◌∷◌, length, map, take, refl, ap, sym, ◌∙◌, subst, Bool, true, false, arith, Option, Some, None}
use Rattle.std.specs.Prelude.{not, ◌&&◌, ◌||◌, if◌then◌else◌, nat_lt}
use Rattle.std.specs.List.{filter_map}
use Rattle.spec_folder.specs.ListView.{IsList, after_writes}
use Rattle.spec_folder.specs.Walk.{walk}
use Rattle.spec_folder.specs.Completion.{completed_list}
use Rattle.spec_folder.specs.ListPlans.{writes_of}
use Rattle.law_folder.proofs.lists.ListCompletions.{insert_turns, insert_ends}
use Rattle.blk_model.specs.Items.{main}
use Rattle.blk_model.specs.State.{State, Object, IsValidState, object_at}
use Rattle.blk_model.specs.Request.{to_create}
use Rattle.blk_model.specs.Effects.{created, new_object, effect}
use Rattle.blk_model.specs.Room.{without}
use Rattle.blk_model.specs.ListSteps.{list_after}
use Rattle.blk_model.specs.Step.{step, outcome}
use Rattle.blk_model.specs.Refusals.{refused, evicted}
use Rattle.blk_model.specs.Stops.{StopOutcome, pick, picked, picked_by, is_live_and_settled, is_safe, is_turned}
use Rattle.spec_format.specs.Claims.{Claim}
use Rattle.spec_format.specs.Hash.{hash}
use Rattle.spec_folder.specs.Chains.{bucket_of_hash}
use Rattle.spec_folder.specs.View.{View}
use Rattle.spec_folder.specs.Loads.{held_rule, Loaded}
use Rattle.spec_folder.specs.Audit.{kept_among}
use Rattle.spec_folder.specs.Found.{row_of_loaded}
use Rattle.spec_folder.specs.Layout.{Layout, order, Represents}
use Rattle.spec_folder.specs.Given.{picked_with}
use Rattle.spec_folder.specs.Footprint.{SameBut, IsFree}
use Rattle.spec_folder.specs.Creation.{IsNewEntry, IsFrontOfChain, with_new, linked_front}
use Rattle.law_folder.proofs.states.Central.{rest-found, found-rest}
use Rattle.law_folder.proofs.claims.Owner.{rest-picked}
use Rattle.law_folder.specs.CommandLaws.{IsWrittenApart, WrittenEntriesStay, CreatesBeforeTheInsert, CreatesAtEachWrite, CreatesEnd, CreatesAfterTheLink, CreatesEndAtTheStep}
use Rattle.law_folder.proofs.commands.Opening.{safe-same}
use Rattle.law_folder.proofs.claims.Outside.{represents-outside, load-outside, all-clear, then-same}
use Rattle.law_folder.proofs.commands.Touches.{same-represents}
use Rattle.law_folder.proofs.commands.Creating.{created-shows, created-lies, created-rest, order-after, inserted-rest, new-lacks, push-here}
use Rattle.blk_model.specs.Holding as model

module _ (v u : View) (m : State) (y : Layout) (r : Represents v m y) (valid : IsValidState m) (touched : Claim → Bool) (same : SameBut touched v u) (free : IsFree touched y)
    (handle : ℕ) (key : List ℕ) (l : Loaded) (new : IsNewEntry u.store y key l) (prefix : IsFrontOfChain u.store y l) (good : u.list.checks l.node ≡ true) (few : length (order m y) < 131072) (none : model.owner m (main key) ≡ None) where
  -- once the record and the node are written
  written : Represents u m y
  written = represents-outside touched v u m y same free r

  -- at each word of the insertion
  pub insert-moments : (k : ℕ) → map row_of_loaded (kept_among u.store held_rule (walk (completed_list (after_writes (take k (writes_of 1 l.node u.list)) u.list)))) ≡ model.rest m
  insert-moments k =
      ap (λ (ws : List ℕ). map row_of_loaded (kept_among u.store held_rule ws)) (insert_turns l.node u.list (order m y) written.list written.idle (new-lacks u.store m y written.holds valid key l new written.list.distinct) good few k) ∙ go (nat_lt k 2) where
        go : (b : Bool) → map row_of_loaded (kept_among u.store held_rule (if b then order m y else l.node ∷ order m y)) ≡ model.rest m
        go true = rest-found u.store m y written.holds valid written.list.distinct
        go false = inserted-rest u.store m y written.holds valid key l new written.list.distinct

  -- and once the record is linked
  pub create-ends : Represents (record { list = after_writes (writes_of 1 l.node u.list) u.list; store = linked_front u.store l }) (created handle key m) (with_new y key l)
  create-ends =
      let e = insert_ends l.node u.list (order m y) written.list written.idle (new-lacks u.store m y written.holds valid key l new written.list.distinct) good few in
      record {
        holds = record { shows = created-shows u.store y written.holds.shows key l new prefix; lies = created-lies m y written.holds.lies u.store handle key l new none };
        list = subst (IsList (after_writes (writes_of 1 l.node u.list) u.list)) (sym (order-after m y written.holds.lies u.store handle key l new none)) e.0;
        idle = e.1;
      }

  -- the durable contents, before and after, are a crash outcome
  pub create-rest : model.rest (created handle key m) ≡ model.rest m
  create-rest = created-rest m y written.holds.lies u.store handle key l new none

-- the durable contents before a create are what it picks
module _ (m : State) (handle : ℕ) (key : List ℕ) where
  test-created : (number : ℕ) → is_live_and_settled (object_at m number) ≡ (is_safe m (created handle key m) number || (false && is_turned m (created handle key m) number))
  unfolding is_safe created
  test-created number = go (object_at m number) refl where
    go : (o : Option Object) → object_at m number ≡ o → is_live_and_settled (object_at m number) ≡ (is_safe m (created handle key m) number || (false && is_turned m (created handle key m) number))
    go None e = rw e refl
    go (Some o) e = rw (push-here m.objects (Some (new_object key)) number o e, e) (safe-same (o.live && o.settled) (not o.live))

  pick-created : model.rest m ≡ pick m (created handle key m) false m.uses
  unfolding pick picked picked_by
  pick-created = rest-picked m ∙ ap (λ (t : ℕ → Bool). filter_map (picked_with m t) m.uses) (λ i number. test-created number i)

  pub create-stops : (moment : ℕ) → refused moment (to_create handle key) m ≡ None → evicted moment (to_create handle key) m ≡ [] → StopOutcome m moment (to_create handle key) (step m moment (to_create handle key)).state (model.rest m)
  unfolding step outcome effect without created list_after
  create-stops moment passed room =
      let ends : (step m moment (to_create handle key)).state ≡ created handle key m = rw (passed, room) refl in
      subst (λ (n : State). StopOutcome m moment (to_create handle key) n (model.rest m)) (sym ends)
      (record { step_count = 0; within = omega arith; with_turned = false; picked_rows = pick-created })

-- what is written loads in each store view that shows the same
written-stays : WrittenEntriesStay
written-stays v u m y key l w s same = record {
  represents = w.represents;
  valid = w.valid;
  touched = w.touched;
  same = record { links = w.same.links; store = then-same w.touched v.store u.store s w.same.store same.store; table = λ b. w.same.table b ∙ same.table b };
  free = w.free;
  entry = record {
    loads = load-outside (λ c. false) u.store s same.store (record { state = 0; clean = false; chained = false }) l.node l refl w.entry.loads (all-clear (λ c. false) l (λ c h. refl));
    key_is = w.entry.key_is;
    role = w.entry.role;
    streams = w.entry.streams;
    dirty = w.entry.dirty;
    nobody = w.entry.nobody;
    free = w.entry.free;
    single = w.entry.single;
  };
  prefix = record { follows = sym (same.store.chain_next l.contents (λ c h. refl)) ∙ w.prefix.follows ∙ same.table (bucket_of_hash (hash l.key)); fresh = w.prefix.fresh };
  good = w.good;
  few = w.few;
  missing = w.missing;
}

module _ (v u : View) (m : State) (y : Layout) (key : List ℕ) (l : Loaded) (w : IsWrittenApart v u m y key l) where
  pub creates-moments : (k : ℕ) → map row_of_loaded (kept_among u.store held_rule (walk (completed_list (after_writes (take k (writes_of 1 l.node u.list)) u.list)))) ≡ model.rest m
  creates-moments = insert-moments v u m y w.represents w.valid w.touched w.same w.free 0 key l w.entry w.prefix w.good w.few w.missing

  pub creates-end : (handle : ℕ) → Represents (record { list = after_writes (writes_of 1 l.node u.list) u.list; store = linked_front u.store l }) (created handle key m) (with_new y key l)
  creates-end handle = create-ends v u m y w.represents w.valid w.touched w.same w.free handle key l w.entry w.prefix w.good w.few w.missing

  pub creates-rest : (handle : ℕ) → model.rest (created handle key m) ≡ model.rest m
  creates-rest handle = create-rest v u m y w.represents w.valid w.touched w.same w.free handle key l w.entry w.prefix w.good w.few w.missing

pub written-stay : WrittenEntriesStay
written-stay = written-stays

pub before-insert : CreatesBeforeTheInsert
before-insert touched old view state layout r valid same free =
    let now : Represents view state layout = represents-outside touched old view state layout same free r in
    found-rest view state layout now valid

pub at-each-write : CreatesAtEachWrite
at-each-write old new state layout key loaded w store same count = creates-moments old (record new { store = store }) state layout key loaded (written-stays old new state layout key loaded w store same) count

pub at-end : CreatesEnd
at-end old new state layout key loaded w handle store linked same then_linked =
    same-represents (record { list = after_writes (writes_of 1 loaded.node new.list) new.list; store = linked_front store loaded }) (created handle key state) (with_new layout key loaded)
    (creates-end old (record new { store = store }) state layout key loaded (written-stays old new state layout key loaded w store same) handle) linked then_linked

pub after-link : CreatesAfterTheLink
after-link old new state layout key loaded w handle valid store linked same then_linked =
    found-rest (record { list = after_writes (writes_of 1 loaded.node new.list) new.list; store = linked }) (created handle key state) (with_new layout key loaded) (at-end old new state layout key loaded w handle store linked same then_linked) valid
    ∙ creates-rest old new state layout key loaded w handle

pub at-the-step : CreatesEndAtTheStep
unfolding step outcome effect without
at-the-step state handle key moment passed none = rw (passed, none) refl
