-- Where each command ends, and what a crash in it may leave.
use Rattle.std.proofs.Common.{◌≡◌, ℕ, zero, suc, ◌<◌, ◌≤◌, List, [], ◌∷◌, ◌++◌, refl, ap, ap₂, sym, ◌∙◌, subst, Bool, true, false, arith, cond, get_or, set, Option, Some, None, ⊎_elim, not, length, map}
use Rattle.std.specs.Prelude.{slice_set, unwrap_or, nat_le, ◌||◌, ◌&&◌}
use Rattle.std.specs.List.{filter}
use Rattle.std.specs.Option.{option_and_then}
use Rattle.std.proofs.lemmas.Bool.{cases_Bool, cases_lt}
use Rattle.std.proofs.lemmas.Bool.Decides.{nat_tests}
use Rattle.std.proofs.lemmas.List.{append-nil, get_or-set_other, get_or-set_same, get_or_past}
use Rattle.std.proofs.lemmas.List.Folds.{list_any-append}
use Rattle.blk_model.specs.Items.{Item, PartValue, main, part}
use Rattle.blk_model.specs.State.{IsValidState, Object, State, is_named, named_by, object_at}
use Rattle.blk_model.specs.Effects.{closed, created, doomed, doomed_key, effect, flushed, new_object, number_of, object_of, opened, released, released_slot, settled_at, sparse_after, sparse_used, sparse_written, used, used_all, used_main, used_sparse, with_name, with_slot, written}
use Rattle.blk_model.specs.Holding.{rest}
use Rattle.blk_model.specs.ListSteps.{dooms, uses_of}
use Rattle.blk_model.specs.Refusals.{evicted, refusals, refused}
use Rattle.blk_model.specs.Request.{IsRequest, Request, to_create, to_open, to_read, to_write, to_size, to_sparse_write, to_sparse_read, to_sparse_range, to_doom, to_doom_key, to_close, to_flush, to_list, to_trim, to_total}
use Rattle.blk_model.specs.Room.{Group, is_out, left_of, not_out, takes, without}
use Rattle.blk_model.specs.Sparse.{covered_parts}
use Rattle.blk_model.specs.Step.{outcome, step}
use Rattle.blk_model.proofs.EvictedFirst.{evictions-stop}
use Rattle.blk_model.proofs.States.{if_some_is, some_of}
use Rattle.blk_model.proofs.StopRests.{rest_after}
use Rattle.blk_model.proofs.Written.{without_names}
use Rattle.law_folder.specs.CommandLaws.{marked, turned}
use Rattle.law_state.specs.CommandStates.{IsAffected, IsOpened, IsUnsettled, MayLeave, Unsettles, amidst, in_order, with_room}
use Rattle.law_state.specs.CommandEnds.{ClosesFreeTheName, ClosesMayLeave, ClosesOfDoomedEnd, ClosesSettle, CreatesEndOnceMade, CreatesMayLeave, DoomedWritesEnd, DoomsEndOnceDoomed, DoomsMayLeave, EmptySparseWritesEnd, FlushesMayLeave, FlushesOfSettledEnd, FlushesSettle, GroupsGoInTurn, OnlyUsesMayBeLeft, OpensEndOnceUsed, OpensMayLeave, PassedRequestsTakeEffect, SparseWritesEnd, SparseWritesUnsettle, TrimsEndOnceOut, TrimsMayLeave, UsesEnd, WritesEndOnceWritten, WritesUnsettle, after_write}
use Rattle.law_state.proofs.NotAtRest.{handles-rest, within-slots}
use Rattle.law_state.proofs.Orders.{uses-left}

-- ---- every command

pub passed : PassedRequestsTakeEffect
unfolding step outcome
passed state moment request passes = (ap (λ o. (outcome moment request state o).state) passes, ap (λ o. (outcome moment request state o).reply) passes)

-- the durable contents of the state that a request ends with may be left by a crash in it
after-left : (state : State) (moment : ℕ) (request : Request) (end : State) → IsValidState state → IsRequest request → (step state moment request).state ≡ end → MayLeave state moment request (rest end)
after-left state moment request end valid can ends = subst (λ (m : State). MayLeave state moment request (rest m)) ends (rest_after state moment request valid can)

-- ---- accesses

used-or-not : (live : Bool) (item : Item) (uses : List Item) → cond live (used item uses) uses ≡ used_all (cond live (item ∷ []) []) uses
used-or-not true item uses = refl
used-or-not false item uses = refl

pub uses-end : UsesEnd
unfolding effect evicted without sparse_used uses_of
uses-end state moment (to_read handle stream offset count) only passes = (passed state moment (to_read handle stream offset count) passes).0 ∙ ap (λ (uses : List Item). in_order uses state) (used-or-not (object_of state handle).live (main (object_of state handle).key) state.uses)
uses-end state moment (to_sparse_read handle offset count) only passes = (passed state moment (to_sparse_read handle offset count) passes).0
uses-end state moment (to_sparse_range handle offset count) only passes = (passed state moment (to_sparse_range handle offset count) passes).0
uses-end state moment (to_create handle key) only passes = absurd only
uses-end state moment (to_open handle key) only passes = absurd only
uses-end state moment (to_write handle stream offset cut bytes) only passes = absurd only
uses-end state moment (to_size handle stream) only passes = absurd only
uses-end state moment (to_sparse_write handle offset bytes) only passes = absurd only
uses-end state moment (to_doom handle) only passes = absurd only
uses-end state moment (to_doom_key key) only passes = absurd only
uses-end state moment (to_close handle) only passes = absurd only
uses-end state moment (to_flush handle) only passes = absurd only
uses-end state moment to_list only passes = absurd only
uses-end state moment (to_trim bytes) only passes = absurd only
uses-end state moment to_total only passes = absurd only

pub only-uses-left : OnlyUsesMayBeLeft
unfolding evicted without dooms
only-uses-left state moment (to_read handle stream offset count) first others valid only passes split = uses-left state moment (to_read handle stream offset count) first others valid passes refl split
only-uses-left state moment (to_sparse_read handle offset count) first others valid only passes split = uses-left state moment (to_sparse_read handle offset count) first others valid passes refl split
only-uses-left state moment (to_sparse_range handle offset count) first others valid only passes split = uses-left state moment (to_sparse_range handle offset count) first others valid passes refl split
only-uses-left state moment (to_create handle key) first others valid only passes split = absurd only
only-uses-left state moment (to_open handle key) first others valid only passes split = absurd only
only-uses-left state moment (to_write handle stream offset cut bytes) first others valid only passes split = absurd only
only-uses-left state moment (to_size handle stream) first others valid only passes split = absurd only
only-uses-left state moment (to_sparse_write handle offset bytes) first others valid only passes split = absurd only
only-uses-left state moment (to_doom handle) first others valid only passes split = absurd only
only-uses-left state moment (to_doom_key key) first others valid only passes split = absurd only
only-uses-left state moment (to_close handle) first others valid only passes split = absurd only
only-uses-left state moment (to_flush handle) first others valid only passes split = absurd only
only-uses-left state moment to_list first others valid only passes split = absurd only
only-uses-left state moment (to_trim bytes) first others valid only passes split = absurd only
only-uses-left state moment to_total first others valid only passes split = absurd only

pub opens-end : OpensEndOnceUsed
unfolding effect evicted without opened
opens-end state moment handle key passes = (passed state moment (to_open handle key) passes).0

pub opens-left : OpensMayLeave
unfolding evicted without dooms uses_of
opens-left state moment handle key valid passes = uses-left state moment (to_open handle key) (main key ∷ []) [] valid passes refl refl

-- ---- Create

pub creates-end : CreatesEndOnceMade
unfolding effect
creates-end state moment handle key passes = (passed state moment (to_create handle key) passes).0

pub creates-left : CreatesMayLeave
unfolding created
creates-left state moment handle name key valid can passes =
    let base = with_room state moment (to_create handle key) in
    subst (MayLeave state moment (to_create handle key)) (handles-rest (created name key base) (slice_set base.names handle (Some (length base.objects))))
    (after-left state moment (to_create handle key) (created handle key base) valid can (creates-end state moment handle key passes))

-- ---- Write and SparseWrite

-- a slot that is written as it is
set-here : {A : Type 0} (xs : List (Option A)) (n : ℕ) (x : Option A) → get_or xs n None ≡ x → set xs n x ≡ xs
set-here [] n x e = refl
set-here (y ∷ xs) zero x e = ap (λ (z : Option _). z ∷ xs) (sym e)
set-here (y ∷ xs) (suc n) x e = ap (λ (zs : List (Option _)). y ∷ zs) (set-here xs n x e)

-- the number and the object of a handle
module _ (state : State) (groups : List Group) (handle number : ℕ) (names : named_by state handle ≡ Some number) where
  number-is : number_of (without groups state) handle ≡ number
  number-is = ap (λ (o : Option ℕ). unwrap_or o (length (without groups state).objects)) (ap (λ (ns : List (Option ℕ)). get_or ns handle None) (without_names groups state) ∙ names)

  object-is : (object : Object) → object_at (without groups state) number ≡ Some object → object_of (without groups state) handle ≡ object
  object-is object here = ap (λ (n : ℕ). unwrap_or (object_at (without groups state) n) (new_object [])) number-is ∙ ap (λ (o : Option Object). unwrap_or o (new_object [])) here

module _ (state : State) (moment handle stream offset : ℕ) (cut : Bool) (bytes : List ℕ) (number : ℕ) (object : Object) (passes : refused moment (to_write handle stream offset cut bytes) state ≡ None) (names : named_by state handle ≡ Some number)
    (here : object_at (with_room state moment (to_write handle stream offset cut bytes)) number ≡ Some object) where
  abbrev written_base : State
  written_base = with_room state moment (to_write handle stream offset cut bytes)

  written-is : (step state moment (to_write handle stream offset cut bytes)).state ≡ used_main object (with_slot number (Some (after_write object stream offset cut bytes)) written_base)
  unfolding effect written
  written-is = (passed state moment (to_write handle stream offset cut bytes) passes).0
      ∙ ap₂ (λ (n : ℕ) (o : Object). used_main o (with_slot n (Some (after_write o stream offset cut bytes)) written_base)) (number-is state _ handle number names) (object-is state _ handle number names object here)

  written-live : object.live ≡ true → (step state moment (to_write handle stream offset cut bytes)).state ≡ amidst written_base number (after_write object stream offset cut bytes) (used (main object.key) written_base.uses)
  written-live live = written-is ∙ ap (λ (b : Bool). in_order (cond b (used (main object.key) written_base.uses) written_base.uses) (with_slot number (Some (after_write object stream offset cut bytes)) written_base)) live

  written-dead : object.live ≡ false → (step state moment (to_write handle stream offset cut bytes)).state ≡ with_slot number (Some (after_write object stream offset cut bytes)) written_base
  written-dead dead = written-is ∙ ap (λ (b : Bool). in_order (cond b (used (main object.key) written_base.uses) written_base.uses) (with_slot number (Some (after_write object stream offset cut bytes)) written_base)) dead

pub writes-end : WritesEndOnceWritten
writes-end state moment handle stream offset cut bytes number object is = written-live state moment handle stream offset cut bytes number object is.affected.passes is.names is.affected.here is.affected.live

pub doomed-writes-end : DoomedWritesEnd
doomed-writes-end state moment handle stream offset cut bytes number object passes names here dead = written-dead state moment handle stream offset cut bytes number object passes names here dead

-- what ends amid a request's own object makes it dirty
unsettles : (state : State) (moment : ℕ) (request : Request) (number : ℕ) (object after : Object) (uses : List Item) → IsAffected state moment request number object → (step state moment request).state ≡ amidst (with_room state moment request) number after uses
    → IsUnsettled after object.key → Unsettles state moment request number object
unsettles state moment request number object after uses affected ends unsettled =
    let base = with_room state moment request in
    record {
      affected = affected;
      after = after;
      becomes = ap (λ (m : State). object_at m number) ends ∙ get_or-set_same base.objects number (Some after) None (within-slots base.objects number object affected.here);
      unsettled = unsettled;
      others = λ other apart. ap (λ (m : State). object_at m other) ends ∙ get_or-set_other base.objects number other (Some after) None apart;
    }

pub writes-unsettle : WritesUnsettle
writes-unsettle state moment handle stream offset cut bytes number object is =
    unsettles state moment (to_write handle stream offset cut bytes) number object (after_write object stream offset cut bytes) (used (main object.key) (with_room state moment (to_write handle stream offset cut bytes)).uses) is.affected
    (writes-end state moment handle stream offset cut bytes number object is) (record { key_is = refl; live = is.affected.live; unsettled = refl })

pub sparse-writes-end : SparseWritesEnd
unfolding effect sparse_written uses_of
sparse-writes-end state moment handle offset bytes number object is =
    let base = with_room state moment (to_sparse_write handle offset bytes) in
    (passed state moment (to_sparse_write handle offset bytes) is.affected.passes).0
    ∙ ap₂ (λ (n : ℕ) (o : Object). used_sparse (object_of base handle) (covered_parts offset (length bytes)) (with_slot n (Some (sparse_after moment o offset bytes)) base)) (number-is state _ handle number is.names) (object-is state _ handle number is.names object is.affected.here)

pub sparse-writes-unsettle : SparseWritesUnsettle
unfolding sparse_after
sparse-writes-unsettle state moment handle offset byte bytes number object is =
    let request = to_sparse_write handle offset (byte ∷ bytes) in
    unsettles state moment request number object (sparse_after moment object offset (byte ∷ bytes)) (used_all (uses_of request (with_room state moment request)) (with_room state moment request).uses) is.affected
    (sparse-writes-end state moment handle offset (byte ∷ bytes) number object is) (record { key_is = refl; live = is.affected.live; unsettled = refl })

pub empty-sparse-writes-end : EmptySparseWritesEnd
unfolding sparse_after uses_of covered_parts
empty-sparse-writes-end state moment handle offset number object is =
    let base = with_room state moment (to_sparse_write handle offset []) in
    sparse-writes-end state moment handle offset [] number object is
    ∙ ap₂ (λ (slots : List (Option Object)) (o : Object). record base { objects = slots; uses = used (main o.key) base.uses }) (set-here base.objects number (Some object) is.affected.here) (object-is state _ handle number is.names object is.affected.here)

-- ---- Close

module _ (state : State) (valid : IsValidState state) (moment handle number : ℕ) (names : named_by state handle ≡ Some number) where
  under : handle < 4096
  under = ⊎_elim
      (λ (h : handle < 4096). h)
      (λ (h : 4096 ≤ handle). let long = valid.names in absurd (none (named_by state handle) (get_or_past state.names handle None (omega arith)) names))
      (cases_lt handle 4096)
    where
      none : (o : Option ℕ) → o ≡ None → o ≡ Some number → ⊥
      none o e h = cc

  below : (nat_le 4096 handle) ≡ false
  below = let u = under in grind (arith, nat_tests, u)

  close-passes : refused moment (to_close handle) state ≡ None
  unfolding refusals
  close-passes = rw (below, names) refl

  close-is : (step state moment (to_close handle)).state ≡ released number (with_name handle None state) (object_at state number)
  unfolding effect evicted without closed
  close-is = (passed state moment (to_close handle) close-passes).0 ∙ ap (λ (o : Option ℕ). released (unwrap_or o (length state.objects)) (with_name handle None state) (object_at state (unwrap_or o (length state.objects)))) names

  close-ends : (object : Object) (held : Bool) → object_at state number ≡ Some object → is_named (with_name handle None state) number ≡ held
      → (step state moment (to_close handle)).state ≡ with_slot number (released_slot held object) (with_name handle None state)
  close-ends object held here is = close-is ∙ ap (released number (with_name handle None state)) here ∙ ap (λ (b : Bool). with_slot number (released_slot b object) (with_name handle None state)) is

pub closes-free : ClosesFreeTheName
closes-free state moment handle number valid names several =
    let found = some_of (object_at state number) (if_some_is (named_by state handle) _ number names (valid.bound handle)) in
    close-ends state valid moment handle number names found.0 true found.1 several ∙ ap (λ (slots : List (Option Object)). record (with_name handle None state) { objects = slots }) (set-here state.objects number (Some found.0) found.1)

pub closes-settle : ClosesSettle
closes-settle state moment handle number object valid is =
    close-ends state valid moment handle number is.names object false is.here is.last ∙ ap (λ (b : Bool). with_slot number (cond b (Some (record object { settled = true })) None) (with_name handle None state)) is.live

pub closes-left : ClosesMayLeave
closes-left state moment handle number object valid can is =
    subst (MayLeave state moment (to_close handle)) (handles-rest (marked state number object true) (slice_set state.names handle None))
    (after-left state moment (to_close handle) (turned state number object true (slice_set state.names handle None)) valid can (closes-settle state moment handle number object valid is))

pub closes-doomed : ClosesOfDoomedEnd
closes-doomed state moment handle number object valid names here dead last =
    close-ends state valid moment handle number names object false here last ∙ ap (λ (b : Bool). with_slot number (cond b (Some (record object { settled = true })) None) (with_name handle None state)) dead

-- ---- Flush

module _ (state : State) (valid : IsValidState state) (moment handle number : ℕ) (object : Object) (is : IsOpened state handle number object) where
  pub flush-passes : refused moment (to_flush handle) state ≡ None
  unfolding refusals
  flush-passes = rw (below state valid moment handle number is.names, is.names, is.here, is.live) refl

  flush-settles : (step state moment (to_flush handle)).state ≡ marked state number object true
  unfolding effect evicted without flushed
  flush-settles = (passed state moment (to_flush handle) flush-passes).0
      ∙ ap (λ (o : Option ℕ). settled_at (unwrap_or o (length state.objects)) state (object_at state (unwrap_or o (length state.objects)))) is.names
      ∙ ap (settled_at number state) is.here

pub flushes-settle : FlushesSettle
flushes-settle state moment handle number object valid is = flush-settles state valid moment handle number object is

pub flushes-of-settled : FlushesOfSettledEnd
flushes-of-settled state moment handle number object valid is settled =
    flushes-settle state moment handle number object valid is
    ∙ ap (λ (b : Bool). with_slot number (Some (record object { settled = b })) state) (sym settled)
    ∙ ap (λ (slots : List (Option Object)). record state { objects = slots }) (set-here state.objects number (Some object) is.here)

pub flushes-left : FlushesMayLeave
flushes-left state moment handle number object valid can is = after-left state moment (to_flush handle) (marked state number object true) valid can (flushes-settle state moment handle number object valid is)

-- ---- Doom and DoomKey

pub dooms-end : DoomsEndOnceDoomed
unfolding effect evicted without
dooms-end state moment (to_doom handle) number object passes is here =
    (passed state moment (to_doom handle) passes).0 ∙ ap (λ (o : Option ℕ). doomed (unwrap_or o (length state.objects)) state (object_at state (unwrap_or o (length state.objects)))) is ∙ ap (doomed number state) here
dooms-end state moment (to_doom_key key) number object passes is here = (passed state moment (to_doom_key key) passes).0 ∙ ap (doomed_key state) is ∙ ap (doomed number state) here
dooms-end state moment (to_create handle key) number object passes is here = absurd is
dooms-end state moment (to_open handle key) number object passes is here = absurd is
dooms-end state moment (to_read handle stream offset count) number object passes is here = absurd is
dooms-end state moment (to_write handle stream offset cut bytes) number object passes is here = absurd is
dooms-end state moment (to_size handle stream) number object passes is here = absurd is
dooms-end state moment (to_sparse_write handle offset bytes) number object passes is here = absurd is
dooms-end state moment (to_sparse_read handle offset count) number object passes is here = absurd is
dooms-end state moment (to_sparse_range handle offset count) number object passes is here = absurd is
dooms-end state moment (to_close handle) number object passes is here = absurd is
dooms-end state moment (to_flush handle) number object passes is here = absurd is
dooms-end state moment (to_trim bytes) number object passes is here = absurd is
dooms-end state moment to_list number object passes is here = absurd is
dooms-end state moment to_total number object passes is here = absurd is

pub dooms-left : DoomsMayLeave
dooms-left state moment request number object valid can passes is here = after-left state moment request (doomed number state (Some object)) valid can (dooms-end state moment request number object passes is here)

-- ---- Trim

pub trims-end : TrimsEndOnceOut
unfolding effect refusals
trims-end state moment bytes = (passed state moment (to_trim bytes) refl).0

pub trims-left : TrimsMayLeave
unfolding refusals
trims-left state moment bytes first others valid groups = evictions-stop state moment (to_trim bytes) first others valid (record { passes = refl; groups = groups })

-- ---- eviction units in turn

out-append : (first others : List Group) (item : Item) → is_out (first ++ others) item ≡ (is_out first item || is_out others item)
out-append first others item = list_any-append (takes item) first others

-- what neither takes is what the two together don't take
filter-turn : {A : Type 0} (p q r : A → Bool) → ((x : A) → (p x && q x) ≡ r x) → (xs : List A) → filter q (filter p xs) ≡ filter r xs
filter-turn p q r both [] = refl
filter-turn {A} p q r both (x ∷ xs) = ⊎_elim
    (λ (e : p x ≡ true).
    let same : q x ≡ r x = ap (λ (b : Bool). b && q x) (sym e) ∙ both x in
    rw e (ap₂ (λ (b : Bool) (more : List A). cond b (x ∷ more) more) same (filter-turn p q r both xs)))
    (λ (e : p x ≡ false).
    let none : r x ≡ false = sym (both x) ∙ ap (λ (b : Bool). b && q x) e in
    rw (e, none) (filter-turn p q r both xs))
    (cases_Bool (p x))

not-either : (a b c : Bool) → c ≡ (a || b) → (not a && not b) ≡ not c
not-either true b c e = ap not (sym e)
not-either false b c e = ap not (sym e)

abbrev Part : Type 0
Part = ℕ × PartValue

-- an object with the parts that eviction units don't take
abbrev with-parts : Object → List Group → List Part → Object
with-parts object groups parts = record object { parts = filter (λ p. not (is_out groups (part object.key p.0))) parts }

parts-turn : (first others : List Group) (object : Object) → with-parts object others (with-parts object first object.parts).parts ≡ with-parts object (first ++ others) object.parts
parts-turn first others object = ap (λ (ps : List Part). record object { parts = ps })
    (filter-turn (λ (p : Part). not (is_out first (part object.key p.0))) (λ (p : Part). not (is_out others (part object.key p.0))) (λ (p : Part). not (is_out (first ++ others) (part object.key p.0)))
    (λ p. not-either _ _ _ (out-append first others (part object.key p.0))) object.parts)

then-cond : (f : Object → Option Object) (c : Bool) (object : Object) → option_and_then f (cond c None (Some object)) ≡ cond c None (f object)
then-cond f true object = refl
then-cond f false object = refl

-- what the eviction units leave of an object, one after the other
left-turn : (first others : List Group) (object : Object) → option_and_then (left_of others) (left_of first object) ≡ left_of (first ++ others) object
unfolding left_of
left-turn first others object = then-cond (left_of others) (object.live && is_out first (main object.key)) (with-parts object first object.parts)
    ∙ go object.live (is_out first (main object.key)) (is_out others (main object.key)) (is_out (first ++ others) (main object.key)) (out-append first others (main object.key)) where
      go : (live a b c : Bool) → c ≡ (a || b) → cond (live && a) None (cond (live && b) None (Some (with-parts object others (with-parts object first object.parts).parts))) ≡ cond (live && c) None (Some (with-parts object (first ++ others) object.parts))
      go true true b c e = rw e refl
      go true false true c e = rw e refl
      go true false false c e = rw e (ap Some (parts-turn first others object))
      go false a b c e = ap Some (parts-turn first others object)

slots-turn : (first others : List Group) (slots : List (Option Object)) → map (option_and_then (left_of others)) (map (option_and_then (left_of first)) slots) ≡ map (option_and_then (left_of (first ++ others))) slots
slots-turn first others [] = refl
slots-turn first others (None ∷ slots) = ap (λ (more : List (Option Object)). None ∷ more) (slots-turn first others slots)
slots-turn first others (Some object ∷ slots) = ap₂ (λ (slot : Option Object) (more : List (Option Object)). slot ∷ more) (left-turn first others object) (slots-turn first others slots)

uses-turn : (first others : List Group) (uses : List Item) → not_out others (not_out first uses) ≡ not_out (first ++ others) uses
uses-turn first others uses = filter-turn (λ (item : Item). not (is_out first item)) (λ (item : Item). not (is_out others item)) (λ (item : Item). not (is_out (first ++ others) item)) (λ item. not-either _ _ _ (out-append first others item)) uses

pub groups-turn : GroupsGoInTurn
unfolding without
groups-turn state [] others = refl
groups-turn state (group ∷ first) [] = ap (λ (groups : List Group). without groups state) (sym (append-nil (group ∷ first)))
groups-turn state (group ∷ first) (other ∷ others) = ap₂ (λ (slots : List (Option Object)) (uses : List Item). record state { objects = slots; uses = uses }) (slots-turn (group ∷ first) (other ∷ others) state.objects) (uses-turn (group ∷ first) (other ∷ others) state.uses)
