-- What a command makes of each object.
use Rattle.std.proofs.Common.{◌≡◌, ℕ, zero, suc, Bool, true, false, ◌&&◌, ◌||◌, cond, List, [], ◌∷◌, ◌++◌, Some, None, Option, is_some, is_none, refl, ap, sym, ◌∙◌, subst, arith, get_or, set, length}
use Rattle.std.proofs.lemmas.List.{length-map}
use Rattle.std.specs.List.{slice_index_or}
use Rattle.std.specs.Option.{option_and_then, option_map}
use Rattle.std.specs.Str.{bytes_eq}
use Rattle.std.specs.Ordering.{nat_cmp}
use Rattle.std.specs.FinMap.{find}
use Rattle.blk_model.specs.Items.{Item, main, part, part_row, PartValue}
use Rattle.blk_model.specs.State.{Object, State, IsValidState, object_at, has_item, owners, live_with, part_at, is_named}
use Rattle.blk_model.specs.Holding.{row_in}
use Rattle.blk_model.specs.Room.{Group, left_of, without, is_out}
use Rattle.blk_model.specs.Request.{Request, to_create, to_open, to_read, to_write, to_size, to_sparse_write, to_sparse_read, to_sparse_range, to_doom, to_doom_key, to_close, to_flush, to_list, to_trim, to_total}
use Rattle.blk_model.specs.Effects.{new_object, with_name, with_stream, stream_after, stream_of, created, opened, written, sparse_after, sparse_written, sparse_used, doomed, doomed_slot, doomed_key, released, released_slot, closed, settled_at, flushed, effect, object_of, number_of}
use Rattle.blk_model.specs.Refusals.{no_name, names_none, first_refusal, refusals, refused, evicted, covered}
use Rattle.blk_model.specs.Step.{outcome, step}
use Rattle.blk_model.proofs.Slots.{owners-first_none}
use Rattle.blk_model.proofs.States.{none_of, named_object}
use Rattle.blk_model.proofs.Doomed.{contrary}
use Rattle.blk_model.proofs.Evicted.{kept_parts, kept_part_at, map_at, state_without}
use Rattle.blk_model.proofs.Written.{without_names}
use Rattle.blk_model.proofs.Steps.{none_comes, room_for_is_loose}

-- an object keeps its key and does not come to life; what it has while it is clean it had before.
-- Where `settles` is false no dirty object becomes clean, and where it is true no clean one becomes dirty.
pub record LeadsTo (settles : Bool) (old new : Object) : Type 0 where
  pub key : new.key ≡ old.key
  pub live : new.live ≡ true → old.live ≡ true
  pub unturned : settles ≡ false → new.live ≡ true → new.settled ≡ true → old.settled ≡ true
  pub stays : settles ≡ true → new.live ≡ true → old.settled ≡ true → new.settled ≡ true
  pub items : new.live ≡ true → new.settled ≡ true → (item : Item) → has_item new item ≡ true → (has_item old item ≡ true) × (row_in new item ≡ row_in old item)

-- what a slot may become; an object that was not there before is dirty and fresh
abbrev pub Leads : Bool → (Object → Type 0) → Option Object → Option Object → Type 0
Leads settles Fresh before None = Unit {0}
Leads settles Fresh None (Some new) = (new.settled ≡ false) × Fresh new
Leads settles Fresh (Some old) (Some new) = LeadsTo settles old new

-- no object is fresh
abbrev pub Never : Object → Type 0
Never object = ⊥

pub to_self : (settles : Bool) (object : Object) → LeadsTo settles object object
to_self settles object = record { key = refl; live = λ l. l; unturned = λ s l e. e; stays = λ s l e. e; items = λ l e item has. (has, refl) }

pub to_same : (settles : Bool) (Fresh : Object → Type 0) (slot : Option Object) → Leads settles Fresh slot slot
to_same settles Fresh None = tt
to_same settles Fresh (Some object) = to_self settles object

lifted : (settles : Bool) (Fresh : Object → Type 0) (before after : Option Object) → Leads settles Never before after → Leads settles Fresh before after
lifted settles Fresh before None leads = tt
lifted settles Fresh None (Some new) leads = absurd leads.1
lifted settles Fresh (Some old) (Some new) leads = leads

through : (a b c : Option Object) → Leads false Never a b → Leads false Never b c → Leads false Never a c
through a b None p q = tt
through a None (Some z) p q = absurd q.1
through None (Some y) (Some z) p q = absurd p.1
through (Some x) (Some y) (Some z) p q = record {
  key = q.key ∙ p.key;
  live = λ l. p.live (q.live l);
  unturned = λ s l e. p.unturned refl (q.live l) (q.unturned refl l e);
  stays = λ s. absurd (contrary refl s);
  items = λ l e item has. let there = q.items l e item has in let before = p.items (q.live l) (q.unturned refl l e) item there.0 in (before.0, there.1 ∙ before.1);
}

set_leads : (settles : Bool) (slots : List (Option Object)) (t : ℕ) (old : Object) (new : Option Object) → get_or slots t None ≡ Some old → Leads settles Never (Some old) new → (n : ℕ) → Leads settles Never (get_or slots n None) (get_or (set slots t new) n None)
set_leads settles [] t old new here leads n = cc
set_leads settles (s ∷ slots) zero old new here leads zero = subst (λ x. Leads settles Never x new) (sym here) leads
set_leads settles (s ∷ slots) zero old new here leads (suc n) = to_same settles Never (get_or slots n None)
set_leads settles (s ∷ slots) (suc t) old new here leads zero = to_same settles Never s
set_leads settles (s ∷ slots) (suc t) old new here leads (suc n) = set_leads settles slots t old new here leads n

push_leads : (settles : Bool) (Fresh : Object → Type 0) (a b : List (Option Object)) (new : Object) → length b ≡ length a → ((n : ℕ) → Leads settles Never (get_or a n None) (get_or b n None)) → new.settled ≡ false → Fresh new →
    (n : ℕ) → Leads settles Fresh (get_or a n None) (get_or (b ++ Some new ∷ []) n None)
push_leads settles Fresh [] [] new same all loose fresh zero = (loose, fresh)
push_leads settles Fresh [] [] new same all loose fresh (suc n) = tt
push_leads settles Fresh [] (y ∷ b) new same all loose fresh n = absurd (omega arith)
push_leads settles Fresh (x ∷ a) [] new same all loose fresh n = absurd (omega arith)
push_leads settles Fresh (x ∷ a) (y ∷ b) new same all loose fresh zero = lifted settles Fresh x y (all 0)
push_leads settles Fresh (x ∷ a) (y ∷ b) new same all loose fresh (suc n) = push_leads settles Fresh a b new (omega arith) (λ k. all (suc k)) loose fresh n

some_cond : (b : Bool) (o : Option PartValue) → is_some (cond b o None) ≡ true → cond b o None ≡ o
some_cond true o is = refl
some_cond false o is = cc

last_of : (x y z : Bool) → (x && y && z) ≡ true → z ≡ true
last_of true true z e = e
last_of true false z e = cc
last_of false y z e = cc

kept_item : (groups : List Group) (object : Object) (item : Item) → has_item (record object { parts = kept_parts groups object }) item ≡ true →
    (has_item object item ≡ true) × (row_in (record object { parts = kept_parts groups object }) item ≡ row_in object item)
kept_item groups object (main key) has = (has, refl)
kept_item groups object (part key n) has =
    let at = kept_part_at groups object n in
    let some : is_some (find nat_cmp n (kept_parts groups object)) ≡ true = last_of object.live _ (is_some (find nat_cmp n (kept_parts groups object))) has in
    let same : find nat_cmp n (kept_parts groups object) ≡ part_at object n = at ∙ some_cond _ (part_at object n) (ap is_some (sym at) ∙ some) in
    (ap (λ o. object.live && bytes_eq key object.key && is_some o) (sym same) ∙ has, ap (option_map (λ value. part_row key n value)) same)

left_to : (groups : List Group) (object : Object) → LeadsTo false object (record object { parts = kept_parts groups object })
left_to groups object = record { key = refl; live = λ l. l; unturned = λ s l e. e; stays = λ s l e. e; items = λ l e item has. kept_item groups object item has }

left_leads : (groups : List Group) (slot : Option Object) → Leads false Never slot (option_and_then (left_of groups) slot)
unfolding left_of
left_leads groups None = tt
left_leads groups (Some object) =
    elim (object.live && is_out groups (main object.key)) as (λ b. Leads false Never (Some object) (cond b None (Some (record object { parts = kept_parts groups object })))) [ true ↦ tt | false ↦ left_to groups object ]

-- what eviction units leave
without_leads : (groups : List Group) (state : State) (n : ℕ) → Leads false Never (object_at state n) (object_at (without groups state) n)
unfolding without
without_leads [] state n = to_same false Never (object_at state n)
without_leads (group ∷ groups) state n =
    subst (Leads false Never (object_at state n)) (sym (map_at (left_of (group ∷ groups)) state.objects n)) (left_leads (group ∷ groups) (object_at state n))

-- evictions leave as many slots
pub length-without : (groups : List Group) (state : State) → length (without groups state).objects ≡ length state.objects
unfolding without
length-without [] state = refl
length-without (group ∷ groups) state = length-map state.objects (option_and_then (left_of (group ∷ groups)))

-- an object that is dirty after, with its key and no more life than before
to_loose : (old new : Object) → new.key ≡ old.key → (new.live ≡ true → old.live ≡ true) → new.settled ≡ false → LeadsTo false old new
to_loose old new key live loose = record { key = key; live = live; unturned = λ s l e. absurd (contrary loose e); stays = λ s. absurd (contrary refl s); items = λ l e. absurd (contrary loose e) }

-- a doomed object
to_dead : (old new : Object) → new.key ≡ old.key → new.live ≡ false → LeadsTo false old new
to_dead old new key dead = record { key = key; live = λ l. absurd (contrary dead l); unturned = λ s l. absurd (contrary dead l); stays = λ s. absurd (contrary refl s); items = λ l. absurd (contrary dead l) }

doomed_slot_leads : (held : Bool) (object : Object) → Leads false Never (Some object) (doomed_slot held object)
doomed_slot_leads true object = to_dead object (record object { live = false; parts = [] }) refl refl
doomed_slot_leads false object = tt

doomed_leads : (number : ℕ) (state : State) (slot : Option Object) → object_at state number ≡ slot → (n : ℕ) → Leads false Never (object_at state n) (object_at (doomed number state slot) n)
unfolding doomed
doomed_leads number state None here n = to_same false Never (object_at state n)
doomed_leads number state (Some object) here n = set_leads false state.objects number object (doomed_slot (is_named state number) object) here (doomed_slot_leads (is_named state number) object) n

doomed_key_leads : (state : State) (found : Option ℕ) (n : ℕ) → Leads false Never (object_at state n) (object_at (doomed_key state found) n)
doomed_key_leads state None n = to_same false Never (object_at state n)
doomed_key_leads state (Some number) n = doomed_leads number state (object_at state number) refl n

settled_items : (object : Object) (item : Item) → has_item (record object { settled = true }) item ≡ true → (has_item object item ≡ true) × (row_in (record object { settled = true }) item ≡ row_in object item)
settled_items object (main key) has = (has, refl)
settled_items object (part key n) has = (has, refl)

to_settled : (object : Object) → LeadsTo true object (record object { settled = true })
to_settled object = record { key = refl; live = λ l. l; unturned = λ s. absurd (contrary s refl); stays = λ s l e. refl; items = λ l e item has. settled_items object item has }

released_slot_leads : (held live : Bool) (object : Object) → Leads true Never (Some object) (cond held (Some object) (cond live (Some (record object { settled = true })) None))
released_slot_leads true live object = to_self true object
released_slot_leads false true object = to_settled object
released_slot_leads false false object = tt

released_leads : (number : ℕ) (state : State) (slot : Option Object) → object_at state number ≡ slot → (n : ℕ) → Leads true Never (object_at state n) (object_at (released number state slot) n)
released_leads number state None here n = to_same true Never (object_at state n)
released_leads number state (Some object) here n = set_leads true state.objects number object (released_slot (is_named state number) object) here (released_slot_leads (is_named state number) object.live object) n

settled_leads : (number : ℕ) (state : State) (slot : Option Object) → object_at state number ≡ slot → (n : ℕ) → Leads true Never (object_at state n) (object_at (settled_at number state slot) n)
settled_leads number state None here n = to_same true Never (object_at state n)
settled_leads number state (Some object) here n = set_leads true state.objects number object (Some (record object { settled = true })) here (to_settled object) n

-- a write through a handle
written_leads : (state : State) (valid : IsValidState state) (handle stream offset : ℕ) (cut : Bool) (bytes : List ℕ) → names_none state handle ≡ false → (n : ℕ) → Leads false Never (object_at state n) (object_at (written handle stream offset cut bytes state) n)
unfolding written
written_leads state valid handle stream offset cut bytes bound n =
    let named = named_object state valid handle bound in
    let object = object_of state handle in
    let written_to = with_stream object stream (stream_after cut (stream_of object stream) offset bytes) in
    let new = record written_to { settled = false } in
    set_leads false state.objects (number_of state handle) object (Some new) (ap (object_at state) named.number_is ∙ named.here ∙ ap Some (sym named.object_is)) (to_loose object new refl (λ l. l) refl) n

sparse_after_leads : (moment : ℕ) (object : Object) (offset : ℕ) (bytes : List ℕ) → LeadsTo false object (sparse_after moment object offset bytes)
unfolding sparse_after
sparse_after_leads moment object offset [] = to_self false object
sparse_after_leads moment object offset (byte ∷ bytes) = to_loose object (sparse_after moment object offset (byte ∷ bytes)) refl (λ l. l) refl

sparse_written_leads : (state : State) (valid : IsValidState state) (moment handle offset : ℕ) (bytes : List ℕ) → names_none state handle ≡ false → (n : ℕ) → Leads false Never (object_at state n) (object_at (sparse_written moment handle offset bytes state) n)
unfolding sparse_written
sparse_written_leads state valid moment handle offset bytes bound n =
    let named = named_object state valid handle bound in
    let object = object_of state handle in
    set_leads false state.objects (number_of state handle) object (Some (sparse_after moment object offset bytes)) (ap (object_at state) named.number_is ∙ named.here ∙ ap Some (sym named.object_is)) (sparse_after_leads moment object offset bytes) n

-- whether a request is one that may make an object clean
abbrev pub may_settle : Request → Bool
may_settle (to_close handle) = true
may_settle (to_flush handle) = true
may_settle _ = false

-- no object of a state has the key of another
abbrev pub IsFresh : State → Object → Type 0
IsFresh state object = owners (main object.key) state.objects ≡ 0

bound_without : (groups : List Group) (state : State) (handle : ℕ) → names_none state handle ≡ false → names_none (without groups state) handle ≡ false
bound_without groups state handle bound = ap (λ names. no_name handle || is_none (slice_index_or names handle None)) (without_names groups state) ∙ bound

after_eviction : (state : State) (groups : List Group) (after : ℕ → Option Object) → ((n : ℕ) → Leads false Never (object_at (without groups state) n) (after n)) → (n : ℕ) → Leads false (IsFresh state) (object_at state n) (after n)
after_eviction state groups after leads n = lifted false (IsFresh state) (object_at state n) (after n) (through (object_at state n) (object_at (without groups state) n) (after n) (without_leads groups state n) (leads n))

effect_leads : (state : State) (valid : IsValidState state) (moment : ℕ) (request : Request) → first_refusal (refusals moment request state) ≡ None → (n : ℕ) →
    Leads (may_settle request) (IsFresh state) (object_at state n) (object_at (effect moment request (without (evicted moment request state) state)) n)
unfolding effect evicted refusals without opened sparse_used closed flushed created
effect_leads state valid moment (to_create handle key) accepted n =
    let groups = evicted moment (to_create handle key) state in
    let passed = none_comes (refusals moment (to_create handle key) state) accepted in
    push_leads false (IsFresh state) state.objects (without groups state).objects (new_object key) (length-without groups state) (without_leads groups state) refl (owners-first_none (main key) 0 state.objects (none_of (live_with state key) passed.1.1.1.0)) n
effect_leads state valid moment (to_open handle key) accepted n = to_same false (IsFresh state) (object_at state n)
effect_leads state valid moment (to_read handle stream offset count) accepted n = to_same false (IsFresh state) (object_at state n)
effect_leads state valid moment (to_write handle stream offset cut bytes) accepted n =
    let request = to_write handle stream offset cut bytes in
    let groups = evicted moment request state in
    let passed = none_comes (refusals moment request state) accepted in
    after_eviction state groups (object_at (written handle stream offset cut bytes (without groups state)))
    (written_leads (without groups state) (state_without state valid [] groups (room_for_is_loose moment request state)) handle stream offset cut bytes (bound_without groups state handle passed.0)) n
effect_leads state valid moment (to_size handle stream) accepted n = to_same false (IsFresh state) (object_at state n)
effect_leads state valid moment (to_sparse_write handle offset bytes) accepted n =
    let request = to_sparse_write handle offset bytes in
    let groups = evicted moment request state in
    let passed = none_comes (refusals moment request state) accepted in
    after_eviction state groups (object_at (sparse_written moment handle offset bytes (without groups state)))
    (sparse_written_leads (without groups state) (state_without state valid (covered request state) groups (room_for_is_loose moment request state)) moment handle offset bytes (bound_without groups state handle passed.0)) n
effect_leads state valid moment (to_sparse_read handle offset count) accepted n = to_same false (IsFresh state) (object_at state n)
effect_leads state valid moment (to_sparse_range handle offset count) accepted n = to_same false (IsFresh state) (object_at state n)
effect_leads state valid moment (to_doom handle) accepted n =
    lifted false (IsFresh state) (object_at state n) _ (doomed_leads (number_of state handle) state (object_at state (number_of state handle)) refl n)
effect_leads state valid moment (to_doom_key key) accepted n = lifted false (IsFresh state) (object_at state n) _ (doomed_key_leads state (live_with state key) n)
effect_leads state valid moment (to_close handle) accepted n =
    lifted true (IsFresh state) (object_at state n) _ (released_leads (number_of state handle) (with_name handle None state) (object_at state (number_of state handle)) refl n)
effect_leads state valid moment (to_flush handle) accepted n =
    lifted true (IsFresh state) (object_at state n) _ (settled_leads (number_of state handle) state (object_at state (number_of state handle)) refl n)
effect_leads state valid moment to_list accepted n = to_same false (IsFresh state) (object_at state n)
effect_leads state valid moment (to_trim bytes) accepted n = lifted false (IsFresh state) (object_at state n) _ (without_leads (evicted moment (to_trim bytes) state) state n)
effect_leads state valid moment to_total accepted n = to_same false (IsFresh state) (object_at state n)

-- what a command makes of each object
pub step_leads : (state : State) (valid : IsValidState state) (moment : ℕ) (request : Request) (n : ℕ) → Leads (may_settle request) (IsFresh state) (object_at state n) (object_at (step state moment request).state n)
unfolding step outcome
step_leads state valid moment request n =
    elim (refused moment request state) as (λ why. refused moment request state ≡ why → Leads (may_settle request) (IsFresh state) (object_at state n) (object_at (outcome moment request state why).state n)) [
      | Some why ↦ λ e. to_same (may_settle request) (IsFresh state) (object_at state n)
      | None ↦ λ e. effect_leads state valid moment request e n
    ] refl
