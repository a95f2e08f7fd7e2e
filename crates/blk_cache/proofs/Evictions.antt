-- Eviction units are evicted one after another: what is out while the loop runs.
use Rattle.std.proofs.Common.{◌≡◌, ◌⊎◌, ℕ, ◌+◌, ◌≤◌, Bool, true, false, not, ◌||◌, cond, List, [], ◌∷◌, ◌++◌, length, map, Option, Some, None, Result, Ok, Err, refl, sym, ap, subst, ◌∙◌, arith, inl, inr, append_assoc, append-nil, ⊎_elim}
use Rattle.std.specs.Option.{ForSome, option_map}
use Rattle.std.specs.List.{AllByRecursion, filter, flat_map}
use Rattle.std.specs.Str.{bytes_eq}
use Rattle.std.proofs.lemmas.Bool.{and_parts, cases_Bool}
use Rattle.std.proofs.lemmas.Grind.{flat_map-append}
use Rattle.std.proofs.lemmas.List.Elements.{filter-append}
use Rattle.std.proofs.lemmas.List.Sums.{sum_by-cons}
use Rattle.spec_image.specs.Image.{Image}
use Rattle.spec_image.specs.Steps.{after}
use Rattle.spec_image.specs.Told.{Passes, Told}
use Rattle.spec_image.proofs.Runs.{passes_none, passes_stayed, passes_then, passes_weaker, some_inj}
use Rattle.blk_io.specs.declared.fault.Damage.{Damage}
use Rattle.blk_io.specs.declared.fault.Fault.{Fault}
use Rattle.blk_io.specs.declared.fault.Fault.TheVariants.{Damaged, Device}
use Rattle.blk_io.specs.Faults.{IfDamaged}
use Rattle.blk_io.specs.Streams.{Appends}
use Rattle.blk_io.proofs.Carried.{if_damaged_weaker}
use Rattle.blk_model.specs.Holding.{rest}
use Rattle.blk_model.specs.Items.{Item, main, part, same_item}
use Rattle.blk_model.specs.Room.{Group, evicted_until, is_out, is_pinned, items, items_of_group, not_out, without}
use Rattle.blk_model.specs.State.{IsValidState, State}
use Rattle.blk_model.proofs.Same.{bytes_eq_self, one_item, same_bytes, same_item_self}
use Rattle.blk_script.specs.Reply.{evicted_line, evicted_text}
use Rattle.spec_folder.specs.Layout.{Layout, is_in, is_listed}
use Rattle.law_folder.proofs.commands.Removing.{in-filter}
use Rattle.blk_lru.specs.Lists.{first_node_of}
use Rattle.law_state.specs.Changes.{Finds}
use Rattle.law_state.proofs.CommandEnding.{groups-turn}
use Rattle.law_state.proofs.Keeping.{kept-held}
use Rattle.blk_object.specs.RemovingObjects.{FindsEither}
use Rattle.blk_object.proofs.MakingRoom.{uses-few}
use Rattle.blk_cache.specs.declared.cache.Cache.{Cache}
use Rattle.blk_evict.specs.declared.list_places.Unpinned.{Unpinned}
use Rattle.blk_cache.specs.declared.covered.Covered.{Covered}
use Rattle.blk_cache.specs.CacheKeeping.{HoldsState}
use Rattle.blk_cache.specs.Covering.{LieCovered, covers}
use Rattle.blk_cache.specs.Evicting.{IsEvicting, KeepsInPlaces, count_of_groups}
use Rattle.blk_evict.specs.RoomLaws.{AreAllPinned, AreOfNamed, IsOfNamed, MayGo, group_for}
use Rattle.blk_evict.specs.RoomPrinting.{PrintsUnlessFailed}
use Rattle.blk_evict.specs.ListPlaces.{IsLastAt, IsPinnedFrom}
use Rattle.blk_evict.proofs.RoomCounts.{counted-less}
use Rattle.blk_evict.proofs.RoomGroups.{covered-one, last-next, nothing-more, of-named-stay, others-next, pinned-before, without-none}
use Rattle.blk_evict.proofs.RoomTexts.{appends-after, appends-longer, none-printed, printed-on}

-- ---- what stays once an eviction unit is out

clash : true ≡ false → ⊥
clash h = cc

or-none : (b : Bool) → b ≡ false → (b || false) ≡ false
or-none true e = e
or-none false e = refl

-- an item that is pinned isn't in the eviction unit of one that isn't
stays : (state : State) (covered : List Item) (item : Item) (front : List Item) (other : Item) → AreOfNamed state covered → is_pinned state covered item ≡ false → is_pinned state covered other ≡ true → is_out (group_for item front ∷ []) other ≡ false
stays state covered (part key n) front (main other) named un pinned = refl
stays state covered (main key) front (main other) named un pinned = or-none (bytes_eq key other) (⊎_elim
    (λ (e : bytes_eq key other ≡ true). absurd (clash (sym pinned ∙ ap (λ (k : List ℕ). is_pinned state covered (main k)) (sym (same_bytes key other e)) ∙ un)))
    (λ (e : bytes_eq key other ≡ false). e)
    (cases_Bool (bytes_eq key other)))
stays state covered (main key) front (part other n) named un pinned = or-none (bytes_eq key other) (⊎_elim
    (λ (e : bytes_eq key other ≡ true).
    let its : is_pinned state [] (main other) ≡ true = covered-one (part other n) covered (IsOfNamed state) named pinned in
    absurd (clash (sym its ∙ ap (λ (k : List ℕ). is_pinned state [] (main k)) (sym (same_bytes key other e)) ∙ un)))
    (λ (e : bytes_eq key other ≡ false). e)
    (cases_Bool (bytes_eq key other)))
stays state covered (part key m) front (part other n) named un pinned = or-none (same_item (part key m) (part other n)) (⊎_elim
    (λ (e : same_item (part key m) (part other n) ≡ true). absurd (clash (sym pinned ∙ ap (is_pinned state covered) (sym (one_item (part key m) (part other n) e)) ∙ un)))
    (λ (e : same_item (part key m) (part other n) ≡ false). e)
    (cases_Bool (same_item (part key m) (part other n))))

or-true : (b : Bool) → b ≡ true → (b || false) ≡ true
or-true true e = refl
or-true false e = e

goes : (item : Item) (front : List Item) → is_out (group_for item front ∷ []) item ≡ true
goes (main key) front = or-true (bytes_eq key key) (bytes_eq_self key)
goes (part key n) front = or-true (same_item (part key n) (part key n)) (same_item_self (part key n))

filter-one : (p : Item → Bool) (item : Item) (items : List Item) (b : Bool) → p item ≡ b → filter p (item ∷ items) ≡ cond b (item ∷ filter p items) (filter p items)
filter-one p item items b e = ap (λ (c : Bool). cond c (item ∷ filter p items) (filter p items)) e

all-stay : (state : State) (covered : List Item) (item : Item) (front behind : List Item) → AreOfNamed state covered → is_pinned state covered item ≡ false → AllByRecursion (λ other. is_pinned state covered other ≡ true) behind → not_out (group_for item front ∷ []) behind ≡ behind
all-stay state covered item front [] named un all = refl
all-stay state covered item front (other ∷ behind) named un all =
    filter-one (λ i. not (is_out (group_for item front ∷ []) i)) other behind true (ap not (stays state covered item front other named un all.0)) ∙ ap (λ (is : List Item). other ∷ is) (all-stay state covered item front behind named un all.1)

all-pinned : (state : State) (covered : List Item) (item : Item) (front behind : List Item) → AreOfNamed state covered → is_pinned state covered item ≡ false → AllByRecursion (λ other. is_pinned state covered other ≡ true) behind → AllByRecursion (λ other. is_pinned (without (group_for item front ∷ []) state) covered other ≡ true) behind
all-pinned state covered item front [] named un all = tt
all-pinned state covered item front (other ∷ behind) named un all =
    (pinned-before state covered (group_for item front ∷ []) other (stays state covered item front other named un all.0) ∙ all.0, all-pinned state covered item front behind named un all.1)

left-uses : (state : State) (group : Group) → (without (group ∷ []) state).uses ≡ not_out (group ∷ []) state.uses
unfolding without
left-uses state group = refl

-- so from there on all are pinned once it is out
pub pinned-next : (state : State) (layout there : Layout) (covered : List Item) (found : Unpinned) → AreOfNamed state covered → (last : IsLastAt state layout covered found) → there.place ≡ layout.place → IsPinnedFrom (without (group_for last.goes.item last.goes.front ∷ []) state) there covered found.behind
pinned-next state layout there covered found named last same =
    let at = last.goes in
    record {
      front = not_out (group_for at.item at.front ∷ []) at.front;
      rest = at.rest;
      listed =
          left-uses state (group_for at.item at.front)
          ∙ ap (not_out (group_for at.item at.front ∷ [])) last.last.listed
          ∙ filter-append (λ (i : Item). not (is_out (group_for at.item at.front ∷ []) i)) at.front (at.item ∷ at.rest)
          ∙ ap (λ (is : List Item). not_out (group_for at.item at.front ∷ []) at.front ++ is)
          (filter-one (λ i. not (is_out (group_for at.item at.front ∷ []) i)) at.item at.rest false (ap not (goes at.item at.front))
          ∙ all-stay state covered at.item at.front at.rest named last.last.unpinned last.last.pinned_behind);
      pinned = all-pinned state covered at.item at.front at.rest named last.last.unpinned last.last.pinned_behind;
      next = last.next ∙ ap (λ (place : Item → ℕ). first_node_of (map place at.rest)) (sym same);
    }

-- the parts in range lie where they lay
pub lie-next : (state : State) (layout there : Layout) (covered front : List Item) (item : Item) (behind : List Item) (parts : Covered) → LieCovered state layout covered parts → MayGo state front item behind → there.place ≡ layout.place → LieCovered (without (group_for item front ∷ []) state) there covered parts
lie-next state layout there covered front item behind parts lie goes same = record {
  of_named = of-named-stay state covered front item behind lie.of_named goes;
  nodes = λ other listed.
      let both = and_parts (not (is_out (group_for item front ∷ []) other)) (is_listed state other) (sym (in-filter (λ i. not (is_out (group_for item front ∷ []) i)) state.uses other) ∙ sym (ap (λ (is : List Item). is_in is other) (left-uses state (group_for item front))) ∙ listed) in
      ap (λ (place : Item → ℕ). covers parts (place other)) same ∙ lie.nodes other both.1;
}

-- ---- counts and texts

pub count-more : (first : List Group) (group : Group) → count_of_groups (first ++ group ∷ []) ≡ count_of_groups first + length (items_of_group group)
count-more [] group = let e = sum_by-cons (λ (g : Group). length (items_of_group g)) group [] in omega (arith, e)
count-more (g ∷ first) group =
    let e = sum_by-cons (λ (g : Group). length (items_of_group g)) g (first ++ group ∷ []) in
    let d = sum_by-cons (λ (g : Group). length (items_of_group g)) g first in
    let more = count-more first group in
    omega (arith, e, d, more)

some-items : (item : Item) (front : List Item) → 1 ≤ length (items_of_group (group_for item front))
some-items (main key) front = omega arith
some-items (part key n) front = omega arith

pub text-both : (first others : List Group) → evicted_text (first ++ others) ≡ evicted_text first ++ evicted_text others
text-both first others = ap (flat_map evicted_line) (flat_map-append items_of_group first others) ∙ flat_map-append evicted_line (flat_map items_of_group first) (flat_map items_of_group others)

-- ---- the loop

-- a cache keeps a state with parts in range, in which the items are pinned from a node on
pub record KeepsFrom (cache : Cache) (state : State) (covered : List Item) (parts : Covered) (behind : Option ℕ) (image : Image) : Type 0 where
  pub kept : HoldsState cache state image
  pub lie : LieCovered state kept.layout covered parts
  pub pinned : IsPinnedFrom state kept.layout covered behind

-- so far the first eviction units are out, and printed
pub record HasEvicted (enough : State → Bool) (state : State) (covered : List Item) (parts : Covered) (old new : Cache) (behind : Option ℕ) (turns : ℕ) (told now : Told) (failed_before failed : Bool) (w0 w1 : Option (List ℕ)) : Type 0 where
  pub first : List Group
  pub others : List Group
  pub split : evicted_until enough state covered ≡ first ++ others
  pub image : Image
  pub there : now.files ≡ Some image
  pub at : KeepsFrom new (without first state) covered parts behind image
  pub count : old.items ≡ new.items + count_of_groups first
  pub turned : turns ≤ count_of_groups first
  pub prints : PrintsUnlessFailed failed_before failed w0 w1 (evicted_text first)
  pub passes : Passes told now (IsEvicting (evicted_until enough state covered) state)

pub none-finds : (cache : Cache) (state : State) (image : Image) → HoldsState cache state image → Finds (rest state) image
none-finds cache state image k = (k.kept.entries.sound, kept-held state k.layout [] image k.kept.entries)

pub none-yet : (enough : State → Bool) (state : State) (covered : List Item) (parts : Covered) (cache : Cache) (told : Told) (failed : Bool) (w : Option (List ℕ)) (image : Image) → told.files ≡ Some image → (k : HoldsState cache state image) → LieCovered state k.layout covered parts → HasEvicted enough state covered parts cache cache None 0 told told failed failed w w
none-yet enough state covered parts cache told failed w image there k lie =
    record {
      first = [];
      others = evicted_until enough state covered;
      split = refl;
      image = image;
      there = there;
      at = subst (λ (s : State). KeepsFrom cache s covered parts None image) (sym (without-none state)) (record {
        kept = k;
        lie = lie;
        pinned = record { front = state.uses; rest = []; listed = sym (append-nil state.uses); pinned = tt; next = refl };
      });
      count = omega arith;
      turned = omega arith;
      prints = none-printed failed w;
      passes = passes_none {a = told} {b = told} (IsEvicting (evicted_until enough state covered) state) refl
          (λ other is. record {
            first = [];
            others = evicted_until enough state covered;
            split = refl;
            finds = subst (λ (s : State). Finds (rest s) other) (sym (without-none state)) (subst (Finds (rest state)) (some_inj (sym there ∙ is)) (none-finds cache state image k));
          });
    }

module _ (enough : State → Bool) (state : State) (covered : List Item) (parts : Covered) (valid : IsValidState state) (old new : Cache) (behind : Option ℕ) (turns : ℕ) (told now : Told) (failed_before failed : Bool) (w0 w1 : Option (List ℕ)) (h : HasEvicted enough state covered parts old new behind turns told now failed_before failed w0 w1) where
  others-are : evicted_until enough (without h.first state) covered ≡ h.others
  others-are = others-next enough state covered h.first h.others valid h.split

  -- all that is to be evicted is out
  pub all-gone : (enough (without h.first state) ≡ true) ⊎ AreAllPinned (without h.first state) covered → evicted_until enough state covered ≡ h.first
  all-gone why = h.split ∙ ap (λ (gs : List Group). h.first ++ gs) (sym others-are ∙ nothing-more enough (without h.first state) covered why) ∙ append-nil h.first

  -- as many items as there were are evicted, so none is left
  pub ran-out : old.items ≤ turns → AreAllPinned (without h.first state) covered
  ran-out enough_turns =
      let few = uses-few (without h.first state) h.at.kept.layout [] h.image h.at.kept.kept.entries in
      let are = h.at.kept.items_are in
      let count = h.count in
      let turned = h.turned in
      none-left (without h.first state).uses (omega (arith, few, are, count, turned, enough_turns))
    where
      none-left : (uses : List Item) → length uses ≤ 0 → AllByRecursion (λ item. is_pinned (without h.first state) covered item ≡ true) uses
      none-left [] few = tt
      none-left (i ∷ uses) few = absurd (omega (arith, few))

  -- what holds in the end
  module _ (done : evicted_until enough state covered ≡ h.first) where
    pub gone-kept : ForSome now.files (HoldsState new (without (evicted_until enough state covered) state))
    gone-kept image there = subst (λ (gs : List Group). HoldsState new (without gs state) image) (sym done) (subst (HoldsState new (without h.first state)) (some_inj (sym h.there ∙ there)) h.at.kept)

    pub gone-count : old.items ≡ new.items + count_of_groups (evicted_until enough state covered)
    gone-count = subst (λ (gs : List Group). old.items ≡ new.items + count_of_groups gs) (sym done) h.count

    pub gone-prints : PrintsUnlessFailed failed_before failed w0 w1 (evicted_text (evicted_until enough state covered))
    gone-prints = subst (λ (gs : List Group). PrintsUnlessFailed failed_before failed w0 w1 (evicted_text gs)) (sym done) h.prints

  pub so-far-front : Appends w0 w1 (evicted_text (evicted_until enough state covered))
  so-far-front = subst (Appends w0 w1) (sym (ap evicted_text h.split ∙ text-both h.first h.others)) (appends-longer w0 w1 (evicted_text h.first) (evicted_text h.others) h.prints.front)

  pub so-far-passes : (later : Told) → later ≡ now → Passes told later (IsEvicting (evicted_until enough state covered) state)
  so-far-passes later same = subst (λ (t : Told). Passes told t (IsEvicting (evicted_until enough state covered) state)) (sym same) h.passes

  -- the next eviction unit
  module _ (wants : enough (without h.first state) ≡ false) (found : Unpinned) (last : IsLastAt (without h.first state) h.at.kept.layout covered found) where
    abbrev pub group : Group
    group = group_for last.goes.item last.goes.front

    abbrev between : State
    between = without h.first state

    abbrev later : List Group
    later = evicted_until enough (without (group ∷ []) between) covered

    next-is : h.others ≡ group ∷ later
    next-is = sym others-are ∙ last-next enough between covered last.goes.front last.goes.item last.goes.rest h.at.kept.kept.entries.valid last.last wants

    split-is : evicted_until enough state covered ≡ (h.first ++ group ∷ []) ++ later
    split-is = h.split ∙ ap (λ (gs : List Group). h.first ++ gs) next-is ∙ sym (append_assoc h.first (group ∷ []) later)

    turn-is : without (group ∷ []) between ≡ without (h.first ++ group ∷ []) state
    turn-is = groups-turn state h.first (group ∷ [])

    either-is : (image : Image) → FindsEither between (without (group ∷ []) between) image → IsEvicting (evicted_until enough state covered) state image
    either-is image (inl finds) = record { first = h.first; others = h.others; split = h.split; finds = finds }
    either-is image (inr finds) = record { first = h.first ++ group ∷ []; others = later; split = split-is; finds = subst (λ (s : State). Finds (rest s) image) turn-is finds }

    pub next-passes : (mid later_now : Told) → mid ≡ now → Passes mid later_now (FindsEither between (without (group ∷ []) between)) → Passes told later_now (IsEvicting (evicted_until enough state covered) state)
    next-passes mid later_now same more = passes_then h.passes (passes_stayed same (passes_weaker more either-is either-is))

    -- where it is being evicted, a prefix of the text
    pub next-front : (w2 : Option (List ℕ)) → (failed ≡ true → w2 ≡ w1) → Appends w1 w2 (evicted_text (group ∷ [])) → Appends w0 w2 (evicted_text (evicted_until enough state covered))
    next-front w2 quiet more =
        let so : Appends w0 w2 (evicted_text h.first ++ evicted_text (group ∷ [])) = appends-after failed_before failed w0 w1 w2 (evicted_text h.first) (evicted_text (group ∷ [])) h.prints quiet more in
        subst (Appends w0 w2) (sym (ap evicted_text split-is ∙ text-both (h.first ++ group ∷ []) later)) (appends-longer w0 w2 (evicted_text (h.first ++ group ∷ [])) (evicted_text later) (subst (Appends w0 w2) (sym (text-both h.first (group ∷ []))) so))

    -- once it is out
    pub next-out : (mid later_now : Told) (left : Cache) (failed_now : Bool) (w2 : Option (List ℕ)) → mid ≡ now → Passes mid later_now (FindsEither between (without (group ∷ []) between)) → ForSome later_now.files (KeepsInPlaces left (without (group ∷ []) between) h.at.kept.layout) → PrintsUnlessFailed failed failed_now w1 w2 (evicted_text (group ∷ []))
        → HasEvicted enough state covered parts old left found.behind (turns + 1) told later_now failed_before failed_now w0 w2
    next-out mid later_now left failed_now w2 same more kept prints =
        let p = passes_stayed same more in
        let there : later_now.files ≡ Some (after p.steps h.image) = p.applies.files ∙ ap (option_map (after p.steps)) h.there in
        let k : KeepsInPlaces left (without (group ∷ []) between) h.at.kept.layout (after p.steps h.image) = kept (after p.steps h.image) there in
        let less = counted-less between last.goes.front last.goes.item last.goes.rest h.at.kept.kept.entries.valid last.goes.goes in
        let fewer = less.items_left in
        let were = h.at.kept.items_are in
        let are = k.kept.items_are in
        let count = h.count in
        let turned = h.turned in
        let one = some-items last.goes.item last.goes.front in
        let both = count-more h.first group in
        record {
          first = h.first ++ group ∷ [];
          others = later;
          split = split-is;
          image = after p.steps h.image;
          there = there;
          at = subst (λ (s : State). KeepsFrom left s covered parts found.behind (after p.steps h.image)) turn-is (record {
            kept = k.kept;
            lie = lie-next between h.at.kept.layout k.kept.layout covered last.goes.front last.goes.item last.goes.rest parts h.at.lie last.goes.goes k.places;
            pinned = pinned-next between h.at.kept.layout k.kept.layout covered found h.at.lie.of_named last k.places;
          });
          count = omega (arith, fewer, were, are, count, both);
          turned = omega (arith, turned, one, both);
          prints = subst (λ (text : List ℕ). PrintsUnlessFailed failed_before failed_now w0 w2 text) (sym (text-both h.first (group ∷ []))) (printed-on failed_before failed failed_now w0 w1 w2 (evicted_text h.first) (evicted_text (group ∷ [])) h.prints prints);
          passes = next-passes mid later_now same more;
        }

-- ---- failed checks

any-damaged : {A : Type 0} (result : Result A Fault) (P : Damage → Type 0) → ((damage : Damage) → P damage) → IfDamaged result P
any-damaged (Ok x) P all = tt
any-damaged (Err Device) P all = tt
any-damaged (Err (Damaged damage)) P all = all damage

none-some : (image : Image) → ◌≡◌ {A = Option Image} (Some image) None → ⊥
none-some image e = cc

-- where a call after another one reports corruption of an opaque folder alone, the folder was opaque before both
pub untold-on : {A : Type 0} (result : Result A Fault) (told now : Told) (P : Image → Type 0) → (told.files ≡ None → now.files ≡ None) → ((from : Image) → told.files ≡ Some from → (image : Image) × (now.files ≡ Some image) × P image)
    → (ForSome now.files P → IfDamaged result (λ _. now.files ≡ None)) → IfDamaged result (λ _. told.files ≡ None)
untold-on {A} result told now P silent holds call = go told.files refl where
  go : (o : Option Image) → told.files ≡ o → IfDamaged result (λ _. told.files ≡ None)
  go None e = if_damaged_weaker result (λ _. now.files ≡ None) (λ _. told.files ≡ None) (λ damage none. e) (call (λ image there. absurd (none-some image (sym there ∙ silent e))))
  go (Some from) e =
      let h = holds from e in
      if_damaged_weaker result (λ _. now.files ≡ None) (λ _. told.files ≡ None) (λ damage none. absurd (none-some h.0 (sym h.1 ∙ none))) (call (λ image there. subst P (some_inj (sym h.1 ∙ there)) h.2))

-- a call that reports no corruption where its premise holds
pub untold-where : {A : Type 0} (result : Result A Fault) (told : Told) (P : Image → Type 0) → ForSome told.files P → ForSome told.files (λ from. P from → IfDamaged result (λ _. told.files ≡ None)) → IfDamaged result (λ _. told.files ≡ None)
untold-where {A} result told P holds call = go told.files refl where
  go : (o : Option Image) → told.files ≡ o → IfDamaged result (λ _. told.files ≡ None)
  go None e = any-damaged result (λ _. told.files ≡ None) (λ damage. e)
  go (Some from) e = call from e (holds from e)
