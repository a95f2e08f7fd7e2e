-- A new part of an object: what is to be listed, once its record is written.
use Rattle.std.proofs.Common.{◌≡◌, ⊎_elim, ℕ, zero, suc, ◌+◌, ◌<◌, ◌≤◌, List, [], ◌∷◌, ◌++◌, length, set, get_or, cond, Bool, true, false, Option, None, Some, refl, sym, ◌∙◌, ap, subst, lit<, arith}
use Rattle.std.specs.Prelude.{◌==◌, ◌||◌, filter, is_some, nat_le, nat_lt, not, if◌then◌else◌, slice_set, unwrap_or}
use Rattle.std.specs.Cmp.Derive.{both_true}
use Rattle.std.specs.Int.{cast_unsigned, w64}
use Rattle.std.specs.List.{list_any}
use Rattle.std.specs.Str.{bytes_eq}
use Rattle.std.proofs.lemmas.Bool.{cases_Bool, eq-eqb, eqb-true, le-leb, or_left}
use Rattle.std.proofs.lemmas.Bool.Decides.{nat_tests}
use Rattle.std.proofs.lemmas.List.{length-map}
use Rattle.std.proofs.lemmas.Nat.{mod_below}
use Rattle.std.proofs.lemmas.Slice.Eq.{bytes_eq-Decides}
use Rattle.spec_image.specs.Image.{Image}
use Rattle.blk_model.specs.Effects.{used}
use Rattle.blk_model.specs.Holding.{rest}
use Rattle.blk_model.specs.Items.{IsBytes, IsPartValue, Item, LiesInside, PartValue, Presence, Row, Shape, is_sparse, main, main_row, part, part_row, plain, same_item, sparse, times}
use Rattle.blk_model.specs.Sizes.{part_count, part_size, signatures}
use Rattle.blk_model.specs.Sparse.{empty_part, part_after}
use Rattle.blk_model.specs.State.{IsObject, IsValidState, Object, State, object_at, part_at}
use Rattle.blk_model.specs.Holding as model
use Rattle.blk_model.proofs.PartValues.{empty_part_is, part_after_is}
use Rattle.blk_model.proofs.Same.{same_item_self}
use Rattle.blk_model.proofs.States.{if_some_is}
use Rattle.blk_model.proofs.Times.{times-cons}
use Rattle.spec_format.specs.Claims.{Claim, claims_of, claims_of_all, has_claim, repeats}
use Rattle.spec_format.specs.Hash.{hash}
use Rattle.spec_format.specs.Names.{Name, read_name}
use Rattle.spec_format.specs.SparseIndex.{ParentIndex}
use Rattle.spec_format.proofs.NameLemmas.{reads_names}
use Rattle.spec_folder.specs.Chains.{bucket_of_hash}
use Rattle.spec_folder.specs.Creation.{with_first}
use Rattle.spec_folder.specs.Entries.{IsParent, IsPart, Role, part_role, stream}
use Rattle.spec_folder.specs.Found.{row_of_loaded, row_with}
use Rattle.spec_folder.specs.Audit.{is_parent_of}
use Rattle.spec_folder.specs.Layout.{IsPartAt, Layout, OneChanged, is_in, is_listed}
use Rattle.spec_folder.specs.Loads.{Loaded, all_claims}
use Rattle.spec_folder.specs.Sound.{words_of}
use Rattle.spec_folder.specs.View.{view_of}
use Rattle.law_folder.proofs.claims.Allocations.{flat_map-append, repeats-head, words-claims}
use Rattle.law_folder.proofs.claims.ClaimLists.{claim-append}
use Rattle.law_folder.proofs.states.Changing.{at-elsewhere, at-itself}
use Rattle.law_folder.proofs.states.Settling.{main-listed}
use Rattle.blk_ranges.specs.declared.names.ChildName.{ChildName}
use Rattle.blk_ranges.specs.PartMaps.{presence_in}
use Rattle.law_state.specs.CommandStates.{IsUnsettled, amidst}
use Rattle.law_state.specs.Keeping.{KeepsUncounted}
use Rattle.law_state.specs.NewPartLaws.{IsPartWritten, with_bit}
use Rattle.law_state.specs.PartStates.{with_object, with_value}
use Rattle.law_state.proofs.NewParts.{noted-changes}
use Rattle.law_state.proofs.NotAtRest.{own-uses, unsettled-rest}
use Rattle.law_state.proofs.PartChanges.{new-parts-keep-valid, parts-change-alone}
use Rattle.blk_object.proofs.WrittenObjects.{IsRowOf, object-row}
use Rattle.blk_stream.specs.Loading.{stored_streams_with}
use Rattle.blk_sparse.specs.NewParts.{CanHavePart, IsFirstIndex, IsPartToBeListed, KeepsPart, index_with_bit, new_part, with_noted, words_of_part}
use Rattle.blk_sparse.specs.SparseObjects.{KeepsParent, with_piece_written}
use Rattle.blk_sparse.specs.declared.new_part.PartPlaces.{PartPlaces}
use Rattle.blk_sparse.proofs.NewRoles.{covered, part-role-is, row-is}

-- ---- rows of main items

abbrev key-in : Row → List ℕ
key-in (main_row key shape streams) = key
key-in (part_row key n value) = key

abbrev shape-in : Row → Shape
shape-in (main_row key shape streams) = shape
shape-in (part_row key n value) = plain

-- ---- lists of items

-- what is listed is there once at least
in-times : (item : Item) (uses : List Item) → is_in uses item ≡ true → 1 ≤ times item uses
in-times item [] h = absurd (let z : false ≡ true = h in cc)
in-times item (x ∷ uses) h = go (same_item item x) refl h (in-times item uses) where
  go : (t : Bool) → same_item item x ≡ t → (t || list_any (same_item item) uses) ≡ true → (is_in uses item ≡ true → 1 ≤ times item uses) → 1 ≤ times item (x ∷ uses)
  go true e h later = let c : times item (x ∷ uses) ≡ 1 + times item uses = times-cons item x uses ∙ ap (λ (b : Bool). cond b 1 0 + times item uses) e in omega (arith, c)
  go false e h later = let c : times item (x ∷ uses) ≡ 0 + times item uses = times-cons item x uses ∙ ap (λ (b : Bool). cond b 1 0 + times item uses) e in let more = later h in omega (arith, c, more)

-- an item that is not listed is accessed by being put in front
used-new : (item : Item) (uses : List Item) → is_in uses item ≡ false → filter (λ other. not (same_item item other)) uses ≡ uses
used-new item [] h = refl
used-new item (x ∷ uses) h = go (same_item item x) refl h (used-new item uses) where
  go : (t : Bool) → same_item item x ≡ t → (t || list_any (same_item item) uses) ≡ false → (is_in uses item ≡ false → filter (λ other. not (same_item item other)) uses ≡ uses) → filter (λ other. not (same_item item other)) (x ∷ uses) ≡ x ∷ uses
  go true e h later = absurd (let z : true ≡ false = h in cc)
  go false e h later = rw e (ap (λ (xs : List Item). x ∷ xs) (later h))

pub set-self : (slots : List (Option Object)) (i : ℕ) (o : Option Object) → get_or slots i None ≡ o → (x : Object) → o ≡ Some x → set slots i o ≡ slots
set-self [] i o e x is = refl
set-self (s ∷ slots) zero o e x is = ap (λ (y : Option Object). y ∷ slots) (sym e)
set-self (s ∷ slots) (suc i) o e x is = ap (λ (ys : List (Option Object)). s ∷ ys) (set-self slots i o e x is)

module _ (state : State) (layout : Layout) (unlinked : List ℕ) (number : ℕ) (object : Object) (node parent : ℕ) (child : ChildName) (name : List ℕ) (place : ℕ) (piece : List ℕ) (from : Image) (can : CanHavePart state layout unlinked number object node parent child name from)
    (small : cast_unsigned w64 child.signature < signatures) (below : child.part < part_count) (are : IsBytes piece) (most : place + length piece ≤ part_size) where
  abbrev pub n : ℕ
  n = child.part

  abbrev pub key : List ℕ
  key = object.key

  abbrev pub p : KeepsParent state layout unlinked number object node parent (cast_unsigned w64 child.signature) from
  p = can.grows.parent

  abbrev pub was : Loaded
  was = can.grows.parent.was

  abbrev pub index : ParentIndex
  index = can.grows.parent.index

  abbrev pub value : PartValue
  value = part_after empty_part place piece

  abbrev pub other : Object
  other = with_value object child.part (part_after empty_part place piece)

  abbrev pub objects : List (Option Object)
  objects = slice_set state.objects number (Some (with_value object child.part (part_after empty_part place piece)))

  abbrev pub seen : Loaded
  seen = with_noted can.grows.parent.was can.grows.parent.index child.part

  pub valid : IsValidState state
  valid = p.kept.valid

  value-is : IsPartValue (part_after empty_part place piece)
  value-is = part_after_is empty_part place piece are empty_part_is most

  unsettled : IsUnsettled object object.key
  unsettled = record { key_is = refl; live = p.live; unsettled = can.grows.unsettled }

  of-object : IsRowOf object can.grows.parent.was
  of-object = object-row state layout unlinked from p.kept number object p.here was
      (ap (λ (b : Bool). layout.at (if b then layout.place (main object.key) else layout.place_of_doomed number)) p.live ∙ p.lies)

  its-row : row_with was.key (IsParent can.grows.parent.index) was.streams ≡ main_row object.key object.shape object.streams
  its-row = ap (λ (r : Role). row_with was.key r was.streams) (sym p.role) ∙ of-object.row

  pub key-is : can.grows.parent.was.key ≡ object.key
  key-is = ap key-in its-row

  shape-is : sparse can.grows.parent.index.signature ≡ object.shape
  shape-is = ap shape-in its-row

  is-object : IsObject object
  is-object = if_some_is (object_at state number) IsObject object p.here (valid.objects number)

  is-sparse : is_sparse object.shape ≡ true
  is-sparse = ap is_sparse (sym shape-is)

  pub valid-after : IsValidState (with_first state (slice_set state.objects number (Some (with_value object child.part (part_after empty_part place piece)))) (part object.key child.part))
  valid-after = new-parts-keep-valid state valid number object p.here unsettled is-sparse n value below value-is can.missing

  pub listed : is_listed state (main object.key) ≡ true
  listed = main-listed state valid number object true p.here p.live

  pub unlisted : is_listed state (part object.key child.part) ≡ false
  unlisted = ⊎_elim
      (λ (e : is_in state.uses (part object.key child.part) ≡ true).
      let here = in-times (part key n) state.uses e in
      let once = valid-after.once (part key n) in
      let more : times (part key n) (part key n ∷ state.uses) ≡ 1 + times (part key n) state.uses = times-cons (part key n) (part key n) state.uses ∙ ap (λ (b : Bool). cond b 1 0 + times (part key n) state.uses) (same_item_self (part key n)) in
      absurd (omega (arith, here, once, more)))
      (λ (e : is_in state.uses (part object.key child.part) ≡ false). e)
      (cases_Bool (is_in state.uses (part object.key child.part)))

  -- ---- its name and its role

  abbrev pub its-name : Name
  its-name = record { key = object.key; signature = cast_unsigned w64 child.signature; part = child.part }

  pub read : read_name name ≡ Some (record { key = object.key; signature = cast_unsigned w64 child.signature; part = child.part })
  read = (reads_names name its-name).1 (record {
    fits =
        let some = is-object.key.some in
        let short = is-object.key.short in
        let a : nat_lt 0 (length key) ≡ true = grind (arith, nat_tests) in
        let b : nat_le (length key) 32768 ≡ true = le-leb (length key) 32768 short in
        let c : nat_lt (cast_unsigned w64 child.signature) signatures ≡ true = grind (arith, nat_tests) in
        let d : nat_lt child.part 65536 ≡ true = grind (arith, nat_tests) in
        rw (a, b, c, d) refl;
    printed = can.named;
  })

  -- ---- the durable contents

  pub same-rest : rest (with_first state (slice_set state.objects number (Some (with_value object child.part (part_after empty_part place piece)))) (part object.key child.part)) ≡ rest state
  same-rest =
      unsettled-rest state number object other object (part key n ∷ state.uses) state.uses valid p.here p.live (record { key_is = refl; live = p.live; unsettled = can.grows.unsettled }) unsettled (own-uses state key (part key n) state.uses refl refl).0 refl
      ∙ ap (λ (slots : List (Option Object)). rest (record state { objects = slots })) (set-self state.objects number (Some object) p.here object refl)

  -- ---- the state in the end

  pub in-front : with_first state (slice_set state.objects number (Some (with_value object child.part (part_after empty_part place piece)))) (part object.key child.part) ≡ with_piece_written state number object child.part place piece
  in-front = go (part_at object child.part) can.missing where
    go : (o : Option PartValue) → is_some o ≡ false → with_first state objects (part key n) ≡ amidst state number (with_value object n (part_after (unwrap_or o empty_part) place piece)) (used (part key n) state.uses)
    go None e = ap (λ (uses : List Item). record state { objects = objects; uses = part key n ∷ uses }) (sym (used-new (part key n) state.uses unlisted))
    go (Some v) e = absurd (let z : true ≡ false = e in cc)

  -- ---- what is written

  module _ (places : PartPlaces) (map : List ℕ) (first : IsFirstIndex (cast_unsigned w64 child.signature) child.key_len place (length piece) map) where
    abbrev pub role : Role
    role = IsPart (record { key = object.key; signature = cast_unsigned w64 child.signature; part = child.part }) first.index

    abbrev pub l : Loaded
    l = new_part places name (part_after empty_part place piece).bytes map (IsPart (record { key = object.key; signature = cast_unsigned w64 child.signature; part = child.part }) first.index)

    pub few-bytes : length (part_after empty_part place piece).bytes ≤ part_size
    few-bytes = value-is.fits

    its-presence : presence_in first.index ≡ (part_after empty_part place piece).presence
    unfolding part_after
    its-presence = first.present

    pub role-is : part_role name ([] ∷ (part_after empty_part place piece).bytes ∷ map ∷ []) ≡ Some (IsPart (record { key = object.key; signature = cast_unsigned w64 child.signature; part = child.part }) first.index)
    role-is = part-role-is name key (cast_unsigned w64 child.signature) n value.bytes map first.index read first.is first.signature_is (first.key_len_is ∙ can.key_len) few-bytes
        (covered first.index (length value.bytes) (subst (λ (q : Presence). LiesInside q (length value.bytes)) (sym its-presence) value-is.inside))

    row : row_of_loaded (new_part places name (part_after empty_part place piece).bytes map (IsPart (record { key = object.key; signature = cast_unsigned w64 child.signature; part = child.part }) first.index)) ≡ part_row object.key child.part (part_after empty_part place piece)
    row = row-is name its-name first.index place piece map first.present

    module _ (mid : Image) (keeps : KeepsPart state layout unlinked places (new_part places name (part_after empty_part place piece).bytes map (IsPart (record { key = object.key; signature = cast_unsigned w64 child.signature; part = child.part }) first.index)) mid)
        (words : words_of (new_part places name (part_after empty_part place piece).bytes map (IsPart (record { key = object.key; signature = cast_unsigned w64 child.signature; part = child.part }) first.index)) ≡ words_of_part places) (items_few : length state.uses < 131072) where
      kept : KeepsUncounted state layout (words_of l ++ unlinked) mid
      kept = subst (λ (ws : List ℕ). KeepsUncounted state layout (ws ++ unlinked) mid) (sym words) keeps.kept

      its-claims : claims_of_all (words_of l) ≡ all_claims l
      its-claims = words-claims l

      nobodys : (claim : Claim) → has_claim (all_claims l) claim ≡ true → layout.owner claim ≡ None
      nobodys claim has = kept.unlinked_words.free claim (ap (λ (cs : List Claim). has_claim cs claim) (flat_map-append claims_of (words_of l) unlinked) ∙ claim-append (claims_of_all (words_of l)) (claims_of_all unlinked) claim
          ∙ or_left (has_claim (claims_of_all (words_of l)) claim) (has_claim (claims_of_all unlinked) claim) (ap (λ (cs : List Claim). has_claim cs claim) its-claims ∙ has))

      once : repeats (all_claims l) ≡ false
      once = ap repeats (sym its-claims) ∙ repeats-head (claims_of_all (words_of l)) (claims_of_all unlinked) (ap repeats (sym (flat_map-append claims_of (words_of l) unlinked)) ∙ kept.unlinked_words.single)

      node-apart : (layout.place (main object.key) == places.places.node) ≡ false
      node-apart = ⊎_elim
          (λ (e : (layout.place (main object.key) == places.places.node) ≡ true).
          absurd (let z : ◌≡◌ {A = Option Loaded} None (Some was) = sym keeps.nobodys.nobody ∙ ap layout.at (sym (eqb-true (layout.place (main object.key)) places.places.node e)) ∙ p.lies in cc))
          (λ (e : (layout.place (main object.key) == places.places.node) ≡ false). e)
          (cases_Bool (layout.place (main object.key) == places.places.node))

      at-parent : (with_bit layout object.key (with_noted can.grows.parent.was can.grows.parent.index child.part)).at (layout.place (main object.key)) ≡ Some (with_noted can.grows.parent.was can.grows.parent.index child.part)
      at-parent = at-itself layout.at (layout.place (main key)) (Some seen)

      of-parent : is_parent_of its-name seen ≡ true
      of-parent =
          let a : bytes_eq was.key key ≡ true = (bytes_eq-Decides was.key key).1 key-is in
          let b : (index.signature == cast_unsigned w64 child.signature) ≡ true = eq-eqb index.signature (cast_unsigned w64 child.signature) p.same in
          both_true (both_true a b) (or_left (n == n) (index.has_part n) (eq-eqb n n refl))

      is-part : IsPartAt state (with_bit layout object.key (with_noted can.grows.parent.was can.grows.parent.index child.part)) object.key l
      is-part = record { name = its-name; index = first.index; role = refl; of_key = refl; listed = listed; parent = seen; at_parent = at-parent; of = of-parent }

      alone : OneChanged state objects (part object.key child.part) × (model.row_of (with_object state number (with_value object child.part (part_after empty_part place piece))) (part object.key child.part) ≡ Some (part_row object.key child.part (part_after empty_part place piece)))
      alone = parts-change-alone state valid number object p.here p.live n value

      written : IsPartWritten (view_of mid) state objects layout object.key child.part was seen l
      unfolding stored_streams_with
      written = record {
        represents = kept.represents;
        valid = valid;
        valid_after = valid-after;
        listed = listed;
        at_parent = p.lies;
        noted = noted-changes state layout key was index n (stored_streams_with 2 (index_with_bit (stream 2 was.streams) n) was.streams) kept.represents.holds.lies listed p.lies p.role refl;
        same_dirty = refl;
        unsettled = of-object.mark ∙ can.grows.unsettled;
        changed = alone.0;
        new = record {
          unlisted = unlisted;
          row = alone.1 ∙ ap Some (sym row);
          mark = refl;
          parent = is-part;
          nobody = at-elsewhere layout.at (layout.place (main key)) (Some seen) places.places.node node-apart ∙ keeps.nobodys.nobody;
          free = nobodys;
          single = once;
        };
        loads = keeps.there.loads;
        prefix = record { follows = keeps.there.follows; fresh = keeps.nobodys.fresh (bucket_of_hash (hash name)) (mod_below (hash name) 65536 (lit< tt)) };
        good = keeps.there.good;
        few = subst (λ (m : ℕ). m < 131072) (sym (length-map state.uses layout.place)) items_few;
      }

      pub to-be-listed : IsPartToBeListed state objects layout unlinked object.key child.part was seen l mid
      to-be-listed = record { kept = kept; written = written; sealed = keeps.there.sealed; same_rest = same-rest }
