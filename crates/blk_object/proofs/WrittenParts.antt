-- A stream of a part of a dirty object is written: what lies at its node.
use Rattle.std.proofs.Common.{◌≡◌, ℕ, List, ◌++◌, refl, ap, sym, ◌∙◌, subst, arith, Bool, true, false, cond, Some}
use Rattle.std.specs.List.Sorted.{IsPermutation}
use Rattle.std.proofs.lemmas.Bool.{or_left}
use Rattle.spec_image.specs.Image.{Image}
use Rattle.spec_image.proofs.Runs.{some_inj}
use Rattle.blk_model.specs.Holding as model
use Rattle.blk_model.specs.Items.{PartValue, part, part_row}
use Rattle.blk_model.specs.State.{IsValidState, Object, State, has_item, object_at, part_at}
use Rattle.blk_model.proofs.Owners.{only_owner}
use Rattle.blk_model.proofs.Same.{bytes_eq_self}
use Rattle.spec_format.specs.BlockFiles.{is_among}
use Rattle.spec_format.specs.Claims.{Claim}
use Rattle.spec_format.specs.Names.{Name, read_name}
use Rattle.spec_format.proofs.Among.{is_among-append}
use Rattle.spec_folder.specs.Audit.{is_parent_of}
use Rattle.spec_folder.specs.Entries.{IsPart, Role, part_role}
use Rattle.spec_folder.specs.Footprint.{IsReplaced}
use Rattle.spec_folder.specs.Found.{row_of_loaded, row_with}
use Rattle.spec_folder.specs.Layout.{IsPartAt, IsPlacedAt, Layout, is_listed, order, rule_of}
use Rattle.spec_folder.specs.Loads.{Loaded}
use Rattle.spec_folder.specs.Sound.{AreSealed, words_of}
use Rattle.spec_folder.specs.Tidy.{doomed_nodes}
use Rattle.spec_folder.specs.View.{store_of, view_of}
use Rattle.law_folder.proofs.commands.Opening.{listed-times}
use Rattle.law_folder.proofs.states.Laid.{is_among-node}
use Rattle.law_folder.proofs.walks.Loads.{load-then}
use Rattle.law_folder.proofs.walks.Shown.{role-name}
use Rattle.law_state.specs.Changes.{ChangesOnly}
use Rattle.law_state.specs.Keeping.{KeepsUncounted, all_nodes}
use Rattle.law_state.specs.ObjectLaws.{layout_after}
use Rattle.law_state.specs.PartStates.{with_object, with_value}
use Rattle.law_state.proofs.Objects.{changed-items-kept, unsettled-find}
use Rattle.law_state.proofs.PartChanges.{parts-change-alone}
use Rattle.blk_object.proofs.WrittenItems.{KeepsRole, MayBecome}
use Rattle.blk_object.proofs.WrittenRoles.{IsPartRole, part-of, part-role-written}

-- a part of a live object is listed
module _ (state : State) (valid : IsValidState state) (number : ℕ) (object : Object) (here : object_at state number ≡ Some object) (live : object.live ≡ true) (n : ℕ) (value : PartValue) (has : part_at object n ≡ Some value) where
  pub has-part : has_item object (part object.key n) ≡ true
  has-part = let own = bytes_eq_self object.key in rw (live, own, has) refl

  pub part-listed : is_listed state (part object.key n) ≡ true
  part-listed =
      let one = only_owner state valid number object here live (part object.key n) refl in
      let its : ◌≡◌ {A = ℕ} (cond (has_item object (part object.key n)) 1 0) 1 = ap (λ (b : Bool). cond b 1 0) has-part in
      let all = valid.listed (part object.key n) in
      listed-times (part object.key n) state.uses (omega (arith, one, its, all))

-- ---- what it is

module _ (state : State) (layout : Layout) (unlinked : List ℕ) (from : Image) (k : KeepsUncounted state layout unlinked from) (number : ℕ) (object : Object) (here : object_at state number ≡ Some object) (live : object.live ≡ true) (n : ℕ) (old : PartValue) (has : part_at object n ≡ Some old)
    (was : Loaded) (lies : layout.at (layout.place (part object.key n)) ≡ Some was) where
  listed : is_listed state (part object.key n) ≡ true
  listed = part-listed state k.valid number object here live n old has

  pub placed : IsPlacedAt state layout (part object.key n)
  placed = k.represents.holds.lies.laid (part object.key n) listed

  pub placed-same : placed.loaded ≡ was
  placed-same = some_inj (sym placed.here ∙ lies)

  pub its-mark : was.dirty ≡ 0
  its-mark = ap (λ (l : Loaded). l.dirty) (sym placed-same) ∙ placed.mark

  pub its-place : IsPartAt state layout object.key was
  its-place = subst (IsPartAt state layout object.key) placed-same placed.parent

  pub its-name : read_name was.key ≡ Some its-place.name
  its-name = load-then (store_of from) (rule_of layout (layout.place (part object.key n))) (layout.place (part object.key n)) was (k.represents.holds.shows.each (layout.place (part object.key n)) was lies)
      (λ m e f. role-name e was.key was.streams its-place.name its-place.index (f.facts.role ∙ ap Some its-place.role))

  pub its-row : model.row_of state (part object.key n) ≡ Some (row_of_loaded was)
  its-row = placed.row ∙ ap (λ (l : Loaded). Some (row_of_loaded l)) placed-same

  pub part-among : is_among (all_nodes state layout k.numbers) (layout.place (part object.key n)) ≡ true
  part-among = is_among-append (order state layout) (doomed_nodes layout k.numbers) (layout.place (part object.key n))
      ∙ or_left (is_among (order state layout) (layout.place (part object.key n))) _ (is_among-node layout state.uses (part object.key n) listed)

-- ---- it may be written

module _ (state : State) (layout : Layout) (unlinked : List ℕ) (from : Image) (k : KeepsUncounted state layout unlinked from) (number : ℕ) (object : Object) (here : object_at state number ≡ Some object) (live : object.live ≡ true) (unsettled : object.settled ≡ false) (n : ℕ) (old : PartValue) (has : part_at object n ≡ Some old)
    (was : Loaded) (lies : layout.at (layout.place (part object.key n)) ≡ Some was) (streams : List (List ℕ)) (role : Role) (value : PartValue) (role_is : part_role was.key streams ≡ Some role) (row_is : row_with was.key role streams ≡ part_row object.key n value) (valid : IsValidState (with_object state number (with_value object n value))) where
  abbrev its : IsPartAt state layout object.key was
  its = its-place state layout unlinked from k number object here live n old has was lies

  its-role : IsPartRole was.key streams role
  its-role = part-of was.key streams role role_is

  same-name : its.name ≡ its-role.name
  same-name = some_inj (sym (its-name state layout unlinked from k number object here live n old has was lies) ∙ its-role.named)

  roles : KeepsRole was role streams
  roles e d change is = part-role-written e d change was.key was.streams streams its.name its.index role (is ∙ ap Some its.role) role_is

  module _ (touched : Claim → Bool) (us left others : List ℕ) (before image : Image) (kept : KeepsUncounted state layout us before) (only : ChangesOnly touched before image) where
    abbrev now : Loaded
    now = record was { role = role; streams = streams; others = others }

    -- the state with the part's value is kept
    kept-part : IsReplaced touched (view_of before) (view_of image) layout (layout.place (part object.key n)) was (record was { role = role; streams = streams; others = others }) → IsPermutation (us ++ words_of was) (left ++ words_of (record was { role = role; streams = streams; others = others })) → AreSealed image (record was { role = role; streams = streams; others = others })
        → KeepsUncounted (with_object state number (with_value object n value)) (layout_after layout (layout.place (part object.key n)) (record was { role = role; streams = streams; others = others })) left image
    kept-part replaced order_same sealed =
        let changed = parts-change-alone state kept.valid number object here live n value in
        changed-items-kept touched state layout us left before image number object (with_value object n value) (part object.key n) was (record was { role = role; streams = streams; others = others }) kept only
        (record { here = here; key = refl; live = refl; settled = refl; one = changed.0; valid = valid })
        (part-listed state kept.valid number object here live n old has) lies
        (record {
          key = refl;
          contents = refl;
          dirty = refl;
          row = changed.1 ∙ ap Some (sym row_is);
          mark = its-mark state layout unlinked from k number object here live n old has was lies;
          parent = record { name = its-role.name; index = its-role.index; role = its-role.is; of_key = ap (λ (x : Name). x.key) (sym same-name) ∙ its.of_key; listed = its.listed; parent = its.parent; at_parent = its.at_parent; of = subst (λ (x : Name). is_parent_of x its.parent ≡ true) same-name its.of };
          of = λ name e. no-parent name e;
        })
        replaced order_same sealed
      where
        no-parent : (name : Name) → is_parent_of name was ≡ true → is_parent_of name (record was { role = role; streams = streams; others = others }) ≡ true
        no-parent name e = absurd (let z : is_parent_of name (record was { role = IsPart its.name its.index }) ≡ true = subst (λ (r : Role). is_parent_of name (record was { role = r }) ≡ true) its.role e in let c : false ≡ true = z in cc)

  pub part-becomes : MayBecome state (with_object state number (with_value object n value)) layout (layout.place (part object.key n)) was role streams
  part-becomes = record {
    lies = lies;
    among = λ us before kept. part-among state layout us before kept number object here live n old has was lies;
    finds = λ touched us before image kept only inside name. unsettled-find touched state layout us before image number object (part object.key n) was kept only here (has-part state kept.valid number object here live n old has) unsettled lies inside name;
    roles = roles;
    keeps = λ touched us left others before image kept only replaced order_same sealed. kept-part touched us left others before image kept only replaced order_same sealed;
  }
