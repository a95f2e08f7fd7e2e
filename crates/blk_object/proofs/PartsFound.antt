-- The record that a search by the name of a part finds is the part's.
use Rattle.std.proofs.Common.{◌≡◌, ℕ, List, ap, sym, ◌∙◌, subst, true, Some, Ok}
use Rattle.std.specs.Prelude.{◌==◌, ◌&&◌}
use Rattle.std.proofs.lemmas.Bool.{and_parts, eqb-true}
use Rattle.spec_image.proofs.Runs.{some_inj}
use Rattle.blk_model.specs.Items.{item_of, part}
use Rattle.spec_format.specs.Names.{Name, child_name, read_name}
use Rattle.spec_format.specs.SparseIndex.{PartIndex}
use Rattle.spec_format.proofs.NameLemmas.{reads_names}
use Rattle.std.specs.Str.{bytes_eq}
use Rattle.spec_folder.specs.Audit.{is_parent_role}
use Rattle.law_folder.proofs.walks.Shown.{role-name}
use Rattle.spec_folder.specs.Entries.{IsParent, IsPart, Role, role_of}
use Rattle.spec_folder.specs.Found.{row_with}
use Rattle.spec_folder.specs.Layout.{IsPartAt, IsPlacedAt, rule_of}
use Rattle.spec_folder.specs.Loads.{Loaded, load}
use Rattle.spec_folder.specs.View.{store_of}
use Rattle.law_folder.proofs.states.Laid.{item-row}
use Rattle.law_folder.proofs.walks.Loads.{load-then}
use Rattle.blk_chain.specs.declared.found.Found.{Found}
use Rattle.blk_object.proofs.FoundLeft.{left-found}
use Rattle.law_state.proofs.Groups as groups
use Rattle.blk_object.specs.ListedParts.{FoundNamesAreTheParts, PartsHaveTheirNames}

pub names-find-parts : FoundNamesAreTheParts
names-find-parts state layout keep chains unlinked key n was entry before image k listed stays here f =
    let left = left-found state layout keep chains unlinked (part key n) was (Some (record { entry = entry; before = before })) image k listed stays here f in
    ap (λ (x : Found). x.entry) (some_inj left.is) ∙ sym left.entry_is

-- ---- the name of a part

number-named : (key stored : List ℕ) (streams : List (List ℕ)) (name : Name) (index : PartIndex) (n : ℕ) → item_of (row_with stored (IsPart name index) streams) ≡ part key n → name.part ≡ n
number-named key stored streams name index n is = let same : part name.key name.part ≡ part key n = is in cc

pub names-are-theirs : PartsHaveTheirNames
names-are-theirs state layout keep chains unlinked key n was main_was index image k listed stays here main_here role =
    subst (λ (l : Loaded). l.key ≡ child_name key index.signature n) same
    (load-then (store_of image) (rule_of layout (layout.place (part key n))) (layout.place (part key n)) placed.loaded loads (λ nf e g.
    let is_named : role_of e placed.loaded.key placed.loaded.streams ≡ Some (IsPart p.name p.index) = g.facts.role ∙ ap Some p.role in
    let read : read_name placed.loaded.key ≡ Some p.name = role-name e placed.loaded.key placed.loaded.streams p.name p.index is_named in
    ((reads_names placed.loaded.key p.name).0 read).printed ∙ ap (λ (x : List ℕ). child_name x p.name.signature p.name.part) p.of_key ∙ ap (λ (x : ℕ). child_name key x p.name.part) signature ∙ ap (child_name key index.signature) number))
  where
    placed : IsPlacedAt state layout (part key n)
    placed = k.lies.laid (part key n) listed

    same : placed.loaded ≡ was
    same = some_inj (sym placed.here ∙ here)

    loads : load (store_of image) (rule_of layout (layout.place (part key n))) (layout.place (part key n)) ≡ Ok placed.loaded
    loads = k.holds.each (layout.place (part key n)) placed.loaded placed.here (groups.stay-apart state layout keep k.numbers k.lies k.owners (layout.place (part key n)) (groups.stays-in state layout keep k.numbers k.lies k.owners (part key n) listed stays))

    p : IsPartAt state layout key placed.loaded
    p = placed.parent

    signature : p.name.signature ≡ index.signature
    signature =
        let parent_same : p.parent ≡ main_was = some_inj (sym p.at_parent ∙ main_here) in
        let is : is_parent_role p.name p.parent.key (IsParent index) ≡ true = ap (is_parent_role p.name p.parent.key) (sym (ap (λ (l : Loaded). l.role) parent_same ∙ role)) ∙ p.of in
        sym (eqb-true index.signature p.name.signature (and_parts (bytes_eq p.parent.key p.name.key) (index.signature == p.name.signature) (and_parts (bytes_eq p.parent.key p.name.key && (index.signature == p.name.signature)) (index.has_part p.name.part) is).0).1)

    number : p.name.part ≡ n
    number = number-named key placed.loaded.key placed.loaded.streams p.name p.index n (ap (λ (r : Role). item_of (row_with placed.loaded.key r placed.loaded.streams)) (sym p.role) ∙ item-row state (part key n) (row_with placed.loaded.key placed.loaded.role placed.loaded.streams) placed.row)
