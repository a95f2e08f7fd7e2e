-- What the conditions of the operations say of the words that are read.
use Rattle.std.proofs.Common.{◌≡◌, ℕ, true, List, ◌∷◌, ◌++◌, Option, None, Some, Result, Err, refl, sym, ap, ◌∙◌, subst}
use Rattle.std.specs.Prelude.{IsErrAnd}
use Rattle.std.specs.Option.{ForSome}
use Rattle.spec_image.specs.Image.{Image}
use Rattle.spec_image.specs.Told.{Told}
use Rattle.blk_io.specs.declared.fault.Fault.{Fault}
use Rattle.blk_io.specs.Faults.{IfDamaged}
use Rattle.blk_io.proofs.Carried.{carried, if_damaged_weaker}
use Rattle.spec_folder.specs.ListView.{IsList}
use Rattle.spec_folder.specs.View.{list_of}
use Rattle.spec_folder.specs.ListImages.{HasListAtRest, walked}
use Rattle.blk_disk.specs.declared.tables.BlockFiles.{BlockFiles}
use Rattle.blk_disk.specs.Tables.{Agrees, is_node_among}
use Rattle.blk_lru.specs.Lists.{IsListed}
use Rattle.blk_lru.specs.Nodes.{link_at}
use Rattle.blk_lru.proofs.Listed.{linked, splits}
use Rattle.blk_lru.proofs.NodeWords.{checked_names, stands_as_node, next_link, prev_link}

-- where the folder stays as it is, what holds of its observed files stays
pub told_stays : {a m : Told} (P : Image → Type 0) → m ≡ a → ForSome a.files P → ForSome m.files P
told_stays P stays holds = subst (λ (t : Told). ForSome t.files P) (sym stays) holds

pub told_before : {a m : Told} (image : Image) → m ≡ a → m.files ≡ Some image → a.files ≡ Some image
told_before image stays there = ap (λ (t : Told). t.files) (sym stays) ∙ there

pub told_now : {a m : Told} (image : Image) → m ≡ a → a.files ≡ Some image → m.files ≡ Some image
told_now image stays there = ap (λ (t : Told). t.files) stays ∙ there

-- what a call gives only on an opaque folder, after calls that changed nothing: under its own premise, and under one that implies it
pub untold_last : {A : Type 0} (r : Result A Fault) {a m : Told} (P Q : Image → Type 0) → ((image : Image) → P image → Q image) → m ≡ a → (ForSome m.files Q → IfDamaged r (λ _. m.files ≡ None)) → ForSome a.files P → IfDamaged r (λ _. a.files ≡ None)
untold_last r {a} {m} P Q weaker stays untold holds =
    if_damaged_weaker r (λ _. m.files ≡ None) (λ _. a.files ≡ None) (λ damage none. ap (λ (t : Told). t.files) (sym stays) ∙ none)
    (untold (told_stays Q stays (λ image there. weaker image (holds image there))))

-- what a call gives only on an opaque folder, where `?` hands its fault on
pub untold_on : {A B : Type 0} (r : Result A Fault) (q : Result B Fault) (e : Fault) {a m : Told} (P Q : Image → Type 0) → ((image : Image) → P image → Q image) → m ≡ a → (ForSome m.files Q → IfDamaged r (λ _. m.files ≡ None)) → r ≡ Err e → IsErrAnd q (λ (x : Fault). x ≡ e) → ForSome a.files P → IfDamaged q (λ _. a.files ≡ None)
untold_on r q e {a} {m} P Q weaker stays untold is same holds = carried r q e (λ _. a.files ≡ None) is same (untold_last r P Q weaker stays untold holds)

-- the links of a listed node name nodes
pub next_names : (files : BlockFiles) (image : Image) (node : ℕ) → Agrees files image → is_node_among files node ≡ true → IsListed node image → is_node_among files (link_at image node 16) ≡ true
next_names files image node agrees stands is =
    let s = splits (walked image) node is.listed in
    let whole : IsList (list_of image) (s.prefix ++ node ∷ s.suffix) = subst (IsList (list_of image)) s.is is.rest.whole in
    subst (λ (w : ℕ). is_node_among files w ≡ true) (next_link image node (stands_as_node files image agrees node stands)) (checked_names files image agrees _ (linked (list_of image) s.prefix node s.suffix whole).next_good)

pub prev_names : (files : BlockFiles) (image : Image) (node : ℕ) → Agrees files image → is_node_among files node ≡ true → IsListed node image → is_node_among files (link_at image node 20) ≡ true
prev_names files image node agrees stands is =
    let s = splits (walked image) node is.listed in
    let whole : IsList (list_of image) (s.prefix ++ node ∷ s.suffix) = subst (IsList (list_of image)) s.is is.rest.whole in
    subst (λ (w : ℕ). is_node_among files w ≡ true) (prev_link image node (stands_as_node files image agrees node stands)) (checked_names files image agrees _ (linked (list_of image) s.prefix node s.suffix whole).prev_good)

-- the list around a listed node
pub around : (node : ℕ) (image : Image) → IsListed node image → (prefix : List ℕ) × (suffix : List ℕ) × HasListAtRest (prefix ++ node ∷ suffix) image
around node image is =
    let s = splits (walked image) node is.listed in
    (s.prefix, s.suffix, subst (λ (nodes : List ℕ). HasListAtRest nodes image) s.is is.rest)

-- a folder that is opaque after a call was opaque before it
pub told_none : (before now : Option Image) → ((from : Image) → before ≡ Some from → (image : Image) × (now ≡ Some image)) → now ≡ None → before ≡ None
told_none None now some none = refl
told_none (Some from) now some none = let s = some from refl in absurd (no_some s.0 (sym none ∙ s.1))
  where
    no_some : (image : Image) → None ≡ Some image → ⊥
    no_some image e = cc
