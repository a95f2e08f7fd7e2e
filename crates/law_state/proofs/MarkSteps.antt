-- Where a folder can be written, the dirty flag of a node can, if the node's checksum is right or absent: at each word of its update, and in the end. So
-- the laws on dirty flags speak of something.
use Rattle.std.proofs.Common.{◌≡◌, inl, inr, ⊎_elim, ℕ, ◌+◌, ◌<◌, ◌≤◌, ◌^◌, [], ◌∷◌, All, refl, ap, sym, ◌∙◌, arith, Bool, Some, true}
use Rattle.std.specs.Prelude.{if◌then◌else◌, ◌==◌, ◌&&◌}
use Rattle.std.proofs.lemmas.List.Elements.{All-cons, All-nil}
use Rattle.spec_image.specs.Image.{Image}
use Rattle.spec_image.specs.Steps.{after}
use Rattle.spec_image.specs.Told.{Along}
use Rattle.spec_image.proofs.Runs.{some_inj, until_last}
use Rattle.spec_format.specs.Address.{kind_of, rankings}
use Rattle.spec_format.specs.Sealed.{IsMidUpdate, seal_place, sealed_steps}
use Rattle.spec_format.proofs.SealedRecords.{moments, node_seal, updated, whole_update}
use Rattle.spec_folder.specs.ListImages.{IsWritable}
use Rattle.spec_folder.specs.ShownChanges.{ChangesInside, OnlyNodeFieldsChange}
use Rattle.spec_folder.specs.View.{NodeFields, list_of, node_at, node_fields_at, stands_as, store_of}
use Rattle.law_folder.proofs.claims.Inside.{updates-inside}
use Rattle.law_folder.proofs.lists.WriteSteps.{IsGood, good-node, writable-sealed}
use Rattle.law_folder.proofs.updates.NodeRecords.{one_change}
use Rattle.law_folder.proofs.updates.Nodes.{dirty-written, good-stands, none-or-one}
use Rattle.law_folder.proofs.updates.Sealing.{node-updates}
use Rattle.law_state.specs.RecordLaws.{IsMarked, IsMarking}

-- the folder once the dirty flag of a node is this
abbrev pub marked_at : Image → ℕ → ℕ → Image
marked_at from node mark = after (sealed_steps from node ((28, mark) ∷ [])) from

module _ (from : Image) (node mark : ℕ) (ready : IsWritable from) (good : (list_of from).checks node ≡ true) (small : mark < 2 ^ 32) where
  here : IsGood from node
  here = good-node from node ready good

  abbrev fields : NodeFields
  fields = record { contents = (node_at from node).contents; dirty = (node_at from node).dirty }

  said : (store_of from).node_fields node ≡ Some fields
  unfolding store_of node_fields_at
  said = rw (good-stands from node good) refl

  module _ (image : Image) (moment : IsMidUpdate from node ((28, mark) ∷ []) image) where
    inside : ChangesInside node from image
    inside = updates-inside from image node ((28, mark) ∷ []) here.stands (inl here.kind) moment

    written : OnlyNodeFieldsChange node from image × ((store_of image).node_fields node ≡ Some (if moment.made == 0 then fields else record fields { dirty = mark }))
    written = dirty-written from image node mark (record { good = good; bytes = ready.bytes }) small moment fields said

    says : (store_of image).node_fields node ≡ Some (record { contents = (node_at image node).contents; dirty = (node_at image node).dirty })
    unfolding store_of node_fields_at
    says = let there : stands_as image rankings node ≡ true = ap (λ (t : Bool). t && (kind_of node == rankings)) (inside.stands node) ∙ good-stands from node good in rw there refl

    pub are : (made : ℕ) → moment.made ≡ made → (let z : NodeFields = record { contents = (node_at image node).contents; dirty = (node_at image node).dirty } in z) ≡ (if made == 0 then fields else record fields { dirty = mark })
    are made is = some_inj (sym says ∙ written.1) ∙ ap (λ (m : ℕ). if m == 0 then fields else record fields { dirty = mark }) is

    pub mid-marking : IsMarking from node mark image
    mid-marking = record {
      outside = moment.outside;
      inside = inside;
      only = written.0;
      contents = ⊎_elim (λ (e : moment.made ≡ 0). ap (λ (f : NodeFields). f.contents) (are 0 e)) (λ (e : moment.made ≡ 1). ap (λ (f : NodeFields). f.contents) (are 1 e)) (none-or-one moment.made moment.within);
      dirty = ⊎_elim (λ (e : moment.made ≡ 0). inl (ap (λ (f : NodeFields). f.dirty) (are 0 e))) (λ (e : moment.made ≡ 1). inr (ap (λ (f : NodeFields). f.dirty) (are 1 e))) (none-or-one moment.made moment.within);
    }

  changes-fit : All (λ (c : ℕ × ℕ). c.0 + 4 ≤ seal_place node) ((28, mark) ∷ [])
  changes-fit = let s = node_seal node here.kind in All-cons (λ (c : ℕ × ℕ). c.0 + 4 ≤ seal_place node) (28, mark) [] (omega (arith, s)) (All-nil (λ (c : ℕ × ℕ). c.0 + 4 ≤ seal_place node))

  each : Along (IsMidUpdate from node ((28, mark) ∷ [])) from (sealed_steps from node ((28, mark) ∷ []))
  each = moments node from ((28, mark) ∷ []) here.fits here.checks changes-fit

  whole : (moment : IsMidUpdate from node ((28, mark) ∷ []) (marked_at from node mark)) × (moment.made ≡ 1)
  whole = whole_update from (marked_at from node mark) node ((28, mark) ∷ []) (updated node from ((28, mark) ∷ []) here.fits) (until_last (IsMidUpdate from node ((28, mark) ∷ [])) (IsMidUpdate from node ((28, mark) ∷ [])) (sealed_steps from node ((28, mark) ∷ [])) from each).outside

  -- in the end the node has the flag
  pub marks-done : IsMarked from node mark (marked_at from node mark)
  marks-done = record {
    marking = mid-marking (marked_at from node mark) whole.0;
    now = ap (λ (f : NodeFields). f.dirty) (are (marked_at from node mark) whole.0 1 whole.1);
    sealed = (node-updates from node ((28, mark) ∷ []) ready good (one_change node 28 mark here.kind refl (omega arith)) changes-fit).0;
  }

  pub marks-writable : IsWritable (marked_at from node mark)
  marks-writable = until_last IsWritable IsWritable (sealed_steps from node ((28, mark) ∷ [])) from (writable-sealed node ((28, mark) ∷ []) from ready)
