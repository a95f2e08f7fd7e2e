-- An object of a handle becomes dirty, or clean, by what holds at each word of its dirty flag.
use Rattle.std.proofs.Common.{◌≡◌, ℕ, ◌<◌, ◌^◌, Bool, true, false, not, [], inl, Option, Some, None, Result, refl, sym, ap, subst, ◌∙◌, arith}
use Rattle.std.specs.Prelude.{◌⊎◌, ◌==◌, IfSome, IsSome, OnOk, if◌then◌else◌}
use Rattle.std.specs.Option.{ForSome, option_map}
use Rattle.spec_image.specs.Image.{Image, Index, byte}
use Rattle.spec_image.specs.Told.{Applies, Passes, Stays, TellsBytes, Told}
use Rattle.spec_image.proofs.Words.{word-fits}
use Rattle.spec_image.proofs.Runs.{passes_none, passes_weaker, some_inj}
use Rattle.blk_io.specs.declared.fault.Fault.{Fault}
use Rattle.blk_model.specs.Holding.{rest}
use Rattle.blk_model.specs.State.{Object, State}
use Rattle.spec_format.specs.BlockFiles.{HasSoundHeaders}
use Rattle.spec_format.specs.Sealed.{RecordChecks}
use Rattle.spec_folder.specs.View.{list_of}
use Rattle.law_folder.specs.CommandLaws.{marked}
use Rattle.blk_disk.specs.declared.tables.BlockFiles.{BlockFiles}
use Rattle.blk_disk.specs.Open.{IsOpen}
use Rattle.blk_disk.specs.Tables.{is_node_among, is_record_among}
use Rattle.blk_lru.proofs.NodeWords.{node_kind}
use Rattle.blk_entry.specs.Marks.{SetsDirty, mark_steps}
use Rattle.blk_handles.specs.declared.open_object.OpenObject.{OpenObject}
use Rattle.blk_handles.specs.Bindings.{Binding, Bindings, binding_of, with_change, with_status}
use Rattle.blk_handles.proofs.BindingLemmas.{binding_of-change}
use Rattle.law_state.specs.Changes.{Finds}
use Rattle.law_state.specs.OneCallLaws.{Names}
use Rattle.law_state.specs.RecordLaws.{IsMarked, IsMarking}
use Rattle.law_state.proofs.Keeping.{kept-held}
use Rattle.blk_object.proofs.KeptMarks.{being-set, check-as-records, marks-set, nodes-check}
use Rattle.blk_cache.specs.declared.cache.Cache.{Cache}
use Rattle.blk_cache.specs.BoundNames.{AreBoundAmong}
use Rattle.blk_cache.specs.CacheKeeping.{IsBoundTo, HoldsState}
use Rattle.blk_cache.specs.CommandClauses.{KeepsAny, OnlyNamesChange}
use Rattle.blk_cache.specs.Marking.{ForEachNamed, dirty_word}
use Rattle.blk_cache.proofs.BoundObjects.{number-of}
use Rattle.blk_cache.proofs.ChangedObjects.{bound-to, its-object}
use Rattle.blk_cache.proofs.Marks.{at-node, marked-keeps, marked-same, marking-finds-either, node-is}

-- the durable contents are recovered, before and after
abbrev Either : State → ℕ → Object → (dirty : Bool) → Image → Type 0
Either state number object dirty image = Finds (rest state) image ⊎ Finds (rest (marked state number object (not dirty))) image

-- ---- an object whose flag changes

pub not-idle : (bindings : Bindings) (handle : ℕ) (b : Binding) → binding_of bindings handle ≡ Some b → (dirty : Bool) → (b.dirty ≡ dirty → ⊥) → (old now : Told) → IfSome (binding_of bindings handle) (λ binding. binding.dirty ≡ dirty → Stays old now)
not-idle bindings handle b bound dirty differs old now = subst (λ (o : Option Binding). IfSome o (λ binding. binding.dirty ≡ dirty → Stays old now)) (sym bound) (λ same. absurd (differs same))

-- ---- names

-- names with other flags are valid where they were
pub change-stands : (files : BlockFiles) (bindings : Bindings) (doomed dirty : Bool) (entry : ℕ) → AreBoundAmong files bindings → AreBoundAmong files (with_change (with_status doomed dirty) entry bindings)
change-stands files bindings doomed dirty entry stand name binding is = by (binding_of bindings name) refl (sym (binding_of-change (with_status doomed dirty) entry bindings name) ∙ is) where
  with-marks : (d : Binding) (t : Bool) → (is_node_among files d.node ≡ true) × (is_record_among files d.entry ≡ true) → (is_node_among files (if t then with_status doomed dirty d else d).node ≡ true) × (is_record_among files (if t then with_status doomed dirty d else d).entry ≡ true)
  with-marks d true both = both
  with-marks d false both = both

  by : (o : Option Binding) → binding_of bindings name ≡ o → option_map (λ (z : Binding). if entry == z.entry then with_status doomed dirty z else z) o ≡ Some binding → (is_node_among files binding.node ≡ true) × (is_record_among files binding.entry ≡ true)
  by None e h = absurd (let c : ◌≡◌ {A = Option Binding} None (Some binding) = h in cc)
  by (Some d) e h = subst (λ (z : Binding). (is_node_among files z.node ≡ true) × (is_record_among files z.entry ≡ true)) (some_inj h) (with-marks d (entry == d.entry) (stand name d e))

-- the names of an object with a bound name get flags
pub change-is : (bindings new : Bindings) (handle : ℕ) (b : Binding) → binding_of bindings handle ≡ Some b → (doomed dirty : Bool) → IfSome (binding_of bindings handle) (λ object. new ≡ with_change (with_status doomed dirty) object.entry bindings) → new ≡ with_change (with_status doomed dirty) b.entry bindings
change-is bindings new handle b bound doomed dirty says = subst (λ (o : Option Binding). IfSome o (λ object. new ≡ with_change (with_status doomed dirty) object.entry bindings)) bound says

-- a bound name stays bound
pub change-bound : (bindings : Bindings) (change : Binding → Binding) (entry name : ℕ) → IsSome (binding_of bindings name) → IsSome (binding_of (with_change change entry bindings) name)
change-bound bindings change entry name some = subst (λ (o : Option Binding). IsSome o) (sym (binding_of-change change entry bindings name)) (by (binding_of bindings name) some) where
  by : (o : Option Binding) → IsSome o → IsSome (option_map (λ (z : Binding). if entry == z.entry then change z else z) o)
  by None e = absurd (let c : false ≡ true = e in cc)
  by (Some d) e = refl

-- ---- the object

-- the dirty flag of a node is set to the given word
pub sets-so : {A : Type 0} (files : BlockFiles) (old now : Told) (result : Result A Fault) (object other : OpenObject) → object ≡ other → (word told : ℕ) → word ≡ told → SetsDirty files old now object.node word result → SetsDirty files old now other.node told result
sets-so files old now result object other same word told is sets =
    subst (λ (w : ℕ). SetsDirty files old now other.node w result) is (subst (λ (o : OpenObject). SetsDirty files old now o.node word result) same sets)

word-small : (cache : Cache) (dirty : Bool) → cache.mark < 2 ^ 32 → dirty_word cache dirty < 2 ^ 32
word-small cache true few = few
word-small cache false few = omega arith

module _ (cache : Cache) (handle : ℕ) (b : Binding) (bound : binding_of cache.handles handle ≡ Some b) (dirty : Bool) where
  -- one that is so stays as it is
  module _ (same : b.dirty ≡ dirty) (told : Told) where
    its-mark : (from : Image) (state : State) (number : ℕ) (object : Object) → HoldsState cache state from → Names state handle number object → object.settled ≡ not dirty
    its-mark from state number object k names =
        let it : IsBoundTo state k.layout number b = bound-to cache state from k handle number object names b bound in
        other-way object.settled dirty (sym same ∙ it.dirty ∙ ap (λ (o : Object). not o.settled) (its-object cache state from k handle number object names b it))
      where
        other-way : (s d : Bool) → d ≡ not s → s ≡ not d
        other-way true d e = ap not (sym e)
        other-way false d e = ap not (sym e)

    pub same-keeps : ForSome told.files (λ from. ForEachNamed cache handle from (λ state number object. ForSome told.files (HoldsState cache (marked state number object (not dirty)))))
    same-keeps from here state number object k names i there =
        subst (HoldsState cache (marked state number object (not dirty))) (some_inj (sym here ∙ there))
        (subst (λ (s : State). HoldsState cache s from) (sym (marked-same state number object (not dirty) names.here (its-mark from state number object k names))) k)

    pub same-stops : ForSome told.files (λ from. ForEachNamed cache handle from (λ state number object. Passes told told (Either state number object dirty)))
    same-stops from here state number object k names =
        passes_none (Either state number object dirty) refl (λ i there. inl (subst (λ (z : Image). Finds (rest state) z) (some_inj (sym here ∙ there)) (k.kept.entries.sound, kept-held state k.layout [] from k.kept.entries)))

  -- its node has a matching checksum or none
  module _ (old : Told) (bytes : TellsBytes old) (stands : is_node_among cache.files b.node ≡ true) where
    node-good : (from : Image) (state : State) (number : ℕ) (object : Object) (k : HoldsState cache state from) → Names state handle number object → (list_of from).checks b.node ≡ true
    node-good from state number object k names =
        let it : IsBoundTo state k.layout number b = bound-to cache state from k handle number object names b bound in
        nodes-check state k.layout [] from b.node it.loaded k.kept.entries
        (ap k.layout.at (node-is cache state from k handle number object names b bound dirty) ∙ at-node cache state from k handle number object names b bound dirty)

    node-checks : (from : Image) → old.files ≡ Some from → (state : State) (number : ℕ) (object : Object) (k : HoldsState cache state from) → Names state handle number object → RecordChecks b.node from
    node-checks from here state number object k names = check-as-records from b.node (bytes from here) (node_kind cache.files b.node stands) (node-good from state number object k names)

    pub node-may : ForSome old.files (KeepsAny cache) → ForSome old.files (RecordChecks b.node)
    node-may any from here =
        let one : KeepsAny cache from = any from here in
        let n = number-of one.0 one.1.layout [] from one.1.kept.entries one.0.names cache.handles one.1.names handle b bound in
        node-checks from here one.0 n.0 n.2.object one.1 (record { names = n.1; here = n.2.here })

    module _ {A : Type 0} (now : Told) (result : Result A Fault) (sets : SetsDirty cache.files old now b.node (dirty_word cache dirty) result) where
      pub mark-stops : ForSome old.files (λ from. ForEachNamed cache handle from (λ state number object. Passes old now (Either state number object dirty)))
      mark-stops from here state number object k names =
          let checks : ForSome old.files (RecordChecks b.node) = λ i there. subst (RecordChecks b.node) (some_inj (sym here ∙ there)) (node-checks from here state number object k names) in
          let run : Passes old now (IsMarking from b.node (dirty_word cache dirty)) = being-set b.node (dirty_word cache dirty) old now checks sets.stops from here in
          let may : (i : Image) → IsMarking from b.node (dirty_word cache dirty) i → Either state number object dirty i = λ i m. marking-finds-either cache state from k handle number object names b bound dirty i m in
          passes_weaker run may may

      module _ (ok : (P : Type 0) → OnOk result P → P) (still : ForSome now.files (IsOpen cache.files)) (new : Cache) (changes : new.handles ≡ with_change (with_status b.doomed dirty) b.entry cache.handles) (others : OnlyNamesChange cache new) (charged : new.open_bytes ≡ cache.open_bytes) where
        pub mark-keeps : ForSome old.files (λ from. ForEachNamed cache handle from (λ state number object. ForSome now.files (HoldsState new (marked state number object (not dirty)))))
        mark-keeps from here state number object k names i there =
            let few : cache.mark < 2 ^ 32 = subst (λ (n : ℕ). n < 2 ^ 32) (sym k.mark) (word-fits (byte from Index) (bytes from here Index) 20) in
            let small : dirty_word cache dirty < 2 ^ 32 = word-small cache dirty few in
            let well = λ (z : Image) (at : old.files ≡ Some z). subst HasSoundHeaders (some_inj (sym here ∙ at)) k.kept.entries.sound in
            let good = λ (z : Image) (at : old.files ≡ Some z). subst (λ (y : Image). (list_of y).checks b.node ≡ true) (some_inj (sym here ∙ at)) (node-good from state number object k names) in
            let done : IsMarked from b.node (dirty_word cache dirty) i = marks-set b.node (dirty_word cache dirty) old now bytes well good small (ok (ForSome old.files (λ z. Applies old now (mark_steps z b.node (dirty_word cache dirty)))) sets.steps) from here i there in
            marked-keeps cache state from k handle number object names b bound dirty i done new changes others charged (still i there).agrees
