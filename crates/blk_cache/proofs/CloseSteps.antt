-- A Close, by what holds at each word of the dirty flag.
use Rattle.blk_io.specs.declared.fault.Fault.{Fault}
use Rattle.std.proofs.Common.{◌≡◌, ⊎_elim, Result, ℕ, zero, suc, ◌-◌, ◌<◌, ◌^◌, Bool, true, false, List, [], ◌∷◌, set, get_or, Option, Some, None, refl, sym, ap, subst, ◌∙◌, arith}
use Rattle.std.specs.Prelude.{IfSome, OnOk, if◌then◌else◌, is_some, nat_le, not}
use Rattle.std.specs.Option.{ForSome, option_map}
use Rattle.std.proofs.lemmas.Bool.{cases_Bool}
use Rattle.std.proofs.lemmas.Bool.Decides.{nat_tests}
use Rattle.spec_image.specs.Image.{AreBytes, Image}
use Rattle.spec_image.specs.Told.{Applies, Passes, Stays, TellsBytes, Told}
use Rattle.spec_image.proofs.Runs.{passes_weaker, some_inj}
use Rattle.blk_model.specs.Items.{main}
use Rattle.blk_model.specs.Refusals.{refusals, refused}
use Rattle.blk_model.specs.Reply.{answer_of}
use Rattle.blk_model.specs.Request.{to_close}
use Rattle.blk_model.specs.Room.{own_charge}
use Rattle.blk_model.specs.State.{Object, State, is_named, named_by}
use Rattle.blk_model.specs.Step.{reply, step}
use Rattle.blk_model.specs.declared.Answer.TheVariants as answer
use Rattle.blk_model.specs.declared.Refusal.TheVariants as refusal
use Rattle.spec_format.specs.BlockFiles.{HasSoundHeaders}
use Rattle.spec_format.specs.Sealed.{RecordChecks}
use Rattle.spec_folder.specs.Loads.{Loaded}
use Rattle.spec_folder.specs.View.{list_of}
use Rattle.law_folder.specs.CommandLaws.{marked, turned}
use Rattle.blk_disk.specs.declared.tables.BlockFiles.{BlockFiles}
use Rattle.blk_disk.specs.Open.{IsOpen}
use Rattle.blk_disk.specs.Tables.{is_node_among, is_record_among}
use Rattle.blk_lru.proofs.NodeWords.{node_kind}
use Rattle.blk_entry.specs.Marks.{SetsDirtyInProgress, mark_steps}
use Rattle.blk_object.specs.Ending.{Cleans}
use Rattle.blk_object.specs.Owning.{LoadsWith}
use Rattle.blk_handles.specs.declared.open_object.OpenObject.{OpenObject}
use Rattle.blk_handles.specs.declared.open_object.Released.{Released}
use Rattle.blk_handles.specs.declared.open_object.Released.TheVariants as released
use Rattle.blk_handles.specs.Bindings.{Binding, Bindings, binding_of, is_open, open_object}
use Rattle.law_state.specs.Commands.{Does, MayStop, MayStopAtEach}
use Rattle.law_state.specs.CommandStates.{IsLastHandle}
use Rattle.law_state.specs.Keeping.{Keeps}
use Rattle.law_state.specs.RecordLaws.{IsMarked, IsMarking}
use Rattle.law_state.proofs.CommandEnding.{closes-free, closes-settle, passed}
use Rattle.law_state.proofs.Dirtying.{leaves}
use Rattle.law_state.proofs.NextStates.{closes-next, closes-of-many-next}
use Rattle.law_state.proofs.OneCalls.{closes-end-by-mark, closes-stop-by-mark}
use Rattle.law_state.proofs.Stopping.{nothing-stops}
use Rattle.blk_object.proofs.KeptMarks.{being-set, check-as-records, marks-set, nodes-check}
use Rattle.blk_cache.specs.declared.cache.Cache.{Cache}
use Rattle.blk_cache.specs.BoundNames.{AreBoundAmong}
use Rattle.blk_cache.specs.CacheKeeping.{IsBoundTo, HoldsState}
use Rattle.blk_cache.specs.CommandClauses.{KeepsAny, OnlyNamesChange, SparesRefused}
use Rattle.blk_evict.specs.Looking.{charge_at}
use Rattle.blk_cache.proofs.BoundObjects.{free-of}
use Rattle.blk_cache.proofs.BoundRecords.{bound-loads, bound-node, bound-says}
use Rattle.blk_cache.proofs.Closes.{at-place, is, layout-now, less, less-keeps, less-open, named, node-place, number, settled-keeps, within-some}
use Rattle.blk_cache.proofs.Refusing.{says-kept}
use Rattle.blk_cache.proofs.Sparing.{passed-spares}

-- ---- what is freed

-- a name that is asked for is bound
pub bound-there : (bindings : Bindings) (handle : ℕ) (r : Option OpenObject) → r ≡ option_map (open_object bindings) (binding_of bindings handle) → is_some r ≡ true → (b : Binding) × (binding_of bindings handle ≡ Some b)
bound-there bindings handle r e some = by (binding_of bindings handle) refl where
  by : (o : Option Binding) → binding_of bindings handle ≡ o → (b : Binding) × (binding_of bindings handle ≡ Some b)
  by None is = absurd (let c : false ≡ true = sym (ap is_some (e ∙ ap (option_map (open_object bindings)) is)) ∙ some in cc)
  by (Some b) is = (b, is)

pub free-there : (bindings : Bindings) (handle : ℕ) (r : Option OpenObject) → r ≡ option_map (open_object bindings) (binding_of bindings handle) → is_some r ≡ false → binding_of bindings handle ≡ None
free-there bindings handle r e none = by (binding_of bindings handle) refl where
  by : (o : Option Binding) → binding_of bindings handle ≡ o → binding_of bindings handle ≡ None
  by None is = is
  by (Some b) is = absurd (let c : true ≡ false = sym (ap is_some (e ∙ ap (option_map (open_object bindings)) is)) ∙ none in cc)

-- the handle was the last name of its object
pub record WasLast (bindings now : Bindings) (b : Binding) (object : OpenObject) : Type 0 where
  pub last : is_open now b.entry ≡ false
  pub object_is : object ≡ open_object bindings b

pub was-last : (bindings now : Bindings) (handle : ℕ) (b : Binding) → binding_of bindings handle ≡ Some b → (r : Released) (object : OpenObject) → r ≡ released.Last object
    → IfSome (binding_of bindings handle) (λ d. r ≡ (if is_open now d.entry then released.More else released.Last (open_object bindings d))) → WasLast bindings now b object
was-last bindings now handle b bound r object is says = by (is_open now b.entry) refl (sym is ∙ subst (λ (o : Option Binding). IfSome o (λ d. r ≡ (if is_open now d.entry then released.More else released.Last (open_object bindings d)))) bound says) where
  by : (t : Bool) → is_open now b.entry ≡ t → released.Last object ≡ (if is_open now b.entry then released.More else released.Last (open_object bindings b)) → WasLast bindings now b object
  by true e h = absurd (let c : released.Last object ≡ released.More = h ∙ ap (λ (t : Bool). if t then released.More else released.Last (open_object bindings b)) e in cc)
  by false e h = record { last = e; object_is = (let c : released.Last object ≡ released.Last (open_object bindings b) = h ∙ ap (λ (t : Bool). if t then released.More else released.Last (open_object bindings b)) e in cc) }

-- where the handle wasn't the last name, the object is still open
pub was-more : (bindings now : Bindings) (handle : ℕ) (b : Binding) → binding_of bindings handle ≡ Some b → (r : Released) → r ≡ released.More
    → IfSome (binding_of bindings handle) (λ d. r ≡ (if is_open now d.entry then released.More else released.Last (open_object bindings d))) → is_open now b.entry ≡ true
was-more bindings now handle b bound r is says = by (is_open now b.entry) refl (sym is ∙ subst (λ (o : Option Binding). IfSome o (λ d. r ≡ (if is_open now d.entry then released.More else released.Last (open_object bindings d)))) bound says) where
  by : (t : Bool) → is_open now b.entry ≡ t → released.More ≡ (if is_open now b.entry then released.More else released.Last (open_object bindings b)) → is_open now b.entry ≡ true
  by true e h = e
  by false e h = absurd (let c : released.More ≡ released.Last (open_object bindings b) = h ∙ ap (λ (t : Bool). if t then released.More else released.Last (open_object bindings b)) e in cc)

-- ---- refusals

unnamed-refused : (state : State) (moment handle : ℕ) → named_by state handle ≡ None → refused moment (to_close handle) state ≡ Some refusal.BadHandle
unfolding refusals
unnamed-refused state moment handle none = by (nat_le 4096 handle) refl where
  by : (t : Bool) → nat_le 4096 handle ≡ t → refused moment (to_close handle) state ≡ Some refusal.BadHandle
  by true e = rw e refl
  by false e = rw (e, none) refl

pub free-refused : (cache : Cache) (state : State) (image : Image) (k : HoldsState cache state image) (moment handle : ℕ) → binding_of cache.handles handle ≡ None → refused moment (to_close handle) state ≡ Some refusal.BadHandle
free-refused cache state image k moment handle free = unnamed-refused state moment handle (free-of state k.layout [] image k.kept.entries state.names cache.handles k.names handle free)

named-passes : (state : State) (moment handle number : ℕ) → handle < 4096 → named_by state handle ≡ Some number → refused moment (to_close handle) state ≡ None
unfolding refusals
named-passes state moment handle number below names = let b : nat_le 4096 handle ≡ false = grind (arith, nat_tests, below) in rw (b, names) refl

close-answer : (state : State) (moment handle : ℕ) → refused moment (to_close handle) state ≡ None → answer_of (step state moment (to_close handle)).reply ≡ answer.Done
unfolding reply
close-answer state moment handle goes = ap answer_of (passed state moment (to_close handle) goes).1

-- ---- several names

module _ (cache : Cache) (handle : ℕ) (small : handle < 2 ^ 16) (b : Binding) (bound : binding_of cache.handles handle ≡ Some b) where
  pub below : (state : State) (image : Image) (k : HoldsState cache state image) → handle < 4096
  below state image k = let w = within-some state.names handle (number cache state image k handle b bound) (named cache state image k handle b bound) in let l = k.kept.entries.valid.names in omega (arith, w, l)

  pub answered-as : (state : State) (image : Image) (k : HoldsState cache state image) (moment : ℕ) → answer.Done ≡ answer_of (step state moment (to_close handle)).reply
  answered-as state image k moment = sym (close-answer state moment handle (named-passes state moment handle (number cache state image k handle b bound) (below state image k) (named cache state image k handle b bound)))

  pub close-spares : (old now : Told) (moment : ℕ) → SparesRefused (HoldsState cache) old now moment (to_close handle)
  close-spares old now moment =
      passed-spares (HoldsState cache) old now moment (to_close handle)
      (λ image here state k. named-passes state moment handle (number cache state image k handle b bound) (below state image k) (named cache state image k handle b bound))

  pub several-done : (new : Cache) (told : Told) → is_open (set cache.handles handle None) b.entry ≡ true → new.handles ≡ set cache.handles handle None → new.open_bytes ≡ cache.open_bytes → OnlyNamesChange cache new
      → (moment : ℕ) → Does (HoldsState cache) (HoldsState new) told told moment (to_close handle) answer.Done
  several-done new told more frees charges others moment image here state k = record {
    answered = answered-as state image k moment;
    kept = λ i there.
        let same : image ≡ i = some_inj (sym here ∙ there) in
        let several : is_named (less cache state image k handle b bound) (number cache state image k handle b bound) ≡ true = sym (less-open cache state image k handle b bound) ∙ more in
        let keeps : Keeps (step state moment (to_close handle)).state k.layout [] image = closes-of-many-next state moment handle (number cache state image k handle b bound) k.kept.entries.valid small (named cache state image k handle b bound) several k.layout [] image k.kept in
        let ends : (step state moment (to_close handle)).state ≡ less cache state image k handle b bound = closes-free state moment handle (number cache state image k handle b bound) k.kept.entries.valid (named cache state image k handle b bound) several in
        subst (λ (z : Image). HoldsState new (step state moment (to_close handle)).state z) same
        (subst (λ (s : State). HoldsState new s image) (sym ends)
        (less-keeps cache state image k handle b bound new image (subst (λ (s : State). Keeps s k.layout [] image) ends keeps) k.files refl others frees
        (charges ∙ sym (ap (λ (t : Bool). if t then cache.open_bytes else cache.open_bytes - own_charge (is cache state image k handle b bound).object) several))));
  }

  -- ---- the last name

  module _ (old mid now : Told) (stays : mid ≡ old) (last : is_open (set cache.handles handle None) b.entry ≡ false) (alive : b.doomed ≡ false) where
    not-false : (t : Bool) → false ≡ not t → t ≡ true
    not-false true e = refl
    not-false false e = e

    module _ (image : Image) (here : old.files ≡ Some image) (state : State) (k : HoldsState cache state image) where
      abbrev n : ℕ
      n = number cache state image k handle b bound

      abbrev it : IsBoundTo state k.layout n b
      it = is cache state image k handle b bound

      live : it.object.live ≡ true
      live = not-false it.object.live (sym alive ∙ it.doomed)

      none : is_named (less cache state image k handle b bound) n ≡ false
      none = sym (less-open cache state image k handle b bound) ∙ last

      is-last : IsLastHandle state handle n it.object
      is-last = record { names = named cache state image k handle b bound; here = it.here; live = live; last = none }

      node-is : b.node ≡ k.layout.place (main it.object.key)
      node-is = it.node ∙ node-place cache state image k handle b bound none live

      placed : k.layout.at (k.layout.place (main it.object.key)) ≡ Some it.loaded
      placed = at-place cache state image k handle b bound none live

      at-node : k.layout.at b.node ≡ Some it.loaded
      at-node = bound-node state k.layout [] image k.kept.entries n b it

      mid-here : mid.files ≡ Some image
      mid-here = ap (λ (t : Told). t.files) stays ∙ here

      pub node-good : (list_of image).checks b.node ≡ true
      node-good = nodes-check state k.layout [] image b.node it.loaded k.kept.entries at-node

      pub node-checks : AreBytes image → is_node_among cache.files b.node ≡ true → RecordChecks b.node image
      node-checks bytes stands = check-as-records image b.node bytes (node_kind cache.files b.node stands) node-good

      pub its-charge : charge_at image b.entry ≡ own_charge it.object
      its-charge = (bound-says state k.layout [] image k.kept.entries n b it).charge

    -- a folder where the cache keeps a state has its node check
    pub mid-node : ForSome old.files (KeepsAny cache) → ForSome mid.files (λ image. (list_of image).checks b.node ≡ true)
    mid-node any image there = let here : old.files ≡ Some image = ap (λ (t : Told). t.files) (sym stays) ∙ there in let one : KeepsAny cache image = any image here in node-good image here one.0 one.1

    -- at each word
    pub last-stops : TellsBytes mid → is_node_among cache.files b.node ≡ true → (b.dirty ≡ true → ForSome mid.files (λ from. RecordChecks b.node from → Passes mid now (SetsDirtyInProgress from b.node 0))) → (b.dirty ≡ false → Stays mid now)
        → (moment : ℕ) → MayStopAtEach (HoldsState cache) old now moment (to_close handle)
    last-stops bytes stands marks rests moment = ⊎_elim
        (λ (dirty : b.dirty ≡ true). λ image here state k.
        let checks : ForSome mid.files (RecordChecks b.node) = λ i there. subst (RecordChecks b.node) (some_inj (sym (mid-here image here state k) ∙ there)) (node-checks image here state k (bytes image (mid-here image here state k)) stands) in
        let run : Passes mid now (IsMarking image b.node 0) = being-set b.node 0 mid now checks (marks dirty) image (mid-here image here state k) in
        let from-old : Passes old now (IsMarking image b.node 0) = subst (λ (t : Told). Passes t now (IsMarking image b.node 0)) stays run in
        let may : (i : Image) → IsMarking image b.node 0 i → MayStop state moment (to_close handle) i = λ i marking.
        closes-stop-by-mark state k.layout [] image i moment handle (n image here state k) (it image here state k).object (it image here state k).loaded k.kept.entries small (is-last image here state k) (placed image here state k)
        (subst (λ (w : ℕ). IsMarking image w 0 i) (node-is image here state k) marking) in
        passes_weaker from-old may may)
        (λ (clean : b.dirty ≡ false). nothing-stops (HoldsState cache) (says-kept cache) old now moment (to_close handle) (rests clean ∙ stays))
        (cases_Bool b.dirty)

    settled-same : (o : Object) → o.settled ≡ true → record o { settled = true } ≡ o
    settled-same o e = ap (λ (t : Bool). record o { settled = t }) (sym e)

    set-same : (xs : List (Option Object)) (i : ℕ) (o : Object) → get_or xs i None ≡ Some o → set xs i (Some o) ≡ xs
    set-same [] i o e = refl
    set-same (y ∷ xs) zero o e = ap (λ (z : Option Object). z ∷ xs) (sym e)
    set-same (y ∷ xs) (suc i) o e = ap (λ (zs : List (Option Object)). y ∷ zs) (set-same xs i o e)

    -- in the end
    module _ (new : Cache) (bytes : TellsBytes mid) (still : ForSome now.files (IsOpen cache.files)) (frees : new.handles ≡ set cache.handles handle None)
        (charges : ForSome old.files (λ image. new.open_bytes ≡ cache.open_bytes - charge_at image b.entry)) (others : OnlyNamesChange cache new) (moment : ℕ) where
      module _ (image : Image) (here : old.files ≡ Some image) (state : State) (k : HoldsState cache state image) where
        charged : new.open_bytes ≡ (if is_named (less cache state image k handle b bound) (n image here state k) then cache.open_bytes else cache.open_bytes - own_charge (it image here state k).object)
        charged =
            charges image here ∙ ap (λ (c : ℕ). cache.open_bytes - c) (its-charge image here state k)
            ∙ sym (ap (λ (t : Bool). if t then cache.open_bytes else cache.open_bytes - own_charge (it image here state k).object) (none image here state k))

        ends : (step state moment (to_close handle)).state ≡ turned state (n image here state k) (it image here state k).object true (set state.names handle None)
        ends = closes-settle state moment handle (n image here state k) (it image here state k).object k.kept.entries.valid (is-last image here state k)

        -- the dirty flag was made 0
        marked-end : (i : Image) → now.files ≡ Some i → ForSome mid.files (λ from. Applies mid now (mark_steps from b.node 0)) → HoldsState new (step state moment (to_close handle)).state i
        marked-end i there steps =
            let well = λ (z : Image) (at : mid.files ≡ Some z). subst HasSoundHeaders (some_inj (sym (mid-here image here state k) ∙ at)) k.kept.entries.sound in
            let good = λ (z : Image) (at : mid.files ≡ Some z). subst (λ (y : Image). (list_of y).checks b.node ≡ true) (some_inj (sym (mid-here image here state k) ∙ at)) (nodes-check state k.layout [] image b.node (it image here state k).loaded k.kept.entries (at-node image here state k)) in
            let done : IsMarked image b.node 0 i = marks-set b.node 0 mid now bytes well good (omega arith) steps image (mid-here image here state k) i there in
            let done-at : IsMarked image (k.layout.place (main (it image here state k).object.key)) 0 i = subst (λ (w : ℕ). IsMarked image w 0 i) (node-is image here state k) done in
            let keeps = closes-end-by-mark state k.layout [] image i moment handle (n image here state k) (it image here state k).object (it image here state k).loaded k.kept small (is-last image here state k) (placed image here state k) done-at in
            let id = (leaves state k.layout [] image i k.kept.entries (k.layout.place (main (it image here state k).object.key)) 0 (it image here state k).loaded (placed image here state k) done-at.marking).session.id in
            subst (λ (s : State). HoldsState new s i) (sym (ends))
            (settled-keeps cache state image k handle b bound (none image here state k) (live image here state k) new i (subst (λ (s : State). Keeps s (layout-now cache state image k handle b bound (none image here state k) (live image here state k)) [] i) (ends) keeps) (still i there).agrees id others frees (charged))

        -- it was 0
        clean-end : b.dirty ≡ false → (i : Image) → now.files ≡ Some i → Stays mid now → HoldsState new (step state moment (to_close handle)).state i
        clean-end clean i there rests =
            let same : image ≡ i = some_inj (sym here ∙ sym (ap (λ (t : Told). t.files) (rests ∙ stays)) ∙ there) in
            let rested : (it image here state k).object.settled ≡ true = not-false (it image here state k).object.settled (sym clean ∙ (it image here state k).dirty) in
            let object-same = settled-same (it image here state k).object rested in
            let slots : set state.objects (n image here state k) (Some (record (it image here state k).object { settled = true })) ≡ state.objects = ap (λ (o : Object). set state.objects (n image here state k) (Some o)) object-same ∙ set-same state.objects (n image here state k) (it image here state k).object (it image here state k).here in
            let marked-same : marked state (n image here state k) (it image here state k).object true ≡ state = ap (λ (os : List (Option Object)). record state { objects = os }) slots in
            let turned-same : turned state (n image here state k) (it image here state k).object true (set state.names handle None) ≡ less cache state image k handle b bound = ap (λ (os : List (Option Object)). record (less cache state image k handle b bound) { objects = os }) slots in
            let keeps : Keeps (step state moment (to_close handle)).state k.layout [] image = closes-next state moment handle (n image here state k) (it image here state k).object k.kept.entries.valid small (is-last image here state k) k.layout [] image
            (subst (λ (s : State). Keeps s k.layout [] image) (sym marked-same) k.kept) in
            subst (λ (z : Image). HoldsState new (step state moment (to_close handle)).state z) same
            (subst (λ (s : State). HoldsState new s image) (sym (ends ∙ turned-same))
            (less-keeps cache state image k handle b bound new image (subst (λ (s : State). Keeps s k.layout [] image) (ends ∙ turned-same) keeps) k.files refl others frees (charged)))

      pub last-done : (b.dirty ≡ true → ForSome mid.files (λ from. Applies mid now (mark_steps from b.node 0))) → (b.dirty ≡ false → Stays mid now) → Does (HoldsState cache) (HoldsState new) old now moment (to_close handle) answer.Done
      last-done marks rests image here state k = record {
        answered = answered-as state image k moment;
        kept = λ i there. ⊎_elim (λ (dirty : b.dirty ≡ true). marked-end image here state k i there (marks dirty)) (λ (clean : b.dirty ≡ false). clean-end image here state k clean i there (rests clean)) (cases_Bool b.dirty);
      }

-- ---- what was freed last

-- its record and its node are valid
module _ (files now : BlockFiles) (bindings left : Bindings) (stand : AreBoundAmong files bindings) (same : now ≡ files) (handle : ℕ) (b : Binding) (bound : binding_of bindings handle ≡ Some b) (object : OpenObject) (was : WasLast bindings left b object) where
  pub last-named : is_record_among now object.entry ≡ true
  last-named = subst (λ (fs : BlockFiles). is_record_among fs object.entry ≡ true) (sym same) (ap (λ (o : OpenObject). is_record_among files o.entry) was.object_is ∙ (stand handle b bound).1)

  pub last-stands : is_node_among now object.node ≡ true
  last-stands = subst (λ (fs : BlockFiles). is_node_among fs object.node ≡ true) (sym same) (ap (λ (o : OpenObject). is_node_among files o.node) was.object_is ∙ (stand handle b bound).0)

pub freed-last : (bindings now : Bindings) (handle : ℕ) (b : Binding) (object : OpenObject) → now ≡ set bindings handle None → WasLast bindings now b object → is_open (set bindings handle None) b.entry ≡ false
freed-last bindings now handle b object frees was = ap (λ (bs : Bindings). is_open bs b.entry) (sym frees) ∙ was.last

-- where the cache keeps a state something lies there with its record
pub last-entry : (cache : Cache) (old : Told) (handle : ℕ) (b : Binding) (bound : binding_of cache.handles handle ≡ Some b) (new : Cache) (object : OpenObject) → WasLast cache.handles new.handles b object
    → ForSome old.files (KeepsAny cache) → ForSome old.files (λ image. (loaded : Loaded) × LoadsWith object.entry loaded image)
last-entry cache old handle b bound new object was any image there =
    let one : KeepsAny cache image = any image there in
    let k : HoldsState cache one.0 image = one.1 in
    let it = is cache one.0 image k handle b bound in
    (it.loaded, subst (λ (o : OpenObject). LoadsWith o.entry it.loaded image) (sym was.object_is) (bound-loads one.0 k.layout [] image k.kept.entries (number cache one.0 image k handle b bound) b it))

module _ {A : Type 0} (cache : Cache) (old mid now : Told) (stays : mid ≡ old) (handle : ℕ) (small : handle < 2 ^ 16) (b : Binding) (bound : binding_of cache.handles handle ≡ Some b) (new : Cache) (frees : new.handles ≡ set cache.handles handle None) (others : OnlyNamesChange cache new)
    (object : OpenObject) (was : WasLast cache.handles new.handles b object) (alive : b.doomed ≡ false) (bytes : TellsBytes mid) (result : Result A Fault) (cleans : Cleans new.files mid now object result) (stands : is_node_among cache.files object.node ≡ true) where
  abbrev cleaned : Cleans new.files mid now (open_object cache.handles b) result
  cleaned = subst (λ (o : OpenObject). Cleans new.files mid now o result) was.object_is cleans

  pub cleaned-stops : (moment : ℕ) → MayStopAtEach (HoldsState cache) old now moment (to_close handle)
  cleaned-stops =
      last-stops cache handle small b bound old mid now stays (freed-last cache.handles new.handles handle b object frees was) alive bytes (subst (λ (o : OpenObject). is_node_among cache.files o.node ≡ true) was.object_is stands) (λ dirty. (cleaned.cleans dirty).stops) cleaned.stays

  pub cleaned-done : (ok : (P : Type 0) → OnOk result P → P) (last : Cache) → ForSome now.files (IsOpen new.files) → last.handles ≡ new.handles → OnlyNamesChange new last → new.open_bytes ≡ cache.open_bytes → (charge : ℕ) → last.open_bytes ≡ new.open_bytes - charge
      → ForSome old.files (λ image. charge ≡ charge_at image object.entry) → (moment : ℕ) → Does (HoldsState cache) (HoldsState last) old now moment (to_close handle) answer.Done
  cleaned-done ok last still same rest charged charge falls says moment =
      let sum : ForSome old.files (λ image. last.open_bytes ≡ cache.open_bytes - charge_at image b.entry) = λ image here.
      falls ∙ ap (λ (n : ℕ). n - charge) charged ∙ ap (λ (n : ℕ). cache.open_bytes - n) (says image here ∙ ap (λ (o : OpenObject). charge_at image o.entry) was.object_is) in
      last-done cache handle small b bound old mid now stays (freed-last cache.handles new.handles handle b object frees was) alive last bytes (λ image here. subst (λ (fs : BlockFiles). IsOpen fs image) others.files (still image here)) (same ∙ frees) sum
      (record { limits = rest.limits ∙ others.limits; items = rest.items ∙ others.items; bytes = rest.bytes ∙ others.bytes; files = rest.files ∙ others.files; mark = rest.mark ∙ others.mark; notes = rest.notes ∙ others.notes }) moment
      (λ dirty. ok (ForSome mid.files (λ from. Applies mid now (mark_steps from b.node 0))) (cleaned.cleans dirty).steps) cleaned.stays
