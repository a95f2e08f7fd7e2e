-- A Close of the last name of a doomed object, by what holds at each word of the freeing; and of the last name of any object.
use Rattle.std.proofs.Common.{◌≡◌, ⊎_elim, Result, ℕ, ◌-◌, ◌<◌, ◌^◌, Bool, true, false, List, [], ◌∷◌, ◌++◌, set, Some, None, refl, sym, ap, subst, ◌∙◌}
use Rattle.std.specs.Prelude.{OnOk, if◌then◌else◌, not}
use Rattle.std.specs.Option.{ForSome}
use Rattle.std.proofs.lemmas.Bool.{cases_Bool}
use Rattle.spec_image.specs.Image.{Image, Index, byte}
use Rattle.spec_image.specs.Told.{Passes, TellsBytes, Told}
use Rattle.spec_image.proofs.Runs.{passes_weaker}
use Rattle.blk_io.specs.declared.fault.Fault.{Fault}
use Rattle.blk_model.specs.Request.{to_close}
use Rattle.blk_model.specs.Room.{own_charge}
use Rattle.blk_model.specs.State.{State, is_named}
use Rattle.blk_model.specs.Step.{step}
use Rattle.blk_model.specs.declared.Answer.TheVariants as answer
use Rattle.spec_format.specs.Headers.{this_id_of}
use Rattle.spec_folder.specs.Layout.{Layout}
use Rattle.spec_folder.specs.Sound.{words_of}
use Rattle.spec_folder.specs.View.{list_of}
use Rattle.law_folder.specs.CommandLaws.{IsPlacedAsDoomed}
use Rattle.blk_disk.specs.declared.tables.BlockFiles.{BlockFiles}
use Rattle.blk_disk.specs.Open.{IsOpen}
use Rattle.blk_disk.specs.Tables.{is_node_among}
use Rattle.blk_handles.specs.declared.open_object.OpenObject.{OpenObject}
use Rattle.blk_handles.specs.Bindings.{Binding, binding_of, is_open}
use Rattle.law_state.specs.Commands.{Does, MayStop, MayStopAtEach}
use Rattle.law_state.specs.Keeping.{Keeps}
use Rattle.law_state.proofs.CommandEnding.{closes-doomed}
use Rattle.law_state.proofs.OneCalls.{closes-of-doomed-unlink}
use Rattle.law_state.proofs.Stopping.{stop-after}
use Rattle.blk_object.specs.Ending.{Cleans, FreesAll, HasFreeable, LiesFreeable, MayEndObject}
use Rattle.blk_object.specs.Freeing.{AreGoing, Removes}
use Rattle.blk_object.specs.Owning.{LoadsWith}
use Rattle.blk_object.proofs.FreedPlaces.{all-counted, all-gone, freeable, going-finds}
use Rattle.blk_object.proofs.OwnedPlaces.{kept-load}
use Rattle.blk_object.specs.Writing.{node_of_object}
use Rattle.blk_cache.specs.declared.cache.Cache.{Cache}
use Rattle.blk_cache.specs.CacheKeeping.{IsBoundTo, HoldsState}
use Rattle.blk_cache.specs.Closing.{CountsClosed}
use Rattle.blk_cache.specs.CommandClauses.{KeepsAny, OnlyNamesChange}
use Rattle.blk_evict.specs.Looking.{charge_at}
use Rattle.blk_cache.proofs.BoundRecords.{bound-says}
use Rattle.blk_cache.proofs.Closes.{CountsGone, at-doomed, gone, gone-keeps, is, layout-gone, less, less-open, named, number}
use Rattle.blk_cache.proofs.CloseSteps.{WasLast, answered-as, cleaned-done, cleaned-stops, freed-last, mid-node}

-- places that are freed leave the index as it was
index-stays : (words : List ℕ) (from image : Image) → Removes words from image → (i : ℕ) → byte image Index i ≡ byte from Index i
index-stays [] from image is i = ap (λ (x : Image). byte x Index i) is
index-stays (w ∷ words) from image r i = index-stays words r.0 image r.1.1 i ∙ r.1.0.index i

module _ (cache : Cache) (handle : ℕ) (small : handle < 2 ^ 16) (b : Binding) (bound : binding_of cache.handles handle ≡ Some b) (last : is_open (set cache.handles handle None) b.entry ≡ false) (doomed : b.doomed ≡ true) where
  module _ (image : Image) (state : State) (k : HoldsState cache state image) where
    abbrev n : ℕ
    n = number cache state image k handle b bound

    abbrev it : IsBoundTo state k.layout n b
    it = is cache state image k handle b bound

    not-true : (t : Bool) → true ≡ not t → t ≡ false
    not-true false e = refl
    not-true true e = e

    dead : it.object.live ≡ false
    dead = not-true it.object.live (sym doomed ∙ it.doomed)

    none : is_named (less cache state image k handle b bound) n ≡ false
    none = sym (less-open cache state image k handle b bound) ∙ last

    placed : IsPlacedAsDoomed state k.layout n it.object it.loaded
    placed = record { here = it.here; dead = dead; at = at-doomed cache state image k handle b bound none dead }

    abbrev words : List ℕ
    words = words_of it.loaded

    lies : LoadsWith b.entry it.loaded image
    lies = subst (λ (e : ℕ). LoadsWith e it.loaded image) (sym it.entry) (kept-load state k.layout [] image (node_of_object k.layout n it.object) it.loaded k.kept.entries it.at)

    module _ (moment : ℕ) where
      abbrev next : State
      next = (step state moment (to_close handle)).state

      abbrev left : Layout
      left = layout-gone cache state image k handle b bound none dead

      ends : next ≡ gone cache state image k handle b bound none dead
      ends = closes-doomed state moment handle n it.object k.kept.entries.valid (named cache state image k handle b bound) it.here dead none

      -- its words are unlinked
      unlinked : Keeps next left (words ++ []) image
      unlinked = closes-of-doomed-unlink state k.layout [] image moment handle n it.object it.loaded k.kept small (named cache state image k handle b bound) none placed

      -- while they are freed
      going-stops : (i : Image) → AreGoing words image i → MayStop state moment (to_close handle) i
      going-stops i going = stop-after state moment (to_close handle) i k.kept.entries.valid small (going-finds words image i going next left [] unlinked.entries)

      -- once they are
      freed-keeps : (i : Image) → Removes words image i → Keeps next left [] i
      freed-keeps i r =
          record { entries = all-gone words image i r next left [] unlinked.entries; counters = all-counted words image i r ∙ unlinked.counters }

      freed-id : (i : Image) → Removes words image i → this_id_of (byte i Index) ≡ this_id_of (byte image Index)
      freed-id i r = ap this_id_of same where
        same : byte i Index ≡ byte image Index
        same = λ j x. index-stays words image i r x j

    -- they may be
    pub its-freeable : LiesFreeable b.entry it.loaded image
    its-freeable = record { lies = lies; freeable = freeable (next 0) (left 0) words [] image (unlinked 0).entries }

  module _ (old mid now : Told) (stays : mid ≡ old) where
    -- a folder where the cache keeps a state has what is to be freed
    pub mid-freeable : ForSome old.files (KeepsAny cache) → ForSome mid.files (HasFreeable b.entry)
    mid-freeable any image there =
        let here : old.files ≡ Some image = ap (λ (t : Told). t.files) (sym stays) ∙ there in
        let one : KeepsAny cache image = any image here in
        ((it image one.0 one.1).loaded, its-freeable image one.0 one.1)

    module _ {A : Type 0} (result : Result A Fault) (frees : FreesAll mid now b.entry result) (moment : ℕ) where
      -- at each word
      pub gone-stops : MayStopAtEach (HoldsState cache) old now moment (to_close handle)
      gone-stops image here state k =
          let there : mid.files ≡ Some image = ap (λ (t : Told). t.files) stays ∙ here in
          let run : Passes mid now (AreGoing (words image state k) image) = frees.stops image there (it image state k).loaded (its-freeable image state k) in
          let from-old : Passes old now (AreGoing (words image state k) image) = subst (λ (t : Told). Passes t now (AreGoing (words image state k) image)) stays run in
          passes_weaker from-old (going-stops image state k moment) (going-stops image state k moment)

      -- in the end
      pub gone-done : (ok : (P : Type 0) → OnOk result P → P) (new : Cache) → ForSome now.files (IsOpen cache.files) → new.handles ≡ set cache.handles handle None → ForSome old.files (λ image. CountsGone cache new (charge_at image b.entry))
          → Does (HoldsState cache) (HoldsState new) old now moment (to_close handle) answer.Done
      gone-done ok new still same counts image here state k = record {
        answered = answered-as cache handle small b bound state image k moment;
        kept = λ i there.
            let at : mid.files ≡ Some image = ap (λ (t : Told). t.files) stays ∙ here in
            let freed = ok (ForSome mid.files (λ from. _)) frees.freed in
            let r : Removes (words image state k) image i = freed image at (it image state k).loaded (its-freeable image state k) i there in
            let charge : charge_at image b.entry ≡ own_charge (it image state k).object = (bound-says state k.layout [] image k.kept.entries (n image state k) b (it image state k)).charge in
            subst (λ (s : State). HoldsState new s i) (sym (ends image state k moment))
            (gone-keeps cache state image k handle b bound (none image state k) (dead image state k) new i
            (subst (λ (s : State). Keeps s (left image state k moment) [] i) (ends image state k moment) (freed-keeps image state k moment i r))
            (still i there).agrees (freed-id image state k moment i r) (subst (CountsGone cache new) charge (counts image here)) same);
      }

-- ---- any object

module _ (cache : Cache) (old mid now : Told) (stays : mid ≡ old) (handle : ℕ) (small : handle < 2 ^ 16) (b : Binding) (bound : binding_of cache.handles handle ≡ Some b) (new : Cache) (frees : new.handles ≡ set cache.handles handle None) (others : OnlyNamesChange cache new)
    (object : OpenObject) (was : WasLast cache.handles new.handles b object) (bytes : TellsBytes mid) (stands : is_node_among cache.files object.node ≡ true) where
  same-mark : object.doomed ≡ b.doomed
  same-mark = ap (λ (o : OpenObject). o.doomed) was.object_is

  shut : is_open (set cache.handles handle None) b.entry ≡ false
  shut = freed-last cache.handles new.handles handle b object frees was

  -- a folder where the cache keeps a state has what its end asks for
  pub closed-may : ForSome old.files (KeepsAny cache) → ForSome mid.files (MayEndObject object.doomed object.entry object.node)
  closed-may any = by object.doomed refl where
    by : (t : Bool) → object.doomed ≡ t → ForSome mid.files (MayEndObject t object.entry object.node)
    by true e = subst (λ (o : OpenObject). ForSome mid.files (HasFreeable o.entry)) (sym was.object_is) (mid-freeable cache handle small b bound shut (sym same-mark ∙ e) old mid now stays any)
    by false e = subst (λ (o : OpenObject). ForSome mid.files (λ image. (list_of image).checks o.node ≡ true)) (sym was.object_is) (mid-node cache handle small b bound old mid mid stays shut (sym same-mark ∙ e) any)

  module _ {A : Type 0} (result : Result A Fault) (cleans : object.doomed ≡ false → Cleans new.files mid now object result) (freeing : object.doomed ≡ true → FreesAll mid now object.entry result) (moment : ℕ) where
    its-freeing : object.doomed ≡ true → FreesAll mid now b.entry result
    its-freeing e = subst (λ (o : OpenObject). FreesAll mid now o.entry result) was.object_is (freeing e)

    pub closed-stops : MayStopAtEach (HoldsState cache) old now moment (to_close handle)
    closed-stops = ⊎_elim
        (λ (e : object.doomed ≡ true). gone-stops cache handle small b bound shut (sym same-mark ∙ e) old mid now stays result (its-freeing e) moment)
        (λ (e : object.doomed ≡ false). cleaned-stops cache old mid now stays handle small b bound new frees others object was (sym same-mark ∙ e) bytes result (cleans e) stands moment)
        (cases_Bool object.doomed)

    module _ (ok : (P : Type 0) → OnOk result P → P) (last : Cache) (still : ForSome now.files (IsOpen new.files)) (charge : ℕ) (counts : CountsClosed new last object.doomed charge) (charged : new.open_bytes ≡ cache.open_bytes)
        (says : ForSome old.files (λ image. charge ≡ charge_at image object.entry)) where
      counts-gone : object.doomed ≡ true → (charged-as : ℕ) → charge ≡ charged-as → CountsGone cache last charged-as
      counts-gone e charged-as same = record {
        open_bytes = counts.open_bytes ∙ ap (λ (n : ℕ). n - charge) charged ∙ ap (λ (n : ℕ). cache.open_bytes - n) same;
        items = counts.items ∙ ap (λ (t : Bool). if t then new.items - 1 else new.items) e ∙ ap (λ (n : ℕ). n - 1) others.items;
        bytes = counts.bytes ∙ ap (λ (t : Bool). if t then new.bytes - charge else new.bytes) e ∙ ap (λ (n : ℕ). n - charge) others.bytes ∙ ap (λ (n : ℕ). cache.bytes - n) same;
        limits = counts.limits ∙ others.limits;
        files = counts.files ∙ others.files;
        mark = counts.mark ∙ others.mark;
      }

      counts-same : object.doomed ≡ false → OnlyNamesChange new last
      counts-same e = record {
        limits = counts.limits;
        items = counts.items ∙ ap (λ (t : Bool). if t then new.items - 1 else new.items) e;
        bytes = counts.bytes ∙ ap (λ (t : Bool). if t then new.bytes - charge else new.bytes) e;
        files = counts.files;
        mark = counts.mark;
        notes = counts.notes;
      }

      pub closed-done : Does (HoldsState cache) (HoldsState last) old now moment (to_close handle) answer.Done
      closed-done = ⊎_elim
          (λ (e : object.doomed ≡ true).
          gone-done cache handle small b bound shut (sym same-mark ∙ e) old mid now stays result (its-freeing e) moment ok last (λ image here. subst (λ (fs : BlockFiles). IsOpen fs image) others.files (still image here)) (counts.handles ∙ frees)
          (λ image here. counts-gone e (charge_at image b.entry) (says image here ∙ ap (λ (o : OpenObject). charge_at image o.entry) was.object_is)))
          (λ (e : object.doomed ≡ false).
          cleaned-done cache old mid now stays handle small b bound new frees others object was (sym same-mark ∙ e) bytes result (cleans e) stands ok last still counts.handles (counts-same e) charged charge counts.open_bytes says moment)
          (cases_Bool object.doomed)
