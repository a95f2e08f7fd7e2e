-- A Doom and a DoomKey, from what they do to their object.
use Rattle.std.proofs.Common.{◌≡◌, ⊎_elim, ℕ, ◌<◌, Bool, true, false, not, List, [], ◌∷◌, Option, Some, None, refl, sym, ap, subst, ◌∙◌, arith}
use Rattle.std.specs.Prelude.{◌^◌, if◌then◌else◌, is_none, nat_le}
use Rattle.std.specs.Option.{ForSome, option_map}
use Rattle.std.proofs.lemmas.Bool.Decides.{nat_tests}
use Rattle.spec_image.specs.Image.{Image}
use Rattle.spec_image.specs.Told.{Passes, Told}
use Rattle.spec_image.proofs.Runs.{passes_weaker, some_inj}
use Rattle.blk_model.specs.Effects.{doomed}
use Rattle.blk_model.specs.Items.{IsBytes, main}
use Rattle.blk_model.specs.Refusals.{first_refusal, no_key, refusals, refused}
use Rattle.blk_model.specs.Reply.{answer_of}
use Rattle.blk_model.specs.Request.{IsRequest, Request, to_doom, to_doom_key}
use Rattle.blk_model.specs.State.{Object, State, live_with, named_by, object_at}
use Rattle.blk_model.specs.Step.{reply, step}
use Rattle.blk_model.specs.declared.Answer.TheVariants as answer
use Rattle.blk_model.specs.declared.Refusal.TheVariants as refusal
use Rattle.blk_handles.specs.declared.open_object.OpenObject.{OpenObject}
use Rattle.blk_handles.specs.Bindings.{Binding, Bindings, binding_of, open_object}
use Rattle.law_state.specs.Commands.{Does, MayStop, MayStopAtEach}
use Rattle.law_state.specs.CommandStates.{IsDoomOf}
use Rattle.law_state.proofs.CommandEnding.{dooms-end, passed}
use Rattle.law_state.proofs.WordStops.{dooms-stop}
use Rattle.blk_object.specs.RemovingObjects.{FindsEither}
use Rattle.blk_object.specs.Writing.{node_of_object}
use Rattle.blk_cache.specs.declared.cache.Cache.{Cache}
use Rattle.blk_cache.specs.declared.dooming_objects.Target.{Target}
use Rattle.blk_cache.specs.CacheKeeping.{IsBoundTo, HoldsState}
use Rattle.blk_cache.specs.Dooming.{ForEachKept, ForEachOpen, doom_refusal}
use Rattle.blk_cache.specs.DoomingObjects.{IsTargetAt, LiesOpen}
use Rattle.blk_cache.proofs.BoundObjects.{free-of, named-at, number-of}
use Rattle.blk_cache.proofs.Closes.{within-some}
use Rattle.blk_cache.specs.CommandClauses.{SparesRefused}
use Rattle.blk_cache.proofs.Sparing.{passed-spares}

-- ---- refusals by the name

unnamed-refused : (state : State) (moment handle : ℕ) → named_by state handle ≡ None → refused moment (to_doom handle) state ≡ Some refusal.BadHandle
unfolding refusals
unnamed-refused state moment handle none = by (nat_le 4096 handle) refl where
  by : (t : Bool) → nat_le 4096 handle ≡ t → refused moment (to_doom handle) state ≡ Some refusal.BadHandle
  by true e = rw e refl
  by false e = rw (e, none) refl

dead-refused : (state : State) (moment handle number : ℕ) (object : Object) → handle < 4096 → named_by state handle ≡ Some number → object_at state number ≡ Some object → object.live ≡ false → refused moment (to_doom handle) state ≡ Some refusal.Doomed
unfolding refusals
dead-refused state moment handle number object below names here dead = let b : nat_le 4096 handle ≡ false = grind (arith, nat_tests, below) in rw (b, names, here, dead) refl

live-passes : (state : State) (moment handle number : ℕ) (object : Object) → handle < 4096 → named_by state handle ≡ Some number → object_at state number ≡ Some object → object.live ≡ true → refused moment (to_doom handle) state ≡ None
unfolding refusals
live-passes state moment handle number object below names here live = let b : nat_le 4096 handle ≡ false = grind (arith, nat_tests, below) in rw (b, names, here, live) refl

-- ---- refusals by the key

pub no-key-refused : (state : State) (moment : ℕ) (key : List ℕ) → no_key key ≡ true → refused moment (to_doom_key key) state ≡ Some refusal.BadKey
unfolding refusals
no-key-refused state moment key none = ap (λ (b : Bool). first_refusal ((b, refusal.BadKey) ∷ (is_none (live_with state key), refusal.Missing) ∷ [])) none

pub missing-refused : (state : State) (moment : ℕ) (key : List ℕ) → no_key key ≡ false → live_with state key ≡ None → refused moment (to_doom_key key) state ≡ Some refusal.Missing
unfolding refusals
missing-refused state moment key some none = ap (λ (b : Bool). first_refusal ((b, refusal.BadKey) ∷ (is_none (live_with state key), refusal.Missing) ∷ [])) some ∙ ap (λ (o : Option ℕ). first_refusal ((false, refusal.BadKey) ∷ (is_none o, refusal.Missing) ∷ [])) none

key-passes : (state : State) (moment : ℕ) (key : List ℕ) (number : ℕ) → no_key key ≡ false → live_with state key ≡ Some number → refused moment (to_doom_key key) state ≡ None
unfolding refusals
key-passes state moment key number some is = ap (λ (b : Bool). first_refusal ((b, refusal.BadKey) ∷ (is_none (live_with state key), refusal.Missing) ∷ [])) some ∙ ap (λ (o : Option ℕ). first_refusal ((false, refusal.BadKey) ∷ (is_none o, refusal.Missing) ∷ [])) is

-- ---- answers

doom-answer : (state : State) (moment handle : ℕ) → refused moment (to_doom handle) state ≡ None → answer_of (step state moment (to_doom handle)).reply ≡ answer.Done
unfolding reply
doom-answer state moment handle goes = ap answer_of (passed state moment (to_doom handle) goes).1

key-answer : (state : State) (moment : ℕ) (key : List ℕ) → refused moment (to_doom_key key) state ≡ None → answer_of (step state moment (to_doom_key key)).reply ≡ answer.Done
unfolding reply
key-answer state moment key goes = ap answer_of (passed state moment (to_doom_key key) goes).1

-- ---- while the object is being doomed, and once it is

-- a request that isn't refused dooms this object
record Dooms (state : State) (moment : ℕ) (request : Request) (number : ℕ) (object : Object) : Type 0 where
  can : IsRequest request
  passes : refused moment request state ≡ None
  is : IsDoomOf request state number
  here : object_at state number ≡ Some object

either-stops : (cache : Cache) (state : State) (from : Image) (k : HoldsState cache state from) (moment : ℕ) (request : Request) (number : ℕ) (object : Object) → Dooms state moment request number object → (image : Image) → FindsEither state (doomed number state (Some object)) image → MayStop state moment request image
either-stops cache state from k moment request number object d image finds = ⊎_elim
    (λ found. dooms-stop state moment request number object true image k.kept.entries.valid d.can d.passes d.is d.here found)
    (λ found. dooms-stop state moment request number object false image k.kept.entries.valid d.can d.passes d.is d.here found)
    finds

doom-kept : (new : Cache) (state : State) (image : Image) (moment : ℕ) (request : Request) (number : ℕ) (object : Object) → Dooms state moment request number object → HoldsState new (doomed number state (Some object)) image → HoldsState new (step state moment request).state image
doom-kept new state image moment request number object d kept = subst (λ (s : State). HoldsState new s image) (sym (dooms-end state moment request number object d.passes d.is d.here)) kept

-- ---- Doom

module _ (cache : Cache) (handle : ℕ) (small : handle < 2 ^ 16) (b : Binding) (bound : binding_of cache.handles handle ≡ Some b) where
  module _ (state : State) (image : Image) (k : HoldsState cache state image) where
    abbrev number : ℕ
    number = (number-of state k.layout [] image k.kept.entries state.names cache.handles k.names handle b bound).0

    named : named_by state handle ≡ Some number
    named = (number-of state k.layout [] image k.kept.entries state.names cache.handles k.names handle b bound).1

    abbrev it : IsBoundTo state k.layout number b
    it = (number-of state k.layout [] image k.kept.entries state.names cache.handles k.names handle b bound).2

    below : handle < 4096
    below = let w = within-some state.names handle number named in let l = k.kept.entries.valid.names in omega (arith, w, l)

    dead : b.doomed ≡ true → it.object.live ≡ false
    dead doomed_ = no it.object.live (sym it.doomed ∙ doomed_) where
      no : (t : Bool) → not t ≡ true → t ≡ false
      no true e = cc
      no false e = refl

    alive : b.doomed ≡ false → it.object.live ≡ true
    alive lives = yes it.object.live (sym it.doomed ∙ lives) where
      yes : (t : Bool) → not t ≡ false → t ≡ true
      yes true e = refl
      yes false e = cc

    pub doomed-refused : b.doomed ≡ true → (moment : ℕ) → refused moment (to_doom handle) state ≡ Some refusal.Doomed
    doomed-refused doomed_ moment = dead-refused state moment handle number it.object below named it.here (dead doomed_)

    -- its object lies open
    module _ (lives : b.doomed ≡ false) where
      pub lies-open : LiesOpen state k.layout number it.object b.node b.entry
      lies-open =
          let node : node_of_object k.layout number it.object ≡ k.layout.place (main it.object.key) = ap (λ (t : Bool). if t then k.layout.place (main it.object.key) else k.layout.place_of_doomed number) (alive lives) in
          record {
            loaded = it.loaded;
            lies = record { here = it.here; live = alive lives; at = ap k.layout.at (sym node) ∙ it.at };
            named = named-at state.names handle number named;
            node_is = sym node ∙ sym it.node;
            entry_is = sym it.entry;
          }

      dooms : (moment : ℕ) → Dooms state moment (to_doom handle) number it.object
      dooms moment = record { can = small; passes = live-passes state moment handle number it.object below named it.here (alive lives); is = named; here = it.here }

  module _ (lives : b.doomed ≡ false) (old now : Told) (moment : ℕ) where
    pub doom-stops : ForSome old.files (λ from. ForEachOpen cache b.node b.entry from (λ state number object. Passes old now (FindsEither state (doomed number state (Some object))))) → MayStopAtEach (HoldsState cache) old now moment (to_doom handle)
    doom-stops stops image here state k =
        let may = either-stops cache state image k moment (to_doom handle) (number state image k) (it state image k).object (dooms state image k lives moment) in
        passes_weaker (stops image here state k (number state image k) (it state image k).object (lies-open state image k lives)) may may

    pub doom-done : (new : Cache) → ForSome old.files (λ from. ForEachOpen cache b.node b.entry from (λ state number object. ForSome now.files (HoldsState new (doomed number state (Some object))))) → Does (HoldsState cache) (HoldsState new) old now moment (to_doom handle) answer.Done
    doom-done new done image here state k = record {
      answered = sym (doom-answer state moment handle (dooms state image k lives moment).passes);
      kept = λ i there. doom-kept new state i moment (to_doom handle) (number state image k) (it state image k).object (dooms state image k lives moment)
          (done image here state k (number state image k) (it state image k).object (lies-open state image k lives) i there);
    }

pub free-refused : (cache : Cache) (state : State) (image : Image) (k : HoldsState cache state image) (moment handle : ℕ) → binding_of cache.handles handle ≡ None → refused moment (to_doom handle) state ≡ Some refusal.BadHandle
free-refused cache state image k moment handle free = unnamed-refused state moment handle (free-of state k.layout [] image k.kept.entries state.names cache.handles k.names handle free)

-- ---- DoomKey

module _ (cache : Cache) (key : List ℕ) (bytes : IsBytes key) (some : no_key key ≡ false) (target : Target) where
  key-dooms : (state : State) (image : Image) (k : HoldsState cache state image) (at : IsTargetAt state k.layout key target) (moment : ℕ) → Dooms state moment (to_doom_key key) at.number at.object
  key-dooms state image k at moment = record { can = bytes; passes = key-passes state moment key at.number some at.is; is = at.is; here = at.lies.here }

  module _ (old mid now : Told) (stays : mid ≡ old) (moment : ℕ) (found : ForSome old.files (λ image. (state : State) (k : HoldsState cache state image) → IsTargetAt state k.layout key target)) where
    now-here : (image : Image) → old.files ≡ Some image → mid.files ≡ Some image
    now-here image here = ap (λ (t : Told). t.files) stays ∙ here

    pub key-stops : ForSome mid.files (λ from. ForEachKept cache key target from (λ state number object. Passes mid now (FindsEither state (doomed number state (Some object))))) → MayStopAtEach (HoldsState cache) old now moment (to_doom_key key)
    key-stops stops image here state k =
        let at = found image here state k in
        let may = either-stops cache state image k moment (to_doom_key key) at.number at.object (key-dooms state image k at moment) in
        subst (λ (t : Told). Passes t now (MayStop state moment (to_doom_key key))) stays
        (passes_weaker (stops image (now-here image here) state k at.number at.object at.lies at.of_key) may may)

    pub key-spares : SparesRefused (HoldsState cache) old now moment (to_doom_key key)
    key-spares =
        passed-spares (HoldsState cache) old now moment (to_doom_key key)
        (λ image here state k. let at = found image here state k in (key-dooms state image k at moment).passes)

    pub key-done : (new : Cache) → ForSome mid.files (λ from. ForEachKept cache key target from (λ state number object. ForSome now.files (HoldsState new (doomed number state (Some object))))) → Does (HoldsState cache) (HoldsState new) old now moment (to_doom_key key) answer.Done
    key-done new done image here state k =
        let at = found image here state k in
        record {
          answered = sym (key-answer state moment key (key-dooms state image k at moment).passes);
          kept = λ i there. doom-kept new state i moment (to_doom_key key) at.number at.object (key-dooms state image k at moment)
              (done image (now-here image here) state k at.number at.object at.lies at.of_key i there);
        }

-- ---- the name's object

-- what a name is bound to, as it is given
pub record IsGivenFor (bindings : Bindings) (handle : ℕ) (object : OpenObject) : Type 0 where
  pub binding : Binding
  pub bound : binding_of bindings handle ≡ Some binding
  pub same : object ≡ open_object bindings binding

pub bound-object : (bindings : Bindings) (handle : ℕ) (r : Option OpenObject) (object : OpenObject) → r ≡ option_map (open_object bindings) (binding_of bindings handle) → r ≡ Some object → IsGivenFor bindings handle object
bound-object bindings handle r object e is = by (binding_of bindings handle) refl (sym is ∙ e) where
  by : (o : Option Binding) → binding_of bindings handle ≡ o → Some object ≡ option_map (open_object bindings) (binding_of bindings handle) → IsGivenFor bindings handle object
  by None at h = absurd (let c : ◌≡◌ {A = Option OpenObject} (Some object) None = h ∙ ap (option_map (open_object bindings)) at in cc)
  by (Some b) at h = record { binding = b; bound = at; same = some_inj (h ∙ ap (option_map (open_object bindings)) at) }

module _ (cache : Cache) (handle : ℕ) (small : handle < 2 ^ 16) (object : OpenObject) (given : IsGivenFor cache.handles handle object) where
  pub given-refused : object.doomed ≡ true → (moment : ℕ) (state : State) (image : Image) (k : HoldsState cache state image) → refused moment (to_doom handle) state ≡ Some refusal.Doomed
  given-refused dead moment state image k = doomed-refused cache handle small given.binding given.bound state image k (ap (λ (o : OpenObject). o.doomed) (sym given.same) ∙ dead) moment

  module _ (lives : object.doomed ≡ false) where
    lives-so : given.binding.doomed ≡ false
    lives-so = ap (λ (o : OpenObject). o.doomed) (sym given.same) ∙ lives

    module _ (old now : Told) where
      pub given-stops : ForSome old.files (λ from. ForEachOpen cache object.node object.entry from (λ state number object. Passes old now (FindsEither state (doomed number state (Some object))))) → (moment : ℕ) → MayStopAtEach (HoldsState cache) old now moment (to_doom handle)
      given-stops stops moment = doom-stops cache handle small given.binding given.bound lives-so old now moment
          (subst (λ (o : OpenObject). ForSome old.files (λ from. ForEachOpen cache o.node o.entry from (λ state number object. Passes old now (FindsEither state (doomed number state (Some object)))))) given.same stops)

      pub given-spares : (moment : ℕ) → SparesRefused (HoldsState cache) old now moment (to_doom handle)
      given-spares moment =
          passed-spares (HoldsState cache) old now moment (to_doom handle)
          (λ image here state k.
          live-passes state moment handle (number cache handle small given.binding given.bound state image k) (it cache handle small given.binding given.bound state image k).object
          (below cache handle small given.binding given.bound state image k) (named cache handle small given.binding given.bound state image k)
          (it cache handle small given.binding given.bound state image k).here (alive cache handle small given.binding given.bound state image k lives-so))

      pub given-done : (new : Cache) → ForSome old.files (λ from. ForEachOpen cache object.node object.entry from (λ state number object. ForSome now.files (HoldsState new (doomed number state (Some object))))) → (moment : ℕ) → Does (HoldsState cache) (HoldsState new) old now moment (to_doom handle) answer.Done
      given-done new done moment = doom-done cache handle small given.binding given.bound lives-so old now moment new
          (subst (λ (o : OpenObject). ForSome old.files (λ from. ForEachOpen cache o.node o.entry from (λ state number object. ForSome now.files (HoldsState new (doomed number state (Some object)))))) given.same done)

    -- where a state is kept its object lies open
    pub given-lies : (P : Type 0) (image : Image) (state : State) (k : HoldsState cache state image) → ForEachOpen cache object.node object.entry image (λ state number object. P) → P
    given-lies P image state k all =
        subst (λ (o : OpenObject). ForEachOpen cache o.node o.entry image (λ state number object. P)) given.same all state k
        (number cache handle small given.binding given.bound state image k) (it cache handle small given.binding given.bound state image k).object (lies-open cache handle small given.binding given.bound state image k lives-so)

-- ---- the refusals of a Doom by its name alone

pub free-tells : (bindings : Bindings) (handle : ℕ) → binding_of bindings handle ≡ None → doom_refusal bindings handle ≡ Some refusal.BadHandle
free-tells bindings handle free = rw free refl

pub dead-tells : (bindings : Bindings) (handle : ℕ) (b : Binding) → binding_of bindings handle ≡ Some b → b.doomed ≡ true → doom_refusal bindings handle ≡ Some refusal.Doomed
dead-tells bindings handle b bound dead = rw (bound, dead) refl

pub live-tells : (bindings : Bindings) (handle : ℕ) (b : Binding) → binding_of bindings handle ≡ Some b → b.doomed ≡ false → doom_refusal bindings handle ≡ None
live-tells bindings handle b bound lives = rw (bound, lives) refl
