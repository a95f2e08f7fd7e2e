-- A request that names a stream of an open object, where a cache keeps a state.
use Rattle.std.proofs.Common.{◌≡◌, ℕ, ◌<◌, ◌≤◌, Bool, true, false, List, [], ◌∷◌, length, Option, Some, None, refl, sym, ap, subst, ◌∙◌, arith}
use Rattle.std.specs.Prelude.{◌==◌, ◌&&◌, ◌||◌, IfSome, if◌then◌else◌, is_none, is_some, nat_le, nat_lt, not, slice_index, unwrap_or}
use Rattle.std.specs.Option.{ForSome, option_map}
use Rattle.std.proofs.lemmas.Bool.Decides.{nat_tests}
use Rattle.std.proofs.lemmas.List.{get_or_past}
use Rattle.spec_image.specs.Image.{AreBytes, Image}
use Rattle.spec_image.specs.Told.{TellsBytes, Told}
use Rattle.spec_image.proofs.Runs.{some_inj}
use Rattle.blk_model.specs.Effects.{new_object, object_of}
use Rattle.blk_model.specs.Items.{is_sparse}
use Rattle.blk_model.specs.Refusals.{first_refusal, is_kept_from_streams, names_none, no_name, no_stream}
use Rattle.blk_model.specs.State.{Object, State, named_by, object_at}
use Rattle.blk_model.specs.declared.Refusal.{Refusal}
use Rattle.blk_model.specs.declared.Refusal.TheVariants as refusal
use Rattle.spec_format.specs.Sealed.{RecordChecks}
use Rattle.blk_disk.specs.declared.tables.BlockFiles.{BlockFiles}
use Rattle.blk_disk.specs.Tables.{is_node_among, is_record_among}
use Rattle.blk_handles.specs.declared.open_object.OpenObject.{OpenObject}
use Rattle.blk_handles.specs.Bindings.{Binding, Bindings, binding_of, open_object}
use Rattle.blk_entry.specs.declared.keys.Head.{Head}
use Rattle.blk_entry.specs.Keys.{IsRecordHead}
use Rattle.law_state.specs.OneCallLaws.{Names}
use Rattle.blk_cache.specs.declared.asking.NamedStream.{NamedStream}
use Rattle.blk_cache.specs.declared.cache.Cache.{Cache}
use Rattle.blk_cache.specs.BoundNames.{AreBoundAmong}
use Rattle.blk_cache.specs.Asking.{IsNamedStream, early_stream_refusal, keeps_stream, stream_refusal}
use Rattle.blk_cache.specs.CacheKeeping.{IsBoundTo, HoldsState}
use Rattle.blk_cache.specs.CommandClauses.{KeepsAny}
use Rattle.blk_cache.proofs.BoundRecords.{SaysObject, bound-checks, bound-node, bound-says}
use Rattle.blk_cache.proofs.Closes.{is, named, number}
use Rattle.blk_cache.proofs.Refusing.{busy}

-- ---- refusals

none-not : {A : Type 0} (o : Option A) → is_none o ≡ not (is_some o)
none-not None = refl
none-not (Some x) = refl

two-of : (a b c : Bool) (p q r why : Refusal) → first_refusal ((a, p) ∷ (b, q) ∷ []) ≡ Some why → first_refusal ((a, p) ∷ (b, q) ∷ (c, r) ∷ []) ≡ Some why
two-of true b c p q r why e = e
two-of false true c p q r why e = e
two-of false false c p q r why e = cc

past-two : (a b c : Bool) (p q r : Refusal) → first_refusal ((a, p) ∷ (b, q) ∷ []) ≡ None → first_refusal ((a, p) ∷ (b, q) ∷ (c, r) ∷ []) ≡ (if c then Some r else None)
past-two true b c p q r e = cc
past-two false true c p q r e = cc
past-two false false c p q r e = refl

not-first : (a b : Bool) (p q : Refusal) → first_refusal ((a, p) ∷ (b, q) ∷ []) ≡ None → a ≡ false
not-first true b p q e = cc
not-first false b p q e = refl

not-second : (a b : Bool) (p q : Refusal) → first_refusal ((a, p) ∷ (b, q) ∷ []) ≡ None → b ≡ false
not-second true b p q e = cc
not-second false true p q e = cc
not-second false false p q e = refl

-- a stream that there is has one of three numbers
pub stream-below : (cache : Cache) (handle stream : ℕ) → early_stream_refusal cache.handles handle stream ≡ None → stream < 3
stream-below cache handle stream passes =
    let e : nat_le 3 stream ≡ false = not-second (is_none (binding_of cache.handles handle)) (no_stream stream) refusal.BadHandle refusal.BadStream passes in grind (arith, nat_tests)

-- and its handle is bound
pub handle-bound : (cache : Cache) (handle stream : ℕ) → early_stream_refusal cache.handles handle stream ≡ None → (b : Binding) × (binding_of cache.handles handle ≡ Some b)
handle-bound cache handle stream passes = by (binding_of cache.handles handle) refl where
  by : (o : Option Binding) → binding_of cache.handles handle ≡ o → (b : Binding) × (binding_of cache.handles handle ≡ Some b)
  by None e = absurd (let c : true ≡ false = sym (ap is_none e) ∙ not-first (is_none (binding_of cache.handles handle)) (no_stream stream) refusal.BadHandle refusal.BadStream passes in cc)
  by (Some b) e = (b, e)

module _ (cache : Cache) (state : State) (image : Image) (k : HoldsState cache state image) (handle stream : ℕ) where
  -- a handle names no object where its name is free
  pub none-named : names_none state handle ≡ is_none (binding_of cache.handles handle)
  none-named = by (no_name handle) refl ∙ none-not (named_by state handle) ∙ ap not (sym (busy cache state image k handle)) ∙ sym (none-not (binding_of cache.handles handle)) where
    by : (t : Bool) → no_name handle ≡ t → (no_name handle || is_none (named_by state handle)) ≡ is_none (named_by state handle)
    by true e =
        let far : 4096 ≤ handle = grind (arith, nat_tests) in
        let long = k.kept.entries.valid.names in
        let free : named_by state handle ≡ None = get_or_past state.names handle None (omega (arith, far, long)) in
        ap (λ (t : Bool). t || is_none (named_by state handle)) e ∙ sym (ap is_none free)
    by false e = ap (λ (t : Bool). t || is_none (named_by state handle)) e

  -- what is refused by the names and the stream
  pub refused-early : (why : Refusal) → early_stream_refusal cache.handles handle stream ≡ Some why → stream_refusal state handle stream ≡ Some why
  refused-early why e = two-of (names_none state handle) (no_stream stream) (is_kept_from_streams state handle stream) refusal.BadHandle refusal.BadStream refusal.SparseStream why
      (ap (λ (t : Bool). first_refusal ((t, refusal.BadHandle) ∷ (no_stream stream, refusal.BadStream) ∷ [])) none-named ∙ e)

  passed-early : early_stream_refusal cache.handles handle stream ≡ None → stream_refusal state handle stream ≡ (if is_kept_from_streams state handle stream then Some refusal.SparseStream else None)
  passed-early e = past-two (names_none state handle) (no_stream stream) (is_kept_from_streams state handle stream) refusal.BadHandle refusal.BadStream refusal.SparseStream
      (ap (λ (t : Bool). first_refusal ((t, refusal.BadHandle) ∷ (no_stream stream, refusal.BadStream) ∷ [])) none-named ∙ e)

  module _ (b : Binding) (bound : binding_of cache.handles handle ≡ Some b) where
    abbrev n : ℕ
    n = number cache state image k handle b bound

    abbrev it : IsBoundTo state k.layout n b
    it = is cache state image k handle b bound

    names-it : Names state handle n it.object
    names-it = record { names = named cache state image k handle b bound; here = it.here }

    says : SaysObject image b.entry it.object
    says = bound-says state k.layout [] image k.kept.entries n b it

    pub entry-checks : AreBytes image → RecordChecks b.entry image
    entry-checks bytes = bound-checks state k.layout [] image k.kept.entries n b it bytes

    its-object : object_of state handle ≡ it.object
    its-object = ap (λ (o : Option ℕ). unwrap_or (object_at state (unwrap_or o (length state.objects))) (new_object [])) names-it.names ∙ ap (λ (o : Option Object). unwrap_or o (new_object [])) it.here

    -- whether it keeps the stream to itself
    kept-same : (head : Head) → IsRecordHead image b.entry head → keeps_stream head.flags stream ≡ is_kept_from_streams state handle stream
    kept-same head h = ap (λ (f : ℕ). (f == 1) && nat_lt 0 stream) h.flags ∙ ap (λ (t : Bool). t && nat_lt 0 stream) says.sparse ∙ ap (λ (o : Object). is_sparse o.shape && nat_lt 0 stream) (sym its-object)

    pub refused-sparse : (head : Head) → IsRecordHead image b.entry head → early_stream_refusal cache.handles handle stream ≡ None → keeps_stream head.flags stream ≡ true → stream_refusal state handle stream ≡ Some refusal.SparseStream
    refused-sparse head h passes keeps = passed-early passes ∙ ap (λ (t : Bool). if t then Some refusal.SparseStream else None) (sym (kept-same head h) ∙ keeps)

    -- what is found
    pub found-stream : (head : Head) → IsRecordHead image b.entry head → early_stream_refusal cache.handles handle stream ≡ None → keeps_stream head.flags stream ≡ false
        → (found : NamedStream) → found.node ≡ b.node → found.entry ≡ b.entry → found.doomed ≡ b.doomed → found.size ≡ slice_index head.sizes stream → IsNamedStream state k.layout handle stream found
    found-stream head h passes free found node entry doomed size = record {
      passes = passed-early passes ∙ ap (λ (t : Bool). if t then Some refusal.SparseStream else None) (sym (kept-same head h) ∙ free);
      number = n;
      object = it.object;
      names = names-it;
      node = node ∙ it.node;
      loaded = it.loaded;
      at = ap k.layout.at node ∙ bound-node state k.layout [] image k.kept.entries n b it;
      entry = entry ∙ it.entry;
      doomed = doomed ∙ it.doomed;
      size = size ∙ ap (λ (ws : List ℕ). slice_index ws stream) h.sizes
          ∙ says.sizes stream (stream-below cache handle stream passes) (ap (λ (o : Object). is_sparse o.shape && nat_lt 0 stream) (sym its-object) ∙ sym (kept-same head h) ∙ free);
    }

-- where the cache keeps a state, the record that a handle is bound to has a matching checksum or none
pub asked-checks : (cache : Cache) (told : Told) (handle : ℕ) (b : Binding) → binding_of cache.handles handle ≡ Some b → TellsBytes told → ForSome told.files (KeepsAny cache) → ForSome told.files (RecordChecks b.entry)
asked-checks cache told handle b bound bytes any image there = let one : KeepsAny cache image = any image there in entry-checks cache one.0 image one.1 handle 0 b bound (bytes image there)

-- what a handle is bound to, as it is given
pub record IsOpened (bindings : Bindings) (handle : ℕ) (object : OpenObject) : Type 0 where
  pub b : Binding
  pub bound : binding_of bindings handle ≡ Some b
  pub opened : object ≡ open_object bindings b

pub opened-there : (bindings : Bindings) (handle : ℕ) (r : Option OpenObject) (object : OpenObject) → r ≡ option_map (open_object bindings) (binding_of bindings handle) → r ≡ Some object → IsOpened bindings handle object
opened-there bindings handle r object e some = by (binding_of bindings handle) refl where
  by : (o : Option Binding) → binding_of bindings handle ≡ o → IsOpened bindings handle object
  by None free = absurd (let c : ◌≡◌ {A = Option OpenObject} None (Some object) = sym (e ∙ ap (option_map (open_object bindings)) free) ∙ some in cc)
  by (Some b) bound = record { b = b; bound = bound; opened = some_inj (sym some ∙ e ∙ ap (option_map (open_object bindings)) bound) }

pub none-there : (bindings : Bindings) (handle : ℕ) (r : Option OpenObject) → r ≡ option_map (open_object bindings) (binding_of bindings handle) → r ≡ None → binding_of bindings handle ≡ None
none-there bindings handle r e none = by (binding_of bindings handle) refl where
  by : (o : Option Binding) → binding_of bindings handle ≡ o → binding_of bindings handle ≡ None
  by None free = free
  by (Some b) bound = absurd (let c : Some (open_object bindings b) ≡ None = sym (e ∙ ap (option_map (open_object bindings)) bound) ∙ none in cc)

-- its node and its record are valid among the block files
pub opened-stands : (files : BlockFiles) (bindings : Bindings) → AreBoundAmong files bindings → (handle : ℕ) (object : OpenObject) → IsOpened bindings handle object → (is_node_among files object.node ≡ true) × (is_record_among files object.entry ≡ true)
opened-stands files bindings stand handle object o = subst (λ (x : OpenObject). (is_node_among files x.node ≡ true) × (is_record_among files x.entry ≡ true)) (sym o.opened) (stand handle o.b o.bound)

-- where there is no early refusal, any claim on it holds
pub none-early : (bindings : Bindings) (handle stream : ℕ) (P : Refusal → Type 0) → early_stream_refusal bindings handle stream ≡ None → IfSome (early_stream_refusal bindings handle stream) P
none-early bindings handle stream P e = subst (λ (o : Option Refusal). IfSome o P) (sym e) tt
