-- A request that names an object for its sparse data, where a cache keeps a state.
use Rattle.std.proofs.Common.{◌≡◌, ℕ, ◌<◌, ◌+◌, Bool, true, false, List, [], ◌∷◌, length, Option, Some, None, refl, sym, ap, ap₂, subst, ◌∙◌, arith}
use Rattle.std.specs.Prelude.{◌==◌, ◌&&◌, IfSome, if◌then◌else◌, is_none, nat_lt, not, slice_index}
use Rattle.std.specs.Int.{cast_unsigned, w64}
use Rattle.std.specs.Option.{option_map_or}
use Rattle.std.proofs.lemmas.Bool.{eq-eqb, eqb-true}
use Rattle.std.proofs.lemmas.Bool.Decides.{nat_tests}
use Rattle.spec_image.specs.Image.{Image}
use Rattle.blk_model.specs.Effects.{stream_in}
use Rattle.blk_model.specs.Items.{Shape, is_sparse, main, main_row, plain, sparse}
use Rattle.blk_model.specs.Refusals.{first_refusal, is_doomed, names_none, past_end}
use Rattle.blk_model.specs.State.{Object, State}
use Rattle.blk_model.specs.declared.Refusal.{Refusal}
use Rattle.blk_model.specs.declared.Refusal.TheVariants as refusal
use Rattle.spec_format.specs.SparseIndex.{ParentIndex}
use Rattle.spec_folder.specs.Entries.{IsParent, IsPart, IsPlain, Role}
use Rattle.spec_folder.specs.Found.{row_with}
use Rattle.spec_folder.specs.Loads.{Loaded}
use Rattle.blk_handles.specs.Bindings.{Binding, Bindings, binding_of}
use Rattle.blk_entry.specs.declared.keys.Head.{Head}
use Rattle.blk_entry.specs.Keys.{IsRecordHead}
use Rattle.law_state.specs.OneCallLaws.{Names}
use Rattle.blk_object.specs.Owning.{LoadsWith}
use Rattle.blk_object.specs.Writing.{node_of_object}
use Rattle.blk_sparse.specs.Parents.{LoadsAsParent}
use Rattle.blk_sparse.specs.declared.children.Parent.{Parent}
use Rattle.blk_cache.specs.declared.cache.Cache.{Cache}
use Rattle.blk_cache.specs.declared.sparse_asking.PlainObject.{PlainObject}
use Rattle.blk_cache.specs.CacheKeeping.{IsBoundTo, HoldsState}
use Rattle.blk_cache.specs.SparseAsking.{IsRangeInside, IsLiveNamed, IsParentNamed, IsPlainNamed, early_sparse_refusal, sparse_refusal}
use Rattle.blk_cache.proofs.Asks.{none-named}
use Rattle.blk_cache.proofs.BoundRecords.{SaysObject, bound-loads, bound-row, bound-says, no-main, row-shape}
use Rattle.blk_cache.proofs.Closes.{is, named, number}
use Rattle.blk_cache.proofs.Sizes.{named-object}

-- ---- the range

not-second : (a b c d : Bool) (p q r s : Refusal) → first_refusal ((a, p) ∷ (b, q) ∷ (c, r) ∷ (d, s) ∷ []) ≡ None → b ≡ false
not-second true b c d p q r s e = cc
not-second false true c d p q r s e = cc
not-second false false c d p q r s e = refl

not-third : (a b c d : Bool) (p q r s : Refusal) → first_refusal ((a, p) ∷ (b, q) ∷ (c, r) ∷ (d, s) ∷ []) ≡ None → c ≡ false
not-third true b c d p q r s e = cc
not-third false true c d p q r s e = cc
not-third false false true d p q r s e = cc
not-third false false false d p q r s e = refl

not-fourth : (a b c d : Bool) (p q r s : Refusal) → first_refusal ((a, p) ∷ (b, q) ∷ (c, r) ∷ (d, s) ∷ []) ≡ None → d ≡ false
not-fourth true b c d p q r s e = cc
not-fourth false true c d p q r s e = cc
not-fourth false false true d p q r s e = cc
not-fourth false false false true p q r s e = cc
not-fourth false false false false p q r s e = refl

not-first : (a b c d : Bool) (p q r s : Refusal) → first_refusal ((a, p) ∷ (b, q) ∷ (c, r) ∷ (d, s) ∷ []) ≡ None → a ≡ false
not-first true b c d p q r s e = cc
not-first false b c d p q r s e = refl

abbrev dooms-it : Option Binding → Bool
dooms-it o = option_map_or (λ object. object.doomed) o false

module _ (bindings : Bindings) (handle offset count : ℕ) (passes : early_sparse_refusal bindings handle offset count ≡ None) where
  -- where nothing refuses early
  pub goes-inside : IsRangeInside (early_sparse_refusal bindings handle offset count) offset count
  goes-inside = record {
    passes = passes;
    few = let e : nat_lt 1048576 count ≡ false = not-second (is_none (binding_of bindings handle)) (nat_lt 1048576 count) (past_end offset count) (dooms-it (binding_of bindings handle)) refusal.BadHandle refusal.TooLarge refusal.RangeEnd refusal.Doomed passes in grind (arith, nat_tests);
    inside = let e : nat_lt 68719476736 (offset + count) ≡ false = not-third (is_none (binding_of bindings handle)) (nat_lt 1048576 count) (past_end offset count) (dooms-it (binding_of bindings handle)) refusal.BadHandle refusal.TooLarge refusal.RangeEnd refusal.Doomed passes in grind (arith, nat_tests);
  }

  -- the name is bound
  pub goes-bound : (b : Binding) × (binding_of bindings handle ≡ Some b)
  goes-bound = by (binding_of bindings handle) refl where
    by : (o : Option Binding) → binding_of bindings handle ≡ o → (b : Binding) × (binding_of bindings handle ≡ Some b)
    by None e = absurd (let c : true ≡ false = sym (ap is_none e) ∙ not-first (is_none (binding_of bindings handle)) (nat_lt 1048576 count) (past_end offset count) (dooms-it (binding_of bindings handle)) refusal.BadHandle refusal.TooLarge refusal.RangeEnd refusal.Doomed passes in cc)
    by (Some b) e = (b, e)

  -- to a live object
  pub goes-live : (b : Binding) → binding_of bindings handle ≡ Some b → b.doomed ≡ false
  goes-live b e = sym (ap dooms-it e) ∙ not-fourth (is_none (binding_of bindings handle)) (nat_lt 1048576 count) (past_end offset count) (dooms-it (binding_of bindings handle)) refusal.BadHandle refusal.TooLarge refusal.RangeEnd refusal.Doomed passes

-- where there is no early refusal, any claim on it holds
pub nothing-early : (bindings : Bindings) (handle offset count : ℕ) (P : Refusal → Type 0) → early_sparse_refusal bindings handle offset count ≡ None → IfSome (early_sparse_refusal bindings handle offset count) P
nothing-early bindings handle offset count P e = subst (λ (o : Option Refusal). IfSome o P) (sym e) tt

-- ---- the early refusals are those of the state

abbrev refusals : (offset count : ℕ) (free doomed : Bool) → Option Refusal
refusals offset count free doomed = first_refusal ((free, refusal.BadHandle) ∷ (nat_lt 1048576 count, refusal.TooLarge) ∷ (past_end offset count, refusal.RangeEnd) ∷ (doomed, refusal.Doomed) ∷ [])

module _ (cache : Cache) (state : State) (image : Image) (k : HoldsState cache state image) (handle offset count : ℕ) where
  bound-doomed : (b : Binding) → binding_of cache.handles handle ≡ Some b → is_doomed state handle ≡ b.doomed
  bound-doomed b bound =
      let it : IsBoundTo state k.layout (number cache state image k handle b bound) b = is cache state image k handle b bound in
      ap (λ (o : Object). not o.live) (named-object state handle (number cache state image k handle b bound) it.object (record { names = named cache state image k handle b bound; here = it.here })) ∙ sym it.doomed

  -- a handle that names no object has no other refusal
  pub early-same : early_sparse_refusal cache.handles handle offset count ≡ sparse_refusal state handle offset count
  early-same = by (binding_of cache.handles handle) refl where
    free-same : names_none state handle ≡ is_none (binding_of cache.handles handle)
    free-same = none-named cache state image k handle 0

    by : (o : Option Binding) → binding_of cache.handles handle ≡ o → early_sparse_refusal cache.handles handle offset count ≡ sparse_refusal state handle offset count
    by None e =
        ap (λ (o : Option Binding). refusals offset count (is_none o) (dooms-it o)) e
        ∙ sym (ap (λ (t : Bool). refusals offset count t (is_doomed state handle)) (free-same ∙ ap is_none e))
    by (Some b) e =
        ap (λ (t : Bool). refusals offset count (is_none (binding_of cache.handles handle)) t) (ap dooms-it e ∙ sym (bound-doomed b e))
        ∙ ap (λ (t : Bool). refusals offset count t (is_doomed state handle)) (sym free-same)

  pub early-refused : (why : Refusal) → early_sparse_refusal cache.handles handle offset count ≡ Some why → sparse_refusal state handle offset count ≡ Some why
  early-refused why e = sym early-same ∙ e

module _ (cache : Cache) (state : State) (image : Image) (k : HoldsState cache state image) (handle offset count : ℕ) where
  module _ (b : Binding) (bound : binding_of cache.handles handle ≡ Some b) where
    abbrev pub n : ℕ
    n = number cache state image k handle b bound

    abbrev pub it : IsBoundTo state k.layout n b
    it = is cache state image k handle b bound

    abbrev pub names-it : Names state handle n it.object
    names-it = record { names = named cache state image k handle b bound; here = it.here }

    says : SaysObject image b.entry it.object
    says = bound-says state k.layout [] image k.kept.entries n b it

    -- a live one lies at its node
    module _ (alive : b.doomed ≡ false) where
      not-false : (t : Bool) → false ≡ not t → t ≡ true
      not-false true e = refl
      not-false false e = e

      pub live : it.object.live ≡ true
      live = not-false it.object.live (sym alive ∙ it.doomed)

      pub place-is : node_of_object k.layout n it.object ≡ k.layout.place (main it.object.key)
      place-is = ap (λ (t : Bool). if t then k.layout.place (main it.object.key) else k.layout.place_of_doomed n) live

      abbrev pub live-named : (node entry : ℕ) → node ≡ b.node → entry ≡ b.entry → IsLiveNamed state k.layout handle node entry
      live-named node entry node_is entry_is = record {
        number = n;
        object = it.object;
        names = names-it;
        live = live;
        node_is = sym place-is ∙ sym it.node ∙ sym node_is;
        was = it.loaded;
        lies = sym (ap k.layout.at place-is) ∙ it.at;
        record_is = sym it.entry ∙ sym entry_is;
      }

    -- a sparse one is a parent
    pub parents-row : is_sparse it.object.shape ≡ true → (index : ParentIndex) × ((it.loaded.role ≡ IsParent index) × (it.object.shape ≡ sparse index.signature))
    parents-row there = by it.loaded.role refl where
      row-is : (role : Role) → it.loaded.role ≡ role → row_with it.loaded.key role it.loaded.streams ≡ main_row it.object.key it.object.shape it.object.streams
      row-is role e = ap (λ (x : Role). row_with it.loaded.key x it.loaded.streams) (sym e) ∙ bound-row state k.layout [] image k.kept.entries n b it

      by : (role : Role) → it.loaded.role ≡ role → (index : ParentIndex) × ((it.loaded.role ≡ IsParent index) × (it.object.shape ≡ sparse index.signature))
      by IsPlain e = absurd (let one : plain ≡ it.object.shape = ap row-shape (row-is IsPlain e) in let c : false ≡ true = ap is_sparse one ∙ there in cc)
      by (IsParent index) e = (index, (e, sym (ap row-shape (row-is (IsParent index) e))))
      by (IsPart name index) e = absurd (no-main _ _ _ it.object.key it.object.shape it.object.streams (row-is (IsPart name index) e))

    not-sparse : (shape : Shape) → is_sparse shape ≡ false → shape ≡ plain
    not-sparse plain e = refl
    not-sparse (sparse signature) e = cc

    -- by the head of its record
    module _ (head : Head) (h : IsRecordHead image b.entry head) where
      flagged : (head.flags == 1) ≡ is_sparse it.object.shape
      flagged = ap (λ (f : ℕ). f == 1) h.flags ∙ says.sparse

      pub is-flagged : head.flags ≡ 1 → is_sparse it.object.shape ≡ true
      is-flagged e = sym flagged ∙ eq-eqb head.flags 1 e

      pub not-flagged : (head.flags ≡ 1 → ⊥) → it.object.shape ≡ plain
      not-flagged other = not-sparse it.object.shape (by (head.flags == 1) refl) where
        by : (t : Bool) → (head.flags == 1) ≡ t → is_sparse it.object.shape ≡ false
        by true e = absurd (other (eqb-true head.flags 1 e))
        by false e = sym flagged ∙ e

      -- its record is a parent's
      pub flagged-parent : head.flags ≡ 1 → LoadsAsParent b.entry image
      flagged-parent e =
          let row = parents-row (is-flagged e) in
          record { loaded = it.loaded; loads = bound-loads state k.layout [] image k.kept.entries n b it; index = row.0; role = row.1.0 }

      size-same : (i : ℕ) → i < 3 → it.object.shape ≡ plain → slice_index head.sizes i ≡ length (stream_in it.object.streams i)
      size-same i below bare = ap (λ (ws : List ℕ). slice_index ws i) h.sizes ∙ says.sizes i below (ap (λ (sh : Shape). is_sparse sh && nat_lt 0 i) bare)

      module _ (passes : early_sparse_refusal cache.handles handle offset count ≡ None) (alive : b.doomed ≡ false) where
        pub found-plain : (head.flags ≡ 1 → ⊥) → (found : PlainObject) → found.node ≡ b.node → found.entry ≡ b.entry → found.one_stream ≡ ((slice_index head.sizes 1 == 0) && (slice_index head.sizes 2 == 0)) → IsPlainNamed state k.layout handle offset count found
        found-plain other found node_is entry_is one = record {
          passes = sym (early-same cache state image k handle offset count) ∙ passes;
          its = live-named alive found.node found.entry node_is entry_is;
          is_plain = not-flagged other;
          one_stream = one ∙ ap₂ (λ (x y : ℕ). (x == 0) && (y == 0)) (size-same 1 (omega arith) (not-flagged other)) (size-same 2 (omega arith) (not-flagged other));
        }

        pub found-parent : head.flags ≡ 1 → (parent : Parent) → parent.node ≡ b.node → parent.entry ≡ b.entry → ((loaded : Loaded) (index : ParentIndex) → LoadsWith b.entry loaded image → loaded.role ≡ IsParent index → index.signature ≡ cast_unsigned w64 parent.signature) → IsParentNamed state k.layout handle offset count parent
        found-parent e parent node_is entry_is reads =
            let row = parents-row (is-flagged e) in
            let same = reads it.loaded row.0 (bound-loads state k.layout [] image k.kept.entries n b it) row.1.0 in
            record {
              passes = sym (early-same cache state image k handle offset count) ∙ passes;
              its = live-named alive parent.node parent.entry node_is entry_is;
              is_sparse = row.1.1 ∙ ap sparse same;
              index = row.0;
              role = row.1.0;
              same = same;
            }
