-- The object that a SparseWrite names, and what it adds as it is measured.
use Rattle.std.proofs.Common.{◌≡◌, ℕ, ◌<◌, ◌≤◌, ◌%◌, Bool, true, false, List, [], ◌∷◌, length, map, Option, refl, sym, ap, subst, ◌∙◌, arith}
use Rattle.std.specs.Prelude.{◌&&◌, ◌==◌, if◌then◌else◌}
use Rattle.std.specs.Int.{w64}
use Rattle.std.proofs.lemmas.Bool.{and_parts, eqb-true}
use Rattle.std.proofs.lemmas.Int.{of_z-to_z}
use Rattle.std.proofs.lemmas.Nat.{mod_below}
use Rattle.spec_image.specs.Image.{Image}
use Rattle.blk_model.specs.Items.{Shape, part}
use Rattle.blk_model.specs.Sizes.{signatures}
use Rattle.blk_model.specs.Sparse.{covered_parts}
use Rattle.blk_model.specs.State.{Object, State}
use Rattle.blk_model.specs.declared.Refusal.{Refusal}
use Rattle.blk_model.specs.declared.Refusal.TheVariants as refusal
use Rattle.spec_folder.specs.Layout.{Layout}
use Rattle.blk_disk.specs.declared.tables.BlockFiles.{BlockFiles}
use Rattle.blk_sparse.specs.declared.measuring.Measured.{Measured}
use Rattle.blk_sparse.specs.declared.storing.Target.{Target}
use Rattle.blk_sparse.specs.Measuring.{IsMeasured, IsPlainKept}
use Rattle.blk_sparse.specs.SparseObjects.{KeepsParent, with_signature}
use Rattle.blk_sparse.specs.SparseWrites.{signature_to}
use Rattle.blk_cache.specs.declared.cache.Cache.{Cache}
use Rattle.blk_cache.specs.declared.sparse_asking.AskedSparse.{AskedSparse}
use Rattle.blk_cache.specs.declared.sparse_asking.AskedSparse.TheVariants as asked
use Rattle.blk_cache.specs.declared.sparse_asking.PlainObject.{PlainObject}
use Rattle.blk_cache.specs.declared.sparse_target.AskedTarget.TheVariants as target
use Rattle.blk_cache.specs.CacheKeeping.{HoldsState}
use Rattle.blk_cache.specs.Covering.{AreCovered}
use Rattle.blk_cache.specs.SparseAsking.{FindsInside, IsAmongFiles, IsAskedSparse, IsPlainNamed}
use Rattle.blk_cache.specs.SparseTargets.{FindsTarget, IsAskedTarget, IsRise, IsTargetNamed, asked_target, plain_target, rise_of}
use Rattle.blk_cache.specs.SparseWriting.{covered_of}
use Rattle.blk_cache.proofs.Sizes.{named-object}
use Rattle.blk_cache.proofs.SparseCovered.{measured-covered}
use Rattle.blk_cache.proofs.SparseRise.{raises-as-measured}
use Rattle.blk_cache.proofs.SparseRoom.{early-is, many-streams}

-- ---- the generation of the moment

moment-small : (moment : ℕ) → moment % signatures < signatures
moment-small moment = mod_below moment signatures (omega arith)

signature-is : (moment : ℕ) (found : PlainObject) → signature_to (plain_target moment found) ≡ moment % signatures
signature-is moment found = of_z-to_z w64 (moment % signatures) (let small = moment-small moment in omega (arith, small))

-- a list of no length has nothing
pub none-long : (bytes : List ℕ) → length bytes ≡ 0 → bytes ≡ []
none-long [] e = refl
none-long (byte ∷ bytes) e = absurd (omega (arith, e))

no-bytes : (bytes : List ℕ) → (length bytes == 0) ≡ true → bytes ≡ []
no-bytes bytes e = none-long bytes (eqb-true (length bytes) 0 e)

clash : {b : Bool} → b ≡ true → b ≡ false → ⊥
clash one other = let e : true ≡ false = sym one ∙ other in cc

-- ---- what is named

module _ (state : State) (layout : Layout) (moment handle offset : ℕ) (bytes : List ℕ) where
  -- a plain object that has one stream gets sparse data
  plain-named : (found : PlainObject) → IsPlainNamed state layout handle offset (length bytes) found → found.one_stream ≡ true → IsTargetNamed state layout moment handle offset (length bytes) (plain_target moment found)
  plain-named found is one =
      let both : (length is.its.object.streams.1 == 0 && length is.its.object.streams.2 == 0) ≡ true = sym is.one_stream ∙ one in
      let each = and_parts (length is.its.object.streams.1 == 0) (length is.its.object.streams.2 == 0) both in
      record {
        passes = is.passes;
        its = is.its;
        may = record {
          of_plain = λ e. (is.is_plain, (no-bytes is.its.object.streams.1 each.0, no-bytes is.its.object.streams.2 each.1));
          of_sparse = λ e. absurd (clash refl e);
          of_parent = λ e. absurd (clash refl e);
        };
        signed = λ e. signature-is moment found;
      }

  plain-asked : (found : PlainObject) → IsPlainNamed state layout handle offset (length bytes) found → (one : Bool) → found.one_stream ≡ one → IsAskedTarget state layout moment handle offset bytes (if one then target.Found (plain_target moment found) else target.Refused refusal.NotSparse)
  plain-asked found is true e = plain-named found is e
  plain-asked found is false e = many-streams state moment handle offset bytes is.its.number is.its.object is.its.names is.passes is.is_plain (sym is.one_stream ∙ e)

  -- what is asked gives the object that gets sparse data
  pub asked-found : (given : AskedSparse) → IsAskedSparse state layout handle offset (length bytes) given → IsAskedTarget state layout moment handle offset bytes (asked_target moment given)
  asked-found (asked.Refused why) is = early-is state moment handle offset bytes why is
  asked-found (asked.Plain found) is = plain-asked found is found.one_stream refl
  asked-found (asked.Parent parent) is = record {
    passes = is.passes;
    its = is.its;
    may = record {
      of_plain = λ e. absurd (clash e refl);
      of_sparse = λ e. is.is_sparse;
      of_parent = λ e. (is.index, (is.role, is.same));
    };
    signed = λ e. absurd (clash e refl);
  }

-- on every folder
module _ (files : BlockFiles) (early : Option Refusal) (moment offset count : ℕ) where
  plain-finds : (found : PlainObject) → IsAmongFiles files (asked.Plain found) → FindsInside early offset count (asked.Plain found) → (one : Bool) → FindsTarget files early offset count (if one then target.Found (plain_target moment found) else target.Refused refusal.NotSparse)
  plain-finds found stands inside true = (record { node = stands.0; entry = stands.1; signature = subst (λ (s : ℕ). s < signatures) (sym (signature-is moment found)) (moment-small moment) }, inside)
  plain-finds found stands inside false = tt

  pub asked-finds : (given : AskedSparse) → IsAmongFiles files given → FindsInside early offset count given → FindsTarget files early offset count (asked_target moment given)
  asked-finds (asked.Refused why) stands inside = tt
  asked-finds (asked.Plain found) stands inside = plain-finds found stands inside found.one_stream
  asked-finds (asked.Parent parent) stands inside = (record { node = stands.0; entry = stands.1.0; signature = stands.1.1 }, inside)

-- ---- what is measured

module _ (cache : Cache) (state : State) (image : Image) (k : HoldsState cache state image) (moment handle offset count : ℕ) (found : Target) (t : IsTargetNamed state k.layout moment handle offset count found) where
  -- as it is asked of a plain object
  pub plain-kept : found.plain ≡ true → IsPlainKept state k.layout [] t.its.number t.its.object found.parent.node found.parent.entry image
  plain-kept e = record { kept = k.kept.entries; here = t.its.names.here; live = t.its.live; is_plain = (t.may.of_plain e).0; node_is = t.its.node_is; was = t.its.was; lies = t.its.lies; record_is = t.its.record_is }

  -- and of a sparse one
  pub parent-kept : found.plain ≡ false → KeepsParent state k.layout [] t.its.number t.its.object found.parent.node found.parent.entry (signature_to found) image
  parent-kept e =
      let p = t.may.of_parent e in
      record { kept = k.kept.entries; here = t.its.names.here; live = t.its.live; node_is = t.its.node_is; was = t.its.was; lies = t.its.lies; record_is = t.its.record_is; index = p.0; role = p.1.0; same = p.1.1 }

  -- which has its generation
  pub parent-measured : found.plain ≡ false → (measured : Measured) → IsMeasured k.layout t.its.object (signature_to found) offset count measured → IsMeasured k.layout (with_signature t.its.object (signature_to found)) (signature_to found) offset count measured
  parent-measured e measured m =
      let same : t.its.object ≡ with_signature t.its.object (signature_to found) = ap (λ (s : Shape). record t.its.object { shape = s }) (t.may.of_sparse e) in
      subst (λ (o : Object). IsMeasured k.layout o (signature_to found) offset count measured) same m

-- what is measured is what a SparseWrite adds
pub measured-rises : (cache : Cache) (state : State) (image : Image) (k : HoldsState cache state image) (moment handle offset : ℕ) (bytes : List ℕ) (found : Target) (t : IsTargetNamed state k.layout moment handle offset (length bytes) found) → 1 ≤ length bytes → length bytes ≤ 1048576
    → (measured : Measured) → IsMeasured k.layout (with_signature t.its.object (signature_to found)) (signature_to found) offset (length bytes) measured → IsRise state k.layout moment handle offset bytes (rise_of found measured)
measured-rises cache state image k moment handle offset bytes found t some few measured m = record {
  parts = subst (λ (o : Object). AreCovered state k.layout (map (part o.key) (covered_parts offset (length bytes))) (covered_of measured)) (sym (named-object state handle t.its.number t.its.object t.its.names))
      (measured-covered cache state image k handle t.its.number t.its.object found offset (length bytes) measured t.its.names t.its.live (record { of_plain = t.may.of_plain; of_sparse = t.may.of_sparse }) some few m);
  raised = raises-as-measured state moment handle t.its.number t.its.object found offset bytes k.layout measured k.kept.entries.valid t.its.names (record { of_plain = t.may.of_plain; of_sparse = t.may.of_sparse }) t.signed some few m;
}

-- whatever bytes these are
pub rises-measured : (cache : Cache) (state : State) (image : Image) (k : HoldsState cache state image) (moment handle offset count : ℕ) (bytes : List ℕ) → length bytes ≡ count → (found : Target) (t : IsTargetNamed state k.layout moment handle offset count found) → 1 ≤ count → count ≤ 1048576
    → (measured : Measured) → IsMeasured k.layout (with_signature t.its.object (signature_to found)) (signature_to found) offset count measured → IsRise state k.layout moment handle offset bytes (rise_of found measured)
rises-measured cache state image k moment handle offset count bytes long found t some few measured m =
    subst (λ (n : ℕ). (t : IsTargetNamed state k.layout moment handle offset n found) → 1 ≤ n → n ≤ 1048576 → IsMeasured k.layout (with_signature t.its.object (signature_to found)) (signature_to found) offset n measured → IsRise state k.layout moment handle offset bytes (rise_of found measured)) long
    (λ t some few m. measured-rises cache state image k moment handle offset bytes found t some few measured m) t some few m
