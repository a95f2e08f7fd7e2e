-- The verdict on a node, by its verdict by itself and that on its record.
use Rattle.std.proofs.Common.{◌≡◌, ℕ, zero, suc, List, ◌∷◌, Option, None, Some, Result, Ok, Err, refl, ap, arith}
use Rattle.std.specs.Prelude.{All}
use Rattle.std.proofs.lemmas.List.Elements.{All-push}
use Rattle.spec_image.specs.Image.{Image}
use Rattle.spec_folder.specs.Audit.{admit, verdict}
use Rattle.spec_folder.specs.Loads as shown
use Rattle.spec_folder.specs.Loads.{held_rule}
use Rattle.spec_folder.specs.Reasons as reasons
use Rattle.spec_folder.specs.Reasons.{◌>>=◌}
use Rattle.spec_folder.specs.View.{store_of}
use Rattle.blk_verdict.specs.Keyed.{HasItsKey}
use Rattle.blk_verdict.specs.Kept.{HaveKeys, IsLoadedFrom, kept_with}
use Rattle.blk_verdict.specs.Verdicts.{IsVerdict}
use Rattle.blk_verdict.specs.declared.loading.Loaded.{Loaded}
use Rattle.blk_verdict.specs.declared.loading.Verdict.TheVariants as found
use Rattle.blk_verdict.specs.declared.reason.Reason.{Reason}
use Rattle.blk_verdict.proofs.KeptKeysFound.{keys-found}

-- the record of a node that is loaded
pub record IsJudged (image : Image) (kept : List shown.Loaded) (node : ℕ) (said : Loaded) : Type 0 where
  pub loaded : shown.Loaded
  pub known : IsLoadedFrom image loaded said
  pub is : verdict (store_of image) held_rule kept node ≡ admit kept loaded

module _ (image : Image) (kept : List shown.Loaded) (node : ℕ) where
  then_is : (r : Result shown.Loaded reasons.Reason) → shown.load (store_of image) held_rule node ≡ r → verdict (store_of image) held_rule kept node ≡ (r >>= admit kept)
  then_is r e = ap (λ (x : Result shown.Loaded reasons.Reason). x >>= admit kept) e

  by_loaded : (said : Loaded) (r : Result shown.Loaded reasons.Reason) → shown.load (store_of image) held_rule node ≡ r → IsVerdict r (found.Loaded said) → IsJudged image kept node said
  by_loaded said (Ok loaded) e is = record { loaded = loaded; known = record { node = node; loads = e; is = is }; is = then_is (Ok loaded) e }
  by_loaded said (Err reason) e is = absurd is

  pub judged : (said : Loaded) → IsVerdict (shown.load (store_of image) held_rule node) (found.Loaded said) → IsJudged image kept node said
  judged said is = by_loaded said (shown.load (store_of image) held_rule node) refl is

-- the keys of those that are kept
pub has_key : (image : Image) (loaded : shown.Loaded) (said : Loaded) → IsLoadedFrom image loaded said → HasItsKey image said
has_key image loaded said known = record { key = loaded.key; is = keys-found image known.node loaded said known.loads known.is }

pub keys_with : (image : Image) (said : List Loaded) (one : Loaded) (given : Option Reason) → HasItsKey image one → HaveKeys image said → HaveKeys image (kept_with said one given)
keys_with image said one None key keys = All-push (HasItsKey image) said one keys key
keys_with image said one (Some reason) key keys = keys

pub all_of : {A : Type 0} (P : A → Type 0) (x : A) (xs : List A) → P x → All P xs → All P (x ∷ xs)
all_of P x xs first others zero d less = first
all_of P x xs first others (suc k) d less = others k d (omega (arith, less))
