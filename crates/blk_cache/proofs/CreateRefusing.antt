-- Why a Create of a cache that keeps a state is refused.
use Rattle.std.proofs.Common.{◌≡◌, ℕ, Bool, true, false, List, [], ◌∷◌, Option, Some, None, refl, ap, subst, ◌∙◌}
use Rattle.std.specs.Prelude.{if◌then◌else◌, is_some}
use Rattle.spec_image.specs.Image.{Image}
use Rattle.blk_model.specs.Refusals.{first_refusal, names_one, no_key, no_name, no_room, refusals, refused}
use Rattle.blk_model.specs.Request.{to_create}
use Rattle.blk_model.specs.State.{State, live_with}
use Rattle.blk_model.specs.declared.Refusal.{Refusal}
use Rattle.blk_model.specs.declared.Refusal.TheVariants as refusal
use Rattle.blk_cache.specs.declared.cache.Cache.{Cache}
use Rattle.blk_cache.specs.CacheKeeping.{HoldsState}
use Rattle.blk_cache.specs.CommandClauses.{open_refusal}
use Rattle.blk_cache.specs.Creating.{create_refusal}
use Rattle.blk_cache.proofs.Refusing.{busy}

-- the first three of five refusals
some-early : (a b c d e : Bool) (p q r s t why : Refusal) → first_refusal ((a, p) ∷ (b, q) ∷ (c, r) ∷ []) ≡ Some why → first_refusal ((a, p) ∷ (b, q) ∷ (c, r) ∷ (d, s) ∷ (e, t) ∷ []) ≡ Some why
some-early true b c d e p q r s t why is = is
some-early false true c d e p q r s t why is = is
some-early false false true d e p q r s t why is = is
some-early false false false d e p q r s t why is = cc

none-early : (a b c d e : Bool) (p q r s t : Refusal) → first_refusal ((a, p) ∷ (b, q) ∷ (c, r) ∷ []) ≡ None → first_refusal ((a, p) ∷ (b, q) ∷ (c, r) ∷ (d, s) ∷ (e, t) ∷ []) ≡ (if d then Some s else (if e then Some t else None))
none-early true b c d e p q r s t is = cc
none-early false true c d e p q r s t is = cc
none-early false false true d e p q r s t is = cc
none-early false false false d e p q r s t is = refl

module _ (cache : Cache) (state : State) (image : Image) (k : HoldsState cache state image) (moment handle : ℕ) (key : List ℕ) where
  pub create-early : (why : Refusal) → open_refusal cache.handles handle key ≡ Some why → refused moment (to_create handle key) state ≡ Some why
  unfolding refusals
  create-early why e = some-early (no_key key) (no_name handle) (names_one state handle) (is_some (live_with state key)) (no_room moment (to_create handle key) state) refusal.BadKey refusal.BadHandle refusal.HandleBusy refusal.Exists refusal.Full why
      (subst (λ (b : Bool). first_refusal ((no_key key, refusal.BadKey) ∷ (no_name handle, refusal.BadHandle) ∷ (b, refusal.HandleBusy) ∷ []) ≡ Some why) (busy cache state image k handle) e)

  not-early : open_refusal cache.handles handle key ≡ None → refused moment (to_create handle key) state ≡ (if is_some (live_with state key) then Some refusal.Exists else create_refusal None (no_room moment (to_create handle key) state))
  unfolding refusals
  not-early e = none-early (no_key key) (no_name handle) (names_one state handle) (is_some (live_with state key)) (no_room moment (to_create handle key) state) refusal.BadKey refusal.BadHandle refusal.HandleBusy refusal.Exists refusal.Full
      (subst (λ (b : Bool). first_refusal ((no_key key, refusal.BadKey) ∷ (no_name handle, refusal.BadHandle) ∷ (b, refusal.HandleBusy) ∷ []) ≡ None) (busy cache state image k handle) e)

  -- a live object has the key
  pub create-exists : open_refusal cache.handles handle key ≡ None → (number : ℕ) → live_with state key ≡ Some number → refused moment (to_create handle key) state ≡ Some refusal.Exists
  create-exists e number is = not-early e ∙ ap (λ (o : Option ℕ). if is_some o then Some refusal.Exists else create_refusal None (no_room moment (to_create handle key) state)) is

  -- or none has it
  pub create-missing : open_refusal cache.handles handle key ≡ None → live_with state key ≡ None → refused moment (to_create handle key) state ≡ create_refusal None (no_room moment (to_create handle key) state)
  create-missing e none = not-early e ∙ ap (λ (o : Option ℕ). if is_some o then Some refusal.Exists else create_refusal None (no_room moment (to_create handle key) state)) none
