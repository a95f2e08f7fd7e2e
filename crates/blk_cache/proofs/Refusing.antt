-- Why a command of a cache that keeps a state is refused.
use Rattle.std.proofs.Common.{◌≡◌, ℕ, ◌<◌, Bool, true, false, List, [], ◌∷◌, Option, Some, None, refl, sym, ap, subst, ◌∙◌, arith}
use Rattle.std.specs.Prelude.{if◌then◌else◌, is_none, is_some, nat_le}
use Rattle.std.proofs.lemmas.Bool.Decides.{nat_tests}
use Rattle.spec_image.specs.Image.{Image}
use Rattle.blk_model.specs.Refusals.{first_refusal, names_one, no_key, no_name, refusals, refused}
use Rattle.blk_model.specs.Request.{to_open}
use Rattle.blk_model.specs.State.{State, live_with, named_by}
use Rattle.blk_model.specs.declared.Refusal.{Refusal}
use Rattle.blk_model.specs.declared.Refusal.TheVariants as refusal
use Rattle.blk_model.proofs.States.{none_of}
use Rattle.spec_folder.specs.Layout.{Layout}
use Rattle.blk_handles.specs.Bindings.{Binding, binding_of}
use Rattle.law_state.specs.CommandLaws.{SaysKept}
use Rattle.blk_cache.specs.declared.cache.Cache.{Cache}
use Rattle.blk_cache.specs.CacheKeeping.{IsBoundAs, HoldsState}
use Rattle.blk_cache.specs.CommandClauses.{open_refusal}

-- what a cache keeps, the folder keeps
pub says-kept : (cache : Cache) → SaysKept (HoldsState cache)
says-kept cache state image k = (k.layout, [], k.kept.entries)

-- a name is bound exactly where the state has it bound
names-same : (state : State) (layout : Layout) (o : Option ℕ) (b : Option Binding) → IsBoundAs state layout o b → is_some o ≡ is_some b
names-same state layout None None n = refl
names-same state layout (Some number) (Some b) n = refl
names-same state layout None (Some b) n = absurd n
names-same state layout (Some number) None n = absurd n

pub busy : (cache : Cache) (state : State) (image : Image) → HoldsState cache state image → (handle : ℕ) → is_some (binding_of cache.handles handle) ≡ names_one state handle
busy cache state image k handle = sym (names-same state k.layout (named_by state handle) (binding_of cache.handles handle) (k.names handle))

-- the first three of four refusals
some-early : (a b c d : Bool) (p q r s why : Refusal) → first_refusal ((a, p) ∷ (b, q) ∷ (c, r) ∷ []) ≡ Some why → first_refusal ((a, p) ∷ (b, q) ∷ (c, r) ∷ (d, s) ∷ []) ≡ Some why
some-early true b c d p q r s why e = e
some-early false true c d p q r s why e = e
some-early false false true d p q r s why e = e
some-early false false false d p q r s why e = cc

none-early : (a b c d : Bool) (p q r s : Refusal) → first_refusal ((a, p) ∷ (b, q) ∷ (c, r) ∷ []) ≡ None → first_refusal ((a, p) ∷ (b, q) ∷ (c, r) ∷ (d, s) ∷ []) ≡ (if d then Some s else None)
none-early true b c d p q r s e = cc
none-early false true c d p q r s e = cc
none-early false false true d p q r s e = cc
none-early false false false d p q r s e = refl

second : (a b c : Bool) (p q r : Refusal) → first_refusal ((a, p) ∷ (b, q) ∷ (c, r) ∷ []) ≡ None → b ≡ false
second true b c p q r e = cc
second false true c p q r e = cc
second false false c p q r e = refl

third : (a b c : Bool) (p q r : Refusal) → first_refusal ((a, p) ∷ (b, q) ∷ (c, r) ∷ []) ≡ None → c ≡ false
third true b c p q r e = cc
third false true c p q r e = cc
third false false true p q r e = cc
third false false false p q r e = refl

-- a name that is free
module _ (cache : Cache) (handle : ℕ) (key : List ℕ) (passes : open_refusal cache.handles handle key ≡ None) where
  pub name-below : handle < 4096
  name-below = let below : nat_le 4096 handle ≡ false = second (no_key key) (no_name handle) (is_some (binding_of cache.handles handle)) refusal.BadKey refusal.BadHandle refusal.HandleBusy passes in grind (arith, nat_tests)

  pub name-free : binding_of cache.handles handle ≡ None
  name-free = none_of (binding_of cache.handles handle) (third (no_key key) (no_name handle) (is_some (binding_of cache.handles handle)) refusal.BadKey refusal.BadHandle refusal.HandleBusy passes)

-- Open
module _ (cache : Cache) (state : State) (image : Image) (k : HoldsState cache state image) (moment handle : ℕ) (key : List ℕ) where
  pub refused-early : (why : Refusal) → open_refusal cache.handles handle key ≡ Some why → refused moment (to_open handle key) state ≡ Some why
  unfolding refusals
  refused-early why e = some-early (no_key key) (no_name handle) (names_one state handle) (is_none (live_with state key)) refusal.BadKey refusal.BadHandle refusal.HandleBusy refusal.Missing why
      (subst (λ (b : Bool). first_refusal ((no_key key, refusal.BadKey) ∷ (no_name handle, refusal.BadHandle) ∷ (b, refusal.HandleBusy) ∷ []) ≡ Some why) (busy cache state image k handle) e)

  not-early : open_refusal cache.handles handle key ≡ None → refused moment (to_open handle key) state ≡ (if is_none (live_with state key) then Some refusal.Missing else None)
  unfolding refusals
  not-early e = none-early (no_key key) (no_name handle) (names_one state handle) (is_none (live_with state key)) refusal.BadKey refusal.BadHandle refusal.HandleBusy refusal.Missing
      (subst (λ (b : Bool). first_refusal ((no_key key, refusal.BadKey) ∷ (no_name handle, refusal.BadHandle) ∷ (b, refusal.HandleBusy) ∷ []) ≡ None) (busy cache state image k handle) e)

  pub refused-missing : open_refusal cache.handles handle key ≡ None → live_with state key ≡ None → refused moment (to_open handle key) state ≡ Some refusal.Missing
  refused-missing e none = not-early e ∙ ap (λ (o : Option ℕ). if is_none o then Some refusal.Missing else None) none

  pub not-refused : open_refusal cache.handles handle key ≡ None → (number : ℕ) → live_with state key ≡ Some number → refused moment (to_open handle key) state ≡ None
  not-refused e number is = not-early e ∙ ap (λ (o : Option ℕ). if is_none o then Some refusal.Missing else None) is
