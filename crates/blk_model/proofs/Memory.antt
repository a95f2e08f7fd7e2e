-- No command is refused for being out of memory, or of handles.
use Rattle.std.proofs.Common.{◌≡◌, ◌≢◌, ℕ, Bool, true, false, cond, List, [], ◌∷◌, Some, refl, ap, sym, ◌∙◌}
use Rattle.std.specs.List.{list_all}
use Rattle.std.proofs.lemmas.Bool.{and_parts}
use Rattle.blk_model.specs.declared.Refusal.{Refusal}
use Rattle.blk_model.specs.declared.Refusal.TheVariants as refusal
use Rattle.blk_model.specs.State.{State}
use Rattle.blk_model.specs.Request.{Request, to_create, to_open, to_read, to_write, to_size, to_sparse_write, to_sparse_read, to_sparse_range, to_doom, to_doom_key, to_close, to_flush, to_list, to_trim, to_total}
use Rattle.blk_model.specs.Refusals.{first_refusal, refusals, refused}

-- no refusal of the model
is_other : Refusal → Bool
is_other refusal.Memory = false
is_other refusal.NoHandle = false
is_other _ = true

first_is_other : (why : Refusal) → is_other why ≡ false → (cases : List (Bool × Refusal)) → list_all (λ case. is_other case.1) cases ≡ true → first_refusal cases ≢ Some why
first_is_other why never [] all e = cc
first_is_other why never (case ∷ cases) all e =
    elim (case.0) as (λ b. cond b (Some case.1) (first_refusal cases) ≡ Some why → ⊥) [
      | true ↦ λ is.
          let same : case.1 ≡ why = cc in
          let no_other : true ≡ false = sym (and_parts (is_other case.1) _ all).0 ∙ ap is_other same ∙ never in cc
      | false ↦ λ is. first_is_other why never cases (and_parts (is_other case.1) _ all).1 is
    ] e

others_alone : (state : State) (moment : ℕ) (request : Request) → list_all (λ case. is_other case.1) (refusals moment request state) ≡ true
unfolding is_other refusals
others_alone state moment (to_create handle key) = refl
others_alone state moment (to_open handle key) = refl
others_alone state moment (to_read handle stream offset count) = refl
others_alone state moment (to_write handle stream offset cut bytes) = refl
others_alone state moment (to_size handle stream) = refl
others_alone state moment (to_sparse_write handle offset bytes) = refl
others_alone state moment (to_sparse_read handle offset count) = refl
others_alone state moment (to_sparse_range handle offset count) = refl
others_alone state moment (to_doom handle) = refl
others_alone state moment (to_doom_key key) = refl
others_alone state moment (to_close handle) = refl
others_alone state moment (to_flush handle) = refl
others_alone state moment to_list = refl
others_alone state moment (to_trim bytes) = refl
others_alone state moment to_total = refl

pub never_memory : (state : State) (moment : ℕ) (request : Request) → refused moment request state ≢ Some refusal.Memory
unfolding is_other
never_memory state moment request = first_is_other refusal.Memory refl (refusals moment request state) (others_alone state moment request)

pub never_no_handle : (state : State) (moment : ℕ) (request : Request) → refused moment request state ≢ Some refusal.NoHandle
unfolding is_other
never_no_handle state moment request = first_is_other refusal.NoHandle refl (refusals moment request state) (others_alone state moment request)
