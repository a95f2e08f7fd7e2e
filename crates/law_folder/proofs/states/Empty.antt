-- What shows nothing represents the empty state.
use Rattle.std.proofs.Common.{◌≡◌, ℕ, zero, suc, ◌<◌, [], refl, true, false, arith, Some, None}
use Rattle.blk_model.specs.State.{Bounds, Object, IsValidState, object_at}
use Rattle.blk_model.specs.Holding.{open_state, objects_in}
use Rattle.blk_model.proofs.Opened.{open_valid}
use Rattle.spec_folder.specs.ListView.{IsList}
use Rattle.spec_folder.specs.View.{View}
use Rattle.spec_folder.specs.Layout.{Represents}
use Rattle.spec_folder.specs.Emptiness.{no_view, no_layout}

-- no object is there
pub no-object : (limits : Bounds) (number : ℕ) (o : Object) → object_at (open_state [] limits) number ≡ Some o → ⊥
unfolding open_state objects_in
no-object limits zero o e = cc
no-object limits (suc n) o e = cc

pub empty-valid : (limits : Bounds) → IsValidState (open_state [] limits)
empty-valid limits = open_valid [] limits (record { once = λ item. omega arith; each = λ i d less. absurd (omega arith); parents = λ i d less. absurd (omega arith) })

-- a view with no list and no chain
pub empty-view : (v : View) (limits : Bounds) → v.store.entry 0 ≡ None → ((b : ℕ) → b < 65536 → v.store.table b ≡ 0) → IsList v.list [] → v.list.transaction ≡ 0 → Represents v (open_state [] limits) no_layout
unfolding open_state objects_in
empty-view v limits record_0 table list idle = record {
  holds = record {
    shows = record { no_record = record_0; each = λ w l is. absurd (cc); chains = λ b below. record { linked = table b below; once = tt } };
    lies = record {
      laid = λ i h. absurd (let z : false ≡ true = h in cc);
      normal = λ w h. refl;
      chained = λ w l h is. absurd (cc);
      unchained = λ b c below h. absurd (let z : false ≡ true = h in cc);
      own = λ w l c is h. absurd (cc);
      single = λ w l is. absurd (cc);
      doomed_objects = λ number o is dead. absurd (no-object limits number o is);
    };
  };
  list = list;
  idle = idle;
}

pub empty : (limits : Bounds) → Represents no_view (open_state [] limits) no_layout
empty limits = empty-view no_view limits refl (λ b below. refl) (record { head_is = refl; tail_is = refl; linked = tt; distinct = tt; few = omega arith; no_zero = refl }) refl
