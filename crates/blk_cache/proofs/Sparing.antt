-- A request that the model refuses makes no step, where the folder fails.
use Rattle.std.proofs.Common.{◌≡◌, ℕ, List, None, Ok, Err, Result, refl, true, ap, subst}
use Rattle.std.specs.Prelude.{OnErr}
use Rattle.spec_image.specs.Image.{Image}
use Rattle.spec_image.specs.Told.{Stays, Told}
use Rattle.blk_io.specs.declared.fault.Fault.{Fault}
use Rattle.blk_model.specs.declared.Answer.{Answer}
use Rattle.blk_model.specs.Refusals.{evicted, refused}
use Rattle.blk_model.specs.Reply.{answer_of}
use Rattle.blk_model.specs.Request.{Request, to_create, to_open, to_read, to_write, to_size, to_sparse_write, to_sparse_read, to_sparse_range, to_doom, to_doom_key, to_close, to_flush, to_list, to_trim, to_total}
use Rattle.blk_model.specs.Room.{Group}
use Rattle.blk_model.specs.State.{State}
use Rattle.blk_model.specs.Step.{reply, step}
use Rattle.law_state.specs.Commands.{ForKept}
use Rattle.law_state.proofs.CommandEnding.{passed}
use Rattle.spec_run.specs.Script.{is_refused}
use Rattle.spec_run.proofs.StepFacts.{true_false}
use Rattle.blk_cache.specs.CommandClauses.{IsRefused, SparesRefused}

-- the reply to a request that isn't refused is no refusal
none_refused : (request : Request) (groups : List Group) (state : State) → IsRefused (answer_of (reply request groups state)) → ⊥
unfolding reply
none_refused (to_create handle key) groups state is = true_false is refl
none_refused (to_open handle key) groups state is = true_false is refl
none_refused (to_read handle stream offset count) groups state is = true_false is refl
none_refused (to_write handle stream offset cut bytes) groups state is = true_false is refl
none_refused (to_size handle stream) groups state is = true_false is refl
none_refused (to_sparse_write handle offset bytes) groups state is = true_false is refl
none_refused (to_sparse_read handle offset count) groups state is = true_false is refl
none_refused (to_sparse_range handle offset count) groups state is = true_false is refl
none_refused (to_doom handle) groups state is = true_false is refl
none_refused (to_doom_key key) groups state is = true_false is refl
none_refused (to_close handle) groups state is = true_false is refl
none_refused (to_flush handle) groups state is = true_false is refl
none_refused to_list groups state is = true_false is refl
none_refused (to_trim bytes) groups state is = true_false is refl
none_refused to_total groups state is = true_false is refl

pub never-refuses : (state : State) (moment : ℕ) (request : Request) → refused moment request state ≡ None → is_refused (step state moment request) ≡ true → ⊥
never-refuses state moment request passes is =
    none_refused request (evicted moment request state) state (subst (λ (a : Answer). IsRefused a) (ap answer_of (passed state moment request passes).1) is)

-- where no state that is kept has the request refused
pub passed-spares : (keeps : State → Image → Type 0) (old now : Told) (moment : ℕ) (request : Request) → ForKept keeps old (λ state. refused moment request state ≡ None)
    → SparesRefused keeps old now moment request
passed-spares keeps old now moment request passes image there state k is = absurd (never-refuses state moment request (passes image there state k) is)

-- where no step was made
pub stayed-spares : (keeps : State → Image → Type 0) (old now : Told) (moment : ℕ) (request : Request) → Stays old now → SparesRefused keeps old now moment request
stayed-spares keeps old now moment request stays image there state k is = stays

-- what holds in any case
pub any-err : {A : Type 0} (q : Result A Fault) (P : Type 0) → P → OnErr q P
any-err (Ok a) P p = tt
any-err (Err e) P p = p
