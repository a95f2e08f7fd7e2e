-- An answer, before and after what was printed is flushed.
use Rattle.std.proofs.Common.{ℕ, ◌≤◌, ◌≡◌, inl, inr, true, false, List, [], ◌∷◌, Option, Ok, Err, Result, sym, subst, arith}
use Rattle.std.proofs.lemmas.List.{append-nil}
use Rattle.spec_image.specs.Image.{Image}
use Rattle.spec_image.specs.Told.{Rises, Told}
use Rattle.blk_io.specs.declared.fault.Damage.{Damage}
use Rattle.blk_io.specs.Streams.{Readings}
use Rattle.blk_model.specs.declared.Answer.{Answer}
use Rattle.blk_model.specs.Request.{Request}
use Rattle.blk_model.specs.State.{State}
use Rattle.spec_run.specs.Run.{Turn, text_of}
use Rattle.blk_cache.specs.declared.fault.StepFault.{StepFault}
use Rattle.blk_cache.specs.declared.fault.StepFault.TheVariants as fault
use Rattle.blk_cache.specs.Stepping.{IfDone, IfSink, IfStepDevice}
use Rattle.blk_inspect.specs.declared.fault.InspectFault.{InspectFault}
use Rattle.blk_inspect.specs.declared.fault.InspectFault.TheVariants as inspect_fault
use Rattle.blk_inspect.specs.Inspecting.{AnswersFor, IfInspectDamaged, IfInspectDevice, IfInspectSink, PrintsAt, UnlessSink}
use Rattle.blk_run.specs.Errors.{IsFlushed}
use Rattle.blk_run.specs.Playing.{AreMade, AreMadeTo, Asks, SoFar, around, has_refused}
use Rattle.blk_run.proofs.Printed.{whole_part}
use Rattle.blk_run.proofs.ScriptCauses.{rises_until}
use Rattle.blk_run.proofs.SessionEnds.{rises_since}

no_answer : false ≡ true → ⊥
no_answer e = cc

-- The reply to a command.

-- a command that is done is done after the flush
pub done_flushed : (before after : Result Answer StepFault) (failed P : Type 0) → IsFlushed before after fault.Sink failed → IfDone before P → IfDone after P
done_flushed before after failed P (inl same) done = subst (λ (r : Result Answer StepFault). IfDone r P) (sym same) done
done_flushed (Ok answer) after failed P (inr how) done = subst (λ (r : Result Answer StepFault). IfDone r P) (sym how.1.0) done
done_flushed (Err why) after failed P (inr how) done = absurd (no_answer how.0)

-- the folder failed only where it did before
pub device_flushed : (before after : Result Answer StepFault) (failed P : Type 0) → IsFlushed before after fault.Sink failed → IfStepDevice before P → IfStepDevice after P
device_flushed before after failed P (inl same) device = subst (λ (r : Result Answer StepFault). IfStepDevice r P) (sym same) device
device_flushed before after failed P (inr how) device = subst (λ (r : Result Answer StepFault). IfStepDevice r P) (sym how.1.0) tt

-- a count that rose before has risen after the flush
sink_until : (r : Result Answer StepFault) (a b c : ℕ) → b ≤ c → IfSink r (Rises a b) → IfSink r (Rises a c)
sink_until (Ok answer) a b c more rose = tt
sink_until (Err fault.Sink) a b c more rose = rises_until a b c more rose
sink_until (Err fault.Device) a b c more rose = tt
sink_until (Err (fault.Damaged damage)) a b c more rose = tt

-- where the output failed, before or in the flush, its count rose
pub sink_flushed : (before after : Result Answer StepFault) (a b c : ℕ) → a ≤ b → b ≤ c → IsFlushed before after fault.Sink (Rises b c) → IfSink before (Rises a b) → IfSink after (Rises a c)
sink_flushed before after a b c less more (inl same) rose = subst (λ (r : Result Answer StepFault). IfSink r (Rises a c)) (sym same) (sink_until before a b c more rose)
sink_flushed before after a b c less more (inr how) rose = subst (λ (r : Result Answer StepFault). IfSink r (Rises a c)) (sym how.1.0) (rises_since a b c less how.1.1)

module _ (request : Request) (far : SoFar) (keeps : State → Image → Type 0) (notes left : ℕ) (t_old t_new : Told) (w_old w_mid w_new : Option (List ℕ)) (c_old c_new : Option Readings) (same_written : w_new ≡ w_mid) where
  abbrev AsksBy : Result Answer StepFault → Option (List ℕ) → Type 0
  AsksBy r w = Asks r request far keeps notes left (around t_old w_old c_old false) (around t_new w c_new (has_refused r))

  -- an iteration that was made is made up to its text, which may be whole
  made_to : (turn : Turn) (refused : _) → AreMade (turn ∷ []) far keeps notes left (around t_old w_old c_old false) (around t_new w_mid c_new refused) → AreMadeTo (turn ∷ []) far keeps notes left (around t_old w_old c_old false) (around t_new w_mid c_new false)
  made_to turn refused made = record {
    count = 0;
    within = omega arith;
    stands = made.stands;
    front = text_of (turn ∷ []);
    rest = [];
    split = sym (append-nil (text_of (turn ∷ [])));
    printed = made.printed;
    read = made.read;
  }

  -- a command that has an answer was asked, also where its reply isn't flushed
  unflushed : (answer : Answer) → AsksBy (Ok answer) w_mid → AsksBy (Err fault.Sink) w_mid
  unflushed answer asks = record { moment = asks.moment; read = asks.read; answered = tt; plays = made_to _ _ asks.plays }

  by_flush : (before after : Result Answer StepFault) (failed : Type 0) → IsFlushed before after fault.Sink failed → AsksBy before w_mid → AsksBy after w_mid
  by_flush before after failed (inl same) asks = subst (λ (r : Result Answer StepFault). AsksBy r w_mid) (sym same) asks
  by_flush (Ok answer) after failed (inr how) asks = subst (λ (r : Result Answer StepFault). AsksBy r w_mid) (sym how.1.0) (unflushed answer asks)
  by_flush (Err why) after failed (inr how) asks = absurd (no_answer how.0)

  -- a command was asked, and what it printed was flushed
  pub asked_flushed : (before after : Result Answer StepFault) (failed : Type 0) → IsFlushed before after fault.Sink failed → AsksBy before w_mid → AsksBy after w_new
  asked_flushed before after failed flushed asks = subst (λ (w : Option (List ℕ)). AsksBy after w) (sym same_written) (by_flush before after failed flushed asks)

-- The text of an inspection.

module _ (w_old w_mid w_new : Option (List ℕ)) (same_written : w_new ≡ w_mid) where
  -- a text that is whole is a prefix of itself
  unflushed_text : (text : List ℕ) → PrintsAt {A = Unit {0}} (Ok tt) text w_old w_mid → PrintsAt {A = Unit {0}} (Err inspect_fault.Sink) text w_old w_mid
  unflushed_text text printed = whole_part text w_old w_mid printed

  text_by : (before after : Result (Unit {0}) InspectFault) (failed : Type 0) → IsFlushed before after inspect_fault.Sink failed → (text : List ℕ) → PrintsAt before text w_old w_mid → PrintsAt after text w_old w_mid
  text_by before after failed (inl same) text printed = subst (λ (r : Result (Unit {0}) InspectFault). PrintsAt r text w_old w_mid) (sym same) printed
  text_by (Ok done) after failed (inr how) text printed = subst (λ (r : Result (Unit {0}) InspectFault). PrintsAt r text w_old w_mid) (sym how.1.0) (unflushed_text text printed)
  text_by (Err why) after failed (inr how) text printed = absurd (no_answer how.0)

  -- what is printed of a text, once it is flushed
  pub text_flushed : (before after : Result (Unit {0}) InspectFault) (failed : Type 0) → IsFlushed before after inspect_fault.Sink failed → (text : List ℕ) → PrintsAt before text w_old w_mid → PrintsAt after text w_old w_new
  text_flushed before after failed flushed text printed = subst (λ (w : Option (List ℕ)). PrintsAt after text w_old w) (sym same_written) (text_by before after failed flushed text printed)

  -- where nothing was printed, a flush prints nothing
  pub unprinted_flushed : (before after : Result (Unit {0}) InspectFault) (failed : Type 0) → IsFlushed before after inspect_fault.Sink failed → UnlessSink before (w_mid ≡ w_old) → UnlessSink after (w_new ≡ w_old)
  unprinted_flushed before after failed (inl same) unprinted =
      subst (λ (w : Option (List ℕ)). UnlessSink after (w ≡ w_old)) (sym same_written) (subst (λ (r : Result (Unit {0}) InspectFault). UnlessSink r (w_mid ≡ w_old)) (sym same) unprinted)
  unprinted_flushed before after failed (inr how) unprinted = subst (λ (r : Result (Unit {0}) InspectFault). UnlessSink r (w_new ≡ w_old)) (sym how.1.0) tt

-- the folder is one of those that the answer is given for
pub answer_flushed : (before after : Result (Unit {0}) InspectFault) (failed : Type 0) → IsFlushed before after inspect_fault.Sink failed → (image : Image) → AnswersFor before image → AnswersFor after image
answer_flushed before after failed (inl same) image answers = subst (λ (r : Result (Unit {0}) InspectFault). AnswersFor r image) (sym same) answers
answer_flushed (Ok done) after failed (inr how) image answers = subst (λ (r : Result (Unit {0}) InspectFault). AnswersFor r image) (sym how.1.0) answers
answer_flushed (Err why) after failed (inr how) image answers = absurd (no_answer how.0)

-- the folder failed only where it did before
pub inspect_device_flushed : (before after : Result (Unit {0}) InspectFault) (failed P : Type 0) → IsFlushed before after inspect_fault.Sink failed → IfInspectDevice before P → IfInspectDevice after P
inspect_device_flushed before after failed P (inl same) device = subst (λ (r : Result (Unit {0}) InspectFault). IfInspectDevice r P) (sym same) device
inspect_device_flushed before after failed P (inr how) device = subst (λ (r : Result (Unit {0}) InspectFault). IfInspectDevice r P) (sym how.1.0) tt

-- a check failed only where it did before
pub inspect_damaged_flushed : (before after : Result (Unit {0}) InspectFault) (failed : Type 0) (P : Damage → Type 0) → IsFlushed before after inspect_fault.Sink failed → IfInspectDamaged before P → IfInspectDamaged after P
inspect_damaged_flushed before after failed P (inl same) damaged = subst (λ (r : Result (Unit {0}) InspectFault). IfInspectDamaged r P) (sym same) damaged
inspect_damaged_flushed before after failed P (inr how) damaged = subst (λ (r : Result (Unit {0}) InspectFault). IfInspectDamaged r P) (sym how.1.0) tt

inspect_sink_until : (r : Result (Unit {0}) InspectFault) (a b c : ℕ) → b ≤ c → IfInspectSink r (Rises a b) → IfInspectSink r (Rises a c)
inspect_sink_until (Ok done) a b c more rose = tt
inspect_sink_until (Err inspect_fault.Sink) a b c more rose = rises_until a b c more rose
inspect_sink_until (Err inspect_fault.Device) a b c more rose = tt
inspect_sink_until (Err (inspect_fault.Damaged damage)) a b c more rose = tt
inspect_sink_until (Err inspect_fault.Memory) a b c more rose = tt

-- where the output failed, before or in the flush, its count rose
pub inspect_sink_flushed : (before after : Result (Unit {0}) InspectFault) (a b c : ℕ) → a ≤ b → b ≤ c → IsFlushed before after inspect_fault.Sink (Rises b c) → IfInspectSink before (Rises a b) → IfInspectSink after (Rises a c)
inspect_sink_flushed before after a b c less more (inl same) rose = subst (λ (r : Result (Unit {0}) InspectFault). IfInspectSink r (Rises a c)) (sym same) (inspect_sink_until before a b c more rose)
inspect_sink_flushed before after a b c less more (inr how) rose = subst (λ (r : Result (Unit {0}) InspectFault). IfInspectSink r (Rises a c)) (sym how.1.0) (rises_since a b c less how.1.1)
