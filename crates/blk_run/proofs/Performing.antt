-- What is asked for is done, by what the call that does it says.
use Rattle.blk_run.specs.Shown.{ShowsText}
use Rattle.blk_run.proofs.Reading.{reads_map, takes_map, takes_same, reads_told, takes_told}
use Rattle.blk_run.specs.Telling.{ReadsAs, TakesAs}
use Rattle.std.proofs.Common.{ℕ, ◌+◌, ◌<◌, ◌≤◌, ◌≡◌, inr, inl, List, [], ◌∷◌, ◌++◌, length, take, Option, Result, Ok, refl, sym, ◌∙◌, ap, subst, arith, append_assoc, Some}
use Rattle.std.specs.Option.{ForSome}
use Rattle.std.proofs.lemmas.List.{append-nil, length-append, length-take}
use Rattle.spec_image.specs.Checks.{Damage}
use Rattle.spec_image.specs.Image.{Image}
use Rattle.spec_image.specs.Told.{Rises}
use Rattle.spec_format.specs.BlockFiles.{IsDamagedBy, IsUsable}
use Rattle.blk_io.specs.Streams.{Readings}
use Rattle.blk_model.specs.State.{Bounds}
use Rattle.spec_run.specs.Script.{Script}
use Rattle.blk_run.specs.declared.ending.Status.{Status}
use Rattle.blk_run.specs.declared.ending.Status.TheVariants as status
use Rattle.blk_run.specs.Failing.{IsDamagedRun}
use Rattle.blk_run.specs.Inputs.{IsReadWhole, IsTakenPast, IsTakenUpTo}
use Rattle.blk_run.specs.Session.{DoesNothing, FixedScript, IsCompleteScript, LeavesUnput, OnDamage, Outside, Put, Seen, Session, outside, seen_as, seen_given, with_given, with_left, with_readings}
use Rattle.blk_run.specs.Statuses.{CauseOf}
use Rattle.blk_script.specs.declared.fault.LineFault.{LineFault}
use Rattle.blk_run.specs.WholeInputs.{IsWholeInBuffer, longest_input}
use Rattle.blk_run.specs.Work.{Performs, ReadsOnDamage, no_input, whole_input, DoesWork, Work, budget, folder_text, input_by}

-- a cause, where the input can't have failed and nothing is too long
pub cause_wider : (s : Status) (damaged device source sink long : Type 0) → CauseOf s damaged device ⊥ sink ⊥ → CauseOf s damaged device source sink long
cause_wider status.Ok damaged device source sink long cause = tt
cause_wider status.Refused damaged device source sink long cause = tt
cause_wider status.Words damaged device source sink long cause = cause
cause_wider status.Device damaged device source sink long cause = cause
cause_wider status.Source damaged device source sink long cause = absurd cause
cause_wider status.Sink damaged device source sink long cause = cause
cause_wider status.Memory damaged device source sink long cause = tt
cause_wider status.Damaged damaged device source sink long cause = cause
cause_wider status.TooLong damaged device source sink long cause = absurd cause

-- no work ends with the usage
pub never_words : (s : Status) (damaged device source sink long : Type 0) → CauseOf s damaged device source sink long → s ≡ status.Words → ⊥
never_words s damaged device source sink long cause is = subst (λ (x : Status). CauseOf x damaged device source sink long) is cause

-- the key that a field says
pub same_key : {a b : List ℕ} → ◌≡◌ {A = Result (List ℕ) LineFault} (Ok a) (Ok b) → a ≡ b
same_key e = cc

-- the whole input is at the start of a buffer
pub read_whole : (len : ℕ) (buffer : List ℕ) (old_left new_left : Option (List ℕ)) → ForSome old_left (IsWholeInBuffer len new_left buffer) → ForSome old_left (λ input. (take len buffer ≡ input) × IsReadWhole longest_input input new_left)
read_whole len buffer old_left new_left read input left =
    let so = read input left in
    let t = length-take len buffer in
    let s = ap (λ (l : List ℕ). length l) so.are in
    let w = so.within in
    (so.are, record { within = omega (arith, t, s, w); none_left = so.none_left })

-- What is taken of an input.

-- none yet
pub none_yet : (most : ℕ) (old new : Option (List ℕ)) → new ≡ old → ForSome old (IsTakenUpTo most new)
none_yet most old new same input left = ([], record { behind = input; split = refl; left_is = same ∙ left; within = omega arith })

-- at most some bytes are at most more bytes
up_to_more : (most more : ℕ) (left : Option (List ℕ)) (input : List ℕ) → most ≤ more → IsTakenUpTo most left input → IsTakenUpTo more left input
up_to_more most more left input few taken = (taken.0, record { behind = taken.1.behind; split = taken.1.split; left_is = taken.1.left_is; within = let w = taken.1.within in omega (arith, w, few) })

-- all of it
all_taken : (most : ℕ) (input : List ℕ) (left : Option (List ℕ)) → IsReadWhole most input left → IsTakenUpTo most left input
all_taken most input left whole = (input, record { behind = []; split = sym (append-nil input); left_is = whole.none_left; within = whole.within })

-- one byte more than may be
past_taken : (most : ℕ) (left : Option (List ℕ)) (input : List ℕ) → IsTakenPast most left input → IsTakenUpTo (most + 1) left input
past_taken most left input past = (
  past.0 ++ past.1.byte_more ∷ [],
  record {
    behind = past.1.behind;
    split = past.1.split ∙ sym (append_assoc past.0 (past.1.byte_more ∷ []) past.1.behind);
    left_is = past.1.left_is;
    within = let a = length-append past.0 (past.1.byte_more ∷ []) in let w = past.1.whole in omega (arith, a, w);
  },
)

-- then the input is longer than it may be
past_long : (most : ℕ) (left : Option (List ℕ)) (input : List ℕ) → IsTakenPast most left input → most < length input
past_long most left input past =
    let s = ap (λ (l : List ℕ). length l) past.1.split in
    let a = length-append past.0 (past.1.byte_more ∷ past.1.behind) in
    let w = past.1.whole in
    omega (arith, s, a, w)

-- what a script says that was run
pub record RunsScript (script : Script) (result : Status) (limits : Bounds) (device : Type 0) (before now : ℕ) (old new : Outside) : Type 0 where
  pub plays : ForSome old.folder.files (λ from. IsUsable from → ReadsAs old.clock new.clock (λ readings later. (left : Option (List ℕ)) → FixedScript result script limits from readings (Rises before now) (outside old.folder old.written left (Some readings)) (outside new.folder new.written left (Some later))))
  pub complete : ForSome old.folder.files (λ from. IsUsable from → ForSome old.clock (λ readings. (device → ⊥) → (Rises before now → ⊥) → IsCompleteScript result script limits from readings old new))
  pub damage : ForSome old.folder.files (λ from. (damage : Damage) → IsDamagedBy damage from → OnDamage result damage before now old new)
  pub cause : CauseOf result (IsDamagedRun old.folder new.folder old.written new.written before now) device ⊥ (Rises before now) ⊥
  pub memory : result ≡ status.Memory → DoesNothing old new

-- the whole input was read, and then the script of it was run
put_of : (limits : Bounds) (seen : Seen) (s : Status) (script : List ℕ → Script) (from : Image) (readings : Readings) (input : List ℕ) → IsReadWhole longest_input input seen.new.left
    → FixedScript s (script input) limits from readings (Rises seen.before seen.now) (with_left seen.old seen.new.left) seen.new → Put s script limits from readings input seen
put_of limits seen status.Ok script from readings input whole runs = (whole, runs)
put_of limits seen status.Refused script from readings input whole runs = (whole, runs)
put_of limits seen status.Words script from readings input whole runs = (whole, runs)
put_of limits seen status.Device script from readings input whole runs = (whole, runs)
put_of limits seen status.Source script from readings input whole runs = absurd runs.may_end
put_of limits seen status.Sink script from readings input whole runs = (whole, runs)
put_of limits seen status.Memory script from readings input whole runs = (inr whole, record { unwritten = runs.unwritten; unprinted = runs.unprinted })
put_of limits seen status.Damaged script from readings input whole runs = (whole, runs)
put_of limits seen status.TooLong script from readings input whole runs = absurd runs.may_end

module _ (result : Status) (limits : Bounds) (device source : Type 0) (before now : ℕ) (old new : Outside) where
  -- a script that leaves the input unread
  pub script_performs : (script other : Script) → script ≡ other → new.left ≡ old.left → RunsScript script result limits device before now old new → Performs (no_input other) result limits (seen_as old new device source before now)
  script_performs script other same unread runs = subst (λ (s : Script). Performs (no_input s) result limits (seen_as old new device source before now)) same (record {
    plays = λ from there usable. reads_map (runs.plays from there usable) (λ readings later does. subst (λ (l : Option (List ℕ)). FixedScript result script limits from readings (Rises before now) (with_readings old readings) (outside new.folder new.written l (Some later))) (sym unread) (does old.left));
    complete = λ from there usable no_device no_source no_sink readings clock. runs.complete from there usable readings clock no_device no_sink;
    damage = runs.damage;
    cause = cause_wider result (IsDamagedRun old.folder new.folder old.written new.written before now) device source (Rises before now) ⊥ runs.cause;
    takes = unread;
    memory = runs.memory;
  })

  -- a call that has no input
  pub performs_wider : (script : Script) → Performs (no_input script) result limits (seen_as old new device ⊥ before now) → Performs (no_input script) result limits (seen_as old new device source before now)
  performs_wider script does = record {
    plays = does.plays;
    complete = λ from there usable no_device no_source no_sink readings clock. does.complete from there usable no_device (λ x. x) no_sink readings clock;
    damage = does.damage;
    cause = cause_wider result (IsDamagedRun old.folder new.folder old.written new.written before now) device source (Rises before now) ⊥ does.cause;
    takes = does.takes;
    memory = does.memory;
  }

  -- Of the whole input.

  reads_of : (s : Status) (damage : Damage) → ForSome old.left (λ input. IsReadWhole longest_input input new.left) → OnDamage s damage before now (record old { left = new.left }) new → ReadsOnDamage s damage before now old new
  reads_of status.Ok damage whole on = absurd on
  reads_of status.Refused damage whole on = absurd on
  reads_of status.Words damage whole on = absurd on
  reads_of status.Device damage whole on = (whole, on)
  reads_of status.Source damage whole on = absurd on
  reads_of status.Sink damage whole on = absurd on
  reads_of status.Memory damage whole on = (λ input left. inr (whole input left), record { unwritten = on.unwritten; unprinted = on.unprinted })
  reads_of status.Damaged damage whole on = (whole, on)
  reads_of status.TooLong damage whole on = absurd on

  -- the whole input was read, and then the script of it was run
  pub put_performs : (script : List ℕ → Script) (bytes : List ℕ) (played : Script) → played ≡ script bytes → ForSome old.left (λ input. (bytes ≡ input) × IsReadWhole longest_input input new.left)
      → TakesAs old.left new.left (λ input rest. (bytes ≡ input) × IsReadWhole longest_input input (Some rest))
      → RunsScript played result limits device before now (record old { left = new.left }) new → Performs (whole_input script) result limits (seen_as old new device source before now)
  put_performs script bytes played same whole given runs = record {
    plays = λ from there usable. reads_map (runs.plays from there usable) (λ readings later does. takes_map given (λ input rest is.
        put_of limits (seen_given (seen_as old new device source before now) readings later input rest) result script from readings input is.1
        (subst (λ (s : Script). FixedScript result s limits from readings (Rises before now) (outside old.folder old.written (Some rest) (Some readings)) (with_given new later rest)) (same ∙ ap script is.0) (does (Some rest)))));
    complete = λ from there usable no_device no_source no_sink readings clock input left within.
        subst (λ (s : Script). IsCompleteScript result s limits from readings (record old { left = new.left }) new) (same ∙ ap script (whole input left).0) (runs.complete from there usable readings clock no_device no_sink);
    damage = λ from there damage is. reads_of result damage (λ input left. (whole input left).1) (runs.damage from there damage is);
    cause = cause_wider result (IsDamagedRun old.folder new.folder old.written new.written before now) device source (Rises before now) (ForSome old.left (λ input. longest_input < length input)) runs.cause;
    takes = λ input left. up_to_more longest_input (longest_input + 1) new.left input (omega arith) (all_taken longest_input input new.left (whole input left).1);
    memory = λ is. let nothing = runs.memory is in record { unwritten = nothing.unwritten; unprinted = nothing.unprinted };
  }

-- Where nothing was done.

-- out of memory
pub idle_script : (script : Script) (limits : Bounds) (device source : Type 0) (before now : ℕ) (old new : Outside) → ReadsAs old.clock new.clock (λ _ _. Unit {0}) → DoesNothing old new → Performs (no_input script) status.Memory limits (seen_as old new device source before now)
idle_script script limits device source before now old new clock nothing = record {
  plays = λ from there usable. reads_map clock (λ readings later none. record { unwritten = nothing.unwritten; unread = nothing.unread; unprinted = nothing.unprinted });
  complete = λ from there usable no_device no_source no_sink readings clock. nothing;
  damage = λ from there damage is. nothing;
  cause = tt;
  takes = nothing.unread;
  memory = λ is. nothing;
}

pub idle_put : (script : List ℕ → Script) (limits : Bounds) (device source : Type 0) (before now : ℕ) (old new : Outside) → ReadsAs old.clock new.clock (λ _ _. Unit {0}) → DoesNothing old new → Performs (whole_input script) status.Memory limits (seen_as old new device source before now)
idle_put script limits device source before now old new clock nothing = record {
  plays = λ from there usable. reads_map clock (λ readings later none. takes_map (takes_same [] nothing.unread) (λ input rest same. (inl (ap Some same), record { unwritten = nothing.unwritten; unprinted = nothing.unprinted })));
  complete = λ from there usable no_device no_source no_sink readings clock input left within. record { unwritten = nothing.unwritten; unread = refl; unprinted = nothing.unprinted };
  damage = λ from there damage is. (λ input left. inl nothing.unread, record { unwritten = nothing.unwritten; unprinted = nothing.unprinted });
  cause = tt;
  takes = none_yet (longest_input + 1) old.left new.left nothing.unread;
  memory = λ is. record { unwritten = nothing.unwritten; unprinted = nothing.unprinted };
}

-- the input failed
pub unread_put : (script : List ℕ → Script) (limits : Bounds) (device source : Type 0) (before now : ℕ) (old new : Outside) → source → ReadsAs old.clock new.clock (λ _ _. Unit {0}) → ForSome old.left (IsTakenUpTo longest_input new.left) → TakesAs old.left new.left (λ input rest. IsTakenUpTo longest_input (Some rest) input) → LeavesUnput old new
    → Performs (whole_input script) status.Source limits (seen_as old new device source before now)
unread_put script limits device source before now old new rose clock taken given nothing = record {
  plays = λ from there usable. reads_map clock (λ readings later none. takes_map given (λ input rest is. (is, record { unwritten = nothing.unwritten; unprinted = nothing.unprinted })));
  complete = λ from there usable no_device no_source no_sink readings clock input left within. no_source rose;
  damage = λ from there damage is. (taken, nothing);
  cause = rose;
  takes = λ input left. up_to_more longest_input (longest_input + 1) new.left input (omega arith) (taken input left);
  memory = λ is. nothing;
}

-- it has too many bytes
pub long_put : (script : List ℕ → Script) (limits : Bounds) (device source : Type 0) (before now : ℕ) (old new : Outside) → ReadsAs old.clock new.clock (λ _ _. Unit {0}) → ForSome old.left (IsTakenPast longest_input new.left) → TakesAs old.left new.left (λ input rest. IsTakenPast longest_input (Some rest) input) → LeavesUnput old new
    → Performs (whole_input script) status.TooLong limits (seen_as old new device source before now)
long_put script limits device source before now old new clock past given nothing = record {
  plays = λ from there usable. reads_map clock (λ readings later none. takes_map given (λ input rest is. (is, record { unwritten = nothing.unwritten; unprinted = nothing.unprinted })));
  complete = λ from there usable no_device no_source no_sink readings clock input left within. too_many (length input) within (past_long longest_input new.left input (past input left));
  damage = λ from there damage is. (past, nothing);
  cause = λ input left. past_long longest_input new.left input (past input left);
  takes = λ input left. past_taken longest_input new.left input (past input left);
  memory = λ is. nothing;
}
  where
    too_many : (n : ℕ) → n ≤ longest_input → longest_input < n → ⊥
    too_many n few many = absurd (omega (arith, few, many))

-- Where clock and input are observable.

-- the contract of the work with the observed readings and bytes
abbrev pub DoesToldWork : Work → Status → Bounds → Image → Readings → List ℕ → Seen → Type 0
DoesToldWork (input_by protocol) result limits from readings input seen = Session protocol result limits budget from readings input seen
DoesToldWork (whole_input script) result limits from readings input seen = Put result script limits from readings input seen
DoesToldWork (no_input script) result limits from readings input seen = FixedScript result script limits from readings (Rises seen.before seen.now) seen.old seen.new
DoesToldWork (folder_text text) result limits from readings input seen = ShowsText result (text from) seen.old seen.new

-- where clock and input are observable, the work is the run of the readings and the bytes to come
pub work_of_told : (work : Work) (result : Status) (limits : Bounds) (from : Image) (old new : Outside) (device source : Type 0) (before now : ℕ) → DoesWork work result limits from (seen_as old new device source before now)
    → (readings : Readings) → old.clock ≡ Some readings → (input : List ℕ) → old.left ≡ Some input → DoesToldWork work result limits from readings input (seen_as old new device source before now)
work_of_told (input_by protocol) result limits from old new device source before now does readings clock input left =
    takes_told (λ (b : List ℕ) (x y : Option (List ℕ)). Session protocol result limits budget from readings b (seen_as (outside old.folder old.written x old.clock) (outside new.folder new.written y new.clock) device source before now))
    (reads_told (λ (r : Readings) (o n : Option Readings). TakesAs old.left new.left (λ b a. Session protocol result limits budget from r b (seen_as (outside old.folder old.written (Some b) o) (outside new.folder new.written (Some a) n) device source before now))) does readings clock) input left
work_of_told (whole_input script) result limits from old new device source before now does readings clock input left =
    takes_told (λ (b : List ℕ) (x y : Option (List ℕ)). Put result script limits from readings b (seen_as (outside old.folder old.written x old.clock) (outside new.folder new.written y new.clock) device source before now))
    (reads_told (λ (r : Readings) (o n : Option Readings). TakesAs old.left new.left (λ b a. Put result script limits from r b (seen_as (outside old.folder old.written (Some b) o) (outside new.folder new.written (Some a) n) device source before now))) does readings clock) input left
work_of_told (no_input script) result limits from old new device source before now does readings clock input left =
    reads_told (λ (r : Readings) (o n : Option Readings). FixedScript result script limits from r (Rises before now) (outside old.folder old.written old.left o) (outside new.folder new.written new.left n)) does readings clock
work_of_told (folder_text text) result limits from old new device source before now does readings clock input left = does
