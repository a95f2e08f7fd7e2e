-- A text of what a folder holds is shown, by what an inspection says.
use Rattle.std.proofs.Common.{ℕ, ◌≤◌, ◌≡◌, inl, inr, List, ◌++◌, Option, None, Some, Result, Ok, Err, refl, sym, ◌∙◌, ap, subst}
use Rattle.std.specs.Option.{ForSome, option_map}
use Rattle.spec_image.specs.Checks as checks
use Rattle.spec_image.specs.Image.{Image}
use Rattle.spec_image.specs.Told.{Rises, Stays, Told}
use Rattle.spec_format.specs.BlockFiles.{IsDamagedBy, IsUsable}
use Rattle.blk_io.specs.declared.fault.Damage.{Damage}
use Rattle.blk_io.specs.Faults.{damage_of}
use Rattle.blk_io.specs.Streams.{Appends, Readings}
use Rattle.blk_model.specs.State.{Bounds}
use Rattle.blk_inspect.specs.declared.fault.InspectFault.{InspectFault}
use Rattle.blk_inspect.specs.declared.fault.InspectFault.TheVariants as fault
use Rattle.blk_inspect.specs.Inspecting.{AnswersFor, IfInspectDamaged, IfInspectDevice, IfInspectSink, IsInspectDamage, PrintsAt, UnlessSink}
use Rattle.blk_run.specs.declared.ending.Status.{Status}
use Rattle.blk_run.specs.Failing.{IsFailedInReading}
use Rattle.blk_run.specs.Session.{Outside, seen_as}
use Rattle.blk_run.specs.Shown.{PrintsFault, status_shown}
use Rattle.blk_run.specs.Texts.{Prints, damage_line}
use Rattle.blk_run.specs.Work.{Performs, folder_text}
use Rattle.blk_run.proofs.OutOfMemory.{not_memory}
use Rattle.blk_run.proofs.Performing.{cause_wider}
use Rattle.blk_run.proofs.ScriptCauses.{rises_until}
use Rattle.blk_run.proofs.SessionEnds.{rises_since}

-- a folder that is uninitialized or well formed is not corrupt
pub sound : {P : Type 0} (damage : checks.Damage) (image : Image) → IsUsable image → IsDamagedBy damage image → P
sound damage image (inl unfinished) is = absurd (is.finished unfinished)
sound damage image (inr formed) is = absurd (never (sym formed ∙ is.first))
  where
    never : ◌≡◌ {A = Option checks.Damage} None (Some damage) → ⊥
    never e = cc

-- the first check that fails is one
one_damage : (a b : checks.Damage) (image : Image) → IsDamagedBy a image → IsDamagedBy b image → a ≡ b
one_damage a b image first second = same (sym first.first ∙ second.first)
  where
    same : {x y : checks.Damage} → ◌≡◌ {A = Option checks.Damage} (Some x) (Some y) → x ≡ y
    same e = cc

-- a failed check is printed, where nothing was before
printed_since : (old mid new : Option (List ℕ)) (before between now : ℕ) (text : List ℕ) → mid ≡ old → before ≤ between → Prints mid new between now text → Prints old new before now text
printed_since old mid new before between now text same less prints = record {
  front = subst (λ (w : Option (List ℕ)). Appends w new text) same prints.front;
  whole = λ none. prints.whole (λ rises. none (rises_since before between now less rises)) ∙ ap (option_map (λ (w : List ℕ). w ++ text)) same;
}

module _ (text : Image → List ℕ) (limits : Bounds) (device : Type 0) (before between now : ℕ) (start final : Told) (w_old w_mid w_new left : Option (List ℕ)) (clock : Option Readings) (stays : Stays start final) (less : before ≤ between) (later : between ≤ now) where
  abbrev old : Outside
  old = record { folder = start; written = w_old; left = left; clock = clock }

  abbrev new : Outside
  new = record { folder = final; written = w_new; left = left; clock = clock }

  shown_at : (r : Result (Unit {0}) InspectFault) → ForSome start.files (λ image. PrintsAt r (text image) w_old w_mid) → ForSome start.files (AnswersFor r) → UnlessSink r (w_mid ≡ w_old) → IfInspectDamaged r (IsInspectDamage start) → IfInspectDevice r device
      → IfInspectSink r (Rises before between) → PrintsFault r w_mid w_new between now → Performs (folder_text text) (status_shown r) limits (seen_as old new device ⊥ before now)
  shown_at (Ok done) printed answer unprinted cause_is device_is sink_is behind = record {
    plays = λ from there usable. record { printed = behind ∙ printed from there; unwritten = stays; unread = refl };
    complete = λ from there usable no_device no_source no_sink. behind ∙ printed from there;
    damage = λ from there damage is. sound damage from (answer from there) is;
    cause = tt;
    takes = refl;
    memory = λ is. absurd (not_memory _ refl is);
  }
  shown_at (Err fault.Device) printed answer unprinted cause_is device_is sink_is behind = record {
    plays = λ from there usable. record { printed = behind ∙ unprinted; unwritten = stays; unread = refl };
    complete = λ from there usable no_device no_source no_sink. no_device device_is;
    damage = λ from there damage is. record { unwritten = stays; unread = refl; unprinted = behind ∙ unprinted };
    cause = device_is;
    takes = refl;
    memory = λ is. absurd (not_memory _ refl is);
  }
  shown_at (Err (fault.Damaged found)) printed answer unprinted cause_is device_is sink_is behind = record {
    plays = λ from there usable. sound (damage_of found) from usable (answer from there);
    complete = λ from there usable no_device no_source no_sink. sound (damage_of found) from usable (answer from there);
    damage = λ from there damage is. record {
      unwritten = stays;
      unread = refl;
      printed = subst (λ (d : checks.Damage). Prints w_old w_new before now (damage_line d)) (one_damage (damage_of found) damage from (answer from there) is)
          (printed_since w_old w_mid w_new before between now (damage_line (damage_of found)) unprinted less behind);
    };
    cause = record {
      damage = found;
      cause = cause_is;
      first = answer;
      printed = printed_since w_old w_mid w_new before between now (damage_line (damage_of found)) unprinted less behind;
    };
    takes = refl;
    memory = λ is. absurd (not_memory _ refl is);
  }
  shown_at (Err fault.Sink) printed answer unprinted cause_is device_is sink_is behind = record {
    plays = λ from there usable. record { printed = subst (λ (w : Option (List ℕ)). Appends w_old w (text from)) (sym behind) (printed from there); unwritten = stays; unread = refl };
    complete = λ from there usable no_device no_source no_sink. no_sink (rises_until before between now later sink_is);
    damage = λ from there damage is. sound damage from (answer from there) is;
    cause = rises_until before between now later sink_is;
    takes = refl;
    memory = λ is. absurd (not_memory _ refl is);
  }
  shown_at (Err fault.Memory) printed answer unprinted cause_is device_is sink_is behind = record {
    plays = λ from there usable. record { printed = behind ∙ unprinted; unwritten = stays; unread = refl };
    complete = λ from there usable no_device no_source no_sink. record { unwritten = stays; unread = refl; unprinted = behind ∙ unprinted };
    damage = λ from there damage is. record { unwritten = stays; unread = refl; unprinted = behind ∙ unprinted };
    cause = tt;
    takes = refl;
    memory = λ is. record { unwritten = stays; unread = refl; unprinted = behind ∙ unprinted };
  }

  -- by the status of what an inspection answered
  pub shown_performs : (r : Result (Unit {0}) InspectFault) (s : Status) → s ≡ status_shown r → ForSome start.files (λ image. PrintsAt r (text image) w_old w_mid) → ForSome start.files (AnswersFor r) → UnlessSink r (w_mid ≡ w_old) → IfInspectDamaged r (IsInspectDamage start)
      → IfInspectDevice r device → IfInspectSink r (Rises before between) → PrintsFault r w_mid w_new between now → Performs (folder_text text) s limits (seen_as old new device ⊥ before now)
  shown_performs r s is printed answer unprinted cause_is device_is sink_is behind =
      subst (λ (x : Status). Performs (folder_text text) x limits (seen_as old new device ⊥ before now)) (sym is) (shown_at r printed answer unprinted cause_is device_is sink_is behind)

-- a call that has no input
pub text_wider : (text : Image → List ℕ) (result : Status) (limits : Bounds) (device source : Type 0) (before now : ℕ) (old new : Outside) → Performs (folder_text text) result limits (seen_as old new device ⊥ before now) → Performs (folder_text text) result limits (seen_as old new device source before now)
text_wider text result limits device source before now old new does = record {
  plays = does.plays;
  complete = λ from there usable no_device no_source no_sink. does.complete from there usable no_device (λ x. x) no_sink;
  damage = does.damage;
  cause = cause_wider result (IsFailedInReading old.folder old.written new.written before now) device source (Rises before now) ⊥ does.cause;
  takes = does.takes;
  memory = does.memory;
}
