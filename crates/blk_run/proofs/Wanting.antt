-- A run that is out of memory for its arguments does nothing.
use Rattle.blk_run.proofs.Reading.{reads_map, takes_map, takes_same}
use Rattle.blk_run.specs.Telling.{ReadsAs}
use Rattle.std.proofs.Common.{◌≡◌, ℕ, List, [], Option, Some, option_map, inl, inr, refl, sym, ◌∙◌, ap, subst, arith}
use Rattle.spec_image.specs.Image.{Image}
use Rattle.spec_image.specs.Told.{Told}
use Rattle.spec_folder.specs.Found.{HoldsStill}
use Rattle.spec_image.proofs.Quiet.{any_none}
use Rattle.blk_io.specs.Streams.{later_of}
use Rattle.blk_model.specs.State.{Bounds}
use Rattle.blk_run.specs.declared.ending.Status.TheVariants as status
use Rattle.blk_run.specs.Counting.{Counts, IsDoneOrSink}
use Rattle.blk_run.specs.Inputs.{IsTakenUpTo}
use Rattle.blk_run.specs.Session.{DoesNothing, LeavesUnput, Outside, seen_as}
use Rattle.blk_run.specs.Work.{Performs, Work, folder_text, input_by, no_input, whole_input}
use Rattle.blk_run.proofs.Counted.{told_totals}

-- nothing was taken
none_taken : (most : ℕ) (left : Option (List ℕ)) (input : List ℕ) → left ≡ Some input → IsTakenUpTo most left input
none_taken most left input is = ([], record { behind = input; split = refl; left_is = is; within = omega arith })

unput : (old new : Outside) → DoesNothing old new → LeavesUnput old new
unput old new nothing = record { unwritten = nothing.unwritten; unprinted = nothing.unprinted }

-- no work is done when out of memory
pub performs_nothing : (work : Work) (limits : Bounds) (device source : Type 0) (before now : ℕ) (old new : Outside) → ReadsAs old.clock new.clock (λ _ _. Unit {0}) → DoesNothing old new → Performs work status.Memory limits (seen_as old new device source before now)
performs_nothing (input_by protocol) limits device source before now old new clock nothing = record {
  plays = λ from there usable. reads_map clock (λ readings later none. takes_map (takes_same [] nothing.unread) (λ input rest same. record { unwritten = nothing.unwritten; unread = ap Some same; unprinted = nothing.unprinted }));
  complete = λ from there usable no_device no_source no_sink readings told input left within unbroken. nothing;
  damage = λ from there damage is. nothing;
  cause = tt;
  takes = λ input left. none_taken _ new.left input (nothing.unread ∙ left);
  memory = λ is. nothing;
}
performs_nothing (whole_input script) limits device source before now old new clock nothing = record {
  plays = λ from there usable. reads_map clock (λ readings later none. takes_map (takes_same [] nothing.unread) (λ input rest same. (inl (ap Some same), record { unwritten = nothing.unwritten; unprinted = nothing.unprinted })));
  complete = λ from there usable no_device no_source no_sink readings told input left within. record { unwritten = nothing.unwritten; unread = refl; unprinted = nothing.unprinted };
  damage = λ from there damage is. ((λ input left. inl nothing.unread), unput old new nothing);
  cause = tt;
  takes = λ input left. none_taken _ new.left input (nothing.unread ∙ left);
  memory = λ is. unput old new nothing;
}
performs_nothing (no_input script) limits device source before now old new clock nothing = record {
  plays = λ from there usable. reads_map clock (λ readings later none. record { unwritten = nothing.unwritten; unread = nothing.unread; unprinted = nothing.unprinted });
  complete = λ from there usable no_device no_source no_sink readings told. nothing;
  damage = λ from there damage is. nothing;
  cause = tt;
  takes = nothing.unread;
  memory = λ is. nothing;
}
performs_nothing (folder_text text) limits device source before now old new clock nothing = record {
  plays = λ from there usable. record { printed = nothing.unprinted; unwritten = nothing.unwritten; unread = nothing.unread };
  complete = λ from there usable no_device no_source no_sink. nothing;
  damage = λ from there damage is. nothing;
  cause = tt;
  takes = nothing.unread;
  memory = λ is. nothing;
}

still : (start image : Image) → start ≡ image → HoldsStill start image
still start image same = subst (HoldsStill start) same (record { usable = λ u. u; formed = λ w. w; found_same = refl })

no_end : {P : Type 0} → IsDoneOrSink status.Memory → P
no_end (inl e) = absurd (never e)
  where
    never : status.Memory ≡ status.Ok → ⊥
    never c = cc
no_end (inr e) = absurd (never e)
  where
    never : status.Memory ≡ status.Sink → ⊥
    never c = cc

-- nothing is counted either, and the clock is read once
pub counts_nothing : (limits : Bounds) (before now : ℕ) (old new : Outside) → DoesNothing old new → new.clock ≡ option_map later_of old.clock → (device source : Type 0) → Counts status.Memory limits (seen_as old new device source before now)
counts_nothing limits before now old new nothing read device source = record {
  answer = λ from there. tt;
  printed = told_totals status.Memory limits old.folder.files old.written new.written (λ line. nothing.unprinted);
  damage = λ e. absurd (no_damage e);
  ended = λ well. no_end well;
  made = λ well. no_end well;
  stops = λ start there. any_none (HoldsStill start) nothing.unwritten (λ image is. still start image (inj start image (sym there ∙ is)));
  unwritten = λ e. absurd (no_damage e);
  silent = λ none. ap (λ (t : Told). t.files) nothing.unwritten ∙ none;
  clock = read;
  never = λ e. no_refusal e;
}
  where
    no_damage : status.Memory ≡ status.Damaged → ⊥
    no_damage c = cc

    no_refusal : status.Memory ≡ status.Refused → ⊥
    no_refusal c = cc

    inj : (a b : Image) → Some a ≡ Some b → a ≡ b
    inj a b c = cc
