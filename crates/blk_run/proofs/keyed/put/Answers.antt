use Rattle.std.proofs.Common.{rules, ◌++◌, ◌≡◌, ◌∙◌, ℕ, List, Err, length, take, ap, sym, refl, subst, Some}
use Rattle.std.proofs.Math.Seq.{take-append_seam}
use Rattle.percent_encoding.specs.Percent.{percent_decode}
use Rattle.blk_model.specs.Bounds.{bounds_of}
use Rattle.spec_run.specs.Script.{put_script}
use Rattle.std.specs.Option.{ForSome}
use Rattle.blk_run.specs.declared.whole_input.InputFault.{InputFault}
use Rattle.blk_run.specs.declared.whole_input.InputFault.TheVariants as fault
use Rattle.blk_run.specs.Inputs.{IsTakenPast, IsTakenUpTo}
use Rattle.blk_run.specs.WholeInputs.{Reads, longest_input}
use Rattle.blk_run.proofs.Performing.{long_put, put_performs, read_whole, same_key, unread_put, idle_put}
use Rattle.blk_run.proofs.Reading.{reads_none, takes_map}
use Rattle.blk_run.proofs.keyed.put.Goals as goal

-- what was lent whole is given back whole
lent : (n : ℕ) (front rest all : List ℕ) → all ≡ take n (front ++ rest) → length front ≡ n → all ≡ front
lent n front rest all is long = is ∙ (ap (λ (k : ℕ). take k (front ++ rest)) (sym long) ∙ take-append_seam front rest)

pub returns-in-Ok-read_input-clause-performs : goal.returns-in-Ok-read_input-clause-performs
returns-in-Ok-read_input-clause-performs g c =
    let key = same_key (c.in-Ok-decode_key.ensures ∙ c.requires.spelled) in
    let long : length c.read_input.new.buffer ≡ c.in-Ok-take_buffer.bytes.len = search rules in
    let same = lent c.in-Ok-take_buffer.bytes.len c.read_input.new.buffer _ c.deref.result.now c.deref.ensures.value long in
    put_performs c.run_script.result (bounds_of c.args.limits) _ _ _ _
    (record { folder = g.F.Folder.told c.args.folder.now; written = g.K.Sink.written c.args.out.now; left = g.S.Source.left c.args.input.now; clock = g.C.Clock.readings c.args.clock.now })
    (record { folder = g.F.Folder.told c.run_script.new.folder; written = g.K.Sink.written c.run_script.new.out; left = g.S.Source.left c.read_input.new.input; clock = g.C.Clock.readings c.run_script.new.clock })
    (put_script (percent_decode c.args.place.key.now) c.args.place.stream) (take c.in-Ok-read_input.len c.read_input.new.buffer) _ (ap (λ (k : List ℕ). put_script k c.args.place.stream (take c.in-Ok-read_input.len c.deref.result.now)) key ∙ ap (λ (l : List ℕ). put_script (percent_decode c.args.place.key.now) c.args.place.stream (take c.in-Ok-read_input.len l)) same)
    (read_whole c.in-Ok-read_input.len c.read_input.new.buffer _ _ c.in-Ok-read_input.ensures.reads.1)
    (takes_map c.in-Ok-read_input.ensures.given (λ bytes rest reads. read_whole c.in-Ok-read_input.len c.read_input.new.buffer (Some bytes) (Some rest) reads.1 bytes refl))
    (record {
      plays = c.run_script.ensures.script;
      complete = λ from there usable readings clock no_device no_sink. c.run_script.ensures.complete from there usable readings clock (g.S.Source.left c.read_input.new.input) no_device no_sink;
      damage = λ from there damage is. c.run_script.ensures.damage from there damage is (g.S.Source.left c.read_input.new.input);
      cause = c.run_script.ensures.cause;
      memory = λ is. let nothing = c.run_script.ensures.memory is in record { unwritten = nothing.0; unread = refl; unprinted = nothing.1 };
    })

pub returns-clause-performs : goal.returns-clause-performs
returns-clause-performs g c =
    long_put (put_script (percent_decode c.args.place.key.now) c.args.place.stream) (bounds_of c.args.limits) _ _ _ _
    (record { folder = g.F.Folder.told c.args.folder.now; written = g.K.Sink.written c.args.out.now; left = g.S.Source.left c.args.input.now; clock = g.C.Clock.readings c.args.clock.now })
    (record { folder = g.F.Folder.told c.args.folder.now; written = g.K.Sink.written c.args.out.now; left = g.S.Source.left c.read_input.new.input; clock = g.C.Clock.readings c.args.clock.now })
    (reads_none (λ here. tt)) (past c.in-Err-TooLong.field-0 c.in-Err-TooLong.field-0-is c.in-Err-TooLong.ensures.reads)
    (takes_map c.in-Err-TooLong.ensures.given (λ bytes rest reads. given_past c.in-Err-TooLong.field-0 bytes rest c.in-Err-TooLong.field-0-is reads bytes refl)) (record { unwritten = refl; unprinted = refl })
  where
    past : (why : InputFault) → why ≡ fault.TooLong → Reads (Err why) (g.S.Source.left c.args.input.now) (g.S.Source.left c.read_input.new.input) c.read_input.new.buffer → ForSome (g.S.Source.left c.args.input.now) (IsTakenPast longest_input (g.S.Source.left c.read_input.new.input))
    past why is reads = subst (λ (w : InputFault). Reads (Err w) (g.S.Source.left c.args.input.now) (g.S.Source.left c.read_input.new.input) c.read_input.new.buffer) is reads

    given_past : (why : InputFault) (bytes rest : List ℕ) → why ≡ fault.TooLong → Reads (Err why) (Some bytes) (Some rest) c.read_input.new.buffer → ForSome (Some bytes) (IsTakenPast longest_input (Some rest))
    given_past why bytes rest is reads = subst (λ (w : InputFault). Reads (Err w) (Some bytes) (Some rest) c.read_input.new.buffer) is reads

pub returns-in-Err-Source-clause-performs : goal.returns-in-Err-Source-clause-performs
returns-in-Err-Source-clause-performs g c =
    unread_put (put_script (percent_decode c.args.place.key.now) c.args.place.stream) (bounds_of c.args.limits) _ _ _ _
    (record { folder = g.F.Folder.told c.args.folder.now; written = g.K.Sink.written c.args.out.now; left = g.S.Source.left c.args.input.now; clock = g.C.Clock.readings c.args.clock.now })
    (record { folder = g.F.Folder.told c.args.folder.now; written = g.K.Sink.written c.args.out.now; left = g.S.Source.left c.read_input.new.input; clock = g.C.Clock.readings c.args.clock.now })
    (search rules) (reads_none (λ here. tt)) (up_to c.in-Err-Source.field-0 c.in-Err-Source.field-0-is c.in-Err-Source.ensures.reads)
    (takes_map c.in-Err-Source.ensures.given (λ bytes rest reads. given_up_to c.in-Err-Source.field-0 bytes rest c.in-Err-Source.field-0-is reads bytes refl)) (record { unwritten = refl; unprinted = refl })
  where
    up_to : (why : InputFault) → why ≡ fault.Source → Reads (Err why) (g.S.Source.left c.args.input.now) (g.S.Source.left c.read_input.new.input) c.read_input.new.buffer → ForSome (g.S.Source.left c.args.input.now) (IsTakenUpTo longest_input (g.S.Source.left c.read_input.new.input))
    up_to why is reads = subst (λ (w : InputFault). Reads (Err w) (g.S.Source.left c.args.input.now) (g.S.Source.left c.read_input.new.input) c.read_input.new.buffer) is reads

    given_up_to : (why : InputFault) (bytes rest : List ℕ) → why ≡ fault.Source → Reads (Err why) (Some bytes) (Some rest) c.read_input.new.buffer → ForSome (Some bytes) (IsTakenUpTo longest_input (Some rest))
    given_up_to why bytes rest is reads = subst (λ (w : InputFault). Reads (Err w) (Some bytes) (Some rest) c.read_input.new.buffer) is reads

pub returns-in_default-clause-performs : goal.returns-in_default-clause-performs
returns-in_default-clause-performs g c =
    idle_put (put_script (percent_decode c.args.place.key.now) c.args.place.stream) (bounds_of c.args.limits) _ _ _ _
    (record { folder = g.F.Folder.told c.args.folder.now; written = g.K.Sink.written c.args.out.now; left = g.S.Source.left c.args.input.now; clock = g.C.Clock.readings c.args.clock.now })
    (record { folder = g.F.Folder.told c.args.folder.now; written = g.K.Sink.written c.args.out.now; left = g.S.Source.left c.args.input.now; clock = g.C.Clock.readings c.args.clock.now })
    (reads_none (λ here. tt)) (record { unwritten = refl; unread = refl; unprinted = refl })

pub returns-in_default-take_buffer-clause-performs : goal.returns-in_default-take_buffer-clause-performs
returns-in_default-take_buffer-clause-performs g c =
    idle_put (put_script (percent_decode c.args.place.key.now) c.args.place.stream) (bounds_of c.args.limits) _ _ _ _
    (record { folder = g.F.Folder.told c.args.folder.now; written = g.K.Sink.written c.args.out.now; left = g.S.Source.left c.args.input.now; clock = g.C.Clock.readings c.args.clock.now })
    (record { folder = g.F.Folder.told c.args.folder.now; written = g.K.Sink.written c.args.out.now; left = g.S.Source.left c.args.input.now; clock = g.C.Clock.readings c.args.clock.now })
    (reads_none (λ here. tt)) (record { unwritten = refl; unread = refl; unprinted = refl })
