use Rattle.std.proofs.Common.{◌≡◌, ◌≢◌, Bool, ℕ, ◌+◌, ◌*◌, ◌/◌, ◌%◌, ◌<◌, List, None, sym, ◌∙◌, ap, subst, arith}
use Rattle.std.specs.Option.{ForSome}
use Rattle.spec_image.specs.Told.{Told}
use Rattle.spec_format.specs.Maps.{is_block_marked, longest_run}
use Rattle.blk_addr.specs.Bits.{has_bit}
use Rattle.blk_io.specs.Faults.{IfDamaged}
use Rattle.blk_io.proofs.Carried.{carried}
use Rattle.blk_disk.specs.Tables.{Agrees}
use Rattle.blk_alloc.specs.Fitting.{IsFirstMet}
use Rattle.blk_alloc.proofs.Rounds.{all_seen, turn_met, turn_none, turn_once}
use Rattle.blk_alloc.proofs.Searches.{word_groups, word_runs}
use Rattle.blk_alloc.proofs.searching.first_met.Goals as goal

pub returns-then-words-eq0-clause-none : goal.returns-then-words-eq0-clause-none
returns-then-words-eq0-clause-none g c e image there h small is =
    let groups = (word_groups c.args.files.now c.args.file c.in-Some.blocks c.requires.linked c.in-Some.ensures).1 in
    absurd (omega (arith, groups, small, c.if-words-eq0.true))

pub returns-in_err-word-clause-untold : goal.returns-in_err-word-clause-untold
returns-in_err-word-clause-untold g c agrees =
    carried c.map_word.result c.from_residual.result c.in_err-word.field-0.0 _ c.in_err-word.was c.from_residual.ensures.1
    (subst (λ (t : Told). ForSome t.files (Agrees c.args.files.now) → IfDamaged c.map_word.result (λ x. t.files ≡ None)) c.loop-turn.invariant.stays c.map_word.ensures.untold agrees)

-- there are words where a round is made
words_some : (words : ℕ) → words ≢ 0 → 0 < words
words_some words some = omega (arith, some)

pub returns-in-Some-group_in-clause-met : goal.returns-in-Some-group_in-clause-met
returns-in-Some-group_in-clause-met g c image there =
    let words : ℕ = c.in-Some.blocks / 32 in
    let marked : ℕ → Bool = is_block_marked image c.args.file in
    let groups = (word_groups c.args.files.now c.args.file c.in-Some.blocks c.requires.linked c.in-Some.ensures).1 in
    let number : ℕ = (c.args.hint % (8 * words) / 8 + c.loop-turn.turn) % words in
    let read = c.in_ok-word.ensures.word image (ap (λ (t : Told). t.files) c.loop-turn.invariant.stays ∙ there) in
    let found = c.in-Some-group_in.ensures.found in
    subst (λ (k : ℕ). IsFirstMet marked k c.args.hint c.args.run (8 * number + c.in-Some-group_in.place)) (sym groups)
    (turn_met marked (has_bit c.to_le_bytes-bytes.result) words c.args.hint c.args.run c.loop-turn.turn c.first_in.result (words_some words c.if-words-eq0.false) (c.loop-turn.invariant.seen image there)
    c.first_in.ensures.begins c.first_in.ensures.goes_on (λ i small. ap (λ (l : List ℕ). longest_run (has_bit l) i) c.to_le_bytes-bytes.ensures ∙ word_runs image c.args.file number c.in_ok-word.word read i small)
    c.in-Some-group_in.place found.0 found.1 found.2 c.in-Some-group_in.ensures.before (omega (arith, c.loop-turn-test.true)))

pub returns-in-Some-group_in-clause-once : goal.returns-in-Some-group_in-clause-once
returns-in-Some-group_in-clause-once g c image there at =
    let words : ℕ = c.in-Some.blocks / 32 in
    let marked : ℕ → Bool = is_block_marked image c.args.file in
    let groups = (word_groups c.args.files.now c.args.file c.in-Some.blocks c.requires.linked c.in-Some.ensures).1 in
    let number : ℕ = (c.args.hint % (8 * words) / 8 + c.loop-turn.turn) % words in
    let read = c.in_ok-word.ensures.word image (ap (λ (t : Told). t.files) c.loop-turn.invariant.stays ∙ there) in
    let found = c.in-Some-group_in.ensures.found in
    let none = turn_once marked (has_bit c.to_le_bytes-bytes.result) words c.args.hint c.args.run c.loop-turn.turn c.first_in.result (words_some words c.if-words-eq0.false) (c.loop-turn.invariant.seen image there)
    c.first_in.ensures.begins c.first_in.ensures.goes_on (λ i small. ap (λ (l : List ℕ). longest_run (has_bit l) i) c.to_le_bytes-bytes.ensures ∙ word_runs image c.args.file number c.in_ok-word.word read i small)
    c.in-Some-group_in.place found.0 found.1 found.2 c.in-Some-group_in.ensures.before (omega (arith, c.loop-turn-test.true)) (at ∙ ap (λ (k : ℕ). c.args.hint % k) groups) in
    let counts = c.in_ok-word.ensures.counts in
    let so_far = c.loop-turn.invariant.counts in
    omega (arith, none, counts, so_far)

pub loop-turn-preserved : goal.loop-turn-preserved
loop-turn-preserved g c =
    let words : ℕ = c.in-Some.blocks / 32 in
    let number : ℕ = (c.args.hint % (8 * words) / 8 + c.loop-turn.turn) % words in
    record {
      seen = λ image there.
          let read = c.in_ok-word.ensures.word image (ap (λ (t : Told). t.files) c.loop-turn.invariant.stays ∙ there) in
          turn_none (is_block_marked image c.args.file) (has_bit c.to_le_bytes-bytes.result) words c.args.hint c.args.run c.loop-turn.turn c.first_in.result (words_some words c.if-words-eq0.false) (c.loop-turn.invariant.seen image there)
          c.first_in.ensures.begins c.first_in.ensures.goes_on (λ i small. ap (λ (l : List ℕ). longest_run (has_bit l) i) c.to_le_bytes-bytes.ensures ∙ word_runs image c.args.file number c.in_ok-word.word read i small) (c.group_in.ensures.none c.in_default-group_in.is);
      counts = let counts = c.in_ok-word.ensures.counts in let so_far = c.loop-turn.invariant.counts in omega (arith, counts, so_far);
      stays = c.in_ok-word.ensures.reads.stays ∙ c.loop-turn.invariant.stays;
      later = let one = c.in_ok-word.ensures.reads.later in let other = c.loop-turn.invariant.later in omega (arith, one, other);
    }

pub returns-clause-none : goal.returns-clause-none
returns-clause-none g c e image there h small is =
    let groups = (word_groups c.args.files.now c.args.file c.in-Some.blocks c.requires.linked c.in-Some.ensures).1 in
    let words : ℕ = c.in-Some.blocks / 32 in
    all_seen (is_block_marked image c.args.file) words c.args.hint c.args.run (words_some words c.if-words-eq0.false) c.loop-turn.turn (c.loop-turn.invariant.seen image there) c.loop-turn-test.false h (omega (arith, groups, small)) is
