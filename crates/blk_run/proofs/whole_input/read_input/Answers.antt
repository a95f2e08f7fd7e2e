use Rattle.std.proofs.Common.{◌∙◌, arith, ◌≡◌, [], Some, drop, refl, sym, ap}
use Rattle.blk_run.proofs.WholeReading.{placed_length, room_left, taken_all, taken_front, taken_more, taken_past, none_front, none_moved}
use Rattle.std.proofs.lemmas.List.{drop_all}
use Rattle.blk_run.proofs.Reading.{for_some, reads_map, reads_none, reads_then, some_same, takes_any, takes_same, takes_then, took_front, took_none}
use Rattle.blk_run.proofs.whole_input.read_input.Goals as goal

pub loop-len-init : goal.loop-len-init
loop-len-init g c = record {
  buffer = c.requires.buffer;
  within = omega arith;
  taken = λ bytes there. record { are = refl; within = omega arith; left_is = there };
  given = reads_none (λ bytes. record { are = refl; within = omega arith; left_is = refl });
  later = omega arith;
}

pub returns-in-Ok-eq0-clause-reads : goal.returns-in-Ok-eq0-clause-reads
returns-in-Ok-eq0-clause-reads g c = (
  c.loop-len-test.true,
  λ bytes there.
      let buffer = c.loop-len.invariant.buffer in
      let few = c.loop-len-test.true in
      let left = room_left c.loop-len.len c.loop-len.buffer (omega (arith, buffer, few)) in
      let so = c.loop-len.invariant.taken bytes there in
      let moved = c.in-Ok-eq0.ensures.bytes _ so.left_is in
      taken_all c.loop-len.len c.in-Ok-eq0.field-0 c.loop-len.buffer c.take.new.out bytes (omega (arith, buffer, few)) (c.take.auto.out ∙ left) moved.count moved.front
      so few (moved.end c.in-Ok-eq0.field-0-test (omega (arith, left, buffer, few))) c.in-Ok-eq0.ensures.left,
)

pub returns-in-Ok-eq0-clause-given : goal.returns-in-Ok-eq0-clause-given
returns-in-Ok-eq0-clause-given g c =
    let buffer = c.loop-len.invariant.buffer in
    let few = c.loop-len-test.true in
    let left = room_left c.loop-len.len c.loop-len.buffer (omega (arith, buffer, few)) in
    takes_then c.loop-len.invariant.given
    (took_none c.in-Ok-eq0.field-0 c.in-Ok-eq0.field-0-test (λ l is. (c.in-Ok-eq0.ensures.bytes l is).end c.in-Ok-eq0.field-0-test (omega (arith, left, buffer, few))) c.in-Ok-eq0.ensures.left)
    (λ bytes mid rest so empty.
    let end : drop c.loop-len.len bytes ≡ [] = some_same (sym so.left_is) ∙ empty.0 in
    let nothing : drop c.in-Ok-eq0.field-0 mid ≡ [] = ap (drop c.in-Ok-eq0.field-0) empty.0 ∙ drop_all c.in-Ok-eq0.field-0 [] (omega arith) in (
      c.loop-len-test.true,
      for_some _ bytes
          (taken_all c.loop-len.len c.in-Ok-eq0.field-0 c.loop-len.buffer c.take.new.out bytes (omega (arith, buffer, few)) (c.take.auto.out ∙ left)
          (none_moved c.in-Ok-eq0.field-0 (drop c.loop-len.len bytes) c.in-Ok-eq0.field-0-test) (none_front c.in-Ok-eq0.field-0 c.take.new.out (drop c.loop-len.len bytes) c.in-Ok-eq0.field-0-test) so few end (ap Some (empty.1 ∙ sym nothing))),
    ))

pub returns-in-Err-clause-reads : goal.returns-in-Err-clause-reads
returns-in-Err-clause-reads g c bytes there = taken_front 1048576 c.loop-len.len c.loop-len.buffer bytes (c.loop-len.invariant.taken bytes there) c.loop-len-test.true c.in-Err.ensures.stays

pub returns-in-Err-clause-given : goal.returns-in-Err-clause-given
returns-in-Err-clause-given g c =
    takes_then c.loop-len.invariant.given (takes_same [] c.in-Err.ensures.stays) (λ bytes mid rest so same. for_some _ bytes (taken_front 1048576 c.loop-len.len c.loop-len.buffer bytes so c.loop-len-test.true (ap Some same)))

pub returns-clause-reads : goal.returns-clause-reads
returns-clause-reads g c bytes there =
    let within = c.loop-len.invariant.within in
    let many = c.loop-len-test.false in
    taken_past 1048576 c.loop-len.len c.loop-len.buffer bytes (c.loop-len.invariant.taken bytes there) (omega (arith, within, many))

pub returns-clause-given : goal.returns-clause-given
returns-clause-given g c =
    let within = c.loop-len.invariant.within in
    let many = c.loop-len-test.false in
    takes_any [] (reads_map c.loop-len.invariant.given (λ bytes rest so. for_some _ bytes (taken_past 1048576 c.loop-len.len c.loop-len.buffer bytes so (omega (arith, within, many)))))

pub loop-len-preserved : goal.loop-len-preserved
loop-len-preserved g c =
    let buffer = c.loop-len.invariant.buffer in
    let few = c.loop-len-test.true in
    let left = room_left c.loop-len.len c.loop-len.buffer (omega (arith, buffer, few)) in
    let taken = c.in-Ok.ensures.within in
    let same = c.take.auto.out ∙ left in
    record {
      buffer = placed_length c.loop-len.len c.loop-len.buffer c.take.new.out (omega (arith, buffer, few)) same ∙ buffer;
      within = omega (arith, taken, left, buffer, few);
      taken = λ bytes there.
          let so = c.loop-len.invariant.taken bytes there in
          let moved = c.in-Ok.ensures.bytes _ so.left_is in
          taken_more c.loop-len.len c.in-Ok.taken c.loop-len.buffer c.take.new.out bytes (omega (arith, buffer, few)) same moved.count moved.front so (omega (arith, taken, left, same)) c.in-Ok.ensures.left;
      given = reads_then c.loop-len.invariant.given
          (took_front c.in-Ok.taken c.take.new.out (omega (arith, taken, left, same)) (λ l is. let moved = c.in-Ok.ensures.bytes l is in (moved.count, moved.front)) c.in-Ok.ensures.left)
          (λ bytes mid rest so took.
          let moved = took.0 (drop c.loop-len.len bytes) so.left_is in
          taken_more c.loop-len.len c.in-Ok.taken c.loop-len.buffer c.take.new.out bytes (omega (arith, buffer, few)) same moved.0 moved.1 so (omega (arith, taken, left, same)) took.1);
      later = let a = c.loop-len.invariant.later in let b = c.in-Ok.ensures.later in omega (arith, a, b);
    }
