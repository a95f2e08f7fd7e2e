use Rattle.blk_disk.specs.Tables.{is_node_among}
use Rattle.std.proofs.Common.{◌≡◌, ◌∷◌, [], ◌+◌, List, None, drop, map, sym, subst, true, refl, arith, rules}
use Rattle.spec_folder.specs.ListView.{ListWrite}
use Rattle.blk_io.proofs.Carried.{carried}
use Rattle.blk_lru.specs.Writes.{meant}
use Rattle.blk_lru.proofs.FailedChecks.{if_damaged_weaker}
use Rattle.blk_lru.proofs.Performing.{Reached, Wrote, nothing, midst, rest_made, one_more, in_part, done_all, all_checked, wrote_part, told_ready, part_ready, at_item, item_is, all_done, back_untold}
use Rattle.blk_lru.proofs.writes.perform.Goals as goal

pub loop-write-init : goal.loop-write-init
loop-write-init g c = record { reached = nothing (g.F.Folder.told c.args.folder.now) (g.F.Folder.told c.args.folder.now) (map meant c.args.writes.now) refl; later = omega arith }

pub write_one-requires-clause-stand : goal.write_one-requires-clause-stand
write_one-requires-clause-stand g c = item_is (λ n. is_node_among c.args.files.now n ≡ true) c.args.writes.now c.loop-write.write-index c.write-item.result c.write-item.result c.loop-write-test.true (sym c.write-item.is) c.requires.stand

pub write_one-requires-clause-is_open : goal.write_one-requires-clause-is_open
write_one-requires-clause-is_open g c image there =
    let old = g.F.Folder.told c.args.folder.now in
    let ws : List ListWrite = map meant c.args.writes.now in
    let ready = told_ready c.args.files.now old c.requires.is_open (g.met.F.Folder.are_bytes c.args.folder.now) in
    let now = g.F.Folder.told c.loop-write.folder in
    let left : List ListWrite = map meant (drop (c.loop-write.write-index + 1) c.args.writes.now) in
    let reached : Reached old now ws (meant c.write-item.result ∷ left) = subst (Reached old now ws) (at_item c.args.writes.now c.loop-write.write-index c.write-item.result c.write-item.result c.loop-write-test.true (sym c.write-item.is)) c.loop-write.invariant.reached in
    midst c.args.files.now old ws ready c.requires.words now (meant c.write-item.result ∷ left) reached image there

pub returns-in_err-write_one-clause-prefix : goal.returns-in_err-write_one-clause-prefix
returns-in_err-write_one-clause-prefix g c = record {
  made = let old = g.F.Folder.told c.args.folder.now in
      let ws : List ListWrite = map meant c.args.writes.now in
      let ready = told_ready c.args.files.now old c.requires.is_open (g.met.F.Folder.are_bytes c.args.folder.now) in
      let now = g.F.Folder.told c.loop-write.folder in
      let left : List ListWrite = map meant (drop (c.loop-write.write-index + 1) c.args.writes.now) in
      let reached : Reached old now ws (meant c.write-item.result ∷ left) = subst (Reached old now ws) (at_item c.args.writes.now c.loop-write.write-index c.write-item.result c.write-item.result c.loop-write-test.true (sym c.write-item.is)) c.loop-write.invariant.reached in
      let next = g.F.Folder.told c.write_one.new.folder in
      let part = in_part c.args.files.now old ws ready c.requires.words now next (meant c.write-item.result) left reached c.in_err-write_one.ensures.prefix.made in
      let silent : old.files ≡ None → next.files ≡ None = λ none. c.in_err-write_one.ensures.prefix.silent (reached.wrote.silent none) in
      part;
  silent = search rules;
}

pub returns-in_err-write_one-clause-is_open : goal.returns-in_err-write_one-clause-is_open
returns-in_err-write_one-clause-is_open g c image there =
    let old = g.F.Folder.told c.args.folder.now in
    let ws : List ListWrite = map meant c.args.writes.now in
    let ready = told_ready c.args.files.now old c.requires.is_open (g.met.F.Folder.are_bytes c.args.folder.now) in
    let now = g.F.Folder.told c.loop-write.folder in
    let left : List ListWrite = map meant (drop (c.loop-write.write-index + 1) c.args.writes.now) in
    let reached : Reached old now ws (meant c.write-item.result ∷ left) = subst (Reached old now ws) (at_item c.args.writes.now c.loop-write.write-index c.write-item.result c.write-item.result c.loop-write-test.true (sym c.write-item.is)) c.loop-write.invariant.reached in
    let next = g.F.Folder.told c.write_one.new.folder in
    let part = in_part c.args.files.now old ws ready c.requires.words now next (meant c.write-item.result) left reached c.in_err-write_one.ensures.prefix.made in
    let silent : old.files ≡ None → next.files ≡ None = λ none. c.in_err-write_one.ensures.prefix.silent (reached.wrote.silent none) in
    part_ready c.args.files.now old ws ready c.requires.words next silent part image there

pub returns-in_err-write_one-clause-untold : goal.returns-in_err-write_one-clause-untold
returns-in_err-write_one-clause-untold g c can =
    let old = g.F.Folder.told c.args.folder.now in
    let ws : List ListWrite = map meant c.args.writes.now in
    let ready = told_ready c.args.files.now old c.requires.is_open (g.met.F.Folder.are_bytes c.args.folder.now) in
    let now = g.F.Folder.told c.loop-write.folder in
    let left : List ListWrite = map meant (drop (c.loop-write.write-index + 1) c.args.writes.now) in
    let reached : Reached old now ws (meant c.write-item.result ∷ left) = subst (Reached old now ws) (at_item c.args.writes.now c.loop-write.write-index c.write-item.result c.write-item.result c.loop-write-test.true (sym c.write-item.is)) c.loop-write.invariant.reached in
    carried c.write_one.result c.from_residual.result c.in_err-write_one.field-0.0 (λ _. old.files ≡ None) c.in_err-write_one.was c.from_residual.ensures.1
    (if_damaged_weaker c.write_one.result (λ damage none. back_untold reached.wrote none) (c.write_one.ensures.untold (rest_made c.args.files.now old ws ready c.requires.words now (meant c.write-item.result) left reached can)))

pub loop-write-preserved : goal.loop-write-preserved
loop-write-preserved g c =
    let old = g.F.Folder.told c.args.folder.now in
    let ws : List ListWrite = map meant c.args.writes.now in
    let ready = told_ready c.args.files.now old c.requires.is_open (g.met.F.Folder.are_bytes c.args.folder.now) in
    let now = g.F.Folder.told c.loop-write.folder in
    let left : List ListWrite = map meant (drop (c.loop-write.write-index + 1) c.args.writes.now) in
    let reached : Reached old now ws (meant c.write-item.result ∷ left) = subst (Reached old now ws) (at_item c.args.writes.now c.loop-write.write-index c.write-item.result c.write-item.result c.loop-write-test.true (sym c.write-item.is)) c.loop-write.invariant.reached in
    let next = g.F.Folder.told c.write_one.new.folder in
    record {
      reached = one_more c.args.files.now old ws ready c.requires.words now next (meant c.write-item.result) left reached c.in_ok-write_one.ensures.steps c.in_ok-write_one.ensures.prefix.silent c.in_ok-write_one.ensures.checked;
      later = omega (arith, c.loop-write.invariant.later, c.in_ok-write_one.ensures.later);
    }

pub returns-clause-checked : goal.returns-clause-checked
returns-clause-checked g c =
    let old = g.F.Folder.told c.args.folder.now in
    let ws : List ListWrite = map meant c.args.writes.now in
    let ready = told_ready c.args.files.now old c.requires.is_open (g.met.F.Folder.are_bytes c.args.folder.now) in
    let now = g.F.Folder.told c.loop-write.folder in
    let reached : Reached old now ws [] = subst (Reached old now ws) (all_done c.args.writes.now c.loop-write.write-index c.loop-write-test.false) c.loop-write.invariant.reached in
    all_checked c.args.files.now old ws ready c.requires.words now reached

pub returns-clause-steps : goal.returns-clause-steps
returns-clause-steps g c =
    let old = g.F.Folder.told c.args.folder.now in
    let ws : List ListWrite = map meant c.args.writes.now in
    let ready = told_ready c.args.files.now old c.requires.is_open (g.met.F.Folder.are_bytes c.args.folder.now) in
    let now = g.F.Folder.told c.loop-write.folder in
    let reached : Reached old now ws [] = subst (Reached old now ws) (all_done c.args.writes.now c.loop-write.write-index c.loop-write-test.false) c.loop-write.invariant.reached in
    (done_all c.args.files.now old ws ready c.requires.words now reached).applies

pub returns-clause-prefix : goal.returns-clause-prefix
returns-clause-prefix g c = record {
  made = let old = g.F.Folder.told c.args.folder.now in
      let ws : List ListWrite = map meant c.args.writes.now in
      let ready = told_ready c.args.files.now old c.requires.is_open (g.met.F.Folder.are_bytes c.args.folder.now) in
      let now = g.F.Folder.told c.loop-write.folder in
      let reached : Reached old now ws [] = subst (Reached old now ws) (all_done c.args.writes.now c.loop-write.write-index c.loop-write-test.false) c.loop-write.invariant.reached in
      wrote_part (done_all c.args.files.now old ws ready c.requires.words now reached);
  silent = let old = g.F.Folder.told c.args.folder.now in
      let ws : List ListWrite = map meant c.args.writes.now in
      let ready = told_ready c.args.files.now old c.requires.is_open (g.met.F.Folder.are_bytes c.args.folder.now) in
      let now = g.F.Folder.told c.loop-write.folder in
      let reached : Reached old now ws [] = subst (Reached old now ws) (all_done c.args.writes.now c.loop-write.write-index c.loop-write-test.false) c.loop-write.invariant.reached in
      (done_all c.args.files.now old ws ready c.requires.words now reached).silent;
}

pub returns-clause-is_open : goal.returns-clause-is_open
returns-clause-is_open g c image there =
    let old = g.F.Folder.told c.args.folder.now in
    let ws : List ListWrite = map meant c.args.writes.now in
    let ready = told_ready c.args.files.now old c.requires.is_open (g.met.F.Folder.are_bytes c.args.folder.now) in
    let now = g.F.Folder.told c.loop-write.folder in
    let reached : Reached old now ws [] = subst (Reached old now ws) (all_done c.args.writes.now c.loop-write.write-index c.loop-write-test.false) c.loop-write.invariant.reached in
    let wrote : Wrote old now ws = done_all c.args.files.now old ws ready c.requires.words now reached in
    part_ready c.args.files.now old ws ready c.requires.words now wrote.silent (wrote_part wrote) image there
