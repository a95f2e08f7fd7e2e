use Rattle.std.proofs.Common.{ℕ, List, [], ◌∷◌, replicate}
use Rattle.std.proofs.lemmas.List.{length-replicate}
use Rattle.std.proofs.lemmas.Result.{on_ok_weaker}
use Rattle.spec_image.proofs.Runs.{passes_end, passes_weaker}
use Rattle.spec_format.specs.Sealed.{sealed_steps}
use Rattle.blk_lru.proofs.Kept.{kept_sealed}
use Rattle.blk_lru.proofs.Performing.{part_kept}
use Rattle.blk_sparse.proofs.NewIndex.{these-changes, updated-as}
use Rattle.blk_sparse.proofs.part_record.name_streams.Goals as goal

pub update_sealed-requires-clause-changes : goal.update_sealed-requires-clause-changes
update_sealed-requires-clause-changes g c = these-changes c.args.entry c.args.size c.word.result c.word-2.result (replicate c.args.size 0) (replicate 192 0) (length-replicate {A = ℕ} c.args.size 0) (length-replicate {A = ℕ} 192 0) c.requires.kind

pub update_sealed-requires-clause-agrees : goal.update_sealed-requires-clause-agrees
update_sealed-requires-clause-agrees g c from there = (c.requires.is_open from there).agrees

pub returns-clause-named : goal.returns-clause-named
returns-clause-named g c =
    on_ok_weaker c.update_sealed.result
    (λ updated from there image now bytes map few long checks. record {
      updated = updated-as c.args.entry c.args.size c.word.result c.word-2.result c.args.stored c.args.index bytes map from image few long c.word.ensures.word c.word-2.ensures.word (updated from there image now);
      outside = passes_end (passes_weaker (c.update_sealed.ensures.stops from there checks) (λ i mid. mid.outside) (λ i mid. mid.outside)) image now;
    })
    c.update_sealed.ensures.updated

pub returns-clause-stops : goal.returns-clause-stops
returns-clause-stops g c from there checks = passes_weaker (c.update_sealed.ensures.stops from there checks) (λ i mid. mid.outside) (λ i mid. mid.outside)

pub returns-clause-is_open : goal.returns-clause-is_open
returns-clause-is_open g c checks image now =
    let changes : List (ℕ × ℕ) = (44, c.args.size) ∷ (48, 192) ∷ (60, c.word.result) ∷ (64, c.word-2.result) ∷ [] in
    (part_kept c.args.files.now (g.F.Folder.told c.args.folder.now) (g.F.Folder.told c.update_sealed.new.f) (λ from. sealed_steps from c.args.entry changes)
    (λ from there. kept_sealed c.args.files.now c.args.entry changes from (c.requires.is_open from there)) c.update_sealed.ensures.prefix.silent c.update_sealed.ensures.prefix.made image now)
