use Rattle.std.proofs.Common.{sym, subst, None, ◌≡◌, rules}
use Rattle.blk_io.proofs.Carried.{carried}
use Rattle.std.specs.Option.{ForSome}
use Rattle.spec_image.specs.Told.{Told}
use Rattle.spec_image.proofs.Runs.{part_whole}
use Rattle.blk_chain.proofs.Links.{IsPut, link_not_yet, put_by, whole_by, linked_by}
use Rattle.blk_chain.proofs.linking.link_front.Given as given
use Rattle.blk_chain.proofs.Pairs.{gains-one}
use Rattle.blk_chain.proofs.linking.link_front.Goals as goal
use Rattle.blk_disk.specs.Open.{IsOpen}

pub returns-in_err-hash-clause-is_open : goal.returns-in_err-hash-clause-is_open
returns-in_err-hash-clause-is_open g c = subst (λ (t : Told). ForSome t.files (IsOpen c.args.files.now)) (sym c.in_err-hash.ensures.reads.stays) c.requires.is_open

pub returns-in_err-hash-clause-commits : goal.returns-in_err-hash-clause-commits
returns-in_err-hash-clause-commits g c = link_not_yet (g.F.Folder.told c.args.f.now) (g.F.Folder.told c.field.new.f) c.args.entry c.in_err-hash.ensures.reads.stays

-- what a failed write leaves
left_failed : (g : given.Over) (c : goal.After-from_residual-in_err-set_bucket g) → IsPut c.args.files.now c.args.entry (g.F.Folder.told c.args.f.now) (g.F.Folder.told c.set_bucket.new.f)
left_failed g c =
    put_by c.args.files.now (g.F.Folder.told c.args.f.now) (g.F.Folder.told c.set_bucket.new.f) c.args.entry c.in_ok-hash.hash c.word.result c.word.ensures.word c.word.ensures.address
    (λ image there. (c.requires.is_open image there).agrees) (λ image there. (c.requires.is_open image there).whole_index) c.in_ok-hash.ensures.value (g.F.Folder.told c.field.new.f) c.in_ok-hash.ensures.reads.stays c.in_err-set_bucket.ensures.prefix

-- what the write leaves
left_done : (g : given.Over) (c : goal.In_ok-set_bucket g) → IsPut c.args.files.now c.args.entry (g.F.Folder.told c.args.f.now) (g.F.Folder.told c.set_bucket.new.f)
left_done g c =
    put_by c.args.files.now (g.F.Folder.told c.args.f.now) (g.F.Folder.told c.set_bucket.new.f) c.args.entry c.in_ok-hash.hash c.word.result c.word.ensures.word c.word.ensures.address
    (λ image there. (c.requires.is_open image there).agrees) (λ image there. (c.requires.is_open image there).whole_index) c.in_ok-hash.ensures.value (g.F.Folder.told c.field.new.f) c.in_ok-hash.ensures.reads.stays (part_whole c.in_ok-set_bucket.ensures.steps)

pub returns-in_err-set_bucket-clause-prefix : goal.returns-in_err-set_bucket-clause-prefix
returns-in_err-set_bucket-clause-prefix g c = record {
  made = (left_failed g c).part;
  silent = search rules;
}

pub returns-in_err-set_bucket-clause-commits : goal.returns-in_err-set_bucket-clause-commits
returns-in_err-set_bucket-clause-commits g c = (left_failed g c).commits

pub returns-in_err-set_bucket-clause-is_open : goal.returns-in_err-set_bucket-clause-is_open
returns-in_err-set_bucket-clause-is_open g c image here = record { agrees = (left_failed g c).agrees image here; whole_index = c.in_err-set_bucket.ensures.complete image here }

pub returns-clause-steps : goal.returns-clause-steps
returns-clause-steps g c =
    whole_by c.args.files.now (g.F.Folder.told c.args.f.now) (g.F.Folder.told c.set_bucket.new.f) c.args.entry c.in_ok-hash.hash c.word.result c.word.ensures.word c.word.ensures.address
    (λ image there. (c.requires.is_open image there).agrees) (λ image there. (c.requires.is_open image there).whole_index) c.in_ok-hash.ensures.value (g.F.Folder.told c.field.new.f) c.in_ok-hash.ensures.reads.stays c.in_ok-set_bucket.ensures.steps

pub returns-clause-linked : goal.returns-clause-linked
returns-clause-linked g c =
    linked_by c.args.files.now (g.F.Folder.told c.args.f.now) (g.F.Folder.told c.set_bucket.new.f) c.args.entry c.in_ok-hash.hash c.word.result c.word.ensures.word c.word.ensures.address
    (λ image there. (c.requires.is_open image there).agrees) (λ image there. (c.requires.is_open image there).whole_index) c.in_ok-hash.ensures.value (g.F.Folder.told c.field.new.f) c.in_ok-hash.ensures.reads.stays c.in_ok-set_bucket.ensures.steps

pub returns-clause-prefix : goal.returns-clause-prefix
returns-clause-prefix g c = record {
  made = (left_done g c).part;
  silent = search rules;
}

pub returns-clause-commits : goal.returns-clause-commits
returns-clause-commits g c = (left_done g c).commits

pub returns-clause-is_open : goal.returns-clause-is_open
returns-clause-is_open g c image here = record { agrees = (left_done g c).agrees image here; whole_index = c.in_ok-set_bucket.ensures.complete image here }

pub returns-clause-gains : goal.returns-clause-gains
returns-clause-gains g c from there can image now = gains-one from image c.args.entry can (returns-clause-linked g c from there can image now)

pub returns-in_err-hash-clause-untold : goal.returns-in_err-hash-clause-untold
returns-in_err-hash-clause-untold g c =
    carried c.field.result c.from_residual.result c.in_err-hash.field-0.0 (λ _. (g.F.Folder.told c.args.f.now).files ≡ None) c.in_err-hash.was c.from_residual.ensures.1
    (c.field.ensures.untold (λ image there. (c.requires.is_open image there).agrees))
