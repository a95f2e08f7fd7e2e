use Rattle.std.proofs.Common.{inl, ℕ, length, Some, refl, sym, ap, ◌∙◌, subst, arith, List}
use Rattle.std.specs.declared.option.Option.{Option}
use Rattle.std.proofs.lemmas.Result.{err_from_is_err_and}
use Rattle.blk_addr.specs.Kind.{kind_number}
use Rattle.blk_disk.specs.Loading.{Follows, IsFresh, MayBeNext}
use Rattle.blk_disk.proofs.Following.{caused_if, follows_kind}
use Rattle.blk_disk.proofs.TakingUp.{first_fresh, numbers_before}
use Rattle.blk_disk.specs.Tables.{all_files}
use Rattle.spec_format.specs.BlockFiles.{is_among}
use Rattle.blk_disk.proofs.tables.BlockFiles.follow.Goals as goal

pub loop-next-init : goal.loop-next-init
loop-next-init g c = record {
  room = let none = ap (λ (l : List ℕ). length l) c.requires.empty in omega (arith, none);
  follows =
      λ image there. subst (λ (n : ℕ). Follows c.args.self.now image (kind_number c.args.kind) (Some n)) (sym c.first_file.ensures)
      (follows_kind c.args.kind c.args.self.now image c.requires.block_kind (c.requires.begun image there));
  number = inl c.first_file.ensures;
  fresh = ap (is_among (all_files c.args.self.now)) c.first_file.ensures ∙ first_fresh (all_files c.args.self.now) c.args.kind c.requires.numbers;
  numbers = numbers_before (all_files c.args.self.now) (kind_number c.args.kind) c.requires.numbers;
  others = λ other differs. refl;
  stays = refl;
  later = omega arith;
}

pub link-requires-clause-next : goal.link-requires-clause-next
link-requires-clause-next g c image there = subst (λ (o : Option ℕ). Follows c.loop-next.self image (kind_number c.args.kind) o) c.in-Some.is (c.loop-next.invariant.follows image there)

pub link-requires-clause-fresh : goal.link-requires-clause-fresh
link-requires-clause-fresh g c = subst (IsFresh (all_files c.loop-next.self)) c.in-Some.is c.loop-next.invariant.fresh

pub returns-clause-followed : goal.returns-clause-followed
returns-clause-followed g c image there = subst (λ (o : Option ℕ). Follows c.loop-next.self image (kind_number c.args.kind) o) c.in_default.is (c.loop-next.invariant.follows image there)

pub returns-in_err-next-clause-cause : goal.returns-in_err-next-clause-cause
returns-in_err-next-clause-cause g c =
    let p = err_from_is_err_and c.from_residual.result c.from_residual.ensures.1 in
    rw (p.1, p.2)
    (caused_if (Option ℕ) Unit c.in_err-next.field-0.0 (g.F.Folder.told c.args.folder.now) (g.F.Folder.told c.loop-next.folder) c.loop-next.self c.args.kind c.in-Some.n c.requires.block_kind
    (subst (MayBeNext (kind_number c.args.kind)) c.in-Some.is c.loop-next.invariant.number) c.loop-next.invariant.stays c.in_err-next.ensures.cause)
