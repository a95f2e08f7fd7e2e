use Rattle.std.proofs.Common.{◌≡◌, ℕ, None, arith, sym, subst, ap, ◌∙◌}
use Rattle.std.specs.Option.{ForSome}
use Rattle.std.specs.Int.{cast_unsigned, w64}
use Rattle.std.proofs.lemmas.Int.{of_z-to_z}
use Rattle.std.proofs.lemmas.Result.{on_ok_weaker}
use Rattle.spec_image.specs.Told.{Told}
use Rattle.spec_image.proofs.Runs.{passes_none, passes_stayed, some_inj}
use Rattle.blk_io.proofs.Carried.{carried, if_damaged_weaker}
use Rattle.blk_model.specs.Holding.{rest}
use Rattle.blk_disk.specs.Open.{IsOpen}
use Rattle.law_state.specs.Changes.{Finds}
use Rattle.law_state.proofs.Keeping.{kept-held}
use Rattle.blk_sparse.specs.Beginning.{HasIndex, HasParentLength}
use Rattle.blk_sparse.proofs.Begun.{has-length}
use Rattle.blk_sparse.proofs.beginning.begin.Goals as goal

pub returns-in_err-key_len-clause-stops : goal.returns-in_err-key_len-clause-stops
returns-in_err-key_len-clause-stops g c from there state layout unlinked number object node p =
    passes_none (Finds (rest state)) c.in_err-key_len.ensures.reads.stays (λ image is. subst (Finds (rest state)) (some_inj (sym there ∙ is)) (p.kept.sound, kept-held state layout unlinked from p.kept))

pub returns-in_err-key_len-clause-untold : goal.returns-in_err-key_len-clause-untold
returns-in_err-key_len-clause-untold g c from there state layout unlinked number object node p =
    carried c.parent_length.result c.from_residual.result c.in_err-key_len.field-0.0 (λ _. (g.F.Folder.told c.args.f.now).files ≡ None) c.in_err-key_len.was c.from_residual.ensures.1
    (c.parent_length.ensures.untold (λ image is. (c.requires.is_open image is).agrees) (λ image is. subst (HasParentLength c.args.entry) (some_inj (sym there ∙ is)) (has-length state layout unlinked number object node c.args.entry from p (g.met.F.Folder.are_bytes c.args.f.now from there))))

pub give_index-requires-clause-is_open : goal.give_index-requires-clause-is_open
give_index-requires-clause-is_open g c = subst (λ (t : Told). ForSome t.files (IsOpen c.args.files.now)) (sym c.in_ok-key_len.ensures.reads.stays) c.requires.is_open

pub returns-clause-stops : goal.returns-clause-stops
returns-clause-stops g c from there state layout unlinked number object node p =
    passes_stayed c.in_ok-key_len.ensures.reads.stays
    (c.give_index.ensures.stops from (ap (λ (t : Told). t.files) c.in_ok-key_len.ensures.reads.stays ∙ there) state layout unlinked number object node (cast_unsigned w64 c.args.signature) p c.requires.signature
    (subst (λ (n : ℕ). HasIndex (cast_unsigned w64 c.args.signature) n c.print_index.new.out) (c.in_ok-key_len.ensures.length from there)
    (subst (λ (s : ℕ). HasIndex s c.in_ok-key_len.key_len c.print_index.new.out) (of_z-to_z w64 (cast_unsigned w64 c.args.signature) (let small = c.requires.signature in omega (arith, small))) c.print_index.ensures.index)))

pub returns-clause-begun : goal.returns-clause-begun
returns-clause-begun g c = on_ok_weaker c.give_index.result
    (λ done from there state layout unlinked number object node p.
    done from (ap (λ (t : Told). t.files) c.in_ok-key_len.ensures.reads.stays ∙ there) state layout unlinked number object node (cast_unsigned w64 c.args.signature) p c.requires.signature
    (subst (λ (n : ℕ). HasIndex (cast_unsigned w64 c.args.signature) n c.print_index.new.out) (c.in_ok-key_len.ensures.length from there)
    (subst (λ (s : ℕ). HasIndex s c.in_ok-key_len.key_len c.print_index.new.out) (of_z-to_z w64 (cast_unsigned w64 c.args.signature) (let small = c.requires.signature in omega (arith, small))) c.print_index.ensures.index)))
    c.give_index.ensures.begun

pub returns-clause-untold : goal.returns-clause-untold
returns-clause-untold g c from there state layout unlinked number object node p =
    let same = ap (λ (t : Told). t.files) c.in_ok-key_len.ensures.reads.stays in
    if_damaged_weaker c.give_index.result _ _ (λ damage none. sym same ∙ none)
    (c.give_index.ensures.untold from (same ∙ there) state layout unlinked number object node (cast_unsigned w64 c.args.signature) p c.requires.signature
    (subst (λ (n : ℕ). HasIndex (cast_unsigned w64 c.args.signature) n c.print_index.new.out) (c.in_ok-key_len.ensures.length from there)
    (subst (λ (s : ℕ). HasIndex s c.in_ok-key_len.key_len c.print_index.new.out) (of_z-to_z w64 (cast_unsigned w64 c.args.signature) (let small = c.requires.signature in omega (arith, small))) c.print_index.ensures.index)))
