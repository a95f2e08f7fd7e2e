use Rattle.std.proofs.Common.{◌≡◌, ◌∙◌, List, Option, None, Some, true, false, refl, sym, ap, subst}
use Rattle.std.specs.Prelude.{All, is_some, not}
use Rattle.std.proofs.lemmas.List.Elements.{All-push}
use Rattle.spec_folder.specs.Audit as audit
use Rattle.blk_verdict.specs.Kept.{AreShown, IsSameAnswer, kept_with}
use Rattle.blk_verdict.specs.Readable.{IsReadable}
use Rattle.blk_verdict.specs.declared.loading.Loaded.{Loaded}
use Rattle.blk_verdict.specs.declared.reason.Reason.{Reason}
use Rattle.blk_verdict.proofs.AdmitFacts.{shown_with}
use Rattle.blk_verdict.proofs.kept.KeptSoFar.admit.Goals as goal

no_reason : (given : Option Reason) → is_some given ≡ false → given ≡ None
no_reason None e = refl
no_reason (Some reason) e = absurd (clash e)
  where
    clash : true ≡ false → ⊥
    clash c = cc

some_reason : (kept : List Loaded) (one : Loaded) (given : Option Reason) → is_some given ≡ true → kept_with kept one given ≡ kept
some_reason kept one None e = absurd (clash e)
  where
    clash : false ≡ true → ⊥
    clash c = cc
some_reason kept one (Some reason) e = refl

pub returns-in_ok-keep-clause-shown : goal.returns-in_ok-keep-clause-shown
returns-in_ok-keep-clause-shown g c image there agrees kept given are known named =
    let none = no_reason c.in_ok-reason.reason (c.is_none.ensures ∙ ap not c.if-is_none.true) in
    subst (AreShown image (audit.with_verdict kept (audit.admit kept given))) (sym c.in_ok-keep.ensures.kept)
    (shown_with image kept c.args.self.now.kept.items given c.args.loaded None are known (subst (IsSameAnswer (audit.admit kept given)) none (c.in_ok-reason.ensures.answer image there agrees kept given are known named)))

pub returns-in_ok-keep-clause-order : goal.returns-in_ok-keep-clause-order
returns-in_ok-keep-clause-order g c =
    let none = no_reason c.in_ok-reason.reason (c.is_none.ensures ∙ ap not c.if-is_none.true) in
    record {
      readable = subst (All (IsReadable c.args.files.now)) (sym c.in_ok-keep.ensures.kept) (All-push (IsReadable c.args.files.now) c.args.self.now.kept.items c.args.loaded c.requires.order.readable c.requires.readable);
      indexed = c.in_ok-keep.ensures.indexed c.requires.order.indexed (c.reason_for.ensures.apart (c.in_ok-reason.was ∙ ap Rattle.std.proofs.Common.Ok none));
    }

pub returns-else-is_none-clause-shown : goal.returns-else-is_none-clause-shown
returns-else-is_none-clause-shown g c image there agrees kept given are known named =
    let some = c.is_none.ensures ∙ ap not c.if-is_none.false in
    subst (AreShown image (audit.with_verdict kept (audit.admit kept given))) (some_reason c.args.self.now.kept.items c.args.loaded c.in_ok-reason.reason some)
    (shown_with image kept c.args.self.now.kept.items given c.args.loaded c.in_ok-reason.reason are known (c.in_ok-reason.ensures.answer image there agrees kept given are known named))
