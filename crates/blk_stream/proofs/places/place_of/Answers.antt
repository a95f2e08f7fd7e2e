use Rattle.std.proofs.Common.{◌≡◌, ℕ, None, Some, refl, sym, ◌∙◌, arith}
use Rattle.spec_image.proofs.Runs.{some_inj}
use Rattle.blk_stream.proofs.StreamPlaces.{may_both, may_parts, not_stored_by, stored_by_is, stored_some}
use Rattle.blk_stream.proofs.places.place_of.Goals as goal

pub returns-then-size-gt-MOST_STREAM-clause-right : goal.returns-then-size-gt-MOST_STREAM-clause-right
returns-then-size-gt-MOST_STREAM-clause-right c may =
    let p = may_parts c.args.files.now c.args.size c.args.word may in
    absurd (omega (arith, p.0, c.if-size-gt-MOST_STREAM.true))

pub returns-in-None-clause-right : goal.returns-in-None-clause-right
returns-in-None-clause-right c may =
    let p = may_parts c.args.files.now c.args.size c.args.word may in
    sym (not_stored_by c.args.files.now c.args.size c.args.word (sym c.storage.ensures ∙ c.in-None.is)) ∙ p.1

pub returns-in-Some-clause-keeps : goal.returns-in-Some-clause-keeps
returns-in-Some-clause-keeps c =
    may_both c.args.files.now c.args.size c.args.word (omega (arith, c.if-size-gt-MOST_STREAM.false))
    (stored_by_is c.args.files.now c.args.size c.args.word c.in-Some.addr (sym c.in-Some.is ∙ c.storage.ensures)).1

pub returns-in-Some-clause-stored : goal.returns-in-Some-clause-stored
returns-in-Some-clause-stored c =
    let other = c.if-size-eq0.false in
    let by = stored_by_is c.args.files.now c.args.size c.args.word c.in-Some.addr (sym c.in-Some.is ∙ c.storage.ensures) in
    record {
      size_is = refl;
      word_is = by.0;
      none = λ e. absurd (some_none e);
      some = λ a e none. stored_some c.args.files.now c.args.size c.args.word (omega (arith, other)) by.1 (sym by.0 ∙ some_inj e ∙ none);
    }
  where
    some_none : {a : ℕ} → Some a ≡ None → ⊥
    some_none e = cc
