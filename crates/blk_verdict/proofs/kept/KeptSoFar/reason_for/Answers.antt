use Rattle.std.proofs.Common.{◌≡◌, ◌∙◌, ◌++◌, ◌||◌, List, ℕ, Bool, false, sym, ap}
use Rattle.std.proofs.lemmas.Bool.{or_parts}
use Rattle.std.proofs.lemmas.List.Concat.{flat_map-append}
use Rattle.spec_image.specs.Image.{Image}
use Rattle.spec_image.specs.Told.{Told}
use Rattle.spec_format.specs.Claims.{claims_of, claims_of_all, overlap, repeats}
use Rattle.blk_addr.proofs.ClaimLemmas.{repeats-append}
use Rattle.blk_io.proofs.Carried.{carried, if_damaged_weaker}
use Rattle.blk_disk.specs.Tables.{Agrees}
use Rattle.blk_lru.proofs.Conditions.{told_now, told_stays}
use Rattle.blk_verdict.specs.Keyed.{HasItsKey}
use Rattle.blk_verdict.specs.Kept.{HaveKeys, addresses_of, addresses_of_all}
use Rattle.blk_verdict.proofs.AdmitFacts.{answer_claimed, answer_name, answer_none, answer_parent}
use Rattle.blk_verdict.proofs.Searched.{all_others}
use Rattle.blk_verdict.proofs.ShownClaims.{collides_is}
use Rattle.blk_verdict.proofs.kept.KeptSoFar.reason_for.Goals as goal

pub returns-then-collides-clause-answer : goal.returns-then-collides-clause-answer
returns-then-collides-clause-answer g c image there agrees kept given are known named =
    answer_claimed kept given (sym (collides_is image kept given c.args.self.now.kept.items c.args.loaded.now are known) ∙ sym (c.collides.ensures c.requires.order.indexed.claims) ∙ c.if-collides.true)

pub returns-then-branch-clause-answer : goal.returns-then-branch-clause-answer
returns-then-branch-clause-answer g c image there agrees kept given are known named =
    answer_name kept given (sym (collides_is image kept given c.args.self.now.kept.items c.args.loaded.now are known) ∙ sym (c.collides.ensures c.requires.order.indexed.claims) ∙ c.if-collides.false)
    (sym (c.in_ok-shares_key.ensures.shares image there agrees kept given are known named) ∙ c.if-branch.true)

pub returns-in_err-is_orphan-clause-untold : goal.returns-in_err-is_orphan-clause-untold
returns-in_err-is_orphan-clause-untold g c agrees keys =
    carried c.is_orphan.result c.from_residual-in_err-is_orphan.result c.in_err-is_orphan.field-0.0 _ c.in_err-is_orphan.was c.from_residual-in_err-is_orphan.ensures.1
    (if_damaged_weaker c.is_orphan.result _ _ (λ damage none. ap (λ (t : Told). t.files) (sym c.in_ok-shares_key.ensures.reads.stays) ∙ none)
    (c.is_orphan.ensures.untold (told_stays (Agrees c.args.files.now) c.in_ok-shares_key.ensures.reads.stays agrees) (told_stays (λ (image : Image). HaveKeys image c.args.self.now.kept.items) c.in_ok-shares_key.ensures.reads.stays
    (λ image there. all_others (HasItsKey image) c.args.loaded.now c.args.self.now.kept.items (keys image there)))))

pub returns-then-branch-2-clause-answer : goal.returns-then-branch-2-clause-answer
returns-then-branch-2-clause-answer g c image there agrees kept given are known named =
    answer_parent kept given (sym (collides_is image kept given c.args.self.now.kept.items c.args.loaded.now are known) ∙ sym (c.collides.ensures c.requires.order.indexed.claims) ∙ c.if-collides.false)
    (sym (c.in_ok-shares_key.ensures.shares image there agrees kept given are known named) ∙ c.if-branch.false)
    (sym (c.in_ok-is_orphan.ensures.orphan image (told_now image c.in_ok-shares_key.ensures.reads.stays there) agrees kept given are known named) ∙ c.if-branch-2.true)

pub returns-clause-answer : goal.returns-clause-answer
returns-clause-answer g c image there agrees kept given are known named =
    answer_none kept given (sym (collides_is image kept given c.args.self.now.kept.items c.args.loaded.now are known) ∙ sym (c.collides.ensures c.requires.order.indexed.claims) ∙ c.if-collides.false)
    (sym (c.in_ok-shares_key.ensures.shares image there agrees kept given are known named) ∙ c.if-branch.false)
    (sym (c.in_ok-is_orphan.ensures.orphan image (told_now image c.in_ok-shares_key.ensures.reads.stays there) agrees kept given are known named) ∙ c.if-branch-2.false)

-- two lists of addresses that repeat nothing and share nothing
apart_by : (owned words : List ℕ) (t : Bool) → repeats (claims_of_all owned) ≡ false → t ≡ (repeats (claims_of_all words) || overlap (claims_of_all owned) (claims_of_all words)) → t ≡ false → repeats (claims_of_all (owned ++ words)) ≡ false
unfolding overlap
apart_by owned words t once is none =
    let parts = or_parts (repeats (claims_of_all words)) (overlap (claims_of_all owned) (claims_of_all words)) (sym is ∙ none) in
    ap repeats (flat_map-append claims_of owned words) ∙ repeats-append (claims_of_all owned) (claims_of_all words) once parts.0 parts.1

pub returns-clause-apart : goal.returns-clause-apart
returns-clause-apart g c same =
    apart_by (addresses_of_all c.args.self.now.kept.items) (addresses_of c.args.loaded.now) c.collides.result c.requires.order.indexed.claims.once (c.collides.ensures c.requires.order.indexed.claims) c.if-collides.false
