use Rattle.std.proofs.Common.{◌≡◌, ◌∙◌, ℕ, Option, false, map, sym, subst}
use Rattle.blk_verdict.specs.Kept.{is_role_sought}
use Rattle.blk_verdict.specs.declared.loading.Loaded.{Loaded}
use Rattle.blk_verdict.proofs.Searched.{HoldsBehind, StandsAt, more_behind, nothing_behind, search_begins, search_goes_on}
use Rattle.blk_verdict.proofs.kept.KeptSoFar.may_have.Goals.{else-kept-key_len-via-then-kept-key_len+else-admits, else-kept-key_len-via-else-kept-key_len}
use Rattle.blk_verdict.proofs.kept.KeptSoFar.may_have.Goals as goal

pub loop-place-init : goal.loop-place-init
loop-place-init c =
    let last = c.last-place.ensures (map (λ (k : Loaded). k.hash) c.args.self.now.kept.items) c.requires.by_hash in
    record {
      stands = search_begins c.args.self.now.kept.items c.args.hash c.last-place.result last;
      looked = nothing_behind c.args.self.now.kept.items c.args.hash (λ one. one.key_len ≡ c.args.key_len → is_role_sought c.args.sought one.role ≡ false) c.last-place.result last;
    }

pub loop-place-preserved : goal.loop-place-preserved
loop-place-preserved c =
    let here = subst (StandsAt (map (λ (k : Loaded). k.hash) c.args.self.now.kept.items) c.args.hash) c.in-Some.is c.loop-place.invariant.stands in
    let last = c.before-place.ensures (map (λ (k : Loaded). k.hash) c.args.self.now.kept.items) c.requires.by_hash here.0 in
    let other : c.in-Some-at.kept.key_len ≡ c.args.key_len → is_role_sought c.args.sought c.in-Some-at.kept.role ≡ false =
    elim c.else-kept-key_len.branch [
      | else-kept-key_len-via-then-kept-key_len+else-admits w ↦ (λ same. sym w.admits.ensures ∙ w.if-admits.false)
      | else-kept-key_len-via-else-kept-key_len w ↦ (λ same. absurd (w.if-kept-key_len.false same))
    ] in
    record {
      stands = search_goes_on c.args.self.now.kept.items c.args.hash c.in-Some.i here c.before-place.result last;
      looked = more_behind c.args.self.now.kept.items c.args.hash c.in-Some.i here (λ one. one.key_len ≡ c.args.key_len → is_role_sought c.args.sought one.role ≡ false) c.before-place.result c.in-Some-at.kept last (sym c.at.ensures ∙ c.in-Some-at.is) other
          (subst (λ (p : Option ℕ). HoldsBehind c.args.self.now.kept.items c.args.hash p (λ one. one.key_len ≡ c.args.key_len → is_role_sought c.args.sought one.role ≡ false)) c.in-Some.is c.loop-place.invariant.looked);
    }

pub returns : goal.returns
returns c none =
    let looked = subst (λ (p : Option ℕ). HoldsBehind c.args.self.now.kept.items c.args.hash p (λ one. one.key_len ≡ c.args.key_len → is_role_sought c.args.sought one.role ≡ false)) c.in_default.is c.loop-place.invariant.looked in
    λ i one at hash. looked i one tt at hash
