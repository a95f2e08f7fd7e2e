use Rattle.std.proofs.Common.{IsTrue, ◌≡◌, ◌-◌, ◌<◌, Bool, ◌||◌, List, ℕ, [], ◌∷◌, drop, length, take, refl, sym, ◌∙◌, ap, arith}
use Rattle.std.specs.List.{list_any}
use Rattle.spec_format.specs.Address.{is_address}
use Rattle.spec_format.specs.Claims.{claims_of, claims_of_all, overlap, repeats}
use Rattle.blk_addr.proofs.MeetLemmas.{first_shares, nothing_repeats, one_of, split_first}
use Rattle.blk_addr.proofs.meeting.any_meet.Goals as goal

-- what is looked at at the first of some addresses
step : (addrs left : List ℕ) (w : ℕ) (t : Bool) → IsTrue (is_address w) → left ≡ w ∷ take (length left - 1) (drop 1 left) → repeats (claims_of_all addrs) ≡ repeats (claims_of_all left)
    → t ≡ list_any (λ other. overlap (claims_of other) (claims_of w)) (take (length left - 1) (drop 1 left))
    → repeats (claims_of_all addrs) ≡ (t || repeats (claims_of_all (take (length left - 1) (drop 1 left))))
step addrs left w t address split so_far is =
    so_far ∙ ap (λ (l : List ℕ). repeats (claims_of_all l)) split ∙ first_shares w (take (length left - 1) (drop 1 left)) address
    ∙ ap (λ (b : Bool). b || repeats (claims_of_all (take (length left - 1) (drop 1 left)))) (sym (is ∙ one_of w (take (length left - 1) (drop 1 left))))

none_left : (left : List ℕ) → length left < 1 → left ≡ []
none_left [] few = refl
none_left (w ∷ left) few = absurd (omega (arith, few))

pub returns-then-meets_one_of : goal.returns-then-meets_one_of
returns-then-meets_one_of c =
    sym (step c.args.addrs.now c.loop-left.left.now c.addr-item.result c.meets_one_of.result c.meets_one_of.ensures.address (split_first c.loop-left.left.now c.addr-item.result c.in-len1-up.len_at_least c.addr-item.is) c.loop-left.invariant c.meets_one_of.ensures.test
    ∙ ap (λ (b : Bool). b || repeats (claims_of_all (take (length c.loop-left.left.now - 1) (drop 1 c.loop-left.left.now)))) c.if-meets_one_of.true)

pub loop-left-preserved : goal.loop-left-preserved
loop-left-preserved c =
    step c.args.addrs.now c.loop-left.left.now c.addr-item.result c.meets_one_of.result c.meets_one_of.ensures.address (split_first c.loop-left.left.now c.addr-item.result c.in-len1-up.len_at_least c.addr-item.is) c.loop-left.invariant c.meets_one_of.ensures.test
    ∙ ap (λ (b : Bool). b || repeats (claims_of_all (take (length c.loop-left.left.now - 1) (drop 1 c.loop-left.left.now)))) c.if-meets_one_of.false

pub returns : goal.returns
returns c = sym (c.loop-left.invariant ∙ nothing_repeats c.loop-left.left.now (none_left c.loop-left.left.now c.in_default.len_below))
