use Rattle.std.proofs.Common.{◌≡◌, true, false, sym, ◌∙◌, refl, arith, subst, ℕ}
use Rattle.std.proofs.lemmas.Bool.Decides.{nat_tests}
use Rattle.blk_entry.specs.Keys.{is_short, key_address, bytes_before, IsInside}
use Rattle.blk_entry.proofs.KeyPlaces.{may_have_parts, short_inside, long_inside, held_is}
use Rattle.blk_entry.proofs.keys.key_place.Goals as goal

pub returns-then-head-le-LONGEST_SHORT_KEY-clause-place : goal.returns-then-head-le-LONGEST_SHORT_KEY-clause-place
unfolding key_address bytes_before
returns-then-head-le-LONGEST_SHORT_KEY-clause-place c =
    let short : is_short c.args.head.key_len ≡ true = grind (arith, nat_tests, c.if-head-le-LONGEST_SHORT_KEY.true) in
    record { addr = rw short refl; skip = rw short refl; len = refl }

pub returns-then-head-le-LONGEST_SHORT_KEY-clause-inside : goal.returns-then-head-le-LONGEST_SHORT_KEY-clause-inside
returns-then-head-le-LONGEST_SHORT_KEY-clause-inside c = short_inside c.args.files.now c.args.entry c.args.head.key_len c.requires.kind c.requires.stands (sym c.may_have.ensures ∙ c.if-not-may_have.false) c.if-head-le-LONGEST_SHORT_KEY.true

pub long_key-requires : goal.long_key-requires
long_key-requires c = let parts = may_have_parts c.args.entry c.args.head.key_len (sym c.may_have.ensures ∙ c.if-not-may_have.false) in parts.1

pub returns-in-Some-clause-place : goal.returns-in-Some-clause-place
unfolding key_address bytes_before
returns-in-Some-clause-place c =
    let long : is_short c.args.head.key_len ≡ false = grind (arith, nat_tests, c.if-head-le-LONGEST_SHORT_KEY.false) in
    let h = held_is c.args.files.now c.args.head.key_len c.args.head.long_key c.in-Some.addr (sym c.in-Some.is ∙ c.long_key.ensures) in
    record { addr = rw long h.0; skip = rw long refl; len = refl }

pub returns-in-Some-clause-inside : goal.returns-in-Some-clause-inside
returns-in-Some-clause-inside c =
    let parts = may_have_parts c.args.entry c.args.head.key_len (sym c.may_have.ensures ∙ c.if-not-may_have.false) in
    let h = held_is c.args.files.now c.args.head.key_len c.args.head.long_key c.in-Some.addr (sym c.in-Some.is ∙ c.long_key.ensures) in
    subst (λ (w : ℕ). IsInside c.args.files.now w 0 c.args.head.key_len) (sym h.0) (long_inside c.args.files.now c.args.head.long_key c.args.head.key_len parts.1 h.1)
