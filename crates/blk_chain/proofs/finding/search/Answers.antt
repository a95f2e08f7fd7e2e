use Rattle.std.proofs.Common.{◌≡◌, inr, refl, ◌+◌, ◌-◌, ℕ, [], Option, None, Some, true, sym, ◌∙◌, ap, subst, arith}
use Rattle.std.specs.Prelude.{IfSome, IsTrue}
use Rattle.std.specs.Option.{ForSome}
use Rattle.spec_image.specs.Told.{Told}
use Rattle.spec_format.specs.Address.{kind_of}
use Rattle.spec_folder.specs.Chains.{bucket_of_hash}
use Rattle.blk_disk.specs.Tables.{is_record_among, Agrees, stands_among}
use Rattle.blk_io.specs.Faults.{IfDamaged}
use Rattle.blk_io.proofs.Carried.{carried, if_damaged_weaker, untold_where}
use Rattle.blk_entry.proofs.KeyPlaces.{err_damaged}
use Rattle.blk_chain.specs.declared.found.Found.{Found}
use Rattle.blk_chain.specs.declared.finding.Step.{Step}
use Rattle.blk_chain.specs.Finding.{HasPassed, IsChainDamage, IsFollowed, IsTooLong, IsOfLink, IsSought, IsSearchStep, IsStepAt, StandsBefore}
use Rattle.spec_folder.specs.Searches.{bucket_of_key}
use Rattle.blk_chain.specs.Unlinking.{next_record}
use Rattle.blk_chain.proofs.Heads.{names-parts}
use Rattle.blk_chain.proofs.Searches.{found-linked, outcome-answer, passed-on, way-keyed, way-left, way-passed}
use Rattle.blk_chain.proofs.finding.search.Given as given
use Rattle.blk_chain.proofs.finding.search.Goals as goal

pub loop-link-init : goal.loop-link-init
loop-link-init g c = record {
  told = refl;
  later = omega arith;
  kind_before = subst (λ (o : Option ℕ). IfSome o (λ w. kind_of w ≡ 2)) (sym c.requires.front) tt;
  stands_before = subst (λ (o : Option ℕ). IfSome o (λ w. IsTrue (stands_among c.args.files.now w))) (sym c.requires.front) tt;
  named_before = subst (λ (o : Option ℕ). StandsBefore c.args.files.now o) (sym c.requires.front) tt;
  begun = λ none. refl;
  most = omega arith;
  passed = λ image there. record { passed = []; many = omega arith; last = sym c.requires.front; walk = c.requires.word image there };
}

pub returns-then-left-eq0-clause-untold : goal.returns-then-left-eq0-clause-untold
returns-then-left-eq0-clause-untold g c agrees can =
    err_damaged (Option Found) c.damage_of.result c.damage_of.ensures.damage (λ _. (g.F.Folder.told c.args.folder.now).files ≡ None) c.damage_of.ensures.is
    (untold_where (g.F.Folder.told c.args.folder.now).files
    (λ image there.
    let none : 131073 - (131073 - c.loop-link.left) ≡ 0 = omega (arith, c.if-left-eq0.true) in
    way-left image c.args.key.now c.args.sought.now.child c.loop-link.link.word c.loop-link.link.before (131073 - (131073 - c.loop-link.left))
    (way-passed c.args.files.now image c.args.key.now c.args.sought.now.child (can image there) c.loop-link.link.word c.loop-link.link.before (131073 - c.loop-link.left) (c.loop-link.invariant.passed image there)) none))

-- a chain that is too long
long-here : (g : given.Over) (c : goal.After-damage_of g) → IsTooLong c.args.files.now (g.F.Folder.told c.args.folder.now) c.args.key.now c.args.sought.now.child c.damage_of.ensures.damage
long-here g c = by c.loop-link.link.before refl
  where
    of-key : IsOfLink (bucket_of_key c.args.key.now) c.loop-link.link.before c.damage_of.ensures.damage
    of-key = subst (λ (h : ℕ). IsOfLink (bucket_of_hash h) c.loop-link.link.before c.damage_of.ensures.damage) c.requires.hash c.damage_of.ensures.link

    all : 131073 - c.loop-link.left ≡ 131073
    all = omega (arith, c.if-left-eq0.true)

    by : (o : Option ℕ) → c.loop-link.link.before ≡ o → IsTooLong c.args.files.now (g.F.Folder.told c.args.folder.now) c.args.key.now c.args.sought.now.child c.damage_of.ensures.damage
    by None e = absurd (let begun = c.loop-link.invariant.begun e in omega (arith, begun, c.if-left-eq0.true))
    by (Some last) e = record {
      last = last;
      stands = subst (λ (o : Option ℕ). StandsBefore c.args.files.now o) e c.loop-link.invariant.named_before;
      link = subst (λ (o : Option ℕ). IsOfLink (bucket_of_key c.args.key.now) o c.damage_of.ensures.damage) e of-key;
      some = λ z. c.loop-link-test.true (sym c.damage_of.ensures.of_word ∙ z);
      passed = λ image there.
          subst (λ (w : ℕ). HasPassed c.args.files.now c.args.key.now c.args.sought.now.child w (Some last) 131073 image) (sym c.damage_of.ensures.of_word)
          (subst (λ (o : Option ℕ). HasPassed c.args.files.now c.args.key.now c.args.sought.now.child c.loop-link.link.word o 131073 image) e
          (subst (λ (n : ℕ). HasPassed c.args.files.now c.args.key.now c.args.sought.now.child c.loop-link.link.word c.loop-link.link.before n image) all (c.loop-link.invariant.passed image there)));
    }

pub returns-then-left-eq0-clause-damaged : goal.returns-then-left-eq0-clause-damaged
returns-then-left-eq0-clause-damaged g c =
    err_damaged (Option Found) c.damage_of.result c.damage_of.ensures.damage (IsChainDamage c.args.files.now (g.F.Folder.told c.args.folder.now) c.args.key.now c.args.sought.now.child) c.damage_of.ensures.is
    (inr (inr (long-here g c)))

pub returns-in_err-entry-clause-damaged : goal.returns-in_err-entry-clause-damaged
returns-in_err-entry-clause-damaged g c =
    carried c.look_at.result c.from_residual.result c.in_err-entry.field-0.0 (IsChainDamage c.args.files.now (g.F.Folder.told c.args.folder.now) c.args.key.now c.args.sought.now.child) c.in_err-entry.was c.from_residual.ensures.1
    (if_damaged_weaker c.look_at.result _ _ (λ damage wrong. subst (λ (t : Told). IsChainDamage c.args.files.now t c.args.key.now c.args.sought.now.child damage) c.loop-link.invariant.told wrong) c.look_at.ensures.damaged)

pub returns-in_err-entry-clause-untold : goal.returns-in_err-entry-clause-untold
returns-in_err-entry-clause-untold g c agrees can =
    subst (λ (t : Told). IfDamaged c.from_residual.result (λ _. t.files ≡ None)) c.loop-link.invariant.told
    (carried c.look_at.result c.from_residual.result c.in_err-entry.field-0.0 (λ _. (g.F.Folder.told c.loop-link.folder).files ≡ None) c.in_err-entry.was c.from_residual.ensures.1
    (c.look_at.ensures.untold (subst (λ (t : Told). ForSome t.files (Agrees c.args.files.now)) (sym c.loop-link.invariant.told) agrees)
    (λ image now.
    let there : (g.F.Folder.told c.args.folder.now).files ≡ Some image = ap (λ (t : Told). t.files) (sym c.loop-link.invariant.told) ∙ now in
    let way = way-passed c.args.files.now image c.args.key.now c.args.sought.now.child (can image there) c.loop-link.link.word c.loop-link.link.before (131073 - c.loop-link.left) (c.loop-link.invariant.passed image there) in
    way-keyed image c.args.key.now c.args.sought.now.child c.loop-link.link.word c.loop-link.link.before (131073 - (131073 - c.loop-link.left)) way c.loop-link-test.true (can image there))))

-- the record that is found
stands-here : (g : given.Over) (c : goal.In-Here g) → (c.in-Here.entry ≡ c.loop-link.link.word) × (is_record_among c.args.files.now c.loop-link.link.word ≡ true)
stands-here g c = subst (λ (s : Step). IsStepAt c.args.files.now c.loop-link.link.word s) c.in-Here.is c.in_ok-entry.ensures.stands

pub returns-in-Here-clause-outcome : goal.returns-in-Here-clause-outcome
returns-in-Here-clause-outcome g c image there =
    let now : (g.F.Folder.told c.loop-link.folder).files ≡ Some image = ap (λ (t : Told). t.files) c.loop-link.invariant.told ∙ there in
    let step : IsFollowed c.args.files.now c.loop-link.link.word image × IsSought c.args.key.now c.args.sought.now.child c.loop-link.link.word image =
    subst (λ (s : Step). IsSearchStep c.args.files.now c.args.key.now c.args.sought.now.child c.loop-link.link.word s image) c.in-Here.is (c.in_ok-entry.ensures.step image now) in
    let is = sym (stands-here g c).0 in
    record {
      count = 131073 - c.loop-link.left;
      passed = subst (λ (w : ℕ). HasPassed c.args.files.now c.args.key.now c.args.sought.now.child w c.loop-link.link.before (131073 - c.loop-link.left) image) is (c.loop-link.invariant.passed image there);
      followed = subst (λ (w : ℕ). IsFollowed c.args.files.now w image) is step.0;
      sought = subst (λ (w : ℕ). IsSought c.args.key.now c.args.sought.now.child w image) is step.1;
    }

pub returns-in-Here-clause-found : goal.returns-in-Here-clause-found
returns-in-Here-clause-found g c image there can = outcome-answer c.args.files.now image c.args.key.now c.args.sought.now.child can (Some (record { entry = c.in-Here.entry; before = c.loop-link.link.before })) (returns-in-Here-clause-outcome g c image there)

pub returns-in-Here-clause-names : goal.returns-in-Here-clause-names
returns-in-Here-clause-names g c = subst (λ (w : ℕ). IsTrue (is_record_among c.args.files.now w)) (sym (stands-here g c).0) (stands-here g c).1

pub returns-in-Here-clause-kind : goal.returns-in-Here-clause-kind
returns-in-Here-clause-kind g c = subst (λ (w : ℕ). kind_of w ≡ 2) (sym (stands-here g c).0) (names-parts c.args.files.now c.loop-link.link.word (stands-here g c).1).1.0

pub returns-in-Here-clause-stands : goal.returns-in-Here-clause-stands
returns-in-Here-clause-stands g c = subst (λ (w : ℕ). IsTrue (stands_among c.args.files.now w)) (sym (stands-here g c).0) (names-parts c.args.files.now c.loop-link.link.word (stands-here g c).1).1.1

pub returns-in-Here-clause-linked : goal.returns-in-Here-clause-linked
returns-in-Here-clause-linked g c image there can = found-linked image c.args.key.now c.args.sought.now.child c.in-Here.entry c.loop-link.link.before can (returns-in-Here-clause-found g c image there can)

some-none : {w : ℕ} → Some w ≡ None → ⊥
some-none e = cc

pub loop-link-preserved : goal.loop-link-preserved
loop-link-preserved g c =
    let stands : (c.in-On.next.before ≡ Some c.loop-link.link.word) × (is_record_among c.args.files.now c.loop-link.link.word ≡ true) = subst (λ (s : Step). IsStepAt c.args.files.now c.loop-link.link.word s) c.in-On.is c.in_ok-entry.ensures.stands in
    let parts = names-parts c.args.files.now c.loop-link.link.word stands.1 in
    let some = c.if-left-eq0.false in
    let most = c.loop-link.invariant.most in
    record {
      told = c.in_ok-entry.ensures.reads.stays ∙ c.loop-link.invariant.told;
      later = let a = c.in_ok-entry.ensures.reads.later in let b = c.loop-link.invariant.later in omega (arith, a, b);
      kind_before = subst (λ (o : Option ℕ). IfSome o (λ w. kind_of w ≡ 2)) (sym stands.0) parts.1.0;
      stands_before = subst (λ (o : Option ℕ). IfSome o (λ w. IsTrue (stands_among c.args.files.now w))) (sym stands.0) parts.1.1;
      named_before = subst (λ (o : Option ℕ). StandsBefore c.args.files.now o) (sym stands.0) stands.1;
      begun = λ none. absurd (some-none (sym stands.0 ∙ none));
      most = omega (arith, most);
      passed = λ image there.
          let now : (g.F.Folder.told c.loop-link.folder).files ≡ Some image = ap (λ (t : Told). t.files) c.loop-link.invariant.told ∙ there in
          let step : IsFollowed c.args.files.now c.loop-link.link.word image × ((c.in-On.next.word ≡ next_record image c.loop-link.link.word) × (IsSought c.args.key.now c.args.sought.now.child c.loop-link.link.word image → ⊥)) =
          subst (λ (s : Step). IsSearchStep c.args.files.now c.args.key.now c.args.sought.now.child c.loop-link.link.word s image) c.in-On.is (c.in_ok-entry.ensures.step image now) in
          let one : 131073 - (c.loop-link.left - 1) ≡ 131073 - c.loop-link.left + 1 = omega (arith, some, most) in
          subst (λ (o : Option ℕ). HasPassed c.args.files.now c.args.key.now c.args.sought.now.child c.in-On.next.word o (131073 - (c.loop-link.left - 1)) image) (sym stands.0)
          (subst (λ (w : ℕ). HasPassed c.args.files.now c.args.key.now c.args.sought.now.child w (Some c.loop-link.link.word) (131073 - (c.loop-link.left - 1)) image) (sym step.1.0)
          (passed-on c.args.files.now c.args.key.now c.args.sought.now.child c.loop-link.link.word c.loop-link.link.before (131073 - c.loop-link.left) (131073 - (c.loop-link.left - 1)) image (c.loop-link.invariant.passed image there) step.0 step.1.1 one));
    }

pub returns-clause-outcome : goal.returns-clause-outcome
returns-clause-outcome g c image there = record {
  before = c.loop-link.link.before;
  count = 131073 - c.loop-link.left;
  passed = subst (λ (w : ℕ). HasPassed c.args.files.now c.args.key.now c.args.sought.now.child w c.loop-link.link.before (131073 - c.loop-link.left) image) c.loop-link-test.false (c.loop-link.invariant.passed image there);
}

pub returns-clause-found : goal.returns-clause-found
returns-clause-found g c image there can = outcome-answer c.args.files.now image c.args.key.now c.args.sought.now.child can None (returns-clause-outcome g c image there)
