use Rattle.std.proofs.Common.{◌≡◌, Bool, true, false, if◌then◌else◌, ℕ, List, [], ◌++◌, refl, sym, ◌∙◌, ap}
use Rattle.std.specs.List.{IsDistinct}
use Rattle.spec_format.specs.BlockFiles.{is_among}
use Rattle.std.specs.Prelude.{◌==◌}
use Rattle.blk_disk.specs.Tables.{all_files, files_of}
use Rattle.blk_disk.proofs.tables.BlockFiles.none.Goals as goal

nothing_else : (a b c d : List ℕ) → a ≡ [] → b ≡ [] → c ≡ [] → d ≡ [] → (p q r s : Bool) → (if p then a else if q then b else if r then c else if s then d else []) ≡ []
nothing_else a b c d e1 e2 e3 e4 true q r s = e1
nothing_else a b c d e1 e2 e3 e4 false true r s = e2
nothing_else a b c d e1 e2 e3 e4 false false true s = e3
nothing_else a b c d e1 e2 e3 e4 false false false true = e4
nothing_else a b c d e1 e2 e3 e4 false false false false = refl

nobody : {A : Type 0} → false ≡ true → A
nobody e = absurd cc

pub invariant_of-result-clause-once : goal.invariant_of-result-clause-once
unfolding IsDistinct
invariant_of-result-clause-once c = rw (c.new.ensures, c.new-2.ensures, c.new-3.ensures, c.new-4.ensures) tt

pub invariant_of-result-clause-counts : goal.invariant_of-result-clause-counts
invariant_of-result-clause-counts c n among =
    nobody (sym (ap (λ (l : List ℕ). is_among l n) (joined c.new.ensures c.new-2.ensures c.new-3.ensures c.new-4.ensures)) ∙ among)
  where
    joined : {a b c d : List ℕ} → a ≡ [] → b ≡ [] → c ≡ [] → d ≡ [] → a ++ b ++ c ++ d ≡ []
    joined e1 e2 e3 e4 = rw (e1, e2, e3, e4) refl

pub returns : goal.returns
unfolding all_files files_of
returns c = record {
  all = rw (c.new.ensures, c.new-2.ensures, c.new-3.ensures, c.new-4.ensures) refl;
  each = λ kind. nothing_else _ _ _ _ c.new.ensures c.new-2.ensures c.new-3.ensures c.new-4.ensures (kind == 1) (kind == 2) (kind == 3) (kind == 4);
}
