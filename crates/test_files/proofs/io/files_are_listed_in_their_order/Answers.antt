use Rattle.std.proofs.Common.{◌≡◌, Option, None, Some, sym, ◌∙◌}
use Rattle.std.specs.Option.{ForSome}
use Rattle.test_files.proofs.io.files_are_listed_in_their_order.Goals as goal

for_none : {A : Type 0} (P : A → Type 0) (o : Option A) → o ≡ None → ForSome o P
for_none P o none x there = absurd (clash (sym none ∙ there))
  where
    clash : None ≡ Some x → ⊥
    clash e = cc

pub add_file-requires : goal.add_file-requires
add_file-requires g c = for_none _ _ c.adding.invariant
