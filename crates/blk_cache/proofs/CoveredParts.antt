-- The parts in range of a command: none, and what is pinned where some are.
use Rattle.std.proofs.Common.{◌≡◌, ℕ, ◌+◌, Bool, true, false, ◌||◌, List, [], ◌∷◌, refl, sym, subst, arith}
use Rattle.std.specs.List.{list_any}
use Rattle.spec_image.specs.Told.{Told}
use Rattle.blk_model.specs.Items.{Item, main, part, same_item}
use Rattle.blk_model.specs.Room.{is_pinned}
use Rattle.blk_model.specs.State.{State}
use Rattle.law_state.specs.Commands.{ForKept}
use Rattle.blk_evict.specs.RoomLaws.{AreOfNamed}
use Rattle.blk_cache.specs.declared.cache.Cache.{Cache}
use Rattle.blk_cache.specs.declared.covered.Covered.{Covered}
use Rattle.blk_cache.specs.CacheKeeping.{HoldsState}
use Rattle.blk_cache.specs.Covering.{AreCovered, ForCovered, NoPartsAreCovered, none_in_range}

none-more : (n : ℕ) → n ≡ n + 0
none-more n = omega arith

pub none-covered : NoPartsAreCovered
none-covered state layout = record { lie = record { of_named = tt; nodes = λ item listed. refl }; bytes = none-more _; items = none-more _ }

-- what holds whatever parts are in range holds where none is
pub for-none : (cache : Cache) (parts : Covered) (told : Told) (P : State → List Item → Type 0) → parts ≡ none_in_range → ForCovered cache parts told P → ForKept (HoldsState cache) told (λ state. P state [])
for-none cache parts told P is holds image there state k = holds image there state k [] (subst (AreCovered state k.layout []) (sym is) (none-covered state k.layout))

-- a main item is none of the parts in range
main-uncovered : (state : State) (key : List ℕ) (covered : List Item) → AreOfNamed state covered → list_any (same_item (main key)) covered ≡ false
main-uncovered state key [] named = refl
main-uncovered state key (main other ∷ covered) named = absurd named.0
main-uncovered state key (part other n ∷ covered) named = main-uncovered state key covered named.1

or-none : (a b : Bool) → b ≡ false → a ≡ (a || b)
or-none true b e = refl
or-none false b e = sym e

-- an item is pinned where the handles alone pin it, or where it is a part in range
pub pinned-both : (state : State) (item : Item) (covered : List Item) → AreOfNamed state covered → is_pinned state covered item ≡ (is_pinned state [] item || list_any (same_item item) covered)
pinned-both state (main key) covered named = or-none (is_pinned state [] (main key)) (list_any (same_item (main key)) covered) (main-uncovered state key covered named)
pinned-both state (part key n) covered named = refl
