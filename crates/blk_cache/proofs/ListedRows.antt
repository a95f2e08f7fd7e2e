-- The rows of a state that a cache keeps: how many there are.
use Rattle.std.proofs.Common.{◌≡◌, ℕ, suc, true, List, [], ◌∷◌, length, Option, Some, None, refl, sym, ap, ◌∙◌}
use Rattle.std.specs.List.{cons_option, filter_map}
use Rattle.std.proofs.lemmas.Bool.{or_left, or_right}
use Rattle.spec_image.specs.Image.{Image, Index, byte, word}
use Rattle.blk_model.specs.Holding.{row_of, rows}
use Rattle.blk_model.specs.Items.{Item, Row, same_item}
use Rattle.blk_model.specs.Refusals.{evicted, refusals}
use Rattle.blk_model.specs.Reply.{answer_of}
use Rattle.blk_model.specs.Request.{to_list}
use Rattle.blk_model.specs.Room.{without}
use Rattle.blk_model.specs.Step.{outcome, reply, step}
use Rattle.blk_model.specs.declared.Answer.TheVariants as answer
use Rattle.blk_model.specs.State.{State}
use Rattle.blk_model.proofs.Same.{same_item_self}
use Rattle.spec_format.proofs.Counts.{its-nodes}
use Rattle.spec_folder.specs.Layout.{Layout, is_in}
use Rattle.law_state.specs.CounterLaws.{charged}
use Rattle.law_state.specs.Keeping.{Keeps}
use Rattle.blk_cache.specs.declared.cache.Cache.{Cache}
use Rattle.blk_cache.specs.CacheKeeping.{HoldsState}
use Rattle.blk_print.specs.ItemRows.{HasKeptState}
use Rattle.blk_cache.proofs.Ends.{kept-open}

no-node : {A : Type 0} {x : A} → ◌≡◌ {A = Option A} None (Some x) → ⊥
no-node e = cc

-- as many as items, where each of these has one
counted : (f : Item → Option Row) (xs : List Item) → ((item : Item) → is_in xs item ≡ true → (row : Row) × (f item ≡ Some row)) → length (filter_map f xs) ≡ length xs
counted f [] each = refl
counted f (x ∷ xs) each =
    go (counted f xs (λ item among. each item (or_right (same_item item x) (is_in xs item) among))) (f x) (each x (or_left (same_item x x) (is_in xs x) (same_item_self x)))
  where
    go : length (filter_map f xs) ≡ length xs → (o : Option Row) → (row : Row) × (o ≡ Some row) → length (cons_option o (filter_map f xs)) ≡ suc (length xs)
    go rest None some = absurd (no-node some.1)
    go rest (Some row) some = ap suc rest

pub rows-counted : (state : State) (layout : Layout) (image : Image) → Keeps state layout [] image → length (rows state) ≡ length state.uses
unfolding rows
rows-counted state layout image k = counted (row_of state) state.uses (λ item among. let p = k.entries.represents.holds.lies.laid item among in (_, p.row))

-- so the word of the index is the number of rows
pub rows-said : (state : State) (layout : Layout) (image : Image) → Keeps state layout [] image → word image Index 268 ≡ length (rows state)
rows-said state layout image k = its-nodes (byte image Index) (length state.uses) (charged state layout) k.counters ∙ sym (rows-counted state layout image k)

pub list-answer : (state : State) (moment : ℕ) → answer_of (step state moment to_list).reply ≡ answer.Listed (length (rows state))
unfolding step outcome reply refusals evicted without
list-answer state moment = refl

-- a state that a cache keeps is there
abbrev pub has-state : (cache : Cache) (state : State) (image : Image) → HoldsState cache state image → HasKeptState cache.files image
has-state cache state image k = record { state = state; layout = k.layout; kept = k.kept; is_open = kept-open cache state image k }
