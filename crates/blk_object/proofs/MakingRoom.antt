-- A state that has fewer items than a cache may have leaves space: in its list, in the maps, and among the external files.
use Rattle.std.proofs.Common.{◌≡◌, ℕ, suc, ◌+◌, ◌*◌, ◌<◌, ◌≤◌, List, [], ◌∷◌, length, Option, None, Some, refl, ap, arith, true}
use Rattle.std.specs.List.{cons_option, filter_map}
use Rattle.std.proofs.lemmas.Bool.{or_left, or_right}
use Rattle.spec_image.specs.Image.{Image}
use Rattle.blk_model.specs.Items.{Item, Row, same_item}
use Rattle.blk_model.specs.Holding.{row_of, rows}
use Rattle.blk_model.specs.Room.{items}
use Rattle.blk_model.specs.State.{State}
use Rattle.blk_model.proofs.Same.{same_item_self}
use Rattle.blk_model.proofs.Sums.{totals_are_sums}
use Rattle.spec_format.specs.Address.{is_block_kind}
use Rattle.spec_folder.specs.Layout.{Layout, is_in}
use Rattle.blk_disk.specs.declared.tables.BlockFiles.{BlockFiles}
use Rattle.blk_disk.specs.Tables.{Agrees}
use Rattle.blk_alloc.specs.Allocating.{AreCounted}
use Rattle.blk_external.specs.Numbers.{HasFreeNumber}
use Rattle.law_state.specs.Keeping.{KeepsUncounted}
use Rattle.law_state.proofs.Bounds.{leave-room}
use Rattle.blk_object.proofs.KeptAllocating.{files-counted}
use Rattle.blk_object.proofs.KeptFreeNumbers.{kept-have-free}
use Rattle.blk_object.specs.Making.{LeavesRoom}

-- ---- the list is no longer than the items

all-some : (f : Item → Option Row) (xs : List Item) → ((item : Item) → is_in xs item ≡ true → (row : Row) × (f item ≡ Some row)) → length (filter_map f xs) ≡ length xs
all-some f [] each = refl
all-some f (x ∷ xs) each =
    go (all-some f xs (λ item among. each item (or_right (same_item item x) (is_in xs item) among))) (f x) (each x (or_left (same_item x x) (is_in xs x) (same_item_self x)))
  where
    go : length (filter_map f xs) ≡ length xs → (o : Option Row) → (row : Row) × (o ≡ Some row) → length (cons_option o (filter_map f xs)) ≡ suc (length xs)
    go rest None some = absurd (let z : ◌≡◌ {A = Option Row} None (Some some.0) = some.1 in cc)
    go rest (Some row) some = ap suc rest

-- a state has a row for each item
pub rows-long : (state : State) (layout : Layout) (unlinked : List ℕ) (image : Image) → KeepsUncounted state layout unlinked image → length (rows state) ≡ length state.uses
unfolding rows
rows-long state layout unlinked image k = all-some (row_of state) state.uses (λ item among. let p = k.represents.holds.lies.laid item among in (_, p.row))

pub uses-few : (state : State) (layout : Layout) (unlinked : List ℕ) (image : Image) → KeepsUncounted state layout unlinked image → length state.uses ≤ items state
uses-few state layout unlinked image k =
    let total = (totals_are_sums state k.valid).count in
    let long : length (rows state) ≡ length state.uses = rows-long state layout unlinked image k in
    omega (arith, total, long)

-- ---- space in the maps, and a free number

pub counted-with-room : (n : ℕ) (files : BlockFiles) (kind : ℕ) (image : Image) → LeavesRoom (suc n) image → Agrees files image → is_block_kind kind ≡ true → AreCounted files kind image
counted-with-room n files kind image r agrees block =
    let few = r.few in
    let room = r.room in
    files-counted files kind image agrees block (leave-room r.state r.layout r.unlinked image kind 1 r.kept block (omega (arith, few)) (omega (arith, room)))

pub free-with-room : (n : ℕ) (image : Image) → LeavesRoom n image → HasFreeNumber image
free-with-room n image r =
    let few = r.few in
    let room = r.room in
    kept-have-free r.state r.layout r.unlinked image r.kept (bound (items r.state) (length r.unlinked) few room)
  where
    bound : (i u : ℕ) → i < 131072 → u + n ≤ 7 → 5 * i + u < 268435455
    bound i u few room = omega (arith, few, room)
