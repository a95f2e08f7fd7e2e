-- What is evicted where space is made.
use Rattle.std.proofs.Common.{◌≡◌, ℕ, Bool, true, false, List, [], ◌∷◌, Option, Some, refl, sym, ap, subst, ◌∙◌}
use Rattle.std.specs.Prelude.{◌+◌, ◌-◌, ◌/◌, ◌&&◌, ◌||◌, ◌==◌, if◌then◌else◌, nat_le, reverse}
use Rattle.spec_image.specs.Image.{Image}
use Rattle.spec_image.specs.Told.{Passes, Told}
use Rattle.spec_image.proofs.Runs.{passes_none, some_inj}
use Rattle.blk_model.specs.Holding.{rest}
use Rattle.blk_model.specs.Items.{Item}
use Rattle.blk_script.specs.Reply.{evicted_text}
use Rattle.law_state.specs.Changes.{Finds}
use Rattle.blk_model.specs.Refusals.{evicted_for, is_full}
use Rattle.blk_model.specs.Room.{Group, Room, after, full, evicted_until, fits, groups_from_back, is_pinned, items, low, room, shortest, total, without}
use Rattle.blk_model.specs.State.{Bounds, State}
use Rattle.blk_model.specs.Sizes.{free_share}
use Rattle.blk_cache.specs.declared.goal.Goal.TheVariants as goal
use Rattle.blk_cache.specs.declared.cache.Cache.{Cache}
use Rattle.blk_cache.specs.CacheKeeping.{HoldsState}
use Rattle.blk_cache.specs.Evicting.{IsEvicting, is_met}
use Rattle.blk_evict.specs.RoomPrinting.{PrintsUnlessFailed}
use Rattle.blk_cache.proofs.Evictions.{none-finds}
use Rattle.blk_evict.proofs.RoomGroups.{without-none}
use Rattle.blk_evict.proofs.RoomTexts.{none-printed}
use Rattle.blk_cache.proofs.RoomPins.{room-made}

limits-left : (groups : List Group) (state : State) → (without groups state).limits ≡ state.limits
unfolding without
limits-left [] state = refl
limits-left (group ∷ groups) state = refl

-- the low watermark is the same, whatever was evicted
met-same : (bytes more : ℕ) (groups : List Group) (state : State) → is_met (goal.Room bytes more) (without groups state) ≡ fits (low state) bytes more (without groups state)
met-same bytes more groups state = ap (λ (l : Bounds). nat_le (total (without groups state) + bytes) (l.max_bytes - l.max_bytes / free_share) && nat_le (items (without groups state) + more) (without groups state).limits.max_items) (limits-left groups state)

-- so what is evicted until the goal is met is what the model evicts
pub until-met : (bytes more : ℕ) (state : State) (covered : List Item) → evicted_until (is_met (goal.Room bytes more)) state covered ≡ evicted_until (fits (low state) bytes more) state covered
unfolding evicted_until
until-met bytes more state covered = ap (λ (enough : List Group → Bool). shortest enough [] (groups_from_back (is_pinned state covered) (reverse state.uses))) (λ i groups. met-same bytes more groups state i)

-- where there is space and it is needed, this is evicted
pub wanted-goes : (state : State) (covered : List Item) (bytes more : ℕ) → is_full (room state covered bytes more) ≡ false → ((bytes == 0 && more == 0) || fits state.limits.max_bytes bytes more state) ≡ false → evicted_until (is_met (goal.Room bytes more)) state covered ≡ evicted_for (room state covered bytes more)
wanted-goes state covered bytes more passes wanted = until-met bytes more state covered ∙ sym (ap (λ (b : Bool). if b then [] else evicted_until (fits (low state) bytes more) state covered) wanted) ∙ sym (room-made state covered bytes more passes)

-- and where it isn't wanted, nothing
pub none-goes : (state : State) (covered : List Item) (bytes more : ℕ) → is_full (room state covered bytes more) ≡ false → ((bytes == 0 && more == 0) || fits state.limits.max_bytes bytes more state) ≡ true → evicted_for (room state covered bytes more) ≡ []
none-goes state covered bytes more passes wanted = room-made state covered bytes more passes ∙ ap (λ (b : Bool). if b then [] else evicted_until (fits (low state) bytes more) state covered) wanted

-- nothing is evicted where there is no space
pub full-none : (state : State) (covered : List Item) (bytes more : ℕ) → is_full (room state covered bytes more) ≡ true → evicted_for (room state covered bytes more) ≡ []
full-none state covered bytes more is = go (room state covered bytes more) is where
  go : (r : Room) → is_full r ≡ true → evicted_for r ≡ []
  go full e = refl
  go (after groups) e = absurd (no e) where
    no : false ≡ true → ⊥
    no e = cc

-- ---- where nothing is evicted

pub none-kept : (cache : Cache) (state : State) (groups : List Group) (image : Image) → groups ≡ [] → HoldsState cache state image → HoldsState cache (without groups state) image
none-kept cache state groups image none k = subst (λ (gs : List Group). HoldsState cache (without gs state) image) (sym none) (subst (λ (s : State). HoldsState cache s image) (sym (without-none state)) k)

pub none-printed-of : (groups : List Group) (failed : Bool) (w : Option (List ℕ)) → groups ≡ [] → PrintsUnlessFailed failed failed w w (evicted_text groups)
none-printed-of groups failed w none = subst (λ (gs : List Group). PrintsUnlessFailed failed failed w w (evicted_text gs)) (sym none) (none-printed failed w)

pub none-stops : (told : Told) (cache : Cache) (state : State) (groups : List Group) (from : Image) → told.files ≡ Some from → HoldsState cache state from → Passes told told (IsEvicting groups state)
none-stops told cache state groups from there k = passes_none {a = told} {b = told} (IsEvicting groups state) refl
    (λ other is. record {
      first = [];
      others = groups;
      split = refl;
      finds = subst (λ (s : State). Finds (rest s) other) (sym (without-none state)) (subst (Finds (rest state)) (some_inj (sym there ∙ is)) (none-finds cache state from k));
    })
