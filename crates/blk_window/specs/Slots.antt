-- The slots of a page cache, in the order of their last use.
use Rattle.std.specs.Prelude.{◌≡◌, ℕ, ◌-◌, Bool, true, false, nat_eq, if◌then◌else◌, List, [], ◌∷◌, length, take, drop, min, Option, is_some, slice_get}
use Rattle.std.specs.Option.{option_map_or}
use Rattle.std.specs.List.{filter_map}
use Rattle.std.specs.Map.{lookup}
use Rattle.spec_image.specs.Image.{File}
use Rattle.blk_window.specs.Held as held
use Rattle.blk_window.specs.Tags.{page_of}
use Rattle.blk_window.specs.declared.page.Page.{Page}
use Rattle.blk_window.specs.declared.tag.Tag.{Tag}

-- the page in a slot, or None where the slot is free
abbrev pub seen : Page → Option held.Page
seen page = page_of page.tag page.bytes.items

-- the slot has the page of this file with this number
abbrev pub shows : File → ℕ → Page → Bool
shows file number page = option_map_or (held.is_page file number) (seen page) false

-- the pages in these slots, in order
abbrev pub held_in : List (ℕ × Page) → List held.Page
held_in slots = filter_map (λ slot. seen slot.1) slots

-- the slot with this number exists and passes a test
abbrev pub does_pass : (Page → Bool) → ℕ → List (ℕ × Page) → Bool
does_pass test slot slots = option_map_or test (lookup (nat_eq slot) slots) false

-- each test of the tag with a number answers as one of the slot with that number does
abbrev pub AreTags : List Tag → List (ℕ × Page) → Type 0
AreTags tags slots = (test : Tag → Bool) (slot : ℕ) → option_map_or test (slice_get tags slot) false ≡ does_pass (λ page. test page.tag) slot slots

-- no two slots have the same page
abbrev pub HoldsOnce : List (ℕ × Page) → Type 0
HoldsOnce slots = (file : File) (number one other : ℕ) → does_pass (shows file number) one slots ≡ true → does_pass (shows file number) other slots ≡ true → one ≡ other

-- the number of the slot for a new page: the first free one, or else the last of all (and `last` where there are no slots)
abbrev pub giving_way : ℕ → List (ℕ × Page) → ℕ
giving_way last [] = last
giving_way last (slot ∷ slots) = if is_some (seen slot.1) then giving_way slot.0 slots else slot.0

-- n bytes of the page from `from` on, as many as there are and as fit, are at the start of the new buffer, whose rest is unchanged
pub record Copies (page : held.Page) (from : ℕ) (old new : List ℕ) (n : ℕ) : Type 0 where
  pub many : n ≡ min (length old) (length page.bytes - from)
  pub front : take n new ≡ take n (drop from page.bytes)
  pub rest : drop n new ≡ drop n old
