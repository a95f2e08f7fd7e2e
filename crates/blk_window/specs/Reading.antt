-- A read of bytes of one page.
use Rattle.std.specs.Prelude.{◌≡◌, ℕ, ◌-◌, ◌%◌, List, length, min}
use Rattle.spec_image.specs.Image.{File}
use Rattle.blk_window.specs.Held.{Page, IsPageUsed, pages_used, page_at, page_size}

-- a read of at most `most` bytes of one page, from `place` of its file on, gave n, and the page was accessed
pub record ReadsPage (places : ℕ) (file : File) (place most n : ℕ) (old new : List Page) : Type 0 where
  pub page : Page
  pub is : IsPageUsed file (page_at place) old page
  pub front : new ≡ pages_used places page old
  pub many : n ≡ min most (length page.bytes - place % page_size)
