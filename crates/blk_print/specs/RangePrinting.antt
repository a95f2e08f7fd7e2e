-- The printing of bytes of a stream.
use Rattle.std.specs.Prelude.{◌≡◌, ℕ, List, length, ◌++◌}
use Rattle.std.specs.declared.option.Option.TheVariants.{Some}
use Rattle.spec_image.specs.Image.{Image}
use Rattle.blk_model.specs.Bytes.{bytes_from}
use Rattle.spec_folder.specs.Entries.{stream}
use Rattle.blk_disk.specs.declared.tables.BlockFiles.{BlockFiles}
use Rattle.blk_stream.specs.Streams.{StreamsCanBeRead, streams_at}
use Rattle.blk_print.specs.declared.range_printing.StreamRange.{StreamRange}
use Rattle.std.specs.Option.{ForSome}
use Rattle.spec_image.specs.Told.{Told}
use Rattle.blk_print.specs.PrintCalls.{reply_with}

-- the record has a stream that can be read and has all bytes of the range
pub record HasBytes (files : BlockFiles) (range : StreamRange) (image : Image) : Type 0 where
  pub readable : StreamsCanBeRead files range.entry image
  pub streams : List (List ℕ)
  pub here : streams_at image range.entry ≡ Some streams
  pub bytes : List ℕ
  pub long : length bytes ≡ range.count
  pub bytes_are : bytes ≡ bytes_from (stream range.stream streams) range.offset range.count

-- P holds of the text that the bytes of the range have
abbrev pub ForText : Told → BlockFiles → StreamRange → (text_of : List ℕ → List ℕ) → ((text : List ℕ) → Type 0) → Type 0
ForText told files range text_of P = ForSome told.files (λ image. (p : HasBytes files range image) → P (text_of p.bytes))

-- P holds of the reply with the bytes of both ranges
abbrev pub ForRanges : Told → BlockFiles → (first second : StreamRange) → ((text : List ℕ) → Type 0) → Type 0
ForRanges told files first second P = ForSome told.files (λ image. (p : HasBytes files first image) (q : HasBytes files second image) → P (reply_with (p.bytes ++ q.bytes)))

-- where both ranges have their bytes, Q holds
abbrev pub WhereRanges : Told → BlockFiles → (first second : StreamRange) → (Q : Type 0) → Type 0
WhereRanges told files first second Q = ForSome told.files (HasBytes files first) → ForSome told.files (HasBytes files second) → Q
