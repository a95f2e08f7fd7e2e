-- What the calls that print say of a text: each of these takes what the output was and is, and the text comes last.
use Rattle.std.specs.Prelude.{ℕ, [], ◌∷◌, Bool, List, Option, codes}
use Rattle.blk_model.specs.Reply.{gave}
use Rattle.blk_script.specs.Reply.{reply_text}
use Rattle.blk_script.specs.Spelling.{key_text, line, number_text}
use Rattle.blk_evict.specs.RoomPrinting.{PrintsInPart, PrintsUnlessFailed}

-- the text is printed, unless the output failed
abbrev pub SaysText : {S : Type 0} → (failed_before failed : Bool) → (written : S → Option (List ℕ)) → (old new : S) → (text : List ℕ) → Type 0
SaysText failed_before failed written old new text = PrintsUnlessFailed failed_before failed (written old) (written new) text

-- a prefix of the text is printed, and nothing where the output had failed before
abbrev pub SaysInPart : {S : Type 0} → (failed_before : Bool) → (written : S → Option (List ℕ)) → (old new : S) → (text : List ℕ) → Type 0
SaysInPart failed_before written old new text = PrintsInPart failed_before (written old) (written new) text

-- the text of a reply that gives these bytes
abbrev pub reply_with : (bytes : List ℕ) → List ℕ
reply_with bytes = reply_text (gave bytes)

-- the line of a plain object: its key, and the lengths of its streams
abbrev pub plain_line : (key : List ℕ) (first second third : ℕ) → List ℕ
plain_line key first second third = line (codes "main" ∷ key_text key ∷ number_text first ∷ number_text second ∷ number_text third ∷ [])

-- the line of a sparse object: its key, and the length of its first stream
abbrev pub sparse_line : (key : List ℕ) (first : ℕ) → List ℕ
sparse_line key first = line (codes "sparse" ∷ key_text key ∷ number_text first ∷ [])

-- the line of a part: the key of its parent, its number, and how many bytes it has
abbrev pub part_line : (key : List ℕ) (number size : ℕ) → List ℕ
part_line key number size = line (codes "part" ∷ key_text key ∷ number_text number ∷ number_text size ∷ [])
