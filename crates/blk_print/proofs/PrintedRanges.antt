-- Bytes of a stream that are printed piece by piece.
use Rattle.std.proofs.Common.{◌≡◌, ℕ, ◌+◌, ◌-◌, ◌≤◌, ◌<◌, Bool, List, [], ◌∷◌, ◌++◌, length, take, drop, Option, Some, sym, ap, subst, ◌∙◌, append_assoc, arith}
use Rattle.std.specs.Prelude.{codes, min}
use Rattle.std.proofs.lemmas.List.{append-nil, drop-drop, drop-take, drop_all, length-append, length-drop, length-take, take-append-drop, take-take, take_all}
use Rattle.hex.specs.Hex.{encode_lower}
use Rattle.spec_image.specs.Image.{Image}
use Rattle.blk_model.specs.Bytes.{bytes_from}
use Rattle.blk_model.specs.Reply.{gave}
use Rattle.spec_folder.specs.Entries.{stream}
use Rattle.blk_disk.specs.declared.tables.BlockFiles.{BlockFiles}
use Rattle.blk_entry.specs.Keys.{IsPiece}
use Rattle.blk_stream.specs.Streams.{StreamsCanBeRead, streams_at}
use Rattle.blk_script.specs.Reply.{reply_text}
use Rattle.blk_script.specs.Spelling.{data_text, number_text}
use Rattle.blk_script.proofs.Printed.{data_text-nil, data_text-some, encode_lower-append, encode_lower-nil, line-first}
use Rattle.blk_print.specs.declared.range_printing.StreamRange.{StreamRange}
use Rattle.blk_print.specs.RangePrinting.{HasBytes}
use Rattle.blk_evict.specs.RoomPrinting.{PrintsUnlessFailed, PrintsInPart}
use Rattle.blk_evict.proofs.RoomTexts.{appends-longer, none-printed, part-none, part-on, printed-on}

-- ---- texts

-- the line of bytes, in the order in which it is printed
pub data-line : (bytes : List ℕ) → reply_text (gave bytes) ≡ (codes "data " ++ (number_text (length bytes) ++ codes " ")) ++ (data_text bytes ++ (10 ∷ []))
unfolding reply_text
data-line bytes =
    line-first (codes "data") (number_text (length bytes) ∷ data_text bytes ∷ [])
    ∙ ap (λ (l : List ℕ). codes "data " ++ l) (sym (append_assoc (number_text (length bytes)) (32 ∷ []) (data_text bytes ++ 10 ∷ [])))

-- ---- bytes

module _ (files : BlockFiles) (range : StreamRange) (image : Image) (p : HasBytes files range image) where
  module _ (piece : StreamRange) (done : ℕ) (entry : piece.entry ≡ range.entry) (number : piece.stream ≡ range.stream) (offset : piece.offset ≡ range.offset + done) (within : done + piece.count ≤ range.count) where
    pub piece-long : length (take piece.count (drop done p.bytes)) ≡ piece.count
    piece-long = length-take piece.count (drop done p.bytes) ∙ (let l = length-drop done p.bytes in let long = p.long in let e : min piece.count (length (drop done p.bytes)) ≡ piece.count = omega (arith, l, long, within) in e)

    abbrev pub whole : List ℕ
    whole = stream range.stream p.streams

    split : (count : ℕ) → done + (count - done) ≡ count → drop done (take count (drop range.offset whole)) ≡ take (count - done) (drop done (drop range.offset whole))
    split count e = ap (λ (n : ℕ). drop done (take n (drop range.offset whole))) (sym e) ∙ drop-take done (count - done) (drop range.offset whole)

    pub piece-are : take piece.count (drop done p.bytes) ≡ bytes_from (stream piece.stream p.streams) piece.offset piece.count
    piece-are =
        ap (λ (bs : List ℕ). take piece.count (drop done bs)) p.bytes_are
        ∙ ap (take piece.count) (split range.count (let e : done + (range.count - done) ≡ range.count = omega (arith, within) in e))
        ∙ take-take piece.count (range.count - done) (drop done (drop range.offset whole)) (omega (arith, within))
        ∙ ap (take piece.count) (drop-drop done range.offset whole ∙ ap (λ (n : ℕ). drop n whole) (sym offset))
        ∙ ap (λ (i : ℕ). take piece.count (drop piece.offset (stream i p.streams))) (sym number)

    pub piece-reads : StreamsCanBeRead files piece.entry image
    piece-reads = subst (λ (w : ℕ). StreamsCanBeRead files w image) (sym entry) p.readable

    pub piece-here : streams_at image piece.entry ≡ Some p.streams
    piece-here = ap (streams_at image) entry ∙ p.here

    -- as many bytes of them as the piece has
    abbrev pub a-piece : HasBytes files piece image
    a-piece = record { readable = piece-reads; streams = p.streams; here = piece-here; bytes = take piece.count (drop done p.bytes); long = piece-long; bytes_are = piece-are }

  -- a read into a buffer for all of them gives them all
  pub all-read : (old new : List ℕ) (n : ℕ) → length old ≡ range.count → IsPiece (stream range.stream p.streams) range.offset old new n → (n ≡ length old) × (new ≡ p.bytes)
  all-read old new n long piece =
      let behind : List ℕ = drop range.offset (stream range.stream p.streams) in
      let taken : length p.bytes ≡ min range.count (length behind) = ap length p.bytes_are ∙ length-take range.count behind in
      let dropped : length behind ≡ length (stream range.stream p.streams) - range.offset = length-drop range.offset (stream range.stream p.streams) in
      let many = piece.many in
      let own = p.long in
      let all : n ≡ length old = omega (arith, many, taken, dropped, own, long) in
      let asked : n ≡ range.count = omega (arith, all, long) in (
        all,
        sym (take-append-drop n new) ∙ ap (λ (l : List ℕ). l ++ drop n new) piece.front ∙ ap (λ (l : List ℕ). take n behind ++ l) (piece.rest ∙ drop_all n old (omega (arith, all)))
            ∙ append-nil (take n behind) ∙ ap (λ (m : ℕ). take m behind) asked ∙ sym p.bytes_are,
      )

-- so such a read gives no fewer
pub not-short : (files : BlockFiles) (range : StreamRange) (image : Image) (p : HasBytes files range image) (old new : List ℕ) (n : ℕ) → length old ≡ range.count → IsPiece (stream range.stream p.streams) range.offset old new n → n < length new → ⊥
not-short files range image p old new n long piece fewer =
    let all = all-read files range image p old new n long piece in
    let one = all.0 in
    let two : length new ≡ length p.bytes = ap length all.1 in
    let own = p.long in
    omega (arith, one, two, own, long, fewer)

-- ---- the loop

-- what was printed before a piece, and with it
module _ (files : BlockFiles) (range : StreamRange) (image : Image) (p : HasBytes files range image) where
  -- nothing was printed yet
  pub none-yet : (failed : Bool) (old : Option (List ℕ)) → PrintsUnlessFailed failed failed old old (encode_lower (take 0 p.bytes))
  none-yet failed old = subst (PrintsUnlessFailed failed failed old old) (sym encode_lower-nil) (none-printed failed old)

  cut-at : (done next : ℕ) → take (done + next) p.bytes ≡ take done p.bytes ++ take next (drop done p.bytes)
  cut-at done next =
      sym (take-append-drop done (take (done + next) p.bytes)) ∙ ap (λ (l : List ℕ). l ++ drop done (take (done + next) p.bytes)) (take-take done (done + next) p.bytes (omega arith))
      ∙ ap (λ (l : List ℕ). take done p.bytes ++ l) (drop-take done next p.bytes)

  pub one-more : (before between failed : Bool) (w0 w1 w2 : Option (List ℕ)) (done next : ℕ) → PrintsUnlessFailed before between w0 w1 (encode_lower (take done p.bytes)) → PrintsUnlessFailed between failed w1 w2 (encode_lower (take next (drop done p.bytes)))
      → PrintsUnlessFailed before failed w0 w2 (encode_lower (take (done + next) p.bytes))
  one-more before between failed w0 w1 w2 done next first second =
      subst (PrintsUnlessFailed before failed w0 w2) (sym (ap encode_lower (cut-at done next) ∙ encode_lower-append (take done p.bytes) (take next (drop done p.bytes))))
      (printed-on before between failed w0 w1 w2 (encode_lower (take done p.bytes)) (encode_lower (take next (drop done p.bytes))) first second)

  -- all bytes were printed
  pub all-printed : (before failed : Bool) (old new : Option (List ℕ)) (done : ℕ) → range.count ≤ done → PrintsUnlessFailed before failed old new (encode_lower (take done p.bytes)) → PrintsUnlessFailed before failed old new (encode_lower p.bytes)
  all-printed before failed old new done all printed = subst (λ (l : List ℕ). PrintsUnlessFailed before failed old new (encode_lower l)) (take_all done p.bytes (let long = p.long in omega (arith, all, long))) printed

  -- a prefix of the bytes was printed
  pub some-printed : (before failed : Bool) (old between new : Option (List ℕ)) (done : ℕ) → PrintsUnlessFailed before failed old between (encode_lower (take done p.bytes)) → new ≡ between → PrintsInPart before old new (encode_lower p.bytes)
  some-printed before failed old between new done printed same =
      subst (PrintsInPart before old new) (sym (encode_lower-append (take done p.bytes) (drop done p.bytes)) ∙ ap encode_lower (take-append-drop done p.bytes))
      (part-on before failed old between new (encode_lower (take done p.bytes)) (encode_lower (drop done p.bytes)) printed (part-none failed between new (encode_lower (drop done p.bytes)) same))

-- ---- data

pub no-data : (files : BlockFiles) (range : StreamRange) (image : Image) (p : HasBytes files range image) → range.count ≡ 0 → data_text p.bytes ≡ 45 ∷ []
no-data files range image p none = data_text-nil p.bytes (p.long ∙ none)

pub some-data : (files : BlockFiles) (range : StreamRange) (image : Image) (p : HasBytes files range image) → 0 < range.count → encode_lower p.bytes ≡ data_text p.bytes
some-data files range image p some = sym (data_text-some p.bytes (let long = p.long in omega (arith, long, some)))

-- ---- the line

module _ (files : BlockFiles) (range : StreamRange) (image : Image) (p : HasBytes files range image) where
  line-is : reply_text (gave p.bytes) ≡ (codes "data " ++ (number_text range.count ++ codes " ")) ++ (data_text p.bytes ++ 10 ∷ [])
  line-is = data-line p.bytes ∙ ap (λ (n : ℕ). (codes "data " ++ (number_text n ++ codes " ")) ++ (data_text p.bytes ++ 10 ∷ [])) p.long

  -- the start, the data and the end
  pub line-printed : (f0 f1 f2 f3 : Bool) (w0 w1 w2 w3 : Option (List ℕ)) → PrintsUnlessFailed f0 f1 w0 w1 (codes "data " ++ (number_text range.count ++ codes " ")) → PrintsUnlessFailed f1 f2 w1 w2 (data_text p.bytes) → PrintsUnlessFailed f2 f3 w2 w3 (10 ∷ []) → PrintsUnlessFailed f0 f3 w0 w3 (reply_text (gave p.bytes))
  line-printed f0 f1 f2 f3 w0 w1 w2 w3 front middle last =
      subst (PrintsUnlessFailed f0 f3 w0 w3) (sym line-is)
      (printed-on f0 f1 f3 w0 w1 w3 (codes "data " ++ (number_text range.count ++ codes " ")) (data_text p.bytes ++ 10 ∷ []) front
      (printed-on f1 f2 f3 w1 w2 w3 (data_text p.bytes) (10 ∷ []) middle last))

  pub line-in-part : (f0 f1 : Bool) (w0 w1 w2 : Option (List ℕ)) → PrintsUnlessFailed f0 f1 w0 w1 (codes "data " ++ (number_text range.count ++ codes " ")) → PrintsInPart f1 w1 w2 (data_text p.bytes) → PrintsInPart f0 w0 w2 (reply_text (gave p.bytes))
  line-in-part f0 f1 w0 w1 w2 front middle =
      subst (PrintsInPart f0 w0 w2) (sym line-is)
      (part-on f0 f1 w0 w1 w2 (codes "data " ++ (number_text range.count ++ codes " ")) (data_text p.bytes ++ 10 ∷ []) front
      (record { silent = middle.silent; front = appends-longer w1 w2 (data_text p.bytes) (10 ∷ []) middle.front }))

-- ---- the line of two ranges

module _ (files : BlockFiles) (first second : StreamRange) (image : Image) (p : HasBytes files first image) (q : HasBytes files second image) (some : 1 ≤ first.count) where
  together : length (p.bytes ++ q.bytes) ≡ first.count + second.count
  together = let a = p.long in let b = q.long in let both = length-append p.bytes q.bytes in omega (arith, a, b, both)

  -- in the order in which it is printed
  both-line : reply_text (gave (p.bytes ++ q.bytes)) ≡ (codes "data " ++ (number_text (first.count + second.count) ++ codes " ")) ++ (encode_lower p.bytes ++ (encode_lower q.bytes ++ 10 ∷ []))
  both-line =
      data-line (p.bytes ++ q.bytes)
      ∙ ap (λ (n : ℕ). (codes "data " ++ (number_text n ++ codes " ")) ++ (data_text (p.bytes ++ q.bytes) ++ 10 ∷ [])) together
      ∙ ap (λ (l : List ℕ). (codes "data " ++ (number_text (first.count + second.count) ++ codes " ")) ++ (l ++ 10 ∷ [])) (data_text-some (p.bytes ++ q.bytes) (let long = together in omega (arith, long, some)) ∙ encode_lower-append p.bytes q.bytes)
      ∙ ap (λ (l : List ℕ). (codes "data " ++ (number_text (first.count + second.count) ++ codes " ")) ++ l) (append_assoc (encode_lower p.bytes) (encode_lower q.bytes) (10 ∷ []))

  pub both-printed : (f0 f1 f2 f3 f4 : Bool) (w0 w1 w2 w3 w4 : Option (List ℕ)) → PrintsUnlessFailed f0 f1 w0 w1 (codes "data " ++ (number_text (first.count + second.count) ++ codes " ")) → PrintsUnlessFailed f1 f2 w1 w2 (encode_lower p.bytes) → PrintsUnlessFailed f2 f3 w2 w3 (encode_lower q.bytes) → PrintsUnlessFailed f3 f4 w3 w4 (10 ∷ [])
      → PrintsUnlessFailed f0 f4 w0 w4 (reply_text (gave (p.bytes ++ q.bytes)))
  both-printed f0 f1 f2 f3 f4 w0 w1 w2 w3 w4 front one two last =
      subst (PrintsUnlessFailed f0 f4 w0 w4) (sym both-line)
      (printed-on f0 f1 f4 w0 w1 w4 (codes "data " ++ (number_text (first.count + second.count) ++ codes " ")) (encode_lower p.bytes ++ (encode_lower q.bytes ++ 10 ∷ [])) front
      (printed-on f1 f2 f4 w1 w2 w4 (encode_lower p.bytes) (encode_lower q.bytes ++ 10 ∷ []) one
      (printed-on f2 f3 f4 w2 w3 w4 (encode_lower q.bytes) (10 ∷ []) two last)))

  -- where the bytes of the first are printed in part
  pub first-in-part : (f0 f1 : Bool) (w0 w1 w2 : Option (List ℕ)) → PrintsUnlessFailed f0 f1 w0 w1 (codes "data " ++ (number_text (first.count + second.count) ++ codes " ")) → PrintsInPart f1 w1 w2 (encode_lower p.bytes) → PrintsInPart f0 w0 w2 (reply_text (gave (p.bytes ++ q.bytes)))
  first-in-part f0 f1 w0 w1 w2 front one =
      subst (PrintsInPart f0 w0 w2) (sym both-line)
      (part-on f0 f1 w0 w1 w2 (codes "data " ++ (number_text (first.count + second.count) ++ codes " ")) (encode_lower p.bytes ++ (encode_lower q.bytes ++ 10 ∷ [])) front
      (record { silent = one.silent; front = appends-longer w1 w2 (encode_lower p.bytes) (encode_lower q.bytes ++ 10 ∷ []) one.front }))

  -- where the bytes of the second are printed in part
  pub second-in-part : (f0 f1 f2 : Bool) (w0 w1 w2 w3 : Option (List ℕ)) → PrintsUnlessFailed f0 f1 w0 w1 (codes "data " ++ (number_text (first.count + second.count) ++ codes " ")) → PrintsUnlessFailed f1 f2 w1 w2 (encode_lower p.bytes) → PrintsInPart f2 w2 w3 (encode_lower q.bytes) → PrintsInPart f0 w0 w3 (reply_text (gave (p.bytes ++ q.bytes)))
  second-in-part f0 f1 f2 w0 w1 w2 w3 front one two =
      subst (PrintsInPart f0 w0 w3) (sym both-line)
      (part-on f0 f1 w0 w1 w3 (codes "data " ++ (number_text (first.count + second.count) ++ codes " ")) (encode_lower p.bytes ++ (encode_lower q.bytes ++ 10 ∷ [])) front
      (part-on f1 f2 w1 w2 w3 (encode_lower p.bytes) (encode_lower q.bytes ++ 10 ∷ []) one
      (record { silent = two.silent; front = appends-longer w2 w3 (encode_lower q.bytes) (10 ∷ []) two.front })))
