-- The bytes of a stream after it was written inside its place.
use Rattle.std.proofs.Common.{◌≡◌, ◌⊎◌, inl, inr, ⊎_elim, ℕ, ◌+◌, ◌-◌, ◌<◌, ◌≤◌, Bool, true, false, if◌then◌else◌, List, [], ◌∷◌, ◌++◌, length, take, drop, get_or, refl, sym, ◌∙◌, ap, subst, arith, unwrap_or, Option, append_assoc}
use Rattle.std.specs.Prelude.{◌==◌, replicate}
use Rattle.std.proofs.lemmas.Bool.{cases_lt, eqb-true}
use Rattle.std.proofs.lemmas.Bool.Decides.{nat_tests}
use Rattle.std.proofs.lemmas.List.{ext_get_or, get_or-append_right, get_or_append_left, get_or-drop, get_or-take, get_or_past, length-append, length-drop, length-replicate, length-take}
use Rattle.blk_model.specs.Effects.{stream_after}
use Rattle.spec_image.specs.Bytes.{content, resized, spliced, zeros}
use Rattle.spec_image.specs.Image.{File, External, Image, byte, bytes_of, length_of}
use Rattle.spec_image.specs.Steps.{TrailStep, SetLength, after, applied, words, written_over}
use Rattle.spec_image.proofs.Cuts.{after-append, after-words}
use Rattle.spec_image.proofs.Images.{bytes-written, bytes_of-set_len, length-after_set_len, with_file-same}
use Rattle.spec_image.proofs.Splices.{content-resized, content-spliced_inside, content-spliced_outside, content-zeros, length-spliced, length-zeros}
use Rattle.spec_image.proofs.Words.{content-range, length-range}
use Rattle.spec_format.specs.Address.{kind_of, external, external_number}
use Rattle.blk_entry.specs.Keys.{data_at, data_file, data_start}
use Rattle.blk_entry.specs.Steps.{data_steps}
use Rattle.blk_stream.specs.Writing.{size_after}
use Rattle.blk_stream.specs.Inside.{here_steps, room_steps}
use Rattle.blk_stream.proofs.InsideSteps.{room_blocks, room_external}

-- The list after a write.

abbrev the_zero : ℕ
the_zero = 0

-- the old bytes up to a place, with zeros where they end before it
abbrev front : List ℕ → ℕ → List ℕ
front old place = take place old ++ replicate (place - length old) 0

length_front : (old : List ℕ) (place : ℕ) → length (front old place) ≡ place
length_front old place =
    let a = length-append (take place old) (replicate (place - length old) 0) in
    let m : length (replicate (place - length old) (the_zero)) ≡ place - length old = length-replicate (place - length old) the_zero in
    omega (arith, a, length-take place old, m)

front_is : (old rest : List ℕ) (place k : ℕ) → k < place → content (front old place ++ rest) k ≡ content old k
unfolding zeros
front_is old rest place k low =
    get_or_append_left (front old place) rest the_zero k (omega (arith, length_front old place, low)) ∙
    ⊎_elim
    (λ (n : length (take place old) ≤ k).
    let past : length old ≤ k = omega (arith, n, length-take place old, low) in
    get_or-append_right (take place old) (replicate (place - length old) the_zero) (length (take place old)) k the_zero refl n
    ∙ content-zeros (place - length old) (k - length (take place old)) ∙ sym (get_or_past old k the_zero past))
    (λ (n : k < length (take place old)). get_or_append_left (take place old) (replicate (place - length old) the_zero) the_zero k n ∙ get_or-take place old k the_zero low)
    (swapped (cases_lt k (length (take place old))))
  where
    swapped : (k < length (take place old)) ⊎ (length (take place old) ≤ k) → (length (take place old) ≤ k) ⊎ (k < length (take place old))
    swapped (inl e) = inr e
    swapped (inr e) = inl e

rest_is : (old rest : List ℕ) (place k : ℕ) → place ≤ k → content (front old place ++ rest) k ≡ content rest (k - place)
rest_is old rest place k low = get_or-append_right (front old place) rest place k the_zero (length_front old place) low

pub length_of_after : (cut : Bool) (old new : List ℕ) (place : ℕ) → length (stream_after cut old place new) ≡ size_after cut (length old) place (length new)
unfolding size_after
length_of_after true old new place =
    let a = length-append (front old place) new in
    omega (arith, a, length_front old place)
length_of_after false old new place =
    let a = length-append (front old place ++ new) (drop (place + length new) old) in
    let b = length-append (front old place) new in
    omega (arith, a, b, length_front old place, length-drop (place + length new) old)

-- its bytes: the old ones before, the new ones, and the old ones after that
uncut : (old new : List ℕ) (place k : ℕ) → content (stream_after false old place new) k ≡ content (front old place ++ (new ++ drop (place + length new) old)) k
uncut old new place k = ap (λ (l : List ℕ). content l k) (append_assoc (front old place) new (drop (place + length new) old))

byte_before : (cut : Bool) (old new : List ℕ) (place k : ℕ) → k < place → content (stream_after cut old place new) k ≡ content old k
byte_before true old new place k low = front_is old new place k low
byte_before false old new place k low = uncut old new place k ∙ front_is old (new ++ drop (place + length new) old) place k low

byte_there : (cut : Bool) (old new : List ℕ) (place k : ℕ) → place ≤ k → k < place + length new → content (stream_after cut old place new) k ≡ content new (k - place)
byte_there true old new place k low high = rest_is old new place k low
byte_there false old new place k low high =
    uncut old new place k ∙ rest_is old (new ++ drop (place + length new) old) place k low ∙ get_or_append_left new (drop (place + length new) old) the_zero (k - place) (omega (arith, low, high))

byte_behind : (old new : List ℕ) (place k : ℕ) → place + length new ≤ k → content (stream_after false old place new) k ≡ content old k
byte_behind old new place k low =
    uncut old new place k
    ∙ rest_is old (new ++ drop (place + length new) old) place k (omega (arith, low))
    ∙ get_or-append_right new (drop (place + length new) old) (length new) (k - place) the_zero refl (omega (arith, low))
    ∙ get_or-drop (place + length new) old (k - place - length new) the_zero
    ∙ ap (λ (j : ℕ). get_or old j the_zero) (let h : place + length new + (k - place - length new) ≡ k = omega (arith, low) in h)

-- The bytes after the steps.

words_bytes : (f : File) (p : ℕ) (bs : List ℕ) (image : Image) → bytes_of (after (words f p bs) image) f ≡ spliced p bs (bytes_of image f)
words_bytes f p bs image =
    ap (λ (i : Image). bytes_of i f) (after-words f p bs image) ∙ ap (λ (o : Option (List ℕ)). unwrap_or o []) (with_file-same image f (written_over p bs (image f))) ∙ bytes-written (image f) p bs

-- a byte of the data of an address
abbrev pub at : Image → ℕ → ℕ → ℕ
at image w k = byte image (data_file w) (data_start w + k)

-- so many bytes of the data of an address are there
abbrev pub HasData : Image → ℕ → ℕ → Type 0
HasData image w n = data_start w + n ≤ length_of image (data_file w)

pub data_beside : (w p : ℕ) (bs : List ℕ) (image : Image) (k : ℕ) → (k < p) ⊎ (p + length bs ≤ k) → at (after (data_steps w p bs) image) w k ≡ at image w k
unfolding data_steps
data_beside w p bs image k out =
    ap (λ (l : List ℕ). content l (data_start w + k)) (words_bytes (data_file w) (data_start w + p) bs image)
    ∙ content-spliced_outside (data_start w + p) bs (bytes_of image (data_file w)) (data_start w + k)
    (⊎_elim (λ (low : k < p). inl (omega (arith, low))) (λ (high : p + length bs ≤ k). inr (omega (arith, high))) out)

pub data_there : (w p : ℕ) (bs : List ℕ) (image : Image) (k : ℕ) → p ≤ k → k < p + length bs → HasData image w (k + 1) → at (after (data_steps w p bs) image) w k ≡ content bs (k - p)
unfolding data_steps
data_there w p bs image k low high has =
    ap (λ (l : List ℕ). content l (data_start w + k)) (words_bytes (data_file w) (data_start w + p) bs image)
    ∙ content-spliced_inside (data_start w + p) bs (bytes_of image (data_file w)) (k - p) (data_start w + k) (omega (arith, low)) (omega (arith, low, high)) (omega (arith, has))

pub data_long : (w p : ℕ) (bs : List ℕ) (image : Image) → length_of (after (data_steps w p bs) image) (data_file w) ≡ length_of image (data_file w)
unfolding data_steps
data_long w p bs image = ap length (words_bytes (data_file w) (data_start w + p) bs image) ∙ length-spliced (data_start w + p) bs (bytes_of image (data_file w))

-- the data of an address with space made for bytes: as before below the old size, and zeros from there to the offset
pub record HasMade (from image : Image) (w old size offset : ℕ) : Type 0 where
  pub same : (k : ℕ) → k < size → (k < old) ⊎ (offset ≤ k) → at image w k ≡ at from w k
  pub gap : (k : ℕ) → k < size → old ≤ k → k < offset → at image w k ≡ 0
  pub there : HasData image w size

pub made_blocks : (from : Image) (w old size offset : ℕ) → (kind_of w == external) ≡ false → HasData from w size → HasMade from (after (room_steps w old size offset) from) w old size offset
made_blocks from w old size offset t has = subst (λ (s : List TrailStep). HasMade from (after s from) w old size offset) (sym (room_blocks w old size offset t)) (record {
  same = λ k small out. data_beside w old (zeros (offset - old)) from k (⊎_elim (λ (low : k < old). inl low) (λ (high : offset ≤ k). ⊎_elim (λ (low : k < old). inl low) (λ (up : old ≤ k). inr (omega (arith, length-zeros (offset - old), high, up))) (cases_lt k old)) out);
  gap = λ k small low high. data_there w old (zeros (offset - old)) from k low (omega (arith, length-zeros (offset - old), low, high)) (omega (arith, small, has)) ∙ content-zeros (offset - old) (k - old);
  there = let h = data_long w old (zeros (offset - old)) from in omega (arith, h, has);
})

pub data_outside : (w : ℕ) → kind_of w ≡ external → (data_file w ≡ External (external_number w)) × (data_start w ≡ 0)
unfolding data_file data_start
data_outside w kind = let t : (kind_of w == external) ≡ true = grind (arith, nat_tests) in (rw t refl, rw t refl)

pub made_external : (from : Image) (w old size offset : ℕ) → kind_of w ≡ external → length_of from (data_file w) ≡ old → HasMade from (after (room_steps w old size offset) from) w old size offset
made_external from w old size offset kind long =
    subst (λ (s : List TrailStep). HasMade from (after s from) w old size offset) (sym (room_external w old size offset t)) (by_test (size == old) refl)
  where
    t : (kind_of w == external) ≡ true
    t = grind (arith, nat_tests)

    out : (data_file w ≡ External (external_number w)) × (data_start w ≡ 0)
    out = data_outside w kind

    -- past the end there are zeros
    past : (k : ℕ) → old ≤ k → at from w k ≡ 0
    past k low = get_or_past (bytes_of from (data_file w)) (data_start w + k) 0 (let h = out.1 in omega (arith, long, low))

    by_test : (s : Bool) → (size == old) ≡ s → HasMade from (after (if s then [] else SetLength (External (external_number w)) size ∷ []) from) w old size offset
    by_test true e = record {
      same = λ k small h. refl;
      gap = λ k small low high. past k low;
      there = let h = out.1 in let same : size ≡ old = eqb-true size old e in omega (arith, h, long, same);
    }
    by_test false e =
        let b : bytes_of (applied (SetLength (External (external_number w)) size) from) (data_file w) ≡ resized size (bytes_of from (data_file w)) =
        subst (λ (f : File). bytes_of (applied (SetLength f size) from) (data_file w) ≡ resized size (bytes_of from (data_file w))) out.0 (bytes_of-set_len from (data_file w) size) in
        let same : (k : ℕ) → k < size → at (applied (SetLength (External (external_number w)) size) from) w k ≡ at from w k =
        (λ k small. ap (λ (l : List ℕ). content l (data_start w + k)) b ∙ content-resized size (bytes_of from (data_file w)) (data_start w + k) (let h = out.1 in omega (arith, h, small))) in
        record {
          same = λ k small h. same k small;
          gap = λ k small low high. same k small ∙ past k low;
          there = let h = out.1 in let n : length_of (applied (SetLength (External (external_number w)) size) from) (data_file w) ≡ size = subst (λ (f : File). length_of (applied (SetLength f size) from) (data_file w) ≡ size) out.0 (length-after_set_len from (data_file w) size) in omega (arith, h, n);
        }

-- an external file has its length
pub made_long : (from : Image) (w old size offset : ℕ) → kind_of w ≡ external → length_of from (data_file w) ≡ old → length_of (after (room_steps w old size offset) from) (data_file w) ≡ size
made_long from w old size offset kind long =
    subst (λ (s : List TrailStep). length_of (after s from) (data_file w) ≡ size) (sym (room_external w old size offset (let t : (kind_of w == external) ≡ true = grind (arith, nat_tests) in t))) (by_test (size == old) refl)
  where
    by_test : (s : Bool) → (size == old) ≡ s → length_of (after (if s then [] else SetLength (External (external_number w)) size ∷ []) from) (data_file w) ≡ size
    by_test true e = long ∙ sym (eqb-true size old e)
    by_test false e = subst (λ (f : File). length_of (applied (SetLength f size) from) (data_file w) ≡ size) (data_outside w kind).0 (length-after_set_len from (data_file w) size)

-- the data is the list after the write
pub here_data : (from : Image) (w old size offset : ℕ) (cut : Bool) (bytes : List ℕ) → HasMade from (after (room_steps w old size offset) from) w old size offset → size ≡ size_after cut old offset (length bytes)
    → data_at (after (here_steps w old size offset bytes) from) w 0 size ≡ stream_after cut (data_at from w 0 old) offset bytes
unfolding size_after
here_data from w old size offset cut bytes made is =
    ap (λ (i : Image). data_at i w 0 size) (after-append (room_steps w old size offset) (data_steps w offset bytes) from)
    ∙ ext_get_or 0 (data_at last w 0 size) (stream_after cut was offset bytes) (long ∙ sym all) (λ k low. let h : k < size = omega (arith, low, long) in content-range size (data_start w + 0) (byte last (data_file w)) k (data_start w + k) h (omega arith) ∙ each k h)
  where
    mid : Image
    mid = after (room_steps w old size offset) from

    last : Image
    last = after (data_steps w offset bytes) mid

    was : List ℕ
    was = data_at from w 0 old

    long : length (data_at last w 0 size) ≡ size
    long = length-range size (data_start w + 0) (byte last (data_file w))

    was_long : length was ≡ old
    was_long = length-range old (data_start w + 0) (byte from (data_file w))

    all : length (stream_after cut was offset bytes) ≡ size
    all = length_of_after cut was bytes offset ∙ ap (λ (n : ℕ). size_after cut n offset (length bytes)) was_long ∙ sym is

    was_at : (k : ℕ) → k < old → content was k ≡ at from w k
    was_at k low = content-range old (data_start w + 0) (byte from (data_file w)) k (data_start w + k) low (omega arith)

    before : (k : ℕ) → k < size → k < offset → at last w k ≡ content (stream_after cut was offset bytes) k
    before k small low =
        data_beside w offset bytes mid k (inl low)
        ∙ ⊎_elim
        (λ (in_old : k < old). made.same k small (inl in_old) ∙ sym (was_at k in_old))
        (λ (up : old ≤ k). made.gap k small up low ∙ sym (get_or_past was k 0 (omega (arith, was_long, up))))
        (cases_lt k old)
        ∙ sym (byte_before cut was bytes offset k low)

    behind : (c : Bool) → size ≡ size_after c old offset (length bytes) → (k : ℕ) → k < size → offset + length bytes ≤ k → at last w k ≡ content (stream_after c was offset bytes) k
    behind true e k small up = absurd (omega (arith, e, small, up))
    behind false e k small up =
        data_beside w offset bytes mid k (inr up) ∙ made.same k small (inr (omega (arith, up))) ∙ sym (was_at k (omega (arith, e, small, up))) ∙ sym (byte_behind was bytes offset k up)

    each : (k : ℕ) → k < size → at last w k ≡ content (stream_after cut was offset bytes) k
    each k small =
        ⊎_elim
        (λ (low : k < offset). before k small low)
        (λ (up : offset ≤ k).
        ⊎_elim
        (λ (high : k < offset + length bytes). data_there w offset bytes mid k up high (let h = made.there in omega (arith, h, small)) ∙ sym (byte_there cut was bytes offset k up high))
        (λ (past : offset + length bytes ≤ k). behind cut is k small past)
        (cases_lt k (offset + length bytes)))
        (cases_lt k offset)

-- the data is the list after the write, where the old bytes are those of another address
pub moved_data : (from last : Image) (u w old size offset : ℕ) (cut : Bool) (bytes : List ℕ) → size ≡ size_after cut old offset (length bytes)
    → ((k : ℕ) → k < offset → k < old → at last w k ≡ at from u k)
    → ((k : ℕ) → k < offset → old ≤ k → at last w k ≡ 0)
    → ((k : ℕ) → offset ≤ k → k < offset + length bytes → at last w k ≡ content bytes (k - offset))
    → ((k : ℕ) → offset + length bytes ≤ k → k < size → k < old → at last w k ≡ at from u k)
    → offset + length bytes ≤ size
    → data_at last w 0 size ≡ stream_after cut (data_at from u 0 old) offset bytes
unfolding size_after
moved_data from last u w old size offset cut bytes is front gap there behind few =
    ext_get_or 0 (data_at last w 0 size) (stream_after cut was offset bytes) (long ∙ sym all) (λ k low. let h : k < size = omega (arith, low, long) in content-range size (data_start w + 0) (byte last (data_file w)) k (data_start w + k) h (omega arith) ∙ each k h)
  where
    was : List ℕ
    was = data_at from u 0 old

    long : length (data_at last w 0 size) ≡ size
    long = length-range size (data_start w + 0) (byte last (data_file w))

    was_long : length was ≡ old
    was_long = length-range old (data_start u + 0) (byte from (data_file u))

    all : length (stream_after cut was offset bytes) ≡ size
    all = length_of_after cut was bytes offset ∙ ap (λ (n : ℕ). size_after cut n offset (length bytes)) was_long ∙ sym is

    was_at : (k : ℕ) → k < old → content was k ≡ at from u k
    was_at k low = content-range old (data_start u + 0) (byte from (data_file u)) k (data_start u + k) low (omega arith)

    past : (c : Bool) → size ≡ size_after c old offset (length bytes) → (k : ℕ) → k < size → offset + length bytes ≤ k → at last w k ≡ content (stream_after c was offset bytes) k
    past true e k small up = absurd (omega (arith, e, small, up))
    past false e k small up =
        let low : k < old = omega (arith, e, small, up) in
        behind k up small low ∙ sym (was_at k low) ∙ sym (byte_behind was bytes offset k up)

    each : (k : ℕ) → k < size → at last w k ≡ content (stream_after cut was offset bytes) k
    each k small =
        ⊎_elim
        (λ (low : k < offset).
        ⊎_elim
        (λ (in_old : k < old). front k low in_old ∙ sym (was_at k in_old))
        (λ (up : old ≤ k). gap k low up ∙ sym (get_or_past was k 0 (omega (arith, was_long, up))))
        (cases_lt k old)
        ∙ sym (byte_before cut was bytes offset k low))
        (λ (up : offset ≤ k).
        ⊎_elim
        (λ (high : k < offset + length bytes). there k up high ∙ sym (byte_there cut was bytes offset k up high))
        (λ (high : offset + length bytes ≤ k). past cut is k small high)
        (cases_lt k (offset + length bytes)))
        (cases_lt k offset)
