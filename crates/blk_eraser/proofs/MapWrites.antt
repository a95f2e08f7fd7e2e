-- The blocks that a write frees, by the bytes that it writes and those that it writes over.
use Rattle.std.proofs.Common.{◌≡◌, ℕ, zero, suc, ◌+◌, ◌-◌, ◌*◌, ◌/◌, ◌%◌, ◌<◌, ◌≤◌, ◌==◌, ◌⊎◌, inl, inr, ⊎_elim, Bool, true, false, not, ◌&&◌, nat_lt, if◌then◌else◌, min, List, [], ◌++◌, length, refl, sym, ◌∙◌, ap, subst, arith, lit<, append_assoc}
use Rattle.std.specs.Int.{bit_at}
use Rattle.std.proofs.lemmas.Bool.{cases_lt}
use Rattle.std.proofs.lemmas.Bool.Decides.{nat_tests}
use Rattle.std.proofs.lemmas.List.{append-nil}
use Rattle.spec_image.specs.Bytes.{content, range_at, word_at}
use Rattle.spec_image.specs.Image.{File, Index, Block, External, Image, byte, bytes_of, length_of}
use Rattle.spec_image.specs.Steps.{TrailStep}
use Rattle.spec_image.specs.Told.{Told, AppliesPrefix}
use Rattle.spec_image.proofs.Splices.{content-spliced_inside, content-spliced_outside}
use Rattle.spec_image.proofs.Words.{length-range, content-range}
use Rattle.spec_image.proofs.Runs.{part_only, part_whole, grows_none}
use Rattle.spec_format.specs.Headers.{entry_size_of}
use Rattle.blk_eraser.specs.Erasing.{IsBlockFile, frees, zeros_over_block, zeros_over_blocks, zeros_before_write}

-- a bit that is written over itself isn't freed
never_both : (b : Bool) → (b && not b) ≡ false
never_both true = refl
never_both false = refl

-- whether a bit of a byte is 1
abbrev pub is_one : ℕ → ℕ → Bool
is_one byte b = bit_at byte (b % 8) == 1

-- a write elsewhere in the map frees no such block
pub frees_none : (old : List ℕ) (place : ℕ) (new : List ℕ) (b : ℕ) → (80 + b / 8 < place) ⊎ (place + length new ≤ 80 + b / 8) → frees old place new b ≡ false
frees_none old place new b apart = ap (λ (v : ℕ). is_one (content old (80 + b / 8)) b && not (is_one v b)) (content-spliced_outside place new old (80 + b / 8) apart) ∙ never_both (is_one (content old (80 + b / 8)) b)

-- a write over the byte of the map that has a block's bit frees the block where the bit was 1 and becomes 0
pub frees_some : (old : List ℕ) (place : ℕ) (new : List ℕ) (b k : ℕ) → 80 + b / 8 ≡ place + k → k < length new → 80 + b / 8 < length old
    → frees old place new b ≡ (is_one (content old (80 + b / 8)) b && not (is_one (content new k) b))
frees_some old place new b k is here inside = ap (λ (v : ℕ). is_one (content old (80 + b / 8)) b && not (is_one v b)) (content-spliced_inside place new old k (80 + b / 8) is here inside)

-- the byte of the map that has the bit of a block
map_byte : (b : ℕ) → b < 64896 → 80 + b / 8 < 8192
map_byte b few = omega arith

-- a header frees what its file does
pub frees_same : (old : List ℕ) (header : List ℕ) (place : ℕ) (new : List ℕ) (b : ℕ) → header ≡ range_at (content old) 0 8192 → place + length new ≤ length old → b < 64896 → frees header place new b ≡ frees old place new b
frees_same old header place new b is inside few =
    ⊎_elim
    (λ (before : 80 + b / 8 < place). apart (inl before))
    (λ (from : place ≤ 80 + b / 8).
    ⊎_elim
    (λ (within : 80 + b / 8 < place + length new). here from within)
    (λ (past : place + length new ≤ 80 + b / 8). apart (inr past))
    (cases_lt (80 + b / 8) (place + length new)))
    (cases_lt (80 + b / 8) place)
  where
    same : content header (80 + b / 8) ≡ content old (80 + b / 8)
    same = ap (λ (l : List ℕ). content l (80 + b / 8)) is ∙ content-range 8192 0 (content old) (80 + b / 8) (80 + b / 8) (map_byte b few) (omega arith)

    long : length header ≡ 8192
    long = ap length is ∙ length-range 8192 0 (content old)

    apart : (80 + b / 8 < place) ⊎ (place + length new ≤ 80 + b / 8) → frees header place new b ≡ frees old place new b
    apart where_to = frees_none header place new b where_to ∙ sym (frees_none old place new b where_to)

    here : place ≤ 80 + b / 8 → 80 + b / 8 < place + length new → frees header place new b ≡ frees old place new b
    here from within =
        let k : 80 + b / 8 ≡ place + (80 + b / 8 - place) = omega arith in
        let among : 80 + b / 8 - place < length new = omega arith in
        let in_header : 80 + b / 8 < length header = omega (arith, long, map_byte b few) in
        let in_old : 80 + b / 8 < length old = omega arith in
        frees_some header place new b (80 + b / 8 - place) k among in_header
        ∙ ap (λ (v : ℕ). is_one v b && not (is_one (content new (80 + b / 8 - place)) b)) same
        ∙ sym (frees_some old place new b (80 + b / 8 - place) k among in_old)

-- more blocks, none of which passes
pub over_none : (test : ℕ → Bool) (file : File) (size long n more : ℕ) → ((b : ℕ) → n ≤ b → b < n + more → test b ≡ false) → zeros_over_blocks test file size long (n + more) ≡ zeros_over_blocks test file size long n
unfolding zeros_over_blocks
over_none test file size long n zero none =
    let same : n + 0 ≡ n = omega arith in ap (zeros_over_blocks test file size long) same
over_none test file size long n (suc more) none =
    let next : n + suc more ≡ suc (n + more) = omega arith in
    let past : n ≤ n + more = omega arith in
    let within : n + more < n + suc more = omega arith in
    ap (zeros_over_blocks test file size long) next
    ∙ ap (λ (t : Bool). zeros_over_blocks test file size long (n + more) ++ (if t then zeros_over_block file size long (n + more) else [])) (none (n + more) past within)
    ∙ append-nil (zeros_over_blocks test file size long (n + more)) ∙ over_none test file size long n more (λ b above below. none b above (omega arith))

-- zeros over blocks are the same where the same blocks pass
pub over_same : (test other : ℕ → Bool) (file : File) (size long n : ℕ) → ((b : ℕ) → b < n → test b ≡ other b) → zeros_over_blocks test file size long n ≡ zeros_over_blocks other file size long n
unfolding zeros_over_blocks
over_same test other file size long zero same = refl
over_same test other file size long (suc n) same =
    ap (λ (t : Bool). zeros_over_blocks test file size long n ++ (if t then zeros_over_block file size long n else [])) (same n (omega arith))
    ∙ ap (λ (s : List TrailStep). s ++ (if other n then zeros_over_block file size long n else [])) (over_same test other file size long n (λ b below. same b (omega arith)))

-- one block more
pub over_one : (test : ℕ → Bool) (file : File) (size long b : ℕ) → test b ≡ true → zeros_over_blocks test file size long (b + 1) ≡ zeros_over_blocks test file size long b ++ zeros_over_block file size long b
unfolding zeros_over_blocks
over_one test file size long b passes =
    let next : b + 1 ≡ suc b = omega arith in
    ap (zeros_over_blocks test file size long) next ∙ ap (λ (t : Bool). zeros_over_blocks test file size long b ++ (if t then zeros_over_block file size long b else [])) passes

pub over_not : (test : ℕ → Bool) (file : File) (size long b : ℕ) → test b ≡ false → zeros_over_blocks test file size long (b + 1) ≡ zeros_over_blocks test file size long b
unfolding zeros_over_blocks
over_not test file size long b fails =
    let next : b + 1 ≡ suc b = omega arith in
    ap (zeros_over_blocks test file size long) next ∙ ap (λ (t : Bool). zeros_over_blocks test file size long b ++ (if t then zeros_over_block file size long b else [])) fails ∙ append-nil (zeros_over_blocks test file size long b)

-- no block
pub over_zero : (test : ℕ → Bool) (file : File) (size long : ℕ) → zeros_over_blocks test file size long 0 ≡ []
unfolding zeros_over_blocks
over_zero test file size long = refl

-- the zeros over the first blocks are a prefix of those over more
over_front : (test : ℕ → Bool) (file : File) (size long n more : ℕ) → (rest : List TrailStep) × (zeros_over_blocks test file size long (n + more) ≡ zeros_over_blocks test file size long n ++ rest)
unfolding zeros_over_blocks
over_front test file size long n zero =
    let same : n + 0 ≡ n = omega arith in ([], ap (zeros_over_blocks test file size long) same ∙ sym (append-nil (zeros_over_blocks test file size long n)))
over_front test file size long n (suc more) =
    let next : n + suc more ≡ suc (n + more) = omega arith in
    let front : (rest : List TrailStep) × (zeros_over_blocks test file size long (n + more) ≡ zeros_over_blocks test file size long n ++ rest) = over_front test file size long n more in (
      front.0 ++ (if test (n + more) then zeros_over_block file size long (n + more) else []),
      ap (zeros_over_blocks test file size long) next ∙ ap (λ (s : List TrailStep). s ++ (if test (n + more) then zeros_over_block file size long (n + more) else [])) front.1
          ∙ append_assoc (zeros_over_blocks test file size long n) front.0 (if test (n + more) then zeros_over_block file size long (n + more) else []),
    )

-- a part of the first is a part of more
pub part_of_blocks : {a b : Told} (test : ℕ → Bool) (file : File) (size long n all : ℕ) → n ≤ all → AppliesPrefix a b (zeros_over_blocks test file size long n) → AppliesPrefix a b (zeros_over_blocks test file size long all)
part_of_blocks {a} {b} test file size long n all few part =
    let sum : n + (all - n) ≡ all = omega arith in
    let front : (rest : List TrailStep) × (zeros_over_blocks test file size long (n + (all - n)) ≡ zeros_over_blocks test file size long n ++ rest) = over_front test file size long n (all - n) in
    subst (AppliesPrefix a b) (sym front.1 ∙ ap (zeros_over_blocks test file size long) sum) (part_only front.0 part)

-- no step was made
pub part_none : {a b : Told} (steps : List TrailStep) → b ≡ a → AppliesPrefix a b steps
part_none {a} {b} steps same = part_only steps (part_whole (grows_none same))

-- what a header says is what its file says
pub header_says : (file : File) (image : Image) (header : List ℕ) (place : ℕ) (new : List ℕ) (long : ℕ) → IsBlockFile file → header ≡ range_at (byte image file) 0 8192 → length_of image file ≡ long → place + length new ≤ long
    → zeros_over_blocks (frees header place new) file (word_at (content header) 12) long 64896 ≡ zeros_before_write image file place new
header_says Index image header place new long is read known inside = absurd is
header_says (External n) image header place new long is read known inside = absurd is
header_says (Block n) image header place new long is read known inside =
    over_same (frees header place new) (frees (bytes_of image (Block n)) place new) (Block n) (word_at (content header) 12) long 64896 (λ b few. frees_same (bytes_of image (Block n)) header place new b read (omega (arith, known, inside)) few)
    ∙ ap (λ (size : ℕ). zeros_over_blocks (frees (bytes_of image (Block n)) place new) (Block n) size long 64896) size_same
    ∙ ap (λ (m : ℕ). zeros_over_blocks (frees (bytes_of image (Block n)) place new) (Block n) (word_at (byte image (Block n)) 12) m 64896) (sym known)
  where
    at : (k : ℕ) → k < 8192 → content header k ≡ byte image (Block n) k
    at k small = ap (λ (l : List ℕ). content l k) read ∙ content-range 8192 0 (byte image (Block n)) k k small (omega arith)

    size_same : word_at (content header) 12 ≡ word_at (byte image (Block n)) 12
    size_same =
        let a : content header 12 ≡ byte image (Block n) 12 = at 12 (lit< tt) in
        let b : content header 13 ≡ byte image (Block n) 13 = at 13 (lit< tt) in
        let c : content header 14 ≡ byte image (Block n) 14 = at 14 (lit< tt) in
        let d : content header 15 ≡ byte image (Block n) 15 = at 15 (lit< tt) in
        cc (a, b, c, d)

-- no block before those whose bits are in the bytes of a write is freed
pub none_before : (old : List ℕ) (place : ℕ) (new : List ℕ) (file : File) (size long n : ℕ) → n ≡ 8 * (place - 80) → zeros_over_blocks (frees old place new) file size long n ≡ []
none_before old place new file size long n is =
    let all : n ≡ 0 + n = omega arith in
    ap (zeros_over_blocks (frees old place new) file size long) all ∙ over_none (frees old place new) file size long 0 n (λ b above below. frees_none old place new b (inl (early b below))) ∙ over_zero (frees old place new) file size long
  where
    early : (b : ℕ) → b < 0 + n → 80 + b / 8 < place
    early b below = omega (arith, is)

-- no block after those whose bits are in the bytes of a write is freed
pub none_behind : (old : List ℕ) (place : ℕ) (new : List ℕ) (file : File) (size long n : ℕ) → n ≡ 8 * ((place + min (length new) (8192 - place)) - 80) → place < 8192
    → zeros_over_blocks (frees old place new) file size long 64896 ≡ zeros_over_blocks (frees old place new) file size long n
none_behind old place new file size long n is front =
    let all : 64896 ≡ n + (64896 - n) = omega (arith, is, front) in
    ap (zeros_over_blocks (frees old place new) file size long) all ∙ over_none (frees old place new) file size long n (64896 - n) (λ b above below. frees_none old place new b (inr (late b above below)))
  where
    late : (b : ℕ) → n ≤ b → b < n + (64896 - n) → place + length new ≤ 80 + b / 8
    late b above below = omega (arith, is, front)

-- a write after the header frees nothing, and one of another file neither
pub far_none : (file : File) (image : Image) (place : ℕ) (new : List ℕ) → nat_lt place 8192 ≡ false → zeros_before_write image file place new ≡ []
far_none Index image place new far = refl
far_none (External n) image place new far = refl
far_none (Block n) image place new far =
    let all : 64896 ≡ 0 + 64896 = omega arith in
    ap (zeros_over_blocks (frees (bytes_of image (Block n)) place new) (Block n) (entry_size_of (byte image (Block n))) (length_of image (Block n))) all
    ∙ over_none (frees (bytes_of image (Block n)) place new) (Block n) (entry_size_of (byte image (Block n))) (length_of image (Block n)) 0 64896 (λ b above below. frees_none (bytes_of image (Block n)) place new b (inl (early b below)))
    ∙ over_zero (frees (bytes_of image (Block n)) place new) (Block n) (entry_size_of (byte image (Block n))) (length_of image (Block n))
  where
    behind : 8192 ≤ place
    behind = grind (arith, nat_tests)

    early : (b : ℕ) → b < 0 + 64896 → 80 + b / 8 < place
    early b below = omega (arith, behind)
