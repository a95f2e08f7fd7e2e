-- Texts that are printed in pieces.
use Rattle.std.proofs.Common.{◌≡◌, false, ℕ, suc, ◌+◌, ◌-◌, ◌^◌, ◌<◌, ◌≤◌, ◌++◌, List, [], ◌∷◌, length, take, drop, replicate, get_or, Option, None, Some, Result, Ok, Err, OnOk, OnErr, refl, sym, ◌∙◌, ap, append_assoc, take-append-drop, codes, arith}
use Rattle.std.specs.Prelude.{decimal}
use Rattle.std.specs.Fmt.{digits}
use Rattle.std.specs.Int.{to_be_bytes, w32}
use Rattle.std.specs.List.{flat_map}
use Rattle.std.specs.Option.{option_map}
use Rattle.std.proofs.lemmas.Grind.{flat_map-append}
use Rattle.std.proofs.lemmas.List.{take_all, take_more, append-nil, length-drop}
use Rattle.hex.specs.Hex.{encode_lower}
use Rattle.spec_image.specs.Told.{Rises}
use Rattle.blk_io.specs.Streams.{Appends}
use Rattle.blk_io.specs.declared.folder.FileId.{FileId}
use Rattle.blk_io.specs.declared.folder.FileId.TheVariants as names
use Rattle.blk_io.specs.declared.fault.Damage.{Damage}
use Rattle.blk_io.specs.FileNames.{file_of}
use Rattle.blk_io.specs.Faults.{damage_of}
use Rattle.blk_io.specs.Texts.{damage_text, hex_text, name_of}
use Rattle.blk_ranges.proofs.HexTexts.{word-digits, digits-few, digits-many}
use Rattle.blk_run.specs.Texts.{Prints, damage_line}

-- one text after another
pub then_more : (a b : List ℕ) (w0 w1 w2 : Option (List ℕ)) → w1 ≡ option_map (λ (w : List ℕ). w ++ a) w0 → w2 ≡ option_map (λ (w : List ℕ). w ++ b) w1 → w2 ≡ option_map (λ (w : List ℕ). w ++ (a ++ b)) w0
then_more a b None w1 w2 first second = second ∙ ap (option_map (λ (w : List ℕ). w ++ b)) first
then_more a b (Some w) w1 w2 first second = second ∙ ap (option_map (λ (v : List ℕ). v ++ b)) first ∙ ap Some (append_assoc w a b)

-- a part of a text after another
pub then_part : (a b : List ℕ) (w0 w1 w2 : Option (List ℕ)) → w1 ≡ option_map (λ (w : List ℕ). w ++ a) w0 → Appends w1 w2 b → Appends w0 w2 (a ++ b)
then_part a b w0 w1 w2 first part = record {
  front = a ++ part.front;
  rest = part.rest;
  split = ap (λ (l : List ℕ). a ++ l) part.split ∙ sym (append_assoc a part.front part.rest);
  written = then_more a part.front w0 w1 w2 first part.written;
}

-- a part of a text, and nothing of what would follow it
pub part_of : (a b : List ℕ) (w0 w1 : Option (List ℕ)) → Appends w0 w1 a → Appends w0 w1 (a ++ b)
part_of a b w0 w1 part = record {
  front = part.front;
  rest = part.rest ++ b;
  split = ap (λ (l : List ℕ). l ++ b) part.split ∙ append_assoc part.front part.rest b;
  written = part.written;
}

-- the whole of a text is a part of it
pub whole_part : (a : List ℕ) (w0 w1 : Option (List ℕ)) → w1 ≡ option_map (λ (w : List ℕ). w ++ a) w0 → Appends w0 w1 a
whole_part a w0 w1 whole = record { front = a; rest = []; split = sym (append-nil a); written = whole }

-- nothing is printed
pub printed_none : (w0 : Option (List ℕ)) → w0 ≡ option_map (λ (w : List ℕ). w ++ []) w0
printed_none None = refl
printed_none (Some w) = ap Some (sym (append-nil w))

-- the pieces up to one, and that one
pub one_more : {X : Type 0} (f : X → List ℕ) (xs : List X) (i : ℕ) (d : X) → i < length xs → flat_map f (take (i + 1) xs) ≡ flat_map f (take i xs) ++ f (get_or xs i d)
one_more f xs i d within =
    ap (flat_map f) (take_more xs i d within) ∙ flat_map-append f (take i xs) (get_or xs i d ∷ []) ∙ ap (λ (l : List ℕ). flat_map f (take i xs) ++ l) (append-nil (f (get_or xs i d)))

-- those, and the ones after them
pub pieces_split : {X : Type 0} (f : X → List ℕ) (xs : List X) (i : ℕ) (d : X) → i < length xs → flat_map f xs ≡ (flat_map f (take i xs) ++ f (get_or xs i d)) ++ flat_map f (drop (i + 1) xs)
pieces_split f xs i d within =
    ap (flat_map f) (sym (take-append-drop (i + 1) xs)) ∙ flat_map-append f (take (i + 1) xs) (drop (i + 1) xs) ∙ ap (λ (l : List ℕ). l ++ flat_map f (drop (i + 1) xs)) (one_more f xs i d within)

-- a text that was printed, or a part of it where the output failed
pub prints : {A E : Type 0} (r : Result A E) (text : List ℕ) (w0 w1 : Option (List ℕ)) (before now : ℕ) → OnOk r (w1 ≡ option_map (λ (w : List ℕ). w ++ text) w0) → Appends w0 w1 text → OnErr r (Rises before now) → Prints w0 w1 before now text
prints (Ok a) text w0 w1 before now whole part failed = record { front = part; whole = λ level. whole }
prints (Err e) text w0 w1 before now whole part failed = record { front = part; whole = λ level. absurd (level failed) }

-- the digits of a word
pub digits_are : (n : ℕ) (bytes : List ℕ) → n < 2 ^ 32 → bytes ≡ encode_lower (to_be_bytes w32 n) → bytes ≡ hex_text 8 n
unfolding hex_text
digits_are n bytes fits is = is ∙ word-digits n fits

-- those of an external file's name
two-out : (k : ℕ) (ds : List ℕ) → k ≤ 6 → drop 2 (replicate (8 - k) 48 ++ ds) ≡ replicate (6 - k) 48 ++ ds
two-out k ds few = let more : 8 - k ≡ suc (suc (6 - k)) = omega arith in ap (λ (z : ℕ). drop 2 (replicate z 48 ++ ds)) more

one-out : (k : ℕ) (ds : List ℕ) → k ≡ 7 → drop 1 (replicate (8 - k) 48 ++ ds) ≡ replicate (6 - k) 48 ++ ds
one-out k ds is = ap (λ (z : ℕ). drop 1 (replicate (8 - z) 48 ++ ds)) is ∙ ap (λ (z : ℕ). replicate (6 - z) 48 ++ ds) (sym is)

none-out : (k : ℕ) (ds : List ℕ) → k ≡ 8 → drop 0 (replicate (8 - k) 48 ++ ds) ≡ replicate (6 - k) 48 ++ ds
none-out k ds is = ap (λ (z : ℕ). drop 0 (replicate (8 - z) 48 ++ ds)) is ∙ ap (λ (z : ℕ). replicate (6 - z) 48 ++ ds) (sym is)

pub leaves_two : (n : ℕ) → n < 2 ^ 24 → drop 2 (hex_text 8 n) ≡ hex_text 6 n
unfolding hex_text
leaves_two n few = two-out (length (digits 16 false n)) (digits 16 false n) (digits-few 5 n (omega (arith, few)) (omega (arith, few)))

pub leaves_one : (n : ℕ) → 2 ^ 24 ≤ n → n < 2 ^ 28 → drop 1 (hex_text 8 n) ≡ hex_text 6 n
unfolding hex_text
leaves_one n enough few = one-out (length (digits 16 false n)) (digits 16 false n) (digits-many 6 n (omega (arith, enough)) (omega (arith, few)) (omega (arith, few)))

pub leaves_none : (n : ℕ) → 2 ^ 28 ≤ n → n < 2 ^ 32 → drop 0 (hex_text 8 n) ≡ hex_text 6 n
unfolding hex_text
leaves_none n enough few = none-out (length (digits 16 false n)) (digits 16 false n) (digits-many 7 n (omega (arith, enough)) (omega (arith, few)) (omega (arith, few)))

-- what is left of the digits
pub rest_of_digits : (z : ℕ) (ds : List ℕ) (n : ℕ) → length ds ≡ 8 → ds ≡ hex_text 8 n → drop z (hex_text 8 n) ≡ hex_text 6 n → take (8 - z) (drop z ds) ≡ hex_text 6 n
rest_of_digits z ds n eight are six = take_all (8 - z) (drop z ds) (let h = length-drop z ds in omega (arith, h, eight)) ∙ ap (drop z) are ∙ six

-- the pieces of a failed check after the file's name, and the whole line
pieces : List ℕ → List ℕ → List ℕ → List ℕ
pieces name at found = name ++ (codes " " ++ (at ++ (codes " " ++ (found ++ (codes "\n" ++ [])))))

pieces_line : (name at found : List ℕ) → pieces name at found ≡ (name ++ (codes " " ++ (at ++ (codes " " ++ found)))) ++ codes "\n"
unfolding pieces
pieces_line name at found =
    ap (λ (l : List ℕ). name ++ (codes " " ++ l)) (sym (append_assoc at (codes " " ++ found) (codes "\n")))
    ∙ sym (append_assoc name (codes " " ++ (at ++ (codes " " ++ found))) (codes "\n"))

line_is : (damage : Damage) (file : FileId) (at found : List ℕ) → damage.file ≡ file → at ≡ decimal damage.at → found ≡ hex_text 8 damage.found → codes "damaged " ++ pieces (name_of (file_of file)) at found ≡ damage_line (damage_of damage)
unfolding damage_text
line_is damage file at found is place word =
    ap (λ (f : FileId). codes "damaged " ++ pieces (name_of (file_of f)) at found) (sym is)
    ∙ ap (λ (l : List ℕ). codes "damaged " ++ pieces (name_of (file_of damage.file)) l found) place
    ∙ ap (λ (l : List ℕ). codes "damaged " ++ pieces (name_of (file_of damage.file)) (decimal damage.at) l) word
    ∙ ap (λ (l : List ℕ). codes "damaged " ++ l) (pieces_line (name_of (file_of damage.file)) (decimal damage.at) (hex_text 8 damage.found))

-- the pieces of a failed check of the index, of a block file and of an external file
pub index_line : (damage : Damage) (at found : List ℕ) → damage.file ≡ names.Index → at ≡ decimal damage.at → found ≡ hex_text 8 damage.found → codes "damaged index " ++ (at ++ (codes " " ++ (found ++ (codes "\n" ++ [])))) ≡ damage_line (damage_of damage)
unfolding pieces name_of
index_line damage at found is place word = line_is damage names.Index at found is place word

pub block_line : (damage : Damage) (n : ℕ) (number at found : List ℕ) → damage.file ≡ names.Block n → number ≡ decimal n → at ≡ decimal damage.at → found ≡ hex_text 8 damage.found
    → codes "damaged data_" ++ (number ++ (codes " " ++ (at ++ (codes " " ++ (found ++ (codes "\n" ++ [])))))) ≡ damage_line (damage_of damage)
unfolding pieces name_of
block_line damage n number at found is digits place word =
    ap (λ (l : List ℕ). codes "damaged data_" ++ (l ++ (codes " " ++ (at ++ (codes " " ++ (found ++ (codes "\n" ++ []))))))) digits
    ∙ line_is damage (names.Block n) at found is place word

pub external_line : (damage : Damage) (n : ℕ) (number at found : List ℕ) → damage.file ≡ names.External n → number ≡ hex_text 6 n → at ≡ decimal damage.at → found ≡ hex_text 8 damage.found
    → codes "damaged f_" ++ (number ++ (codes " " ++ (at ++ (codes " " ++ (found ++ (codes "\n" ++ [])))))) ≡ damage_line (damage_of damage)
unfolding pieces name_of
external_line damage n number at found is digits place word =
    ap (λ (l : List ℕ). codes "damaged f_" ++ (l ++ (codes " " ++ (at ++ (codes " " ++ (found ++ (codes "\n" ++ []))))))) digits
    ∙ line_is damage (names.External n) at found is place word
