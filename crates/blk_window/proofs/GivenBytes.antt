-- The bytes that a read gave so far, page after page.
use Rattle.std.proofs.Common.{◌≡◌, ℕ, zero, suc, ◌+◌, ◌-◌, ◌<◌, ◌≤◌, List, [], ◌∷◌, ◌++◌, length, take, drop, min, refl, sym, ◌∙◌, ap, subst, arith, ◌⊎◌, inl, inr}
use Rattle.std.proofs.lemmas.List.{length-append, length-take-le, length-drop, drop-drop, take-append-le, drop-append-le}
use Rattle.std.proofs.Math.Seq.{take-append-add, drop-append-add, drop-append_seam}
use borrow.Rule.Slice.PartMut.{Post-is, put_mid}
use Rattle.spec_image.specs.Bytes.{range_at}
use Rattle.spec_image.specs.Image.{File, Image, byte, length_of}
use Rattle.spec_image.specs.Told.{GivesBytes}

-- so many bytes of the file, from a place on, are at the start of the buffer
pub record Given (image : Image) (file : File) (at given : ℕ) (now : List ℕ) : Type 0 where
  pub front : take given now ≡ range_at (byte image file) at given
  pub inside : (given ≡ 0) ⊎ (given ≤ length_of image file - at)

pub none_given : (image : Image) (file : File) (at : ℕ) (now : List ℕ) → Given image file at 0 now
unfolding range_at
none_given image file at now = record { front = refl; inside = inl refl }

range-append : (f : ℕ → ℕ) (a b i : ℕ) → range_at f i a ++ range_at f (i + a) b ≡ range_at f i (a + b)
unfolding range_at
range-append f zero b i = ap (λ j. range_at f j b) (none i) ∙ ap (range_at f i) (sum b)
  where
    none : (i : ℕ) → i + 0 ≡ i
    none i = omega arith

    sum : (b : ℕ) → b ≡ 0 + b
    sum b = omega arith
range-append f (suc a) b i = ap (λ l. f i ∷ l) (ap (λ j. range_at f (suc i) a ++ range_at f j b) (next i a) ∙ range-append f a b (suc i)) ∙ ap (range_at f i) (sum a b)
  where
    next : (i a : ℕ) → i + suc a ≡ suc i + a
    next i a = omega arith

    sum : (a b : ℕ) → suc (a + b) ≡ suc a + b
    sum a b = omega arith

take-behind : (xs ys : List ℕ) (n m : ℕ) → length xs ≡ n → take (n + m) (xs ++ ys) ≡ xs ++ take m ys
take-behind xs ys n m e = ap (λ k. take (k + m) (xs ++ ys)) (sym e) ∙ take-append-add xs ys m

drop-behind : (xs ys : List ℕ) (n m : ℕ) → length xs ≡ n → drop (n + m) (xs ++ ys) ≡ drop m ys
drop-behind xs ys n m e = ap (λ k. drop (k + m) (xs ++ ys)) (sym e) ∙ drop-append-add xs ys m

split-again : (m room : ℕ) (xs : List ℕ) → m ≤ room → drop m (take room xs) ++ drop room xs ≡ drop m xs
split-again zero zero xs e = refl
split-again zero (suc room) [] e = refl
split-again zero (suc room) (x ∷ xs) e = ap (λ l. x ∷ l) (split-again zero room xs (omega arith))
split-again (suc m) zero xs e = absurd (omega (arith, e))
split-again (suc m) (suc room) [] e = refl
split-again (suc m) (suc room) (x ∷ xs) e = split-again m room xs (omega (arith, e))

module _ (image : Image) (file : File) (at n given room m : ℕ) (now piece new : List ℕ) (g : Given image file at given now) (size : length now ≡ n) (fits : given + room ≤ n)
    (gives : GivesBytes image file (at + given) (take room (drop given now)) piece m) (long : length piece ≡ room) (is : new ≡ take given now ++ (piece ++ drop (given + room) now)) where
  begun : length (take given now) ≡ given
  begun = length-take-le given now (omega (arith, size, fits))

  asked : length (take room (drop given now)) ≡ room
  asked = length-take-le room (drop given now) (omega (arith, length-drop given now, size, fits))

  some : m ≤ room
  some = omega (arith, gives.many, asked)

  front : take (given + m) new ≡ range_at (byte image file) at (given + m)
  front =
      ap (take (given + m)) is ∙ take-behind (take given now) (piece ++ drop (given + room) now) given m begun
      ∙ ap (λ l. take given now ++ l) (take-append-le m piece (drop (given + room) now) (omega (arith, some, long)) ∙ gives.front)
      ∙ ap (λ l. l ++ range_at (byte image file) (at + given) m) g.front ∙ range-append (byte image file) given m at

  -- as many as were asked for, and some more may come
  pub given_more : m ≡ room → Given image file at (given + m) new
  given_more all = record { front = front; inside = by_inside g.inside }
    where
      by_inside : (given ≡ 0) ⊎ (given ≤ length_of image file - at) → (given + m ≡ 0) ⊎ (given + m ≤ length_of image file - at)
      by_inside (inl none) = by_room m refl
        where
          by_room : (k : ℕ) → m ≡ k → (given + m ≡ 0) ⊎ (given + m ≤ length_of image file - at)
          by_room zero e = inl (omega (arith, none, e))
          by_room (suc k) e = inr (omega (arith, none, e, all, gives.many, asked))
      by_inside (inr inside) = inr (omega (arith, inside, all, gives.many, asked))

  rest : drop (given + m) new ≡ drop (given + m) now
  rest =
      ap (drop (given + m)) is ∙ drop-behind (take given now) (piece ++ drop (given + room) now) given m begun
      ∙ drop-append-le m piece (drop (given + room) now) (omega (arith, some, long))
      ∙ ap (λ l. l ++ drop (given + room) now) gives.rest
      ∙ ap (λ l. drop m (take room (drop given now)) ++ l) (sym (drop-drop room given now))
      ∙ split-again m room (drop given now) some ∙ drop-drop m given now

  -- fewer than were asked for, or all
  pub given_all : (old : List ℕ) → length old ≡ n → drop given now ≡ drop given old → (m < room) ⊎ (given + m ≡ n) → GivesBytes image file at old new (given + m)
  given_all old same behind which = record {
    many = by_end which g.inside;
    front = front;
    rest = rest ∙ sym (drop-drop m given now) ∙ ap (drop m) behind ∙ drop-drop m given old;
  }
    where
      by_end : (m < room) ⊎ (given + m ≡ n) → (given ≡ 0) ⊎ (given ≤ length_of image file - at) → given + m ≡ min (length old) (length_of image file - at)
      by_end (inl short) (inl none) = omega (arith, short, none, gives.many, asked, same, fits)
      by_end (inl short) (inr inside) = omega (arith, short, inside, gives.many, asked, same, fits)
      by_end (inr all) (inl none) = omega (arith, all, none, gives.many, asked, same)
      by_end (inr all) (inr inside) = by_room m refl
        where
          by_room : (k : ℕ) → m ≡ k → given + m ≡ min (length old) (length_of image file - at)
          by_room zero e = omega (arith, all, inside, same, e)
          by_room (suc k) e = omega (arith, all, inside, gives.many, asked, same, e)

-- what is after the bytes that were given stays
pub rest_more : (given room : ℕ) (now piece new old : List ℕ) → given + room ≤ length now → length piece ≡ room → new ≡ take given now ++ (piece ++ drop (given + room) now) → drop given now ≡ drop given old → drop (given + room) new ≡ drop (given + room) old
rest_more given room now piece new old fits long is behind =
    ap (drop (given + room)) is ∙ drop-behind (take given now) (piece ++ drop (given + room) now) given room (length-take-le given now (omega (arith, fits)))
    ∙ ap (λ k. drop k (piece ++ drop (given + room) now)) (sym long) ∙ drop-append_seam piece (drop (given + room) now) ∙ sym (drop-drop room given now) ∙ ap (drop room) behind ∙ drop-drop room given old

-- all is given that was asked for
pub given_end : (image : Image) (file : File) (at given : ℕ) (now old : List ℕ) → Given image file at given now → given ≡ length old → drop given now ≡ drop given old → GivesBytes image file at old now given
given_end image file at given now old g all behind = record { many = by_inside g.inside; front = g.front; rest = behind }
  where
    by_inside : (given ≡ 0) ⊎ (given ≤ length_of image file - at) → given ≡ min (length old) (length_of image file - at)
    by_inside (inl none) = omega (arith, none, all)
    by_inside (inr inside) = omega (arith, inside, all)

-- a buffer with a part of it written over
pub put_part : (given room : ℕ) (now piece : List ℕ) → given + room ≤ length now → put_mid given (given + room - given) now piece ≡ take given now ++ (piece ++ drop (given + room) now)
put_part given room now piece fits = ap (λ (l : List ℕ). take given now ++ (piece ++ l)) (Post-is given (given + room) now (omega arith))

less_more : (given room : ℕ) → given + room - given ≡ room
less_more given room = omega arith

-- the part that is lent
pub part_length : (given room : ℕ) (now : List ℕ) → given + room ≤ length now → length (take (given + room - given) (drop given now)) ≡ room
part_length given room now fits = ap (λ k. length (take k (drop given now))) (less_more given room) ∙ length-take-le room (drop given now) (omega (arith, length-drop given now, fits))

pub gives_part : (image : Image) (file : File) (place given room m : ℕ) (now piece : List ℕ) → GivesBytes image file place (take (given + room - given) (drop given now)) piece m → GivesBytes image file place (take room (drop given now)) piece m
gives_part image file place given room m now piece g = subst (λ k. GivesBytes image file place (take k (drop given now)) piece m) (less_more given room) g

pub put_length : (given room : ℕ) (now piece : List ℕ) → given + room ≤ length now → length piece ≡ room → length (put_mid given (given + room - given) now piece) ≡ length now
put_length given room now piece fits long =
    ap length (put_part given room now piece fits)
    ∙ omega (arith, long, fits, length-append (take given now) (piece ++ drop (given + room) now), length-append piece (drop (given + room) now), length-drop (given + room) now, length-take-le given now (omega (arith, fits)))
