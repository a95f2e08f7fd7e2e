-- The whole input is read, piece by piece.
use Rattle.std.proofs.Common.{◌≡◌, ℕ, ◌+◌, ◌-◌, ◌<◌, ◌≤◌, List, [], ◌∷◌, ◌++◌, Option, Some, get_or, length, take, drop, sym, ◌∙◌, ap, arith, append_assoc}
use Rattle.std.specs.Option.{option_map}
use Rattle.std.proofs.Math.Seq.{take-append-add}
use Rattle.std.proofs.lemmas.List.{append-nil, drop-drop, drop_all, length-append, length-drop, length-take, take-append-drop, take_all, take_more}
use Rattle.std.proofs.lemmas.Slice.{take-put_mid_below}
use borrow.Rule.Slice.PartMut.{mid_of, put_mid}
use Rattle.blk_run.specs.Inputs.{IsTakenPast, IsTakenUpTo}
use Rattle.blk_run.specs.WholeInputs.{IsTakenSoFar, IsWholeInBuffer}

-- the buffer that is left
pub room_left : (len : ℕ) (buffer : List ℕ) → len ≤ length buffer → length (mid_of len (length buffer - len) buffer) ≡ length buffer - len
room_left len buffer within = length-take (length buffer - len) (drop len buffer) ∙ (let d = length-drop len buffer in omega (arith, d, within))

no_rest : (len : ℕ) (buffer new : List ℕ) → len ≤ length buffer → put_mid len (length buffer - len) buffer new ≡ take len buffer ++ new
no_rest len buffer new within =
    ap (λ (l : List ℕ). take len buffer ++ (new ++ l)) (drop_all (length buffer - len) (drop len buffer) (let d = length-drop len buffer in omega (arith, d))) ∙ ap (λ (l : List ℕ). take len buffer ++ l) (append-nil new)

module _ (len n : ℕ) (buffer new bytes : List ℕ) (within : len < length buffer) (same : length new ≡ length buffer - len) (count : n ≤ length (drop len bytes)) (front : take n new ≡ take n (drop len bytes)) where
  take_len : length (take len buffer) ≡ len
  take_len = length-take len buffer ∙ omega (arith, within)

  -- more bytes are in the buffer
  pub taken_more : {left : Option (List ℕ)} {next : Option (List ℕ)} → IsTakenSoFar len left buffer bytes → n ≤ length new → next ≡ option_map (drop n) left → IsTakenSoFar (len + n) next (put_mid len (length buffer - len) buffer new) bytes
  taken_more so few is = record {
    are =
        ap (take (len + n)) (no_rest len buffer new (omega (arith, within)))
        ∙ ap (λ (k : ℕ). take (k + n) (take len buffer ++ new)) (sym take_len) ∙ take-append-add (take len buffer) new n
        ∙ ap (λ (l : List ℕ). l ++ take n new) so.are ∙ ap (λ (l : List ℕ). take len bytes ++ l) front ∙ both;
    within = let c = count in let d = length-drop len bytes in let w = so.within in omega (arith, c, d, w);
    left_is = is ∙ ap (option_map (drop n)) so.left_is ∙ ap Some (drop-drop n len bytes);
  }
    where
      both : take len bytes ++ take n (drop len bytes) ≡ take (len + n) bytes
      both =
          let have : length (take len bytes) ≡ len = (let w = so.within in length-take len bytes ∙ omega (arith, w)) in
          sym (take-append-add (take len bytes) (drop len bytes) n) ∙ ap (λ (k : ℕ). take (k + n) (take len bytes ++ drop len bytes)) have ∙ ap (take (len + n)) (take-append-drop len bytes)

  -- none is left
  pub taken_all : {left : Option (List ℕ)} {next : Option (List ℕ)} → IsTakenSoFar len left buffer bytes → len ≤ 1048576 → drop len bytes ≡ [] → next ≡ option_map (drop n) left → IsWholeInBuffer len next (put_mid len (length buffer - len) buffer new) bytes
  taken_all so few end is =
      let long : length bytes ≤ len = (let d = length-drop len bytes in let z : length (drop len bytes) ≡ 0 = ap length end in omega (arith, d, z)) in
      record {
        are = take-put_mid_below len (length buffer - len) buffer new len (omega arith) (omega (arith, within)) ∙ so.are ∙ take_all len bytes long;
        within = few;
        none_left = is ∙ ap (option_map (drop n)) so.left_is ∙ ap (λ (l : List ℕ). Some (drop n l)) end ∙ ap Some (drop_all n [] (omega arith));
      }

-- the buffer keeps its length
pub placed_length : (len : ℕ) (buffer new : List ℕ) → len ≤ length buffer → length new ≡ length buffer - len → length (put_mid len (length buffer - len) buffer new) ≡ length buffer
placed_length len buffer new within same =
    ap length (no_rest len buffer new within) ∙ (let a = length-append (take len buffer) new in let t = length-take len buffer in omega (arith, a, t, same, within))

-- what was taken is a prefix of the input
pub taken_front : (most len : ℕ) (buffer bytes : List ℕ) {left next : Option (List ℕ)} → IsTakenSoFar len left buffer bytes → len ≤ most → next ≡ left → IsTakenUpTo most next bytes
taken_front most len buffer bytes so few same = (
  take len bytes,
  record {
    behind = drop len bytes;
    split = sym (take-append-drop len bytes);
    left_is = same ∙ so.left_is;
    within = let t = length-take len bytes in let w = so.within in omega (arith, t, w, few);
  },
)

-- and it is one byte more than may be
pub taken_past : (most len : ℕ) (buffer bytes : List ℕ) {left : Option (List ℕ)} → IsTakenSoFar len left buffer bytes → len ≡ most + 1 → IsTakenPast most left bytes
taken_past most len buffer bytes so past =
    let within : most < length bytes = let w = so.within in omega (arith, w, past) in
    let byte = get_or bytes most 0 in
    let front : take len bytes ≡ take most bytes ++ byte ∷ [] = ap (λ (k : ℕ). take k bytes) past ∙ take_more bytes most 0 within in (
      take most bytes,
      record {
        byte_more = byte;
        behind = drop len bytes;
        split = sym (take-append-drop len bytes) ∙ ap (λ (l : List ℕ). l ++ drop len bytes) front ∙ append_assoc (take most bytes) (byte ∷ []) (drop len bytes);
        whole = let t = length-take most bytes in omega (arith, t, within);
        left_is = so.left_is;
      },
    )

-- no byte was moved
pub none_moved : (n : ℕ) (bytes : List ℕ) → n ≡ 0 → n ≤ length bytes
none_moved n bytes none = omega (arith, none)

pub none_front : (n : ℕ) (new bytes : List ℕ) → n ≡ 0 → take n new ≡ take n bytes
none_front n new bytes none = ap (λ (k : ℕ). take k new) none ∙ sym (ap (λ (k : ℕ). take k bytes) none)
