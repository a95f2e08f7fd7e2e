-- Text is written to an output piece by piece.
use Rattle.std.proofs.Common.{◌≡◌, List, [], ◌++◌, ℕ, ◌^◌, ◌-◌, ◌<◌, ◌≤◌, Option, Some, None, refl, sym, ap, ◌∙◌, arith, append_assoc}
use Rattle.std.proofs.lemmas.List.{append-nil}
use Rattle.std.specs.Option.{option_map}
use Rattle.blk_io.specs.Streams.{Appends}

-- a prefix of the text was put, and the rest is still to come
pub record IsPutUpTo (old new : Option (List ℕ)) (text rest : List ℕ) : Type 0 where
  pub front : List ℕ
  pub split : text ≡ front ++ rest
  pub put : new ≡ option_map (λ (w : List ℕ). w ++ front) old

-- nothing is put yet
pub not_yet : (old : Option (List ℕ)) (text : List ℕ) → IsPutUpTo old old text text
not_yet None text = record { front = []; split = refl; put = refl }
not_yet (Some w) text = record { front = []; split = refl; put = ap Some (sym (append-nil w)) }

put_twice : (old : Option (List ℕ)) (front piece : List ℕ) → option_map (λ (w : List ℕ). w ++ piece) (option_map (λ (w : List ℕ). w ++ front) old) ≡ option_map (λ (w : List ℕ). w ++ (front ++ piece)) old
put_twice None front piece = refl
put_twice (Some w) front piece = ap Some (append_assoc w front piece)

-- one more piece was put
pub put_more : (old mid new : Option (List ℕ)) (text left piece rest : List ℕ) → IsPutUpTo old mid text left → left ≡ piece ++ rest → new ≡ option_map (λ (w : List ℕ). w ++ piece) mid → IsPutUpTo old new text rest
put_more old mid new text left piece rest so cut e = record {
  front = so.front ++ piece;
  split = so.split ∙ ap (λ (p : List ℕ). so.front ++ p) cut ∙ sym (append_assoc so.front piece rest);
  put = e ∙ ap (option_map (λ (w : List ℕ). w ++ piece)) so.put ∙ put_twice old so.front piece;
}

-- only a prefix of the next piece was put
pub put_partly : (old mid new : Option (List ℕ)) (text left piece rest : List ℕ) → IsPutUpTo old mid text left → left ≡ piece ++ rest → Appends mid new piece → Appends old new text
put_partly old mid new text left piece rest so cut last = record {
  front = so.front ++ last.front;
  rest = last.rest ++ rest;
  split = so.split ∙ ap (λ (p : List ℕ). so.front ++ p) cut ∙ ap (λ (p : List ℕ). so.front ++ (p ++ rest)) last.split ∙ ap (λ (p : List ℕ). so.front ++ p) (append_assoc last.front last.rest rest) ∙ sym (append_assoc so.front last.front (last.rest ++ rest));
  written = last.written ∙ ap (option_map (λ (w : List ℕ). w ++ last.front)) so.put ∙ put_twice old so.front last.front;
}

-- all is put
pub put_whole : (old new : Option (List ℕ)) (text : List ℕ) → IsPutUpTo old new text [] → new ≡ option_map (λ (w : List ℕ). w ++ text) old
put_whole old new text so = so.put ∙ ap (λ (t : List ℕ). option_map (λ (w : List ℕ). w ++ t) old) (sym (append-nil so.front) ∙ sym so.split)

-- so far a prefix is put
pub put_so_far : (old new : Option (List ℕ)) (text rest : List ℕ) → IsPutUpTo old new text rest → Appends old new text
put_so_far old new text rest so = record { front = so.front; rest = rest; split = so.split; written = so.put }

-- the count of faults rose in the end, where it never falls
pub rises_later : (a b c : ℕ) → a ≤ b → (c < 2 ^ 64 - 1 → b < c) → c < 2 ^ 64 - 1 → a < c
rises_later a b c le rises small = let up = rises small in omega arith
