-- Texts are printed one after another, unless the output failed.
use Rattle.std.proofs.Common.{◌≡◌, ℕ, Bool, true, false, List, [], ◌++◌, Option, Some, None, refl, sym, ap, subst, ◌∙◌, append_assoc, append-nil, arith}
use Rattle.std.specs.Option.{option_map}
use Rattle.blk_io.specs.Streams.{Appends}
use Rattle.blk_evict.specs.RoomPrinting.{FailsWhereItRose, FaultsGoOn, NothingIsPrinted, PrintsUnlessFailed, PrintsGoOn, PrintsInPart}

-- nothing is at the end
pub none-behind : (old : Option (List ℕ)) → old ≡ option_map (λ (w : List ℕ). w ++ []) old
none-behind None = refl
none-behind (Some w) = ap Some (sym (append-nil w))

pub none-printed : NothingIsPrinted
none-printed failed old = record {
  silent = λ e. (e, refl);
  whole = λ e. none-behind old;
  front = record { front = []; rest = []; split = refl; written = none-behind old };
}

twice : (a b : List ℕ) (old between new : Option (List ℕ)) → between ≡ option_map (λ (w : List ℕ). w ++ a) old → new ≡ option_map (λ (w : List ℕ). w ++ b) between → new ≡ option_map (λ (w : List ℕ). w ++ (a ++ b)) old
twice a b None between new first second = second ∙ ap (option_map (λ (w : List ℕ). w ++ b)) first
twice a b (Some w) between new first second = second ∙ ap (option_map (λ (v : List ℕ). v ++ b)) first ∙ ap Some (append_assoc w a b)

module _ (before between failed : Bool) (w0 w1 w2 : Option (List ℕ)) (a b : List ℕ) (one : PrintsUnlessFailed before between w0 w1 a) (two : PrintsUnlessFailed between failed w1 w2 b) where
  -- where the output had not failed between
  went-on : between ≡ false → Appends w0 w2 (a ++ b)
  went-on e = record {
    front = a ++ two.front.front;
    rest = two.front.rest;
    split = ap (λ (l : List ℕ). a ++ l) two.front.split ∙ sym (append_assoc a two.front.front two.front.rest);
    written = twice a two.front.front w0 w1 w2 (one.whole e) two.front.written;
  }

  -- where the output had failed between
  stopped : between ≡ true → Appends w0 w2 (a ++ b)
  stopped e = record {
    front = one.front.front;
    rest = one.front.rest ++ b;
    split = ap (λ (l : List ℕ). l ++ b) one.front.split ∙ append_assoc one.front.front one.front.rest b;
    written = (two.silent e).1 ∙ one.front.written;
  }

  in-part : (c : Bool) → between ≡ c → Appends w0 w2 (a ++ b)
  in-part true e = stopped e
  in-part false e = went-on e

  not-failed : (c : Bool) → between ≡ c → failed ≡ false → between ≡ false
  not-failed true e f = absurd (let z : true ≡ false = sym ((two.silent e).0) ∙ f in cc)
  not-failed false e f = e

  both : PrintsUnlessFailed before failed w0 w2 (a ++ b)
  both = record {
    silent = λ e. let first = one.silent e in let second = two.silent first.0 in (second.0, second.1 ∙ first.1);
    whole = λ f. twice a b w0 w1 w2 (one.whole (not-failed between refl f)) (two.whole f);
    front = in-part between refl;
  }

pub printed-on : PrintsGoOn
printed-on before between failed w0 w1 w2 a b one two = both before between failed w0 w1 w2 a b one two

pub faults-on : FaultsGoOn
faults-on before true failed f0 f1 f2 one two le more = λ was now small. let up = one was refl (omega (arith, more, small)) in omega (arith, up, more)
faults-on before false failed f0 f1 f2 one two le more = λ was now small. let up = two refl now small in omega (arith, up, le)

-- ---- prefixes of texts

-- a prefix of a text is one of a longer text
pub appends-longer : (w0 w1 : Option (List ℕ)) (a b : List ℕ) → Appends w0 w1 a → Appends w0 w1 (a ++ b)
appends-longer w0 w1 a b one = record { front = one.front; rest = one.rest ++ b; split = ap (λ (l : List ℕ). l ++ b) one.split ∙ append_assoc one.front one.rest b; written = one.written }

-- a text was printed, and then a prefix of another one, or nothing where the output failed
pub appends-after : (failed_before failed : Bool) (w0 w1 w2 : Option (List ℕ)) (a b : List ℕ) → PrintsUnlessFailed failed_before failed w0 w1 a → (failed ≡ true → w2 ≡ w1) → Appends w1 w2 b → Appends w0 w2 (a ++ b)
appends-after failed_before failed w0 w1 w2 a b one quiet more = go failed refl where
  went-on : failed ≡ false → Appends w0 w2 (a ++ b)
  went-on e = record {
    front = a ++ more.front;
    rest = more.rest;
    split = ap (λ (l : List ℕ). a ++ l) more.split ∙ sym (append_assoc a more.front more.rest);
    written = twice a more.front w0 w1 w2 (one.whole e) more.written;
  }

  go : (c : Bool) → failed ≡ c → Appends w0 w2 (a ++ b)
  go true e = subst (λ (w : Option (List ℕ)). Appends w0 w (a ++ b)) (sym (quiet e)) (appends-longer w0 w1 a b one.front)
  go false e = went-on e

clash : true ≡ false → ⊥
clash h = cc

-- an output that is found to fail no more than before
pub same-fails : (failed : Bool) (before now : ℕ) → FailsWhereItRose failed failed before now
same-fails failed before now was is = absurd (clash (sym is ∙ was))

-- nothing was printed
pub part-none : (before : Bool) (old new : Option (List ℕ)) (text : List ℕ) → new ≡ old → PrintsInPart before old new text
part-none before old new text same = record { silent = λ e. same; front = record { front = []; rest = text; split = refl; written = same ∙ none-behind old } }

-- a text was printed
pub part-whole : (before failed : Bool) (old new : Option (List ℕ)) (text : List ℕ) → PrintsUnlessFailed before failed old new text → PrintsInPart before old new text
part-whole before failed old new text p = record { silent = λ e. (p.silent e).1; front = p.front }

-- a text was printed, and then a prefix of another
pub part-on : (before between : Bool) (w0 w1 w2 : Option (List ℕ)) (a b : List ℕ) → PrintsUnlessFailed before between w0 w1 a → PrintsInPart between w1 w2 b → PrintsInPart before w0 w2 (a ++ b)
part-on before between w0 w1 w2 a b one two = record { silent = λ e. two.silent (one.silent e).0 ∙ (one.silent e).1; front = appends-after before between w0 w1 w2 a b one two.silent two.front }
