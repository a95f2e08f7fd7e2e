-- Parts that are evicted are printed, one after another.
use Rattle.std.proofs.Common.{◌≡◌, ℕ, Bool, List, [], ◌∷◌, ◌++◌, map, Option, sym, ap, subst, ◌∙◌, append-nil}
use Rattle.std.specs.List.{flat_map}
use Rattle.std.proofs.lemmas.Grind.{flat_map-append}
use Rattle.std.proofs.lemmas.List.{map-append}
use Rattle.blk_model.specs.Items.{part}
use Rattle.blk_script.specs.Reply.{evicted_line}
use Rattle.blk_evict.specs.EvictingGroups.{text_of_parts}
use Rattle.blk_evict.specs.RoomPrinting.{FailsWhereItRose, PrintsUnlessFailed}
use Rattle.blk_io.specs.Streams.{Appends, GoesOn}
use Rattle.blk_io.proofs.GoingOn.{goes_on, stays_on}
use Rattle.blk_evict.proofs.RoomTexts.{appends-longer, faults-on, none-printed, printed-on, same-fails}

-- some parts of a key were printed, unless the output failed
pub record HavePrinted {K : Type 0} (is : K → List ℕ) (written : K → Option (List ℕ)) (faults : K → ℕ) (key : List ℕ) (failed_before failed : Bool) (old new : K) (numbers : List ℕ) : Type 0 where
  pub prints : PrintsUnlessFailed failed_before failed (written old) (written new) (text_of_parts key numbers)
  pub fails : FailsWhereItRose failed_before failed (faults old) (faults new)
  pub later : GoesOn is faults old new

pub printed-none : {K : Type 0} (is : K → List ℕ) (written : K → Option (List ℕ)) (faults : K → ℕ) (key : List ℕ) (failed : Bool) (out : K) → HavePrinted is written faults key failed failed out out []
printed-none is written faults key failed out = record { prints = none-printed failed (written out); fails = same-fails failed (faults out) (faults out); later = stays_on }

text-more : (key numbers : List ℕ) (n : ℕ) → text_of_parts key numbers ++ evicted_line (part key n) ≡ text_of_parts key (numbers ++ n ∷ [])
text-more key numbers n =
    ap (λ (l : List ℕ). text_of_parts key numbers ++ l) (sym (append-nil (evicted_line (part key n))))
    ∙ sym (flat_map-append evicted_line (map (part key) numbers) (part key n ∷ []))
    ∙ ap (flat_map evicted_line) (sym (map-append (part key) numbers (n ∷ [])))

pub printed-more : {K : Type 0} (is : K → List ℕ) (written : K → Option (List ℕ)) (faults : K → ℕ) (key : List ℕ) (failed_before failed after : Bool) (old mid new : K) (numbers : List ℕ) (n : ℕ) → HavePrinted is written faults key failed_before failed old mid numbers
    → PrintsUnlessFailed failed after (written mid) (written new) (evicted_line (part key n)) → FailsWhereItRose failed after (faults mid) (faults new) → GoesOn is faults mid new → HavePrinted is written faults key failed_before after old new (numbers ++ n ∷ [])
printed-more is written faults key failed_before failed after old mid new numbers n h prints fails later = record {
  prints = subst (λ (text : List ℕ). PrintsUnlessFailed failed_before after (written old) (written new) text) (text-more key numbers n) (printed-on failed_before failed after (written old) (written mid) (written new) (text_of_parts key numbers) (evicted_line (part key n)) h.prints prints);
  fails = faults-on failed_before failed after (faults old) (faults mid) (faults new) h.fails fails h.later.later later.later;
  later = goes_on h.later later;
}

-- a prefix of the parts is a prefix of their text
pub prefix-printed : (key numbers front others : List ℕ) (w0 w1 : Option (List ℕ)) → numbers ≡ front ++ others → Appends w0 w1 (text_of_parts key front) → Appends w0 w1 (text_of_parts key numbers)
prefix-printed key numbers front others w0 w1 split one =
    subst (Appends w0 w1) (sym (ap (text_of_parts key) split ∙ ap (flat_map evicted_line) (map-append (part key) front others) ∙ flat_map-append evicted_line (map (part key) front) (map (part key) others)))
    (appends-longer w0 w1 (text_of_parts key front) (text_of_parts key others) one)

-- what a closure borrowed is what it ended with
pub tied : {K : Type 0} (is : K → List ℕ) (written : K → Option (List ℕ)) (faults : K → ℕ) (key : List ℕ) (failed_before last_failed failed : Bool) (old last out : K) (numbers : List ℕ) → failed ≡ last_failed → out ≡ last
    → HavePrinted is written faults key failed_before last_failed old last numbers → HavePrinted is written faults key failed_before failed old out numbers
tied {K} is written faults key failed_before last_failed failed old last out numbers same_failed same_out h =
    subst (λ (b : Bool). HavePrinted is written faults key failed_before b old out numbers) (sym same_failed)
    (subst (λ (k : K). HavePrinted is written faults key failed_before last_failed old k numbers) (sym same_out) h)
