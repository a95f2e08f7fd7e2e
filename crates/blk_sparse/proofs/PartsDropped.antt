-- The parts of a key are removed in one walk.
use Rattle.std.proofs.Common.{◌≡◌, ◌+◌, ◌≤◌, ℕ, List, [], ◌∷◌, ◌++◌, length, length-append, append_assoc, map, refl, ap, sym, ◌∙◌, subst, arith, Bool, Option, None, Some}
use Rattle.std.specs.Prelude.{filter}
use Rattle.std.specs.List.{FoldsTo}
use Rattle.std.specs.Option.{ForSome}
use Rattle.std.proofs.lemmas.List.{length-map}
use Rattle.spec_image.specs.Image.{Image}
use Rattle.spec_image.specs.Told.{Passes, Told}
use Rattle.spec_image.proofs.Runs.{passes_then, some_inj}
use Rattle.blk_model.specs.Effects.{doomed}
use Rattle.blk_model.specs.Holding.{rest}
use Rattle.blk_model.specs.Items.{Item, part}
use Rattle.blk_model.specs.Room.{parts_among}
use Rattle.blk_model.specs.State.{Object, State}
use Rattle.spec_folder.specs.Layout.{Layout}
use Rattle.blk_stream.proofs.Joined.{told_then}
use Rattle.law_state.specs.Changes.{Finds, SameSession}
use Rattle.law_state.specs.PartlyOut.{keeps_but}
use Rattle.blk_object.specs.ListedParts.{HaveNoPart}
use Rattle.blk_object.specs.UnlinkedLoads.{KeepsUnlinked}
use Rattle.blk_object.proofs.PartsLeft.{none-left}
use Rattle.blk_object.proofs.Sessions.{then-session}
use Rattle.blk_sparse.specs.Dropping.{AreGone, AreLeft, ForEachLeft, HasSignature, IsCalledOverPrefix, IsDropOfNext, IsNextOut, IsWholeDropped}
use Rattle.blk_sparse.specs.declared.dropping.Dropped.{Dropped}
use Rattle.blk_sparse.specs.declared.dropping.Gone.{Gone}
use Rattle.blk_sparse.proofs.PartsOut.{stays-passes}
use Rattle.blk_sparse.proofs.PartsNext.{same-session, same-unlinked}
use Rattle.blk_sparse.proofs.Walking.{IsWalked, walked-begin, walked-end, walked-next, without-one}

-- where the loop is: what was left at first is left but for the parts that were removed, in the folder as it is now
pub record IsDropping (E : Type 0) (call : E → ℕ → E → Type 0) (old now : Told) (state : State) (layout : Layout) (keep : Item → Bool) (unlinked key : List ℕ) (number : ℕ) (object : Object) (from : Image) (at : Option ℕ) (turn : ℕ) (gone : Gone) (each last : E) : Type 0 where
  pub image : Image
  pub told : now.files ≡ Some image
  pub keeps : Item → Bool
  pub chains : ℕ → List ℕ
  pub left : AreLeft state layout keeps chains unlinked key number object image
  pub session : SameSession from image
  pub unlinked_keeps : KeepsUnlinked unlinked from image
  pub passes : Passes old now (Finds (rest (doomed number state (Some object))))
  pub walked : IsWalked E call layout key (filter keep state.uses) (filter keeps state.uses) at gone.items gone.bytes each last
  pub turns : turn + length (filter keeps state.uses) ≤ 131072

-- so it is wherever parts were left
abbrev pub AreDropping : (E : Type 0) (call : E → ℕ → E → Type 0) (old now : Told) (key : List ℕ) (signature : ℕ) (at : Option ℕ) (turn : ℕ) (gone : Gone) (each last : E) → Image → Type 0
AreDropping E call old now key signature at turn gone each last from =
    ForEachLeft key signature from (λ (state : State) (layout : Layout) (keep : Item → Bool) (unlinked : List ℕ) (number : ℕ) (object : Object). IsDropping E call old now state layout keep unlinked key number object from at turn gone each last)

-- at first
pub dropping-begins : (E : Type 0) (call : E → ℕ → E → Type 0) (old : Told) (key : List ℕ) (signature : ℕ) (each : E) (from : Image) → old.files ≡ Some from
    → ((state : State) (layout : Layout) (keep : Item → Bool) (chains : ℕ → List ℕ) (unlinked : List ℕ) (number : ℕ) (object : Object) → AreLeft state layout keep chains unlinked key number object from → Finds (rest (doomed number state (Some object))) from)
    → AreDropping E call old old key signature None 0 (record { items = 0; bytes = 0 }) each each from
dropping-begins E call old key signature each from there finds state layout keep chains unlinked number object left sig = record {
  image = from;
  told = there;
  keeps = keep;
  chains = chains;
  left = left;
  session = same-session from from refl;
  unlinked_keeps = same-unlinked unlinked from from refl;
  passes = stays-passes old old from (Finds (rest (doomed number state (Some object)))) there refl (finds state layout keep chains unlinked number object left);
  walked = walked-begin E call layout key (filter keep state.uses) each;
  turns = let few = left.kept.list.whole.few in let many = length-map (filter keep state.uses) layout.place in omega (arith, few, many);
}

module _ (E : Type 0) (call : E → ℕ → E → Type 0) (old now : Told) (state : State) (layout : Layout) (keep : Item → Bool) (unlinked key : List ℕ) (number : ℕ) (object : Object) (from : Image) (at : Option ℕ) (turn : ℕ) (gone : Gone) (each last : E) (d : IsDropping E call old now state layout keep unlinked key number object from at turn gone each last) where
  -- the numbers that `each` was called with so far are a prefix of all
  pub called-prefix : IsCalledOverPrefix E call (parts_among key (filter keep state.uses)) each last
  called-prefix = record { front = d.walked.done; others = parts_among key d.walked.is.items; split = d.walked.split; called = d.walked.called }

  -- one part more
  pub dropping-next : (new : Told) (signature : ℕ) (dropped : Dropped) (more : Gone) (then_is : E) → HasSignature layout key signature → more.items ≡ gone.items + 1 → more.bytes ≡ gone.bytes + dropped.charge → call last dropped.number then_is
      → Passes now new (Finds (rest (doomed number state (Some object)))) → ForSome new.files (SameSession d.image) → ForSome new.files (KeepsUnlinked unlinked d.image) → ForSome new.files (IsDropOfNext key d.walked.is.items (IsNextOut state layout d.keeps unlinked key number object d.walked.is.front d.walked.is.items) (Some dropped) d.image)
      → IsDropping E call old new state layout keep unlinked key number object from dropped.behind (turn + 1) more each then_is
  dropping-next new signature dropped more then_is sig items bytes step passes session keeps out =
      let mid = told_then now new d.image (Finds (rest (doomed number state (Some object)))) d.told passes in
      let o : IsNextOut state layout d.keeps unlinked key number object d.walked.is.front d.walked.is.items dropped mid.image = out mid.image mid.is in
      let item : Item = part key dropped.number in
      let w = walked-next E call state layout d.keeps key (filter keep state.uses) at gone.items gone.bytes each last d.walked dropped.number dropped.charge o.passed o.behind dropped.behind o.was then_is o.split o.none o.last o.here o.charge_is d.left.kept.list.whole.distinct step in
      record {
        image = mid.image;
        told = mid.is;
        keeps = keeps_but d.keeps item;
        chains = o.chains;
        left = o.left;
        session = then-session from d.image mid.image d.session (session mid.image mid.is);
        unlinked_keeps = λ s n l lies. keeps mid.image mid.is s n l (d.unlinked_keeps s n l lies);
        passes = passes_then d.passes passes;
        walked = subst (λ (n : ℕ). IsWalked E call layout key (filter keep state.uses) (filter (keeps_but d.keeps item) state.uses) dropped.behind n more.bytes each then_is) (sym items)
            (subst (λ (n : ℕ). IsWalked E call layout key (filter keep state.uses) (filter (keeps_but d.keeps item) state.uses) dropped.behind (gone.items + 1) n each then_is) (sym bytes) w);
        turns = fewer o;
      }
    where
      split-of : (passed behind : List Item) → d.walked.is.items ≡ passed ++ part key dropped.number ∷ behind → filter d.keeps state.uses ≡ (d.walked.is.front ++ passed) ++ part key dropped.number ∷ behind
      split-of passed behind split = d.walked.is.split ∙ ap (λ (xs : List Item). d.walked.is.front ++ xs) split ∙ sym (append_assoc d.walked.is.front passed (part key dropped.number ∷ behind))

      fewer : {image : Image} → IsNextOut state layout d.keeps unlinked key number object d.walked.is.front d.walked.is.items dropped image → turn + 1 + length (filter (keeps_but d.keeps (part key dropped.number)) state.uses) ≤ 131072
      fewer o =
          let whole : filter d.keeps state.uses ≡ (d.walked.is.front ++ o.passed) ++ part key dropped.number ∷ o.behind = split-of o.passed o.behind o.split in
          let rest = without-one state layout d.keeps (part key dropped.number) (d.walked.is.front ++ o.passed) o.behind whole d.left.kept.list.whole.distinct in
          let one = ap (λ (xs : List Item). length xs) whole in
          let two = ap (λ (xs : List Item). length xs) rest in
          let three = length-append (d.walked.is.front ++ o.passed) (part key dropped.number ∷ o.behind) in
          let four = length-append (d.walked.is.front ++ o.passed) o.behind in
          let turns = d.turns in
          omega (arith, one, two, three, four, turns)

  -- where a search finds none
  pub dropped-none : (new : Told) → Passes now new (Finds (rest (doomed number state (Some object)))) → ForSome new.files (IsDropOfNext key d.walked.is.items (IsNextOut state layout d.keeps unlinked key number object d.walked.is.front d.walked.is.items) None d.image) → HaveNoPart key d.walked.is.items
  dropped-none new passes none = let mid = told_then now new d.image (Finds (rest (doomed number state (Some object)))) d.told passes in (none mid.image mid.is).0

  -- where none is left
  pub record IsDropped (now_is : Image) : Type 0 where
    pub out : IsWholeDropped state layout unlinked key now_is
    pub called : FoldsTo call each (parts_among key (filter keep state.uses)) last
    pub gone_is : AreGone layout (map (part key) (parts_among key (filter keep state.uses))) gone

  pub dropped-all : HaveNoPart key d.walked.is.items → IsDropped d.image
  dropped-all none =
      let all = walked-end E call state layout d.keeps key (filter keep state.uses) at gone.items gone.bytes each last d.walked none in
      let whole = none-left state layout d.keeps d.chains unlinked key d.image d.left.kept d.left.counted d.left.others all.none in
      record {
        out = record { chains = d.chains; kept = whole.0; counted = whole.1 };
        called = all.called;
        gone_is = record { many = all.many; charged = all.sum };
      }

  -- so it is after as many iterations as there are nodes at most
  pub turns-over : 131072 ≤ turn → HaveNoPart key d.walked.is.items
  turns-over over = nothing d.walked.is.items (let turns = d.turns in let one = ap (λ (xs : List Item). length xs) d.walked.is.split in let two = length-append d.walked.is.front d.walked.is.items in omega (arith, over, turns, one, two)) where
    nothing : (items : List Item) → length items ≡ 0 → HaveNoPart key items
    nothing [] e = tt
    nothing (i ∷ items) e = absurd (omega (arith, e))

  -- what holds in the end
  pub record IsEnd (new : Told) : Type 0 where
    pub out : ForSome new.files (IsWholeDropped state layout unlinked key)
    pub session : ForSome new.files (SameSession from)
    pub keeps : ForSome new.files (KeepsUnlinked unlinked from)
    pub called : FoldsTo call each (parts_among key (filter keep state.uses)) last
    pub gone_is : AreGone layout (map (part key) (parts_among key (filter keep state.uses))) gone
    pub passes : Passes old new (Finds (rest (doomed number state (Some object))))

  end-of : (new : Told) → Passes old new (Finds (rest (doomed number state (Some object)))) → ((image : Image) → new.files ≡ Some image → image ≡ d.image) → HaveNoPart key d.walked.is.items → IsEnd new
  end-of new passes same none =
      let all = dropped-all none in
      record {
        out = λ image is. subst (IsWholeDropped state layout unlinked key) (sym (same image is)) all.out;
        session = λ image is. subst (SameSession from) (sym (same image is)) d.session;
        keeps = λ image is. subst (KeepsUnlinked unlinked from) (sym (same image is)) d.unlinked_keeps;
        called = all.called;
        gone_is = all.gone_is;
        passes = passes;
      }

  -- where a search finds none
  pub ends-none : (new : Told) (next : Option Dropped) → next ≡ None → Passes now new (Finds (rest (doomed number state (Some object)))) → ForSome new.files (IsDropOfNext key d.walked.is.items (IsNextOut state layout d.keeps unlinked key number object d.walked.is.front d.walked.is.items) next d.image) → IsEnd new
  ends-none new next none passes h =
      let drop : ForSome new.files (IsDropOfNext key d.walked.is.items (IsNextOut state layout d.keeps unlinked key number object d.walked.is.front d.walked.is.items) None d.image) = λ image is. subst (λ (o : Option Dropped). IsDropOfNext key d.walked.is.items (IsNextOut state layout d.keeps unlinked key number object d.walked.is.front d.walked.is.items) o d.image image) none (h image is) in
      end-of new (passes_then d.passes passes) (λ image is. (drop image is).1) (dropped-none new passes drop)

  -- and where all iterations are over
  pub ends-over : 131072 ≤ turn → IsEnd now
  ends-over over = end-of now d.passes (λ image is. some_inj (sym is ∙ d.told)) (turns-over over)
