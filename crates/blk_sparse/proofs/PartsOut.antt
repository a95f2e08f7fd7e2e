-- A part that isn't out is found by its name, and removed.
use Rattle.std.proofs.Common.{◌≡◌, ℕ, List, ap, sym, ◌∙◌, subst, refl, Bool, true, false, Option, None, Some, Ok, Err}
use Rattle.std.specs.Option.{ForSome}
use Rattle.std.specs.Prelude.{IfOk, if◌then◌else◌}
use Rattle.std.specs.Str.{bytes_eq}
use Rattle.blk_model.proofs.Same.{same_bytes}
use Rattle.std.specs.declared.result.Result.{Result}
use Rattle.spec_image.specs.Image.{Image}
use Rattle.spec_image.specs.Told.{Passes, Told}
use Rattle.spec_image.proofs.Runs.{passes_none, some_inj}
use Rattle.blk_model.specs.Effects.{doomed}
use Rattle.blk_model.specs.Holding.{rest}
use Rattle.blk_model.specs.Items.{Item, part}
use Rattle.blk_model.specs.State.{Object, State}
use Rattle.spec_format.specs.Names.{Name, child_name, read_name}
use Rattle.spec_folder.specs.Layout.{Layout}
use Rattle.spec_folder.specs.Loads.{Loaded}
use Rattle.blk_chain.specs.declared.found.Found.{Found}
use Rattle.blk_chain.specs.Finding.{CanBeSearched, IsAnswer}
use Rattle.law_state.specs.Changes.{Finds}
use Rattle.law_state.proofs.PartlyOutStops.{partly-out-finds}
use Rattle.blk_object.specs.FailedChecks.{IsOfSamePart}
use Rattle.blk_object.specs.FindingOut.{IsFoundLeft}
use Rattle.blk_object.specs.ListedParts.{number_said}
use Rattle.blk_object.specs.NextItems.{IsOutAndCounted, LiesNext}
use Rattle.blk_object.specs.Owning.{LoadsWith}
use Rattle.blk_object.proofs.FoundLeft.{can-search, left-found}
use Rattle.blk_object.proofs.GoingNext.{part-leaves}
use Rattle.blk_object.proofs.OwnedPlaces.{left-load}
use Rattle.blk_object.proofs.PartsFound.{names-are-theirs}
use Rattle.law_state.specs.PartlyOut.{chains_but}
use Rattle.law_state.specs.PartlyOutStops.{LeavesOtherKeys}
use Rattle.blk_sparse.specs.Dropping.{AreLeft, HasSignature, IsPartLeft, IsPartDropped}

pub none-some : {A : Type 0} {x : A} → ◌≡◌ {A = Option A} None (Some x) → ⊥
none-some e = cc

-- ---- what an Ok value is

pub if_ok_weaker : {A E : Type 0} (r : Result A E) (P Q : A → Type 0) → ((a : A) → P a → Q a) → IfOk r P → IfOk r Q
if_ok_weaker (Ok a) P Q weaker holds = weaker a holds
if_ok_weaker (Err e) P Q weaker holds = tt

-- ---- the name of a part

-- a key that is parsed as this part of an object's key is the part's name, but for the generation
pub same-part : (key bytes name : List ℕ) (signature number : ℕ) → number_said key (read_name bytes) ≡ Some number → name ≡ child_name key signature number → IsOfSamePart bytes name
same-part key bytes name signature number said printed = go (read_name bytes) refl said where
  go : (o : Option Name) → read_name bytes ≡ o → number_said key o ≡ Some number → IsOfSamePart bytes name
  go None read is = absurd (none-some is)
  go (Some own) read is = by (bytes_eq own.key key) refl is
    where
      by : (t : Bool) → bytes_eq own.key key ≡ t → (if t then Some own.part else None) ≡ Some number → IsOfSamePart bytes name
      by false same h = absurd (none-some h)
      by true same h = record {
        read = own;
        is = read;
        signature = signature;
        printed = printed ∙ ap (λ (k : List ℕ). child_name k signature number) (sym (same_bytes own.key key same)) ∙ ap (child_name own.key signature) (sym (some_inj h));
      }

-- ---- where nothing is written

-- what holds of the files is passed
pub stays-passes : (old new : Told) (from : Image) (P : Image → Type 0) → old.files ≡ Some from → new ≡ old → P from → Passes old new P
stays-passes old new from P there stays holds = passes_none P stays (λ image is. subst P (some_inj (sym there ∙ is)) holds)

-- the files are those that they were
pub stays-there : (old new : Told) (from : Image) → old.files ≡ Some from → new ≡ old → new.files ≡ Some from
stays-there old new from there stays = ap (λ (t : Told). t.files) stays ∙ there

pub stays-back : (old new : Told) (P : Image → Type 0) → new ≡ old → ForSome old.files P → ForSome new.files P
stays-back old new P stays holds = subst (λ (t : Told). ForSome t.files P) (sym stays) holds

-- ---- what is left

-- the durable contents with the object doomed are recovered
pub left-finds : (state : State) (layout : Layout) (keep : Item → Bool) (chains : ℕ → List ℕ) (unlinked key : List ℕ) (number : ℕ) (object : Object) (image : Image) → AreLeft state layout keep chains unlinked key number object image → Finds (rest (doomed number state (Some object))) image
left-finds state layout keep chains unlinked key number object image left =
    partly-out-finds state layout number object keep chains unlinked image left.here (subst (λ (k : List ℕ). LeavesOtherKeys k keep) (sym left.of_key) left.others) left.kept

-- ---- a part

-- the part lies next, and loads with the record that was found
pub record IsFoundPart (state : State) (layout : Layout) (keep : Item → Bool) (chains : ℕ → List ℕ) (key : List ℕ) (n node : ℕ) (was : Loaded) (found : Found) (image : Image) : Type 0 where
  pub next : LiesNext state layout keep chains (part key n) node found.entry found.before
  pub loads : LoadsWith found.entry was image

module _ (signature n node : ℕ) (state : State) (layout : Layout) (keep : Item → Bool) (chains : ℕ → List ℕ) (unlinked key : List ℕ) (number : ℕ) (object : Object) (image : Image) (left : AreLeft state layout keep chains unlinked key number object image) (sig : HasSignature layout key signature)
    (p : IsPartLeft state layout keep key n node) where
  name-is : p.was.key ≡ child_name key signature n
  name-is = names-are-theirs state layout keep chains unlinked key n p.was sig.was sig.index image left.kept p.listed p.stays p.here sig.here sig.role ∙ ap (λ (s : ℕ). child_name key s n) sig.same

  pub part-searched : (name : List ℕ) → CanBeSearched name image
  part-searched name = can-search state layout keep chains unlinked image name left.kept

  part-found : (name : List ℕ) (answer : Option Found) → name ≡ child_name key signature n → (CanBeSearched name image → IsAnswer name true answer image) → IsFoundLeft state layout keep chains (part key n) p.was answer
  part-found name answer is h = left-found state layout keep chains unlinked (part key n) p.was answer image left.kept p.listed p.stays p.here (subst (λ (x : List ℕ). IsAnswer x true answer image) (is ∙ sym name-is) (h (part-searched name)))

  -- a search by its name finds it
  pub none-found : (name : List ℕ) (answer : Option Found) → answer ≡ None → name ≡ child_name key signature n → (CanBeSearched name image → IsAnswer name true answer image) → ⊥
  none-found name answer none is h = let f = part-found name answer is h in none-some (sym none ∙ f.is)

  pub some-found : (name : List ℕ) (answer : Option Found) (found : Found) → answer ≡ Some found → name ≡ child_name key signature n → (CanBeSearched name image → IsAnswer name true answer image) → IsFoundPart state layout keep chains key n node p.was found image
  some-found name answer found some is h =
      let f = part-found name answer is h in
      subst (λ (x : Found). IsFoundPart state layout keep chains key n node p.was x image) (some_inj (sym f.is ∙ some)) (record {
        next = record { was = p.was; lies = f.lies; node_is = p.node_is; entry_is = f.entry_is };
        loads = subst (λ (w : ℕ). LoadsWith w p.was image) f.entry_is (left-load state layout keep chains unlinked image (part key n) p.was left.kept p.listed p.stays p.here);
      })

  -- once it is out, the others are left
  pub others-left : (entry : ℕ) (now : Image) → IsOutAndCounted state layout keep chains unlinked (part key n) entry now → IsPartDropped state layout keep unlinked key number object n now
  others-left entry now out = record {
    chains = chains_but chains entry;
    left = record { kept = out.out; counted = out.counted; here = left.here; of_key = left.of_key; others = part-leaves key keep n left.others };
  }

  -- it is a part of the object
  pub of-object : (found : Found) → LiesNext state layout keep chains (part key n) node found.entry found.before → LiesNext state layout keep chains (part object.key n) node found.entry found.before
  of-object found next = subst (λ (k : List ℕ). LiesNext state layout keep chains (part k n) node found.entry found.before) (sym left.of_key) next

  pub others-stay : LeavesOtherKeys object.key keep
  others-stay = subst (λ (k : List ℕ). LeavesOtherKeys k keep) (sym left.of_key) left.others
