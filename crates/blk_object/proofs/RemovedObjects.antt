-- An item is removed alone: what each call adds.
use Rattle.std.proofs.Common.{◌≡◌, inl, inr, ℕ, List, [], ◌++◌, ap, sym, ◌∙◌, subst, Option, None, Some}
use Rattle.std.specs.Option.{ForSome}
use Rattle.spec_image.specs.Image.{Image}
use Rattle.spec_image.specs.Told.{Passes, Told}
use Rattle.spec_image.proofs.Runs.{passes_stayed, passes_then, passes_weaker}
use Rattle.blk_model.specs.Items.{Item}
use Rattle.blk_model.specs.State.{Object, State}
use Rattle.spec_folder.specs.Found.{charge_of}
use Rattle.spec_folder.specs.Layout.{Layout}
use Rattle.spec_folder.specs.Removal.{without_items}
use Rattle.spec_folder.specs.Sound.{words_of}
use Rattle.law_state.specs.Changes.{Finds, KeepsWith}
use Rattle.law_state.specs.Keeping.{Keeps, KeepsUncounted}
use Rattle.law_state.specs.PlainRemovals.{IsRemoved}
use Rattle.law_state.specs.RemovalLaws.{layout_removed}
use Rattle.law_state.proofs.Free.{then-found}
use Rattle.law_state.proofs.Links.{removed-less}
use Rattle.law_state.proofs.Removals.{removals-find, removed-unlinked, unlinking-finds}
use Rattle.blk_model.specs.Holding.{rest}
use Rattle.std.specs.Prelude.{if◌then◌else◌, nat_lt}
use Rattle.std.proofs.Common.{Bool, true, false}
use Rattle.blk_object.specs.Removing.{IsMidRemoving}
use Rattle.blk_stream.proofs.Joined.{IsTold, told_then}
use Rattle.blk_object.specs.Freeing.{AreFreeable, AreGoing, Removes}
use Rattle.blk_object.specs.Owning.{LoadsWith}
use Rattle.blk_object.specs.Removing.{IsGoingOut, IsTakenOut, MayGoOut}
use Rattle.blk_object.specs.Counters.{AreCountedLess, IsOneItemLess}
use Rattle.blk_object.specs.RemovingObjects.{FindsEither, GoesAlone, IsGoneUncounted, IsRemovedWhole}
use Rattle.blk_object.proofs.Counts.{still-counts}
use Rattle.blk_object.proofs.FreedPlaces as freed
use Rattle.blk_object.proofs.OwnedPlaces.{kept-load}
use Rattle.blk_object.proofs.CounterWords.{less-counted}
use Rattle.blk_object.proofs.TakenItems as taken

some-none : {A : Type 0} {x : A} → ◌≡◌ {A = Option A} (Some x) None → ⊥
some-none e = cc

module _ (state : State) (layout : Layout) (unlinked : List ℕ) (objects : List (Option Object)) (keep : Item → Bool) (item : Item) (node entry : ℕ) (before : Option ℕ) (from : Image) (k : Keeps state layout unlinked from) (p : GoesAlone state layout objects keep item node entry before) where
  abbrev its : ℕ
  its = layout.place item

  abbrev after : State
  after = without_items state objects keep

  -- what the calls ask
  pub item-may-go : MayGoOut node entry before from
  item-may-go = subst (λ (n : ℕ). MayGoOut n entry before from) p.node_is (subst (λ (e : ℕ). MayGoOut its e before from) p.entry_is (taken.may-go-out state layout unlinked item p.was before from k.entries p.lies))

  pub item-loads : LoadsWith entry p.was from
  item-loads = subst (λ (e : ℕ). LoadsWith e p.was from) p.entry_is (kept-load state layout unlinked from its p.was k.entries p.lies.here)

  -- at first
  pub item-found : FindsEither state after from
  item-found = inl (then-found [] [] from from (λ s l u kept. kept) state layout unlinked k.entries)

  -- while it is taken out
  pub going-either : (image : Image) → IsGoingOut node entry before from image → FindsEither state after image
  going-either image going = by (taken.going-removing state layout unlinked item p.was before from image k.entries p.lies
      (subst (λ (n : ℕ). IsGoingOut n p.was.contents before from image) (sym p.node_is) (subst (λ (e : ℕ). IsGoingOut node e before from image) (sym p.entry_is) going))) where
        either-of : (b : Bool) → Finds (if b then rest state else rest after) image → FindsEither state after image
        either-of true found = inl found
        either-of false found = inr found

        by : IsMidRemoving layout item p.was from image → FindsEither state after image
        by (inl partly) = either-of (nat_lt partly.made 2) (removals-find state layout unlinked objects keep item p.was from image k.entries p.without p.lies.here partly)
        by (inr (inl r)) = inr ((unlinking-finds state layout unlinked objects keep item p.was from r.between image k.entries p.without r.here r.unlisted).0 r.unlinking)
        by (inr (inr r)) = inr ((unlinking-finds state layout unlinked objects keep item p.was from r.between image k.entries p.without r.here r.unlisted).1 r.unlinking)

  -- once the item is taken out of list and chain
  module _ (mid : Image) (t : IsTakenOut node entry before from mid) where
    removed : IsRemoved layout item p.was from mid
    removed = taken.taken-removed state layout unlinked item p.was before from mid k.entries p.lies
        (subst (λ (n : ℕ). IsTakenOut n p.was.contents before from mid) (sym p.node_is) (subst (λ (e : ℕ). IsTakenOut node e before from mid) (sym p.entry_is) t))

    out-kept : KeepsUncounted after (layout_removed layout node entry) (words_of p.was ++ unlinked) mid
    out-kept = subst (λ (n : ℕ). KeepsUncounted after (layout_removed layout n entry) (words_of p.was ++ unlinked) mid) p.node_is
        (subst (λ (e : ℕ). KeepsUncounted after (layout_removed layout its e) (words_of p.was ++ unlinked) mid) p.entry_is
        (removed-unlinked state layout unlinked objects keep item p.was from removed.removing.between mid k.entries p.without removed.removing.here removed.removing.unlisted removed.removing.unlinking removed.leaves removed.sealed))

    -- its words may be freed
    module _ (words : List ℕ) (are : words ≡ words_of p.was) where
      kept-mid : KeepsUncounted after (layout_removed layout node entry) (words ++ unlinked) mid
      kept-mid = subst (λ (ws : List ℕ). KeepsUncounted after (layout_removed layout node entry) (ws ++ unlinked) mid) (sym are) out-kept

      pub words-may : AreFreeable words mid
      words-may = freed.freeable after (layout_removed layout node entry) words unlinked mid kept-mid

      -- while the item's addresses are being freed
      pub freeing-either : (image : Image) → AreGoing words mid image → FindsEither state after image
      freeing-either image going = inr (freed.going-finds words mid image going after (layout_removed layout node entry) unlinked kept-mid)

      -- once the item's addresses are freed
      one-less : IsOneItemLess state after layout (layout_removed layout node entry) (charge_of p.was)
      one-less =
          let l = removed-less state layout unlinked objects keep item p.was from k.entries p.without p.lies.here in
          let there : IsOneItemLess state after layout (layout_removed layout its p.was.contents) (charge_of p.was) = record { items = l.items; bytes = l.bytes } in
          subst (λ (n : ℕ). IsOneItemLess state after layout (layout_removed layout n entry) (charge_of p.was)) p.node_is (subst (λ (e : ℕ). IsOneItemLess state after layout (layout_removed layout its e) (charge_of p.was)) p.entry_is there)

      pub gone-uncounted : (charge : ℕ) → charge ≡ charge_of p.was → (image : Image) → Removes words mid image → IsGoneUncounted state after layout unlinked node entry charge image
      gone-uncounted charge is image r = record {
        kept = freed.all-gone words mid image r after (layout_removed layout node entry) unlinked kept-mid;
        counters = still-counts mid image state layout (freed.all-counted words mid image r) (still-counts from mid state layout (taken.counters-left node entry before from mid t) k.counters);
        less = subst (IsOneItemLess state after layout (layout_removed layout node entry)) (sym is) one-less;
      }

-- while it is counted
pub counting-either : (state after : State) (layout : Layout) (unlinked : List ℕ) (node entry charge : ℕ) (mid image : Image) → IsGoneUncounted state after layout unlinked node entry charge mid → KeepsWith [] [] mid image → FindsEither state after image
counting-either state after layout unlinked node entry charge mid image g keeps = inr (then-found [] [] mid image keeps after (layout_removed layout node entry) unlinked g.kept)

-- once the removed item is counted
pub removed-whole : (state after : State) (layout : Layout) (unlinked : List ℕ) (node entry charge : ℕ) (mid image : Image) → IsGoneUncounted state after layout unlinked node entry charge mid → AreCountedLess charge mid image → IsRemovedWhole after layout unlinked node entry image
removed-whole state after layout unlinked node entry charge mid image g counted =
    less-counted state after layout (layout_removed layout node entry) unlinked charge mid image g.counters g.less g.kept counted

-- ---- observed files

-- of an observable folder, read without a change, then changed by the call that takes out
module _ (a r m : Told) (stays : r ≡ a) (state : State) (layout : Layout) (unlinked : List ℕ) (objects : List (Option Object)) (keep : Item → Bool) (item : Item) (node entry : ℕ) (before : Option ℕ) (from : Image) (there : a.files ≡ Some from) (k : Keeps state layout unlinked from) (p : GoesAlone state layout objects keep item node entry before)
    (stops : ForSome r.files (λ at. MayGoOut node entry before at → Passes r m (IsGoingOut node entry before at))) where
  still-there : r.files ≡ Some from
  still-there = ap (λ (t : Told). t.files) stays ∙ there

  taking : Passes r m (IsGoingOut node entry before from)
  taking = stops from still-there (item-may-go state layout unlinked objects keep item node entry before from k p)

  pub taking-stops : Passes a m (FindsEither state (without_items state objects keep))
  taking-stops = passes_stayed stays (passes_weaker taking (going-either state layout unlinked objects keep item node entry before from k p) (going-either state layout unlinked objects keep item node entry before from k p))

  pub on : IsTold m (IsGoingOut node entry before from)
  on = told_then r m from (IsGoingOut node entry before from) still-there taking

  -- then the places are freed
  module _ (b : Told) (words : List ℕ) (are : words ≡ words_of p.was) (taken_out : ForSome r.files (λ at. MayGoOut node entry before at → ForSome m.files (IsTakenOut node entry before at))) where
    out : IsTakenOut node entry before from on.image
    out = taken_out from still-there (item-may-go state layout unlinked objects keep item node entry before from k p) on.image on.is

    pub they-may : AreFreeable words on.image
    they-may = words-may state layout unlinked objects keep item node entry before from k p on.image out words are

    pub freeing-stops : ForSome m.files (λ at. AreFreeable words at → Passes m b (AreGoing words at)) → Passes a b (FindsEither state (without_items state objects keep))
    freeing-stops frees = passes_then taking-stops (passes_weaker (frees on.image on.is they-may) (freeing-either state layout unlinked objects keep item node entry before from k p on.image out words are) (freeing-either state layout unlinked objects keep item node entry before from k p on.image out words are))

    pub freed-gone : ForSome m.files (λ at. AreFreeable words at → ForSome b.files (Removes words at)) → (charge : ℕ) → charge ≡ charge_of p.was → ForSome b.files (IsGoneUncounted state (without_items state objects keep) layout unlinked node entry charge)
    freed-gone frees charge is image at = gone-uncounted state layout unlinked objects keep item node entry before from k p on.image out words are charge is image (frees on.image on.is they-may image at)

-- then it is counted no longer
module _ (a m b : Told) (state after : State) (layout : Layout) (unlinked : List ℕ) (node entry charge : ℕ) (from : Image) (there : a.files ≡ Some from) (first : Passes a m (FindsEither state after)) (gone : ForSome m.files (IsGoneUncounted state after layout unlinked node entry charge)) where
  gone-on : IsTold m (FindsEither state after)
  gone-on = told_then a m from (FindsEither state after) there first

  pub counting-stops : ForSome m.files (λ at. Passes m b (KeepsWith [] [] at)) → Passes a b (FindsEither state after)
  counting-stops keeps = passes_then first (passes_weaker (keeps gone-on.image gone-on.is)
      (λ image k. counting-either state after layout unlinked node entry charge gone-on.image image (gone gone-on.image gone-on.is) k)
      (λ image k. counting-either state after layout unlinked node entry charge gone-on.image image (gone gone-on.image gone-on.is) k))

  pub counting-removed : ForSome m.files (λ at. ForSome b.files (AreCountedLess charge at)) → ForSome b.files (IsRemovedWhole after layout unlinked node entry)
  counting-removed counted image is = removed-whole state after layout unlinked node entry charge gone-on.image image (gone gone-on.image gone-on.is) (counted gone-on.image gone-on.is image is)

  -- so the folder isn't opaque in between
  pub counting-told : m.files ≡ None → a.files ≡ None
  counting-told none = absurd (some-none (sym gone-on.is ∙ none))
