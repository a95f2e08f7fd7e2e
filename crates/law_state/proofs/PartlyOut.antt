-- Items are removed one after another: the beginning and the end.
use Rattle.std.proofs.Common.{◌≡◌, ℕ, List, [], ◌∷◌, ◌++◌, refl, ap, sym, ◌∙◌, subst, Bool, true, false, Option, Some, None}
use Rattle.std.specs.Prelude.{filter, not}
use Rattle.spec_image.specs.Image.{Image, Index, byte}
use Rattle.blk_model.specs.Items.{Item}
use Rattle.blk_model.specs.State.{State, Object, object_at}
use Rattle.blk_model.specs.Totals.{is_doomed_slot}
use Rattle.spec_format.specs.BlockFiles.{is_among}
use Rattle.spec_format.specs.Claims.{Claim}
use Rattle.spec_format.specs.Headers.{this_id_of}
use Rattle.spec_folder.specs.Layout.{HoldsExcept, Layout, Represents, nodes_of}
use Rattle.spec_folder.specs.Loads.{Loaded}
use Rattle.spec_folder.specs.Removal.{HasLess, without_items}
use Rattle.spec_folder.specs.StandsFor.{IsOwner}
use Rattle.spec_folder.specs.ListView.{IsAtRest, IsList}
use Rattle.spec_folder.specs.Tidy.{doomed_nodes, loaded_at}
use Rattle.spec_folder.specs.View.{list_of, store_of, view_of}
use Rattle.law_folder.proofs.commands.Unlinking.{less-represented}
use Rattle.law_folder.proofs.states.OthersHold.{represented-but}
use Rattle.law_state.specs.GroupLaws.{IsLess, at_without, gone_nodes, layout_less, owners_without}
use Rattle.law_state.specs.Keeping.{AreFiles, AreMarkedBy, KeepsUncounted, words_in_use}
use Rattle.law_state.specs.PartlyOut.{KeepsPartlyOut, OnlyListedAreOut, KeptStatesArePartlyOut, PartlyOutEndsKept, left_nodes}
use Rattle.law_state.proofs.Groups as groups
use Rattle.law_state.proofs.Removals.{filter-alike}
use Rattle.law_state.proofs.NodeChanges.{is_dead, numbers-same}

-- ---- the beginning

all-kept : (items : List Item) → filter (λ item. true) items ≡ items
all-kept [] = refl
all-kept (i ∷ items) = ap (λ (xs : List Item). i ∷ xs) (all-kept items)

none-gone : (items : List Item) → filter (λ (item : Item). not true) items ≡ []
none-gone [] = refl
none-gone (i ∷ items) = none-gone items

pub kept-begin : KeptStatesArePartlyOut
kept-begin state layout unlinked image k = record {
  valid = k.valid;
  sound = k.sound;
  lies = k.represents.holds.lies;
  list = record { whole = subst (λ (items : List Item). IsListOf items) (sym (all-kept state.uses)) k.represents.list; idle = k.represents.idle };
  holds = represented-but (is_among (gone_nodes state layout (λ item. true))) (view_of image) state layout k.represents;
  chained = λ bucket contents small among. among;
  out = λ bucket contents small among node loaded gone. absurd (let z : false ≡ true = sym (ap (λ (items : List Item). is_among (nodes_of layout items) node) (none-gone state.uses)) ∙ gone in cc);
  numbers = k.numbers;
  owners = k.owners;
  files = subst (λ (items : List Item). AreFiles image (words_in_use unlinked (loaded_at layout (nodes_of layout items ++ doomed_nodes layout k.numbers)))) (sym (all-kept state.uses)) k.files;
  stand = k.unlinked_words.stand;
  free = λ claim has. subst (λ (items : List Item). owners_without layout (nodes_of layout items) claim ≡ None) (sym (none-gone state.uses)) (without-none claim (k.unlinked_words.free claim has));
  single = k.unlinked_words.single;
  sealed = λ node loaded is stays. k.sealed node loaded is;
  session = k.session;
} where
  IsListOf : List Item → Type 0
  IsListOf items = IsList (list_of image) (nodes_of layout items)

  without-none : (claim : Claim) → layout.owner claim ≡ None → owners_without layout [] claim ≡ None
  without-none claim e = rw e refl

-- ---- the end

module _ (state : State) (layout : Layout) (unlinked : List ℕ) (objects : List (Option Object)) (keep : Item → Bool) (chains : ℕ → List ℕ) (image : Image) (k : KeepsPartlyOut state layout keep chains unlinked image) (w : IsLess state objects keep) where
  abbrev gone : List ℕ
  gone = gone_nodes state layout keep

  abbrev after : State
  after = without_items state objects keep

  abbrev now : Layout
  now = layout_less layout gone chains

  has-less : HasLess state objects keep layout (at_without layout gone) chains (owners_without layout gone)
  has-less = groups.less-has state layout keep k.numbers k.lies k.owners objects chains (store_of image) k.holds k.chained k.out

  represents-now : Represents (view_of image) after now
  represents-now = less-represented (is_among gone) (view_of image) state objects keep layout (at_without layout gone) chains (owners_without layout gone) k.lies w.lists has-less k.holds (λ n l is. (groups.not-gone state layout keep k.numbers k.lies k.owners n l is).0) k.list

  marked : AreMarkedBy (this_id_of (byte image Index)) after now
  marked = groups.marked-less state layout keep k.numbers k.lies k.owners objects chains w (this_id_of (byte image Index)) k.session.marked

  same-loaded : loaded_at now (left_nodes state layout keep k.numbers) ≡ loaded_at layout (left_nodes state layout keep k.numbers)
  same-loaded = groups.same-at layout gone (left_nodes state layout keep k.numbers) (groups.left-apart state layout keep k.numbers k.lies k.owners)

  pub ends-kept : KeepsUncounted after now unlinked image
  ends-kept = record {
    valid = w.valid;
    sound = k.sound;
    represents = represents-now;
    numbers = k.numbers;
    owners = record {
      exact = λ c n is. let p = groups.was-owned state layout keep k.numbers k.lies k.owners c n is in let q : IsOwner state layout (doomed_nodes layout k.numbers) c n = k.owners.exact c n p.1 in
          record { among = groups.among-left state layout keep k.numbers k.lies k.owners n p.0 q.among; loaded = q.loaded; here = groups.still-there state layout keep k.numbers k.lies k.owners n q.loaded p.0 q.here; claims = q.claims };
      once = groups.stay-once state layout keep k.numbers k.lies k.owners;
      doomed = numbers-same state after layout now k.numbers (λ n. same-slots (object_at after n) (object_at state n) (w.dead n)) (λ n there. refl) k.owners.doomed;
    };
    files = subst (λ (ls : List Loaded). AreFiles image (words_in_use unlinked ls)) (sym same-loaded) k.files;
    unlinked_words = record { stand = k.stand; free = k.free; single = k.single };
    sealed = λ n l is. let p = groups.not-gone state layout keep k.numbers k.lies k.owners n l is in k.sealed n l p.1 p.0;
    session = record { crash = k.session.crash; id = k.session.id; marked = marked };
  } where
    is-dead : (q : Option Object) → is_dead q ≡ is_doomed_slot q
    is-dead None = refl
    is-dead (Some q) = refl

    same-slots : (q p : Option Object) → is_doomed_slot q ≡ is_doomed_slot p → is_dead q ≡ is_dead p
    same-slots q p e = is-dead q ∙ e ∙ sym (is-dead p)

pub partly-out-ends : PartlyOutEndsKept
partly-out-ends state layout unlinked objects keep chains image k w = ends-kept state layout unlinked objects keep chains image k w

-- ---- listed items alone

pub only-listed : OnlyListedAreOut
only-listed state layout keep other chains unlinked image k same = record {
  valid = k.valid;
  sound = k.sound;
  lies = k.lies;
  list = subst (λ (items : List Item). IsAtRest (list_of image) (nodes_of layout items)) stay_same k.list;
  holds = subst (λ (items : List Item). HoldsExcept (is_among (nodes_of layout items)) (store_of image) state (record layout { chains = chains })) gone_same k.holds;
  chained = k.chained;
  out = λ bucket contents small among node loaded gone. k.out bucket contents small among node loaded (ap (λ (items : List Item). is_among (nodes_of layout items) node) gone_same ∙ gone);
  numbers = k.numbers;
  owners = k.owners;
  files = subst (λ (items : List Item). AreFiles image (words_in_use unlinked (loaded_at layout (nodes_of layout items ++ doomed_nodes layout k.numbers)))) stay_same k.files;
  stand = k.stand;
  free = λ claim has. subst (λ (items : List Item). owners_without layout (nodes_of layout items) claim ≡ None) gone_same (k.free claim has);
  single = k.single;
  sealed = λ node loaded is stays. k.sealed node loaded is (ap (λ (items : List Item). is_among (nodes_of layout items) node) gone_same ∙ stays);
  session = k.session;
} where
  stay_same : filter keep state.uses ≡ filter other state.uses
  stay_same = filter-alike keep other state.uses same

  gone_same : filter (λ item. not (keep item)) state.uses ≡ filter (λ item. not (other item)) state.uses
  gone_same = filter-alike (λ item. not (keep item)) (λ item. not (other item)) state.uses (λ i there. ap not (same i there))
