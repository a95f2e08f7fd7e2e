-- An empty cache is consistent, holds nothing, and represents the empty state.
use Rattle.std.proofs.Common.{◌≡◌, ℕ, ◌+◌, ◌<◌, List, [], refl, ap, sym, ◌∙◌, subst, inl, arith, Bool, true, false, None}
use Rattle.std.specs.Prelude.{if◌then◌else◌}
use Rattle.blk_model.specs.Items.{Row}
use Rattle.spec_format.specs.Headers.{unfinished}
use Rattle.blk_model.specs.State.{Bounds}
use Rattle.blk_model.specs.Holding.{open_state}
use Rattle.spec_image.specs.Image.{Image, Index, byte}
use Rattle.spec_format.proofs.Counts.{counts-as, its-version}
use Rattle.spec_format.specs.Address.{is_address, is_initialized, block_place}
use Rattle.spec_format.specs.Standing.{stands}
use Rattle.spec_format.specs.Claims.{has_claim, repeats}
use Rattle.spec_format.specs.BlockFiles.{max_entries_in, IsWellFormed}
use Rattle.spec_format.specs.Maps.{groups_with, groups_of, is_block_marked, EmptyAgrees}
use Rattle.spec_folder.specs.ListView.{ListView, IsList}
use Rattle.spec_folder.specs.Walk.{walk}
use Rattle.spec_folder.specs.Completion.{completed_list, counts, operated}
use Rattle.spec_folder.specs.View.{View, list_of, checks_at, fields_at, store_of, view_of}
use Rattle.spec_folder.specs.Chains.{Chain}
use Rattle.spec_folder.specs.Loads.{Rule, held_rule, listed_rule, Loaded, claims_of_loaded}
use Rattle.spec_folder.specs.Audit.{kept_among, dropped_among, kept_by, dropped_by, unlisted, unlisted_in}
use Rattle.spec_folder.specs.Found.{completed, kept, dropped, found}
use Rattle.spec_folder.specs.Layout.{Represents}
use Rattle.spec_folder.specs.Emptiness.{no_layout}
use Rattle.spec_folder.specs.Sound.{AreOwned, IsInOrder, IsSound}
use Rattle.spec_folder.specs.StandsFor.{StandsFor, AllIsOwned}
use Rattle.law_folder.specs.BareLaws.{HasNoEntries, IsFileWithoutBlocks, FoldersWithoutEntriesHoldNothing}
use Rattle.law_folder.proofs.states.Empty.{no-object, empty-valid, empty-view}
use Rattle.law_folder.proofs.chains.Chains.{chain-is}
use Rattle.law_folder.proofs.states.Central.{flat_map-none, walk-order, chain-end}
use Rattle.law_folder.proofs.states.Standing.{stands-for}

-- the word 0 names no node and no record
pub no-node : (image : Image) → checks_at image 0 ≡ false
unfolding checks_at stands is_address is_initialized
no-node image = refl

pub no-record : (image : Image) → (store_of image).entry 0 ≡ None
unfolding store_of fields_at stands is_address is_initialized
no-record image = refl

-- with no operation in flight the redo does nothing
pub not-counting : (l : ListView) → l.transaction ≡ 0 → counts l ≡ false
unfolding counts
not-counting l e = rw e refl

pub idle-list : (l : ListView) → l.transaction ≡ 0 → completed_list l ≡ l
unfolding completed_list
idle-list l e =
    ap (λ (b : Bool). let done : ListView = record (if b then operated l else l) { transaction = 0 } in done) (not-counting l e)
    ∙ (λ i. record { head = l.head; tail = l.tail; transaction = sym e i; operation = l.operation; checks = l.checks; next = l.next; prev = l.prev })

any-limits : Bounds
any-limits = record { max_bytes = 0; max_items = 0 }

module _ (image : Image) (bare : HasNoEntries image) where
  idle : completed (view_of image) ≡ view_of image
  idle = λ i. let v : View = record { list = idle-list (list_of image) bare.index.transaction i; store = store_of image } in v

  list-empty : IsList (list_of image) []
  unfolding list_of
  list-empty = record { head_is = bare.index.head; tail_is = bare.index.tail; linked = tt; distinct = tt; few = omega arith; no_zero = no-node image }

  pub represents-empty : (limits : Bounds) → Represents (view_of image) (open_state [] limits) no_layout
  unfolding store_of
  represents-empty limits = empty-view (view_of image) limits (no-record image) bare.index.table list-empty bare.index.transaction

  walk-empty : walk (list_of image) ≡ []
  unfolding open_state
  walk-empty = walk-order (view_of image) (open_state [] any-limits) no_layout (represents-empty any-limits)

  kept-none : (rule : Rule) → kept_by rule (view_of image) ≡ []
  unfolding kept_among
  kept-none rule = rw walk-empty refl

  chain-none : (b : ℕ) → b < 65536 → Chain
  chain-none b below = record { reached = []; end = 0 }

  unlisted-none : unlisted (view_of image) ≡ []
  unfolding unlisted store_of
  unlisted-none = flat_map-none (unlisted_in (view_of image)) 0 65536 (λ b low high. rw (chain-is (store_of image) b [] (no-record image) (record { linked = bare.index.table b high; once = tt })) refl)

  dropped-none : (rule : Rule) → dropped_by rule (view_of image) ≡ []
  unfolding dropped_among
  dropped-none rule = rw (walk-empty, unlisted-none) refl

  found-none : kept image ≡ []
  unfolding kept
  found-none = ap (kept_by held_rule) idle ∙ kept-none held_rule

  none-dropped : dropped image ≡ []
  unfolding dropped
  none-dropped = ap (dropped_by held_rule) idle ∙ dropped-none held_rule

  owned : AreOwned image []
  unfolding has_claim repeats
  owned = record { one_owner = refl; maps = λ n b linked below. (bare.blocks n linked).map b below; only_claimed = bare.no_externals }

  no-groups : (n i : ℕ) → max_entries_in image n ≡ 0 → groups_with (is_block_marked image n) (groups_of (max_entries_in image n)) (i + 1) ≡ 0
  unfolding groups_with
  no-groups n i none = rw none refl

  in-order : IsInOrder image [] []
  unfolding EmptyAgrees block_place list_of
  in-order = record {
    only_linked = bare.only_linked;
    long_enough = λ n kind linked. let f : IsFileWithoutBlocks image n = bare.blocks n (rw linked refl) in rw f.max_entries (omega (arith, f.long_enough));
    counted = λ n linked. let f : IsFileWithoutBlocks image n = bare.blocks n linked in
        record { num_entries = f.allocations; empty = λ i small. f.empty i small ∙ sym (no-groups n i f.max_entries); updating = f.updating };
    index = record { tail = bare.index.tail; counts = counts-as (byte image Index) 0 0 bare.index.counts };
    sealed = tt;
  }

  pub bare-sound : IsWellFormed image → IsSound image
  bare-sound well = record {
    well_formed = well;
    transaction = bare.index.transaction;
    list_end = inl (walk-empty, bare.index.head, bare.index.tail);
    chain_ends = chain-end (store_of image) (open_state [] any-limits) no_layout (represents-empty any-limits).holds (empty-valid any-limits);
    nothing_dropped = none-dropped;
    owned = subst (λ (ls : List Loaded). AreOwned image (claims_of_loaded ls)) (sym found-none) owned;
    in_order = subst (λ (ls : List Loaded). IsInOrder image ls []) (sym found-none) in-order;
  }

  allocated : (limits : Bounds) → AllIsOwned image (open_state [] limits) no_layout []
  unfolding open_state
  allocated limits = record {
    blocks = λ n b linked below. (bare.blocks n linked).map b below;
    files = bare.no_externals;
    exact = λ c w owner. absurd (cc);
    once = tt;
    doomed = record { each = tt; once = tt; all = λ number o is dead. absurd (no-object limits number o is); records = λ number among. absurd (let z : false ≡ true = among in cc) };
  }

  pub bare-stands : (limits : Bounds) → IsWellFormed image → StandsFor image (open_state [] limits)
  bare-stands limits well = stands-for image (open_state [] limits) no_layout (represents-empty limits) (empty-valid limits) [] (allocated limits) well (its-version (byte image Index) 0 0 bare.index.counts)
      (subst (λ (ls : List Loaded). IsInOrder image ls []) (sym (kept-none listed_rule)) in-order)

pub bare-found : FoldersWithoutEntriesHoldNothing
unfolding found
bare-found image bare = rw (found-none image bare) (either (unfinished image)) where
  either : (b : Bool) → ◌≡◌ {A = List Row} (if b then [] else []) []
  either true = refl
  either false = refl
