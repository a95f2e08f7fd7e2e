-- The bytes of a live sparse object that a handle names, where they are all present.
use Rattle.std.proofs.Common.{◌≡◌, ℕ, false, List, [], length, Some, refl, sym, ap, ◌∙◌}
use Rattle.std.specs.Prelude.{not}
use Rattle.spec_image.specs.Image.{Image}
use Rattle.blk_model.specs.Items.{is_sparse}
use Rattle.blk_model.specs.Sparse.{sparse_bytes}
use Rattle.blk_model.specs.State.{Object, State}
use Rattle.blk_handles.specs.Bindings.{Binding, binding_of}
use Rattle.blk_print.specs.PresentPrinting.{HasPresent}
use Rattle.blk_print.specs.declared.present_printing.PresentRange.{PresentRange}
use Rattle.blk_cache.specs.declared.cache.Cache.{Cache}
use Rattle.blk_cache.specs.CacheKeeping.{HoldsState}
use Rattle.blk_cache.specs.ReadPrinting.{NamesPresent}
use Rattle.blk_cache.specs.SparseAsking.{IsLiveNamed}
use Rattle.blk_cache.proofs.Sizes.{named-object}
use Rattle.blk_cache.proofs.SparseAsks.{it, live-named, n, names-it, parents-row}

module _ (cache : Cache) (state : State) (image : Image) (k : HoldsState cache state image) (handle offset number : ℕ) (p : NamesPresent state handle offset number) (b : Binding) (bound : binding_of cache.handles handle ≡ Some b) where
  pub same : (it cache state image k handle offset number b bound).object ≡ p.object
  same = sym (named-object state handle (n cache state image k handle offset number b bound) (it cache state image k handle offset number b bound).object (names-it cache state image k handle offset number b bound)) ∙ named-object state handle p.n p.object p.names

  pub alive : b.doomed ≡ false
  alive = (it cache state image k handle offset number b bound).doomed ∙ ap (λ (o : Object). not o.live) same ∙ ap not p.live

  module _ (range : PresentRange) (entry_is : range.entry ≡ b.entry) (node_is : range.node ≡ b.node) (offset_is : range.offset ≡ offset) (count_is : range.count ≡ number) where
    -- with the same bytes
    pub same-bytes : sparse_bytes (it cache state image k handle offset number b bound).object range.offset range.count ≡ sparse_bytes p.object offset number
    same-bytes = ap (λ (o : Object). sparse_bytes o range.offset range.count) same ∙ ap (λ (x : ℕ). sparse_bytes p.object x range.count) offset_is ∙ ap (sparse_bytes p.object offset) count_is

    abbrev pub its : IsLiveNamed state k.layout handle range.node range.entry
    its = live-named cache state image k handle offset number b bound alive range.node range.entry node_is entry_is

    -- it lies as a parent
    abbrev pub has-present : HasPresent range image
    has-present =
        let row = parents-row cache state image k handle offset number b bound (ap (λ (o : Object). is_sparse o.shape) same ∙ p.has_parts) in
        record {
          state = state;
          layout = k.layout;
          unlinked = [];
          number = its.number;
          object = its.object;
          signature = row.0.signature;
          parent = record { kept = k.kept.entries; here = its.names.here; live = its.live; node_is = its.node_is; was = its.was; lies = its.lies; record_is = its.record_is; index = row.0; role = row.1.0; same = refl };
          all = ap (λ (l : List ℕ). length l) same-bytes ∙ p.all ∙ sym count_is;
        }
