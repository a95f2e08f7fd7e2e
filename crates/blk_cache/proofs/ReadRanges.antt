-- The bytes that a handle names, where its name is bound.
use Rattle.std.proofs.Common.{◌≡◌, ℕ, ◌+◌, ◌-◌, ◌≤◌, ◌<◌, ◌^◌, Bool, true, false, [], ◌∷◌, length, Some, None, refl, sym, ap, subst, ◌∙◌, arith}
use Rattle.std.specs.Prelude.{◌&&◌, is_some, nat_le, nat_lt}
use Rattle.std.proofs.lemmas.Bool.{lt-ltb}
use Rattle.std.proofs.lemmas.Bool.Decides.{nat_tests}
use Rattle.spec_image.specs.Image.{AreBytes, Image}
use Rattle.blk_model.specs.Bytes.{bytes_from}
use Rattle.blk_model.specs.Effects.{stream_of}
use Rattle.blk_model.specs.Refusals.{first_refusal, is_kept_from_streams, names_none, no_stream}
use Rattle.blk_model.specs.State.{Object, State}
use Rattle.blk_model.specs.declared.Refusal.{Refusal}
use Rattle.blk_model.specs.declared.Refusal.TheVariants as refusal
use Rattle.spec_folder.specs.Entries.{stream}
use Rattle.blk_handles.specs.Bindings.{Binding, binding_of}
use Rattle.blk_stream.specs.Streams.{StreamsCanBeRead, address_word, size_word, streams_at}
use Rattle.blk_stream.proofs.StreamPlaces.{may_parts, stream_facts}
use Rattle.law_state.specs.OneCallLaws.{Names}
use Rattle.blk_cache.specs.declared.asking.NamedStream.{NamedStream}
use Rattle.blk_cache.specs.declared.cache.Cache.{Cache}
use Rattle.blk_cache.specs.Asking.{IsNamedStream, stream_refusal}
use Rattle.blk_cache.specs.CacheKeeping.{IsBoundTo, HoldsState}
use Rattle.blk_cache.specs.Reading.{bytes_there}
use Rattle.blk_print.specs.RangePrinting.{HasBytes}
use Rattle.blk_cache.specs.ReadPrinting.{can_be_read}
use Rattle.blk_cache.proofs.BoundRecords.{bound-streams}
use Rattle.blk_cache.proofs.Closes.{is, named, number}
use Rattle.blk_cache.proofs.Refusing.{busy}
use Rattle.blk_cache.proofs.PrintedReads.{named-bytes, named-reply, same-stream}
use Rattle.blk_cache.proofs.Sizes.{named-object}

second-of : (a b c : Bool) (p q r : Refusal) → first_refusal ((a, p) ∷ (b, q) ∷ (c, r) ∷ []) ≡ None → b ≡ false
second-of true b c p q r e = cc
second-of false true c p q r e = cc
second-of false false c p q r e = refl

both : (a b : Bool) → a ≡ true → b ≡ true → (a && b) ≡ true
both true b e f = f
both false b e f = cc

-- a name that names an object is bound
pub not-free : (cache : Cache) (state : State) (image : Image) (k : HoldsState cache state image) (handle m : ℕ) (object : Object) → Names state handle m object → binding_of cache.handles handle ≡ None → ⊥
not-free cache state image k handle m object names free = clash (sym (ap is_some free) ∙ busy cache state image k handle ∙ ap is_some names.names) where
  clash : false ≡ true → ⊥
  clash e = cc

module _ (cache : Cache) (state : State) (image : Image) (k : HoldsState cache state image) (handle at offset : ℕ) (b : Binding) (bound : binding_of cache.handles handle ≡ Some b) (passes : stream_refusal state handle at ≡ None) where
  abbrev it : IsBoundTo state k.layout (number cache state image k handle b bound) b
  it = is cache state image k handle b bound

  abbrev its-names : Names state handle (number cache state image k handle b bound) it.object
  its-names = record { names = named cache state image k handle b bound; here = it.here }

  -- the stream of the object that it is bound to
  abbrev pub its-named : NamedStream
  its-named = record { entry = b.entry; node = b.node; doomed = b.doomed; size = length (stream_of it.object at) }

  abbrev pub its-stream : IsNamedStream state k.layout handle at its-named
  its-stream = record {
    passes = passes;
    number = number cache state image k handle b bound;
    object = it.object;
    names = its-names;
    node = it.node;
    loaded = it.loaded;
    at = ap k.layout.at it.node ∙ it.at;
    entry = it.entry;
    doomed = it.doomed;
    size = refl;
  }

  pub its-below : at < 3
  its-below =
      let e : nat_le 3 at ≡ false = second-of (names_none state handle) (no_stream at) (is_kept_from_streams state handle at) refusal.BadHandle refusal.BadStream refusal.SparseStream passes in
      grind (arith, nat_tests)

  module _ (n m count : ℕ) (object : Object) (names : Names state handle m object) (number_is : n ≡ bytes_there (length (stream_of object at)) offset count) where
    same-object : object ≡ it.object
    same-object = sym (named-object state handle m object names) ∙ named-object state handle (number cache state image k handle b bound) it.object its-names

    pub so-many : n ≡ bytes_there its-named.size offset count
    so-many = number_is ∙ ap (λ (o : Object). bytes_there (length (stream_of o at)) offset count) same-object

    -- they end at a number that a u64 has
    few : length (stream_of it.object at) ≤ 2147483647
    few =
        let its = stream_facts cache.files image b.entry at it.loaded.streams k.files its-below (bound-streams state k.layout [] image k.kept.entries (number cache state image k handle b bound) b it) in
        let small = (may_parts cache.files (size_word image b.entry at) (address_word image b.entry at) its.keep).0 in
        let same = ap length (same-stream cache state image k handle at offset count its-named its-stream its-below n so-many) in
        let len = its.len in
        omega (arith, small, same, len)

    pub it-fits : offset < 2 ^ 64 → can_be_read at offset n ≡ true
    it-fits below =
        let few_ = few in
        let many = so-many in
        let fits : offset + n < 18446744073709551616 = omega (arith, below, few_, many) in
        let small = its-below in
        both (nat_lt at 3) (nat_lt (offset + n) 18446744073709551616) (lt-ltb at 3 small) (lt-ltb (offset + n) 18446744073709551616 fits)

    -- the bytes are there, by any word that names its record
    abbrev pub range-bytes : (w : ℕ) → w ≡ b.entry → AreBytes image → HasBytes cache.files (record { entry = w; stream = at; offset = offset; count = n }) image
    range-bytes w same bytes = record {
      readable = subst (λ (v : ℕ). StreamsCanBeRead cache.files v image) (sym same) (named-bytes cache state image k handle at offset count its-named its-stream its-below n so-many bytes).readable;
      streams = (named-bytes cache state image k handle at offset count its-named its-stream its-below n so-many bytes).streams;
      here = ap (streams_at image) same ∙ (named-bytes cache state image k handle at offset count its-named its-stream its-below n so-many bytes).here;
      bytes = (named-bytes cache state image k handle at offset count its-named its-stream its-below n so-many bytes).bytes;
      long = (named-bytes cache state image k handle at offset count its-named its-stream its-below n so-many bytes).long;
      bytes_are = (named-bytes cache state image k handle at offset count its-named its-stream its-below n so-many bytes).bytes_are;
    }

    -- and they are those of the reply
    pub range-reply : (w : ℕ) (same : w ≡ b.entry) (bytes : AreBytes image) → (range-bytes w same bytes).bytes ≡ bytes_from (stream_of object at) offset count
    range-reply w same bytes = named-reply cache state image k handle at offset count its-named its-stream its-below n so-many m object names
