-- The bytes of a Read that are printed are those of the stream that it names.
use Rattle.std.proofs.Common.{◌≡◌, ℕ, ◌-◌, ◌<◌, Bool, true, false, List, [], ◌∷◌, length, take, drop, Some, None, refl, sym, ap, ◌∙◌, arith}
use Rattle.std.specs.Prelude.{◌&&◌, min, nat_lt, not}
use Rattle.std.proofs.lemmas.List.{length-drop, length-take, take_min}
use Rattle.spec_image.specs.Image.{AreBytes, Image}
use Rattle.blk_model.specs.Bytes.{bytes_from}
use Rattle.blk_model.specs.Effects.{stream_of}
use Rattle.blk_model.specs.Items.{is_sparse}
use Rattle.blk_model.specs.Refusals.{first_refusal, is_kept_from_streams, names_none, no_stream}
use Rattle.blk_model.specs.State.{Object, State}
use Rattle.blk_model.specs.declared.Refusal.{Refusal}
use Rattle.blk_model.specs.declared.Refusal.TheVariants as refusal
use Rattle.spec_folder.specs.Entries.{stream}
use Rattle.blk_stream.specs.Streams.{StreamsCanBeRead, streams_at}
use Rattle.blk_handles.specs.Bindings.{Binding}
use Rattle.law_state.specs.OneCallLaws.{Names}
use Rattle.blk_cache.specs.declared.asking.NamedStream.{NamedStream}
use Rattle.blk_cache.specs.declared.cache.Cache.{Cache}
use Rattle.blk_print.specs.declared.range_printing.StreamRange.{StreamRange}
use Rattle.blk_cache.specs.Asking.{IsNamedStream}
use Rattle.blk_cache.specs.CacheKeeping.{IsBoundTo, HoldsState}
use Rattle.blk_cache.specs.Reading.{bytes_there}
use Rattle.blk_print.specs.RangePrinting.{HasBytes}
use Rattle.blk_cache.proofs.BoundRecords.{bound-checks, bound-stream, bound-streams}
use Rattle.blk_cache.proofs.Sizes.{named-object}

not-third : (a b c : Bool) (p q r : Refusal) → first_refusal ((a, p) ∷ (b, q) ∷ (c, r) ∷ []) ≡ None → c ≡ false
not-third true b c p q r e = cc
not-third false true c p q r e = cc
not-third false false true p q r e = cc
not-third false false false p q r e = refl

module _ (cache : Cache) (state : State) (image : Image) (k : HoldsState cache state image) (handle number offset count : ℕ) (found : NamedStream) (s : IsNamedStream state k.layout handle number found) (below : number < 3)
    (n : ℕ) (so_many : n ≡ bytes_there found.size offset count) where
  -- as a name that is bound to it
  abbrev pub its-binding : Binding
  its-binding = record { entry = found.entry; node = found.node; doomed = not s.object.live; dirty = not s.object.settled }

  abbrev pub its-bound : IsBoundTo state k.layout s.number its-binding
  its-bound = record { object = s.object; here = s.names.here; loaded = s.loaded; at = ap k.layout.at (sym s.node) ∙ s.at; node = s.node; entry = s.entry; doomed = refl; dirty = refl }

  free : (is_sparse s.object.shape && nat_lt 0 number) ≡ false
  free = ap (λ (o : Object). is_sparse o.shape && nat_lt 0 number) (sym (named-object state handle s.number s.object s.names)) ∙ not-third (names_none state handle) (no_stream number) (is_kept_from_streams state handle number) refusal.BadHandle refusal.BadStream refusal.SparseStream s.passes

  pub same-stream : stream number s.loaded.streams ≡ stream_of s.object number
  same-stream = bound-stream state k.layout [] image k.kept.entries s.number its-binding its-bound number below free

  abbrev pub its-range : StreamRange
  its-range = record { entry = found.entry; stream = number; offset = offset; count = n }

  abbrev pub behind : List ℕ
  behind = drop offset (stream number s.loaded.streams)

  long : length behind ≡ found.size - offset
  long = length-drop offset (stream number s.loaded.streams) ∙ ap (λ (n : ℕ). n - offset) (ap length same-stream ∙ sym s.size)

  pub named-reads : AreBytes image → StreamsCanBeRead cache.files found.entry image
  named-reads bytes = record {
    agrees = k.files;
    checks = bound-checks state k.layout [] image k.kept.entries s.number its-binding its-bound bytes;
    has = record { streams = s.loaded.streams; is = bound-streams state k.layout [] image k.kept.entries s.number its-binding its-bound };
  }

  pub named-streams : streams_at image found.entry ≡ Some s.loaded.streams
  named-streams = bound-streams state k.layout [] image k.kept.entries s.number its-binding its-bound

  pub named-long : length (take n behind) ≡ n
  named-long = length-take n behind ∙ (let l = long in let e : min n (length behind) ≡ n = omega (arith, l, so_many) in e)

  -- the bytes are there
  abbrev pub named-bytes : AreBytes image → HasBytes cache.files its-range image
  named-bytes bytes = record { readable = named-reads bytes; streams = s.loaded.streams; here = named-streams; bytes = take n behind; long = named-long; bytes_are = refl }

  -- and they are those of the reply
  pub named-reply : (m : ℕ) (object : Object) → Names state handle m object → take n behind ≡ bytes_from (stream_of object number) offset count
  named-reply m object names =
      let same : s.object ≡ object = sym (named-object state handle s.number s.object s.names) ∙ named-object state handle m object names in
      ap (λ (i : ℕ). take i behind) (so_many ∙ ap (min count) (sym long)) ∙ take_min count behind ∙ ap (λ (xs : List ℕ). take count (drop offset xs)) (same-stream ∙ ap (λ (o : Object). stream_of o number) same)
