use Rattle.std.proofs.Common.{◌≡◌, ℕ, length, take, drop, length-take, Option, None, Some, sym, ◌∙◌, ap, subst, arith, List, true}
use Rattle.std.specs.Option.{ForSome}
use Rattle.std.specs.Prelude.{◌++◌, slice_index, unwrap_or}
use Rattle.spec_image.specs.Told.{Told}
use Rattle.blk_disk.specs.Tables.{Agrees}
use Rattle.blk_io.specs.Faults.{IfDamaged}
use Rattle.blk_io.proofs.Carried.{carried, untold_where}
use Rattle.blk_entry.specs.Keys.{IsInFile, IsPiece}
use Rattle.blk_entry.proofs.KeyPlaces.{damaged_any}
use Rattle.blk_stream.specs.Streams.{address_word, may_keep, size_word, stream_bytes}
use Rattle.blk_stream.proofs.StreamPlaces.{clash, keeps_inside, none_read, some_read, stream_facts, stream_is_bytes}
use Rattle.blk_stream.proofs.reading.read.Given as given
use Rattle.blk_stream.proofs.reading.read.Goals as goal

pub returns-in_err-head-clause-untold : goal.returns-in_err-head-clause-untold
returns-in_err-head-clause-untold g c can =
    carried c.read_head.result c.from_residual.result c.in_err-head.field-0.0 (λ _. (g.F.Folder.told c.args.f.now).files ≡ None) c.in_err-head.was c.from_residual.ensures.1
    (c.read_head.ensures.untold (λ image there. (can image there).agrees) (λ image there. (can image there).checks))

pub returns-in_err-stored-clause-untold : goal.returns-in_err-stored-clause-untold
returns-in_err-stored-clause-untold g c can =
    damaged_any c.from_residual-in_err-stored.result ((g.F.Folder.told c.args.f.now).files ≡ None)
    (untold_where (g.F.Folder.told c.args.f.now).files
    (λ image there. let known = stream_facts c.args.files.now image c.args.entry c.args.stream (can image there).has.streams (can image there).agrees c.requires.stream (can image there).has.is in
    let words = c.in_ok-head.ensures.head image there in
    clash (c.in_err-stored.ensures.right ((λ j. may_keep c.args.files.now (slice_index (words.sizes j) (c.from.ensures j)) (slice_index (words.addrs j) (c.from-2.ensures j))) ∙ known.keep))))

pub returns-in_default-clause-bytes : goal.returns-in_default-clause-bytes
returns-in_default-clause-bytes g c image there =
    let words = c.in_ok-head.ensures.head image there in
    let none = c.in_ok-stored.ensures.stored.none c.in_default.is in
    none_read image c.args.entry c.args.stream c.args.offset (slice_index c.in_ok-head.head.sizes c.from.result) c.min-at.result c.min-n.result c.args.out.now (λ j. slice_index (words.sizes j) (c.from.ensures j)) (omega (arith, c.min-at.ensures, c.from-3.ensures)) c.min-n.ensures (omega (arith, none, c.min-n.ensures))

pub returns-in_default-clause-piece : goal.returns-in_default-clause-piece
returns-in_default-clause-piece g c image there streams is =
    let words = c.in_ok-head.ensures.head image there in
    let none = c.in_ok-stored.ensures.stored.none c.in_default.is in
    subst (λ (s : List ℕ). IsPiece s c.args.offset c.args.out.now c.args.out.now 0) (sym (stream_is_bytes image c.args.entry c.args.stream streams c.requires.stream is))
    (none_read image c.args.entry c.args.stream c.args.offset (slice_index c.in_ok-head.head.sizes c.from.result) c.min-at.result c.min-n.result c.args.out.now (λ j. slice_index (words.sizes j) (c.from.ensures j)) (omega (arith, c.min-at.ensures, c.from-3.ensures)) c.min-n.ensures (omega (arith, none, c.min-n.ensures)))

pub returns-then-n-eq0-clause-bytes : goal.returns-then-n-eq0-clause-bytes
returns-then-n-eq0-clause-bytes g c image there =
    let words = c.in_ok-head.ensures.head image there in
    none_read image c.args.entry c.args.stream c.args.offset (slice_index c.in_ok-head.head.sizes c.from.result) c.min-at.result c.min-n.result c.args.out.now (λ j. slice_index (words.sizes j) (c.from.ensures j)) (omega (arith, c.min-at.ensures, c.from-3.ensures)) c.min-n.ensures c.if-n-eq0.true

pub returns-then-n-eq0-clause-piece : goal.returns-then-n-eq0-clause-piece
returns-then-n-eq0-clause-piece g c image there streams is =
    let words = c.in_ok-head.ensures.head image there in
    subst (λ (s : List ℕ). IsPiece s c.args.offset c.args.out.now c.args.out.now 0) (sym (stream_is_bytes image c.args.entry c.args.stream streams c.requires.stream is))
    (none_read image c.args.entry c.args.stream c.args.offset (slice_index c.in_ok-head.head.sizes c.from.result) c.min-at.result c.min-n.result c.args.out.now (λ j. slice_index (words.sizes j) (c.from.ensures j)) (omega (arith, c.min-at.ensures, c.from-3.ensures)) c.min-n.ensures c.if-n-eq0.true)

pub read_data-requires : goal.read_data-requires
read_data-requires g c =
    let word : c.in-Some.addr ≡ slice_index c.in_ok-head.head.addrs c.from-2.result = sym (ap (λ (o : Option ℕ). unwrap_or o 0) c.in-Some.is) ∙ c.in_ok-stored.ensures.stored.word_is in
    let size : ℕ = slice_index c.in_ok-head.head.sizes c.from.result in
    record {
      inside = keeps_inside c.args.files.now size c.in-Some.addr c.min-at.result (length (take c.min-n.result c.args.out.now))
          (subst (λ (w : ℕ). may_keep c.args.files.now size w ≡ true) (sym word) c.in_ok-stored.ensures.keeps)
          (omega (arith, length-take c.min-n.result c.args.out.now, c.min-at.ensures, c.min-n.ensures, c.from-3.ensures));
    }

pub returns-in_err-read_data-clause-untold : goal.returns-in_err-read_data-clause-untold
returns-in_err-read_data-clause-untold g c can =
    subst (λ (t : Told). IfDamaged c.from_residual-in_err-read_data.result (λ _. t.files ≡ None)) c.in_ok-head.ensures.reads.stays
    (carried c.read_data.result c.from_residual-in_err-read_data.result c.in_err-read_data.field-0.0 (λ _. (g.F.Folder.told c.read_head.new.folder).files ≡ None) c.in_err-read_data.was c.from_residual-in_err-read_data.ensures.1
    (c.read_data.ensures.untold
    (subst (λ (t : Told). ForSome t.files (Agrees c.args.files.now)) (sym c.in_ok-head.ensures.reads.stays) (λ image there. (can image there).agrees))
    (λ image now outside.
    let there : (g.F.Folder.told c.args.f.now).files ≡ Some image = ap (λ (t : Told). t.files) (sym c.in_ok-head.ensures.reads.stays) ∙ now in
    let known = stream_facts c.args.files.now image c.args.entry c.args.stream (can image there).has.streams (can image there).agrees c.requires.stream (can image there).has.is in
    let words = c.in_ok-head.ensures.head image there in
    let size_is : slice_index c.in_ok-head.head.sizes c.from.result ≡ size_word image c.args.entry c.args.stream = λ j. slice_index (words.sizes j) (c.from.ensures j) in
    let word : c.in-Some.addr ≡ address_word image c.args.entry c.args.stream = sym (ap (λ (o : Option ℕ). unwrap_or o 0) c.in-Some.is) ∙ c.in_ok-stored.ensures.stored.word_is ∙ (λ j. slice_index (words.addrs j) (c.from-2.ensures j)) in
    let has = subst (λ (w : ℕ). IsInFile w 0 (size_word image c.args.entry c.args.stream) image) (sym word) known.there outside in
    omega (arith, has, size_is, length-take c.min-n.result c.args.out.now, c.min-at.ensures, c.min-n.ensures, c.from-3.ensures))))

piece_of : (g : given.Over) (c : goal.In_ok-read_data g) → ForSome (g.F.Folder.told c.args.f.now).files (λ image. IsPiece (stream_bytes image c.args.entry c.args.stream) c.args.offset c.args.out.now (c.read_data.new.out ++ drop c.min-n.result c.args.out.now) c.min-n.result)
piece_of g c image there =
    let words = c.in_ok-head.ensures.head image there in
    let now : (g.F.Folder.told c.read_head.new.folder).files ≡ Some image = ap (λ (t : Told). t.files) c.in_ok-head.ensures.reads.stays ∙ there in
    let word : c.in-Some.addr ≡ address_word image c.args.entry c.args.stream = sym (ap (λ (o : Option ℕ). unwrap_or o 0) c.in-Some.is) ∙ c.in_ok-stored.ensures.stored.word_is ∙ (λ j. slice_index (words.addrs j) (c.from-2.ensures j)) in
    some_read image c.args.entry c.args.stream c.args.offset (slice_index c.in_ok-head.head.sizes c.from.result) c.in-Some.addr c.min-at.result c.min-n.result (length (take c.min-n.result c.args.out.now)) c.read_data.new.out c.args.out.now
    (λ j. slice_index (words.sizes j) (c.from.ensures j)) word (omega (arith, c.min-at.ensures, c.from-3.ensures)) c.min-n.ensures
    (omega (arith, length-take c.min-n.result c.args.out.now, c.min-n.ensures)) (c.in_ok-read_data.ensures.bytes image now)

pub returns-clause-bytes : goal.returns-clause-bytes
returns-clause-bytes g c = piece_of g c

pub returns-clause-piece : goal.returns-clause-piece
returns-clause-piece g c image there streams is =
    subst (λ (s : List ℕ). IsPiece s c.args.offset c.args.out.now (c.read_data.new.out ++ drop c.min-n.result c.args.out.now) c.min-n.result) (sym (stream_is_bytes image c.args.entry c.args.stream streams c.requires.stream is)) (piece_of g c image there)
