use Rattle.std.proofs.Common.{◌≡◌, ◌≢◌, ℕ, inr, Option, None, sym, ◌∙◌, ap, subst, refl}
use Rattle.std.specs.Prelude.{unwrap_or}
use Rattle.std.proofs.lemmas.Result.{on_ok_weaker}
use Rattle.spec_image.specs.Bytes.{content, word_at}
use Rattle.spec_image.specs.Image.{Image}
use Rattle.spec_image.proofs.Runs.{passes_none, passes_weaker, some_inj}
use Rattle.spec_format.specs.Sealed.{record_at}
use Rattle.blk_io.proofs.Carried.{if_damaged_weaker, untold_where}
use Rattle.blk_entry.proofs.KeyPlaces.{damaged_any}
use Rattle.blk_stream.specs.Streams.{address_place, address_word, may_keep, size_place}
use Rattle.blk_stream.specs.Freeing.{MayBeFreed}
use Rattle.blk_stream.specs.Dropping.{DropsStream, DropsStreamInProgress}
use Rattle.blk_stream.proofs.PlacesLeft.{read_size, read_word}
use Rattle.blk_stream.proofs.Drops.{changed_drops, changing_drops, none_dropped, stays_dropping}
use Rattle.blk_stream.proofs.StreamPlaces.{clash, keeps_stands}
use Rattle.blk_stream.proofs.dropping.drop_stream.Given as given
use Rattle.blk_stream.proofs.dropping.drop_stream.Goals as goal

pub returns-in_err-old-clause-stops : goal.returns-in_err-old-clause-stops
returns-in_err-old-clause-stops g c from there read checks =
    passes_none (DropsStreamInProgress c.args.entry c.args.stream from) refl (λ image now. subst (DropsStreamInProgress c.args.entry c.args.stream from) (some_inj (sym there ∙ now)) (stays_dropping c.args.entry c.args.stream from checks))

pub returns-in_err-old-clause-untold : goal.returns-in_err-old-clause-untold
returns-in_err-old-clause-untold g c can =
    damaged_any c.from_residual.result ((g.F.Folder.told c.args.folder.now).files ≡ None)
    (untold_where (g.F.Folder.told c.args.folder.now).files
    (λ image there.
    let size = read_size image c.args.entry c.args.stream c.args.bytes.now c.requires.kind c.requires.stream (can image there).0 in
    let word = read_word image c.args.entry c.args.stream c.args.bytes.now c.requires.kind c.requires.stream (can image there).0 in
    clash (c.in_err-old.ensures.right ((λ j. may_keep c.args.files.now (size j) (word j)) ∙ (can image there).2.keeps))))

pub returns-in_default-clause-dropped : goal.returns-in_default-clause-dropped
returns-in_default-clause-dropped g c from there read checks image now =
    let size = read_size from c.args.entry c.args.stream c.args.bytes.now c.requires.kind c.requires.stream read in
    let word = read_word from c.args.entry c.args.stream c.args.bytes.now c.requires.kind c.requires.stream read in
    let stored = c.in_ok-old.ensures.stored in
    subst (DropsStream c.args.entry c.args.stream from) (some_inj (sym there ∙ now))
    (none_dropped c.args.entry c.args.stream from checks (sym size ∙ sym stored.size_is ∙ stored.size_is ∙ stored.none c.in_default.is) (sym word ∙ sym stored.word_is ∙ ap (λ (o : Option ℕ). unwrap_or o 0) c.in_default.is))

pub returns-in_default-clause-stops : goal.returns-in_default-clause-stops
returns-in_default-clause-stops g c from there read checks =
    passes_none (DropsStreamInProgress c.args.entry c.args.stream from) refl (λ image now. subst (DropsStreamInProgress c.args.entry c.args.stream from) (some_inj (sym there ∙ now)) (stays_dropping c.args.entry c.args.stream from checks))

pub leave_place-requires-clause-old : goal.leave_place-requires-clause-old
leave_place-requires-clause-old g c =
    keeps_stands c.args.files.now (word_at (content c.args.bytes.now) (size_place c.args.stream)) (word_at (content c.args.bytes.now) (address_place c.args.stream)) c.in-Some.addr c.in_ok-old.ensures.keeps (sym (ap (λ (o : Option ℕ). unwrap_or o 0) c.in-Some.is) ∙ c.in_ok-old.ensures.stored.word_is)

-- the address that is freed
word_is : (g : given.Over) (c : goal.After-slice_known-2-1 g) (from : Image) → c.args.bytes.now ≡ record_at from c.args.entry → c.in-Some.addr ≡ address_word from c.args.entry c.args.stream
word_is g c from read =
    sym (ap (λ (o : Option ℕ). unwrap_or o 0) c.in-Some.is) ∙ c.in_ok-old.ensures.stored.word_is ∙ read_word from c.args.entry c.args.stream c.args.bytes.now c.requires.kind c.requires.stream read

some_word : (g : given.Over) (c : goal.After-slice_known-2-1 g) (from : Image) → c.args.bytes.now ≡ record_at from c.args.entry → address_word from c.args.entry c.args.stream ≢ 0
some_word g c from read none = c.in_ok-old.ensures.stored.some c.in-Some.addr c.in-Some.is (word_is g c from read ∙ none)

pub returns-clause-dropped : goal.returns-clause-dropped
returns-clause-dropped g c =
    on_ok_weaker c.leave_place.result
    (λ changed from there read checks image now. changed_drops c.args.entry c.args.stream from c.in-Some.addr (word_is g c from read) (some_word g c from read) image (changed from there read checks image now))
    c.leave_place.ensures.changed

pub returns-clause-stops : goal.returns-clause-stops
returns-clause-stops g c from there read checks =
    let drops = changing_drops c.args.entry c.args.stream from c.in-Some.addr (word_is g c from read) (some_word g c from read) in
    passes_weaker (c.leave_place.ensures.stops from there read checks) drops drops

pub returns-clause-damaged : goal.returns-clause-damaged
returns-clause-damaged g c =
    if_damaged_weaker c.leave_place.result _ _
    (λ damage cause. inr (c.in-Some.addr, keeps_stands c.args.files.now (word_at (content c.args.bytes.now) (size_place c.args.stream)) (word_at (content c.args.bytes.now) (address_place c.args.stream)) c.in-Some.addr c.in_ok-old.ensures.keeps (sym (ap (λ (o : Option ℕ). unwrap_or o 0) c.in-Some.is) ∙ c.in_ok-old.ensures.stored.word_is) cause.0, cause.1))
    c.leave_place.ensures.cause

pub returns-clause-untold : goal.returns-clause-untold
returns-clause-untold g c can =
    c.leave_place.ensures.untold
    (λ from there. ((can from there).0, (can from there).1, subst (λ (w : ℕ). MayBeFreed w from) (sym (word_is g c from (can from there).0)) (can from there).2.freed))
