use Rattle.std.proofs.Common.{◌≡◌, ◌≤◌, ℕ, List, [], ◌∷◌, length, None, refl, subst, arith}
use Rattle.std.specs.Option.{ForSome}
use Rattle.std.proofs.lemmas.Bool.{eq-eqb, or_left}
use Rattle.spec_image.specs.Told.{Passes, Told}
use Rattle.blk_io.proofs.Carried.{carried, if_damaged_weaker}
use Rattle.blk_model.specs.Bytes.{overwritten}
use Rattle.law_state.specs.Changes.{StillFinds}
use Rattle.blk_object.specs.Making.{LeavesRoom, Takes, words_of_places}
use Rattle.blk_sparse.specs.NewParts.{AreStoredAt}
use Rattle.blk_sparse.proofs.NewPlaces.{among-second, both-find, both-taken, fewer, first-stored, none-before-them, room-left, second-stored, tells-first}
use Rattle.blk_sparse.proofs.new_part.take_part.Goals as goal

one-word : (w : ℕ) → length (w ∷ []) ≤ 1
one-word w = omega arith

two-words : (v w : ℕ) → length (v ∷ w ∷ []) ≤ 2
two-words v w = omega arith

pub returns-in_err-index-clause-stops : goal.returns-in_err-index-clause-stops
returns-in_err-index-clause-stops g c from there room = c.take_stream.ensures.stops from there (fewer 1 4 from room)

pub returns-in_err-index-clause-untold : goal.returns-in_err-index-clause-untold
returns-in_err-index-clause-untold g c room =
    carried c.take_stream.result c.from_residual.result c.in_err-index.field-0.0 (λ _. (g.F.Folder.told c.args.folder.now).files ≡ None) c.in_err-index.was c.from_residual.ensures.1
    (c.take_stream.ensures.untold (λ from there. fewer 1 4 from (room from there)))

pub returns-in_err-stored-clause-stops : goal.returns-in_err-stored-clause-stops
returns-in_err-stored-clause-stops g c from there room =
    let i : ℕ = c.in_ok-index.index in
    both-find (g.F.Folder.told c.args.folder.now) (g.F.Folder.told c.take_stream.new.folder) 1 1 (i ∷ []) (one-word i) c.take_stream.ensures.stops c.in_ok-index.ensures.taken (g.F.Folder.told c.take_stream-2.new.folder) c.take_stream-2.ensures.stops from there (fewer 2 3 from room)

pub returns-in_err-stored-clause-untold : goal.returns-in_err-stored-clause-untold
returns-in_err-stored-clause-untold g c room =
    let a : Told = g.F.Folder.told c.args.folder.now in
    let b : Told = g.F.Folder.told c.take_stream.new.folder in
    let i : ℕ = c.in_ok-index.index in
    carried c.take_stream-2.result c.from_residual-in_err-stored.result c.in_err-stored.field-0.0 (λ _. a.files ≡ None) c.in_err-stored.was c.from_residual-in_err-stored.ensures.1
    (if_damaged_weaker c.take_stream-2.result (λ _. b.files ≡ None) (λ _. a.files ≡ None) (λ damage none. tells-first a b 1 4 (i ∷ []) (one-word i) c.take_stream.ensures.stops room none)
    (c.take_stream-2.ensures.untold (λ mid now. fewer 1 3 mid (room-left a b 1 4 (i ∷ []) (one-word i) c.take_stream.ensures.stops c.in_ok-index.ensures.taken c.take_stream.ensures.writes.silent room mid now))))

pub returns-in_err-places-clause-stops : goal.returns-in_err-places-clause-stops
returns-in_err-places-clause-stops g c =
    let a : Told = g.F.Folder.told c.args.folder.now in
    let b : Told = g.F.Folder.told c.take_stream.new.folder in
    let d : Told = g.F.Folder.told c.take_stream-2.new.folder in
    let i : ℕ = c.in_ok-index.index in
    let s : ℕ = c.in_ok-stored.stored in
    both-find a d 2 3 (s ∷ i ∷ []) (two-words s i) (both-find a b 1 1 (i ∷ []) (one-word i) c.take_stream.ensures.stops c.in_ok-index.ensures.taken d c.take_stream-2.ensures.stops)
    (both-taken a b 1 1 (i ∷ []) (one-word i) c.take_stream.ensures.stops c.in_ok-index.ensures.taken d c.take_stream-2.ensures.stops (s ∷ []) c.in_ok-stored.ensures.taken)
    (g.F.Folder.told c.take_places.new.folder) c.take_places.ensures.stops

pub returns-in_err-places-clause-untold : goal.returns-in_err-places-clause-untold
returns-in_err-places-clause-untold g c room =
    let a : Told = g.F.Folder.told c.args.folder.now in
    let b : Told = g.F.Folder.told c.take_stream.new.folder in
    let d : Told = g.F.Folder.told c.take_stream-2.new.folder in
    let i : ℕ = c.in_ok-index.index in
    let s : ℕ = c.in_ok-stored.stored in
    let two : ForSome a.files (λ from. LeavesRoom 2 from → Passes a d (StillFinds [] from)) = both-find a b 1 1 (i ∷ []) (one-word i) c.take_stream.ensures.stops c.in_ok-index.ensures.taken d c.take_stream-2.ensures.stops in
    let taken : ForSome a.files (λ from. LeavesRoom 2 from → ForSome d.files (Takes (s ∷ i ∷ []) from)) = both-taken a b 1 1 (i ∷ []) (one-word i) c.take_stream.ensures.stops c.in_ok-index.ensures.taken d c.take_stream-2.ensures.stops (s ∷ []) c.in_ok-stored.ensures.taken in
    carried c.take_places.result c.from_residual-in_err-places.result c.in_err-places.field-0.0 (λ _. a.files ≡ None) c.in_err-places.was c.from_residual-in_err-places.ensures.1
    (if_damaged_weaker c.take_places.result (λ _. d.files ≡ None) (λ _. a.files ≡ None) (λ damage none. tells-first a d 2 3 (s ∷ i ∷ []) (two-words s i) two room none)
    (c.take_places.ensures.untold (room-left a d 2 3 (s ∷ i ∷ []) (two-words s i) two taken (λ none. c.take_stream-2.ensures.writes.silent (c.take_stream.ensures.writes.silent none)) room)))

pub returns-clause-stops : goal.returns-clause-stops
returns-clause-stops g c =
    let a : Told = g.F.Folder.told c.args.folder.now in
    let b : Told = g.F.Folder.told c.take_stream.new.folder in
    let d : Told = g.F.Folder.told c.take_stream-2.new.folder in
    let i : ℕ = c.in_ok-index.index in
    let s : ℕ = c.in_ok-stored.stored in
    both-find a d 2 3 (s ∷ i ∷ []) (two-words s i) (both-find a b 1 1 (i ∷ []) (one-word i) c.take_stream.ensures.stops c.in_ok-index.ensures.taken d c.take_stream-2.ensures.stops)
    (both-taken a b 1 1 (i ∷ []) (one-word i) c.take_stream.ensures.stops c.in_ok-index.ensures.taken d c.take_stream-2.ensures.stops (s ∷ []) c.in_ok-stored.ensures.taken)
    (g.F.Folder.told c.take_places.new.folder) c.take_places.ensures.stops

pub returns-clause-taken : goal.returns-clause-taken
returns-clause-taken g c from there room image now =
    let a : Told = g.F.Folder.told c.args.folder.now in
    let b : Told = g.F.Folder.told c.take_stream.new.folder in
    let d : Told = g.F.Folder.told c.take_stream-2.new.folder in
    let e : Told = g.F.Folder.told c.take_places.new.folder in
    let i : ℕ = c.in_ok-index.index in
    let s : ℕ = c.in_ok-stored.stored in
    let two : ForSome a.files (λ from. LeavesRoom 2 from → Passes a d (StillFinds [] from)) = both-find a b 1 1 (i ∷ []) (one-word i) c.take_stream.ensures.stops c.in_ok-index.ensures.taken d c.take_stream-2.ensures.stops in
    let taken : ForSome a.files (λ from. LeavesRoom 2 from → ForSome d.files (Takes (s ∷ i ∷ []) from)) = both-taken a b 1 1 (i ∷ []) (one-word i) c.take_stream.ensures.stops c.in_ok-index.ensures.taken d c.take_stream-2.ensures.stops (s ∷ []) c.in_ok-stored.ensures.taken in
    let words : List ℕ = words_of_places c.in_ok-places.places in
    record {
      taken = both-taken a d 2 3 (s ∷ i ∷ []) (two-words s i) two taken e c.take_places.ensures.stops words c.in_ok-places.ensures.taken from there room image now;
      stored = first-stored a d 2 3 (s ∷ i ∷ []) (two-words s i) two taken e c.take_places.ensures.stops words c.in_ok-places.ensures.taken s (overwritten [] c.args.place c.args.piece.now) (or_left _ _ (eq-eqb s s refl))
          (second-stored a b 1 1 (i ∷ []) (one-word i) c.take_stream.ensures.stops c.in_ok-index.ensures.taken d c.take_stream-2.ensures.stops (s ∷ []) c.in_ok-stored.ensures.taken s (overwritten [] c.args.place c.args.piece.now) c.in_ok-stored.ensures.stored) from there room image now;
      index_stored = subst (λ (bytes : List ℕ). AreStoredAt i bytes image) (none-before-them c.args.map.now)
          (first-stored a d 2 3 (s ∷ i ∷ []) (two-words s i) two taken e c.take_places.ensures.stops words c.in_ok-places.ensures.taken i (overwritten [] 0 c.args.map.now) (among-second s i)
          (first-stored a b 1 1 (i ∷ []) (one-word i) c.take_stream.ensures.stops c.in_ok-index.ensures.taken d c.take_stream-2.ensures.stops (s ∷ []) c.in_ok-stored.ensures.taken i (overwritten [] 0 c.args.map.now) (or_left _ _ (eq-eqb i i refl)) c.in_ok-index.ensures.stored) from there room image now);
    }
