-- Operations on the list at each of their words: they commit at the second.
use Rattle.std.proofs.Common.{inl, ◌≡◌, ◌≢◌, ℕ, zero, suc, ◌+◌, ◌*◌, ◌%◌, ◌/◌, ◌^◌, ◌<◌, ◌≤◌, Bool, true, false, List, [], ◌∷◌, ◌++◌, length, All, take, if◌then◌else◌, refl, sym, ap, ap₂, ◌∙◌, subst, arith, get_or}
use Rattle.std.specs.Prelude.{◌==◌}
use Rattle.std.proofs.lemmas.List.{append-nil, take_all}
use Rattle.std.proofs.lemmas.List.Elements.{All-nil, All-cons}
use Rattle.std.proofs.lemmas.Bool.{le-ltb}
use Rattle.spec_image.specs.Bytes.{content, word_at}
use Rattle.spec_image.specs.Image.{Image, Block, byte, word}
use Rattle.spec_image.specs.Steps.{TrailStep, applied, after, word_step}
use Rattle.spec_image.specs.Footprint.{Footprint, either}
use Rattle.spec_image.specs.Told.{Along, IsQuiet, CommitsAt}
use Rattle.spec_image.proofs.Cuts.{after-append}
use Rattle.spec_image.proofs.Footprints.{outside-trans, outside_wider, within_left, within_right}
use Rattle.spec_image.proofs.Runs.{until-append, until_weaker2, until_last, quiet-append}
use Rattle.spec_format.specs.Address.{kind_of, rankings, file_selector, place}
use Rattle.spec_format.specs.Records.{node_in}
use Rattle.spec_format.specs.Sealed.{AreChanges, IsMidUpdate, IsUpdated, record_at, record_range, seal_place, sealed_steps}
use Rattle.spec_format.proofs.SealedFields.{record_word, updated_is_new}
use Rattle.spec_format.proofs.SealedRecords.{node_bytes, node_seal, moments, updated}
use Rattle.spec_format.proofs.Finished.{headers-next}
use Rattle.spec_folder.specs.ListView.{ListView, ListWrite, Operation, Transaction, after_writes, IsAtRest}
use Rattle.spec_folder.specs.Walk.{walk}
use Rattle.spec_folder.specs.Completion.{insert, remove, move, completed_list}
use Rattle.spec_folder.specs.ListPlans.{CommitsAtTwo, touch_writes, writes_of}
use Rattle.spec_folder.specs.View.{list_of}
use Rattle.spec_folder.specs.ListSteps.{IsPartly, IsTouched, AreTimes, steps_of_writes, times_of, touch_steps, touched_by_writes, write_steps}
use Rattle.spec_folder.specs.ListImages.{IsWritable, CanBeMade, CompletesTo, HasListAtRest}
use Rattle.law_folder.specs.ListWords.{InsertsCanBeMade, InsertsCommitAtTheSecondWord, InsertsEndAtRest, RemovalsCanBeMade, RemovalsCommitAtTheSecondWord, RemovalsEndAtRest, TouchesCanBeMade, TouchesAreMadeInTurn, TouchesCanGoOn, TouchesCommitAtTheSecondWord, TouchesEndAtRest, TouchesSetTheTimes}
use Rattle.spec_folder.specs.ShownChanges.{OnlyListChanges}
use Rattle.law_folder.proofs.lists.Adding.{changes-add}
use Rattle.law_folder.proofs.lists.AtRest.{inserts-turn, inserts-end, removals-turn, removals-end, touches-turn, touches-end}
use Rattle.law_folder.proofs.claims.Inside.{updates-inside}
use Rattle.law_folder.proofs.lists.ListCompletions.{insert_counts, remove_counts, move_counts, listed}
use Rattle.law_folder.proofs.updates.Nodes.{times-hidden}
use Rattle.law_folder.proofs.lists.WriteSteps.{IsGood, good-node, one_write, first_can, rest_can, still_check, quiet-sealed, quiet-writes, writable-after, writable-sealed, writable-writes, writes_show, writes-go_on}
use Rattle.law_folder.proofs.lists.WriteWords.{operation_can}

-- an operation commits with its second write
pub turns_whole : (from : Image) → IsWritable from → (code node : ℕ) (rest : List ListWrite) (before later : List ℕ) → CanBeMade from (Operation code ∷ Transaction node ∷ rest) → CommitsAtTwo (list_of from) (Operation code ∷ Transaction node ∷ rest) before later
    → CommitsAt 2 (CompletesTo before) (CompletesTo later) from (steps_of_writes (Operation code ∷ Transaction node ∷ rest) from)
unfolding write_steps word_step
turns_whole from ready code node rest before later can turn =
    let first = one_write (Operation code) from ready (first_can from (Operation code) (Transaction node ∷ rest) can) in
    let i1 : Image = after (write_steps (Operation code) from) from in
    let ready1 : IsWritable i1 = writable-after (Operation code) from ready in
    let can1 = rest_can from i1 (Operation code) (Transaction node ∷ rest) first.ends can in
    let second = one_write (Transaction node) i1 ready1 (first_can i1 (Transaction node) rest can1) in
    let i2 : Image = after (write_steps (Transaction node) i1) i1 in
    let can2 = rest_can i1 i2 (Transaction node) rest second.ends can1 in
    let shows = writes_show rest i2 (writable-after (Transaction node) i1 ready1) can2 in
    let l1 : list_of i1 ≡ after_writes (Operation code ∷ []) (list_of from) = first.ends.list in
    let l2 : list_of i2 ≡ after_writes (Operation code ∷ Transaction node ∷ []) (list_of from) = second.ends.list ∙ ap (after_writes (Transaction node ∷ [])) l1 in
    let done : ListView → List ℕ = λ l. walk (completed_list l) in
    let Q : Image → Type 0 = CompletesTo later in
    let each : (i : Image) → IsPartly i2 rest i → Q i = λ i part.
    ap done (part.shown.list ∙ ap (after_writes (take part.made rest)) l2) ∙ turn (suc (suc part.made)) ∙ ap (λ (t : Bool). if t then before else later) (le-ltb (suc (suc part.made)) 2 (omega arith)) in
    (turn 0, (ap done l1 ∙ turn 1, until_weaker2 (IsPartly i2 rest) Q (IsPartly i2 rest) Q (steps_of_writes rest i2) i2 each each shows.along))

-- an operation ends with its list idle
rests_after : (from : Image) → IsWritable from → (writes : List ListWrite) (nodes : List ℕ) → CanBeMade from writes → IsAtRest (after_writes writes (list_of from)) nodes → HasListAtRest nodes (after (steps_of_writes writes from) from)
rests_after from ready writes nodes can rest = subst (λ (l : ListView). IsAtRest l nodes) (sym (writes_show writes from ready can).ends.list) rest

pub inserts-can : InsertsCanBeMade
inserts-can image node nodes can = operation_can insert node image (omega arith) (insert_counts node (list_of image) nodes can.rest.whole can.rest.idle can.lacks can.good can.few)

pub inserts-turn_words : InsertsCommitAtTheSecondWord
inserts-turn_words image node nodes ready can = turns_whole image ready insert node _ nodes (node ∷ nodes) (inserts-can image node nodes can) (inserts-turn node (list_of image) nodes can)

pub inserts-rest : InsertsEndAtRest
inserts-rest image node nodes ready can = rests_after image ready (writes_of insert node (list_of image)) (node ∷ nodes) (inserts-can image node nodes can) (inserts-end node (list_of image) nodes can)

pub removals-can : RemovalsCanBeMade
removals-can image node prefix suffix rest = operation_can remove node image (omega arith) (remove_counts node (list_of image) prefix suffix rest.whole rest.idle)

pub removals-turn_words : RemovalsCommitAtTheSecondWord
removals-turn_words image node prefix suffix ready rest =
    turns_whole image ready remove node _ (prefix ++ node ∷ suffix) (prefix ++ suffix) (removals-can image node prefix suffix rest) (removals-turn node (list_of image) prefix suffix rest)

pub removals-rest : RemovalsEndAtRest
removals-rest image node prefix suffix ready rest =
    rests_after image ready (writes_of remove node (list_of image)) (prefix ++ suffix) (removals-can image node prefix suffix rest) (removals-end node (list_of image) prefix suffix rest)

-- An access: its writes, and then the times of the node.

pub each : (P : ℕ × ℕ → Type 0) (w x y z : ℕ × ℕ) → P w → P x → P y → P z → All P (w ∷ x ∷ y ∷ z ∷ [])
each P w x y z p q r s = All-cons P w (x ∷ y ∷ z ∷ []) p (All-cons P x (y ∷ z ∷ []) q (All-cons P y (z ∷ []) r (All-cons P z [] s (All-nil P))))

pub times_are : (node moment : ℕ) → kind_of node ≡ rankings → AreChanges (seal_place node) (times_of moment)
times_are node moment kind =
    let seal = node_seal node kind in
    let low : ℕ = moment % 2 ^ 32 in
    let high : ℕ = moment / 2 ^ 32 in
    record {
      few = omega arith;
      aligned = each (λ change. change.0 % 4 ≡ 0) (0, low) (4, high) (8, low) (12, high) refl refl refl refl;
      before = each (λ change. change.0 < seal_place node) (0, low) (4, high) (8, low) (12, high) (omega (arith, seal)) (omega (arith, seal)) (omega (arith, seal)) (omega (arith, seal));
      different = (
        All-cons (λ other. other.0 ≢ 0) (4, high) ((8, low) ∷ (12, high) ∷ []) (λ e. absurd (omega arith)) (All-cons (λ other. other.0 ≢ 0) (8, low) ((12, high) ∷ []) (λ e. absurd (omega arith)) (All-cons (λ other. other.0 ≢ 0) (12, high) [] (λ e. absurd (omega arith)) (All-nil (λ other. other.0 ≢ 0)))),
        (
          All-cons (λ other. other.0 ≢ 4) (8, low) ((12, high) ∷ []) (λ e. absurd (omega arith)) (All-cons (λ other. other.0 ≢ 4) (12, high) [] (λ e. absurd (omega arith)) (All-nil (λ other. other.0 ≢ 4))),
          (All-cons (λ other. other.0 ≢ 8) (12, high) [] (λ e. absurd (omega arith)) (All-nil (λ other. other.0 ≢ 8)), (All-nil (λ other. other.0 ≢ 12), tt)),
        ),
      );
    }

-- a commit stays where later steps follow it
turns_then : (count : ℕ) (P Q : Image → Type 0) (s t : List TrailStep) (image : Image) → count ≤ length s → CommitsAt count P Q image s → Along Q (after s image) t → CommitsAt count P Q image (s ++ t)
turns_then zero P Q s t image low all more = until-append Q Q s t image all more
turns_then (suc count) P Q [] t image low all more = absurd (omega arith)
turns_then (suc count) P Q (x ∷ s) t image low all more = (all.0, turns_then count P Q s t (applied x image) (omega arith) all.1 more)

turns_both : (count : ℕ) (P Q : Image → Type 0) (t : List TrailStep) (image : Image) → Along P image t → Along Q image t → CommitsAt count P Q image t
turns_both zero P Q t image p q = q
turns_both (suc count) P Q [] image p q = p
turns_both (suc count) P Q (x ∷ t) image p q = (p.0, turns_both count P Q t (applied x image) p.1 q.1)

module _ (from : Image) (ready : IsWritable from) (node moment : ℕ) (good : (list_of from).checks node ≡ true) (ws : List ListWrite) (can : CanBeMade from ws) where
  -- the image once the writes are made
  abbrev pub between : Image
  between = after (steps_of_writes ws from) from

  abbrev pub times : List TrailStep
  times = sealed_steps between node (times_of moment)

  -- the node is as good there
  pub still_checks : (list_of between).checks node ≡ true
  still_checks = ap (λ (c : ℕ → Bool). c node) (still_check ws from between (writes_show ws from ready can).ends) ∙ good

  pub still_good : IsGood between node
  still_good = good-node between node (writable-writes ws from ready) still_checks

  -- the times, where the writes are made
  pub times_show : Along (λ image. (list_of image ≡ after_writes ws (list_of from)) × IsTouched from node ws image) between times
  times_show =
      let shows = writes_show ws from ready can in
      let i : Image = after (steps_of_writes ws from) from in
      let is = still_good in
      let seal = node_seal node is.kind in
      let changes : List (ℕ × ℕ) = times_of moment in
      let all : All (λ c. c.0 + 4 ≤ seal_place node) changes = each (λ c. c.0 + 4 ≤ seal_place node) (0, moment % 2 ^ 32) (4, moment / 2 ^ 32) (8, moment % 2 ^ 32) (12, moment / 2 ^ 32) (omega (arith, seal)) (omega (arith, seal)) (omega (arith, seal)) (omega (arith, seal)) in
      let early : All (λ c. c.0 < 16) changes = each (λ c. c.0 < 16) (0, moment % 2 ^ 32) (4, moment / 2 ^ 32) (8, moment % 2 ^ 32) (12, moment / 2 ^ 32) (omega arith) (omega arith) (omega arith) (omega arith) in
      let here : IsPartly from ws i = until_last (IsPartly from ws) (IsPartly from ws) (steps_of_writes ws from) from shows.along in
      let F : Footprint = touched_by_writes ws in
      let G : Footprint = record_range node in
      let M : Image → Type 0 = IsMidUpdate i node changes in
      let R : Image → Type 0 = λ image. (list_of image ≡ after_writes ws (list_of from)) × IsTouched from node ws image in
      let step : (image : Image) → M image → R image = λ image m.
      let none : OnlyListChanges [] i image = times-hidden i image node changes (record { good = still_checks; bytes = (writable-writes ws from ready).bytes }) (times_are node moment is.kind) early m in
      let sum : OnlyListChanges ws from image = subst (λ (w : List ListWrite). OnlyListChanges w from image) (append-nil ws) (changes-add ws [] from i image shows.ends none) in (
        sum.list,
        record {
          made = length ws;
          within = omega arith;
          shown = subst (λ (w : List ListWrite). OnlyListChanges w from image) (sym (take_all (length ws) ws (omega arith))) sum;
          outside = outside-trans (either F G) from i image (outside_wider F (either F G) from i (within_left F G) here.outside) (outside_wider G (either F G) i image (within_right F G) m.outside);
          headers = headers-next from i image here.headers (updates-inside i image node changes is.stands (inl is.kind) m).headers;
        },
      ) in
      until_weaker2 M R M R (sealed_steps i node changes) i step step (moments node i changes is.fits is.checks all)

  pub touch_along : Along (IsTouched from node ws) from (touch_steps node moment ws from)
  touch_along =
      let T : Image → Type 0 = IsTouched from node ws in
      let P : Image → Type 0 = IsPartly from ws in
      let R : Image → Type 0 = λ image. (list_of image ≡ after_writes ws (list_of from)) × IsTouched from node ws image in
      let F : Footprint = touched_by_writes ws in
      let G : Footprint = record_range node in
      let first : (image : Image) → P image → T image = λ image p. record { made = p.made; within = p.within; shown = p.shown; outside = outside_wider F (either F G) from image (within_left F G) p.outside; headers = p.headers } in
      let second : (image : Image) → R image → T image = λ image r. r.1 in
      until-append T T (steps_of_writes ws from) (sealed_steps (after (steps_of_writes ws from) from) node (times_of moment)) from
      (until_weaker2 P T P T (steps_of_writes ws from) from first first (writes_show ws from ready can).along)
      (until_weaker2 R T R T (sealed_steps (after (steps_of_writes ws from) from) node (times_of moment)) (after (steps_of_writes ws from) from) second second times_show)

  -- in the end all of the writes are made
  pub touch_list : list_of (after (touch_steps node moment ws from) from) ≡ after_writes ws (list_of from)
  touch_list =
      let R : Image → Type 0 = λ image. (list_of image ≡ after_writes ws (list_of from)) × IsTouched from node ws image in
      ap list_of (after-append (steps_of_writes ws from) (sealed_steps (after (steps_of_writes ws from) from) node (times_of moment)) from)
      ∙ (until_last R R (sealed_steps (after (steps_of_writes ws from) from) node (times_of moment)) (after (steps_of_writes ws from) from) times_show).0

  -- in the end the node has its times
  pub touch_updated : IsUpdated between node (times_of moment) (after (touch_steps node moment ws from) from)
  touch_updated =
      let i : Image = after (steps_of_writes ws from) from in
      subst (IsUpdated i node (times_of moment)) (sym (after-append (steps_of_writes ws from) (sealed_steps i node (times_of moment)) from)) (updated node i (times_of moment) still_good.fits)

  -- the times, at which the redo gives the new list
  later_along : (before later : List ℕ) → CommitsAtTwo (list_of from) ws before later → Along (CompletesTo later) between times
  later_along before later turn =
      let R : Image → Type 0 = λ image. (list_of image ≡ after_writes ws (list_of from)) × IsTouched from node ws image in
      let Q : Image → Type 0 = CompletesTo later in
      let n : ℕ = suc (suc (length ws)) in
      let is : walk (completed_list (after_writes ws (list_of from))) ≡ later =
      ap (λ (w : List ListWrite). walk (completed_list (after_writes w (list_of from)))) (sym (take_all n ws (omega arith))) ∙ turn n ∙ ap (λ (t : Bool). if t then before else later) (le-ltb n 2 (omega arith)) in
      let step : (image : Image) → R image → Q image = λ image r. ap (λ (l : ListView). walk (completed_list l)) r.0 ∙ is in
      until_weaker2 R Q R Q (sealed_steps (after (steps_of_writes ws from) from) node (times_of moment)) (after (steps_of_writes ws from) from) step step times_show

-- the image can be written at each word, and no step is a note
pub touch_goes_on : (from : Image) → IsWritable from → (node moment : ℕ) (ws : List ListWrite) → Along IsWritable from (touch_steps node moment ws from)
touch_goes_on from ready node moment ws =
    let i : Image = after (steps_of_writes ws from) from in
    until-append IsWritable IsWritable (steps_of_writes ws from) (sealed_steps i node (times_of moment)) from (writes-go_on from ws ready) (writable-sealed node (times_of moment) i (writable-writes ws from ready))

pub touch_quiet : (from : Image) (node moment : ℕ) (ws : List ListWrite) → IsQuiet (touch_steps node moment ws from)
touch_quiet from node moment ws =
    let i : Image = after (steps_of_writes ws from) from in
    quiet-append (steps_of_writes ws from) (sealed_steps i node (times_of moment)) (quiet-writes ws from) (quiet-sealed i node (times_of moment))

-- both times are a moment once its words are written
pub times_set : (from image : Image) (node moment : ℕ) → kind_of node ≡ rankings → moment < 2 ^ 64 → IsUpdated from node (times_of moment) image → AreTimes node moment image
unfolding node_in
times_set from image node moment kind small done =
    let low : ℕ = moment % 2 ^ 32 in
    let high : ℕ = moment / 2 ^ 32 in
    let changes : List (ℕ × ℕ) = times_of moment in
    let words : All (λ c. c.1 < 2 ^ 32) changes = each (λ c. c.1 < 2 ^ 32) (0, low) (4, high) (8, low) (12, high) (omega arith) (omega arith) (omega arith) (omega arith) in
    let new : (k : ℕ) → k < 4 → word_at (content (record_at image node)) (get_or changes k (0, 0)).0 ≡ (get_or changes k (0, 0)).1 = λ k less. updated_is_new from image node changes (times_are node moment kind) done k (0, 0) less words in
    let field_is : (q v : ℕ) → q + 4 ≤ 36 → word_at (content (record_at image node)) q ≡ v → word image (Block (file_selector node)) (place node + q) ≡ v =
    λ q v inside is_v. sym (record_word image node q (let size = node_bytes node kind in omega (arith, size, inside))) ∙ is_v in
    let f : ℕ → ℕ = byte image (Block (file_selector node)) in
    let p : ℕ = place node in
    let w0 : word_at f (p + 0) ≡ low = field_is 0 low (omega arith) (new 0 (omega arith)) in
    let w4 : word_at f (p + 4) ≡ high = field_is 4 high (omega arith) (new 1 (omega arith)) in
    let w8 : word_at f (p + 8) ≡ low = field_is 8 low (omega arith) (new 2 (omega arith)) in
    let w12 : word_at f (p + 12) ≡ high = field_is 12 high (omega arith) (new 3 (omega arith)) in
    let both : low + 4294967296 * high ≡ moment = omega arith in
    let zero : p + 0 ≡ p = omega arith in
    let twelve : p + 12 ≡ p + 8 + 4 = omega arith in
    record {
      used = ap₂ (λ (a b : ℕ). a + 4294967296 * b) (ap (word_at f) (sym zero) ∙ w0) w4 ∙ both;
      modified = ap₂ (λ (a b : ℕ). a + 4294967296 * b) w8 (ap (word_at f) (sym twelve) ∙ w12) ∙ both;
    }

-- an access commits with its second write, and where it has no writes the lists are one
module _ (from : Image) (ready : IsWritable from) (node moment : ℕ) (good : (list_of from).checks node ≡ true) (before later : List ℕ) where
  turns_none : CanBeMade from [] → CommitsAtTwo (list_of from) [] before later → CommitsAt 2 (CompletesTo before) (CompletesTo later) from (touch_steps node moment [] from)
  turns_none can turn =
      let P : Image → Type 0 = CompletesTo before in
      let Q : Image → Type 0 = CompletesTo later in
      let same : later ≡ before = sym (turn 2) ∙ turn 0 in
      let q : Along Q from (sealed_steps from node (times_of moment)) = later_along from ready node moment good [] can before later turn in
      turns_both 2 P Q (sealed_steps from node (times_of moment)) from (until_weaker2 Q P Q P (sealed_steps from node (times_of moment)) from (λ i e. e ∙ same) (λ i e. e ∙ same) q) q

  two_steps : (code : ℕ) (rest : List ListWrite) → 2 ≤ length (steps_of_writes (Operation code ∷ Transaction node ∷ rest) from)
  unfolding write_steps word_step
  two_steps code rest = omega arith

  turns_some : (code : ℕ) (rest : List ListWrite) → CanBeMade from (Operation code ∷ Transaction node ∷ rest) → CommitsAtTwo (list_of from) (Operation code ∷ Transaction node ∷ rest) before later
      → CommitsAt 2 (CompletesTo before) (CompletesTo later) from (touch_steps node moment (Operation code ∷ Transaction node ∷ rest) from)
  turns_some code rest can turn =
      let P : Image → Type 0 = CompletesTo before in
      let Q : Image → Type 0 = CompletesTo later in
      let ws : List ListWrite = Operation code ∷ Transaction node ∷ rest in
      turns_then 2 P Q (steps_of_writes ws from) (sealed_steps (after (steps_of_writes ws from) from) node (times_of moment)) from (two_steps code rest)
      (turns_whole from ready code node rest before later can turn) (later_along from ready node moment good ws can before later turn)

  pub touch_turns_words : CanBeMade from (touch_writes node (list_of from)) → CommitsAtTwo (list_of from) (touch_writes node (list_of from)) before later
      → CommitsAt 2 (CompletesTo before) (CompletesTo later) from (touch_steps node moment (touch_writes node (list_of from)) from)
  touch_turns_words = go ((list_of from).head == node)
    where
      Turned : List ListWrite → Type 0
      Turned w = CanBeMade from w → CommitsAtTwo (list_of from) w before later → CommitsAt 2 (CompletesTo before) (CompletesTo later) from (touch_steps node moment w from)

      go : (t : Bool) → Turned (if t then [] else writes_of move node (list_of from))
      go true = turns_none
      go false = turns_some move _

-- what a move of a listed node writes can be made
pub moves-can : (image : Image) (node : ℕ) (prefix suffix : List ℕ) → HasListAtRest (prefix ++ node ∷ suffix) image → CanBeMade image (writes_of move node (list_of image))
moves-can image node prefix suffix rest = operation_can move node image (omega arith) (move_counts node (list_of image) prefix suffix rest.whole rest.idle)

-- and so can what an access writes
pub touches-can : TouchesCanBeMade
touches-can image node prefix suffix rest = go ((list_of image).head == node)
  where
    go : (t : Bool) → CanBeMade image (if t then [] else writes_of move node (list_of image))
    go true = record { nodes = tt; words = tt }
    go false = moves-can image node prefix suffix rest

pub touches-in_turn : TouchesAreMadeInTurn
touches-in_turn image node moment prefix suffix ready rest =
    touch_along image ready node moment (listed node (list_of image) prefix suffix rest.whole).good (touch_writes node (list_of image)) (touches-can image node prefix suffix rest)

pub touches-go_on : TouchesCanGoOn
touches-go_on image node moment ready = touch_goes_on image ready node moment (touch_writes node (list_of image))

pub touches-turn_words : TouchesCommitAtTheSecondWord
touches-turn_words image node moment prefix suffix ready rest =
    touch_turns_words image ready node moment (listed node (list_of image) prefix suffix rest.whole).good (prefix ++ node ∷ suffix) (node ∷ prefix ++ suffix) (touches-can image node prefix suffix rest) (touches-turn node (list_of image) prefix suffix rest)

pub touches-rest : TouchesEndAtRest
touches-rest image node moment prefix suffix ready rest =
    subst (λ (l : ListView). IsAtRest l (node ∷ prefix ++ suffix))
    (sym (touch_list image ready node moment (listed node (list_of image) prefix suffix rest.whole).good (touch_writes node (list_of image)) (touches-can image node prefix suffix rest)))
    (touches-end node (list_of image) prefix suffix rest)

pub touch_times : (image : Image) (node moment : ℕ) → IsWritable image → (list_of image).checks node ≡ true → (ws : List ListWrite) → CanBeMade image ws → moment < 2 ^ 64 → AreTimes node moment (after (touch_steps node moment ws image) image)
touch_times image node moment ready good ws can small =
    times_set (after (steps_of_writes ws image) image) (after (touch_steps node moment ws image) image) node moment (still_good image ready node moment good ws can).kind small (touch_updated image ready node moment good ws can)

pub touches-times : TouchesSetTheTimes
touches-times image node moment prefix suffix ready rest small =
    touch_times image node moment ready (listed node (list_of image) prefix suffix rest.whole).good (touch_writes node (list_of image)) (touches-can image node prefix suffix rest) small
