-- Redos at each of their words: crashed anywhere and begun again they give the same.
use Rattle.std.proofs.Common.{◌≡◌, ℕ, zero, suc, List, [], ◌∷◌, take, refl, sym, ap, ◌∙◌}
use Rattle.spec_image.specs.Image.{Image}
use Rattle.spec_image.specs.Steps.{TrailStep, applied, after}
use Rattle.spec_image.specs.Told.{Along}
use Rattle.spec_image.proofs.Runs.{until_weaker2}
use Rattle.spec_format.proofs.Finished.{headers-kept, headers-next}
use Rattle.spec_folder.specs.ListView.{ListView, ListWrite}
use Rattle.spec_folder.specs.Walk.{walk}
use Rattle.spec_folder.specs.ListPlans.{completion_writes, completed_but_operation}
use Rattle.spec_folder.specs.View.{list_of, store_of}
use Rattle.spec_folder.specs.ListSteps.{IsPartly, steps_of_writes}
use Rattle.spec_folder.specs.ListImages.{IsWritable, CompletesAlike, IsCompleted, StopsAlike, completed_walk, completion_steps, stopped_folder}
use Rattle.law_folder.specs.ListWords.{CompletionsCanBeMade, CompletionsKeepTheOutcome, CompletionsAreDone, CompletionsMayBeStopped}
use Rattle.spec_folder.specs.ShownChanges.{OnlyListChanges}
use Rattle.law_folder.proofs.lists.Adding.{shows-both}
use Rattle.law_folder.proofs.updates.IndexWords.{same-shown}
use Rattle.law_folder.proofs.lists.ListCompletions.{at_moment, completion_ends, walk_outcome}
use Rattle.law_folder.proofs.lists.ListWrites.{completion_keeps, rested}
use Rattle.law_folder.proofs.lists.WriteSteps.{writes_show, writes-go_on}
use Rattle.law_folder.proofs.lists.WriteWords.{completion_can}

pub completions-can : CompletionsCanBeMade
completions-can image = completion_can image

-- a prefix of the writes of a redo keeps what it gives
pub partly-alike : (from image : Image) → IsPartly from (completion_writes (list_of from)) image → CompletesAlike from image
partly-alike from image part =
    let list : ListView = list_of from in
    ap completed_but_operation part.shown.list ∙ at_moment (λ u. completed_but_operation u ≡ completed_but_operation list) (completion_writes list) list part.made (completion_keeps list)

pub completions-keep : CompletionsKeepTheOutcome
completions-keep image ready =
    let P : Image → Type 0 = IsPartly image (completion_writes (list_of image)) in
    let Q : Image → Type 0 = CompletesAlike image in
    until_weaker2 P Q P Q (steps_of_writes (completion_writes (list_of image)) image) image (partly-alike image) (partly-alike image) (writes_show (completion_writes (list_of image)) image ready (completion_can image)).along

-- the walk doesn't depend on the transaction and the operation
pub walk_rested : (list : ListView) → walk (rested list) ≡ walk list
unfolding walk
walk_rested list = refl

pub idle_is : (list : ListView) → list.transaction ≡ 0 → record list { operation = 0 } ≡ rested list
idle_is list e = λ i. record { head = list.head; tail = list.tail; transaction = e i; operation = 0; checks = list.checks; next = list.next; prev = list.prev }

-- where the writes of a redo are made it is done
pub made-completed : (from image : Image) → OnlyListChanges (completion_writes (list_of from)) from image → IsCompleted from image
made-completed from image shown =
    let list : ListView = list_of from in
    let ends = completion_ends list in
    let idle : (list_of image).transaction ≡ 0 = ap (λ (l : ListView). l.transaction) shown.list ∙ ends.1 in
    let is : rested (list_of image) ≡ completed_but_operation list = ap rested shown.list ∙ ends.0 in
    record {
      list = idle_is (list_of image) idle ∙ is;
      idle = idle;
      walk = sym (walk_rested (list_of image)) ∙ ap walk is ∙ sym (walk_outcome list);
      store = shown.store;
    }

pub completions-done : CompletionsAreDone
completions-done image ready = made-completed image _ (writes_show (completion_writes (list_of image)) image ready (completion_can image)).ends

-- what holds along some steps holds after a prefix of them
prefix_holds : (P : Image → Type 0) (count : ℕ) (steps : List TrailStep) (image : Image) → Along P image steps → P (after (take count steps) image)
prefix_holds P zero [] image all = all
prefix_holds P zero (x ∷ steps) image all = all.0
prefix_holds P (suc count) [] image all = all
prefix_holds P (suc count) (x ∷ steps) image all = prefix_holds P count steps (applied x image) all.1

-- where the redo gives the same it leaves the same nodes
alike-walk : (from image : Image) → CompletesAlike from image → completed_walk image ≡ completed_walk from
alike-walk from image alike = walk_outcome (list_of image) ∙ ap walk alike ∙ sym (walk_outcome (list_of from))

-- one crash, and then the others
stop_once : (image : Image) (count : ℕ) → IsWritable image → IsWritable (after (take count (completion_steps image)) image) × StopsAlike image (after (take count (completion_steps image)) image)
stop_once image count ready =
    let ws : List ListWrite = completion_writes (list_of image) in
    let stopped : Image = after (take count (steps_of_writes ws image)) image in
    let part : IsPartly image ws stopped = prefix_holds (IsPartly image ws) count (steps_of_writes ws image) image (writes_show ws image ready (completion_can image)).along in (
      prefix_holds IsWritable count (steps_of_writes ws image) image (writes-go_on image ws ready),
      record { list = partly-alike image stopped part; walk = alike-walk image stopped (partly-alike image stopped part); store = part.shown.store; headers = part.headers },
    )

pub completions-stop : CompletionsMayBeStopped
completions-stop image [] ready = record { list = refl; walk = refl; store = same-shown (store_of image); headers = headers-kept image }
completions-stop image (count ∷ counts) ready =
    let once = stop_once image count ready in
    let between : Image = after (take count (steps_of_writes (completion_writes (list_of image)) image)) image in
    let more = completions-stop between counts once.0 in
    record {
      list = more.list ∙ once.1.list;
      walk = more.walk ∙ once.1.walk;
      store = shows-both (store_of image) (store_of between) (store_of (stopped_folder counts between)) once.1.store more.store;
      headers = headers-next image between (stopped_folder counts between) once.1.headers more.headers;
    }
