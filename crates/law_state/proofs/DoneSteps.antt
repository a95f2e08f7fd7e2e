-- What the steps of the LRU list's operations leave is done.
use Rattle.spec_image.proofs.Runs.{until_last}
use Rattle.spec_folder.specs.Completion.{insert, remove}
use Rattle.spec_folder.specs.ListImages.{operation_steps, steps_of_touch, walked}
use Rattle.spec_folder.specs.ListPlans.{touch_writes, writes_of}
use Rattle.spec_folder.specs.ListSteps.{IsPartly, IsTouched}
use Rattle.spec_folder.specs.View.{list_of}
use Rattle.law_folder.proofs.updates.Sealing.{touches-keep, writes-keep}
use Rattle.law_folder.proofs.lists.WordTurns.{inserts-can, inserts-rest, removals-can, removals-rest, touches-in_turn, touches-rest}
use Rattle.law_folder.proofs.lists.WriteSteps.{writes-in_turn}
use Rattle.law_state.specs.DoneLaws.{InsertStepsAreDone, RemovalStepsAreDone, TouchStepsAreDone}

pub touch-done : TouchStepsAreDone
touch-done image node moment prefix suffix ready rest = record {
  touched = until_last (IsTouched image node (touch_writes node (list_of image))) (IsTouched image node (touch_writes node (list_of image))) (steps_of_touch node moment image) image (touches-in_turn image node moment prefix suffix ready rest);
  moved = λ before behind there. touches-rest image node moment before behind ready there;
  sealed = touches-keep image node moment prefix suffix ready rest;
}

pub insert-done : InsertStepsAreDone
insert-done image node ready can = record {
  partly = until_last (IsPartly image (writes_of insert node (list_of image))) (IsPartly image (writes_of insert node (list_of image))) (operation_steps insert node image) image (writes-in_turn image (writes_of insert node (list_of image)) ready (inserts-can image node (walked image) can));
  inserted = λ there. inserts-rest image node (walked image) ready there;
  sealed = writes-keep image (writes_of insert node (list_of image)) ready (inserts-can image node (walked image) can);
}

pub removal-done : RemovalStepsAreDone
removal-done image node prefix suffix ready rest = record {
  partly = until_last (IsPartly image (writes_of remove node (list_of image))) (IsPartly image (writes_of remove node (list_of image))) (operation_steps remove node image) image (writes-in_turn image (writes_of remove node (list_of image)) ready (removals-can image node prefix suffix rest));
  removed = λ before behind there. removals-rest image node before behind ready there;
  sealed = writes-keep image (writes_of remove node (list_of image)) ready (removals-can image node prefix suffix rest);
}
