use Rattle.law_folder.proofs.claims.Allocations.{sound-allocated, stood-allocated}
use Rattle.law_folder.proofs.linked_files_are_allocated.Goals as goal

pub returns : goal.returns
returns c = record {
  sound = λ image sound number linked. sound-allocated image sound number linked;
  stood = λ image state stands number linked. stood-allocated image state stands number linked;
}
