-- The parts of a folder that erases: the folder inside, and its error counter.
use Rattle.std.specs.Prelude.{ℕ}
use Rattle.blk_eraser.specs.declared.eraser.Eraser.{Eraser}

-- the folder to which a folder that erases passes its calls on
abbrev pub inner_folder : {F : Type 0} → Eraser F → F
inner_folder eraser = eraser.inner

-- the error counter of a folder that erases
abbrev pub eraser_faults : {F : Type 0} → Eraser F → ℕ
eraser_faults eraser = eraser.faults
