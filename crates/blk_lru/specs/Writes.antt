-- Writes into the LRU list: the values of the code and those of the specs.
use Rattle.spec_folder.specs.ListView.{ListWrite, Next, Prev, Head, Tail, Transaction, Operation}
use Rattle.blk_lru.specs.declared.writes.Write.{Write}
use Rattle.blk_lru.specs.declared.writes.Write.TheVariants as code

-- the write of the specs that a write of the code denotes
abbrev pub meant : Write → ListWrite
meant (code.Next node word) = Next node word
meant (code.Prev node word) = Prev node word
meant (code.Head word) = Head word
meant (code.Tail word) = Tail word
meant (code.Transaction word) = Transaction word
meant (code.Operation word) = Operation word
