use Rattle.blk_chain.proofs.LinkExamples.{first-links, next-links}
use Rattle.blk_chain.proofs.link_laws.records_can_be_linked.Goals as goal

pub returns : goal.returns
returns c = record { first = first-links; next = next-links }
