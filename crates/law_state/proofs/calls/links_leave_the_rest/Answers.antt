use Rattle.law_state.proofs.Links.{next-links, next-sealed, table-files, table-links, table-sealed}
use Rattle.law_state.proofs.calls.links_leave_the_rest.Goals as goal

pub returns : goal.returns
returns c = record { table_links = table-links; table_files = table-files; table_seals = table-sealed; next_links = next-links; next_seals = next-sealed }
