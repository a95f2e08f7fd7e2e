use Rattle.std.proofs.Common.{inl, inr, sym, ap, ◌∙◌}
use Rattle.std.proofs.lemmas.Result.{IfOk-weaker}
use Rattle.blk_audit.proofs.Carrying.{weaker}
use Rattle.blk_inspect.specs.Texts.{part_text}
use Rattle.blk_inspect.specs.declared.inspecting.Part.{Part}
use Rattle.blk_inspect.proofs.reading.read_part.Goals as goal

pub returns-in-Index-clause-found : goal.returns-in-Index-clause-found
returns-in-Index-clause-found g c = IfOk-weaker c.read_index.result _ _ (λ findings tells image there is_open. (tells image there) ∙ ap (λ (p : Part). part_text p image) (sym c.in-Index.is)) c.read_index.ensures.found

pub returns-in-Index-clause-damaged : goal.returns-in-Index-clause-damaged
returns-in-Index-clause-damaged g c = weaker c.read_index.result _ _ (λ damage d. inl d) c.read_index.ensures.damaged

pub returns-in-Index-clause-untold : goal.returns-in-Index-clause-untold
returns-in-Index-clause-untold g c is_open = c.read_index.ensures.untold (λ image there. (is_open image there).whole_index)

pub returns-in-File-clause-found : goal.returns-in-File-clause-found
returns-in-File-clause-found g c = IfOk-weaker c.read_file.result _ _ (λ findings tells image there is_open. (tells image there is_open.agrees) ∙ ap (λ (p : Part). part_text p image) (sym c.in-File.is)) c.read_file.ensures.found

pub returns-in-File-clause-damaged : goal.returns-in-File-clause-damaged
returns-in-File-clause-damaged g c = weaker c.read_file.result _ _ (λ damage d. inl d) c.read_file.ensures.damaged

pub returns-in-File-clause-untold : goal.returns-in-File-clause-untold
returns-in-File-clause-untold g c is_open = c.read_file.ensures.untold (λ image there. (is_open image there).agrees)

pub returns-in-List-clause-found : goal.returns-in-List-clause-found
returns-in-List-clause-found g c = IfOk-weaker c.read_list.result _ _ (λ findings tells image there is_open. (tells image there is_open.agrees) ∙ ap (λ (p : Part). part_text p image) (sym c.in-List.is)) c.read_list.ensures.found

pub returns-in-List-clause-damaged : goal.returns-in-List-clause-damaged
returns-in-List-clause-damaged g c = weaker c.read_list.result _ _ (λ damage d. inr (inl d)) c.read_list.ensures.damaged

pub returns-in-Chain-clause-found : goal.returns-in-Chain-clause-found
returns-in-Chain-clause-found g c = IfOk-weaker c.read_chain.result _ _ (λ findings tells image there is_open. (tells image there is_open.agrees) ∙ ap (λ (p : Part). part_text p image) (sym c.in-Chain.is)) c.read_chain.ensures.found

pub returns-in-Chain-clause-damaged : goal.returns-in-Chain-clause-damaged
returns-in-Chain-clause-damaged g c = weaker c.read_chain.result _ _ (λ damage d. inr (inl d)) c.read_chain.ensures.damaged

pub returns-in-Entry-clause-found : goal.returns-in-Entry-clause-found
returns-in-Entry-clause-found g c = IfOk-weaker c.read_record.result _ _ (λ findings tells image there is_open. (tells image there is_open.agrees) ∙ ap (λ (p : Part). part_text p image) (sym c.in-Entry.is)) c.read_record.ensures.found

pub returns-in-Entry-clause-damaged : goal.returns-in-Entry-clause-damaged
returns-in-Entry-clause-damaged g c = weaker c.read_record.result _ _ (λ damage d. inr (inl (inr (inr (inr d))))) c.read_record.ensures.damaged

pub returns-in-Entry-clause-untold : goal.returns-in-Entry-clause-untold
returns-in-Entry-clause-untold g c is_open = c.read_record.ensures.untold (λ image there. (is_open image there).agrees)

pub returns-in-Address-clause-found : goal.returns-in-Address-clause-found
returns-in-Address-clause-found g c image there is_open = c.place_of.ensures ∙ ap (λ (p : Part). part_text p image) (sym c.in-Address.is)
