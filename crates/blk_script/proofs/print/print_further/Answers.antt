use Rattle.std.proofs.Common.{[], ◌∷◌, refl, sym}
use Rattle.std.proofs.lemmas.List.{append-nil}
use Rattle.std.proofs.lemmas.Result.{on_ok_weaker}
use Rattle.blk_script.specs.Spelling.{field_text}
use Rattle.blk_script.proofs.Putting.{not_yet, put_more, put_partly, put_whole}
use Rattle.blk_script.proofs.print.print_further.Goals as goal

pub returns-clause-steps : goal.returns-clause-steps
returns-clause-steps g c =
    on_ok_weaker c.print_field.result
    (λ put. put_whole _ _ (32 ∷ field_text c.args.field.now) (put_more _ _ _ _ _ (field_text c.args.field.now) [] (put_more _ _ _ _ _ (32 ∷ []) (field_text c.args.field.now) (not_yet _ _) refl c.in_ok-put.ensures.steps) (sym (append-nil _)) put))
    c.print_field.ensures.steps

pub returns-clause-prefix : goal.returns-clause-prefix
returns-clause-prefix g c =
    put_partly _ _ _ (32 ∷ field_text c.args.field.now) _ (field_text c.args.field.now) []
    (put_more _ _ _ _ _ (32 ∷ []) (field_text c.args.field.now) (not_yet _ _) refl c.in_ok-put.ensures.steps) (sym (append-nil _)) c.print_field.ensures.prefix
