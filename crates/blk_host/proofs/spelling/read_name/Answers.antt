use Rattle.std.proofs.Common.{◌≡◌, sym, ◌∙◌, ap, codes, Some}
use Rattle.blk_io.specs.declared.folder.FileId.{FileId}
use Rattle.blk_host.proofs.NameTexts.{index-named, block-named, external-named, none-named, stripped, named, other}
use Rattle.blk_host.proofs.spelling.read_name.Goals as goal

pub returns-then-eq-clause-read : goal.returns-then-eq-clause-read
returns-then-eq-clause-read c file there is = ap (λ (f : FileId). Some f) (sym (index-named file (sym (named c.args.name.now (codes "index") (sym c.eq.ensures ∙ c.if-eq.true)) ∙ is)))

pub returns-in_err-strip_prefix-in-None-clause-read : goal.returns-in_err-strip_prefix-in-None-clause-read
returns-in_err-strip_prefix-in-None-clause-read c file there is = absurd (none-named file c.args.name.now is
    (other c.args.name.now (codes "index") (sym c.eq.ensures ∙ c.if-eq.false)) c.in-None.ensures.cases c.in_err-strip_prefix-in-None.ensures.cases)

pub returns-in-Some-clause-read : goal.returns-in-Some-clause-read
returns-in-Some-clause-read c file there is =
    block-named file c.in-Some.number.now (sym (stripped (codes "data_") c.args.name.now c.in-Some.number.now c.in-Some.ensures.cases) ∙ is) there
    (λ (f : FileId). c.read_block.result ≡ Some f) (λ n small number. c.read_block.ensures.read n small number)

pub returns-in_ok-strip_prefix-in-None-clause-read : goal.returns-in_ok-strip_prefix-in-None-clause-read
returns-in_ok-strip_prefix-in-None-clause-read c file there is =
    external-named file c.in_ok-strip_prefix-in-None.field-0.now (sym (stripped (codes "f_") c.args.name.now c.in_ok-strip_prefix-in-None.field-0.now c.in_ok-strip_prefix-in-None.ensures.cases) ∙ is) there
    (λ (f : FileId). c.read_external.result ≡ Some f) (λ n number_there number. c.read_external.ensures.read n number_there.0 number_there.1 number)
