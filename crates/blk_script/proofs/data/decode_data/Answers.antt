use Rattle.std.proofs.Common.{◌≡◌, ◌≤◌, ◌/◌, ℕ, List, take, ap, sym, ◌∙◌, arith, length, length-take}
use Rattle.blk_script.specs.Fields.{decoded}
use Rattle.blk_script.specs.declared.fault.LineFault.TheVariants as fault
use Rattle.blk_script.proofs.Printed.{tested_empty, tested_some}
use Rattle.blk_script.proofs.Decoding.{data_field-none, data_field-long, data_field-empty, data_field-digits, decoded_ok, decoded_err, dash_is}
use Rattle.blk_script.proofs.data.decode_data.Goals as goal

-- half as many bytes as there are digits fit into the buffer
half_fits : (field buffer : List ℕ) → length field ≤ length buffer → length field / 2 ≡ length (take (length field / 2) buffer)
half_fits field buffer fits = simp length-take (omega arith)

pub returns-then-eq : goal.returns-then-eq
returns-then-eq c = sym (data_field-none c.args.field.now (dash_is _ _ _ _ c.eq.ensures c.as_slice.ensures c.if-eq.true))

pub returns-then-field-gt-LONGEST_DATA : goal.returns-then-field-gt-LONGEST_DATA
returns-then-field-gt-LONGEST_DATA c = sym (data_field-long c.args.field.now (dash_is _ _ _ _ c.eq.ensures c.as_slice.ensures c.if-eq.false) c.if-field-gt-LONGEST_DATA.true)

pub returns-then-is_empty : goal.returns-then-is_empty
returns-then-is_empty c = sym (data_field-empty c.args.field.now (dash_is _ _ _ _ c.eq.ensures c.as_slice.ensures c.if-eq.false) c.if-field-gt-LONGEST_DATA.false (tested_empty _ _ c.is_empty.ensures c.if-is_empty.true))

pub decode_digits-requires : goal.decode_digits-requires
decode_digits-requires c = sym (half_fits c.args.field.now _ c.requires)

pub returns-then-decode_digits : goal.returns-then-decode_digits
returns-then-decode_digits c =
    sym (data_field-digits c.args.field.now (dash_is _ _ _ _ c.eq.ensures c.as_slice.ensures c.if-eq.false) c.if-field-gt-LONGEST_DATA.false (tested_some _ _ c.is_empty.ensures c.if-is_empty.false)
    ∙ ap (decoded fault.Hex) (c.decode_digits.ensures.value c.if-decode_digits.true))

pub returns-in-Ok : goal.returns-in-Ok
returns-in-Ok c =
    sym (data_field-digits c.args.field.now (dash_is _ _ _ _ c.eq.ensures c.as_slice.ensures c.if-eq.false) c.if-field-gt-LONGEST_DATA.false (tested_some _ _ c.is_empty.ensures c.if-is_empty.false)
    ∙ decoded_ok c.args.field.now _ _ _ _ (half_fits _ _ c.requires ∙ sym c.decode_digits.ensures.length) c.decode_to_slice.ensures.value c.in-Ok.is)

pub returns-in-Err : goal.returns-in-Err
returns-in-Err c =
    sym (data_field-digits c.args.field.now (dash_is _ _ _ _ c.eq.ensures c.as_slice.ensures c.if-eq.false) c.if-field-gt-LONGEST_DATA.false (tested_some _ _ c.is_empty.ensures c.if-is_empty.false)
    ∙ decoded_err c.args.field.now _ _ _ c.in-Err.field-0 _ (half_fits _ _ c.requires ∙ sym c.decode_digits.ensures.length) c.decode_to_slice.ensures.value c.in-Err.is)
