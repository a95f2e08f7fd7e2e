use Rattle.std.proofs.Common.{◌≡◌, drop}
use Rattle.std.specs.List.{list_all}
use Rattle.blk_script.specs.Fields.{is_decimal_digit, digits_say}
use Rattle.blk_script.proofs.number.digits_value.Given as goal

abbrev pub invariant-loop-byte : goal.invariant-loop-byte
invariant-loop-byte l = record {
  digits : list_all is_decimal_digit l.field ≡ list_all is_decimal_digit (drop l.byte-index l.field);
  says : digits_say 0 l.field ≡ digits_say l.value (drop l.byte-index l.field);
}
