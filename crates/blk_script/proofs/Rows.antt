-- Worked examples, computed.
use Rattle.std.proofs.Common.{◌≡◌, true, false, [], ◌∷◌, refl, codes, Ok, Err, map}
use Rattle.std.specs.List.{flat_map}
use Rattle.std.specs.Fmt.{digits}
use Rattle.hex.specs.Hex.{encode_with, decode_pairs}
use Rattle.percent_encoding.specs.Percent.{percent_encode_byte, percent_decode}
use Rattle.blk_model.specs.declared.Answer.TheVariants as answer
use Rattle.blk_model.specs.declared.Refusal.TheVariants as refusal
use Rattle.blk_model.specs.Items.{main, part, main_row, plain, sparse}
use Rattle.blk_model.specs.Request.{to_create, to_write}
use Rattle.blk_model.specs.Reply.{answered, gave, showed}
use Rattle.blk_script.specs.declared.fault.LineFault.TheVariants as fault
use Rattle.blk_script.specs.Fields.{line_fields, number_field, key_field, data_field}
use Rattle.blk_script.specs.Line.{read_text, reading, command_words}
use Rattle.blk_script.specs.Spelling.{line_of, key_text, data_text}
use Rattle.blk_script.specs.Reply.{evicted_line, reply_text, line_fault_text}

faulty_lines : map read_text ([] ∷ codes "fly 1" ∷ codes "create 0" ∷ codes "create x a" ∷ codes "write 0 0 0 6" ∷ codes "create 0 a%2" ∷ [])
    ≡ Err fault.Empty ∷ Err fault.UnknownWord ∷ Err fault.FieldCount ∷ Err fault.Number ∷ Err fault.Hex ∷ Err fault.Key ∷ []
unfolding read_text command_words reading line_fields number_field key_field data_field decode_pairs percent_decode
faulty_lines = refl

key_with_a_space : line_of (to_create 7 (codes "a b")) ≡ codes "create 7 a%20b"
unfolding line_of digits key_text percent_encode_byte
key_with_a_space = refl

key_with_a_space_read : read_text (codes "create 7 a%20b") ≡ Ok (to_create 7 (codes "a b"))
unfolding read_text command_words reading line_fields number_field key_field data_field percent_decode
key_with_a_space_read = refl

good_and_faulty_lines : map read_text (codes "cut 1 2 18446744073709551615 0aFF" ∷ codes "write 65535 255 0 -" ∷ codes "write 65536 255 0 -" ∷ codes "create 1 " ∷ codes "list " ∷ codes " list" ∷ codes "read 0 0 00 1" ∷ [])
    ≡ Ok (to_write 1 2 18446744073709551615 true (10 ∷ 255 ∷ [])) ∷ Ok (to_write 65535 255 0 false []) ∷ Err fault.Number ∷ Ok (to_create 1 []) ∷ Err fault.FieldCount ∷ Err fault.UnknownWord ∷ Err fault.Number ∷ []
unfolding read_text command_words reading line_fields number_field key_field data_field decode_pairs percent_decode
good_and_faulty_lines = refl

replies : flat_map reply_text (answered answer.Done ∷ answered (answer.Wrote 150) ∷ gave (97 ∷ 98 ∷ []) ∷ gave [] ∷ answered (answer.Range 1024 126) ∷ answered (answer.Trimmed 2) ∷ answered (answer.Size 7) ∷ answered (answer.Totals 2 4) ∷ answered (answer.Refused refusal.Doomed) ∷ [])
    ≡ codes "ok\nok 150\ndata 2 6162\ndata 0 -\nrange 1024 126\nok 2\nsize 7\ntotal 2 4\nrefused 10 Doomed\n"
unfolding reply_text digits data_text encode_with
replies = refl

listed_items : reply_text (showed (main_row (codes "k k") plain ([], 1 ∷ [], []) ∷ main_row (codes "v") (sparse 100) ([], [], []) ∷ []))
    ≡ codes "main k%20k 0 1 0\nsparse v 0\nend 2\n"
unfolding reply_text digits key_text percent_encode_byte
listed_items = refl

evicted_items : flat_map evicted_line (main (codes "a/b") ∷ part (codes "v") 12 ∷ []) ≡ codes "evicted a/b\nevicted v part 12\n"
unfolding digits key_text
evicted_items = refl

fault_line : line_fault_text 12 fault.Hex ≡ codes "fault 12 5 Hex\n"
unfolding digits
fault_line = refl
