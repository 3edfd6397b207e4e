-- Demand 2 for replies: the claim of specs/ReadBack.antt. Assumes nothing.
use Rattle.replies.specs.ReadBack.{ReadBack}
use Rattle.replies.proofs.Accepted.{at-most_255, reply_decides, never_5}
use Rattle.replies.proofs.Written.{written_read}
use Rattle.replies.proofs.Rewritten.{value_from_wire, error_from_wire, text_placed, text_again, text_too_long, text_from_wire}
use Rattle.replies.proofs.Validity.{over-one-from_wire, read_again, any_byte}

pub read_back : ReadBack
read_back = record {
  written_then_read = written_read;
  read_then_written = value_from_wire;
  error_then_written = error_from_wire;
  over-one_then_written = over-one-from_wire;
  text_read = text_placed;
  text_then_written = λ address request body place n bit7 h room. (
    text_again address request body place n bit7 h room,
    text_too_long address request body place n bit7 h room,
  );
  whole_text_then_written = text_from_wire;
  read-written-read = λ stretch body received address request got bit7. read_again stretch body received address request bit7 got;
  validity_read = any_byte;
  decides = reply_decides;
  at-most_255 = at-most_255;
  never_5 = never_5;
}
