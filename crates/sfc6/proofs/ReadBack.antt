-- Demand 2 for requests: the claim of specs/ReadBack.antt. Assumes nothing.
use Rattle.sfc6.specs.Commands.{row}
use Rattle.sfc6.specs.ReadBack.{ReadBack}
use Rattle.sfc6.proofs.Refusing.{request_decides, never_5}
use Rattle.sfc6.proofs.Laid.{data_short}
use Rattle.sfc6.proofs.Written.{written_read}
use Rattle.sfc6.proofs.Rewritten.{wire_rewritten}
use Rattle.sfc6.proofs.ByNumber.{by_number}
use Rattle.sfc6.proofs.RoundRead.{stands}

pub read_back : ReadBack
read_back = record {
  written_then_read = λ address request h room after n e. written_read address request room after n h e;
  read_then_written = wire_rewritten;
  decides = request_decides;
  at-most_5 = λ request. data_short (row request);
  never_5 = never_5;
  by_number = by_number;
  round_stands = stands;
}
