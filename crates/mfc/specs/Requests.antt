-- The C interface, requests: how one that was read crosses. Those to be written cross by their number, 0 to 20 in the order of 01's
-- table, the get before the set (sfc6, `write_numbered` and `append_numbered`).
use Rattle.std.specs.Prelude.{ℕ}
use Rattle.refusal.specs.Refusals.{number_in, Answered, served, refused}
use Rattle.sfc6.specs.declared.Request.{Request}
use Rattle.sfc6.specs.Commands.{place_of, value_of}
use Rattle.mfc.specs.declared.answers.MfcRequest.{MfcRequest}

-- a request that was read: its address, its number and its value
abbrev pub request : Answered (ℕ × Request) → MfcRequest
request (served q) = record { refusal = 0; address = q.0; request = place_of q.1; value = value_of q.1 }
request (refused n) = record { refusal = number_in n; address = 0; request = 0; value = 0 }
