-- Definitions of the contracts of private functions: nothing here has to be believed.
use Rattle.std.specs.Prelude.{ℕ, Bool, true, false, cond, not, ◌||◌, List, [], ◌∷◌, ◌++◌, ltb, eqb}
use Rattle.refusal.specs.Refusals.{number, Answered, in_order}
use Rattle.sfc6.specs.declared.Request.{Request}
use Rattle.sfc6.specs.Requests.{request_checks}
use Rattle.replies.specs.Replies.{reply_to, kind_of}
use Rattle.replies.specs.Writer.{write_reply}
use Rattle.mfc.specs.declared.answers.MfcWritten.{MfcWritten}
use Rattle.mfc.specs.Answers.{written, beside}
use Rattle.mfc.specs.Answering.{reply_at, no_reply}

-- a value that is wider than what the reply of a number carries: a u16 or a byte
abbrev pub too_wide : ℕ → ℕ → Bool
too_wide place n = cond (eqb place 5 || eqb place 6) (ltb 65535 n) (cond (eqb place 12 || eqb place 15) (ltb 255 n) false)

-- what such a reply, and one over 15, is refused with: the request's own 12, 13, 10, then 14, 12
unfoldable pub refusal_of : ℕ → Request → ℕ → Answered ℕ
refusal_of address request place =
    in_order
    (request_checks address request
    ++ ((ltb 15 place || eqb address 255 || not (eqb place 15 || eqb place (kind_of (reply_to request 0))), number 14) ∷ (true, number 12) ∷ []))
    0

-- the writer of a reply to a request
unfoldable pub write_known : ℕ → Request → ℕ → ℕ → List ℕ → ℕ → List ℕ → MfcWritten × List ℕ
write_known address request place w said bit7 room =
    cond (ltb 15 place) (written (no_reply address request), room)
    (beside written (write_reply address request (reply_at place w) said (not (eqb bit7 0)) room))
