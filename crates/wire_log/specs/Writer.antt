-- The writer. 02 (v): "The writer adds one record to a log at the start of a lent buffer, its length given (1 first if past the buffer):
-- the check's refusals, then 22, then 12 where the total would pass 65,000, then 1."
use Rattle.std.specs.Prelude.{ℕ, cond, not, List, ◌∷◌, reverse, ltb, length, take}
use Rattle.refusal.specs.Refusals.{number, Answered, served, refused}
use Rattle.refusal.specs.Room.{emit}
use Rattle.wire_log.specs.Log.{LogRecord, Rule, joined, log_of, most}
use Rattle.wire_log.specs.Check.{records_of}

-- a record added to the records of a log, the newest first, as its check gives them
unfoldable pub added_to : Rule → Answered (List LogRecord) → LogRecord → List ℕ → Answered ℕ × List ℕ
added_to rule (refused n) r buffer = (refused n, buffer)
added_to rule (served records) r buffer =
    cond (not (rule r.kind (length r.body))) (refused (number 22), buffer)
    (cond (ltb most (length (joined (reverse (r ∷ records))))) (refused (number 12), buffer) (emit (log_of (reverse (r ∷ records))) buffer))

-- the new length of the log, and what the buffer then holds
unfoldable pub append : Rule → List ℕ → ℕ → LogRecord → Answered ℕ × List ℕ
append rule buffer size r =
    cond (ltb (length buffer) size) (refused (number 1), buffer) (added_to rule (records_of rule (take size buffer)) r buffer)
