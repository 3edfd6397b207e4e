-- The whole replay: two fresh receivers, all records, the list; a law for each return. Assumes nothing.
use Prim.Native.Nat.{ℕ, ◌-◌, ◌≤◌}
use native.Mathlib.Omega.{arith}
use mathlib.Core.Path.{◌≡◌, refl, sym, ap, subst, ◌∙◌}
use mathlib.Core.Bool.{Bool, true, false}
use mathlib.Core.List.{List, [], reverse}
use lib.ListN.{length, take}
use lib.Seq.{take_all}
use borrow.Author.Tests.{le-ltb}
use Rattle.std.specs.Prelude.{Result, Ok, Err, IsOk}
use Rattle.refusal.specs.declared.Refusal.{Refusal}
use Rattle.refusal.specs.Refusals.{Numbered, number, paper, Answered, served, refused, answered_as, answered}
use Rattle.refusal.proofs.Order.{refused_not_served}
use Rattle.shdlc.specs.declared.Kind.{Kind}
use Rattle.shdlc.specs.declared.Kind.TheVariants.{Request, Reply}
use Rattle.receiver.specs.declared.Receiver.{Receiver}
use Rattle.receiver.specs.Record.{Record, held, in_range, fresh, record_from}
use Rattle.receiver.specs.Calls.{fresh_of}
use Rattle.receiver.proofs.EverySeries.{demand3}
use Rattle.board.specs.declared.entries.Entry.{Entry}
use Rattle.board.specs.Entries.{empty}
use Rattle.board.specs.Orders.{lease_in_range}
use Rattle.board.proofs.Handover.{sound_empty}
use Rattle.wire_log.specs.Log.{LogRecord, kinds}
use Rattle.wire_log.specs.Check.{counting, records_of}
use Rattle.wire_log.specs.Private.{shown as listing}
use Rattle.wire_log.specs.Oldest.{records_to}
use Rattle.wire_log.proofs.Turns.{Passed, passed}
use Rattle.replay.specs.Replay.{joined_on, told_from, told, orders, replayed_by, room_for, replayed, replay_answer}
use Rattle.replay.specs.declared.run.Run.{Run}
use Rattle.replay.specs.Private.{after, Kept, noted, nothing_yet, kept_of, board_of_desk, RunsOn, Runs, newest_of, board_of, Good, list_of}
use Rattle.replay.proofs.Carrying.{kept_board, sound_board}

-- ---- a store of 260 bytes is made a fresh record
module _ (kind : Kind) (m : Result Receiver Refusal) (store last : List ℕ) (h : length store ≡ 260) (l : length last ≡ 260)
    (e : (answered_as (λ r. held r (take 260 last)) m, last) ≡ fresh_of kind store) where
  made : answered_as (λ r. held r last) m ≡ served (fresh kind)
  unfolding fresh_of
  made =
      ap (λ (bs : List ℕ). answered_as (λ (r : Receiver). held r bs) m) (sym (take_all 260 last (omega (arith, l))))
      ∙ ap (λ (x : Answered Record × List ℕ). x.0) e
      ∙ rw (le-ltb (length store) 260 (omega (arith, h)))

  pub made_ok : IsOk m
  made_ok = go m made
    where
      go : (x : Result Receiver Refusal) → answered_as (λ r. held r last) x ≡ served (fresh kind) → IsOk x
      go (Ok r) f = refl
      go (Err why) f = absurd (cc)

  pub made-fresh : {r : Receiver} → m ≡ Ok r → held r last ≡ fresh kind
  made-fresh {r} f = let g : served (held r last) ≡ served (fresh kind) = sym (ap (answered_as (λ (x : Receiver). held x last)) f) ∙ made in cc

pub fresh_in_range : (kind : Kind) (r : Record) → r ≡ fresh kind → in_range r ≡ true
unfolding record_from
fresh_in_range kind r e = ap in_range e ∙ (demand3 kind).in_ranges []

-- ---- all records of a checked log
module _ (file : List ℕ) (count lease : ℕ) (checked : served count ≡ counting (records_of kinds file)) where
  abbrev p : Passed kinds file count
  p = passed kinds file count checked

  pub all_there : (length file - 8 ≤ length file) × (count ≤ length (records_to kinds file (length file - 8))) × (8 ≤ length file)
  all_there = (omega arith, omega (arith, p.many, ap (λ (l : List LogRecord). length l) p.before), p.long)

  all_records : newest_of file (length file - 8) count ≡ reverse (listing (records_of kinds file))
  unfolding newest_of
  all_records =
      ap (λ (l : List LogRecord). reverse (take count l)) p.before
      ∙ ap reverse (take_all count p.listing (omega (arith, p.many)))
      ∙ sym (ap (λ (a : Answered (List LogRecord)). reverse (listing a)) p.is)

  all_replayed : (q r next_q next_r : Record) (k then : Kept) → q ≡ fresh Request → r ≡ fresh Reply → k ≡ nothing_yet
      → RunsOn lease q r k (newest_of file (length file - 8) count) next_q next_r then → then.board ≡ board_of file lease
  unfolding RunsOn joined_on record_from board_of
  all_replayed q r next_q next_r k then a b c runs =
      ap (λ (x : Kept). x.board) (runs [] a b).2
      ∙ ap (λ (x : Kept). (after (noted lease) x (told_from [] (newest_of file (length file - 8) count))).board) c
      ∙ ap (λ (rs : List LogRecord). (after (noted lease) nothing_yet (told_from [] rs)).board) all_records
      ∙ kept_board lease (told (reverse (listing (records_of kinds file)))) empty sound_empty

  pub all_left : (s t : Run) → (s.requests ≡ fresh Request) × (s.replies ≡ fresh Reply) × (s.desk.lease ≡ lease) × (kept_of s.desk ≡ nothing_yet)
      → Runs s (newest_of file (length file - 8) count) t → board_of_desk t.desk ≡ board_of file lease
  all_left s t (a, b, l, k) runs =
      all_replayed s.requests s.replies t.requests t.replies (kept_of s.desk) (kept_of t.desk) a b k
      (subst (λ (n : ℕ). RunsOn n s.requests s.replies (kept_of s.desk) (newest_of file (length file - 8) count) t.requests t.replies (kept_of t.desk)) l runs.0)

-- what it leaves is a board that (i) does not refuse
pub good_left : (file : List ℕ) (lease : ℕ) (board : Answered (List Entry)) → board ≡ board_of file lease → Good board
unfolding board_of
good_left file lease board e = subst Good (sym e) (sound_board (orders lease (reverse (listing (records_of kinds file)))) empty sound_empty)

-- a law for each return: what is answered is the answer, and what is listed the entries
module _ (file : List ℕ) (lease room : ℕ) where
  pub lease_refused : {b : Bool} → b ≡ lease_in_range lease → b ≡ false → refused (number 12) ≡ replay_answer file lease room
  unfolding replay_answer replayed
  lease_refused e h = rw (← e, h)

  module _ {b : Bool} (e : b ≡ lease_in_range lease) (h : b ≡ true) where
    check_refused : (n : Numbered) → records_of kinds file ≡ refused n → replayed file lease ≡ refused n
    unfolding replayed
    check_refused n f = rw (← e, h, f)

    counting_refused : (n : Numbered) (a : Answered (List LogRecord)) → refused n ≡ counting a → a ≡ refused n
    counting_refused n (served l) f = absurd (refused_not_served f)
    counting_refused n (refused m) f = let same : n ≡ m = cc in ap refused (sym same)

    log_refused : {n : Numbered} → refused n ≡ counting (records_of kinds file) → refused n ≡ replay_answer file lease room
    unfolding replay_answer
    log_refused {n} f = sym (ap (λ (a : Answered (List Entry)). room_for a room) (check_refused n (counting_refused n (records_of kinds file) f)))

    pub log_bad : {r : Result ℕ Refusal} {why : Refusal} → answered r ≡ counting (records_of kinds file) → r ≡ Err why → refused (paper why) ≡ replay_answer file lease room
    log_bad {r} {why} a f = log_refused (sym (ap answered f) ∙ a)

    served_board : (listed' : List LogRecord) → records_of kinds file ≡ served listed'
        → replayed file lease ≡ list_of (board_of file lease)
    unfolding replayed replayed_by board_of
    served_board l f = rw (← e, h, f)

    pub log_replayed : {n : ℕ} → served n ≡ counting (records_of kinds file) → list_of (board_of file lease) ≡ replayed file lease
    log_replayed {n} f = sym (served_board (p file n lease f).listing (p file n lease f).is)

    pub log_answered : {n : ℕ} → served n ≡ counting (records_of kinds file) → room_for (list_of (board_of file lease)) room ≡ replay_answer file lease room
    unfolding replay_answer
    log_answered f = ap (λ (a : Answered (List Entry)). room_for a room) (log_replayed f)

pub ruleset bad = (lease_refused, log_bad)
