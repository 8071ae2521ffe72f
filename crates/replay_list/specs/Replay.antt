-- What a list comes to, record by record.
use Rattle.std.specs.Prelude.{ℕ, zero, suc, ◌+◌, Bool, cond, ◌&&◌, ◌||◌, Option, Some, None, Result, Ok, Err, List, length, drop, leb, ltb}
use Rattle.std.specs.Option.{option_or}
use Rattle.layout.specs.Layout.{original}
use Rattle.layout.specs.Outcome.{outcome}
use Rattle.replay_list.specs.declared.RecordHead.{RecordHead}
use Rattle.replay_list.specs.declared.Compared.{Compared}
use Rattle.replay_list.specs.declared.Tally.{Tally}
use Rattle.replay_list.specs.declared.BadRecord.{BadRecord}
use Rattle.replay_list.specs.Record.{number_at, head_of, fitting, record_end, text_of, tape_of, layout_of}
use Rattle.replay_list.specs.Agreement.{calls_agree}

-- both calls of the record at the front of the bytes agree with it
unfoldable pub record_agrees : List ℕ → RecordHead → Bool
record_agrees bytes head =
    calls_agree (outcome original head.width head.case (text_of bytes head) (tape_of bytes head)) head.number head.value (layout_of bytes head) head.space

-- a record is broken where its numbers are cut, break a limit, or ask for more bytes than there are
unfoldable pub verdict_on : List ℕ → RecordHead → Option Compared
verdict_on bytes head =
    cond (fitting head && leb (record_end head) (length bytes)) (Some (record { agreed = record_agrees bytes head; end = record_end head })) None

unfoldable pub verdict : List ℕ → Option Compared
verdict bytes = cond (leb 72 (length bytes)) (verdict_on bytes (head_of bytes)) None

-- one record more: of those that differ the first is kept
unfoldable pub counted : Tally → Bool → Tally
counted t agrees =
    cond agrees
    (record { records = t.records + 1; differ = t.differ; first = t.first })
    (record { records = t.records + 1; differ = t.differ + 1; first = option_or t.first (Some t.records) })

abbrev pub bad_at : ℕ → Result Tally BadRecord
bad_at n = Err (record { at = n })

-- a broken record ends the replay; else it goes on behind the record
unfoldable pub after_record : Option Compared → List ℕ → Tally → (List ℕ → Tally → Result Tally BadRecord) → Result Tally BadRecord
after_record None bytes t next = bad_at t.records
after_record (Some c) bytes t next = next (drop c.end bytes) (counted t c.agreed)

-- so many records more, which are to be all that is left of the input; `more`: it goes on after the list's bytes
unfoldable pub replayed_from : Bool → ℕ → List ℕ → Tally → Result Tally BadRecord
replayed_from more zero bytes t = cond (more || ltb 0 (length bytes)) (bad_at t.records) (Ok t)
replayed_from more (suc left) bytes t = after_record (verdict bytes) bytes t (replayed_from more left)

abbrev pub no_records : Tally
no_records = record { records = 0; differ = 0; first = None }

-- the number of records, and then the records
unfoldable pub replayed : Bool → List ℕ → Result Tally BadRecord
replayed more list = cond (leb 8 (length list)) (replayed_from more (number_at list 0) (drop 8 list) no_records) (bad_at 0)
