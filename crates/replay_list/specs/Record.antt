-- A record: its nine numbers, its three runs of bytes, and the limits that the list promises.
use Rattle.std.specs.Prelude.{ℕ, ◌+◌, ◌*◌, ◌-◌, Bool, cond, ◌&&◌, List, ◌++◌, take, drop, replicate, leb, eqb}
use Rattle.tape.specs.Tape.{u32_at}
use Rattle.replay_list.specs.declared.Run.{Run}
use Rattle.replay_list.specs.declared.RecordHead.{RecordHead}

-- the number of eight bytes at a place, low byte first
abbrev pub number_at : List ℕ → ℕ → ℕ
number_at bytes p = u32_at bytes p + 4294967296 * u32_at bytes (p + 4)

abbrev pub run_at : List ℕ → ℕ → Run
run_at bytes p = record { stored = number_at bytes p; zeros = number_at bytes (p + 8) }

unfoldable pub head_of : List ℕ → RecordHead
head_of bytes =
    record {
      width = number_at bytes 0;
      case = number_at bytes 8;
      text = run_at bytes 16;
      tape = run_at bytes 32;
      space = number_at bytes 48;
      number = number_at bytes 56;
      value = number_at bytes 64;
    }

unfoldable pub run_fits : Run → Bool
run_fits run = leb run.stored 4096 && leb (run.stored + run.zeros) 262145

-- the layout is stored where laying out answers 0
abbrev pub layout_length : RecordHead → ℕ
layout_length head = cond (eqb head.number 0) head.value 0

unfoldable pub fitting : RecordHead → Bool
fitting head = run_fits head.text && run_fits head.tape && leb head.space 4096 && leb (layout_length head) head.space

-- the text's bytes follow the numbers, then the tape's, then the layout
abbrev pub tape_start : RecordHead → ℕ
tape_start head = 72 + head.text.stored

abbrev pub layout_start : RecordHead → ℕ
layout_start head = tape_start head + head.tape.stored

abbrev pub record_end : RecordHead → ℕ
record_end head = layout_start head + layout_length head

-- the bytes from one place up to another
abbrev pub between : ℕ → ℕ → List ℕ → List ℕ
between start end bytes = take (end - start) (drop start bytes)

abbrev pub text_of : List ℕ → RecordHead → List ℕ
text_of bytes head = between 72 (tape_start head) bytes ++ replicate head.text.zeros 0

abbrev pub tape_of : List ℕ → RecordHead → List ℕ
tape_of bytes head = between (tape_start head) (layout_start head) bytes ++ replicate head.tape.zeros 0

abbrev pub layout_of : List ℕ → RecordHead → List ℕ
layout_of bytes head = between (layout_start head) (record_end head) bytes
