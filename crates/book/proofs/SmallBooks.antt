-- The small books print what the table says: one computed test.
use lib.Dec.{T}
use Rattle.keywords.specs.Words.{same, listed}
use Rattle.context.specs.Cells.{token_text}
use Rattle.context.specs.Context.{write_raw, trim_end, finish}
use Rattle.utf8.specs.Table.{holds, character_length}
use Rattle.utf8.specs.Pieces.{cut, first_ill_formed, is_trailing}
use Rattle.utf8.specs.WhiteSpace.{is_white_space}
use Rattle.utf8.specs.Trim.{trim}
use Rattle.utf8.specs.Trimming.{trimmed, trimmed_length}
use Rattle.tape.specs.Kinds.{kinds, not_carried}
use Rattle.tape.specs.Tree.{has_child, copied}
use Rattle.tape.specs.Tape.{head_at, command_at, check_open, checked_at, read_children, read_tape, read_tree}
use Rattle.tape.specs.Call.{read_input, read_call}
use Rattle.layout.specs.Calls.{format_error_verbatim, walk as walk_tree, calls}
use Rattle.layout.specs.Layout.{step, pieces, written, original, pieces_of, format}
use Rattle.layout.specs.Outcome.{outcome}
use Rattle.desk_job.specs.Job.{has_command, text_end, read_header, answered_outcome, answered_job as answered_by, decimal, field, pair, refused_line}
use Rattle.book.specs.Book.{job_end, is_whole, walk, opened, jobs_from}
use Rattle.book.specs.Told.{told_of, answered_job}
use Rattle.book.specs.Tally.{with_job, tallied}
use Rattle.book.specs.Report.{job_line, total_line, job_lines, work_after, report_of}
use Rattle.book.specs.SmallBooks.{example, faulty, small_books, all_printed, limits}

pub small_books_lem : T (all_printed small_books)
unfolding same listed token_text write_raw trim_end finish holds character_length cut first_ill_formed is_trailing is_white_space trim trimmed trimmed_length kinds not_carried has_child copied head_at command_at check_open checked_at read_children read_tape read_tree read_input read_call format_error_verbatim walk_tree calls step pieces written original pieces_of format outcome has_command text_end read_header answered_outcome answered_by decimal field pair refused_line job_end is_whole walk opened jobs_from told_of answered_job with_job tallied job_line total_line job_lines work_after report_of example faulty small_books
small_books_lem = tt

pub book-limits : T limits
unfolding job_end is_whole walk opened
book-limits = tt
