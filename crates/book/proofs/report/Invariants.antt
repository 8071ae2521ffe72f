-- `report` meets its contract: what has been put and counted so far is on the way to what is promised of the book.
use Rattle.std.specs.Prelude.{Ok}
use Rattle.book.specs.Report.{report_of}
use Rattle.book.proofs.Looping.{Fine}
use Rattle.book.proofs.report.Given as goal

abbrev pub invariant-loop : goal.invariant-loop
invariant-loop l = Fine l.book (report_of (Ok l.count) l.book l.fn.tally l.fn.work) l.count l.counter l.initial.writer (record { at = l.run.at; tally = l.tally }) l.tally l.work l.writer
