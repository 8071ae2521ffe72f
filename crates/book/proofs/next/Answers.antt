-- `next` meets its contract: a job that stands whole is a part of the book.
use Rattle.book.proofs.Telling.{told-job}
use Rattle.book.proofs.Stepping.{room_of, step_of}
use Rattle.book.proofs.next.Goals as goal

pub with_job-requires : goal.with_job-requires
with_job-requires c =
    room_of c.args.book.now c.args.run c.args.work.now _ _ _ c.job_end-end.ensures (told-job _ _ c.tell-arg-2-1.given.0.1 c.tell-told.ensures) c.requires.counted

pub returns : goal.returns
returns c =
    step_of c.args.book.now c.args.run c.args.work.now _ _ _ c.job_end-end.ensures (told-job _ _ c.tell-arg-2-1.given.0.1 c.tell-told.ensures) _ _ _ c.put_job.ensures c.with_job.ensures
