-- What holds each time the call's loop is reached, and what the call leaves.
use mathlib.Core.Path.{◌≡◌, refl, sym, ap, ◌∙◌}
use mathlib.Core.Bool.{Bool, true}
use mathlib.Core.List.{List, [], ◌∷◌, ◌++◌, map, append_assoc}
use Prim.Native.Nat.{ℕ, zero, suc, ◌+◌, ◌-◌, ◌<◌, ◌≤◌}
use native.Mathlib.Omega.{arith}
use lib.ListN.{length}
use Rattle.std.specs.Prelude.{Result, Ok}
use Rattle.desk_job.specs.declared.write.Writer.{Writer}
use Rattle.desk_job.specs.Puts.{Puts}
use Rattle.desk_job.specs.Written.{Written}
use Rattle.desk_job.proofs.Writing.{Wrote, within, puts_nothing, puts_then}
use Rattle.book.specs.declared.Tally.{Tally}
use Rattle.book.specs.declared.Run.{Run}
use Rattle.book.specs.declared.open.BookFault.{BookFault}
use Rattle.book.specs.Book.{job_at, job_end, is_whole, jobs_from, opened}
use Rattle.book.specs.Told.{Told, answered_job, telling, told_job}
use Rattle.book.specs.Tally.{zeros, with_job, tallied}
use Rattle.book.specs.Report.{Called, Report, job_line, total_line, job_lines, work_after, report_of, reported}
use Rattle.book.specs.Steps.{all_whole, Counted, Ready, Stepped}
use Rattle.book.proofs.Stepping.{jobs-with, counted-next, first-whole, rest_whole}
use Rattle.book.proofs.Walking.{walked}

-- what has been put and counted so far, and what these jobs add to it, is the report
pub record OnTheWay (report : Report) (jobs : List (List ℕ)) (t : Tally) (work put : List ℕ) : Type 0 where
  pub lines : put ++ (job_lines (t.jobs + 1) (map told_job jobs) ++ total_line (tallied t (map told_job jobs))) ≡ report.lines
  pub total : tallied t (map told_job jobs) ≡ report.tally
  pub used : work_after jobs work ≡ report.work

-- with so many of the jobs done; the writer began as `start`
pub record Fine (book : List ℕ) (report : Report) (count done : ℕ) (start : Writer) (run : Run) (lent : Tally) (work : List ℕ) (out : Writer) : Type 0 where
  pub raised : lent ≡ run.tally
  pub counted : Counted done run.tally
  pub whole : all_whole (count - done) book run.at ≡ true
  pub put : List ℕ
  pub puts : Puts start put out
  pub way : OnTheWay report (jobs_from (count - done) book run.at) run.tally work put

module _ (more : Bool) (book : List ℕ) (t : Tally) (bench : List ℕ) where
  pub fine_begun : (count : ℕ) (z : Tally) (start : Writer) → opened more book ≡ Ok count → z ≡ zeros
      → Fine book (report_of (Ok count) book t bench) count 0 start (record { at = 0; tally = z }) z bench start
  unfolding report_of
  fine_begun count z start e f =
      let n : count - 0 ≡ count = omega arith in
      rw f (record {
        raised = refl;
        counted = record { jobs = omega arith; refused = omega arith; bytes = omega arith; lines = omega arith };
        whole = rw n (walked more book count e).whole;
        put = [];
        puts = puts_nothing start;
        way = rw n (record { lines = refl; total = refl; used = refl });
      })

-- one job's line, and the others', which go on from the next number
lines_after : (t : Tally) (told : Told) (rest : List Told) (ps end : List ℕ)
    → (ps ++ job_line (t.jobs + 1) told) ++ (job_lines ((with_job t told).jobs + 1) rest ++ end) ≡ ps ++ (job_lines (t.jobs + 1) (told ∷ rest) ++ end)
unfolding job_lines
lines_after t told rest ps end =
    append_assoc ps (job_line (t.jobs + 1) told) (job_lines ((with_job t told).jobs + 1) rest ++ end)
    ∙ ap (λ (l : List ℕ). ps ++ l) (sym (append_assoc (job_line (t.jobs + 1) told) (job_lines ((with_job t told).jobs + 1) rest) end)
    ∙ ap (λ (n : ℕ). (job_line (t.jobs + 1) told ++ job_lines (n + 1) rest) ++ end) (jobs-with t told))

-- one job less
way_next : (report : Report) (book : List ℕ) (k : ℕ) (run : Run) (work put : List ℕ) → OnTheWay report (jobs_from (suc k) book run.at) run.tally work put
    → OnTheWay report (jobs_from k book (job_end book run.at)) (with_job run.tally (told_job (job_at book run.at))) (telling (answered_job (job_at book run.at)) work).work
    (put ++ job_line (run.tally.jobs + 1) (told_job (job_at book run.at)))
unfolding jobs_from tallied work_after
way_next report book k run work put w =
    let rest = map told_job (jobs_from k book (job_end book run.at)) in
    record {
      lines = lines_after run.tally (told_job (job_at book run.at)) rest put (total_line (tallied (with_job run.tally (told_job (job_at book run.at))) rest)) ∙ w.lines;
      total = w.total;
      used = w.used;
    }

module _ {book : List ℕ} {report : Report} {count done : ℕ} {start out : Writer} {run : Run} {lent : Tally} {work : List ℕ} (f : Fine book report count done start run lent work out) (l : done < count) where
  here-whole : is_whole book run.at ≡ true
  here-whole = first-whole (count - done) book run.at (omega (arith, l)) f.whole

  pub ready : (more : Bool) → opened more book ≡ Ok count → Ready book run
  ready more e =
      let w = walked more book count e in
      let n : done ≤ 255 = omega (arith, l, w.few) in
      let c = f.counted in
      record {
        short = w.short;
        whole = here-whole;
        counted = record { jobs = omega (arith, c.jobs, n); refused = c.refused; bytes = c.bytes; lines = c.lines };
      }

  pub fine_next : {next : Run} {used : List ℕ} {after : Writer} → Stepped book run work out next used after → Fine book report count (done + 1) start next next.tally used after
  fine_next {next} {used} {after} s =
      let e : count - done ≡ suc (count - (done + 1)) = omega (arith, l) in
      let m : count - done - 1 ≡ count - (done + 1) = omega arith in
      record {
        raised = refl;
        counted = rw s.tally (counted-next done run.tally f.counted (job_at book run.at));
        whole = rw (s.at, ← m) (rest_whole (count - done) book run.at (omega (arith, l)) f.whole);
        put = f.put ++ job_line (run.tally.jobs + 1) (told_job (job_at book run.at));
        puts = puts_then f.puts s.line;
        way = rw (s.at, s.tally, s.laid_out) (way_next report book (count - (done + 1)) run work f.put (rw e at f.way));
      }

-- at the end the total is put
way_end : (report : Report) (book : List ℕ) (k at : ℕ) (t : Tally) (work put : List ℕ) → k ≡ 0 → OnTheWay report (jobs_from k book at) t work put
    → (put ++ total_line t ≡ report.lines) × (t ≡ report.tally) × (work ≡ report.work)
unfolding jobs_from tallied work_after job_lines
way_end report book zero at t work put z w = (w.lines, w.total, w.used)
way_end report book (suc k) at t work put z w = absurd (omega (arith, z))

module _ (more : Bool) (book : List ℕ) (t : Tally) (work space : List ℕ) where
  -- what the call leaves, by how the book opens
  pub called : (o : Result ℕ BookFault) → opened more book ≡ o → (n : ℕ) (out used : List ℕ) (lent : Tally) → Wrote n out 0 (report_of o book t work).lines space
      → used ≡ (report_of o book t work).work → lent ≡ (report_of o book t work).tally
      → ◌≡◌ {A = Called} (record { end = n; space = out; work = used; tally = lent }) (reported more book t work space)
  unfolding reported
  called o e n out used lent w u l =
      rw (e, u, l) (ap (λ (x : Written). record { end = x.end; space = x.space; work = (report_of o book t work).work; tally = (report_of o book t work).tally }) w)

pub fine_end : {book : List ℕ} {report : Report} {count done : ℕ} {start out after : Writer} {run : Run} {lent : Tally} {work : List ℕ} → Fine book report count done start run lent work out
    → count ≤ done → Puts out (total_line run.tally) after → Puts start report.lines after × (work ≡ report.work) × (lent ≡ report.tally)
fine_end {book} {report} {count} {done} {start} {out} {after} {run} {lent} {work} f l p =
    let w = way_end report book (count - done) run.at run.tally work f.put (omega (arith, l)) f.way in
    (rw w.0 at (puts_then f.puts p), w.2, f.raised ∙ w.1)

-- the bytes put lie within the space
pub put-within : (more : Bool) (book : List ℕ) (t : Tally) (work space : List ℕ) (c : Called) → c ≡ reported more book t work space → c.end ≤ length c.space
unfolding reported
put-within more book t work space c e =
    within 0 (report_of (opened more book) book t work).lines space (ap (λ (x : Called). record { end = x.end; space = x.space }) e)
