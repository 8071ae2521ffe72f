-- What a head that fits says of its lengths.
use mathlib.Core.Path.{◌≡◌}
use mathlib.Core.Bool.{true, ◌&&◌}
use Prim.Native.Nat.{◌+◌, ◌≤◌}
use lib.Dec.{leb}
use borrow.Author.Tests.{leb-true}
use Rattle.std.proofs.lemmas.Bool.{and_parts}
use Rattle.replay_list.specs.declared.Run.{Run}
use Rattle.replay_list.specs.declared.RecordHead.{RecordHead}
use Rattle.replay_list.specs.Record.{run_fits, fitting, layout_length}

pub record RunWithin (run : Run) : Type 0 where
  pub stored : run.stored ≤ 4096
  pub whole : run.stored + run.zeros ≤ 262145

pub record Within (head : RecordHead) : Type 0 where
  pub text-fits : run_fits head.text ≡ true
  pub tape-fits : run_fits head.tape ≡ true
  pub text : RunWithin head.text
  pub tape : RunWithin head.tape
  pub space : head.space ≤ 4096
  pub layout : layout_length head ≤ head.space

-- the test comes first in each, by which the check finds the law
pub run_within : (run : Run) → run_fits run ≡ true → (run_fits run ≡ true) × RunWithin run
unfolding run_fits
run_within run h =
    let q = and_parts (leb run.stored 4096) (leb (run.stored + run.zeros) 262145) h in
    (h, record { stored = leb-true _ _ q.0; whole = leb-true _ _ q.1 })

pub within_limits : (head : RecordHead) → fitting head ≡ true → (fitting head ≡ true) × Within head
unfolding fitting
within_limits head h =
    let t = run_fits head.text in
    let u = run_fits head.tape in
    let p = and_parts (t && u && leb head.space 4096) (leb (layout_length head) head.space) h in
    let q = and_parts (t && u) (leb head.space 4096) p.0 in
    let s = and_parts t u q.0 in (
      h,
      record {
        text-fits = s.0;
        tape-fits = s.1;
        text = (run_within head.text s.0).1;
        tape = (run_within head.tape s.1).1;
        space = leb-true _ _ q.1;
        layout = leb-true _ _ p.1;
      },
    )
