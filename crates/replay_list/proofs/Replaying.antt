-- A record's runs, what a record comes to, and the replay from a record on.
use mathlib.Core.Path.{◌≡◌, refl, sym, ap, subst, ◌∙◌}
use mathlib.Core.Bool.{Bool, true, false, cond, ◌&&◌, ◌||◌}
use mathlib.Core.List.{List, ◌++◌}
use Prim.Native.Nat.{ℕ, suc, ◌+◌, ◌-◌, ◌≤◌, ◌<◌}
use native.Mathlib.Omega.{arith}
use lib.ListN.{length, take, drop, replicate, length-drop, length-take}
use lib.Dec.{leb, ltb, eqb}
use lib.Seq.{take_all, take-append-add}
use borrow.Author.Tests.{le-leb, lt-leb, lt-ltb, le-ltb, leb-true, eqb-true, eqb-false}
use Rattle.std.proofs.lemmas.Bool.{and_parts}
use Rattle.std.proofs.lemmas.List.{take-replicate, drop-replicate}
use Rattle.layout.specs.Layout.{original}
use Rattle.layout.specs.Outcome.{outcome}
use Rattle.std.specs.Prelude.{Option, Some, None, Ok}
use Rattle.replay_list.specs.declared.RecordHead.{RecordHead}
use Rattle.replay_list.specs.declared.Compared.{Compared}
use Rattle.replay_list.specs.declared.Tally.{Tally}
use Rattle.replay_list.specs.Record.{number_at, head_of, fitting, record_end, between, text_of, tape_of, layout_of}
use Rattle.replay_list.specs.Agreement.{calls_agree}
use Rattle.replay_list.specs.Replay.{record_agrees, verdict_on, verdict, counted, bad_at, after_record, replayed_from, no_records, replayed}

-- ── a run that is copied into zeros

pub length-between : (start end : ℕ) (bytes : List ℕ) → end ≤ length bytes → length (between start end bytes) ≡ end - start
length-between start end bytes h =
    let t = length-take (end - start) (drop start bytes) in
    let d = length-drop start bytes in
    omega (arith, t, d, h)

-- the same part, by equal places
pub between-same : (bytes : List ℕ) (a s b e : ℕ) → a ≡ s → b ≡ e → between a b bytes ≡ between s e bytes
between-same bytes a s b e p q = rw (p, q) refl

-- the front of an array of zeros after a run was copied to it
in_zeros : (run : List ℕ) (zeros room n : ℕ) → n ≡ length run + zeros → n ≤ room → take n (run ++ drop (length run) (replicate room 0)) ≡ run ++ replicate zeros 0
in_zeros run zeros room n e h =
    rw (
      e,
      take-append-add run (drop (length run) (replicate room 0)) zeros,
      drop-replicate {X = ℕ} (length run) room 0,
      take-replicate {X = ℕ} zeros (room - length run) 0 (omega (arith, e, h)),
    )

-- the same of the part from a to b
pub run-copied : {out : List ℕ} (bytes : List ℕ) (zeros room n a s b e : ℕ) → a ≡ s → b ≡ e → e ≤ length bytes → n ≡ e - s + zeros → n ≤ room
    → out ≡ between a b bytes ++ drop (length (between a b bytes)) (replicate room 0) → take n out ≡ between s e bytes ++ replicate zeros 0
run-copied {out} bytes zeros room n a s b e p q l m h w =
    rw (w, p, q) (in_zeros (between s e bytes) zeros room n (omega (arith, length-between s e bytes l, m)) h)

-- the two calls of a record, by the parts that they were given
pub record_agrees-of : {r : Bool} {text tape layout : List ℕ} {room : ℕ} (bytes : List ℕ) (head : RecordHead) → text ≡ text_of bytes head → tape ≡ tape_of bytes head → layout ≡ layout_of bytes head → room ≡ head.space
    → r ≡ calls_agree (outcome original head.width head.case text tape) head.number head.value layout room → r ≡ record_agrees bytes head
unfolding record_agrees
record_agrees-of {r} {text} {tape} {layout} {room} bytes head e f g k h =
    h ∙ rw (e, f, g, k)

-- ── what a record comes to

module _ (bytes : List ℕ) where
  pub cut-in_head : length bytes < 72 → verdict bytes ≡ None
  unfolding verdict
  cut-in_head h = rw (lt-leb 72 (length bytes) h)

  module _ (head : RecordHead) (e : head ≡ head_of bytes) (h : 72 ≤ length bytes) where
    of_head : verdict bytes ≡ verdict_on bytes head
    unfolding verdict
    of_head = rw (le-leb 72 (length bytes) h) (ap (verdict_on bytes) (sym e))

    pub over_limit : fitting head ≡ false → verdict bytes ≡ None
    unfolding verdict_on
    over_limit f = of_head ∙ rw f

    module _ (f : fitting head ≡ true) where
      pub cut-in_run : length bytes < record_end head → verdict bytes ≡ None
      unfolding verdict_on
      cut-in_run l = of_head ∙ rw (f, lt-leb (record_end head) (length bytes) l)

      pub record_compared : (r : Bool) (end : ℕ) → r ≡ record_agrees bytes head → end ≡ record_end head → end ≤ length bytes → Some (record { agreed = r; end = end }) ≡ verdict bytes
      unfolding verdict_on
      record_compared r end a k l = rw (a, k) (sym (of_head ∙ rw (f, le-leb (record_end head) (length bytes) (rw k at l))))

abbrev end_of : Option Compared → ℕ
end_of None = 0
end_of (Some c) = c.end

end-if : (b : Bool) (v : Option Compared) (n : ℕ) → (b ≡ true → end_of v ≤ n) → end_of (cond b v None) ≤ n
end-if true v n h = h refl
end-if false v n h = omega arith

verdict-end : (bytes : List ℕ) → end_of (verdict bytes) ≤ length bytes
unfolding verdict verdict_on
verdict-end bytes =
    let head = head_of bytes in
    end-if (leb 72 (length bytes)) _ (length bytes)
    (λ _. end-if (fitting head && leb (record_end head) (length bytes)) (Some (record { agreed = record_agrees bytes head; end = record_end head })) (length bytes)
    (λ b. leb-true (record_end head) (length bytes) (and_parts (fitting head) _ b).1))

pub compared_end : (bytes : List ℕ) (c : Compared) → Some c ≡ verdict bytes → c.end ≤ length bytes
compared_end bytes c h = subst (λ (v : Option Compared). end_of v ≤ length bytes) (sym h) (verdict-end bytes)

-- ── the replay from a record on

pub one_more : (t : Tally) (agrees : Bool) → (counted t agrees).records ≡ t.records + 1
unfolding counted
one_more t true = refl
one_more t false = refl

at-most_all : (t : Tally) (agrees : Bool) → t.differ ≤ t.records → (counted t agrees).differ ≤ (counted t agrees).records
unfolding counted
at-most_all t true l = omega arith
at-most_all t false l = omega arith

-- so many records are counted so far, and `rest` is what is left of the list
pub record Reached (more : Bool) (list : List ℕ) (records at : ℕ) (t : Tally) (rest : List ℕ) : Type 0 where
  pub all : t.records ≡ at
  pub few : t.differ ≤ t.records
  pub left : replayed more list ≡ replayed_from more (records - at) rest t

pub too_short_lem : (more : Bool) (list : List ℕ) → length list < 8 → bad_at 0 ≡ replayed more list
unfolding replayed
too_short_lem more list h = rw (lt-leb 8 (length list) h)

-- what is left of a list after n numbers, as the code has it
tail : (n : ℕ) (list : List ℕ) → drop n list ≡ take (length list - n) (drop n list)
tail n list = sym (take_all (length list - n) (drop n list) (omega (arith, length-drop n list)))

pub start : (more : Bool) (list : List ℕ) (records : ℕ) → 8 ≤ length list → records ≡ number_at list 0
    → Reached more list records 0 no_records (take (length list - 8) (drop 8 list))
unfolding replayed
start more list records h e =
    let same : number_at list 0 ≡ records - 0 = omega (arith, e) in
    subst (λ (l : List ℕ). Reached more list records 0 no_records l) (tail 8 list)
    (record {
      all = refl;
      few = omega arith;
      left = rw (le-leb 8 (length list) h) (ap (λ (n : ℕ). replayed_from more n (drop 8 list) no_records) same);
    })

module _ (more : Bool) (list : List ℕ) (records at : ℕ) (t : Tally) (rest : List ℕ) (r : Reached more list records at t rest) where
  module _ (l : at < records) where
    unrolled : replayed more list ≡ after_record (verdict rest) rest t (replayed_from more (records - (at + 1)))
    unfolding replayed_from
    unrolled =
        let e : records - at ≡ suc (records - (at + 1)) = omega arith in
        r.left ∙ ap (λ (n : ℕ). replayed_from more n rest t) e

    pub broken-record : None ≡ verdict rest → bad_at at ≡ replayed more list
    unfolding after_record
    broken-record h = sym (unrolled ∙ rw (← h, r.all) refl)

    behind : (c : Compared) → Some c ≡ verdict rest → Reached more list records (at + 1) (counted t c.agreed) (drop c.end rest)
    unfolding after_record
    behind c h =
        record {
          all = one_more t c.agreed ∙ ap (λ (n : ℕ). n + 1) r.all;
          few = at-most_all t c.agreed r.few;
          left = unrolled ∙ rw (← h) refl;
        }

    pub next-record : (c : Compared) (u : Tally) → Some c ≡ verdict rest → u ≡ counted t c.agreed
        → Reached more list records (at + 1) u (take (length rest - c.end) (drop c.end rest))
    next-record c u h e =
        subst (λ (x : Tally). Reached more list records (at + 1) x (take (length rest - c.end) (drop c.end rest))) (sym e)
        (subst (λ (l : List ℕ). Reached more list records (at + 1) (counted t c.agreed) l) (tail c.end rest) (behind c h))

  module _ (l : records ≤ at) (k : at ≤ records) where
    ended : replayed more list ≡ cond (more || ltb 0 (length rest)) (bad_at records) (Ok t)
    unfolding replayed_from
    ended =
        let z : records - at ≡ 0 = omega arith in
        let e : t.records ≡ records = omega (arith, r.all) in
        r.left ∙ ap (λ (n : ℕ). replayed_from more n rest t) z ∙ ap (λ (n : ℕ). cond (more || ltb 0 (length rest)) (bad_at n) (Ok t)) e

    pub input_goes_on : more ≡ true → bad_at records ≡ replayed more list
    input_goes_on m = sym (ended ∙ rw m refl)

    pub list-goes_on : more ≡ false → eqb (length rest) 0 ≡ false → bad_at records ≡ replayed more list
    list-goes_on m e =
        let some = eqb-false (length rest) 0 e in
        sym (ended ∙ rw (m, lt-ltb 0 (length rest) (omega arith)) refl)

    pub list-ends : more ≡ false → eqb (length rest) 0 ≡ true → Ok t ≡ replayed more list
    list-ends m e = sym (ended ∙ rw (m, le-ltb 0 (length rest) (omega (arith, eqb-true (length rest) 0 e))) refl)
