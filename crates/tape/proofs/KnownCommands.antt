-- What is known where a command is of one sort, and which sort it is by its bytes.
use Prim.Native.Nat.{ℕ, ◌+◌, ◌≤◌, ◌<◌}
use native.Mathlib.Omega.{arith}
use mathlib.Core.Path.{◌≡◌, refl, sym, ap, ◌∙◌, subst}
use mathlib.Core.Bool.{Bool, true, false, false≢true, cond, not, ◌&&◌, ◌||◌, and-false}
use mathlib.Core.List.{List}
use lib.ListN.{length, get_or}
use lib.Dec.{leb, ltb, eqb}
use borrow.Author.Tests.{ltb-true, ltb-false, leb-true, leb-false, eqb-true, eqb-false, lt-ltb, le-ltb, le-leb, lt-leb, ne_eqb}
use Rattle.tape.specs.declared.Head.{Head}
use Rattle.tape.specs.declared.Fault.TheVariants.{UnknownCommand, CutCommand, UnknownKind, KindNotCarried, SpanOutside, TooDeep, NotOneRoot, InsideCharacter, WordNotAscii}
use Rattle.std.specs.Prelude.{Err, is_ok}
use Rattle.tape.specs.Kinds.{not_carried, BareWord}
use Rattle.tape.specs.Tape.{head_at, Command, ends, faulty, opens, is_token, closes, SpanTests, length_alone, command_at, check_open, check_token, by_finding, checked, checked_at, no_fault}
use Rattle.tape.specs.SpelledAt.{OpenAt, TokenAt, CloseAt}

-- the command by its byte and by what is left of the tape
module _ (tape : List ℕ) (p : ℕ) where
  pub at-end : length tape ≤ p → command_at tape p ≡ ends
  unfolding command_at
  at-end h = rw (le-leb (length tape) p h)

  pub at-close : p < length tape → get_or tape p 0 ≡ 3 → command_at tape p ≡ closes
  unfolding command_at
  at-close h b = rw (lt-leb (length tape) p h, b)

  pub at_open : p + 11 ≤ length tape → get_or tape p 0 ≡ 1 → command_at tape p ≡ opens
  unfolding command_at
  at_open h b = let i : p < length tape = omega arith in rw (lt-leb (length tape) p i, b, le-ltb (length tape) (p + 11) h)

  pub at-token : p + 11 ≤ length tape → get_or tape p 0 ≡ 2 → command_at tape p ≡ is_token
  unfolding command_at
  at-token h b = let i : p < length tape = omega arith in rw (lt-leb (length tape) p i, b, le-ltb (length tape) (p + 11) h)

  pub at_cut : p < length tape → length tape < p + 11 → 0 < get_or tape p 0 → get_or tape p 0 < 3 → command_at tape p ≡ faulty CutCommand
  unfolding command_at
  at_cut h s u v = rw (lt-leb (length tape) p h, lt-ltb (length tape) (p + 11) s) (go (eqb (get_or tape p 0) 1) (eqb (get_or tape p 0) 2) refl refl)
    where
      go : (a b : Bool) → eqb (get_or tape p 0) 1 ≡ a → eqb (get_or tape p 0) 2 ≡ b
          → cond a (faulty CutCommand) (cond b (faulty CutCommand) (cond (eqb (get_or tape p 0) 3) closes (faulty UnknownCommand))) ≡ faulty CutCommand
      go true b w x = refl
      go false true w x = refl
      go false false w x = absurd (omega (arith, eqb-false (get_or tape p 0) 1 w, eqb-false (get_or tape p 0) 2 x))

  pub at-unknown : p < length tape → (get_or tape p 0 ≡ 1 → ⊥) → (get_or tape p 0 ≡ 2 → ⊥) → (get_or tape p 0 ≡ 3 → ⊥) → command_at tape p ≡ faulty UnknownCommand
  unfolding command_at
  at-unknown h u v w = rw (lt-leb (length tape) p h, ne_eqb (get_or tape p 0) 1 u, ne_eqb (get_or tape p 0) 2 v, ne_eqb (get_or tape p 0) 3 w)

-- and back: the byte at p and the room for its command
abbrev Framed : List ℕ → ℕ → Command → Type 0
Framed tape p ends = length tape ≤ p
Framed tape p (faulty f) = Unit {0}
Framed tape p opens = (get_or tape p 0 ≡ 1) × (p + 11 ≤ length tape)
Framed tape p is_token = (get_or tape p 0 ≡ 2) × (p + 11 ≤ length tape)
Framed tape p closes = (get_or tape p 0 ≡ 3) × (p + 1 ≤ length tape)

framed : (tape : List ℕ) (p : ℕ) → Framed tape p (command_at tape p)
unfolding command_at
framed tape p =
    go (leb (length tape) p) (eqb (get_or tape p 0) 1) (eqb (get_or tape p 0) 2) (eqb (get_or tape p 0) 3) (ltb (length tape) (p + 11))
    refl refl refl refl refl
  where
    go : (e b1 b2 b3 s : Bool)
        → leb (length tape) p ≡ e → eqb (get_or tape p 0) 1 ≡ b1 → eqb (get_or tape p 0) 2 ≡ b2 → eqb (get_or tape p 0) 3 ≡ b3 → ltb (length tape) (p + 11) ≡ s
        → Framed tape p (cond e ends (cond b1 (cond s (faulty CutCommand) opens) (cond b2 (cond s (faulty CutCommand) is_token) (cond b3 closes (faulty UnknownCommand)))))
    go true b1 b2 b3 s u v w x y = leb-true (length tape) p u
    go false true b2 b3 true u v w x y = tt
    go false true b2 b3 false u v w x y = (eqb-true (get_or tape p 0) 1 v, ltb-false (length tape) (p + 11) y)
    go false false true b3 true u v w x y = tt
    go false false true b3 false u v w x y = (eqb-true (get_or tape p 0) 2 w, ltb-false (length tape) (p + 11) y)
    go false false false true s u v w x y = (eqb-true (get_or tape p 0) 3 x, omega (arith, leb-false (length tape) p u))
    go false false false false s u v w x y = tt

pub framed_of : (tape : List ℕ) (p : ℕ) {x : Command} → command_at tape p ≡ x → Framed tape p x
framed_of tape p e = subst (Framed tape p) e (framed tape p)

-- a test and its negation
leb_not : (m n : ℕ) → leb m n ≡ not (ltb n m)
leb_not m n = go (ltb n m) refl
  where
    go : (t : Bool) → ltb n m ≡ t → leb m n ≡ not t
    go true e = lt-leb m n (ltb-true n m e)
    go false e = le-leb m n (ltb-false n m e)

ltb_not : (m n : ℕ) → ltb m n ≡ not (leb n m)
ltb_not m n = go (leb n m) refl
  where
    go : (t : Bool) → leb n m ≡ t → ltb m n ≡ not t
    go true e = le-ltb m n (leb-true n m e)
    go false e = lt-ltb m n (leb-false n m e)

-- the tests of an open and of a token in one, where only the length counts
pub sound-open : (len depth : ℕ) (h : Head)
    → ((leb h.kind 257 && not (not_carried h.kind)) && (ltb h.end h.start || leb h.end len) && ltb depth 64) ≡ is_ok (check_open (length_alone len) depth h)
unfolding check_open
sound-open len depth h =
    rw (leb_not h.kind 257, ltb_not h.end h.start, leb_not h.end len, ltb_not depth 64)
    (go (ltb 257 h.kind) (not_carried h.kind) (leb h.start h.end) (ltb len h.end) (leb 64 depth))
  where
    go : (k n o s d : Bool) → ((not k && not n) && (not o || not s) && not d)
        ≡ is_ok (cond k (Err UnknownKind) (cond n (Err KindNotCarried) (cond (o && s) (Err SpanOutside) (cond (o && false) (Err InsideCharacter) (cond d (Err TooDeep) no_fault)))))
    go true n o s d = refl
    go false true o s d = refl
    go false false true true d = refl
    go false false true false true = refl
    go false false true false false = refl
    go false false false s true = refl
    go false false false s false = refl

pub sound-token : (len : ℕ) (h : Head) → ((leb h.kind 257 && leb h.start h.end) && leb h.end len) ≡ is_ok (check_token (length_alone len) h)
unfolding check_token
sound-token len h =
    rw (leb_not h.kind 257, leb_not h.start h.end, leb_not h.end len)
    (go (ltb 257 h.kind) (ltb h.end h.start) (ltb len h.end) (eqb h.kind BareWord))
  where
    go : (k o s w : Bool) → ((not k && not o) && not s) ≡ is_ok (cond k (Err UnknownKind) (cond (o || s) (Err SpanOutside) (cond (w && false) (Err WordNotAscii) no_fault)))
    go true o s w = refl
    go false true s w = refl
    go false false true w = refl
    go false false false true = refl
    go false false false false = refl

-- what 10 and 15 leave of a node's span, 10, 15 and 16 of a token's
pub record NodePasses (tests : SpanTests) (h : Head) : Type 0 where
  pub within : h.start ≤ h.end → h.end ≤ tests.length
  pub at_bounds : leb h.start h.end && tests.inside_character h ≡ false

pub record TokenPasses (tests : SpanTests) (h : Head) : Type 0 where
  pub ordered : h.start ≤ h.end
  pub within : h.end ≤ tests.length
  pub at_bounds : tests.inside_character h ≡ false
  pub word : eqb h.kind BareWord && tests.not_ascii h ≡ false

pub span-passes : (tests : SpanTests) (h : Head) → h.end ≤ tests.length → tests.inside_character h ≡ false → NodePasses tests h
span-passes tests h l i = record { within = λ _. l; at_bounds = ap (λ t. leb h.start h.end && t) i ∙ and-false (leb h.start h.end) }

pub no_span_passes : (tests : SpanTests) (h : Head) → h.end < h.start → NodePasses tests h
no_span_passes tests h l = record { within = λ le. absurd (omega arith); at_bounds = rw (lt-leb h.start h.end l) }

-- once kind and span of an open pass, the depth decides
pub open_rest : (tests : SpanTests) (depth : ℕ) (h : Head) → h.kind ≤ 257 → not_carried h.kind ≡ false → NodePasses tests h
    → check_open tests depth h ≡ cond (leb 64 depth) (Err TooDeep) no_fault
unfolding check_open
open_rest tests depth h k n passes = rw (le-ltb 257 h.kind k, n, outside (leb h.start h.end) refl, passes.at_bounds)
  where
    outside : (o : Bool) → leb h.start h.end ≡ o → leb h.start h.end && ltb tests.length h.end ≡ false
    outside true e = rw (e, le-ltb tests.length h.end (passes.within (leb-true h.start h.end e)))
    outside false e = rw e

module _ (tests : SpanTests) (tape : List ℕ) where
  -- what is known where the checked command is of one sort
  abbrev Known : ℕ → ℕ → Command → Type 0
  Known depth p ends = length tape ≤ p
  Known depth p (faulty f) = Unit {0}
  Known depth p opens = OpenAt tests.length tape p (head_at tape p) × (depth < 64) × NodePasses tests (head_at tape p)
  Known depth p is_token = TokenAt tests.length tape p (head_at tape p) × TokenPasses tests (head_at tape p)
  Known depth p closes = CloseAt tests.length tape p

  open_known : (depth p : ℕ) → get_or tape p 0 ≡ 1 → p + 11 ≤ length tape → Known depth p (by_finding (check_open tests depth (head_at tape p)) opens)
  unfolding check_open
  open_known depth p byte inside =
      go (ltb 257 h.kind) (not_carried h.kind) (leb h.start h.end && ltb tests.length h.end) (leb h.start h.end && tests.inside_character h) (leb 64 depth)
      refl refl refl refl refl
    where
      h : Head
      h = head_at tape p

      span : leb h.start h.end && ltb tests.length h.end ≡ false → h.start ≤ h.end → h.end ≤ tests.length
      span e le = ltb-false tests.length h.end (sym (ap (λ t. t && ltb tests.length h.end) (le-leb h.start h.end le)) ∙ e)

      go : (k n s i d : Bool)
          → ltb 257 h.kind ≡ k → not_carried h.kind ≡ n → leb h.start h.end && ltb tests.length h.end ≡ s → leb h.start h.end && tests.inside_character h ≡ i
          → leb 64 depth ≡ d
          → Known depth p (by_finding (cond k (Err UnknownKind) (cond n (Err KindNotCarried) (cond s (Err SpanOutside) (cond i (Err InsideCharacter) (cond d (Err TooDeep) no_fault))))) opens)
      go true n s i d u v w x y = tt
      go false true s i d u v w x y = tt
      go false false true i d u v w x y = tt
      go false false false true d u v w x y = tt
      go false false false false true u v w x y = tt
      go false false false false false u v w x y =
          (record { byte = byte; head = refl; inside = inside; kind = ltb-false 257 h.kind u; carried = v; span = span w }, leb-false 64 depth y, record { within = span w; at_bounds = x })

  token-known : (depth p : ℕ) → get_or tape p 0 ≡ 2 → p + 11 ≤ length tape → Known depth p (cond (eqb depth 0) (faulty NotOneRoot) (by_finding (check_token tests (head_at tape p)) is_token))
  unfolding check_token
  token-known depth p byte inside =
      go (eqb depth 0) (ltb 257 h.kind) (ltb h.end h.start) (ltb tests.length h.end) (tests.inside_character h) (eqb h.kind BareWord && tests.not_ascii h) refl refl refl refl refl
    where
      h : Head
      h = head_at tape p

      go : (z k o s i w : Bool) → ltb 257 h.kind ≡ k → ltb h.end h.start ≡ o → ltb tests.length h.end ≡ s → tests.inside_character h ≡ i → eqb h.kind BareWord && tests.not_ascii h ≡ w
          → Known depth p (cond z (faulty NotOneRoot) (by_finding (cond k (Err UnknownKind) (cond (o || s) (Err SpanOutside) (cond i (Err InsideCharacter) (cond w (Err WordNotAscii) no_fault)))) is_token))
      go true k o s i w t u v x y = tt
      go false true o s i w t u v x y = tt
      go false false true s i w t u v x y = tt
      go false false false true i w t u v x y = tt
      go false false false false true w t u v x y = tt
      go false false false false false true t u v x y = tt
      go false false false false false false t u v x y =
          let o = ltb-false h.end h.start u in
          let l = ltb-false tests.length h.end v in
          (record { byte = byte; head = refl; inside = inside; kind = ltb-false 257 h.kind t; ordered = o; within = l }, record { ordered = o; within = l; at_bounds = x; word = y })

  close-known : (depth p : ℕ) → get_or tape p 0 ≡ 3 → p + 1 ≤ length tape → Known depth p (cond (eqb depth 0) (faulty NotOneRoot) closes)
  close-known depth p byte inside = go (eqb depth 0)
    where
      go : (z : Bool) → Known depth p (cond z (faulty NotOneRoot) closes)
      go true = tt
      go false = record { byte = byte; inside = inside }

  known : (depth p : ℕ) → Known depth p (checked_at tests tape depth p)
  unfolding checked_at
  known depth p = go (command_at tape p) (framed tape p)
    where
      go : (x : Command) → Framed tape p x → Known depth p (checked tests tape depth p x)
      go ends k = k
      go (faulty f) k = tt
      go opens k = open_known depth p k.0 k.1
      go is_token k = token-known depth p k.0 k.1
      go closes k = close-known depth p k.0 k.1

  pub known_of : (depth p : ℕ) {x : Command} → checked_at tests tape depth p ≡ x → Known depth p x
  known_of depth p e = subst (Known depth p) e (known depth p)

  -- the checked command by the command and its tests
  pub checked-of : (depth p : ℕ) {x : Command} → command_at tape p ≡ x → checked_at tests tape depth p ≡ checked tests tape depth p x
  unfolding checked_at
  checked-of depth p e = ap (checked tests tape depth p) e

-- where the tests of an open find nothing, fewer than 64 nodes are open
pub open_low : (tests : SpanTests) (depth : ℕ) (h : Head) → check_open tests depth h ≡ no_fault → depth < 64
unfolding check_open
open_low tests depth h e =
    go (ltb 257 h.kind) (not_carried h.kind) (leb h.start h.end && ltb tests.length h.end) (leb h.start h.end && tests.inside_character h) (leb 64 depth) refl (ap is_ok e)
  where
    go : (k n s i d : Bool) → leb 64 depth ≡ d
        → is_ok (cond k (Err UnknownKind) (cond n (Err KindNotCarried) (cond s (Err SpanOutside) (cond i (Err InsideCharacter) (cond d (Err TooDeep) no_fault))))) ≡ true → depth < 64
    go true n s i d w u = absurd (false≢true u)
    go false true s i d w u = absurd (false≢true u)
    go false false true i d w u = absurd (false≢true u)
    go false false false true d w u = absurd (false≢true u)
    go false false false false true w u = absurd (false≢true u)
    go false false false false false w u = leb-false 64 depth w
