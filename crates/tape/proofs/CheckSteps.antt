-- The loop of the check: what is read and noted is what is read and noted from the place on, a function of the place, of the open nodes and of the
-- facts noted so far.
use Prim.Native.Nat.{ℕ, zero, suc, ◌+◌, ◌-◌, ◌*◌, ◌/◌, ◌≤◌, ◌<◌}
use native.Mathlib.Omega.{arith}
use mathlib.Core.Path.{◌≡◌, refl, sym, ap, ◌∙◌, subst}
use mathlib.Core.List.{List, [], ◌∷◌, ◌++◌}
use lib.ListN.{length, get_or, set, length-append}
use lib.Dec.{eqb}
use mathlib.Core.Bool.{Bool, true, false}
use Rattle.std.proofs.Math.Seq.{get_or-append_seam}
use Rattle.std.proofs.lemmas.List.{length-reverse, reverse-append, reverse-reverse}
use Rattle.std.proofs.lemmas.Option.{slice_get-get_or}
use borrow.Author.Tests.{eqb-true, eqb-false, ne_eqb}
use Rattle.tape.specs.declared.Head.{Head}
use Rattle.tape.specs.declared.Fault.{Fault}
use Rattle.tape.specs.declared.Fault.TheVariants.{NotOneRoot}
use Rattle.tape.specs.declared.Refusal.{Refusal}
use Rattle.std.specs.Prelude.{Option, Some, None, IfSome, Result, Ok, Err, reverse, slice_get}
use Rattle.tape.specs.Tree.{Tree}
use Rattle.tape.specs.Tape.{head_at, Command, ends, faulty, opens, is_token, closes, SpanTests, Read, refused, got, and_then, by_root, by_end, command_at, check_open, check_token, checked, checked_at, read_tape, verdict, no_fault}
use Rattle.tape.specs.ReadCommands.{placed}
use Rattle.tape.specs.NodeFacts.{opened, Noted, NotedOf, innermost, noted_open}
use Rattle.tape.proofs.KnownCommands.{checked-of, at-end, open_low}
use Rattle.tape.proofs.Reading.{step, read, reads}
use Rattle.tape.proofs.NotedFacts.{opened_at, noted_open-length, fill, fill_tree, tree-noted}
use Rattle.tape.proofs.Acceptance.{accepted-tape}

then_each : {A B : Type 0} (r : Read A) (k l : A → ℕ → Read B) → ((x : A) (q : ℕ) → k x q ≡ l x q) → and_then r k ≡ and_then r l
then_each (refused f p) k l e = refl
then_each (got x q) k l e = e x q

then_then : {A B C : Type 0} (r : Read A) (k : A → ℕ → Read B) (l : B → ℕ → Read C) → and_then (and_then r k) l ≡ and_then r (λ x q. and_then (k x q) l)
then_then (refused f p) k l = refl
then_then (got x q) k l = refl

behind_cons : (i : ℕ) (is : List ℕ) (m n : ℕ) → i * 11 ≤ n → m ≤ n → ((j : ℕ) → get_or is j 0 * 11 ≤ m) → (j : ℕ) → get_or (i ∷ is) j 0 * 11 ≤ n
behind_cons i is m n h l k zero = h
behind_cons i is m n h l k (suc j) = omega (arith, k j)

no_open : {i : ℕ} {is : List ℕ} → ◌≡◌ {A = List ℕ} (i ∷ is) [] → ⊥
no_open e = cc

-- after the root's close: the facts, where nothing follows
abbrev pub end_notes : Command → ℕ → List ℕ → Read (List ℕ)
end_notes ends p fs = got fs p
end_notes (faulty f) p fs = refused f p
end_notes opens p fs = refused NotOneRoot p
end_notes is_token p fs = refused NotOneRoot p
end_notes closes p fs = refused NotOneRoot p

-- what the check answers where it refuses
abbrev pub refusal : Fault → ℕ → Result (Unit {0}) Refusal
refusal f p = Err (record { fault = f; at = p })

-- what the tests found, by what is told of it
told_of : Result (Unit {0}) Refusal → Refusal
told_of (Ok u) = record { fault = NotOneRoot; at = 0 }
told_of (Err r) = r

no_err : {r : Refusal} {u : Unit {0}} → ◌≡◌ {A = Result (Unit {0}) Refusal} (Err r) (Ok u) → ⊥
no_err e = cc

placed_err : {p : ℕ} (x : Result (Unit {0}) Fault) {r : Refusal} → Err r ≡ placed p x → (x ≡ Err r.fault) × (r.at ≡ p)
unfolding told_of
placed_err (Ok u) e = absurd (no_err e)
placed_err (Err f) e = (ap (λ y. Err (told_of y).fault) (sym e), ap (λ y. (told_of y).at) e)

pub placed_ok : (p : ℕ) (x : Result (Unit {0}) Fault) {u : Unit {0}} → Ok u ≡ placed p x → x ≡ no_fault
placed_ok p (Ok u) e = refl
placed_ok p (Err f) e = absurd (no_err (sym e))

-- ── the open nodes as the loop keeps them, the innermost last

pub one_more : (xs : List ℕ) (x : ℕ) → reverse (xs ++ x ∷ []) ≡ x ∷ reverse xs
one_more xs x = reverse-append xs (x ∷ [])

last_of : (xs : List ℕ) (y : ℕ) → slice_get (xs ++ y ∷ []) (length (xs ++ y ∷ []) - 1) ≡ Some y
last_of xs y =
    let n = length-append xs (y ∷ []) in
    let k : length (xs ++ y ∷ []) - 1 ≡ length xs = omega (arith, n) in
    ap (λ (i : ℕ). slice_get (xs ++ y ∷ []) i) k ∙ slice_get-get_or (xs ++ y ∷ []) (length xs) 0 (omega (arith, n)) ∙ ap Some (get_or-append_seam xs y [] 0)

pub last-innermost : (xs : List ℕ) → slice_get xs (length xs - 1) ≡ innermost (reverse xs)
last-innermost xs = go (reverse xs) xs (sym (reverse-reverse xs))
  where
    go : (ys zs : List ℕ) → zs ≡ reverse ys → slice_get zs (length zs - 1) ≡ innermost ys
    go [] zs e = rw e refl
    go (y ∷ ys) zs e = ap (λ (x : List ℕ). slice_get x (length x - 1)) (e ∙ reverse-append (y ∷ []) ys) ∙ last_of (reverse ys) y

pub no_innermost : (xs : List ℕ) → innermost xs ≡ None → length xs ≡ 0
no_innermost [] e = refl
no_innermost (x ∷ xs) e = cc

pub innermost_fits : (nodes : List ℕ) (p n : ℕ) → ((j : ℕ) → get_or nodes j 0 * 11 ≤ p) → p < 11 * n → IfSome (innermost nodes) (λ q. q < n)
innermost_fits [] p n h l = tt
innermost_fits (i ∷ is) p n h l = omega (arith, h 0)

pub none_open : (xs : List ℕ) {b : Bool} → b ≡ eqb (length xs) 0 → b ≡ true → length (reverse xs) ≡ 0
none_open xs u v = length-reverse xs ∙ eqb-true (length xs) 0 (sym u ∙ v)

pub some_open : (xs : List ℕ) {b : Bool} → b ≡ eqb (length xs) 0 → b ≡ false → length (reverse xs) ≡ 0 → ⊥
some_open xs u v z = eqb-false (length xs) 0 (sym u ∙ v) (sym (length-reverse xs) ∙ z)

module _ (tests : SpanTests) (tape : List ℕ) where
  -- what is read and noted of the whole tape
  abbrev pub notes : List ℕ → Read (List ℕ)
  notes fs = and_then (read_tape tests tape) (λ t p. got (fill_tree t fs) p)

  -- the same of the tape from p on, after the root's open, with these nodes open, the innermost first
  unfoldable pub rest : List ℕ → ℕ → List ℕ → Read (List ℕ)
  rest [] p fs = end_notes (command_at tape p) p fs
  rest (i ∷ is) p fs = and_then (read tests tape (suc (length is)) p) (λ c q. rest is q (fill i c fs))

  rest_step : (i : ℕ) (is : List ℕ) (p : ℕ) (fs : List ℕ) (x : Command) → checked_at tests tape (suc (length is)) p ≡ x
      → rest (i ∷ is) p fs ≡ and_then (step tests tape (read tests tape) (suc (length is)) p x) (λ c q. rest is q (fill i c fs))
  unfolding rest
  rest_step i is p fs x e =
      ap (λ r. and_then r (λ c q. rest is q (fill i c fs))) (reads tests tape (suc (length is)) p ∙ ap (step tests tape (read tests tape) (suc (length is)) p) e)

  rest_open : (i : ℕ) (is : List ℕ) (p : ℕ) (fs : List ℕ) → checked_at tests tape (suc (length is)) p ≡ opens
      → rest (i ∷ is) p fs ≡ rest (p / 11 ∷ i ∷ is) (p + 11) (opened_at (p / 11) i (head_at tape p).kind fs)
  unfolding rest fill head_at
  rest_open i is p fs e =
      rest_step i is p fs opens e
      ∙ then_then (read tests tape (suc (suc (length is))) (p + 11)) _ _
      ∙ then_each (read tests tape (suc (suc (length is))) (p + 11)) _ _ (λ kids m. then_then (read tests tape (suc (length is)) m) _ _)

  rest_token : (i : ℕ) (is : List ℕ) (p : ℕ) (fs : List ℕ) → checked_at tests tape (suc (length is)) p ≡ is_token → rest (i ∷ is) p fs ≡ rest (i ∷ is) (p + 11) fs
  unfolding rest fill
  rest_token i is p fs e = rest_step i is p fs is_token e ∙ then_then (read tests tape (suc (length is)) (p + 11)) _ _

  rest_close : (i : ℕ) (is : List ℕ) (p : ℕ) (fs : List ℕ) → checked_at tests tape (suc (length is)) p ≡ closes → rest (i ∷ is) p fs ≡ rest is (p + 1) fs
  unfolding fill
  rest_close i is p fs e = rest_step i is p fs closes e

  -- the first command
  root : (fs : List ℕ) (x : Command) → checked_at tests tape 0 0 ≡ x → notes fs
      ≡ and_then (by_root tape x (λ h. and_then (read tests tape 1 11) (λ kids p. by_end (command_at tape p) (record { head = h; kids = kids }) p))) (λ t p. got (fill_tree t fs) p)
  unfolding read_tape
  root fs x e =
      ap (λ y. and_then (by_root tape y (λ h. and_then (read tests tape 1 11) (λ kids p. by_end (command_at tape p) (record { head = h; kids = kids }) p))) (λ t p. got (fill_tree t fs) p)) e

  end-noted : (x : Command) (t : Tree) (p : ℕ) (fs : List ℕ) → and_then (by_end x t p) (λ u q. got (fill_tree u fs) q) ≡ end_notes x p (fill_tree t fs)
  end-noted ends t p fs = refl
  end-noted (faulty f) t p fs = refl
  end-noted opens t p fs = refl
  end-noted is_token t p fs = refl
  end-noted closes t p fs = refl

  root-open : (fs : List ℕ) → checked_at tests tape 0 0 ≡ opens → notes fs ≡ rest (0 ∷ []) 11 (set fs 0 (opened (head_at tape 0).kind))
  unfolding rest head_at
  root-open fs e =
      root fs opens e
      ∙ then_then (read tests tape 1 11) _ _
      ∙ then_each (read tests tape 1 11) _ _ (λ kids p. end-noted (command_at tape p) (record { head = head_at tape 0; kids = kids }) p fs)

  -- what the loop knows at the place p, with these nodes open, the innermost first: either nothing was read, or what is noted is what is noted from here
  -- on; no open node stands further on
  pub record Checking (fs₀ nodes : List ℕ) (p : ℕ) (fs : List ℕ) : Type 0 where
    pub low : length nodes ≤ 64
    pub same : length fs ≡ length fs₀
    pub behind : (j : ℕ) → get_or nodes j 0 * 11 ≤ p
    pub first : p ≡ 0 → (nodes ≡ []) × (fs ≡ fs₀)
    pub later : 0 < p → notes fs₀ ≡ rest nodes p fs

  -- ── what the answer is

  no_got : {f : Fault} {p q : ℕ} {fs : List ℕ} → ◌≡◌ {A = Read (List ℕ)} (got fs q) (refused f p) → ⊥
  no_got e = cc

  same-refusal : {f g : Fault} {p q : ℕ} → ◌≡◌ {A = Read (List ℕ)} (refused f p) (refused g q) → refusal g q ≡ refusal f p
  same-refusal e = cc

  same-facts : {fs gs : List ℕ} {p q : ℕ} → ◌≡◌ {A = Read (List ℕ)} (got fs p) (got gs q) → fs ≡ gs
  same-facts e = cc

  refusing : (fs₀ : List ℕ) {f : Fault} {p : ℕ} → notes fs₀ ≡ refused f p → (gs : List ℕ) → (refusal f p ≡ verdict (read_tape tests tape)) × NotedOf (read_tape tests tape) gs
  refusing fs₀ {f} {p} e gs = go (read_tape tests tape) e
    where
      go : (r : Read Tree) → and_then r (λ t q. got (fill_tree t fs₀) q) ≡ refused f p → (refusal f p ≡ verdict r) × NotedOf r gs
      go (refused g q) w = (same-refusal w, tt)
      go (got t q) w = absurd (no_got w)

  accepting : (fs₀ : List ℕ) {gs : List ℕ} {p : ℕ} → length tape ≤ 11 * length fs₀ → notes fs₀ ≡ got gs p → (Ok tt ≡ verdict (read_tape tests tape)) × NotedOf (read_tape tests tape) gs
  accepting fs₀ {gs} {p} l e = go (read_tape tests tape) refl e
    where
      same-tree : {t u : Tree} {m n : ℕ} → ◌≡◌ {A = Read Tree} (got t m) (got u n) → t ≡ u
      same-tree w = cc

      go : (r : Read Tree) → read_tape tests tape ≡ r → and_then r (λ t q. got (fill_tree t fs₀) q) ≡ got gs p → (Ok tt ≡ verdict r) × NotedOf r gs
      go (refused g q) k w = absurd (no_got (sym w))
      go (got t q) k w =
          let r = accepted-tape tests tape (ap verdict k) in
          let a = r.accepted in
          let b : a.tree ≡ t = same-tree (sym r.read ∙ k) in (
            refl,
            subst (λ (x : List ℕ). Noted x t) (same-facts w)
                (subst (λ (u : Tree). Noted (fill_tree u fs₀) u) b (tree-noted tests.length tape a.tree fs₀ a.root a.kids (omega (arith, a.whole)) l)),
          )

  -- ── the steps

  module _ {fs₀ : List ℕ} where
    -- at the first command, or with a node open, the checked command decides
    within : (nodes : List ℕ) (p : ℕ) (fs : List ℕ) → Checking fs₀ nodes p fs → (length nodes ≡ 0 → p ≡ 0) → {f : Fault} → checked_at tests tape (length nodes) p ≡ faulty f
        → notes fs₀ ≡ refused f p
    within nodes zero fs c z {f} e = root fs₀ (faulty f) (subst (λ (o : List ℕ). checked_at tests tape (length o) 0 ≡ faulty f) (c.first refl).0 e)
    within [] (suc p) fs c z e = absurd (omega (arith, z refl))
    within (i ∷ is) (suc p) fs c z {f} e = c.later (omega arith) ∙ rest_step i is (suc p) fs (faulty f) e

    -- with a node open something was read
    inside : (i : ℕ) (is : List ℕ) (p : ℕ) (fs : List ℕ) → Checking fs₀ (i ∷ is) p fs → notes fs₀ ≡ rest (i ∷ is) p fs
    inside i is zero fs c = absurd (no_open (c.first refl).0)
    inside i is (suc p) fs c = c.later (omega arith)

    -- after the root's close the command decides
    after : (p : ℕ) (fs : List ℕ) → Checking fs₀ [] p fs → 0 < p → notes fs₀ ≡ end_notes (command_at tape p) p fs
    unfolding rest
    after p fs c z = c.later z

  module _ {fs₀ nodes : List ℕ} {p : ℕ} {fs : List ℕ} (c : Checking fs₀ nodes p fs) where
    -- what the loop answers where a command is refused for f
    abbrev Refuses : Fault → Type 0
    Refuses f = (gs : List ℕ) → (refusal f p ≡ verdict (read_tape tests tape)) × NotedOf (read_tape tests tape) gs

    -- 6 and 7
    broken : {f : Fault} → command_at tape p ≡ faulty f → Refuses f
    broken {f} e = refusing fs₀ (go nodes p c e)
      where
        go : (o : List ℕ) (q : ℕ) → Checking fs₀ o q fs → command_at tape q ≡ faulty f → notes fs₀ ≡ refused f q
        go o zero k w = within o zero fs k (λ _. refl) (checked-of tests tape (length o) 0 w)
        go [] (suc q) k w = after (suc q) fs k (omega arith) ∙ ap (λ x. end_notes x (suc q) fs) w
        go (i ∷ is) (suc q) k w = within (i ∷ is) (suc q) fs k (λ z. absurd (omega arith)) (checked-of tests tape (suc (length is)) (suc q) w)

    -- 12: a token or a close with no node open
    stray : (x : Command) → checked tests tape 0 p x ≡ faulty NotOneRoot → end_notes x p fs ≡ refused NotOneRoot p → length nodes ≡ 0 → command_at tape p ≡ x → Refuses NotOneRoot
    stray x u v z e = refusing fs₀ (go nodes p c z u v e)
      where
        go : (o : List ℕ) (q : ℕ) → Checking fs₀ o q fs → length o ≡ 0 → checked tests tape 0 q x ≡ faulty NotOneRoot → end_notes x q fs ≡ refused NotOneRoot q → command_at tape q ≡ x
            → notes fs₀ ≡ refused NotOneRoot q
        go (i ∷ is) q k y r s w = absurd (omega (arith, y))
        go [] zero k y r s w = within [] 0 fs k (λ _. refl) (checked-of tests tape 0 0 w ∙ r)
        go [] (suc q) k y r s w = after (suc q) fs k (omega arith) ∙ ap (λ x. end_notes x (suc q) fs) w ∙ s

    pub stray-token : length nodes ≡ 0 → command_at tape p ≡ is_token → Refuses NotOneRoot
    stray-token = stray is_token refl refl

    pub stray-close : length nodes ≡ 0 → command_at tape p ≡ closes → Refuses NotOneRoot
    stray-close = stray closes refl refl

    -- 12: a second root
    pub second-root : length nodes ≡ 0 → 0 < p → command_at tape p ≡ opens → Refuses NotOneRoot
    second-root z lt e = refusing fs₀ (go nodes c z)
      where
        go : (o : List ℕ) → Checking fs₀ o p fs → length o ≡ 0 → notes fs₀ ≡ refused NotOneRoot p
        go [] k y = after p fs k lt ∙ ap (λ x. end_notes x p fs) e
        go (i ∷ is) k y = absurd (omega (arith, y))

    -- 8 to 11
    faulty-token : (length nodes ≡ 0 → ⊥) → command_at tape p ≡ is_token → {h : Head} → h ≡ head_at tape p → {f : Fault} → check_token tests h ≡ Err f → Refuses f
    faulty-token z e {h} i s =
        refusing fs₀ (within nodes p fs c (λ k. absurd (z k)) (checked-of tests tape (length nodes) p e ∙ rw (ne_eqb (length nodes) 0 z, ← i, s)))

    faulty-open : (length nodes ≡ 0 → p ≡ 0) → command_at tape p ≡ opens → {h : Head} → h ≡ head_at tape p → {f : Fault} → check_open tests (length nodes) h ≡ Err f → Refuses f
    faulty-open z e {h} i s = refusing fs₀ (within nodes p fs c z (checked-of tests tape (length nodes) p e ∙ rw (← i, s)))

    -- the same by what the reader of commands and the tests of the operands answer
    abbrev Told : Refusal → Type 0
    Told r = (gs : List ℕ) → (Err r ≡ verdict (read_tape tests tape)) × NotedOf (read_tape tests tape) gs

    told : {r : Refusal} → r.at ≡ p → Refuses r.fault → Told r
    told {r} e k gs = subst (λ (q : ℕ). (refusal r.fault q ≡ verdict (read_tape tests tape)) × NotedOf (read_tape tests tape) gs) (sym e) (k gs)

    pub broken-told : {r : Refusal} → r.at ≡ p → command_at tape p ≡ faulty r.fault → Told r
    broken-told e s = told e (broken s)

    pub token-told : (length nodes ≡ 0 → ⊥) → command_at tape p ≡ is_token → {h : Head} → h ≡ head_at tape p → {r : Refusal} → Err r ≡ placed h.at (check_token tests h) → Told r
    unfolding head_at
    token-told z e {h} i s = let w = placed_err (check_token tests h) s in told (w.1 ∙ ap (λ (x : Head). x.at) i) (faulty-token z e i w.0)

    pub open-told : (length nodes ≡ 0 → p ≡ 0) → command_at tape p ≡ opens → {h : Head} → h ≡ head_at tape p → {d : ℕ} → d ≡ length nodes → {r : Refusal}
        → Err r ≡ placed h.at (check_open tests d h) → Told r
    unfolding head_at
    open-told z e {h} i {d} u {r} s =
        let w = placed_err (check_open tests d h) s in
        told (w.1 ∙ ap (λ (x : Head). x.at) i) (faulty-open z e i (subst (λ (x : ℕ). check_open tests x h ≡ Err r.fault) u w.0))

    pub next-token : (length nodes ≡ 0 → ⊥) → command_at tape p ≡ is_token → {h : Head} → h ≡ head_at tape p → check_token tests h ≡ no_fault
        → Checking fs₀ nodes (p + 11) fs
    next-token z e {h} i s =
        record {
          low = c.low;
          same = c.same;
          behind = λ j. omega (arith, c.behind j);
          first = λ k. absurd (omega arith);
          later = λ _. go nodes c z;
        }
      where
        go : (o : List ℕ) → Checking fs₀ o p fs → (length o ≡ 0 → ⊥) → notes fs₀ ≡ rest o (p + 11) fs
        go [] k y = absurd (y refl)
        go (n ∷ ns) k y =
            inside n ns p fs k ∙ rest_token n ns p fs (checked-of tests tape (suc (length ns)) p e ∙ rw (ne_eqb (suc (length ns)) 0 y, ← i, s))

    -- the tape's end
    pub end-open : length tape ≤ p → (length nodes ≡ 0 → ⊥) → (gs : List ℕ) → (refusal NotOneRoot (length tape) ≡ verdict (read_tape tests tape)) × NotedOf (read_tape tests tape) gs
    end-open h z = refusing fs₀ (go nodes c z)
      where
        go : (o : List ℕ) → Checking fs₀ o p fs → (length o ≡ 0 → ⊥) → notes fs₀ ≡ refused NotOneRoot (length tape)
        go [] k y = absurd (y refl)
        go (i ∷ is) k y = inside i is p fs k ∙ rest_step i is p fs ends (checked-of tests tape (suc (length is)) p (at-end tape p h))

    pub end-root : length tape ≤ p → length tape ≤ 11 * length fs₀ → length nodes ≡ 0 → (p ≡ 0 → ⊥) → (Ok tt ≡ verdict (read_tape tests tape)) × NotedOf (read_tape tests tape) fs
    end-root h l z n = accepting fs₀ l (go nodes c z)
      where
        go : (o : List ℕ) → Checking fs₀ o p fs → length o ≡ 0 → notes fs₀ ≡ got fs p
        go [] k y = after p fs k (omega arith) ∙ ap (λ x. end_notes x p fs) (at-end tape p h)
        go (i ∷ is) k y = absurd (omega (arith, y))

  module _ {fs₀ : List ℕ} {p : ℕ} {fs : List ℕ} where
    -- the innermost node closes
    pub next-close : {i : ℕ} {nodes : List ℕ} → Checking fs₀ (i ∷ nodes) p fs → command_at tape p ≡ closes → Checking fs₀ nodes (p + 1) fs
    next-close {i} {nodes} c e =
        record {
          low = omega (arith, c.low);
          same = c.same;
          behind = λ j. omega (arith, c.behind (suc j));
          first = λ k. absurd (omega arith);
          later = λ _. inside i nodes p fs c ∙ rest_close i nodes p fs (checked-of tests tape (suc (length nodes)) p e ∙ rw (ne_eqb (suc (length nodes)) 0 (λ z. omega arith)));
        }

    -- a node opens, below the innermost that is open or as the root
    pub next-open : {nodes : List ℕ} → Checking fs₀ nodes p fs → (length nodes ≡ 0 → p ≡ 0) → command_at tape p ≡ opens → {h : Head} → h ≡ head_at tape p
        → {d : ℕ} → d ≡ length nodes → check_open tests d h ≡ no_fault
        → Checking fs₀ (p / 11 ∷ nodes) (p + 11) (noted_open (innermost nodes) (p / 11) h.kind fs)
    next-open {nodes} c z e {h} i {d} u s =
        record {
          low = omega (arith, deep);
          same = noted_open-length (innermost nodes) (p / 11) h.kind fs ∙ c.same;
          behind = behind_cons (p / 11) nodes p (p + 11) (omega arith) (omega arith) c.behind;
          first = λ q. absurd (omega arith);
          later =
              λ _.
              go nodes p c z (checked-of tests tape (length nodes) p e ∙ rw (← i, found))
              ∙ ap (λ (x : Head). rest (p / 11 ∷ nodes) (p + 11) (noted_open (innermost nodes) (p / 11) x.kind fs)) (sym i);
        }
      where
        found : check_open tests (length nodes) h ≡ no_fault
        found = subst (λ (x : ℕ). check_open tests x h ≡ no_fault) u s

        deep : length nodes < 64
        deep = open_low tests (length nodes) h found

        go : (o : List ℕ) (q : ℕ) → Checking fs₀ o q fs → (length o ≡ 0 → q ≡ 0) → checked_at tests tape (length o) q ≡ opens
            → notes fs₀ ≡ rest (q / 11 ∷ o) (q + 11) (noted_open (innermost o) (q / 11) (head_at tape q).kind fs)
        go [] zero b y w = root-open fs₀ w ∙ ap (λ (x : List ℕ). rest (0 ∷ []) 11 (set x 0 (opened (head_at tape 0).kind))) (sym (b.first refl).1)
        go [] (suc q) b y w = absurd (omega (arith, y refl))
        go (n ∷ ns) q b y w = inside n ns q fs b ∙ rest_open n ns q fs w

    -- the same of the nodes as the loop keeps them
    pub next-close-last : (xs ys : List ℕ) (i : ℕ) → Checking fs₀ (reverse xs) p fs → xs ≡ ys ++ i ∷ [] → command_at tape p ≡ closes → Checking fs₀ (reverse ys) (p + 1) fs
    next-close-last xs ys i c l e = next-close (subst (λ (o : List ℕ). Checking fs₀ o p fs) (ap reverse l ∙ one_more ys i) c) e

    pub next-open-last : (xs ys : List ℕ) → Checking fs₀ (reverse xs) p fs → (length (reverse xs) ≡ 0 → p ≡ 0) → command_at tape p ≡ opens → {h : Head} → h ≡ head_at tape p
        → {d : ℕ} → d ≡ length (reverse xs) → check_open tests d h ≡ no_fault → {o : Option ℕ} → o ≡ innermost (reverse xs)
        → {gs : List ℕ} → gs ≡ noted_open o (p / 11) h.kind fs → ys ≡ xs ++ p / 11 ∷ [] → Checking fs₀ (reverse ys) (p + 11) gs
    next-open-last xs ys c z e {h} i u s {o} w {gs} g l =
        subst (λ (x : List ℕ). Checking fs₀ x (p + 11) gs) (sym (ap reverse l ∙ one_more xs (p / 11)))
        (subst (λ (x : List ℕ). Checking fs₀ (p / 11 ∷ reverse xs) (p + 11) x) (sym (g ∙ ap (λ (y : Option ℕ). noted_open y (p / 11) h.kind fs) w)) (next-open c z e i u s))

  pub no_root : length tape ≡ 0 → (gs : List ℕ) → (refusal NotOneRoot (length tape) ≡ verdict (read_tape tests tape)) × NotedOf (read_tape tests tape) gs
  no_root e = refusing [] (root [] ends (checked-of tests tape 0 0 (at-end tape 0 (omega arith))))
