-- What read_children reads lies on the tape, and its bound on the commands does not count where it is enough.
use Prim.Native.Nat.{ℕ, zero, suc, ◌+◌, ◌-◌, ◌≤◌, ◌<◌, max}
use native.Mathlib.Omega.{arith}
use native.Mathlib.Nat.{max-le}
use mathlib.Core.Path.{◌≡◌, refl, sym, ap, ◌∙◌, subst, subst₂}
use mathlib.Core.List.{List}
use lib.ListN.{length}
use Rattle.tape.specs.declared.Fault.{Fault}
use Rattle.tape.specs.declared.Fault.TheVariants.{NotOneRoot}
use Rattle.tape.specs.Tree.{Children, done, token, node, size, height, EachToken, EachNode}
use Rattle.tape.specs.Tape.{head_at, Command, ends, faulty, opens, is_token, closes, SpanTests, Read, refused, got, and_then, by_command, checked_at, read_children}
use Rattle.tape.specs.SpelledAt.{SpelledAt}
use Rattle.tape.proofs.KnownCommands.{at-end, NodePasses, TokenPasses, known_of, checked-of}
use Rattle.tape.proofs.Trees.{some_size}

module _ (tests : SpanTests) (tape : List ℕ) where
  -- the children c lie on the tape from p up to q, with depth nodes open; 15 and 16 let them pass
  pub record Held (depth p : ℕ) (c : Children) (q : ℕ) : Type 0 where
    pub ends_at : q ≡ p + size c
    pub spelled : SpelledAt tests.length tape p c
    pub low : depth ≤ 64 → depth + height c ≤ 64
    pub tokens : EachToken (TokenPasses tests) c
    pub nodes : EachNode (λ h kids. NodePasses tests h) c

  no_got : {f : Fault} {p q : ℕ} {c : Children} → ◌≡◌ {A = Read Children} (refused f p) (got c q) → ⊥
  no_got e = cc

  then_got : (r : Read Children) (k : Children → ℕ → Read Children) (c : Children) (q : ℕ) → and_then r k ≡ got c q
      → (x : Children) × (m : ℕ) × (r ≡ got x m) × (k x m ≡ got c q)
  then_got (refused f p) k c q e = absurd (no_got e)
  then_got (got x m) k c q e = (x, m, refl, e)

  same-value : {c d : Children} {p q : ℕ} → ◌≡◌ {A = Read Children} (got c p) (got d q) → c ≡ d
  same-value e = cc

  same_end : {c d : Children} {p q : ℕ} → ◌≡◌ {A = Read Children} (got c p) (got d q) → p ≡ q
  same_end e = cc

  held_close : (depth p : ℕ) → checked_at tests tape depth p ≡ closes → Held depth p done (p + 1)
  unfolding SpelledAt size height
  held_close depth p e = record { ends_at = refl; spelled = known_of tests tape depth p e; low = λ b. omega arith; tokens = tt; nodes = tt }

  held_token : (depth p q : ℕ) (c : Children) → checked_at tests tape depth p ≡ is_token → Held depth (p + 11) c q → Held depth p (token (head_at tape p) c) q
  unfolding SpelledAt size height
  held_token depth p q c e s =
      let k = known_of tests tape depth p e in
      record { ends_at = omega (arith, s.ends_at); spelled = (k.0, s.spelled); low = s.low; tokens = (k.1, s.tokens); nodes = s.nodes }

  held_node : (depth p m q : ℕ) (c d : Children) → checked_at tests tape depth p ≡ opens → Held (suc depth) (p + 11) c m → Held depth m d q
      → Held depth p (node (head_at tape p) c d) q
  unfolding SpelledAt size height
  held_node depth p m q c d e s t =
      let k = known_of tests tape depth p e in
      record {
        ends_at = omega (arith, s.ends_at, t.ends_at);
        spelled = (k.0, s.spelled, subst (λ x. SpelledAt tests.length tape x d) s.ends_at t.spelled);
        low =
            λ b.
            let u = s.low (omega (arith, k.1)) in
            let v = t.low b in
            let w : max (suc (height c)) (height d) ≤ 64 - depth = max-le (omega arith) (omega arith) in
            omega arith;
        tokens = (s.tokens, t.tokens);
        nodes = (k.2, s.nodes, t.nodes);
      }

  -- one command of the reader, at the readers of the kids and of the rest
  abbrev pub step : (ℕ → ℕ → Read Children) → ℕ → ℕ → Command → Read Children
  step f depth p x =
      by_command tape x p
      (λ h. and_then (f (suc depth) (p + 11)) (λ kids m. and_then (f depth m) (λ rest r. got (node h kids rest) r)))
      (λ h. and_then (f depth (p + 11)) (λ rest r. got (token h rest) r))

  pub held : (n depth p : ℕ) (c : Children) (q : ℕ) → read_children tests tape n depth p ≡ got c q → Held depth p c q
  unfolding read_children
  held zero depth p c q e = absurd (no_got e)
  held (suc n) depth p c q e = go (checked_at tests tape depth p) refl e (held n)
    where
      go : (x : Command) → checked_at tests tape depth p ≡ x → step (read_children tests tape n) depth p x ≡ got c q
          → ((depth' p' : ℕ) (c' : Children) (q' : ℕ) → read_children tests tape n depth' p' ≡ got c' q' → Held depth' p' c' q') → Held depth p c q
      go ends w k ih = absurd (no_got k)
      go (faulty f) w k ih = absurd (no_got k)
      go opens w k ih =
          let u = then_got (read_children tests tape n (suc depth) (p + 11)) _ c q k in
          let v = then_got (read_children tests tape n depth u.1) _ c q u.3 in
          subst₂ (Held depth p) (same-value v.3) (same_end v.3)
          (held_node depth p u.1 v.1 u.0 v.0 w (ih (suc depth) (p + 11) u.0 u.1 u.2) (ih depth u.1 v.0 v.1 v.2))
      go is_token w k ih =
          let u = then_got (read_children tests tape n depth (p + 11)) _ c q k in
          subst₂ (Held depth p) (same-value u.3) (same_end u.3) (held_token depth p u.1 u.0 w (ih depth (p + 11) u.0 u.1 u.2))
      go closes w k ih = subst₂ (Held depth p) (same-value k) (same_end k) (held_close depth p w)

  read-end : (n depth p : ℕ) → length tape ≤ p → read_children tests tape n depth p ≡ refused NotOneRoot (length tape)
  unfolding read_children
  read-end zero depth p h = refl
  read-end (suc n) depth p h = rw (checked-of tests tape depth p (at-end tape p h))

  then_same : {A B : Type 0} (r r' : Read A) (k k' : A → ℕ → Read B) → r ≡ r' → ((x : A) (q : ℕ) → r ≡ got x q → k x q ≡ k' x q) → and_then r k ≡ and_then r' k'
  then_same (refused f p) r' k k' e g = ap (λ x. and_then x k') e
  then_same (got x q) r' k k' e g = g x q refl ∙ ap (λ y. and_then y k') e

  enough : (m n depth p : ℕ) → length tape ≤ m + p → length tape ≤ n + p → read_children tests tape m depth p ≡ read_children tests tape n depth p
  unfolding read_children
  enough zero zero depth p u v = refl
  enough zero (suc n) depth p u v = sym (read-end (suc n) depth p (omega arith))
  enough (suc m) zero depth p u v = read-end (suc m) depth p (omega arith)
  enough (suc m) (suc n) depth p u v = go (checked_at tests tape depth p) (enough m n)
    where
      go : (x : Command) → ((depth' p' : ℕ) → length tape ≤ m + p' → length tape ≤ n + p' → read_children tests tape m depth' p' ≡ read_children tests tape n depth' p')
          → step (read_children tests tape m) depth p x ≡ step (read_children tests tape n) depth p x
      go ends ih = refl
      go (faulty f) ih = refl
      go opens ih =
          then_same _ _ _ _ (ih (suc depth) (p + 11) (omega arith) (omega arith))
          (λ kids q e.
          let on : p + 11 < q = omega (arith, some_size kids, (held m (suc depth) (p + 11) kids q e).ends_at) in
          ap (λ x. and_then x (λ rest r. got (node (head_at tape p) kids rest) r)) (ih depth q (omega arith) (omega arith)))
      go is_token ih = ap (λ x. and_then x (λ rest r. got (token (head_at tape p) rest) r)) (ih depth (p + 11) (omega arith) (omega arith))
      go closes ih = refl

  -- the reader, with the tape's length as bound, calls itself
  abbrev pub read : ℕ → ℕ → Read Children
  read depth p = read_children tests tape (length tape) depth p

  pub reads : (depth p : ℕ) → read depth p ≡ step read depth p (checked_at tests tape depth p)
  unfolding read_children
  reads depth p = enough (length tape) (suc (length tape)) depth p (omega arith) (omega arith)
