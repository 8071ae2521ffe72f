-- The masking rule for two calls, from entry to exit: refusals, answers and output spaces.
use Prim.Native.Nat.{ℕ, zero, suc}
use native.Mathlib.Omega.{arith}
use mathlib.Core.Path.{◌≡◌, refl, sym, ap, ◌∙◌, subst, subst₂}
use mathlib.Core.Bool.{Bool, true, false}
use mathlib.Core.List.{List, [], ◌∷◌}
use lib.ListN.{length, drop}
use lib.Dec.{leb}
use Rattle.context.specs.Cells.{Text, Cell, bytes_of, fixed}
use Rattle.context.specs.Alike.{Like}
use Rattle.context.proofs.Bytes.{bytes-append, bytes-fixed}
use Rattle.context.proofs.AlikeWrites.{like_self, like_append, like_length}
use Rattle.tape.specs.Tree.{Tree}
use Rattle.tape.specs.Tape.{Read, refused, got, verdict}
use Rattle.tape.specs.Call.{read_call}
use Rattle.tape.proofs.Trees.{tokens-fit}
use Rattle.tape.proofs.Acceptance.{accepted-call, same-reading}
use Rattle.layout.specs.Layout.{Version, original, format}
use Rattle.layout.specs.Outcome.{Outcome, refusal, laid, of_read, config_of, outcome, laid_out}
use Rattle.layout.specs.Masking.{MaskedForLayout, MaskedPair, MaskedPairForLayout, fitted_cells, cells_after, SameLines, Alike, AlikeByLines}
use Rattle.layout.specs.SpanStarts.{SpansStart}
use Rattle.layout.proofs.PieceStarts.{spans_start}
use Rattle.layout.proofs.MaskedLayouts.{TokenSpans, KeepsAlike, original-keeps_alike, masking, masked-for_layout, masked-lines, lines-agree}

-- the cells after a call are the space after it
pub cells_after_lem : (x : Outcome) (space : List ℕ) → bytes_of (cells_after x space) ≡ (laid_out x space).space
unfolding laid_out
cells_after_lem x space = grind (arith, bytes-append, bytes-fixed)

-- ── two lists of cells that are alike

module _ (a b : Text) where
  -- line for line: where newlines stand at the same places of both texts, they do in both outputs
  pub like_lines : SameLines a b → (X Y : List Cell) → Like a b X Y → SameLines (bytes_of X) (bytes_of Y)
  like_lines w [] [] h i = refl
  like_lines w (x ∷ xs) (y ∷ ys) h zero = h.0.lines (lines-agree a b w x.origin)
  like_lines w (x ∷ xs) (y ∷ ys) h (suc i) = like_lines w xs ys h.1 i
  like_lines w _ _ h i = absurd h

  -- ── two outcomes

  -- refused alike, or laid out alike
  abbrev pub OutcomesLike : Outcome → Outcome → Type 0
  OutcomesLike (refusal f p) (refusal g q) = (f ≡ g) × (p ≡ q)
  OutcomesLike (laid cs) (laid ds) = Like a b cs ds
  OutcomesLike _ _ = ⊥

  pub alike : (x y : Outcome) → OutcomesLike x y → (space : List ℕ) → Alike a b x y space
  unfolding laid_out
  alike (refusal f p) (refusal g q) h space =
      record { answers = rw (h.0, h.1); spaces = like_self a b (fixed space); lines = λ w i. refl }
  alike (laid cs) (laid ds) h space =
      record {
        answers = grind (arith, l);
        spaces = spaces;
        lines = λ w. subst₂ SameLines (cells_after_lem (laid cs) space) (cells_after_lem (laid ds) space) (like_lines w (cells_after (laid cs) space) (cells_after (laid ds) space) spaces);
      }
    where
      l : length cs ≡ length ds
      l = like_length a b cs ds h

      same-space : (t : Bool) → Like a b (fitted_cells t cs space) (fitted_cells t ds space)
      same-space true = rw l (like_append a b cs ds (fixed (drop (length ds) space)) (fixed (drop (length ds) space)) h (like_self a b (fixed (drop (length ds) space))))
      same-space false = like_self a b (fixed space)

      spaces : Like a b (cells_after (laid cs) space) (cells_after (laid ds) space)
      spaces = rw l (same-space (leb (length ds) (length space)))
  alike _ _ h space = absurd h

-- ── the rule

pub got_same : {t u : Tree} {p q : ℕ} → got t p ≡ got u q → t ≡ u
got_same e = cc

-- what the checks give of the spans of a tree that is read
pub read-spans : (width case : ℕ) (text : Text) (tape : List ℕ) (t : Tree) (p : ℕ) → read_call width case text tape ≡ got t p → TokenSpans (length text) t.kids × SpansStart text t
read-spans width case text tape t p e =
    let k = accepted-call width case text tape (ap verdict e) in
    let same : k.accepted.tree ≡ t = got_same (sym k.read ∙ e) in
    subst (λ (u : Tree). TokenSpans (length text) u.kids × SpansStart text u) same (tokens-fit (length text) tape 11 k.accepted.tree.kids k.accepted.kids, spans_start k)

module _ (width case : ℕ) (a b : Text) (tape : List ℕ) where
  module _ (m : MaskedPairForLayout width case a b tape) where
    pub reading : read_call width case a tape ≡ read_call width case b tape
    reading = same-reading width case a b tape m.same_length m.pass_a m.pass_b

    -- what is known of the tree that both calls read
    pub read-both : (t : Tree) (p : ℕ) → read_call width case a tape ≡ got t p → TokenSpans (length a) t.kids × SpansStart a t × SpansStart b t × MaskedForLayout a b t
    read-both t p e =
        let k = read-spans width case a tape t p e in
        let j = read-spans width case b tape t p (sym reading ∙ e) in
        (k.0, k.1, j.1, m.rule t p e)

    pub outcomes_like : (v : Version) → KeepsAlike a b m.same_length v → OutcomesLike a b (outcome v width case a tape) (outcome v width case b tape)
    unfolding outcome
    outcomes_like v keeps = rw (← reading) (go (read_call width case a tape) refl)
      where
        go : (r : Read Tree) → read_call width case a tape ≡ r
            → OutcomesLike a b (of_read r (format v (config_of width case) a)) (of_read r (format v (config_of width case) b))
        go (refused f p) e = (refl, refl)
        go (got t p) e =
            let k = read-both t p e in
            masking a b m.same_length t k.0 k.1 k.2 k.3 v keeps (config_of width case)

    pub masking_rule : (v : Version) → KeepsAlike a b m.same_length v → (space : List ℕ)
        → Alike a b (outcome v width case a tape) (outcome v width case b tape) space
    masking_rule v keeps space = alike a b _ _ (outcomes_like v keeps) space

    -- of the source's layout
    pub masking_original : (space : List ℕ) → Alike a b (outcome original width case a tape) (outcome original width case b tape) space
    masking_original = masking_rule original (original-keeps_alike a b m.same_length)

  -- demand 3's own conditions ask for more, so that the rule follows
  pub pair-for_layout : MaskedPair width case a b tape → MaskedPairForLayout width case a b tape
  pair-for_layout m =
      record { same_length = m.same_length; pass_a = m.pass_a; pass_b = m.pass_b; rule = λ t p e. masked-for_layout a b t (m.rule t p e) }

  -- the texts need not have their newlines at the same places where the call is refused: nothing is written then
  pub demand_3 : MaskedPair width case a b tape → (space : List ℕ)
      → AlikeByLines a b (outcome original width case a tape) (outcome original width case b tape) space
  unfolding outcome laid_out
  demand_3 m space = record { alike = k; lines = go (read_call width case a tape) refl }
    where
      k : Alike a b (outcome original width case a tape) (outcome original width case b tape) space
      k = masking_original (pair-for_layout m) space

      go : (r : Read Tree) → read_call width case a tape ≡ r
          → SameLines (laid_out (outcome original width case a tape) space).space (laid_out (outcome original width case b tape) space).space
      go (refused f p) e = λ i. rw (← (reading (pair-for_layout m)), e) refl
      go (got t p) e = k.lines (masked-lines a b t (m.rule t p e))
