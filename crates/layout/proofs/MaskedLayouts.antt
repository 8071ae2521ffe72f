-- The masking rule for the definition of the layout: two texts that differ as it allows give the same calls, and outputs that are
-- alike.
use Prim.Native.Nat.{ℕ, zero, suc, ◌+◌, ◌-◌, ◌≤◌, ◌<◌}
use native.Mathlib.Omega.{arith}
use mathlib.Core.Path.{◌≡◌, refl, sym, ap, ◌∙◌, subst}
use mathlib.Core.Logic.{◌⊎◌, inl, inr}
use mathlib.Core.Bool.{Bool, true, false}
use mathlib.Core.List.{List, [], ◌∷◌, ◌++◌}
use lib.ListN.{length, get_or, length-map}
use lib.Dec.{T}
use Rattle.std.proofs.lemmas.Bool.{cases_eq}
use Rattle.std.proofs.lemmas.Bool.Decides.{nat_tests}
use Rattle.utf8.specs.Pieces.{Starts}
use Rattle.utf8.specs.Pieces as Chars
use Rattle.utf8.specs.Trimming.{trimmed_length, trimmed_after}
use Rattle.utf8.specs.Steps.{end_white}
use Rattle.utf8.proofs.Trimming.{trimmed-append, trimmed-whole}
use Rattle.context.specs.Cells.{Text, Origin, made, from, Cell, token_text, bytes_of, span_cells, copied_from}
use Rattle.context.specs.Context.{Piece, new_state, write_token}
use Rattle.context.specs.Context as context
use Rattle.context.specs.Alike.{LinesAgree, Like}
use Rattle.context.specs.declared.FormatConfig.{FormatConfig}
use Rattle.context.specs.declared.State.{State}
use Rattle.context.proofs.Bytes.{bytes-append, bytes-span, bytes-in_case, token-length_same, token-same, trimmed-in_case}
use Rattle.context.proofs.AlikeWrites.{like_self, like_append, like_length, span-like, keyword-like, finish-like}
use Rattle.tape.specs.declared.Head.{Head}
use Rattle.tape.specs.Tree.{Children, done, token, node, Tree, count_list_items, copied, EachToken}
use Rattle.tape.proofs.Trees.{each-token}
use Rattle.layout.specs.declared.Local.{Local}
use Rattle.layout.specs.Arms.{spacing, write_text, write_keyword, write_sign, is_read, seen, Arms}
use Rattle.layout.specs.Calls.{Call, put_spacing, act_at, raw, walk, calls}
use Rattle.layout.specs.Layout.{step, pieces, written, Version, original, pieces_of, format}
use Rattle.layout.proofs.EachCall.{Every, each-call, reached_copy}
use Rattle.layout.specs.SpanStarts.{SpansStart}
use Rattle.layout.proofs.PieceStarts.{PieceStarts, none-starts, starts-cells, spacing-starts, lead-starts, sign_starts, step-starts}
use Rattle.layout.specs.Masking.{OfCopied, EachReachedBelow, EachReachedCopy, quoted, Holds, characters_of, last_is_white, Differ, EndsInWhiteSpace, Masked, MaskedForLayout, SameLines}

-- the tokens are those of a checked tape over a text of so many bytes
abbrev pub TokenSpans : ℕ → Children → Type 0
TokenSpans len = EachToken (λ h. (h.kind ≤ 257) × (h.start ≤ h.end) × (h.end ≤ len))

-- a test decides equality of numbers
pub stable : (x y : ℕ) → ((x ≡ y → ⊥) → ⊥) → x ≡ y
stable x y f = grind arith

-- a quoted token is not read
quoted-unread : (h : Head) → T (quoted h) → is_read h.kind ≡ false
quoted-unread h q = grind (arith, nat_tests)

-- a text whose last character is no white space is kept whole
ends-solid : (cs : List Chars.Piece) → (T (last_is_white cs) → ⊥) → 0 ≡ end_white cs
unfolding end_white
ends-solid [] n = refl
ends-solid (c ∷ []) n = grind arith
ends-solid (c ∷ d ∷ cs) n = ends-solid (d ∷ cs) n

-- what holds of each token, and what holds of each at some places
pub both_tokens : (P Q : Head → Type 0) (c : Children) → EachToken P c → EachToken Q c → EachToken (λ h. P h × Q h) c
both_tokens P Q done u v = tt
both_tokens P Q (token h rest) u v = ((u.0, v.0), both_tokens P Q rest u.1 v.1)
both_tokens P Q (node h kids rest) u v = (both_tokens P Q kids u.0 v.0, both_tokens P Q rest u.1 v.1)

pub at_places : (P : ℕ → Head → Type 0) (D : ℕ → Type 0) (c : Children) → ((p : ℕ) → D p → EachToken (P p) c) → EachToken (λ h. (p : ℕ) → D p → P p h) c
at_places P D done f = tt
at_places P D (token h rest) f = (λ p d. (f p d).0, at_places P D rest (λ p d. (f p d).1))
at_places P D (node h kids rest) f = (at_places P D kids (λ p d. (f p d).0), at_places P D rest (λ p d. (f p d).1))

module _ (a b : Text) (same_length : length a ≡ length b) where
  abbrev pub trimmed : List Cell → ℕ
  trimmed cs = trimmed_length (bytes_of cs)

  trimmed-both : (xs ys : List Cell) → Starts (bytes_of ys) → trimmed (xs ++ ys) ≡ trimmed_after (length xs) (trimmed xs) (trimmed ys)
  trimmed-both xs ys h = rw (bytes-append, trimmed-append (bytes_of xs) (bytes_of ys) h, length-map)

  -- ── what a masked pair gives of each token, and of each node that is copied

  pub record TokenAlike (h : Head) : Type 0 where
    pub seen_same : seen a h ≡ seen b h
    pub trims : trimmed (span_cells a h.start h.end) ≡ trimmed (span_cells b h.start h.end)
    pub starts_a : Starts (token_text a h.start h.end)
    pub starts_b : Starts (token_text b h.start h.end)

  abbrev pub SameSpan : ℕ → ℕ → Type 0
  SameSpan s e = token_text a s e ≡ token_text b s e

  abbrev pub CopySpan : ℕ → ℕ → Type 0
  CopySpan s e = SameSpan s e × Starts (token_text a s e)

  abbrev pub CopyAlike : Head → Type 0
  CopyAlike h = CopySpan h.start h.end

  abbrev pub EachAlike : List Call → Type 0
  EachAlike = Every TokenAlike CopySpan

  -- ── the calls are equal

  module _ (pick : ℕ → Children → Arms) where
    pub walk_same : (c : Children) → EachToken TokenAlike c → (r : Arms) (l : Local) → walk pick a r l c ≡ walk pick b r l c
    unfolding walk
    walk_same done w r l = refl
    walk_same (token h rest) w r l = rw (w.0.seen_same, walk_same rest w.1 r (r.at_token l (seen b h)).0)
    walk_same (node h kids rest) w r l =
        rw (walk_same kids w.0 (pick h.kind kids) (pick h.kind kids).begin, walk_same rest w.1 r (r.at_node l h.kind (count_list_items kids)).0)

    calls_same : (t : Tree) → EachToken TokenAlike t.kids → calls pick a t ≡ calls pick b t
    unfolding calls
    calls_same t w = rw (walk_same t.kids w (pick t.head.kind t.kids) (pick t.head.kind t.kids).begin)

  -- ── pieces that are alike

  pub record PieceLike (p q : Piece) : Type 0 where
    pub leads : p.lead ≡ q.lead
    pub bodies : Like a b p.body q.body
    pub trims : trimmed p.body ≡ trimmed q.body
    pub starts_a : PieceStarts p
    pub starts_b : PieceStarts q

  pub data PiecesLike : List Piece → List Piece → Type 0 where
    nil : PiecesLike [] []
    next : {p q : Piece} {ps qs : List Piece} → PieceLike p q → PiecesLike ps qs → PiecesLike (p ∷ ps) (q ∷ qs)

  same-piece : (p : Piece) → PieceStarts p → PieceLike p p
  same-piece p h = record { leads = refl; bodies = like_self a b p.body; trims = refl; starts_a = h; starts_b = h }

  written-starts_both : (ps qs : List Piece) → PiecesLike ps qs → Starts (bytes_of (written ps)) × Starts (bytes_of (written qs))
  unfolding written
  written-starts_both ps qs nil = (none-starts, none-starts)
  written-starts_both ps qs (next {p} {q} {ps = ps'} {qs = qs'} k r) =
      let w = written-starts_both ps' qs' r in (
        starts-cells p.lead _ k.starts_a.0 (starts-cells p.body _ k.starts_a.1 w.0),
        starts-cells q.lead _ k.starts_b.0 (starts-cells q.body _ k.starts_b.1 w.1),
      )

  written-like : (ps qs : List Piece) → PiecesLike ps qs → Like a b (written ps) (written qs)
  unfolding written
  written-like ps qs nil = tt
  written-like ps qs (next {p} {q} {ps = ps'} {qs = qs'} k r) =
      rw k.leads (like_append a b q.lead q.lead (p.body ++ written ps') (q.body ++ written qs') (like_self a b q.lead)
      (like_append a b p.body q.body (written ps') (written qs') k.bodies (written-like ps' qs' r)))

  pub written-trims : (ps qs : List Piece) → PiecesLike ps qs → trimmed (written ps) ≡ trimmed (written qs)
  unfolding written
  written-trims ps qs nil = refl
  written-trims ps qs (next {p} {q} {ps = ps'} {qs = qs'} k r) =
      let w = written-starts_both ps' qs' r in
      rw (
        k.leads,
        trimmed-both q.lead (p.body ++ written ps') (starts-cells p.body _ k.starts_a.1 w.0),
        trimmed-both q.lead (q.body ++ written qs') (starts-cells q.body _ k.starts_b.1 w.1),
        trimmed-both p.body (written ps') w.0,
        trimmed-both q.body (written qs') w.1,
        k.trims,
        like_length a b p.body q.body k.bodies,
        written-trims ps' qs' r,
      )

  -- ── one call, over the two texts

  span_same : (s e : ℕ) → SameSpan s e → span_cells a s e ≡ span_cells b s e
  span_same s e w = ap (copied_from s) w

  module _ (config : FormatConfig) where
    pub step-state : (c : Call) → EachAlike (c ∷ []) → (s : State) → (step config a c s).0 ≡ (step config b c s).0
    unfolding step write_token context.write_keyword Every
    step-state (raw f e) w s = rw (span_same f e w.0.0)
    step-state (act_at h (spacing x)) w s = refl
    step-state _ w s = refl

    token-piece : (h : Head) → TokenAlike h → (s : State) → PieceLike (write_token config (span_cells a h.start h.end) s).1 (write_token config (span_cells b h.start h.end) s).1
    unfolding write_token step Every
    token-piece h w s =
        record {
          leads = refl;
          bodies = span-like a b same_length h.start h.end;
          trims = w.trims;
          starts_a = step-starts config a (act_at h write_text) (w.starts_a, tt) s;
          starts_b = step-starts config b (act_at h write_text) (w.starts_b, tt) s;
        }

    keyword-piece : (h : Head) → TokenAlike h → (s : State) → PieceLike (context.write_keyword config (span_cells a h.start h.end) s).1 (context.write_keyword config (span_cells b h.start h.end) s).1
    unfolding context.write_keyword write_token step Every
    keyword-piece h w s =
        let k = keyword-like a b (span_cells a h.start h.end) (span_cells b h.start h.end) (span-like a b same_length h.start h.end) config s in
        record {
          leads = refl;
          bodies = k.bodies;
          trims = simp (bytes-in_case, trimmed-in_case) w.trims;
          starts_a = step-starts config a (act_at h write_keyword) (w.starts_a, tt) s;
          starts_b = step-starts config b (act_at h write_keyword) (w.starts_b, tt) s;
        }

    pub step-piece : (c : Call) → EachAlike (c ∷ []) → (s : State) → PieceLike (step config a c s).1 (step config b c s).1
    unfolding step write_token Every
    step-piece (put_spacing x) w s = same-piece _ (spacing-starts x s)
    step-piece (act_at h (spacing x)) w s = same-piece _ (spacing-starts x s)
    step-piece (act_at h write_text) w s = token-piece h w.0 s
    step-piece (act_at h write_keyword) w s = keyword-piece h w.0 s
    step-piece (act_at h (write_sign x)) w s = same-piece _ (lead-starts config s, sign_starts x)
    step-piece (raw f e) w s = rw (span_same f e w.0.0) (same-piece _ (step-starts config b (raw f e) (subst Starts w.0.0 w.0.1, tt) s))

    pieces-like : (cs : List Call) → EachAlike cs → (s : State) → PiecesLike (pieces config a cs s) (pieces config b cs s)
    unfolding pieces Every
    pieces-like [] w s = nil
    pieces-like (c ∷ cs) w s =
        next (step-piece c (w.0, tt) s)
        (subst (λ x. PiecesLike (pieces config a cs (step config a c s).0) (pieces config b cs x)) (step-state c (w.0, tt) s) (pieces-like cs w.1 (step config a c s).0))

  -- ── from the rule's words to what each token and each copied node gives

  -- where no place of the span is masked
  same-token : (h : Head) → SameSpan h.start h.end → Starts (token_text a h.start h.end) → TokenAlike h
  unfolding seen
  same-token h s u = record { seen_same = rw s; trims = rw (span_same h.start h.end s); starts_a = u; starts_b = subst Starts s u }

  -- a quoted token that ends in white space in neither text
  masked-token : (h : Head) → T (quoted h) → (EndsInWhiteSpace a h → ⊥) → (EndsInWhiteSpace b h → ⊥)
      → Starts (token_text a h.start h.end) → Starts (token_text b h.start h.end) → TokenAlike h
  unfolding seen
  masked-token h q v w x y =
      record {
        seen_same = rw (quoted-unread h q);
        trims = whole a v ∙ token-length_same a b h.start h.end same_length ∙ sym (whole b w);
        starts_a = x;
        starts_b = y;
      }
    where
      whole : (t : Text) → (EndsInWhiteSpace t h → ⊥) → trimmed (span_cells t h.start h.end) ≡ length (token_text t h.start h.end)
      whole t n = ap trimmed_length (bytes-span t h.start h.end) ∙ trimmed-whole (token_text t h.start h.end) (ends-solid (characters_of t h) n)

  -- a span holds a masked place, or is the same in both texts
  data Span (s e : ℕ) : Type 0 where
    masked : (p : ℕ) → s ≤ p → p < e → Differ a b p → Span s e
    same : ((p : ℕ) → s ≤ p → p < e → get_or a p 0 ≡ get_or b p 0) → Span s e

  span : (s n : ℕ) → Span s (s + n)
  span s zero = same (λ p lo hi. absurd (omega arith))
  span s (suc n) = go (span s n) (cases_eq (get_or a (s + n) 0) (get_or b (s + n) 0))
    where
      go : Span s (s + n) → (get_or a (s + n) 0 ≡ get_or b (s + n) 0) ⊎ Differ a b (s + n) → Span s (s + suc n)
      go (masked p lo hi d) e = masked p lo (omega arith) d
      go (same f) (inl e) = same (λ p lo hi. let below : p < s + n → get_or a p 0 ≡ get_or b p 0 = f p lo in grind arith)
      go (same f) (inr d) = masked (s + n) (omega arith) (omega arith) d

  abbrev SolidIfHeld : ℕ → Head → Type 0
  SolidIfHeld p h = Holds p h → (EndsInWhiteSpace a h → ⊥) × (EndsInWhiteSpace b h → ⊥)

  alike-token : (h : Head) → h.start ≤ h.end → Starts (token_text a h.start h.end) → Starts (token_text b h.start h.end)
      → ((p : ℕ) → Differ a b p → Holds p h → T (quoted h)) → ((p : ℕ) → Differ a b p → SolidIfHeld p h) → TokenAlike h
  alike-token h le u v g w = go (subst (Span h.start) (omega arith) (span h.start (h.end - h.start)))
    where
      go : Span h.start h.end → TokenAlike h
      go (masked p lo hi d) = masked-token h (g p d (lo, hi)) (w p d (lo, hi)).0 (w p d (lo, hi)).1 u v
      go (same e) = same-token h (token-same a b h.start h.end same_length e) u

  alike-tokens : (c : Children) → TokenSpans (length a) c → EachToken (λ h. Starts (token_text a h.start h.end)) c → EachToken (λ h. Starts (token_text b h.start h.end)) c
      → ((p : ℕ) → Differ a b p → EachToken (λ h. Holds p h → T (quoted h)) c) → ((p : ℕ) → Differ a b p → EachToken (SolidIfHeld p) c) → EachToken TokenAlike c
  alike-tokens c s u v g w =
      each-token (λ h k. alike-token h k.0.0.1 k.0.1.0 k.0.1.1 k.1.0 k.1.1) c
      (both_tokens _ _ c (both_tokens _ _ c s (both_tokens _ _ c u v)) (both_tokens _ _ c (at_places _ (Differ a b) c g) (at_places _ (Differ a b) c w)))

  alike-copy : (h : Head) → Starts (token_text a h.start h.end) → ((p : ℕ) → Differ a b p → Holds p h → ⊥) → CopyAlike h
  alike-copy h u f = (token-same a b h.start h.end same_length (λ p lo hi. stable _ _ (λ d. f p d (lo, hi))), u)

  of_copied : (t : Bool) (A B S U : Type 0) (A' B' : ℕ → Type 0) → OfCopied t S U → ((p : ℕ) → Differ a b p → OfCopied t (A' p) (B' p))
      → (S → ((p : ℕ) → Differ a b p → A' p) → A) → (U → ((p : ℕ) → Differ a b p → B' p) → B) → OfCopied t A B
  of_copied true A B S U A' B' x f u v = u x f
  of_copied false A B S U A' B' x f u v = v x f

  alike-copies : (c : Children) → EachReachedBelow (λ h. Starts (token_text a h.start h.end)) c → ((p : ℕ) → Differ a b p → EachReachedBelow (λ h. Holds p h → ⊥) c)
      → EachReachedBelow CopyAlike c
  alike-copies done x f = tt
  alike-copies (token h rest) x f = alike-copies rest x f
  alike-copies (node h kids rest) x f =
      (of_copied (copied h.kind kids) _ _ _ _ _ _ x.0 (λ p d. (f p d).0) (alike-copy h) (alike-copies kids), alike-copies rest x.1 (λ p d. (f p d).1))

  -- ── the theorem

  -- a version that keeps pieces alike that are alike
  abbrev pub KeepsAlike : Version → Type 0
  KeepsAlike v = (ps qs : List Piece) → PiecesLike ps qs → PiecesLike (v.between ps) (v.between qs)

  pub original-keeps_alike : KeepsAlike original
  unfolding original
  original-keeps_alike ps qs k = k

  module _ (t : Tree) (s : TokenSpans (length a) t.kids) (x : SpansStart a t) (y : SpansStart b t) (m : MaskedForLayout a b t) where
    pub tokens-alike : EachToken TokenAlike t.kids
    tokens-alike = alike-tokens t.kids s x.tokens y.tokens m.in_quotes m.no_white_space_end

    pub copies-alike : EachReachedCopy CopyAlike t
    copies-alike = of_copied (copied t.head.kind t.kids) _ _ _ _ _ _ x.copies m.not_copied (alike-copy t.head) (alike-copies t.kids)

    module _ (v : Version) (keeps : KeepsAlike v) (config : FormatConfig) where
      pub same-pieces : PiecesLike (pieces_of v config a t) (pieces_of v config b t)
      unfolding pieces_of
      same-pieces =
          subst (λ cs. PiecesLike (v.between (pieces config a (calls v.pick a t) new_state)) (v.between (pieces config b cs new_state)))
          (calls_same v.pick t tokens-alike)
          (keeps _ _ (pieces-like config (calls v.pick a t) (each-call TokenAlike CopySpan v.pick a t tokens-alike copies-alike) new_state))

      pub masking : Like a b (format v config a t) (format v config b t)
      unfolding format
      masking =
          let ps = pieces_of v config a t in
          let qs = pieces_of v config b t in
          finish-like a b (written ps) (written qs) (written-like ps qs same-pieces) (written-trims ps qs same-pieces)

-- ── demand 3's own conditions ask for more

module _ (a b : Text) where
  pub masked-for_layout : (t : Tree) → Masked a b t → MaskedForLayout a b t
  masked-for_layout t m =
      record {
        in_quotes = m.in_quotes;
        not_copied = λ p d. reached_copy (λ h. Holds p h → ⊥) t (m.not_copied p d);
        no_white_space_end = m.no_white_space_end;
      }

  -- a masked place holds a newline in neither text, so newlines stand at the same places
  pub masked-lines : (t : Tree) → Masked a b t → SameLines a b
  masked-lines t m p = grind (arith, nat_tests, m.no_newline p)

  -- newlines at the same places of both texts stand at the same origins
  pub lines-agree : SameLines a b → (o : Origin) → LinesAgree a b o
  lines-agree w made = tt
  lines-agree w (from p) = w p
