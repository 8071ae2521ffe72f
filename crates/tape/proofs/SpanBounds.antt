-- 15 by the two bytes that are looked at, and where neither 15 nor 16 has to be looked for; what 10, 15 and 16 leave of a token's and of a node's span in a
-- well-formed text, and of its bytes.
use Prim.Native.Nat.{ℕ, ◌-◌, ◌≤◌, ◌<◌}
use native.Mathlib.Nat.{le_trans}
use native.Mathlib.Omega.{arith}
use mathlib.Core.Path.{◌≡◌, refl, sym, ap, ap₂, ◌∙◌}
use mathlib.Core.Bool.{Bool, true, false, false≢true, cond, not, ◌&&◌, ◌||◌, and-false}
use mathlib.Core.List.{List, []}
use lib.ListN.{length, take, drop, get_or}
use lib.Dec.{leb, ltb, eqb}
use borrow.Author.Tests.{ltb-false, le-ltb, le-leb, leb-true, leb-false, eq-eqb, not-false}
use Rattle.std.proofs.lemmas.Bool.{or_parts}
use Rattle.basics.specs.Bytes.{token_text}
use Rattle.utf8.specs.Table.{is_ascii, holds}
use Rattle.utf8.specs.Pieces.{pieces, WellFormed, inside, is_trailing, Boundary, Starts}
use Rattle.utf8.proofs.Bounds.{inside-trailing, span-starts}
use Rattle.utf8.proofs.AsciiStart.{start-boundary, start-part}
use Rattle.tape.specs.declared.Head.{Head}
use Rattle.tape.specs.declared.Fault.TheVariants.{UnknownKind, KindNotCarried, SpanOutside, TooDeep, InsideCharacter, WordNotAscii}
use Rattle.std.specs.Prelude.{Err, is_ok}
use Rattle.tape.specs.Kinds.{BareWord, not_carried}
use Rattle.tape.specs.Tape.{tests_of, length_alone, check_open, check_token, KnownText, no_fault}
use Rattle.tape.specs.SpelledAt.{TokenInText, NodeInText}
use Rattle.tape.proofs.KnownCommands.{NodePasses, TokenPasses}

not_or : (s t : Bool) → (not s && not t) ≡ not (s || t)
not_or true t = refl
not_or false t = refl

module _ (text : List ℕ) (well : WellFormed text) where
  pub at_bounds : (h : Head) → (not (is_trailing (get_or text h.start 0)) && not (is_trailing (get_or text h.end 0))) ≡ not ((tests_of text).inside_character h)
  at_bounds h =
      not_or (is_trailing (get_or text h.start 0)) (is_trailing (get_or text h.end 0))
      ∙ ap not (ap₂ (λ s t. s || t) (sym (inside-trailing text well h.start)) (sym (inside-trailing text well h.end)))

  bounds : (h : Head) → (tests_of text).inside_character h ≡ false → Boundary text h.start × Boundary text h.end
  bounds h e =
      let b = or_parts (inside h.start (pieces text)) (inside h.end (pieces text)) e in
      (sym (inside-trailing text well h.start) ∙ b.0, sym (inside-trailing text well h.end) ∙ b.1)

  pub token-in_text : (h : Head) → TokenPasses (tests_of text) h → TokenInText text h
  token-in_text h w =
      let b = bounds h w.at_bounds in
      record {
        ordered = w.ordered;
        within = w.within;
        start = b.0;
        end = b.1;
        word = λ e. not-false (is_ascii (token_text text h.start h.end)) (sym (ap (λ t. t && (tests_of text).not_ascii h) (eq-eqb h.kind BareWord e)) ∙ w.word);
      }

  pub node-in_text : (h : Head) → NodePasses (tests_of text) h → NodeInText text h
  node-in_text h w = record { within = w.within; start = λ le. (bounds h (passes le)).0; end = λ le. (bounds h (passes le)).1 }
    where
      passes : h.start ≤ h.end → (tests_of text).inside_character h ≡ false
      passes le = sym (ap (λ t. t && (tests_of text).inside_character h) (le-leb h.start h.end le)) ∙ w.at_bounds

-- ── where a span ends among the ASCII bytes at the text's start, neither 15 nor 16 is found

module _ {text : List ℕ} {n : ℕ} (known : KnownText text n) where
  start-inside : (h : Head) → h.start ≤ n → h.end ≤ n → (tests_of text).inside_character h ≡ false
  start-inside h u v = ap₂ (λ s t. s || t) (outside h.start u) (outside h.end v)
    where
      outside : (p : ℕ) → p ≤ n → inside p (pieces text) ≡ false
      outside p l = inside-trailing text known.well_formed p ∙ start-boundary text n known.start.within known.start.ascii known.well_formed p l

  pub start-token : (h : Head) → is_ok (check_token (length_alone n) h) ≡ true → no_fault ≡ check_token (tests_of text) h
  unfolding check_token
  start-token h e = go (ltb 257 h.kind) (ltb h.end h.start) (ltb n h.end) refl refl refl e
    where
      go : (k o s : Bool) → ltb 257 h.kind ≡ k → ltb h.end h.start ≡ o → ltb n h.end ≡ s
          → is_ok (cond k (Err UnknownKind) (cond (o || s) (Err SpanOutside) (cond (eqb h.kind BareWord && false) (Err WordNotAscii) no_fault))) ≡ true
          → no_fault ≡ cond k (Err UnknownKind) (cond (o || ltb (length text) h.end) (Err SpanOutside)
          (cond ((tests_of text).inside_character h) (Err InsideCharacter) (cond (eqb h.kind BareWord && (tests_of text).not_ascii h) (Err WordNotAscii) no_fault)))
      go true o s u v w x = absurd (false≢true x)
      go false true s u v w x = absurd (false≢true x)
      go false false true u v w x = absurd (false≢true x)
      go false false false u v w x =
          let o = ltb-false h.end h.start v in
          let l = ltb-false n h.end w in
          rw (
            le-ltb (length text) h.end (le_trans l known.start.within),
            start-inside h (le_trans o l) l,
            start-part text n known.start.within known.start.ascii h.start h.end o l,
            and-false (eqb h.kind BareWord),
          )

  pub start-open : (depth : ℕ) (h : Head) → is_ok (check_open (length_alone n) depth h) ≡ true → no_fault ≡ check_open (tests_of text) depth h
  unfolding check_open
  start-open depth h e = go (ltb 257 h.kind) (not_carried h.kind) (leb h.start h.end) (ltb n h.end) (leb 64 depth) refl refl e
    where
      go : (k m o s d : Bool) → leb h.start h.end ≡ o → ltb n h.end ≡ s
          → is_ok (cond k (Err UnknownKind) (cond m (Err KindNotCarried) (cond (o && s) (Err SpanOutside) (cond (o && false) (Err InsideCharacter) (cond d (Err TooDeep) no_fault))))) ≡ true
          → no_fault ≡ cond k (Err UnknownKind) (cond m (Err KindNotCarried) (cond (o && ltb (length text) h.end) (Err SpanOutside)
          (cond (o && (tests_of text).inside_character h) (Err InsideCharacter) (cond d (Err TooDeep) no_fault))))
      go true m o s d v w x = absurd (false≢true x)
      go false true o s d v w x = absurd (false≢true x)
      go false false true true d v w x = absurd (false≢true x)
      go false false true false true v w x = absurd (false≢true x)
      go false false true false false v w x =
          let o = leb-true h.start h.end v in
          let l = ltb-false n h.end w in
          rw (le-ltb (length text) h.end (le_trans l known.start.within), start-inside h (le_trans o l) l)
      go false false false s true v w x = absurd (false≢true x)
      go false false false s false v w x = refl

-- ── the bytes of a span: they begin with a character, whatever is written before them, and are well-formed; those of a BareWord are ASCII

-- those of a node with its start above its end are none
no_span : (text : List ℕ) (start end : ℕ) → end < start → token_text text start end ≡ []
unfolding token_text
no_span text start end l = let z : end - start ≡ 0 = omega arith in ap (λ n. take n (drop start text)) z

module _ {text : List ℕ} {h : Head} where
  pub token-starts : TokenInText text h → Starts (token_text text h.start h.end)
  token-starts t = span-starts text h.start h.end t.start

  pub node-starts : NodeInText text h → Starts (token_text text h.start h.end)
  unfolding is_trailing holds
  node-starts n = go (leb h.start h.end) refl
    where
      go : (t : Bool) → leb h.start h.end ≡ t → Starts (token_text text h.start h.end)
      go true e = span-starts text h.start h.end (n.start (leb-true h.start h.end e))
      go false e = rw (no_span text h.start h.end (leb-false h.start h.end e))
