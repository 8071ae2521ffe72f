-- Demand 3 as document 00 words it is a corollary: an ASCII byte is a character of its own.
use Prim.Native.Nat.{ℕ, suc, ◌-◌, ◌≤◌, ◌<◌}
use native.Mathlib.Omega.{arith}
use mathlib.Core.Path.{◌≡◌, sym, subst}
use mathlib.Core.Bool.{true}
use mathlib.Core.List.{List, [], ◌∷◌, map}
use lib.ListN.{length, get_or}
use lib.Dec.{T}
use Rattle.utf8.specs.Table.{is_ascii}
use Rattle.utf8.specs.WhiteSpace.{is_white_space}
use Rattle.utf8.specs.Trimming.{is_white_byte}
use Rattle.utf8.proofs.CharacterLength.{ascii-part}
use Rattle.utf8.proofs.Trimming.{single, pieces-ascii}
use Rattle.utf8.proofs.WhiteSpaceBytes.{white_is}
use Rattle.context.specs.Cells.{Text, token_text}
use Rattle.context.specs.Context.{last_byte}
use Rattle.context.proofs.Bytes.{token-last, token-length}
use Rattle.tape.specs.declared.Head.{Head}
use Rattle.tape.specs.Tree.{Children, Tree, EachToken}
use Rattle.tape.proofs.Trees.{each-token}
use Rattle.tape.proofs.AsciiTexts.{ascii-passes}
use Rattle.layout.specs.Masking.{quoted, Holds, characters_of, first_length, last_length, last_is_white, StrictlyInside, Differ, EndsInWhiteSpace, Masked, MaskedPair, InsidePlaces, EndsInWhiteByte, MaskedAscii, AsciiPair}
use Rattle.layout.proofs.MaskedLayouts.{TokenSpans, stable, both_tokens, at_places}
use Rattle.layout.proofs.TwoCalls.{read-spans}

-- ── characters of ASCII

first_short : (xs : List ℕ) → first_length (map single xs) ≤ 1
first_short [] = omega arith
first_short (x ∷ xs) = omega arith

last_short : (xs : List ℕ) → last_length (map single xs) ≤ 1
last_short (x ∷ y ∷ xs) = last_short (y ∷ xs)
last_short _ = omega arith

last_white : (xs : List ℕ) → T (last_is_white (map single xs)) → (0 < length xs) × T (is_white_byte (last_byte xs))
unfolding is_white_space
last_white [] u = absurd u
last_white (x ∷ []) u = (omega arith, subst T (white_is (x ∷ [])) u)
last_white (x ∷ y ∷ xs) u =
    let k = last_white (y ∷ xs) u in
    let e : suc (suc (length xs)) - 1 ≡ suc (suc (length xs) - 1) = omega arith in
    (omega arith, rw e k.1)

module _ (t : Text) (ascii : is_ascii t ≡ true) (h : Head) where
  of_ascii : characters_of t h ≡ map single (token_text t h.start h.end)
  of_ascii = pieces-ascii (token_text t h.start h.end) (ascii-part t ascii h.start h.end)

  inside-characters : (p : ℕ) → InsidePlaces p h → StrictlyInside t p h
  inside-characters p i =
      rw of_ascii (omega (arith, first_short (token_text t h.start h.end), i.0), omega (arith, last_short (token_text t h.start h.end), i.1))

  ends-white : h.start ≤ h.end → h.end ≤ length t → EndsInWhiteSpace t h → EndsInWhiteByte t h
  ends-white le fits e =
      let k = last_white (token_text t h.start h.end) (subst (λ cs. T (last_is_white cs)) of_ascii e) in
      let n = token-length t h.start h.end le fits in
      let some : h.start < h.end = omega (arith, k.0) in
      (some, subst (λ (b : ℕ). T (is_white_byte b)) (token-last t h.start h.end some fits) k.1)

-- ── the rule

module _ (a b : Text) (same_length : length a ≡ length b) (ascii_a : is_ascii a ≡ true) (ascii_b : is_ascii b ≡ true) where
  -- a token that holds a masked place: its last place is not masked
  solid_token : (h : Head) → h.start ≤ h.end → h.end ≤ length a → ((p : ℕ) → Differ a b p → Holds p h → InsidePlaces p h)
      → (T (quoted h) → EndsInWhiteByte a h → ⊥) → T (quoted h) → (EndsInWhiteSpace a h → ⊥) × (EndsInWhiteSpace b h → ⊥)
  solid_token h le fits f w q = (
    λ e. w q (ends-white a ascii_a h le fits e),
    λ e.
        let k = ends-white b ascii_b h le (omega arith) e in
        let same : get_or a (h.end - 1) 0 ≡ get_or b (h.end - 1) 0 = stable _ _ (λ d. let v = f (h.end - 1) d (omega (arith, k.0), omega (arith, k.0)) in omega (arith, v.1)) in
        w q (k.0, subst (λ (n : ℕ). T (is_white_byte n)) (sym same) k.1),
  )

  solid_tokens : (c : Children) → TokenSpans (length a) c → ((p : ℕ) → Differ a b p → EachToken (λ h. Holds p h → InsidePlaces p h) c)
      → EachToken (λ h. T (quoted h) → EndsInWhiteByte a h → ⊥) c → (p : ℕ) → EachToken (λ h. Holds p h → T (quoted h)) c
      → EachToken (λ h. Holds p h → (EndsInWhiteSpace a h → ⊥) × (EndsInWhiteSpace b h → ⊥)) c
  solid_tokens c s f w p q =
      each-token (λ h k. λ i. solid_token h k.0.0.1 k.0.0.2 k.0.1 k.1.0 (k.1.1 i)) c
      (both_tokens _ _ c (both_tokens _ _ c s (at_places _ (Differ a b) c f)) (both_tokens _ _ c w q))

  in_characters : (t : Tree) → TokenSpans (length a) t.kids → MaskedAscii a b t → Masked a b t
  in_characters t s m =
      record {
        no_newline = m.no_newline;
        in_some_token = m.in_some_token;
        strictly_inside = λ p d. each-token (λ h f. λ i. (inside-characters a ascii_a h p (f i), inside-characters b ascii_b h p (f i))) t.kids (m.strictly_inside p d);
        in_quotes = m.in_quotes;
        not_copied = m.not_copied;
        no_white_space_end = λ p d. solid_tokens t.kids s m.strictly_inside m.no_white_space_end p (m.in_quotes p d);
      }

module _ (width case : ℕ) (a b : Text) (tape : List ℕ) where
  pub ascii-pair : AsciiPair width case a b tape → MaskedPair width case a b tape
  ascii-pair m =
      record {
        same_length = m.same_length;
        pass_a = ascii-passes a m.ascii_a width case tape;
        pass_b = ascii-passes b m.ascii_b width case tape;
        rule = λ t p e. in_characters a b m.same_length m.ascii_a m.ascii_b t (read-spans width case a tape t p e).0 (m.rule t p e);
      }
