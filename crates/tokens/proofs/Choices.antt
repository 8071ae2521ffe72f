-- What the routines' definitions come to in each arm, and spacing that may be none.
use Prim.Native.Nat.{ℕ}
use mathlib.Core.Path.{◌≡◌, refl, sym, ap, ◌∙◌}
use mathlib.Core.Bool.{Bool, true, false, cond, false≢true}
use mathlib.Core.List.{List, [], ◌∷◌, ◌++◌, map}
use lib.Dec.{eqb}
use native.Mathlib.Omega.{arith}
use mathlib.Core.Logic.{◌⊎◌}
use Rattle.std.proofs.lemmas.Bool.Decides.{nat_tests}
use borrow.Author.Tests.{ne_eqb}
use Rattle.context.specs.declared.FormatterContext.{FormatterContext}
use Rattle.context.proofs.Writes.{spent-none}
use Rattle.context.specs.Cells.{Text}
use Rattle.tape.specs.declared.Head.{Head}
use Rattle.tape.specs.Kinds.{Whitespace, Comment, BareWord}
use Rattle.layout.specs.declared.Local.{Local}
use Rattle.layout.specs.Arms.{Spacing, space, Act, spacing, write_text, Seen}
use Rattle.layout.specs.Tokens.{emit_other, emit_token, is_operator}
use Rattle.layout.specs.Routines.{flagged, space_if, spaced, or_else, binary_token}
use Rattle.tokens.specs.declared.Arm.{Arm}
use Rattle.tokens.specs.declared.settings.Settings.{Settings}
use Rattle.tokens.specs.declared.token.Token.{Token}
use Rattle.tokens.specs.TokenPromises.{SpacedUnwritten, Spaced, ActedOn, ArmDone, IsTokenAt, TokenDone, seen_as, emit_trivia, emit_uncommented, is_trivia}
use Rattle.tokens.proofs.Runs.{acted, acted_at, seen_at}

-- ── spacing that writes no byte

module _ {n : ℕ} {c r : FormatterContext} where
  pub as_spaced : {x : List Spacing} {xs : List ℕ} → SpacedUnwritten n x c r → Spaced n x c xs r xs
  as_spaced {xs = xs} d = record { did = d.did xs; spent = d.spent }

  -- the spacing is another name for the same
  pub unwritten_as : {x : List Spacing} (y : List Spacing) → y ≡ x → SpacedUnwritten n x c r → SpacedUnwritten n y c r
  unwritten_as y e d = rw e d

pub no_unwritten : {c : FormatterContext} → SpacedUnwritten 0 [] c c
no_unwritten = record { did = λ xs. refl; spent = spent-none }

-- what goes before and after a child node, where a test says which of two it is
module _ (l m : Local) (x y z w : List Spacing) where
  pub before_either : (t : Bool) → (cond {A = Local × List Spacing × List Spacing} t (l, x, y) (m, z, w)).1 ≡ cond t x z
  before_either t = grind arith

  pub after_either : (t : Bool) → (cond {A = Local × List Spacing × List Spacing} t (l, x, y) (m, z, w)).2 ≡ cond t y w
  after_either t = grind arith

-- ── arms

-- a space before acts, where it is wanted
pub spaced-as : (wanted r : Bool) (acts : List Act) → r ≡ wanted → spaced wanted acts ≡ map spacing (space_if r) ++ acts
spaced-as wanted r acts e = grind arith

module _ (l : Local) (t : Seen) where
  -- a last arm that leaves the local variables as they are
  pub or_else-acts : (or_else l t (l, emit_token t)).1 ≡ emit_other t
  unfolding emit_other
  or_else-acts = grind arith

  pub or_else-local : (x : List Act) → l ≡ (or_else l t (l, x)).0
  or_else-local x = grind arith

pub trivia_is : (kind : ℕ) → is_trivia kind ≡ true → (kind ≡ Whitespace) ⊎ (kind ≡ Comment)
trivia_is kind e = grind (arith, nat_tests)

pub trivia_not : (kind : ℕ) → is_trivia kind ≡ false → (eqb kind Whitespace ≡ false) × (eqb kind Comment ≡ false)
trivia_not kind e = grind arith

-- white space or a comment, and any other token
module _ (kind : ℕ) (text : List ℕ) where
  or_else-trivia : (l : Local) (x : Local × List Act) → is_trivia kind ≡ true → or_else l (seen_as kind text) x ≡ (l, emit_trivia (eqb kind Whitespace) text)
  or_else-trivia l x e = grind arith

  or_else-other : (l : Local) (x : Local × List Act) → is_trivia kind ≡ false → or_else l (seen_as kind text) x ≡ x
  or_else-other l x e = grind arith

  pub other_trivia : is_trivia kind ≡ true → emit_other (seen_as kind text) ≡ emit_trivia (eqb kind Whitespace) text
  other_trivia e = sym (or_else-acts (flagged false) (seen_as kind text)) ∙ ap (λ (x : Local × List Act). x.1) (or_else-trivia (flagged false) _ e)

  pub other_token : is_trivia kind ≡ false → emit_other (seen_as kind text) ≡ emit_token (seen_as kind text)
  other_token e = sym (or_else-acts (flagged false) (seen_as kind text)) ∙ ap (λ (x : Local × List Act). x.1) (or_else-other (flagged false) _ e)

  -- a routine without a comment arm writes a comment as a token, and does all else alike
  pub uncommented_comment : kind ≡ Comment → emit_uncommented (seen_as kind text) ≡ emit_token (seen_as kind text)
  unfolding emit_uncommented
  uncommented_comment e = rw e

  pub uncommented_other : eqb kind Comment ≡ false → emit_uncommented (seen_as kind text) ≡ emit_other (seen_as kind text)
  unfolding emit_uncommented emit_other
  uncommented_other e = rw e

-- the same in a routine with local variables
module _ {settings : Settings} {token : Token} {l : Local} {c : FormatterContext} {xs ys : List ℕ} where
  pub trivia_done : {r : FormatterContext} (other : Local → Seen → Local × List Act) → is_trivia token.kind ≡ true
      → ActedOn 3 settings.config token.text.now (emit_trivia (eqb token.kind Whitespace) token.text.now) c xs r ys
      → ArmDone settings token (λ k t. or_else k t (other k t)) l c xs (record { context = r; local = l }) ys
  trivia_done other e d =
      let w = or_else-trivia token.kind token.text.now l (other l (seen_as token.kind token.text.now)) e in
      record { acted = acted 4 _ (omega arith) (ap (λ (x : Local × List Act). x.1) w) d; local = sym (ap (λ (x : Local × List Act). x.0) w) }

  pub other_done : {a : Arm} (other : Local → Seen → Local × List Act) → is_trivia token.kind ≡ false → ArmDone settings token other l c xs a ys
      → ArmDone settings token (λ k t. or_else k t (other k t)) l c xs a ys
  other_done other e d =
      let w = or_else-other token.kind token.text.now l (other l (seen_as token.kind token.text.now)) e in
      record { acted = acted 4 _ (omega arith) (ap (λ (x : Local × List Act). x.1) w) d.acted; local = d.local ∙ sym (ap (λ (x : Local × List Act). x.0) w) }

  -- the same at the head that the token is made of
  pub done_at : {source : Text} {head : Head} {a : Arm} (at_token : Local → Seen → Local × List Act) → IsTokenAt source head token → ArmDone settings token at_token l c xs a ys
      → TokenDone settings.config source at_token l head c xs a ys
  done_at at_token is d =
      record { acted = acted_at is settings (λ t. (at_token l t).1) d.acted; local = d.local ∙ ap (λ (t : Seen). (at_token l t).0) (seen_at is) }

  -- a routine that does the same at the token as another
  pub arm_as : {a : Arm} {other : Local → Seen → Local × List Act} (at_token : Local → Seen → Local × List Act)
      → at_token l (seen_as token.kind token.text.now) ≡ other l (seen_as token.kind token.text.now) → ArmDone settings token other l c xs a ys → ArmDone settings token at_token l c xs a ys
  arm_as at_token e d =
      record { acted = acted 4 _ (omega arith) (ap (λ (x : Local × List Act). x.1) e) d.acted; local = d.local ∙ sym (ap (λ (x : Local × List Act). x.0) e) }

no_operators : (is_operator Whitespace ≡ false) × (is_operator Comment ≡ false) × (is_operator BareWord ≡ false)
unfolding is_operator
no_operators = (refl, refl, refl)

-- an operator is neither white space, nor a comment, nor a bare word
pub operator_acts : (kind : ℕ) (text : List ℕ) → is_operator kind ≡ true → binary_token (seen_as kind text) ≡ spacing space ∷ write_text ∷ spacing space ∷ []
unfolding binary_token
operator_acts kind text e =
    let no : (x : ℕ) → is_operator x ≡ false → eqb kind x ≡ false = λ x f. ne_eqb kind x (λ q. false≢true (sym f ∙ ap is_operator (sym q) ∙ e)) in
    rw (no Whitespace no_operators.0, no Comment no_operators.1, no BareWord no_operators.2, e)
