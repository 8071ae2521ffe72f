-- What the functions of this crate ask and promise.
use Rattle.std.specs.Prelude.{ℕ, ◌+◌, ◌≡◌, Bool, false, cond, not, ◌&&◌, ◌||◌, List, [], ◌∷◌, map, replicate, eqb}
use Rattle.basics.specs.Match.{match}
use Rattle.utf8.specs.Trimming.{trimmed_length}
use Rattle.context.specs.Cells.{Text, to_case, token_text}
use Rattle.context.specs.Splice.{splice}
use Rattle.context.specs.Store.{Store, Spent}
use Rattle.context.specs.declared.FormatConfig.{FormatConfig}
use Rattle.context.specs.declared.FormatterContext.{FormatterContext}
use Rattle.keywords.specs.Words.{is_keyword, is_value_keyword}
use Rattle.tape.specs.Kinds
use Rattle.tape.specs.declared.Head.{Head}
use Rattle.layout.specs.declared.Local.{Local}
use Rattle.layout.specs.Arms.{Spacing, Act, write_text, write_keyword, Seen, is_read, seen}
use Rattle.layout.specs.Tokens.{note_skipped_whitespace, emit_comment, emit_token}
use Rattle.layout.specs.Calls.{Call, act_at}
use Rattle.layout.specs.Routines.{or_else, spaced}
use Rattle.layout.specs.Run.{run_spacing, run}
use Rattle.tokens.specs.declared.Arm.{Arm}
use Rattle.tokens.specs.declared.token.Token.{Token}
use Rattle.tokens.specs.declared.settings.Settings.{Settings}
use Rattle.tokens.specs.declared.Casing.{Casing}
use Rattle.tokens.specs.declared.Casing.TheVariants.{AsTyped, Listed}

-- r and ys are what the calls make of c and xs; they are at most n writes or indents
pub record Ran (n : ℕ) (config : FormatConfig) (source : Text) (calls : List Call) (c : FormatterContext) (xs : List ℕ) (r : FormatterContext) (ys : List ℕ) : Type 0 where
  pub did : ◌≡◌ {A = Store} (r, ys) (run config source calls (c, xs))
  pub spent : Spent n c r

-- the same of spacing alone
pub record Spaced (n : ℕ) (spacing : List Spacing) (c : FormatterContext) (xs : List ℕ) (r : FormatterContext) (ys : List ℕ) : Type 0 where
  pub did : ◌≡◌ {A = Store} (r, ys) (run_spacing spacing (c, xs))
  pub spent : Spent n c r

-- the same where no byte is written
pub record SpacedUnwritten (n : ℕ) (spacing : List Spacing) (c r : FormatterContext) : Type 0 where
  pub did : (xs : List ℕ) → ◌≡◌ {A = Store} (r, xs) (run_spacing spacing (c, xs))
  pub spent : Spent n c r

-- the text is written in upper or lower case: none is, a word on the list that is no value
abbrev pub in_case : Casing → List ℕ → Bool
in_case AsTyped b = false
in_case Listed b = is_keyword b && not (is_value_keyword b)

-- emit_token asks the list for bare words
abbrev pub casing_of : ℕ → Casing
casing_of k = cond (eqb k Kinds.BareWord) Listed AsTyped

-- so many blanks and the text, or the text in another case, were written at a place: j is left of it once its trailing white space is dropped
pub record PutText (at blanks : ℕ) (text : List ℕ) (cased uppercase : Bool) (xs : List ℕ) (j : ℕ) (ys : List ℕ) : Type 0 where
  pub left : j ≡ trimmed_length text
  pub written : ys ≡ splice (at + blanks) (cond cased (map (to_case uppercase) text) text) (splice at (replicate blanks 32) xs)

-- the acts were done at the token
pub record Acted (n : ℕ) (config : FormatConfig) (source : Text) (token : Head) (acts : List Act) (c : FormatterContext) (xs : List ℕ) (r : FormatterContext) (ys : List ℕ) : Type 0 where
  pub did : ◌≡◌ {A = Store} (r, ys) (run config source (map (act_at token) acts) (c, xs))
  pub spent : Spent n c r

-- what a routine does at the token was done, and its local variables were set
pub record TokenDone (config : FormatConfig) (source : Text) (at_token : Local → Seen → Local × List Act) (l : Local) (token : Head) (c : FormatterContext) (xs : List ℕ) (a : Arm) (ys : List ℕ) : Type 0 where
  pub acted : Acted 4 config source token (at_token l (seen source token)).1 c xs a.context ys
  pub local : a.local ≡ (at_token l (seen source token)).0

-- the acts were done at whatever token has the text
pub record ActedOn (n : ℕ) (config : FormatConfig) (text : List ℕ) (acts : List Act) (c : FormatterContext) (xs : List ℕ) (r : FormatterContext) (ys : List ℕ) : Type 0 where
  pub did : (source : Text) (token : Head) → text ≡ token_text source token.start token.end → ◌≡◌ {A = Store} (r, ys) (run config source (map (act_at token) acts) (c, xs))
  pub spent : Spent n c r

-- the token is that of the head
pub record IsTokenAt (source : Text) (head : Head) (token : Token) : Type 0 where
  pub kind : token.kind ≡ head.kind
  pub text : token.text.now ≡ token_text source head.start head.end

-- what a routine sees of a token with the kind and the text
abbrev pub seen_as : ℕ → List ℕ → Seen
seen_as kind text = record { kind = kind; bytes = cond (is_read kind) text [] }

-- what a routine does at the token was done
abbrev pub ArmActed : ℕ → Settings → Token → (Seen → List Act) → FormatterContext → List ℕ → FormatterContext → List ℕ → Type 0
ArmActed n settings token at_token = ActedOn n settings.config token.text.now (at_token (seen_as token.kind token.text.now))

-- the same, and its local variables were set
pub record ArmDone (settings : Settings) (token : Token) (at_token : Local → Seen → Local × List Act) (l : Local) (c : FormatterContext) (xs : List ℕ) (a : Arm) (ys : List ℕ) : Type 0 where
  pub acted : ArmActed 4 settings token (λ t. (at_token l t).1) c xs a.context ys
  pub local : a.local ≡ (at_token l (seen_as token.kind token.text.now)).0

-- write_keyword or write_token of the text
abbrev pub write_by : Bool → List Act
write_by cased = cond cased (write_keyword ∷ []) (write_text ∷ [])

-- the arms of a routine without a comment arm, but for its own
unfoldable pub emit_uncommented : Seen → List Act
emit_uncommented t = match t.kind ((Kinds.Whitespace, note_skipped_whitespace t.bytes) ∷ []) (emit_token t)

-- white space or a comment
abbrev pub is_trivia : ℕ → Bool
is_trivia k = eqb k Kinds.Whitespace || eqb k Kinds.Comment

-- white space, or a comment
abbrev pub emit_trivia : Bool → List ℕ → List Act
emit_trivia white b = cond white (note_skipped_whitespace b) (emit_comment b)

-- a token after a space, where it is wanted; `left` is what it leaves in the local variables
abbrev pub spaced_token : Bool → Local → Local → Seen → Local × List Act
spaced_token wanted left l t = or_else l t (left, spaced wanted (emit_token t))
