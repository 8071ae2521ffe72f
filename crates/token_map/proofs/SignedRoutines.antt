-- Each routine writes each token once, as its signs say: a computed test at each kind that has an arm of its own, and one for all others.
use Prim.Native.Nat.{ℕ}
use mathlib.Core.Path.{◌≡◌, refl, sym, subst}
use mathlib.Core.Bool.{Bool, true, false, cond, not, ◌&&◌}
use mathlib.Core.List.{List, [], ◌∷◌}
use lib.Dec.{eqb}
use borrow.Author.Tests.{eqb-true}
use Rattle.keywords.specs.Words.{is_word}
use Rattle.tape.specs.Kinds
use Rattle.layout.specs.declared.Local.{Local}
use Rattle.layout.specs.Arms.{newline, space, indent, dedent, line_or_space, Act, spacing, write_text, write_keyword, Arms}
use Rattle.layout.specs.Tokens.{no_space_before, is_line_comment, emit_comment, is_cased, emit_token, emit_other, is_operator}
use Rattle.layout.specs.Routines.{keyword_space, spaced, file_token, format_file, query_list_token, format_query_list, select_statement_token, format_select_statement, select_clause_token, format_select_clause, simple_clause_token, format_simple_clause, list_clause_token, list_clause_arms, join_clause_token, format_join_clause, format_settings_clause, format_with_clause, comma_list_token, format_comma_list, inline_comma_list_token, format_inline_comma_list, binary_token, format_binary_expression, unary_token, format_unary_expression, function_call_token, format_function_call, case_word, case_token, format_case_expression, when_word, when_token, format_when_clause, subquery_token, format_subquery, paren_list_token, format_paren_list, bracket_list_token, format_bracket_list, brace_list_token, format_brace_list, data_type_token, format_data_type, space_after, name_before, inline_tight_parens_token, format_inline_tight_parens, inline_token, format_inline, format_inline_no_spaces, passthrough_token, format_passthrough, alter_command_list_token, format_alter_command_list, union_token, format_union_clause}
use Rattle.token_map.specs.declared.Signs.{Signs}
use Rattle.token_map.specs.declared.Signs.TheVariants as signs
use Rattle.token_map.specs.declared.Written.TheVariants as written
use Rattle.token_map.specs.Signs.{written_as}
use Rattle.token_map.specs.Signed.{fits, is_line, Signed}

-- ── kind by kind

abbrev Fit : Signs → Arms → Local → List ℕ → ℕ → Type 0
Fit s r l b k = fits (written_as s k) (is_line (record { kind = k; bytes = b })) (r.at_token l (record { kind = k; bytes = b })).1 ≡ true

abbrev Each : (ℕ → Type 0) → List ℕ → Type 0
Each P [] = Unit {0}
Each P (k ∷ ks) = P k × Each P ks

abbrev Differs : ℕ → List ℕ → Type 0
Differs k [] = Unit {0}
Differs k (x ∷ xs) = (eqb k x ≡ false) × Differs k xs

by_kind : (P : ℕ → Type 0) (ks : List ℕ) (k : ℕ) → Each P ks → (Differs k ks → P k) → P k
by_kind P [] k e f = f tt
by_kind P (x ∷ ks) k e f = go (eqb k x) refl (by_kind P ks k e.1)
  where
    go : (t : Bool) → eqb k x ≡ t → ((Differs k ks → P k) → P k) → P k
    go true w rest = subst P (sym (eqb-true k x w)) e.0
    go false w rest = rest (λ d. f (w, d))

signed : (s : Signs) (r : Arms) (ks : List ℕ) → ((l : Local) (b : List ℕ) → Each (Fit s r l b) ks) → ((l : Local) (b : List ℕ) (k : ℕ) → Differs k ks → Fit s r l b k)
    → Signed s r
signed s r ks e f = record { each = λ l t. by_kind (Fit s r l t.bytes) ks t.kind (e l t.bytes) (f l t.bytes t.kind) }

-- ── acts that several routines have

comment_fit : (b : List ℕ) → fits written.Text (is_line_comment b) (emit_comment b) ≡ true
unfolding emit_comment
comment_fit b = go (is_line_comment b)
  where
    go : (x : Bool) → fits written.Text x (spacing line_or_space ∷ write_text ∷ cond x (spacing newline ∷ []) []) ≡ true
    go true = refl
    go false = refl

abbrev cased : ℕ → List ℕ → Bool
cased k b = is_cased (record { kind = k; bytes = b })

abbrev emitted : ℕ → List ℕ → List Act
emitted k b = cond (cased k b) (write_keyword ∷ []) (write_text ∷ [])

either_fit : (line c : Bool) (x y : List Act) → fits written.Text line x ≡ true → fits written.Text line y ≡ true → fits written.Text line (cond c x y) ≡ true
either_fit line true x y h k = h
either_fit line false x y h k = k

emit_fit : (line c : Bool) → fits written.Text line (cond c (write_keyword ∷ []) (write_text ∷ [])) ≡ true
emit_fit line c = either_fit line c (write_keyword ∷ []) (write_text ∷ []) refl refl

spaced-fit : (line c : Bool) (acts : List Act) → fits written.Text line acts ≡ true → fits written.Text line (spaced c acts) ≡ true
spaced-fit line c acts h = either_fit line c (spacing space ∷ acts) acts h h

case-fit : (b : List ℕ) → fits written.Text false (case_word b) ≡ true
unfolding case_word
case-fit b =
    either_fit false (is_word "CASE" b) (write_keyword ∷ spacing indent ∷ []) _ refl
    (either_fit false (is_word "ELSE" b) (spacing newline ∷ keyword_space) _ refl
    (either_fit false (is_word "END" b) (spacing dedent ∷ spacing newline ∷ write_keyword ∷ []) (spacing space ∷ write_keyword ∷ []) refl refl))

when_fit : (b : List ℕ) → fits written.Text false (when_word b) ≡ true
unfolding when_word
when_fit b =
    either_fit false (is_word "WHEN" b) keyword_space _ refl
    (either_fit false (is_word "THEN" b) (spacing space ∷ keyword_space) keyword_space refl refl)

-- ── the routines

pub file-signed : Signed signs.Semicolon format_file
unfolding written_as format_file file_token emit_token
file-signed =
    signed _ _ (Kinds.Whitespace ∷ Kinds.Comment ∷ Kinds.Semicolon ∷ [])
    (λ l b. (refl, (comment_fit b, (refl, tt))))
    (λ l b k d. simp (d.0, d.1.0, d.1.1.0) (emit_fit false (cased k b)))

pub queries_signed : Signed signs.Semicolon format_query_list
unfolding written_as format_query_list query_list_token emit_token
queries_signed =
    signed _ _ (Kinds.Whitespace ∷ Kinds.Comment ∷ Kinds.Semicolon ∷ [])
    (λ l b. (refl, (comment_fit b, (refl, tt))))
    (λ l b k d. simp (d.0, d.1.0, d.1.1.0) (emit_fit false (cased k b)))

pub sel_stmt_signed : Signed signs.NoSemicolon format_select_statement
unfolding written_as format_select_statement select_statement_token emit_token
sel_stmt_signed =
    signed _ _ (Kinds.Whitespace ∷ Kinds.Comment ∷ Kinds.Semicolon ∷ [])
    (λ l b. (refl, (comment_fit b, (refl, tt))))
    (λ l b k d. simp (d.0, d.1.0, d.1.1.0) (emit_fit false (cased k b)))

pub select_signed : Signed signs.Nothing format_select_clause
unfolding written_as format_select_clause select_clause_token emit_token
select_signed =
    signed _ _ (Kinds.Whitespace ∷ Kinds.Comment ∷ Kinds.BareWord ∷ [])
    (λ l b. (refl, (comment_fit b, (refl, tt))))
    (λ l b k d. simp (d.0, d.1.0, d.1.1.0))

pub simple_signed : Signed signs.Nothing format_simple_clause
unfolding written_as format_simple_clause simple_clause_token emit_token
simple_signed =
    signed _ _ (Kinds.Whitespace ∷ Kinds.Comment ∷ [])
    (λ l b. (refl, (comment_fit b, tt)))
    (λ l b k d. simp (d.0, d.1.0) (spaced-fit false (l.flag && not (no_space_before k)) (emitted k b) (emit_fit false (cased k b))))

pub list-by_signed : (list : ℕ) (multi : Bool) → Signed signs.Comma (list_clause_arms list multi)
unfolding written_as list_clause_arms list_clause_token emit_token
list-by_signed list multi =
    signed _ _ (Kinds.Whitespace ∷ Kinds.Comment ∷ Kinds.BareWord ∷ Kinds.Comma ∷ [])
    (λ l b. (refl, (comment_fit b, (refl, (refl, tt)))))
    (λ l b k d. simp (d.0, d.1.0, d.1.1.0, d.1.1.1.0))

pub join_signed : Signed signs.Nothing format_join_clause
unfolding written_as format_join_clause join_clause_token emit_token
join_signed =
    signed _ _ (Kinds.Whitespace ∷ Kinds.Comment ∷ Kinds.BareWord ∷ [])
    (λ l b. (refl, (comment_fit b, (spaced-fit false l.flag (write_keyword ∷ []) refl, tt))))
    (λ l b k d. simp (d.0, d.1.0, d.1.1.0) (spaced-fit false (l.flag && not (no_space_before k)) (write_text ∷ []) refl))

pub settings_signed : Signed signs.Nothing format_settings_clause
unfolding written_as format_settings_clause select_clause_token emit_token
settings_signed =
    signed _ _ (Kinds.Whitespace ∷ Kinds.Comment ∷ Kinds.BareWord ∷ [])
    (λ l b. (refl, (comment_fit b, (refl, tt))))
    (λ l b k d. simp (d.0, d.1.0, d.1.1.0))

pub with_signed : Signed signs.Nothing format_with_clause
unfolding written_as format_with_clause select_clause_token emit_token
with_signed =
    signed _ _ (Kinds.Whitespace ∷ Kinds.Comment ∷ Kinds.BareWord ∷ [])
    (λ l b. (refl, (comment_fit b, (refl, tt))))
    (λ l b k d. simp (d.0, d.1.0, d.1.1.0))

pub comma_signed : Signed signs.Comma format_comma_list
unfolding written_as format_comma_list comma_list_token emit_token
comma_signed =
    signed _ _ (Kinds.Whitespace ∷ Kinds.Comment ∷ Kinds.Comma ∷ [])
    (λ l b. (refl, (comment_fit b, (refl, tt))))
    (λ l b k d. simp (d.0, d.1.0, d.1.1.0) (emit_fit false (cased k b)))

pub inl_list_signed : Signed signs.Comma format_inline_comma_list
unfolding written_as format_inline_comma_list inline_comma_list_token emit_token
inl_list_signed =
    signed _ _ (Kinds.Whitespace ∷ Kinds.Comment ∷ Kinds.Comma ∷ [])
    (λ l b. (refl, (comment_fit b, (refl, tt))))
    (λ l b k d. simp (d.0, d.1.0, d.1.1.0) (emit_fit false (cased k b)))

pub binary_signed : Signed signs.Nothing format_binary_expression
unfolding written_as format_binary_expression binary_token emit_token
binary_signed =
    signed _ _ (Kinds.Whitespace ∷ Kinds.Comment ∷ Kinds.BareWord ∷ [])
    (λ l b. (refl, (comment_fit b, (refl, tt))))
    (λ l b k d. simp (d.0, d.1.0, d.1.1.0) (either_fit false (is_operator k) (spacing space ∷ write_text ∷ spacing space ∷ []) (write_text ∷ []) refl refl))

pub unary_signed : Signed signs.Minus format_unary_expression
unfolding written_as format_unary_expression unary_token emit_token
unary_signed =
    signed _ _ (Kinds.Whitespace ∷ Kinds.Comment ∷ Kinds.BareWord ∷ Kinds.Minus ∷ [])
    (λ l b. (refl, (comment_fit b, (refl, (refl, tt)))))
    (λ l b k d. simp (d.0, d.1.0, d.1.1.0, d.1.1.1.0))

pub call_signed : Signed signs.RoundBrackets format_function_call
unfolding written_as format_function_call function_call_token emit_token
call_signed =
    signed _ _ (Kinds.Whitespace ∷ Kinds.Comment ∷ Kinds.OpeningRoundBracket ∷ Kinds.ClosingRoundBracket ∷ Kinds.BareWord ∷ [])
    (λ l b. (refl, (comment_fit b, (refl, (refl, (refl, tt))))))
    (λ l b k d. simp (d.0, d.1.0, d.1.1.0, d.1.1.1.0, d.1.1.1.1.0))

pub case-signed : Signed signs.Nothing format_case_expression
unfolding written_as format_case_expression case_token emit_token
case-signed =
    signed _ _ (Kinds.Whitespace ∷ Kinds.Comment ∷ Kinds.BareWord ∷ [])
    (λ l b. (refl, (comment_fit b, (case-fit b, tt))))
    (λ l b k d. simp (d.0, d.1.0, d.1.1.0))

pub when_signed : Signed signs.Nothing format_when_clause
unfolding written_as format_when_clause when_token emit_token
when_signed =
    signed _ _ (Kinds.Whitespace ∷ Kinds.Comment ∷ Kinds.BareWord ∷ [])
    (λ l b. (refl, (comment_fit b, (when_fit b, tt))))
    (λ l b k d. simp (d.0, d.1.0, d.1.1.0))

pub subquery_signed : Signed signs.RoundBrackets format_subquery
unfolding written_as format_subquery subquery_token emit_token
subquery_signed =
    signed _ _ (Kinds.Whitespace ∷ Kinds.Comment ∷ Kinds.OpeningRoundBracket ∷ Kinds.ClosingRoundBracket ∷ [])
    (λ l b. (refl, (comment_fit b, (refl, (refl, tt)))))
    (λ l b k d. simp (d.0, d.1.0, d.1.1.0, d.1.1.1.0) (emit_fit false (cased k b)))

pub paren_signed : Signed signs.CommaRoundBrackets format_paren_list
unfolding written_as format_paren_list paren_list_token emit_token
paren_signed =
    signed _ _ (Kinds.Whitespace ∷ Kinds.Comma ∷ Kinds.OpeningRoundBracket ∷ Kinds.ClosingRoundBracket ∷ [])
    (λ l b. (refl, (refl, (refl, (refl, tt)))))
    (λ l b k d. simp (d.0, d.1.0, d.1.1.0, d.1.1.1.0) (emit_fit (is_line (record { kind = k; bytes = b })) (cased k b)))

pub bracket_signed : Signed signs.CommaSquareBrackets format_bracket_list
unfolding written_as format_bracket_list bracket_list_token emit_token
bracket_signed =
    signed _ _ (Kinds.Whitespace ∷ Kinds.Comma ∷ Kinds.OpeningSquareBracket ∷ Kinds.ClosingSquareBracket ∷ [])
    (λ l b. (refl, (refl, (refl, (refl, tt)))))
    (λ l b k d. simp (d.0, d.1.0, d.1.1.0, d.1.1.1.0) (emit_fit (is_line (record { kind = k; bytes = b })) (cased k b)))

pub brace_signed : Signed signs.CommaColonCurlyBraces format_brace_list
unfolding written_as format_brace_list brace_list_token emit_token
brace_signed =
    signed _ _ (Kinds.Whitespace ∷ Kinds.Comma ∷ Kinds.Colon ∷ Kinds.OpeningCurlyBrace ∷ Kinds.ClosingCurlyBrace ∷ [])
    (λ l b. (refl, (refl, (refl, (refl, (refl, tt))))))
    (λ l b k d. simp (d.0, d.1.0, d.1.1.0, d.1.1.1.0, d.1.1.1.1.0) (emit_fit (is_line (record { kind = k; bytes = b })) (cased k b)))

pub dtype_signed : Signed signs.CommaRoundBrackets format_data_type
unfolding written_as format_data_type data_type_token emit_token
dtype_signed =
    signed _ _ (Kinds.Whitespace ∷ Kinds.Comma ∷ Kinds.OpeningRoundBracket ∷ Kinds.ClosingRoundBracket ∷ Kinds.Comment ∷ [])
    (λ l b. (refl, (refl, (refl, (refl, (comment_fit b, tt))))))
    (λ l b k d. simp (d.0, d.1.0, d.1.1.0, d.1.1.1.0, d.1.1.1.1.0))

pub tight_paren_signed : Signed signs.Nothing format_inline_tight_parens
unfolding written_as format_inline_tight_parens inline_tight_parens_token emit_token
tight_paren_signed =
    signed _ _ (Kinds.Whitespace ∷ Kinds.Comment ∷ [])
    (λ l b. (refl, (comment_fit b, tt)))
    (λ l b k d. simp (d.0, d.1.0) (spaced-fit false ((not (no_space_before k) && not (eqb k Kinds.OpeningRoundBracket && name_before l.prev)) && space_after l.prev) (emitted k b) (emit_fit false (cased k b))))

pub inline_signed : Signed signs.Nothing format_inline
unfolding written_as format_inline inline_token emit_token
inline_signed =
    signed _ _ (Kinds.Whitespace ∷ Kinds.Comment ∷ [])
    (λ l b. (refl, (comment_fit b, tt)))
    (λ l b k d. simp (d.0, d.1.0) (spaced-fit false (not (no_space_before k) && space_after l.prev) (emitted k b) (emit_fit false (cased k b))))

pub no_spaces_signed : Signed signs.Nothing format_inline_no_spaces
unfolding written_as format_inline_no_spaces emit_other emit_token
no_spaces_signed =
    signed _ _ (Kinds.Whitespace ∷ Kinds.Comment ∷ [])
    (λ l b. (refl, (comment_fit b, tt)))
    (λ l b k d. simp (d.0, d.1.0) (emit_fit false (cased k b)))

pub pass_signed : Signed signs.Nothing format_passthrough
unfolding written_as format_passthrough passthrough_token emit_token
pass_signed =
    signed _ _ (Kinds.Whitespace ∷ Kinds.Comment ∷ [])
    (λ l b. (refl, (comment_fit b, tt)))
    (λ l b k d. simp (d.0, d.1.0) (emit_fit false (cased k b)))

pub alter_signed : Signed signs.Comma format_alter_command_list
unfolding written_as format_alter_command_list alter_command_list_token emit_token
alter_signed =
    signed _ _ (Kinds.Whitespace ∷ Kinds.Comma ∷ [])
    (λ l b. (refl, (refl, tt)))
    (λ l b k d. simp (d.0, d.1.0) (emit_fit (is_line (record { kind = k; bytes = b })) (cased k b)))

pub union_signed : Signed signs.Nothing format_union_clause
unfolding written_as format_union_clause union_token emit_token
union_signed =
    signed _ _ (Kinds.Whitespace ∷ Kinds.BareWord ∷ [])
    (λ l b. (refl, (either_fit false l.flag (spacing space ∷ write_keyword ∷ []) keyword_space refl refl, tt)))
    (λ l b k d. simp (d.0, d.1.0) (emit_fit (is_line (record { kind = k; bytes = b })) false))
