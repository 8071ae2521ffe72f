-- The routines of format_node.rs, each under its name and with its arms in the order there.
use Rattle.std.specs.Prelude.{ℕ, Bool, true, false, cond, not, ◌&&◌, Option, None, Some, List, [], ◌∷◌, ◌++◌, eqb, ltb}
use Rattle.basics.specs.Match.{among, match}
use Rattle.keywords.specs.Words.{is_word}
use Rattle.tape.specs.Kinds
use Rattle.tape.specs.Tree.{Children, has_child, count_list_items}
use Rattle.layout.specs.declared.Local.{Local}
use Rattle.layout.specs.Arms.{Spacing, newline, space, indent, dedent, blank_line, blank_line_before_comment, Act, spacing, write_text, write_keyword, write_sign, comma, semicolon, colon, minus, opening_round_bracket, closing_round_bracket, opening_square_bracket, closing_square_bracket, opening_curly_brace, closing_curly_brace, Seen, Arms}
use Rattle.layout.specs.Tokens.{no_space_before, no_space_after, note_skipped_whitespace, emit_comment, emit_token, emit_other, is_operator}

-- ── what several routines share

-- the local variables: a flag; the kind that went before
abbrev pub flagged : Bool → Local
flagged b = record { flag = b; prev = None }

abbrev pub after : ℕ → Local
after k = record { flag = false; prev = Some k }

-- acts that leave the local variables as they are
abbrev pub local_unchanged : (Seen → List Act) → Local → Seen → Local × List Act
local_unchanged f l t = (l, f t)

-- the arms of white space and of comments, before the others
abbrev pub with_comments : Seen → List (ℕ × List Act) → List (ℕ × List Act)
with_comments t arms = (Kinds.Whitespace, note_skipped_whitespace t.bytes) ∷ (Kinds.Comment, emit_comment t.bytes) ∷ arms

-- the same in a routine whose last arm changes the local variables
abbrev pub or_else : Local → Seen → Local × List Act → Local × List Act
or_else l t other = match t.kind ((Kinds.Whitespace, (l, note_skipped_whitespace t.bytes)) ∷ (Kinds.Comment, (l, emit_comment t.bytes)) ∷ []) other

-- a space where b holds
abbrev pub space_if : Bool → List Spacing
space_if b = cond b (space ∷ []) []

-- a blank before, where b holds
abbrev pub spaced : Bool → List Act → List Act
spaced b acts = cond b (spacing space ∷ acts) acts

-- nothing around a child node; nothing at the end
abbrev pub plain_node : Local → ℕ → ℕ → Local × List Spacing × List Spacing
plain_node l k n = (l, [], [])

abbrev pub no_end : Local → List Spacing
no_end l = []

-- write_keyword, write_space
abbrev pub keyword_space : List Act
keyword_space = write_keyword ∷ spacing space ∷ []

-- a routine without local variables that does nothing around its child nodes
abbrev pub tokens_only : (Seen → List Act) → Arms
tokens_only f = record { begin = flagged false; at_token = local_unchanged f; at_node = plain_node; at_end = no_end }

-- ── format_file: the flag is had_statement (its test for Error nodes is `copied`)

unfoldable pub file_token : Seen → List Act
file_token t =
    match t.kind
    ((Kinds.Whitespace, note_skipped_whitespace t.bytes)
    ∷ (Kinds.Comment, spacing blank_line_before_comment ∷ emit_comment t.bytes)
    ∷ (Kinds.Semicolon, write_sign semicolon ∷ [])
    ∷ [])
    (emit_token t)

unfoldable pub format_file : Arms
format_file =
    record {
      begin = flagged false;
      at_token = local_unchanged file_token;
      at_node = λ l k n. (flagged true, cond l.flag (newline ∷ newline ∷ []) (blank_line ∷ []), []);
      at_end = no_end;
    }

-- ── format_query_list: the flag is first

unfoldable pub query_list_token : Seen → List Act
query_list_token t =
    match t.kind
    ((Kinds.Whitespace, note_skipped_whitespace t.bytes) ∷ (Kinds.Semicolon, write_sign semicolon ∷ []) ∷ (Kinds.Comment, emit_comment t.bytes) ∷ [])
    (emit_token t)

unfoldable pub format_query_list : Arms
format_query_list =
    record {
      begin = flagged true;
      at_token = local_unchanged query_list_token;
      at_node = λ l k n. (flagged false, cond (not l.flag) (newline ∷ newline ∷ []) [], []);
      at_end = no_end;
    }

-- ── format_select_statement: the flag is first_clause

unfoldable pub select_statement_token : Seen → List Act
select_statement_token t = match t.kind (with_comments t ((Kinds.Semicolon, []) ∷ [])) (emit_token t)

unfoldable pub format_select_statement : Arms
format_select_statement =
    record {
      begin = flagged true;
      at_token = local_unchanged select_statement_token;
      at_node = λ l k n. (flagged false, cond (not l.flag) (newline ∷ []) [], []);
      at_end = no_end;
    }

-- ── format_select_clause

unfoldable pub select_clause_token : Seen → List Act
select_clause_token t = match t.kind (with_comments t ((Kinds.BareWord, keyword_space) ∷ [])) (emit_token t)

unfoldable pub format_select_clause : Arms
format_select_clause =
    record {
      begin = flagged false;
      at_token = local_unchanged select_clause_token;
      at_node = λ l k n. match k ((Kinds.ColumnList, (l, newline ∷ indent ∷ [], dedent ∷ [])) ∷ []) (l, [], []);
      at_end = no_end;
    }

-- ── format_simple_clause: the flag is need_sep

unfoldable pub simple_clause_token : Local → Seen → Local × List Act
simple_clause_token l t =
    or_else l t (flagged (not (no_space_after t.kind)), spaced (l.flag && not (no_space_before t.kind)) (emit_token t))

unfoldable pub format_simple_clause : Arms
format_simple_clause =
    record {
      begin = flagged false;
      at_token = simple_clause_token;
      at_node = λ l k n. (flagged true, space_if l.flag, []);
      at_end = no_end;
    }

-- ── format_group_by_clause, format_order_by_clause: they differ in the list's kind; the flag is after_keywords

unfoldable pub multi_item : ℕ → Children → Bool
multi_item list kids =
    let direct_item_count : ℕ = cond (not (has_child list kids)) (count_list_items kids) 0 in
    ltb 1 direct_item_count

unfoldable pub list_clause_token : Bool → Seen → List Act
list_clause_token multi t =
    match t.kind
    (with_comments t
    ((Kinds.BareWord, keyword_space) ∷ (Kinds.Comma, write_sign comma ∷ spacing (cond multi newline space) ∷ []) ∷ []))
    (emit_token t)

unfoldable pub list_clause_node : ℕ → Bool → Local → ℕ → ℕ → Local × List Spacing × List Spacing
list_clause_node list multi l k item_count =
    cond (eqb k list)
    (cond (ltb 1 item_count) (l, newline ∷ indent ∷ [], dedent ∷ []) (l, [], []))
    (cond (not l.flag && multi) (flagged true, newline ∷ indent ∷ [], []) (l, [], []))

unfoldable pub list_clause_arms : ℕ → Bool → Arms
list_clause_arms list multi =
    record {
      begin = flagged false;
      at_token = local_unchanged (list_clause_token multi);
      at_node = list_clause_node list multi;
      at_end = λ l. cond (l.flag && multi) (dedent ∷ []) [];
    }

unfoldable pub format_list_clause : ℕ → Children → Arms
format_list_clause list kids = list_clause_arms list (multi_item list kids)

-- ── format_limit_by_clause, format_join_clause: they do not differ; the flag is need_sep

unfoldable pub join_clause_token : Local → Seen → Local × List Act
join_clause_token l t =
    or_else l t
    (match t.kind ((Kinds.BareWord, (flagged true, spaced l.flag (write_keyword ∷ []))) ∷ [])
    (flagged (not (no_space_after t.kind)), spaced (l.flag && not (no_space_before t.kind)) (emit_token t)))

unfoldable pub format_join_clause : Arms
format_join_clause =
    record {
      begin = flagged false;
      at_token = join_clause_token;
      at_node = λ l k n. (flagged true, space_if l.flag, []);
      at_end = no_end;
    }

-- ── format_settings_clause

unfoldable pub format_settings_clause : Arms
format_settings_clause =
    record {
      begin = flagged false;
      at_token = local_unchanged select_clause_token;
      at_node = λ l k n. match k ((Kinds.SettingList, (l, newline ∷ indent ∷ [], dedent ∷ [])) ∷ []) (l, space ∷ [], []);
      at_end = no_end;
    }

-- ── format_with_clause

unfoldable pub format_with_clause : Arms
format_with_clause =
    record {
      begin = flagged false;
      at_token = local_unchanged select_clause_token;
      at_node = λ l k n. (l, newline ∷ indent ∷ [], dedent ∷ []);
      at_end = no_end;
    }

-- ── format_comma_list: the flag is after_comma

unfoldable pub comma_list_token : Local → Seen → Local × List Act
comma_list_token l t =
    or_else l t (match t.kind ((Kinds.Comma, (flagged true, write_sign comma ∷ spacing newline ∷ [])) ∷ []) (l, emit_token t))

unfoldable pub format_comma_list : Arms
format_comma_list =
    record {
      begin = flagged false;
      at_token = comma_list_token;
      at_node = λ l k n. (flagged false, space_if (not l.flag), []);
      at_end = no_end;
    }

-- ── format_inline_comma_list

unfoldable pub inline_comma_list_token : Seen → List Act
inline_comma_list_token t = match t.kind (with_comments t ((Kinds.Comma, write_sign comma ∷ spacing space ∷ []) ∷ [])) (emit_token t)

unfoldable pub format_inline_comma_list : Arms
format_inline_comma_list = tokens_only inline_comma_list_token

-- ── format_binary_expression

unfoldable pub binary_token : Seen → List Act
binary_token t =
    match t.kind (with_comments t ((Kinds.BareWord, spacing space ∷ keyword_space) ∷ []))
    (cond (is_operator t.kind) (spacing space ∷ write_text ∷ spacing space ∷ []) (emit_token t))

unfoldable pub format_binary_expression : Arms
format_binary_expression = tokens_only binary_token

-- ── format_unary_expression

unfoldable pub unary_token : Seen → List Act
unary_token t =
    match t.kind (with_comments t ((Kinds.BareWord, keyword_space) ∷ (Kinds.Minus, write_sign minus ∷ []) ∷ [])) (emit_token t)

unfoldable pub format_unary_expression : Arms
format_unary_expression = tokens_only unary_token

-- ── format_function_call

unfoldable pub function_call_token : Seen → List Act
function_call_token t =
    match t.kind
    (with_comments t
    ((Kinds.OpeningRoundBracket, write_sign opening_round_bracket ∷ [])
    ∷ (Kinds.ClosingRoundBracket, write_sign closing_round_bracket ∷ [])
    ∷ (Kinds.BareWord, write_text ∷ [])
    ∷ []))
    (emit_token t)

unfoldable pub format_function_call : Arms
format_function_call = tokens_only function_call_token

-- ── format_case_expression

unfoldable pub case_word : List ℕ → List Act
case_word b =
    cond (is_word "CASE" b) (write_keyword ∷ spacing indent ∷ [])
    (cond (is_word "ELSE" b) (spacing newline ∷ keyword_space)
    (cond (is_word "END" b) (spacing dedent ∷ spacing newline ∷ write_keyword ∷ []) (spacing space ∷ write_keyword ∷ [])))

unfoldable pub case_token : Seen → List Act
case_token t = match t.kind (with_comments t ((Kinds.BareWord, case_word t.bytes) ∷ [])) (emit_token t)

unfoldable pub format_case_expression : Arms
format_case_expression =
    record {
      begin = flagged false;
      at_token = local_unchanged case_token;
      at_node = λ l k n. match k ((Kinds.WhenClause, (l, newline ∷ [], [])) ∷ []) (l, [], []);
      at_end = no_end;
    }

-- ── format_when_clause

unfoldable pub when_word : List ℕ → List Act
when_word b = cond (is_word "WHEN" b) keyword_space (cond (is_word "THEN" b) (spacing space ∷ keyword_space) keyword_space)

unfoldable pub when_token : Seen → List Act
when_token t = match t.kind (with_comments t ((Kinds.BareWord, when_word t.bytes) ∷ [])) (emit_token t)

unfoldable pub format_when_clause : Arms
format_when_clause = tokens_only when_token

-- ── format_subquery

unfoldable pub subquery_token : Seen → List Act
subquery_token t =
    match t.kind
    (with_comments t
    ((Kinds.OpeningRoundBracket, write_sign opening_round_bracket ∷ spacing newline ∷ spacing indent ∷ [])
    ∷ (Kinds.ClosingRoundBracket, spacing dedent ∷ spacing newline ∷ write_sign closing_round_bracket ∷ [])
    ∷ []))
    (emit_token t)

unfoldable pub format_subquery : Arms
format_subquery = tokens_only subquery_token

-- ── format_paren_list, format_bracket_list, format_brace_list: they have no comment arm

unfoldable pub paren_list_token : Seen → List Act
paren_list_token t =
    match t.kind
    ((Kinds.Whitespace, note_skipped_whitespace t.bytes)
    ∷ (Kinds.Comma, write_sign comma ∷ spacing space ∷ [])
    ∷ (Kinds.OpeningRoundBracket, write_sign opening_round_bracket ∷ [])
    ∷ (Kinds.ClosingRoundBracket, write_sign closing_round_bracket ∷ [])
    ∷ [])
    (emit_token t)

unfoldable pub format_paren_list : Arms
format_paren_list = tokens_only paren_list_token

unfoldable pub bracket_list_token : Seen → List Act
bracket_list_token t =
    match t.kind
    ((Kinds.Whitespace, note_skipped_whitespace t.bytes)
    ∷ (Kinds.Comma, write_sign comma ∷ spacing space ∷ [])
    ∷ (Kinds.OpeningSquareBracket, write_sign opening_square_bracket ∷ [])
    ∷ (Kinds.ClosingSquareBracket, write_sign closing_square_bracket ∷ [])
    ∷ [])
    (emit_token t)

unfoldable pub format_bracket_list : Arms
format_bracket_list = tokens_only bracket_list_token

unfoldable pub brace_list_token : Seen → List Act
brace_list_token t =
    match t.kind
    ((Kinds.Whitespace, note_skipped_whitespace t.bytes)
    ∷ (Kinds.Comma, write_sign comma ∷ spacing space ∷ [])
    ∷ (Kinds.Colon, write_sign colon ∷ spacing space ∷ [])
    ∷ (Kinds.OpeningCurlyBrace, write_sign opening_curly_brace ∷ [])
    ∷ (Kinds.ClosingCurlyBrace, write_sign closing_curly_brace ∷ [])
    ∷ [])
    (emit_token t)

unfoldable pub format_brace_list : Arms
format_brace_list = tokens_only brace_list_token

-- ── format_data_type

unfoldable pub data_type_token : Seen → List Act
data_type_token t =
    match t.kind
    ((Kinds.Whitespace, note_skipped_whitespace t.bytes)
    ∷ (Kinds.Comma, write_sign comma ∷ spacing space ∷ [])
    ∷ (Kinds.OpeningRoundBracket, write_sign opening_round_bracket ∷ [])
    ∷ (Kinds.ClosingRoundBracket, write_sign closing_round_bracket ∷ [])
    ∷ (Kinds.Comment, emit_comment t.bytes)
    ∷ [])
    (write_text ∷ [])

unfoldable pub format_data_type : Arms
format_data_type = tokens_only data_type_token

-- ── format_inline_tight_parens, format_inline: prev is prev_kind

-- something went before that may be followed by a space
unfoldable pub space_after : Option ℕ → Bool
space_after None = false
space_after (Some k) = not (no_space_after k)

unfoldable pub inline_node : Local → ℕ → ℕ → Local × List Spacing × List Spacing
inline_node l k n = (after Kinds.BareWord, space_if (space_after l.prev), [])

-- a name went before
unfoldable pub name_before : Option ℕ → Bool
name_before None = false
name_before (Some k) = among k (Kinds.BareWord ∷ Kinds.QuotedIdentifier ∷ [])

unfoldable pub inline_tight_parens_token : Local → Seen → Local × List Act
inline_tight_parens_token l t =
    let suppress_space : Bool = eqb t.kind Kinds.OpeningRoundBracket && name_before l.prev in
    or_else l t
    (after t.kind, spaced ((not (no_space_before t.kind) && not suppress_space) && space_after l.prev) (emit_token t))

unfoldable pub format_inline_tight_parens : Arms
format_inline_tight_parens =
    record { begin = flagged false; at_token = inline_tight_parens_token; at_node = inline_node; at_end = no_end }

unfoldable pub inline_token : Local → Seen → Local × List Act
inline_token l t = or_else l t (after t.kind, spaced (not (no_space_before t.kind) && space_after l.prev) (emit_token t))

unfoldable pub format_inline : Arms
format_inline = record { begin = flagged false; at_token = inline_token; at_node = inline_node; at_end = no_end }

-- ── format_inline_no_spaces

unfoldable pub format_inline_no_spaces : Arms
format_inline_no_spaces = tokens_only emit_other

-- ── format_passthrough

unfoldable pub passthrough_token : Seen → List Act
passthrough_token t =
    match t.kind
    ((Kinds.Whitespace, note_skipped_whitespace t.bytes ++ (spacing space ∷ [])) ∷ (Kinds.Comment, emit_comment t.bytes) ∷ [])
    (emit_token t)

unfoldable pub format_passthrough : Arms
format_passthrough = tokens_only passthrough_token

-- ── format_alter_command_list: it has no comment arm

unfoldable pub alter_command_list_token : Seen → List Act
alter_command_list_token t =
    match t.kind
    ((Kinds.Whitespace, note_skipped_whitespace t.bytes) ∷ (Kinds.Comma, write_sign comma ∷ spacing newline ∷ []) ∷ [])
    (emit_token t)

unfoldable pub format_alter_command_list : Arms
format_alter_command_list = tokens_only alter_command_list_token

-- ── format_union_clause: it has no comment arm; the flag is after_first_select

unfoldable pub union_token : Local → Seen → Local × List Act
union_token l t = (
  l,
  match t.kind
      ((Kinds.Whitespace, note_skipped_whitespace t.bytes)
      ∷ (Kinds.BareWord, cond l.flag (spacing space ∷ write_keyword ∷ []) keyword_space)
      ∷ [])
      (emit_token t),
)

unfoldable pub format_union_clause : Arms
format_union_clause =
    record {
      begin = flagged false;
      at_token = union_token;
      at_node =
          λ l k n.
          cond (among k (Kinds.SelectStatement ∷ Kinds.UnionClause ∷ []))
          (flagged true, cond l.flag (newline ∷ []) [], [])
          (l, [], []);
      at_end = no_end;
    }
