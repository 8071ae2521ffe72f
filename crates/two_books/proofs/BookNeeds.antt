-- Each condition on two books is needed.
use mathlib.Core.Path.{◌≡◌, refl}
use mathlib.Core.Bool.{Bool, true, false, not, ◌&&◌, ◌||◌}
use mathlib.Core.List.{List, [], ◌∷◌}
use Prim.Native.Nat.{ℕ, zero, suc, ◌-◌}
use lib.ListN.{length, take, drop}
use lib.Dec.{T, T_not, eqb, eqb→eq}
use lib.Ieee.Bits.{is_true}
use Rattle.keywords.specs.Names.{names}
use Rattle.keywords.specs.Words.{words as listed_words, same, listed}
use Rattle.basics.specs.Case.{to_uppercase, to_lowercase}
use Rattle.basics.proofs.Same.{both, same-equal}
use Rattle.keywords.proofs.Places.{same_self}
use Rattle.context.specs.Cells.{Text, token_text}
use Rattle.context.specs.Context.{write_newline, lead, write_token, write_keyword, write_space, note_skipped_whitespace, take_pending_newline, take_pending_blank_line, indent, dedent, write_raw, trim_end, finish}
use Rattle.utf8.specs.Table.{holds as holds_byte, character_length}
use Rattle.utf8.specs.Pieces.{cut, first_ill_formed, is_trailing}
use Rattle.utf8.specs.WhiteSpace.{is_white_space}
use Rattle.utf8.specs.Trim.{trim}
use Rattle.utf8.specs.Trimming.{trimmed, trimmed_length, is_white_byte}
use Rattle.tape.specs.Kinds
use Rattle.tape.specs.Kinds.{kinds, not_carried}
use Rattle.tape.specs.Tree.{done, token, Tree, has_child, count_list_items, copied}
use Rattle.tape.specs.Tape.{head_at, command_at, check_open, check_token, checked_at, read_children, read_tape, read_tree}
use Rattle.tape.specs.Call.{let_pass, read_input, read_call}
use Rattle.layout.specs.Masking.{MaskedPair}
use Rattle.layout.specs.Arms.{seen}
use Rattle.layout.specs.Tokens.{no_space_before, no_space_after, is_line_comment, emit_comment, emit_token, emit_other, is_operator}
use Rattle.layout.specs.Routines.{case_word, case_token, format_case_expression, space_after, inline_node, name_before, inline_tight_parens_token, format_inline_tight_parens, inline_token, format_inline, format_inline_no_spaces, passthrough_token, format_passthrough}
use Rattle.layout.specs.FormatNode.{arms_of, routines, routine_of, format_node}
use Rattle.layout.specs.Calls.{format_error_verbatim, walk as walk_tree, calls}
use Rattle.layout.specs.Layout.{do_spacing, step, pieces, written, original, pieces_of, format}
use Rattle.layout.specs.Outcome.{outcome}
use Rattle.layout.specs.MaskingTests.{Condition, same_length, no_newline, in_some_token, strictly_inside, in_quotes, not_copied, no_white_space_end, Asks, holds}
use Rattle.layout.specs.MaskingNeeds.{Claim, Broken, number, pairs, refused_by_four, refused_by_fifteen, Needed, EachNeeded as EachNeededOfLayout}
use Rattle.layout.proofs.MaskingTests.{asked}
use Rattle.layout.proofs.MaskingNeeds.{each_needed as each-needed-of-layout}
use Rattle.std.specs.Prelude.{Result, Ok, Err}
use Rattle.desk_job.specs.Job.{has_command, text_end, read_header, accepted, answered_outcome, answered_job as answered_by, decimal, field, pair, refused_line}
use Rattle.book.specs.declared.open.BookFault.{BookFault}
use Rattle.book.specs.Book.{job_end, is_whole, walk, opened, jobs_from}
use Rattle.book.specs.Told.{told_of, answered_job}
use Rattle.book.specs.Tally.{with_job, tallied}
use Rattle.book.specs.Report.{job_line, total_line, job_lines, work_after, report_of}
use Rattle.two_books.specs.MaskedBooks.{SameCommands}
use Rattle.two_books.specs.WorkedBooks.{job_of}
use Rattle.two_books.specs.BookNeeds.{lines_of, Differ, OfBooks, one_length, one_walk, each_pair, AsksOfBooks, book_number, NeededOfBooks, OfJobs, header_a, header_b, same_tape, texts, AsksOfJobs, job_number, book_of, NeededOfJobs, job_with, plain_job, first_book, second_book, NeededOfTexts, is_told, EachTold, words, cut_short, whole, wrong, right, last18, last19, EachNeeded, commands_agree, reports_differ, jobs_show, all_told}

-- ── from the tests to the rule's words

commands-agree : (k : ℕ) (a b : List ℕ) (at : ℕ) → T (commands_agree k a b at) → SameCommands k a b at
commands-agree zero a b at u = tt
commands-agree (suc k) a b at u =
    let x = same (take 5 (drop at a)) (take 5 (drop at b)) in
    let v = both x (not (is_whole a at) || commands_agree k a b (job_end a at)) u in (
      same-equal (take 5 (drop at a)) (take 5 (drop at b)) (is_true x v.0),
      λ w. commands-agree k a b (job_end a at) (rw w at v.1),
    )

reports_differ_lem : (a b : List ℕ) → T (reports_differ a b) → Differ a b
reports_differ_lem a b u e = T_not (same (lines_of a) (lines_of b)) u (rw (← e, same_self (lines_of a)) tt)

abbrev is_fault : Result ℕ BookFault → Bool
is_fault (Err f) = true
is_fault (Ok count) = false

-- of a refused book no job is asked for
no_jobs : (commands : ℕ) (a b : List ℕ) → T (is_fault (opened false a)) → AsksOfBooks commands each_pair a b
no_jobs commands a b f count e = absurd (rw e at f)

-- ── what is computed: each fact by its name, since one line of what unfolds serves all, and `search` stops at its limit on them

record Computed : Type 0 where
  cut_fault : T (is_fault (opened false cut_short))
  cut_commands : T (commands_agree 257 cut_short whole 0)
  cut_differ : T (reports_differ cut_short whole)
  wrong_fault : T (is_fault (opened false wrong))
  wrong_differ : T (reports_differ wrong right)
  last_fault : T (is_fault (opened false last18))
  last_length : T (eqb (length last18) (length last19))
  last_commands : T (commands_agree 256 last18 last19 0)
  last_differ : T (reports_differ last18 last19)
  first_header : T (jobs_show (job_with 4 0 1 1 1) plain_job)
  second_header : T (jobs_show plain_job (job_with 4 0 1 1 1))
  width : T (jobs_show plain_job (job_with 17 17 1 1 1))
  case : T (jobs_show plain_job (job_with 4 17 2 1 1))
  text_length : T (jobs_show plain_job (job_with 4 17 1 0 1))
  tape : T (jobs_show plain_job (job_with 4 17 1 1 4))
  masked : T (jobs_show (job_of words.pair.first words.pair.tape) (job_of words.pair.second words.pair.tape))
  each_told : T (all_told pairs)
  four : T (reports_differ (first_book refused_by_four) (second_book refused_by_four))
  fifteen : T (reports_differ (first_book refused_by_fifteen) (second_book refused_by_fifteen))

computed : Computed
unfolding names listed_words same listed to_uppercase to_lowercase token_text write_newline lead write_token write_keyword write_space note_skipped_whitespace take_pending_newline take_pending_blank_line indent dedent write_raw trim_end finish holds_byte character_length cut first_ill_formed is_trailing is_white_space trim trimmed trimmed_length is_white_byte kinds not_carried has_child count_list_items copied head_at command_at check_open check_token checked_at read_children read_tape read_tree read_input read_call seen no_space_before no_space_after is_line_comment emit_comment emit_token emit_other is_operator case_word case_token format_case_expression space_after inline_node name_before inline_tight_parens_token format_inline_tight_parens inline_token format_inline format_inline_no_spaces passthrough_token format_passthrough arms_of routines routine_of format_node format_error_verbatim walk_tree calls do_spacing step pieces written original pieces_of format outcome pairs refused_by_four refused_by_fifteen has_command text_end read_header answered_outcome answered_by decimal field pair refused_line job_end is_whole walk opened jobs_from told_of answered_job with_job tallied job_line total_line job_lines work_after report_of
computed =
    record {
      cut_fault = tt;
      cut_commands = tt;
      cut_differ = tt;
      wrong_fault = tt;
      wrong_differ = tt;
      last_fault = tt;
      last_length = tt;
      last_commands = tt;
      last_differ = tt;
      first_header = tt;
      second_header = tt;
      width = tt;
      case = tt;
      text_length = tt;
      tape = tt;
      masked = tt;
      each_told = tt;
      four = tt;
      fifteen = tt;
    }

-- ── books

without-length : (c : OfBooks) → (book_number c ≡ book_number one_length → ⊥) → AsksOfBooks 257 c cut_short whole
without-length one_length ne = absurd (ne refl)
without-length one_walk ne = commands-agree 257 cut_short whole 0 computed.cut_commands
without-length each_pair ne = no_jobs 257 cut_short whole computed.cut_fault

without-walk : (c : OfBooks) → (book_number c ≡ book_number one_walk → ⊥) → AsksOfBooks 257 c wrong right
without-walk one_length ne = refl
without-walk one_walk ne = absurd (ne refl)
without-walk each_pair ne = no_jobs 257 wrong right computed.wrong_fault

with_256 : (c : OfBooks) → AsksOfBooks 256 c last18 last19
with_256 one_length = eqb→eq (length last18) (length last19) computed.last_length
with_256 one_walk = commands-agree 256 last18 last19 0 computed.last_commands
with_256 each_pair = no_jobs 256 last18 last19 computed.last_fault

-- ── jobs

module _ (a b : List ℕ) (u : T (jobs_show a b)) where
  -- the lengths, the commands and the reports
  shown : T (eqb (length (book_of a)) (length (book_of b))) × T (commands_agree 257 (book_of a) (book_of b) 0) × T (reports_differ (book_of a) (book_of b))
  shown =
      let commands = commands_agree 257 (book_of a) (book_of b) 0 in
      let x = both (eqb (length (book_of a)) (length (book_of b))) (commands && reports_differ (book_of a) (book_of b)) u in
      let y = both commands (reports_differ (book_of a) (book_of b)) x.1 in (x.0, y.0, y.1)

  without-jobs : (c : OfBooks) → (book_number c ≡ book_number each_pair → ⊥) → AsksOfBooks 257 c (book_of a) (book_of b)
  without-jobs one_length ne = eqb→eq (length (book_of a)) (length (book_of b)) shown.0
  without-jobs one_walk ne = commands-agree 257 (book_of a) (book_of b) 0 shown.1
  without-jobs each_pair ne = absurd (ne refl)

  jobs-needed : NeededOfBooks each_pair (book_of a) (book_of b)
  jobs-needed = record { others = without-jobs; differ = reports_differ_lem (book_of a) (book_of b) shown.2 }

-- one text twice is a masked pair
one_text : (text : Text) (tape : List ℕ) → let_pass (read_call 4 1 text tape) ≡ true → MaskedPair 4 1 text text tape
one_text text tape e =
    record {
      same_length = refl;
      pass_a = e;
      pass_b = e;
      rule =
          λ t p r.
          record {
            no_newline = λ q d. absurd (d refl);
            in_some_token = λ q d. absurd (d refl);
            strictly_inside = λ q d. absurd (d refl);
            in_quotes = λ q d. absurd (d refl);
            not_copied = λ q d. absurd (d refl);
            no_white_space_end = λ q d. absurd (d refl);
          };
    }

plain-texts : MaskedPair 4 1 (97 ∷ []) (97 ∷ []) (drop 10 plain_job)
unfolding holds_byte character_length cut first_ill_formed is_trailing kinds not_carried head_at command_at check_open checked_at read_children read_tape read_input read_call
plain-texts = one_text (97 ∷ []) (drop 10 plain_job) refl

-- the conditions on two jobs but for one
module _ (without : OfJobs) (a b : List ℕ) (end : ℕ)
    (h : (0 ≡ job_number without → ⊥) → read_header false a ≡ accepted 4 1 end)
    (g : (1 ≡ job_number without → ⊥) → read_header false b ≡ accepted 4 1 end)
    (s : (2 ≡ job_number without → ⊥) → drop end a ≡ drop end b)
    (t : (3 ≡ job_number without → ⊥) → MaskedPair 4 1 (take (end - 9) (drop 9 a)) (take (end - 9) (drop 9 b)) (drop end a)) where
  other-jobs : (c : OfJobs) → (job_number c ≡ job_number without → ⊥) → AsksOfJobs c a b 4 1 end
  other-jobs header_a = h
  other-jobs header_b = g
  other-jobs same_tape = s
  other-jobs texts = t

  job-needed : T (jobs_show a b) → NeededOfJobs without end a b
  job-needed u = record { others = other-jobs; books = jobs-needed a b u }

plain-header : read_header false plain_job ≡ accepted 4 1 10
unfolding has_command text_end read_header
plain-header = refl

-- another header of the second job
second-needed : (job : List ℕ) → drop 10 plain_job ≡ drop 10 job → MaskedPair 4 1 (97 ∷ []) (take 1 (drop 9 job)) (drop 10 plain_job) → T (jobs_show plain_job job)
    → NeededOfJobs header_b 10 plain_job job
second-needed job s t = job-needed header_b plain_job job 10 (λ _. plain-header) (λ ne. absurd (ne refl)) (λ _. s) (λ _. t)

tape-needed : NeededOfJobs same_tape 10 plain_job (job_with 4 17 1 1 4)
unfolding has_command text_end read_header
tape-needed =
    job-needed same_tape plain_job (job_with 4 17 1 1 4) 10 (λ _. plain-header) (λ _. refl) (λ ne. absurd (ne refl)) (λ _. plain-texts) computed.tape

texts-needed : NeededOfJobs texts 12 (job_of words.pair.first words.pair.tape) (job_of words.pair.second words.pair.tape)
unfolding has_command text_end read_header
texts-needed =
    job-needed texts (job_of words.pair.first words.pair.tape) (job_of words.pair.second words.pair.tape) 12 (λ _. refl) (λ _. refl) (λ _. refl)
    (λ ne. absurd (ne refl)) computed.masked

-- ── texts

-- where a pair breaks the rule for layouts, and the reports differ too
of_layout : (x : Broken) → Needed Claim x → T (reports_differ (first_book x.pair) (second_book x.pair)) → NeededOfTexts x
of_layout x n u =
    record {
      tree = n.tree;
      place = n.place;
      read = n.read;
      passes = n.passes;
      others = n.others;
      differ = reports_differ_lem (first_book x.pair) (second_book x.pair) u;
    }

each-told : (xs : List Broken) → EachNeededOfLayout Claim xs → T (all_told xs) → EachTold xs
each-told [] n u = tt
each-told (x ∷ xs) n u =
    let v = both (not (is_told x.without) || reports_differ (first_book x.pair) (second_book x.pair)) (all_told xs) u in
    (λ t. of_layout x n.0 (rw (is_true (is_told x.without) t) at v.0), each-told xs n.1 v.1)

abbrev word_tree : Tree
word_tree =
    record {
      head = record { kind = Kinds.CaseExpression; start = 0; end = 2; at = 0 };
      kids = token (record { kind = Kinds.BareWord; start = 0; end = 3; at = 11 }) done;
    }

words-needed : NeededOfTexts words
unfolding same listed holds_byte character_length cut first_ill_formed is_trailing is_white_space token_text kinds not_carried copied has_child head_at command_at check_open check_token checked_at read_children read_tape read_tree read_input read_call
words-needed =
    record {
      tree = word_tree;
      place = 23;
      read = refl;
      passes = tt;
      others = others;
      differ = texts-needed.books.differ;
    }
  where
    ask : (c : Condition) → T (holds words.pair.first words.pair.second word_tree c) → Asks c words.pair.first words.pair.second word_tree
    ask c u = asked words.pair.first words.pair.second word_tree c u

    others : (c : Condition) → (number c ≡ number in_quotes → ⊥) → Asks c words.pair.first words.pair.second word_tree
    others same_length ne = ask same_length tt
    others no_newline ne = ask no_newline tt
    others in_some_token ne = ask in_some_token tt
    others strictly_inside ne = ask strictly_inside tt
    others in_quotes ne = absurd (ne refl)
    others not_copied ne = ask not_copied tt
    others no_white_space_end ne = ask no_white_space_end tt

pub each_needed : EachNeeded
each_needed =
    record {
      book_length = record { others = without-length; differ = reports_differ_lem cut_short whole computed.cut_differ };
      command = record { others = without-walk; differ = reports_differ_lem wrong right computed.wrong_differ };
      commands = with_256;
      last_command = reports_differ_lem last18 last19 computed.last_differ;
      first_header =
          job-needed header_a (job_with 4 0 1 1 1) plain_job 10 (λ ne. absurd (ne refl)) (λ _. plain-header) (λ _. refl) (λ _. plain-texts)
          computed.first_header;
      second_header = second-needed (job_with 4 0 1 1 1) refl plain-texts computed.second_header;
      width = second-needed (job_with 17 17 1 1 1) refl plain-texts computed.width;
      case = second-needed (job_with 4 17 2 1 1) refl plain-texts computed.case;
      text_length = second-needed (job_with 4 17 1 0 1) refl plain-texts computed.text_length;
      tape = tape-needed;
      masked = texts-needed;
      quotes = words-needed;
      each_told = each-told pairs each-needed-of-layout computed.each_told;
      four = reports_differ_lem (first_book refused_by_four) (second_book refused_by_four) computed.four;
      fifteen = reports_differ_lem (first_book refused_by_fifteen) (second_book refused_by_fifteen) computed.fifteen;
    }
