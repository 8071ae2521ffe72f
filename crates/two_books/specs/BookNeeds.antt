-- Each condition on two books is needed: for each a pair of small books that meets all the others and whose reports differ.
use Rattle.std.specs.Prelude.{ℕ, zero, suc, ◌-◌, ◌≡◌, Bool, true, false, not, ◌&&◌, ◌||◌, List, [], ◌∷◌, ◌++◌, length, take, drop, T, eqb, Ok}
use Rattle.keywords.specs.Words.{bytes, same}
use Rattle.tape.specs.Kinds
use Rattle.tape.specs.Tree.{done, Tree}
use Rattle.tape.specs.Tape.{got, read_tree}
use Rattle.layout.specs.Masking.{MaskedPair}
use Rattle.layout.specs.CourseSheet.{tok}
use Rattle.layout.specs.MaskingTests.{Condition, same_length, no_newline, in_some_token, strictly_inside, in_quotes, not_copied, no_white_space_end, Asks}
use Rattle.layout.specs.MaskingNeeds.{Pair, both_pass, Broken, number, pair, pairs, refused_by_four, refused_by_fifteen}
use Rattle.desk_job.specs.Job.{read_header, accepted}
use Rattle.book.specs.Book.{job_end, is_whole, opened, jobs_from}
use Rattle.book.specs.Tally.{zeros}
use Rattle.book.specs.Report.{report_of}
use Rattle.book.specs.SmallBooks.{saved, empties}
use Rattle.two_books.specs.MaskedBooks.{MaskedJobs, Pairs, SameCommands}
use Rattle.two_books.specs.WorkedBooks.{job_of}

-- the report over a book
abbrev pub lines_of : List ℕ → List ℕ
lines_of book = (report_of (opened false book) book zeros []).lines

abbrev pub Differ : List ℕ → List ℕ → Type 0
Differ a b = lines_of a ≡ lines_of b → ⊥

-- ── the conditions on books

pub data OfBooks : Type 0 where
  one_length one_walk each_pair : OfBooks

-- as in `MaskedBooks`; so many commands are the same
abbrev pub AsksOfBooks : ℕ → OfBooks → List ℕ → List ℕ → Type 0
AsksOfBooks commands one_length a b = length a ≡ length b
AsksOfBooks commands one_walk a b = SameCommands commands a b 0
AsksOfBooks commands each_pair a b = (count : ℕ) → opened false a ≡ Ok count → Pairs MaskedJobs (jobs_from count a 0) (jobs_from count b 0)

abbrev pub book_number : OfBooks → ℕ
book_number one_length = 0
book_number one_walk = 1
book_number each_pair = 2

pub record NeededOfBooks (without : OfBooks) (a b : List ℕ) : Type 0 where
  pub others : (c : OfBooks) → (book_number c ≡ book_number without → ⊥) → AsksOfBooks 257 c a b
  pub differ : Differ a b

-- ── the conditions on a pair of jobs

pub data OfJobs : Type 0 where
  header_a header_b same_tape texts : OfJobs

-- as in `MaskedJob`
abbrev pub AsksOfJobs : OfJobs → List ℕ → List ℕ → ℕ → ℕ → ℕ → Type 0
AsksOfJobs header_a a b width case end = read_header false a ≡ accepted width case end
AsksOfJobs header_b a b width case end = read_header false b ≡ accepted width case end
AsksOfJobs same_tape a b width case end = drop end a ≡ drop end b
AsksOfJobs texts a b width case end = MaskedPair width case (take (end - 9) (drop 9 a)) (take (end - 9) (drop 9 b)) (drop end a)

abbrev pub job_number : OfJobs → ℕ
job_number header_a = 0
job_number header_b = 1
job_number same_tape = 2
job_number texts = 3

-- a book of one job, which has less than 256 bytes
abbrev pub book_of : List ℕ → List ℕ
book_of job = saved (length job) job

-- width, case and the end of the text are 4, 1 and `end`
pub record NeededOfJobs (without : OfJobs) (end : ℕ) (a b : List ℕ) : Type 0 where
  pub others : (c : OfJobs) → (job_number c ≡ job_number without → ⊥) → AsksOfJobs c a b 4 1 end
  pub books : NeededOfBooks each_pair (book_of a) (book_of b)

-- document 01's job, but for these bytes
abbrev pub job_with : ℕ → ℕ → ℕ → ℕ → ℕ → List ℕ
job_with width command case length first =
    16 ∷ width ∷ command ∷ case ∷ 18 ∷ length ∷ 0 ∷ 0 ∷ 0 ∷ 97 ∷ first ∷ 0 ∷ 0 ∷ 0 ∷ 0 ∷ 0 ∷ 0 ∷ 1 ∷ 0 ∷ 0 ∷ 0 ∷ 3 ∷ []

abbrev pub plain_job : List ℕ
plain_job = job_with 4 17 1 1 1

-- ── the conditions on a pair of texts

-- the two books of one job each on the pair's tape
abbrev pub first_book : Pair → List ℕ
first_book x = book_of (job_of x.first x.tape)

abbrev pub second_book : Pair → List ℕ
second_book x = book_of (job_of x.second x.tape)

-- as in layout/specs/MaskingNeeds, for the report in place of the layout
pub record NeededOfTexts (x : Broken) : Type 0 where
  pub tree : Tree
  pub place : ℕ
  pub read : read_tree (length x.pair.first) x.pair.tape ≡ got tree place
  pub passes : T (both_pass x.pair)
  pub others : (c : Condition) → (number c ≡ number x.without → ⊥) → Asks c x.pair.first x.pair.second tree
  pub differ : Differ (first_book x.pair) (second_book x.pair)

-- which of the pairs there a report tells apart. Texts of one length follow from one header; the pair outside of quotes differs in the case of letters
abbrev pub is_told : Condition → Bool
is_told same_length = false
is_told no_newline = true
is_told in_some_token = true
is_told strictly_inside = true
is_told in_quotes = false
is_told not_copied = true
is_told no_white_space_end = true

abbrev pub EachTold : List Broken → Type 0
EachTold [] = Unit {0}
EachTold (x ∷ xs) = (T (is_told x.without) → NeededOfTexts x) × EachTold xs

-- END takes a line of its own, and another word does not
abbrev pub words : Broken
words = pair in_quotes (bytes "end") (bytes "exd") Kinds.CaseExpression (tok Kinds.BareWord 0 3 done)

-- ── all of them

-- a job of one byte, cut short and whole
abbrev pub cut_short : List ℕ
cut_short = 32 ∷ 1 ∷ 0 ∷ 0 ∷ 0 ∷ []

abbrev pub whole : List ℕ
whole = 32 ∷ 1 ∷ 0 ∷ 0 ∷ 0 ∷ 97 ∷ []

-- a wrong command, and a job of no bytes
abbrev pub wrong : List ℕ
wrong = 33 ∷ 0 ∷ 0 ∷ 0 ∷ 0 ∷ []

abbrev pub right : List ℕ
right = 32 ∷ 0 ∷ 0 ∷ 0 ∷ 0 ∷ []

-- the same after 256 jobs
abbrev pub last18 : List ℕ
last18 = empties 256 ++ wrong

abbrev pub last19 : List ℕ
last19 = empties 256 ++ right

pub record EachNeeded : Type 0 where
  pub book_length : NeededOfBooks one_length cut_short whole
  pub command : NeededOfBooks one_walk wrong right
  -- 256 commands that are the same are not enough
  pub commands : (c : OfBooks) → AsksOfBooks 256 c last18 last19
  pub last_command : Differ last18 last19
  -- a header that is 14, and width, case and length of the text: 1, 2 and 6
  pub first_header : NeededOfJobs header_a 10 (job_with 4 0 1 1 1) plain_job
  pub second_header : NeededOfJobs header_b 10 plain_job (job_with 4 0 1 1 1)
  pub width : NeededOfJobs header_b 10 plain_job (job_with 17 17 1 1 1)
  pub case : NeededOfJobs header_b 10 plain_job (job_with 4 17 2 1 1)
  pub text_length : NeededOfJobs header_b 10 plain_job (job_with 4 17 1 0 1)
  -- a tape that is refused
  pub tape : NeededOfJobs same_tape 10 plain_job (job_with 4 17 1 1 4)
  pub masked : NeededOfJobs texts 12 (job_of words.pair.first words.pair.tape) (job_of words.pair.second words.pair.tape)
  -- of the texts
  pub quotes : NeededOfTexts words
  pub each_told : EachTold pairs
  -- 4 and 15 let both pass
  pub four : Differ (first_book refused_by_four) (second_book refused_by_four)
  pub fifteen : Differ (first_book refused_by_fifteen) (second_book refused_by_fifteen)

-- ── as tests that can be computed

abbrev pub commands_agree : ℕ → List ℕ → List ℕ → ℕ → Bool
commands_agree zero a b at = true
commands_agree (suc more) a b at =
    same (take 5 (drop at a)) (take 5 (drop at b)) && (not (is_whole a at) || commands_agree more a b (job_end a at))

abbrev pub reports_differ : List ℕ → List ℕ → Bool
reports_differ a b = not (same (lines_of a) (lines_of b))

-- two books of one job each: of one length, with the same commands
abbrev pub jobs_show : List ℕ → List ℕ → Bool
jobs_show a b = eqb (length (book_of a)) (length (book_of b)) && (commands_agree 257 (book_of a) (book_of b) 0 && reports_differ (book_of a) (book_of b))

abbrev pub all_told : List Broken → Bool
all_told [] = true
all_told (x ∷ xs) = (not (is_told x.without) || reports_differ (first_book x.pair) (second_book x.pair)) && all_told xs
