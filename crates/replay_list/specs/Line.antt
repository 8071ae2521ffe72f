-- What is printed for a list.
use Rattle.std.specs.Prelude.{ℕ, Option, Some, None, Result, Ok, Err, List, [], ◌∷◌, ◌++◌}
use Rattle.keywords.specs.Words.{bytes}
use Rattle.desk_job.specs.Job.{decimal}
use Rattle.replay_list.specs.declared.Tally.{Tally}
use Rattle.replay_list.specs.declared.BadRecord.{BadRecord}

abbrev newline : List ℕ
newline = 10 ∷ []

-- the list is bad at a record; a number of 64 bits has at most 20 digits
unfoldable pub bad_line : ℕ → List ℕ
bad_line n = bytes "bad list at record " ++ decimal 20 n ++ newline

-- the first record that differs, where there is one, and the line's end
abbrev pub first_named : Option ℕ → List ℕ
first_named None = newline
first_named (Some n) = bytes ", the first is " ++ decimal 20 n ++ newline

-- so many records, so many of which differ, and the first of these where there is one
unfoldable pub end_line : ℕ → ℕ → Option ℕ → List ℕ
end_line count differ first = decimal 20 count ++ bytes " vectors, " ++ decimal 20 differ ++ bytes " differ" ++ first_named first

unfoldable pub replayed_line : Result Tally BadRecord → List ℕ
replayed_line (Ok t) = end_line t.records t.differ t.first
replayed_line (Err bad) = bad_line bad.at
