-- The arms of a routine once it is known what it looks ahead for, and what the check's notes say of that and of copying.
use Rattle.std.specs.Prelude.{ℕ, Bool, false, cond, not, ◌&&◌, eqb}
use Rattle.tape.specs.Tree.{done}
use Rattle.tape.specs.Kinds.{QueryList}
use Rattle.tape.specs.NodeFacts.{notes_error, notes_several, notes_list}
use Rattle.layout.specs.declared.Routine.{Routine}
use Rattle.layout.specs.declared.Routine.TheVariants.{ListClause}
use Rattle.layout.specs.Arms.{Arms}
use Rattle.layout.specs.FormatNode.{arms_of}
use Rattle.layout.specs.Routines.{list_clause_arms}

-- a list clause looks ahead for whether it holds no list and several nodes; no other routine looks ahead
unfoldable pub known_arms : Routine → Bool → Arms
known_arms (ListClause list) multi = list_clause_arms list multi
known_arms r multi = arms_of r done

-- that, by what is noted of a node
unfoldable pub noted_multi : Routine → ℕ → Bool
noted_multi (ListClause list) f = notes_several f && not (notes_list list f)
noted_multi r f = false

-- whether a child node of the kind is the list of a list clause and holds several items, by what is noted of the child; no other routine asks for it
unfoldable pub noted_several : Routine → ℕ → ℕ → Bool
noted_several (ListClause list) kind f = eqb kind list && notes_several f
noted_several r kind f = false

-- a number of items for that: no routine asks for more than whether there are several
abbrev pub counted : Bool → ℕ
counted several = cond several 2 0

-- whether a node of the kind is copied as typed, by what is noted of it
abbrev pub noted_copied : ℕ → ℕ → Bool
noted_copied kind f = notes_error f && not (eqb kind QueryList)
