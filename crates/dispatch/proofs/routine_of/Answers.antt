-- `routine_of` meets its contract: what is no key of an arm is none of the definition's.
use mathlib.Core.List.{[], ◌∷◌}
use mathlib.Core.Path.{refl}
use Rattle.basics.proofs.Match.{other_is}
use Rattle.layout.specs.FormatNode.{routine_of, routines}
use Rattle.layout.specs.declared.Routine.TheVariants as TheVariants
use Rattle.dispatch.proofs.routine_of.Goals as goal

pub returns-in_default : goal.returns-in_default
unfolding routine_of routines
returns-in_default c = other_is ((47 ∷ []) ∷ (101 ∷ []) ∷ (72 ∷ 74 ∷ 76 ∷ []) ∷ (71 ∷ 73 ∷ 75 ∷ 83 ∷ 87 ∷ []) ∷ (192 ∷ []) ∷ (191 ∷ []) ∷ (156 ∷ []) ∷ (139 ∷ 153 ∷ 157 ∷ []) ∷ (152 ∷ []) ∷ (133 ∷ 151 ∷ []) ∷ (158 ∷ []) ∷ (184 ∷ []) ∷ (143 ∷ []) ∷ (141 ∷ []) ∷ (100 ∷ 140 ∷ []) ∷ (145 ∷ []) ∷ (144 ∷ []) ∷ (130 ∷ 177 ∷ 181 ∷ 202 ∷ 207 ∷ []) ∷ (179 ∷ []) ∷ (176 ∷ 178 ∷ 180 ∷ []) ∷ (50 ∷ 54 ∷ 68 ∷ 78 ∷ 85 ∷ 89 ∷ 92 ∷ 94 ∷ 96 ∷ 98 ∷ 103 ∷ 105 ∷ 107 ∷ 109 ∷ 111 ∷ 113 ∷ 115 ∷ 117 ∷ 119 ∷ 121 ∷ 123 ∷ 125 ∷ 127 ∷ 129 ∷ 138 ∷ 147 ∷ 160 ∷ 183 ∷ 186 ∷ 188 ∷ 190 ∷ 198 ∷ 200 ∷ 204 ∷ 206 ∷ []) ∷ (49 ∷ 51 ∷ 53 ∷ 60 ∷ 67 ∷ 69 ∷ 77 ∷ 82 ∷ 84 ∷ 88 ∷ 91 ∷ 93 ∷ 95 ∷ 97 ∷ 99 ∷ 102 ∷ 104 ∷ 106 ∷ 108 ∷ 110 ∷ 112 ∷ 114 ∷ 116 ∷ 118 ∷ 120 ∷ 122 ∷ 124 ∷ 126 ∷ 128 ∷ 137 ∷ 142 ∷ 146 ∷ 148 ∷ 150 ∷ 159 ∷ 161 ∷ 182 ∷ 185 ∷ 187 ∷ 189 ∷ 195 ∷ 197 ∷ 199 ∷ 201 ∷ 203 ∷ 205 ∷ 208 ∷ []) ∷ (36 ∷ 43 ∷ []) ∷ (33 ∷ []) ∷ (45 ∷ []) ∷ (42 ∷ []) ∷ (40 ∷ []) ∷ (10 ∷ 12 ∷ 16 ∷ 19 ∷ 21 ∷ 23 ∷ 25 ∷ 27 ∷ 29 ∷ 38 ∷ 63 ∷ 65 ∷ []) ∷ (6 ∷ 9 ∷ 11 ∷ 13 ∷ 15 ∷ 18 ∷ 20 ∷ 22 ∷ 24 ∷ 26 ∷ 28 ∷ 35 ∷ 37 ∷ 39 ∷ 41 ∷ 44 ∷ 46 ∷ 48 ∷ 62 ∷ 64 ∷ 66 ∷ 70 ∷ 90 ∷ 132 ∷ []) ∷ (34 ∷ []) ∷ (3 ∷ []) ∷ (2 ∷ []) ∷ (1 ∷ []) ∷ []) c.args.kind c.in_default.in_default-own.rest routines TheVariants.Passthrough refl
