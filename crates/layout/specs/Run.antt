-- The calls as the code makes them: each takes the context and the lent output space to the next.
use Rattle.std.specs.Prelude.{List, [], ◌∷◌}
use Rattle.context.specs.Cells.{Text}
use Rattle.context.specs.Store.{Store, stored}
use Rattle.context.specs.declared.FormatConfig.{FormatConfig}
use Rattle.layout.specs.Arms.{Spacing}
use Rattle.layout.specs.Calls.{Call}
use Rattle.layout.specs.Layout.{do_spacing, step}

abbrev pub run_spacing : List Spacing → Store → Store
run_spacing [] w = w
run_spacing (x ∷ xs) w = run_spacing xs (stored (do_spacing x w.0.state) w)

abbrev pub run : FormatConfig → Text → List Call → Store → Store
run config source [] w = w
run config source (c ∷ cs) w = run config source cs (stored (step config source c w.0.state) w)
