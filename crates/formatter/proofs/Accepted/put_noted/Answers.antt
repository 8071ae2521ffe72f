-- `put_noted` meets its contract.
use mathlib.Core.Path.{◌∙◌, subst, sym}
use Rattle.formatter.proofs.Entries.{notes-over, placed, placed_all}
use Rattle.formatter.specs.Entry.{Placed}
use Rattle.formatter.proofs.Accepted.put_noted.Goals as goal

pub put_layout-requires : goal.put_layout-requires
put_layout-requires c = let p = c.requires in record { ready = p.ready; trims = p.trims }

pub copy_front-requires : goal.copy_front-requires
copy_front-requires c = c.if-map-notes.true

pub returns-then-map-notes : goal.returns-then-map-notes
returns-then-map-notes c = let a = c.args in let p = c.requires in (c.put_layout.ensures, subst (Placed a.self.text.now a.self.tape.now a.self.config) (sym c.copy_front.ensures) (placed p.map_fits.0 c.if-map-notes.true p.map_fits.1))

pub write_layout-requires : goal.write_layout-requires
write_layout-requires c = let p = c.requires in record { ready = p.ready; trims = (p.trims.0, p.trims.2, p.trims.3) }

pub returns : goal.returns
returns c = let p = c.requires in (c.write_layout.ensures.fills, placed_all p.map_fits.0 (c.write_layout.auto.map ∙ c.clear.auto.map) (notes-over c.clear.ensures c.write_layout.ensures.notes))
