-- What a writer's methods do.
use Rattle.std.specs.Prelude.{ℕ, ◌≡◌, List}
use Rattle.desk_job.specs.declared.write.Writer.{Writer}
use Rattle.desk_job.specs.Written.{Written, written}

-- these bytes are written after the others, and the writer still holds the space that it was lent
pub record Puts (before : Writer) (bytes : List ℕ) (after : Writer) : Type 0 where
  pub same : after.out.ghost_name ≡ before.out.ghost_name
  pub wrote : ◌≡◌ {A = Written} (record { end = after.end; space = after.out.now }) (written before.end bytes before.out.now)
