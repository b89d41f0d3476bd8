-- What the metadata server holds of a connection.
use Rattle.std.specs.Prelude.{Option, Some, None}
use Rattle.hy_serve.specs.declared.meta_lines.MetaLine.{MetaLine}
use Rattle.hy_serve.specs.MetaRole.{Line, unopened, talking, over}

-- the connection: none where it was never opened, none inside where it counts no more
abbrev pub seen : Option (Option MetaLine) → Line
seen None = unopened
seen (Some None) = over
seen (Some (Some line)) = talking line.session line.reader
