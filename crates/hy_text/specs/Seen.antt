-- What a contract sees of the lines that a cursor gives.
use Rattle.hy_text.specs.declared.line.Line as given
use Rattle.hy_text.specs.Line.{Line}

-- a line that the cursor gives, as a line of the text
abbrev pub line_seen : given.Line → Line
line_seen line = record { words = line.words; ended = line.ended }
