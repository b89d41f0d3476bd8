use Rattle.std.proofs.Common.{take, map}
use Rattle.httparse.specs.Spans.{header_bytes}
use Rattle.hy_cwire.specs.Lengths.{values_named}
use Rattle.hy_cwire.specs.Named.{IsNamed}
use Rattle.hy_cwire.proofs.fields.values_of.Given as goal

abbrev pub invariant-loop-header : goal.invariant-loop-header
invariant-loop-header l = IsNamed (values_named l.name (map (header_bytes l.block) (take l.header-index l.headers))) l.found
