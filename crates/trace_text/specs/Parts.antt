-- The bytes of an event that is not whole yet. Assumes nothing.
use Rattle.std.specs.Prelude.{ℕ, List, take}
use Rattle.trace_text.specs.declared.reader.Reader.{Reader}

abbrev pub part_of : Reader → List ℕ
part_of r = take r.filled r.part
