-- What the reading of a day promises of the bytes that were read, whatever they are: its sheet and its lines are those of all of
-- them. Assumes nothing.
use Rattle.reading.specs.Parts.{Tells}
use Rattle.streams.specs.declared.Stream.{Stream}
use Rattle.pairs.specs.Cut.{longest_record}
use Rattle.day.specs.sheets.Sheet.{sheet_in}
use Rattle.day.specs.sheet_lines.Lines.{sheet_lines}
use Rattle.day.specs.declared.Told.{Told}

abbrev pub Sheets : Stream → Stream → Told → Type 0
Sheets input out r = Tells (sheet_in longest_record) sheet_lines input out r.input r.out r.sheet
