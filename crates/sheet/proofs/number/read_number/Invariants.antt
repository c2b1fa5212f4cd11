use Rattle.sheet.proofs.NumberLaws.{Reading}
use Rattle.sheet.proofs.number.read_number.Given as goal

abbrev pub invariant-loop-i : goal.invariant-loop-i
invariant-loop-i l = Reading l.sheet l.from.at l.value l.scale l.i
