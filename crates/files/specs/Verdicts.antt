-- The verdict of a program by its number. Assumes nothing.
use Rattle.std.specs.Prelude.{ℕ, cond, eqb}
use Rattle.files.specs.declared.Verdict.{Verdict}
use Rattle.files.specs.declared.Verdict.TheVariants.{Well, Differs, Trouble}

-- 0 where all is well, 1 where something differs, is left or could not be read, and any other number where there was trouble
abbrev pub verdict_of : ℕ → Verdict
verdict_of status = cond (eqb status 0) Well (cond (eqb status 1) Differs Trouble)
