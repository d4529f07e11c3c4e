-- What the answers' contracts promise: they leave no choice, and a line of any length is answered as what is kept of it. Assumes
-- nothing.
use mathlib.Core.Path.{◌≡◌}
use mathlib.Core.Bool.{true}
use mathlib.Core.List.{List, []}
use Prim.Native.Nat.{ℕ}
use Rattle.whole.proofs.Determined.{Determined}
use Rattle.text.specs.words.Words.{every}
use Rattle.text.specs.pieces.Kept.{is_text, cut_at}
use Rattle.text.proofs.pieces.Keeping.{kept-passed}
use Rattle.asking.proofs.answers.Parts.{kept-says}
use Rattle.asking.specs.answers.Answer.{answer_of}
use Rattle.asking.specs.answers.Contract.{Says, Takes}
use Rattle.asking.specs.declared.answers.Lengths.{Lengths}
use Rattle.asking.specs.declared.answers.lines.Lines.{Lines}
use Rattle.asking.specs.declared.answers.lines.Taken.{Taken}

-- of `answer`: how much was written, and both buffers
pub answer-determined : (answer complaint out err : List ℕ)
    → Determined (λ (r : Lengths × List ℕ × List ℕ). Says answer complaint out err r.1 r.2 r.0.answer r.0.complaint)
answer-determined answer complaint out err = record {
  value = (record { answer = _; complaint = _ }, _, _);
  only = λ r e t. (
    record { answer = e.answered.ends t; complaint = e.complained.ends t },
    e.answered.holds t,
    e.complained.holds t,
  );
}

-- of `take`: what it answers, and all three buffers
pub take-determined : (part : List ℕ) (at : ℕ) (l : Lines) (line out err : List ℕ)
    → Determined (λ (r : Taken × List ℕ × List ℕ × List ℕ). Takes part at l line out err r.1 r.2 r.3 r.0)
take-determined part at l line out err = record {
  value = (record { at = _; lines = record { kept = _; row = _ }; answer = _; complaint = _ }, _, _, _);
  only = λ r e t. (
    record {
      at = e.next t;
      lines = record { kept = e.kept t; row = e.row_is t };
      answer = e.says.answered.ends t;
      complaint = e.says.complained.ends t;
    },
    e.holds t,
    e.says.answered.holds t,
    e.says.complained.holds t,
  );
}

-- a line that is longer than its room is answered as the whole of it would be
pub whole-answered : (s : List ℕ) → every is_text s ≡ true → answer_of (cut_at 4097 [] s).kept ≡ answer_of s
unfolding answer_of
whole-answered s t = rw (kept-passed s t, kept-says s t)
